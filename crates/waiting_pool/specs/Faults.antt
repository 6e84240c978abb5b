-- What is handed back.
use Rattle.ew_model.specs.declared.event.Event.{Event}
use Rattle.waiting_pool.specs.declared.fault.PutFault.{PutFault}
use Rattle.waiting_pool.specs.declared.fault.PutFault.TheVariants.{Waits, Full, OutOfMemory}

-- the event that may not wait
abbrev pub event_in : PutFault → Event
event_in (Waits e) = e
event_in (Full e) = e
event_in (OutOfMemory e) = e
