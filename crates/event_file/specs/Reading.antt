-- What a reader of this crate gives, in the model's words.
use Rattle.std.specs.Prelude.{◌≡◌, ℕ, ◌-◌, Result, Ok, Err}
use Rattle.file_words.specs.FileFaults as model
use Rattle.event_file.specs.declared.fault.Stop.{Stop}
use Rattle.event_file.specs.declared.fault.Stop.TheVariants.{Field, OverLimit, OutOfMemory}
use Rattle.event_file.specs.declared.fault.FileFault.{FileFault}
use Rattle.event_file.specs.declared.fault.FileFault.TheVariants as faults
use Rattle.event_file.specs.declared.fault.FileFault.TheVariants.{BadRecord, TooMany}
use Rattle.event_file.specs.Faults.{kind_of}

-- reading stops as the definition does; want of memory may come anywhere
abbrev pub Stops : {Y : Type 0} → Stop → Result Y model.Stop → Type 0
Stops (Field left kind) read = read ≡ Err (model.BadField left (kind_of kind))
Stops (OverLimit count) read = read ≡ Err (model.OverLimit count)
Stops OutOfMemory read = Unit {0}

-- what a reader gives, as it is seen, is what the definition reads
abbrev pub Gives : {X Y : Type 0} → (X → Y) → Result X Stop → Result Y model.Stop → Type 0
Gives view (Ok x) read = read ≡ Ok (view x)
Gives view (Err stop) read = Stops stop read

-- the fault of a content of that many bytes
abbrev pub IsStop : Stop → ℕ → FileFault → Type 0
IsStop (Field left kind) len fault = fault ≡ BadRecord (len - left) kind
IsStop (OverLimit count) len fault = fault ≡ TooMany count
IsStop OutOfMemory len fault = fault ≡ faults.OutOfMemory
