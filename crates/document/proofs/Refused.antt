-- Why operations are refused.
use Rattle.std.proofs.Common.{◌≡◌, ℕ, List, false, Err}
use Rattle.ew_model.specs.declared.event.Op.{Op}
use Rattle.ew_model.specs.Kept.{ReplicaState, is_awaited}
use Rattle.replica.specs.declared.fault.EditFault.{EditFault}
use Rattle.replica.specs.declared.fault.EditFault.TheVariants as edit
use Rattle.replica.specs.Operations.{DoesAll, ops_refusal}
use Rattle.document.specs.Documents.{Refuses}
use Rattle.document.specs.declared.fault.EditingFault.TheVariants as editing

-- the first reason against operations is told as it is
pub ops_refused : (agent : List ℕ) (ops : List Op) (old new : ReplicaState) (fault : EditFault) → is_awaited old.held old.waiting agent ≡ false → DoesAll agent ops old new (Err fault)
    → Refuses agent (ops_refusal old.limits old.held ops) old (editing.Edit fault)
ops_refused agent ops old new (edit.OutOfRange len) may does = (may, does.0)
ops_refused agent ops old new (edit.TooManyHeads heads) may does = (may, does.0)
ops_refused agent ops old new (edit.Full count) may does = (may, does.0)
ops_refused agent ops old new edit.OutOfMemory may does = (may, tt)
