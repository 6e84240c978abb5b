-- From how a file was opened, to what a session with it promises.
use Rattle.std.proofs.Common.{◌≡◌, ℕ, List, [], Option, IfOk, Result, Ok, Err, refl, sym, ap, subst, inl, arith}
use Rattle.std.proofs.KnownBytes.{Appends-nil}
use Rattle.ew_model.specs.Kept.{ReplicaState}
use Rattle.ew_model.specs.Limits.{LimitNumbers}
use Rattle.peer_definitions.specs.Cutting.Front.{Partial}
use Rattle.command_table.specs.Framings.{Framing, IsFramingOf}
use Rattle.command_table.specs.Loads.{missing}
use Rattle.command_table.specs.Possible.{MayOpen}
use Rattle.command_table.specs.Refusals.{Refusal}
use Rattle.command_table.specs.Sessions.{opened_state, served_as}
use Rattle.command_table.specs.Table.{Text, refuses, refused, opened_as}
use Rattle.opened_files.specs.declared.open.Found.{Found}
use Rattle.opened_files.specs.declared.open.Found.TheVariants as found
use Rattle.opened_files.specs.declared.reply.Reply as code
use Rattle.ew_outside.specs.declared.fault.Fault.{Fault}
use Rattle.opened_files.specs.Views.{IsFresh, reply_view}
use Rattle.serve_plans.specs.Plans.{MayPlan}
use Rattle.serve_plans.proofs.Answers.{grows_none}
use Rattle.serve_plans.proofs.Closings.{take_none}
use Rattle.serve_plans.proofs.Served.{fresh_state}
use Rattle.peer_frames.proofs.Cuts.{finds_nothing}

-- the framing of an input without a byte
abbrev no_framing : Framing
no_framing = record { frames = []; rest = []; stop = Partial }

nothing_framed : (limits : LimitNumbers) → IsFramingOf limits [] no_framing
nothing_framed limits = record { begins = sym (take_none limits.input [] refl); found = finds_nothing limits; none = refl }

-- the load failed
pub stopped_plans : (name : Text) (limits : LimitNumbers) (out : Option (List ℕ)) (flushed : Option ℕ) (halt : Fault) → MayPlan name limits out out flushed (Err halt)
stopped_plans name limits out flushed halt =
    (served_as name limits [] no_framing (opened_as name limits missing), (missing, [], no_framing, λ i. omega arith, nothing_framed limits, refl, tt), grows_none out _)

-- the file is refused
pub refused_plans : (name : Text) (limits : LimitNumbers) (out : Option (List ℕ)) (flushed : Option ℕ) (p : code.Reply) (why : Refusal)
    → reply_view p ≡ refuses why
    → MayOpen name limits (refused why) → MayPlan name limits out out flushed (Ok p)
refused_plans name limits out flushed p why told file = (
  served_as name limits [] no_framing (refused why),
  (file.0, [], no_framing, λ i. omega arith, nothing_framed limits, ap (served_as name limits [] no_framing) file.1, file.2),
  (told, (Appends-nil out, inl refl)),
)

-- the replica of a file that is open
pub fresh_found : (limits : LimitNumbers) (result : Result (Found ReplicaState) Fault) (f : Found ReplicaState) (r : ReplicaState) → result ≡ Ok f → f ≡ found.Open r
    → IfOk result (λ x. IsFresh limits x) → r ≡ opened_state limits r.held
fresh_found limits result f r is held fresh =
    let h = subst (λ x. IfOk x (λ y. IsFresh limits y)) is fresh in
    let k = subst (IsFresh limits) held h in
    fresh_state limits r k.0 k.1
