-- What is told of a making is the reply of the table.
use Rattle.std.proofs.Common.{◌≡◌, ℕ, List, Result, Ok, Err, IfOk, ap, ◌∙◌}
use Rattle.ew_model.specs.Edits.EditRefusal.{OutOfRange, TooManyHeads, Full}
use Rattle.ew_model.specs.Limits.{LimitNumbers}
use Rattle.replica.specs.declared.fault.EditFault.{EditFault}
use Rattle.replica.specs.declared.fault.EditFault.TheVariants as fault
use Rattle.command_table.specs.Table.{make_reply, prints, stop_reply}
use Rattle.generator.specs.Answers.{Prints, TellsStop}
use Rattle.peer_definitions.specs.Making.{Made}
use Rattle.peer_definitions.specs.Making.Made.{Going, Stopped}
use Rattle.opened_files.specs.declared.reply.Reply as code
use Rattle.opened_files.specs.Views.{reply_view}
use Rattle.command_runs.specs.Making.{TellsStopped}

pub printed_reply : (limits : LimitNumbers) (m : Made) (bytes : List ℕ) → Prints m bytes → prints bytes ≡ make_reply limits m
printed_reply limits (Going m) bytes is = ap prints is
printed_reply limits (Stopped r) bytes is = absurd is

pub stopped_reply : {E : Type 0} (limits : LimitNumbers) (m : Made) (f : EditFault) (result : Result code.Reply E) → TellsStop m f → TellsStopped limits f result → IfOk result (λ p. reply_view p ≡ make_reply limits m)
stopped_reply limits m f (Err e) stop told = tt
stopped_reply limits m fault.OutOfMemory (Ok p) stop told = absurd told
stopped_reply limits (Going m) (fault.OutOfRange len) (Ok p) stop told = absurd stop
stopped_reply limits (Going m) (fault.TooManyHeads heads) (Ok p) stop told = absurd stop
stopped_reply limits (Going m) (fault.Full count) (Ok p) stop told = absurd stop
stopped_reply limits (Stopped r) (fault.OutOfRange len) (Ok p) stop told = let same : OutOfRange len ≡ r = cc in told ∙ ap (stop_reply limits) same
stopped_reply limits (Stopped r) (fault.TooManyHeads heads) (Ok p) stop told = let same : TooManyHeads heads ≡ r = cc in told ∙ ap (stop_reply limits) same
stopped_reply limits (Stopped r) (fault.Full count) (Ok p) stop told = let same : Full count ≡ r = cc in told ∙ ap (stop_reply limits) same
