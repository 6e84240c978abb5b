-- A run of a line that has no use for the journal.
use Rattle.std.proofs.Common.{◌≡◌, ℕ, false, Option, None, Some, Result, sym, ap, subst, ◌∙◌}
use Rattle.std.proofs.lemmas.Bool.{false≢true}
use Rattle.ew_model.specs.Limits.{LimitNumbers}
use Rattle.ew_outside.specs.Seen.{SinkSeen}
use Rattle.ew_outside.specs.declared.fault.Fault.{Fault}
use Rattle.event_journal.specs.Disk.{TellsAlike}
use Rattle.command_table.specs.Kept.{Journals}
use Rattle.command_table.specs.Lines.{UnlessServes}
use Rattle.command_table.specs.Reads.{uses_journal}
use Rattle.command_table.specs.Seen.{Seen}
use Rattle.command_table.specs.Table.{Line, does, serves, watches, exports}
use Rattle.opened_files.specs.declared.reply.Reply as own
use Rattle.command_runs.specs.Lines.{SendsNone}
use Rattle.journal_plans.proofs.Batches.{tells_itself}

-- what it sends, a session alone does
pub alone_so : (l : Option Line) (out out' : SinkSeen) (planned : Result own.Reply Fault) → uses_journal l ≡ false → SendsNone l out out' planned → UnlessServes l (out'.taken ≡ out.taken)
alone_so None out out' planned plain h = h.0
alone_so (Some (does command)) out out' planned plain h = h.0
alone_so (Some (serves file)) out out' planned plain h = tt
alone_so (Some (watches agent)) out out' planned plain h = absurd (false≢true (sym plain))
alone_so (Some (exports file)) out out' planned plain h = absurd (false≢true (sym plain))

-- it leaves the disk alone
pub plain_journals : (l : Option Line) (limits : LimitNumbers) (old new : Seen) (code : ℕ) → uses_journal l ≡ false → new.disk ≡ old.disk → Journals l limits old new code
plain_journals l limits old new code plain disk = record {
  alone = λ unused. disk;
  there = λ three. disk;
  tells = subst (TellsAlike old.disk.bytes) (sym (ap (λ d. d.bytes) disk)) (tells_itself old.disk.bytes);
  known = λ journal input meaning uses told means. absurd (false≢true (sym plain ∙ uses));
  untouched = λ journal uses told. absurd (false≢true (sym plain ∙ uses));
  refused = λ uses four. absurd (false≢true (sym plain ∙ uses));
}
