use Rattle.std.proofs.Common.{IfOk, sym, subst}
use Rattle.history_definitions.specs.Versions.{IsVersion}
use Rattle.egw_c.specs.Documents.{Shown}
use Rattle.egw_c.specs.Reading.{WritesBlame}
use Rattle.egw_c.proofs.Refusals.{blamed_at}
use Rattle.egw_c.proofs.kept.KeptDocument.blamed.Goals as goal

pub returns-clause-blame : goal.returns-clause-blame
returns-clause-blame c =
    subst (λ (d : Shown). IfOk c.blame_at.result (λ bytes. WritesBlame d.replica.held c.args.version.now c.args.columns bytes.items)) c.self.view_is
    (blamed_at c.self.inside.document.held c.args.version.now c.deref.result.now c.args.columns c.blame_at.result
    (subst (IsVersion c.args.version.now) (sym c.deref.ensures.value) c.in_ok-ids.ensures.ids) c.blame_at.ensures.held c.blame_at.ensures.blame)
