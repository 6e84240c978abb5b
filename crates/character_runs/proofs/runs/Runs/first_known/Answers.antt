use Rattle.std.proofs.Common.{Some, ap, ◌∙◌, sym}
use Rattle.walker_record.specs.Stretches.{Stretch}
use Rattle.character_runs.proofs.KnownRuns.{none_known, next_held, next_known_is, held_label}
use Rattle.character_runs.proofs.runs.Runs.first_known.Goals as goal

pub returns-in_err-next : goal.returns-in_err-next
returns-in_err-next g c = c.from_residual.ensures ∙ sym (none_known c.args.self.now.tree.pairs c.args.label (sym c.in_err-next.ensures.next))

pub locate-requires : goal.locate-requires
locate-requires g c =
    let ps = c.args.self.now.tree.pairs in
    let found = next_held ps c.args.label c.in_ok-next.next (sym c.in_ok-next.ensures.next) in
    held_label ps c.in_ok-next.next found.0 found.1

pub returns : goal.returns
returns g c =
    ap (λ (r : Stretch). Some r.from) c.behind-self.view_is
    ∙ next_known_is c.args.self.now.tree.pairs c.args.label c.in_ok-next.next c.locate.result.now c.facts.ensures.rising (sym c.in_ok-next.ensures.next) c.locate.ensures.run
