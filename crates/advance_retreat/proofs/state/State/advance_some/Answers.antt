use Rattle.std.proofs.Common.{sym, subst}
use Rattle.advance_retreat.specs.Conditions.{MayAdvanceEach}
use Rattle.advance_retreat.specs.Kept.{Kept}
use Rattle.advance_retreat.specs.Standing.{StandsFor}
use Rattle.advance_retreat.proofs.SpanMoves.{advance_one}
use Rattle.advance_retreat.proofs.state.State.advance_some.Goals as goal
use Rattle.ew_model.proofs.Ranges.{range_first}

pub advance-requires : goal.advance-requires
advance-requires g c =
    let q = c.requires.may in
    (q.0, q.1, q.2, subst (λ (s : Kept). StandsFor s q.0 q.1 q.2) (sym c.in-None.ensures.none) q.3, (subst (MayAdvanceEach q.1 q.2) (range_first c.args.at.from c.args.at.to c.requires.some) q.4).0)

pub returns-in_ok-advance-in-None-clause-ok : goal.returns-in_ok-advance-in-None-clause-ok
returns-in_ok-advance-in-None-clause-ok g c = λ b events prepared st may.
    let first = (subst (MayAdvanceEach events prepared) (range_first c.args.at.from c.args.at.to c.requires.some) may).0 in
    let later = c.in_ok-advance-in-None.ensures.ok b events prepared (subst (λ (s : Kept). StandsFor s b events prepared) (sym c.in-None.ensures.none) st) first in
    advance_one b events c.advance.new.self prepared c.args.at.from c.args.at.to c.requires.some may later
