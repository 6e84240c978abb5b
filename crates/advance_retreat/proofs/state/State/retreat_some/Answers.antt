use Rattle.std.proofs.Common.{◌-◌, sym, subst, arith}
use Rattle.advance_retreat.specs.Conditions.{MayRetreatEach}
use Rattle.advance_retreat.specs.Kept.{Kept}
use Rattle.advance_retreat.specs.Standing.{StandsFor}
use Rattle.advance_retreat.proofs.SpanMoves.{falling_first, retreat_one}
use Rattle.advance_retreat.proofs.state.State.retreat_some.Goals as goal

pub retreat-requires : goal.retreat-requires
retreat-requires g c =
    let q = c.requires.may in
    (q.0, q.1, q.2, subst (λ (s : Kept). StandsFor s q.0 q.1 q.2) (sym c.in-None.ensures.none) q.3, (subst (MayRetreatEach q.1 q.2) (falling_first c.args.at.from (c.args.at.to - 1) c.args.at.to (omega (arith, c.requires.some)) (omega (arith, c.requires.some))) q.4).0)

pub returns-in_ok-retreat-in-None-clause-ok : goal.returns-in_ok-retreat-in-None-clause-ok
returns-in_ok-retreat-in-None-clause-ok g c = λ b events prepared st may.
    let first = (subst (MayRetreatEach events prepared) (falling_first c.args.at.from (c.args.at.to - 1) c.args.at.to (omega (arith, c.requires.some)) (omega (arith, c.requires.some))) may).0 in
    let later = c.in_ok-retreat-in-None.ensures.ok b events prepared (subst (λ (s : Kept). StandsFor s b events prepared) (sym c.in-None.ensures.none) st) first in
    retreat_one b events c.retreat.new.self prepared c.args.at.from (c.args.at.to - 1) c.args.at.to (omega (arith, c.requires.some)) (omega (arith, c.requires.some)) may later
