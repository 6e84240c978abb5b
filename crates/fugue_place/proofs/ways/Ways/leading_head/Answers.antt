use Rattle.std.proofs.Common.{ℕ, Option, Some, sym, subst}
use Rattle.std.proofs.lemmas.List.{get_or_read}
use Rattle.fugue_place.specs.Ways.{link_at, IsFirstLink, IsFirstInNone}
use Rattle.fugue_place.proofs.ReadyWays.{in_linked}
use Rattle.fugue_place.proofs.ways.Ways.leading_head.Goals as goal

pub returns-in-Some-clause-none : goal.returns-in-Some-clause-none
returns-in-Some-clause-none c =
    let w = c.args.self.now in
    let at = c.in_ok-at.at in
    let run = c.in_ok-run.run' in
    let here = c.in_ok-run.ensures.some in
    let head = get_or_read w.heads.items run c.index.result.now here.known c.index.ensures 0 in
    subst (λ (o : Option ℕ). IsFirstInNone w o) (sym c.in_ok-at.was)
    (in_linked w c.requires.sound at run c.in-Some.field-0 here (subst (λ (x : ℕ). IsFirstLink (link_at w) x at (Some c.in-Some.field-0)) head c.in-Some.ensures))
