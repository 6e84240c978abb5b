use Rattle.std.proofs.Common.{List, ℕ, drop, arith, sym, ap, ◌∙◌, subst}
use Rattle.ew_model.specs.Operations.{changed_by_all}
use Rattle.ew_model.specs.TextLaws.{AllFit}
use Rattle.rope.specs.Lengths.{AllStayShort}
use Rattle.rope.specs.Whole.{chars_of_root}
use Rattle.rope.proofs.TypedRuns.{fit_later, short_later, change_parts, room_parts}
use Rattle.rope.proofs.root.change_all.Goals as goal

pub loop-rest-preserved : goal.loop-rest-preserved
loop-rest-preserved c =
    let n = c.in_ok-many.many in
    let rest = c.loop-rest.rest.now in
    let text = chars_of_root c.loop-rest.root in
    let done = c.in_ok-many.ensures.ok in
    let room = room_parts n rest in
    let before = c.loop-rest.invariant in
    rw c.split_at.ensures.back (
      subst (λ (t : List ℕ). AllFit t (drop n rest)) (sym done) (fit_later n rest text before.0),
      subst (λ (t : List ℕ). AllStayShort t (drop n rest)) (sym done) (short_later n rest text before.1),
      c.change_first.ensures.root,
      ap (changed_by_all (drop n rest)) done ∙ change_parts n rest text ∙ before.3,
      λ h. omega (arith, before.4 h, c.in_ok-many.ensures.leaves, room),
      λ h. omega (arith, before.5 h, c.in_ok-many.ensures.nodes, room),
    )
