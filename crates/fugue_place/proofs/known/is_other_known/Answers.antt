use Rattle.std.proofs.Common.{false, ap, ◌∙◌, subst}
use Rattle.fugue_place.specs.Spots.{ahead_of, behind}
use Rattle.fugue_place.proofs.CmpLaws.{spots_by}
use Rattle.fugue_place.proofs.KnownLaws.{IsLeft, begins, one_asked, next_early, next_right}
use Rattle.fugue_place.proofs.known.is_other_known.Goals as goal

pub loop-place-init : goal.loop-place-init
loop-place-init g c =
    begins c.args.children.now.items c.args.spots.now c.requires.indexed c.args.line.now.parent (λ v. goal.F-post g c.args.known v false) _ spots_by c.ahead.result c.behind.result
    (c.ahead.ensures ∙ ap ahead_of c.requires.line) (c.behind.ensures ∙ ap behind c.requires.line) c.range-place-items.result c.into_iter-place-iterator.result
    c.into_iter-place-iterator.ensures.into_iter_gives (c.range-place-items.ensures.in_range tt) (c.range-place-items.ensures.between tt)

pub get-requires : goal.get-requires
get-requires g c =
    next_early c.args.children.now.items c.args.spots.now c.requires.indexed c.args.line.now.parent (λ v. goal.F-post g c.args.known v false) (c.in-Some.field-0-0.now, c.in-Some.place.now) c.next.new.self
    (subst (IsLeft c.args.children.now.items c.args.line.now.parent (λ v. goal.F-post g c.args.known v false)) c.in-Some.ensures.steps c.loop-place.invariant)

-- `known` may be called on a right child
pub known-requires : goal.known-requires
known-requires g c =
    let next =
    next_right c.args.children.now.items c.args.spots.now c.requires.indexed c.args.line.now.parent (λ v. goal.F-post g c.args.known v false) (c.in-Some.field-0-0.now, c.in-Some.place.now) c.next.new.self
    (subst (IsLeft c.args.children.now.items c.args.line.now.parent (λ v. goal.F-post g c.args.known v false)) c.in-Some.ensures.steps c.loop-place.invariant)
    c.get.result c.get.ensures in
    c.requires.known c.get.result next.0 next.1

pub returns-then-known-clause-one : goal.returns-then-known-clause-one
returns-then-known-clause-one g c = λ _.
    let next =
    next_right c.args.children.now.items c.args.spots.now c.requires.indexed c.args.line.now.parent (λ v. goal.F-post g c.args.known v false) (c.in-Some.field-0-0.now, c.in-Some.place.now) c.next.new.self
    (subst (IsLeft c.args.children.now.items c.args.line.now.parent (λ v. goal.F-post g c.args.known v false)) c.in-Some.ensures.steps c.loop-place.invariant)
    c.get.result c.get.ensures in
    (c.get.result, next.0, next.1, c.if-known.ensures)

pub loop-place-preserved : goal.loop-place-preserved
loop-place-preserved g c =
    one_asked c.args.children.now.items c.args.spots.now c.requires.indexed c.args.line.now.parent (λ v. goal.F-post g c.args.known v false) (c.in-Some.field-0-0.now, c.in-Some.place.now) c.next.new.self c.get.result c.get.ensures
    c.if-known.ensures
    (subst (IsLeft c.args.children.now.items c.args.line.now.parent (λ v. goal.F-post g c.args.known v false)) c.in-Some.ensures.steps c.loop-place.invariant)
