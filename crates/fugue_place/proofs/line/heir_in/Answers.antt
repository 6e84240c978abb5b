use Rattle.std.proofs.Common.{ℕ, ◌<◌, length, Option, sym, ◌∙◌, subst, arith}
use Rattle.std.specs.Option.{IfNone}
use Rattle.fugue_place.specs.Heirs.{HasNoHeir}
use Rattle.fugue_place.proofs.HeirLaws.{left_no_heir, no_parent_no_heir, parent_early, last_no_heir, next_heir, next_no_heir}
use Rattle.fugue_place.proofs.line.heir_in.Goals as goal

pub returns-then-not-is_side-clause-none : goal.returns-then-not-is_side-clause-none
returns-then-not-is_side-clause-none c = left_no_heir c.args.children.now.items c.requires.attached c.args.line.now (sym c.if-not-is_side.ensures)

pub returns-in_err-place-clause-none : goal.returns-in_err-place-clause-none
returns-in_err-place-clause-none c =
    subst (λ (o : Option ℕ). IfNone o (HasNoHeir c.args.line.now c.args.children.now.items)) (sym c.from_residual.ensures) (no_parent_no_heir c.args.children.now.items c.requires.attached c.args.line.now c.in_err-place.ensures.none)

pub overflow_add-place : goal.overflow_add-place
overflow_add-place c =
    let lt : c.in_ok-place.field-0 < length c.args.children.now.items = parent_early c.args.children.now.items c.requires.attached c.args.line.now c.in_ok-place.field-0 c.in_ok-place.ensures.some in
    omega arith

pub returns-then-place-count-clause-none : goal.returns-then-place-count-clause-none
returns-then-place-count-clause-none c = last_no_heir c.args.children.now.items c.requires.attached c.args.line.now c.in_ok-place.field-0 c.in_ok-place.ensures.some (c.if-place-count.true ∙ c.len-count.ensures.count)

pub get-child-requires : goal.get-child-requires
get-child-requires c =
    let lt : c.in_ok-place.field-0 < length c.args.children.now.items = parent_early c.args.children.now.items c.requires.attached c.args.line.now c.in_ok-place.field-0 c.in_ok-place.ensures.some in
    omega arith

pub returns-then-has-clause-some : goal.returns-then-has-clause-some
returns-then-has-clause-some c =
    next_heir c.args.children.now.items c.requires.attached c.args.line.now c.in_ok-place.field-0 c.in_ok-place.ensures.some c.get-child.result c.get-child.ensures (sym c.if-not-is_side.ensures) (sym c.if-has.ensures)

pub returns-else-has-clause-none : goal.returns-else-has-clause-none
returns-else-has-clause-none c =
    next_no_heir c.args.children.now.items c.requires.attached c.args.line.now c.in_ok-place.field-0 c.in_ok-place.ensures.some c.get-child.result c.get-child.ensures (sym c.if-has.ensures)
