use Rattle.std.proofs.Common.{◌≡◌, ◌+◌, ◌-◌, ℕ, List, ◌∷◌, [], IfOk, ap, ◌∙◌, subst, arith}
use Rattle.ew_model.specs.Positions.{known_alone, parents_at, parent_positions}
use Rattle.ancestors.specs.Spans.{positions_of}
use Rattle.transform.proofs.Sides.{out_is, into_is}
use Rattle.transform.proofs.turn.differences.Goals as goal

pub returns-clause-out : goal.returns-clause-out
returns-clause-out c = λ e at.
    let now = c.args.graph.now in
    let position = c.args.position in
    let next : position - 1 + 1 ≡ position = omega (arith, c.requires.some) in
    let parents : c.as_slice.result.now ≡ parents_at (parent_positions now) position = c.as_slice.ensures ∙ c.parents_of-parents.ensures.value in
    subst (λ (ps : List ℕ). IfOk c.diff.result (λ sides. positions_of sides.0 ≡ ps))
    (ap (λ (ps : List ℕ). known_alone (parent_positions now) ((position - 1) ∷ []) ps) parents ∙ out_is now position (position - 1) e c.count-count.ensures.admitted next c.requires.within at)
    c.diff.ensures.left

pub returns-clause-into : goal.returns-clause-into
returns-clause-into c = λ e at.
    let now = c.args.graph.now in
    let position = c.args.position in
    let next : position - 1 + 1 ≡ position = omega (arith, c.requires.some) in
    let parents : c.as_slice.result.now ≡ parents_at (parent_positions now) position = c.as_slice.ensures ∙ c.parents_of-parents.ensures.value in
    subst (λ (ps : List ℕ). IfOk c.diff.result (λ sides. positions_of sides.1 ≡ ps))
    (ap (λ (ps : List ℕ). known_alone (parent_positions now) ps ((position - 1) ∷ [])) parents ∙ into_is now position (position - 1) e c.count-count.ensures.admitted next c.requires.within at)
    c.diff.ensures.right
