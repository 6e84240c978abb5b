use Rattle.std.proofs.Common.{ℕ, List, [], ◌∷◌, ◌++◌, sym, subst}
use Rattle.ew_model.specs.Places.Act.{DeleteAt}
use Rattle.ew_model.specs.Tree.{Applied}
use Rattle.ew_model.specs.Records.{next_of}
use Rattle.advance_retreat.specs.Standing.{StandsFor}
use Rattle.advance_retreat.specs.Conditions.{MayDelete}
use Rattle.walk_trials.proofs.LineCalls.{Deletes, deletes, deleted}
use Rattle.walk_trials.proofs.line_calls.delete.Goals as goal

pub apply_del-requires : goal.apply_del-requires
apply_del-requires g c = subst (λ (n : ℕ). Deletes c.args.state.now n) (sym c.next_position.ensures) (deletes c.args.state.now c.args.calls.now c.requires)

pub returns-in_ok-apply-in-Ok : goal.returns-in_ok-apply-in-Ok
returns-in_ok-apply-in-Ok g c =
    let s = c.args.state.now in
    let t = c.apply_del.new.self in
    let after =
    subst
    (λ (n : ℕ). (b : ℕ) (events : List (Applied ℕ)) (prepared : List ℕ) → StandsFor s b events prepared → MayDelete events n → StandsFor t b (events ++ next_of n (DeleteAt c.args.at) prepared ∷ []) (n ∷ prepared))
    c.next_position.ensures c.in-Ok.ensures.ok in
    deleted s c.args.calls.now c.requires t c.apply.new.self c.args.at c.in_ok-apply-in-Ok.ensures after
