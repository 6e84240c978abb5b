use Rattle.std.proofs.Common.{ℕ, List, [], ◌∷◌, ◌++◌, sym, subst}
use Rattle.ew_model.specs.Places.Act.{InsertAs}
use Rattle.ew_model.specs.Tree.{Applied}
use Rattle.ew_model.specs.Records.{next_of}
use Rattle.advance_retreat.specs.Standing.{StandsFor}
use Rattle.advance_retreat.specs.Conditions.{MayInsert}
use Rattle.walk_trials.proofs.LineCalls.{Inserts, inserts, inserted, in_use, refused}
use Rattle.walk_trials.proofs.line_calls.insert.Goals as goal

pub apply_ins-requires : goal.apply_ins-requires
apply_ins-requires g c =
    let uses = c.in_ok-use_id.ensures c.if-not-branch.false in
    subst (λ (n : ℕ). Inserts c.args.state.now n c.args.id) (sym c.next_position.ensures) (inserts c.args.state.now c.args.calls.now c.requires c.use_id.new.self c.args.id uses)

pub returns-in_ok-apply-in-Ok : goal.returns-in_ok-apply-in-Ok
returns-in_ok-apply-in-Ok g c =
    let s = c.args.state.now in
    let t = c.apply_ins.new.self in
    let id = c.args.id in
    let uses = c.in_ok-use_id.ensures c.if-not-branch.false in
    let after =
    subst
    (λ (n : ℕ). (b : ℕ) (events : List (Applied ℕ)) (prepared : List ℕ) → StandsFor s b events prepared → MayInsert events n id
    → StandsFor t b (events ++ next_of n (InsertAs id c.args.at c.args.ch) prepared ∷ []) (n ∷ prepared))
    c.next_position.ensures c.in-Ok.ensures.ok in
    inserted s c.args.calls.now c.requires c.use_id.new.self id uses t c.apply.new.self c.args.at c.args.ch c.in_ok-apply-in-Ok.ensures after

pub returns-in-Err-OutOfRange : goal.returns-in-Err-OutOfRange
returns-in-Err-OutOfRange g c =
    let s = c.args.state.now in
    let u = c.use_id.new.self in
    let uses = c.in_ok-use_id.ensures c.if-not-branch.false in
    refused s c.apply_ins.new.self u c.apply_ins.new.self.lost (in_use s c.args.calls.now c.requires u c.args.id uses) c.in-Err-OutOfRange.ensures.err
