use Rattle.std.proofs.Common.{◌≡◌, ◌+◌, ◌≤◌, None, length, sym, ap, ◌∙◌, subst, arith}
use Rattle.std.specs.List.{AllByRecursion}
use Rattle.character_runs.specs.Deleting.{deletion_op, AreDeletions}
use Rattle.character_runs.specs.States.{HasRoom}
use Rattle.advance_retreat.specs.Deleting.{DeletedEach}
use Rattle.advance_retreat.specs.Kept.{Kept, target_at, with_deletions}
use Rattle.advance_retreat.specs.Standing.{most}
use Rattle.advance_retreat.proofs.DeletingEach.{deleted_each, with_deletions_is}
use Rattle.advance_retreat.proofs.Found.{new_target}
use Rattle.advance_retreat.proofs.Keeping.{has_room}
use Rattle.advance_retreat.proofs.SameTrees.{same_kept}
use Rattle.advance_retreat.proofs.state.State.delete_run.Goals as goal

pub strike_run-requires-clause-few : goal.strike_run-requires-clause-few
strike_run-requires-clause-few c = let less = c.in-Some.ensures.most in omega (arith, less, c.requires.few)

pub strike_run-requires-clause-room : goal.strike_run-requires-clause-room
strike_run-requires-clause-room c =
    let q = c.requires.may in
    let same = same_kept c.self.inside.base c.self.inside.targets c.self.inside.lost c.self.inside.tree c.deletions_at.new.self c.args.self.now c.deletions_at.ensures.same c.self.view_is in
    subst (λ (s : Kept). AllByRecursion HasRoom s.records) (sym same) (has_room c.args.self.now q.0 q.1 q.2 q.3)

pub strike_run-requires-clause-new : goal.strike_run-requires-clause-new
strike_run-requires-clause-new c = λ k lt.
    let q = c.requires.may in
    let less = c.in-Some.ensures.most in
    subst (λ (s : Kept). target_at s.targets (c.args.lv + k) ≡ None) (sym c.self.view_is) (new_target c.args.self.now q.0 q.1 q.2 q.3 (c.args.lv + k) (q.4 k (omega (arith, lt, less))))

pub returns-then-done-clause-deleted : goal.returns-then-done-clause-deleted
returns-then-done-clause-deleted c =
    let now = c.args.self.now in
    let ds = c.in-Some.deletions in
    let are : AreDeletions now.records c.args.at ds = subst (λ (s : Kept). AreDeletions s.records c.args.at ds) c.self.view_is c.in-Some.ensures.some in
    let same = same_kept c.self.inside.base c.self.inside.targets c.self.inside.lost c.self.inside.tree c.deletions_at.new.self now c.deletions_at.ensures.same c.self.view_is in
    let room = subst (λ (s : Kept). length s.targets + ds.count ≤ most) same (c.has_room_for_events.ensures c.if-not-has_room_for_events.false) in
    subst (λ (s : Kept). DeletedEach now s c.args.lv c.args.at (deletion_op ds.index) ds.count)
    (sym (c.in_ok-done.ensures.yes c.if-done.true ∙ ap (λ (s : Kept). with_deletions s c.args.lv ds.first ds.count) same))
    (deleted_each now c.args.lv c.args.at ds are room ds.count (omega arith))

pub returns-then-done-clause-lost : goal.returns-then-done-clause-lost
returns-then-done-clause-lost c =
    let now = c.args.self.now in
    let ds = c.in-Some.deletions in
    let same = same_kept c.self.inside.base c.self.inside.targets c.self.inside.lost c.self.inside.tree c.deletions_at.new.self now c.deletions_at.ensures.same c.self.view_is in
    ap (λ (s : Kept). s.lost)
    (c.in_ok-done.ensures.yes c.if-done.true ∙ ap (λ (s : Kept). with_deletions s c.args.lv ds.first ds.count) same ∙ with_deletions_is now c.args.lv ds.first ds.count)
