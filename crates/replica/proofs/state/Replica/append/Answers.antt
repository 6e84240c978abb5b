use Rattle.std.proofs.Common.{◌++◌, length, refl, sym, ap, subst, arith}
use Rattle.ew_model.specs.Kept.{ReplicaState}
use Rattle.ew_model.specs.Operations.{changed_by_all}
use Rattle.waiting_pool.specs.Waiting.{events_of}
use Rattle.replica.specs.Appending.{CanAppend, chain_from}
use Rattle.replica.specs.Later.{later_ops}
use Rattle.replica.specs.Lengths.{lengths_through}
use Rattle.replica.proofs.Appends.{appended}
use Rattle.replica.proofs.Beginnings.{none_told, same_kept, same_recent, same_told}
use Rattle.replica.specs.LazyTexts.{ToldText}
use Rattle.replica.proofs.KeptWalks.{same_walks, still_kept}
use Rattle.replica.proofs.Chains.{chain_room}
use Rattle.replica.proofs.state.Replica.append.Goals as goal

-- nothing was changed
pub invariant_of-self : goal.invariant_of-self
invariant_of-self c =
    let inside = c.self.inside in
    let told = c.in_err-extend.ensures in (
      same_kept inside.limits inside.graph _ inside.pool _ inside.text.characters _ inside.lengths _ told.same_graph refl (ap (λ (t : ToldText). t.characters) told.same_text) told.same_lengths c.self.invariant.0,
      same_told inside.graph _ inside.text _ told.same_graph told.same_text c.self.invariant.1,
      same_recent inside.graph _ inside.recent told.same_graph c.self.invariant.2,
      same_walks inside.graph _ inside.walks told.same_graph c.self.invariant.3,
    )

-- all of it was done
pub invariant_of-self-2 : goal.invariant_of-self-2
invariant_of-self-2 c =
    let inside = c.self.inside in
    let made = chain_from c.args.first.now (later_ops c.args.rest) in
    let changes = c.args.changes.now in
    let told = c.in_ok-extend.ensures in
    let can : CanAppend inside.limits inside.graph (events_of inside.pool) made changes = subst (λ (s : ReplicaState). CanAppend s.limits s.held s.waiting made changes) (sym c.self.view_is) c.requires.can in (
      same_kept inside.limits (inside.graph ++ made) _ inside.pool _ (changed_by_all changes inside.text.characters) _ (inside.lengths ++ lengths_through inside.text.characters changes) _ told.graph refl told.text told.lengths
          (appended inside.limits inside.graph inside.pool made changes inside.text.characters inside.lengths c.self.invariant.0 can),
      none_told _ _ told.told,
      tt,
      still_kept inside.graph _ (made, told.graph) inside.walks c.self.invariant.3,
    )

-- there is room for all
pub extend-requires-clause-room : goal.extend-requires-clause-room
extend-requires-clause-room c =
    let held = ap (λ (s : ReplicaState). length s.held) c.self.view_is in
    let most = ap (λ (s : ReplicaState). s.limits.events) c.self.view_is in
    let room = chain_room c.args.self.now.held c.args.first.now (later_ops c.args.rest) c.args.self.now.limits.events c.requires.can.kept.few in
    omega (arith, held, most, room, c.events-most.ensures.range.few_events)

pub count-requires : goal.count-requires
count-requires c =
    let most = ap (λ (s : ReplicaState). s.limits.events) c.self.view_is in
    let room = chain_room c.args.self.now.held c.args.first.now (later_ops c.args.rest) c.args.self.now.limits.events c.requires.can.kept.few in
    omega (arith, most, room, c.events-most.ensures.range.few_events)

pub overflow_add-result : goal.overflow_add-result
overflow_add-result c =
    let most = ap (λ (s : ReplicaState). s.limits.events) c.self.view_is in
    let room = chain_room c.args.self.now.held c.args.first.now (later_ops c.args.rest) c.args.self.now.limits.events c.requires.can.kept.few in
    omega (arith, most, room, c.events-most.ensures.range.few_events, c.count.ensures)
