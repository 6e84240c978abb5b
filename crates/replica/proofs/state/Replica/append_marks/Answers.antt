use Rattle.std.proofs.Common.{◌++◌, length, replicate, refl, sym, subst}
use Rattle.ew_model.specs.Kept.{ReplicaState}
use Rattle.waiting_pool.specs.Waiting.{events_of}
use Rattle.replica.specs.Marking.{CanMark}
use Rattle.replica.proofs.Beginnings.{none_told, same_kept, same_recent, same_told}
use Rattle.replica.proofs.KeptWalks.{same_walks, still_kept}
use Rattle.replica.proofs.MarkLaws.{marked}
use Rattle.replica.proofs.state.Replica.append_marks.Goals as goal

-- nothing was changed
pub invariant_of-self : goal.invariant_of-self
invariant_of-self c =
    let inside = c.self.inside in
    let told = c.in_err-extend_marks.ensures in (
      same_kept inside.limits inside.graph _ inside.pool _ inside.text.characters _ inside.lengths _ told.same_graph refl refl told.same_lengths c.self.invariant.0,
      same_told inside.graph _ inside.text _ told.same_graph refl c.self.invariant.1,
      same_recent inside.graph _ inside.recent told.same_graph c.self.invariant.2,
      same_walks inside.graph _ inside.walks told.same_graph c.self.invariant.3,
    )

-- all of it was done
pub invariant_of-self-2 : goal.invariant_of-self-2
invariant_of-self-2 c =
    let inside = c.self.inside in
    let made = c.args.made.now in
    let len = c.len-len.result in
    let told = c.in_ok-extend_marks.ensures in
    let can : CanMark inside.limits inside.graph (events_of inside.pool) made = subst (λ (s : ReplicaState). CanMark s.limits s.held s.waiting made) (sym c.self.view_is) c.requires in (
      same_kept inside.limits (inside.graph ++ made) _ inside.pool _ inside.text.characters _ (inside.lengths ++ replicate (length made) len) _ told.graph refl c.grow.ensures.characters told.lengths
          (marked inside.limits inside.graph inside.pool made inside.text.characters inside.lengths len c.self.invariant.0 can c.len-len.ensures),
      none_told _ _ c.grow.ensures.told,
      tt,
      still_kept inside.graph _ (made, told.graph) inside.walks c.self.invariant.3,
    )
