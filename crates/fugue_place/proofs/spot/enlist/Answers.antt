use Rattle.std.proofs.Common.{◌≡◌, ℕ, length, Some, None, cond, subst, ap, ◌∙◌}
use Rattle.std.specs.BTreeMap.{get, is_at}
use Rattle.std.specs.declared.cmp.Ordering.{Ordering}
use Rattle.fugue_place.specs.declared.spot.Spot.{Spot}
use Rattle.fugue_place.specs.Spots.{spot_cmp, spot_of}
use Rattle.fugue_place.proofs.CmpLaws.{spots_by}
use Rattle.fugue_place.proofs.IndexLaws.{new_spot, spots_more, index_same, taken_back}
use Rattle.fugue_place.proofs.spot.enlist.Goals as goal

pub returns-in-Ok-clause-spots : goal.returns-in-Ok-clause-spots
returns-in-Ok-clause-spots c =
    spots_more c.args.children.now.items c.args.child.now (get spot_cmp c.args.spots.now) c.requires.spots (get spot_cmp c.insert.new.self)
    (new_spot c.args.children.now.items c.args.child.now (get spot_cmp c.args.spots.now) c.requires.spots c.requires.unused)
    (λ q. subst (λ (cmp : Spot → Spot → Ordering). get cmp c.insert.new.self q ≡ cond (is_at (cmp (spot_of c.args.child.now)) q) (Some c.len.result) (get cmp c.args.spots.now q)) spots_by
    (c.in_ok-insert.ensures.updates.0 q)
    ∙ ap (λ (n : ℕ). cond (is_at (spot_cmp (spot_of c.args.child.now)) q) (Some n) (get spot_cmp c.args.spots.now q)) c.len.ensures.count)

-- the spot that was kept is free again
pub returns-in-Err-clause-same_spots : goal.returns-in-Err-clause-same_spots
returns-in-Err-clause-same_spots c =
    index_same c.args.children.now.items (get spot_cmp c.args.spots.now) (get spot_cmp c.remove.new.self) c.requires.spots (λ q.
    taken_back (spot_of c.args.child.now) (length c.args.children.now.items) (get spot_cmp c.args.spots.now) (get spot_cmp c.insert.new.self) (get spot_cmp c.remove.new.self)
    (new_spot c.args.children.now.items c.args.child.now (get spot_cmp c.args.spots.now) c.requires.spots c.requires.unused)
    (λ p. subst (λ (cmp : Spot → Spot → Ordering). get cmp c.insert.new.self p ≡ cond (is_at (cmp (spot_of c.args.child.now)) p) (Some c.len.result) (get cmp c.args.spots.now p)) spots_by
    (c.in_ok-insert.ensures.updates.0 p)
    ∙ ap (λ (n : ℕ). cond (is_at (spot_cmp (spot_of c.args.child.now)) p) (Some n) (get spot_cmp c.args.spots.now p)) c.len.ensures.count)
    (λ p. subst (λ (cmp : Spot → Spot → Ordering). get cmp c.remove.new.self p ≡ cond (is_at (cmp (spot_of c.args.child.now)) p) None (get cmp c.insert.new.self p)) spots_by
    (c.remove.ensures.updates.0 p))
    q)
