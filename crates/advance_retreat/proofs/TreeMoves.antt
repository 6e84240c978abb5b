-- What the counts of right children are after a character was changed, and after a new node came in.
use Rattle.std.proofs.Common.{◌≡◌, ℕ, ◌<◌, ◌≤◌, ◌^◌, Bool, true, false, ◌&&◌, ◌||◌, List, [], ◌∷◌, ◌++◌, map, length, nat_eq, nat_lt, ⊎_elim, refl, sym, ap, ◌∙◌, subst, arith}
use Rattle.std.proofs.lemmas.Bool.{false≢true}
use Rattle.std.specs.List.{list_any}
use Rattle.std.proofs.lemmas.List.{length-map}
use Rattle.ew_model.specs.declared.node.Node.{Node}
use Rattle.ew_model.specs.declared.node.Node.TheVariants.{Root, Base, Event}
use Rattle.walker_record.specs.Stretches.{Stretch}
use Rattle.fugue_place.specs.declared.child.Attached.{Attached}
use Rattle.fugue_place.specs.declared.neighbour.Place.{Place}
use Rattle.fugue_place.specs.declared.child.Side.TheVariants.{Right as right}
use Rattle.fugue_place.specs.Neighbours.{is_child}
use Rattle.fugue_place.proofs.NodeLaws.{node_same}
use Rattle.ew_model.specs.Sets.{Among}
use Rattle.fugue_place.specs.Attachments.{node_eq, is_event, is_attached, is_there, AreAttached}
use Rattle.character_runs.specs.declared.change.Change.{Change}
use Rattle.character_runs.specs.declared.change.Kind.{Kind}
use Rattle.character_runs.specs.declared.change.Kind.TheVariants.{OfBase, OfEvents}
use Rattle.character_runs.specs.declared.change.Positions.{Positions}
use Rattle.character_runs.specs.States.{is_of, is_inserted, knows, changed_at}
use Rattle.character_runs.specs.Replacing.{node_by, is_in, changed_in}
use Rattle.character_runs.specs.Resting.{at_rest, rested}
use Rattle.right_children.specs.Rights.{Counted, known_right, none_known, right_parent, AreRights, Shifts, ShiftEach, MayShift, HangWithin}
use Rattle.character_runs.specs.Spots.{Comes}
use Rattle.character_runs.proofs.KnownChanges.{known_changed, known_else, known_now}
use Rattle.character_runs.proofs.Spans.{outside, known_apart}
use Rattle.right_children.proofs.RightCounts.{count_same}
use Rattle.right_children.proofs.RightMoves.{may_shift, shifted, may_join, joins}
use Rattle.advance_retreat.proofs.FewRights.{few_right}

-- few right children of a node are known where there are few records
enough : (rs : List Stretch) (attached : List Attached) → AreAttached [] attached → length rs ≤ 2 ^ 25 → (v : Node) → known_right (knows rs) attached v ≤ 2 ^ 26
enough rs attached sound few v = let most = few_right rs attached v sound in omega (arith, most, few)

-- a character's states are changed
module _ (rs ss : List Stretch) (attached : List Attached) (c : Counted) (v : Node) (change : Change) (rights : AreRights (knows rs) attached c) (sound : AreAttached [] attached) (there : is_there attached v ≡ true)
    (now : ss ≡ map (changed_at v change) rs) (was is : Bool) (told_was : was ≡ knows rs v) (told_is : is ≡ knows ss v) where
  others : (u : Node) → node_eq u v ≡ false → knows ss u ≡ knows rs u
  others u e = ap (λ (xs : List Stretch). knows xs u) now ∙ known_changed u v change e rs

  pub change_may : length rs ≤ 2 ^ 25 → MayShift c v was is
  change_may few =
      subst (λ (b : Bool). MayShift c v b is) (sym told_was)
      (subst (λ (b : Bool). MayShift c v (knows rs v) b) (sym told_is) (may_shift (knows rs) (knows ss) attached c v rights sound others there (enough rs attached sound few)))

  pub change_kept : (d : Counted) → Shifts c d v was is → AreRights (knows ss) attached d
  change_kept d shifts =
      shifted (knows rs) (knows ss) attached c v rights sound others d there
      (subst (λ (b : Bool). Shifts c d v b (knows ss v)) told_was (subst (λ (b : Bool). Shifts c d v was b) told_is shifts))

-- a new node comes in
module _ (rs ss : List Stretch) (attached : List Attached) (old c : Counted) (place : Place) (n at : ℕ) (came : Comes rs ss place n at) (a : Attached) (node : a.node ≡ Event n) (rights : AreRights (knows rs) attached old)
    (new : is_attached attached (Event n) ≡ false) (parent : c.parent_at n ≡ right_parent a) (parents : (k : ℕ) → nat_eq n k ≡ false → c.parent_at k ≡ old.parent_at k) (counts : (w : Node) → c.count w ≡ old.count w) where
  pub join_may : AreAttached [] attached → length rs < 2 ^ 25 → MayShift c (Event n) false true
  join_may sound few =
      may_join (knows rs) (knows ss) attached old c c a n rights node new (known_else rs ss place n at came) (known_now rs ss place n at came) parent parents counts (enough rs attached sound (omega (arith, few)))

  pub join_kept : (d : Counted) → Shifts c d (Event n) false true → AreRights (knows ss) (attached ++ a ∷ []) d
  join_kept d shifts = joins (knows rs) (knows ss) attached old c d a n rights node new (known_else rs ss place n at came) (known_now rs ss place n at came) parent parents counts shifts

-- the states of the characters of events that follow one another are changed
apart : (at : Positions) (v : Node) → ((n : ℕ) → at.from ≤ n → n < at.to → Event n ≡ v → ⊥) → is_in OfEvents at.from at.to v ≡ false
apart at Root none = refl
apart at (Base i) none = refl
apart at (Event n) none = outside OfEvents at.from at.to n (λ low high. none n low high refl)

module _ (rs : List Stretch) (attached : List Attached) (change : Change) (at : Positions) (was is : Bool) (sound : AreAttached [] attached) (few : length rs ≤ 2 ^ 25)
    (there : (n : ℕ) → at.from ≤ n → n < at.to → is_there attached (Event n) ≡ true) where
  span_shifts : ((n : ℕ) → at.from ≤ n → n < at.to → knows rs (Event n) ≡ was) → ((n : ℕ) → at.from ≤ n → n < at.to → knows (map (changed_in OfEvents at change) rs) (Event n) ≡ is)
      → ShiftEach (knows rs) (knows (map (changed_in OfEvents at change) rs)) attached at.from at.to was is
  span_shifts before after = record {
    sound = sound;
    few_before = λ v. let most = few_right rs attached v sound in omega (arith, most, few);
    few_after = λ v. let most = few_right (map (changed_in OfEvents at change) rs) attached v sound in let long = length-map rs (changed_in OfEvents at change) in omega (arith, most, long, few);
    there = there;
    before = before;
    after = after;
    others = λ v none. known_apart change v (is_in OfEvents at.from at.to) (apart at v none) rs;
  }

-- the states of base characters are changed: their nodes hang nowhere
base_apart : (at : Positions) (v : Node) → is_event v ≡ true → is_in OfBase at.from at.to v ≡ false
base_apart at Root e = absurd (false≢true e)
base_apart at (Base i) e = absurd (false≢true e)
base_apart at (Event n) e = refl

are_events : (before attached : List Attached) → AreAttached before attached → (a : Attached) → Among a attached → is_event a.node ≡ true
are_events before [] sound a m = absurd m
are_events before (x ∷ later) sound a m = ⊎_elim (λ is. ap (λ (y : Attached). is_event y.node) is ∙ sound.0.event) (λ rest. are_events (before ++ x ∷ []) later sound.1 a rest) m

base_known : (rs : List Stretch) (attached : List Attached) (change : Change) (at : Positions) (c : Counted) → AreAttached [] attached → AreRights (knows rs) attached c → AreRights (knows (map (changed_in OfBase at change) rs)) attached c
base_known rs attached change at c sound rights = record { parents = rights.parents; counts = λ v. rights.counts v ∙ sym (same v) }
  where
    same : (v : Node) → known_right (knows (map (changed_in OfBase at change) rs)) attached v ≡ known_right (knows rs) attached v
    same v =
        count_same (λ (a : Attached). is_child v right a && knows (map (changed_in OfBase at change) rs) a.node) (λ (a : Attached). is_child v right a && knows rs a.node) attached
        (λ a m. ap (λ (b : Bool). is_child v right a && b) (known_apart change a.node (is_in OfBase at.from at.to) (base_apart at a.node (are_events [] attached sound a m)) rs))

-- by the kind of the characters
not_base : OfBase ≡ OfEvents → ⊥
not_base e = cc

module _ (rs : List Stretch) (attached : List Attached) (change : Change) (at : Positions) (sound : AreAttached [] attached) where
  pub run_known : (kind : Kind) → kind ≡ OfBase → (c : Counted) → AreRights (knows rs) attached c → AreRights (knows (map (changed_in kind at change) rs)) attached c
  run_known OfBase e c rights = base_known rs attached change at c sound rights
  run_known OfEvents e c rights = absurd (not_base (sym e))

  pub run_shifts : (kind : Kind) (was is : Bool) → kind ≡ OfEvents → length rs ≤ 2 ^ 25 → ((n : ℕ) → list_any (is_of (Event n)) rs ≡ true → is_there attached (Event n) ≡ true)
      → ((n : ℕ) → at.from ≤ n → n < at.to → list_any (is_of (node_by kind n)) rs ≡ true) → ((n : ℕ) → at.from ≤ n → n < at.to → knows rs (node_by kind n) ≡ was) → ((n : ℕ) → at.from ≤ n → n < at.to → knows (map (changed_in kind at change) rs) (node_by kind n) ≡ is)
      → ShiftEach (knows rs) (knows (map (changed_in kind at change) rs)) attached at.from at.to was is
  run_shifts OfBase was is e few there told before after = absurd (not_base e)
  run_shifts OfEvents was is e few there told before after = span_shifts rs attached change at was is sound few (λ n low high. there n (told n low high)) before after

-- no event is prepared any more
and_false : (b : Bool) → (b && false) ≡ false
and_false true = refl
and_false false = refl

unknown : (v : Node) → at_rest v ≡ 0 → (rs : List Stretch) → knows (map rested rs) v ≡ false
unknown v none [] = refl
unknown v none (r ∷ rs) = λ i. here (node_eq r.from v) refl i || unknown v none rs i
  where
    here : (b : Bool) → node_eq r.from v ≡ b → (is_of v (rested r) && is_inserted (rested r)) ≡ false
    here true e = ap (λ (n : ℕ). node_eq r.from v && nat_lt 0 n) (ap at_rest (node_same r.from v e) ∙ none) ∙ and_false (node_eq r.from v)
    here false e = ap (λ (b : Bool). b && is_inserted (rested r)) e

pub at_rest_known : (rs : List Stretch) (attached : List Attached) (low high : ℕ) (c : Counted) → HangWithin low high attached → AreRights none_known attached c → AreRights (knows (map rested rs)) attached c
at_rest_known rs attached low high c within rights = record { parents = rights.parents; counts = λ v. rights.counts v ∙ sym (same v) }
  where
    none : (a : Attached) → Among a attached → knows (map rested rs) a.node ≡ false
    none a m = let at = within a m in ap (knows (map rested rs)) at.3 ∙ unknown (Event at.0) refl rs

    same : (v : Node) → known_right (knows (map rested rs)) attached v ≡ known_right none_known attached v
    same v =
        count_same (λ (a : Attached). is_child v right a && knows (map rested rs) a.node) (λ (a : Attached). is_child v right a && none_known a.node) attached
        (λ a m. ap (λ (b : Bool). is_child v right a && b) (none a m))
