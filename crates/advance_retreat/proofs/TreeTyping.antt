-- What the counts of right children are once new nodes came in one after another, each on the right of the one before.
use Rattle.std.proofs.Common.{◌≡◌, ⊎_elim, ℕ, zero, suc, ◌+◌, ◌-◌, ◌<◌, ◌≤◌, ◌^◌, Bool, true, false, ◌&&◌, ◌||◌, List, [], ◌∷◌, ◌++◌, filter, length, if◌then◌else◌, refl, sym, ap, ◌∙◌, subst, arith, append-nil, append_assoc}
use Rattle.std.specs.List.{list_any}
use Rattle.std.proofs.lemmas.Bool.{false≢true, false_from_ne_true, ne_eqb, cases_lt}
use Rattle.ew_model.specs.declared.node.Node.{Node}
use Rattle.ew_model.specs.declared.node.Node.TheVariants.{Root, Base, Event}
use Rattle.ew_model.specs.Sets.{Among}
use Rattle.ew_model.proofs.ListTests.{any_from, count-append}
use Rattle.ew_model.proofs.SetLaws.{among_joined}
use Rattle.walker_record.specs.Stretches.{Stretch}
use Rattle.fugue_place.specs.declared.child.Side.TheVariants.{Right as right}
use Rattle.fugue_place.specs.declared.child.Attached.{Attached}
use Rattle.fugue_place.specs.declared.neighbour.Place.TheVariants.{After}
use Rattle.fugue_place.specs.Attachments.{node_eq, is_attached, AreAttached}
use Rattle.fugue_place.specs.Heirs.{heir_on, heirs_on, HaveHeirs, AreNew}
use Rattle.fugue_place.specs.Neighbours.{is_child}
use Rattle.fugue_place.proofs.HeirRuns.{heirs_more}
use Rattle.fugue_place.proofs.HeirStates.{grown_sound}
use Rattle.fugue_place.proofs.NodeLaws.{node_same, node_itself}
use Rattle.character_runs.specs.States.{is_of, is_inserted, knows}
use Rattle.character_runs.specs.Spots.{ComeEach}
use Rattle.character_runs.proofs.KnownChanges.{known_else, known_now}
use Rattle.character_runs.proofs.Replaced.{length_inserted}
use Rattle.character_runs.specs.States.{single}
use Rattle.right_children.specs.Chains.{IsApart, HangInLine}
use Rattle.right_children.specs.Rights.{Counted, parent_of, known_right, right_parent, AreRights, ShiftEach}
use Rattle.advance_retreat.proofs.FewRights.{few_right}

-- a node without a record isn't known
unknown : (rs : List Stretch) (v : Node) → list_any (is_of v) rs ≡ false → knows rs v ≡ false
unknown [] v e = refl
unknown (r ∷ rs) v e = at (is_of v r) e (unknown rs v)
  where
    at : (c : Bool) → (c || list_any (is_of v) rs) ≡ false → (list_any (is_of v) rs ≡ false → knows rs v ≡ false) → ((c && is_inserted r) || knows rs v) ≡ false
    at true e ih = absurd (false≢true (sym e))
    at false e ih = ih e

-- an event of another position has another node
events_apart : (m n : ℕ) → (m ≡ n → ⊥) → node_eq (Event m) (Event n) ≡ false
events_apart m n apart = ne_eqb m n apart

module _ (rs : List Stretch) (position seen n : ℕ) where
  -- every other node is known as before
  known_others : (k : ℕ) (ss : List Stretch) → ComeEach rs ss position seen k n → (u : Node) → ((j : ℕ) → j < k → Event (position + j + 1) ≡ u → ⊥) → knows ss u ≡ knows rs u
  known_others zero ss come u none = ap (λ (xs : List Stretch). knows xs u) come
  known_others (suc k) ss come u none =
      known_else come.0 ss (After (Event (position + k))) (position + k + 1) (n + k) come.2.0 u
      (false_from_ne_true (node_eq u (Event (position + k + 1))) (λ e. none k (omega arith) (sym (node_same u (Event (position + k + 1)) e))))
      ∙ known_others k come.0 come.1 u (λ j lt. none j (omega (arith, lt)))

  -- the new ones are known
  known_each : (k : ℕ) (ss : List Stretch) → ComeEach rs ss position seen k n → (j : ℕ) → j < k → knows ss (Event (position + j + 1)) ≡ true
  known_each zero ss come j lt = absurd (omega (arith, lt))
  known_each (suc k) ss come j lt =
      ⊎_elim
      (λ (early : j < k).
      known_else come.0 ss (After (Event (position + k))) (position + k + 1) (n + k) come.2.0 (Event (position + j + 1)) (events_apart (position + j + 1) (position + k + 1) (λ same. absurd (omega (arith, same, early))))
      ∙ known_each k come.0 come.1 j early)
      (λ (late : k ≤ j).
      let is : k ≡ j = omega (arith, lt, late) in
      subst (λ (i : ℕ). knows ss (Event (position + i + 1)) ≡ true) is (known_now come.0 ss (After (Event (position + k))) (position + k + 1) (n + k) come.2.0))
      (cases_lt j k)

  long_each : (k : ℕ) (ss : List Stretch) → ComeEach rs ss position seen k n → length ss ≡ length rs + k
  long_each zero ss come = let same = ap length come in omega (arith, same)
  long_each (suc k) ss come =
      let more = ap length come.2.0.after ∙ length_inserted come.0 come.2.0.index (single (Event (position + k + 1)) 1 true) in
      let ih = long_each k come.0 come.1 in
      omega (arith, more, ih)

-- ONE MORE CHILD that isn't known
module _ (known : Node → Bool) (xs : List Attached) (c : Counted) (rights : AreRights known xs c) (a : Attached) (m : ℕ) (node : a.node ≡ Event m) (parent : c.parent_at m ≡ right_parent a) (unknown : known a.node ≡ false) where
  one_parent : (b : Attached) → Among b (xs ++ a ∷ []) → parent_of c b.node ≡ right_parent b
  one_parent b m' =
      ⊎_elim
      (λ old. rights.parents b old)
      (λ new. ⊎_elim (λ own. ap (λ (d : Attached). parent_of c d.node) own ∙ ap (parent_of c) node ∙ parent ∙ ap right_parent (sym own)) (λ no. absurd no) new)
      (among_joined xs (a ∷ []) b m')

  one_count : (v : Node) → c.count v ≡ known_right known (xs ++ a ∷ []) v
  one_count v =
      let all = count-append (λ (b : Attached). is_child v right b && known b.node) xs (a ∷ []) in
      let none : length (filter (λ (b : Attached). is_child v right b && known b.node) (a ∷ [])) ≡ 0 = at (is_child v right a) (known a.node) unknown in
      let old = rights.counts v in
      omega (arith, all, none, old)
    where
      at : (d e : Bool) → e ≡ false → length (if d && e then a ∷ [] else []) ≡ 0
      at true true h = absurd (false≢true (sym h))
      at true false h = refl
      at false e h = refl

  one_more : AreRights known (xs ++ a ∷ []) c
  one_more = record { parents = one_parent; counts = one_count }

-- SEVERAL
module _ (rs : List Stretch) (attached : List Attached) (old c : Counted) (position count : ℕ) (rights : AreRights (knows rs) attached old) (new : AreNew attached position count)
    (others : (n : ℕ) → IsApart position count n → c.parent_at n ≡ old.parent_at n) (counts : (w : Node) → c.count w ≡ old.count w) where
  -- of the nodes that were there the parents are told as before
  same_parent : (a : Attached) → Among a attached → (v : Node) → a.node ≡ v → parent_of c v ≡ parent_of old v
  same_parent a m Root e = refl
  same_parent a m (Base i) e = refl
  same_parent a m (Event n) e =
      others n (λ k lt is.
      false≢true (sym (new.nodes k lt) ∙ any_from (λ (b : Attached). node_eq b.node (Event (position + k + 1))) attached a m (ap (λ (v : Node). node_eq v (Event (position + k + 1))) (e ∙ ap Event is) ∙ node_itself (Event (position + k + 1)))))

  -- what is noted of nodes that aren't attached changes nothing
  pub still_told : AreRights (knows rs) attached c
  still_told = record { parents = λ a m. same_parent a m a.node refl ∙ rights.parents a m; counts = λ w. counts w ∙ rights.counts w }

  module _ (line : HangInLine c.parent_at position count) (sound : AreAttached [] attached) (later : List Attached) (have : HaveHeirs attached later position count) (unrecorded : (k : ℕ) → k < count → list_any (is_of (Event (position + k + 1))) rs ≡ false) where
    heirs_told : (k : ℕ) → k ≤ count → AreRights (knows rs) (attached ++ heirs_on have.newest.id position k) c
    heirs_told zero le = subst (λ (xs : List Attached). AreRights (knows rs) xs c) (sym (append-nil attached)) still_told
    heirs_told (suc k) le =
        subst (λ (xs : List Attached). AreRights (knows rs) xs c) (sym (ap (λ (xs : List Attached). attached ++ xs) (heirs_more have.newest.id position k) ∙ sym (append_assoc attached (heirs_on have.newest.id position k) (heir_on have.newest.id position k ∷ []))))
        (one_more (knows rs) (attached ++ heirs_on have.newest.id position k) c (heirs_told k (omega arith)) (heir_on have.newest.id position k) (position + k + 1) refl (line k (omega (arith, le)))
        (unknown rs (Event (position + k + 1)) (unrecorded k (omega (arith, le)))))

    -- they are attached, and their parents told
    pub before_known : AreRights (knows rs) later c
    before_known = subst (λ (xs : List Attached). AreRights (knows rs) xs c) (sym have.after) (heirs_told count (omega arith))

    pub later_sound : AreAttached [] later
    later_sound = subst (λ (xs : List Attached). AreAttached [] xs) (sym have.after) (grown_sound attached have.newest have.last position have.node sound count new count (omega arith))

    there_to : (k : ℕ) (j : ℕ) → j < k → is_attached (attached ++ heirs_on have.newest.id position k) (Event (position + j + 1)) ≡ true
    there_to zero j lt = absurd (omega (arith, lt))
    there_to (suc k) j lt =
        ap (λ (xs : List Attached). is_attached xs (Event (position + j + 1))) (ap (λ (xs : List Attached). attached ++ xs) (heirs_more have.newest.id position k) ∙ sym (append_assoc attached (heirs_on have.newest.id position k) (heir_on have.newest.id position k ∷ [])))
        ∙ ⊎_elim
        (λ (early : j < k). any_front (attached ++ heirs_on have.newest.id position k) (heir_on have.newest.id position k) (Event (position + j + 1)) (there_to k j early))
        (λ (late : k ≤ j).
        let is : position + k + 1 ≡ position + j + 1 = omega (arith, lt, late) in
        ap (λ (p : ℕ). is_attached ((attached ++ heirs_on have.newest.id position k) ++ heir_on have.newest.id position k ∷ []) (Event p)) (sym is) ∙ any_last (attached ++ heirs_on have.newest.id position k) (heir_on have.newest.id position k))
        (cases_lt j k)
      where
        any_front : (xs : List Attached) (a : Attached) (v : Node) → is_attached xs v ≡ true → is_attached (xs ++ a ∷ []) v ≡ true
        any_front [] a v e = absurd (false≢true e)
        any_front (x ∷ xs) a v e = at (node_eq x.node v) e (any_front xs a v)
          where
            at : (d : Bool) → (d || is_attached xs v) ≡ true → (is_attached xs v ≡ true → is_attached (xs ++ a ∷ []) v ≡ true) → (d || is_attached (xs ++ a ∷ []) v) ≡ true
            at true e ih = refl
            at false e ih = ih e

        any_last : (xs : List Attached) (a : Attached) → is_attached (xs ++ a ∷ []) a.node ≡ true
        any_last [] a = ap (λ (d : Bool). d || false) (node_itself a.node)
        any_last (x ∷ xs) a = at (node_eq x.node a.node) (any_last xs a)
          where
            at : (d : Bool) → is_attached (xs ++ a ∷ []) a.node ≡ true → (d || is_attached (xs ++ a ∷ []) a.node) ≡ true
            at true e = refl
            at false e = e

    -- and then each is known
    pub typed_shift : (ss : List Stretch) (seen n : ℕ) → ComeEach rs ss position seen count n → length rs + count ≤ 2 ^ 25 → ShiftEach (knows rs) (knows ss) later (position + 1) (position + count + 1) false true
    typed_shift ss seen n come room = record {
      sound = later_sound;
      few_before = λ v. let most = few_right rs later v later_sound in omega (arith, most, room);
      few_after = λ v. let most = few_right ss later v later_sound in let long = long_each rs position seen n count ss come in omega (arith, most, long, room);
      there = λ m low high.
          let k = m - position - 1 in
          let is : position + k + 1 ≡ m = omega (arith, low) in
          subst (λ (p : ℕ). is_attached later (Event p) ≡ true) is (ap (λ (xs : List Attached). is_attached xs (Event (position + k + 1))) have.after ∙ there_to count k (omega (arith, low, high)));
      before = λ m low high.
          let k = m - position - 1 in
          let is : position + k + 1 ≡ m = omega (arith, low) in
          subst (λ (p : ℕ). knows rs (Event p) ≡ false) is (unknown rs (Event (position + k + 1)) (unrecorded k (omega (arith, low, high))));
      after = λ m low high.
          let k = m - position - 1 in
          let is : position + k + 1 ≡ m = omega (arith, low) in
          subst (λ (p : ℕ). knows ss (Event p) ≡ true) is (known_each rs position seen n count ss come k (omega (arith, low, high)));
      others = λ v none. known_others rs position seen n count ss come v (λ j lt is. none (position + j + 1) (omega arith) (omega (arith, lt)) is);
    }
