-- Children by their keys, and the outermost one in a line by their spots.
use Rattle.std.proofs.Common.{◌≡◌, ℕ, ◌≤◌, Bool, true, false, cond, ⊎_elim, List, [], ◌∷◌, ◌++◌, length, take, slice_get, Option, Some, None, refl, sym, ap, ◌∙◌, subst, arith}
use Rattle.std.specs.BTreeMap.{BTreeMap, get, is_at}
use Rattle.std.specs.BTreeMap.Range.{IsRangeOf}
use Rattle.std.specs.declared.ops.Bound.TheVariants.{Included, Excluded}
use Rattle.std.specs.Option.{IsSome, IfSome, IfNone}
use Rattle.std.specs.Ordering.{ordering_reverse, is_lt, is_gt}
use Rattle.std.specs.declared.cmp.Ordering.{Ordering}
use Rattle.std.specs.declared.cmp.Ordering.TheVariants.{Less, Equal, Greater}
use Rattle.std.proofs.lemmas.Bool.{false≢true, false_from_ne_true}
use Rattle.std.proofs.lemmas.List.{take-append-le}
use Rattle.std.proofs.lemmas.Option.{slice_get_within, none-some, same_Some}
use Rattle.std.proofs.Math.Seq.{take-length}
use Rattle.ew_model.specs.declared.id.Id.{Id}
use Rattle.ew_model.specs.Ids.{id_cmp, id_eq}
use Rattle.ew_model.proofs.PathOrder.{id_total}
use Rattle.ew_model.proofs.RunLaws.{id_itself}
use Rattle.ew_model.proofs.OperationLaws.{got}
use Rattle.fugue_place.specs.declared.child.Side.TheVariants.{Left, Right}
use Rattle.fugue_place.specs.declared.child.Attached.{Attached}
use Rattle.fugue_place.specs.declared.line.Line.{Line}
use Rattle.fugue_place.specs.declared.spot.Rank.TheVariants.{Of}
use Rattle.fugue_place.specs.declared.spot.Spot.{Spot}
use Rattle.fugue_place.specs.Attachments.{has_id}
use Rattle.fugue_place.specs.Heirs.{is_heir, IsOuterThanOthers, IsBestOfOthers}
use Rattle.fugue_place.specs.Lines.{is_in_line}
use Rattle.fugue_place.specs.Spots.{spot_cmp, spot_of, ahead_of, behind, IsIndex, IsBetween, IsFirstBetween, IsLastBetween, IsNoneBetween}
use Rattle.fugue_place.proofs.ListLaws.{none_passes, place_more, place_new, place_cases}
use Rattle.fugue_place.proofs.SpotLaws.{spot_same, spot_itself, child_under, under_from, by_id}

-- ONE MORE CHILD
module _ (children : List Attached) (a : Attached) (find : Spot → Option ℕ) (index : IsIndex children find) where
  abbrev more : List Attached
  more = children ++ a ∷ []

  front : (k : ℕ) → k ≤ length children → take k more ≡ take k children
  front k le = take-append-le k children (a ∷ []) le

  -- an old child that is no heir among more was none before
  told_before : (k : ℕ) (c : Attached) → slice_get children k ≡ Some c → is_heir (take k more) c ≡ false → find (spot_of c) ≡ Some k
  told_before k c here other = index.tells k c here (ap (λ (xs : List Attached). is_heir xs c) (sym (front k (let lt = slice_get_within children k c here in omega arith))) ∙ other)

  newest_heir : (k : ℕ) → k ≡ length children → is_heir (take k more) a ≡ is_heir children a
  newest_heir k last = ap (λ (xs : List Attached). is_heir xs a) (ap (λ (n : ℕ). take n more) last ∙ front (length children) (omega arith) ∙ take-length children)

  -- an heir is found without
  pub heir_more : is_heir children a ≡ true → IsIndex more find
  heir_more heir = record {
    tells = λ k c here other.
        ⊎_elim
        (λ early. told_before k c early other)
        (λ last. absurd (false≢true (sym other ∙ ap (is_heir (take k more)) (sym last.1) ∙ newest_heir k last.0 ∙ heir)))
        (place_cases children a k c here);
    told = λ spot k e. let child = index.told spot k e in (child.0, place_more children a k child.0 child.1, child.2);
  }

  -- the spot of a new child is free
  pub new_spot : has_id children a.id ≡ false → find (spot_of a) ≡ None
  new_spot unused = at (find (spot_of a)) refl
    where
      at : (o : Option ℕ) → find (spot_of a) ≡ o → o ≡ None
      at None e = refl
      at (Some k) e =
          let child = index.told (spot_of a) k e in
          let rank : Of child.0.id ≡ Of a.id = ap (λ (p : Spot). p.rank) child.2 in
          let same : child.0.id ≡ a.id = cc in
          absurd (false≢true (sym (none_passes (λ (z : Attached). id_eq z.id a.id) children child.0 unused (got children k child.0 child.1)) ∙ ap (λ (x : Id). id_eq x a.id) same ∙ id_itself a.id))

  -- its place is kept there
  module _ (more_found : Spot → Option ℕ) (new : find (spot_of a) ≡ None) (grown : (q : Spot) → more_found q ≡ cond (is_at (spot_cmp (spot_of a)) q) (Some (length children)) (find q)) where
    more_at : (q : Spot) (b : Bool) → is_at (spot_cmp (spot_of a)) q ≡ b → more_found q ≡ cond b (Some (length children)) (find q)
    more_at q b e = grown q ∙ ap (λ (t : Bool). cond t (Some (length children)) (find q)) e

    apart : (q : Spot) (k : ℕ) → find q ≡ Some k → is_at (spot_cmp (spot_of a)) q ≡ false
    apart q k e = false_from_ne_true (is_at (spot_cmp (spot_of a)) q) (λ t. none-some k (sym new ∙ ap find (spot_same (spot_of a) q t) ∙ e))

    told_at : (q : Spot) (k : ℕ) (b : Bool) → is_at (spot_cmp (spot_of a)) q ≡ b → more_found q ≡ Some k → (c : Attached) × (slice_get more k ≡ Some c) × (spot_of c ≡ q)
    told_at q k true e m =
        let here : length children ≡ k = same_Some (length children) k (sym (more_at q true e) ∙ m) in
        (a, place_new children a k (sym here), spot_same (spot_of a) q e)
    told_at q k false e m =
        let child = index.told q k (sym (more_at q false e) ∙ m) in
        (child.0, place_more children a k child.0 child.1, child.2)

    pub spots_more : IsIndex more more_found
    spots_more = record {
      tells = λ k c here other.
          ⊎_elim
          (λ early. let found = told_before k c early other in more_at (spot_of c) false (apart (spot_of c) k found) ∙ found)
          (λ last. ap (λ (d : Attached). more_found (spot_of d)) (sym last.1) ∙ more_at (spot_of a) true (spot_itself (spot_of a)) ∙ ap (λ (n : ℕ). Some n) (sym last.0))
          (place_cases children a k c here);
      told = λ q k m. told_at q k (is_at (spot_cmp (spot_of a)) q) refl m;
    }

-- the same is found
pub index_same : (children : List Attached) (find same : Spot → Option ℕ) → IsIndex children find → ((q : Spot) → same q ≡ find q) → IsIndex children same
index_same children find same index e = record {
  tells = λ k a here other. e (spot_of a) ∙ index.tells k a here other;
  told = λ q k found. index.told q k (sym (e q) ∙ found);
}

-- a spot that was free is so again once what was kept there is taken away
pub taken_back : (spot : Spot) (k : ℕ) (before kept after : Spot → Option ℕ) → before spot ≡ None
    → ((q : Spot) → kept q ≡ cond (is_at (spot_cmp spot) q) (Some k) (before q)) → ((q : Spot) → after q ≡ cond (is_at (spot_cmp spot) q) None (kept q)) → (q : Spot) → after q ≡ before q
taken_back spot k before kept after free put taken q = at (is_at (spot_cmp spot) q) refl
  where
    at : (b : Bool) → is_at (spot_cmp spot) q ≡ b → after q ≡ before q
    at true e = taken q ∙ ap (λ (t : Bool). cond t None (kept q)) e ∙ sym free ∙ ap before (spot_same spot q e)
    at false e = taken q ∙ ap (λ (t : Bool). cond t None (kept q)) e ∙ put q ∙ ap (λ (t : Bool). cond t (Some k) (before q)) e

-- THE OUTERMOST CHILD
not_below : (r s : Ordering) → s ≡ ordering_reverse r → is_gt r ≡ false → is_lt s ≡ false
not_below Less s e h = ap is_lt e
not_below Equal s e h = ap is_lt e
not_below Greater s e h = absurd (false≢true (sym h))

-- what the part of a map between two spots tells
module _ (m : BTreeMap Spot ℕ) (from to : Spot) (r : List (Spot × ℕ)) (cmp : Spot → Spot → Ordering) (by : cmp ≡ spot_cmp) (is : IsRangeOf cmp (Included from) (Excluded to) m r) where
  pub range : IsRangeOf spot_cmp (Included from) (Excluded to) m r
  range = subst (λ (c : Spot → Spot → Ordering). IsRangeOf c (Included from) (Excluded to) m r) by is

  pub range_first : (spot : Spot) (k : ℕ) (rest : List (Spot × ℕ)) → r ≡ (spot, k) ∷ rest → IsFirstBetween (get spot_cmp m) from to k
  range_first spot k rest e =
      let known = subst (IsRangeOf spot_cmp (Included from) (Excluded to) m) e range in
      record {
        spot = spot;
        here = known.1.1;
        between = record { above = known.1.0.0; below = known.1.0.1 };
        first = λ q between found. known.2 q (between.above, between.below) found;
      }

  pub range_last : (spot : Spot) (k : ℕ) (rest : List (Spot × ℕ)) → r ≡ rest ++ (spot, k) ∷ [] → IsLastBetween (get spot_cmp m) from to k
  range_last spot k rest e =
      let known = range.3 (spot, k) rest e in
      record {
        spot = spot;
        here = known.1;
        between = record { above = known.0.0; below = known.0.1 };
        last = λ q between found. range.4 (spot, k) rest e q (between.above, between.below) found;
      }

  pub range_none : r ≡ [] → IsNoneBetween (get spot_cmp m) from to
  range_none e = λ q between. range.5 e q (between.above, between.below)

module _ (children : List Attached) (find : Spot → Option ℕ) (index : IsIndex children find) (line : Line) where
  found_there : (j : ℕ) (a : Attached) → slice_get children j ≡ Some a → is_heir (take j children) a ≡ false → IsSome (find (spot_of a))
  found_there j a here other = subst (λ (o : Option ℕ). IsSome o) (sym (index.tells j a here other)) refl

  last_outermost : (k : ℕ) → IsLastBetween find (ahead_of line) (behind line) k → IsOuterThanOthers line Right children k
  last_outermost k found =
      let child = index.told found.spot k found.here in
      let fits = child_under line child.0 (subst (λ (p : Spot). IsBetween (ahead_of line) (behind line) p) (sym child.2) found.between) in
      record {
        child = child.0;
        here = child.1;
        fits = fits;
        outermost = λ j a here other e.
            ap is_lt (sym (by_id line child.0 a fits e) ∙ ap (λ (p : Spot). spot_cmp p (spot_of a)) child.2)
            ∙ found.last (spot_of a) (under_from line a e) (found_there j a here other);
      }

  first_outermost : (k : ℕ) → IsFirstBetween find (ahead_of line) (behind line) k → IsOuterThanOthers line Left children k
  first_outermost k found =
      let child = index.told found.spot k found.here in
      let fits = child_under line child.0 (subst (λ (p : Spot). IsBetween (ahead_of line) (behind line) p) (sym child.2) found.between) in
      record {
        child = child.0;
        here = child.1;
        fits = fits;
        outermost = λ j a here other e.
            not_below (id_cmp child.0.id a.id) (id_cmp a.id child.0.id) (id_total.antisymm a.id child.0.id)
            (ap is_gt (sym (by_id line child.0 a fits e) ∙ ap (λ (p : Spot). spot_cmp p (spot_of a)) child.2)
            ∙ found.first (spot_of a) (under_from line a e) (found_there j a here other));
      }

  none_outermost : IsNoneBetween find (ahead_of line) (behind line) → (j : ℕ) (a : Attached) → slice_get children j ≡ Some a → is_heir (take j children) a ≡ false → is_in_line line a ≡ false
  none_outermost none j a here other = false_from_ne_true (is_in_line line a) (λ e.
      false≢true (subst (λ (o : Option ℕ). IsSome o) (none (spot_of a) (under_from line a e)) (found_there j a here other)))

  -- what a search between the ends of the line answers
  module _ (from to : Spot) (is_from : from ≡ ahead_of line) (is_to : to ≡ behind line) where
    pub first_best : (best : Option ℕ) → IfSome best (IsFirstBetween find from to) → IfNone best (IsNoneBetween find from to) → IsBestOfOthers line Left children best
    first_best None some none = none_outermost (subst (λ (p : Spot). IsNoneBetween find p (behind line)) is_from (subst (IsNoneBetween find from) is_to none))
    first_best (Some k) some none = first_outermost k (subst (λ (p : Spot). IsFirstBetween find p (behind line) k) is_from (subst (λ (p : Spot). IsFirstBetween find from p k) is_to some))

    pub last_best : (best : Option ℕ) → IfSome best (IsLastBetween find from to) → IfNone best (IsNoneBetween find from to) → IsBestOfOthers line Right children best
    last_best None some none = none_outermost (subst (λ (p : Spot). IsNoneBetween find p (behind line)) is_from (subst (IsNoneBetween find from) is_to none))
    last_best (Some k) some none = last_outermost k (subst (λ (p : Spot). IsLastBetween find p (behind line) k) is_from (subst (λ (p : Spot). IsLastBetween find from p k) is_to some))
