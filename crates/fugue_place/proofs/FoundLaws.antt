-- Children found by their nodes.
use Rattle.std.proofs.Common.{◌≡◌, ℕ, ◌+◌, ◌-◌, ◌<◌, ◌≤◌, Bool, true, false, cond, ⊎_elim, List, [], ◌∷◌, ◌++◌, length, take, slice_get, Option, Some, None, refl, sym, ap, ◌∙◌, subst, arith, length-append}
use Rattle.std.specs.BTreeMap.{BTreeMap, get, is_at}
use Rattle.std.specs.Option.{option_map_or, IfSome, IfNone}
use Rattle.std.specs.Ordering.{is_eq, is_lt}
use Rattle.std.specs.declared.cmp.Ordering.TheVariants.{Less}
use Rattle.std.proofs.lemmas.Bool.{false≢true, false_from_ne_true, cases_lt}
use Rattle.std.proofs.lemmas.List.{take-append-le}
use Rattle.std.proofs.lemmas.Option.{none-some, same_Some, slice_get_within}
use Rattle.std.proofs.Math.Seq.{take-length}
use Rattle.ew_model.specs.declared.node.Node.{Node}
use Rattle.ew_model.proofs.ListPlaces.{get-take_within}
use Rattle.ew_model.proofs.GapLaws.{eq_from}
use Rattle.ew_model.proofs.OperationLaws.{got}
use Rattle.ew_model.proofs.VersionLaws.{any_from, found_by}
use Rattle.fugue_place.specs.declared.child.Attached.{Attached}
use Rattle.fugue_place.specs.declared.places.Places.{Places}
use Rattle.fugue_place.specs.Attachments.{node_eq, is_attached}
use Rattle.fugue_place.specs.Places.{HasNodeAt, AreRising, is_above_newest, ArePlaces}
use Rattle.fugue_place.specs.Spots.{node_cmp}
use Rattle.fugue_place.proofs.LineLaws.{is_less}
use Rattle.fugue_place.proofs.ListLaws.{place_of, place_more, place_new, place_cases}
use Rattle.fugue_place.proofs.NodeLaws.{node_same, node_itself}
use Rattle.fugue_place.proofs.SpotLaws.{node_exact, node_tied}

-- CHILDREN BY THEIR NODES
-- the child at a place is attached
pub attached_here : (children : List Attached) (v : Node) (k : ℕ) → HasNodeAt children v k → is_attached children v ≡ true
attached_here children v k here = any_from (λ (a : Attached). node_eq a.node v) children here.0 (got children k here.0 here.1) (ap (λ (u : Node). node_eq u v) here.2 ∙ node_itself v)

module _ (children : List Attached) (places : Places) (kept : ArePlaces children places) (v : Node) where
  -- what is kept is the child's place
  pub others_some : IfSome (get node_cmp places.others v) (HasNodeAt children v)
  others_some = at (get node_cmp places.others v) refl
    where
      at : (o : Option ℕ) → get node_cmp places.others v ≡ o → IfSome o (HasNodeAt children v)
      at None e = tt
      at (Some k) e = kept.told v k e

  -- what is found nowhere isn't attached
  nowhere : is_attached (take places.rising children) v ≡ false → get node_cmp places.others v ≡ None → is_attached children v ≡ false
  nowhere early late = false_from_ne_true (is_attached children v) (λ e.
      let found = found_by (λ (a : Attached). node_eq a.node v) children e in
      let is : found.0.node ≡ v = node_same found.0.node v found.2 in
      let place = place_of children found.0 found.1 in
      ⊎_elim
      (λ low. absurd (false≢true (sym early ∙ attached_here (take places.rising children) v place.0 (found.0, get-take_within places.rising children place.0 low ∙ place.1, is))))
      (λ high. absurd (none-some place.0 (sym late ∙ ap (get node_cmp places.others) (sym is) ∙ kept.tells place.0 found.0 place.1 high)))
      (cases_lt place.0 places.rising))

  pub others_none : is_attached (take places.rising children) v ≡ false → IfNone (get node_cmp places.others v) (is_attached children v ≡ false)
  others_none early = at (get node_cmp places.others v) refl
    where
      at : (o : Option ℕ) → get node_cmp places.others v ≡ o → IfNone o (is_attached children v ≡ false)
      at None late = nowhere early late
      at (Some k) e = tt

-- ONE MORE CHILD
module _ (children : List Attached) (places : Places) (kept : ArePlaces children places) (a : Attached) (new : is_attached children a.node ≡ false) where
  abbrev more : List Attached
  more = children ++ a ∷ []

  count : length more ≡ length children + 1
  count = length-append children (a ∷ [])

  others_told : (v : Node) (k : ℕ) → get node_cmp places.others v ≡ Some k → HasNodeAt more v k
  others_told v k e = let here = kept.told v k e in (here.0, place_more children a k here.0 here.1, here.2)

  -- where the new one is above the last of those that all rise, all rise
  pub rising_more : (m : Places) → places.rising ≡ length children → is_above_newest children a.node ≡ true → m.rising ≡ places.rising + 1 → (m.others ≡ places.others) → ArePlaces more m
  rising_more m whole above longer same = record {
    within = let e = count in omega arith;
    rise = subst AreRising (sym all) rise;
    tells = λ k b here late. let lt = slice_get_within more k b here in let e = count in absurd (omega arith);
    told = λ v k e. others_told v k (ap (λ (o : BTreeMap Node ℕ). get node_cmp o v) (sym same) ∙ e);
  }
    where
      all : take m.rising more ≡ more
      all = ap (λ (n : ℕ). take n more) (let e = count in let n : m.rising ≡ length more = omega arith in n) ∙ take-length more

      old : AreRising children
      old = subst AreRising (ap (λ (n : ℕ). take n children) whole ∙ take-length children) kept.rise

      next : (k : ℕ) (b : Attached) → k + 1 ≡ length children → slice_get children k ≡ Some b → node_cmp b.node a.node ≡ Less
      next k b last here =
          let at : slice_get children (length children - 1) ≡ Some b = ap (slice_get children) (let n : length children - 1 ≡ k = omega arith in n) ∙ here in
          is_less (node_cmp b.node a.node) (ap (λ (o : Option Attached). option_map_or (λ (c : Attached). is_lt (node_cmp c.node a.node)) o true) (sym at) ∙ above)

      rise : AreRising more
      rise k b c here there =
          ⊎_elim
          (λ early.
          let lt = slice_get_within children (k + 1) c early in
          old k b c (at_front k b here (omega arith)) early)
          (λ last.
          subst (λ (d : Attached). node_cmp b.node d.node ≡ Less) last.1 (next k b last.0 (at_front k b here (let n = last.0 in omega arith))))
          (place_cases children a (k + 1) c there)
        where
          at_front : (i : ℕ) (d : Attached) → slice_get more i ≡ Some d → i < length children → slice_get children i ≡ Some d
          at_front i d e lt = ⊎_elim (λ early. early) (λ last. let n = last.0 in absurd (omega arith)) (place_cases children a i d e)

  -- else its place is kept
  pub others_more : (m : Places) → m.rising ≡ places.rising → ((v : Node) → get node_cmp m.others v ≡ cond (is_at (node_cmp a.node) v) (Some (length children)) (get node_cmp places.others v)) → ArePlaces more m
  others_more m same put = record {
    within = let e = count in let le = kept.within in omega arith;
    rise = subst AreRising (sym front) kept.rise;
    tells = λ k b here late.
        ⊎_elim
        (λ early. put b.node ∙ ap (λ (t : Bool). cond t (Some (length children)) (get node_cmp places.others b.node)) (apart b k early) ∙ kept.tells k b early (omega arith))
        (λ last.
        ap (λ (c : Attached). get node_cmp m.others c.node) (sym last.1)
        ∙ put a.node
        ∙ ap (λ (t : Bool). cond t (Some (length children)) (get node_cmp places.others a.node)) (ap is_eq (node_tied a.node))
        ∙ ap (λ (n : ℕ). Some n) (sym last.0))
        (place_cases children a k b here);
    told = λ v k e. told v k (is_at (node_cmp a.node) v) refl e;
  }
    where
      front : take m.rising more ≡ take places.rising children
      front = ap (λ (n : ℕ). take n more) same ∙ take-append-le places.rising children (a ∷ []) kept.within

      apart : (b : Attached) (k : ℕ) → slice_get children k ≡ Some b → is_at (node_cmp a.node) b.node ≡ false
      apart b k here = false_from_ne_true (is_at (node_cmp a.node) b.node) (λ e.
          let is : a.node ≡ b.node = node_exact a.node b.node (eq_from (node_cmp a.node b.node) e) in
          false≢true (sym new ∙ attached_here children a.node k (b, here, sym is)))

      told : (v : Node) (k : ℕ) (t : Bool) → is_at (node_cmp a.node) v ≡ t → get node_cmp m.others v ≡ Some k → HasNodeAt more v k
      told v k true at e =
          let here : length children ≡ k = same_Some (length children) k (sym (put v ∙ ap (λ (t : Bool). cond t (Some (length children)) (get node_cmp places.others v)) at) ∙ e) in
          (a, place_new children a k (sym here), node_exact a.node v (eq_from (node_cmp a.node v) at))
      told v k false at e = others_told v k (sym (put v ∙ ap (λ (t : Bool). cond t (Some (length children)) (get node_cmp places.others v)) at) ∙ e)

-- the same is kept of others
pub places_same : (children : List Attached) (places m : Places) → ArePlaces children places → m.rising ≡ places.rising → ((v : Node) → get node_cmp m.others v ≡ get node_cmp places.others v) → ArePlaces children m
places_same children places m kept rising others = record {
  within = subst (λ (n : ℕ). n ≤ length children) (sym rising) kept.within;
  rise = subst (λ (n : ℕ). AreRising (take n children)) (sym rising) kept.rise;
  tells = λ k a here le. others a.node ∙ kept.tells k a here (subst (λ (n : ℕ). n ≤ k) rising le);
  told = λ v k found. kept.told v k (sym (others v) ∙ found);
}
