-- Which right children a search still has to ask, where the heir among them was asked before.
use Rattle.std.proofs.Common.{◌≡◌, ℕ, Bool, ◌<◌, true, false, cond, not, ◌⊎◌, inl, inr, ⊎_elim, List, [], ◌∷◌, length, take, slice_get, Some, refl, sym, ap, ◌∙◌, subst}
use Rattle.std.specs.BTreeMap.{BTreeMap, get, is_at}
use Rattle.std.specs.BTreeMap.Range.{IsRangeOf, IsEntryInRange, range_contains, entries_between}
use Rattle.std.specs.Map.{lookup}
use Rattle.std.specs.Ordering.{ordering_reverse, is_gt, is_le}
use Rattle.std.proofs.lemmas.Bool.{false≢true, and_from, and_parts}
use Rattle.std.proofs.lemmas.Map.Entries.{lookup-filter-keys}
use Rattle.std.proofs.lemmas.Option.{slice_get_within, get_or_from_slice_get, none-some, same_Some}
use Rattle.std.specs.declared.ops.Bound.TheVariants.{Included, Excluded}
use Rattle.std.specs.declared.cmp.Ordering.{Ordering}
use Rattle.std.specs.declared.cmp.Ordering.TheVariants.{Less, Equal, Greater}
use Rattle.ew_model.specs.Sets.{Among}
use Rattle.ew_model.proofs.OperationLaws.{got}
use Rattle.ew_model.specs.declared.node.Node.{Node}
use Rattle.fugue_place.specs.declared.child.Side.TheVariants.{Right}
use Rattle.fugue_place.specs.declared.child.Attached.{Attached}
use Rattle.fugue_place.specs.declared.spot.Spot.{Spot}
use Rattle.fugue_place.specs.Attachments.{AreAttached}
use Rattle.fugue_place.specs.Heirs.{is_heir, IsHeirIn, HasNoHeir, EveryOther}
use Rattle.fugue_place.specs.Lines.{is_in_line, line_of}
use Rattle.fugue_place.specs.Neighbours.{is_child, EveryRightChild}
use Rattle.fugue_place.specs.Spots.{spot_cmp, spot_of, ahead_of, behind, IsBetween, IsIndex}
use Rattle.fugue_place.proofs.HeirLaws.{heir_or_other}
use Rattle.fugue_place.proofs.ListLaws.{place_of}
use Rattle.fugue_place.proofs.SpotLaws.{spot_same, spot_back, child_under, under_from}

-- the entry is that of a right child of the node
pub record IsRightEntry (children : List Attached) (node : Node) (e : Spot × ℕ) : Type 0 where
  pub child : Attached
  pub here : slice_get children e.1 ≡ Some child
  pub fits : is_child node Right child ≡ true

-- these entries are left to be asked, and of the other right children of the node what is said holds
pub record IsLeft (children : List Attached) (node : Node) (P : Node → Type 0) (entries : List (Spot × ℕ)) : Type 0 where
  pub each : (e : Spot × ℕ) → Among e entries → IsRightEntry children node e
  pub others : (k : ℕ) (a : Attached) → slice_get children k ≡ Some a → is_heir (take k children) a ≡ false → is_child node Right a ≡ true
      → P a.node ⊎ ((e : Spot × ℕ) × Among e entries × (slice_get children e.1 ≡ Some a))

le_from : (r : Ordering) → is_gt r ≡ false → is_le r ≡ true
le_from Less e = refl
le_from Equal e = refl
le_from Greater e = absurd (false≢true (sym e))

not_past : (r s : Ordering) → r ≡ ordering_reverse s → s ≡ Less → not (is_le r) ≡ true
not_past r Less e f = ap (λ (o : Ordering). not (is_le o)) e
not_past r Equal e f = let no : ⊥ = cc in absurd no
not_past r Greater e f = let no : ⊥ = cc in absurd no

contained : (from to q : Spot) → IsBetween from to q → range_contains spot_cmp (Included from) (Excluded to) q ≡ true
contained from to q h =
    and_from (is_le (spot_cmp from q)) (not (is_le (spot_cmp to q))) (le_from (spot_cmp from q) h.above) (not_past (spot_cmp to q) (spot_cmp q to) (spot_back to q) h.below)

-- what is looked up is there
looked_up : (test : Spot → Bool) (es : List (Spot × ℕ)) (k : ℕ) → lookup test es ≡ Some k → (e : Spot × ℕ) × Among e es × (e.1 ≡ k)
looked_up test [] k f = absurd (none-some k f)
looked_up test (e ∷ es) k f = at (test e.0) f (looked_up test es k)
  where
    at : (b : Bool) → cond b (Some e.1) (lookup test es) ≡ Some k → (lookup test es ≡ Some k → (d : Spot × ℕ) × Among d es × (d.1 ≡ k)) → (d : Spot × ℕ) × Among d (e ∷ es) × (d.1 ≡ k)
    at true g later = (e, inl refl, same_Some e.1 k g)
    at false g later = let d = later g in (d.0, inr d.1, d.2)

right_line : (node : Node) (a : Attached) → is_child node Right a ≡ true → is_in_line (line_of node Right) a ≡ true
right_line node a e = and_from (is_child node Right a) true e refl

module _ (children : List Attached) (m : BTreeMap Spot ℕ) (index : IsIndex children (get spot_cmp m)) (node : Node) (P : Node → Type 0) where
  abbrev from : Spot
  from = ahead_of (line_of node Right)

  abbrev to : Spot
  to = behind (line_of node Right)

  -- at first all are left
  pub all_left : (r : List (Spot × ℕ)) → IsRangeOf spot_cmp (Included from) (Excluded to) m r → r ≡ entries_between spot_cmp (Included from) (Excluded to) m.entries → IsLeft children node P r
  all_left r range is = record {
    each = λ e among.
        let place = place_of r e among in
        let known : IsEntryInRange spot_cmp (Included from) (Excluded to) m e =
        subst (IsEntryInRange spot_cmp (Included from) (Excluded to) m) (get_or_from_slice_get r place.0 e e place.1) (range.0 place.0 e (slice_get_within r place.0 e place.1)) in
        let child = index.told e.0 e.1 known.1 in
        record {
          child = child.0;
          here = child.1;
          fits = (and_parts (is_child node Right child.0) true (child_under (line_of node Right) child.0 (subst (IsBetween from to) (sym child.2) (record { above = known.0.0; below = known.0.1 })))).0;
        };
    others = λ k a here other fits.
        let found : get spot_cmp m (spot_of a) ≡ Some k = index.tells k a here other in
        let test : Spot → Bool = is_at (spot_cmp (spot_of a)) in
        let kept : lookup test r ≡ Some k =
        ap (lookup test) is
        ∙ lookup-filter-keys test (range_contains spot_cmp (Included from) (Excluded to)) true
        (λ q t.
        ap (range_contains spot_cmp (Included from) (Excluded to)) (sym (spot_same (spot_of a) q t)) ∙ contained from to (spot_of a) (under_from (line_of node Right) a (right_line node a fits)))
        m.entries
        ∙ found in
        let e = looked_up test r k kept in
        inr (e.0, e.1, ap (slice_get children) e.2 ∙ here);
  }

  -- one is asked, and what is said holds of it
  pub one_asked : (e : Spot × ℕ) (rest : List (Spot × ℕ)) (child : Attached) → slice_get children e.1 ≡ Some child → P child.node → IsLeft children node P (e ∷ rest) → IsLeft children node P rest
  one_asked e rest child here holds left = record {
    each = λ d among. left.each d (inr among);
    others = λ k a there other fits.
        ⊎_elim
        (λ said. inl said)
        (λ d.
        ⊎_elim
        (λ (same : d.0 ≡ e).
        let one : child ≡ a = same_Some child a (sym here ∙ ap (λ (x : Spot × ℕ). slice_get children x.1) (sym same) ∙ d.2) in
        inl (subst (λ (x : Attached). P x.node) one holds))
        (λ later. inr (d.0, later, d.2))
        d.1)
        (left.others k a there other fits);
  }

  -- none is left
  pub none_left : IsLeft children node P [] → EveryOther P children node
  none_left left k a here other fits = ⊎_elim (λ said. said) (λ d. absurd d.1) (left.others k a here other fits)

  -- so it is where the search begins
  pub begins : (cmp : Spot → Spot → Ordering) → cmp ≡ spot_cmp → (low high : Spot) → low ≡ from → high ≡ to → (first r : List (Spot × ℕ)) → r ≡ first → IsRangeOf cmp (Included low) (Excluded high) m first
      → first ≡ entries_between cmp (Included low) (Excluded high) m.entries → IsLeft children node P r
  begins cmp by low high is_low is_high first r same range is =
      subst (IsLeft children node P) (sym same)
      (all_left first
      (subst (λ (q : Spot). IsRangeOf spot_cmp (Included from) (Excluded q) m first) is_high
      (subst (λ (q : Spot). IsRangeOf spot_cmp (Included q) (Excluded high) m first) is_low
      (subst (λ (c : Spot → Spot → Ordering). IsRangeOf c (Included low) (Excluded high) m first) by range)))
      (subst (λ (q : Spot). first ≡ entries_between spot_cmp (Included from) (Excluded q) m.entries) is_high
      (subst (λ (q : Spot). first ≡ entries_between spot_cmp (Included q) (Excluded high) m.entries) is_low
      (subst (λ (c : Spot → Spot → Ordering). first ≡ entries_between c (Included low) (Excluded high) m.entries) by is))))

  -- the next one to be asked is a right child of the node
  pub next_early : (e : Spot × ℕ) (rest : List (Spot × ℕ)) → IsLeft children node P (e ∷ rest) → e.1 < length children
  next_early e rest left = let entry = left.each e (inl refl) in slice_get_within children e.1 entry.child entry.here

  pub next_right : (e : Spot × ℕ) (rest : List (Spot × ℕ)) → IsLeft children node P (e ∷ rest) → (child : Attached) → slice_get children e.1 ≡ Some child → Among child children × (is_child node Right child ≡ true)
  next_right e rest left child here =
      let entry = left.each e (inl refl) in
      let same : entry.child ≡ child = same_Some entry.child child (sym entry.here ∙ here) in
      (got children e.1 child here, ap (is_child node Right) (sym same) ∙ entry.fits)

-- WITH THE HEIR
line_right : (node : Node) (a : Attached) → is_in_line (line_of node Right) a ≡ true → is_child node Right a ≡ true
line_right node a e = (and_parts (is_child node Right a) true e).0

module _ (children : List Attached) (node : Node) where
  -- where there is no heir, the others are all
  pub without_heir : (P : Node → Type 0) → HasNoHeir (line_of node Right) children → EveryOther P children node → EveryRightChild P children node
  without_heir P free each a among fits = let place = place_of children a among in each place.0 a place.1 (free place.0 a place.1 (right_line node a fits)) fits

  module _ (k : ℕ) (heir : IsHeirIn (line_of node Right) children k) (child : Attached) (here : slice_get children k ≡ Some child) where
    same_heir : heir.child ≡ child
    same_heir = same_Some heir.child child (sym heir.here ∙ here)

    -- the heir is a right child
    pub heir_right : Among child children × (is_child node Right child ≡ true)
    heir_right = (got children k child here, ap (is_child node Right) (sym same_heir) ∙ line_right node heir.child heir.fits)

    -- it and the others are all
    pub beside_heir : AreAttached [] children → (P : Node → Type 0) → P child.node → EveryOther P children node → EveryRightChild P children node
    beside_heir all P own each a among fits =
        let place = place_of children a among in
        heir_or_other children all (line_of node Right) Right k heir (λ (x : Attached). P x.node) (subst (λ (x : Attached). P x.node) (sym same_heir) own)
        (λ j x there other inside. each j x there other (line_right node x inside)) place.0 a place.1 (right_line node a fits)
