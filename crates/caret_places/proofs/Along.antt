-- The carets behind characters, one after another in the order of the tree.
use Rattle.std.proofs.Common.{◌≡◌, ℕ, zero, suc, ◌+◌, ◌≤◌, Bool, true, false, not, cond, inl, List, [], ◌∷◌, ◌++◌, map, filter, length, set, take, Option, Some, None, slice_get, refl, sym, ap, ◌∙◌, subst, arith}
use Rattle.std.specs.List.Sorted.{IsStrictlySortedBy}
use Rattle.std.specs.Option.{option_or}
use Rattle.std.specs.declared.cmp.Ordering.TheVariants.{Less}
use Rattle.std.proofs.lemmas.List.{length-map, take_all}
use Rattle.std.proofs.lemmas.List.Folds.{find-append}
use Rattle.ew_model.specs.declared.id.Id.{Id}
use Rattle.ew_model.specs.declared.event.Event.{Event}
use Rattle.ew_model.specs.Sets.{Among}
use Rattle.ew_model.specs.Ids.{id_eq}
use Rattle.ew_model.specs.Ancestors.{ids_of}
use Rattle.ew_model.specs.Entries.{Inserted, Entry, inserted_cmp, insertions, is_deleted, order, visible}
use Rattle.ew_model.specs.Tree.{all_entries, tree}
use Rattle.ew_model.specs.Verdicts.{IsGood}
use Rattle.ew_model.proofs.EqualSets.{tree_apart}
use Rattle.ew_model.proofs.GoodLaws.{good_laid_out}
use Rattle.ew_model.proofs.GraphAlike.{among_take}
use Rattle.ew_model.proofs.ListParts.{length-filter-le, take_next}
use Rattle.ew_model.proofs.ListTests.{count-append}
use Rattle.ew_model.proofs.OperationLaws.{got}
use Rattle.ew_model.proofs.OwnIndex.{sorted_order}
use Rattle.ew_model.proofs.PlaceLaws.{placed_total}
use Rattle.ew_model.proofs.PrefixLaws.{ordered_among}
use Rattle.ew_model.proofs.SetLaws.{among_filter, joined_right}
use Rattle.ew_model.proofs.SortingLaws.{all_at, among_sort}
use Rattle.ew_model.proofs.TextLaws.{IdsApart}
use Rattle.carets.specs.declared.caret.Caret.TheVariants.{Behind}
use Rattle.carets.specs.Sides.{all_chars, text_chars, char_of, is_up_to, many_up_to, side}
use Rattle.carets.proofs.Sides.{chars_apart}
use Rattle.carets.proofs.UpTo.{firsts, none_up_to, not_up_to, up_to_before, up_to_itself, own_char, char_told}
use Rattle.transform.proofs.TextOrder.{chars}
use Rattle.transform.proofs.DeletionTargets.{good_distinct, map_agree, set_one}
use Rattle.caret_places.specs.Indexes.{sides_of}

-- THOSE UP TO A CHARACTER
-- what is kept of sorted characters up to the one at a place is what is kept of the first ones
pub kept_up_to : (keep : Inserted → Bool) (zs : List Inserted) (n : ℕ) (z : Inserted) → IsStrictlySortedBy inserted_cmp zs → slice_get zs n ≡ Some z → firsts z (filter keep zs) ≡ length (filter keep (take (suc n) zs))
unfolding IsStrictlySortedBy
kept_up_to keep [] n z sorted at = let no : ⊥ = cc in absurd no
kept_up_to keep (w ∷ ws) zero z sorted at =
    let same : w ≡ z = cc in
    let none : firsts w (filter keep ws) ≡ 0 = none_up_to w (filter keep ws) (λ v m. not_up_to w v (all_at (λ (u : Inserted). inserted_cmp w u ≡ Less) ws v sorted.0 (among_filter keep ws v m).0)) in
    ap (λ (v : Inserted). firsts v (filter keep (w ∷ ws))) (sym same) ∙ by (keep w) none
  where
    by : (b : Bool) → firsts w (filter keep ws) ≡ 0 → firsts w (cond b (w ∷ filter keep ws) (filter keep ws)) ≡ length (cond b (w ∷ []) [])
    by true none = ap (λ (c : Bool). length (cond c (w ∷ filter (is_up_to w) (filter keep ws)) (filter (is_up_to w) (filter keep ws)))) (up_to_itself w) ∙ ap suc none
    by false none = none
kept_up_to keep (w ∷ ws) (suc n) z sorted at =
    let before : inserted_cmp w z ≡ Less = all_at (λ (v : Inserted). inserted_cmp w v ≡ Less) ws z sorted.0 (got ws n z at) in
    by (keep w) (up_to_before z w z before (up_to_itself z)) (kept_up_to keep ws n z sorted.1 at)
  where
    by : (b : Bool) → is_up_to z w ≡ true → firsts z (filter keep ws) ≡ length (filter keep (take (suc n) ws)) → firsts z (cond b (w ∷ filter keep ws) (filter keep ws)) ≡ length (cond b (w ∷ filter keep (take (suc n) ws)) (filter keep (take (suc n) ws)))
    by true up rest = ap (λ (c : Bool). length (cond c (w ∷ filter (is_up_to z) (filter keep ws)) (filter (is_up_to z) (filter keep ws)))) up ∙ ap suc rest
    by false up rest = rest

-- BY THEIR IDS
or_none : {X : Type 0} (o : Option X) → option_or o None ≡ o
or_none None = refl
or_none (Some x) = refl

-- what is found among the first ones is found with one more, where that has another id
other_char : (zs : List Inserted) (z : Inserted) (x : Id) → id_eq z.id x ≡ false → char_of zs x ≡ char_of (zs ++ z ∷ []) x
other_char zs z x q = sym (
    find-append (λ (w : Inserted). id_eq w.id x) zs (z ∷ [])
    ∙ ap (λ b. option_or (char_of zs x) (cond b (Some z) None)) q
    ∙ or_none (char_of zs x)
    )

module _ (history : List Event) where
  -- the character is shown
  abbrev pub is_shown : Inserted → Bool
  is_shown z = not (is_deleted (all_entries 0 (tree history)) z.id)

  -- how many of the first characters are shown
  abbrev pub shown_first : ℕ → ℕ
  shown_first n = length (filter is_shown (take n (chars history)))

  -- the index of the caret behind the character with an id, if it is one of the first
  abbrev pub side_by : ℕ → Id → ℕ
  side_by n x = many_up_to (char_of (take n (chars history)) x) (text_chars history)

  abbrev pub sides_by : ℕ → List ℕ
  sides_by n = map (side_by n) (ids_of history)

  pub sides_long : (n : ℕ) → length (sides_by n) ≡ length history
  sides_long n = length-map (ids_of history) (side_by n) ∙ length-map history (λ (e : Event). e.id)

  -- one character more
  pub shown_next : (n : ℕ) (z : Inserted) → slice_get (chars history) n ≡ Some z → shown_first (suc n) ≡ shown_first n + cond (is_shown z) 1 0
  shown_next n z at =
      ap (λ (zs : List Inserted). length (filter is_shown zs)) (take_next (chars history) n z at)
      ∙ count-append is_shown (take n (chars history)) (z ∷ [])
      ∙ ap (λ k. shown_first n + k) (by (is_shown z))
    where
      by : (b : Bool) → length (cond b (z ∷ []) []) ≡ cond b 1 0
      by true = refl
      by false = refl

  -- the index behind it is one more where it is shown
  pub side_next : (n : ℕ) (z : Inserted) (before after : ℕ) (deleted : Bool) → slice_get (chars history) n ≡ Some z → before ≡ shown_first n → deleted ≡ is_deleted (all_entries 0 (tree history)) z.id → after ≡ before + cond deleted 0 1
      → after ≡ shown_first (suc n)
  side_next n z before after deleted at first mark side =
      let step : Bool → ℕ = λ b. cond b 0 1 in
      side
      ∙ ap (λ k. k + step deleted) first
      ∙ ap (λ b. shown_first n + step b) mark
      ∙ ap (λ k. shown_first n + k) (by (is_deleted (all_entries 0 (tree history)) z.id))
      ∙ sym (shown_next n z at)
    where
      by : (b : Bool) → ◌≡◌ {A = ℕ} (cond b 0 1) (cond (not b) 1 0)
      by true = refl
      by false = refl

  pub few_shown : (n : ℕ) → shown_first n ≤ n
  few_shown n = omega (arith, length-filter-le is_shown (take n (chars history)), short n (chars history))
    where
      short : (n : ℕ) (zs : List Inserted) → length (take n zs) ≤ n
      short zero zs = omega arith
      short (suc n) [] = omega arith
      short (suc n) (z ∷ zs) = omega (arith, short n zs)

  module _ (good : IsGood history) where
    chars_sorted : IsStrictlySortedBy inserted_cmp (chars history)
    unfolding tree
    chars_sorted = sorted_order (all_entries 0 (tree history)) (tree_apart history (good_laid_out history good))

    order_apart : IdsApart (chars history)
    order_apart u v mu mv e =
        let entries = all_entries 0 (tree history) in
        chars_apart history good u v (ordered_among entries u mu) (ordered_among entries v mv) e

    first_apart : (n : ℕ) → IdsApart (take n (chars history))
    first_apart n u v mu mv e = order_apart u v (among_take n (chars history) u mu) (among_take n (chars history) v mv) e

    own_side : (n : ℕ) (z : Inserted) → slice_get (chars history) n ≡ Some z → side_by (suc n) z.id ≡ shown_first (suc n)
    unfolding visible
    own_side n z at =
        let last : Among z (take (suc n) (chars history)) = subst (Among z) (sym (take_next (chars history) n z at)) (joined_right (take n (chars history)) (z ∷ []) z (inl refl)) in
        ap (λ (o : Option Inserted). many_up_to o (text_chars history)) (own_char (take (suc n) (chars history)) z (first_apart (suc n)) last)
        ∙ kept_up_to is_shown (chars history) n z chars_sorted at

    -- the next character gives its own event its index, and no other
    pub sides_next : (n p : ℕ) (z : Inserted) → slice_get (chars history) n ≡ Some z → slice_get (ids_of history) p ≡ Some z.id → set (sides_by n) p (shown_first (suc n)) ≡ sides_by (suc n)
    sides_next n p z at there =
        let other : (x : Id) → id_eq z.id x ≡ false → side_by n x ≡ side_by (suc n) x =
        λ x q. ap (λ (o : Option Inserted). many_up_to o (text_chars history)) (other_char (take n (chars history)) z x q ∙ ap (λ (zs : List Inserted). char_of zs x) (sym (take_next (chars history) n z at))) in
        ap (set (sides_by n) p) (sym (own_side n z at))
        ∙ set_one (side_by n) (side_by (suc n)) z.id other history p (good_distinct history good) there

    -- in the order of the tree the same is found under an id as among the events
    ordered_char : (x : Id) → char_of (chars history) x ≡ char_of (all_chars history) x
    unfolding order
    ordered_char x = at (char_of (chars history) x) (char_of (all_chars history) x) refl refl
      where
        entries : List Entry
        entries = all_entries 0 (tree history)

        found : (z : Inserted) → char_of (chars history) x ≡ Some z → char_of (all_chars history) x ≡ Some z
        found z e =
            let told = char_told (chars history) x z e in
            ap (char_of (all_chars history)) (sym told.1) ∙ own_char (all_chars history) z (chars_apart history good) (ordered_among entries z told.0)

        back : (z : Inserted) → char_of (all_chars history) x ≡ Some z → char_of (chars history) x ≡ Some z
        back z e =
            let told = char_told (all_chars history) x z e in
            ap (char_of (chars history)) (sym told.1) ∙ own_char (chars history) z order_apart (among_sort placed_total (insertions entries) z told.0)

        at : (o p : Option Inserted) → char_of (chars history) x ≡ o → char_of (all_chars history) x ≡ p → char_of (chars history) x ≡ char_of (all_chars history) x
        at (Some z) p e f = e ∙ sym (found z e)
        at None (Some z) e f = back z f ∙ sym f
        at None None e f = e ∙ sym f

    -- with all characters each caret has its index
    pub sides_all : (n : ℕ) → length (chars history) ≤ n → sides_by n ≡ sides_of history
    sides_all n long =
        map_agree (side_by n) (λ (x : Id). side history (Behind x)) (ids_of history) (λ x.
        ap (λ (o : Option Inserted). many_up_to o (text_chars history)) (ap (λ (zs : List Inserted). char_of zs x) (take_all n (chars history) long) ∙ ordered_char x))
