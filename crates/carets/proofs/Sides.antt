-- Carets keep their sides.
use Rattle.std.proofs.Common.{◌≡◌, ℕ, zero, suc, ◌<◌, ◌≤◌, nat_lt, Bool, true, false, List, [], Option, Some, None, IsSome, option_map, refl, sym, ap, ◌∙◌, arith}
use Rattle.std.specs.Prelude.{slice_get}
use Rattle.std.specs.List.Sorted.{IsStrictlySortedBy}
use Rattle.std.specs.declared.cmp.Ordering.TheVariants.{Less, Equal, Greater}
use Rattle.std.specs.Ordering.{nat_cmp}
use Rattle.std.specs.Cmp.{nat_cmp_is}
use Rattle.std.proofs.lemmas.Bool.{false≢true, ltb-true, ltb-false}
use Rattle.ew_model.specs.declared.event.Event.{Event}
use Rattle.ew_model.specs.declared.id.Id.{Id}
use Rattle.ew_model.specs.Ids.{id_eq}
use Rattle.ew_model.specs.Sets.{Among, SameElements}
use Rattle.ew_model.specs.Ancestors.{ancestors}
use Rattle.ew_model.specs.Entries.{Inserted, inserted_cmp}
use Rattle.ew_model.specs.Texts.{visible_at}
use Rattle.ew_model.specs.Tree.{Noted, all_entries, entries_over, tree, tree_on}
use Rattle.ew_model.specs.Verdicts.{IsGood}
use Rattle.ew_model.proofs.EqualSets.{same_mapped, same_tree, tree_apart, version_apart}
use Rattle.ew_model.proofs.GoodLaws.{good_laid_out}
use Rattle.ew_model.proofs.OperationLaws.{got, tree_ids_apart}
use Rattle.ew_model.proofs.OwnIndex.{sorted_visible}
use Rattle.ew_model.proofs.PlaceLaws.{same_visible}
use Rattle.ew_model.proofs.PrefixLaws.{ordered_among, over_insertions, visible_among}
use Rattle.ew_model.proofs.RunLaws.{id_itself}
use Rattle.ew_model.proofs.StemLaws.{places_cmp}
use Rattle.ew_model.proofs.TextLaws.{IdsApart}
use Rattle.carets.specs.declared.caret.Caret.{Caret}
use Rattle.carets.specs.declared.caret.Caret.TheVariants.{Root, Behind}
use Rattle.carets.specs.SideLaws.{IsHeldBy, CaretsAreAtTheirIndex, CaretsKeepTheirOrder, CharactersKeepTheirSide, EqualSetsHaveEqualSides}
use Rattle.carets.specs.Sides.{all_chars, text_chars, caret_in, char_of, is_up_to, many_up_to, side}
use Rattle.carets.proofs.Held.{chars_held}
use Rattle.carets.proofs.UpTo.{firsts, first_up_to, up_to_first, own_place, no_fewer, own_char, char_told, up_to}

-- THE CHARACTERS OF A GOOD HISTORY
pub text_sorted : (history : List Event) → IsGood history → IsStrictlySortedBy inserted_cmp (text_chars history)
unfolding tree
text_sorted history good = sorted_visible (all_entries 0 (tree_on 0 history)) (tree_apart history (good_laid_out history good))

pub chars_apart : (history : List Event) → IsGood history → IdsApart (all_chars history)
unfolding tree
chars_apart history good = tree_ids_apart history (good_laid_out history good)

text_among : (history : List Event) (z : Inserted) → Among z (text_chars history) → Among z (all_chars history)
text_among history z m = ordered_among (all_entries 0 (tree history)) z (visible_among (all_entries 0 (tree history)) z m)

-- the side of one of its characters
pub side_of : (history : List Event) (z : Inserted) → IsGood history → Among z (all_chars history) → side history (Behind z.id) ≡ firsts z (text_chars history)
side_of history z good m = ap (λ (o : Option Inserted). many_up_to o (text_chars history)) (own_char (all_chars history) z (chars_apart history good) m)

-- the caret behind a character
caret_of : (chars : List Inserted) (i : ℕ) (c : Caret) → caret_in chars (suc i) ≡ Some c → (z : Inserted) × (slice_get chars i ≡ Some z) × (c ≡ Behind z.id)
caret_of chars i c e = at (slice_get chars i) refl e
  where
    at : (o : Option Inserted) → slice_get chars i ≡ o → option_map (λ (z : Inserted). Behind z.id) o ≡ Some c → (z : Inserted) × (slice_get chars i ≡ Some z) × (c ≡ Behind z.id)
    at None q k = let no : ⊥ = cc in absurd no
    at (Some z) q k = let same : Behind z.id ≡ c = cc in (z, q, sym same)

first_caret : (c : Caret) → Some Root ≡ Some c → Root ≡ c
first_caret c e = cc

-- ITS OWN INDEX
pub own_index : CaretsAreAtTheirIndex
own_index history zero c good e = ap (side history) (sym (first_caret c e))
own_index history (suc i) c good e =
    let z = caret_of (text_chars history) i c e in
    ap (side history) z.2
    ∙ side_of history z.0 good (text_among history z.0 (got (text_chars history) i z.0 z.1))
    ∙ own_place (text_chars history) i z.0 (text_sorted history good) z.1

-- THE ORDER
version_sorted : (history : List Event) (version : List Id) → IsGood history → IsStrictlySortedBy inserted_cmp (visible_at history version)
unfolding visible_at tree
version_sorted history version good = sorted_visible (entries_over id_eq 0 (tree_on 0 history) (ancestors history version)) (version_apart history (ancestors history version) (good_laid_out history good))

greater_less : Greater ≡ Less → ⊥
greater_less e = cc

equal_less : Equal ≡ Less → ⊥
equal_less e = cc

not_less : (i j : ℕ) → i ≤ j → nat_cmp j i ≡ Less → ⊥
not_less i j le e = at (nat_lt i j) refl
  where
    at : (b : Bool) → nat_lt i j ≡ b → ⊥
    at true q = let lt : i < j = ltb-true i j q in let greater : Greater ≡ nat_cmp j i = nat_cmp_is j i Greater lt in greater_less (greater ∙ e)
    at false q = let high : j ≤ i = ltb-false i j q in let same : j ≡ i = omega (arith, le, high) in let equal : Equal ≡ nat_cmp j i = nat_cmp_is j i Equal same in equal_less (equal ∙ e)

-- an entry of a version is one of the history
version_among : (history : List Event) (version : List Id) (z : Inserted) → Among z (visible_at history version) → Among z (all_chars history)
unfolding visible_at
version_among history version z m =
    let part = entries_over id_eq 0 (tree history) (ancestors history version) in
    over_insertions id_eq 0 (tree history) (ancestors history version) z (ordered_among part z (visible_among part z m))

pub keep_order : CaretsKeepTheirOrder
keep_order xs ys version zero j c d good_xs good_ys held le e f = let none : side ys c ≡ 0 = ap (side ys) (sym (first_caret c e)) in omega (arith, none)
keep_order xs ys version (suc i) zero c d good_xs good_ys held le e f = absurd (omega (arith, le))
keep_order xs ys version (suc i) (suc j) c d good_xs good_ys held le e f =
    let seen = visible_at xs version in
    let z = caret_of seen i c e in
    let w = caret_of seen j d f in
    let there : (v : Inserted) (k : ℕ) → slice_get seen k ≡ Some v → Among v (all_chars ys) = λ v k at. chars_held xs ys good_xs good_ys held v (version_among xs version v (got seen k v at)) in
    let before : is_up_to w.0 z.0 ≡ true = up_to w.0 z.0 (λ less. not_less i j (omega (arith, le)) (sym (places_cmp seen j i w.0 z.0 (version_sorted xs version good_xs) w.1 z.1) ∙ less)) in
    let mine : side ys c ≡ firsts z.0 (text_chars ys) = ap (side ys) z.2 ∙ side_of ys z.0 good_ys (there z.0 i z.1) in
    let other : side ys d ≡ firsts w.0 (text_chars ys) = ap (side ys) w.2 ∙ side_of ys w.0 good_ys (there w.0 j w.1) in
    omega (arith, mine, other, no_fewer z.0 w.0 (text_chars ys) before)

-- THE SIDES OF CHARACTERS
some_char : (o : Option Inserted) → IsSome o → (c : Inserted) × (o ≡ Some c)
some_char (Some c) h = (c, refl)
some_char None h = absurd (false≢true h)

pub keep_sides : CharactersKeepTheirSide
keep_sides xs ys Root i j z w good_xs good_ys held holds at there same = ((λ lt. let no : i < 0 = lt in absurd (omega (arith, no))), (λ lt. let no : j < 0 = lt in absurd (omega (arith, no))))
keep_sides xs ys (Behind x) i j z w good_xs good_ys held holds at there same =
    let found = some_char (char_of (all_chars xs) x) holds in
    let c = found.0 in
    let told = char_told (all_chars xs) x c found.1 in
    let in_ys : Among c (all_chars ys) = chars_held xs ys good_xs good_ys held c told.0 in
    let one : z ≡ w = chars_apart ys good_ys z w (chars_held xs ys good_xs good_ys held z (text_among xs z (got (text_chars xs) i z at))) (text_among ys w (got (text_chars ys) j w there)) (ap (id_eq z.id) (sym same) ∙ id_itself z.id) in
    let mine : side xs (Behind x) ≡ firsts c (text_chars xs) = ap (λ y. side xs (Behind y)) (sym told.1) ∙ side_of xs c good_xs told.0 in
    let other : side ys (Behind x) ≡ firsts c (text_chars ys) = ap (λ y. side ys (Behind y)) (sym told.1) ∙ side_of ys c good_ys in_ys in
    let in_other : slice_get (text_chars ys) j ≡ Some z = there ∙ ap (λ (v : Inserted). Some v) (sym one) in (
      (λ lt. let low = first_up_to c (text_chars ys) j z (text_sorted ys good_ys) in_other (up_to_first c (text_chars xs) i z (text_sorted xs good_xs) at (omega (arith, lt, mine))) in omega (arith, low, other)),
      (λ lt. let low = first_up_to c (text_chars xs) i z (text_sorted xs good_xs) at (up_to_first c (text_chars ys) j z (text_sorted ys good_ys) in_other (omega (arith, lt, other))) in omega (arith, low, mine)),
    )

-- EQUAL SETS
same_text : (xs ys : List Event) → IsGood xs → IsGood ys → SameElements xs ys → text_chars xs ≡ text_chars ys
unfolding tree
same_text xs ys good_xs good_ys s =
    let laid_xs = good_laid_out xs good_xs in
    let laid_ys = good_laid_out ys good_ys in
    same_visible (all_entries 0 (tree_on 0 xs)) (all_entries 0 (tree_on 0 ys)) (tree_apart xs laid_xs) (tree_apart ys laid_ys)
    (same_mapped (λ (n : Noted Id). n.entry) (tree_on 0 xs) (tree_on 0 ys) (same_tree xs ys laid_xs laid_ys s))

-- what the one finds under an id, the other finds too
found_too : (xs ys : List Event) (x : Id) (c : Inserted) → IsGood xs → IsGood ys → IsHeldBy xs ys → char_of (all_chars xs) x ≡ Some c → char_of (all_chars ys) x ≡ Some c
found_too xs ys x c good_xs good_ys held e =
    let told = char_told (all_chars xs) x c e in
    ap (char_of (all_chars ys)) (sym told.1) ∙ own_char (all_chars ys) c (chars_apart ys good_ys) (chars_held xs ys good_xs good_ys held c told.0)

same_char : (xs ys : List Event) (x : Id) → IsGood xs → IsGood ys → SameElements xs ys → char_of (all_chars xs) x ≡ char_of (all_chars ys) x
same_char xs ys x good_xs good_ys s = at (char_of (all_chars xs) x) (char_of (all_chars ys) x) refl refl
  where
    at : (o p : Option Inserted) → char_of (all_chars xs) x ≡ o → char_of (all_chars ys) x ≡ p → char_of (all_chars xs) x ≡ char_of (all_chars ys) x
    at (Some c) p e f = e ∙ sym (found_too xs ys x c good_xs good_ys s.there e)
    at None (Some c) e f = found_too ys xs x c good_ys good_xs s.back f ∙ sym f
    at None None e f = e ∙ sym f

pub equal_sides : EqualSetsHaveEqualSides
equal_sides xs ys Root good_xs good_ys s = refl
equal_sides xs ys (Behind x) good_xs good_ys s = λ i. many_up_to (same_char xs ys x good_xs good_ys s i) (same_text xs ys good_xs good_ys s i)
