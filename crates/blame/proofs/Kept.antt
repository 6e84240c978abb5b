-- The visible characters, one after another.
use Rattle.std.proofs.Common.{◌≡◌, ℕ, suc, ◌+◌, ◌≤◌, true, false, not, cond, List, [], ◌∷◌, ◌++◌, map, filter, length, take, Some, slice_get, sym, ap, ◌∙◌, subst, append-nil, arith}
use Rattle.std.proofs.lemmas.List.{map-append, take_all}
use Rattle.std.proofs.lemmas.List.Elements.{filter-append}
use Rattle.ew_model.specs.declared.id.Id.{Id}
use Rattle.ew_model.specs.declared.event.Event.{Event}
use Rattle.ew_model.specs.Ancestors.{ids_of}
use Rattle.ew_model.specs.Entries.{Inserted}
use Rattle.ew_model.specs.Texts.{text_chars}
use Rattle.ew_model.proofs.ListParts.{take_next}
use Rattle.transform.specs.Placing.{AreAt}
use Rattle.undo_definitions.specs.Wanted.{chars_in_order, is_gone}
use Rattle.undo_definitions.proofs.Wants.{shown_in_order}
use Rattle.blame.specs.Letters.{AreShown, AreShownAt}

-- the visible ones among the first characters
abbrev pub shown_first : List Event → ℕ → List Inserted
shown_first history n = filter (λ z. not (is_gone history z)) (take n (chars_in_order history))

-- these are their positions and letters
pub record AreFirst (history : List Event) (n : ℕ) (places letters : List ℕ) : Type 0 where
  pub positions : AreAt history places (map (λ (z : Inserted). z.id) (shown_first history n))
  pub chars : letters ≡ map (λ (z : Inserted). z.ch) (shown_first history n)

pub first_none : (history : List Event) (positions chars : List ℕ) → positions ≡ [] → chars ≡ [] → AreFirst history 0 positions chars
first_none history positions chars no_positions no_chars = record { positions = ap (map (slice_get (ids_of history))) no_positions; chars = no_chars }

-- one more
one_more : (history : List Event) (n : ℕ) (z : Inserted) → slice_get (chars_in_order history) n ≡ Some z → shown_first history (n + 1) ≡ shown_first history n ++ cond (not (is_gone history z)) (z ∷ []) []
one_more history n z at =
    let next : n + 1 ≡ suc n = omega arith in
    ap (shown_first history) next
    ∙ ap (filter (λ y. not (is_gone history y))) (take_next (chars_in_order history) n z at)
    ∙ filter-append (λ y. not (is_gone history y)) (take n (chars_in_order history)) (z ∷ [])

pub first_kept : (history : List Event) (n : ℕ) (z : Inserted) (positions chars more letters : List ℕ) (p ch : ℕ) → slice_get (chars_in_order history) n ≡ Some z → slice_get (ids_of history) p ≡ Some z.id
    → ch ≡ z.ch → is_gone history z ≡ false → more ≡ positions ++ p ∷ [] → letters ≡ chars ++ ch ∷ []
    → AreFirst history n positions chars → AreFirst history (n + 1) more letters
first_kept history n z positions chars more letters p ch at here letter shown moved wrote h =
    let next : shown_first history (n + 1) ≡ shown_first history n ++ z ∷ [] = one_more history n z at ∙ ap (λ b. shown_first history n ++ cond (not b) (z ∷ []) []) shown in
    record {
      positions = ap (map (slice_get (ids_of history))) moved
          ∙ map-append (slice_get (ids_of history)) positions (p ∷ [])
          ∙ (λ i. h.positions i ++ here i ∷ [])
          ∙ sym (map-append (λ (x : Id). Some x) (map (λ (y : Inserted). y.id) (shown_first history n)) (z.id ∷ []))
          ∙ ap (map (λ (x : Id). Some x)) (sym (map-append (λ (y : Inserted). y.id) (shown_first history n) (z ∷ [])))
          ∙ ap (λ zs. map (λ (x : Id). Some x) (map (λ (y : Inserted). y.id) zs)) (sym next);
      chars = wrote
          ∙ (λ i. h.chars i ++ letter i ∷ [])
          ∙ sym (map-append (λ (y : Inserted). y.ch) (shown_first history n) (z ∷ []))
          ∙ ap (map (λ (y : Inserted). y.ch)) (sym next);
    }

pub first_passed : (history : List Event) (n : ℕ) (z : Inserted) (positions chars : List ℕ) → slice_get (chars_in_order history) n ≡ Some z → is_gone history z ≡ true
    → AreFirst history n positions chars → AreFirst history (n + 1) positions chars
first_passed history n z positions chars at gone h =
    let same : shown_first history n ≡ shown_first history (n + 1) =
    sym (one_more history n z at ∙ ap (λ b. shown_first history n ++ cond (not b) (z ∷ []) []) gone ∙ append-nil (shown_first history n)) in
    record {
      positions = h.positions ∙ ap (λ zs. map (λ (x : Id). Some x) (map (λ (y : Inserted). y.id) zs)) same;
      chars = h.chars ∙ ap (map (λ (y : Inserted). y.ch)) same;
    }

-- the same lists, named otherwise
pub first_as : (history : List Event) (n : ℕ) (positions chars more letters : List ℕ) → more ≡ positions → letters ≡ chars → AreFirst history n positions chars → AreFirst history n more letters
first_as history n positions chars more letters same_positions same_chars h =
    subst (λ ps. AreFirst history n ps letters) (sym same_positions) (subst (λ cs. AreFirst history n positions cs) (sym same_chars) h)

-- all
all_first : (history : List Event) (n : ℕ) → length (chars_in_order history) ≤ n → shown_first history n ≡ text_chars history
all_first history n long = ap (filter (λ z. not (is_gone history z))) (take_all n (chars_in_order history) long) ∙ sym (shown_in_order history)

pub positions_all : (history : List Event) (n : ℕ) (positions chars : List ℕ) → length (chars_in_order history) ≤ n → AreFirst history n positions chars → AreShownAt history positions
positions_all history n positions chars long h = h.positions ∙ ap (λ zs. map (λ (x : Id). Some x) (map (λ (y : Inserted). y.id) zs)) (all_first history n long)

pub chars_all : (history : List Event) (n : ℕ) (positions chars : List ℕ) → length (chars_in_order history) ≤ n → AreFirst history n positions chars → AreShown history chars
chars_all history n positions chars long h = h.chars ∙ ap (map (λ (y : Inserted). y.ch)) (all_first history n long)
