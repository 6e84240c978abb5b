-- Places of elements that pass a test, and words that tell several ids.
use Rattle.std.proofs.Common.{◌≡◌, ◌⊎◌, ℕ, ◌<◌, ◌≤◌, Bool, true, false, cond, not, nat_lt, List, [], ◌∷◌, length, Some, None, get_or, slice_get, unwrap_or, inl, inr, refl, sym, ap, ◌∙◌, arith}
use Rattle.std.specs.Prelude.{find, position}
use Rattle.std.specs.List.{position_or_len}
use Rattle.std.proofs.lemmas.Bool.{ltb-false}
use Rattle.std.proofs.lemmas.List.Folds.{find_at}
use Rattle.std.proofs.lemmas.List.Sums.{prefix_len-le-length}
use Rattle.std.proofs.lemmas.Option.{slice_get_cases, slice_get_within}
use Rattle.ew_model.specs.declared.id.Id.{Id}
use Rattle.history_definitions.specs.Versions.{IsVersion}
use Rattle.history_definitions.proofs.IdTexts.{version_once}
use Rattle.egw_c.specs.Words.{IsNoId}

within_or : (k n : ℕ) (b : Bool) → nat_lt k n ≡ b → k ≤ n → unwrap_or (cond b (Some k) None) n ≡ k
within_or k n true e le = refl
within_or k n false e le = omega (arith, ltb-false k n e, le)

-- the first place, or the length, where no element passes
pub place_or_length : {X : Type 0} (p : X → Bool) (xs : List X) → unwrap_or (position p xs) (length xs) ≡ position_or_len p xs
place_or_length p xs = within_or (position_or_len p xs) (length xs) (nat_lt (position_or_len p xs) (length xs)) refl (prefix_len-le-length (λ x. not (p x)) xs)

-- where one passes, the first place is in the list
pub place_within : {X : Type 0} (p : X → Bool) (xs : List X) (x : X) → find p xs ≡ Some x → position_or_len p xs < length xs
place_within p xs x e = slice_get_within xs (position_or_len p xs) x (sym (find_at p xs) ∙ e)

-- where none passes, the first place is the length
pub place_past : {X : Type 0} (p : X → Bool) (xs : List X) → ((x : X) → find p xs ≡ Some x → ⊥) → position_or_len p xs ≡ length xs
place_past {X = X} p xs none = by_cases (slice_get_cases xs (position_or_len p xs)).1
  where
    by_cases : ((x : X) × (position_or_len p xs < length xs) × (slice_get xs (position_or_len p xs) ≡ Some x) × (get_or xs (position_or_len p xs) x ≡ x))
        ⊎ ((length xs ≤ position_or_len p xs) × (slice_get xs (position_or_len p xs) ≡ None)) → position_or_len p xs ≡ length xs
    by_cases (inl h) = absurd (none h.0 (find_at p xs ∙ h.2))
    by_cases (inr h) = omega (arith, h.0, prefix_len-le-length (λ x. not (p x)) xs)

-- words that are the version of other than one id are no id
pub no_single : (words : List ℕ) (ids : List Id) → IsVersion words ids → (length ids ≡ 1 → ⊥) → IsNoId words
no_single words ids v other x single = other (ap length (version_once ids (x ∷ []) v.sound single.sound (v.spelled ∙ sym single.spelled)))
