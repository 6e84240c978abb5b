-- Reading names one after the other, with a set of those that were read.
use Rattle.std.proofs.Common.{◌≡◌, ℕ, zero, suc, ◌+◌, ◌-◌, ◌<◌, ◌≤◌, Bool, true, false, not, cond, ◌||◌, List, [], ◌∷◌, ◌++◌, Result, Ok, refl, sym, ap, subst, ◌∙◌}
use Rattle.std.specs.List.{list_any}
use Rattle.std.proofs.lemmas.Bool.{not-true}
use Rattle.std.proofs.lemmas.List.Folds.{list_any-append}
use Rattle.ew_model.specs.Ids.{name_eq}
use Rattle.ew_model.specs.Distinct.{AreDistinct}
use Rattle.file_words.specs.FileFaults as model
use Rattle.file_words.specs.FileFaults.{Reader, field, only, go_on, read_name, read_names}
use Rattle.file_words.specs.FileFaults.RecordFault.{NameTwice}
use Rattle.ew_model.proofs.ListPlaces.{one_more_new}
use Rattle.file_words.proofs.FileFields.{tested_ok}
use Rattle.ew_model.proofs.IdLaws.{names_equal, name_exact}
use Rattle.event_file.specs.declared.fault.Stop.{Stop}
use Rattle.event_file.specs.Reading.{Stops}
use Rattle.event_file.proofs.Loops.{goes_on, ends, is_done, same_field}

-- the name isn't among these
abbrev fresh : List (List ℕ) → List ℕ → Bool
fresh names x = not (list_any (name_eq x) names)

abbrev first_name : List (List ℕ) → Reader (List ℕ)
first_name names = field read_name (only (fresh names)) NameTwice

-- the same by a set
abbrev pub unseen_name : (List ℕ → Bool) → Reader (List ℕ)
unseen_name has = field read_name (only (λ x. not (has x))) NameTwice

names_step : (names : List (List ℕ)) (n : ℕ) (bytes : List ℕ) → read_names names (suc n) bytes ≡ go_on (first_name names bytes) (λ x. read_names (names ++ x ∷ []) n)
unfolding read_names
names_step names n bytes = refl

names_last : (names : List (List ℕ)) (bytes : List ℕ) → read_names names zero bytes ≡ Ok (names, bytes)
unfolding read_names
names_last names bytes = refl

by_set : (names : List (List ℕ)) (has : List ℕ → Bool) (bytes : List ℕ) → ((x : List ℕ) → has x ≡ list_any (name_eq x) names) → unseen_name has bytes ≡ first_name names bytes
by_set names has bytes seen = same_field read_name (λ x. not (has x)) (fresh names) NameTwice bytes (λ x. ap not (seen x))

pub names_go_on : (names : List (List ℕ)) (has : List ℕ → Bool) (count i : ℕ) (bytes left name : List ℕ) (whole : Result (List (List ℕ) × List ℕ) model.Stop) → ((x : List ℕ) → has x ≡ list_any (name_eq x) names) → i < count → unseen_name has bytes ≡ Ok (name, left)
    → read_names names (count - i) bytes ≡ whole → read_names (names ++ name ∷ []) (count - (i + 1)) left ≡ whole
names_go_on names has count i bytes left name whole seen lt one so_far =
    goes_on read_names first_name names_step names_last names count i bytes left name whole lt (sym (by_set names has bytes seen) ∙ one) so_far

pub names_end : (stop : Stop) (names : List (List ℕ)) (has : List ℕ → Bool) (count i : ℕ) (bytes : List ℕ) (whole : Result (List (List ℕ) × List ℕ) model.Stop) → ((x : List ℕ) → has x ≡ list_any (name_eq x) names) → i < count → Stops stop (unseen_name has bytes)
    → read_names names (count - i) bytes ≡ whole → Stops stop whole
names_end stop names has count i bytes whole seen lt one so_far =
    ends read_names first_name names_step names_last stop names count i bytes whole lt (subst (Stops stop) (by_set names has bytes seen) one) so_far

pub names_done : (names : List (List ℕ)) (count i : ℕ) (bytes : List ℕ) (whole : Result (List (List ℕ) × List ℕ) model.Stop) → count ≤ i → read_names names (count - i) bytes ≡ whole → whole ≡ Ok (names, bytes)
names_done names count i bytes whole le so_far = is_done read_names first_name names_step names_last names count i bytes whole le so_far

-- a name that was read is new, and the set with it is that of the names with it
pub names_new : (names : List (List ℕ)) (has : List ℕ → Bool) (name bytes left : List ℕ) (more : List ℕ → Bool) → ((x : List ℕ) → has x ≡ list_any (name_eq x) names) → AreDistinct name_eq names → unseen_name has bytes ≡ Ok (name, left)
    → ((x : List ℕ) → more x ≡ cond (name_eq name x) true (has x)) → AreDistinct name_eq (names ++ name ∷ []) × ((x : List ℕ) → more x ≡ list_any (name_eq x) (names ++ name ∷ []))
names_new names has name bytes left more seen distinct one up =
    let t = tested_ok read_name (λ x. not (has x)) NameTwice bytes (name, left) one in
    let new : list_any (name_eq name) names ≡ false = sym (seen name) ∙ not-true _ t.1 in
    (one_more_new name_eq names_equal name_exact [] names name distinct new, λ x. up x ∙ ap (λ b. cond (name_eq name x) true b) (seen x) ∙ swapped (name_eq name x) (list_any (name_eq x) names) ∙ ap (λ b. list_any (name_eq x) names || (b || false)) (names_equal.symm name x) ∙ sym (list_any-append (name_eq x) names (name ∷ [])))
  where
    swapped : (a b : Bool) → cond a true b ≡ (b || (a || false))
    swapped true true = refl
    swapped true false = refl
    swapped false true = refl
    swapped false false = refl
