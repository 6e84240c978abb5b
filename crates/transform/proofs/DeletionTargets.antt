-- The deletions of a history as pairs, and what changes with each.
use Rattle.std.proofs.Common.{◌≡◌, ℕ, zero, suc, ◌≤◌, Bool, true, false, ◌||◌, List, [], ◌∷◌, ◌++◌, map, length, set, take, replicate, Option, Some, slice_get, refl, sym, ap, ◌∙◌, subst}
use Rattle.std.specs.List.{list_any, cons_option, AllByRecursion}
use Rattle.std.proofs.lemmas.List.{length-map, take_all}
use Rattle.std.proofs.lemmas.List.Folds.{list_any-append}
use Rattle.ew_model.specs.declared.id.Id.{Id}
use Rattle.ew_model.specs.declared.event.Event.{Event}
use Rattle.ew_model.specs.Ids.{id_eq}
use Rattle.ew_model.specs.Ancestors.{ids_of}
use Rattle.ew_model.specs.Entries.{Entry, deletes, is_deleted}
use Rattle.ew_model.specs.Entries.Entry.{Insertion, Deletion, Mark}
use Rattle.ew_model.specs.Tree.{Noted, all_entries, tree}
use Rattle.ew_model.specs.Verdicts.{IsGood}
use Rattle.ew_model.proofs.CoverLaws.{ids_alike}
use Rattle.ew_model.proofs.GoodLaws.{good_laid_out}
use Rattle.ew_model.proofs.GraphAlike as alike
use Rattle.ew_model.proofs.ListParts.{take_next}
use Rattle.ew_model.proofs.ListPlaces.{some_is}
use Rattle.ew_model.proofs.OperationLaws.{got}
use Rattle.ew_model.proofs.SetLaws.{among_map}
use Rattle.ew_model.proofs.SortingLaws.{all_at}
use Rattle.transform.specs.Placing.{deletion_by, deletions_in, ids_at, AreTargets}
use Rattle.transform.specs.Places.{are_deleted}

-- THE DELETIONS AS PAIRS
-- one of these deletes the id
abbrev pub is_target : List (Id × Id) → Id → Bool
is_target ds x = list_any (λ (d : Id × Id). id_eq d.1 x) ds

pub all_pairs : (notes : List (Noted Id)) (x : Id) → is_deleted (all_entries 0 notes) x ≡ is_target (deletions_in notes) x
all_pairs [] x = refl
all_pairs (n ∷ notes) x = at n.entry (all_pairs notes x)
  where
    at : (e : Entry) → is_deleted (all_entries 0 notes) x ≡ is_target (deletions_in notes) x → (deletes x e || is_deleted (all_entries 0 notes) x) ≡ is_target (cons_option (deletion_by n.name e) (deletions_in notes)) x
    at (Insertion y) h = h
    at (Deletion t) h = ap (λ b. id_eq t x || b) h
    at Mark h = h

-- A LIST WITH A VALUE FOR EACH EVENT
pub map_agree : {X Y : Type 0} (f g : X → Y) (xs : List X) → ((x : X) → f x ≡ g x) → map f xs ≡ map g xs
map_agree f g [] h = refl
map_agree f g (x ∷ xs) h = λ i. h x i ∷ map_agree f g xs h i

-- one value for all
pub one_for_all : {Y : Type 0} (f : Id → Y) (y : Y) (history : List Event) → ((x : Id) → f x ≡ y) → replicate (length history) y ≡ map f (ids_of history)
one_for_all f y [] h = refl
one_for_all f y (e ∷ history) h = λ i. sym (h e.id) i ∷ one_for_all f y history h i

abbrev pub AreDistinct : List Event → Type 0
AreDistinct history = alike.AreDistinct (λ (e : Event). e.id) (λ (e : Event). e.parents) id_eq history

pub good_distinct : (history : List Event) → IsGood history → AreDistinct history
good_distinct history good = alike.laid_distinct (λ (e : Event). e.id) (λ (e : Event). e.parents) id_eq [] history (good_laid_out history good)

-- another value for one of them
module _ {Y : Type 0} (f g : Id → Y) (t : Id) (agree : (x : Id) → id_eq t x ≡ false → f x ≡ g x) where
  others_agree : (history : List Event) → AllByRecursion (λ (e : Event). id_eq e.id t ≡ false) history → map f (ids_of history) ≡ map g (ids_of history)
  others_agree [] h = refl
  others_agree (e ∷ history) h = λ i. agree e.id (ids_alike.symm t e.id ∙ h.0) i ∷ others_agree history h.1 i

  pub set_one : (history : List Event) (n : ℕ) → AreDistinct history → slice_get (ids_of history) n ≡ Some t → set (map f (ids_of history)) n (g t) ≡ map g (ids_of history)
  set_one [] n h at = let no : ⊥ = cc in absurd no
  set_one (e ∷ history) zero h at =
      let one : e.id ≡ t = some_is e.id t at in
      λ i. g (sym one i) ∷ others_agree history (subst (λ x. AllByRecursion (λ (k : Event). id_eq k.id x ≡ false) history) one h.0) i
  set_one (e ∷ history) (suc n) h at =
      let from = among_map (λ (k : Event). k.id) history t (got (ids_of history) n t at) in
      let apart : id_eq t e.id ≡ false = ap (λ x. id_eq x e.id) from.2 ∙ all_at (λ (k : Event). id_eq k.id e.id ≡ false) history from.0 h.0 from.1 in
      λ i. agree e.id apart i ∷ set_one history n h.1 at i

-- THE TARGETS
-- a pair of positions is that of a deletion
pub record IsPair (history : List Event) (pair : ℕ × ℕ) (d : Id × Id) : Type 0 where
  pub deletion : slice_get (ids_of history) pair.0 ≡ Some d.0
  pub target : slice_get (ids_of history) pair.1 ≡ Some d.1

pair_at : (history : List Event) (pairs : List (ℕ × ℕ)) (ds : List (Id × Id)) (n : ℕ) (pair : ℕ × ℕ) → map (ids_at history) pairs ≡ map (λ (d : Id × Id). (Some d.0, Some d.1)) ds → slice_get pairs n ≡ Some pair
    → (d : Id × Id) × (slice_get ds n ≡ Some d) × IsPair history pair d
pair_at history [] ds n pair are at = let no : ⊥ = cc in absurd no
pair_at history (p ∷ pairs) [] n pair are at = let no : ⊥ = cc in absurd no
pair_at history (p ∷ pairs) (d ∷ ds) zero pair are at =
    let one : p ≡ pair = some_is p pair at in
    let first : ids_at history p ≡ (Some d.0, Some d.1) = cc in
    let here : ids_at history pair ≡ (Some d.0, Some d.1) = ap (ids_at history) (sym one) ∙ first in
    (d, refl, record { deletion = ap (λ (k : Option Id × Option Id). k.0) here; target = ap (λ (k : Option Id × Option Id). k.1) here })
pair_at history (p ∷ pairs) (d ∷ ds) (suc n) pair are at =
    let rest : map (ids_at history) pairs ≡ map (λ (c : Id × Id). (Some c.0, Some c.1)) ds = cc in
    pair_at history pairs ds n pair rest at

pub targets_long : (history : List Event) (pairs : List (ℕ × ℕ)) → AreTargets history pairs → length pairs ≡ length (deletions_in (tree history))
targets_long history pairs are =
    sym (length-map pairs (ids_at history)) ∙ ap (length {A = Option Id × Option Id}) are ∙ length-map (deletions_in (tree history)) (λ (d : Id × Id). (Some d.0, Some d.1))

pub pair_there : (history : List Event) (pairs : List (ℕ × ℕ)) (n : ℕ) (pair : ℕ × ℕ) → AreTargets history pairs → slice_get pairs n ≡ Some pair
    → (d : Id × Id) × (slice_get (deletions_in (tree history)) n ≡ Some d) × IsPair history pair d
pair_there history pairs n pair are at = pair_at history pairs (deletions_in (tree history)) n pair are at

-- ONE DELETION MORE
-- what is deleted by the first deletions
abbrev pub deleted_by : List Event → ℕ → List Bool
deleted_by history n = map (is_target (take n (deletions_in (tree history)))) (ids_of history)

one_more : (front : List (Id × Id)) (d : Id × Id) (x : Id) (b : Bool) → id_eq d.1 x ≡ b → is_target (front ++ d ∷ []) x ≡ (is_target front x || (b || false))
one_more front d x b q = list_any-append (λ (c : Id × Id). id_eq c.1 x) front (d ∷ []) ∙ ap (λ c. is_target front x || (c || false)) q

its_target : (front : List (Id × Id)) (d : Id × Id) → is_target (front ++ d ∷ []) d.1 ≡ true
its_target front d = one_more front d d.1 true (ids_alike.refl d.1) ∙ at (is_target front d.1)
  where
    at : (a : Bool) → (a || true) ≡ true
    at true = refl
    at false = refl

other_target : (front : List (Id × Id)) (d : Id × Id) (x : Id) → id_eq d.1 x ≡ false → is_target front x ≡ is_target (front ++ d ∷ []) x
other_target front d x q = sym (one_more front d x false q ∙ at (is_target front x))
  where
    at : (a : Bool) → (a || false) ≡ a
    at true = refl
    at false = refl

-- the next one deletes its target alone
pub deleted_next : (history : List Event) (n : ℕ) (pair : ℕ × ℕ) (d : Id × Id) → IsGood history → slice_get (deletions_in (tree history)) n ≡ Some d → IsPair history pair d
    → set (deleted_by history n) pair.1 true ≡ deleted_by history (suc n)
deleted_next history n pair d good at is =
    let ds = deletions_in (tree history) in
    let front = take n ds in
    ap (set (deleted_by history n) pair.1) (sym (its_target front d))
    ∙ set_one (is_target front) (is_target (front ++ d ∷ [])) d.1 (other_target front d) history pair.1 (good_distinct history good) is.target
    ∙ ap (λ (front : List (Id × Id)). map (is_target front) (ids_of history)) (sym (take_next ds n d at))

pub deleted_long : (history : List Event) (n : ℕ) → length (deleted_by history n) ≡ length history
deleted_long history n = length-map (ids_of history) (is_target (take n (deletions_in (tree history)))) ∙ length-map history (λ (e : Event). e.id)

-- all of them delete what is deleted
pub deleted_all : (history : List Event) (pairs : List (ℕ × ℕ)) (n : ℕ) → AreTargets history pairs → length pairs ≤ n → deleted_by history n ≡ are_deleted history
deleted_all history pairs n are long =
    ap (λ (ds : List (Id × Id)). map (is_target ds) (ids_of history)) (take_all n (deletions_in (tree history)) (subst (λ k. k ≤ n) (targets_long history pairs are) long))
    ∙ map_agree (is_target (deletions_in (tree history))) (is_deleted (all_entries 0 (tree history))) (ids_of history) (λ x. sym (all_pairs (tree history) x))
