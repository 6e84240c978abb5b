-- The fate of each character, by the deletions one after another.
use Rattle.std.proofs.Common.{◌≡◌, ℕ, suc, ◌≤◌, Bool, true, false, not, cond, ◌&&◌, ◌||◌, List, [], ◌∷◌, ◌++◌, map, filter, length, get_or, set, take, option_map, Option, Some, slice_get, refl, sym, ap, ◌∙◌, subst}
use Rattle.std.specs.List.{list_any, cons_option}
use Rattle.std.proofs.lemmas.List.{length-map, take_all}
use Rattle.std.proofs.lemmas.List.Folds.{list_any-append}
use Rattle.std.proofs.lemmas.Option.{slice_get-map, get_or_from_slice_get}
use Rattle.ew_model.specs.declared.id.Id.{Id}
use Rattle.ew_model.specs.declared.event.Event.{Event}
use Rattle.ew_model.specs.Ids.{id_eq, is_among}
use Rattle.ew_model.specs.Ancestors.{ids_of}
use Rattle.ew_model.specs.Entries.{Entry, is_deleted}
use Rattle.ew_model.specs.Entries.Entry.{Insertion, Deletion, Mark}
use Rattle.ew_model.specs.Tree.{Noted, tree}
use Rattle.ew_model.specs.Verdicts.{IsGood}
use Rattle.ew_model.proofs.CoverLaws.{ids_alike}
use Rattle.ew_model.proofs.ListParts.{take_next}
use Rattle.transform.specs.Placing.{deletion_by, deletions_in, AreTargets}
use Rattle.transform.proofs.DeletionTargets.{IsPair, is_target, all_pairs, map_agree, good_distinct, set_one, targets_long}
use Rattle.undo_definitions.specs.Wanted.{left_by_others}
use Rattle.undo.specs.declared.fate.Fate.{Fate}
use Rattle.undo.specs.Fates.{fate_by, fate_of, fates_of, with_deletion}

-- THE DELETIONS AS PAIRS
-- one of these that isn't undone deletes the id
abbrev pub is_target_of_others : List Id → List (Id × Id) → Id → Bool
is_target_of_others undone ds x = list_any (λ (d : Id × Id). not (is_among undone d.0) && id_eq d.1 x) ds

-- what they say of a character
abbrev pub fate_among : List Id → List (Id × Id) → Id → Fate
fate_among undone ds x = fate_by (is_target ds x) (is_target_of_others undone ds x)

others_pairs : (undone : List Id) (notes : List (Noted Id)) (x : Id) → is_deleted (left_by_others undone notes) x ≡ is_target_of_others undone (deletions_in notes) x
others_pairs undone [] x = refl
others_pairs undone (n ∷ notes) x = at (not (is_among undone n.name)) n.entry refl (others_pairs undone notes x)
  where
    left : List (Noted Id)
    left = filter (λ (m : Noted Id). not (is_among undone m.name)) notes

    at : (b : Bool) (e : Entry) → not (is_among undone n.name) ≡ b → is_deleted (left_by_others undone notes) x ≡ is_target_of_others undone (deletions_in notes) x
        → is_deleted (map (λ (m : Noted Id). m.entry) (cond b (record { name = n.name; entry = e } ∷ left) left)) x ≡ is_target_of_others undone (cons_option (deletion_by n.name e) (deletions_in notes)) x
    at true (Insertion y) q h = h
    at false (Insertion y) q h = h
    at true Mark q h = h
    at false Mark q h = h
    at true (Deletion t) q h = λ i. (sym q i && id_eq t x) || h i
    at false (Deletion t) q h = h ∙ ap (λ b. (b && id_eq t x) || is_target_of_others undone (deletions_in notes) x) (sym q)

-- all deletions say what the history does
same_fate : (history : List Event) (undone : List Id) (x : Id) → fate_among undone (deletions_in (tree history)) x ≡ fate_of history undone x
same_fate history undone x = λ i. fate_by (sym (all_pairs (tree history) x) i) (sym (others_pairs undone (tree history) x) i)

pub same_fates : (history : List Event) (undone : List Id) → map (fate_among undone (deletions_in (tree history))) (ids_of history) ≡ fates_of history undone
same_fates history undone = map_agree (fate_among undone (deletions_in (tree history))) (fate_of history undone) (ids_of history) (same_fate history undone)

-- ONE DELETION MORE
hit : (u : Bool) (a b : Bool) → fate_by (a || (true || false)) (b || ((not u && true) || false)) ≡ with_deletion (fate_by a b) u
hit true true true = refl
hit true true false = refl
hit true false true = refl
hit true false false = refl
hit false true true = refl
hit false true false = refl
hit false false true = refl
hit false false false = refl

missed : (u : Bool) (a b : Bool) → fate_by (a || (false || false)) (b || ((not u && false) || false)) ≡ fate_by a b
missed true true true = refl
missed true true false = refl
missed true false true = refl
missed true false false = refl
missed false true true = refl
missed false true false = refl
missed false false true = refl
missed false false false = refl

module _ (undone : List Id) (front : List (Id × Id)) (d : Id × Id) where
  both : (x : Id) (e : Bool) → id_eq d.1 x ≡ e → fate_among undone (front ++ d ∷ []) x ≡ fate_by (is_target front x || (e || false)) (is_target_of_others undone front x || ((not (is_among undone d.0) && e) || false))
  both x e q =
      (λ i. fate_by (list_any-append (λ (c : Id × Id). id_eq c.1 x) front (d ∷ []) i) (list_any-append (λ (c : Id × Id). not (is_among undone c.0) && id_eq c.1 x) front (d ∷ []) i))
      ∙ (λ i. fate_by (is_target front x || (q i || false)) (is_target_of_others undone front x || ((not (is_among undone d.0) && q i) || false)))

  pub its_target : fate_among undone (front ++ d ∷ []) d.1 ≡ with_deletion (fate_among undone front d.1) (is_among undone d.0)
  its_target = both d.1 true (ids_alike.refl d.1) ∙ hit (is_among undone d.0) (is_target front d.1) (is_target_of_others undone front d.1)

  pub other_target : (x : Id) → id_eq d.1 x ≡ false → fate_among undone (front ++ d ∷ []) x ≡ fate_among undone front x
  other_target x q = both x false q ∙ missed (is_among undone d.0) (is_target front x) (is_target_of_others undone front x)

-- THE TARGETS
-- the fates by the first deletions
abbrev pub fates_by : List Event → List Id → ℕ → List Fate
fates_by history undone n = map (fate_among undone (take n (deletions_in (tree history)))) (ids_of history)

-- the fate at a position
pub fate_there : (f : Id → Fate) (history : List Event) (p : ℕ) (x : Id) (fate : Fate) → slice_get (ids_of history) p ≡ Some x → fate ≡ get_or (map f (ids_of history)) p fate → fate ≡ f x
fate_there f history p x fate at is = is ∙ get_or_from_slice_get (map f (ids_of history)) p (f x) fate (slice_get-map f (ids_of history) p ∙ ap (λ (o : Option Id). option_map f o) at)

-- the next deletion changes the fate of its target alone
pub fates_next : (history : List Event) (undone : List Id) (n : ℕ) (pair : ℕ × ℕ) (d : Id × Id) (fate : Fate) → IsGood history → slice_get (deletions_in (tree history)) n ≡ Some d → IsPair history pair d
    → fate ≡ fate_among undone (take n (deletions_in (tree history))) d.1
    → set (fates_by history undone n) pair.1 (with_deletion fate (is_among undone d.0)) ≡ fates_by history undone (suc n)
fates_next history undone n pair d fate good at is old =
    let ds = deletions_in (tree history) in
    let front = take n ds in
    let new : with_deletion fate (is_among undone d.0) ≡ fate_among undone (front ++ d ∷ []) d.1 = ap (λ k. with_deletion k (is_among undone d.0)) old ∙ sym (its_target undone front d) in
    ap (set (fates_by history undone n) pair.1) new
    ∙ set_one (fate_among undone front) (fate_among undone (front ++ d ∷ [])) d.1 (λ x q. sym (other_target undone front d x q)) history pair.1 (good_distinct history good) is.target
    ∙ ap (λ (front : List (Id × Id)). map (fate_among undone front) (ids_of history)) (sym (take_next ds n d at))

pub fates_long : (history : List Event) (undone : List Id) (n : ℕ) → length (fates_by history undone n) ≡ length history
fates_long history undone n = length-map (ids_of history) (fate_among undone (take n (deletions_in (tree history)))) ∙ length-map history (λ (e : Event). e.id)

-- all deletions give the fates
pub fates_all : (history : List Event) (undone : List Id) (pairs : List (ℕ × ℕ)) (n : ℕ) → AreTargets history pairs → length pairs ≤ n → fates_by history undone n ≡ fates_of history undone
fates_all history undone pairs n are long =
    ap (λ (ds : List (Id × Id)). map (fate_among undone ds) (ids_of history)) (take_all n (deletions_in (tree history)) (subst (λ k. k ≤ n) (targets_long history pairs are) long))
    ∙ same_fates history undone
