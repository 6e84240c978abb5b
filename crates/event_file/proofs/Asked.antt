-- An event of a history that may be written, as it is asked for.
use Rattle.std.proofs.Common.{◌≡◌, ℕ, ◌≤◌, true, List, [], ◌∷◌, ◌++◌, length, take, drop, map, Option, Some, All, refl, sym, ap, subst, ◌∙◌}
use Rattle.std.specs.Prelude.{unwrap_or, slice_get}
use Rattle.std.specs.List.{list_any, list_all, position_or_len, AllByRecursion}
use Rattle.std.proofs.lemmas.Bool.{leb-true, and_parts, or_left}
use Rattle.std.proofs.lemmas.List.{map-append, take-append-drop}
use Rattle.std.proofs.lemmas.List.Elements.{All-from_recursion}
use Rattle.std.proofs.lemmas.Option.{get_or_from_slice_get, slice_get_within}
use Rattle.ew_model.specs.declared.id.Id.{Id}
use Rattle.ew_model.specs.declared.event.Event.{Event}
use Rattle.ew_model.specs.Ids.{id_eq, name_eq}
use Rattle.ew_model.specs.Ancestors.{ids_of, is_held}
use Rattle.ew_model.specs.Writable.{agents_of, are_writable_after, IsWritable}
use Rattle.ew_model.specs.Distinct.{AllNew}
use Rattle.ew_model.proofs.KeptLaws.{held_joined}
use Rattle.ew_model.proofs.ListPlaces.{place_kept}
use Rattle.ew_model.proofs.TextLaws.{ids_equal}
use Rattle.file_words.proofs.FileRecords.{id_eq_exact}
use Rattle.file_words.proofs.FileEvents.{writable_parts}
use Rattle.event_file.specs.Places.{HasPlaces, place_of, places_of}
use Rattle.event_file.proofs.Tables.{place_is, follows_at, agent_there}

-- its agent is there, and its parents are held, at most 16
pub record IsAsked (history : List Event) (e : Event) : Type 0 where
  pub agent : list_any (name_eq e.id.agent) (agents_of history) ≡ true
  pub each_held : AllByRecursion (λ x. is_held history x ≡ true) e.parents
  pub held : All (λ x. is_held history x ≡ true) e.parents
  pub few : length e.parents ≤ 16

all_held : (before later : List Event) (xs : List Id) → list_all (is_held before) xs ≡ true → AllByRecursion (λ x. is_held (before ++ later) x ≡ true) xs
all_held before later [] h = tt
all_held before later (x ∷ xs) h =
    let p = and_parts (is_held before x) (list_all (is_held before) xs) h in
    (held_joined before later x ∙ or_left (is_held before x) (is_held later x) p.0, all_held before later xs p.1)

pub asked : (history : List Event) (position : ℕ) (e : Event) → IsWritable history → slice_get history position ≡ Some e → IsAsked history e
asked history position e w h =
    let within = slice_get_within history position e h in
    let is = sym (get_or_from_slice_get history position e e h) in
    let f = follows_at history position e w within is in
    let each : AllByRecursion (λ x. is_held history x ≡ true) e.parents =
    subst (λ (all : List Event). AllByRecursion (λ x. is_held all x ≡ true) e.parents) (take-append-drop position history) (all_held (take position history) (drop position history) e.parents f.held) in
    record {
      agent = agent_there history position e within is;
      each_held = each;
      held = All-from_recursion (λ x. is_held history x ≡ true) e.parents each;
      few = leb-true (length e.parents) 16 f.few;
    }

pub all_new : (before events : List Event) → are_writable_after before events ≡ true → AllNew id_eq (ids_of before) (ids_of events)
all_new before [] h = tt
all_new before (e ∷ later) h =
    let p = writable_parts before e later h in
    (p.0.new, subst (λ seen. AllNew id_eq seen (ids_of later)) (map-append (λ (f : Event). f.id) before (e ∷ [])) (all_new (before ++ e ∷ []) later p.1))

-- ---- places by a table of those before

abbrev told_place : (Id → Option ℕ) → Id → ℕ
told_place table x = unwrap_or (table x) 0

kept_places : (before later : List Event) (table : Id → Option ℕ) (parents : List Id) → HasPlaces id_eq table (ids_of before) → list_all (is_held before) parents ≡ true → map (told_place table) parents ≡ places_of (before ++ later) parents
kept_places before later table [] has held = refl
kept_places before later table (p ∷ ps) has held =
    let h = and_parts (is_held before p) (list_all (is_held before) ps) held in
    let joined : position_or_len (id_eq p) (ids_of (before ++ later)) ≡ position_or_len (id_eq p) (ids_of before) =
    ap (position_or_len (id_eq p)) (map-append (λ (f : Event). f.id) before later) ∙ place_kept id_eq ids_equal id_eq_exact (ids_of before) (ids_of later) p h.0 in
    let first : told_place table p ≡ place_of (before ++ later) p = ap (λ o. unwrap_or o 0) (place_is id_eq ids_equal id_eq_exact (ids_of before) p table has h.0) ∙ sym joined in
    λ i. first i ∷ kept_places before later table ps has h.1 i

-- the places that a table of the events before tells are those in the history
pub places_told : (history : List Event) (i : ℕ) (table : Id → Option ℕ) (parents : List Id) → HasPlaces id_eq table (ids_of (take i history)) → list_all (is_held (take i history)) parents ≡ true → map (λ x. unwrap_or (table x) 0) parents ≡ places_of history parents
places_told history i table parents has held =
    kept_places (take i history) (drop i history) table parents has held ∙ ap (λ (all : List Event). places_of all parents) (take-append-drop i history)
