-- What a caret finds in a history.
use Rattle.std.proofs.Common.{◌≡◌, ℕ, Bool, true, false, cond, List, [], ◌∷◌, get_or, option_map, Option, Some, None, slice_get, refl, sym, ap, ◌∙◌}
use Rattle.std.specs.Prelude.{is_some, position}
use Rattle.std.specs.Option.{option_or}
use Rattle.std.proofs.lemmas.Bool.{false≢true}
use Rattle.std.proofs.lemmas.Option.{slice_get-map, get_or_from_slice_get}
use Rattle.ew_model.specs.declared.id.Id.{Id}
use Rattle.ew_model.specs.declared.event.Event.{Event}
use Rattle.ew_model.specs.Ids.{id_eq}
use Rattle.ew_model.specs.Ancestors.{ids_of, is_held}
use Rattle.ew_model.specs.Entries.{Inserted}
use Rattle.ew_model.specs.Verdicts.{IsGood}
use Rattle.ew_model.proofs.CoverLaws.{held_by, ids_alike}
use Rattle.ew_model.proofs.ListParts.{is_some-position}
use Rattle.event_graph.proofs.Places.{found_event}
use Rattle.carets.specs.declared.caret.Caret.{Caret}
use Rattle.carets.specs.declared.caret.Caret.TheVariants.{Behind}
use Rattle.carets.specs.Sides.{all_chars, text_chars, char_of, many_up_to, side}
use Rattle.carets.proofs.UpTo.{char_told}
use Rattle.caret_places.specs.declared.fault.IndexFault.{IndexFault}
use Rattle.caret_places.specs.declared.fault.IndexFault.TheVariants.{Unknown, NoCharacter}
use Rattle.caret_places.specs.Faults.{fault_by, fault_of, first_fault}
use Rattle.caret_places.specs.Indexes.{sides_of}
use Rattle.caret_places.proofs.Insertions.{event_of_char}

-- BY ITS ID
module _ (history : List Event) (x : Id) where
  pub id_found : (p : ℕ) → position (id_eq x) (ids_of history) ≡ Some p → slice_get (ids_of history) p ≡ Some x
  id_found p found =
      let e = found_event history x p found in
      slice_get-map (λ (k : Event). k.id) history p
      ∙ ap (λ (o : Option Event). option_map (λ (k : Event). k.id) o) e.1
      ∙ ap (λ (i : Id). Some i) (sym e.2)

  held_if_found : is_some (position (id_eq x) (ids_of history)) ≡ is_held history x
  held_if_found = is_some-position (id_eq x) (ids_of history)

  -- no event has it
  pub missing_fault : position (id_eq x) (ids_of history) ≡ None → fault_of history (Behind x) ≡ Some (Unknown x)
  missing_fault none = ap (λ b. fault_by x b (char_of (all_chars history) x)) (sym held_if_found ∙ ap (λ (o : Option ℕ). is_some o) none)

  -- the event with it inserts a character, or it doesn't
  pub found_fault : (p : ℕ) (b : Bool) → position (id_eq x) (ids_of history) ≡ Some p → b ≡ is_some (char_of (all_chars history) x) → fault_of history (Behind x) ≡ cond b None (Some (NoCharacter x))
  found_fault p b found is =
      ap (λ c. fault_by x c (char_of (all_chars history) x)) (sym held_if_found ∙ ap (λ (o : Option ℕ). is_some o) found)
      ∙ at (char_of (all_chars history) x)
      ∙ ap (λ c. cond c None (Some (NoCharacter x))) (sym is)
    where
      at : (o : Option Inserted) → fault_by x true o ≡ cond (is_some o) None (Some (NoCharacter x))
      at None = refl
      at (Some z) = refl

  -- the index without an event
  pub missing_side : IsGood history → position (id_eq x) (ids_of history) ≡ None → side history (Behind x) ≡ 0
  missing_side good none = at (char_of (all_chars history) x) refl
    where
      at : (o : Option Inserted) → char_of (all_chars history) x ≡ o → many_up_to o (text_chars history) ≡ 0
      at None q = refl
      at (Some z) q =
          let told = char_told (all_chars history) x z q in
          let left = event_of_char history z good told.0 in
          let held : is_held history x ≡ true = held_by history x left.0 left.1.there (ap (λ (i : Id). id_eq x i) (left.1.id ∙ told.1) ∙ ids_alike.refl x) in
          absurd (false≢true (ap (λ (o : Option ℕ). is_some o) (sym none) ∙ held_if_found ∙ held))

  -- the index by those of all events
  pub found_side : (p d : ℕ) (sides : List ℕ) → position (id_eq x) (ids_of history) ≡ Some p → sides ≡ sides_of history → get_or sides p d ≡ side history (Behind x)
  found_side p d sides found are =
      let own : Id → ℕ = λ i. side history (Behind i) in
      ap (λ ns. get_or ns p d) are
      ∙ get_or_from_slice_get (sides_of history) p (own x) d (slice_get-map own (ids_of history) p ∙ ap (λ (o : Option Id). option_map own o) (id_found p found))

-- THE FIRST FAULT
pub no_fault_first : (history : List Event) (c : Caret) (rest all : List Caret) → all ≡ c ∷ rest → fault_of history c ≡ None → first_fault history all ≡ first_fault history rest
no_fault_first history c rest all is none = ap (first_fault history) is ∙ ap (λ o. option_or o (first_fault history rest)) none

pub fault_first : (history : List Event) (c : Caret) (rest all : List Caret) (o : Option IndexFault) → all ≡ c ∷ rest → fault_of history c ≡ o → is_some o ≡ true → first_fault history all ≡ o
fault_first history c rest all None is same some = absurd (false≢true some)
fault_first history c rest all (Some f) is same some = ap (first_fault history) is ∙ ap (λ o. option_or o (first_fault history rest)) same

pub one_fault : (history : List Event) (c : Caret) → first_fault history (c ∷ []) ≡ fault_of history c
one_fault history c = at (fault_of history c)
  where
    at : (o : Option IndexFault) → option_or o None ≡ o
    at None = refl
    at (Some f) = refl
