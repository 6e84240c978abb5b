-- The places of the events that counts leave out, found one place after another.
use Rattle.std.proofs.Common.{◌≡◌, ◌∙◌, ℕ, suc, ◌+◌, ◌<◌, List, [], ◌∷◌, ◌++◌, take, length, slice_get, Option, Some, true, false, nat_lt, refl, sym, ap, length-append, arith, All}
use Rattle.std.specs.Option.{option_to_list}
use Rattle.std.proofs.lemmas.Grind.{flat_map-append}
use Rattle.std.proofs.lemmas.List.Elements.{All-nil, All-push}
use Rattle.ew_model.specs.declared.id.Id.{Id}
use Rattle.ew_model.specs.declared.event.Event.{Event}
use Rattle.ew_model.specs.Ancestors.{ids_of}
use Rattle.history_definitions.specs.Missing.{count_in, missing}
use Rattle.event_graph.specs.Subgraphs.{events_at}
use Rattle.event_graph.proofs.Counted.{event_there, missing_none, missing_one}
use Rattle.event_graph.proofs.Places.{slice_within}

-- these are the positions of the events before a place that counts leave out
pub record AreMissing (history : List Event) (counts : List (List ℕ × ℕ)) (place : ℕ) (positions : List ℕ) : Type 0 where
  pub within : All (λ p. p < length history) positions
  pub events : events_at history positions ≡ missing (take place history) counts
  pub count : length positions ≡ length (missing (take place history) counts)

pub nothing_missing : (history : List Event) (counts : List (List ℕ × ℕ)) → AreMissing history counts 0 []
nothing_missing history counts = record { within = All-nil (λ p. p < length history); events = refl; count = refl }

-- one event that isn't left out
pub counted_next : (history : List Event) (counts : List (List ℕ × ℕ)) (place : ℕ) (positions : List ℕ) (x : Id) → slice_get (ids_of history) place ≡ Some x → nat_lt x.seq (count_in counts x.agent) ≡ true
    → AreMissing history counts place positions → AreMissing history counts (suc place) positions
counted_next history counts place positions x at counted are =
    let same = sym (missing_none history counts place x at counted) in
    record {
      within = are.within;
      events = are.events ∙ same;
      count = are.count ∙ ap (length {A = Event}) same;
    }

-- and one that is
pub missing_next : (history : List Event) (counts : List (List ℕ × ℕ)) (place : ℕ) (positions : List ℕ) (x : Id) → slice_get (ids_of history) place ≡ Some x → nat_lt x.seq (count_in counts x.agent) ≡ false
    → AreMissing history counts place positions → AreMissing history counts (suc place) (positions ++ place ∷ [])
missing_next history counts place positions x at left are =
    let e = event_there history place x at in
    let more : missing (take (suc place) history) counts ≡ missing (take place history) counts ++ e.0 ∷ [] = missing_one history counts place x e.0 at e.1 left in
    let long : length (positions ++ place ∷ []) ≡ length positions + 1 = length-append positions (place ∷ []) in
    let longer : length (missing (take (suc place) history) counts) ≡ length (missing (take place history) counts) + 1 = ap (length {A = Event}) more ∙ length-append (missing (take place history) counts) (e.0 ∷ []) in
    let count = are.count in
    record {
      within = All-push (λ p. p < length history) positions place are.within (slice_within history place e.0 e.1);
      events =
          flat_map-append (λ p. option_to_list (slice_get history p)) positions (place ∷ [])
          ∙ ap (λ (o : Option Event). events_at history positions ++ (option_to_list o ++ [])) e.1
          ∙ ap (λ (es : List Event). es ++ e.0 ∷ []) are.events
          ∙ sym more;
      count = omega (arith, long, longer, count);
    }
