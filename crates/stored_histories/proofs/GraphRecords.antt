-- The events of a graph, as a file is written of them.
use Rattle.std.proofs.Common.{◌≡◌, ℕ, zero, suc, ◌+◌, ◌<◌, ◌≤◌, true, List, [], ◌∷◌, length, take, map, Some, All, refl, sym, ap, ◌∙◌, arith}
use Rattle.std.specs.Prelude.{slice_get, position}
use Rattle.std.specs.List.{list_any, position_or_len}
use Rattle.std.proofs.lemmas.List.Elements.{recursion_from_All}
use Rattle.std.proofs.lemmas.Option.{slice_get_within}
use Rattle.ew_model.specs.declared.id.Id.{Id}
use Rattle.ew_model.specs.declared.event.Event.{Event}
use Rattle.ew_model.specs.Ancestors.{ids_of}
use Rattle.ew_model.specs.Writable.{agents_of, IsWritable}
use Rattle.ew_model.specs.Ids.{id_eq, id_cmp}
use Rattle.ew_model.specs.Positions.{parent_positions, parents_at}
use Rattle.ew_model.specs.Sorting.{sort_by}
use Rattle.ew_model.proofs.AgentLaws.{agents_push, ids_count}
use Rattle.ew_model.proofs.ListPlaces.{some_is, found_there, place_of as place_at}
use Rattle.ew_model.proofs.ListParts.{take_next}
use Rattle.ew_model.proofs.TextLaws.{ids_equal}
use Rattle.file_words.proofs.FileRecords.{id_eq_exact}
use Rattle.event_graph.specs.Keeping.{IsAdmitted, id_of}
use Rattle.event_graph.proofs.Counted.{event_there}
use Rattle.agreement.proofs.ParentIds.{parents_told}
use Rattle.event_file.specs.Places.{places_of}
use Rattle.event_file.specs.Writing.{with_name}
use Rattle.event_file.proofs.Asked.{all_new}

one_more : (n : ℕ) → suc n ≡ n + 1
one_more n = omega arith

-- the agents with that of the next event
pub agents_next : (history : List Event) (position : ℕ) (x : Id) → slice_get (ids_of history) position ≡ Some x → with_name (agents_of (take position history)) x.agent ≡ agents_of (take (position + 1) history)
agents_next history position x h =
    let y = event_there history position x h in
    let e = y.0 in
    ap (λ (z : Id). with_name (agents_of (take position history)) z.agent) (sym y.2)
    ∙ sym (agents_push (take position history) e)
    ∙ ap agents_of (sym (take_next history position e y.1))
    ∙ ap (λ n. agents_of (take n history)) (one_more position)

-- what is held has a position
pub position_there : (ids : List Id) (x : Id) → list_any (id_eq x) ids ≡ true → position (id_eq x) ids ≡ Some (position_or_len (id_eq x) ids)
position_there ids x h =
    let within = slice_get_within ids (position_or_len (id_eq x) ids) x (found_there id_eq ids_equal id_eq_exact ids x h) in
    grind arith

id_stands : (ids : List Id) (q : ℕ) → q < length ids → slice_get ids q ≡ Some (id_of ids q)
id_stands [] q lt = absurd (omega arith)
id_stands (x ∷ ids) zero lt = refl
id_stands (x ∷ ids) (suc q) lt = id_stands ids q (omega arith)

-- the position of at most one parent is in the order of ids
pub one_place : (history : List Event) (position : ℕ) (e : Event) (positions : List ℕ) → IsWritable history → IsAdmitted history → slice_get history position ≡ Some e → positions ≡ parents_at (parent_positions history) position
    → All (λ p. p < position) positions → length positions ≤ 1 → positions ≡ places_of history e.parents
one_place history position e positions w admitted at are lower few =
    by positions lower few (parents_told history position e admitted at ∙ ap (λ ps. sort_by id_cmp (map (id_of (ids_of history)) ps)) (sym are))
  where
    by : (ps : List ℕ) → All (λ p. p < position) ps → length ps ≤ 1 → e.parents ≡ sort_by id_cmp (map (id_of (ids_of history)) ps) → ps ≡ places_of history e.parents
    by [] l f told = ap (places_of history) (sym told)
    by (q ∷ []) l f told =
        let size : length (ids_of history) ≡ length history = ids_count history in
        let within = slice_get_within history position e at in
        let below : q < position = (recursion_from_All (λ p. p < position) (q ∷ []) l).0 in
        let x = id_of (ids_of history) q in
        let stands = id_stands (ids_of history) q (omega arith) in
        ap (λ n. n ∷ []) (sym (place_at id_eq ids_equal id_eq_exact [] (ids_of history) q x (all_new [] history w.each) stands)) ∙ ap (places_of history) (sym told)
    by (q ∷ r ∷ ps) l f told = absurd (omega arith)

-- the id of the only parent of an event, which stands right before it
pub one_parent_id : (history : List Event) (position : ℕ) (e : Event) (n : ℕ) (x : Id) → IsAdmitted history → slice_get history position ≡ Some e → position ≡ suc n → slice_get (ids_of history) n ≡ Some x
    → parents_at (parent_positions history) (suc n) ≡ n ∷ [] → e.parents ≡ x ∷ []
one_parent_id history position e n x admitted at is there link =
    let here : id_of (ids_of history) n ≡ x = some_is (id_of (ids_of history) n) x (sym (id_stands (ids_of history) n (slice_get_within (ids_of history) n x there)) ∙ there) in
    parents_told history position e admitted at
    ∙ ap (λ m. sort_by id_cmp (map (id_of (ids_of history)) (parents_at (parent_positions history) m))) is
    ∙ ap (λ ps. sort_by id_cmp (map (id_of (ids_of history)) ps)) link
    ∙ ap (λ y. y ∷ []) here
