-- The positions of the events whose characters runs are of.
use Rattle.std.proofs.Common.{◌≡◌, ℕ, zero, suc, ◌+◌, ◌<◌, Bool, List, [], ◌∷◌, ◌++◌, map, take, length, zip, get_or, refl, sym, ap, ◌∙◌, append-nil, arith}
use Rattle.std.proofs.lemmas.List.{map-append}
use Rattle.std.proofs.lemmas.List.Elements.{filter_map-append}
use Rattle.std.proofs.lemmas.Slice.Zip.{seconds-zip}
use Rattle.ew_model.specs.declared.node.Node.{Node}
use Rattle.ew_model.specs.declared.node.Node.TheVariants.{Root, Base, Event}
use Rattle.walker_record.specs.Stretches.{Stretch, states_from}
use Rattle.fugue_place.proofs.ListLaws.{one_more}
use Rattle.order_tree.specs.Pairs.{labels, runs}
use Rattle.character_runs.specs.EventPositions.{position_of, event_positions}
use Rattle.character_runs.specs.Laid.{record_of, records_of, chars_in}
use Rattle.character_runs.proofs.RunChars.{chars-append}
use Rattle.character_runs.proofs.RunsAt.{same_chars, same_length}

-- A RUN
abbrev pub positions_on : Node → ℕ → ℕ → Bool → List ℕ
positions_on v n prepared effect = event_positions (map record_of (states_from v n prepared effect))

-- one more character of it
pub positions_push : (n from prepared : ℕ) (effect : Bool) → positions_on (Event from) (n + 1) prepared effect ≡ positions_on (Event from) n prepared effect ++ (from + n) ∷ []
positions_push zero from p e = let none : from ≡ from + 0 = omega arith in ap (λ (k : ℕ). k ∷ []) none
positions_push (suc n) from p e =
    let more : suc n + 1 ≡ suc (n + 1) = omega arith in
    let next : from + 1 + n ≡ from + suc n = omega arith in
    ap (λ (k : ℕ). positions_on (Event from) k p e) more
    ∙ ap (λ (ks : List ℕ). from ∷ ks) (positions_push n (from + 1) p e ∙ ap (λ (k : ℕ). positions_on (Event (from + 1)) n p e ++ k ∷ []) next)

-- no other node is an event's
none_of_base : (n i prepared : ℕ) (effect : Bool) → positions_on (Base i) n prepared effect ≡ []
none_of_base zero i p e = refl
none_of_base (suc n) i p e = none_of_base n (i + 1) p e

none_of_root : (n prepared : ℕ) (effect : Bool) → positions_on Root n prepared effect ≡ []
none_of_root zero p e = refl
none_of_root (suc n) p e = none_of_root n p e

pub none_of_others : (r : Stretch) → ((n : ℕ) → r.from ≡ Event n → ⊥) → event_positions (records_of r) ≡ []
none_of_others r other = at r.from refl
  where
    at : (v : Node) → r.from ≡ v → positions_on v r.len r.prepared r.effect ≡ []
    at Root e = none_of_root r.len r.prepared r.effect
    at (Base i) e = none_of_base r.len i r.prepared r.effect
    at (Event n) e = absurd (other n e)

-- ALL RUNS
abbrev pub given_runs : List (ℕ × (ℕ × Stretch)) → List (ℕ × Stretch)
given_runs given = map (λ (g : ℕ × (ℕ × Stretch)). g.1) given

-- the positions of one more run come behind the others
pub positions_more : (given : List (ℕ × (ℕ × Stretch))) (n : ℕ) (g : ℕ × (ℕ × Stretch)) → n < length given → g ≡ get_or given n g
    → event_positions (chars_in (given_runs (take (n + 1) given))) ≡ event_positions (chars_in (given_runs (take n given))) ++ event_positions (records_of g.1.1)
positions_more given n g within is =
    let front = given_runs (take n given) in
    let position = λ (r : Stretch). position_of r.from in
    ap (λ (gs : List (ℕ × (ℕ × Stretch))). event_positions (chars_in (given_runs gs))) (one_more given n g within is)
    ∙ ap (λ (ps : List (ℕ × Stretch)). event_positions (chars_in ps)) (map-append (λ (h : ℕ × (ℕ × Stretch)). h.1) (take n given) (g ∷ []))
    ∙ ap event_positions (chars-append front (g.1 ∷ []) ∙ ap (λ (rs : List Stretch). chars_in front ++ rs) (append-nil (records_of g.1.1)))
    ∙ filter_map-append position (chars_in front) (records_of g.1.1)

-- The runs that got new labels have the same characters.
pub given_chars : (ps qs : List (ℕ × Stretch)) (given : List (ℕ × (ℕ × Stretch))) → runs qs ≡ runs ps → given ≡ zip (labels ps) qs → chars_in (given_runs given) ≡ chars_in ps
given_chars ps qs given same is =
    ap (λ (gs : List (ℕ × (ℕ × Stretch))). chars_in (given_runs gs)) is
    ∙ ap chars_in (seconds-zip (labels ps) qs (same_length qs ps same ∙ sym (length-labels ps)))
    ∙ same_chars qs ps same
  where
    length-labels : (xs : List (ℕ × Stretch)) → length (labels xs) ≡ length xs
    length-labels [] = refl
    length-labels (x ∷ xs) = ap suc (length-labels xs)
