-- The events of a mark, one more after another.
use Rattle.std.proofs.Common.{◌≡◌, ℕ, zero, suc, ◌+◌, ◌<◌, ◌≤◌, List, [], ◌∷◌, ◌++◌, length, take, drop, Option, Some, refl, sym, ap, ◌∙◌, append_assoc, arith}
use Rattle.std.specs.List.{onto_first}
use Rattle.ew_model.specs.declared.id.Id.{Id}
use Rattle.ew_model.specs.declared.event.Event.{Event}
use Rattle.ew_model.specs.Edits.{in_groups, joins_of}
use Rattle.replica.specs.Marking.{ids_of_one, marked_event}

-- ids for which there is room are one group
groups_short : (room : ℕ) (ids : List Id) → length ids ≤ room → in_groups room ids ≡ ids ∷ []
groups_short room [] h = refl
groups_short zero (x ∷ ids) h = absurd (omega (arith, h))
groups_short (suc room) (x ∷ ids) h = ap (onto_first x) (groups_short room ids (omega (arith, h)))

-- of more ids the first group takes as many as there is room for
groups_long : (room : ℕ) (ids : List Id) → room < length ids → in_groups room ids ≡ take room ids ∷ in_groups 15 (drop room ids)
groups_long room [] h = absurd (omega (arith, h))
groups_long zero (x ∷ ids) h = refl
groups_long (suc room) (x ∷ ids) h = ap (onto_first x) (groups_long room ids (omega (arith, h)))

-- what is made, and what is left to make of it, are all events of the mark
abbrev pub MakeAll : List ℕ → List ℕ → List Event → ℕ → Option Id → ℕ → List Id → List Event → Type 0
MakeAll agent label made seq before room left all = made ++ joins_of agent label seq (ids_of_one before) (in_groups room left) ≡ all

pub one_more_join : (agent label : List ℕ) (made : List Event) (seq : ℕ) (before : Option Id) (room : ℕ) (left : List Id) (all : List Event) → room < length left → MakeAll agent label made seq before room left all
    → (group others : List Id) (e : Event) (made_then : List Event) → group ≡ take room left → others ≡ drop room left → e ≡ marked_event (record { agent = agent; seq = seq }) label (ids_of_one before ++ group) → made_then ≡ made ++ e ∷ []
    → MakeAll agent label made_then (seq + 1) (Some (record { agent = agent; seq = seq })) 15 others all
one_more_join agent label made seq before room left all more is group others e made_then taken rest joins then =
    let x : Id = record { agent = agent; seq = seq } in
    let mark = marked_event x label (ids_of_one before ++ take room left) in
    let later = joins_of agent label (seq + 1) (x ∷ []) (in_groups 15 (drop room left)) in
    let same : e ≡ mark = joins ∙ ap (λ (ids : List Id). marked_event x label (ids_of_one before ++ ids)) taken in
    (λ i. then i ++ joins_of agent label (seq + 1) (x ∷ []) (in_groups 15 (rest i)))
    ∙ (λ i. (made ++ same i ∷ []) ++ later)
    ∙ append_assoc made (mark ∷ []) later
    ∙ ap (λ groups. made ++ joins_of agent label seq (ids_of_one before) groups) (sym (groups_long room left more))
    ∙ is

pub last_join : (agent label : List ℕ) (made : List Event) (seq : ℕ) (before : Option Id) (room : ℕ) (left : List Id) (all : List Event) → length left ≤ room → MakeAll agent label made seq before room left all
    → (e : Event) (made_then : List Event) → e ≡ marked_event (record { agent = agent; seq = seq }) label (ids_of_one before ++ left) → made_then ≡ made ++ e ∷ [] → made_then ≡ all
last_join agent label made seq before room left all few is e made_then joins then =
    then ∙ (λ i. made ++ joins i ∷ [])
    ∙ ap (λ groups. made ++ joins_of agent label seq (ids_of_one before) groups) (sym (groups_short room left few)) ∙ is
