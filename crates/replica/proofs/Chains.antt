-- An event, and those of operations that go on from it.
use Rattle.std.proofs.Common.{◌≡◌, ℕ, zero, suc, ◌+◌, ◌<◌, ◌≤◌, List, [], ◌∷◌, ◌++◌, length, take, Some, refl, sym, ap, subst, ◌∙◌, append_assoc, get_or, add-one, length-append, arith}
use Rattle.std.proofs.lemmas.List.{take_more, length-take-le}
use Rattle.std.proofs.lemmas.Option.{same_Some}
use Rattle.ew_model.specs.declared.id.Id.{Id}
use Rattle.ew_model.specs.declared.event.Op.{Op}
use Rattle.ew_model.specs.declared.event.Event.{Event}
use Rattle.ew_model.specs.Ancestors.{heads}
use Rattle.ew_model.specs.Edits.{count_of, chain_of, events_of_ops}
use Rattle.ew_model.specs.Ids.{id_cmp}
use Rattle.ew_model.specs.Sorting.{sort_by}
use Rattle.history_definitions.specs.Chains.{event_behind, last_id, next_id}
use Rattle.history_definitions.proofs.LastIds.{last_pushed}
use Rattle.event_graph.specs.GoingOn.{chain_behind}
use Rattle.replica.specs.Appending.{chain_from}
use Rattle.replica.proofs.Giving.{chain_long}

-- the events of an agent in a row go on from one another
go_on_alike : (agent : List ℕ) (n : ℕ) (ops : List Op) → chain_behind (record { agent = agent; seq = n }) ops ≡ chain_of agent (n + 1) (record { agent = agent; seq = n } ∷ []) ops
go_on_alike agent n [] = refl
go_on_alike agent n (op ∷ ops) =
    let x : Id = record { agent = agent; seq = n } in
    ap (λ es. event_behind x op ∷ es) (go_on_alike agent (suc n) ops)
    ∙ ap (λ k. record { id = record { agent = agent; seq = k }; parents = x ∷ []; op = op } ∷ chain_of agent (k + 1) (record { agent = agent; seq = k } ∷ []) ops) (sym (add-one n))

-- the first event of operations that an agent does in a row, and the others
pub first_by : (history : List Event) (agent : List ℕ) (op : Op) (ops : List Op)
    → chain_from (record { id = record { agent = agent; seq = count_of history agent }; parents = sort_by id_cmp (heads history); op = op }) ops ≡ events_of_ops history agent (op ∷ ops)
unfolding events_of_ops
first_by history agent op ops =
    ap (λ es. record { id = record { agent = agent; seq = count_of history agent }; parents = sort_by id_cmp (heads history); op = op } ∷ es) (go_on_alike agent (count_of history agent) ops)

-- an event was put behind others, and then those that go on from it
pub chain_put : (held : List Event) (first : Event) (ops : List Op) (one all : List Event) → one ≡ held ++ first ∷ [] → (x : Id) × (last_id one ≡ Some x) × (all ≡ one ++ chain_behind x ops) → all ≡ held ++ chain_from first ops
chain_put held first ops one all is on =
    let same : on.0 ≡ first.id = same_Some on.0 first.id (sym on.1 ∙ ap last_id is ∙ last_pushed held first) in
    on.2 ∙ (λ i. is i ++ chain_behind (same i) ops) ∙ append_assoc held (first ∷ []) (chain_behind first.id ops)

-- how many they are
pub chain_from_long : (first : Event) (ops : List Op) → length (chain_from first ops) ≡ suc (length ops)
chain_from_long first ops = ap suc (chain_long first.id ops)

-- the room that they take
pub chain_room : (held : List Event) (first : Event) (ops : List Op) (most : ℕ) → length (held ++ chain_from first ops) ≤ most → length held + 1 + length ops ≤ most
chain_room held first ops most h =
    let parts : length held + length (chain_from first ops) ≤ most = subst (λ n. n ≤ most) (length-append held (chain_from first ops)) h in
    let counted : length held + suc (length ops) ≤ most = subst (λ n. length held + n ≤ most) (chain_from_long first ops) parts in
    omega (arith, counted)

-- one event more goes on from the last of them
pub chain_more : (held : List Event) (first : Event) (ops : List Op) (op : Op) (one all : List Event) → one ≡ held ++ chain_from first ops → (x : Id) × (last_id one ≡ Some x) × (all ≡ one ++ event_behind x op ∷ [])
    → all ≡ held ++ chain_from first (ops ++ op ∷ [])
chain_more held first [] op one all is on = chain_put held first (op ∷ []) one all is on
chain_more held first (o ∷ ops) op one all is on =
    let next = event_behind first.id o in
    chain_more (held ++ first ∷ []) next ops op one all (is ∙ sym (append_assoc held (first ∷ []) (chain_from next ops))) on
    ∙ append_assoc held (first ∷ []) (chain_from next (ops ++ op ∷ []))

-- the first of them are those of the first operations
behind_front : (x : Id) (ops : List Op) (n : ℕ) → chain_behind x (take n ops) ≡ take n (chain_behind x ops)
behind_front x ops zero = refl
behind_front x [] (suc n) = refl
behind_front x (op ∷ ops) (suc n) = ap (λ es. event_behind x op ∷ es) (behind_front (next_id x) ops n)

pub chain_from_front : (first : Event) (ops : List Op) (n : ℕ) → chain_from first (take n ops) ≡ take (suc n) (chain_from first ops)
chain_from_front first ops n = ap (λ es. first ∷ es) (behind_front first.id ops n)

-- how many the held events and the first of them are
pub chain_taken_long : (held : List Event) (first : Event) (ops : List Op) (n : ℕ) → n ≤ length ops → length (held ++ chain_from first (take n ops)) ≡ length held + suc n
chain_taken_long held first ops n within =
    length-append held (chain_from first (take n ops)) ∙ ap (λ k. length held + k) (chain_from_long first (take n ops) ∙ ap suc (length-take-le n ops within))

-- the next operation
pub next_taken : (ops : List Op) (n : ℕ) (op : Op) → n < length ops → op ≡ get_or ops n op → take n ops ++ op ∷ [] ≡ take (n + 1) ops
next_taken ops n op within is = ap (λ o. take n ops ++ o ∷ []) is ∙ sym (take_more ops n op within)
