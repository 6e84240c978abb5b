-- The index of what is read so far: which agent may come next, and how the index grows with an event.
use Rattle.std.proofs.Common.{◌≡◌, ◌↔◌, ◌⊎◌, ℕ, zero, suc, ◌+◌, ◌-◌, ◌<◌, ◌≤◌, Bool, true, false, not, ◌||◌, ◌&&◌, inl, inr, List, [], ◌∷◌, ◌++◌, length, map, take, Option, Some, None, refl, sym, ap, ◌∙◌, arith, append-nil, append_assoc, ltb-true, ltb-false}
use Rattle.std.specs.Prelude.{get_or, slice_get, nat_lt}
use Rattle.std.specs.List.{list_any, list_all}
use Rattle.std.proofs.lemmas.Bool.{cases_Bool, and_parts, and_from, and_right, or_cases, or_left, or_right}
use Rattle.std.proofs.lemmas.List.{map-append, length-append}
use Rattle.std.proofs.lemmas.List.Folds.{list_any-append}
use Rattle.std.proofs.lemmas.Option.{slice_get-get_or}
use Rattle.ew_model.specs.declared.id.Id.{Id}
use Rattle.ew_model.specs.declared.event.Event.{Event}
use Rattle.ew_model.specs.Ids.{name_eq, id_eq, id_lt, ids_ascend}
use Rattle.ew_model.specs.Ancestors.{ids_of, is_held}
use Rattle.ew_model.specs.Writable.{agents_of}
use Rattle.ew_model.specs.Distinct.{AreDistinct}
use Rattle.file_words.specs.FileFaults.{open_agents}
use Rattle.ew_model.proofs.ListPlaces.{some_is, none_is_some, none_in_front, get-take, get-take_within, there_among}
use Rattle.ew_model.proofs.IdLaws.{names_equal, name_exact}
use Rattle.ew_model.proofs.TextLaws.{ids_equal}
use Rattle.event_file.specs.Progress.{IsIndexed}
use Rattle.ew_model.proofs.ListParts.{take_next}
use Rattle.ew_model.proofs.AgentLaws.{agents_push, known_agent, next_agent}
use Rattle.file_words.specs.FileRuns.{ids_from, are_new}
use Rattle.file_words.proofs.FileRecords.{id_eq_exact}
use Rattle.event_file.specs.Known.{known_by, known_run}
use Rattle.event_file.specs.SeenIds.{count_for, IsInRange, IsCovered, IsSeen, HasOneOf}
use Rattle.event_file.proofs.SeenCounts.{place_within, seen_at}
use Rattle.file_words.proofs.RunReading.{agent_there}

-- an agent at a place up to that of the next is open
pub open_at : (agents : List (List ℕ)) (events : List Event) (used place : ℕ) (Has : Id → Type 0) → IsIndexed agents events used Has → place ≤ used → slice_get (open_agents agents events) place ≡ slice_get agents place
open_at agents events used place Has i le =
    let count = i.count in
    get-take_within (suc (length (agents_of events))) agents place (omega (arith, count))

-- an agent that has an event stands at its place among those that have
pub used_at : (agents : List (List ℕ)) (events : List Event) (used place : ℕ) (Has : Id → Type 0) → IsIndexed agents events used Has → place < used → place < length agents → slice_get (agents_of events) place ≡ Some (get_or agents place [])
used_at agents events used place Has i lt within =
    ap (λ (names : List (List ℕ)). slice_get names place) i.begin ∙ get-take_within used agents place lt ∙ slice_get-get_or agents place [] within

-- what stands at a place among them stands there among all
pub used_is : (agents : List (List ℕ)) (events : List Event) (used place : ℕ) (Has : Id → Type 0) (name : List ℕ) → IsIndexed agents events used Has → slice_get (agents_of events) place ≡ Some name → slice_get agents place ≡ Some name
used_is agents events used place Has name i at = get-take used agents place name (ap (λ (names : List (List ℕ)). slice_get names place) (sym i.begin) ∙ at)

-- and may have the next record
pub used_open : (agents : List (List ℕ)) (events : List Event) (place : ℕ) (name : List ℕ) → slice_get agents place ≡ Some name → slice_get (agents_of events) place ≡ Some name → slice_get (open_agents agents events) place ≡ Some name
used_open agents events place name there at =
    let lt = place_within (agents_of events) place name at in
    get-take_within (suc (length (agents_of events))) agents place (omega (arith, lt)) ∙ there

pub known_open : (agents : List (List ℕ)) (events : List Event) (place : ℕ) (agent : List ℕ) → slice_get (open_agents agents events) place ≡ Some agent → list_any (name_eq agent) (open_agents agents events) ≡ true
known_open agents events place agent e = there_among name_eq names_equal name_exact (open_agents agents events) place agent e

take_all : {X : Type 0} (xs : List X) (n : ℕ) → slice_get xs n ≡ None → take (suc n) xs ≡ take n xs
take_all [] zero e = refl
take_all [] (suc n) e = refl
take_all (y ∷ ys) zero e = absurd cc
take_all (y ∷ ys) (suc n) e = ap (λ t. y ∷ t) (take_all ys n e)

-- the ids of a run
among_ids : (agent : List ℕ) (seq n : ℕ) (y : Id) → list_any (id_eq y) (ids_from agent seq n) ≡ true → (y.agent ≡ agent) × (seq ≤ y.seq) × (y.seq < seq + n)
among_ids agent seq zero y e = absurd cc
among_ids agent seq (suc n) y e =
    elim (or_cases (id_eq y (record { agent = agent; seq = seq })) (list_any (id_eq y) (ids_from agent (seq + 1) n)) e) [
      | inl t ↦
          let same = id_eq_exact y (record { agent = agent; seq = seq }) t in
          let at = ap (λ (z : Id). z.seq) same in
          (ap (λ (z : Id). z.agent) same, omega (arith, at), omega (arith, at))
      | inr t ↦
          let ih = among_ids agent (seq + 1) n y t in
          (ih.0, (let low = ih.1 in omega (arith, low)), (let high = ih.2 in omega (arith, high)))
    ]

ids_among : (agent : List ℕ) (seq n : ℕ) (y : Id) → y.agent ≡ agent → seq ≤ y.seq → y.seq < seq + n → list_any (id_eq y) (ids_from agent seq n) ≡ true
ids_among agent seq zero y same low high = absurd (omega (arith, low, high))
ids_among agent seq (suc n) y same low high =
    elim (cases_Bool (nat_lt seq y.seq)) [
      | inl t ↦ (let less = ltb-true seq y.seq t in or_right (id_eq y (record { agent = agent; seq = seq })) (list_any (id_eq y) (ids_from agent (seq + 1) n)) (ids_among agent (seq + 1) n y same (omega (arith, less)) (omega (arith, high))))
      | inr f ↦
          let at : y.seq ≡ seq = (let least = ltb-false seq y.seq f in omega (arith, least, low)) in
          let one : y ≡ record { agent = agent; seq = seq } = (λ i. record { agent = same i; seq = at i }) in
          or_left (id_eq y (record { agent = agent; seq = seq })) (list_any (id_eq y) (ids_from agent (seq + 1) n)) (ap (id_eq y) (sym one) ∙ ids_equal.refl y)
    ]

known_ids : (agent : List ℕ) (seq n : ℕ) → ids_of (map known_by (ids_from agent seq n)) ≡ ids_from agent seq n
known_ids agent seq zero = refl
known_ids agent seq (suc n) = ap (λ ids. record { agent = agent; seq = seq } ∷ ids) (known_ids agent (seq + 1) n)

pub ids_of_run : (x : Id) (n : ℕ) → ids_of (known_run x n) ≡ ids_from x.agent x.seq n
ids_of_run x n = known_ids x.agent x.seq n

held_parts : (events : List Event) (x : Id) (more : ℕ) (y : Id) → is_held (events ++ known_run x (suc more)) y ≡ (is_held events y || list_any (id_eq y) (ids_from x.agent x.seq (suc more)))
held_parts events x more y =
    ap (list_any (id_eq y)) (map-append (λ (f : Event). f.id) events (known_run x (suc more))) ∙ list_any-append (id_eq y) (ids_of events) (ids_of (known_run x (suc more)))
    ∙ ap (λ ids. is_held events y || list_any (id_eq y) ids) (ids_of_run x (suc more))

held_more : (events : List Event) (x : Id) (more : ℕ) (Has New : Id → Type 0) → ((y : Id) → Has y ↔ (is_held events y ≡ true)) → ((y : Id) → New y ↔ (Has y ⊎ IsInRange x more y)) → (y : Id) → New y ↔ (is_held (events ++ known_run x (suc more)) y ≡ true)
held_more events x more Has New old up y = (to, from)
  where
    to : New y → is_held (events ++ known_run x (suc more)) y ≡ true
    to h = held_parts events x more y ∙ elim ((up y).0 h) [
      | inl there ↦ or_left (is_held events y) (list_any (id_eq y) (ids_from x.agent x.seq (suc more))) ((old y).0 there)
      | inr r ↦ or_right (is_held events y) (list_any (id_eq y) (ids_from x.agent x.seq (suc more))) (ids_among x.agent x.seq (suc more) y r.agent r.from (let high = r.to in omega (arith, high)))
    ]

    from : is_held (events ++ known_run x (suc more)) y ≡ true → New y
    from e = elim (or_cases (is_held events y) (list_any (id_eq y) (ids_from x.agent x.seq (suc more))) (sym (held_parts events x more y) ∙ e)) [
      | inl t ↦ (up y).1 (inl ((old y).1 t))
      | inr t ↦ (let a = among_ids x.agent x.seq (suc more) y t in (up y).1 (inr (record { agent = a.0; from = a.1; to = (let high = a.2 in omega (arith, high)) })))
    ]

same_agents_behind : (n : ℕ) (agent : List ℕ) (seq : ℕ) (before : List Event) → list_any (name_eq agent) (agents_of before) ≡ true → agents_of (before ++ map known_by (ids_from agent seq n)) ≡ agents_of before
same_agents_behind zero agent seq before there = ap agents_of (append-nil before)
same_agents_behind (suc n) agent seq before there =
    let e = known_by (record { agent = agent; seq = seq }) in
    let pushed : agents_of (before ++ e ∷ []) ≡ agents_of before = agents_push before e ∙ known_agent (agents_of before) e there in
    ap agents_of (sym (append_assoc before (e ∷ []) (map known_by (ids_from agent (seq + 1) n))))
    ∙ same_agents_behind n agent (seq + 1) (before ++ e ∷ []) (ap (list_any (name_eq agent)) pushed ∙ there)
    ∙ pushed

-- a run has the agents of its first event
agents_of_run : (events : List Event) (x : Id) (more : ℕ) → agents_of (events ++ known_run x (suc more)) ≡ agents_of (events ++ known_by x ∷ [])
agents_of_run events x more =
    ap agents_of (sym (append_assoc events (known_by x ∷ []) (map known_by (ids_from x.agent (x.seq + 1) more))))
    ∙ same_agents_behind more x.agent (x.seq + 1) (events ++ known_by x ∷ []) (agent_there events (known_by x))

-- before the first event no id is among the seen ones
pub none_indexed : (agents : List (List ℕ)) (Has : Id → Type 0) → AreDistinct name_eq agents → ((x : Id) → Has x → ⊥) → IsIndexed agents [] 0 Has
none_indexed agents Has distinct none = record { distinct = distinct; begin = refl; count = refl; ids = λ x. ((λ h. absurd (none x h)), (λ e. absurd (never e))) }
  where
    never : false ≡ true → ⊥
    never e = cc

-- with events of the next agent one agent more is used
pub next_indexed : (agents : List (List ℕ)) (events : List Event) (used : ℕ) (Has New : Id → Type 0) (x : Id) (more : ℕ) → IsIndexed agents events used Has → slice_get agents used ≡ Some x.agent → ((y : Id) → New y ↔ (Has y ⊎ IsInRange x more y)) → IsIndexed agents (events ++ known_run x (suc more)) (used + 1) New
next_indexed agents events used Has New x more i at up =
    let unseen : list_any (name_eq x.agent) (agents_of events) ≡ false = ap (list_any (name_eq x.agent)) i.begin ∙ none_in_front name_eq names_equal name_exact [] agents used x.agent i.distinct at in
    let grown : agents_of (events ++ known_run x (suc more)) ≡ agents_of events ++ x.agent ∷ [] = agents_of_run events x more ∙ agents_push events (known_by x) ∙ next_agent (agents_of events) (known_by x) unseen in
    let one : suc used ≡ used + 1 = omega arith in
    record {
      distinct = i.distinct;
      begin = grown ∙ ap (λ xs. xs ++ x.agent ∷ []) i.begin ∙ sym (take_next agents used x.agent at) ∙ ap (λ n. take n agents) one;
      count = ap (λ (xs : List (List ℕ)). length xs) grown ∙ length-append (agents_of events) (x.agent ∷ []) ∙ ap (λ n. n + 1) i.count;
      ids = held_more events x more Has New i.ids up;
    }

seen_before : (agents : List (List ℕ)) (used : ℕ) (agent : List ℕ) → list_any (name_eq agent) (take (suc used) agents) ≡ true → (slice_get agents used ≡ Some agent → false ≡ true) → list_any (name_eq agent) (take used agents) ≡ true
seen_before agents used agent h other = at (slice_get agents used) refl
  where
    at : (o : Option (List ℕ)) → slice_get agents used ≡ o → list_any (name_eq agent) (take used agents) ≡ true
    at None is = ap (list_any (name_eq agent)) (sym (take_all agents used is)) ∙ h
    at (Some x) is =
        let both : (list_any (name_eq agent) (take used agents) || (name_eq agent x || false)) ≡ true = sym (list_any-append (name_eq agent) (take used agents) (x ∷ [])) ∙ ap (list_any (name_eq agent)) (sym (take_next agents used x is)) ∙ h in
        elim (or_cases (list_any (name_eq agent) (take used agents)) (name_eq agent x || false) both) [
          | inl t ↦ t
          | inr t ↦ absurd (let same : agent ≡ x = name_exact agent x (only_first (name_eq agent x) t) in let no : false ≡ true = other (is ∙ ap (λ y. Some y) (sym same)) in cc)
        ]
      where
        only_first : (b : Bool) → (b || false) ≡ true → b ≡ true
        only_first true k = refl
        only_first false k = k

-- with events of another open agent no more are used
pub known_indexed : (agents : List (List ℕ)) (events : List Event) (used : ℕ) (Has New : Id → Type 0) (x : Id) (more : ℕ) → IsIndexed agents events used Has → list_any (name_eq x.agent) (open_agents agents events) ≡ true → (slice_get agents used ≡ Some x.agent → false ≡ true) → ((y : Id) → New y ↔ (Has y ⊎ IsInRange x more y)) → IsIndexed agents (events ++ known_run x (suc more)) used New
known_indexed agents events used Has New x more i known other up =
    let here = ap (λ n. list_any (name_eq x.agent) (take (suc n) agents)) (sym i.count) ∙ known in
    let seen : list_any (name_eq x.agent) (agents_of events) ≡ true = ap (list_any (name_eq x.agent)) i.begin ∙ seen_before agents used x.agent here other in
    let same : agents_of (events ++ known_run x (suc more)) ≡ agents_of events = agents_of_run events x more ∙ agents_push events (known_by x) ∙ known_agent (agents_of events) (known_by x) seen in
    record {
      distinct = i.distinct;
      begin = same ∙ i.begin;
      count = ap (λ (xs : List (List ℕ)). length xs) same ∙ i.count;
      ids = held_more events x more Has New i.ids up;
    }

-- ---- whether ids are new

-- an id of the agent at a place is seen where its number is below the count there, or a range has it
seen_here : (agents : List (List ℕ)) (events : List Event) (used : ℕ) (counts : List ℕ) (table : Id → Option ℕ) (place : ℕ) (y : Id) → IsIndexed agents events used (IsSeen agents counts table) → slice_get agents place ≡ Some y.agent → place < length counts
    → ((y.seq < get_or counts place 0) ⊎ IsCovered table y) ↔ (is_held events y ≡ true)
seen_here agents events used counts table place y i at lt = (to, from)
  where
    count : count_for agents counts y.agent ≡ get_or counts place 0
    count = seen_at agents counts table place y i.distinct at lt 0

    to : (y.seq < get_or counts place 0) ⊎ IsCovered table y → is_held events y ≡ true
    to (inl less) = (i.ids y).0 (inl (let same = count in omega (arith, less, same)))
    to (inr c) = (i.ids y).0 (inr c)

    either : (y.seq < count_for agents counts y.agent) ⊎ IsCovered table y → (y.seq < get_or counts place 0) ⊎ IsCovered table y
    either (inl less) = inl (let same = count in omega (arith, less, same))
    either (inr c) = inr c

    from : is_held events y ≡ true → (y.seq < get_or counts place 0) ⊎ IsCovered table y
    from e = either ((i.ids y).1 e)

all_new : (events : List Event) (agent : List ℕ) (seq n : ℕ) → ((y : Id) → y.agent ≡ agent → seq ≤ y.seq → y.seq < seq + n → is_held events y ≡ false) → list_all (λ y. not (is_held events y)) (ids_from agent seq n) ≡ true
all_new events agent seq zero none = refl
all_new events agent seq (suc n) none =
    and_from _ _ (ap not (none (record { agent = agent; seq = seq }) refl (omega arith) (omega arith)))
    (all_new events agent (seq + 1) n (λ y same low high. none y same (omega (arith, low)) (omega (arith, high))))

not_new : (events : List Event) (agent : List ℕ) (seq n : ℕ) (y : Id) → y.agent ≡ agent → seq ≤ y.seq → y.seq < seq + n → is_held events y ≡ true → list_all (λ z. not (is_held events z)) (ids_from agent seq n) ≡ false
not_new events agent seq zero y same low high there = absurd (omega (arith, low, high))
not_new events agent seq (suc n) y same low high there =
    let first : Id = record { agent = agent; seq = seq } in
    let others = list_all (λ z. not (is_held events z)) (ids_from agent (seq + 1) n) in
    elim (cases_Bool (nat_lt seq y.seq)) [
      | inl t ↦ (let less = ltb-true seq y.seq t in and_right (not (is_held events first)) others (not_new events agent (seq + 1) n y same (omega (arith, less)) (omega (arith, high)) there))
      | inr f ↦
          let at : y.seq ≡ seq = (let least = ltb-false seq y.seq f in omega (arith, least, low)) in
          let one : y ≡ first = (λ i. record { agent = same i; seq = at i }) in
          ap (λ b. not b && others) (ap (is_held events) (sym one) ∙ there)
    ]

-- what is told of some ids by counts and ranges is whether they are new
pub told_new : (agents : List (List ℕ)) (events : List Event) (used : ℕ) (counts : List ℕ) (table : Id → Option ℕ) (place : ℕ) (x : Id) (more : ℕ) (b : Bool) → IsIndexed agents events used (IsSeen agents counts table) → slice_get agents place ≡ Some x.agent → place < length counts
    → HasOneOf b (get_or counts place 0) table x more → not b ≡ are_new events x (suc more)
told_new agents events used counts table place x more true i at lt h =
    let r = h.1 in
    let high = r.to in
    sym (not_new events x.agent x.seq (suc more) h.0 r.agent r.from (omega (arith, high)) ((seen_here agents events used counts table place h.0 i (at ∙ ap (λ a. Some a) (sym r.agent)) lt).0 h.2))
told_new agents events used counts table place x more false i at lt h = sym (all_new events x.agent x.seq (suc more) none)
  where
    none : (y : Id) → y.agent ≡ x.agent → x.seq ≤ y.seq → y.seq < x.seq + suc more → is_held events y ≡ false
    none y same low high =
        elim (cases_Bool (is_held events y)) [
          | inl t ↦ absurd (h y (record { agent = same; from = low; to = omega (arith, high) }) ((seen_here agents events used counts table place y i (at ∙ ap (λ a. Some a) (sym same)) lt).1 t))
          | inr f ↦ f
        ]

-- and of one id, whether an event has it
pub told_held : (agents : List (List ℕ)) (events : List Event) (used : ℕ) (counts : List ℕ) (table : Id → Option ℕ) (place : ℕ) (x : Id) (b : Bool) → IsIndexed agents events used (IsSeen agents counts table) → slice_get agents place ≡ Some x.agent → place < length counts
    → HasOneOf b (get_or counts place 0) table x 0 → b ≡ is_held events x
told_held agents events used counts table place x b i at lt h = turned b (is_held events x) (told_new agents events used counts table place x 0 b i at lt h)
  where
    turned : (p q : Bool) → not p ≡ (not q && true) → p ≡ q
    turned true true e = refl
    turned true false e = absurd cc
    turned false true e = absurd cc
    turned false false e = refl

pub unheld : (events : List Event) (x : Id) → (is_held events x ≡ true → ⊥) → is_held events x ≡ false
unheld events x never =
    elim (cases_Bool (is_held events x)) [
      | inl t ↦ absurd (never t)
      | inr f ↦ f
    ]

-- the same ids, told by the same counts and ranges
pub same_index : (agents : List (List ℕ)) (events : List Event) (used : ℕ) (counts others : List ℕ) (table new : Id → Option ℕ) → others ≡ counts → ((x : Id) → new x ≡ table x) → IsIndexed agents events used (IsSeen agents counts table) → IsIndexed agents events used (IsSeen agents others new)
same_index agents events used counts others table new same tables i = record { distinct = i.distinct; begin = i.begin; count = i.count; ids = λ x. ((λ h. (i.ids x).0 (back x h)), (λ e. on x ((i.ids x).1 e))) }
  where
    back : (x : Id) → IsSeen agents others new x → IsSeen agents counts table x
    back x (inl less) = inl (let count = ap (λ ns. count_for agents ns x.agent) same in omega (arith, less, count))
    back x (inr c) = inr (record { first = c.first; more = c.more; has = sym (tables c.first) ∙ c.has; within = c.within })

    on : (x : Id) → IsSeen agents counts table x → IsSeen agents others new x
    on x (inl less) = inl (let count = ap (λ ns. count_for agents ns x.agent) same in omega (arith, less, count))
    on x (inr c) = inr (record { first = c.first; more = c.more; has = tables c.first ∙ c.has; within = c.within })

-- new ids aren't in a range
pub new_uncovered : (agents : List (List ℕ)) (events : List Event) (used : ℕ) (counts : List ℕ) (table : Id → Option ℕ) (x : Id) (more : ℕ) → IsIndexed agents events used (IsSeen agents counts table) → are_new events x (suc more) ≡ true → (y : Id) → IsInRange x more y → IsCovered table y → ⊥
new_uncovered agents events used counts table x more i new y r c =
    let high = r.to in
    differ (sym new ∙ not_new events x.agent x.seq (suc more) y r.agent r.from (omega (arith, high)) ((i.ids y).0 (inr c)))
  where
    differ : true ≡ false → ⊥
    differ e = cc

-- ids that ascend go on ascending with one that is above their last
pub above_last : (parents : List Id) (x y : Id) → ids_ascend parents ≡ true → slice_get parents (length parents - 1) ≡ Some y → ids_ascend (parents ++ x ∷ []) ≡ id_lt y x
above_last [] x y up e = none_is_some y e
above_last (z ∷ []) x y up e = ap (λ w. id_lt w x && true) (some_is z y e) ∙ and_true (id_lt y x)
  where
    and_true : (b : Bool) → (b && true) ≡ b
    and_true true = refl
    and_true false = refl
above_last (z ∷ w ∷ ps) x y up e =
    let p = and_parts (id_lt z w) (ids_ascend (w ∷ ps)) up in
    ap (λ b. b && ids_ascend (w ∷ ps ++ x ∷ [])) p.0 ∙ above_last (w ∷ ps) x y p.1 (ap (slice_get (z ∷ w ∷ ps)) (shorter (length ps)) ∙ e)
  where
    shorter : (n : ℕ) → suc (suc n - 1) ≡ suc (suc n) - 1
    shorter n = omega arith
