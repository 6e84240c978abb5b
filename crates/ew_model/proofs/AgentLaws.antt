-- The agents of a history: they only grow, each is listed once, and there are no more of them than events.
use Rattle.std.proofs.Common.{◌≡◌, ℕ, suc, ◌+◌, ◌<◌, ◌≤◌, true, false, inl, inr, List, [], ◌∷◌, ◌++◌, length, fold, Option, Some, slice_get, refl, sym, ap, ◌∙◌, subst, append_assoc, append-nil, arith}
use Rattle.std.specs.List.{list_any, AllByRecursion}
use Rattle.std.proofs.lemmas.Bool.{cases_Bool, cond-true, cond-false}
use Rattle.std.proofs.lemmas.List.{length-append}
use Rattle.std.proofs.lemmas.List.Sums.{fold_push, fold-append}
use Rattle.std.proofs.lemmas.Option.{slice_get_within}
use Rattle.ew_model.specs.declared.id.Id.{Id}
use Rattle.ew_model.specs.declared.event.Event.{Event}
use Rattle.ew_model.specs.Ids.{name_eq}
use Rattle.ew_model.specs.Ancestors.{ids_of}
use Rattle.ew_model.specs.Names.{is_name}
use Rattle.ew_model.specs.Sound.{AreSound}
use Rattle.ew_model.specs.Distinct.{AllNew}
use Rattle.ew_model.specs.Writable.{with_agent, agents_of}
use Rattle.ew_model.proofs.IdLaws.{names_equal, name_exact}
use Rattle.ew_model.proofs.EntryLaws.{all_joined}
use Rattle.ew_model.proofs.ListPlaces.{one_more_new}

pub agents_push : (before : List Event) (e : Event) → agents_of (before ++ e ∷ []) ≡ with_agent (agents_of before) e
agents_push before e = fold_push with_agent [] before e

pub known_agent : (agents : List (List ℕ)) (e : Event) → list_any (name_eq e.id.agent) agents ≡ true → with_agent agents e ≡ agents
known_agent agents e h = cond-true (list_any (name_eq e.id.agent) agents) agents (agents ++ e.id.agent ∷ []) h

pub next_agent : (agents : List (List ℕ)) (e : Event) → list_any (name_eq e.id.agent) agents ≡ false → with_agent agents e ≡ agents ++ e.id.agent ∷ []
next_agent agents e h = cond-false (list_any (name_eq e.id.agent) agents) agents (agents ++ e.id.agent ∷ []) h

-- later events only add agents
pub agents_grow : (agents : List (List ℕ)) (events : List Event) → (more : List (List ℕ)) × (fold with_agent agents events ≡ agents ++ more)
agents_grow agents [] = ([], sym (append-nil agents))
agents_grow agents (e ∷ events) =
    let rest = agents_grow (with_agent agents e) events in
    elim (cases_Bool (list_any (name_eq e.id.agent) agents)) [
      | inl t ↦ (rest.0, rest.1 ∙ ap (λ xs. xs ++ rest.0) (known_agent agents e t))
      | inr f ↦ (e.id.agent ∷ rest.0, rest.1 ∙ ap (λ xs. xs ++ rest.0) (next_agent agents e f) ∙ append_assoc agents (e.id.agent ∷ []) rest.0)
    ]

-- the agents of a history go on from those before an event
pub agents_after : (before : List Event) (e : Event) (later : List Event) → (more : List (List ℕ)) × (agents_of (before ++ e ∷ later) ≡ with_agent (agents_of before) e ++ more)
agents_after before e later =
    let rest = agents_grow (with_agent (agents_of before) e) later in
    (rest.0, fold-append with_agent [] before (e ∷ later) ∙ rest.1)

pub agents_new_from : (agents : List (List ℕ)) (events : List Event) → AllNew name_eq [] agents → AllNew name_eq [] (fold with_agent agents events)
agents_new_from agents [] h = h
agents_new_from agents (e ∷ events) h =
    agents_new_from (with_agent agents e) events (elim (cases_Bool (list_any (name_eq e.id.agent) agents)) [
      | inl t ↦ subst (AllNew name_eq []) (sym (known_agent agents e t)) h
      | inr f ↦ subst (AllNew name_eq []) (sym (next_agent agents e f)) (one_more_new name_eq names_equal name_exact [] agents e.id.agent h f)
    ])

-- the bytes are a name
abbrev pub IsGoodName : List ℕ → Type 0
IsGoodName x = is_name x ≡ true

pub agents_good_from : (agents : List (List ℕ)) (events : List Event) → AllByRecursion IsGoodName agents → AreSound events → AllByRecursion IsGoodName (fold with_agent agents events)
agents_good_from agents [] h sound = h
agents_good_from agents (e ∷ events) h sound =
    agents_good_from (with_agent agents e) events (elim (cases_Bool (list_any (name_eq e.id.agent) agents)) [
      | inl t ↦ subst (AllByRecursion IsGoodName) (sym (known_agent agents e t)) h
      | inr f ↦ subst (AllByRecursion IsGoodName) (sym (next_agent agents e f)) (all_joined IsGoodName agents (e.id.agent ∷ []) h (sound.0.id.agent, tt))
    ]) sound.1

-- no more agents than events
pub agents_few_from : (agents : List (List ℕ)) (events : List Event) → length (fold with_agent agents events) ≤ length agents + length events
agents_few_from agents [] = omega arith
agents_few_from agents (e ∷ events) =
    let rest = agents_few_from (with_agent agents e) events in
    elim (cases_Bool (list_any (name_eq e.id.agent) agents)) [
      | inl t ↦ let same = ap (λ (xs : List (List ℕ)). length xs) (known_agent agents e t) in omega arith
      | inr f ↦ let more = ap (λ (xs : List (List ℕ)). length xs) (next_agent agents e f) ∙ length-append agents (e.id.agent ∷ []) in omega arith
    ]

-- no more agents than events
pub few_agents : (events : List Event) → length (agents_of events) ≤ length events
few_agents events = omega (arith, agents_few_from [] events)

pub ids_count : (events : List Event) → length (ids_of events) ≡ length events
ids_count [] = refl
ids_count (e ∷ events) = ap suc (ids_count events)

-- an event with an id stands within the history
pub within_ids : (history : List Event) (position : ℕ) (x : Id) → slice_get (ids_of history) position ≡ Some x → position < length history
within_ids history position x at = subst (λ n. position < n) (ids_count history) (slice_get_within (ids_of history) position x at)
