-- A good history has one head of each agent at most: the agent's last event.
use Rattle.std.proofs.Common.{◌≡◌, ℕ, zero, suc, ◌-◌, ◌<◌, ◌≤◌, true, false, not, inl, inr, ⊎_elim, List, [], ◌∷◌, ◌++◌, length, arith, refl, sym, ap, ◌∙◌, subst, append_assoc}
use Rattle.std.proofs.lemmas.Bool.{cases_Bool, false≢true, not-true}
use Rattle.ew_model.specs.declared.id.Id.{Id}
use Rattle.ew_model.specs.declared.event.Event.{Event}
use Rattle.ew_model.specs.Ancestors.{ancestors, heads, ids_of, is_held, is_parent, version_events}
use Rattle.ew_model.specs.Edits.{count_of}
use Rattle.ew_model.specs.Ids.{id_cmp, id_eq, is_among}
use Rattle.ew_model.specs.Sets.{Among}
use Rattle.ew_model.specs.Verdicts.{IsGood, IsGoodAfter, follows_its_agent, has_number_below, next_verdict}
use Rattle.ew_model.specs.Verdicts.Ruling.{Good}
use Rattle.ew_model.proofs.CoverLaws.{among_here, event_of}
use Rattle.ew_model.proofs.EditHeads.{ids_apart}
use Rattle.ew_model.proofs.GoodLaws.{good_laid_out, next_from_good}
use Rattle.ew_model.proofs.GraphVersions as versions
use Rattle.ew_model.proofs.IdLaws.{is_same_id}
use Rattle.ew_model.proofs.ListTests.{any_from, found_by}
use Rattle.ew_model.proofs.PathOrder.{id_total}
use Rattle.ew_model.proofs.SetLaws.{among_filter, among_map, joined_left, joined_right}
use Rattle.ew_model.proofs.SortingLaws.{ties_filter}
use Rattle.agreement.proofs.Apart.{apart_untied, no_more}
use Rattle.peer_definitions.specs.Making.{agent_of}
use Rattle.generator.proofs.AgentCounts.{IsOfThree, below_count, from_count}

-- a list parted at one of its events
record IsParted (history : List Event) (e : Event) : Type 0 where
  before : List Event
  later : List Event
  whole : history ≡ before ++ e ∷ later

parted : (history : List Event) (e : Event) → Among e history → IsParted history e
parted [] e m = absurd m
parted (x ∷ history) e (inl same) = record { before = []; later = history; whole = ap (λ y. y ∷ history) (sym same) }
parted (x ∷ history) e (inr m) = let rest = parted history e m in record { before = x ∷ rest.before; later = rest.later; whole = ap (λ xs. x ∷ xs) rest.whole }

-- each event is good behind those before it
good_at : (start before later : List Event) (e : Event) → IsGoodAfter start (before ++ e ∷ later) → next_verdict (start ++ before) e ≡ Good
good_at start [] later e h = subst (λ xs. next_verdict xs e ≡ Good) (sym (nothing start)) h.0
  where
    nothing : (xs : List Event) → xs ++ [] ≡ xs
    nothing [] = refl
    nothing (x ∷ xs) = ap (λ ys. x ∷ ys) (nothing xs)
good_at start (x ∷ before) later e h = subst (λ xs. next_verdict xs e ≡ Good) (append_assoc start (x ∷ []) before) (good_at (start ++ x ∷ []) before later e h.1)

-- an id that an event behind names, or that is an ancestor of what it names, is a parent
is_below : (history before later : List Event) (g : Event) (x : Id) → history ≡ before ++ g ∷ later → is_among (ancestors before g.parents) x ≡ true → is_parent history x ≡ true
is_below history before later g x whole known =
    let found = event_of (version_events before g.parents) x known in
    let same : found.0.id ≡ x = sym ((is_same_id x found.0.id).0 found.2) in
    subst (λ xs. is_parent xs x ≡ true) (sym whole)
    (⊎_elim
    (λ named. any_from (λ (e : Event). is_among e.parents x) (before ++ g ∷ later) g (joined_right before (g ∷ later) g (inl refl)) (subst (λ (y : Id). is_among g.parents y ≡ true) same named))
    (λ child.
    let parent = found_by (λ (e : Event). is_among e.parents found.0.id) before child in
    any_from (λ (e : Event). is_among e.parents x) (before ++ g ∷ later) parent.0 (joined_left before (g ∷ later) parent.0 parent.1) (subst (λ (y : Id). is_among parent.0.parents y ≡ true) same parent.2))
    (versions.named_or_parent (λ (e : Event). e.id) (λ (e : Event). e.parents) id_eq before g.parents found.0 found.1))

-- the agent's next event isn't held where this one is no parent
no_next : (history : List Event) (x : Id) → IsGood history → is_parent history x ≡ false → is_held history (record { agent = x.agent; seq = suc x.seq }) ≡ true → ⊥
unfolding IsGood follows_its_agent
no_next history x good none held =
    let y : Id = record { agent = x.agent; seq = suc x.seq } in
    let found = event_of history y held in
    let same : found.0.id ≡ y = sym ((is_same_id y found.0.id).0 found.2) in
    let at = parted history found.0 found.1 in
    let good_there = good_at [] at.before at.later found.0 (subst (IsGoodAfter []) at.whole good) in
    let follows : has_number_below (ancestors at.before found.0.parents) found.0.id.agent found.0.id.seq ≡ true = (next_from_good at.before found.0 good_there).follows in
    let known : is_among (ancestors at.before found.0.parents) x ≡ true = subst (λ (z : Id). has_number_below (ancestors at.before found.0.parents) z.agent z.seq ≡ true) same follows in
    false≢true (sym none ∙ is_below history at.before at.later found.0 x at.whole known)

-- an agent's last id
abbrev last_of : List Event → List ℕ → Id
last_of history agent = record { agent = agent; seq = count_of history agent - 1 }

head_is_last : (history : List Event) (x : Id) → IsGood history → Among x (heads history) → x ≡ last_of history x.agent
head_is_last history x good m =
    let parts = among_filter (λ (y : Id). not (is_parent history y)) (ids_of history) x m in
    let low = below_count history x good (among_here (ids_of history) x parts.0) in
    let next : Id = record { agent = x.agent; seq = suc x.seq } in
    let high : count_of history x.agent ≤ suc x.seq = ⊎_elim (λ held. absurd (no_next history x good (not-true (is_parent history x) parts.1) held)) (λ free. from_count history next good free)
    (cases_Bool (is_held history next)) in
    let number : x.seq ≡ count_of history x.agent - 1 = omega (arith, low, high) in
    λ i. record { agent = x.agent; seq = number i }

-- where all events are of the three agents there are three heads at most
pub three_heads : (history : List Event) → IsGood history → ((z : Event) → Among z history → IsOfThree z) → length (heads history) ≤ 3
three_heads history good of =
    no_more (heads history) (last_of history (agent_of 0) ∷ last_of history (agent_of 1) ∷ last_of history (agent_of 2) ∷ [])
    (apart_untied id_total (heads history) (ties_filter id_cmp (λ x. not (is_parent history x)) (ids_of history) (ids_apart [] history (good_laid_out history good))))
    there
  where
    by : (x : Id) → x ≡ last_of history x.agent → (n : ℕ) × (n < 3) × (x.agent ≡ agent_of n) → Among x (last_of history (agent_of 0) ∷ last_of history (agent_of 1) ∷ last_of history (agent_of 2) ∷ [])
    by x is (zero, small, named) = inl (is ∙ ap (last_of history) named)
    by x is (suc zero, small, named) = inr (inl (is ∙ ap (last_of history) named))
    by x is (suc (suc zero), small, named) = inr (inr (inl (is ∙ ap (last_of history) named)))
    by x is (suc (suc (suc n)), small, named) = absurd (omega (arith, small))

    there : (x : Id) → Among x (heads history) → Among x (last_of history (agent_of 0) ∷ last_of history (agent_of 1) ∷ last_of history (agent_of 2) ∷ [])
    there x m =
        let parts = among_filter (λ (y : Id). not (is_parent history y)) (ids_of history) x m in
        let event = among_map (λ (e : Event). e.id) history x parts.0 in
        let agent = of event.0 event.1 in
        by x (head_is_last history x good m) (agent.0, agent.1, ap (λ (y : Id). y.agent) event.2 ∙ agent.2)
