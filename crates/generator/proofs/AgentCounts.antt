-- How many events of each agent a good history has, and how many events in all.
use Rattle.std.proofs.Common.{◌≡◌, ℕ, zero, suc, ◌+◌, ◌<◌, ◌≤◌, true, false, cond, inl, inr, ⊎_elim, List, [], ◌∷◌, length, arith, refl, sym, ap, ◌∙◌}
use Rattle.std.proofs.lemmas.Bool.{cases_lt, ltb-true, ltb-false, lt-ltb}
use Rattle.std.proofs.lemmas.List.Sums.{sum_by-cons}
use Rattle.ew_model.specs.declared.id.Id.{Id}
use Rattle.ew_model.specs.declared.event.Event.{Event}
use Rattle.ew_model.specs.Ancestors.{is_held}
use Rattle.ew_model.specs.Edits.{count_of}
use Rattle.ew_model.specs.Ids.{name_eq}
use Rattle.ew_model.specs.Sets.{Among}
use Rattle.ew_model.specs.Verdicts.{IsGood}
use Rattle.ew_model.proofs.CoverLaws.{event_of, held_by}
use Rattle.ew_model.proofs.EditNumbers.{numbered, runs_on}
use Rattle.ew_model.proofs.IdLaws.{is_same_id}
use Rattle.peer_definitions.specs.Making.{agent_of}

-- the numbers that are held are those below the count
pub below_count : (history : List Event) (x : Id) → IsGood history → is_held history x ≡ true → x.seq < count_of history x.agent
below_count history x good held = ltb-true x.seq (count_of history x.agent) (sym (runs_on history good x.agent x.seq) ∙ held)

pub from_count : (history : List Event) (x : Id) → IsGood history → is_held history x ≡ false → count_of history x.agent ≤ x.seq
from_count history x good free = ltb-false x.seq (count_of history x.agent) (sym (runs_on history good x.agent x.seq) ∙ free)

-- a history that has all events of an agent that another has counts no fewer
pub count_within : (xs ys : List Event) (agent : List ℕ) → IsGood xs → IsGood ys → ((z : Event) → Among z xs → z.id.agent ≡ agent → Among z ys) → count_of xs agent ≤ count_of ys agent
count_within xs ys agent good_xs good_ys there = ⊎_elim (λ less. absurd (never less)) (λ fine. fine) (cases_lt (count_of ys agent) (count_of xs agent))
  where
    n : ℕ
    n = count_of ys agent

    never : count_of ys agent < count_of xs agent → ⊥
    never less =
        let x = numbered agent n in
        let found = event_of xs x (runs_on xs good_xs agent n ∙ lt-ltb n (count_of xs agent) less) in
        let same : x ≡ found.0.id = (is_same_id x found.0.id).0 found.2 in
        let here = there found.0 found.1 (sym (ap (λ (y : Id). y.agent) same)) in
        let less_still : n < n = below_count ys x good_ys (held_by ys x found.0 here found.2) in
        omega (arith, less_still)

-- one that lacks an event which another has counts fewer of its agent
pub count_less : (xs ys : List Event) (x : Id) → IsGood xs → IsGood ys → is_held xs x ≡ false → is_held ys x ≡ true → count_of xs x.agent < count_of ys x.agent
count_less xs ys x good_xs good_ys free held =
    let low = from_count xs x good_xs free in
    let high = below_count ys x good_ys held in
    omega (arith, low, high)

-- an event's agent is one of the three
abbrev pub IsOfThree : Event → Type 0
IsOfThree e = (n : ℕ) × (n < 3) × (e.id.agent ≡ agent_of n)

one_more : (e : Event) (xs : List Event) (n : ℕ) → count_of (e ∷ xs) (agent_of n) ≡ cond (name_eq e.id.agent (agent_of n)) 1 0 + count_of xs (agent_of n)
one_more e xs n = sum_by-cons (λ (f : Event). cond (name_eq f.id.agent (agent_of n)) 1 0) e xs

counted : (e : Event) (xs : List Event) (n m : ℕ) → e.id.agent ≡ agent_of m → count_of (e ∷ xs) (agent_of n) ≡ cond (name_eq (agent_of m) (agent_of n)) 1 0 + count_of xs (agent_of n)
counted e xs n m is = one_more e xs n ∙ ap (λ a. cond (name_eq a (agent_of n)) 1 0 + count_of xs (agent_of n)) is

-- of events of the three agents there are as many as each agent has, together
pub length_by_agents : (xs : List Event) → ((z : Event) → Among z xs → IsOfThree z) → length xs ≡ count_of xs (agent_of 0) + count_of xs (agent_of 1) + count_of xs (agent_of 2)
length_by_agents [] of = refl
length_by_agents (e ∷ xs) of = by (of e (inl refl)) (length_by_agents xs (λ z m. of z (inr m)))
  where
    at : (m a b c : ℕ) → e.id.agent ≡ agent_of m → cond (name_eq (agent_of m) (agent_of 0)) 1 0 ≡ a → cond (name_eq (agent_of m) (agent_of 1)) 1 0 ≡ b
        → cond (name_eq (agent_of m) (agent_of 2)) 1 0 ≡ c → a + b + c ≡ 1
        → length xs ≡ count_of xs (agent_of 0) + count_of xs (agent_of 1) + count_of xs (agent_of 2)
        → suc (length xs) ≡ count_of (e ∷ xs) (agent_of 0) + count_of (e ∷ xs) (agent_of 1) + count_of (e ∷ xs) (agent_of 2)
    at m a b c is p q r one rest =
        let first : count_of (e ∷ xs) (agent_of 0) ≡ a + count_of xs (agent_of 0) = counted e xs 0 m is ∙ ap (λ n. n + count_of xs (agent_of 0)) p in
        let second : count_of (e ∷ xs) (agent_of 1) ≡ b + count_of xs (agent_of 1) = counted e xs 1 m is ∙ ap (λ n. n + count_of xs (agent_of 1)) q in
        let third : count_of (e ∷ xs) (agent_of 2) ≡ c + count_of xs (agent_of 2) = counted e xs 2 m is ∙ ap (λ n. n + count_of xs (agent_of 2)) r in
        omega (arith, rest, first, second, third, one)

    by : IsOfThree e → length xs ≡ count_of xs (agent_of 0) + count_of xs (agent_of 1) + count_of xs (agent_of 2) → suc (length xs) ≡ count_of (e ∷ xs) (agent_of 0) + count_of (e ∷ xs) (agent_of 1) + count_of (e ∷ xs) (agent_of 2)
    by (zero, small, is) rest = at 0 1 0 0 is refl refl refl refl rest
    by (suc zero, small, is) rest = at 1 0 1 0 is refl refl refl refl rest
    by (suc (suc zero), small, is) rest = at 2 0 0 1 is refl refl refl refl rest
    by (suc (suc (suc n)), small, is) rest = absurd (omega (arith, small))
