-- Which ids are those of an agent from a number on.
use Rattle.std.proofs.Common.{◌≡◌, ℕ, zero, suc, ◌+◌, ◌<◌, ◌≤◌, nat_lt, Bool, true, false, ◌||◌, ⊎_elim, List, refl, sym, ap, ◌∙◌, subst, arith}
use Rattle.std.proofs.lemmas.Bool.{false≢true, or_cases, or_left, or_right, ltb-true, ltb-false}
use Rattle.ew_model.specs.declared.id.Id.{Id}
use Rattle.ew_model.specs.Ids.{id_eq, is_among}
use Rattle.ew_model.proofs.IdLaws.{is_same_id}
use Rattle.undo_definitions.specs.Wanted.{ids_from}

-- an id of the agent, with one of the numbers
pub record IsFrom (agent : List ℕ) (first n : ℕ) (x : Id) : Type 0 where
  pub own : x.agent ≡ agent
  pub low : first ≤ x.seq
  pub high : x.seq < first + n

one_of : (agent : List ℕ) (first n : ℕ) (x : Id) → id_eq x (record { agent = agent; seq = first }) ≡ true → IsFrom agent first (suc n) x
one_of agent first n x e =
    let y : Id = record { agent = agent; seq = first } in
    let same : x ≡ y = (is_same_id x y).0 e in
    let number : x.seq ≡ first = ap (λ (z : Id). z.seq) same in
    record { own = ap (λ (z : Id). z.agent) same; low = omega (arith, number); high = omega (arith, number) }

pub from_told : (agent : List ℕ) (first n : ℕ) (x : Id) → is_among (ids_from agent first n) x ≡ true → IsFrom agent first n x
from_told agent first zero x e = absurd (false≢true e)
from_told agent first (suc n) x e =
    ⊎_elim (one_of agent first n x)
    (λ k. let more = from_told agent (first + 1) n x k in record { own = more.own; low = omega (arith, more.low); high = omega (arith, more.high) })
    (or_cases (id_eq x (record { agent = agent; seq = first })) (is_among (ids_from agent (first + 1) n) x) e)

pub told_from : (agent : List ℕ) (first n : ℕ) (x : Id) → IsFrom agent first n x → is_among (ids_from agent first n) x ≡ true
told_from agent first zero x h = absurd (omega (arith, h.low, h.high))
told_from agent first (suc n) x h = at (nat_lt first x.seq) refl (λ k. told_from agent (first + 1) n x k)
  where
    y : Id
    y = record { agent = agent; seq = first }

    at : (b : Bool) → nat_lt first x.seq ≡ b → (IsFrom agent (first + 1) n x → is_among (ids_from agent (first + 1) n) x ≡ true) → (id_eq x y || is_among (ids_from agent (first + 1) n) x) ≡ true
    at true q go =
        let more : first < x.seq = ltb-true first x.seq q in
        or_right (id_eq x y) (is_among (ids_from agent (first + 1) n) x) (go (record { own = h.own; low = omega (arith, more); high = omega (arith, h.high) }))
    at false q go =
        let no_more : x.seq ≤ first = ltb-false first x.seq q in
        let number : x.seq ≡ first = omega (arith, no_more, h.low) in
        or_left (id_eq x y) (is_among (ids_from agent (first + 1) n) x) ((is_same_id x y).1 (λ i. record { agent = h.own i; seq = number i }))
