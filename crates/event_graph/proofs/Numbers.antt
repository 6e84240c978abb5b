-- A good event's number is how many events its agent has.
use Rattle.std.proofs.Common.{◌≡◌, ℕ, zero, suc, ◌<◌, ◌≤◌, true, false, List, [], ◌∷◌, ◌++◌, length, is_some, sym, ap, ◌∙◌, subst, arith, append-nil, append_assoc}
use Rattle.std.specs.Prelude.{slice_get}
use Rattle.std.proofs.lemmas.Bool.{false≢true}
use Rattle.ew_model.specs.declared.id.Id.{Id}
use Rattle.ew_model.specs.declared.event.Event.{Event}
use Rattle.ew_model.specs.Ids.{id_eq, is_among}
use Rattle.ew_model.specs.Ancestors.{ids_of, is_held, ancestors}
use Rattle.ew_model.specs.Verdicts.{has_number_below, follows_its_agent}
use Rattle.ew_model.proofs.EntryLaws.{ancestors_held}
use Rattle.history_definitions.specs.Agents.{count_of, AreNumbered}
use Rattle.agent_ids.specs.Table.{positions_of}
use Rattle.std.proofs.lemmas.List.{map-append}
use Rattle.agent_ids.proofs.Numbers.{position_at, numbered_push}
use Rattle.agent_ids.proofs.OwnPositions.{positions-length}
use Rattle.event_graph.specs.Keeping.{AreAdmittedAfter, IsAdmitted}
use Rattle.event_graph.proofs.Admitted.{IsLetIn, let_in}
use Rattle.ew_model.proofs.ListParts.{is_some-position}

get_some : (xs : List ℕ) (k : ℕ) → is_some (slice_get xs k) ≡ true → k < length xs
get_some [] k h = absurd (false≢true h)
get_some (x ∷ xs) zero h = omega arith
get_some (x ∷ xs) (suc k) h = let less = get_some xs k h in omega (arith, less)

get_none : (xs : List ℕ) (k : ℕ) → is_some (slice_get xs k) ≡ false → length xs ≤ k
get_none [] k h = omega arith
get_none (x ∷ xs) zero h = absurd (false≢true (sym h))
get_none (x ∷ xs) (suc k) h = let more = get_none xs k h in omega (arith, more)

-- an id is among numbered ones exactly where its number is below its agent's count
told : (ids : List Id) (y : Id) → AreNumbered ids → is_some (slice_get (positions_of ids y.agent) y.seq) ≡ is_among ids y
told ids y numbered = ap is_some (position_at ids y numbered) ∙ is_some-position (id_eq y) ids

pub below_count : (ids : List Id) (y : Id) → AreNumbered ids → is_among ids y ≡ true → y.seq < count_of ids y.agent
below_count ids y numbered h = let less = get_some (positions_of ids y.agent) y.seq (told ids y numbered ∙ h) in omega (arith, less, positions-length ids y.agent)

from_count : (ids : List Id) (y : Id) → AreNumbered ids → is_among ids y ≡ false → count_of ids y.agent ≤ y.seq
from_count ids y numbered h = let more = get_none (positions_of ids y.agent) y.seq (told ids y numbered ∙ h) in omega (arith, more, positions-length ids y.agent)

number_by : (history : List Event) (parents : List Id) (agent : List ℕ) (s : ℕ) → AreNumbered (ids_of history) → is_held history (record { agent = agent; seq = s }) ≡ false
    → has_number_below (ancestors history parents) agent s ≡ true → s ≡ count_of (ids_of history) agent
number_by history parents agent zero numbered new follows =
    let most = from_count (ids_of history) (record { agent = agent; seq = zero }) numbered new in omega (arith, most)
number_by history parents agent (suc n) numbered new follows =
    let most = from_count (ids_of history) (record { agent = agent; seq = suc n }) numbered new in
    let least = below_count (ids_of history) (record { agent = agent; seq = n }) numbered (ancestors_held history parents (record { agent = agent; seq = n }) follows) in
    omega (arith, most, least)

pub number_next : (history : List Event) (e : Event) → AreNumbered (ids_of history) → IsLetIn history e → e.id.seq ≡ count_of (ids_of history) e.id.agent
unfolding follows_its_agent
number_next history e numbered next = number_by history e.parents e.id.agent e.id.seq numbered next.new next.follows

-- The ids of an admitted history are numbered.
numbered_after : (before later : List Event) → AreNumbered (ids_of before) → AreAdmittedAfter before later → AreNumbered (ids_of (before ++ later))
numbered_after before [] numbered h = subst (λ (es : List Event). AreNumbered (ids_of es)) (sym (append-nil before)) numbered
numbered_after before (e ∷ later) numbered h =
    subst (λ (es : List Event). AreNumbered (ids_of es)) (append_assoc before (e ∷ []) later)
    (numbered_after (before ++ e ∷ []) later
    (subst AreNumbered (sym (map-append (λ (f : Event). f.id) before (e ∷ []))) (numbered_push (ids_of before) e.id numbered (number_next before e numbered (let_in before e h.0)))) h.1)

pub numbered_ids : (history : List Event) → IsAdmitted history → AreNumbered (ids_of history)
numbered_ids history h = numbered_after [] history nothing h
  where
    nothing : AreNumbered []
    nothing place x e = let no : ⊥ = cc in absurd no
