-- A walk over all events of a good history that forgets none of them.
use Rattle.std.proofs.Common.{◌≡◌, ℕ, zero, suc, ◌+◌, List, [], ◌∷◌, ◌++◌, length, take, Some, refl, sym, ap, ◌∙◌, subst, append_assoc, append-nil, arith}
use Rattle.std.specs.Prelude.{slice_get}
use Rattle.std.proofs.lemmas.List.{take_all}
use Rattle.ew_model.specs.declared.event.Event.{Event}
use Rattle.ew_model.specs.Touches.{touches}
use Rattle.ew_model.specs.Verdicts.{IsGood, IsGoodAfter, next_verdict}
use Rattle.ew_model.specs.Verdicts.Ruling.{Good, OutOfRange}
use Rattle.ew_model.specs.Walks.{base_at, walked_from}
use Rattle.ew_model.proofs.CutLaws.{start_critical}
use Rattle.advance_retreat.specs.Kept.{Kept}
use Rattle.advance_retreat.specs.Standing.{StandsFor}
use Rattle.transform.specs.declared.apply.Turn.{Turn}
use Rattle.transform.specs.declared.apply.Turn.TheVariants.{Applied, OutOfRange as Stops}
use Rattle.transform.specs.Keeping.{CountsFrom}
use Rattle.transform.specs.Reaching.{GoesFrom, IsBehind, StandsAt, Turned, prepared_since}
use Rattle.transform.proofs.CutFronts.{same_base}
use Rattle.transform.proofs.Sides.{take_next}
use Rattle.transform.proofs.Steps.{base_is_none}

-- GOOD EVENTS
good_front : (held events : List Event) (n : ℕ) → IsGoodAfter held events → IsGoodAfter held (take n events)
good_front held events zero h = tt
good_front held [] (suc n) h = tt
good_front held (e ∷ events) (suc n) h = (h.0, good_front (held ++ e ∷ []) events n h.1)

-- the first events of a good history are good
pub front_good : (history : List Event) (n : ℕ) → IsGood history → IsGood (take n history)
unfolding IsGood
front_good history n good = good_front [] history n good

good_after : (held events : List Event) (n : ℕ) (e : Event) → IsGoodAfter held events → slice_get events n ≡ Some e → next_verdict (held ++ take n events) e ≡ Good
good_after held [] n e h at = let no : ⊥ = cc in absurd no
good_after held (f ∷ events) zero e h at =
    let here : f ≡ e = cc in
    subst (λ (g : Event). next_verdict (held ++ []) g ≡ Good) here (ap (λ (w : List Event). next_verdict w f) (append-nil held) ∙ h.0)
good_after held (f ∷ events) (suc n) e h at =
    ap (λ (w : List Event). next_verdict w e) (sym (append_assoc held (f ∷ []) (take n events))) ∙ good_after (held ++ f ∷ []) events n e h.1 at

-- and each is good by those before it
pub good_at : (history : List Event) (n : ℕ) (e : Event) → IsGood history → slice_get history n ≡ Some e → next_verdict (take n history) e ≡ Good
unfolding IsGood
good_at history n e good at = good_after [] history n e good at

-- all events are behind the start
from_start : (history : List Event) (n : ℕ) → IsGood history → IsBehind history 0 n
from_start history n good = record { low = omega arith; critical = start_critical history; good = front_good history n good }

-- the state stands for all events up to a place, and the last of them is prepared, with its ancestors
abbrev pub IsWhole : List Event → ℕ → Kept → Type 0
IsWhole history n state = StandsAt history 0 n (prepared_since (take n history) 0) state

-- THE BEGINNING AND THE END
pub whole_begins : (history : List Event) (state : Kept) → StandsFor state 0 [] [] → IsWhole history 0 state
whole_begins history state stands = subst (λ b. StandsFor state b [] []) (sym (base_is_none history)) stands

pub whole_ends : (history : List Event) (n : ℕ) (state : Kept) → n ≡ length history → IsWhole history n state → StandsFor state 0 (walked_from history 0) (prepared_since history 0)
whole_ends history n state is stands =
    let all : take n history ≡ history = take_all n history (omega (arith, is)) in
    subst (λ (es : List Event). StandsFor state 0 (walked_from es 0) (prepared_since es 0)) all
    (subst (λ b. StandsFor state b (walked_from (take n history) 0) (prepared_since (take n history) 0)) (base_is_none history) stands)

pub untouched : (history : List Event) → touches (take 0 history) 0 ≡ 0
unfolding touches
untouched history = refl

pub all_touched : (history : List Event) (n : ℕ) → n ≡ length history → touches (take n history) 0 ≡ touches history 0
all_touched history n is = ap (λ (es : List Event). touches es 0) (take_all n history (omega (arith, is)))

-- THE MOVES
-- it is a walk that goes from the start
pub whole_goes : (history : List Event) (n : ℕ) (state : Kept) → IsGood history → IsWhole history n state → GoesFrom history 0 n state
whole_goes history n state good stands = record { behind = from_start history n good; stands = stands }

-- whose touches are counted from there
pub whole_counts : (n : ℕ) → CountsFrom 0 n 0
whole_counts n = record { begins = λ same. refl; goes_on = λ some. some }

-- THE APPLY
-- an event that was applied is walked too
pub whole_next : (history : List Event) (n : ℕ) (e : Event) (state : Kept) (turn : Turn) → IsGood history → slice_get history n ≡ Some e → Turned (take n history) 0 e state turn → IsWhole history (n + 1) state
whole_next history n e state (Applied op) good at t =
    let next = take_next history n e at in
    subst (λ b. StandsFor state b (walked_from (take (n + 1) history) 0) (prepared_since (take (n + 1) history) 0)) (same_base history 0 n (omega arith))
    (subst (λ (es : List Event). StandsFor state (base_at (take n history) 0) (walked_from es 0) (prepared_since es 0)) (sym next) t.1)
whole_next history n e state (Stops len) good at t = absurd (not_both (sym (good_at history n e good at) ∙ t.0))
  where
    not_both : Good ≡ OutOfRange len → ⊥
    not_both same = cc

-- none is out of range
pub never_outside : (history : List Event) (n : ℕ) (e : Event) (state : Kept) (turn : Turn) (len : ℕ) → IsGood history → slice_get history n ≡ Some e → turn ≡ Stops len → Turned (take n history) 0 e state turn → ⊥
never_outside history n e state turn len good at is t =
    not_both (sym (good_at history n e good at) ∙ (subst (λ (w : Turn). Turned (take n history) 0 e state w) is t).0)
  where
    not_both : Good ≡ OutOfRange len → ⊥
    not_both same = cc
