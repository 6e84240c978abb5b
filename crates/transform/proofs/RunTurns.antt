-- The turns over events of one run.
use Rattle.std.proofs.Common.{◌≡◌, ℕ, zero, suc, ◌+◌, ◌-◌, ◌<◌, ◌≤◌, true, false, List, [], ◌∷◌, ◌++◌, length, map, take, Option, Some, None, Result, Ok, Err, IfOk, refl, sym, ap, ◌∙◌, subst, arith}
use Rattle.std.specs.Prelude.{slice_get}
use Rattle.std.specs.declared.alloc.AllocError.{AllocError}
use Rattle.ew_model.specs.declared.event.Event.{Event}
use Rattle.ew_model.specs.declared.text_op.TextOp.{TextOp}
use Rattle.ew_model.specs.Cuts.{is_critical, latest_cut}
use Rattle.ew_model.specs.Operations.{operations}
use Rattle.ew_model.specs.Positions.{parents_at, parent_positions}
use Rattle.ew_model.specs.Sound.{AreSound}
use Rattle.ew_model.specs.TextLaws.{own_change}
use Rattle.ew_model.specs.Touches.{touches}
use Rattle.ew_model.specs.Verdicts.{is_outside}
use Rattle.ew_model.specs.Walks.{base_at}
use Rattle.ew_model.proofs.ListParts.{element_there}
use Rattle.frontier.specs.Chains.{IsChain}
use Rattle.advance_retreat.specs.Kept.{Kept}
use Rattle.event_graph.specs.Keeping.{IsAdmitted}
use Rattle.transform.specs.declared.run.Turns.{Turns}
use Rattle.transform.specs.declared.run.Turns.TheVariants.{To, OutOfRange}
use Rattle.transform.specs.Changing.{length_by}
use Rattle.transform.specs.declared.apply.Turn.TheVariants as turn
use Rattle.transform.specs.Reaching.{InLine, IsBehind, IsReadyAt, Reached, TurnedAt}
use Rattle.transform.specs.Running.{GoesTo, IsRunAt, HasNoCut, TurnsTo, judged_to}
use Rattle.transform.proofs.Applies.{change_is}
use Rattle.transform.proofs.Lines.{goes_in_line, good_next, own_length, own_operation}
use Rattle.transform.proofs.Loops.{latest_before, ready_over, touched}
use Rattle.transform.proofs.RunCuts.{touched_along}
use Rattle.transform.proofs.Sides.{over_last}
use Rattle.transform.proofs.Turning.{arrived_already}

-- fewer events of a run
pub run_fewer : (history : List Event) (position count n : ℕ) (changes : List TextOp) → IsRunAt history position count changes → 0 < n → n ≤ count → IsRunAt history position n changes
run_fewer history position count n changes run some low = record {
  some = some;
  within = let all = run.within in omega (arith, all, low);
  told = let all = run.told in omega (arith, all, low);
  chain = record { order = omega (arith, some); links = λ p from to. run.chain.links p from (omega (arith, to, low, some)) };
  changes_are = run.changes_are;
}

-- the events that a graph tells of a run
pub run_told : (history : List Event) (position count : ℕ) (changes : List TextOp) → count ≡ length changes → 0 < length changes → position + length changes ≤ length history → IsChain (parent_positions history) position (position + length changes - 1)
    → ((k : ℕ) → k < length changes → slice_get (map (λ (e : Event). own_change e.op) history) (position + k) ≡ slice_get changes k) → IsRunAt history position count changes
run_told history position count changes all some within chain are = record {
  some = omega (arith, all, some);
  within = omega (arith, all, within);
  told = omega (arith, all);
  chain = subst (λ n. IsChain (parent_positions history) position (position + n - 1)) (sym all) chain;
  changes_are = are;
}

-- what an event of a run does
pub change_at : (history : List Event) (position count place : ℕ) (changes : List TextOp) (change : TextOp) → IsRunAt history position count changes → place < count → slice_get changes place ≡ Some change
    → slice_get (map (λ (e : Event). own_change e.op) history) (position + place) ≡ Some change
change_at history position count place changes change run low is = let all = run.told in run.changes_are place (omega (arith, low, all)) ∙ is

-- READY
-- the next event of a chain is ready
pub ready_next : (history : List Event) (cut position count n : ℕ) (changes : List TextOp) (state : Kept) → IsAdmitted history → AreSound history → IsRunAt history position count changes → position < n → n < position + count → Reached history cut n state → IsReadyAt history cut n state
ready_next history cut position count n changes state admitted sound run low high reached =
    let all = run.within in
    let within : n < length history = omega (arith, high, all) in
    let e = element_there history n within in
    let next : n - 1 + 1 ≡ n = omega (arith, low) in
    let there : suc (n - 1) ≡ n = omega (arith, low) in
    let only : parents_at (parent_positions history) n ≡ (n - 1) ∷ [] = ap (parents_at (parent_positions history)) (sym there) ∙ run.chain.links (n - 1) (omega (arith, low)) (omega (arith, low, high)) in
    let same = over_last history n (n - 1) e.0 admitted next within e.1 only in
    ready_over history cut n e.0 state reached.behind e.1 (arrived_already history cut n e.0 state admitted sound e.1 reached same)

-- THE TURNS
pub turns_wider : (history : List Event) (from position end more : ℕ) (line : Option ℕ) (state : Kept) (turns : Turns) → end ≤ more → TurnsTo history from position end line state turns → TurnsTo history from position more line state turns
turns_wider history from position end more line state (To n) low t = (t.0, omega (arith, low, t.1), t.2)
turns_wider history from position end more line state (OutOfRange n len) low t = (t.0, omega (arith, low, t.1), t.2, t.3)

pub goes_wider : (history : List Event) (cut position end more : ℕ) (state : Kept) (turns : Turns) → end ≤ more → GoesTo history cut position end state turns → GoesTo history cut position more state turns
goes_wider history cut position end more state (To n) low t = (t.0, omega (arith, low, t.1), t.2)
goes_wider history cut position end more state (OutOfRange n len) low t = (t.0, omega (arith, low, t.1), t.2, t.3)

-- no event between is a cut: the latest one stays
latest_stays : (history : List Event) (position far count : ℕ) → far < count → HasNoCut history position count → latest_cut history (position + far) ≡ latest_cut history position
latest_stays history position zero count low apart = let same : position + 0 ≡ position = omega arith in ap (latest_cut history) same
latest_stays history position (suc far) count low apart =
    let next : position + suc far - 1 ≡ position + far = omega arith in
    latest_before history (position + suc far) (omega arith) (apart (position + suc far) (omega arith) (omega (arith, low)))
    ∙ ap (latest_cut history) next
    ∙ latest_stays history position far count (omega (arith, low)) apart

latest_to : (history : List Event) (position n count : ℕ) → position ≤ n → n < position + count → HasNoCut history position count → latest_cut history position ≡ latest_cut history n
latest_to history position n count low high apart =
    let same : position + (n - position) ≡ n = omega (arith, low) in
    sym (latest_stays history position (n - position) count (omega (arith, low, high)) apart) ∙ ap (latest_cut history) same

-- where none is, a walk that forgets goes as one that doesn't
pub goes_uncut : (history : List Event) (from position count : ℕ) (state : Kept) (turns : Turns) → from ≤ position → HasNoCut history position count → GoesTo history (latest_cut history position) position (position + count) state turns
    → TurnsTo history from position (position + count) None state turns
goes_uncut history from position count state (To n) start apart t =
    (t.0, t.1, (omega (arith, start, t.0), subst (λ c. Reached history c n state) (latest_to history position (n - 1) count (omega (arith, t.0)) (omega (arith, t.0, t.1)) apart) t.2))
goes_uncut history from position count state (OutOfRange n len) start apart t =
    (t.0, t.1, t.2, subst (λ c. TurnedAt history c n state (turn.OutOfRange len)) (latest_to history position n count t.0 t.1 apart) t.3)

-- how far the turns judged
pub judged_going : (history : List Event) (cut position end : ℕ) (state : Kept) (turns : Turns) → GoesTo history cut position end state turns → (position < judged_to turns) × (judged_to turns ≤ end)
judged_going history cut position end state (To n) t = (t.0, t.1)
judged_going history cut position end state (OutOfRange n len) t = (omega (arith, t.0), omega (arith, t.1))

pub judged_low : (history : List Event) (from position end : ℕ) (line : Option ℕ) (state : Kept) (turns : Turns) → TurnsTo history from position end line state turns → (position < judged_to turns) × (judged_to turns ≤ end)
judged_low history from position end line state (To n) t = (t.0, t.1)
judged_low history from position end line state (OutOfRange n len) t = (omega (arith, t.0), omega (arith, t.1))

-- two facts of a good answer
pub both_ok : (P Q R : Turns → Type 0) (answer : Result Turns AllocError) → ((turns : Turns) → P turns → Q turns → R turns) → IfOk answer P → IfOk answer Q → IfOk answer R
both_ok P Q R (Ok turns) f p q = f turns p q
both_ok P Q R (Err fault) f p q = tt

-- What turns cost: the moves before the first, and one step for each event.
module _ (history : List Event) (admitted : IsAdmitted history) (from position count : ℕ) (changes : List TextOp) (run : IsRunAt history position count changes) (low : from ≤ position) (before moved after : ℕ) (moves : moved + touches (take position history) from + 1 ≡ before + touches (take (position + 1) history) from) where
  along : (n : ℕ) → position < n → n ≤ position + count → touches (take n history) from + position + 1 ≡ touches (take (position + 1) history) from + n
  along n some high =
      let all = run.within in let more = run.some in
      touched_along history admitted position (position + count - 1) run.chain (omega (arith, all, more)) from n low some (omega (arith, high, more))

  pub cost_of : (n : ℕ) → position < n → n ≤ position + count → after + position ≡ moved + n → after + touches (take position history) from ≡ before + touches (take n history) from
  cost_of n some high steps = omega (arith, along n some high, steps, moves)

  pub most_cost : after ≤ moved + count → after + touches (take position history) from ≤ before + touches history from
  most_cost steps =
      let more = run.some in
      omega (arith, along (position + count) (omega (arith, more)) (omega arith), touched history (position + count) from, steps, moves)

-- HOW MANY are applied together
pub together_some : (alone count together : ℕ) → 0 < count → (0 < alone → together ≡ 1) → (alone ≡ 0 → together ≡ count) → (0 < together) × (together ≤ count)
together_some zero count together some one all = let is = all refl in (omega (arith, is, some), omega (arith, is))
together_some (suc alone) count together some one all = let is = one (omega arith) in (omega (arith, is), omega (arith, is, some))

pub together_apart : (history : List Event) (position alone count together : ℕ) → (0 < alone → together ≡ 1) → (alone ≡ 0 → together ≡ count) → (alone ≡ 0 → HasNoCut history position count) → HasNoCut history position together
together_apart history position zero count together one all apart = λ k low high. apart refl k low (let is = all refl in omega (arith, high, is))
together_apart history position (suc alone) count together one all apart = λ k low high. let is = one (omega arith) in let no : ⊥ = omega (arith, low, high, is) in absurd no

-- IN LINE
module _ (history : List Event) (admitted : IsAdmitted history) (n : ℕ) (e : Event) (at : slice_get history n ≡ Some e) (change : TextOp) (is : slice_get (map (λ (e : Event). own_change e.op) history) n ≡ Some change) where
  pub own : own_change e.op ≡ change
  own = change_is history n e change at is

  module _ (len after : ℕ) (behind : IsBehind history n n) (long : len ≡ base_at history n) (within : is_outside len e.op ≡ false) (then : after ≡ length_by e.op len) (critical : is_critical history (n + 1) ≡ true) where
    fits : is_outside (base_at history n) e.op ≡ false
    fits = ap (λ m. is_outside m e.op) (sym long) ∙ within

    pub line_behind : IsBehind history (n + 1) (n + 1)
    line_behind = record { low = omega arith; critical = critical; good = good_next history n e admitted at behind.critical behind.good fits }

    pub line_long : after ≡ base_at history (n + 1)
    line_long = then ∙ ap (length_by e.op) long ∙ sym (own_length history n e admitted at behind.critical fits)

    pub line_operations : operations (take (n + 1) history) ≡ operations (take n history) ++ change ∷ []
    line_operations = own_operation history n e admitted at behind.critical fits ∙ ap (λ o. operations (take n history) ++ o ∷ []) own

    pub line_next : (from : ℕ) (state : Kept) → from ≤ n → n + 1 < length history → InLine history from (n + 1) after state
    line_next from state low more = (goes_in_line history n e admitted at behind.critical from len after state low behind.good long within then more critical).0
