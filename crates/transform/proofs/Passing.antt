-- Events of a run that are walked without a state.
use Rattle.std.proofs.Common.{◌≡◌, ℕ, zero, suc, ◌+◌, ◌-◌, ◌<◌, ◌≤◌, true, false, List, [], ◌∷◌, ◌++◌, length, map, take, drop, Some, refl, sym, ap, ◌∙◌, subst, arith, append-nil, append_assoc}
use Rattle.std.specs.Prelude.{slice_get}
use Rattle.std.proofs.lemmas.Bool.{le-ltb, lt-leb}
use Rattle.std.proofs.lemmas.List.{length-take-le}
use Rattle.ew_model.specs.declared.event.Event.{Event}
use Rattle.ew_model.specs.declared.event.Op.{Op}
use Rattle.ew_model.specs.declared.event.Op.TheVariants as op
use Rattle.ew_model.specs.declared.text_op.TextOp.{TextOp}
use Rattle.ew_model.specs.Cuts.{is_critical}
use Rattle.ew_model.specs.Operations.{operations}
use Rattle.ew_model.specs.TextLaws.{own_change, Fits}
use Rattle.ew_model.specs.Verdicts.{is_outside}
use Rattle.ew_model.specs.Walks.{base_at}
use Rattle.ew_model.proofs.ListParts.{element_there}
use Rattle.ew_model.proofs.TextLengths.{length_operations}
use Rattle.advance_retreat.specs.Kept.{Kept}
use Rattle.event_graph.specs.Keeping.{IsAdmitted}
use Rattle.operation_runs.specs.Runs.{insertions, deletions, back_deletions, nothings}
use Rattle.transform.specs.Changing.{FitTo, changed_length, length_by}
use Rattle.transform.specs.Reaching.{InLine, IsBehind}
use Rattle.transform.specs.Running.{StandAlone, emitted_to}
use Rattle.transform.proofs.RunTurns.{line_behind, line_long, line_next, line_operations, own}

-- WHICH CHANGES FIT
pub insertions_fit : (at len : ℕ) (chars : List ℕ) → at ≤ len → FitTo len (insertions at chars) (len + length chars)
insertions_fit at len [] h = omega arith
insertions_fit at len (ch ∷ chars) h =
    let same : len + 1 + length chars ≡ len + suc (length chars) = omega arith in
    (h, subst (FitTo (len + 1) (insertions (at + 1) chars)) same (insertions_fit (at + 1) (len + 1) chars (omega (arith, h))))

pub deletions_fit : (at len n : ℕ) → at + n ≤ len → FitTo len (deletions at n) (len - n)
deletions_fit at len zero h = omega arith
deletions_fit at len (suc n) h =
    let same : len - 1 - n ≡ len - suc n = omega arith in
    (omega (arith, h), subst (FitTo (len - 1) (deletions at n)) same (deletions_fit at (len - 1) n (omega (arith, h))))

pub back_fit : (at len n : ℕ) → at < len → n ≤ at + 1 → FitTo len (back_deletions at n) (len - n)
back_fit at len zero h few = omega arith
back_fit at len (suc zero) h few = (h, refl)
back_fit at len (suc (suc n)) h few =
    let same : len - 1 - suc n ≡ len - suc (suc n) = omega arith in
    (h, subst (FitTo (len - 1) (back_deletions (at - 1) (suc n))) same (back_fit (at - 1) (len - 1) (suc n) (omega (arith, h, few)) (omega (arith, few))))

pub nothings_fit : (len n : ℕ) → FitTo len (nothings n) len
nothings_fit len zero = refl
nothings_fit len (suc n) = (tt, nothings_fit len n)

-- what an event does fits where it isn't out of range
inside_by : (len : ℕ) (o : Op) → Fits len (own_change o) → is_outside len o ≡ false
inside_by len (op.Ins at ch) h = le-ltb len at h
inside_by len (op.Del at) h = lt-leb len at h
inside_by len (op.Mark label) h = refl

changed_by_own : (len : ℕ) (o : Op) → changed_length (own_change o) len ≡ length_by o len
changed_by_own len (op.Ins at ch) = refl
changed_by_own len (op.Del at) = refl
changed_by_own len (op.Mark label) = refl

-- WALKED WITHOUT A STATE, from a place on: up to which place, and how long the text is there
pub record Passes (history : List Event) (start position n len : ℕ) (changes : List TextOp) : Type 0 where
  pub behind : IsBehind history n n
  pub is_long : len ≡ base_at history n
  pub line : (from : ℕ) (state : Kept) → from ≤ start → start < n → InLine history from n len state
  pub ops : operations (take n history) ≡ operations (take position history) ++ changes

-- an element of a list's first ones
read_taken : (xs : List TextOp) (n k : ℕ) → k < n → slice_get (take n xs) k ≡ slice_get xs k
read_taken xs zero k h = let no : ⊥ = omega (arith, h) in absurd no
read_taken [] (suc n) k h = refl
read_taken (x ∷ xs) (suc n) zero h = refl
read_taken (x ∷ xs) (suc n) (suc k) h = read_taken xs n k (omega (arith, h))

-- two lists without their first elements
drop_both : (n : ℕ) (xs ys : List TextOp) → drop n (xs ++ ys) ≡ drop n xs ++ drop (n - length xs) ys
drop_both n [] ys = let same : n ≡ n - 0 = omega arith in ap (λ (os : List TextOp). os ++ drop n ys) (sym (drop_none n)) ∙ ap (λ m. drop n [] ++ drop m ys) same
  where
    drop_none : (n : ℕ) → drop {A = TextOp} n [] ≡ []
    drop_none zero = refl
    drop_none (suc n) = refl
drop_both zero (x ∷ xs) ys = let same : 0 ≡ 0 - suc (length xs) = omega arith in ap (λ m. (x ∷ xs) ++ drop m ys) same
drop_both (suc n) (x ∷ xs) ys = let same : n - length xs ≡ suc n - suc (length xs) = omega arith in drop_both n xs ys ∙ ap (λ m. drop n xs ++ drop m ys) same

module _ (history : List Event) (admitted : IsAdmitted history) (start : ℕ) where
  pub passes : (changes : List TextOp) (position len after : ℕ) → start ≤ position → IsBehind history position position → len ≡ base_at history position → ((from : ℕ) (state : Kept) → from ≤ start → start < position → InLine history from position len state)
      → ((k : ℕ) → k < length changes → slice_get (map (λ (e : Event). own_change e.op) history) (position + k) ≡ slice_get changes k)
      → ((k : ℕ) → k < length changes → (position + k + 1 < length history) × (is_critical history (position + k + 1) ≡ true)) → FitTo len changes after → Passes history start position (position + length changes) after changes
  passes [] position len after low behind long line are alone fit =
      let here : position ≡ position + 0 = omega arith in
      record {
        behind = subst (λ n. IsBehind history n n) here behind;
        is_long = sym fit ∙ long ∙ ap (base_at history) here;
        line = λ from state start_low some. subst (λ n. InLine history from n after state) here (subst (λ m. InLine history from position m state) fit (line from state start_low (omega (arith, some))));
        ops = ap (λ n. operations (take n history)) (sym here) ∙ sym (append-nil (operations (take position history)));
      }
  passes (change ∷ changes) position len after low behind long line are alone fit =
      let here : position + 0 ≡ position = omega arith in
      let is : slice_get (map (λ (e : Event). own_change e.op) history) position ≡ Some change = ap (slice_get (map (λ (e : Event). own_change e.op) history)) (sym here) ∙ are 0 (omega arith) in
      let next : position + 0 + 1 ≡ position + 1 = omega arith in
      let first = alone 0 (omega arith) in
      let more : position + 1 < length history = omega (arith, first.0) in
      let critical : is_critical history (position + 1) ≡ true = ap (is_critical history) (sym next) ∙ first.1 in
      let found = element_there history position (omega (arith, more)) in
      let e = found.0 in
      let owns : own_change e.op ≡ change = own history admitted position e found.1 change is in
      let inside : is_outside len e.op ≡ false = inside_by len e.op (subst (Fits len) (sym owns) fit.0) in
      let then : changed_length change len ≡ length_by e.op len = ap (λ (c : TextOp). changed_length c len) (sym owns) ∙ changed_by_own len e.op in
      let longer = changed_length change len in
      let rest = passes changes (position + 1) longer after (omega (arith, low)) (line_behind history admitted position e found.1 change is len longer behind long inside then critical) (line_long history admitted position e found.1 change is len longer behind long inside then critical)
      (λ from state start_low some. line_next history admitted position e found.1 change is len longer behind long inside then critical from state (omega (arith, start_low, low)) more)
      (λ k few. let far : position + 1 + k ≡ position + suc k = omega arith in ap (slice_get (map (λ (e : Event). own_change e.op) history)) far ∙ are (suc k) (omega (arith, few)))
      (λ k few. let far : position + suc k + 1 ≡ position + 1 + k + 1 = omega arith in subst (λ n. (n < length history) × (is_critical history n ≡ true)) far (alone (suc k) (omega (arith, few)))) fit.1 in
      let end : position + 1 + length changes ≡ position + suc (length changes) = omega arith in
      record {
        behind = subst (λ n. IsBehind history n n) end rest.behind;
        is_long = rest.is_long ∙ ap (base_at history) end;
        line = λ from state start_low some. subst (λ n. InLine history from n after state) end (rest.line from state start_low (omega (arith, some)));
        ops = ap (λ n. operations (take n history)) (sym end)
            ∙ rest.ops
            ∙ ap (λ xs. xs ++ changes) (line_operations history admitted position e found.1 change is len longer behind long inside then critical)
            ∙ append_assoc (operations (take position history)) (change ∷ []) changes;
      }

-- the first so many events of a run
pub passes_first : (history : List Event) (admitted : IsAdmitted history) (position count n len after : ℕ) (changes : List TextOp) → n ≤ count → count ≤ length changes → IsBehind history position position → len ≡ base_at history position
    → ((k : ℕ) → k < length changes → slice_get (map (λ (e : Event). own_change e.op) history) (position + k) ≡ slice_get changes k) → StandAlone history position count → FitTo len (take n changes) after → Passes history position position (position + n) after (take n changes)
passes_first history admitted position count n len after changes low told behind long are alone fit =
    let few : length (take n changes) ≡ n = length-take-le n changes (omega (arith, low, told)) in
    subst (λ m. Passes history position position (position + m) after (take n changes)) few
    (passes history admitted position (take n changes) position len after (omega arith) behind long (λ from state start some. let no : ⊥ = omega (arith, some) in absurd no)
    (λ k less. are k (omega (arith, less, few, low, told)) ∙ sym (read_taken changes n k (omega (arith, less, few)))) (λ k less. alone k (omega (arith, less, few, low))) fit)

-- operations of events in a row that are handed out, those of them that are asked for
pub emitted_by_run : (history : List Event) (position n from : ℕ) (old new more : List TextOp) → position ≤ length history → operations (take (position + n) history) ≡ operations (take position history) ++ more → old ≡ emitted_to history from position
    → new ≡ old ++ drop (from - position) more → new ≡ emitted_to history from (position + n)
emitted_by_run history position n from old new more within whole before after =
    let front = operations (take position history) in
    let long : length front ≡ position = length_operations (take position history) ∙ length-take-le position history within in
    after ∙ ap (λ xs. xs ++ drop (from - position) more) before ∙ ap (λ m. drop from front ++ drop (from - m) more) (sym long) ∙ sym (drop_both from front more) ∙ ap (drop from) (sym whole)
