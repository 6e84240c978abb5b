-- The runs of a history are as long as they can be, and there are no others that are.
use Rattle.std.proofs.Common.{◌≡◌, ℕ, zero, suc, ◌+◌, ◌-◌, ◌<◌, ◌≤◌, Bool, true, false, cond, eqb, ◌&&◌, inl, inr, List, [], ◌∷◌, ◌++◌, length, flat_map, refl, sym, ap, subst, ◌∙◌, append_assoc, append-nil, add-zero, arith}
use Rattle.std.proofs.lemmas.Bool.{cases_Bool, and_from, or_left, or_right, eq-eqb, ne_eqb, cond-true, cond-false}
use Rattle.std.proofs.lemmas.List.{length-append}
use Rattle.ew_model.specs.declared.id.Id.{Id}
use Rattle.ew_model.specs.declared.event.Op.{Op}
use Rattle.ew_model.specs.declared.event.Op.TheVariants.{Ins, Del, Mark}
use Rattle.ew_model.specs.declared.event.Event.{Event}
use Rattle.ew_model.specs.Ids.{id_eq}
use Rattle.ew_model.specs.Edits.{chain_of, insertions_at, deletions_at, back_deletions_at}
use Rattle.ew_model.proofs.IdLaws.{names_equal}
use Rattle.ew_model.proofs.TextLaws.{ids_equal}
use Rattle.file_words.specs.FileRuns.{RunOps, FileRun, ops_count, run_events, op_alone, run_of_one, takes_step, last_id, is_next_id, are_only, continues, with_op, longer, runs_from, file_runs}
use Rattle.file_words.specs.FileRuns.RunOps.{Insertions, Deletions, BackDeletions, OneMark}
use Rattle.file_words.specs.FileRunLaws.{IsSteady, first_op_of, first_event, AreApart, AreLongest, RunsAreTheLongest}
use Rattle.file_words.proofs.FileRuns.{alone_steady, steps_grow, continues_parts}

-- ---- one event more

abbrev run : Id → List Id → RunOps → FileRun
run x parents ops = record { id = x; parents = parents; ops = ops }

-- an event of the agent, on one event of the agent
abbrev in_chain : List ℕ → ℕ → ℕ → Op → Event
in_chain agent m k op = record { id = record { agent = agent; seq = m }; parents = record { agent = agent; seq = k } ∷ []; op = op }

continues_from : (r : FileRun) (m k : ℕ) (op : Op) → 0 < ops_count r.ops → m ≡ r.id.seq + ops_count r.ops → k ≡ r.id.seq + ops_count r.ops - 1 → takes_step r.ops op ≡ true → continues r (in_chain r.id.agent m k op) ≡ true
continues_from r m k op some m_is k_is step =
    let numbered : eqb m (suc (r.id.seq + ops_count r.ops - 1)) ≡ true = eq-eqb m (suc (r.id.seq + ops_count r.ops - 1)) (omega arith) in
    let only : id_eq (last_id r) (record { agent = r.id.agent; seq = k }) ≡ true = ap (λ n. id_eq (last_id r) (record { agent = r.id.agent; seq = n })) k_is ∙ ids_equal.refl (last_id r) in
    and_from _ _ (and_from _ _ (and_from _ _ (names_equal.refl r.id.agent) numbered) only) step

step_taken : (r : FileRun) (e : Event) (later : List Event) → continues r e ≡ true → runs_from r (e ∷ later) ≡ runs_from (longer r e) later
step_taken r e later t = cond-true (continues r e) (runs_from (longer r e) later) (r ∷ runs_from (run_of_one e) later) t

-- ---- a run grows as long as its operations go

text_grows : (more text : List ℕ) (x : Id) (parents : List Id) (at m k i : ℕ) (later : List Event) → 0 < length text → m ≡ x.seq + length text → k ≡ x.seq + length text - 1 → i ≡ at + length text
    → runs_from (run x parents (Insertions at text)) (chain_of x.agent m (record { agent = x.agent; seq = k } ∷ []) (insertions_at i more) ++ later) ≡ runs_from (run x parents (Insertions at (text ++ more))) later
text_grows [] text x parents at m k i later some m_is k_is i_is = ap (λ t. runs_from (run x parents (Insertions at t)) later) (sym (append-nil text))
text_grows (ch ∷ more) text x parents at m k i later some m_is k_is i_is =
    let r = run x parents (Insertions at text) in
    let rest = chain_of x.agent (m + 1) (record { agent = x.agent; seq = m } ∷ []) (insertions_at (i + 1) more) ++ later in
    let long : length (text ++ ch ∷ []) ≡ suc (length text) = let l = length-append text (ch ∷ []) in omega (arith, l) in
    step_taken r (in_chain x.agent m k (Ins i ch)) rest (continues_from r m k (Ins i ch) some m_is k_is (eq-eqb i (at + length text) i_is))
    ∙ text_grows more (text ++ ch ∷ []) x parents at (m + 1) m (i + 1) later (omega (arith, long)) (omega (arith, long, m_is)) (omega (arith, long, m_is)) (omega (arith, long, i_is))
    ∙ ap (λ t. runs_from (run x parents (Insertions at t)) later) (append_assoc text (ch ∷ []) more)

deletions_grow : (n count : ℕ) (x : Id) (parents : List Id) (at m k : ℕ) (later : List Event) → 0 < count → m ≡ x.seq + count → k ≡ x.seq + count - 1
    → runs_from (run x parents (Deletions at count)) (chain_of x.agent m (record { agent = x.agent; seq = k } ∷ []) (deletions_at at n) ++ later) ≡ runs_from (run x parents (Deletions at (count + n))) later
deletions_grow zero count x parents at m k later some m_is k_is = ap (λ n. runs_from (run x parents (Deletions at n)) later) (sym (add-zero count))
deletions_grow (suc n) count x parents at m k later some m_is k_is =
    let r = run x parents (Deletions at count) in
    let rest = chain_of x.agent (m + 1) (record { agent = x.agent; seq = m } ∷ []) (deletions_at at n) ++ later in
    let same : eqb at at ≡ true = eq-eqb at at refl in
    let sum : suc count + n ≡ count + suc n = omega arith in
    step_taken r (in_chain x.agent m k (Del at)) rest (continues_from r m k (Del at) some m_is k_is (or_left (eqb at at) (eqb count 1 && eqb (suc at) at) same))
    ∙ ap (λ ops. runs_from (run x parents ops) rest) (cond-true (eqb at at) (Deletions at (suc count)) (BackDeletions at (suc count)) same)
    ∙ deletions_grow n (suc count) x parents at (m + 1) m later (omega arith) (omega (arith, m_is)) (omega (arith, m_is))
    ∙ ap (λ j. runs_from (run x parents (Deletions at j)) later) sum

back_grows : (n count : ℕ) (x : Id) (parents : List Id) (at m k i : ℕ) (later : List Event) → 1 < count → count + n ≤ suc at → m ≡ x.seq + count → k ≡ x.seq + count - 1 → i ≡ at - count
    → runs_from (run x parents (BackDeletions at count)) (chain_of x.agent m (record { agent = x.agent; seq = k } ∷ []) (back_deletions_at i n) ++ later) ≡ runs_from (run x parents (BackDeletions at (count + n))) later
back_grows zero count x parents at m k i later some low m_is k_is i_is = ap (λ n. runs_from (run x parents (BackDeletions at n)) later) (sym (add-zero count))
back_grows (suc n) count x parents at m k i later some low m_is k_is i_is =
    let r = run x parents (BackDeletions at count) in
    let rest = chain_of x.agent (m + 1) (record { agent = x.agent; seq = m } ∷ []) (back_deletions_at (i - 1) n) ++ later in
    let sum : suc count + n ≡ count + suc n = omega arith in
    step_taken r (in_chain x.agent m k (Del i)) rest (continues_from r m k (Del i) (omega arith) m_is k_is (eq-eqb (i + count) at (omega arith)))
    ∙ back_grows n (suc count) x parents at (m + 1) m (i - 1) later (omega arith) (omega arith) (omega (arith, m_is)) (omega (arith, m_is)) (omega arith)
    ∙ ap (λ j. runs_from (run x parents (BackDeletions at j)) later) sum

step_alike : (ops : RunOps) (at ch : ℕ) → takes_step ops (Ins at ch) ≡ takes_step ops (Ins at 0)
step_alike (Insertions i text) at ch = refl
step_alike (Deletions i count) at ch = refl
step_alike (BackDeletions i count) at ch = refl
step_alike (OneMark label) at ch = refl

-- the run is made of its first event by those that follow, and that one goes on from a run where the first event does
pub record IsMade (s : FileRun) : Type 0 where
  pub first : Event
  pub more : List Event
  pub events : run_events s ≡ first ∷ more
  pub grows : (later : List Event) → runs_from (run_of_one first) (more ++ later) ≡ runs_from s later
  pub alike : (r : FileRun) → continues r first ≡ continues r (first_event s)

back_made : (x : Id) (parents : List Id) (at n : ℕ) → suc (suc n) ≤ suc at → IsMade (run x parents (BackDeletions at (suc (suc n))))
back_made x parents at n low =
    let sum : 2 + n ≡ suc (suc n) = omega arith in
    let second : Event = in_chain x.agent (x.seq + 1) x.seq (Del (at - 1)) in
    let more = chain_of x.agent (x.seq + 1 + 1) (record { agent = x.agent; seq = x.seq + 1 } ∷ []) (back_deletions_at (at - 1 - 1) n) in
    let alone = run x parents (Deletions at 1) in
    let other : eqb (at - 1) at ≡ false = ne_eqb (at - 1) at (λ same. omega (arith, same, low)) in
    let step : takes_step (Deletions at 1) (Del (at - 1)) ≡ true = or_right (eqb (at - 1) at) (eqb 1 1 && eqb (suc (at - 1)) at) (and_from (eqb 1 1) (eqb (suc (at - 1)) at) refl (eq-eqb (suc (at - 1)) at (omega arith))) in
    record {
      first = record { id = x; parents = parents; op = Del at };
      more = second ∷ more;
      events = refl;
      grows = λ later.
          step_taken alone second (more ++ later) (continues_from alone (x.seq + 1) x.seq (Del (at - 1)) (omega arith) refl (omega arith) step)
          ∙ ap (λ ops. runs_from (run x parents ops) (more ++ later)) (cond-false (eqb (at - 1) at) (Deletions at 2) (BackDeletions at 2) other)
          ∙ back_grows n 2 x parents at (x.seq + 1 + 1) (x.seq + 1) (at - 1 - 1) later (omega arith) (omega arith) (omega arith) (omega arith) (omega arith)
          ∙ ap (λ j. runs_from (run x parents (BackDeletions at j)) later) sum;
      alike = λ r. refl;
    }

one_more : (n : ℕ) → 1 + n ≡ suc n
one_more n = omega arith

run_made_of : (x : Id) (parents : List Id) (ops : RunOps) → IsSteady ops → IsMade (run x parents ops)
run_made_of x parents (Insertions at []) s = absurd (omega (arith, s))
run_made_of x parents (Insertions at (ch ∷ text)) s = record {
  first = record { id = x; parents = parents; op = Ins at ch };
  more = chain_of x.agent (x.seq + 1) (x ∷ []) (insertions_at (at + 1) text);
  events = refl;
  grows = λ later. text_grows text (ch ∷ []) x parents at (x.seq + 1) x.seq (at + 1) later (omega arith) refl (omega arith) refl;
  alike = λ r. ap (λ b. is_next_id (last_id r) x && are_only parents (last_id r) && b) (step_alike r.ops at ch);
}
run_made_of x parents (Deletions at zero) s = absurd (omega (arith, s))
run_made_of x parents (Deletions at (suc n)) s = record {
  first = record { id = x; parents = parents; op = Del at };
  more = chain_of x.agent (x.seq + 1) (x ∷ []) (deletions_at at n);
  events = refl;
  grows = λ later. deletions_grow n 1 x parents at (x.seq + 1) x.seq later (omega arith) refl (omega arith) ∙ ap (λ j. runs_from (run x parents (Deletions at j)) later) (one_more n);
  alike = λ r. refl;
}
run_made_of x parents (BackDeletions at zero) s = absurd (omega (arith, s.0))
run_made_of x parents (BackDeletions at (suc zero)) s = absurd (omega (arith, s.0))
run_made_of x parents (BackDeletions at (suc (suc n))) s = back_made x parents at n s.1
run_made_of x parents (OneMark label) s = record {
  first = record { id = x; parents = parents; op = Mark label };
  more = [];
  events = refl;
  grows = λ later. refl;
  alike = λ r. refl;
}

pub run_made : (s : FileRun) → IsSteady s.ops → IsMade s
run_made s steady = run_made_of s.id s.parents s.ops steady

-- ---- runs from whose events no others can be made

runs_again_from : (runs : List FileRun) (r : FileRun) → AreApart r runs → runs_from r (flat_map run_events runs) ≡ r ∷ runs
runs_again_from [] r apart = refl
runs_again_from (s ∷ runs) r apart =
    let m = run_made s apart.0 in
    let later = flat_map run_events runs in
    ap (λ (events : List Event). runs_from r (events ++ later)) m.events
    ∙ cond-false (continues r m.first) (runs_from (longer r m.first) (m.more ++ later)) (r ∷ runs_from (run_of_one m.first) (m.more ++ later)) (m.alike r ∙ apart.1)
    ∙ ap (λ (rs : List FileRun). r ∷ rs) (m.grows later ∙ runs_again_from runs s apart.2)

runs_made_again : (runs : List FileRun) → AreLongest runs → file_runs (flat_map run_events runs) ≡ runs
unfolding file_runs
runs_made_again [] longest = refl
runs_made_again (r ∷ runs) longest =
    let m = run_made r longest.0 in
    let later = flat_map run_events runs in
    ap (λ (events : List Event). file_runs (events ++ later)) m.events ∙ m.grows later ∙ runs_again_from runs r longest.1

-- ---- the runs of a history

first_kept : (ops : RunOps) (op : Op) → takes_step ops op ≡ true → first_op_of (with_op ops op) ≡ first_op_of ops
first_kept (Insertions at text) (Ins i ch) h = refl
first_kept (Insertions at text) (Del i) h = refl
first_kept (Insertions at text) (Mark label) h = refl
first_kept (Deletions at count) (Ins i ch) h = refl
first_kept (Deletions at count) (Del i) h = at_index (eqb i at)
  where
    at_index : (b : Bool) → first_op_of (cond b (Deletions at (suc count)) (BackDeletions at (suc count))) ≡ Del at
    at_index true = refl
    at_index false = refl
first_kept (Deletions at count) (Mark label) h = refl
first_kept (BackDeletions at count) op h = refl
first_kept (OneMark label) op h = refl

first_alike : (r : FileRun) (x : Id) (parents : List Id) (op : Op) → continues r (record { id = x; parents = parents; op = op }) ≡ continues r (record { id = x; parents = parents; op = first_op_of (op_alone op) })
first_alike r x parents (Ins at ch) = ap (λ b. is_next_id (last_id r) x && are_only parents (last_id r) && b) (step_alike r.ops at ch)
first_alike r x parents (Del at) = refl
first_alike r x parents (Mark label) = refl

-- the runs from a run on begin with one that has its first event
pub record AreFrom (r : FileRun) (runs : List FileRun) : Type 0 where
  pub head : FileRun
  pub more : List FileRun
  pub are : runs ≡ head ∷ more
  pub steady : IsSteady head.ops
  pub apart : AreApart head more
  pub first : first_event head ≡ first_event r

runs_from_are : (later : List Event) (r : FileRun) → IsSteady r.ops → AreFrom r (runs_from r later)
runs_from_are [] r steady = record { head = r; more = []; are = refl; steady = steady; apart = tt; first = refl }
runs_from_are (e ∷ later) r steady =
    let longer_runs = runs_from (longer r e) later in
    let new = r ∷ runs_from (run_of_one e) later in
    elim (cases_Bool (continues r e)) [
      | inl t ↦
          let c = continues_parts r e steady t in
          let g = steps_grow r.ops e.op steady c.step in
          let a = runs_from_are later (longer r e) g.0 in
          let kept : first_event (longer r e) ≡ first_event r = ap (λ op. record { id = r.id; parents = r.parents; op = op }) (first_kept r.ops e.op c.step) in
          record { head = a.head; more = a.more; are = cond-true (continues r e) longer_runs new t ∙ a.are; steady = a.steady; apart = a.apart; first = a.first ∙ kept }
      | inr f ↦
          let a = runs_from_are later (run_of_one e) (alone_steady e.op) in
          let still : continues r (first_event a.head) ≡ false = ap (λ h. continues r h) a.first ∙ sym (first_alike r e.id e.parents e.op) ∙ f in
          record { head = r; more = a.head ∷ a.more; are = cond-false (continues r e) longer_runs new f ∙ ap (λ (rs : List FileRun). r ∷ rs) a.are; steady = steady; apart = (a.steady, still, a.apart); first = refl }
    ]

longest_are : (runs : List FileRun) (head : FileRun) (more : List FileRun) → runs ≡ head ∷ more → IsSteady head.ops → AreApart head more → AreLongest runs
longest_are runs head more are steady apart = subst AreLongest (sym are) (steady, apart)

runs_are_longest : (history : List Event) → AreLongest (file_runs history)
unfolding file_runs
runs_are_longest [] = tt
runs_are_longest (e ∷ later) =
    let a = runs_from_are later (run_of_one e) (alone_steady e.op) in
    longest_are (runs_from (run_of_one e) later) a.head a.more a.are a.steady a.apart

pub runs_longest : RunsAreTheLongest
runs_longest = (runs_are_longest, runs_made_again)
