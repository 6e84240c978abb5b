-- The runs of a history hold its events.
use Rattle.std.proofs.Common.{◌≡◌, ℕ, zero, suc, ◌+◌, ◌-◌, ◌<◌, Bool, true, false, cond, eqb, ◌&&◌, ◌||◌, inl, inr, List, [], ◌∷◌, ◌++◌, length, flat_map, refl, sym, ap, ◌∙◌, append_assoc, arith}
use Rattle.std.proofs.lemmas.Bool.{cases_Bool, and_parts, eqb-true, cond-true, cond-false}
use Rattle.std.proofs.lemmas.List.{length-append}
use Rattle.ew_model.specs.declared.id.Id.{Id}
use Rattle.ew_model.specs.declared.event.Op.{Op}
use Rattle.ew_model.specs.declared.event.Op.TheVariants.{Ins, Del, Mark}
use Rattle.ew_model.specs.declared.event.Event.{Event}
use Rattle.ew_model.specs.Ids.{name_eq}
use Rattle.ew_model.specs.Edits.{chain_of, insertions_at, deletions_at, back_deletions_at}
use Rattle.ew_model.proofs.EditTexts.{insertions_long, deletions_long, back_long, insertions_push}
use Rattle.ew_model.proofs.IdLaws.{name_exact}
use Rattle.ew_model.proofs.PathOrder.{id_exact}
use Rattle.ew_model.proofs.GapLaws.{eq_from}
use Rattle.file_words.specs.FileRuns.{RunOps, FileRun, ops_count, ops_in, run_events, op_alone, run_of_one, takes_step, last_id, is_next_id, are_only, continues, with_op, longer, runs_from, file_runs}
use Rattle.file_words.specs.FileRuns.RunOps.{Insertions, Deletions, BackDeletions, OneMark}
use Rattle.file_words.specs.FileRunLaws.{IsSteady, RunsHoldHistories}

-- ---- what the events of a run do

pub alone_steady : (op : Op) → IsSteady (op_alone op)
alone_steady (Ins at ch) = omega arith
alone_steady (Del at) = omega arith
alone_steady (Mark label) = tt

pub steady_some : (ops : RunOps) → IsSteady ops → 0 < ops_count ops
steady_some (Insertions at text) s = s
steady_some (Deletions at count) s = s
steady_some (BackDeletions at count) s = omega (arith, s.0)
steady_some (OneMark label) s = omega arith

pub ops_long : (ops : RunOps) → length (ops_in ops) ≡ ops_count ops
ops_long (Insertions at text) = insertions_long at text
ops_long (Deletions at count) = deletions_long at count
ops_long (BackDeletions at count) = back_long at count
ops_long (OneMark label) = refl

deletions_push : (at n : ℕ) → deletions_at at (suc n) ≡ deletions_at at n ++ Del at ∷ []
deletions_push at zero = refl
deletions_push at (suc n) = ap (λ ops. Del at ∷ ops) (deletions_push at n)

back_push : (at n i : ℕ) → at - n ≡ i → back_deletions_at at (suc n) ≡ back_deletions_at at n ++ Del i ∷ []
back_push at zero i is = ap (λ k. Del k ∷ []) (let same : at ≡ i = omega arith in same)
back_push at (suc n) i is = ap (λ ops. Del at ∷ ops) (back_push (at - 1) n i (omega arith))

-- the second operations are the first with one behind them
abbrev IsGrown : RunOps → Op → RunOps → Type 0
IsGrown ops op new = IsSteady new × (ops_in new ≡ ops_in ops ++ op ∷ []) × (ops_count new ≡ suc (ops_count ops))

deletion_grown : (at count i : ℕ) (b : Bool) → eqb i at ≡ b → 0 < count → (b || (eqb count 1 && eqb (suc i) at)) ≡ true → IsGrown (Deletions at count) (Del i) (cond b (Deletions at (suc count)) (BackDeletions at (suc count)))
deletion_grown at count i true is some h =
    (omega arith, deletions_push at count ∙ ap (λ k. deletions_at at count ++ Del k ∷ []) (sym (eqb-true i at is)), refl)
deletion_grown at count i false is some h =
    let p = and_parts (eqb count 1) (eqb (suc i) at) h in
    let one : count ≡ 1 = eqb-true count 1 p.0 in
    let below : suc i ≡ at = eqb-true (suc i) at p.1 in
    let next : at - 1 ≡ i = omega arith in (
      (omega arith, omega arith),
      ap (λ n. back_deletions_at at (suc n)) one ∙ ap (λ k. Del at ∷ Del k ∷ []) next ∙ ap (λ n. deletions_at at n ++ Del i ∷ []) (sym one),
      refl,
    )

pub steps_grow : (ops : RunOps) (op : Op) → IsSteady ops → takes_step ops op ≡ true → IsGrown ops op (with_op ops op)
steps_grow (Insertions at text) (Ins i ch) s h =
    let is : i ≡ at + length text = eqb-true i (at + length text) h in
    let long : length (text ++ ch ∷ []) ≡ suc (length text) = let l = length-append text (ch ∷ []) in omega (arith, l) in
    (omega (arith, long), insertions_push at text ch ∙ ap (λ k. insertions_at at text ++ Ins k ch ∷ []) (sym is), long)
steps_grow (Insertions at text) (Del i) s h = absurd cc
steps_grow (Insertions at text) (Mark label) s h = absurd cc
steps_grow (Deletions at count) (Ins i ch) s h = absurd cc
steps_grow (Deletions at count) (Del i) s h = deletion_grown at count i (eqb i at) refl s h
steps_grow (Deletions at count) (Mark label) s h = absurd cc
steps_grow (BackDeletions at count) (Ins i ch) s h = absurd cc
steps_grow (BackDeletions at count) (Del i) s h =
    let is : i + count ≡ at = eqb-true (i + count) at h in
    ((omega (arith, s.0), omega arith), back_push at count i (omega arith), refl)
steps_grow (BackDeletions at count) (Mark label) s h = absurd cc
steps_grow (OneMark label) op s h = absurd cc

-- ---- the events of a run

-- the event of an agent with this number, whose only parent is the agent's event before
abbrev event_behind : List ℕ → ℕ → Op → Event
event_behind agent m op = record { id = record { agent = agent; seq = m }; parents = record { agent = agent; seq = m - 1 } ∷ []; op = op }

chain_push : (agent : List ℕ) (n : ℕ) (parents : List Id) (ops : List Op) (op : Op) (m : ℕ) → 0 < length ops → n + length ops ≡ m → chain_of agent n parents (ops ++ op ∷ []) ≡ chain_of agent n parents ops ++ event_behind agent m op ∷ []
chain_push agent n parents [] op m some is = absurd (omega arith)
chain_push agent n parents (o ∷ []) op m some is =
    let here : n + 1 ≡ m = omega arith in
    let before : n ≡ m - 1 = omega arith in
    λ i. record { id = record { agent = agent; seq = n }; parents = parents; op = o } ∷ record { id = record { agent = agent; seq = here i }; parents = record { agent = agent; seq = before i } ∷ []; op = op } ∷ []
chain_push agent n parents (o ∷ p ∷ ops) op m some is =
    let x : Id = record { agent = agent; seq = n } in
    ap (λ (events : List Event). record { id = x; parents = parents; op = o } ∷ events) (chain_push agent (n + 1) (x ∷ []) (p ∷ ops) op m (omega arith) (omega arith))

only_is : (ids : List Id) (x : Id) → are_only ids x ≡ true → ids ≡ x ∷ []
only_is [] x h = absurd cc
only_is (y ∷ []) x h = ap (λ z. z ∷ []) (sym (id_exact x y (eq_from _ h)))
only_is (y ∷ z ∷ ids) x h = absurd cc

pub record Continues (r : FileRun) (e : Event) : Type 0 where
  pub is : e ≡ event_behind r.id.agent (r.id.seq + ops_count r.ops) e.op
  pub step : takes_step r.ops e.op ≡ true

pub continues_parts : (r : FileRun) (e : Event) → IsSteady r.ops → continues r e ≡ true → Continues r e
continues_parts r e steady h =
    let some = steady_some r.ops steady in
    let p = and_parts (is_next_id (last_id r) e.id && are_only e.parents (last_id r)) (takes_step r.ops e.op) h in
    let q = and_parts (is_next_id (last_id r) e.id) (are_only e.parents (last_id r)) p.0 in
    let t = and_parts (name_eq r.id.agent e.id.agent) (eqb e.id.seq (suc (r.id.seq + ops_count r.ops - 1))) q.0 in
    let agent : e.id.agent ≡ r.id.agent = sym (name_exact r.id.agent e.id.agent t.0) in
    let seq : e.id.seq ≡ r.id.seq + ops_count r.ops = let s = eqb-true e.id.seq (suc (r.id.seq + ops_count r.ops - 1)) t.1 in omega (arith, s, some) in
    let parents : e.parents ≡ last_id r ∷ [] = only_is e.parents (last_id r) q.1 in
    record {
      is = λ i. record { id = record { agent = agent i; seq = seq i }; parents = parents i; op = e.op };
      step = p.1;
    }

pub longer_events : (r : FileRun) (e : Event) → IsSteady r.ops → continues r e ≡ true → run_events (longer r e) ≡ run_events r ++ e ∷ []
longer_events r e steady h =
    let c = continues_parts r e steady h in
    let g = steps_grow r.ops e.op steady c.step in
    let long = ops_long r.ops in
    let some = steady_some r.ops steady in
    ap (chain_of r.id.agent r.id.seq r.parents) g.1
    ∙ chain_push r.id.agent r.id.seq r.parents (ops_in r.ops) e.op (r.id.seq + ops_count r.ops) (omega (arith, long, some)) (ap (λ n. r.id.seq + n) long)
    ∙ ap (λ (f : Event). run_events r ++ f ∷ []) (sym c.is)

one_at : (x : Id) (parents : List Id) (op : Op) → chain_of x.agent x.seq parents (ops_in (op_alone op)) ≡ record { id = x; parents = parents; op = op } ∷ []
one_at x parents (Ins at ch) = refl
one_at x parents (Del at) = refl
one_at x parents (Mark label) = refl

pub one_event : (e : Event) → run_events (run_of_one e) ≡ e ∷ []
one_event e = one_at e.id e.parents e.op

-- ---- the events of all runs

pub runs_hold_from : (later : List Event) (r : FileRun) → IsSteady r.ops → flat_map run_events (runs_from r later) ≡ run_events r ++ later
runs_hold_from [] r steady = refl
runs_hold_from (e ∷ later) r steady =
    let more = runs_from (longer r e) later in
    let new = r ∷ runs_from (run_of_one e) later in
    elim (cases_Bool (continues r e)) [
      | inl t ↦
          let g = steps_grow r.ops e.op steady (continues_parts r e steady t).step in
          ap (flat_map run_events) (cond-true (continues r e) more new t)
          ∙ runs_hold_from later (longer r e) g.0
          ∙ ap (λ (events : List Event). events ++ later) (longer_events r e steady t)
          ∙ append_assoc (run_events r) (e ∷ []) later
      | inr f ↦
          ap (flat_map run_events) (cond-false (continues r e) more new f)
          ∙ ap (λ (events : List Event). run_events r ++ events) (runs_hold_from later (run_of_one e) (alone_steady e.op) ∙ ap (λ (events : List Event). events ++ later) (one_event e))
    ]

pub runs_hold : RunsHoldHistories
unfolding file_runs
runs_hold [] = refl
runs_hold (e ∷ later) = runs_hold_from later (run_of_one e) (alone_steady e.op) ∙ ap (λ (events : List Event). events ++ later) (one_event e)
