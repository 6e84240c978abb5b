-- Events of a graph that go on from one another, by their run and their ids.
use Rattle.std.proofs.Common.{◌≡◌, ℕ, zero, suc, ◌+◌, ◌-◌, ◌<◌, ◌≤◌, List, [], ◌∷◌, length, map, take, drop, slice_get, Some, option_map, refl, sym, ap, ◌∙◌, subst, arith}
use Rattle.std.proofs.lemmas.List.{length-map, length-drop, length-take-le}
use Rattle.std.proofs.lemmas.Option.{same_Some, slice_get-map, slice_get_within}
use Rattle.ew_model.specs.declared.id.Id.{Id}
use Rattle.ew_model.specs.declared.event.Op.{Op}
use Rattle.ew_model.specs.declared.event.Op.TheVariants.{Ins, Del, Mark}
use Rattle.ew_model.specs.declared.event.Event.{Event}
use Rattle.ew_model.specs.declared.text_op.TextOp.{TextOp}
use Rattle.ew_model.specs.Ancestors.{ids_of}
use Rattle.ew_model.specs.Edits.{insertions_at, deletions_at, back_deletions_at}
use Rattle.ew_model.specs.Positions.{parents_at, parent_positions}
use Rattle.ew_model.specs.TextLaws.{own_change}
use Rattle.ew_model.proofs.EditTexts.{insertions_long, deletions_long, back_long}
use Rattle.ew_model.proofs.ListParts.{element_there}
use Rattle.ew_model.proofs.ListPlaces.{get-take_within}
use Rattle.history_definitions.specs.Chains.{event_behind, next_id}
use Rattle.event_runs.specs.declared.ops.RunOps.{RunOps}
use Rattle.event_runs.specs.declared.ops.RunOps.TheVariants as run
use Rattle.event_runs.specs.RunOps.{ops_of}
use Rattle.event_runs.proofs.StepOps.{insertion_there, deletion_there, back_there}
use Rattle.event_graph.specs.GoingOn.{chain_behind}
use Rattle.event_graph.specs.Keeping.{IsAdmitted}
use Rattle.operation_runs.specs.Runs.{insertions, deletions, back_deletions}
use Rattle.agreement.proofs.OnlyParents.{ids_of_only}
use Rattle.agreement.proofs.Shared.{same_made}
use Rattle.replica.specs.Offering.{StandAt}
use Rattle.replica.proofs.Giving.{chain_long}

-- the agent's id so many further on
abbrev later_id : Id → ℕ → Id
later_id x k = record { agent = x.agent; seq = x.seq + k }

-- what operations of one step do to the text
pub insertions_do : (at : ℕ) (text : List ℕ) → map own_change (insertions_at at text) ≡ insertions at text
insertions_do at [] = refl
insertions_do at (ch ∷ text) = ap (λ changes. own_change (Ins at ch) ∷ changes) (insertions_do (at + 1) text)

pub deletions_do : (at n : ℕ) → map own_change (deletions_at at n) ≡ deletions at n
deletions_do at zero = refl
deletions_do at (suc n) = ap (λ changes. own_change (Del at) ∷ changes) (deletions_do at n)

pub back_deletions_do : (at n : ℕ) → map own_change (back_deletions_at at n) ≡ back_deletions at n
back_deletions_do at zero = refl
back_deletions_do at (suc n) = ap (λ changes. own_change (Del at) ∷ changes) (back_deletions_do (at - 1) n)

-- none of them is a mark
no_mark : (ops : RunOps) (k : ℕ) (label : List ℕ) → slice_get (ops_of ops) k ≡ Some (Mark label) → ⊥
no_mark (run.Insertions at text) k label is =
    let low = slice_get_within (insertions_at at text.now) k (Mark label) is in
    let other = sym (insertion_there at text.now k (omega (arith, low, insertions_long at text.now))) ∙ is in cc
no_mark (run.Deletions at count) k label is =
    let low = slice_get_within (deletions_at at count) k (Mark label) is in
    let other = sym (deletion_there at count k (omega (arith, low, deletions_long at count))) ∙ is in cc
no_mark (run.BackDeletions at count) k label is =
    let low = slice_get_within (back_deletions_at at count) k (Mark label) is in
    let other = sym (back_there at count k (omega (arith, low, back_long at count))) ∙ is in cc

-- so each is known by what it does
same_op : (op o : Op) → ((label : List ℕ) → op ≡ Mark label → ⊥) → own_change o ≡ own_change op → o ≡ op
same_op (Ins at ch) (Ins to c) other is = cc
same_op (Ins at ch) (Del to) other is = cc
same_op (Ins at ch) (Mark label) other is = cc
same_op (Del at) (Ins to c) other is = cc
same_op (Del at) (Del to) other is = cc
same_op (Del at) (Mark label) other is = cc
same_op (Mark label) o other is = absurd (other label refl)

-- the event at a place of a chain
chain_there : (x : Id) (ops : List Op) (k : ℕ) (op : Op) → slice_get ops k ≡ Some op → slice_get (chain_behind x ops) k ≡ Some (event_behind (later_id x k) op)
chain_there x [] k op is = let no : ⊥ = cc in absurd no
chain_there x (o ∷ ops) zero op is =
    let on : x.seq ≡ x.seq + 0 = omega arith in
    λ i. Some (event_behind (record { agent = x.agent; seq = on i }) (same_Some o op is i))
chain_there x (o ∷ ops) (suc k) op is =
    let on : suc x.seq + k ≡ x.seq + suc k = omega arith in
    chain_there (next_id x) ops k op is ∙ ap (λ n. Some (event_behind (record { agent = x.agent; seq = n }) op)) on

-- the changes from the second one on, up to one
part_there : (changes : List TextOp) (count k : ℕ) → k < count → slice_get (drop 1 (take (count + 1) changes)) k ≡ slice_get changes (k + 1)
part_there [] count k low =
    let one : count + 1 ≡ suc count = omega arith in
    let on : suc k ≡ k + 1 = omega arith in
    ap (λ n. slice_get (drop 1 (take {A = TextOp} n [])) k) one ∙ ap (slice_get {X = TextOp} []) on
part_there (x ∷ changes) count k low =
    let one : count + 1 ≡ suc count = omega arith in
    let on : suc k ≡ k + 1 = omega arith in
    ap (λ n. slice_get (drop 1 (take n (x ∷ changes))) k) one ∙ get-take_within count changes k low ∙ ap (slice_get (x ∷ changes)) on

-- as many operations do them
pub run_long : (changes : List TextOp) (count : ℕ) (ops : RunOps) → count + 1 ≤ length changes → map own_change (ops_of ops) ≡ drop 1 (take (count + 1) changes) → length (ops_of ops) ≡ count
run_long changes count ops short told =
    let long = ap (length {A = TextOp}) told in
    let mapped = length-map (ops_of ops) own_change in
    let dropped = length-drop 1 (take (count + 1) changes) in
    let taken = length-take-le (count + 1) changes short in
    omega (arith, long, mapped, dropped, taken)

-- THE EVENTS of these operations stand in a history behind an event of this id, where the ids are the next ones of its agent, each has
-- the event before it as its only parent, and they do to the text what the events there do.
module _ (history : List Event) (admitted : IsAdmitted history) (before next : ℕ) (last : Id) (changes : List TextOp) (within : before + length changes ≤ length history) (count : ℕ) (ops : RunOps) (short : count + 1 ≤ length changes) (few : count ≤ next)
    (here : slice_get (ids_of history) before ≡ Some last) (ids : (x : Id) → slice_get (ids_of history) before ≡ Some x → (k : ℕ) → k ≤ next → slice_get (ids_of history) (before + k) ≡ Some (later_id x k))
    (chain : (p : ℕ) → before ≤ p → p < before + length changes - 1 → parents_at (parent_positions history) (suc p) ≡ p ∷ [])
    (are : (k : ℕ) → k < length changes → slice_get (map (λ (e : Event). own_change e.op) history) (before + k) ≡ slice_get changes k) (told : map own_change (ops_of ops) ≡ drop 1 (take (count + 1) changes)) where
  stands : (k : ℕ) (op : Op) → slice_get (ops_of ops) k ≡ Some op → slice_get history (before + 1 + k) ≡ Some (event_behind (later_id last k) op)
  stands k op is =
      let low : k < count = let less = slice_get_within (ops_of ops) k op is in omega (arith, less, run_long changes count ops short told) in
      let place : before + 1 + k ≡ before + (k + 1) = omega arith in
      let inside : before + 1 + k < length history = omega (arith, low, short, within) in
      let found = element_there history (before + 1 + k) inside in
      let e = found.0 in
      let x = later_id last k in
      let further : last.seq + (k + 1) ≡ suc (last.seq + k) = omega arith in
      let id : e.id ≡ next_id x = sym (same_made (λ (f : Event). f.id) history (before + 1 + k) e (next_id x) found.1 (ap (slice_get (ids_of history)) place ∙ ids last here (k + 1) (omega (arith, low, few)) ∙ ap (λ n. Some (record { agent = last.agent; seq = n })) further)) in
      let only : parents_at (parent_positions history) (before + 1 + k) ≡ (before + 1 + k - 1) ∷ [] =
      let p : suc (before + k) ≡ before + 1 + k = omega arith in
      let q : before + k ≡ before + 1 + k - 1 = omega arith in
      subst (λ n. parents_at (parent_positions history) n ≡ (before + 1 + k - 1) ∷ []) p
      (chain (before + k) (omega arith) (omega (arith, low, short)) ∙ ap (λ n. n ∷ []) q) in
      let back : before + 1 + k - 1 ≡ before + k = omega arith in
      let parents : e.parents ≡ x ∷ [] = ids_of_only history (before + 1 + k) e x admitted found.1 only (ap (slice_get (ids_of history)) back ∙ ids last here k (omega (arith, low, few))) in
      let change : slice_get (map (λ (f : Event). own_change f.op) history) (before + 1 + k) ≡ Some (own_change op) =
      ap (slice_get (map (λ (f : Event). own_change f.op) history)) place ∙ are (k + 1) (omega (arith, low, short)) ∙ sym (part_there changes count k low)
      ∙ (ap (λ (cs : List TextOp). slice_get cs k) (sym told) ∙ (slice_get-map own_change (ops_of ops) k ∙ ap (option_map own_change) is)) in
      let same : e.op ≡ op = same_op op e.op (λ label mark. no_mark ops k label (is ∙ ap Some mark)) (sym (same_made (λ (f : Event). own_change f.op) history (before + 1 + k) e (own_change op) found.1 change)) in
      found.1 ∙ (λ i. Some (record { id = id i; parents = parents i; op = same i }))

  pub run_stands : StandAt history (before + 1) (chain_behind last (ops_of ops))
  run_stands k e is =
      let less = slice_get_within (chain_behind last (ops_of ops)) k e is in
      let op = element_there (ops_of ops) k (omega (arith, less, chain_long last (ops_of ops))) in
      stands k op.0 op.1 ∙ (sym (chain_there last (ops_of ops) k op.0 op.1) ∙ is)
