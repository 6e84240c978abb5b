-- Where a node's character stands.
use Rattle.std.proofs.Common.{rules, ◌≡◌, ℕ, ◌+◌, ◌-◌, ◌≤◌, true, Option, IsSome, IfSome, List, None, Some, Contains, refl, sym, ap, ◌∙◌, subst, arith}
use Rattle.std.proofs.lemmas.Bool.{false≢true, leb-true, le-leb}
use Rattle.ew_model.specs.declared.node.Node.{Node}
use Rattle.ew_model.specs.declared.node.Node.TheVariants.{Root, Base, Event}
use Rattle.walker_record.specs.Stretches.{Stretch, node_on}
use Rattle.character_runs.specs.declared.labels.Labels.{Labels}
use Rattle.character_runs.specs.Kept.{is_up_to}
use Rattle.character_runs.specs.Labelled.{label_of, IsLast}
use Rattle.character_runs.specs.Laid.{Stands, AreLabelled, IsOffset}
use Rattle.order_tree.specs.Pairs.{IsRising}
use Rattle.character_runs.proofs.PartedRuns.{same_run}
use Rattle.character_runs.proofs.RunChars.{node_on_none}

-- a node on is behind
pub up_to_on : (v : Node) (n : ℕ) → (v ≡ Root → ⊥) → is_up_to v (node_on v n) ≡ true
up_to_on Root n some = absurd (some refl)
up_to_on (Base i) n some = le-leb i (i + n) (omega arith)
up_to_on (Event i) n some = le-leb i (i + n) (omega arith)

-- what is between a node and one that is n on is one that is at most so many on
pub between : (v w : Node) (n : ℕ) → is_up_to v w ≡ true → is_up_to w (node_on v n) ≡ true → (m : ℕ) × (m ≤ n) × (node_on v m ≡ w)
between Root w n below above = absurd (false≢true below)
between (Base i) Root n below above = absurd (false≢true below)
between (Base i) (Event j) n below above = absurd (false≢true below)
between (Base i) (Base j) n below above =
    let le = leb-true i j below in let on = leb-true j (i + n) above in
    let same : i + (j - i) ≡ j = omega arith in
    (j - i, omega arith, ap Base same)
between (Event i) Root n below above = absurd (false≢true below)
between (Event i) (Base j) n below above = absurd (false≢true below)
between (Event i) (Event j) n below above =
    let le = leb-true i j below in let on = leb-true j (i + n) above in
    let same : i + (j - i) ≡ j = omega arith in
    (j - i, omega arith, ap Event same)

pub some_same : (m n : ℕ) → Some m ≡ Some n → m ≡ n
some_same m n e = cc

pub none_some : (n : ℕ) → None ≡ Some n → ⊥
none_some n e = cc

pub is_some_by : (o : ℕ) → IsSome (Some o)
is_some_by o = search rules

module _ (ps : List (ℕ × Stretch)) (t : Labels) (laid : AreLabelled ps t) where
  -- the last labelled node up to a character's is the first of its run
  pub label_is : (v : Node) (label own n : ℕ) → IsLast t v label → Stands ps own n v → label ≡ own
  label_is v label own n last s =
      let first = laid.known own s.run s.held (omega (arith, s.inside)) in
      let some : s.run.from ≡ Root → ⊥ = laid.rooted own s.run s.held in
      let reach : is_up_to s.run.from v ≡ true = subst (λ (w : Node). is_up_to s.run.from w ≡ true) s.node (up_to_on s.run.from n some) in
      let behind = last.last s.run.from reach (subst (λ o. IsSome o) (sym first) (is_some_by own)) in
      let m = between s.run.from last.node n behind (subst (λ (w : Node). is_up_to last.node w ≡ true) (sym s.node) last.before) in
      let here : Stands ps own m.0 last.node = record { run = s.run; held = s.held; inside = omega (arith, m.1, s.inside); node = m.2 } in
      let zero_on : m.0 ≡ 0 = laid.apart last.node label own m.0 last.has here in
      let same : s.run.from ≡ last.node = sym (node_on_none s.run.from) ∙ ap (node_on s.run.from) (sym zero_on) ∙ m.2 in
      some_same label own (sym last.has ∙ ap (label_of t) (sym same) ∙ first)

  -- so the character is in the run of that label, or in none
  pub in_last : (v : Node) (label : ℕ) (run : Stretch) → IsRising ps → IsLast t v label → Contains ps (label, run) → ((n : ℕ) → IsOffset run v n → ⊥) → (own n : ℕ) → Stands ps own n v → ⊥
  in_last v label run rising last held none own n s =
      let same = label_is v label own n last s in
      let run_is : s.run ≡ run = same_run ps label s.run run rising (subst (λ k. Contains ps (k, s.run)) (sym same) s.held) held in
      none n (subst (λ (r : Stretch). IsOffset r v n) run_is (s.inside, s.node))

  -- where no node up to this one has a label, its character stands nowhere
  pub none_before : (v : Node) → ((w : Node) → is_up_to w v ≡ true → label_of t w ≡ None) → (own n : ℕ) → Stands ps own n v → ⊥
  none_before v none own n s =
      let first = laid.known own s.run s.held (omega (arith, s.inside)) in
      let some : s.run.from ≡ Root → ⊥ = laid.rooted own s.run s.held in
      let reach : is_up_to s.run.from v ≡ true = subst (λ (w : Node). is_up_to s.run.from w ≡ true) s.node (up_to_on s.run.from n some) in
      none_some own (sym (none s.run.from reach) ∙ first)

pub if_some_both : {A : Type 0} (o : Option A) (P Q R : A → Type 0) → ((x : A) → P x → Q x → R x) → IfSome o P → IfSome o Q → IfSome o R
if_some_both None P Q R f h k = tt
if_some_both (Some x) P Q R f h k = f x h k
