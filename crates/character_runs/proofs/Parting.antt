-- Characters that begin and end runs.
use Rattle.std.proofs.Common.{◌≡◌, ℕ, zero, suc, ◌+◌, ◌<◌, ◌≤◌, Bool, true, false, nat_lt, List, Some, Contains, refl, sym, ap, ◌∙◌, subst, arith}
use Rattle.ew_model.specs.declared.node.Node.{Node}
use Rattle.walker_record.specs.Stretches.{Stretch, node_on}
use Rattle.order_tree.specs.Pairs.{IsRising, runs}
use Rattle.character_runs.specs.declared.labels.Labels.{Labels}
use Rattle.character_runs.specs.Labelled.{label_of}
use Rattle.character_runs.specs.Laid.{Stands, AreLabelled, BeginsRun, EndsRun}
use Rattle.character_runs.proofs.PartedRuns.{same_run}
use Rattle.character_runs.proofs.Places.{one_label, on_on, same_steps}
use Rattle.character_runs.proofs.RunChars.{node_on_none}
use Rattle.character_runs.proofs.RunsAt.{stands_too}

module _ (ps : List (ℕ × Stretch)) (t : Labels) (laid : AreLabelled ps t) where
  has_label : (v : Node) (own : ℕ) → Stands ps own 0 v → label_of t v ≡ Some own
  has_label v own s = ap (label_of t) (sym s.node ∙ node_on_none s.run.from) ∙ laid.known own s.run s.held s.inside

  pub first_begins : (v : Node) (own k : ℕ) → Stands ps own k v → k ≡ 0 → BeginsRun ps v
  first_begins v own k s e l n o = laid.apart v own l n (has_label v own (subst (λ (m : ℕ). Stands ps own m v) e s)) o

  module _ (rising : IsRising ps) where
    -- it stands at one number of its run
    pub one_place : (v : Node) (own k l n : ℕ) (s : Stands ps own k v) (o : Stands ps l n v) → (s.run ≡ o.run) × (k ≡ n)
    one_place v own k l n s o =
        let label = one_label ps t laid v own l k n s o in
        let same = same_run ps l s.run o.run rising (subst (λ (x : ℕ). Contains ps (x, s.run)) label s.held) o.held in
        (same, same_steps o.run.from k n (laid.rooted l o.run o.held) (ap (λ (r : Stretch). node_on r.from k) (sym same) ∙ s.node ∙ sym o.node))

    pub last_ends : (v : Node) (own k : ℕ) (run : Stretch) → Stands ps own k v → Contains ps (own, run) → run.len ≤ k + 1 → EndsRun ps v
    last_ends v own k run s held le l n o =
        let place = one_place v own k l n s o in
        let run_is : run ≡ s.run = same_run ps own run s.run rising held s.held in
        let long : run.len ≡ o.run.len = ap (λ (r : Stretch). r.len) (run_is ∙ place.0) in
        let lt = o.inside in
        let steps = place.1 in
        omega (arith, le, long, lt, steps)

-- where the next one begins a run, this one ends one
pub begins_ends : (qs : List (ℕ × Stretch)) (v next : Node) → node_on v 1 ≡ next → BeginsRun qs next → EndsRun qs v
begins_ends qs v next on begins l n s = by (nat_lt (n + 1) s.run.len) refl
  where
    by : (b : Bool) → nat_lt (n + 1) s.run.len ≡ b → s.run.len ≡ n + 1
    by true e =
        let there : node_on s.run.from (n + 1) ≡ next = sym (on_on s.run.from n 1) ∙ ap (λ (w : Node). node_on w 1) s.node ∙ on in
        let none = begins l (n + 1) (record { run = s.run; held = s.held; inside = less e; node = there }) in
        absurd (omega (arith, none))
      where
        less : nat_lt (n + 1) s.run.len ≡ true → n + 1 < s.run.len
        less e = grind arith
    by false e = let lt = s.inside in let le = most e in omega (arith, lt, le)
      where
        most : nat_lt (n + 1) s.run.len ≡ false → s.run.len ≤ n + 1
        most e = grind arith

-- UNDER OTHER LABELS
module _ (ps qs : List (ℕ × Stretch)) (t u : Labels) (laid : AreLabelled ps t) (now : AreLabelled qs u) (same : runs qs ≡ runs ps) where
  pub still_begins : (v : Node) → BeginsRun ps v → BeginsRun qs v
  still_begins v begins l n s = let o = stands_too qs ps same l n v s in begins o.0 n o.1

  -- what is inside a run stays so
  pub still_inside : (v : Node) (l n own k : ℕ) → Stands ps l n v → 0 < n → Stands qs own k v → 0 < k
  still_inside v l n own zero s lt o =
      let back = stands_too qs ps same own 0 v o in
      let none = laid.apart v back.0 l n (has_label ps t laid v back.0 back.1) s in
      absurd (omega (arith, none, lt))
  still_inside v l n own (suc k) s lt o = omega arith
