-- Labels while runs get others.
use Rattle.std.proofs.Common.{◌≡◌, ℕ, zero, suc, ◌+◌, ◌<◌, ◌≤◌, ◌⊎◌, Bool, true, false, nat_lt, List, [], ◌++◌, Option, Some, None, IsSome, Contains, length, zip, slice_index_or, refl, sym, ap, ◌∙◌, subst, arith, append_assoc, append-nil, inl, inr}
use Rattle.std.proofs.lemmas.List.{length-append}
use Rattle.std.proofs.lemmas.Bool.{false≢true}
use Rattle.ew_model.specs.declared.node.Node.{Node}
use Rattle.walker_record.specs.Stretches.{Stretch}
use Rattle.fugue_place.specs.Attachments.{node_eq}
use Rattle.order_tree.specs.Pairs.{IsRising, labels, runs, AreGivenIn}
use Rattle.character_runs.specs.declared.labels.Labels.{Labels}
use Rattle.character_runs.specs.Labelled.{label_of, Sets}
use Rattle.character_runs.specs.Laid.{AreLabelled}
use Rattle.character_runs.proofs.CutRuns.{alike, set_own, set_other}
use Rattle.character_runs.proofs.Standings.{some_same, is_some_by}
use Rattle.character_runs.proofs.RunsAt.{At, at_held, held_at, at_one, at_before, at_past, at_within, same_length, run_at, one_number, run_held, stands_too, given_at, given_long}

-- the first k runs are known by their new labels, the others by the old ones, and no other node has one
pub record AreRenamed (ps qs : List (ℕ × Stretch)) (t u : Labels) (k : ℕ) : Type 0 where
  pub new : (j l : ℕ) (r : Stretch) → j < k → At qs j (l, r) → 0 < r.len → label_of u r.from ≡ Some l
  pub old : (j l : ℕ) (r : Stretch) → k ≤ j → At ps j (l, r) → 0 < r.len → label_of u r.from ≡ Some l
  pub only : (v : Node) → IsSome (label_of u v) → IsSome (label_of t v)

pub some_of : (o : Option ℕ) → IsSome o → (l : ℕ) × (o ≡ Some l)
some_of (Some l) h = (l, refl)
some_of None h = absurd (false≢true h)

pub is_some : (o : Option ℕ) (l : ℕ) → o ≡ Some l → IsSome o
is_some o l e = subst (λ (p : Option ℕ). IsSome p) (sym e) (is_some_by l)

module _ (ps qs : List (ℕ × Stretch)) (t : Labels) (laid : AreLabelled ps t) (rising : IsRising ps) (same : runs qs ≡ runs ps) where
  -- a run without characters
  pub renamed_empty : (u : Labels) (k l : ℕ) (r : Stretch) → AreRenamed ps qs t u k → At qs k (l, r) → r.len ≡ 0 → AreRenamed ps qs t u (k + 1)
  renamed_empty u k l r so h none = record { new = new; old = λ j m q le i some. so.old j m q (omega (arith, le)) i some; only = so.only }
    where
      new : (j m : ℕ) (q : Stretch) → j < k + 1 → At qs j (m, q) → 0 < q.len → label_of u q.from ≡ Some m
      new j m q lt i some = by (nat_lt j k) refl
        where
          by : (b : Bool) → nat_lt j k ≡ b → label_of u q.from ≡ Some m
          by true e = so.new j m q (less e) i some
            where
              less : nat_lt j k ≡ true → j < k
              less e = grind arith
          by false e =
              let last = equal e in
              let pair = at_one qs k (l, r) (m, q) h (subst (λ (n : ℕ). At qs n (m, q)) last i) in
              let long = ap (λ (p : ℕ × Stretch). p.1.len) pair in
              absurd (omega (arith, long, some, none))
            where
              equal : nat_lt j k ≡ false → j ≡ k
              equal e = grind arith

  -- a run with some, whose label is set
  module _ (u w : Labels) (k l : ℕ) (r : Stretch) (so : AreRenamed ps qs t u k) (h : At qs k (l, r)) (some : 0 < r.len) (sets : Sets u w r.from (Some l)) where
    was : (own : ℕ) × At ps k (own, r)
    was = run_at qs ps same k l r h

    -- another run has another first node
    other : (j m : ℕ) (q : Stretch) → (j ≡ k → ⊥) → At ps j (m, q) → 0 < q.len → (r.from ≡ q.from) ⊎ (node_eq r.from q.from ≡ false) → node_eq r.from q.from ≡ false
    other j m q apart i long (inr e) = e
    other j m q apart i long (inl e) =
        let one = laid.known was.0 r (at_held ps k (was.0, r) was.1) some in
        let two = laid.known m q (at_held ps j (m, q) i) long in
        let label : m ≡ was.0 = some_same m was.0 (sym two ∙ ap (label_of t) (sym e) ∙ one) in
        absurd (apart (one_number 0 ps rising j k was.0 q r (subst (λ (n : ℕ). At ps j (n, q)) label i) was.1))

    still : (j m x : ℕ) (q : Stretch) → (j ≡ k → ⊥) → At ps j (m, q) → 0 < q.len → label_of u q.from ≡ Some x → label_of w q.from ≡ Some x
    still j m x q apart i long e = set_other u w r.from (Some l) sets q.from (other j m q apart i long (alike r.from q.from)) ∙ e

    new : (j m : ℕ) (q : Stretch) → j < k + 1 → At qs j (m, q) → 0 < q.len → label_of w q.from ≡ Some m
    new j m q lt i long = by (nat_lt j k) refl
      where
        by : (b : Bool) → nat_lt j k ≡ b → label_of w q.from ≡ Some m
        by true e =
            let before = run_at qs ps same j m q i in
            let lt = less e in
            still j before.0 m q (λ e. omega (arith, e, lt)) before.1 long (so.new j m q lt i long)
          where
            less : nat_lt j k ≡ true → j < k
            less e = grind arith
        by false e =
            let last = equal e in
            let pair = at_one qs k (l, r) (m, q) h (subst (λ (n : ℕ). At qs n (m, q)) last i) in
            ap (λ (p : ℕ × Stretch). label_of w p.1.from) (sym pair) ∙ set_own u w r.from (Some l) sets ∙ ap (λ (p : ℕ × Stretch). Some p.0) pair
          where
            equal : nat_lt j k ≡ false → j ≡ k
            equal e = grind arith

    only : (v : Node) → IsSome (label_of w v) → IsSome (label_of t v)
    only v s = by (alike r.from v)
      where
        by : (r.from ≡ v) ⊎ (node_eq r.from v ≡ false) → IsSome (label_of t v)
        by (inl e) = is_some (label_of t v) was.0 (ap (label_of t) (sym e) ∙ laid.known was.0 r (at_held ps k (was.0, r) was.1) some)
        by (inr e) = so.only v (subst (λ (o : Option ℕ). IsSome o) (set_other u w r.from (Some l) sets v e) s)

    pub renamed_one : AreRenamed ps qs t w (k + 1)
    renamed_one = record {
      new = new;
      old = λ j m q le i long. still j m m q (λ e. omega (arith, e, le)) i long (so.old j m q (omega (arith, le)) i long);
      only = only;
    }

  -- the node of the next run has a label
  pub next_label : (u : Labels) (k l : ℕ) (r : Stretch) → AreRenamed ps qs t u k → At qs k (l, r) → 0 < r.len → IsSome (label_of u r.from)
  next_label u k l r so h some = let before = run_at qs ps same k l r h in is_some (label_of u r.from) before.0 (so.old k before.0 r (omega arith) before.1 some)

  -- in the end
  module _ (u : Labels) (known : (l : ℕ) (r : Stretch) → Contains qs (l, r) → 0 < r.len → label_of u r.from ≡ Some l) (held : (v : Node) → IsSome (label_of u v) → IsSome (label_of t v)) where
    abbrev Has : Node → ℕ → Type 0
    Has v l = (r : Stretch) × Contains qs (l, r) × (r.from ≡ v) × (0 < r.len)

    only_by : (v : Node) (l : ℕ) → label_of u v ≡ Some l → Has v l
    only_by v l e =
        let before = some_of (label_of t v) (held v (is_some (label_of u v) l e)) in
        let has = laid.only v before.0 before.1 in
        let now = run_held ps qs (sym same) before.0 has.0 has.1 in
        let label : now.0 ≡ l = some_same now.0 l (sym (known now.0 has.0 now.1 has.3) ∙ ap (label_of u) has.2 ∙ e) in
        (has.0, subst (λ (n : ℕ). Contains qs (n, has.0)) label now.1, has.2, has.3)

    pub renamed_laid : AreLabelled qs u
    renamed_laid = record {
      known = known;
      only = only_by;
      apart = λ v own l n e s.
          let before = some_of (label_of t v) (held v (is_some (label_of u v) own e)) in
          let stood = stands_too qs ps same l n v s in
          laid.apart v before.0 stood.0 n before.1 stood.1;
      rooted = λ l r h e. let before = run_held qs ps same l r h in laid.rooted before.0 r before.1 e;
    }

  -- with the next run, whether it has characters or not
  pub renamed_step : (u w : Labels) (k l : ℕ) (r : Stretch) → AreRenamed ps qs t u k → At qs k (l, r) → (0 < r.len → Sets u w r.from (Some l)) → (r.len ≡ 0 → w ≡ u) → AreRenamed ps qs t w (k + 1)
  renamed_step u w k l r so h set none = by r.len refl
    where
      by : (n : ℕ) → r.len ≡ n → AreRenamed ps qs t w (k + 1)
      by zero e = subst (λ (x : Labels). AreRenamed ps qs t x (k + 1)) (sym (none e)) (renamed_empty u k l r so h e)
      by (suc n) e = let some : 0 < r.len = omega (arith, e) in renamed_one u w k l r so h some (set some)

-- SOME RUNS AMONG OTHERS, WHICH KEEP THEIR LABELS
module _ (ps qs : List (ℕ × Stretch)) (t : Labels) (laid : AreLabelled ps t) (rising : IsRising ps) (same : runs qs ≡ runs ps) (given : List (ℕ × (ℕ × Stretch))) (among : AreGivenIn ps qs given) where
  -- at first
  pub renamed_front : AreRenamed ps qs t t (length among.front)
  renamed_front = record {
    new = λ j l r lt h some.
        let there = at_before among.front (among.is ++ among.back) (among.was ++ among.back) j (l, r) lt (subst (λ (xs : List (ℕ × Stretch)). At xs j (l, r)) among.new_is h) in
        laid.known l r (at_held ps j (l, r) (subst (λ (xs : List (ℕ × Stretch)). At xs j (l, r)) (sym among.old_is) there)) some;
    old = λ j l r le h some. laid.known l r (at_held ps j (l, r) h) some;
    only = λ v h. h;
  }

  as_many : length among.is ≡ length among.was
  as_many = same_length among.is among.was among.runs_are

  given_all : length given ≡ length among.is
  given_all = ap length among.given_is ∙ given_long among.was among.is as_many

  -- the step to the next
  module _ (u : Labels) (k : ℕ) (so : AreRenamed ps qs t u (length among.front + k)) where
    module _ (x : ℕ × (ℕ × Stretch)) (lt : k < length given) (e : x ≡ slice_index_or given k x) where
      here : At qs (length among.front + k) x.1
      here =
          subst (λ (xs : List (ℕ × Stretch)). At xs (length among.front + k) x.1) (sym among.new_is)
          (at_within among.front among.is among.back k x.1 (given_at among.was among.is given k x among.given_is lt (sym e)))

      pub step_some : 0 < x.1.1.len → IsSome (label_of u x.1.1.from)
      step_some some = next_label ps qs t laid rising same u (length among.front + k) x.1.0 x.1.1 so here some

      pub step_next : (w : Labels) → (0 < x.1.1.len → Sets u w x.1.1.from (Some x.1.0)) → (x.1.1.len ≡ 0 → w ≡ u) → AreRenamed ps qs t w (length among.front + (k + 1))
      step_next w set none =
          subst (λ (n : ℕ). AreRenamed ps qs t w n) (omega arith)
          (renamed_step ps qs t laid rising same u w (length among.front + k) x.1.0 x.1.1 so here set none)

    -- behind the last, the labels are the old ones
    pub last_laid : length given ≤ k → AreLabelled qs u
    last_laid le = renamed_laid ps qs t laid rising same u known so.only
      where
        past : (j : ℕ) (p : ℕ × Stretch) → length among.front + k ≤ j → At qs j p → At ps j p
        past j p more h =
            let long : length (among.front ++ among.is) ≡ length (among.front ++ among.was) = length-append among.front among.is ∙ ap (λ (n : ℕ). length among.front + n) as_many ∙ sym (length-append among.front among.was) in
            let enough : length (among.front ++ among.is) ≤ j = omega (arith, length-append among.front among.is, given_all, le, more) in
            let there = subst (λ (xs : List (ℕ × Stretch)). At xs j p) (among.new_is ∙ sym (append_assoc among.front among.is among.back)) h in
            subst (λ (xs : List (ℕ × Stretch)). At xs j p) (append_assoc among.front among.was among.back ∙ sym among.old_is)
            (at_past (among.front ++ among.is) (among.front ++ among.was) among.back long j p enough there)

        known : (l : ℕ) (r : Stretch) → Contains qs (l, r) → 0 < r.len → label_of u r.from ≡ Some l
        known l r h some = let at = held_at qs (l, r) h in by at.0 at.1 (nat_lt at.0 (length among.front + k)) refl
          where
            by : (j : ℕ) → At qs j (l, r) → (b : Bool) → nat_lt j (length among.front + k) ≡ b → label_of u r.from ≡ Some l
            by j at true e = so.new j l r (grind arith) at some
            by j at false e = let more : length among.front + k ≤ j = grind arith in so.old j l r more (past j (l, r) more at) some

-- all runs
pub all_given : (ps qs : List (ℕ × Stretch)) (given : List (ℕ × (ℕ × Stretch))) → runs qs ≡ runs ps → given ≡ zip (labels ps) qs → AreGivenIn ps qs given
all_given ps qs given same given_is = record { front = []; was = ps; is = qs; back = []; old_is = sym (append-nil ps); new_is = sym (append-nil qs); runs_are = same; given_is = given_is }
