-- Labels after a run went to the place behind it, and a new one came in its place.
use Rattle.std.proofs.Common.{◌≡◌, ℕ, ◌<◌, ◌⊎◌, List, Some, Contains, sym, ap, ◌∙◌, subst, inl, inr, arith}
use Rattle.ew_model.specs.declared.node.Node.{Node}
use Rattle.ew_model.specs.declared.node.Node.TheVariants.{Root}
use Rattle.walker_record.specs.Stretches.{Stretch, node_on}
use Rattle.order_tree.specs.Pairs.{IsRising, changed}
use Rattle.character_runs.specs.declared.labels.Labels.{Labels}
use Rattle.character_runs.specs.Labelled.{label_of, Sets}
use Rattle.character_runs.specs.Laid.{Stands, AreLabelled}
use Rattle.character_runs.proofs.PartedRuns.{same_run}
use Rattle.character_runs.proofs.CutRuns.{In, unlike, decide, set_own, set_other}
use Rattle.character_runs.proofs.RunChars.{node_on_none}
use Rattle.character_runs.proofs.Standings.{some_same}
use Rattle.character_runs.proofs.ChangedAt.{changed_each, changed_kept, changed_come}

-- a run without characters has another label
pub two_labels : (ps : List (ℕ × Stretch)) (label own : ℕ) (run empty : Stretch) → IsRising ps → Contains ps (label, run) → Contains ps (own, empty) → 0 < run.len → empty.len ≡ 0 → label ≡ own → ⊥
two_labels ps label own run empty rising held place some none e =
    let same = same_run ps own run empty rising (subst (λ (k : ℕ). Contains ps (k, run)) e held) place in
    let long = ap (λ (r : Stretch). r.len) same in
    omega (arith, long, some, none)

-- once another node got its label, the run's first still has it
pub moved_label : (ps : List (ℕ × Stretch)) (t m : Labels) (label : ℕ) (run new : Stretch) → AreLabelled ps t → Contains ps (label, run) → 0 < run.len → ((l n : ℕ) → Stands ps l n new.from → ⊥)
    → Sets t m new.from (Some label) → label_of m run.from ≡ Some label
moved_label ps t m label run new laid held some fresh first =
    set_other t m new.from (Some label) first run.from (unlike new.from run.from (λ e. fresh label 0 (record { run = run; held = held; inside = some; node = node_on_none run.from ∙ sym e })))
    ∙ laid.known label run held some

module _ (ps : List (ℕ × Stretch)) (t m u : Labels) (label own : ℕ) (run empty new : Stretch) (laid : AreLabelled ps t) (rising : IsRising ps)
    (held : Contains ps (label, run)) (place : Contains ps (own, empty)) (some : 0 < run.len) (none : empty.len ≡ 0) (one : new.len ≡ 1) (root : new.from ≡ Root → ⊥)
    (fresh : (l n : ℕ) → Stands ps l n new.from → ⊥) (first : Sets t m new.from (Some label)) (second : Sets m u run.from (Some own)) where
  abbrev mid : List (ℕ × Stretch)
  mid = changed ps own run

  abbrev qs : List (ℕ × Stretch)
  qs = changed mid label new

  apart_labels : label ≡ own → ⊥
  apart_labels = two_labels ps label own run empty rising held place some none

  -- the new runs
  abbrev Others : ℕ → Stretch → Type 0
  Others l r = In ps l r × (l ≡ label → ⊥)

  each_of : (l : ℕ) (r : Stretch) → ((l ≡ own) × (r ≡ run)) ⊎ (In ps l r × (l ≡ own → ⊥)) → (l ≡ label → ⊥) → ((l ≡ own) × (r ≡ run)) ⊎ Others l r
  each_of l r (inl e) other = inl e
  each_of l r (inr h) other = inr (h.0, other)

  each : (l : ℕ) (r : Stretch) → ((l ≡ label) × (r ≡ new)) ⊎ (In mid l r × (l ≡ label → ⊥)) → ((l ≡ label) × (r ≡ new)) ⊎ (((l ≡ own) × (r ≡ run)) ⊎ Others l r)
  each l r (inl e) = inl e
  each l r (inr h) = inr (each_of l r (changed_each own run ps l r h.0) h.1)

  runs_of : (l : ℕ) (r : Stretch) → In qs l r → ((l ≡ label) × (r ≡ new)) ⊎ (((l ≡ own) × (r ≡ run)) ⊎ Others l r)
  runs_of l r h = each l r (changed_each label new mid l r h)

  here_new : Contains qs (label, new)
  here_new = changed_come label new mid run (changed_kept own run ps label run held apart_labels)

  here_run : Contains qs (own, run)
  here_run = changed_kept label new mid own run (changed_come own run ps empty place) (λ e. apart_labels (sym e))

  kept : (l : ℕ) (r : Stretch) → In ps l r → 0 < r.len → (l ≡ label → ⊥) → In qs l r
  kept l r h lt other = changed_kept label new mid l r (changed_kept own run ps l r h not_own) other
    where
      not_own : l ≡ own → ⊥
      not_own e =
          let same = same_run ps own r empty rising (subst (λ (k : ℕ). Contains ps (k, r)) e h) place in
          let long = ap (λ (q : Stretch). q.len) same in
          omega (arith, long, lt, none)

  -- their labels
  run_label : label_of t run.from ≡ Some label
  run_label = laid.known label run held some

  apart_from : run.from ≡ new.from → ⊥
  apart_from e = fresh label 0 (record { run = run; held = held; inside = some; node = node_on_none run.from ∙ e })

  own_label : label_of u run.from ≡ Some own
  own_label = set_own m u run.from (Some own) second

  new_label : label_of u new.from ≡ Some label
  new_label = set_other m u run.from (Some own) second new.from (unlike run.from new.from apart_from) ∙ set_own t m new.from (Some label) first

  other_label : (w : Node) → (run.from ≡ w → ⊥) → (new.from ≡ w → ⊥) → label_of u w ≡ label_of t w
  other_label w a b = set_other m u run.from (Some own) second w (unlike run.from w a) ∙ set_other t m new.from (Some label) first w (unlike new.from w b)

  known_other : (l : ℕ) (r : Stretch) → Others l r → 0 < r.len → label_of u r.from ≡ Some l
  known_other l r h lt = other_label r.from not_run not_new ∙ laid.known l r h.0 lt
    where
      not_run : run.from ≡ r.from → ⊥
      not_run e = h.1 (some_same l label (sym (laid.known l r h.0 lt) ∙ ap (label_of t) (sym e) ∙ run_label))

      not_new : new.from ≡ r.from → ⊥
      not_new e = fresh l 0 (record { run = r; held = h.0; inside = lt; node = node_on_none r.from ∙ sym e })

  known_run : (l : ℕ) (r : Stretch) → ((l ≡ own) × (r ≡ run)) ⊎ Others l r → 0 < r.len → label_of u r.from ≡ Some l
  known_run l r (inl e) lt = ap (λ (q : Stretch). label_of u q.from) e.1 ∙ own_label ∙ ap (λ (k : ℕ). Some k) (sym e.0)
  known_run l r (inr h) lt = known_other l r h lt

  known_by : (l : ℕ) (r : Stretch) → ((l ≡ label) × (r ≡ new)) ⊎ (((l ≡ own) × (r ≡ run)) ⊎ Others l r) → 0 < r.len → label_of u r.from ≡ Some l
  known_by l r (inl e) lt = ap (λ (q : Stretch). label_of u q.from) e.1 ∙ new_label ∙ ap (λ (k : ℕ). Some k) (sym e.0)
  known_by l r (inr h) lt = known_run l r h lt

  abbrev Has : Node → ℕ → Type 0
  Has w l = (r : Stretch) × In qs l r × (r.from ≡ w) × (0 < r.len)

  only_other : (w : Node) (l : ℕ) → label_of t w ≡ Some l → (run.from ≡ w → ⊥) → Has w l
  only_other w l e other = let o = laid.only w l e in (o.0, kept l o.0 o.1 o.3 (not_label o.0 o.1 o.2), o.2, o.3)
    where
      not_label : (r : Stretch) → In ps l r → r.from ≡ w → l ≡ label → ⊥
      not_label r h from is = other (ap (λ (q : Stretch). q.from) (same_run ps label run r rising held (subst (λ (k : ℕ). Contains ps (k, r)) is h)) ∙ from)

  only_new : (w : Node) (l : ℕ) → label_of u w ≡ Some l → (run.from ≡ w → ⊥) → (new.from ≡ w) ⊎ (new.from ≡ w → ⊥) → Has w l
  only_new w l e other (inl same) =
      let is : label ≡ l = some_same label l (sym new_label ∙ ap (label_of u) same ∙ e) in
      (new, subst (λ (k : ℕ). Contains qs (k, new)) is here_new, same, omega (arith, one))
  only_new w l e other (inr apart) = only_other w l (sym (other_label w other apart) ∙ e) other

  only_by : (w : Node) (l : ℕ) → label_of u w ≡ Some l → (run.from ≡ w) ⊎ (run.from ≡ w → ⊥) → Has w l
  only_by w l e (inl same) =
      let is : own ≡ l = some_same own l (sym own_label ∙ ap (label_of u) same ∙ e) in
      (run, subst (λ (k : ℕ). Contains qs (k, run)) is here_run, same, some)
  only_by w l e (inr other) = only_new w l e other (decide new.from w)

  -- a character stands where it was, or moved with its run
  old_new : (v : Node) (o l k : ℕ) → label_of u v ≡ Some o → Stands ps l k v → (run.from ≡ v → ⊥) → (new.from ≡ v) ⊎ (new.from ≡ v → ⊥) → k ≡ 0
  old_new v o l k e s other (inl same) = absurd (fresh l k (subst (λ (w : Node). Stands ps l k w) (sym same) s))
  old_new v o l k e s other (inr apart) = laid.apart v o l k (sym (other_label v other apart) ∙ e) s

  old_run : (v : Node) (o l k : ℕ) → label_of u v ≡ Some o → Stands ps l k v → (run.from ≡ v) ⊎ (run.from ≡ v → ⊥) → k ≡ 0
  old_run v o l k e s (inl same) = laid.apart v label l k (ap (label_of t) (sym same) ∙ run_label) s
  old_run v o l k e s (inr other) = old_new v o l k e s other (decide new.from v)

  apart_run : (v : Node) (o l k : ℕ) (r : Stretch) → label_of u v ≡ Some o → k < r.len → node_on r.from k ≡ v → ((l ≡ own) × (r ≡ run)) ⊎ Others l r → k ≡ 0
  apart_run v o l k r e lt node (inl is) =
      old_run v o label k e (record { run = run; held = held; inside = subst (λ (q : Stretch). k < q.len) is.1 lt; node = ap (λ (q : Stretch). node_on q.from k) (sym is.1) ∙ node }) (decide run.from v)
  apart_run v o l k r e lt node (inr h) = old_run v o l k e (record { run = r; held = h.0; inside = lt; node = node }) (decide run.from v)

  apart_by : (v : Node) (o l k : ℕ) (r : Stretch) → label_of u v ≡ Some o → k < r.len → node_on r.from k ≡ v → ((l ≡ label) × (r ≡ new)) ⊎ (((l ≡ own) × (r ≡ run)) ⊎ Others l r) → k ≡ 0
  apart_by v o l k r e lt node (inl is) = let long = ap (λ (q : Stretch). q.len) is.1 in omega (arith, lt, long, one)
  apart_by v o l k r e lt node (inr h) = apart_run v o l k r e lt node h

  rooted_run : (l : ℕ) (r : Stretch) → ((l ≡ own) × (r ≡ run)) ⊎ Others l r → r.from ≡ Root → ⊥
  rooted_run l r (inl is) e = laid.rooted label run held (ap (λ (q : Stretch). q.from) (sym is.1) ∙ e)
  rooted_run l r (inr h) e = laid.rooted l r h.0 e

  rooted_by : (l : ℕ) (r : Stretch) → ((l ≡ label) × (r ≡ new)) ⊎ (((l ≡ own) × (r ≡ run)) ⊎ Others l r) → r.from ≡ Root → ⊥
  rooted_by l r (inl is) e = root (ap (λ (q : Stretch). q.from) (sym is.1) ∙ e)
  rooted_by l r (inr h) e = rooted_run l r h e

  pub exchanged_laid : AreLabelled qs u
  exchanged_laid = record {
    known = λ l r h lt. known_by l r (runs_of l r h) lt;
    only = λ w l e. only_by w l e (decide run.from w);
    apart = λ v o l k e s. apart_by v o l k s.run e s.inside s.node (runs_of l s.run s.held);
    rooted = λ l r h. rooted_by l r (runs_of l r h);
  }
