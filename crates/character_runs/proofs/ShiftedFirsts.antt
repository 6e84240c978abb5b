-- Labels after the first character of a run went over to the run ahead of it.
use Rattle.std.proofs.Common.{◌≡◌, ℕ, zero, suc, ◌+◌, ◌-◌, ◌<◌, ◌⊎◌, Bool, if◌then◌else◌, List, Some, None, Contains, refl, sym, ap, ◌∙◌, subst, arith, inl, inr}
use Rattle.ew_model.specs.declared.node.Node.{Node}
use Rattle.ew_model.specs.declared.node.Node.TheVariants.{Root}
use Rattle.walker_record.specs.Stretches.{Stretch, node_on, joined_of, second_part}
use Rattle.fugue_place.specs.Attachments.{node_eq}
use Rattle.fugue_place.proofs.NodeLaws.{node_itself}
use Rattle.order_tree.specs.Pairs.{IsRising, changed}
use Rattle.character_runs.specs.declared.labels.Labels.{Labels}
use Rattle.character_runs.specs.Cursors.{struck_with}
use Rattle.character_runs.specs.Labelled.{label_of, GoesOver}
use Rattle.character_runs.specs.Laid.{Stands, AreLabelled}
use Rattle.character_runs.proofs.PartedRuns.{same_run}
use Rattle.character_runs.proofs.CutRuns.{In, unlike, decide}
use Rattle.character_runs.proofs.Places.{one_label, on_on, not_root_on, same_steps}
use Rattle.character_runs.proofs.Standings.{some_same, none_some}
use Rattle.character_runs.proofs.ChangedAt.{changed_each, changed_kept, changed_come}

module _ (ps : List (ℕ × Stretch)) (t u : Labels) (label own : ℕ) (run struck : Stretch) (laid : AreLabelled ps t) (rising : IsRising ps)
    (held : Contains ps (label, run)) (ahead : Contains ps (own, struck)) (apart : label ≡ own → ⊥) (long : 1 < run.len) (some : 0 < struck.len) (next : run.from ≡ node_on struck.from struck.len)
    (goes : GoesOver t u run.from (node_on run.from 1) label) where
  abbrev v : Node
  v = node_on run.from 1

  abbrev rest : Stretch
  rest = second_part run 1

  abbrev longer : Stretch
  longer = joined_of struck (struck_with run.from 0)

  abbrev mid : List (ℕ × Stretch)
  mid = changed ps label rest

  abbrev qs : List (ℕ × Stretch)
  qs = changed mid own longer

  -- the new runs
  abbrev Others : ℕ → Stretch → Type 0
  Others l r = In ps l r × (l ≡ own → ⊥) × (l ≡ label → ⊥)

  each_of : (l : ℕ) (r : Stretch) → ((l ≡ label) × (r ≡ rest)) ⊎ (In ps l r × (l ≡ label → ⊥)) → (l ≡ own → ⊥) → ((l ≡ label) × (r ≡ rest)) ⊎ Others l r
  each_of l r (inl e) other = inl e
  each_of l r (inr h) other = inr (h.0, other, h.1)

  each : (l : ℕ) (r : Stretch) → ((l ≡ own) × (r ≡ longer)) ⊎ (In mid l r × (l ≡ own → ⊥)) → ((l ≡ own) × (r ≡ longer)) ⊎ (((l ≡ label) × (r ≡ rest)) ⊎ Others l r)
  each l r (inl e) = inl e
  each l r (inr h) = inr (each_of l r (changed_each label rest ps l r h.0) h.1)

  runs_of : (l : ℕ) (r : Stretch) → In qs l r → ((l ≡ own) × (r ≡ longer)) ⊎ (((l ≡ label) × (r ≡ rest)) ⊎ Others l r)
  runs_of l r h = each l r (changed_each own longer mid l r h)

  here_longer : Contains qs (own, longer)
  here_longer = changed_come own longer mid struck (changed_kept label rest ps own struck ahead (λ e. apart (sym e)))

  here_rest : Contains qs (label, rest)
  here_rest = changed_kept own longer mid label rest (changed_come label rest ps run held) apart

  -- their nodes
  root : run.from ≡ Root → ⊥
  root = laid.rooted label run held

  second : Stands ps label 1 v
  second = record { run = run; held = held; inside = long; node = refl }

  run_label : label_of t run.from ≡ Some label
  run_label = laid.known label run held (omega (arith, long))

  old_label : label_of t struck.from ≡ Some own
  old_label = laid.known own struck ahead some

  -- no run began with the second
  bare : (l : ℕ) (w : Node) → label_of t w ≡ Some l → v ≡ w → ⊥
  bare l w e same = let none = laid.apart v l label 1 (ap (label_of t) same ∙ e) second in omega (arith, none)

  first_not_struck : run.from ≡ struck.from → ⊥
  first_not_struck e = apart (some_same label own (sym run_label ∙ ap (label_of t) e ∙ old_label))

  -- their labels
  second_label : label_of u v ≡ Some label
  second_label =
      goes v ∙ ap (λ (b : Bool). if b then None else (if node_eq v v then Some label else label_of t v)) (unlike run.from v (λ e. bare label run.from run_label (sym e)))
      ∙ ap (λ (b : Bool). if b then Some label else label_of t v) (node_itself v)

  no_label : label_of u run.from ≡ None
  no_label = goes run.from ∙ ap (λ (b : Bool). if b then None else (if node_eq v run.from then Some label else label_of t run.from)) (node_itself run.from)

  other_label : (w : Node) → (v ≡ w → ⊥) → (run.from ≡ w → ⊥) → label_of u w ≡ label_of t w
  other_label w a b =
      goes w ∙ ap (λ (c : Bool). if c then None else (if node_eq v w then Some label else label_of t w)) (unlike run.from w b)
      ∙ ap (λ (c : Bool). if c then Some label else label_of t w) (unlike v w a)

  struck_label : label_of u struck.from ≡ Some own
  struck_label = other_label struck.from (bare own struck.from old_label) first_not_struck ∙ old_label

  known_other : (l : ℕ) (r : Stretch) → Others l r → 0 < r.len → label_of u r.from ≡ Some l
  known_other l r h lt = other_label r.from (bare l r.from (laid.known l r h.0 lt)) not_first ∙ laid.known l r h.0 lt
    where
      not_first : run.from ≡ r.from → ⊥
      not_first e = h.2 (some_same l label (sym (laid.known l r h.0 lt) ∙ ap (label_of t) (sym e) ∙ run_label))

  known_rest : (l : ℕ) (r : Stretch) → ((l ≡ label) × (r ≡ rest)) ⊎ Others l r → 0 < r.len → label_of u r.from ≡ Some l
  known_rest l r (inl e) lt = ap (λ (q : Stretch). label_of u q.from) e.1 ∙ second_label ∙ ap (λ (k : ℕ). Some k) (sym e.0)
  known_rest l r (inr h) lt = known_other l r h lt

  known_by : (l : ℕ) (r : Stretch) → ((l ≡ own) × (r ≡ longer)) ⊎ (((l ≡ label) × (r ≡ rest)) ⊎ Others l r) → 0 < r.len → label_of u r.from ≡ Some l
  known_by l r (inl e) lt = ap (λ (q : Stretch). label_of u q.from) e.1 ∙ struck_label ∙ ap (λ (k : ℕ). Some k) (sym e.0)
  known_by l r (inr h) lt = known_rest l r h lt

  abbrev Has : Node → ℕ → Type 0
  Has w l = (r : Stretch) × In qs l r × (r.from ≡ w) × (0 < r.len)

  only_other : (w : Node) (l : ℕ) → label_of t w ≡ Some l → (run.from ≡ w → ⊥) → (struck.from ≡ w → ⊥) → Has w l
  only_other w l e other free =
      let o = laid.only w l e in
      let r = o.0 in
      (r, changed_kept own longer mid l r (changed_kept label rest ps l r o.1 (not_label r o.1 o.2)) (not_own r o.1 o.2), o.2, o.3)
    where
      not_label : (r : Stretch) → In ps l r → r.from ≡ w → l ≡ label → ⊥
      not_label r h from is = other (ap (λ (q : Stretch). q.from) (same_run ps label run r rising held (subst (λ (k : ℕ). Contains ps (k, r)) is h)) ∙ from)

      not_own : (r : Stretch) → In ps l r → r.from ≡ w → l ≡ own → ⊥
      not_own r h from is = free (ap (λ (q : Stretch). q.from) (same_run ps own struck r rising ahead (subst (λ (k : ℕ). Contains ps (k, r)) is h)) ∙ from)

  only_struck : (w : Node) (l : ℕ) → label_of u w ≡ Some l → (v ≡ w → ⊥) → (run.from ≡ w → ⊥) → (struck.from ≡ w) ⊎ (struck.from ≡ w → ⊥) → Has w l
  only_struck w l e a b (inl same) =
      let is : own ≡ l = some_same own l (sym struck_label ∙ ap (label_of u) same ∙ e) in
      (longer, subst (λ (k : ℕ). Contains qs (k, longer)) is here_longer, same, omega (arith, some))
  only_struck w l e a b (inr other) = only_other w l (sym (other_label w a b) ∙ e) b other

  only_first : (w : Node) (l : ℕ) → label_of u w ≡ Some l → (v ≡ w → ⊥) → (run.from ≡ w) ⊎ (run.from ≡ w → ⊥) → Has w l
  only_first w l e a (inl same) = absurd (none_some l (sym no_label ∙ ap (label_of u) same ∙ e))
  only_first w l e a (inr b) = only_struck w l e a b (decide struck.from w)

  only_by : (w : Node) (l : ℕ) → label_of u w ≡ Some l → (v ≡ w) ⊎ (v ≡ w → ⊥) → Has w l
  only_by w l e (inl same) =
      let is : label ≡ l = some_same label l (sym second_label ∙ ap (label_of u) same ∙ e) in
      (rest, subst (λ (k : ℕ). Contains qs (k, rest)) is here_rest, same, omega (arith, long))
  only_by w l e (inr other) = only_first w l e other (decide run.from w)

  -- a character of the old runs but the second one of the run, and not its first, is the first of its run
  old_free : (w : Node) (o l k : ℕ) → label_of u w ≡ Some o → Stands ps l k w → (v ≡ w → ⊥) → (run.from ≡ w) ⊎ (run.from ≡ w → ⊥) → (k ≡ 0) × (run.from ≡ w → ⊥)
  old_free w o l k e s a (inl same) = absurd (none_some o (sym no_label ∙ ap (label_of u) same ∙ e))
  old_free w o l k e s a (inr b) = (laid.apart w o l k (sym (other_label w a b) ∙ e) s, b)

  old_first : (w : Node) (o l k : ℕ) → label_of u w ≡ Some o → Stands ps l k w → (v ≡ w → ⊥) → (k ≡ 0) × (run.from ≡ w → ⊥)
  old_first w o l k e s a = old_free w o l k e s a (decide run.from w)

  -- the second one stands in its run alone
  elsewhere : (w : Node) (l k : ℕ) → Stands ps l k w → (l ≡ label → ⊥) → v ≡ w → ⊥
  elsewhere w l k s other e = other (one_label ps t laid v l label k 1 (subst (λ (x : Node). Stands ps l k x) (sym e) s) second)

  apart_rest : (w : Node) (o k : ℕ) → label_of u w ≡ Some o → k < run.len - 1 → node_on v k ≡ w → k ≡ 0
  apart_rest w o zero e lt node = refl
  apart_rest w o (suc k) e lt node =
      let there : Stands ps label (1 + suc k) w = record { run = run; held = held; inside = omega (arith, lt); node = sym (on_on run.from 1 (suc k)) ∙ node } in
      let old = old_first w o label (1 + suc k) e there (λ same. let steps = same_steps run.from 1 (1 + suc k) root (same ∙ sym there.node) in omega (arith, steps)) in
      let none = old.0 in
      absurd (omega (arith, none))

  apart_longer : (w : Node) (o k : ℕ) → label_of u w ≡ Some o → k < struck.len + 1 → node_on struck.from k ≡ w → (run.from ≡ w) ⊎ (run.from ≡ w → ⊥) → k ≡ 0
  apart_longer w o k e lt node (inl same) = absurd (none_some o (sym no_label ∙ ap (label_of u) same ∙ e))
  apart_longer w o k e lt node (inr other) =
      let not_last : k ≡ struck.len → ⊥ = λ last. other (next ∙ ap (node_on struck.from) (sym last) ∙ node) in
      let less : k < struck.len = is_less not_last in
      let there : Stands ps own k w = record { run = struck; held = ahead; inside = less; node = node } in
      (old_first w o own k e there (elsewhere w own k there (λ same. apart (sym same)))).0
    where
      is_less : (k ≡ struck.len → ⊥) → k < struck.len
      is_less not_last = grind (arith, lt, not_last)

  apart_run : (w : Node) (o l k : ℕ) (r : Stretch) → label_of u w ≡ Some o → k < r.len → node_on r.from k ≡ w → ((l ≡ label) × (r ≡ rest)) ⊎ Others l r → k ≡ 0
  apart_run w o l k r e lt node (inl is) = apart_rest w o k e (subst (λ (q : Stretch). k < q.len) is.1 lt) (ap (λ (q : Stretch). node_on q.from k) (sym is.1) ∙ node)
  apart_run w o l k r e lt node (inr h) =
      let there : Stands ps l k w = record { run = r; held = h.0; inside = lt; node = node } in (old_first w o l k e there (elsewhere w l k there h.2)).0

  apart_by : (w : Node) (o l k : ℕ) (r : Stretch) → label_of u w ≡ Some o → k < r.len → node_on r.from k ≡ w → ((l ≡ own) × (r ≡ longer)) ⊎ (((l ≡ label) × (r ≡ rest)) ⊎ Others l r) → k ≡ 0
  apart_by w o l k r e lt node (inl is) =
      let less : k < longer.len = subst (λ (q : Stretch). k < q.len) is.1 lt in
      apart_longer w o k e (omega (arith, less)) (ap (λ (q : Stretch). node_on q.from k) (sym is.1) ∙ node) (decide run.from w)
  apart_by w o l k r e lt node (inr h) = apart_run w o l k r e lt node h

  rooted_rest : (l : ℕ) (r : Stretch) → ((l ≡ label) × (r ≡ rest)) ⊎ Others l r → r.from ≡ Root → ⊥
  rooted_rest l r (inl is) e = not_root_on run.from 1 root (ap (λ (q : Stretch). q.from) (sym is.1) ∙ e)
  rooted_rest l r (inr h) e = laid.rooted l r h.0 e

  rooted_by : (l : ℕ) (r : Stretch) → ((l ≡ own) × (r ≡ longer)) ⊎ (((l ≡ label) × (r ≡ rest)) ⊎ Others l r) → r.from ≡ Root → ⊥
  rooted_by l r (inl is) e = laid.rooted own struck ahead (ap (λ (q : Stretch). q.from) (sym is.1) ∙ e)
  rooted_by l r (inr h) e = rooted_rest l r h e

  pub firsts_laid : AreLabelled qs u
  firsts_laid = record {
    known = λ l r h lt. known_by l r (runs_of l r h) lt;
    only = λ w l e. only_by w l e (decide v w);
    apart = λ w o l k e s. apart_by w o l k s.run e s.inside s.node (runs_of l s.run s.held);
    rooted = λ l r h. rooted_by l r (runs_of l r h);
  }
