-- Labels after the last character of a run went over to the run behind it.
use Rattle.std.proofs.Common.{◌≡◌, ℕ, zero, suc, ◌+◌, ◌-◌, ◌<◌, ◌⊎◌, Bool, if◌then◌else◌, List, Some, None, Contains, refl, sym, ap, ◌∙◌, subst, arith, inl, inr}
use Rattle.ew_model.specs.declared.node.Node.{Node}
use Rattle.ew_model.specs.declared.node.Node.TheVariants.{Root}
use Rattle.walker_record.specs.Stretches.{Stretch, node_on}
use Rattle.fugue_place.specs.Attachments.{node_eq}
use Rattle.fugue_place.proofs.NodeLaws.{node_itself}
use Rattle.order_tree.specs.Pairs.{IsRising, changed}
use Rattle.character_runs.specs.declared.labels.Labels.{Labels}
use Rattle.character_runs.specs.Cursors.{last_of, shorter}
use Rattle.character_runs.specs.Labelled.{label_of, GoesOver}
use Rattle.character_runs.specs.Laid.{Stands, AreLabelled}
use Rattle.character_runs.proofs.PartedRuns.{same_run}
use Rattle.character_runs.proofs.CutRuns.{In, unlike, decide}
use Rattle.character_runs.proofs.RunChars.{node_on_none}
use Rattle.character_runs.proofs.Places.{one_label, on_on, not_root_on, same_steps}
use Rattle.character_runs.proofs.Standings.{some_same, none_some}
use Rattle.character_runs.proofs.ChangedAt.{changed_each, changed_kept, changed_come}

module _ (ps : List (ℕ × Stretch)) (t u : Labels) (label own : ℕ) (run struck longer : Stretch) (laid : AreLabelled ps t) (rising : IsRising ps)
    (held : Contains ps (label, run)) (behind : Contains ps (own, struck)) (apart : label ≡ own → ⊥) (long : 1 < run.len) (some : 0 < struck.len) (next : struck.from ≡ node_on run.from run.len)
    (from : longer.from ≡ last_of run) (len : longer.len ≡ struck.len + 1) (goes : GoesOver t u struck.from (last_of run) own) where
  abbrev v : Node
  v = last_of run

  abbrev mid : List (ℕ × Stretch)
  mid = changed ps own longer

  abbrev qs : List (ℕ × Stretch)
  qs = changed mid label (shorter run)

  -- the new runs
  abbrev Others : ℕ → Stretch → Type 0
  Others l r = In ps l r × (l ≡ own → ⊥) × (l ≡ label → ⊥)

  each_of : (l : ℕ) (r : Stretch) → ((l ≡ own) × (r ≡ longer)) ⊎ (In ps l r × (l ≡ own → ⊥)) → (l ≡ label → ⊥) → ((l ≡ own) × (r ≡ longer)) ⊎ Others l r
  each_of l r (inl e) other = inl e
  each_of l r (inr h) other = inr (h.0, h.1, other)

  each : (l : ℕ) (r : Stretch) → ((l ≡ label) × (r ≡ shorter run)) ⊎ (In mid l r × (l ≡ label → ⊥)) → ((l ≡ label) × (r ≡ shorter run)) ⊎ (((l ≡ own) × (r ≡ longer)) ⊎ Others l r)
  each l r (inl e) = inl e
  each l r (inr h) = inr (each_of l r (changed_each own longer ps l r h.0) h.1)

  runs_of : (l : ℕ) (r : Stretch) → In qs l r → ((l ≡ label) × (r ≡ shorter run)) ⊎ (((l ≡ own) × (r ≡ longer)) ⊎ Others l r)
  runs_of l r h = each l r (changed_each label (shorter run) mid l r h)

  here_shorter : Contains qs (label, shorter run)
  here_shorter = changed_come label (shorter run) mid run (changed_kept own longer ps label run held apart)

  here_longer : Contains qs (own, longer)
  here_longer = changed_kept label (shorter run) mid own longer (changed_come own longer ps struck behind) (λ e. apart (sym e))

  -- their nodes
  root : run.from ≡ Root → ⊥
  root = laid.rooted label run held

  last : Stands ps label (run.len - 1) v
  last = record { run = run; held = held; inside = omega (arith, long); node = refl }

  last_not_first : v ≡ run.from → ⊥
  last_not_first e = let s = same_steps run.from (run.len - 1) 0 root (e ∙ sym (node_on_none run.from)) in omega (arith, s, long)

  last_not_struck : v ≡ struck.from → ⊥
  last_not_struck e = let s = same_steps run.from (run.len - 1) run.len root (e ∙ next) in omega (arith, s, long)

  first_not_struck : struck.from ≡ run.from → ⊥
  first_not_struck e = let s = same_steps run.from run.len 0 root (sym next ∙ e ∙ sym (node_on_none run.from)) in omega (arith, s, long)

  all : run.len - 1 + 1 ≡ run.len
  all = omega (arith, long)

  goes_on : node_on v 1 ≡ struck.from
  goes_on = on_on run.from (run.len - 1) 1 ∙ ap (node_on run.from) all ∙ sym next

  -- their labels
  own_label : label_of u v ≡ Some own
  own_label =
      goes v ∙ ap (λ (b : Bool). if b then None else (if node_eq v v then Some own else label_of t v)) (unlike struck.from v (λ e. last_not_struck (sym e)))
      ∙ ap (λ (b : Bool). if b then Some own else label_of t v) (node_itself v)

  no_label : label_of u struck.from ≡ None
  no_label = goes struck.from ∙ ap (λ (b : Bool). if b then None else (if node_eq v struck.from then Some own else label_of t struck.from)) (node_itself struck.from)

  other_label : (w : Node) → (v ≡ w → ⊥) → (struck.from ≡ w → ⊥) → label_of u w ≡ label_of t w
  other_label w a b =
      goes w ∙ ap (λ (b : Bool). if b then None else (if node_eq v w then Some own else label_of t w)) (unlike struck.from w b)
      ∙ ap (λ (b : Bool). if b then Some own else label_of t w) (unlike v w a)

  first_label : label_of u run.from ≡ Some label
  first_label = other_label run.from last_not_first first_not_struck ∙ laid.known label run held (omega (arith, long))

  known_other : (l : ℕ) (r : Stretch) → Others l r → 0 < r.len → label_of u r.from ≡ Some l
  known_other l r h lt = other_label r.from not_last not_struck ∙ laid.known l r h.0 lt
    where
      not_last : v ≡ r.from → ⊥
      not_last e = h.2 (one_label ps t laid v l label 0 (run.len - 1) (record { run = r; held = h.0; inside = lt; node = node_on_none r.from ∙ sym e }) last)

      not_struck : struck.from ≡ r.from → ⊥
      not_struck e = h.1 (some_same l own (sym (laid.known l r h.0 lt) ∙ ap (label_of t) (sym e) ∙ laid.known own struck behind some))

  known_longer : (l : ℕ) (r : Stretch) → ((l ≡ own) × (r ≡ longer)) ⊎ Others l r → 0 < r.len → label_of u r.from ≡ Some l
  known_longer l r (inl e) lt = ap (λ (q : Stretch). label_of u q.from) e.1 ∙ ap (label_of u) from ∙ own_label ∙ ap (λ (k : ℕ). Some k) (sym e.0)
  known_longer l r (inr h) lt = known_other l r h lt

  known_by : (l : ℕ) (r : Stretch) → ((l ≡ label) × (r ≡ shorter run)) ⊎ (((l ≡ own) × (r ≡ longer)) ⊎ Others l r) → 0 < r.len → label_of u r.from ≡ Some l
  known_by l r (inl e) lt = ap (λ (q : Stretch). label_of u q.from) e.1 ∙ first_label ∙ ap (λ (k : ℕ). Some k) (sym e.0)
  known_by l r (inr h) lt = known_longer l r h lt

  abbrev Has : Node → ℕ → Type 0
  Has w l = (r : Stretch) × In qs l r × (r.from ≡ w) × (0 < r.len)

  only_other : (w : Node) (l : ℕ) → label_of t w ≡ Some l → (run.from ≡ w → ⊥) → (struck.from ≡ w → ⊥) → Has w l
  only_other w l e other free =
      let o = laid.only w l e in
      let r = o.0 in
      (r, changed_kept label (shorter run) mid l r (changed_kept own longer ps l r o.1 (not_own r o.1 o.2)) (not_label r o.1 o.2), o.2, o.3)
    where
      not_label : (r : Stretch) → In ps l r → r.from ≡ w → l ≡ label → ⊥
      not_label r h from is = other (ap (λ (q : Stretch). q.from) (same_run ps label run r rising held (subst (λ (k : ℕ). Contains ps (k, r)) is h)) ∙ from)

      not_own : (r : Stretch) → In ps l r → r.from ≡ w → l ≡ own → ⊥
      not_own r h from is = free (ap (λ (q : Stretch). q.from) (same_run ps own struck r rising behind (subst (λ (k : ℕ). Contains ps (k, r)) is h)) ∙ from)

  only_first : (w : Node) (l : ℕ) → label_of u w ≡ Some l → (v ≡ w → ⊥) → (struck.from ≡ w → ⊥) → (run.from ≡ w) ⊎ (run.from ≡ w → ⊥) → Has w l
  only_first w l e a b (inl same) =
      let is : label ≡ l = some_same label l (sym first_label ∙ ap (label_of u) same ∙ e) in
      (shorter run, subst (λ (k : ℕ). Contains qs (k, shorter run)) is here_shorter, same, omega (arith, long))
  only_first w l e a b (inr other) = only_other w l (sym (other_label w a b) ∙ e) other b

  only_struck : (w : Node) (l : ℕ) → label_of u w ≡ Some l → (v ≡ w → ⊥) → (struck.from ≡ w) ⊎ (struck.from ≡ w → ⊥) → Has w l
  only_struck w l e a (inl same) = absurd (none_some l (sym no_label ∙ ap (label_of u) same ∙ e))
  only_struck w l e a (inr b) = only_first w l e a b (decide run.from w)

  only_by : (w : Node) (l : ℕ) → label_of u w ≡ Some l → (v ≡ w) ⊎ (v ≡ w → ⊥) → Has w l
  only_by w l e (inl same) =
      let is : own ≡ l = some_same own l (sym own_label ∙ ap (label_of u) same ∙ e) in
      (longer, subst (λ (k : ℕ). Contains qs (k, longer)) is here_longer, from ∙ same, omega (arith, len))
  only_by w l e (inr other) = only_struck w l e other (decide struck.from w)

  -- a character of the old runs but the last one, and no first of the struck ones, is the first of its run
  old_free : (w : Node) (o l k : ℕ) → label_of u w ≡ Some o → Stands ps l k w → (v ≡ w → ⊥) → (struck.from ≡ w) ⊎ (struck.from ≡ w → ⊥) → (k ≡ 0) × (struck.from ≡ w → ⊥)
  old_free w o l k e s a (inl same) = absurd (none_some o (sym no_label ∙ ap (label_of u) same ∙ e))
  old_free w o l k e s a (inr b) = (laid.apart w o l k (sym (other_label w a b) ∙ e) s, b)

  old_first : (w : Node) (o l k : ℕ) → label_of u w ≡ Some o → Stands ps l k w → (v ≡ w → ⊥) → (k ≡ 0) × (struck.from ≡ w → ⊥)
  old_first w o l k e s a = old_free w o l k e s a (decide struck.from w)

  -- the last one stands in its run alone
  elsewhere : (w : Node) (l k : ℕ) → Stands ps l k w → (l ≡ label → ⊥) → v ≡ w → ⊥
  elsewhere w l k s other e = other (one_label ps t laid v l label k (run.len - 1) (subst (λ (x : Node). Stands ps l k x) (sym e) s) last)

  apart_longer : (w : Node) (o k : ℕ) → label_of u w ≡ Some o → k < struck.len + 1 → node_on v k ≡ w → k ≡ 0
  apart_longer w o zero e lt node = refl
  apart_longer w o (suc k) e lt node =
      let more : 1 + k ≡ suc k = omega arith in
      let there : Stands ps own k w = record { run = struck; held = behind; inside = omega (arith, lt); node = ap (λ (x : Node). node_on x k) (sym goes_on) ∙ on_on v 1 k ∙ ap (node_on v) more ∙ node } in
      let old = old_first w o own k e there (elsewhere w own k there (λ e. apart (sym e))) in
      absurd (old.1 (sym (node_on_none struck.from) ∙ ap (node_on struck.from) (sym old.0) ∙ there.node))

  apart_run : (w : Node) (o l k : ℕ) (r : Stretch) → label_of u w ≡ Some o → k < r.len → node_on r.from k ≡ w → ((l ≡ own) × (r ≡ longer)) ⊎ Others l r → k ≡ 0
  apart_run w o l k r e lt node (inl is) =
      let size : r.len ≡ longer.len = ap (λ (q : Stretch). q.len) is.1 in
      apart_longer w o k e (omega (arith, lt, size, len)) (ap (λ (x : Node). node_on x k) (sym from) ∙ ap (λ (q : Stretch). node_on q.from k) (sym is.1) ∙ node)
  apart_run w o l k r e lt node (inr h) =
      let there : Stands ps l k w = record { run = r; held = h.0; inside = lt; node = node } in (old_first w o l k e there (elsewhere w l k there h.2)).0

  apart_by : (w : Node) (o l k : ℕ) (r : Stretch) → label_of u w ≡ Some o → k < r.len → node_on r.from k ≡ w → ((l ≡ label) × (r ≡ shorter run)) ⊎ (((l ≡ own) × (r ≡ longer)) ⊎ Others l r) → k ≡ 0
  apart_by w o l k r e lt node (inl is) =
      let less : k < run.len - 1 = subst (λ (q : Stretch). k < q.len) is.1 lt in
      let at : node_on run.from k ≡ w = ap (λ (q : Stretch). node_on q.from k) (sym is.1) ∙ node in
      (old_first w o label k e (record { run = run; held = held; inside = omega (arith, less); node = at })
      (λ same. let steps = same_steps run.from k (run.len - 1) root (at ∙ sym same) in omega (arith, steps, less))).0
  apart_by w o l k r e lt node (inr h) = apart_run w o l k r e lt node h

  rooted_longer : (l : ℕ) (r : Stretch) → ((l ≡ own) × (r ≡ longer)) ⊎ Others l r → r.from ≡ Root → ⊥
  rooted_longer l r (inl is) e = not_root_on run.from (run.len - 1) root (sym from ∙ ap (λ (q : Stretch). q.from) (sym is.1) ∙ e)
  rooted_longer l r (inr h) e = laid.rooted l r h.0 e

  rooted_by : (l : ℕ) (r : Stretch) → ((l ≡ label) × (r ≡ shorter run)) ⊎ (((l ≡ own) × (r ≡ longer)) ⊎ Others l r) → r.from ≡ Root → ⊥
  rooted_by l r (inl is) e = root (ap (λ (q : Stretch). q.from) (sym is.1) ∙ e)
  rooted_by l r (inr h) e = rooted_longer l r h e

  pub shifted_laid : AreLabelled qs u
  shifted_laid = record {
    known = λ l r h lt. known_by l r (runs_of l r h) lt;
    only = λ w l e. only_by w l e (decide v w);
    apart = λ w o l k e s. apart_by w o l k s.run e s.inside s.node (runs_of l s.run s.held);
    rooted = λ l r h. rooted_by l r (runs_of l r h);
  }
