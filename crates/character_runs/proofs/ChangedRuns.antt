-- Labels after a run got other states.
use Rattle.std.proofs.Common.{◌≡◌, ℕ, ◌<◌, ◌⊎◌, List, [], ◌∷◌, Contains, refl, sym, ap, ◌∙◌, subst, arith, inl, inr}
use Rattle.ew_model.specs.declared.node.Node.{Node}
use Rattle.walker_record.specs.Stretches.{Stretch, node_on}
use Rattle.character_runs.specs.declared.labels.Labels.{Labels}
use Rattle.character_runs.specs.Labelled.{label_of}
use Rattle.character_runs.specs.Laid.{AreLabelled}
use Rattle.character_runs.proofs.Moves.{Moves, in_one, is_first}
use Rattle.character_runs.proofs.CutRuns.{In, label_is, run_is}

module _ (ps qs : List (ℕ × Stretch)) (t : Labels) (label : ℕ) (was now : Stretch) (laid : AreLabelled ps t) (held : Contains ps (label, was))
    (moves : Moves ps qs ((label, was) ∷ []) ((label, now) ∷ [])) (from : now.from ≡ was.from) (len : now.len ≡ was.len) where
  -- a run of the new ones, as one of the old
  record Old (l : ℕ) (r : Stretch) : Type 0 where
    run : Stretch
    there : In ps l run
    begins : r.from ≡ run.from
    long : r.len ≡ run.len

  old_by : (l : ℕ) (r : Stretch) → In ((label, now) ∷ []) l r ⊎ In ps l r → Old l r
  old_by l r (inr h) = record { run = r; there = h; begins = refl; long = refl }
  old_by l r (inl h) =
      let is = in_one (l, r) (label, now) h in
      record {
        run = was;
        there = subst (λ (k : ℕ). Contains ps (k, was)) (sym (label_is (l, r) (label, now) is)) held;
        begins = ap (λ (q : Stretch). q.from) (run_is (l, r) (label, now) is) ∙ from;
        long = ap (λ (q : Stretch). q.len) (run_is (l, r) (label, now) is) ∙ len;
      }

  old : (l : ℕ) (r : Stretch) → In qs l r → Old l r
  old l r h = old_by l r (moves.each (l, r) h)

  abbrev Has : Node → ℕ → Type 0
  Has w l = (r : Stretch) × In qs l r × (r.from ≡ w) × (0 < r.len)

  only_by : (w : Node) (l : ℕ) (r : Stretch) → In ((label, was) ∷ []) l r ⊎ In qs l r → r.from ≡ w → 0 < r.len → Has w l
  only_by w l r (inr h) e lt = (r, h, e, lt)
  only_by w l r (inl h) e lt =
      let is = in_one (l, r) (label, was) h in
      let same : r ≡ was = run_is (l, r) (label, was) is in
      let long : r.len ≡ was.len = ap (λ (q : Stretch). q.len) same in
      let there : Contains qs (l, now) = subst (λ (k : ℕ). Contains qs (k, now)) (sym (label_is (l, r) (label, was) is)) (moves.come (label, now) (is_first (label, now) [])) in
      (now, there, from ∙ ap (λ (q : Stretch). q.from) (sym same) ∙ e, omega (arith, lt, long, len))

  pub changed_laid : AreLabelled qs t
  changed_laid = record {
    known = λ l r h lt. let o = old l r h in let long = o.long in ap (label_of t) o.begins ∙ laid.known l o.run o.there (omega (arith, lt, long));
    only = λ w l e. let o = laid.only w l e in only_by w l o.0 (moves.kept (l, o.0) o.1) o.2 o.3;
    apart = λ w o l k e s. let p = old l s.run s.held in let long = p.long in let lt = s.inside in
        laid.apart w o l k e (record { run = p.run; held = p.there; inside = omega (arith, lt, long); node = ap (λ (x : Node). node_on x k) (sym p.begins) ∙ s.node });
    rooted = λ l r h e. let o = old l r h in laid.rooted l o.run o.there (sym o.begins ∙ e);
  }
