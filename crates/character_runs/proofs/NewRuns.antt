-- Labels after a run without characters got its first.
use Rattle.std.proofs.Common.{◌≡◌, ℕ, ◌<◌, ◌⊎◌, false, List, [], ◌∷◌, Some, Contains, sym, ap, ◌∙◌, subst, arith, inl, inr}
use Rattle.ew_model.specs.declared.node.Node.{Node}
use Rattle.ew_model.specs.declared.node.Node.TheVariants.{Root}
use Rattle.walker_record.specs.Stretches.{Stretch, node_on}
use Rattle.fugue_place.specs.Attachments.{node_eq}
use Rattle.character_runs.specs.declared.labels.Labels.{Labels}
use Rattle.character_runs.specs.Labelled.{label_of, Sets}
use Rattle.character_runs.specs.Laid.{Stands, AreLabelled}
use Rattle.character_runs.proofs.Moves.{Moves, in_one, is_first}
use Rattle.character_runs.proofs.CutRuns.{In, alike, set_own, set_other, label_is, run_is}
use Rattle.character_runs.proofs.RunChars.{node_on_none}
use Rattle.character_runs.proofs.Standings.{some_same}

module _ (ps qs : List (ℕ × Stretch)) (t u : Labels) (own : ℕ) (was now : Stretch) (laid : AreLabelled ps t)
    (moves : Moves ps qs ((own, was) ∷ []) ((own, now) ∷ [])) (none : was.len ≡ 0) (one : now.len ≡ 1) (some : now.from ≡ Root → ⊥)
    (new : (l n : ℕ) → Stands ps l n now.from → ⊥) (sets : Sets t u now.from (Some own)) where
  bare : (l : ℕ) → label_of t now.from ≡ Some l → ⊥
  bare l e = let o = laid.only now.from l e in new l 0 (record { run = o.0; held = o.1; inside = o.3; node = node_on_none o.0.from ∙ o.2 })

  known_old : (l : ℕ) (r : Stretch) → In ps l r → 0 < r.len → (now.from ≡ r.from) ⊎ (node_eq now.from r.from ≡ false) → label_of u r.from ≡ Some l
  known_old l r h lt (inl e) = absurd (bare l (ap (label_of t) e ∙ laid.known l r h lt))
  known_old l r h lt (inr e) = set_other t u now.from (Some own) sets r.from e ∙ laid.known l r h lt

  known_by : (l : ℕ) (r : Stretch) → In ((own, now) ∷ []) l r ⊎ In ps l r → 0 < r.len → label_of u r.from ≡ Some l
  known_by l r (inr h) lt = known_old l r h lt (alike now.from r.from)
  known_by l r (inl h) lt =
      let is = in_one (l, r) (own, now) h in
      ap (λ (q : Stretch). label_of u q.from) (run_is (l, r) (own, now) is) ∙ set_own t u now.from (Some own) sets ∙ ap (λ (k : ℕ). Some k) (sym (label_is (l, r) (own, now) is))

  abbrev Has : Node → ℕ → Type 0
  Has w l = (r : Stretch) × In qs l r × (r.from ≡ w) × (0 < r.len)

  only_old : (w : Node) (l : ℕ) (r : Stretch) → In ((own, was) ∷ []) l r ⊎ In qs l r → r.from ≡ w → 0 < r.len → Has w l
  only_old w l r (inr h) e lt = (r, h, e, lt)
  only_old w l r (inl h) e lt = let long = ap (λ (q : Stretch). q.len) (run_is (l, r) (own, was) (in_one (l, r) (own, was) h)) in absurd (omega (arith, lt, long, none))

  only_by : (w : Node) (l : ℕ) → label_of u w ≡ Some l → (now.from ≡ w) ⊎ (node_eq now.from w ≡ false) → Has w l
  only_by w l e (inl same) =
      let is : own ≡ l = some_same own l (sym (set_own t u now.from (Some own) sets) ∙ ap (label_of u) same ∙ e) in
      (now, subst (λ (k : ℕ). Contains qs (k, now)) is (moves.come (own, now) (is_first (own, now) [])), same, omega (arith, one))
  only_by w l e (inr other) =
      let o = laid.only w l (sym (set_other t u now.from (Some own) sets w other) ∙ e) in
      only_old w l o.0 (moves.kept (l, o.0) o.1) o.2 o.3

  apart_old : (w : Node) (o l k : ℕ) → label_of u w ≡ Some o → Stands ps l k w → (now.from ≡ w) ⊎ (node_eq now.from w ≡ false) → k ≡ 0
  apart_old w o l k e s (inl same) = absurd (new l k (subst (λ (x : Node). Stands ps l k x) (sym same) s))
  apart_old w o l k e s (inr other) = laid.apart w o l k (sym (set_other t u now.from (Some own) sets w other) ∙ e) s

  apart_by : (w : Node) (o l k : ℕ) (r : Stretch) → label_of u w ≡ Some o → k < r.len → node_on r.from k ≡ w → In ((own, now) ∷ []) l r ⊎ In ps l r → k ≡ 0
  apart_by w o l k r e lt node (inl h) = let long = ap (λ (q : Stretch). q.len) (run_is (l, r) (own, now) (in_one (l, r) (own, now) h)) in omega (arith, lt, long, one)
  apart_by w o l k r e lt node (inr h) = apart_old w o l k e (record { run = r; held = h; inside = lt; node = node }) (alike now.from w)

  rooted_by : (l : ℕ) (r : Stretch) → In ((own, now) ∷ []) l r ⊎ In ps l r → r.from ≡ Root → ⊥
  rooted_by l r (inr h) e = laid.rooted l r h e
  rooted_by l r (inl h) e = some (ap (λ (q : Stretch). q.from) (sym (run_is (l, r) (own, now) (in_one (l, r) (own, now) h))) ∙ e)

  pub new_laid : AreLabelled qs u
  new_laid = record {
    known = λ l r h lt. known_by l r (moves.each (l, r) h) lt;
    only = λ w l e. only_by w l e (alike now.from w);
    apart = λ w o l k e s. apart_by w o l k s.run e s.inside s.node (moves.each (l, s.run) s.held);
    rooted = λ l r h. rooted_by l r (moves.each (l, r) h);
  }
