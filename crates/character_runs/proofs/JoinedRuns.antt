-- Labels after a run got one more character.
use Rattle.std.proofs.Common.{◌≡◌, ℕ, ◌+◌, ◌<◌, ◌⊎◌, nat_lt, Bool, true, false, List, [], ◌∷◌, Some, Contains, refl, sym, ap, ◌∙◌, subst, arith, inl, inr}
use Rattle.ew_model.specs.declared.node.Node.{Node}
use Rattle.ew_model.specs.declared.node.Node.TheVariants.{Root}
use Rattle.walker_record.specs.Stretches.{Stretch, node_on}
use Rattle.character_runs.specs.declared.labels.Labels.{Labels}
use Rattle.character_runs.specs.Labelled.{label_of}
use Rattle.character_runs.specs.Laid.{Stands, AreLabelled}
use Rattle.character_runs.proofs.Moves.{Moves, in_one, is_first}
use Rattle.character_runs.proofs.CutRuns.{In, label_is, run_is}
use Rattle.character_runs.proofs.RunChars.{node_on_none}

module _ (ps qs : List (ℕ × Stretch)) (t : Labels) (label : ℕ) (was now : Stretch) (laid : AreLabelled ps t) (held : Contains ps (label, was))
    (moves : Moves ps qs ((label, was) ∷ []) ((label, now) ∷ [])) (from : now.from ≡ was.from) (some : 0 < was.len) (len : now.len ≡ was.len + 1)
    (new : (l n : ℕ) → Stands ps l n (node_on was.from was.len) → ⊥) where
  known_by : (l : ℕ) (r : Stretch) → In ((label, now) ∷ []) l r ⊎ In ps l r → 0 < r.len → label_of t r.from ≡ Some l
  known_by l r (inr h) lt = laid.known l r h lt
  known_by l r (inl h) lt =
      let is = in_one (l, r) (label, now) h in
      ap (λ (q : Stretch). label_of t q.from) (run_is (l, r) (label, now) is) ∙ ap (label_of t) from ∙ laid.known label was held some ∙ ap (λ (k : ℕ). Some k) (sym (label_is (l, r) (label, now) is))

  abbrev Has : Node → ℕ → Type 0
  Has w l = (r : Stretch) × In qs l r × (r.from ≡ w) × (0 < r.len)

  only_by : (w : Node) (l : ℕ) (r : Stretch) → In ((label, was) ∷ []) l r ⊎ In qs l r → r.from ≡ w → 0 < r.len → Has w l
  only_by w l r (inr h) e lt = (r, h, e, lt)
  only_by w l r (inl h) e lt =
      let is = in_one (l, r) (label, was) h in
      let there : Contains qs (l, now) = subst (λ (k : ℕ). Contains qs (k, now)) (sym (label_is (l, r) (label, was) is)) (moves.come (label, now) (is_first (label, now) [])) in
      (now, there, from ∙ ap (λ (q : Stretch). q.from) (sym (run_is (l, r) (label, was) is)) ∙ e, omega (arith, len))

  bare : (w : Node) (o : ℕ) → label_of t w ≡ Some o → node_on was.from was.len ≡ w → ⊥
  bare w o e same =
      let h = laid.only w o e in
      new o 0 (record { run = h.0; held = h.1; inside = h.3; node = node_on_none h.0.from ∙ h.2 ∙ sym same })

  apart_now : (w : Node) (o k : ℕ) → label_of t w ≡ Some o → k < was.len + 1 → node_on was.from k ≡ w → (b : Bool) → nat_lt k was.len ≡ b → k ≡ 0
  apart_now w o k e lt node true less = laid.apart w o label k e (record { run = was; held = held; inside = is_less less; node = node })
    where
      is_less : nat_lt k was.len ≡ true → k < was.len
      is_less h = grind arith
  apart_now w o k e lt node false more = let last : was.len ≡ k = is_last more in absurd (bare w o e (ap (node_on was.from) last ∙ node))
    where
      is_last : nat_lt k was.len ≡ false → was.len ≡ k
      is_last h = grind arith

  apart_by : (w : Node) (o l k : ℕ) (r : Stretch) → label_of t w ≡ Some o → k < r.len → node_on r.from k ≡ w → In ((label, now) ∷ []) l r ⊎ In ps l r → k ≡ 0
  apart_by w o l k r e lt node (inr h) = laid.apart w o l k e (record { run = r; held = h; inside = lt; node = node })
  apart_by w o l k r e lt node (inl h) =
      let same : r ≡ now = run_is (l, r) (label, now) (in_one (l, r) (label, now) h) in
      let long : r.len ≡ now.len = ap (λ (q : Stretch). q.len) same in
      apart_now w o k e (omega (arith, lt, long, len)) (ap (λ (v : Node). node_on v k) (sym from) ∙ ap (λ (q : Stretch). node_on q.from k) (sym same) ∙ node) (nat_lt k was.len) refl

  rooted_by : (l : ℕ) (r : Stretch) → In ((label, now) ∷ []) l r ⊎ In ps l r → r.from ≡ Root → ⊥
  rooted_by l r (inr h) e = laid.rooted l r h e
  rooted_by l r (inl h) e = laid.rooted label was held (sym from ∙ ap (λ (q : Stretch). q.from) (sym (run_is (l, r) (label, now) (in_one (l, r) (label, now) h))) ∙ e)

  pub joined_laid : AreLabelled qs t
  joined_laid = record {
    known = λ l r h lt. known_by l r (moves.each (l, r) h) lt;
    only = λ w l e. let o = laid.only w l e in only_by w l o.0 (moves.kept (l, o.0) o.1) o.2 o.3;
    apart = λ w o l k e s. apart_by w o l k s.run e s.inside s.node (moves.each (l, s.run) s.held);
    rooted = λ l r h. rooted_by l r (moves.each (l, r) h);
  }
