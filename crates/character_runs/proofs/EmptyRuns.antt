-- Labels after a run without characters came in.
use Rattle.std.proofs.Common.{◌≡◌, ℕ, ◌<◌, ◌⊎◌, List, [], ◌∷◌, sym, ap, ◌∙◌, arith, inl, inr}
use Rattle.ew_model.specs.declared.node.Node.TheVariants.{Root}
use Rattle.walker_record.specs.Stretches.{Stretch}
use Rattle.character_runs.specs.declared.labels.Labels.{Labels}
use Rattle.character_runs.specs.Laid.{AreLabelled}
use Rattle.character_runs.proofs.Moves.{Moves, in_one}
use Rattle.character_runs.proofs.CutRuns.{In, run_is}

module _ (ps qs : List (ℕ × Stretch)) (t : Labels) (own : ℕ) (now : Stretch) (laid : AreLabelled ps t)
    (moves : Moves ps qs [] ((own, now) ∷ [])) (none : now.len ≡ 0) (some : now.from ≡ Root → ⊥) where
  known_by : (l : ℕ) (r : Stretch) → In ((own, now) ∷ []) l r ⊎ In ps l r → 0 < r.len → In ps l r
  known_by l r (inr h) lt = h
  known_by l r (inl h) lt = let long = ap (λ (q : Stretch). q.len) (run_is (l, r) (own, now) (in_one (l, r) (own, now) h)) in absurd (omega (arith, lt, long, none))

  rooted_by : (l : ℕ) (r : Stretch) → In ((own, now) ∷ []) l r ⊎ In ps l r → r.from ≡ Root → ⊥
  rooted_by l r (inr h) e = laid.rooted l r h e
  rooted_by l r (inl h) e = some (ap (λ (q : Stretch). q.from) (sym (run_is (l, r) (own, now) (in_one (l, r) (own, now) h))) ∙ e)

  still : (l : ℕ) (r : Stretch) → In [] l r ⊎ In qs l r → In qs l r
  still l r (inr h) = h
  still l r (inl h) = let lt = h.1 in absurd (omega (arith, lt))

  pub empty_laid : AreLabelled qs t
  empty_laid = record {
    known = λ l r h lt. laid.known l r (known_by l r (moves.each (l, r) h) lt) lt;
    only = λ w l e. let o = laid.only w l e in (o.0, still l o.0 (moves.kept (l, o.0) o.1), o.2, o.3);
    apart = λ w o l k e s. let lt = s.inside in laid.apart w o l k e (record { run = s.run; held = known_by l s.run (moves.each (l, s.run) s.held) (omega (arith, lt)); inside = s.inside; node = s.node });
    rooted = λ l r h. rooted_by l r (moves.each (l, r) h);
  }
