use Rattle.std.proofs.Common.{◌≡◌, ℕ, ◌+◌, ◌<◌, Bool, true, false, ◌&&◌, ◌||◌, nat_eq, List, [], ◌∷◌, length, take, slice_index_or, refl, sym, ap, ◌∙◌}
use Rattle.std.proofs.lemmas.List.{take_more}
use Rattle.std.proofs.lemmas.List.Folds.{list_any-append}
use Rattle.ew_model.specs.Graph.{is_named}
use Rattle.ancestors.specs.Sides.{has_left, has_right, on_left, on_right}
use Rattle.ancestors.proofs.sides.Sides.put_all.Goals as goal

regrouped : (a side b c : Bool) → ((a || (side && b)) || (side && c)) ≡ (a || (side && (b || (c || false))))
regrouped true side b c = refl
regrouped false false b c = refl
regrouped false true true c = refl
regrouped false true false true = refl
regrouped false true false false = refl

put_next : (old mid new : ℕ → Bool) (side : Bool) (positions : List ℕ) (place : ℕ) → place < length positions → ((q : ℕ) → mid q ≡ (old q || (side && is_named nat_eq (take place positions) q)))
    → ((q : ℕ) → new q ≡ (mid q || (side && nat_eq q (slice_index_or positions place 0)))) → (q : ℕ) → new q ≡ (old q || (side && is_named nat_eq (take (place + 1) positions) q))
put_next old mid new side positions place l before put q =
    let x = slice_index_or positions place 0 in
    put q
    ∙ ap (λ b. b || (side && nat_eq q x)) (before q)
    ∙ regrouped (old q) side (is_named nat_eq (take place positions) q) (nat_eq q x)
    ∙ ap (λ b. old q || (side && b)) (sym (ap (λ ps. is_named nat_eq ps q) (take_more positions place 0 l) ∙ list_any-append (nat_eq q) (take place positions) (x ∷ [])))

pub loop-position-preserved : goal.loop-position-preserved
loop-position-preserved c = (
  put_next (on_left c.args.self.now) (on_left c.loop-position.self) (on_left c.put.new.self) (has_left c.args.side) c.args.positions.now c.loop-position.position-index c.loop-position-test.true c.loop-position.invariant.0 c.in_ok-put.ensures.left,
  put_next (on_right c.args.self.now) (on_right c.loop-position.self) (on_right c.put.new.self) (has_right c.args.side) c.args.positions.now c.loop-position.position-index c.loop-position-test.true c.loop-position.invariant.1 c.in_ok-put.ensures.right,
)
