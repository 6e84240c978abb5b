use Rattle.std.proofs.Common.{◌≡◌, ℕ, ◌<◌, ◌≤◌, Bool, true, false, nat_eq, nat_le, List, refl, sym, ◌∙◌}
use Rattle.std.proofs.lemmas.Bool.{false≢true, leb-true, leb-false, or_parts}
use Rattle.ew_model.specs.Graph.{is_named}
use Rattle.ancestors.specs.Sides.{is_on}
use Rattle.ancestors.proofs.sides.Sides.take.Goals as goal

-- where nothing above it is on a side, nothing above it is in either of its lists
below : (alone both : List ℕ) (lv : ℕ) → ((q : ℕ) → lv < q → is_on alone both q ≡ false) → (q : ℕ) → (is_named nat_eq alone q ≡ true → q ≤ lv) × (is_named nat_eq both q ≡ true → q ≤ lv)
below alone both lv above q = at (nat_le q lv) refl
  where
    at : (b : Bool) → nat_le q lv ≡ b → (is_named nat_eq alone q ≡ true → q ≤ lv) × (is_named nat_eq both q ≡ true → q ≤ lv)
    at true l = (λ e. leb-true q lv l, λ e. leb-true q lv l)
    at false l =
        let none = or_parts (is_named nat_eq alone q) (is_named nat_eq both q) (above q (leb-false q lv l)) in
        (λ e. absurd (false≢true (sym none.0 ∙ e)), λ e. absurd (false≢true (sym none.1 ∙ e)))

pub strike-left-requires : goal.strike-left-requires
strike-left-requires c q = (below c.args.self.now.left c.args.self.now.both c.args.lv c.requires.left_above q).0

pub strike-right-requires : goal.strike-right-requires
strike-right-requires c q = (below c.args.self.now.right c.args.self.now.both c.args.lv c.requires.right_above q).0

pub strike-both-requires : goal.strike-both-requires
strike-both-requires c q = (below c.args.self.now.left c.args.self.now.both c.args.lv c.requires.left_above q).1
