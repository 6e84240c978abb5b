-- An event on all heads is the only head.
use Rattle.std.proofs.Common.{◌≡◌, ℕ, true, not, cond, List, [], ◌∷◌, ◌++◌, length, filter, nat_eq, refl, ap, subst, ◌∙◌, append_assoc}
use Rattle.std.specs.List.{list_any, AllByRecursion}
use Rattle.std.proofs.lemmas.Bool.{or_left, or_right, eq-eqb}
use Rattle.std.proofs.lemmas.List.Folds.{list_any-append}
use Rattle.ew_model.specs.Graph.{is_named}
use Rattle.ew_model.specs.Positions.{AreParents, IsHistoryOfParents, frontier_of}
use Rattle.ew_model.proofs.PositionFrontier.{frontier_push}

none_left : (named heads : List ℕ) → AllByRecursion (λ h. is_named nat_eq named h ≡ true) heads → filter (λ h. not (is_named nat_eq named h)) heads ≡ []
none_left named [] all = refl
none_left named (h ∷ heads) all =
    let rest = filter (λ k. not (is_named nat_eq named k)) heads in
    ap (λ b. cond (not b) (h ∷ rest) rest) all.0 ∙ none_left named heads all.1

all_named : (before heads : List ℕ) → AllByRecursion (λ h. is_named nat_eq (before ++ heads) h ≡ true) heads
all_named before [] = tt
all_named before (h ∷ heads) = (
  list_any-append (nat_eq h) before (h ∷ heads) ∙ or_right (list_any (nat_eq h) before) (list_any (nat_eq h) (h ∷ heads)) (or_left (nat_eq h h) (list_any (nat_eq h) heads) (eq-eqb h h refl)),
  subst (λ (named : List ℕ). AllByRecursion (λ k. is_named nat_eq named k ≡ true) heads) (append_assoc before (h ∷ []) heads) (all_named (before ++ h ∷ []) heads),
)

pub one_head : (history : List (List ℕ)) (parents : List ℕ) → IsHistoryOfParents history → AreParents (length history) parents → frontier_of history ≡ parents → frontier_of (history ++ parents ∷ []) ≡ length history ∷ []
one_head history parents h p all =
    frontier_push history parents h p
    ∙ ap (λ heads. filter (λ k. not (is_named nat_eq parents k)) heads ++ length history ∷ []) all
    ∙ ap (λ none. none ++ length history ∷ []) (none_left parents parents (all_named [] parents))
