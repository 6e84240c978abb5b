-- What a good history is known to be, and the law of equal sets for good histories.
use Rattle.std.proofs.Common.{◌≡◌, Bool, true, false, not, List, [], ◌∷◌, ◌++◌, Option, Some, None, option_map, length, refl, sym, ap, ◌∙◌, append-nil, ◌≤◌, length}
use Rattle.std.specs.List.{AllByRecursion}
use Rattle.std.specs.Bool.{then_some}
use Rattle.std.specs.Cmp.{eq_by_cmp_equiv}
use Rattle.std.proofs.lemmas.Bool.{false≢true, false_from_ne_true, not-false, ltb-false}
use Rattle.ew_model.specs.declared.id.Id.{Id}
use Rattle.ew_model.specs.declared.event.Event.{Event}
use Rattle.ew_model.specs.Ids.{id_eq, is_among, ids_ascend}
use Rattle.ew_model.specs.Ancestors.{ids_of, is_held}
use Rattle.std.proofs.lemmas.Map.Steps.{list_any_congr}
use Rattle.ew_model.specs.Tree.{tree}
use Rattle.ew_model.specs.Texts.{text_at}
use Rattle.ew_model.proofs.OperationLaws.{text_of_operations}
use Rattle.ew_model.specs.TextLaws.{EqualSetsAgree, OperationsMakeText}
use Rattle.ew_model.specs.Verdicts.{Ruling, first_row, id_rows, parent_rows, range_rows, next_verdict, IsGoodAfter, IsGood, follows_its_agent, is_outside}
use Rattle.ew_model.specs.Ancestors.{is_reduced}
use Rattle.ew_model.specs.Verdicts.Ruling.{Repeat, Clash, SelfParent, TooManyParents, ParentsUnsorted, Unknown, NotReduced, Skipped, OutOfRange, Good}
use Rattle.ew_model.proofs.PathOrder.{id_total}
use Rattle.ew_model.proofs.SortingLaws.{all_at}
use Rattle.ew_model.proofs.VersionLaws.{found_by, find_none}
use Rattle.ew_model.proofs.EntryLaws.{LaidOut, NoneHeld, none_held, none_held_less}
use Rattle.ew_model.proofs.EqualSets.{same_tree, same_text_at, same_text_of}

-- a row doesn't say Good
not_good : (b : Bool) (r : Ruling) → (r ≡ Good → ⊥) → then_some b r ≡ Some Good → ⊥
not_good true r n e = n cc
not_good false r n e = cc

unknown_not_good : (o : Option Id) → option_map Unknown o ≡ Some Good → ⊥
unknown_not_good None e = cc
unknown_not_good (Some p) e = cc

-- where the first row that holds is Good, none holds
rows_none : (rows : List (Option Ruling)) → AllByRecursion (λ r. r ≡ Some Good → ⊥) rows → first_row rows ≡ Good → AllByRecursion (λ r. r ≡ None) rows
rows_none [] n e = tt
rows_none (None ∷ rows) n e = (refl, rows_none rows n.1 e)
rows_none (Some r ∷ rows) n e = absurd (n.0 (ap Some e))

is_off : (b : Bool) (r : Ruling) → then_some b r ≡ None → b ≡ false
is_off true r e = cc
is_off false r e = refl

is_nowhere : (o : Option Id) → option_map Unknown o ≡ None → o ≡ None
is_nowhere None e = refl
is_nowhere (Some p) e = cc

-- what the rows say of an event that is good
pub record IsNext (held : List Event) (e : Event) : Type 0 where
  pub new : is_held held e.id ≡ false
  pub parents : AllByRecursion (λ p. is_held held p ≡ true) e.parents
  pub few : length e.parents ≤ 16
  pub ascend : ids_ascend e.parents ≡ true
  pub reduced : is_reduced held e.parents ≡ true
  pub follows : follows_its_agent held e ≡ true
  pub range : is_outside (length (text_at held e.parents)) e.op ≡ false

pub held_from : (held : List Event) (ps : List Id) → AllByRecursion (λ p. not (is_held held p) ≡ false) ps → AllByRecursion (λ p. is_held held p ≡ true) ps
held_from held [] h = tt
held_from held (p ∷ ps) h = (not-false (is_held held p) h.0, held_from held ps h.1)

pub next_from_good : (held : List Event) (e : Event) → next_verdict held e ≡ Good → IsNext held e
unfolding next_verdict id_rows parent_rows range_rows
next_from_good held e good =
    let none : AllByRecursion (λ r. r ≡ None) (id_rows held [] e ++ parent_rows held e ++ range_rows held e) =
    rows_none (id_rows held [] e ++ parent_rows held e ++ range_rows held e) (
      not_good _ Repeat (λ q. cc),
      (
        not_good _ Clash (λ q. cc),
        (
          not_good _ SelfParent (λ q. cc),
          (
            not_good _ TooManyParents (λ q. cc),
            (
              not_good _ ParentsUnsorted (λ q. cc),
              (unknown_not_good _, (not_good _ NotReduced (λ q. cc), (not_good _ Skipped (λ q. cc), (not_good _ (OutOfRange _) (λ q. cc), tt)))),
            ),
          ),
        ),
      ),
    )
    good in
    record {
      new = ap (λ (l : List Event). is_held l e.id) (sym (append-nil held)) ∙ is_off _ Clash none.1.0;
      parents = held_from held e.parents (find_none (λ p. not (is_held held p)) e.parents (is_nowhere _ none.1.1.1.1.1.0));
      few = ltb-false 16 (length e.parents) (is_off _ TooManyParents none.1.1.1.0);
      ascend = not-false (ids_ascend e.parents) (is_off _ ParentsUnsorted none.1.1.1.1.0);
      reduced = not-false (is_reduced held e.parents) (is_off _ NotReduced none.1.1.1.1.1.1.0);
      follows = not-false (follows_its_agent held e) (is_off _ Skipped none.1.1.1.1.1.1.1.0);
      range = is_off _ (OutOfRange _) none.1.1.1.1.1.1.1.1.0;
    }

-- ids that are equal are held alike
held_alike : (held : List Event) (x y : Id) → id_eq x y ≡ true → is_held held x ≡ is_held held y
held_alike held x y e = list_any_congr (eq_by_cmp_equiv id_total) x y (ids_of held) e

-- an id that isn't held is no parent, where all parents are held
pub no_parent : (held : List Event) (parents : List Id) (x : Id) → AllByRecursion (λ p. is_held held p ≡ true) parents → is_held held x ≡ false → is_among parents x ≡ false
no_parent held parents x h n =
    false_from_ne_true (is_among parents x) (λ e.
    let found = found_by (id_eq x) parents e in
    false≢true (sym n ∙ (held_alike held x found.0 found.2 ∙ all_at (λ p. is_held held p ≡ true) parents found.0 h found.1)))

no_parents : (held : List Event) (parents : List Id) (events : List Event) → AllByRecursion (λ p. is_held held p ≡ true) parents → NoneHeld held events → AllByRecursion (λ f. is_among parents f.id ≡ false) events
no_parents held parents [] h n = tt
no_parents held parents (f ∷ events) h n = (no_parent held parents f.id h n.0, no_parents held parents events h n.1)

-- a good history is laid out
pub laid_out : (before later : List Event) → IsGoodAfter before later → LaidOut before later
laid_out before [] h = tt
laid_out before (e ∷ later) h =
    let next = next_from_good before e h.0 in
    let rest = laid_out (before ++ e ∷ []) later h.1 in
    (next.new, no_parents before e.parents (e ∷ later) next.parents (next.new, none_held_less before e later (none_held (before ++ e ∷ []) later rest)), rest)

pub good_laid_out : (history : List Event) → IsGood history → LaidOut [] history
unfolding IsGood
good_laid_out history h = laid_out [] history h

-- The law of equal sets.
pub equal_sets_agree : EqualSetsAgree
unfolding tree
equal_sets_agree xs ys h k s =
    let hx = good_laid_out xs h in
    let hy = good_laid_out ys k in
    record { entries = same_tree xs ys hx hy s; versions = λ version. same_text_at xs ys version hx hy s; whole = same_text_of xs ys hx hy s }

-- The law of operations.
pub operations_make_text : OperationsMakeText
operations_make_text history h = text_of_operations history (good_laid_out history h)
