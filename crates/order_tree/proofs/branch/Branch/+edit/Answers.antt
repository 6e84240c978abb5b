use Rattle.std.proofs.Common.{◌≡◌, ℕ, ◌+◌, ◌<◌, List, length, slice_index_or, arith, refl, sym, ap, ◌∙◌, subst}
use Rattle.std.proofs.lemmas.List.{length-set}
use Rattle.order_tree.specs.declared.summary.Summary.{Summary}
use Rattle.order_tree.specs.Pairs.{Tree, IsRising}
use Rattle.order_tree.specs.Parts.{summary_of, all_pairs}
use Rattle.order_tree.specs.Shape.{pairs_in, AllBelow}
use Rattle.order_tree.specs.Edits.{IsPlaced, IsFree, StaysFit}
use Rattle.order_tree.specs.Rights.{IsLeft}
use Rattle.order_tree.proofs.KidLaws.{kid_lower, deep_inner}
use Rattle.order_tree.proofs.KidPlaces.{part_rises}
use Rattle.order_tree.proofs.InnerEdits.{placed_down, label_down, fits_down, edited_up, below_up, edited_fits, edited_moved}
use Rattle.order_tree.proofs.BranchEdits.{below_above, if_ok, on_err, same_tree, set_same, is_deep}
use Rattle.order_tree.proofs.branch.Branch.+edit.Goals as goal

pub edit_entries-requires-clause-some : goal.edit_entries-requires-clause-some
edit_entries-requires-clause-some g t c =
    let here : c.args.self.now.pairs ≡ c.in-Leaf.entries.items = sym (ap (λ (s : Tree _). s.pairs) c.self.view_is) ∙ ap pairs_in c.in-Leaf.is in
    let shape = rw c.in-Leaf.is at c.self.invariant.shape in
    let kept = rw c.in-Leaf.is at c.self.invariant.kept in
    let deep : c.args.self.now.depth ≡ 1 = sym (ap (λ (s : Tree _). s.depth) c.self.view_is) ∙ shape.0 in
    shape.1

pub edit_entries-requires-clause-few : goal.edit_entries-requires-clause-few
edit_entries-requires-clause-few g t c =
    let here : c.args.self.now.pairs ≡ c.in-Leaf.entries.items = sym (ap (λ (s : Tree _). s.pairs) c.self.view_is) ∙ ap pairs_in c.in-Leaf.is in
    let shape = rw c.in-Leaf.is at c.self.invariant.shape in
    let kept = rw c.in-Leaf.is at c.self.invariant.kept in
    let deep : c.args.self.now.depth ≡ 1 = sym (ap (λ (s : Tree _). s.depth) c.self.view_is) ∙ shape.0 in
    shape.2

pub edit_entries-requires-clause-room : goal.edit_entries-requires-clause-room
edit_entries-requires-clause-room g t c =
    let here : c.args.self.now.pairs ≡ c.in-Leaf.entries.items = sym (ap (λ (s : Tree _). s.pairs) c.self.view_is) ∙ ap pairs_in c.in-Leaf.is in
    let shape = rw c.in-Leaf.is at c.self.invariant.shape in
    let kept = rw c.in-Leaf.is at c.self.invariant.kept in
    let deep : c.args.self.now.depth ≡ 1 = sym (ap (λ (s : Tree _). s.depth) c.self.view_is) ∙ shape.0 in
    shape.3

pub edit_entries-requires-clause-rising : goal.edit_entries-requires-clause-rising
edit_entries-requires-clause-rising g t c =
    let here : c.args.self.now.pairs ≡ c.in-Leaf.entries.items = sym (ap (λ (s : Tree _). s.pairs) c.self.view_is) ∙ ap pairs_in c.in-Leaf.is in
    let shape = rw c.in-Leaf.is at c.self.invariant.shape in
    let kept = rw c.in-Leaf.is at c.self.invariant.kept in
    let deep : c.args.self.now.depth ≡ 1 = sym (ap (λ (s : Tree _). s.depth) c.self.view_is) ∙ shape.0 in
    subst (λ (ps : List (ℕ × _)). IsRising ps) here c.requires.rising

pub edit_entries-requires-clause-placed : goal.edit_entries-requires-clause-placed
edit_entries-requires-clause-placed g t c =
    let here : c.args.self.now.pairs ≡ c.in-Leaf.entries.items = sym (ap (λ (s : Tree _). s.pairs) c.self.view_is) ∙ ap pairs_in c.in-Leaf.is in
    let shape = rw c.in-Leaf.is at c.self.invariant.shape in
    let kept = rw c.in-Leaf.is at c.self.invariant.kept in
    let deep : c.args.self.now.depth ≡ 1 = sym (ap (λ (s : Tree _). s.depth) c.self.view_is) ∙ shape.0 in
    subst (λ (ps : List (ℕ × _)). IsPlaced g.R.Run c.args.edit c.args.way.label ps) here c.requires.placed

pub edit_entries-requires-clause-label : goal.edit_entries-requires-clause-label
edit_entries-requires-clause-label g t c =
    let here : c.args.self.now.pairs ≡ c.in-Leaf.entries.items = sym (ap (λ (s : Tree _). s.pairs) c.self.view_is) ∙ ap pairs_in c.in-Leaf.is in
    let shape = rw c.in-Leaf.is at c.self.invariant.shape in
    let kept = rw c.in-Leaf.is at c.self.invariant.kept in
    let deep : c.args.self.now.depth ≡ 1 = sym (ap (λ (s : Tree _). s.depth) c.self.view_is) ∙ shape.0 in
    subst (λ (ps : List (ℕ × _)). IsFree c.args.edit (c.args.way.most + 1) ps c.args.way.label) here c.requires.label

pub edit_entries-requires-clause-fits : goal.edit_entries-requires-clause-fits
edit_entries-requires-clause-fits g t c =
    let here : c.args.self.now.pairs ≡ c.in-Leaf.entries.items = sym (ap (λ (s : Tree _). s.pairs) c.self.view_is) ∙ ap pairs_in c.in-Leaf.is in
    let shape = rw c.in-Leaf.is at c.self.invariant.shape in
    let kept = rw c.in-Leaf.is at c.self.invariant.kept in
    let deep : c.args.self.now.depth ≡ 1 = sym (ap (λ (s : Tree _). s.depth) c.self.view_is) ∙ shape.0 in
    subst (λ (ps : List (ℕ × _)). StaysFit g.R.Run c.args.edit c.args.way.label ps) here c.requires.fits

pub edit_entries-requires-clause-spares : goal.edit_entries-requires-clause-spares
edit_entries-requires-clause-spares g t c =
    c.requires.spares

pub edit_entries-requires-clause-kept : goal.edit_entries-requires-clause-kept
edit_entries-requires-clause-kept g t c =
    let here : c.args.self.now.pairs ≡ c.in-Leaf.entries.items = sym (ap (λ (s : Tree _). s.pairs) c.self.view_is) ∙ ap pairs_in c.in-Leaf.is in
    let shape = rw c.in-Leaf.is at c.self.invariant.shape in
    let kept = rw c.in-Leaf.is at c.self.invariant.kept in
    let deep : c.args.self.now.depth ≡ 1 = sym (ap (λ (s : Tree _). s.depth) c.self.view_is) ∙ shape.0 in
    ap (λ (s : Summary). s.sums) kept

pub invariant_of-self : goal.invariant_of-self
invariant_of-self g t c =
    let here : c.args.self.now.pairs ≡ c.in-Leaf.entries.items = sym (ap (λ (s : Tree _). s.pairs) c.self.view_is) ∙ ap pairs_in c.in-Leaf.is in
    let shape = rw c.in-Leaf.is at c.self.invariant.shape in
    let kept = rw c.in-Leaf.is at c.self.invariant.kept in
    let deep : c.args.self.now.depth ≡ 1 = sym (ap (λ (s : Tree _). s.depth) c.self.view_is) ∙ shape.0 in
    let err = c.in_err-summary-in-Leaf.ensures.err in
    record { shape = (shape.0, c.in_err-summary-in-Leaf.ensures.some, c.in_err-summary-in-Leaf.ensures.few, c.in_err-summary-in-Leaf.ensures.room); kept = kept ∙ ap (λ (ps : List (ℕ × _)). summary_of g.R.Run ps) (sym err) }

pub returns-in_err-summary-in-Leaf-clause-edited : goal.returns-in_err-summary-in-Leaf-clause-edited
returns-in_err-summary-in-Leaf-clause-edited g t c =
    if_ok c.from_residual.result _ c.from_residual.ensures.0

pub returns-in_err-summary-in-Leaf-clause-err : goal.returns-in_err-summary-in-Leaf-clause-err
returns-in_err-summary-in-Leaf-clause-err g t c =
    let here : c.args.self.now.pairs ≡ c.in-Leaf.entries.items = sym (ap (λ (s : Tree _). s.pairs) c.self.view_is) ∙ ap pairs_in c.in-Leaf.is in
    let shape = rw c.in-Leaf.is at c.self.invariant.shape in
    let kept = rw c.in-Leaf.is at c.self.invariant.kept in
    let deep : c.args.self.now.depth ≡ 1 = sym (ap (λ (s : Tree _). s.depth) c.self.view_is) ∙ shape.0 in
    let err = c.in_err-summary-in-Leaf.ensures.err in
    on_err c.from_residual.result _ c.from_residual.ensures.0 (same_tree _ c.args.self.now (err ∙ sym here) (ap (λ (s : Tree _). s.depth) c.self.view_is))

pub returns-in_err-summary-in-Leaf-clause-cost : goal.returns-in_err-summary-in-Leaf-clause-cost
returns-in_err-summary-in-Leaf-clause-cost g t c =
    let here : c.args.self.now.pairs ≡ c.in-Leaf.entries.items = sym (ap (λ (s : Tree _). s.pairs) c.self.view_is) ∙ ap pairs_in c.in-Leaf.is in
    let shape = rw c.in-Leaf.is at c.self.invariant.shape in
    let kept = rw c.in-Leaf.is at c.self.invariant.kept in
    let deep : c.args.self.now.depth ≡ 1 = sym (ap (λ (s : Tree _). s.depth) c.self.view_is) ∙ shape.0 in
    omega (arith, c.tick.ensures, deep)

pub invariant_of-self-in-Leaf : goal.invariant_of-self-in-Leaf
invariant_of-self-in-Leaf g t c =
    let here : c.args.self.now.pairs ≡ c.in-Leaf.entries.items = sym (ap (λ (s : Tree _). s.pairs) c.self.view_is) ∙ ap pairs_in c.in-Leaf.is in
    let shape = rw c.in-Leaf.is at c.self.invariant.shape in
    let kept = rw c.in-Leaf.is at c.self.invariant.kept in
    let deep : c.args.self.now.depth ≡ 1 = sym (ap (λ (s : Tree _). s.depth) c.self.view_is) ∙ shape.0 in
    record { shape = (shape.0, c.in_ok-summary-in-Leaf.ensures.some, c.in_ok-summary-in-Leaf.ensures.few, c.in_ok-summary-in-Leaf.ensures.room); kept = c.in_ok-summary-in-Leaf.ensures.summary }

pub way_down-k-requires-clause-below : goal.way_down-k-requires-clause-below
way_down-k-requires-clause-below g t c =
    let here : c.args.self.now.pairs ≡ all_pairs (λ k. k.pairs) c.in-Inner.kids.items = sym (ap (λ (s : Tree _). s.pairs) c.self.view_is) ∙ ap pairs_in c.in-Inner.is in
    let shape = rw c.in-Inner.is at c.self.invariant.shape in
    let kept = rw c.in-Inner.is at c.self.invariant.kept in
    let deep : c.args.self.now.depth ≡ c.self.inside.depth = sym (ap (λ (s : Tree _). s.depth) c.self.view_is) in
    let rising : IsRising (all_pairs (λ k. k.pairs) c.in-Inner.kids.items) = subst (λ (ps : List (ℕ × _)). IsRising ps) here c.requires.rising in
    rw c.as_slice.ensures.value shape.0

pub way_down-k-requires-clause-one : goal.way_down-k-requires-clause-one
way_down-k-requires-clause-one g t c =
    let here : c.args.self.now.pairs ≡ all_pairs (λ k. k.pairs) c.in-Inner.kids.items = sym (ap (λ (s : Tree _). s.pairs) c.self.view_is) ∙ ap pairs_in c.in-Inner.is in
    let shape = rw c.in-Inner.is at c.self.invariant.shape in
    let kept = rw c.in-Inner.is at c.self.invariant.kept in
    let deep : c.args.self.now.depth ≡ c.self.inside.depth = sym (ap (λ (s : Tree _). s.depth) c.self.view_is) in
    let rising : IsRising (all_pairs (λ k. k.pairs) c.in-Inner.kids.items) = subst (λ (ps : List (ℕ × _)). IsRising ps) here c.requires.rising in
    rw c.as_slice.ensures.value (omega (arith, shape.1))

pub way_down-k-requires-clause-rising : goal.way_down-k-requires-clause-rising
way_down-k-requires-clause-rising g t c =
    let here : c.args.self.now.pairs ≡ all_pairs (λ k. k.pairs) c.in-Inner.kids.items = sym (ap (λ (s : Tree _). s.pairs) c.self.view_is) ∙ ap pairs_in c.in-Inner.is in
    let shape = rw c.in-Inner.is at c.self.invariant.shape in
    let kept = rw c.in-Inner.is at c.self.invariant.kept in
    let deep : c.args.self.now.depth ≡ c.self.inside.depth = sym (ap (λ (s : Tree _). s.depth) c.self.view_is) in
    let rising : IsRising (all_pairs (λ k. k.pairs) c.in-Inner.kids.items) = subst (λ (ps : List (ℕ × _)). IsRising ps) here c.requires.rising in
    rw c.as_slice.ensures.value rising

pub way_down-k-requires-clause-above : goal.way_down-k-requires-clause-above
way_down-k-requires-clause-above g t c =
    let here : c.args.self.now.pairs ≡ all_pairs (λ k. k.pairs) c.in-Inner.kids.items = sym (ap (λ (s : Tree _). s.pairs) c.self.view_is) ∙ ap pairs_in c.in-Inner.is in
    let shape = rw c.in-Inner.is at c.self.invariant.shape in
    let kept = rw c.in-Inner.is at c.self.invariant.kept in
    let deep : c.args.self.now.depth ≡ c.self.inside.depth = sym (ap (λ (s : Tree _). s.depth) c.self.view_is) in
    let rising : IsRising (all_pairs (λ k. k.pairs) c.in-Inner.kids.items) = subst (λ (ps : List (ℕ × _)). IsRising ps) here c.requires.rising in
    omega (arith, c.requires.above, deep, is_deep c.self.inside.depth c.in-Inner.kids.items shape.0 (omega (arith, shape.1)))

pub edit-requires : goal.edit-requires
edit-requires g t c κs within =
    let here : c.args.self.now.pairs ≡ all_pairs (λ k. k.pairs) c.in-Inner.kids.items = sym (ap (λ (s : Tree _). s.pairs) c.self.view_is) ∙ ap pairs_in c.in-Inner.is in
    let shape = rw c.in-Inner.is at c.self.invariant.shape in
    let kept = rw c.in-Inner.is at c.self.invariant.kept in
    let deep : c.args.self.now.depth ≡ c.self.inside.depth = sym (ap (λ (s : Tree _). s.depth) c.self.view_is) in
    let rising : IsRising (all_pairs (λ k. k.pairs) c.in-Inner.kids.items) = subst (λ (ps : List (ℕ × _)). IsRising ps) here c.requires.rising in
    let kids = c.in-Inner.kids.items in
    let k = c.way_down-k.result.0 in
    let list = c.as_slice.ensures.value in
    let lt : k < length kids = rw list at c.way_down-k.ensures.within in
    let below = rw list at c.way_down-k.ensures.before in
    let above = rw list at c.way_down-k.ensures.behind in
    let free = rw list at c.way_down-k.ensures.most in
    let full = rw list at c.way_down-k.ensures.above in
    let kid = c.index_mut.result.now in
    let is : kid ≡ slice_index_or kids k kid = c.index_mut.ensures.value in
    let lower = kid_lower c.self.inside.depth kids k kid shape.0 lt is in
    let label = c.way_down-k.ensures.label in
    let above_fits = below_above (length kids) c.args.way.above c.way_down-k.result.1.above kid.depth c.self.inside.depth full lower (omega (arith, c.requires.above, deep)) in (
      omega (arith, c.decreases, lower, deep),
      (
        within.0,
        (
          within.1,
          (
            part_rises (λ t. t.pairs) kids k kid lt is rising,
            (
              rw label (placed_down g.R.Run kids k c.args.way.label (c.args.way.most + 1) (c.way_down-k.result.1.most + 1) kid lt is rising below above free c.args.edit (subst (λ (ps : List (ℕ × _)). IsPlaced g.R.Run c.args.edit c.args.way.label ps) here c.requires.placed)),
              (
                rw label (label_down g.R.Run kids k c.args.way.label (c.args.way.most + 1) (c.way_down-k.result.1.most + 1) kid lt is rising below above free c.args.edit (subst (λ (ps : List (ℕ × _)). IsFree c.args.edit (c.args.way.most + 1) ps c.args.way.label) here c.requires.label)),
                (
                  rw label (fits_down g.R.Run kids k c.args.way.label (c.args.way.most + 1) (c.way_down-k.result.1.most + 1) kid lt is rising below above free c.args.edit (subst (λ (ps : List (ℕ × _)). StaysFit g.R.Run c.args.edit c.args.way.label ps) here c.requires.fits)),
                  (c.requires.spares, above_fits),
                ),
              ),
            ),
          ),
        ),
      ),
    )

pub invariant_of-self-in_err-done-in-Inner : goal.invariant_of-self-in_err-done-in-Inner
invariant_of-self-in_err-done-in-Inner g t c =
    let here : c.args.self.now.pairs ≡ all_pairs (λ k. k.pairs) c.in-Inner.kids.items = sym (ap (λ (s : Tree _). s.pairs) c.self.view_is) ∙ ap pairs_in c.in-Inner.is in
    let shape = rw c.in-Inner.is at c.self.invariant.shape in
    let kept = rw c.in-Inner.is at c.self.invariant.kept in
    let deep : c.args.self.now.depth ≡ c.self.inside.depth = sym (ap (λ (s : Tree _). s.depth) c.self.view_is) in
    let rising : IsRising (all_pairs (λ k. k.pairs) c.in-Inner.kids.items) = subst (λ (ps : List (ℕ × _)). IsRising ps) here c.requires.rising in
    let kids = c.in-Inner.kids.items in
    let k = c.way_down-k.result.0 in
    let list = c.as_slice.ensures.value in
    let lt : k < length kids = rw list at c.way_down-k.ensures.within in
    let below = rw list at c.way_down-k.ensures.before in
    let above = rw list at c.way_down-k.ensures.behind in
    let free = rw list at c.way_down-k.ensures.most in
    let full = rw list at c.way_down-k.ensures.above in
    let kid = c.index_mut.result.now in
    let is : kid ≡ slice_index_or kids k kid = c.index_mut.ensures.value in
    let lower = kid_lower c.self.inside.depth kids k kid shape.0 lt is in
    let same = set_same kids k c.edit.new.self kid is c.in_err-done-in-Inner.ensures.err in
    let len = length-set c.in-Inner.kids.items c.way_down-k.result.0 c.edit.new.self in
    record {
      shape = (subst (λ (ks : List (Tree _)). AllBelow c.self.inside.depth ks) (sym same) shape.0, omega (arith, len, shape.1), omega (arith, len, shape.2), shape.3);
      kept = kept ∙ ap (λ (ks : List (Tree _)). summary_of g.R.Run (all_pairs (λ k. k.pairs) ks)) (sym same);
    }

pub returns-in_err-done-in-Inner-clause-edited : goal.returns-in_err-done-in-Inner-clause-edited
returns-in_err-done-in-Inner-clause-edited g t c =
    if_ok c.from_residual-in_err-done-in-Inner.result _ c.from_residual-in_err-done-in-Inner.ensures.0

pub returns-in_err-done-in-Inner-clause-err : goal.returns-in_err-done-in-Inner-clause-err
returns-in_err-done-in-Inner-clause-err g t c =
    let here : c.args.self.now.pairs ≡ all_pairs (λ k. k.pairs) c.in-Inner.kids.items = sym (ap (λ (s : Tree _). s.pairs) c.self.view_is) ∙ ap pairs_in c.in-Inner.is in
    let shape = rw c.in-Inner.is at c.self.invariant.shape in
    let kept = rw c.in-Inner.is at c.self.invariant.kept in
    let deep : c.args.self.now.depth ≡ c.self.inside.depth = sym (ap (λ (s : Tree _). s.depth) c.self.view_is) in
    let rising : IsRising (all_pairs (λ k. k.pairs) c.in-Inner.kids.items) = subst (λ (ps : List (ℕ × _)). IsRising ps) here c.requires.rising in
    let kids = c.in-Inner.kids.items in
    let k = c.way_down-k.result.0 in
    let list = c.as_slice.ensures.value in
    let lt : k < length kids = rw list at c.way_down-k.ensures.within in
    let below = rw list at c.way_down-k.ensures.before in
    let above = rw list at c.way_down-k.ensures.behind in
    let free = rw list at c.way_down-k.ensures.most in
    let full = rw list at c.way_down-k.ensures.above in
    let kid = c.index_mut.result.now in
    let is : kid ≡ slice_index_or kids k kid = c.index_mut.ensures.value in
    let lower = kid_lower c.self.inside.depth kids k kid shape.0 lt is in
    let same = set_same kids k c.edit.new.self kid is c.in_err-done-in-Inner.ensures.err in
    on_err c.from_residual-in_err-done-in-Inner.result _ c.from_residual-in_err-done-in-Inner.ensures.0 (same_tree _ c.args.self.now (ap (λ (ks : List (Tree _)). all_pairs (λ k. k.pairs) ks) same ∙ sym here) (ap (λ (s : Tree _). s.depth) c.self.view_is))

pub returns-in_err-done-in-Inner-clause-cost : goal.returns-in_err-done-in-Inner-clause-cost
returns-in_err-done-in-Inner-clause-cost g t c =
    let here : c.args.self.now.pairs ≡ all_pairs (λ k. k.pairs) c.in-Inner.kids.items = sym (ap (λ (s : Tree _). s.pairs) c.self.view_is) ∙ ap pairs_in c.in-Inner.is in
    let shape = rw c.in-Inner.is at c.self.invariant.shape in
    let kept = rw c.in-Inner.is at c.self.invariant.kept in
    let deep : c.args.self.now.depth ≡ c.self.inside.depth = sym (ap (λ (s : Tree _). s.depth) c.self.view_is) in
    let rising : IsRising (all_pairs (λ k. k.pairs) c.in-Inner.kids.items) = subst (λ (ps : List (ℕ × _)). IsRising ps) here c.requires.rising in
    let kids = c.in-Inner.kids.items in
    let k = c.way_down-k.result.0 in
    let list = c.as_slice.ensures.value in
    let lt : k < length kids = rw list at c.way_down-k.ensures.within in
    let below = rw list at c.way_down-k.ensures.before in
    let above = rw list at c.way_down-k.ensures.behind in
    let free = rw list at c.way_down-k.ensures.most in
    let full = rw list at c.way_down-k.ensures.above in
    let kid = c.index_mut.result.now in
    let is : kid ≡ slice_index_or kids k kid = c.index_mut.ensures.value in
    let lower = kid_lower c.self.inside.depth kids k kid shape.0 lt is in
    omega (arith, c.edit.ensures.cost, c.tick.ensures, lower, deep)

pub overflow_add-k : goal.overflow_add-k
overflow_add-k g t c =
    let here : c.args.self.now.pairs ≡ all_pairs (λ k. k.pairs) c.in-Inner.kids.items = sym (ap (λ (s : Tree _). s.pairs) c.self.view_is) ∙ ap pairs_in c.in-Inner.is in
    let shape = rw c.in-Inner.is at c.self.invariant.shape in
    let kept = rw c.in-Inner.is at c.self.invariant.kept in
    let deep : c.args.self.now.depth ≡ c.self.inside.depth = sym (ap (λ (s : Tree _). s.depth) c.self.view_is) in
    let rising : IsRising (all_pairs (λ k. k.pairs) c.in-Inner.kids.items) = subst (λ (ps : List (ℕ × _)). IsRising ps) here c.requires.rising in
    let kids = c.in-Inner.kids.items in
    let k = c.way_down-k.result.0 in
    let list = c.as_slice.ensures.value in
    let lt : k < length kids = rw list at c.way_down-k.ensures.within in
    let below = rw list at c.way_down-k.ensures.before in
    let above = rw list at c.way_down-k.ensures.behind in
    let free = rw list at c.way_down-k.ensures.most in
    let full = rw list at c.way_down-k.ensures.above in
    let kid = c.index_mut.result.now in
    let is : kid ≡ slice_index_or kids k kid = c.index_mut.ensures.value in
    let lower = kid_lower c.self.inside.depth kids k kid shape.0 lt is in
    omega (arith, lt, shape.2)

pub finish-done-requires-clause-at_most : goal.finish-done-requires-clause-at_most
finish-done-requires-clause-at_most g t c =
    let here : c.args.self.now.pairs ≡ all_pairs (λ k. k.pairs) c.in-Inner.kids.items = sym (ap (λ (s : Tree _). s.pairs) c.self.view_is) ∙ ap pairs_in c.in-Inner.is in
    let shape = rw c.in-Inner.is at c.self.invariant.shape in
    let kept = rw c.in-Inner.is at c.self.invariant.kept in
    let deep : c.args.self.now.depth ≡ c.self.inside.depth = sym (ap (λ (s : Tree _). s.depth) c.self.view_is) in
    let rising : IsRising (all_pairs (λ k. k.pairs) c.in-Inner.kids.items) = subst (λ (ps : List (ℕ × _)). IsRising ps) here c.requires.rising in
    let kids = c.in-Inner.kids.items in
    let k = c.way_down-k.result.0 in
    let list = c.as_slice.ensures.value in
    let lt : k < length kids = rw list at c.way_down-k.ensures.within in
    let below = rw list at c.way_down-k.ensures.before in
    let above = rw list at c.way_down-k.ensures.behind in
    let free = rw list at c.way_down-k.ensures.most in
    let full = rw list at c.way_down-k.ensures.above in
    let kid = c.index_mut.result.now in
    let is : kid ≡ slice_index_or kids k kid = c.index_mut.ensures.value in
    let lower = kid_lower c.self.inside.depth kids k kid shape.0 lt is in
    let len = length-set c.in-Inner.kids.items c.way_down-k.result.0 c.edit.new.self in
    omega (arith, len, lt)

pub finish-done-requires-clause-some : goal.finish-done-requires-clause-some
finish-done-requires-clause-some g t c =
    let here : c.args.self.now.pairs ≡ all_pairs (λ k. k.pairs) c.in-Inner.kids.items = sym (ap (λ (s : Tree _). s.pairs) c.self.view_is) ∙ ap pairs_in c.in-Inner.is in
    let shape = rw c.in-Inner.is at c.self.invariant.shape in
    let kept = rw c.in-Inner.is at c.self.invariant.kept in
    let deep : c.args.self.now.depth ≡ c.self.inside.depth = sym (ap (λ (s : Tree _). s.depth) c.self.view_is) in
    let rising : IsRising (all_pairs (λ k. k.pairs) c.in-Inner.kids.items) = subst (λ (ps : List (ℕ × _)). IsRising ps) here c.requires.rising in
    let kids = c.in-Inner.kids.items in
    let k = c.way_down-k.result.0 in
    let list = c.as_slice.ensures.value in
    let lt : k < length kids = rw list at c.way_down-k.ensures.within in
    let below = rw list at c.way_down-k.ensures.before in
    let above = rw list at c.way_down-k.ensures.behind in
    let free = rw list at c.way_down-k.ensures.most in
    let full = rw list at c.way_down-k.ensures.above in
    let kid = c.index_mut.result.now in
    let is : kid ≡ slice_index_or kids k kid = c.index_mut.ensures.value in
    let lower = kid_lower c.self.inside.depth kids k kid shape.0 lt is in
    let len = length-set c.in-Inner.kids.items c.way_down-k.result.0 c.edit.new.self in
    omega (arith, len, shape.1)

pub finish-done-requires-clause-few : goal.finish-done-requires-clause-few
finish-done-requires-clause-few g t c =
    let here : c.args.self.now.pairs ≡ all_pairs (λ k. k.pairs) c.in-Inner.kids.items = sym (ap (λ (s : Tree _). s.pairs) c.self.view_is) ∙ ap pairs_in c.in-Inner.is in
    let shape = rw c.in-Inner.is at c.self.invariant.shape in
    let kept = rw c.in-Inner.is at c.self.invariant.kept in
    let deep : c.args.self.now.depth ≡ c.self.inside.depth = sym (ap (λ (s : Tree _). s.depth) c.self.view_is) in
    let rising : IsRising (all_pairs (λ k. k.pairs) c.in-Inner.kids.items) = subst (λ (ps : List (ℕ × _)). IsRising ps) here c.requires.rising in
    let kids = c.in-Inner.kids.items in
    let k = c.way_down-k.result.0 in
    let list = c.as_slice.ensures.value in
    let lt : k < length kids = rw list at c.way_down-k.ensures.within in
    let below = rw list at c.way_down-k.ensures.before in
    let above = rw list at c.way_down-k.ensures.behind in
    let free = rw list at c.way_down-k.ensures.most in
    let full = rw list at c.way_down-k.ensures.above in
    let kid = c.index_mut.result.now in
    let is : kid ≡ slice_index_or kids k kid = c.index_mut.ensures.value in
    let lower = kid_lower c.self.inside.depth kids k kid shape.0 lt is in
    let len = length-set c.in-Inner.kids.items c.way_down-k.result.0 c.edit.new.self in
    omega (arith, len, shape.2)

pub finish-done-requires-clause-room : goal.finish-done-requires-clause-room
finish-done-requires-clause-room g t c =
    let here : c.args.self.now.pairs ≡ all_pairs (λ k. k.pairs) c.in-Inner.kids.items = sym (ap (λ (s : Tree _). s.pairs) c.self.view_is) ∙ ap pairs_in c.in-Inner.is in
    let shape = rw c.in-Inner.is at c.self.invariant.shape in
    let kept = rw c.in-Inner.is at c.self.invariant.kept in
    let deep : c.args.self.now.depth ≡ c.self.inside.depth = sym (ap (λ (s : Tree _). s.depth) c.self.view_is) in
    let rising : IsRising (all_pairs (λ k. k.pairs) c.in-Inner.kids.items) = subst (λ (ps : List (ℕ × _)). IsRising ps) here c.requires.rising in
    let kids = c.in-Inner.kids.items in
    let k = c.way_down-k.result.0 in
    let list = c.as_slice.ensures.value in
    let lt : k < length kids = rw list at c.way_down-k.ensures.within in
    let below = rw list at c.way_down-k.ensures.before in
    let above = rw list at c.way_down-k.ensures.behind in
    let free = rw list at c.way_down-k.ensures.most in
    let full = rw list at c.way_down-k.ensures.above in
    let kid = c.index_mut.result.now in
    let is : kid ≡ slice_index_or kids k kid = c.index_mut.ensures.value in
    let lower = kid_lower c.self.inside.depth kids k kid shape.0 lt is in
    shape.3

pub finish-done-requires-clause-spares : goal.finish-done-requires-clause-spares
finish-done-requires-clause-spares g t c =
    let here : c.args.self.now.pairs ≡ all_pairs (λ k. k.pairs) c.in-Inner.kids.items = sym (ap (λ (s : Tree _). s.pairs) c.self.view_is) ∙ ap pairs_in c.in-Inner.is in
    let shape = rw c.in-Inner.is at c.self.invariant.shape in
    let kept = rw c.in-Inner.is at c.self.invariant.kept in
    let deep : c.args.self.now.depth ≡ c.self.inside.depth = sym (ap (λ (s : Tree _). s.depth) c.self.view_is) in
    let rising : IsRising (all_pairs (λ k. k.pairs) c.in-Inner.kids.items) = subst (λ (ps : List (ℕ × _)). IsRising ps) here c.requires.rising in
    let kids = c.in-Inner.kids.items in
    let k = c.way_down-k.result.0 in
    let list = c.as_slice.ensures.value in
    let lt : k < length kids = rw list at c.way_down-k.ensures.within in
    let below = rw list at c.way_down-k.ensures.before in
    let above = rw list at c.way_down-k.ensures.behind in
    let free = rw list at c.way_down-k.ensures.most in
    let full = rw list at c.way_down-k.ensures.above in
    let kid = c.index_mut.result.now in
    let is : kid ≡ slice_index_or kids k kid = c.index_mut.ensures.value in
    let lower = kid_lower c.self.inside.depth kids k kid shape.0 lt is in
    let done = c.in_ok-done-in-Inner.ensures.edited in
    let edited = rw c.way_down-k.ensures.label at done.edited in
    let len = length-set c.in-Inner.kids.items c.way_down-k.result.0 c.edit.new.self in
    rw len (subst (λ (n : ℕ). IsLeft n c.in_ok-done-in-Inner.done.right c.edit.new.spares) full done.left)

pub finish-done-requires-clause-below : goal.finish-done-requires-clause-below
finish-done-requires-clause-below g t c =
    let here : c.args.self.now.pairs ≡ all_pairs (λ k. k.pairs) c.in-Inner.kids.items = sym (ap (λ (s : Tree _). s.pairs) c.self.view_is) ∙ ap pairs_in c.in-Inner.is in
    let shape = rw c.in-Inner.is at c.self.invariant.shape in
    let kept = rw c.in-Inner.is at c.self.invariant.kept in
    let deep : c.args.self.now.depth ≡ c.self.inside.depth = sym (ap (λ (s : Tree _). s.depth) c.self.view_is) in
    let rising : IsRising (all_pairs (λ k. k.pairs) c.in-Inner.kids.items) = subst (λ (ps : List (ℕ × _)). IsRising ps) here c.requires.rising in
    let kids = c.in-Inner.kids.items in
    let k = c.way_down-k.result.0 in
    let list = c.as_slice.ensures.value in
    let lt : k < length kids = rw list at c.way_down-k.ensures.within in
    let below = rw list at c.way_down-k.ensures.before in
    let above = rw list at c.way_down-k.ensures.behind in
    let free = rw list at c.way_down-k.ensures.most in
    let full = rw list at c.way_down-k.ensures.above in
    let kid = c.index_mut.result.now in
    let is : kid ≡ slice_index_or kids k kid = c.index_mut.ensures.value in
    let lower = kid_lower c.self.inside.depth kids k kid shape.0 lt is in
    let done = c.in_ok-done-in-Inner.ensures.edited in
    let edited = rw c.way_down-k.ensures.label at done.edited in
    below_up g.R.Run kids k c.args.way.label (c.args.way.most + 1) (c.way_down-k.result.1.most + 1) kid lt is rising below above free c.self.inside.depth c.edit.new.self c.in_ok-done-in-Inner.done.right _ refl shape.0 done.depth done.enough done.like

pub finish-done-requires-clause-fit : goal.finish-done-requires-clause-fit
finish-done-requires-clause-fit g t c =
    let here : c.args.self.now.pairs ≡ all_pairs (λ k. k.pairs) c.in-Inner.kids.items = sym (ap (λ (s : Tree _). s.pairs) c.self.view_is) ∙ ap pairs_in c.in-Inner.is in
    let shape = rw c.in-Inner.is at c.self.invariant.shape in
    let kept = rw c.in-Inner.is at c.self.invariant.kept in
    let deep : c.args.self.now.depth ≡ c.self.inside.depth = sym (ap (λ (s : Tree _). s.depth) c.self.view_is) in
    let rising : IsRising (all_pairs (λ k. k.pairs) c.in-Inner.kids.items) = subst (λ (ps : List (ℕ × _)). IsRising ps) here c.requires.rising in
    let kids = c.in-Inner.kids.items in
    let k = c.way_down-k.result.0 in
    let list = c.as_slice.ensures.value in
    let lt : k < length kids = rw list at c.way_down-k.ensures.within in
    let below = rw list at c.way_down-k.ensures.before in
    let above = rw list at c.way_down-k.ensures.behind in
    let free = rw list at c.way_down-k.ensures.most in
    let full = rw list at c.way_down-k.ensures.above in
    let kid = c.index_mut.result.now in
    let is : kid ≡ slice_index_or kids k kid = c.index_mut.ensures.value in
    let lower = kid_lower c.self.inside.depth kids k kid shape.0 lt is in
    let done = c.in_ok-done-in-Inner.ensures.edited in
    let edited = rw c.way_down-k.ensures.label at done.edited in
    edited_fits g.R.Run c.args.edit (c.args.way.most + 1) c.args.way.label _ _ _ _ _ (subst (λ (ps : List (ℕ × _)). StaysFit g.R.Run c.args.edit c.args.way.label ps) here c.requires.fits) (edited_up g.R.Run kids k c.args.way.label (c.args.way.most + 1) (c.way_down-k.result.1.most + 1) kid lt is rising below above free c.args.edit c.edit.new.self c.in_ok-done-in-Inner.done.right _ c.in_ok-done-in-Inner.done.own c.in_ok-done-in-Inner.done.lost c.in_ok-done-in-Inner.done.gained refl edited)

pub finish-done-requires-clause-moved : goal.finish-done-requires-clause-moved
finish-done-requires-clause-moved g t c =
    let here : c.args.self.now.pairs ≡ all_pairs (λ k. k.pairs) c.in-Inner.kids.items = sym (ap (λ (s : Tree _). s.pairs) c.self.view_is) ∙ ap pairs_in c.in-Inner.is in
    let shape = rw c.in-Inner.is at c.self.invariant.shape in
    let kept = rw c.in-Inner.is at c.self.invariant.kept in
    let deep : c.args.self.now.depth ≡ c.self.inside.depth = sym (ap (λ (s : Tree _). s.depth) c.self.view_is) in
    let rising : IsRising (all_pairs (λ k. k.pairs) c.in-Inner.kids.items) = subst (λ (ps : List (ℕ × _)). IsRising ps) here c.requires.rising in
    let kids = c.in-Inner.kids.items in
    let k = c.way_down-k.result.0 in
    let list = c.as_slice.ensures.value in
    let lt : k < length kids = rw list at c.way_down-k.ensures.within in
    let below = rw list at c.way_down-k.ensures.before in
    let above = rw list at c.way_down-k.ensures.behind in
    let free = rw list at c.way_down-k.ensures.most in
    let full = rw list at c.way_down-k.ensures.above in
    let kid = c.index_mut.result.now in
    let is : kid ≡ slice_index_or kids k kid = c.index_mut.ensures.value in
    let lower = kid_lower c.self.inside.depth kids k kid shape.0 lt is in
    let done = c.in_ok-done-in-Inner.ensures.edited in
    let edited = rw c.way_down-k.ensures.label at done.edited in
    edited_moved g.R.Run c.args.edit (c.args.way.most + 1) c.args.way.label _ _ _ _ _ c.self.inside.summary.sums (edited_up g.R.Run kids k c.args.way.label (c.args.way.most + 1) (c.way_down-k.result.1.most + 1) kid lt is rising below above free c.args.edit c.edit.new.self c.in_ok-done-in-Inner.done.right _ c.in_ok-done-in-Inner.done.own c.in_ok-done-in-Inner.done.lost c.in_ok-done-in-Inner.done.gained refl edited) (ap (λ (s : Summary). s.sums) kept)

pub invariant_of-self-in-Inner : goal.invariant_of-self-in-Inner
invariant_of-self-in-Inner g t c =
    let f = c.finish-done.ensures in
    record { shape = (f.below, f.some, f.few, f.room); kept = f.summary }

pub returns-in_ok-summary-in-Leaf-clause-edited : goal.returns-in_ok-summary-in-Leaf-clause-edited
returns-in_ok-summary-in-Leaf-clause-edited g t c =
    let here : c.args.self.now.pairs ≡ c.in-Leaf.entries.items = sym (ap (λ (s : Tree _). s.pairs) c.self.view_is) ∙ ap pairs_in c.in-Leaf.is in
    let shape = rw c.in-Leaf.is at c.self.invariant.shape in
    let kept = rw c.in-Leaf.is at c.self.invariant.kept in
    let deep : c.args.self.now.depth ≡ 1 = sym (ap (λ (s : Tree _). s.depth) c.self.view_is) ∙ shape.0 in
    let done = c.in_ok-summary-in-Leaf.ensures.edited in
    record {
      edited = rw here done.edited;
      depth = shape.0 ∙ sym deep;
      enough = rw shape.0 done.enough;
      like = rw deep done.like;
      left = done.left;
    }

pub returns-in_ok-summary-in-Leaf-clause-cost : goal.returns-in_ok-summary-in-Leaf-clause-cost
returns-in_ok-summary-in-Leaf-clause-cost g t c =
    let here : c.args.self.now.pairs ≡ c.in-Leaf.entries.items = sym (ap (λ (s : Tree _). s.pairs) c.self.view_is) ∙ ap pairs_in c.in-Leaf.is in
    let shape = rw c.in-Leaf.is at c.self.invariant.shape in
    let kept = rw c.in-Leaf.is at c.self.invariant.kept in
    let deep : c.args.self.now.depth ≡ 1 = sym (ap (λ (s : Tree _). s.depth) c.self.view_is) ∙ shape.0 in
    omega (arith, c.tick.ensures, deep)

pub returns-in_ok-done-in-Inner-clause-edited : goal.returns-in_ok-done-in-Inner-clause-edited
returns-in_ok-done-in-Inner-clause-edited g t c =
    let here : c.args.self.now.pairs ≡ all_pairs (λ k. k.pairs) c.in-Inner.kids.items = sym (ap (λ (s : Tree _). s.pairs) c.self.view_is) ∙ ap pairs_in c.in-Inner.is in
    let shape = rw c.in-Inner.is at c.self.invariant.shape in
    let kept = rw c.in-Inner.is at c.self.invariant.kept in
    let deep : c.args.self.now.depth ≡ c.self.inside.depth = sym (ap (λ (s : Tree _). s.depth) c.self.view_is) in
    let rising : IsRising (all_pairs (λ k. k.pairs) c.in-Inner.kids.items) = subst (λ (ps : List (ℕ × _)). IsRising ps) here c.requires.rising in
    let kids = c.in-Inner.kids.items in
    let k = c.way_down-k.result.0 in
    let list = c.as_slice.ensures.value in
    let lt : k < length kids = rw list at c.way_down-k.ensures.within in
    let below = rw list at c.way_down-k.ensures.before in
    let above = rw list at c.way_down-k.ensures.behind in
    let free = rw list at c.way_down-k.ensures.most in
    let full = rw list at c.way_down-k.ensures.above in
    let kid = c.index_mut.result.now in
    let is : kid ≡ slice_index_or kids k kid = c.index_mut.ensures.value in
    let lower = kid_lower c.self.inside.depth kids k kid shape.0 lt is in
    let done = c.in_ok-done-in-Inner.ensures.edited in
    let edited = rw c.way_down-k.ensures.label at done.edited in
    let f = c.finish-done.ensures in
    let up = edited_up g.R.Run kids k c.args.way.label (c.args.way.most + 1) (c.way_down-k.result.1.most + 1) kid lt is rising below above free c.args.edit c.edit.new.self c.in_ok-done-in-Inner.done.right _ c.in_ok-done-in-Inner.done.own c.in_ok-done-in-Inner.done.lost c.in_ok-done-in-Inner.done.gained refl edited in
    record {
      edited = rw (here, f.pairs, f.own, f.lost, f.gained) up;
      depth = sym deep;
      enough = deep_inner c.self.inside.depth c.finish-done.new.kids.items f.below f.some f.few;
      like = rw deep f.like;
      left = f.spares;
    }

pub returns-in_ok-done-in-Inner-clause-cost : goal.returns-in_ok-done-in-Inner-clause-cost
returns-in_ok-done-in-Inner-clause-cost g t c =
    let here : c.args.self.now.pairs ≡ all_pairs (λ k. k.pairs) c.in-Inner.kids.items = sym (ap (λ (s : Tree _). s.pairs) c.self.view_is) ∙ ap pairs_in c.in-Inner.is in
    let shape = rw c.in-Inner.is at c.self.invariant.shape in
    let kept = rw c.in-Inner.is at c.self.invariant.kept in
    let deep : c.args.self.now.depth ≡ c.self.inside.depth = sym (ap (λ (s : Tree _). s.depth) c.self.view_is) in
    let rising : IsRising (all_pairs (λ k. k.pairs) c.in-Inner.kids.items) = subst (λ (ps : List (ℕ × _)). IsRising ps) here c.requires.rising in
    let kids = c.in-Inner.kids.items in
    let k = c.way_down-k.result.0 in
    let list = c.as_slice.ensures.value in
    let lt : k < length kids = rw list at c.way_down-k.ensures.within in
    let below = rw list at c.way_down-k.ensures.before in
    let above = rw list at c.way_down-k.ensures.behind in
    let free = rw list at c.way_down-k.ensures.most in
    let full = rw list at c.way_down-k.ensures.above in
    let kid = c.index_mut.result.now in
    let is : kid ≡ slice_index_or kids k kid = c.index_mut.ensures.value in
    let lower = kid_lower c.self.inside.depth kids k kid shape.0 lt is in
    omega (arith, c.edit.ensures.cost, c.tick.ensures, lower, deep)
