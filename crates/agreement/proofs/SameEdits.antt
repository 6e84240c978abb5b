-- Runs of the same insertions or deletions.
use Rattle.std.proofs.Common.{◌≡◌, ℕ, ◌-◌, ◌≤◌, List, take, length, Option, Some, IsSome, refl, sym, ap, subst, ◌∙◌, arith}
use Rattle.std.specs.Prelude.{slice_get}
use Rattle.ew_model.specs.declared.text_op.TextOp.{TextOp}
use Rattle.ew_model.specs.declared.text_op.TextOp.TheVariants.{Ins, Del, Nothing}
use Rattle.ew_model.proofs.ListPlaces.{get-take_within}
use Rattle.operation_runs.specs.Runs.{insertions, deletions, back_deletions}
use Rattle.operation_runs.proofs.RunLaws.{length-insertions, length-deletions, length-back_deletions, insertions_to, insertion_there, deletion_there, back_there}
use Rattle.agreement.specs.Sharing.{AreSameEdits}

-- an insertion isn't nothing
insertion_edits : (o : Option TextOp) (at ch : ℕ) → o ≡ Some (Ins at ch) → o ≡ Some Nothing → ⊥
insertion_edits o at ch h none = let both : Some (Ins at ch) ≡ Some Nothing = sym h ∙ none in let no : ⊥ = cc in no

-- nor is a deletion
deletion_edits : (o : Option TextOp) (at : ℕ) → o ≡ Some (Del at) → o ≡ Some Nothing → ⊥
deletion_edits o at h none = let both : Some (Del at) ≡ Some Nothing = sym h ∙ none in let no : ⊥ = cc in no

-- what is told is there
is_there : (o : Option TextOp) (x : TextOp) → o ≡ Some x → IsSome o
is_there o x h = subst (λ (p : Option TextOp). IsSome p) (sym h) refl

-- insertions at one index are the same where the characters are
pub same_insertions : (at : ℕ) (xs ys : List ℕ) (n : ℕ) → n ≤ length (insertions at xs) → take n xs ≡ take n ys → AreSameEdits (insertions at xs) (insertions at ys) n
same_insertions at xs ys n within same k less =
    let many = length-insertions at xs in (
      sym (get-take_within n (insertions at xs) k less)
          ∙ (ap (λ ops. slice_get ops k) (insertions_to at xs n ∙ (ap (insertions at) same ∙ sym (insertions_to at ys n)))
          ∙ get-take_within n (insertions at ys) k less),
      insertion_edits (slice_get (insertions at xs) k) _ _ (insertion_there at xs k (omega (arith, within, less, many))),
      is_there (slice_get (insertions at xs) k) _ (insertion_there at xs k (omega (arith, within, less, many))),
    )

-- deletions at one index are the same
pub same_deletions : (at m o n : ℕ) → n ≤ length (deletions at m) → n ≤ length (deletions at o) → AreSameEdits (deletions at m) (deletions at o) n
same_deletions at m o n within among k less =
    let many = length-deletions at m in
    let others = length-deletions at o in
    let here = deletion_there at m k (omega (arith, within, less, many)) in
    (here ∙ sym (deletion_there at o k (omega (arith, among, less, others))), deletion_edits (slice_get (deletions at m) k) at here, is_there (slice_get (deletions at m) k) (Del at) here)

-- and so are those that go back from one index
pub same_back : (at m o n : ℕ) → n ≤ length (back_deletions at m) → n ≤ length (back_deletions at o) → AreSameEdits (back_deletions at m) (back_deletions at o) n
same_back at m o n within among k less =
    let many = length-back_deletions at m in
    let others = length-back_deletions at o in
    let here = back_there at m k (omega (arith, within, less, many)) in
    (here ∙ sym (back_there at o k (omega (arith, among, less, others))), deletion_edits (slice_get (back_deletions at m) k) (at - k) here, is_there (slice_get (back_deletions at m) k) (Del (at - k)) here)
