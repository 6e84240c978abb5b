-- What was taken of the input, and what holds where a file is refused.
use Rattle.std.proofs.Common.{◌≡◌, ◌≤◌, ◌+◌, ◌++◌, ◌∙◌, arith, ℕ, List, length, drop, Option, Some, None, IfSome, ap, sym, subst}
use Rattle.std.proofs.Math.Seq.{drop-append-add, drop-append_seam}
use Rattle.std.specs.Io.KnownBytes.{Consumes, Keeps}
use Rattle.ew_model.specs.declared.event.Event.{Event}
use Rattle.ew_model.specs.Limits.{LimitNumbers}
use Rattle.ew_outside.specs.Files.{Files}
use Rattle.command_table.specs.Reads.{TakesAtMost, IfRefused}
use Rattle.command_table.specs.Table.{Text, Opened, opened, refused, open_file}

pub if_refused : (o : Opened) (holds : Type 0) → holds → IfRefused o holds
if_refused (opened events) holds h = tt
if_refused (refused why) holds h = h

-- where it holds anyway
pub holds_refused : (name : Text) (limits : LimitNumbers) (files : Option Files) (holds : Type 0) → holds → IfSome files (λ m. IfRefused (open_file name limits m) holds)
holds_refused name limits (Some m) holds h = if_refused (open_file name limits m) holds h
holds_refused name limits None holds h = tt

-- where the file is open
pub open_not_refused : (name : Text) (limits : LimitNumbers) (held : List Event) (files : Option Files) (holds : Type 0) → IfSome files (λ m. opened held ≡ open_file name limits m)
    → IfSome files (λ m. IfRefused (open_file name limits m) holds)
open_not_refused name limits held (Some m) holds is = subst (λ o. IfRefused o holds) is tt
open_not_refused name limits held None holds is = tt

pub takes_none : (most : ℕ) (old new : Option (List ℕ)) → new ≡ old → TakesAtMost most old new
takes_none most (Some input) new same = (0, omega arith, same)
takes_none most None new same = tt

pub takes_few : (most : ℕ) (old new : Option (List ℕ)) (bytes : List ℕ) → Consumes old new bytes → length bytes ≤ most → TakesAtMost most old new
takes_few most (Some input) (Some left) bytes taken few = (length bytes, few, ap Some (sym (ap (drop (length bytes)) taken ∙ drop-append_seam bytes left)))
takes_few most (Some input) None bytes taken few = absurd taken
takes_few most None new bytes taken few = tt

-- the bytes that were taken, and then some more
pub takes_more : (most : ℕ) (old mid new : Option (List ℕ)) (bytes more : List ℕ) → Consumes old mid bytes → Consumes mid new more → length bytes + length more ≤ most → TakesAtMost most old new
takes_more most (Some input) (Some left) (Some rest) bytes more taken after few =
    let n = length bytes + length more in
    (n, few, ap Some (sym (ap (drop n) taken ∙ drop-append-add bytes left (length more) ∙ ap (drop (length more)) after ∙ drop-append_seam more rest)))
takes_more most (Some input) (Some left) None bytes more taken after few = absurd after
takes_more most (Some input) None new bytes more taken after few = absurd taken
takes_more most None mid new bytes more taken after few = tt

-- the bytes that were taken, and then none
pub takes_kept : (most : ℕ) (old mid new : Option (List ℕ)) (bytes : List ℕ) → Consumes old mid bytes → Keeps mid new → length bytes ≤ most → TakesAtMost most old new
takes_kept most (Some input) (Some left) (Some rest) bytes taken kept few = takes_few most (Some input) (Some rest) bytes (taken ∙ ap (λ xs. bytes ++ xs) (sym kept)) few
takes_kept most (Some input) (Some left) None bytes taken kept few = absurd kept
takes_kept most (Some input) None new bytes taken kept few = absurd taken
takes_kept most None mid new bytes taken kept few = tt
