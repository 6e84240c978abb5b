-- How the touches of what is done behind one another add up.
use Rattle.std.proofs.Common.{◌≡◌, ◌≤◌, ℕ, ◌+◌, List, Option, Some, None, IfSome, arith, subst}
use Rattle.ew_model.specs.declared.event.Event.{Event}
use Rattle.ew_model.specs.Limits.{LimitNumbers}
use Rattle.ew_outside.specs.Files.{Files}
use Rattle.command_table.specs.Table.{Text, opened, open_file}
use Rattle.opened_files.specs.Touches.{TouchesAtMost, file_touches, touches_over}

-- nothing was walked
pub untouched : (most : Files → ℕ) (files : Option Files) (n : ℕ) → TouchesAtMost most files n n
untouched most (Some m) n = omega arith
untouched most None n = tt

-- a file was opened, and its events were gone over
pub opened_touched : (name : Text) (limits : LimitNumbers) (count : Files → List Event → ℕ) (held : List Event) (files : Option Files) (before mid now : ℕ)
    → IfSome files (λ m. opened held ≡ open_file name limits m) → TouchesAtMost (file_touches name limits) files before mid → TouchesAtMost (λ m. count m held) files mid now
    → TouchesAtMost (λ m. file_touches name limits m + touches_over (count m) (open_file name limits m)) files before now
opened_touched name limits count held (Some m) before mid now is first second =
    subst (λ o. now ≤ before + (file_touches name limits m + touches_over (count m) o)) is (omega (arith, first, second))
opened_touched name limits count held None before mid now is first second = tt
