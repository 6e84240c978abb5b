-- A run that walks nothing.
use Rattle.std.proofs.Common.{ℕ, List, arith, Option, None, Some}
use Rattle.ew_model.specs.Limits.{LimitNumbers}
use Rattle.ew_outside.specs.Files.{Files}
use Rattle.command_table.specs.Table.{Command, create, edit, show, merge, upgrade, undo, make, net, Line, does, serves, watches, exports}
use Rattle.opened_files.specs.Touches.{CommandTakes}
use Rattle.serve_plans.specs.SessionTouches.{session_touches}
use Rattle.command_runs.specs.LineTouches.{LineTakes}
use Rattle.opened_files.proofs.Touches.{untouched}

-- it takes no more than its command may take
command_takes : (command : Command) (limits : LimitNumbers) (files : Option Files) (n : ℕ) → CommandTakes command limits files n n
command_takes (create name) limits files n = omega arith
command_takes (edit name agent) limits files n = untouched _ files n
command_takes (show listing name) limits files n = untouched _ files n
command_takes (merge name other) limits files n = untouched _ files n
command_takes (upgrade name) limits files n = untouched _ files n
command_takes (undo name agent first count) limits files n = untouched _ files n
command_takes (make seed count) limits files n = omega arith
command_takes net limits files n = tt

-- it takes no more than its line may take
pub takes_nothing : (l : Option Line) (limits : LimitNumbers) (files : Option Files) (journal left : Option (List ℕ)) (n : ℕ) → LineTakes l limits files journal left n n
takes_nothing None limits files journal left n = omega arith
takes_nothing (Some (does command)) limits files journal left n = command_takes command limits files n
takes_nothing (Some (watches agent)) limits files journal left n = λ j told. omega arith
takes_nothing (Some (exports name)) limits files journal left n = λ j told. omega arith
takes_nothing (Some (serves name)) limits files journal None n = tt
takes_nothing (Some (serves name)) limits files journal (Some input) n = λ f cut. untouched (session_touches name limits f.frames) files n
