use Rattle.std.proofs.Common.{◌≡◌, map, drop}
use Rattle.clap.specs.Words.{app_of}
use Rattle.command_table.specs.Cli.{file_commands, with_file_apps}
use Rattle.command_reader.proofs.cli.with_file_commands.Given as goal

-- the names that are left make the whole of what is there
abbrev pub invariant-loop-name : goal.invariant-loop-name
invariant-loop-name l = with_file_apps (app_of l.command) (map (λ name. name.now) (drop l.name-index l.name-items)) ≡ with_file_apps (app_of l.fn.command) file_commands
