-- The command line as `clap` knows it: words without the program's name, of which the first names a subcommand.
use Rattle.std.specs.Prelude.{true, ℕ, pos, List, [], ◌∷◌, Some, codes}
use Rattle.clap.specs.Words.{App, Rule, new_app, new_rule, with_rule, with_subcommand}
use Rattle.clap.specs.Simple.{on_top}
use Rattle.clap.specs.declared.builder.value_parser.ValueParser.TheVariants.{Signed, Unsigned}

-- a file's name, which has to be there
abbrev pub file_rule : Rule
file_rule = record (new_rule (codes "file")) { required = true }

-- a command of one file
abbrev pub file_app : List ℕ → App
file_app name = with_rule (new_app name) file_rule

-- the agent's name, which has to be given
abbrev pub agent_rule : Rule
agent_rule = record (new_rule (codes "agent")) { long = Some (codes "agent"); required = true }

-- the other file's name, which has to be there too
abbrev pub other_rule : Rule
other_rule = record (new_rule (codes "other")) { required = true }

-- the command of two files
unfoldable pub merge_app : App
merge_app = with_rule (with_rule (new_app (codes "merge")) file_rule) other_rule

-- the command of a file and its agent
unfoldable pub edit_app : App
edit_app = with_rule (with_rule (new_app (codes "edit")) file_rule) agent_rule

-- the command of an agent and no file
unfoldable pub watch_app : App
watch_app = with_rule (new_app (codes "watch")) agent_rule

-- the version, which may be given
abbrev pub at_rule : Rule
at_rule = record (new_rule (codes "at")) { long = Some (codes "at") }

-- the command of a file and perhaps a version of it
unfoldable pub cat_app : App
cat_app = with_rule (with_rule (new_app (codes "cat")) file_rule) at_rule

-- the version, which has to be given
abbrev pub needed_at_rule : Rule
needed_at_rule = record at_rule { required = true }

-- an id, which has to be given
abbrev pub of_rule : Rule
of_rule = record (new_rule (codes "of")) { long = Some (codes "of"); required = true }

-- the greatest seed
abbrev pub most_seed : ℕ
most_seed = 18446744073709551615

-- the most edits that are made
abbrev pub most_made : ℕ
most_made = 1000000

-- the seed, a number of 64 bits, which has to be given
abbrev pub seed_rule : Rule
seed_rule = record (new_rule (codes "seed")) { long = Some (codes "seed"); parser = Some (Unsigned 0 most_seed); required = true }

-- a number between two others, which has to be given; it is read with a sign, so that `-0` is 0
abbrev pub number_rule : List ℕ → ℕ → ℕ → Rule
number_rule name least most = record (new_rule name) { long = Some name; parser = Some (Signed (pos least) (pos most)); required = true }

-- the command that makes a history
unfoldable pub make_app : App
make_app = with_rule (with_rule (new_app (codes "make")) seed_rule) (number_rule (codes "count") 0 most_made)

-- the most events that are undone at once
abbrev pub most_undone : ℕ
most_undone = 1000000

-- the greatest index
abbrev pub most_index : ℕ
most_index = 4294967295

-- the most columns
abbrev pub most_columns : ℕ
most_columns = 1000

-- the command that undoes so many events, from an id on, as an agent
unfoldable pub undo_app : App
undo_app = with_rule (with_rule (with_rule (with_rule (new_app (codes "undo")) file_rule) agent_rule) of_rule) (number_rule (codes "count") 1 most_undone)

-- the command of a file, a version of it and an index of that version's text
unfoldable pub caret_app : App
caret_app = with_rule (with_rule (with_rule (new_app (codes "caret")) file_rule) needed_at_rule) (number_rule (codes "index") 0 most_index)

-- the command of a file, a number of columns and perhaps a version
unfoldable pub blame_app : App
blame_app = with_rule (with_rule (with_rule (new_app (codes "blame")) file_rule) (number_rule (codes "columns") 1 most_columns)) at_rule

-- the command of a net, which has no arguments
abbrev pub net_app : App
net_app = new_app (codes "net")

-- the command without its subcommands
abbrev pub bare_app : App
bare_app = on_top (λ s. record s { no_binary_name = true; subcommand_required = true }) (new_app (codes "egw"))

-- with a subcommand more
abbrev pub then_app : App → App → App
then_app app more = with_subcommand app more.top

-- the commands of one file that have no options
abbrev pub file_commands : List (List ℕ)
file_commands = codes "new" ∷ codes "heads" ∷ codes "log" ∷ codes "replay" ∷ codes "check" ∷ codes "ask" ∷ codes "serve" ∷ codes "marks" ∷ codes "upgrade" ∷ codes "export" ∷ []

-- the program with a command of one file for each name
abbrev pub with_file_apps : App → List (List ℕ) → App
with_file_apps app [] = app
with_file_apps app (name ∷ names) = with_file_apps (then_app app (file_app name)) names

-- the program, with all of its commands
unfoldable pub egw_app : App
egw_app =
    then_app
    (then_app (then_app (then_app (then_app (then_app (then_app (then_app (then_app (with_file_apps bare_app file_commands) edit_app) cat_app) merge_app) net_app) make_app) watch_app) undo_app) caret_app)
    blame_app

-- the usage: a line for each command
abbrev pub usage : List ℕ
usage = codes "usage: egw new FILE\n       egw edit FILE --agent NAME\n       egw cat FILE [--at VERSION]\n       egw heads FILE\n       egw log FILE\n       egw replay FILE\n       egw check FILE\n       egw merge FILE OTHER\n       egw ask FILE\n       egw serve FILE\n       egw net\n       egw make --seed N --count N\n       egw marks FILE\n       egw upgrade FILE\n       egw watch --agent NAME\n       egw export FILE\n       egw undo FILE --agent NAME --of ID --count N\n       egw caret FILE --at VERSION --index N\n       egw blame FILE --columns N [--at VERSION]\n"
