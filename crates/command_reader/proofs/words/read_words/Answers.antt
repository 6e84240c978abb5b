use Rattle.std.proofs.Common.{◌≡◌, ◌⊎◌, ◌∙◌, sym, ap, subst, map, List, string_bytes}
use Rattle.std.proofs.lemmas.Result.{IfOk-weaker}
use Rattle.clap.specs.Words.{App, IsAmong, HasKind, app_of, fault_of, is_simple, is_simple_and_free, subcommand_of}
use Rattle.clap.specs.declared.error.kind.ErrorKind.{ErrorKind}
use Rattle.clap.specs.declared.error.kind.ErrorKind.TheVariants.{OutOfMemory}
use Rattle.command_table.specs.Table.{Text}
use Rattle.command_table.specs.Cli.{egw_app}
use Rattle.command_reader.proofs.TakenWords.{egw_is_simple, egw_is_free, taken, refused}
use Rattle.command_reader.proofs.words.read_words.Goals as goal

pub returns-in-Ok : goal.returns-in-Ok
returns-in-Ok c =
    let words : List Text = map string_bytes c.args.words.now in
    let app : app_of c.in_ok-command.command ≡ egw_app = c.in_ok-command.ensures in
    let none = c.in-Ok.ensures.kinds (ap is_simple_and_free app ∙ egw_is_free) in
    let rows = (c.in-Ok.ensures.matches (ap is_simple app ∙ egw_is_simple)).1 in
    let whole = taken words _ (ap (λ (a : App). fault_of a words) (sym app) ∙ none) (rows ∙ ap (λ (a : App). subcommand_of a words) app) in
    IfOk-weaker c.read_matches.result _ _ (λ l h. h ∙ whole) c.read_matches.ensures

pub returns : goal.returns
returns c =
    let words : List Text = map string_bytes c.args.words.now in
    let app : app_of c.in_ok-command.command ≡ egw_app = c.in_ok-command.ensures in
    let has : HasKind (fault_of (app_of c.in_ok-command.command) words) c.in-Err.error = c.in-Err.ensures.kinds (ap is_simple_and_free app ∙ egw_is_free) in
    let here : HasKind (fault_of egw_app words) c.in-Err.error = subst (λ (a : App). HasKind (fault_of a words) c.in-Err.error) app has in
    refused words c.kind.result c.in_default.not-OutOfMemory
    (subst (λ (k : ErrorKind). (k ≡ OutOfMemory) ⊎ IsAmong k (fault_of egw_app words)) (sym c.kind.ensures) here)
