use Rattle.std.proofs.Common.{rules, ◌≡◌, ◌∙◌, ap₂}
use Rattle.std.proofs.lemmas.Result.{IfOk-weaker}
use Rattle.clap.specs.Words.{rule_of, with_rule}
use Rattle.command_table.specs.Cli.{at_rule, blame_app, file_rule}
use Rattle.command_reader.proofs.cli.blame_command.Goals as goal

pub returns-clause-app : goal.returns-clause-app
unfolding blame_app
returns-clause-app c =
    let file_is : rule_of c.required-file.result ≡ file_rule = search rules in
    let at_is : rule_of c.long-at.result ≡ at_rule = search rules in
    let first = c.in_ok-arg.ensures.shape (search rules) ∙ ap₂ with_rule c.new-3.ensures.app file_is in
    let second = c.in_ok-arg-2.ensures.shape c.number_arg-columns.ensures.local ∙ ap₂ with_rule first c.number_arg-columns.ensures.rule in
    IfOk-weaker c.arg-3.result _ _ (λ m h. h.shape (search rules) ∙ ap₂ with_rule second at_is) c.arg-3.ensures
