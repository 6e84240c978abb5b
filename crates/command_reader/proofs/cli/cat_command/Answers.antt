use Rattle.std.proofs.Common.{rules, ◌≡◌, ◌∙◌, ap₂}
use Rattle.std.proofs.lemmas.Result.{IfOk-weaker}
use Rattle.clap.specs.Words.{rule_of, with_rule}
use Rattle.command_table.specs.Cli.{file_rule, at_rule, cat_app}
use Rattle.command_reader.proofs.cli.cat_command.Goals as goal

pub returns-clause-app : goal.returns-clause-app
unfolding cat_app
returns-clause-app c =
    let file_is : rule_of c.required-file.result ≡ file_rule = search rules in
    let at_is : rule_of c.long-at.result ≡ at_rule = search rules in
    IfOk-weaker c.arg-2.result _ _
    (λ m h. h.shape (search rules) ∙ ap₂ with_rule (c.in_ok-arg.ensures.shape (search rules) ∙ ap₂ with_rule c.new-3.ensures.app file_is) at_is)
    c.arg-2.ensures
