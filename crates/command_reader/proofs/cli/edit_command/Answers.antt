use Rattle.std.proofs.Common.{rules, ◌≡◌, ◌∙◌, ap₂}
use Rattle.std.proofs.lemmas.Result.{IfOk-weaker}
use Rattle.clap.specs.Words.{rule_of, with_rule}
use Rattle.command_table.specs.Cli.{file_rule, agent_rule, edit_app}
use Rattle.command_reader.proofs.cli.edit_command.Goals as goal

pub returns-clause-app : goal.returns-clause-app
unfolding edit_app
returns-clause-app c =
    let file_is : rule_of c.required-file.result ≡ file_rule = search rules in
    let agent_is : rule_of c.required-agent.result ≡ agent_rule = search rules in
    IfOk-weaker c.arg-2.result _ _
    (λ m h. h.shape (search rules) ∙ ap₂ with_rule (c.in_ok-arg.ensures.shape (search rules) ∙ ap₂ with_rule c.new-3.ensures.app file_is) agent_is)
    c.arg-2.ensures
