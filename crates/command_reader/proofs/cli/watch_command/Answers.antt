use Rattle.std.proofs.Common.{rules, ◌≡◌, ◌∙◌, ap₂}
use Rattle.std.proofs.lemmas.Result.{IfOk-weaker}
use Rattle.clap.specs.Words.{rule_of, with_rule}
use Rattle.command_table.specs.Cli.{agent_rule, watch_app}
use Rattle.command_reader.proofs.cli.watch_command.Goals as goal

pub returns-clause-app : goal.returns-clause-app
unfolding watch_app
returns-clause-app c =
    let agent_is : rule_of c.required-agent.result ≡ agent_rule = search rules in
    IfOk-weaker c.arg.result _ _ (λ m h. h.shape (search rules) ∙ ap₂ with_rule c.new-2.ensures.app agent_is) c.arg.ensures
