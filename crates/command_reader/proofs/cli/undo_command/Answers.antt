use Rattle.std.proofs.Common.{rules, ◌≡◌, ◌∙◌, ap₂}
use Rattle.std.proofs.lemmas.Bool.{or_from}
use Rattle.std.proofs.lemmas.Result.{IfOk-weaker}
use Rattle.clap.specs.Words.{rule_of, with_rule}
use Rattle.command_table.specs.Cli.{agent_rule, file_rule, of_rule, undo_app}
use Rattle.command_reader.proofs.cli.undo_command.Goals as goal

pub returns-clause-app : goal.returns-clause-app
unfolding undo_app
returns-clause-app c =
    let file_is : rule_of c.required-file.result ≡ file_rule = search rules in
    let agent_is : rule_of c.required-agent.result ≡ agent_rule = search rules in
    let of_is : rule_of c.required-of.result ≡ of_rule = search rules in
    let first = c.in_ok-arg.ensures.shape (search rules) ∙ ap₂ with_rule c.new-4.ensures.app file_is in
    let second = c.in_ok-arg-2.ensures.shape (search rules) ∙ ap₂ with_rule first agent_is in
    let third = c.in_ok-arg-3.ensures.shape (search rules) ∙ ap₂ with_rule second of_is in
    IfOk-weaker c.arg-4.result _ _ (λ m h. h.shape c.number_arg-count.ensures.local ∙ ap₂ with_rule third c.number_arg-count.ensures.rule) c.arg-4.ensures

pub returns-clause-local : goal.returns-clause-local
returns-clause-local c =
    let first = c.in_ok-arg.ensures.globals ∙ or_from _ c.required-file.result.global c.new-4.ensures.local (search rules) in
    let second = c.in_ok-arg-2.ensures.globals ∙ or_from _ c.required-agent.result.global first (search rules) in
    let third = c.in_ok-arg-3.ensures.globals ∙ or_from _ c.required-of.result.global second (search rules) in
    IfOk-weaker c.arg-4.result _ _ (λ m h. h.globals ∙ or_from _ c.number_arg-count.result.global third c.number_arg-count.ensures.local) c.arg-4.ensures
