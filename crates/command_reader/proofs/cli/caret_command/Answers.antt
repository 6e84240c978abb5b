use Rattle.std.proofs.Common.{rules, ◌≡◌, ◌∙◌, ap₂}
use Rattle.std.proofs.lemmas.Result.{IfOk-weaker}
use Rattle.clap.specs.Words.{rule_of, with_rule}
use Rattle.command_table.specs.Cli.{caret_app, file_rule, needed_at_rule}
use Rattle.command_reader.proofs.cli.caret_command.Goals as goal

pub returns-clause-app : goal.returns-clause-app
unfolding caret_app
returns-clause-app c =
    let file_is : rule_of c.required-file.result ≡ file_rule = search rules in
    let at_is : rule_of c.required-at.result ≡ needed_at_rule = search rules in
    let first = c.in_ok-arg.ensures.shape (search rules) ∙ ap₂ with_rule c.new-3.ensures.app file_is in
    let second = c.in_ok-arg-2.ensures.shape (search rules) ∙ ap₂ with_rule first at_is in
    IfOk-weaker c.arg-3.result _ _ (λ m h. h.shape c.number_arg-index.ensures.local ∙ ap₂ with_rule second c.number_arg-index.ensures.rule) c.arg-3.ensures
