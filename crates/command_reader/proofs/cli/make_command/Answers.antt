use Rattle.std.proofs.Common.{◌∙◌, ap₂}
use Rattle.std.proofs.lemmas.Result.{IfOk-weaker}
use Rattle.clap.specs.Words.{with_rule}
use Rattle.command_table.specs.Cli.{make_app}
use Rattle.command_reader.proofs.cli.make_command.Goals as goal

pub returns-clause-app : goal.returns-clause-app
unfolding make_app
returns-clause-app c =
    IfOk-weaker c.arg-2.result _ _
    (λ m h. h.shape c.number_arg-count.ensures.local ∙ ap₂ with_rule (c.in_ok-arg.ensures.shape c.seed_arg-seed.ensures.local ∙ ap₂ with_rule c.new.ensures.app c.seed_arg-seed.ensures.rule) c.number_arg-count.ensures.rule)
    c.arg-2.ensures
