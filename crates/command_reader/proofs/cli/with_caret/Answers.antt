use Rattle.std.proofs.Common.{◌∙◌, ap}
use Rattle.std.proofs.lemmas.Result.{IfOk-weaker}
use Rattle.clap.specs.Words.{app_of}
use Rattle.command_table.specs.Cli.{then_app}
use Rattle.command_reader.proofs.cli.with_caret.Goals as goal

pub returns : goal.returns
returns c = IfOk-weaker c.subcommand.result _ _ (λ m h. h.shape c.in_ok-caret.ensures.local ∙ ap (then_app (app_of c.args.command)) c.in_ok-caret.ensures.app) c.subcommand.ensures
