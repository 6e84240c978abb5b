use Rattle.std.proofs.Common.{◌∙◌}
use Rattle.std.proofs.lemmas.Result.{IfOk-weaker}
use Rattle.clap.specs.declared.parser.matches.ArgMatches.TheViews.{out-ArgMatches}
use Rattle.command_reader.proofs.Entered.{line_entered}
use Rattle.command_reader.proofs.words.read_matches.Goals as goal

pub returns : goal.returns
returns c =
    IfOk-weaker c.read_subcommand.result _ _
    (λ l h. h ∙ line_entered _ _ (out-ArgMatches c.args.matches.now).subcommand _ _ c.in-Some.ensures.name c.in-Some.ensures.rows) c.read_subcommand.ensures
