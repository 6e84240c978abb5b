use Rattle.std.proofs.Common.{arith}
use Rattle.std.proofs.lemmas.Result.{IfOk-weaker}
use Rattle.command_reader.proofs.FileCommands.{all_added, one_added}
use Rattle.command_reader.proofs.cli.with_file_commands.Goals as goal

pub loop-name-preserved : goal.loop-name-preserved
loop-name-preserved c = one_added _ c.loop-name.name-index _ _ _ _ c.loop-name-test.true c.in_ok-command.ensures c.loop-name.invariant

pub returns : goal.returns
returns c = all_added _ c.loop-name.name-index _ _ (omega (arith, c.loop-name-test.false)) c.loop-name.invariant
