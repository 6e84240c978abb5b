use Rattle.std.proofs.Common.{arith}
use Rattle.event_file.proofs.Texts.{numbers_count}
use Rattle.event_file.proofs.run_ops.characters.Goals as goal

pub returns-clause-value : goal.returns-clause-value
returns-clause-value c = let n = numbers_count c.args.text.now in omega (arith, n)
