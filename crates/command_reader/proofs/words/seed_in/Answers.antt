use Rattle.std.proofs.Common.{◌∙◌}
use Rattle.command_reader.proofs.Numbers.{seed_parsed}
use Rattle.command_reader.proofs.words.seed_in.Goals as goal

pub returns : goal.returns
returns c = c.ok.ensures.value ∙ seed_parsed c.args.word.now c.parse.result c.parse.ensures.value.0
