use Rattle.std.proofs.Common.{refl}
use Rattle.script_reader.proofs.Lines.{lines_of-split}
use Rattle.script_reader.proofs.script.split_line.Goals as goal

pub returns-clause-lines : goal.returns-clause-lines
returns-clause-lines c =
    lines_of-split c.args.bytes.now c.split_once.result _ c.unwrap_or.result c.requires c.split_once.ensures.found c.split_once.ensures.none c.unwrap_or.ensures refl refl
