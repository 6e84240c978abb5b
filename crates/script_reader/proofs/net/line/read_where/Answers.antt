use Rattle.script_reader.proofs.LineWords.{reads_none, unnamed}
use Rattle.script_reader.proofs.Verbs.{said_none}
use Rattle.script_reader.specs.declared.net.verb.Verb.TheVariants as verb
use Rattle.script_reader.proofs.net.line.read_where.Goals as goal

pub returns-in_err-name : goal.returns-in_err-name
returns-in_err-name c = reads_none _ _ c.from_residual.ensures (said_none verb.Where c.args.words.now (unnamed c.args.words.now c.in_err-name.ensures.none))
