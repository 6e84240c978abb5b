use Rattle.script_reader.proofs.LineWords.{reads_none}
use Rattle.script_reader.proofs.Verbs.{said_none}
use Rattle.script_reader.specs.declared.net.verb.Verb.TheVariants as verb
use Rattle.script_reader.proofs.net.line.read_sending.Goals as goal

pub returns-in_err-from : goal.returns-in_err-from
returns-in_err-from c = reads_none _ _ c.from_residual.ensures (said_none verb.Send c.args.words.now (λ x s. c.in_err-from.ensures.none x.0 x.1 x.2 x.3 s.0 s.1 s.2 s.3))
