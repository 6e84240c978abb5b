use Rattle.script_reader.proofs.LineWords.{reads_none}
use Rattle.script_reader.proofs.Verbs.{said_none}
use Rattle.script_reader.specs.declared.net.verb.Verb.TheVariants as verb
use Rattle.script_reader.proofs.net.line.read_caret.Goals as goal

pub returns-in_err-who : goal.returns-in_err-who
returns-in_err-who c = reads_none _ _ c.from_residual.ensures (said_none verb.Caret c.args.words.now (λ x s. c.in_err-who.ensures.none x.0 x.1 s.0 s.1))
