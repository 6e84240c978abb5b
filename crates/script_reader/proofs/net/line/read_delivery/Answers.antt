use Rattle.script_reader.proofs.LineWords.{reads_none}
use Rattle.script_reader.proofs.Verbs.{said_none}
use Rattle.script_reader.specs.declared.net.verb.Verb.TheVariants as verb
use Rattle.script_reader.proofs.net.line.read_delivery.Goals as goal

pub returns-in_err-packet : goal.returns-in_err-packet
returns-in_err-packet c = reads_none _ _ c.from_residual.ensures (said_none verb.Deliver c.args.words.now (λ x s. c.in_err-packet.ensures.none x s))
