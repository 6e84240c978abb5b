use Rattle.generator.proofs.MadeLaws.{made_peers_agree}
use Rattle.generator.proofs.NetGifts.{edits_are_steps, gifts_are_pushes}
use Rattle.generator.proofs.NetMakings.{makings_are_nets}
use Rattle.generator.proofs.laws.law_made.Goals as goal

pub returns : goal.returns
returns c = record { agreement = made_peers_agree; edits = edits_are_steps; gifts = gifts_are_pushes; nets = makings_are_nets }
