use Rattle.std.proofs.Common.{◌∙◌, ap, arith, encode_utf8_all}
use Rattle.history_laws.proofs.VersionHistories.{part_good}
use Rattle.replica.proofs.PastTexts.{version_few, version_text}
use Rattle.replica.proofs.past.text_at.Goals as goal

pub text_of-requires-clause-good : goal.text_of-requires-clause-good
text_of-requires-clause-good g c = part_good c.args.graph.now c.in_ok-part.part c.args.version.now c.requires.good c.in_ok-part.ensures.events

pub text_of-requires-clause-few : goal.text_of-requires-clause-few
text_of-requires-clause-few g c = omega (arith, c.requires.few, version_few c.args.graph.now c.in_ok-part.part c.args.version.now c.in_ok-part.ensures.filter)

pub returns-clause-text : goal.returns-clause-text
returns-clause-text g c = c.in_ok-bytes.ensures.text ∙ ap encode_utf8_all (version_text c.args.graph.now c.in_ok-part.part c.args.version.now c.requires.good c.in_ok-part.ensures.events)
