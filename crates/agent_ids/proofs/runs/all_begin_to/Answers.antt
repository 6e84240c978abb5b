use Rattle.std.proofs.Common.{sym}
use Rattle.std.proofs.lemmas.Bool.{leb-true}
use Rattle.agent_ids.proofs.RunLists.{all_begin}
use Rattle.agent_ids.proofs.runs.all_begin_to.Goals as goal

pub returns-in-Some : goal.returns-in-Some
returns-in-Some c = λ low. all_begin c.args.runs.now c.requires.0 c.args.place c.in-Some.run'.now c.requires.1 (sym c.in-Some.ensures.value) (leb-true _ _ low)
