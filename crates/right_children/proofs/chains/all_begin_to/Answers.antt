use Rattle.std.proofs.Common.{sym}
use Rattle.std.proofs.lemmas.Bool.{leb-true}
use Rattle.right_children.proofs.ChainLaws.{all_begin}
use Rattle.right_children.proofs.chains.all_begin_to.Goals as goal

pub returns-in-Some : goal.returns-in-Some
returns-in-Some c = λ low. all_begin c.args.chains.now c.args.position c.in-Some.chain.now c.requires (sym c.in-Some.ensures.value) (leb-true _ _ low)
