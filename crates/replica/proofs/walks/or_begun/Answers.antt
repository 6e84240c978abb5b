use Rattle.std.proofs.Common.{IfSome, subst}
use Rattle.std.proofs.lemmas.Result.{IfOk-weaker}
use Rattle.transform.specs.Keeping.{IsFresh}
use Rattle.replica.specs.Walks.{CameBehind, GoesBehind, MayGoOn}
use Rattle.replica.proofs.KeptWalks.{begins_behind, goes_behind}
use Rattle.replica.proofs.RoundCuts.{has_length}
use Rattle.replica.proofs.walks.or_begun.Goals as goal

pub length_below-requires : goal.length_below-requires
length_below-requires c = let begins = c.requires.begins in has_length begins.0 c.args.graph.now c.args.lengths.now c.args.cut begins.1 begins.2

pub returns-in-Some : goal.returns-in-Some
returns-in-Some c = λ held begins front lengths may.
    let w = subst (λ o. IfSome o (λ w. MayGoOn held c.args.graph.now w × CameBehind c.args.cut w)) c.in-Some.is may in
    goes_behind held c.args.graph.now c.args.cut front c.in-Some.walk w.0 w.1

pub returns-in-None : goal.returns-in-None
returns-in-None c = λ held begins front lengths may.
    IfOk-weaker c.begin.result (IsFresh c.args.cut c.length_below.result) (GoesBehind held c.args.graph.now c.args.cut)
    (λ w fresh. begins_behind held c.args.graph.now c.args.cut c.length_below.result w begins (c.length_below.ensures held lengths) fresh) c.begin.ensures
