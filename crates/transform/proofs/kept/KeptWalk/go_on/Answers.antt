use Rattle.transform.proofs.KeptWalks.{walk_goes, walk_kept}
use Rattle.transform.proofs.kept.KeptWalk.go_on.Goals as goal

pub walk_on-requires-clause-within : goal.walk_on-requires-clause-within
walk_on-requires-clause-within g c = c.requires.walk.within

pub walk_on-requires-clause-walked : goal.walk_on-requires-clause-walked
walk_on-requires-clause-walked g c = walk_goes c.args.graph.now c.args.self.now c.requires.walk c.requires.cut

pub returns-clause-walk : goal.returns-clause-walk
returns-clause-walk g c = λ none. walk_kept c.args.graph.now (record { state = c.walk_on.new.state; cut = c.args.self.now.cut; reached = c.count-self.result }) c.count-self.ensures.count (c.in_ok-walked.ensures.walked none)
