use Rattle.std.proofs.Common.{sym, ◌∙◌}
use Rattle.ancestors.proofs.PendingLists.{striking_starts, striking_goes, struck_out, struck_was, struck_left}
use Rattle.ancestors.proofs.pending.Pending.strike.Goals as goal

pub loop-found-init : goal.loop-found-init
loop-found-init c = striking_starts c.args.position c.args.self.now

pub loop-found-preserved : goal.loop-found-preserved
loop-found-preserved c =
    (striking_goes c.args.position c.args.self.now c.loop-found.self c.loop-found.found c.requires c.loop-found.invariant c.highest.result c.pop_once.result c.pop_once.new.self (sym c.eq.ensures ∙ c.loop-found-test.true)
    c.highest.ensures.member c.pop_once.ensures.none c.pop_once.ensures.taken c.pop_once.ensures.greatest).0

pub loop-found-smaller : goal.loop-found-smaller
loop-found-smaller c =
    (striking_goes c.args.position c.args.self.now c.loop-found.self c.loop-found.found c.requires c.loop-found.invariant c.highest.result c.pop_once.result c.pop_once.new.self (sym c.eq.ensures ∙ c.loop-found-test.true)
    c.highest.ensures.member c.pop_once.ensures.none c.pop_once.ensures.taken c.pop_once.ensures.greatest).1

pub returns-clause-was : goal.returns-clause-was
returns-clause-was c =
    struck_was c.args.position c.args.self.now c.loop-found.self c.loop-found.found c.requires c.loop-found.invariant
    (struck_out c.args.position c.args.self.now c.loop-found.self c.loop-found.found c.requires c.loop-found.invariant c.highest.result (sym c.eq.ensures ∙ c.loop-found-test.false) c.highest.ensures.none c.highest.ensures.member c.highest.ensures.greatest)

pub returns-clause-left : goal.returns-clause-left
returns-clause-left c =
    struck_left c.args.position c.args.self.now c.loop-found.self c.loop-found.found c.requires c.loop-found.invariant
    (struck_out c.args.position c.args.self.now c.loop-found.self c.loop-found.found c.requires c.loop-found.invariant c.highest.result (sym c.eq.ensures ∙ c.loop-found-test.false) c.highest.ensures.none c.highest.ensures.member c.highest.ensures.greatest)
