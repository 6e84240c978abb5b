use Rattle.std.proofs.Common.{◌∙◌, sym, ap, subst}
use Rattle.replica.proofs.FrontWalks.{AreWalked, may_write, text_made, lengths_made}
use Rattle.replica.specs.Keeping.{IsToldBy}
use Rattle.replica.specs.LazyTexts.{ToldText}
use Rattle.replica.proofs.load.load.Given.{Over}
use Rattle.replica.proofs.load.load.Goals as goal
use Rattle.replica.proofs.load.load.Goals.{In_ok-ops}

walked : (g : Over) (c : In_ok-ops g) → AreWalked c.args.graph.now c.in_ok-ops.ops
walked g c = record { none = c.in_ok-ops.ensures.good; ops_are = c.in_ok-ops.ensures.ops }

pub written-requires-clause-fit : goal.written-requires-clause-fit
written-requires-clause-fit g c = (may_write c.args.graph.now c.in_ok-ops.ops (walked g c) c.requires.few).0

pub written-requires-clause-short : goal.written-requires-clause-short
written-requires-clause-short g c = (may_write c.args.graph.now c.in_ok-ops.ops (walked g c) c.requires.few).1

pub returns-clause-text : goal.returns-clause-text
returns-clause-text g c = ap (λ (t : ToldText). t.characters) c.in_ok-made.ensures.text ∙ text_made c.args.graph.now c.in_ok-ops.ops (walked g (goal.at.returns-clause-text g c).In_ok-ops)

pub returns-clause-lengths : goal.returns-clause-lengths
returns-clause-lengths g c = c.in_ok-made.ensures.lengths ∙ lengths_made c.args.graph.now c.in_ok-ops.ops (walked g (goal.at.returns-clause-lengths g c).In_ok-ops)

pub returns-clause-told : goal.returns-clause-told
returns-clause-told g c = subst (λ (t : ToldText). IsToldBy c.args.graph.now t.told) (sym c.in_ok-made.ensures.text) c.in_ok-ops.ensures.ops
