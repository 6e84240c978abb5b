use Rattle.std.proofs.Common.{◌∙◌, List, map, sym, subst, refl, arith}
use Rattle.std.proofs.lemmas.List.{length-map}
use Rattle.critical.specs.declared.spans.CutSpan.{CutSpan}
use Rattle.critical.proofs.Chains.{added, Added}
use Rattle.critical.proofs.spans.add_cuts.Goals.{After-lengthen_last_to}
use Rattle.critical.proofs.spans.add_cuts.Goals as goal

all : (c : After-lengthen_last_to) → Added c.args.spans.now.items c.lengthen_last_to.new.spans.items (map (λ v. v.items) c.args.heads.now.items) (map (λ v. v.items) c.add_cut.new.heads.items) c.args.cut c.args.count
all c =
    subst (λ (ss : List CutSpan). Added c.args.spans.now.items ss (map (λ v. v.items) c.args.heads.now.items) (map (λ v. v.items) c.add_cut.new.heads.items) c.args.cut c.args.count) (sym c.lengthen_last_to.ensures)
    (added c.args.spans.now.items c.add_cut.new.spans.items (map (λ v. v.items) c.args.heads.now.items) (map (λ v. v.items) c.add_cut.new.heads.items) c.args.cut c.args.count c.requires.some (omega arith)
    c.in_ok-add_cut.ensures.cuts (c.in_ok-add_cut.ensures.heads (λ _. refl)) c.in_ok-add_cut.ensures.rising c.in_ok-add_cut.ensures.ends (length-map c.add_cut.new.heads.items (λ v. v.items) ∙ c.in_ok-add_cut.ensures.alike))

pub returns-clause-cuts : goal.returns-clause-cuts
returns-clause-cuts c = (all c).cuts

pub returns-clause-heads : goal.returns-clause-heads
returns-clause-heads c = (all c).heads

pub returns-clause-rising : goal.returns-clause-rising
returns-clause-rising c = (all c).rising

pub returns-clause-ends : goal.returns-clause-ends
returns-clause-ends c = (all c).ends

pub returns-clause-alike : goal.returns-clause-alike
returns-clause-alike c = sym (length-map c.add_cut.new.heads.items (λ v. v.items)) ∙ (all c).alike
