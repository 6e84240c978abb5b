use Rattle.std.proofs.Common.{◌≡◌, ℕ, ◌-◌, ◌<◌, Option, IfSome, IfNone, Contains, sym, ap, ◌∙◌, subst, arith}
use Rattle.ew_model.specs.declared.node.Node.{Node}
use Rattle.walker_record.specs.Stretches.{node_on}
use Rattle.order_tree.specs.Pairs.{runs}
use Rattle.character_runs.specs.declared.runs.reading.Found.{Found}
use Rattle.character_runs.specs.Laid.{IsOffset, Stands}
use Rattle.character_runs.specs.Loose.{MayBeCut}
use Rattle.character_runs.proofs.FoundCuts.{found_stands}
use Rattle.character_runs.proofs.PartRuns.{begun_part, ended_part, stands_still}
use Rattle.character_runs.proofs.runs.Runs.part.Goals as goal

pub unreachable-requires : goal.unreachable-requires
unreachable-requires g c =
    let ps = c.args.self.now.tree.pairs in
    let qs = c.begin_found.new.self.tree.pairs in
    let found = c.args.found in
    stands_still ps qs found.label found.offset c.args.first (found_stands ps found.label found.offset found.run c.args.first c.requires.held c.requires.offset) c.begin_found.ensures.chars
    (subst (λ (o : Option Found). IfNone o ((label n : ℕ) → Stands qs label n c.args.first → ⊥)) c.in_default.is c.in_ok-begun.ensures.none)

pub node_at-last-requires : goal.node_at-last-requires
node_at-last-requires g c =
    let ps = c.args.self.now.tree.pairs in
    let qs = c.begin_found.new.self.tree.pairs in
    let found = c.args.found in
    let begun = c.in-Some.begun in
    let held : Contains qs (begun.label, begun.run) = subst (λ (o : Option Found). IfSome o (λ f. Contains qs (f.label, f.run))) c.in-Some.is c.in_ok-begun.ensures.held in
    let place : IsOffset begun.run c.args.first begun.offset = subst (λ (o : Option Found). IfSome o (λ f. IsOffset f.run c.args.first f.offset)) c.in-Some.is c.in_ok-begun.ensures.offset in
    let rest = begun_part ps qs c.args.self.now.labels c.begin_found.new.self.labels c.requires.laid c.begin_found.ensures.laid c.facts.ensures.rising c.facts-2.ensures.rising
    c.args.first found.label found.offset found.run c.requires.held c.requires.offset begun.label begun.offset begun.run held place c.begin_found.ensures.cut c.in_ok-begun.ensures.first in
    let long = rest.len in
    omega (arith, long, c.requires.inside, c.requires.some)

pub end_found-requires-clause-offset : goal.end_found-requires-clause-offset
end_found-requires-clause-offset g c =
    let ps = c.args.self.now.tree.pairs in
    let qs = c.begin_found.new.self.tree.pairs in
    let found = c.args.found in
    let begun = c.in-Some.begun in
    let held : Contains qs (begun.label, begun.run) = subst (λ (o : Option Found). IfSome o (λ f. Contains qs (f.label, f.run))) c.in-Some.is c.in_ok-begun.ensures.held in
    let place : IsOffset begun.run c.args.first begun.offset = subst (λ (o : Option Found). IfSome o (λ f. IsOffset f.run c.args.first f.offset)) c.in-Some.is c.in_ok-begun.ensures.offset in
    let rest = begun_part ps qs c.args.self.now.labels c.begin_found.new.self.labels c.requires.laid c.begin_found.ensures.laid c.facts.ensures.rising c.facts-2.ensures.rising
    c.args.first found.label found.offset found.run c.requires.held c.requires.offset begun.label begun.offset begun.run held place c.begin_found.ensures.cut c.in_ok-begun.ensures.first in
    let long = rest.len in
    let less : c.args.count - 1 < begun.run.len = omega (arith, long, c.requires.inside, c.requires.some) in
    (less, sym c.node_at-last.ensures)

pub unreachable-requires-in_default-2 : goal.unreachable-requires-in_default-2
unreachable-requires-in_default-2 g c =
    let ps = c.args.self.now.tree.pairs in
    let qs = c.begin_found.new.self.tree.pairs in
    let found = c.args.found in
    let begun = c.in-Some.begun in
    let held : Contains qs (begun.label, begun.run) = subst (λ (o : Option Found). IfSome o (λ f. Contains qs (f.label, f.run))) c.in-Some.is c.in_ok-begun.ensures.held in
    let place : IsOffset begun.run c.args.first begun.offset = subst (λ (o : Option Found). IfSome o (λ f. IsOffset f.run c.args.first f.offset)) c.in-Some.is c.in_ok-begun.ensures.offset in
    let rest = begun_part ps qs c.args.self.now.labels c.begin_found.new.self.labels c.requires.laid c.begin_found.ensures.laid c.facts.ensures.rising c.facts-2.ensures.rising
    c.args.first found.label found.offset found.run c.requires.held c.requires.offset begun.label begun.offset begun.run held place c.begin_found.ensures.cut c.in_ok-begun.ensures.first in
    let long = rest.len in
    let less : c.args.count - 1 < begun.run.len = omega (arith, long, c.requires.inside, c.requires.some) in
    let last = c.node_at-last.result in
    let rs = c.end_found.new.self.tree.pairs in
    stands_still qs rs begun.label (c.args.count - 1) last (found_stands qs begun.label (c.args.count - 1) begun.run last held (less, sym c.node_at-last.ensures)) c.end_found.ensures.chars
    (subst (λ (o : Option Found). IfNone o ((label n : ℕ) → Stands rs label n last → ⊥)) c.in_default-2.is c.in_ok-part.ensures.none)

pub returns-in_err-part-clause-cut : goal.returns-in_err-part-clause-cut
returns-in_err-part-clause-cut g c =
    let ps = c.args.self.now.tree.pairs in
    let qs = c.begin_found.new.self.tree.pairs in
    let found = c.args.found in
    let begun = c.in-Some.begun in
    let held : Contains qs (begun.label, begun.run) = subst (λ (o : Option Found). IfSome o (λ f. Contains qs (f.label, f.run))) c.in-Some.is c.in_ok-begun.ensures.held in
    let place : IsOffset begun.run c.args.first begun.offset = subst (λ (o : Option Found). IfSome o (λ f. IsOffset f.run c.args.first f.offset)) c.in-Some.is c.in_ok-begun.ensures.offset in
    let rest = begun_part ps qs c.args.self.now.labels c.begin_found.new.self.labels c.requires.laid c.begin_found.ensures.laid c.facts.ensures.rising c.facts-2.ensures.rising
    c.args.first found.label found.offset found.run c.requires.held c.requires.offset begun.label begun.offset begun.run held place c.begin_found.ensures.cut c.in_ok-begun.ensures.first in
    let last : c.node_at-last.result ≡ node_on c.args.first (c.args.count - 1) = c.node_at-last.ensures ∙ ap (λ (w : Node). node_on w (c.args.count - 1)) rest.from in
    (runs qs, c.begin_found.ensures.cut, subst (λ (w : Node). MayBeCut (runs qs) (runs c.end_found.new.self.tree.pairs) (node_on w 1)) last c.end_found.ensures.cut)

pub returns-clause-cut : goal.returns-clause-cut
returns-clause-cut g c =
    let ps = c.args.self.now.tree.pairs in
    let qs = c.begin_found.new.self.tree.pairs in
    let found = c.args.found in
    let begun = c.in-Some.begun in
    let held : Contains qs (begun.label, begun.run) = subst (λ (o : Option Found). IfSome o (λ f. Contains qs (f.label, f.run))) c.in-Some.is c.in_ok-begun.ensures.held in
    let place : IsOffset begun.run c.args.first begun.offset = subst (λ (o : Option Found). IfSome o (λ f. IsOffset f.run c.args.first f.offset)) c.in-Some.is c.in_ok-begun.ensures.offset in
    let rest = begun_part ps qs c.args.self.now.labels c.begin_found.new.self.labels c.requires.laid c.begin_found.ensures.laid c.facts.ensures.rising c.facts-2.ensures.rising
    c.args.first found.label found.offset found.run c.requires.held c.requires.offset begun.label begun.offset begun.run held place c.begin_found.ensures.cut c.in_ok-begun.ensures.first in
    let last : c.node_at-last.result ≡ node_on c.args.first (c.args.count - 1) = c.node_at-last.ensures ∙ ap (λ (w : Node). node_on w (c.args.count - 1)) rest.from in
    (runs qs, c.begin_found.ensures.cut, subst (λ (w : Node). MayBeCut (runs qs) (runs c.end_found.new.self.tree.pairs) (node_on w 1)) last c.end_found.ensures.cut)

pub returns-clause-first : goal.returns-clause-first
returns-clause-first g c =
    let ps = c.args.self.now.tree.pairs in
    let qs = c.begin_found.new.self.tree.pairs in
    let found = c.args.found in
    let begun = c.in-Some.begun in
    let held : Contains qs (begun.label, begun.run) = subst (λ (o : Option Found). IfSome o (λ f. Contains qs (f.label, f.run))) c.in-Some.is c.in_ok-begun.ensures.held in
    let place : IsOffset begun.run c.args.first begun.offset = subst (λ (o : Option Found). IfSome o (λ f. IsOffset f.run c.args.first f.offset)) c.in-Some.is c.in_ok-begun.ensures.offset in
    let rest = begun_part ps qs c.args.self.now.labels c.begin_found.new.self.labels c.requires.laid c.begin_found.ensures.laid c.facts.ensures.rising c.facts-2.ensures.rising
    c.args.first found.label found.offset found.run c.requires.held c.requires.offset begun.label begun.offset begun.run held place c.begin_found.ensures.cut c.in_ok-begun.ensures.first in
    let long = rest.len in
    let less : c.args.count - 1 < begun.run.len = omega (arith, long, c.requires.inside, c.requires.some) in
    let last = c.node_at-last.result in
    let at : IsOffset begun.run last (c.args.count - 1) = (less, sym c.node_at-last.ensures) in
    let rs = c.end_found.new.self.tree.pairs in
    let part = c.in-Some-2.part in
    let front = ended_part qs rs c.begin_found.new.self.labels c.end_found.new.self.labels c.begin_found.ensures.laid c.end_found.ensures.laid c.facts-2.ensures.rising c.facts-3.ensures.rising
    last begun.label (c.args.count - 1) begun.run held at part.label part.offset part.run
    (subst (λ (o : Option Found). IfSome o (λ f. Contains rs (f.label, f.run))) c.in-Some-2.is c.in_ok-part.ensures.held)
    (subst (λ (o : Option Found). IfSome o (λ f. IsOffset f.run last f.offset)) c.in-Some-2.is c.in_ok-part.ensures.offset)
    c.end_found.ensures.cut c.in_ok-part.ensures.last in
    front.from ∙ rest.from

pub returns-clause-long : goal.returns-clause-long
returns-clause-long g c =
    let ps = c.args.self.now.tree.pairs in
    let qs = c.begin_found.new.self.tree.pairs in
    let found = c.args.found in
    let begun = c.in-Some.begun in
    let held : Contains qs (begun.label, begun.run) = subst (λ (o : Option Found). IfSome o (λ f. Contains qs (f.label, f.run))) c.in-Some.is c.in_ok-begun.ensures.held in
    let place : IsOffset begun.run c.args.first begun.offset = subst (λ (o : Option Found). IfSome o (λ f. IsOffset f.run c.args.first f.offset)) c.in-Some.is c.in_ok-begun.ensures.offset in
    let rest = begun_part ps qs c.args.self.now.labels c.begin_found.new.self.labels c.requires.laid c.begin_found.ensures.laid c.facts.ensures.rising c.facts-2.ensures.rising
    c.args.first found.label found.offset found.run c.requires.held c.requires.offset begun.label begun.offset begun.run held place c.begin_found.ensures.cut c.in_ok-begun.ensures.first in
    let long = rest.len in
    let less : c.args.count - 1 < begun.run.len = omega (arith, long, c.requires.inside, c.requires.some) in
    let last = c.node_at-last.result in
    let at : IsOffset begun.run last (c.args.count - 1) = (less, sym c.node_at-last.ensures) in
    let rs = c.end_found.new.self.tree.pairs in
    let part = c.in-Some-2.part in
    let front = ended_part qs rs c.begin_found.new.self.labels c.end_found.new.self.labels c.begin_found.ensures.laid c.end_found.ensures.laid c.facts-2.ensures.rising c.facts-3.ensures.rising
    last begun.label (c.args.count - 1) begun.run held at part.label part.offset part.run
    (subst (λ (o : Option Found). IfSome o (λ f. Contains rs (f.label, f.run))) c.in-Some-2.is c.in_ok-part.ensures.held)
    (subst (λ (o : Option Found). IfSome o (λ f. IsOffset f.run last f.offset)) c.in-Some-2.is c.in_ok-part.ensures.offset)
    c.end_found.ensures.cut c.in_ok-part.ensures.last in
    let most = front.len in
    omega (arith, most, c.requires.some)

pub returns-clause-prepared : goal.returns-clause-prepared
returns-clause-prepared g c =
    let ps = c.args.self.now.tree.pairs in
    let qs = c.begin_found.new.self.tree.pairs in
    let found = c.args.found in
    let begun = c.in-Some.begun in
    let held : Contains qs (begun.label, begun.run) = subst (λ (o : Option Found). IfSome o (λ f. Contains qs (f.label, f.run))) c.in-Some.is c.in_ok-begun.ensures.held in
    let place : IsOffset begun.run c.args.first begun.offset = subst (λ (o : Option Found). IfSome o (λ f. IsOffset f.run c.args.first f.offset)) c.in-Some.is c.in_ok-begun.ensures.offset in
    let rest = begun_part ps qs c.args.self.now.labels c.begin_found.new.self.labels c.requires.laid c.begin_found.ensures.laid c.facts.ensures.rising c.facts-2.ensures.rising
    c.args.first found.label found.offset found.run c.requires.held c.requires.offset begun.label begun.offset begun.run held place c.begin_found.ensures.cut c.in_ok-begun.ensures.first in
    let long = rest.len in
    let less : c.args.count - 1 < begun.run.len = omega (arith, long, c.requires.inside, c.requires.some) in
    let last = c.node_at-last.result in
    let at : IsOffset begun.run last (c.args.count - 1) = (less, sym c.node_at-last.ensures) in
    let rs = c.end_found.new.self.tree.pairs in
    let part = c.in-Some-2.part in
    let front = ended_part qs rs c.begin_found.new.self.labels c.end_found.new.self.labels c.begin_found.ensures.laid c.end_found.ensures.laid c.facts-2.ensures.rising c.facts-3.ensures.rising
    last begun.label (c.args.count - 1) begun.run held at part.label part.offset part.run
    (subst (λ (o : Option Found). IfSome o (λ f. Contains rs (f.label, f.run))) c.in-Some-2.is c.in_ok-part.ensures.held)
    (subst (λ (o : Option Found). IfSome o (λ f. IsOffset f.run last f.offset)) c.in-Some-2.is c.in_ok-part.ensures.offset)
    c.end_found.ensures.cut c.in_ok-part.ensures.last in
    front.prepared ∙ rest.prepared
