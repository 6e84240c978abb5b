use Rattle.std.proofs.Common.{◌≡◌, ◌∙◌, ◌<◌, List, take, length, sym, ap, subst, arith}
use Rattle.ew_model.specs.declared.event.Event.{Event}
use Rattle.ew_model.specs.Positions.{parents_at, parent_positions}
use Rattle.event_graph.specs.Keeping.{IsKeptOf}
use Rattle.event_graph.proofs.CutBack.{critical_at, gone_back}
use Rattle.event_graph.proofs.Grown.{told}
use Rattle.event_graph.proofs.Kept.{agreement, length_events, parents_are}
use Rattle.event_graph.proofs.graph.Graph.truncate.Goals as goal

back : (c : goal.After-truncate-then-cut-count-2) → IsKeptOf (take c.args.cut c.args.self.now) c.truncate.new.self c.truncate-then-cut-count.new.self c.from_rising.result c.truncate-then-cut-count-2.new.self
back c =
    let now = c.args.self.now in
    let cut = c.args.cut in
    let inside = c.self.inside in
    let kept : IsKeptOf now inside.ids inside.events inside.heads inside.cuts = subst (λ (h : List Event). IsKeptOf h inside.ids inside.events inside.heads inside.cuts) c.self.view_is c.self.invariant in
    let more : cut < length now = omega (arith, c.if-cut-count.true, c.count.ensures.count, length_events now inside.ids inside.events inside.heads inside.cuts kept) in
    let heads : c.from_rising.result ≡ parents_at (parent_positions now) cut =
    c.from_rising.ensures ∙ c.parents_at.ensures.value ∙ ap (λ (lists : List (List _)). parents_at lists cut) (parents_are now inside.ids inside.events inside.heads inside.cuts kept) in
    let agree = agreement now inside.ids inside.events inside.heads inside.cuts kept in
    gone_back now cut inside.ids inside.events inside.heads inside.cuts kept c.requires more c.truncate.new.self c.truncate-then-cut-count.new.self c.from_rising.result c.truncate-then-cut-count-2.new.self c.truncate.ensures c.truncate-then-cut-count.ensures heads
    (c.truncate-then-cut-count-2.ensures (parent_positions now) agree.parents kept.cuts_are (critical_at now cut inside.ids inside.events inside.heads inside.cuts kept c.requires))

pub invariant_of-self : goal.invariant_of-self
invariant_of-self c =
    subst (λ (h : List Event). IsKeptOf h c.truncate.new.self c.truncate-then-cut-count.new.self c.from_rising.result c.truncate-then-cut-count-2.new.self)
    (sym (told (take c.args.cut c.args.self.now) c.truncate.new.self c.truncate-then-cut-count.new.self c.from_rising.result c.truncate-then-cut-count-2.new.self (back c))) (back c)

pub returns-then-cut-count : goal.returns-then-cut-count
returns-then-cut-count c = told (take c.args.cut c.args.self.now) c.truncate.new.self c.truncate-then-cut-count.new.self c.from_rising.result c.truncate-then-cut-count-2.new.self (back c)
