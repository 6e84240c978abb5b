use Rattle.std.proofs.Common.{List, take, sym, subst}
use Rattle.ew_model.specs.declared.event.Event.{Event}
use Rattle.event_graph.specs.Keeping.{IsKeptOf}
use Rattle.event_graph.specs.Tails.{Standing}
use Rattle.event_graph.proofs.Grown.{told}
use Rattle.event_graph.proofs.Tails.{cut_back}
use Rattle.event_graph.proofs.graph.Graph.drop_tail.Goals as goal

back : (c : goal.After-drop-self-inside-4) → IsKeptOf (take c.args.hold.count c.args.self.now) c.truncate.new.self c.truncate-2.new.self c.hold.inside.heads c.hold.inside.cuts
back c =
    let now = c.args.self.now in
    let inside = c.self.inside in
    let kept : IsKeptOf now inside.ids inside.events inside.heads inside.cuts = subst (λ (h : List Event). IsKeptOf h inside.ids inside.events inside.heads inside.cuts) c.self.view_is c.self.invariant in
    let parts : Standing = record { count = c.hold.inside.count; heads = c.hold.inside.heads; cuts = c.hold.inside.cuts } in
    cut_back now inside.ids inside.events inside.heads inside.cuts c.args.hold parts c.truncate.new.self c.truncate-2.new.self kept c.hold.view_is c.requires c.truncate.ensures c.truncate-2.ensures

pub invariant_of-self : goal.invariant_of-self
invariant_of-self c =
    let front = take c.args.hold.count c.args.self.now in
    let parts = back c in
    subst (λ (h : List Event). IsKeptOf h c.truncate.new.self c.truncate-2.new.self c.hold.inside.heads c.hold.inside.cuts)
    (sym (told front c.truncate.new.self c.truncate-2.new.self c.hold.inside.heads c.hold.inside.cuts parts)) parts

pub returns : goal.returns
returns c = told (take c.args.hold.count c.args.self.now) c.truncate.new.self c.truncate-2.new.self c.hold.inside.heads c.hold.inside.cuts (back c)
