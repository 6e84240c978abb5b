use Rattle.std.proofs.Common.{ℕ, Option, Some, None, Contains, IfSome, subst, inr}
use Rattle.walker_record.specs.Stretches.{Stretch}
use Rattle.order_tree.specs.Pairs.{HasRoom}
use Rattle.character_runs.specs.declared.runs.Spot.{Spot}
use Rattle.character_runs.specs.Laid.{Stands}
use Rattle.character_runs.proofs.KnownRuns.{held_label}
use Rattle.character_runs.proofs.runs.Runs.make_room_at.Goals as goal

pub returns-in-Some-2-clause-spot : goal.returns-in-Some-2-clause-spot
returns-in-Some-2-clause-spot g c =
    let ps = c.args.self.now.tree.pairs in
    let qs = c.relabel_about.new.self.tree.pairs in
    let stands = subst (λ (o : Option Spot). IfSome o (λ s. Stands ps s.label s.offset c.args.node)) c.in-Some.is c.requires.spot in
    let held = subst (λ (o : Option ℕ). IfSome o (λ own. (run : Stretch) → Contains ps (c.in-Some.field-0.label, run) → Contains qs (own, run))) c.in-Some-2.is c.in_ok-label.ensures.own in
    record { run = stands.run; held = held stands.run stands.held; inside = stands.inside; node = stands.node }

pub returns-clause-behind : goal.returns-clause-behind
returns-clause-behind g c = at c.find.result c.find.ensures.some
  where
    at : (o : Option Spot) → IfSome o (λ s. Stands c.relabel.new.self.tree.pairs s.label s.offset c.args.node) → IfSome o (λ s. HasRoom c.relabel.new.self.tree.pairs s.label)
    at None h = h
    at (Some s) h = c.in_ok-relabel.ensures.room s.label (inr (held_label c.relabel.new.self.tree.pairs s.label h.run h.held))
