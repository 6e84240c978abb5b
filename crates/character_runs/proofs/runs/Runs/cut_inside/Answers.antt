use Rattle.std.proofs.Common.{ℕ, ◌<◌, Option, IfSome, IfNone, ◌∙◌, subst, sym, ap, List, inl}
use Rattle.character_runs.specs.declared.runs.Spot.{Spot}
use Rattle.character_runs.specs.Laid.{Stands}
use Rattle.character_runs.proofs.RunsAt.{same_chars, stands_too}
use Rattle.character_runs.proofs.KnownRuns.{held_label}
use Rattle.character_runs.proofs.PartedRuns.{same_run}
use Rattle.character_runs.proofs.Parting.{still_begins, still_inside}
use Rattle.walker_record.specs.Stretches.{Stretch}
use Rattle.order_tree.specs.Pairs.{HasRoom, runs}
use Rattle.character_runs.specs.Loose.{MayBeCut}
use Rattle.character_runs.proofs.runs.Runs.cut_inside.Goals as goal

pub returns-in_err-spot-clause-chars : goal.returns-in_err-spot-clause-chars
returns-in_err-spot-clause-chars g c = same_chars c.make_room.new.self.tree.pairs c.args.self.now.tree.pairs c.make_room.ensures.runs

pub returns-in_err-spot-clause-begun : goal.returns-in_err-spot-clause-begun
returns-in_err-spot-clause-begun g c =
    still_begins c.args.self.now.tree.pairs c.make_room.new.self.tree.pairs c.args.self.now.labels c.make_room.new.self.labels c.requires.laid c.make_room.ensures.laid c.make_room.ensures.runs

pub unreachable-requires : goal.unreachable-requires
unreachable-requires g c =
    let ps = c.args.self.now.tree.pairs in
    let qs = c.make_room.new.self.tree.pairs in
    let none = subst (λ (o : Option Spot). IfNone o ((label n : ℕ) → Stands qs label n c.args.node → ⊥)) c.in_default.is c.in_ok-spot.ensures.none in
    let there = stands_too ps qs (sym c.make_room.ensures.runs) c.requires.inside.0 c.requires.inside.1 c.args.node c.requires.inside.2 in
    none there.0 c.requires.inside.1 there.1

pub split-requires-clause-inside : goal.split-requires-clause-inside
split-requires-clause-inside g c =
    let ps = c.args.self.now.tree.pairs in
    let qs = c.make_room.new.self.tree.pairs in
    let spot = c.in-Some.spot in
    let stands = subst (λ (o : Option Spot). IfSome o (λ s. Stands qs s.label s.offset c.args.node)) c.in-Some.is c.in_ok-spot.ensures.spot in
    still_inside ps qs c.args.self.now.labels c.make_room.new.self.labels c.requires.laid c.make_room.ensures.laid c.make_room.ensures.runs c.args.node
    c.requires.inside.0 c.requires.inside.1 spot.label spot.offset c.requires.inside.2 c.requires.inside.3 stands

pub record-requires : goal.record-requires
record-requires g c =
    let qs = c.make_room.new.self.tree.pairs in
    let spot = c.in-Some.spot in
    let stands = subst (λ (o : Option Spot). IfSome o (λ s. Stands qs s.label s.offset c.args.node)) c.in-Some.is c.in_ok-spot.ensures.spot in
    held_label qs spot.label stands.run stands.held

pub share_behind-requires : goal.share_behind-requires
share_behind-requires g c =
    let qs = c.make_room.new.self.tree.pairs in
    let spot = c.in-Some.spot in
    let stands = subst (λ (o : Option Spot). IfSome o (λ s. Stands qs s.label s.offset c.args.node)) c.in-Some.is c.in_ok-spot.ensures.spot in
    let inside = subst (λ (r : Stretch). spot.offset < r.len) (same_run qs spot.label stands.run c.record.result c.facts.ensures.rising stands.held c.record.ensures) stands.inside in
    record { inside = subst (λ (n : ℕ). spot.offset < n) (sym (ap (λ (r : Stretch). r.len) c.size.view_is)) inside }

pub unreachable-requires-in_default-share_behind : goal.unreachable-requires-in_default-share_behind
unreachable-requires-in_default-share_behind g c =
    let qs = c.make_room.new.self.tree.pairs in
    let room = subst (λ (o : Option Spot). IfSome o (λ s. HasRoom qs s.label)) c.in-Some.is c.in_ok-spot.ensures.behind in
    let none = subst (λ (o : Option ℕ). IfNone o (HasRoom qs c.in-Some.spot.label → ⊥)) c.in_default-share_behind.is c.share_behind.ensures.none in
    none room

pub returns-clause-chars : goal.returns-clause-chars
returns-clause-chars g c = c.split.ensures.chars ∙ same_chars c.make_room.new.self.tree.pairs c.args.self.now.tree.pairs c.make_room.ensures.runs

pub returns-clause-begun : goal.returns-clause-begun
returns-clause-begun g c v first =
    c.split.ensures.begun v
    (still_begins c.args.self.now.tree.pairs c.make_room.new.self.tree.pairs c.args.self.now.labels c.make_room.new.self.labels c.requires.laid c.make_room.ensures.laid c.make_room.ensures.runs v first)

pub returns-in_err-spot-clause-cut : goal.returns-in_err-spot-clause-cut
returns-in_err-spot-clause-cut g c = inl c.make_room.ensures.runs

pub returns-clause-cut : goal.returns-clause-cut
returns-clause-cut g c = subst (λ (rs : List Stretch). MayBeCut rs (runs c.split.new.self.tree.pairs) c.args.node) c.make_room.ensures.runs c.split.ensures.cut
