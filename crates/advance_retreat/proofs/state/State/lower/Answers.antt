use Rattle.std.proofs.Common.{◌≡◌, ◌-◌, ◌≤◌, ◌^◌, List, [], Option, IfSome, length, reverse, sym, ap, ◌∙◌, subst, arith}
use Rattle.std.specs.List.{AllByRecursion, list_any, range_with_len}
use Rattle.ew_model.specs.declared.node.Node.TheVariants.{Event}
use Rattle.walker_record.specs.Stretches.{Stretch}
use Rattle.fugue_place.specs.declared.child.Attached.{Attached}
use Rattle.fugue_place.specs.Attachments.{is_there, AreAttached}
use Rattle.character_runs.specs.declared.change.Change.TheVariants.{Lower}
use Rattle.advance_retreat.specs.Conditions.{Retreated}
use Rattle.advance_retreat.specs.declared.line.Line.{Line}
use Rattle.advance_retreat.specs.declared.line.Way.TheVariants.{Down}
use Rattle.advance_retreat.specs.Lines.{IsLineFrom}
use Rattle.advance_retreat.specs.Kept.{Kept}
use Rattle.character_runs.specs.States.{HasRoom, is_of}
use Rattle.advance_retreat.proofs.Hanging.{few_records}
use Rattle.advance_retreat.proofs.Keeping.{has_room}
use Rattle.advance_retreat.proofs.LineMoves.{line_lowered, part_few}
use Rattle.advance_retreat.proofs.Recorded.{recorded_there}
use Rattle.advance_retreat.proofs.SpanMoves.{changed_span}
use Rattle.advance_retreat.proofs.state.State.lower.Goals as goal

pub change_run-requires-clause-room : goal.change_run-requires-clause-room
change_run-requires-clause-room c =
    let q = c.requires.may in
    subst (AllByRecursion HasRoom) (sym (ap (λ (s : Kept). s.records) c.self.view_is)) (has_room c.args.self.now q.0 q.1 q.2 q.3)

pub change_run-requires-clause-few : goal.change_run-requires-clause-few
change_run-requires-clause-few c =
    let q = c.requires.may in
    subst (λ (s : Kept). length s.records ≤ 2 ^ 25) (sym c.self.view_is) (few_records c.args.self.now q.0 q.1 q.2 q.3)

pub change_run-requires-clause-sound : goal.change_run-requires-clause-sound
change_run-requires-clause-sound c = subst (λ (s : Kept). AreAttached [] s.attached) (sym c.self.view_is) c.requires.may.3.children.sound

pub change_run-requires-clause-there : goal.change_run-requires-clause-there
change_run-requires-clause-there c = λ n there.
    let q = c.requires.may in
    ap (λ (s : Kept). is_there s.attached (Event n)) c.self.view_is
    ∙ recorded_there c.args.self.now q.0 q.1 q.2 q.3 n (ap (λ (s : Kept). list_any (is_of (Event n)) s.records) (sym c.self.view_is) ∙ there)

pub returns-clause-ok : goal.returns-clause-ok
returns-clause-ok c = λ b events prepared st may.
    let now = c.args.self.now in
    let inside = c.self.inside in
    let run = c.in_ok-moved.moved in
    let records = c.in_ok-moved.ensures.records in
    let attached = c.change_run.ensures.attached in
    let line = c.in_ok-line.line in
    let build : List Stretch → List Attached → Kept = λ rs xs. record { base = inside.base; records = rs; attached = xs; targets = inside.targets; lost = inside.lost } in
    let view : build c.change_run.new.self.records c.change_run.new.self.attached ≡ changed_span now line.kind run.from run.to Lower =
    (λ i. build (records i) (attached i)) ∙ ap (λ (s : Kept). changed_span s line.kind run.from run.to Lower) c.self.view_is in
    subst (λ (s : Kept). Retreated s b events prepared (reverse (range_with_len c.args.at.from (c.args.at.to - c.args.at.from))) (reverse (range_with_len c.args.at.from ((c.args.at.to - (run.to - run.from)) - c.args.at.from)))) (sym view)
    (line_lowered b events now prepared c.args.at.from c.args.at.to st c.in_ok-characters.characters run line (subst (λ (o : Option Line). IfSome o (IsLineFrom Down c.args.self.now.targets (c.args.at.to - 1) (c.args.at.to - c.args.at.from))) c.in_ok-line.was c.requires.line) c.in_ok-characters.ensures c.in_ok-moved.ensures.part may c.requires.some)

pub returns-clause-some : goal.returns-clause-some
returns-clause-some c =
    let line = c.in_ok-line.line in
    let few = (part_few line.way line.character line.count c.in_ok-characters.characters c.in_ok-moved.moved c.in_ok-characters.ensures c.in_ok-moved.ensures.part).0 in
    omega (arith, few)

pub returns-clause-most : goal.returns-clause-most
returns-clause-most c =
    let line = c.in_ok-line.line in
    let few = (part_few line.way line.character line.count c.in_ok-characters.characters c.in_ok-moved.moved c.in_ok-characters.ensures c.in_ok-moved.ensures.part).1 in
    let most = (subst (λ (o : Option Line). IfSome o (IsLineFrom Down c.args.self.now.targets (c.args.at.to - 1) (c.args.at.to - c.args.at.from))) c.in_ok-line.was c.requires.line).few in
    omega (arith, few, most, c.requires.some)
