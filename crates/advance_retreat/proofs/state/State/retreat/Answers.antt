use Rattle.std.proofs.Common.{rules, ◌≡◌, List, [], map, length, ◌≤◌, ◌^◌, Some, sym, ap, ◌∙◌, subst}
use Rattle.std.specs.List.{AllByRecursion}
use Rattle.ew_model.specs.Records.{without}
use Rattle.ew_model.specs.declared.node.Node.TheVariants.{Root}
use Rattle.walker_record.specs.Stretches.{Stretch}
use Rattle.fugue_place.specs.declared.child.Attached.{Attached}
use Rattle.fugue_place.specs.Attachments.{is_there, AreAttached}
use Rattle.character_runs.specs.declared.change.Change.TheVariants.{Lower}
use Rattle.advance_retreat.specs.Kept.{Kept, target_at}
use Rattle.character_runs.specs.States.{HasRoom, changed_at}
use Rattle.advance_retreat.specs.Refusals.{is_told}
use Rattle.advance_retreat.specs.Standing.{StandsFor}
use Rattle.advance_retreat.proofs.Hanging.{few_records, target_there}
use Rattle.advance_retreat.proofs.Keeping.{has_room}
use Rattle.advance_retreat.proofs.LooseEvents.{found_told, same_few}
use Rattle.advance_retreat.proofs.Moving.{with_records, no_target, retreated_by, retreated_past}
use Rattle.advance_retreat.proofs.state.State.retreat.Goals as goal

pub change-requires-clause-room : goal.change-requires-clause-room
change-requires-clause-room g c =
    let q = c.requires in
    subst (AllByRecursion HasRoom) (sym (ap (λ (s : Kept). s.records) c.self.view_is)) (has_room c.args.self.now q.0 q.1 q.2 q.3)

pub change-requires-clause-few : goal.change-requires-clause-few
change-requires-clause-few g c =
    let q = c.requires in
    subst (λ (s : Kept). length s.records ≤ 2 ^ 25) (sym c.self.view_is) (few_records c.args.self.now q.0 q.1 q.2 q.3)

pub change-requires-clause-sound : goal.change-requires-clause-sound
change-requires-clause-sound g c = subst (λ (s : Kept). AreAttached [] s.attached) (sym c.self.view_is) c.requires.3.children.sound

pub change-requires-clause-there : goal.change-requires-clause-there
change-requires-clause-there g c =
    let q = c.requires in
    let read = ap (λ (s : Kept). s.targets) c.self.view_is in
    ap (λ (s : Kept). is_there s.attached c.in-Some.node) c.self.view_is
    ∙ target_there c.args.self.now q.0 q.1 q.2 q.3 c.args.lv c.in-Some.node (sym (c.node.ensures ∙ ap (λ ts. target_at ts c.args.lv) read) ∙ c.in-Some.is) q.4.0

pub returns-in_ok-change-clause-ok : goal.returns-in_ok-change-clause-ok
returns-in_ok-change-clause-ok g c = λ b events prepared st may.
    let now = c.args.self.now in
    let read = ap (λ (s : Kept). s.targets) c.self.view_is in
    let found : target_at now.targets c.args.lv ≡ Some c.in-Some.node = sym (c.node.ensures ∙ ap (λ ts. target_at ts c.args.lv) read) ∙ c.in-Some.is in
    let records : c.change.new.self.records ≡ map (changed_at c.in-Some.node Lower) now.records = c.in_ok-change.ensures.ok ∙ ap (λ (s : Kept). map (changed_at c.in-Some.node Lower) s.records) c.self.view_is in
    let inside = c.self.inside in
    let ks = c.change.new.self.records in
    subst (λ (xs : List Attached). StandsFor (record { base = inside.base; records = ks; attached = xs; targets = inside.targets; lost = inside.lost }) b events (without c.args.lv prepared)) (sym c.change.ensures.attached)
    (subst (λ (s : Kept). StandsFor s b events (without c.args.lv prepared)) (ap (λ (s : Kept). with_records s c.change.new.self.records) (sym c.self.view_is))
    (subst (λ (rs : List Stretch). StandsFor (with_records now rs) b events (without c.args.lv prepared)) (sym records)
    (retreated_by now b events prepared st c.args.lv c.in-Some.node found may.0 may.1)))

pub returns-else-ne-clause-ok : goal.returns-else-ne-clause-ok
returns-else-ne-clause-ok g c = λ b events prepared st may.
    let now = c.args.self.now in
    let read = ap (λ (s : Kept). s.targets) c.self.view_is in
    let root : c.in-Some.node ≡ Root = search rules in
    let found : target_at now.targets c.args.lv ≡ Some Root = sym (c.node.ensures ∙ ap (λ ts. target_at ts c.args.lv) read) ∙ c.in-Some.is ∙ ap (λ v. Some v) root in
    retreated_past now b events prepared st c.args.lv found may.0 may.1

pub returns-in_default-clause-ok : goal.returns-in_default-clause-ok
returns-in_default-clause-ok g c = λ b events prepared st may.
    let read = ap (λ (s : Kept). s.targets) c.self.view_is in
    absurd (no_target c.args.self.now b events prepared st c.args.lv may.0 (sym (c.node.ensures ∙ ap (λ ts. target_at ts c.args.lv) read) ∙ c.in_default.is))

pub invariant_of-self : goal.invariant_of-self
invariant_of-self g c =
    let inside = c.self.inside in
    let told = found_told inside.targets c.args.lv c.in-Some.node (sym c.node.ensures ∙ c.in-Some.is) in
    same_few inside.targets inside.tree.runs c.change.new.self.runs inside.lost c.self.invariant (c.change.ensures.told (is_told inside.targets) told)

pub invariant_of-self-in_err-change : goal.invariant_of-self-in_err-change
invariant_of-self-in_err-change g c =
    let inside = c.self.inside in
    let told = found_told inside.targets c.args.lv c.in-Some.node (sym c.node.ensures ∙ c.in-Some.is) in
    same_few inside.targets inside.tree.runs c.change.new.self.runs inside.lost c.self.invariant (c.change.ensures.told (is_told inside.targets) told)
