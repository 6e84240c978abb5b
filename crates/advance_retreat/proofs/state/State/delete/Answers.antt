use Rattle.std.proofs.Common.{◌≡◌, ℕ, ◌≤◌, ◌^◌, List, ◌∷◌, ◌++◌, [], None, length, Err, refl, sym, ap, ◌∙◌, subst, arith}
use Rattle.std.specs.List.{AllByRecursion}
use Rattle.std.proofs.lemmas.Result.{err_from_is_err_and}
use Rattle.ew_model.specs.Entries.{visible}
use Rattle.ew_model.specs.Places.Act.{DeleteAt}
use Rattle.ew_model.specs.Tree.{Applied}
use Rattle.ew_model.specs.Records.{next_of, prepared_entries}
use Rattle.fugue_place.specs.Attachments.{is_there, AreAttached}
use Rattle.advance_retreat.specs.declared.fault.ApplyFault.TheVariants.{OutOfMemory}
use Rattle.advance_retreat.specs.Kept.{Kept, with_deletion, target_at}
use Rattle.character_runs.specs.States.{HasRoom, visible_in}
use Rattle.character_runs.specs.Spots.{IsDeletion}
use Rattle.advance_retreat.specs.Standing.{StandsFor}
use Rattle.advance_retreat.proofs.Answering.{refused, not_refused, answered}
use Rattle.advance_retreat.proofs.Found.{new_target}
use Rattle.advance_retreat.proofs.Hanging.{few_records, visible_there}
use Rattle.advance_retreat.proofs.Keeping.{has_room, visible_told}
use Rattle.advance_retreat.proofs.Room.{can_follow}
use Rattle.advance_retreat.proofs.SameTrees.{kept_by, same_kept}
use Rattle.advance_retreat.proofs.Deleting.{deleted, deletion_does, in_range}
use Rattle.advance_retreat.proofs.state.State.delete.Goals as goal
use Rattle.advance_retreat.proofs.state.State.delete.Goals.{In_ok-strike}

pub returns-in_default-clause-out_of_range : goal.returns-in_default-clause-out_of_range
returns-in_default-clause-out_of_range c = λ b events prepared st len.
    let same = same_kept c.self.inside.base c.self.inside.targets c.self.inside.lost c.self.inside.tree c.deletion_at.new.self c.args.self.now c.deletion_at.ensures.same c.self.view_is in
    let told = c.prepared_len.ensures b events prepared (subst (λ (s : Kept). StandsFor s b events prepared) (sym same) st) in
    let few : visible_in c.args.self.now.records ≤ c.args.at = subst (λ (s : Kept). visible_in s.records ≤ c.args.at) c.self.view_is c.in_default.ensures.none in
    let past = subst (λ (n : ℕ). n ≤ c.args.at) (visible_told c.args.self.now b events prepared st) few in
    refused c.prepared_len.result (length (visible (prepared_entries b events prepared))) told (λ n. n ≤ c.args.at) past len

pub returns-then-not-has_room_for_event-clause-out_of_range : goal.returns-then-not-has_room_for_event-clause-out_of_range
returns-then-not-has_room_for_event-clause-out_of_range c = λ b events prepared st len.
    let f : IsDeletion c.args.self.now.records c.args.at c.in-Some.deletion = subst (λ (s : Kept). IsDeletion s.records c.args.at c.in-Some.deletion) c.self.view_is c.in-Some.ensures.some in
    let within = in_range c.args.self.now b events prepared st c.args.at f.place f.here in
    not_refused (Err OutOfMemory) refl len (length (visible (prepared_entries b events prepared))) (len ≤ c.args.at) (λ e le. omega (arith, e, le, within))

pub returns-in_err-strike-clause-out_of_range : goal.returns-in_err-strike-clause-out_of_range
returns-in_err-strike-clause-out_of_range c = λ b events prepared st len.
    let f : IsDeletion c.args.self.now.records c.args.at c.in-Some.deletion = subst (λ (s : Kept). IsDeletion s.records c.args.at c.in-Some.deletion) c.self.view_is c.in-Some.ensures.some in
    let within = in_range c.args.self.now b events prepared st c.args.at f.place f.here in
    let p = err_from_is_err_and c.from_residual.result c.from_residual.ensures.1 in
    not_refused c.from_residual.result (p.1 ∙ ap Err p.2) len (length (visible (prepared_entries b events prepared))) (len ≤ c.args.at) (λ e le. omega (arith, e, le, within))

pub strike-requires-clause-room : goal.strike-requires-clause-room
strike-requires-clause-room c =
    let q = c.requires in
    let same = same_kept c.self.inside.base c.self.inside.targets c.self.inside.lost c.self.inside.tree c.deletion_at.new.self c.args.self.now c.deletion_at.ensures.same c.self.view_is in
    subst (λ (s : Kept). AllByRecursion HasRoom s.records) (sym same) (has_room c.args.self.now q.0 q.1 q.2 q.3)

pub strike-requires-clause-new : goal.strike-requires-clause-new
strike-requires-clause-new c =
    let q = c.requires in
    subst (λ (s : Kept). target_at s.targets c.args.lv ≡ None) (sym c.self.view_is) (new_target c.args.self.now q.0 q.1 q.2 q.3 c.args.lv q.4)

pub strike-requires-clause-few : goal.strike-requires-clause-few
strike-requires-clause-few c =
    let q = c.requires in
    let same = same_kept c.self.inside.base c.self.inside.targets c.self.inside.lost c.self.inside.tree c.deletion_at.new.self c.args.self.now c.deletion_at.ensures.same c.self.view_is in
    subst (λ (s : Kept). length s.records ≤ 2 ^ 25) (sym same) (few_records c.args.self.now q.0 q.1 q.2 q.3)

pub strike-requires-clause-sound : goal.strike-requires-clause-sound
strike-requires-clause-sound c =
    let same = same_kept c.self.inside.base c.self.inside.targets c.self.inside.lost c.self.inside.tree c.deletion_at.new.self c.args.self.now c.deletion_at.ensures.same c.self.view_is in
    subst (λ (s : Kept). AreAttached [] s.attached) (sym same) c.requires.3.children.sound

pub strike-requires-clause-there : goal.strike-requires-clause-there
strike-requires-clause-there c =
    let q = c.requires in
    let f : IsDeletion c.args.self.now.records c.args.at c.in-Some.deletion = subst (λ (s : Kept). IsDeletion s.records c.args.at c.in-Some.deletion) c.self.view_is c.in-Some.ensures.some in
    let same = same_kept c.self.inside.base c.self.inside.targets c.self.inside.lost c.self.inside.tree c.deletion_at.new.self c.args.self.now c.deletion_at.ensures.same c.self.view_is in
    ap (λ (s : Kept). is_there s.attached c.in-Some.deletion.node) same ∙ ap (is_there c.args.self.now.attached) f.node ∙ visible_there c.args.self.now q.0 q.1 q.2 q.3 c.args.at f.place f.here

-- the state stands for the same
still : (c : In_ok-strike) (b : ℕ) (events : List (Applied ℕ)) (prepared : List ℕ) → StandsFor c.args.self.now b events prepared → StandsFor (kept_by c.self.inside.base c.self.inside.targets c.self.inside.lost c.deletion_at.new.self) b events prepared
still c b events prepared st =
    let same = same_kept c.self.inside.base c.self.inside.targets c.self.inside.lost c.self.inside.tree c.deletion_at.new.self c.args.self.now c.deletion_at.ensures.same c.self.view_is in
    subst (λ (s : Kept). StandsFor s b events prepared) (sym same) st

-- the record found is the one changed
found : (c : In_ok-strike) → IsDeletion c.args.self.now.records c.args.at c.in-Some.deletion
found c = subst (λ (s : Kept). IsDeletion s.records c.args.at c.in-Some.deletion) c.self.view_is c.in-Some.ensures.some

pub returns-clause-op : goal.returns-clause-op
returns-clause-op c = λ b events prepared st may.
    let f = found c in
    f.does
    ∙ sym (deletion_does c.args.self.now b events prepared st c.args.lv (can_follow events c.args.lv may (sym (c.has_room_for_event.ensures b events prepared (still c b events prepared st)) ∙ c.if-not-has_room_for_event.false)) c.args.at f.place f.here)

pub returns-clause-ok : goal.returns-clause-ok
returns-clause-ok c = λ b events prepared st may.
    let now = c.args.self.now in
    let f = found c in
    let same = same_kept c.self.inside.base c.self.inside.targets c.self.inside.lost c.self.inside.tree c.deletion_at.new.self c.args.self.now c.deletion_at.ensures.same c.self.view_is in
    let node : c.in-Some.deletion.node ≡ f.here.0.from = f.node in
    subst (λ (s : Kept). StandsFor s b (events ++ next_of c.args.lv (DeleteAt c.args.at) prepared ∷ []) (c.args.lv ∷ prepared)) (sym (c.in_ok-strike.ensures.ok ∙ ap (λ (s : Kept). with_deletion s c.args.lv c.in-Some.deletion.node) same ∙ ap (with_deletion now c.args.lv) node))
    (deleted now b events prepared st c.args.lv (can_follow events c.args.lv may (sym (c.has_room_for_event.ensures b events prepared (still c b events prepared st)) ∙ c.if-not-has_room_for_event.false)) c.args.at f.place f.here)

pub returns-clause-out_of_range : goal.returns-clause-out_of_range
returns-clause-out_of_range c = λ b events prepared st len.
    let f = found c in
    let within = in_range c.args.self.now b events prepared st c.args.at f.place f.here in
    answered c.in-Some.deletion.op len (length (visible (prepared_entries b events prepared))) (len ≤ c.args.at) (λ e le. omega (arith, e, le, within))
