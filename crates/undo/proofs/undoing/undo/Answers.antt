use Rattle.std.proofs.Common.{◌∙◌, List, Ok, Err, refl, sym, ap, subst}
use Rattle.ew_model.specs.declared.event.Event.{Event}
use Rattle.replica.specs.Operations.{DoesAll}
use Rattle.undo.specs.Answers.{Undoes}
use Rattle.undo.proofs.Refusals.{first_unheld, is_told, is_undone, no_event, not_undone, undone_made, undone_text}
use Rattle.undo_definitions.specs.Undoing.{ops_of_undo}
use Rattle.undo_definitions.specs.Wanted.{ids_from}
use Rattle.undo.proofs.undoing.undo.Goals as goal
use Rattle.undo.proofs.undoing.undo.Goals.{In-Ok, In-Err}

pub returns-in-Some-clause-undoes : goal.returns-in-Some-clause-undoes
returns-in-Some-clause-undoes g c =
    let now = c.args.replica.now in
    let ids = ids_from c.args.whose c.args.first c.args.count in
    (no_event now.limits now.held ids c.in-Some.id (c.in-Some.ensures ∙ ap (λ (held : List Event). first_unheld held ids) c.graph.ensures.graph), refl)

-- the operations were done
done : (g : _) (c : In-Ok g) → Undoes c.args.agent (ids_from c.args.whose c.args.first c.args.count) c.args.replica.now c.edit.new.self (Ok c.in-Ok.made)
done g c =
    let now = c.args.replica.now in
    let ids = ids_from c.args.whose c.args.first c.args.count in
    let ops = c.deref.ensures.value ∙ c.in_ok-ops.ensures.ops ∙ ap (λ (held : List Event). ops_of_undo held ids) c.graph-2.ensures.graph in
    is_undone c.args.agent ids now c.edit.new.self c.in-Ok.made c.graph.ensures.kept.orderly.good (sym (c.in_default.ensures ∙ ap (λ (held : List Event). first_unheld held ids) c.graph.ensures.graph))
    (subst (λ os. DoesAll c.args.agent os now c.edit.new.self (Ok c.in-Ok.made)) ops c.in-Ok.ensures.edits)

pub returns-in-Ok-clause-undoes : goal.returns-in-Ok-clause-undoes
returns-in-Ok-clause-undoes g c = done g ((goal.at.returns-in-Ok-clause-undoes g c).In-Ok)

pub returns-in-Ok-clause-text : goal.returns-in-Ok-clause-text
returns-in-Ok-clause-text g c =
    undone_text c.args.agent (ids_from c.args.whose c.args.first c.args.count) c.args.replica.now c.edit.new.self c.in-Ok.made c.graph.ensures.kept.orderly.good (done g ((goal.at.returns-in-Ok-clause-text g c).In-Ok))

pub returns-in-Ok-clause-made : goal.returns-in-Ok-clause-made
returns-in-Ok-clause-made g c =
    undone_made c.args.agent (ids_from c.args.whose c.args.first c.args.count) c.args.replica.now c.edit.new.self c.in-Ok.made c.graph.ensures.kept.orderly.good (done g ((goal.at.returns-in-Ok-clause-made g c).In-Ok))

-- or they were refused
failed : (g : _) (c : In-Err g) → DoesAll c.args.agent (ops_of_undo c.args.replica.now.held (ids_from c.args.whose c.args.first c.args.count)) c.args.replica.now c.edit.new.self (Err c.in-Err.fault)
failed g c =
    let ids = ids_from c.args.whose c.args.first c.args.count in
    let ops = c.deref.ensures.value ∙ c.in_ok-ops.ensures.ops ∙ ap (λ (held : List Event). ops_of_undo held ids) c.graph-2.ensures.graph in
    subst (λ os. DoesAll c.args.agent os c.args.replica.now c.edit.new.self (Err c.in-Err.fault)) ops c.in-Err.ensures.edits

pub of_edit-requires : goal.of_edit-requires
of_edit-requires g c =
    is_told c.args.agent (ids_from c.args.whose c.args.first c.args.count) c.args.replica.now c.edit.new.self c.in-Err.fault c.graph.ensures.kept.orderly.good (failed g ((goal.at.of_edit-requires g c).In-Err))

pub returns-clause-undoes : goal.returns-clause-undoes
returns-clause-undoes g c =
    let ids = ids_from c.args.whose c.args.first c.args.count in
    not_undone c.args.agent ids c.args.replica.now c.edit.new.self c.in-Err.fault c.of_edit.result c.graph.ensures.kept.orderly.good (sym (c.in_default.ensures ∙ ap (λ (held : List Event). first_unheld held ids) c.graph.ensures.graph))
    c.of_edit.ensures (failed g ((goal.at.returns-clause-undoes g c).In-Err))
