use Rattle.std.proofs.Common.{◌≡◌, ◌∙◌, ◌≤◌, map, Ok, sym, ap, subst}
use Rattle.std.proofs.lemmas.List.{nil_from_length}
use Rattle.ew_model.specs.Kept.{IsKept}
use Rattle.ew_model.specs.TextLaws.{own_change}
use Rattle.replica.specs.Appending.{chain_from}
use Rattle.replica.specs.Operations.{DoesAll}
use Rattle.replica.proofs.Appends.{can_append_ops}
use Rattle.replica.proofs.Doing.{all_done, all_made, are_allowed, nothing_done, text_then}
use Rattle.replica.proofs.state.Replica.edit.Goals as goal
use Rattle.replica.proofs.state.Replica.edit.Goals.{In_ok-n}

pub returns-in_default-split_first-clause-edits : goal.returns-in_default-split_first-clause-edits
returns-in_default-split_first-clause-edits g c = nothing_done c.args.agent c.args.ops.now c.args.self.now (nil_from_length c.args.ops.now c.in_default-split_first.ensures.cases) (sym c.in_default.ensures)

pub append-requires-clause-can : goal.append-requires-clause-can
append-requires-clause-can g c =
    let now = c.args.self.now in
    let agent = c.args.agent in
    let ops = c.args.ops.now in
    let kept : IsKept now.limits now.held now.waiting = c.graph.ensures.kept in
    let most : now.limits.events ≤ 16777216 = subst (λ n. n ≤ 16777216) (ap (λ l. l.events) c.limits.ensures.limits) c.events-most.ensures.range.few_events in
    let allowed = are_allowed now.limits now.held ops kept.orderly.good (sym c.in_default.ensures) in
    let made = all_made now.held c.graph.result.now agent c.in_ok-event.event c.in-Some-split_first.first.now c.in-Some-split_first.rest.now ops c.graph.ensures.graph c.in_ok-event.ensures c.in-Some-split_first.ensures.cases.0 in
    let changes : c.as_slice.result.now ≡ map own_change ops = c.as_slice.ensures.value ∙ c.in_ok-changes.ensures in
    rw (made, changes) (can_append_ops now.limits now.held now.waiting agent ops kept c.requires most allowed.may (allowed.room kept.few))

-- all was done
done : (g : _) (c : In_ok-n g) → DoesAll c.args.agent c.args.ops.now c.args.self.now c.append.new.self (Ok c.in_ok-n.n)
done g c =
    let now = c.args.self.now in
    let made = all_made now.held c.graph.result.now c.args.agent c.in_ok-event.event c.in-Some-split_first.first.now c.in-Some-split_first.rest.now c.args.ops.now c.graph.ensures.graph c.in_ok-event.ensures c.in-Some-split_first.ensures.cases.0 in
    all_done c.args.agent c.args.ops.now now c.append.new.self (chain_from c.in_ok-event.event c.in-Some-split_first.rest.now) c.in_ok-n.n (sym c.in_default.ensures) made c.in_ok-n.ensures.ok c.in_ok-n.ensures.count

pub returns-clause-edits : goal.returns-clause-edits
returns-clause-edits g c = done g ((goal.at.returns-clause-edits g c).In_ok-n)

pub returns-clause-text : goal.returns-clause-text
returns-clause-text g c =
    let kept : IsKept c.args.self.now.limits c.args.self.now.held c.args.self.now.waiting = c.graph.ensures.kept in
    text_then c.args.agent c.args.ops.now c.args.self.now c.append.new.self c.in_ok-n.n kept.orderly.good (done g ((goal.at.returns-clause-text g c).In_ok-n))
