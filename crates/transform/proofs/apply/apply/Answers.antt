use Rattle.std.proofs.Common.{IfOk, sym, subst, take, ◌∙◌}
use Rattle.ew_model.specs.Walks.{base_at, walked_from}
use Rattle.ew_model.proofs.ListParts.{element_there}
use Rattle.transform.specs.Reaching.{Turned, over_since}
use Rattle.transform.proofs.Applies.{deletion_answers, id_is, insertion_answers, mark_turned, may_delete, may_insert, may_mark, change_is, ready, turned}
use Rattle.transform.proofs.OwnChanges.{asks_insertion, asks_deletion, asks_nothing}
use Rattle.transform.proofs.Sides.{length_front}
use Rattle.transform.proofs.apply.apply.Goals as goal

pub apply_ins-requires : goal.apply_ins-requires
apply_ins-requires g c =
    let now = c.args.graph.now in
    let position = c.args.position in
    let front = take position now in
    let cut = c.requires.ready.0 in
    let found = element_there now position c.requires.within in
    let e = found.0 in
    let r = ready now cut position e c.args.state.now c.count-count.ensures.admitted c.count-count.ensures.sound found.1 c.requires.ready.1 in
    (base_at front cut, walked_from front cut, over_since front cut e, r.stands, may_insert front cut e position c.id_near-id.result r.low r.admitted (id_is now position e c.id_near-id.result found.1 c.id_near-id.ensures) (length_front now position e found.1))

pub apply_del-requires : goal.apply_del-requires
apply_del-requires g c =
    let now = c.args.graph.now in
    let position = c.args.position in
    let front = take position now in
    let cut = c.requires.ready.0 in
    let found = element_there now position c.requires.within in
    let e = found.0 in
    let r = ready now cut position e c.args.state.now c.count-count.ensures.admitted c.count-count.ensures.sound found.1 c.requires.ready.1 in
    (base_at front cut, walked_from front cut, over_since front cut e, r.stands, may_delete front cut position r.low (length_front now position e found.1))

pub returns-in-Ins-clause-turned : goal.returns-in-Ins-clause-turned
returns-in-Ins-clause-turned g c = λ cut e is_ready at.
    let now = c.args.graph.now in
    let position = c.args.position in
    let front = take position now in
    let b = base_at front cut in
    let events = walked_from front cut in
    let over = over_since front cut e in
    let long = length_front now position e at in
    let id = id_is now position e c.id_near-id.result at c.id_near-id.ensures in
    let r = ready now cut position e c.args.state.now c.count-count.ensures.admitted c.count-count.ensures.sound at is_ready in
    let may = may_insert front cut e position c.id_near-id.result r.low r.admitted id long in
    let answers =
    insertion_answers front cut e c.args.state.now c.apply_ins.new.self c.apply_ins.result position c.id_near-id.result c.in-Ins.at c.in-Ins.ch long id (asks_insertion e.op c.in-Ins.at c.in-Ins.ch (change_is now position e _ at c.requires.change ∙ c.in-Ins.is))
    (c.apply_ins.ensures.op b events over r.stands may) (c.apply_ins.ensures.ok b events over r.stands may) (c.apply_ins.ensures.out_of_range b events over r.stands) c.apply_ins.ensures.err in
    subst (λ a. IfOk a (Turned front cut e c.apply_ins.new.self)) (sym c.turn_of.ensures) (turned front cut e c.args.state.now c.apply_ins.new.self c.apply_ins.result r answers)

pub returns-in-Del-clause-turned : goal.returns-in-Del-clause-turned
returns-in-Del-clause-turned g c = λ cut e is_ready at.
    let now = c.args.graph.now in
    let position = c.args.position in
    let front = take position now in
    let b = base_at front cut in
    let events = walked_from front cut in
    let over = over_since front cut e in
    let long = length_front now position e at in
    let r = ready now cut position e c.args.state.now c.count-count.ensures.admitted c.count-count.ensures.sound at is_ready in
    let may = may_delete front cut position r.low long in
    let answers =
    deletion_answers front cut e c.args.state.now c.apply_del.new.self c.apply_del.result position c.in-Del.at long (asks_deletion e.op c.in-Del.at (change_is now position e _ at c.requires.change ∙ c.in-Del.is))
    (c.apply_del.ensures.op b events over r.stands may) (c.apply_del.ensures.ok b events over r.stands may) (c.apply_del.ensures.out_of_range b events over r.stands) c.apply_del.ensures.err in
    subst (λ a. IfOk a (Turned front cut e c.apply_del.new.self)) (sym c.turn_of-in-Del.ensures) (turned front cut e c.args.state.now c.apply_del.new.self c.apply_del.result r answers)

pub apply_mark-requires : goal.apply_mark-requires
apply_mark-requires g c =
    let now = c.args.graph.now in
    let position = c.args.position in
    let front = take position now in
    let cut = c.requires.ready.0 in
    let found = element_there now position c.requires.within in
    let e = found.0 in
    let r = ready now cut position e c.args.state.now c.count-count.ensures.admitted c.count-count.ensures.sound found.1 c.requires.ready.1 in
    (base_at front cut, walked_from front cut, over_since front cut e, r.stands, may_mark front cut position r.low (length_front now position e found.1))

pub returns-in_ok-apply_mark-in-Nothing-clause-turned : goal.returns-in_ok-apply_mark-in-Nothing-clause-turned
returns-in_ok-apply_mark-in-Nothing-clause-turned g c = λ cut e is_ready at.
    let now = c.args.graph.now in
    let position = c.args.position in
    let front = take position now in
    let b = base_at front cut in
    let events = walked_from front cut in
    let over = over_since front cut e in
    let long = length_front now position e at in
    let r = ready now cut position e c.args.state.now c.count-count.ensures.admitted c.count-count.ensures.sound at is_ready in
    let may = may_mark front cut position r.low long in
    let label = asks_nothing e.op (change_is now position e _ at c.requires.change ∙ c.in-Nothing.is) in
    mark_turned front cut e c.args.state.now c.apply_mark.new.self c.in_ok-apply_mark-in-Nothing.field-0 position label.0 long label.1 r
    (c.in_ok-apply_mark-in-Nothing.ensures.op b events over r.stands may) (c.in_ok-apply_mark-in-Nothing.ensures.ok b events over r.stands may)
