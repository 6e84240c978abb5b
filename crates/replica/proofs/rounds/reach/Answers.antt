use Rattle.std.proofs.Common.{◌≡◌, ◌∙◌, List, [], not, is_some, sym, ap, subst, append-nil}
use Rattle.ew_model.specs.declared.event.Event.{Event}
use Rattle.event_graph.specs.Tails.{hold_of}
use Rattle.waiting_pool.specs.Waiting.{events_of}
use Rattle.replica.specs.Desks.{LeadsTo, desk_as, desk_at}
use Rattle.replica.specs.Fronts.{IsFront}
use Rattle.replica.specs.Reaching.{IsRound}
use Rattle.replica.proofs.Fronts.{hold_stands}
use Rattle.replica.proofs.KeptWalks.{kept_of_all, kept_of_held, same_walks, still_kept}
use Rattle.replica.proofs.RoundParts.{came_back, none_by}
use Rattle.replica.proofs.RoundWays.{last_round, last_kept, cut_round, cut_kept}
use Rattle.replica.proofs.rounds.reach.Goals as goal

pub drop_tail-requires : goal.drop_tail-requires
drop_tail-requires g c = hold_stands c.in_ok-desk.field-0.hold c.args.graph.now c.reach_all.new.graph c.in_ok-desk.ensures.hold c.in_ok-desk.ensures.front

pub returns-then-is_none-clause-round : goal.returns-then-is_none-clause-round
returns-then-is_none-clause-round g c =
    let a = c.args in
    let limits = a.intake.limits.now in
    let from = desk_at a.graph.now (events_of a.intake.pool.now) a.intake.events.now a.intake.progress.now in
    let all = c.in_ok-desk.field-0 in
    let first = desk_as c.reach_all.new.graph a.intake.events.now all.desk in
    let found = c.in_ok-desk.ensures in
    last_round limits from first a.intake.progress.now all.desk.progress all.walked.ops all.walked.stopped c.requires.kept.orderly found.stopped (none_by all.walked.stopped (c.is_none.ensures ∙ ap not c.if-is_none.true)) found.ops found.leads

pub returns-then-is_none-clause-orderly : goal.returns-then-is_none-clause-orderly
returns-then-is_none-clause-orderly g c =
    let a = c.args in
    let limits = a.intake.limits.now in
    let from = desk_at a.graph.now (events_of a.intake.pool.now) a.intake.events.now a.intake.progress.now in
    let all = c.in_ok-desk.field-0 in
    let first = desk_as c.reach_all.new.graph a.intake.events.now all.desk in
    let found = c.in_ok-desk.ensures in
    last_kept limits from first a.intake.progress.now all.desk.progress all.walked.stopped c.requires.kept.orderly found.stopped (none_by all.walked.stopped (c.is_none.ensures ∙ ap not c.if-is_none.true)) found.leads

pub returns-in_err-reached-clause-front : goal.returns-in_err-reached-clause-front
returns-in_err-reached-clause-front g c =
    let back : c.drop_tail.new.self ≡ c.args.graph.now = came_back c.in_ok-desk.field-0.hold c.args.graph.now c.reach_all.new.graph c.drop_tail.new.self c.in_ok-desk.ensures.hold c.in_ok-desk.ensures.front c.drop_tail.ensures in
    ([], c.in_err-reached.ensures.same ∙ back ∙ sym (append-nil c.args.graph.now))

pub returns-clause-front : goal.returns-clause-front
returns-clause-front g c =
    let back : c.drop_tail.new.self ≡ c.args.graph.now = came_back c.in_ok-desk.field-0.hold c.args.graph.now c.reach_all.new.graph c.drop_tail.new.self c.in_ok-desk.ensures.hold c.in_ok-desk.ensures.front c.drop_tail.ensures in
    subst (λ (h : List Event). IsFront h c.reach_stop.new.graph) back c.in_ok-reached.ensures.front

pub returns-clause-hold : goal.returns-clause-hold
returns-clause-hold g c =
    let back : c.drop_tail.new.self ≡ c.args.graph.now = came_back c.in_ok-desk.field-0.hold c.args.graph.now c.reach_all.new.graph c.drop_tail.new.self c.in_ok-desk.ensures.hold c.in_ok-desk.ensures.front c.drop_tail.ensures in
    c.in_ok-reached.ensures.hold ∙ ap hold_of back

pub returns-clause-round : goal.returns-clause-round
returns-clause-round g c =
    let back : c.drop_tail.new.self ≡ c.args.graph.now = came_back c.in_ok-desk.field-0.hold c.args.graph.now c.reach_all.new.graph c.drop_tail.new.self c.in_ok-desk.ensures.hold c.in_ok-desk.ensures.front c.drop_tail.ensures in
    let a = c.args in
    let limits = a.intake.limits.now in
    let from = desk_at a.graph.now (events_of a.intake.pool.now) a.intake.events.now a.intake.progress.now in
    let all = c.in_ok-desk.field-0 in
    let found = c.in_ok-desk.ensures in
    let first = desk_as c.reach_all.new.graph a.intake.events.now all.desk in
    let r = c.in_ok-reached.reached in
    let to = desk_as c.reach_stop.new.graph a.intake.events.now r.desk in
    let b = c.in_ok-reached.ensures.leads.0 in
    let again : LeadsTo limits all.walked.stopped from to a.intake.progress.now r.desk.progress b =
    subst (λ (h : List Event). LeadsTo limits all.walked.stopped (desk_at h (events_of a.intake.pool.now) a.intake.events.now a.intake.progress.now) to a.intake.progress.now r.desk.progress b) back c.in_ok-reached.ensures.leads.1 in
    subst (λ w. IsRound limits from to a.intake.progress.now r.desk.progress w.ops (is_some w.stopped)) (sym c.in_ok-reached.ensures.walked)
    (cut_round limits from first to a.intake.progress.now all.desk.progress r.desk.progress all.walked.ops all.walked.stopped b c.requires.kept.orderly found.leads found.stopped (c.is_none.ensures ∙ ap not c.if-is_none.false) found.ops again)

pub returns-clause-orderly : goal.returns-clause-orderly
returns-clause-orderly g c =
    let back : c.drop_tail.new.self ≡ c.args.graph.now = came_back c.in_ok-desk.field-0.hold c.args.graph.now c.reach_all.new.graph c.drop_tail.new.self c.in_ok-desk.ensures.hold c.in_ok-desk.ensures.front c.drop_tail.ensures in
    let a = c.args in
    let limits = a.intake.limits.now in
    let from = desk_at a.graph.now (events_of a.intake.pool.now) a.intake.events.now a.intake.progress.now in
    let all = c.in_ok-desk.field-0 in
    let found = c.in_ok-desk.ensures in
    let first = desk_as c.reach_all.new.graph a.intake.events.now all.desk in
    let r = c.in_ok-reached.reached in
    let to = desk_as c.reach_stop.new.graph a.intake.events.now r.desk in
    let b = c.in_ok-reached.ensures.leads.0 in
    let again : LeadsTo limits all.walked.stopped from to a.intake.progress.now r.desk.progress b =
    subst (λ (h : List Event). LeadsTo limits all.walked.stopped (desk_at h (events_of a.intake.pool.now) a.intake.events.now a.intake.progress.now) to a.intake.progress.now r.desk.progress b) back c.in_ok-reached.ensures.leads.1 in
    cut_kept limits from first to a.intake.progress.now all.desk.progress r.desk.progress all.walked.stopped b c.requires.kept.orderly found.leads found.stopped (c.is_none.ensures ∙ ap not c.if-is_none.false) again

-- the walks that are kept
pub returns-in_err-desk-clause-walks : goal.returns-in_err-desk-clause-walks
returns-in_err-desk-clause-walks g c = same_walks c.args.graph.now c.reach_all.new.graph c.reach_all.new.walks c.in_err-desk.ensures.same c.in_err-desk.ensures.same_walks

pub returns-then-is_none-clause-walks : goal.returns-then-is_none-clause-walks
returns-then-is_none-clause-walks g c =
    let all = c.in_ok-desk.field-0 in
    kept_of_all c.args.graph.now c.reach_all.new.graph all.walked.stopped c.reach_all.new.walks (none_by all.walked.stopped (c.is_none.ensures ∙ ap not c.if-is_none.true)) c.in_ok-desk.ensures.walks

pub returns-in_err-reached-clause-walks : goal.returns-in_err-reached-clause-walks
returns-in_err-reached-clause-walks g c =
    let all = c.in_ok-desk.field-0 in
    let back : c.drop_tail.new.self ≡ c.args.graph.now = came_back c.in_ok-desk.field-0.hold c.args.graph.now c.reach_all.new.graph c.drop_tail.new.self c.in_ok-desk.ensures.hold c.in_ok-desk.ensures.front c.drop_tail.ensures in
    same_walks c.args.graph.now c.reach_stop.new.graph c.reach_all.new.walks (c.in_err-reached.ensures.same ∙ back) (kept_of_held c.args.graph.now c.reach_all.new.graph all.walked.stopped c.reach_all.new.walks (c.is_none.ensures ∙ ap not c.if-is_none.false) c.in_ok-desk.ensures.walks)

pub returns-clause-walks : goal.returns-clause-walks
returns-clause-walks g c =
    let all = c.in_ok-desk.field-0 in
    let back : c.drop_tail.new.self ≡ c.args.graph.now = came_back c.in_ok-desk.field-0.hold c.args.graph.now c.reach_all.new.graph c.drop_tail.new.self c.in_ok-desk.ensures.hold c.in_ok-desk.ensures.front c.drop_tail.ensures in
    still_kept c.args.graph.now c.reach_stop.new.graph (subst (λ (h : List Event). IsFront h c.reach_stop.new.graph) back c.in_ok-reached.ensures.front) c.reach_all.new.walks
    (kept_of_held c.args.graph.now c.reach_all.new.graph all.walked.stopped c.reach_all.new.walks (c.is_none.ensures ∙ ap not c.if-is_none.false) c.in_ok-desk.ensures.walks)
