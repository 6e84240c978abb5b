use Rattle.std.proofs.Common.{◌≡◌, ◌∙◌, [], sym, append-nil}
use Rattle.replica.proofs.Fronts.{hold_stands}
use Rattle.replica.proofs.RoundParts.{came_back}
use Rattle.replica.proofs.rounds.reach_stop.Goals as goal

pub drop_tail-requires : goal.drop_tail-requires
drop_tail-requires c = hold_stands c.in_ok-hold.hold c.hold.new.self c.judge_all.new.graph c.in_ok-hold.ensures.hold c.in-Err.ensures.front

pub returns-in-Err-clause-front : goal.returns-in-Err-clause-front
returns-in-Err-clause-front c =
    let held = c.in_ok-hold.ensures in
    let back : c.drop_tail.new.self ≡ c.args.graph.now = came_back c.in_ok-hold.hold c.hold.new.self c.judge_all.new.graph c.drop_tail.new.self held.hold c.in-Err.ensures.front c.drop_tail.ensures ∙ held.same in
    ([], back ∙ sym (append-nil c.args.graph.now))
