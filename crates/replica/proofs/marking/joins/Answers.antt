use Rattle.std.proofs.Common.{[], arith}
use Rattle.ew_model.specs.Edits.{joins_of, in_groups}
use Rattle.replica.proofs.MarkJoins.{one_more_join, last_join}
use Rattle.replica.proofs.marking.joins.Goals as goal

pub loop-room-preserved : goal.loop-room-preserved
loop-room-preserved c =
    let l = c.loop-room in
    record {
      whole =
          one_more_join c.args.agent c.args.label l.made.items l.seq l.before l.room l.left.now (joins_of c.args.agent c.args.label c.args.first [] (in_groups 16 c.args.ids.now)) c.loop-room-test.true l.invariant.whole
          c.split_at.result.0.now c.split_at.result.1.now c.in_ok-join.field-0 c.push.new.self.items c.split_at.ensures.front c.split_at.ensures.back c.in_ok-join.ensures c.in_ok-push.ensures.items;
      numbered = omega (arith, c.split_at.ensures.back_len, l.invariant.numbered, l.invariant.room);
      room = omega arith;
    }

pub returns : goal.returns
returns c =
    let l = c.loop-room in
    last_join c.args.agent c.args.label l.made.items l.seq l.before l.room l.left.now (joins_of c.args.agent c.args.label c.args.first [] (in_groups 16 c.args.ids.now)) c.loop-room-test.false l.invariant.whole
    c.in_ok-join-2.field-0 c.push-2.new.self.items c.in_ok-join-2.ensures c.in_ok-push-2.ensures.items
