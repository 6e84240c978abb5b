use Rattle.std.proofs.Common.{◌≤◌, length, arith}
use Rattle.rope.proofs.InsertLaws.{put_left, put_right}
use Rattle.rope.proofs.halves.put.Goals as goal
use Rattle.rope.proofs.halves.put.Goals.{then-at, else-at}

pub returns-after-at-clause-items : goal.returns-after-at-clause-items
returns-after-at-clause-items c =
    let full : 8 ≤ length c.args.kids.now.items = omega (arith, (rw c.in-Some.is at c.requires.place).0) in
    elim c.if-at.branch [
      | then-at w ↦
          let whole = put_left c.args.kids.now.items 8 c.args.at c.args.kid full w.if-at.true in
          let put = w.put_in-then-at.ensures.items in
          let left = c.move_tail.ensures.from in
          let right = c.move_tail.ensures.to in
          cc
      | else-at w ↦
          let whole = put_right c.args.kids.now.items 8 c.args.at c.args.kid full w.if-at.false in
          let put = w.put_in-else-at.ensures.items in
          let left = c.move_tail.ensures.from in
          let right = c.move_tail.ensures.to in
          cc
    ]
