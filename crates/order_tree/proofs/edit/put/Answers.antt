use Rattle.std.proofs.Common.{◌≤◌, length, arith}
use Rattle.order_tree.proofs.InsertLaws.{put_left, put_right}
use Rattle.order_tree.proofs.edit.put.Goals as goal
use Rattle.order_tree.proofs.edit.put.Goals.{then-at, else-at}

pub returns-after-at-clause-items : goal.returns-after-at-clause-items
returns-after-at-clause-items g c =
    let full : 8 ≤ length c.args.parts.now.items = omega (arith, (rw c.in-Some.is at c.requires.place).0) in
    elim c.if-at.branch [
      | then-at w ↦
          let whole = put_left c.args.parts.now.items c.args.at c.args.part full w.if-at.true in
          let put = w.put_in-then-at.ensures.items in
          let left = c.move_tail.ensures.from in
          let right = c.move_tail.ensures.to in
          cc
      | else-at w ↦
          let whole = put_right c.args.parts.now.items c.args.at c.args.part full w.if-at.false in
          let put = w.put_in-else-at.ensures.items in
          let left = c.move_tail.ensures.from in
          let right = c.move_tail.ensures.to in
          cc
    ]
