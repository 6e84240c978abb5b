use Rattle.std.proofs.Common.{◌+◌, nat_lt, Some, None, sym, arith}
use Rattle.std.proofs.lemmas.Bool.{lt-ltb, le-ltb, cond-true, cond-false}
use Rattle.fugue_place.specs.Ways.{stop_of}
use Rattle.fugue_place.proofs.ways.Ways.next_in_run.Goals as goal

pub returns-then-next-stop : goal.returns-then-next-stop
returns-then-next-stop c =
    let w = c.args.self.now in
    let stop = c.stop.ensures in
    let k = c.args.at in
    sym (cond-true (nat_lt (k + 1) (stop_of w k)) (Some (k + 1)) None (lt-ltb (k + 1) (stop_of w k) (omega (arith, stop, c.if-next-stop.true))))

pub returns-else-next-stop : goal.returns-else-next-stop
returns-else-next-stop c =
    let w = c.args.self.now in
    let stop = c.stop.ensures in
    let k = c.args.at in
    sym (cond-false (nat_lt (k + 1) (stop_of w k)) (Some (k + 1)) None (le-ltb (k + 1) (stop_of w k) (omega (arith, stop, c.if-next-stop.false))))
