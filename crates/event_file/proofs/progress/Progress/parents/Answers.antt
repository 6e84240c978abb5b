use Rattle.std.proofs.Common.{[]}
use Rattle.std.proofs.lemmas.Result.{err_from_is_err_and}
use Rattle.ew_model.specs.Ancestors.{ids_of}
use Rattle.file_words.specs.FileFaults.{read_parents}
use Rattle.event_file.proofs.ParentLoop.{parents_go_on, parents_end, parents_done, parent_ascends}
use Rattle.event_file.proofs.progress.Progress.parents.Goals as goal

pub returns-in_err-parent : goal.returns-in_err-parent
returns-in_err-parent c =
    let ids = ids_of c.args.self.now.events in
    let p = err_from_is_err_and c.from_residual-in_err-parent.result c.from_residual-in_err-parent.ensures.1 in
    let e = c.as_slice.ensures.value in
    rw (p.1, p.2) (parents_end ids c.in_err-parent.field-0.0 c.loop.parents.items c.args.count c.loop.counter c.loop.input.left.now (read_parents ids [] c.args.count c.args.input.now.left.now) c.loop-test.true (rw e at c.in_err-parent.ensures) c.loop.invariant.so_far)

pub loop-preserved : goal.loop-preserved
loop-preserved c =
    let ids = ids_of c.args.self.now.events in
    let e = c.as_slice.ensures.value in
    let one = rw e at c.in_ok-parent.ensures in
    rw c.in_ok-push.ensures.items record {
      so_far = parents_go_on ids c.loop.parents.items c.args.count c.loop.counter c.loop.input.left.now c.parent.new.input.left.now c.in_ok-parent.parent (read_parents ids [] c.args.count c.args.input.now.left.now) c.loop-test.true one c.loop.invariant.so_far;
      ascend = parent_ascends ids c.loop.parents.items c.loop.input.left.now c.parent.new.input.left.now c.in_ok-parent.parent one;
    }

pub returns : goal.returns
returns c =
    let ids = ids_of c.args.self.now.events in
    rw c.from_vec.ensures (parents_done ids c.loop.parents.items c.args.count c.loop.counter c.loop.input.left.now (read_parents ids [] c.args.count c.args.input.now.left.now) c.loop-test.false c.loop.invariant.so_far)
