use Rattle.std.proofs.Common.{[]}
use Rattle.std.specs.BTreeSet.{contains}
use Rattle.std.specs.Cmp.Lexicographic.{slice_cmp}
use Rattle.std.specs.Ordering.{nat_cmp}
use Rattle.std.proofs.lemmas.Result.{err_from_is_err_and}
use Rattle.file_words.specs.FileFaults.{read_names}
use Rattle.event_file.proofs.NameLoop.{names_go_on, names_end, names_done, names_new}
use Rattle.event_file.proofs.names.read_names.Goals as goal

pub returns-in_err-name-clause-exact : goal.returns-in_err-name-clause-exact
returns-in_err-name-clause-exact c =
    let p = err_from_is_err_and c.from_residual.result c.from_residual.ensures.1 in
    rw (p.1, p.2) (names_end c.in_err-name.field-0.0 c.loop.names.items (contains (slice_cmp nat_cmp) c.loop.seen) c.args.count c.loop.counter c.loop.input.left.now (read_names [] c.args.count c.args.input.now.left.now) c.loop.invariant.seen c.loop-test.true c.in_err-name.ensures c.loop.invariant.so_far)

pub loop-preserved : goal.loop-preserved
loop-preserved c =
    let name = c.in_ok-name.name in
    let has = contains (slice_cmp nat_cmp) c.loop.seen in
    let new = names_new c.loop.names.items has name c.loop.input.left.now c.read_new.new.input.left.now (contains (slice_cmp nat_cmp) c.insert.new.self) c.loop.invariant.seen c.loop.invariant.distinct c.in_ok-name.ensures c.in_ok-insert.ensures.updates.0 in
    rw c.in_ok-push.ensures.items record {
      so_far = names_go_on c.loop.names.items has c.args.count c.loop.counter c.loop.input.left.now c.read_new.new.input.left.now name (read_names [] c.args.count c.args.input.now.left.now) c.loop.invariant.seen c.loop-test.true c.in_ok-name.ensures c.loop.invariant.so_far;
      distinct = new.0;
      seen = new.1;
    }

pub returns-clause-exact : goal.returns-clause-exact
returns-clause-exact c = names_done c.loop.names.items c.args.count c.loop.counter c.loop.input.left.now (read_names [] c.args.count c.args.input.now.left.now) c.loop-test.false c.loop.invariant.so_far
