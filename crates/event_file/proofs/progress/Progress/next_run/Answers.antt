use Rattle.std.proofs.Common.{◌≡◌, ◌∙◌, ◌+◌, ◌-◌, ◌<◌, ◌^◌, ◌&&◌, ◌++◌, ℕ, suc, not, true, ap, arith}
use Rattle.file_words.specs.FileRuns.{ops_count, are_new}
use Rattle.event_file.specs.Known.{known_run}
use Rattle.event_file.specs.Progress.{Known}
use Rattle.event_file.specs.Runs.{ops_as}
use Rattle.event_file.proofs.RunRest.{IsFit, ops_fit}
use Rattle.event_file.proofs.progress.Progress.next_run.Goals as goal

pub overflow_cast-count : goal.overflow_cast-count
overflow_cast-count c =
    let f : IsFit c.args.self.now.events c.args.left c.in_ok-id.id (ops_as c.in-Ok.ops) = ops_fit _ _ _ _ _ _ _ c.in-Ok.ensures in
    let few = f.few (omega (arith, c.requires.some)) in
    omega (arith, c.count.ensures, few)

pub overflow_sub-count : goal.overflow_sub-count
overflow_sub-count c =
    let f : IsFit c.args.self.now.events c.args.left c.in_ok-id.id (ops_as c.in-Ok.ops) = ops_fit _ _ _ _ _ _ _ c.in-Ok.ensures in
    let some = f.some in
    omega (arith, c.count.ensures, some)

pub keep-requires-clause-fits : goal.keep-requires-clause-fits
keep-requires-clause-fits c =
    let f : IsFit c.args.self.now.events c.args.left c.in_ok-id.id (ops_as c.in-Ok.ops) = ops_fit _ _ _ _ _ _ _ c.in-Ok.ensures in
    let some = f.some in
    let low : c.in_ok-id.id.seq < 2 ^ 32 = omega arith in
    let fits = f.fits low in
    omega (arith, c.count.ensures, some, fits)

pub keep-requires-clause-new : goal.keep-requires-clause-new
keep-requires-clause-new c =
    let f : IsFit c.args.self.now.events c.args.left c.in_ok-id.id (ops_as c.in-Ok.ops) = ops_fit _ _ _ _ _ _ _ c.in-Ok.ensures in
    let some = f.some in
    let same : suc (c.count.result - 1) ≡ ops_count (ops_as c.in-Ok.ops) = omega (arith, c.count.ensures, some) in
    ap (are_new c.args.self.now.events c.in_ok-id.id) same ∙ f.new (ap (λ b. not b && true) c.in_ok-id.ensures.new)

pub keep-requires-clause-few : goal.keep-requires-clause-few
keep-requires-clause-few c =
    let f : IsFit c.args.self.now.events c.args.left c.in_ok-id.id (ops_as c.in-Ok.ops) = ops_fit _ _ _ _ _ _ _ c.in-Ok.ensures in
    let some = f.some in
    let few = f.few (omega (arith, c.requires.some)) in
    omega (arith, c.count.ensures, some, few, c.requires.few)

pub returns-clause-kept : goal.returns-clause-kept
returns-clause-kept c =
    let f : IsFit c.args.self.now.events c.args.left c.in_ok-id.id (ops_as c.in-Ok.ops) = ops_fit _ _ _ _ _ _ _ c.in-Ok.ensures in
    let some = f.some in
    let same : suc (c.count.result - 1) ≡ ops_count (ops_as c.in-Ok.ops) = omega (arith, c.count.ensures, some) in
    let whole : ℕ → Known = λ n. record { agents = c.args.self.now.agents; events = c.args.self.now.events ++ known_run c.in_ok-id.id n } in
    c.in_ok-keep.ensures.ok ∙ ap whole same

pub returns-clause-sound : goal.returns-clause-sound
returns-clause-sound c =
    let f : IsFit c.args.self.now.events c.args.left c.in_ok-id.id (ops_as c.in-Ok.ops) = ops_fit _ _ _ _ _ _ _ c.in-Ok.ensures in
    let some = f.some in
    let few = f.few (omega (arith, c.requires.some)) in
    let low : c.in_ok-id.id.seq < 2 ^ 32 = omega arith in
    let fits = f.fits low in
    record { some = some; few = few; fits = fits }

pub returns-clause-go_on : goal.returns-clause-go_on
returns-clause-go_on c =
    let f : IsFit c.args.self.now.events c.args.left c.in_ok-id.id (ops_as c.in-Ok.ops) = ops_fit _ _ _ _ _ _ _ c.in-Ok.ensures in
    f.sound
