use Rattle.std.proofs.Common.{◌≡◌, ◌∙◌, suc, ◌-◌, length, Some, slice_get, sym, subst, rules, arith}
use Rattle.std.proofs.lemmas.Bool.{eqb-true}
use Rattle.std.proofs.lemmas.Option.{slice_get_within}
use Rattle.replica.specs.declared.length_runs.Course.{Course}
use Rattle.replica.specs.LengthRuns.{course_length, IsLengthRun, LastEndsAt}
use Rattle.replica.proofs.LengthRunLaws.{last_fits, last_ends}
use Rattle.replica.proofs.length_runs.goes_on.Goals as goal
use Rattle.replica.proofs.length_runs.goes_on.Goals.{In-Some}

there : (c : In-Some) → slice_get c.args.runs.now (length c.args.runs.now - 1) ≡ Some c.in-Some.run'.now
there c = sym c.in-Some.ensures.value

last : (c : In-Some) → suc (length c.args.runs.now - 1) ≡ length c.args.runs.now
last c = let within = slice_get_within c.args.runs.now (length c.args.runs.now - 1) c.in-Some.run'.now (there c) in omega (arith, within)

fits : (c : In-Some) → IsLengthRun c.in-Some.run'.now c.args.end
fits c = last_fits c.args.runs.now c.args.end (length c.args.runs.now - 1) c.in-Some.run'.now c.requires.row (last c) (there c)

pub overflow_sub-end : goal.overflow_sub-end
overflow_sub-end c = let some = (fits ((goal.at.overflow_sub-end c).In-Some)).some in omega (arith, some)

pub after-requires : goal.after-requires
after-requires c = (fits ((goal.at.after-requires c).In-Some)).fits

pub returns-then-eq : goal.returns-then-eq
returns-then-eq c = λ equal.
    let i = (goal.at.returns-then-eq c).In-Some in
    let r = c.in-Some.run'.now in
    let runs = c.args.runs.now in
    let end = c.args.end in
    let same : r.course ≡ c.args.course = search rules in
    let ends : course_length r.course r.before (end - r.start) ≡ c.args.length = sym c.after.ensures ∙ eqb-true _ _ equal in
    subst (λ n. LastEndsAt runs end c.args.course n) ends
    (subst (λ (k : Course). LastEndsAt runs end k (course_length r.course r.before (end - r.start))) same (last_ends runs end (length runs - 1) r (last i) (there i)))
