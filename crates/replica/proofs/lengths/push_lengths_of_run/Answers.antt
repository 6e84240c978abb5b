use Rattle.std.proofs.Common.{◌≡◌, ◌∙◌, ◌++◌, ℕ, List, length, sym, ap}
use Rattle.ew_model.specs.TextLaws.{AllFit}
use Rattle.operation_runs.specs.Runs.{run_ops}
use Rattle.rope.specs.Lengths.{AllStayShort}
use Rattle.replica.proofs.LengthSteps.{AreOfCourse, through}
use Rattle.replica.proofs.lengths.push_lengths_of_run.Goals as goal
use Rattle.replica.proofs.lengths.push_lengths_of_run.Goals.{After-count-many}

are : (c : After-count-many) (text : List ℕ) → length text ≡ c.args.len → AllFit text (run_ops c.args.run) → AllStayShort text (run_ops c.args.run) → AreOfCourse text (run_ops c.args.run) c.course_of_run-course.result c.args.len c.count-many.result
are c text long fit short = through (run_ops c.args.run) text c.course_of_run-course.result c.args.len c.count-many.result c.course_of_run-course.ensures long c.count-many.ensures fit short

pub push-requires : goal.push-requires
push-requires c = let t = c.requires.text in (are ((goal.at.push-requires c).After-count-many) t.0 t.1 t.2 t.3).fits

pub after-requires : goal.after-requires
after-requires c = let t = c.requires.text in (are ((goal.at.after-requires c).After-count-many) t.0 t.1 t.2 t.3).fits

pub returns-clause-lengths : goal.returns-clause-lengths
returns-clause-lengths c = λ text long fit short. c.in_ok-push.ensures.ok ∙ ap (λ (ls : List ℕ). c.args.lengths.now ++ ls) (sym (are ((goal.at.returns-clause-lengths c).After-count-many) text long fit short).lengths)

pub returns-clause-long : goal.returns-clause-long
returns-clause-long c = λ text long fit short. c.after.ensures ∙ sym (are ((goal.at.returns-clause-long c).After-count-many) text long fit short).long
