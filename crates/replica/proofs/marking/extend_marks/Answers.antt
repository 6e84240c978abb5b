use Rattle.std.proofs.Common.{◌++◌, ◌∙◌, length, ap, List, ℕ}
use Rattle.replica.proofs.LengthRunLaws.{lengths_stay}
use Rattle.replica.proofs.marking.extend_marks.Goals as goal

pub returns-clause-lengths : goal.returns-clause-lengths
returns-clause-lengths c = c.in_ok-push.ensures.ok ∙ ap (λ (ls : List ℕ). c.args.lengths.now ++ ls) (lengths_stay c.args.len 1 (length c.args.made.now))
