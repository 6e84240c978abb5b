use Rattle.std.proofs.Common.{ℕ, ◌<◌, ◌∙◌, sym, subst}
use Rattle.std.specs.List.{All}
use Rattle.history_trials.proofs.Below.{all_below}
use Rattle.history_trials.proofs.graph_rows.are_there.Goals as goal

pub returns : goal.returns
returns g c = λ h. subst (λ (n : ℕ). All (λ p. p < n) c.args.positions.now) c.count.ensures.count (all_below c.count.result c.args.positions.now (sym c.are_below.ensures ∙ h))
