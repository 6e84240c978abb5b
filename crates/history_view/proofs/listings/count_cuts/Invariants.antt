use Rattle.std.proofs.Common.{◌≡◌, ◌≤◌, ◌+◌, length}
use Rattle.ew_model.specs.Cuts.{cuts_to}
use Rattle.history_view.proofs.listings.count_cuts.Given as goal

abbrev pub invariant-loop-k : goal.invariant-loop-k
invariant-loop-k l = (l.cuts ≡ length (cuts_to l.graph l.k)) × (l.cuts ≤ l.k + 1)
