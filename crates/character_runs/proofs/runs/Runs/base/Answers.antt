use Rattle.std.proofs.Common.{ℕ, List, sym, ap, subst}
use Rattle.walker_record.specs.Stretches.{Stretch}
use Rattle.order_tree.specs.Pairs.{Tree}
use Rattle.character_runs.specs.Laid.{AreLabelled}
use Rattle.character_runs.proofs.BaseRuns.{no_runs}
use Rattle.character_runs.proofs.runs.Runs.base.Goals as goal

pub returns-then-len-eq0-clause-laid : goal.returns-then-len-eq0-clause-laid
returns-then-len-eq0-clause-laid g c =
    subst (λ (ps : List (ℕ × Stretch)). AreLabelled ps c.new-2.result) (sym (ap (λ (t : Tree Stretch). t.pairs) c.in_ok-new.ensures)) (no_runs c.new-2.result c.new-2.ensures)
