-- Which characters of runs a search counts. (No public contract cites this.)
use Rattle.std.specs.Prelude.{ℕ}
use Rattle.ew_model.specs.declared.run.Run.{Ghosts}
use Rattle.order_tree.specs.declared.summary.Sums.{Sums}
use Rattle.order_tree.specs.declared.count.Count.{Count}
use Rattle.order_tree.specs.declared.count.Count.TheVariants.{Prepared, Effect}

-- how many of a run
abbrev pub count_of : {R : Type 0} → Ghosts R → Count → R → ℕ
count_of G Prepared = G.prepared
count_of G Effect = G.effect

-- how many by the sums
abbrev pub counted_in : Count → Sums → ℕ
counted_in Prepared sums = sums.prepared
counted_in Effect sums = sums.effect
