use Rattle.std.proofs.Common.{◌∙◌, List, ℕ, subst, sym, ap, append-nil}
use Rattle.order_tree.specs.Pairs.{SumsFit}
use Rattle.order_tree.specs.Parts.{sums_of, summary_of, IsMoved}
use Rattle.order_tree.proofs.PartLists.{entries_are}
use Rattle.order_tree.proofs.halves.leaf_halves.Goals as goal

pub summary_after-requires-clause-fits : goal.summary_after-requires-clause-fits
summary_after-requires-clause-fits g c =
    subst (λ (ps : List (ℕ × _)). SumsFit g.R.Run ps) (append-nil c.args.entries.now ∙ sym (entries_are c.args.entries.now)) (rw c.in-None.is at c.requires.fit)

pub summary_after-requires-clause-moved : goal.summary_after-requires-clause-moved
summary_after-requires-clause-moved g c =
    subst (λ (ps : List (ℕ × _)). IsMoved c.args.old c.args.lost c.args.gained (sums_of g.R.Run ps)) (append-nil c.args.entries.now ∙ sym (entries_are c.args.entries.now)) (rw c.in-None.is at c.requires.moved)

pub returns-in-None-clause-summary : goal.returns-in-None-clause-summary
returns-in-None-clause-summary g c = c.summary_after.ensures ∙ ap (λ (ps : List (ℕ × _)). summary_of g.R.Run ps) (entries_are c.args.entries.now)
