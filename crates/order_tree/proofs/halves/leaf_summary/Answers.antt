use Rattle.std.proofs.Common.{◌∙◌, List, ℕ, subst, sym, ap}
use Rattle.order_tree.specs.Pairs.{SumsFit}
use Rattle.order_tree.specs.Parts.{summary_of}
use Rattle.order_tree.proofs.PartLists.{entries_are}
use Rattle.order_tree.proofs.halves.leaf_summary.Goals as goal

pub summary_in-requires-clause-fits : goal.summary_in-requires-clause-fits
summary_in-requires-clause-fits g c = subst (λ (ps : List (ℕ × _)). SumsFit g.R.Run ps) (sym (entries_are c.args.entries.now)) c.requires.fit

pub returns : goal.returns
returns g c = c.summary_in.ensures ∙ ap (λ (ps : List (ℕ × _)). summary_of g.R.Run ps) (entries_are c.args.entries.now)
