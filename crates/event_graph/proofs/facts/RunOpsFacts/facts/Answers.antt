use Rattle.std.proofs.Common.{sym, subst, arith}
use Rattle.std.specs.Char.{IsScalar}
use Rattle.std.specs.List.{AllByRecursion}
use Rattle.std.proofs.lemmas.List.Elements.{recursion_from_All}
use Rattle.ew_model.specs.Sound.{IsSoundOp}
use Rattle.event_runs.specs.declared.ops.RunOps.{RunOps}
use Rattle.event_runs.specs.RunOps.{IndicesFit, ops_of}
use Rattle.event_graph.proofs.Chains.{insertions_sound}
use Rattle.event_graph.proofs.facts.RunOpsFacts.facts.Goals as goal
use Rattle.ew_model.proofs.EditTexts.{deletions_sound, back_sound}

pub returns-in-Insertions : goal.returns-in-Insertions
returns-in-Insertions c = λ fit.
    subst (λ (ops : RunOps). AllByRecursion IsSoundOp (ops_of ops)) (sym c.in-Insertions.is)
    (insertions_sound c.in-Insertions.at c.in-Insertions.text.now (subst IndicesFit c.in-Insertions.is fit) (recursion_from_All IsScalar c.in-Insertions.text.now c.read_characters.ensures))

pub returns-in-Deletions : goal.returns-in-Deletions
returns-in-Deletions c = λ fit.
    subst (λ (ops : RunOps). AllByRecursion IsSoundOp (ops_of ops)) (sym c.in-Deletions.is) (deletions_sound c.in-Deletions.at c.in-Deletions.count (omega arith))

pub returns-in-BackDeletions : goal.returns-in-BackDeletions
returns-in-BackDeletions c = λ fit.
    subst (λ (ops : RunOps). AllByRecursion IsSoundOp (ops_of ops)) (sym c.in-BackDeletions.is) (back_sound c.in-BackDeletions.at c.in-BackDeletions.count (omega arith))
