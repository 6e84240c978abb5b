use Rattle.std.proofs.Common.{◌≡◌, ℕ, [], ◌∷◌, List, ap, ◌∙◌, subst, sym}
use Rattle.ew_model.specs.declared.node.Node.TheVariants.{Base}
use Rattle.walker_record.specs.Stretches.{Stretch}
use Rattle.order_tree.specs.Pairs.{inserted}
use Rattle.character_runs.specs.Laid.{AreLabelled, chars_in}
use Rattle.character_runs.proofs.BaseRuns.{base_run, run_chars, one_run, not_root}
use Rattle.character_runs.proofs.runs.Runs.begun.Goals as goal

pub insert-requires-clause-bare : goal.insert-requires-clause-bare
insert-requires-clause-bare g c = c.requires.unlabelled (Base 0)

pub returns-clause-laid : goal.returns-clause-laid
returns-clause-laid g c =
    let own = c.in_ok-own.own in
    let is : c.insert_after.new.self.pairs ≡ (own, base_run c.args.len) ∷ [] =
    c.in_ok-own.ensures.pairs ∙ ap (λ (qs : List (ℕ × Stretch)). inserted qs 0 own (base_run c.args.len)) c.requires.none in
    subst (λ (qs : List (ℕ × Stretch)). AreLabelled qs c.insert.new.self) (sym is)
    (one_run c.args.self.labels c.requires.unlabelled c.insert.new.self own (base_run c.args.len) (not_root 0) c.requires.some c.in_ok-insert.ensures.ok)

pub returns-clause-chars : goal.returns-clause-chars
returns-clause-chars g c =
    let own = c.in_ok-own.own in
    ap chars_in (c.in_ok-own.ensures.pairs ∙ ap (λ (qs : List (ℕ × Stretch)). inserted qs 0 own (base_run c.args.len)) c.requires.none) ∙ run_chars own c.args.len
