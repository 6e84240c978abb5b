use Rattle.std.proofs.Common.{ℕ, List, ◌+◌, ◌∷◌, [], ◌++◌, sym, ap, ◌∙◌, append_assoc, append-nil}
use Rattle.ew_model.specs.declared.node.Node.TheVariants.{Event}
use Rattle.walker_record.specs.Stretches.{Stretch}
use Rattle.character_runs.proofs.EventPositions.{positions_on, positions_push, none_of_others}
use Rattle.character_runs.proofs.runs.event_positions.add_positions.Goals as goal

pub loop-n-preserved : goal.loop-n-preserved
loop-n-preserved c =
    let from = c.in-Event.from in
    let n = c.loop-n.n in
    let run = c.args.run.now in
    let others = c.args.positions.now.items in
    let one = (from + n) ∷ [] in
    c.in_ok-push.ensures.items
    ∙ ap (λ (xs : List ℕ). xs ++ one) c.loop-n.invariant
    ∙ append_assoc others (positions_on (Event from) n run.prepared run.effect) one
    ∙ ap (λ (xs : List ℕ). others ++ xs) (sym (positions_push n from run.prepared run.effect))

pub returns-in_default : goal.returns-in_default
returns-in_default c =
    let others = c.args.positions.now.items in
    sym (ap (λ (xs : List ℕ). others ++ xs) (none_of_others c.args.run.now (λ n is. c.in_default.not-Event n (ap (λ (r : Stretch). r.from) c.run.view_is ∙ is))) ∙ append-nil others)
