use Rattle.std.proofs.Common.{ℕ, IfSome, sym, subst}
use Rattle.ew_model.specs.declared.node.Node.{Node}
use Rattle.character_runs.specs.Kept.{kept_label, numbered, IsLastOf}
use Rattle.character_runs.proofs.Lasts.{some_base, some_event}
use Rattle.character_runs.proofs.kept.Kept.last_number.Goals as goal

pub returns-in-Base-clause-some : goal.returns-in-Base-clause-some
returns-in-Base-clause-some c =
    subst (λ (v : Node). IfSome c.last_up_to.result (λ (e : ℕ × ℕ). IsLastOf (kept_label c.args.self.now) v (record { node = numbered v e.0; label = e.1 }))) (sym c.in-Base.is) (some_base c.args.self.now c.in-Base.i c.last_up_to.result c.last_up_to.ensures.some)

pub returns-in-Event-clause-some : goal.returns-in-Event-clause-some
returns-in-Event-clause-some c =
    subst (λ (v : Node). IfSome c.last_up_to-in-Event.result (λ (e : ℕ × ℕ). IsLastOf (kept_label c.args.self.now) v (record { node = numbered v e.0; label = e.1 }))) (sym c.in-Event.is) (some_event c.args.self.now c.in-Event.i c.last_up_to-in-Event.result c.last_up_to-in-Event.ensures.some)
