use Rattle.std.proofs.Common.{[], ◌∷◌, length, ap, subst, false-eqb}
use Rattle.ew_model.proofs.LineLaws.{lines_mean-cons}
use Rattle.peer_definitions.specs.NetScripts.{IsStepReading, MeansStep}
use Rattle.script_reader.proofs.net.script.push_line.Goals as goal

pub returns-clause-line : goal.returns-clause-line
returns-clause-line c = (
  (c.args.number, c.in_ok-step.step) ∷ [],
  c.in_ok-push.ensures.items,
  lines_mean-cons MeansStep c.args.number c.args.line.now _ [] [] (λ e. false-eqb _ _ c.if-is_empty.ensures (ap length e)) (subst (IsStepReading c.args.line.now) c.in_ok-step.ensures.ok_part c.in_ok-read_step.ensures) tt,
)
