use Rattle.std.proofs.Common.{[], ◌∷◌, length, ap, subst, false-eqb}
use Rattle.ew_model.specs.Scripts.{MeansEdit}
use Rattle.ew_model.proofs.LineLaws.{lines_mean-cons}
use Rattle.script_reader.specs.Meaning.{IsReading}
use Rattle.script_reader.proofs.script.push_line.Goals as goal

pub returns-clause-line : goal.returns-clause-line
returns-clause-line c = (
  (c.args.number, c.in_ok-edit.edit) ∷ [],
  c.in_ok-push.ensures.items,
  lines_mean-cons MeansEdit c.args.number c.args.line.now _ [] [] (λ e. false-eqb _ _ c.if-is_empty.ensures (ap length e)) (subst (IsReading c.args.line.now) c.in_ok-edit.ensures.ok_part c.in_ok-read_line.ensures) tt,
)
