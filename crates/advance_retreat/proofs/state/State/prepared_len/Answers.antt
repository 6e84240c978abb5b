use Rattle.std.proofs.Common.{ap, ◌∙◌}
use Rattle.advance_retreat.specs.Kept.{Kept}
use Rattle.character_runs.specs.States.{visible_in}
use Rattle.advance_retreat.proofs.Keeping.{visible_told}
use Rattle.advance_retreat.proofs.state.State.prepared_len.Goals as goal

pub returns : goal.returns
returns c = λ b events prepared st. c.visible.ensures ∙ ap (λ (s : Kept). visible_in s.records) c.self.view_is ∙ visible_told c.args.self.now b events prepared st
