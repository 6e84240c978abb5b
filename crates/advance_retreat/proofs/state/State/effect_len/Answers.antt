use Rattle.std.proofs.Common.{ap, ◌∙◌}
use Rattle.advance_retreat.specs.Kept.{Kept}
use Rattle.character_runs.specs.States.{shown_in}
use Rattle.advance_retreat.proofs.Keeping.{shown_told}
use Rattle.advance_retreat.proofs.state.State.effect_len.Goals as goal

pub returns : goal.returns
returns c = λ b events prepared st. c.shown.ensures ∙ ap (λ (s : Kept). shown_in s.records) c.self.view_is ∙ shown_told c.args.self.now b events prepared st
