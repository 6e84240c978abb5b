use Rattle.std.proofs.Common.{ap, ◌∙◌}
use Rattle.advance_retreat.specs.Kept.{Kept, target_at}
use Rattle.advance_retreat.specs.Placing.{other_event}
use Rattle.advance_retreat.proofs.Placing.{target_some, target_none}
use Rattle.advance_retreat.proofs.state.State.target_of.Goals as goal

pub returns-clause-some : goal.returns-clause-some
returns-clause-some c = λ events prepared st.
    target_some c.args.self.now events prepared st c.args.lv c.other.result (c.other.ensures ∙ ap (λ (s : Kept). other_event c.args.lv (target_at s.targets c.args.lv)) c.self.view_is)

pub returns-clause-none : goal.returns-clause-none
returns-clause-none c = λ events prepared st.
    target_none c.args.self.now events prepared st c.args.lv c.other.result (c.other.ensures ∙ ap (λ (s : Kept). other_event c.args.lv (target_at s.targets c.args.lv)) c.self.view_is)
