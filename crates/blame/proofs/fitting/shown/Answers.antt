use Rattle.std.proofs.Common.{take, ap, ◌∙◌}
use Rattle.ew_model.specs.Scripts.{escaped_text}
use Rattle.blame_definitions.specs.Widths.{shown}
use Rattle.blame.proofs.fitting.shown.Goals as goal

pub returns : goal.returns
unfolding shown
returns c =
    c.in_ok-form.ensures
    ∙ ap (λ k. escaped_text (take k c.args.text.now)) c.in_ok-count.ensures.most
