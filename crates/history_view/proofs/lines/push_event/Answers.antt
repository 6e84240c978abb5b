use Rattle.std.proofs.Common.{◌++◌, codes, ap, ◌∙◌}
use Rattle.ew_model.specs.Scripts.{spaced}
use Rattle.history_definitions.specs.Listings.{op_words}
use Rattle.history_view.proofs.Pieces.{event_behind}
use Rattle.history_view.proofs.lines.push_event.Goals as goal

pub returns : goal.returns
returns c =
    c.in_ok-push-2.ensures.items
    ∙ ap (λ x. x ++ codes "\n") (c.in_ok-push_op.ensures
    ∙ ap (λ x. x ++ spaced (op_words c.args.event.now.op)) (c.in_ok-push.ensures.items ∙ ap (λ x. x ++ codes " ") c.in_ok-push_names.ensures))
    ∙ event_behind c.args.out.now.items c.args.event.now
