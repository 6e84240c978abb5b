use Rattle.std.proofs.Common.{◌∙◌, sym, ap}
use Rattle.ew_model.specs.Texts.{text_of}
use Rattle.ew_model.specs.Verdicts.{first_bad}
use Rattle.replica.specs.Lengths.{prefix_lengths}
use Rattle.replica.proofs.Beginnings.{no_text, none_is_bad, none_told}
use Rattle.replica.specs.LazyTexts.{ToldText}
use Rattle.replica.proofs.state.Replica.new.Goals as goal

pub of_good-requires-clause-good : goal.of_good-requires-clause-good
of_good-requires-clause-good c = ap first_bad c.in_ok-graph.ensures ∙ none_is_bad

pub of_good-requires-clause-text : goal.of_good-requires-clause-text
of_good-requires-clause-text c = ap (λ (t : ToldText). t.characters) c.in_ok-text.ensures ∙ sym no_text ∙ ap text_of (sym c.in_ok-graph.ensures)

pub of_good-requires-clause-lengths : goal.of_good-requires-clause-lengths
of_good-requires-clause-lengths c = c.new-lengths.ensures ∙ ap prefix_lengths (sym c.in_ok-graph.ensures)

pub of_good-requires-clause-told : goal.of_good-requires-clause-told
of_good-requires-clause-told c = none_told _ _ (ap (λ (t : ToldText). t.told) c.in_ok-text.ensures)
