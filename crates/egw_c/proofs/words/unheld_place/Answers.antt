use Rattle.std.proofs.Common.{◌∙◌, length, not, unwrap_or, ap}
use Rattle.ew_model.specs.Ancestors.{is_held}
use Rattle.egw_c.proofs.Places.{place_or_length}
use Rattle.egw_c.proofs.words.unheld_place.Goals as goal

pub returns : goal.returns
returns c = c.unwrap_or.ensures ∙ ap (λ o. unwrap_or o (length c.args.ids.now)) c.first_unheld.ensures ∙ place_or_length (λ x. not (is_held c.args.document.now.held x)) c.args.ids.now
