-- Versions with the same events have one text: that of these events as a history.
use Rattle.std.proofs.Common.{sym, ◌∙◌}
use Rattle.ew_model.specs.Ancestors.{version_events}
use Rattle.ew_model.proofs.EqualSets.{same_text_of}
use Rattle.ew_model.proofs.SubgraphLaws.{version_laid_out, subgraph_text}
use Rattle.ew_model.proofs.GoodLaws.{good_laid_out}
use Rattle.history_laws.specs.Versions.{VersionsKeepText}

-- The law of the texts of versions.
pub versions_keep_text : VersionsKeepText
versions_keep_text xs ys one other good_xs good_ys s =
    let h = good_laid_out xs good_xs in
    let k = good_laid_out ys good_ys in
    subgraph_text xs one h
    ∙ same_text_of (version_events xs one) (version_events ys other) (version_laid_out xs one h) (version_laid_out ys other k) s
    ∙ sym (subgraph_text ys other k)
