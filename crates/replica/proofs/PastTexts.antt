-- The text that the operations of good events make, and that of a version's events.
use Rattle.std.proofs.Common.{◌≡◌, ℕ, ◌≤◌, List, [], length, sym, ap, subst, ◌∙◌}
use Rattle.ew_model.specs.declared.id.Id.{Id}
use Rattle.ew_model.specs.declared.event.Event.{Event}
use Rattle.ew_model.specs.declared.text_op.TextOp.{TextOp}
use Rattle.ew_model.specs.Ancestors.{ancestors, version_events}
use Rattle.ew_model.specs.Ids.{is_among}
use Rattle.ew_model.specs.Operations.{operations, changed_by_all}
use Rattle.ew_model.specs.Texts.{text_at, text_of}
use Rattle.ew_model.specs.TextLaws.{AllFit}
use Rattle.ew_model.specs.Verdicts.{IsGood}
use Rattle.ew_model.proofs.FirstBadLaws.{good_has_no_bad}
use Rattle.ew_model.proofs.ListParts.{length-filter-le}
use Rattle.history_laws.proofs.VersionHistories.{versions_are_histories}
use Rattle.event_graph.specs.Subgraphs.{subgraph_of}
use Rattle.rope.specs.Lengths.{AllStayShort}
use Rattle.replica.proofs.FrontWalks.{AreWalked, may_write, text_made}

walked : (history : List Event) (ops : List TextOp) → IsGood history → ops ≡ operations history → AreWalked history ops
walked history ops good are = record { none = (good_has_no_bad history).0 good; ops_are = are }

-- the operations may be done to no text
pub may_do : (history : List Event) (ops : List TextOp) (text : List ℕ) → IsGood history → length history ≤ 16777216 → ops ≡ operations history → text ≡ [] → AllFit text ops × AllStayShort text ops
may_do history ops text good few are none =
    subst (λ (t : List ℕ). AllFit t ops × AllStayShort t ops) (sym none) (may_write history ops (walked history ops good are) few)

-- and make the text of the history
pub text_done : (history : List Event) (ops : List TextOp) (text : List ℕ) → IsGood history → ops ≡ operations history → text ≡ [] → changed_by_all ops text ≡ text_of history
text_done history ops text good are none = ap (changed_by_all ops) none ∙ text_made history ops (walked history ops good are)

-- a version has no more events than the history,
pub version_few : (history part : List Event) (version : List Id) → part ≡ subgraph_of history version → length part ≤ length history
version_few history part version is =
    subst (λ (es : List Event). length es ≤ length history) (sym is) (length-filter-le (λ (e : Event). is_among (ancestors history version) e.id) history)

-- and have the version's text
pub version_text : (history part : List Event) (version : List Id) → IsGood history → part ≡ version_events history version → text_of part ≡ text_at history version
version_text history part version good is = ap text_of is ∙ sym (versions_are_histories history version good).text
