-- The events that a peer gives: those whose ids the other doesn't hold.
use Rattle.std.proofs.Common.{◌≡◌, ℕ, ◌≤◌, not, List, length, arith, sym, ap, ◌∙◌, subst}
use Rattle.std.specs.List.{IsDistinct}
use Rattle.std.specs.Map.{keys_of}
use Rattle.std.proofs.lemmas.List.Filters.{length-filter_both}
use Rattle.ew_model.specs.declared.event.Event.{Event}
use Rattle.ew_model.specs.Ancestors.{is_held}
use Rattle.ew_model.specs.Ids.{name_eq}
use Rattle.ew_model.specs.Kept.{IsKept, ReplicaState}
use Rattle.history_laws.specs.Repeats.{without_held}
use Rattle.history_definitions.specs.Missing.{missing}
use Rattle.history_definitions.specs.Summary.{summary_of}
use Rattle.peer_exchange.proofs.Ascending.{ascending_distinct, summary_up}
use Rattle.peer_exchange.proofs.MissingLaw.{missing_by_ids}

-- no agent stands twice in a summary
pub summary_distinct : (history : List Event) (counts : List (List ℕ × ℕ)) → counts ≡ summary_of history → IsDistinct name_eq (keys_of counts)
summary_distinct history counts is =
    subst (λ (cs : List (List ℕ × ℕ)). IsDistinct name_eq (keys_of cs)) (sym is) (ascending_distinct (keys_of (summary_of history)) (summary_up history))

-- what the taker's summary leaves out of what the giver holds
pub lacking : (p q : ReplicaState) (held known : List Event) (counts : List (List ℕ × ℕ)) → held ≡ q.held → known ≡ p.held → counts ≡ summary_of known
    → IsKept p.limits p.held p.waiting
    → missing held counts ≡ without_held p.held q.held
lacking p q held known counts first second summed kept =
    (λ i. missing (first i) ((summed ∙ ap summary_of second) i)) ∙ missing_by_ids q.held p.held kept.orderly.good

-- there are no more of them than events
pub no_more : (known held : List Event) → length (without_held known held) ≤ length held
no_more known held =
    let both = length-filter_both (λ (e : Event). is_held known e.id) (λ (e : Event). not (is_held known e.id)) (λ e i. not (is_held known e.id)) held in
    omega (arith, both)
