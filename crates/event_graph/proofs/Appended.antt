-- What is kept of a history with one more event.
use Rattle.std.proofs.Common.{◌≡◌, ◌∙◌, ◌∷◌, ◌++◌, [], true, Some, List, ℕ, length, sym, ap, subst}
use Rattle.ew_model.specs.declared.id.Id.{Id}
use Rattle.ew_model.specs.declared.event.Op.{Op}
use Rattle.ew_model.specs.declared.event.Event.{Event}
use Rattle.ew_model.specs.Ancestors as model
use Rattle.ew_model.specs.Positions.{IsHistoryOfParents, frontier_of, is_reduced_at, positions_in, parent_positions}
use Rattle.critical.specs.KeptCuts.{KeptCuts, kept_for}
use Rattle.event_runs.specs.BareEvents.{BareEvent, bare}
use Rattle.event_graph.specs.Afters.{IsNextAfter, StandsOn, id_after}
use Rattle.event_graph.specs.Keeping.{IsKeptOf}
use Rattle.event_graph.specs.declared.parts.After.{After}
use Rattle.event_graph.proofs.Admitted.{let_in}
use Rattle.event_graph.proofs.Grown.{grown}
use Rattle.event_graph.proofs.Kept.{agreement, length_events, length_parents}

module _ (now : List Event) (ids : List Id) (events : List BareEvent) (heads : List ℕ) (cuts : KeptCuts) (kept : IsKeptOf now ids events heads cuts) where
  -- each part has what is told of it
  pub kept_after : (after : After) (parents : List ℕ) (op : Op) (e : Event) → IsNextAfter now after parents op e → (more_ids : List Id) (more_events : List BareEvent) (heads_then : List ℕ) (cuts_then : KeptCuts)
      → ((x : Id) → id_after after ids ≡ Some x → more_ids ≡ ids ++ x ∷ []) → more_events ≡ events ++ bare op parents ∷ []
      → ((history : List (List ℕ)) → IsHistoryOfParents history → length events ≡ length history → heads ≡ frontier_of history → StandsOn after (length events) heads parents → heads_then ≡ frontier_of (history ++ parents ∷ []))
      → ((history : List (List ℕ)) → IsHistoryOfParents history → cuts ≡ kept_for history → heads ≡ frontier_of history → StandsOn after (length events) heads parents → is_reduced_at history parents ≡ true → cuts_then ≡ kept_for (history ++ parents ∷ []))
      → IsKeptOf (now ++ e ∷ []) more_ids more_events heads_then cuts_then
  kept_after after parents op e next more_ids more_events heads_then cuts_then with_id with_event with_heads with_cut =
      let agree = agreement now ids events heads cuts kept in
      let places = parent_positions now in
      let held : length events ≡ length now = length_events now ids events heads cuts kept in
      let count : length events ≡ length places = held ∙ sym (length_parents now ids events heads cuts kept) in
      let placed : parents ≡ positions_in now e.parents = next.good.placed in
      let reduced : is_reduced_at places parents ≡ true = ap (is_reduced_at places) placed ∙ agree.reduced e.parents ∙ (let_in now e next.good.good).reduced in
      let all : positions_in now (model.heads now) ≡ heads = sym (kept.heads_are ∙ agree.heads) in
      let stands : StandsOn after (length events) heads parents = subst (λ (hs : List ℕ). StandsOn after (length events) hs parents) all (subst (λ n. StandsOn after n (positions_in now (model.heads now)) parents) (sym held) next.stands) in
      grown now e more_ids more_events heads_then cuts_then kept.admitted kept.sound next.good.good next.sound
      (with_id e.id (ap (id_after after) kept.ids_are ∙ next.id) ∙ ap (λ (xs : List Id). xs ++ e.id ∷ []) kept.ids_are)
      (with_event ∙ (λ i. kept.events_are i ++ bare (sym next.op_is i) (placed i) ∷ []))
      (with_heads places agree.parents count kept.heads_are stands ∙ ap (λ (ps : List ℕ). frontier_of (places ++ ps ∷ [])) placed)
      (with_cut places agree.parents kept.cuts_are kept.heads_are stands reduced ∙ ap (λ (ps : List ℕ). kept_for (places ++ ps ∷ [])) placed)
