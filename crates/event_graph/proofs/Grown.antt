-- What is kept of a history with one more event.
use Rattle.std.proofs.Common.{◌≡◌, ℕ, false, List, [], ◌∷◌, ◌++◌, map, inl, refl, sym, ap, ◌∙◌}
use Rattle.std.proofs.lemmas.Bool.{false≢true, false_from_ne_true}
use Rattle.std.proofs.lemmas.List.{map-append}
use Rattle.ew_model.specs.declared.id.Id.{Id}
use Rattle.ew_model.specs.declared.event.Event.{Event}
use Rattle.ew_model.specs.Sets.{Among}
use Rattle.ew_model.specs.Ids.{id_eq, is_among}
use Rattle.ew_model.specs.Graph.{has_child}
use Rattle.ew_model.specs.Ancestors.{ids_of}
use Rattle.ew_model.specs.Positions.{frontier_of, positions_in, parent_positions}
use Rattle.ew_model.specs.Sound.{IsSound, AreSound}
use Rattle.ew_model.specs.Verdicts.{graph_verdict}
use Rattle.ew_model.specs.Verdicts.Ruling.{Good}
use Rattle.ew_model.proofs.EntryLaws.{LaidOut, all_joined}
use Rattle.ew_model.proofs.GraphHeads.{no_later_parent}
use Rattle.ew_model.proofs.ListTests.{any_from}
use Rattle.ew_model.proofs.PositionNumbers.{positions_before}
use Rattle.ew_model.proofs.SetLaws.{joined_left, joined_right}
use Rattle.critical.specs.KeptCuts.{KeptCuts, kept_for}
use Rattle.event_runs.specs.BareEvents.{BareEvent, bare, ops_in, parents_in}
use Rattle.event_graph.specs.Keeping.{IsAdmitted, history_of, bare_events, IsKeptOf}
use Rattle.event_graph.proofs.Admitted.{laid, more}
use Rattle.event_graph.proofs.Rebuilt.{rebuilt}
use Rattle.ew_model.proofs.RecordLaws.{map_map, map_same}

-- one more event adds the positions of its parents, and changes no others
positions_stay : (history : List Event) (e : Event) → LaidOut [] (history ++ e ∷ []) → (f : Event) → Among f (history ++ e ∷ []) → positions_in (history ++ e ∷ []) f.parents ≡ positions_in history f.parents
positions_stay history e there f m =
    let none : has_child (λ (g : Event). g.id) (λ (g : Event). g.parents) id_eq (history ++ e ∷ []) e.id ≡ false = no_later_parent (λ (g : Event). g.id) (λ (g : Event). g.parents) id_eq [] history e there in
    positions_before f.parents 0 history e
    (false_from_ne_true (is_among f.parents e.id) (λ q. false≢true (sym none ∙ any_from (λ (g : Event). is_among g.parents e.id) (history ++ e ∷ []) f m q)))

-- made of each event's parents' positions
grown_by : {X : Type 0} (make : Event → List ℕ → X) (history : List Event) (e : Event) → LaidOut [] (history ++ e ∷ [])
    → map (λ f. make f (positions_in (history ++ e ∷ []) f.parents)) (history ++ e ∷ []) ≡ map (λ f. make f (positions_in history f.parents)) history ++ make e (positions_in history e.parents) ∷ []
grown_by make history e there =
    map-append (λ f. make f (positions_in (history ++ e ∷ []) f.parents)) history (e ∷ [])
    ∙ (λ i. map_same (λ f. make f (positions_in (history ++ e ∷ []) f.parents)) (λ f. make f (positions_in history f.parents)) history (λ f m. ap (make f) (positions_stay history e there f (joined_left history (e ∷ []) f m))) i
    ++ make e (positions_stay history e there e (joined_right history (e ∷ []) e (inl refl)) i) ∷ [])

pub bare_grown : (history : List Event) (e : Event) → LaidOut [] (history ++ e ∷ []) → bare_events (history ++ e ∷ []) ≡ bare_events history ++ bare e.op (positions_in history e.parents) ∷ []
bare_grown history e there = grown_by (λ f ps. bare f.op ps) history e there

pub parents_grown : (history : List Event) (e : Event) → LaidOut [] (history ++ e ∷ []) → parent_positions (history ++ e ∷ []) ≡ parent_positions history ++ positions_in history e.parents ∷ []
parents_grown history e there = grown_by (λ f ps. ps) history e there

-- the parts of what is kept
pub parents_kept : (history : List Event) → parents_in (bare_events history) ≡ parent_positions history
parents_kept history = map_map (λ (e : Event). bare e.op (positions_in history e.parents)) (λ (b : BareEvent). b.parents) history

pub ops_kept : (history : List Event) → ops_in (bare_events history) ≡ map (λ (e : Event). e.op) history
ops_kept history = map_map (λ (e : Event). bare e.op (positions_in history e.parents)) (λ (b : BareEvent). b.op) history

module _ (history : List Event) (e : Event) (ids : List Id) (events : List BareEvent) (heads : List ℕ) (cuts : KeptCuts) where
  -- what is kept of the history with an event that was judged good
  pub grown : IsAdmitted history → AreSound history → graph_verdict history e ≡ Good → IsSound e → ids ≡ ids_of history ++ e.id ∷ [] → events ≡ bare_events history ++ bare e.op (positions_in history e.parents) ∷ []
      → heads ≡ frontier_of (parent_positions history ++ positions_in history e.parents ∷ []) → cuts ≡ kept_for (parent_positions history ++ positions_in history e.parents ∷ [])
      → IsKeptOf (history ++ e ∷ []) ids events heads cuts
  grown admitted sound good sound_event same_ids same_events same_heads same_cuts =
      let whole = more history e admitted good in
      let there = laid (history ++ e ∷ []) whole in
      let parents = parents_grown history e there in
      record {
        admitted = whole;
        sound = all_joined IsSound history (e ∷ []) sound (sound_event, tt);
        ids_are = same_ids ∙ sym (map-append (λ (f : Event). f.id) history (e ∷ []));
        events_are = same_events ∙ sym (bare_grown history e there);
        heads_are = same_heads ∙ ap frontier_of (sym parents);
        cuts_are = same_cuts ∙ ap kept_for (sym parents);
      }

-- what is kept tells the history
pub told : (history : List Event) (ids : List Id) (events : List BareEvent) (heads : List ℕ) (cuts : KeptCuts) → IsKeptOf history ids events heads cuts → history_of ids events ≡ history
told history ids events heads cuts kept = (λ i. history_of (kept.ids_are i) (kept.events_are i)) ∙ rebuilt history kept.admitted
