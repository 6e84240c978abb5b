-- SO MANY EVENTS in a chain on the last one are as many single events.
use Rattle.std.proofs.Common.{◌≡◌, ℕ, zero, suc, ◌+◌, ◌-◌, ◌<◌, ◌≤◌, ◌^◌, false, cond, not, ◌||◌, nat_eq, List, [], ◌∷◌, ◌++◌, length, filter, slice_get, Some, refl, sym, ap, ◌∙◌, subst, arith, append-nil, append_assoc}
use Rattle.std.specs.List.{AllByRecursion}
use Rattle.std.proofs.lemmas.Bool.{eq-eqb}
use Rattle.std.proofs.lemmas.List.{length-map, map-append, length_push}
use Rattle.std.proofs.lemmas.List.Elements.{filter-append, recursion_from_All}
use Rattle.ew_model.specs.declared.id.Id.{Id}
use Rattle.ew_model.specs.declared.event.Op.{Op}
use Rattle.ew_model.specs.declared.event.Event.{Event}
use Rattle.ew_model.specs.Ancestors.{ids_of}
use Rattle.ew_model.specs.Graph.{is_named}
use Rattle.std.specs.Char.{IsScalar}
use Rattle.ew_model.specs.Edits.{chain_of, insertions_at}
use Rattle.ew_model.specs.Positions.{IsHistoryOfParents, frontier_of, parent_positions}
use Rattle.ew_model.specs.Sound.{IsSoundOp, IsSound, AreSound}
use Rattle.ew_model.proofs.EntryLaws.{all_joined}
use Rattle.ew_model.proofs.PositionFrontier.{frontier_below}
use Rattle.ew_model.proofs.SortingLaws.{all_filter}
use Rattle.history_definitions.specs.Chains.{event_behind, next_id, last_id}
use Rattle.agent_ids.specs.IdRuns.{id_with, ids_from, last_in}
use Rattle.critical.specs.KeptCuts.{KeptCuts, kept_for, chain_parents}
use Rattle.critical.proofs.Chains as cuts
use Rattle.event_runs.specs.BareEvents.{BareEvent, bare}
use Rattle.event_runs.specs.RunOps.{chain_on}
use Rattle.frontier.specs.Heads.{heads_after}
use Rattle.event_graph.specs.GoingOn.{chain_behind}
use Rattle.event_graph.specs.Keeping.{IsAdmitted, bare_events, IsKeptOf}
use Rattle.event_graph.proofs.Admitted.{laid, more}
use Rattle.event_graph.proofs.GoingOn.{last_alone, good_behind, sound_behind}
use Rattle.event_graph.proofs.Grown.{bare_grown, parents_grown}
use Rattle.event_graph.proofs.Kept.{agreement, length_events, length_parents}
use Rattle.history_definitions.proofs.LastIds.{last_pushed}

-- THE HEADS behind them: the last of them, where the last event before was the only head
pub only_along : (n : ℕ) (history : List (List ℕ)) (last : ℕ) → IsHistoryOfParents history → suc last ≡ length history → frontier_of history ≡ last ∷ [] → frontier_of (history ++ chain_parents last n) ≡ (last + n) ∷ []
only_along zero history last good end only = let same : last ≡ last + 0 = omega arith in ap frontier_of (append-nil history) ∙ only ∙ ap (λ m. m ∷ []) same
only_along (suc n) history last good end only =
    let then = history ++ (last ∷ []) ∷ [] in
    let same : last + 1 + n ≡ last + suc n = omega arith in
    ap frontier_of (sym (append_assoc history ((last ∷ []) ∷ []) (chain_parents (last + 1) n)))
    ∙ only_along n then (last + 1) (cuts.one_more history last good end) (cuts.still_end history last good end) (cuts.only_head history last good end only) ∙ ap (λ m. m ∷ []) same

-- and the others stay
pub heads_along : (n : ℕ) (history : List (List ℕ)) (last : ℕ) → IsHistoryOfParents history → suc last ≡ length history
    → frontier_of (history ++ chain_parents last (suc n)) ≡ filter (λ q. not (is_named nat_eq (last ∷ []) q)) (frontier_of history) ++ (last + suc n) ∷ []
heads_along zero history last good end = cuts.pushed history last good end
heads_along (suc n) history last good end =
    let then = history ++ (last ∷ []) ∷ [] in
    let good_then = cuts.one_more history last good end in
    let end_then = cuts.still_end history last good end in
    let same : last + 1 + suc n ≡ last + suc (suc n) = omega arith in
    let older = filter (λ q. not (is_named nat_eq (last ∷ []) q)) (frontier_of history) in
    let here : length history ≡ last + 1 = omega (arith, end) in
    let low : AllByRecursion (λ q. q < last + 1) older =
    subst (λ m. AllByRecursion (λ q. q < m) older) here
    (all_filter (λ q. q < length history) (λ q. not (is_named nat_eq (last ∷ []) q)) (frontier_of history) (recursion_from_All (λ q. q < length history) (frontier_of history) (frontier_below history))) in
    let pass = λ (q : ℕ). not (is_named nat_eq ((last + 1) ∷ []) q) in
    ap frontier_of (sym (append_assoc history ((last ∷ []) ∷ []) (chain_parents (last + 1) (suc n))))
    ∙ heads_along n then (last + 1) good_then end_then
    ∙ ap (λ hs. filter pass hs ++ (last + 1 + suc n) ∷ []) (cuts.pushed history last good end)
    ∙ (λ i. (filter-append pass older ((last + 1) ∷ [])
    ∙ (λ j. cuts.older_stay then (last + 1) good_then end_then older low j ++ cond (not (eq-eqb (last + 1) (last + 1) refl j || false)) ((last + 1) ∷ []) [])
    ∙ append-nil older) i ++ same i ∷ [])

pub others_along : (n : ℕ) (history : List (List ℕ)) (last : ℕ) → IsHistoryOfParents history → suc last ≡ length history → 0 < n → heads_after (frontier_of history) (last + n) (last ∷ []) ≡ frontier_of (history ++ chain_parents last n)
others_along zero history last good end some = absurd (omega (arith, some))
others_along (suc n) history last good end some = sym (heads_along n history last good end)

-- THE OPERATIONS can be those of events
pub insertions_sound : (at : ℕ) (text : List ℕ) → at + length text ≤ 2 ^ 32 → AllByRecursion IsScalar text → AllByRecursion IsSoundOp (insertions_at at text)
insertions_sound at [] fit can = tt
insertions_sound at (ch ∷ text) fit can = ((omega (arith, fit), can.0), insertions_sound (at + 1) text (omega (arith, fit)) can.1)

-- the last id of a history
pub last_of : (history : List Event) (x : Id) → last_in (ids_of history) ≡ Some x → last_id history ≡ Some x
last_of history x last = ap (λ n. slice_get (ids_of history) (n - 1)) (sym (length-map history (λ (e : Event). e.id))) ∙ last

-- THE HISTORY with them
pub record IsChained (history : List Event) (x : Id) (ops : List Op) : Type 0 where
  pub admitted : IsAdmitted (history ++ chain_behind x ops)
  pub sound : AreSound (history ++ chain_behind x ops)
  pub ids : ids_of (history ++ chain_behind x ops) ≡ ids_of history ++ ids_from (next_id x) (length ops)
  pub bare_are : bare_events (history ++ chain_behind x ops) ≡ bare_events history ++ chain_on (length history - 1) ops
  pub parents : parent_positions (history ++ chain_behind x ops) ≡ parent_positions history ++ chain_parents (length history - 1) (length ops)

last_some : (history : List Event) (x : Id) → last_id history ≡ Some x → 0 < length history
last_some [] x last = let no : ⊥ = cc in absurd no
last_some (e ∷ history) x last = omega arith

-- each of them is judged good
pub chain_admitted : (ops : List Op) (history : List Event) (x : Id) → IsAdmitted history → last_id history ≡ Some x → IsAdmitted (history ++ chain_behind x ops)
chain_admitted [] history x admitted last = subst IsAdmitted (sym (append-nil history)) admitted
chain_admitted (op ∷ ops) history x admitted last =
    let e = event_behind x op in
    subst IsAdmitted (append_assoc history (e ∷ []) (chain_behind (next_id x) ops))
    (chain_admitted ops (history ++ e ∷ []) (next_id x) (more history e admitted (good_behind history admitted x last op)) (last_pushed history e))

pub chained : (ops : List Op) (history : List Event) (x : Id) → IsAdmitted history → AreSound history → last_id history ≡ Some x → length history + length ops < 2 ^ 32 → AllByRecursion IsSoundOp ops → IsChained history x ops
chained [] history x admitted sound last few fits = record {
  admitted = chain_admitted [] history x admitted last;
  sound = subst AreSound (sym (append-nil history)) sound;
  ids = ap ids_of (append-nil history) ∙ sym (append-nil (ids_of history));
  bare_are = ap bare_events (append-nil history) ∙ sym (append-nil (bare_events history));
  parents = ap parent_positions (append-nil history) ∙ sym (append-nil (parent_positions history));
}
chained (op ∷ ops) history x admitted sound last few fits =
    let e = event_behind x op in
    let then = history ++ e ∷ [] in
    let good = good_behind history admitted x last op in
    let whole = more history e admitted good in
    let there = laid then whole in
    let size = length_push history e in
    let some = last_some history x last in
    let rest = chained ops then (next_id x) whole (all_joined IsSound history (e ∷ []) sound (sound_behind history admitted x last op sound (omega (arith, few)) fits.0, tt)) (last_pushed history e) (omega (arith, few, size)) fits.1 in
    let join : then ++ chain_behind (next_id x) ops ≡ history ++ chain_behind x (op ∷ ops) = append_assoc history (e ∷ []) (chain_behind (next_id x) ops) in
    let next : length then - 1 ≡ length history - 1 + 1 = omega (arith, size, some) in
    let placed = sym (last_alone history x admitted last) in
    let number : suc (suc x.seq) ≡ suc x.seq + 1 = omega arith in
    record {
      admitted = chain_admitted (op ∷ ops) history x admitted last;
      sound = subst AreSound join rest.sound;
      ids = ap ids_of (sym join) ∙ rest.ids ∙ ap (λ (xs : List Id). xs ++ ids_from (next_id (next_id x)) (length ops)) (map-append (λ (f : Event). f.id) history (e ∷ []))
          ∙ append_assoc (ids_of history) (next_id x ∷ []) (ids_from (next_id (next_id x)) (length ops))
          ∙ ap (λ k. ids_of history ++ next_id x ∷ ids_from (id_with x.agent k) (length ops)) number;
      bare_are = ap bare_events (sym join) ∙ rest.bare_are
          ∙ (λ i. (bare_grown history e there ∙ ap (λ (ps : List ℕ). bare_events history ++ bare op ps ∷ []) placed) i ++ chain_on (next i) ops)
          ∙ append_assoc (bare_events history) (bare op ((length history - 1) ∷ []) ∷ []) (chain_on (length history - 1 + 1) ops);
      parents = ap parent_positions (sym join) ∙ rest.parents
          ∙ (λ i. (parents_grown history e there ∙ ap (λ (ps : List ℕ). parent_positions history ++ ps ∷ []) placed) i ++ chain_parents (next i) (length ops))
          ∙ append_assoc (parent_positions history) (((length history - 1) ∷ []) ∷ []) (chain_parents (length history - 1 + 1) (length ops));
    }

-- they are the events of an agent in a row
pub in_a_row : (x : Id) (ops : List Op) → chain_behind x ops ≡ chain_of x.agent (suc x.seq) (x ∷ []) ops
in_a_row x [] = refl
in_a_row x (op ∷ ops) =
    let number : suc (suc x.seq) ≡ suc x.seq + 1 = omega arith in
    ap (λ es. event_behind x op ∷ es) (in_a_row (next_id x) ops ∙ ap (λ k. chain_of x.agent k (next_id x ∷ []) ops) number)

-- WHAT IS KEPT of it
module _ (now : List Event) (ids : List Id) (events : List BareEvent) (heads : List ℕ) (cuts_now : KeptCuts) (kept : IsKeptOf now ids events heads cuts_now) where
  pub kept_chain : (x : Id) (ops : List Op) → last_id now ≡ Some x → length now + length ops < 2 ^ 32 → AllByRecursion IsSoundOp ops → (ids_then : List Id) (events_then : List BareEvent) (heads_then : List ℕ) (cuts_then : KeptCuts)
      → ids_then ≡ ids ++ ids_from (next_id x) (length ops) → events_then ≡ events ++ chain_on (length events - 1) ops
      → ((history : List (List ℕ)) → IsHistoryOfParents history → length events ≡ length history → heads ≡ frontier_of history → heads_then ≡ frontier_of (history ++ chain_parents (length events - 1) (length ops)))
      → ((history : List (List ℕ)) → IsHistoryOfParents history → cuts_now ≡ kept_for history → heads ≡ frontier_of history → cuts_then ≡ kept_for (history ++ chain_parents (length events - 1) (length ops)))
      → IsKeptOf (now ++ chain_behind x ops) ids_then events_then heads_then cuts_then
  kept_chain x ops last few fits ids_then events_then heads_then cuts_then with_ids with_events with_heads with_cuts =
      let places = parent_positions now in
      let good = (agreement now ids events heads cuts_now kept).parents in
      let all = chained ops now x kept.admitted kept.sound last few fits in
      let held : length events ≡ length now = length_events now ids events heads cuts_now kept in
      let count : length events ≡ length places = held ∙ sym (length_parents now ids events heads cuts_now kept) in
      let whole : places ++ chain_parents (length events - 1) (length ops) ≡ parent_positions (now ++ chain_behind x ops) = ap (λ n. places ++ chain_parents (n - 1) (length ops)) held ∙ sym all.parents in
      record {
        admitted = all.admitted;
        sound = all.sound;
        ids_are = with_ids ∙ ap (λ (xs : List Id). xs ++ ids_from (next_id x) (length ops)) kept.ids_are ∙ sym all.ids;
        events_are = with_events ∙ (λ i. kept.events_are i ++ chain_on (held i - 1) ops) ∙ sym all.bare_are;
        heads_are = with_heads places good count kept.heads_are ∙ ap frontier_of whole;
        cuts_are = with_cuts places good kept.cuts_are kept.heads_are ∙ ap kept_for whole;
      }
