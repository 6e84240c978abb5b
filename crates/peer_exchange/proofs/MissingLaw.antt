-- By the summary of a good history, what is missing is what it doesn't hold.
use Rattle.std.proofs.Common.{◌≡◌, ℕ, ◌+◌, Bool, true, false, not, cond, ◌||◌, ⊎_elim, nat_le, nat_lt, List, [], ◌∷◌, ◌++◌, map, filter, Option, Some, refl, sym, ap, ◌∙◌, subst, arith, le-leb}
use Rattle.std.specs.List.{list_any}
use Rattle.std.specs.Map.{lookup}
use Rattle.std.specs.Option.{unwrap_or}
use Rattle.std.specs.Ordering.{nat_cmp}
use Rattle.std.specs.Cmp.Lexicographic.{slice_cmp}
use Rattle.std.proofs.lemmas.Bool.{false≢true, cases_Bool, leb-true, ltb-true, ltb-false}
use Rattle.std.proofs.lemmas.Cmp.{nat_list_cmp_total}
use Rattle.ew_model.specs.declared.id.Id.{Id}
use Rattle.ew_model.specs.declared.event.Event.{Event}
use Rattle.ew_model.specs.Ancestors.{ids_of, is_held}
use Rattle.ew_model.specs.ArrivalLaw.{OneEach}
use Rattle.ew_model.specs.Edits as edits
use Rattle.ew_model.specs.Events.{event_eq}
use Rattle.ew_model.specs.Ids.{name_eq}
use Rattle.ew_model.specs.Sets.{Among}
use Rattle.ew_model.specs.Sorting.{sort_by}
use Rattle.ew_model.specs.Verdicts.{IsGood}
use Rattle.ew_model.proofs.CoverLaws.{event_of, held_by}
use Rattle.ew_model.proofs.EditNumbers.{runs_on}
use Rattle.ew_model.proofs.IdLaws.{name_exact, is_same_id}
use Rattle.ew_model.proofs.ListTests.{any_from, filter_alike, found_by, same_truth}
use Rattle.ew_model.proofs.MergeSteps.{same_event}
use Rattle.ew_model.proofs.SameEvents.{event_among}
use Rattle.ew_model.proofs.SetLaws.{joined_left, joined_right}
use Rattle.ew_model.proofs.SortingLaws.{among_sort}
use Rattle.history_definitions.specs.Agents.{agents_of, count_of}
use Rattle.agent_ids.proofs.Agents.{count_cons, is_agent}
use Rattle.history_definitions.specs.Summary.{summary_of}
use Rattle.event_graph.proofs.Summing.{same_count}
use Rattle.history_definitions.specs.Missing.{count_in, missing}
use Rattle.peer_exchange.specs.Laws.{MissingAreUnheld}

-- an agent of none of the ids has none
none_counted : (ids : List Id) (agent : List ℕ) → list_any (λ (x : Id). name_eq x.agent agent) ids ≡ false → count_of ids agent ≡ 0
none_counted [] agent h = refl
none_counted (x ∷ ids) agent h = at (name_eq x.agent agent) refl h (λ k. none_counted ids agent k)
  where
    at : (b : Bool) → name_eq x.agent agent ≡ b → (name_eq x.agent agent || list_any (λ (y : Id). name_eq y.agent agent) ids) ≡ false
        → (list_any (λ (y : Id). name_eq y.agent agent) ids ≡ false → count_of ids agent ≡ 0) → count_of (x ∷ ids) agent ≡ 0
    at true e k f = absurd (false≢true (sym k ∙ ap (λ b. b || list_any (λ (y : Id). name_eq y.agent agent) ids) e))
    at false e k f =
        let one : count_of (x ∷ ids) agent ≡ 0 + count_of ids agent = count_cons x ids agent ∙ ap (λ b. cond b 1 0 + count_of ids agent) e in
        let none = f (sym (ap (λ b. b || list_any (λ (y : Id). name_eq y.agent agent) ids) e) ∙ k) in
        omega (arith, one, none)

-- the count of an agent in a list of counts
listed : (history : List Event) (names : List (List ℕ)) (agent : List ℕ) → (list_any (name_eq agent) names ≡ false → edits.count_of history agent ≡ 0)
    → count_in (map (λ name. (name, edits.count_of history name)) names) agent ≡ edits.count_of history agent
listed history [] agent none = sym (none refl)
listed history (name ∷ names) agent none = at (name_eq agent name) refl (λ h. listed history names agent h)
  where
    rest : Option ℕ
    rest = lookup (name_eq agent) (map (λ n. (n, edits.count_of history n)) names)

    at : (b : Bool) → name_eq agent name ≡ b → ((list_any (name_eq agent) names ≡ false → edits.count_of history agent ≡ 0) → unwrap_or rest 0 ≡ edits.count_of history agent)
        → count_in (map (λ n. (n, edits.count_of history n)) (name ∷ names)) agent ≡ edits.count_of history agent
    at true e more = ap (λ b. unwrap_or (cond b (Some (edits.count_of history name)) rest) 0) e ∙ ap (edits.count_of history) (sym (name_exact agent name e))
    at false e more =
        ap (λ b. unwrap_or (cond b (Some (edits.count_of history name)) rest) 0) e
        ∙ more (λ h. none (ap (λ b. b || list_any (name_eq agent) names) e ∙ h))

-- the summary tells the count of each agent, listed or not
pub summary_counts : (history : List Event) (agent : List ℕ) → count_in (summary_of history) agent ≡ edits.count_of history agent
summary_counts history agent = listed history (sort_by (slice_cmp nat_cmp) (agents_of (ids_of history))) agent none
  where
    there : list_any (name_eq agent) (agents_of (ids_of history)) ≡ true → list_any (name_eq agent) (sort_by (slice_cmp nat_cmp) (agents_of (ids_of history))) ≡ true
    there h =
        let found = found_by (name_eq agent) (agents_of (ids_of history)) h in
        any_from (name_eq agent) (sort_by (slice_cmp nat_cmp) (agents_of (ids_of history))) found.0 (among_sort nat_list_cmp_total (agents_of (ids_of history)) found.0 found.1) found.2

    none : list_any (name_eq agent) (sort_by (slice_cmp nat_cmp) (agents_of (ids_of history))) ≡ false → edits.count_of history agent ≡ 0
    none h = ⊎_elim
        (λ k. absurd (false≢true (sym h ∙ there k)))
        (λ k. sym (same_count history agent) ∙ none_counted (ids_of history) agent (sym (is_agent (ids_of history) agent) ∙ k))
        (cases_Bool (list_any (name_eq agent) (agents_of (ids_of history))))

-- where one id names one event, an event is held exactly where its id is
held_exactly : (history other : List Event) (e : Event) → OneEach (history ++ other) → Among e history → list_any (event_eq e) other ≡ is_held other e.id
held_exactly history other e one m = same_truth (list_any (event_eq e) other) (is_held other e.id)
    (λ h. held_by other e.id e (event_among e other h) ((is_same_id e.id e.id).1 refl))
    (λ h.
    let f = event_of other e.id h in
    let same : e ≡ f.0 = one e f.0 (joined_left history other e m) (joined_right history other f.0 f.1) f.2 in
    any_from (event_eq e) other f.0 f.1 (subst (λ g. event_eq e g ≡ true) same (same_event e)))

-- a number isn't below another exactly where it is at least that
not_below : (a b : ℕ) → nat_le b a ≡ not (nat_lt a b)
not_below a b = same_truth (nat_le b a) (not (nat_lt a b))
    (λ h. let le = leb-true b a h in ⊎_elim (λ k. let lt = ltb-true a b k in absurd (omega (arith, le, lt))) (λ k. ap not k) (cases_Bool (nat_lt a b)))
    (λ h. ⊎_elim (λ k. absurd (false≢true (ap not (sym k) ∙ h))) (λ k. let ge = ltb-false a b k in le-leb b a (omega (arith, ge))) (cases_Bool (nat_lt a b)))

-- by the summary of a good history, the events are missing whose ids it doesn't hold
pub missing_by_ids : (history other : List Event) → IsGood other → missing history (summary_of other) ≡ filter (λ (e : Event). not (is_held other e.id)) history
missing_by_ids history other good =
    filter_alike (λ (e : Event). nat_le (count_in (summary_of other) e.id.agent) e.id.seq) (λ (e : Event). not (is_held other e.id)) history
    (λ e m.
    ap (λ n. nat_le n e.id.seq) (summary_counts other e.id.agent)
    ∙ not_below e.id.seq (edits.count_of other e.id.agent)
    ∙ ap not (sym (runs_on other good e.id.agent e.id.seq)))

-- The law of what is missing.
pub missing_are_unheld : MissingAreUnheld
missing_are_unheld history other good one =
    missing_by_ids history other good
    ∙ filter_alike (λ (e : Event). not (is_held other e.id)) (λ (e : Event). not (list_any (event_eq e) other)) history
    (λ e m. ap not (sym (held_exactly history other e one m)))
