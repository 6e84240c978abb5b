-- How many agents and critical cuts there are.
use Rattle.std.proofs.Common.{◌≡◌, ℕ, suc, ◌+◌, Bool, true, false, cond, List, [], ◌∷◌, ◌++◌, length, fold, refl, ap, ◌∙◌, length-append, add-one, sym}
use Rattle.std.proofs.lemmas.Bool.{cond-true, cond-false}
use Rattle.std.proofs.lemmas.List.{length-map}
use Rattle.std.specs.Ordering.{nat_cmp}
use Rattle.std.specs.Cmp.Lexicographic.{slice_cmp}
use Rattle.ew_model.specs.declared.event.Event.{Event}
use Rattle.ew_model.specs.Ancestors.{heads, ids_of}
use Rattle.ew_model.specs.Cuts.{cuts_to, is_critical}
use Rattle.ew_model.specs.Edits.{count_of}
use Rattle.ew_model.specs.Writable.{agents_of, with_agent}
use Rattle.ew_model.specs.Graph.{passing_to}
use Rattle.ew_model.specs.Ids.{id_cmp}
use Rattle.ew_model.specs.Sorting.{sort_by}
use Rattle.ew_model.proofs.SortingLaws.{length-sort}
use Rattle.history_definitions.specs.Agents as table
use Rattle.history_definitions.specs.Summary.{summary_of}
use Rattle.ew_model.proofs.AgentLaws.{few_agents}
use Rattle.replica.proofs.HeadLaws.{few_heads}

-- the agents of events are those of their ids
agents_alike : (names : List (List ℕ)) (history : List Event) → fold (λ ns x. table.with_name ns x.agent) names (ids_of history) ≡ fold with_agent names history
agents_alike names [] = refl
agents_alike names (e ∷ history) = agents_alike (with_agent names e) history

pub agents_counted : (history : List Event) → length (summary_of history) ≡ length (agents_of history)
agents_counted history =
    length-map (sort_agents history) (λ agent. (agent, count_of history agent))
    ∙ length-sort (slice_cmp nat_cmp) (table.agents_of (ids_of history)) ∙ ap length (agents_alike [] history)
  where
    sort_agents : List Event → List (List ℕ)
    sort_agents h = sort_by (slice_cmp nat_cmp) (table.agents_of (ids_of h))

-- one number more is one cut more, where it passes
next_cut : (passes : ℕ → Bool) (m : ℕ) → length (passing_to passes (suc m)) ≡ cond (passes (suc m)) (length (passing_to passes m) + 1) (length (passing_to passes m))
next_cut passes m = at (passes (suc m))
  where
    at : (b : Bool) → length (cond b (passing_to passes m ++ suc m ∷ []) (passing_to passes m)) ≡ cond b (length (passing_to passes m) + 1) (length (passing_to passes m))
    at true = length-append (passing_to passes m) (suc m ∷ [])
    at false = refl

pub cut_more : (history : List Event) (m : ℕ) → is_critical history (m + 1) ≡ true → length (cuts_to history (m + 1)) ≡ length (cuts_to history m) + 1
cut_more history m is =
    ap (λ k. length (cuts_to history k)) (add-one m) ∙ next_cut (is_critical history) m ∙ cond-true _ _ _ (sym (ap (is_critical history) (add-one m)) ∙ is)

pub no_cut_more : (history : List Event) (m : ℕ) → is_critical history (m + 1) ≡ false → length (cuts_to history (m + 1)) ≡ length (cuts_to history m)
no_cut_more history m isnt =
    ap (λ k. length (cuts_to history k)) (add-one m) ∙ next_cut (is_critical history) m ∙ cond-false _ _ _ (sym (ap (is_critical history) (add-one m)) ∙ isnt)

-- no more agents than events, and no more heads
pub ruleset agents_few = (few_agents)

pub ruleset heads_few = (few_heads)

pub heads_sorted : (history : List Event) → length (sort_by id_cmp (heads history)) ≡ length (heads history)
heads_sorted history = length-sort id_cmp (heads history)
