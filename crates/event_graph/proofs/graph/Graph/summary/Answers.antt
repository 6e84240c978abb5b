use Rattle.std.proofs.Common.{◌≡◌, ◌∙◌, ◌≤◌, List, ℕ, map, IfOk, All, sym, ap, subst}
use Rattle.std.specs.List.Sorted.{IsPermutation}
use Rattle.ew_model.specs.declared.id.Id.{Id}
use Rattle.ew_model.specs.declared.event.Event.{Event}
use Rattle.ew_model.specs.Ancestors.{ids_of}
use Rattle.history_definitions.specs.Agents.{agents_of, count_of}
use Rattle.event_graph.specs.Keeping.{IsKeptOf}
use Rattle.history_definitions.specs.Summary.{summary_of}
use Rattle.event_graph.proofs.Summing.{summed, all_some, known_ok}
use Rattle.event_graph.proofs.graph.Graph.summary.Goals as goal

pub returns-clause-value : goal.returns-clause-value
returns-clause-value c =
    let now = c.args.self.now in
    let inside = c.self.inside in
    let kept : IsKeptOf now inside.ids inside.events inside.heads inside.cuts = subst (λ (h : List Event). IsKeptOf h inside.ids inside.events inside.heads inside.cuts) c.self.view_is c.self.invariant in
    let after = c.sort_unstable.new.self.items in
    let moved : IsPermutation (agents_of (ids_of now)) after = subst (λ (xs : List (List ℕ)). IsPermutation xs after) (c.in_ok-names.ensures ∙ ap agents_of kept.ids_are) c.sort_unstable.ensures.permutation in
    let same : map (λ (name : List ℕ). (name, count_of inside.ids name)) c.deref.result.now ≡ summary_of now =
    ap (map (λ (name : List ℕ). (name, count_of inside.ids name))) c.deref.ensures.value
    ∙ ap (λ (ids : List Id). map (λ (name : List ℕ). (name, count_of ids name)) after) kept.ids_are
    ∙ summed now after moved c.sort_unstable.ensures.sorted in
    subst (λ (xs : List (List ℕ × ℕ)). IfOk c.counts.result (λ v. v.items ≡ xs)) same c.counts.ensures

pub returns-clause-some : goal.returns-clause-some
returns-clause-some c =
    known_ok (λ v. v.items ≡ summary_of c.args.self.now) c.counts.result (λ v. All (λ (a : List ℕ × ℕ). 1 ≤ a.1) v.items)
    (λ v same. subst (All (λ (a : List ℕ × ℕ). 1 ≤ a.1)) (sym same) (all_some c.args.self.now)) (returns-clause-value c)
