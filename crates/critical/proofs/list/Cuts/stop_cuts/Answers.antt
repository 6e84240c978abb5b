use Rattle.std.proofs.Common.{◌≡◌, ◌∙◌, take, filter, sym, ap, subst, length, nat_lt}
use Rattle.ew_model.specs.CutChange.{stays_behind}
use Rattle.ew_model.specs.Positions.{AreParents}
use Rattle.ew_model.specs.PositionCuts.{past_parents, is_frontier}
use Rattle.ew_model.proofs.ListTests.{filter_alike}
use Rattle.critical.specs.KeptCuts.{KeptCuts, inner_cuts, heads_below, with_below}
use Rattle.critical.specs.Searches.{TellsHeads}
use Rattle.critical.proofs.CutsKept.{inner_tells, first_kept}
use Rattle.critical.proofs.OlderCuts.{front_cuts}
use Rattle.critical.proofs.Searching.{stay_alike}
use Rattle.critical.proofs.list.Cuts.stop_cuts.Goals as goal

pub returns-clause-cuts : goal.returns-clause-cuts
returns-clause-cuts c history good stands apart reduced =
    let parents = c.args.parents.now in
    let inside = c.self.inside in
    let kept = c.self.invariant in
    let inner = inner_cuts history in
    let count : c.args.self.now.count ≡ length history = ap (λ (v : KeptCuts). v.count) stands in
    let lower : AreParents (length history) parents = subst (λ n. AreParents n parents) count c.requires.parents in
    let past : c.past_last-past.result ≡ past_parents parents = c.past_last-past.ensures.value in
    let same = is_frontier (take (past_parents parents) history) parents in
    let one = c.has_heads-same.result in
    let tells : TellsHeads inner (heads_below history inner) (past_parents parents) parents one =
    subst (λ p. TellsHeads inner (heads_below history inner) p parents one) past
    (subst (λ (v : KeptCuts). TellsHeads v.cuts v.heads c.past_last-past.result parents one) stands c.has_heads-same.ensures) in
    let end = c.end_of_kept-end.result in
    let front : take (length (filter (λ k. nat_lt k end) inner)) inner ≡ filter (λ k. nat_lt k end) inner =
    subst (λ (v : KeptCuts). take (length (filter (λ k. nat_lt k end) v.cuts)) v.cuts ≡ filter (λ k. nat_lt k end) v.cuts) (c.self.view_is ∙ stands)
    (front_cuts inside.older kept.older_rising kept.older_alike inside.limit end inside.spans.items kept.rising) in
    let stay : filter (λ k. nat_lt k end) inner ≡ filter (stays_behind (past_parents parents) same) inner =
    filter_alike (λ k. nat_lt k end) (stays_behind (past_parents parents) same) inner
    (λ k m. c.end_of_kept-end.ensures k ∙ ap (λ p. stays_behind p one k) past ∙ stay_alike inner (heads_below history inner) (past_parents parents) parents one same tells (inner_tells history parents (past_parents parents)) k m) in
    c.keep_cuts_below.ensures ∙ ap (λ (v : KeptCuts). with_below v end) stands
    ∙ sym (first_kept history parents good lower reduced (length (filter (λ k. nat_lt k end) inner)) (λ e f. apart e f) (front ∙ stay))
