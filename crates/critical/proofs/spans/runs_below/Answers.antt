use Rattle.std.proofs.Common.{◌≡◌, ◌∙◌, ◌+◌, ◌-◌, ◌<◌, ◌≤◌, ◌⊎◌, inl, inr, ⊎_elim, ℕ, suc, true, false, Some, slice_get, slice_index_or, arith, subst, eq-eqb}
use Rattle.std.proofs.lemmas.Bool.{ne_eqb}
use Rattle.std.proofs.lemmas.Option.{get_or_from_slice_get, slice_get-get_or, slice_get_within}
use Rattle.critical.specs.declared.spans.CutSpan.{CutSpan}
use Rattle.critical.proofs.OlderCuts.{few_runs, last_below, none_below, runs_are}
use Rattle.critical.proofs.SpanSearches.{three_ways}
use Rattle.critical.proofs.spans.runs_below.Goals.{After-count_below-kept, else-kept-gt0-via-then-kept-gt0+else-min-next, else-kept-gt0-via-else-kept-gt0}
use Rattle.critical.proofs.spans.runs_below.Goals as goal

abbrev none : CutSpan
none = record { first = 0; last = 0 }

low : (c : After-count_below-kept) (place : ℕ) (s : CutSpan) → place < c.count_below-kept.result → slice_get c.args.spans.now place ≡ Some s → s.first < c.args.limit
low c place s l e =
    let at = c.count_below-kept.ensures.below place s (omega arith) l in
    subst (λ (t : CutSpan). t.first < c.args.limit) (get_or_from_slice_get c.args.spans.now place s s e) at

high : (c : After-count_below-kept) (place : ℕ) (s : CutSpan) → c.count_below-kept.result ≤ place → slice_get c.args.spans.now place ≡ Some s → c.args.limit ≤ s.first
high c place s l e =
    let at = c.count_below-kept.ensures.above place s l (slice_get_within c.args.spans.now place s e) in
    subst (λ (t : CutSpan). c.args.limit ≤ t.first) (get_or_from_slice_get c.args.spans.now place s s e) at

few : (c : After-count_below-kept) → c.count_below-kept.result + c.count_below-kept.result ≤ c.args.limit + 1
few c = few_runs c.args.spans.now c.count_below-kept.result c.args.limit c.args.next c.requires.rising c.count_below-kept.ensures.bound c.requires.order (low c) (high c)

pub overflow_cast-runs : goal.overflow_cast-runs
overflow_cast-runs c = let d = (goal.at.overflow_cast-runs c).After-count_below-kept in let all = few d in omega (arith, all, c.ranges.limit.fits)

pub returns-then-min-next-clause-runs : goal.returns-then-min-next-clause-runs
returns-then-min-next-clause-runs c rest =
    let d = (goal.at.returns-then-min-next-clause-runs c).After-count_below-kept in
    let spans = c.args.spans.now in
    let kept = c.count_below-kept.result in
    let place = kept - 1 in
    let s = slice_index_or spans place none in
    let there = slice_get-get_or spans place none (omega (arith, c.if-kept-gt0.true, c.count_below-kept.ensures.bound)) in
    let first = low d place s (omega (arith, c.if-kept-gt0.true)) there in
    let last = c.min.result in
    let joins = last_below spans kept c.args.limit c.args.next c.requires.rising c.count_below-kept.ensures.bound c.requires.order (low d) (high d) s last c.if-kept-gt0.true there (omega (arith, c.min.ensures)) (omega (arith, c.min.ensures, first))
    (⊎_elim (λ l. inl (omega (arith, c.min.ensures, l))) (⊎_elim (λ l. inl (omega (arith, c.min.ensures, l))) (λ l. inr (omega (arith, c.min.ensures, l, first)))) (three_ways s.last (c.args.limit - 1)))
    ∙ eq-eqb (suc last) c.args.next (omega (arith, c.if-min-next.true, first, c.requires.order)) in
    runs_are spans kept c.args.limit c.args.next c.requires.rising c.count_below-kept.ensures.bound c.requires.order (low d) (high d) true rest joins

pub returns-then-min-next-clause-few : goal.returns-then-min-next-clause-few
returns-then-min-next-clause-few c = let d = (goal.at.returns-then-min-next-clause-few c).After-count_below-kept in let all = few d in omega (arith, all)

pub returns-else-kept-gt0-clause-runs : goal.returns-else-kept-gt0-clause-runs
returns-else-kept-gt0-clause-runs c rest =
    let d = (goal.at.returns-else-kept-gt0-clause-runs c).After-count_below-kept in
    let spans = c.args.spans.now in
    let kept = c.count_below-kept.result in
    runs_are spans kept c.args.limit c.args.next c.requires.rising c.count_below-kept.ensures.bound c.requires.order (low d) (high d) false rest
    (elim c.else-kept-gt0.branch [
      | else-kept-gt0-via-then-kept-gt0+else-min-next w ↦
          let place = kept - 1 in
          let s = slice_index_or spans place none in
          let there = slice_get-get_or spans place none (omega (arith, w.if-kept-gt0.true, c.count_below-kept.ensures.bound)) in
          let first = low d place s (omega (arith, w.if-kept-gt0.true)) there in
          let last = w.min.result in
          last_below spans kept c.args.limit c.args.next c.requires.rising c.count_below-kept.ensures.bound c.requires.order (low d) (high d) s last w.if-kept-gt0.true there (omega (arith, w.min.ensures)) (omega (arith, w.min.ensures, first))
          (⊎_elim (λ l. inl (omega (arith, w.min.ensures, l))) (⊎_elim (λ l. inl (omega (arith, w.min.ensures, l))) (λ l. inr (omega (arith, w.min.ensures, l, first)))) (three_ways s.last (c.args.limit - 1)))
          ∙ ne_eqb (suc last) c.args.next (λ q. w.if-min-next.false (omega (arith, q)))
      | else-kept-gt0-via-else-kept-gt0 w ↦ none_below spans kept c.args.limit c.args.next c.requires.rising c.count_below-kept.ensures.bound c.requires.order (low d) (high d) (omega (arith, w.if-kept-gt0.false))
    ])

pub returns-else-kept-gt0-clause-few : goal.returns-else-kept-gt0-clause-few
returns-else-kept-gt0-clause-few c = let d = (goal.at.returns-else-kept-gt0-clause-few c).After-count_below-kept in few d
