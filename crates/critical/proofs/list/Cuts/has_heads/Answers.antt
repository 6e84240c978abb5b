use Rattle.std.proofs.Common.{ℕ, List, map, sym, subst, arith}
use Rattle.critical.specs.declared.spans.CutSpan.{CutSpan}
use Rattle.critical.specs.KeptCuts.{KeptCuts}
use Rattle.critical.specs.Searches.{TellsHeads}
use Rattle.critical.specs.Spans.{cuts_in, heads_in, RiseFrom}
use Rattle.critical.proofs.OlderCuts.{rise_lower, tells_older, tells_own}
use Rattle.critical.proofs.list.Cuts.has_heads.Goals as goal

pub has_heads-requires-else-cut-self-clause-rising : goal.has_heads-requires-else-cut-self-clause-rising
has_heads-requires-else-cut-self-clause-rising c =
    subst (λ (ss : List CutSpan). RiseFrom 0 ss) (sym c.deref.ensures.value) (rise_lower c.self.inside.spans.items 0 c.self.inside.limit (omega arith) c.self.invariant.rising)

pub returns-then-cut-self : goal.returns-then-cut-self
returns-then-cut-self c =
    let kept = c.self.invariant in
    let inside = c.self.inside in
    let cut = c.args.cut in
    let positions = c.args.positions.now in
    let same = c.has_heads.result in
    let given = map (λ v. v.items) inside.heads.items in
    let told : TellsHeads (cuts_in inside.older.spans) (heads_in inside.older.spans inside.older.heads) cut positions same =
    subst (λ (ss : List CutSpan). TellsHeads (cuts_in ss) (heads_in ss inside.older.heads) cut positions same) c.spans.ensures
    (subst (λ (hs : List (List ℕ)). TellsHeads (cuts_in c.spans.result.now) (heads_in c.spans.result.now hs) cut positions same) c.heads.ensures c.has_heads.ensures) in
    subst (λ (v : KeptCuts). TellsHeads v.cuts v.heads cut positions same) c.self.view_is
    (tells_older inside.older kept.older_rising kept.older_alike inside.limit cut inside.spans.items given positions same kept.rising c.if-cut-self.true told)

pub returns-else-cut-self : goal.returns-else-cut-self
returns-else-cut-self c =
    let kept = c.self.invariant in
    let inside = c.self.inside in
    let cut = c.args.cut in
    let positions = c.args.positions.now in
    let same = c.has_heads-else-cut-self.result in
    let spans = inside.spans.items in
    let given = map (λ v. v.items) inside.heads.items in
    let told : TellsHeads (cuts_in spans) (heads_in spans given) cut positions same =
    subst (λ (hs : List _). TellsHeads (cuts_in spans) (heads_in spans (map (λ v. v.items) hs)) cut positions same) c.deref-else-cut-self.ensures.value
    (subst (λ (ss : List CutSpan). TellsHeads (cuts_in ss) (heads_in ss (map (λ v. v.items) c.deref-else-cut-self.result.now)) cut positions same) c.deref.ensures.value c.has_heads-else-cut-self.ensures) in
    subst (λ (v : KeptCuts). TellsHeads v.cuts v.heads cut positions same) c.self.view_is
    (tells_own inside.older kept.older_rising kept.older_alike inside.limit cut spans given positions same c.if-cut-self.false told)
