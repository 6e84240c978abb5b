use Rattle.std.proofs.Common.{◌∙◌, ◌≤◌, ◌-◌, ◌^◌, ℕ, false, List, map, slice_index_or, sym, ap, subst, arith}
use Rattle.std.proofs.lemmas.List.{length-map}
use Rattle.critical.specs.declared.spans.CutSpan.{CutSpan}
use Rattle.critical.specs.Older.{seen_cuts, seen_heads}
use Rattle.critical.specs.Spans.{cuts_in, heads_in, RiseFrom, EndBelow, ends_before}
use Rattle.critical.proofs.OlderCuts.{Left, ends_joined, ends_under_first, first_high, left_cuts, left_heads, longer_cuts, longer_heads, longer_seen, longer_seen_heads, rise_joined}
use Rattle.critical.proofs.older.extend.Goals.{After-keep_below}
use Rattle.critical.proofs.older.extend.Goals as goal

left : (c : After-keep_below) → Left c.args.spans.now.items c.keep_below.new.spans.items (map (λ v. v.items) c.args.heads.now.items) (map (λ v. v.items) c.keep_below.new.heads.items) c.args.limit
left c = record {
  cuts = c.keep_below.ensures.cuts;
  heads = c.keep_below.ensures.heads;
  rising = c.keep_below.ensures.rising;
  alike = length-map c.keep_below.new.heads.items (λ v. v.items) ∙ c.keep_below.ensures.alike;
  long = length-map c.args.heads.now.items (λ v. v.items) ∙ c.requires.alike;
}

abbrev first : (c : After-keep_below) → ℕ
first c = (slice_index_or c.args.more.now 0 (record { first = 0; last = 0 })).first

high : (c : After-keep_below) → (c.args.limit ≤ first c) × RiseFrom (first c) c.args.more.now
high c = first_high c.args.more.now c.args.limit (record { first = 0; last = 0 }) c.requires.some c.requires.more_rising

under : (c : After-keep_below) → EndBelow (first c) c.keep_below.new.spans.items
under c = ends_under_first (left c) (first c) (high c).0

pub ends_before-requires : goal.ends_before-requires
ends_before-requires c = let d = (goal.at.ends_before-requires c).After-keep_below in subst (λ (ss : List CutSpan). EndBelow (first d) ss) (sym c.deref.ensures.value) (under d)

pub returns-then-ends_before-clause-ends : goal.returns-then-ends_before-clause-ends
returns-then-ends_before-clause-ends c = c.keep_below.ensures.ends (2 ^ 32 - 1) c.requires.ends

pub returns-then-ends_before-clause-seen_cuts : goal.returns-then-ends_before-clause-seen_cuts
returns-then-ends_before-clause-seen_cuts c = let d = (goal.at.returns-then-ends_before-clause-seen_cuts c).After-keep_below in left_cuts (left d)

pub returns-then-ends_before-clause-seen_heads : goal.returns-then-ends_before-clause-seen_heads
returns-then-ends_before-clause-seen_heads c = let d = (goal.at.returns-then-ends_before-clause-seen_heads c).After-keep_below in left_heads (left d)

pub returns-in_err-append-clause-ends : goal.returns-in_err-append-clause-ends
returns-in_err-append-clause-ends c = subst (λ (ss : List CutSpan). EndBelow (2 ^ 32 - 1) ss) (sym c.in_err-append.ensures.same_spans) (c.keep_below.ensures.ends (2 ^ 32 - 1) c.requires.ends)

pub returns-in_err-append-clause-seen_cuts : goal.returns-in_err-append-clause-seen_cuts
returns-in_err-append-clause-seen_cuts c =
    let d = (goal.at.returns-in_err-append-clause-seen_cuts c).After-keep_below in
    (λ i. seen_cuts (record { spans = c.in_err-append.ensures.same_spans i; heads = c.in_err-append.ensures.same_heads i }) c.args.limit) ∙ left_cuts (left d)

pub returns-in_err-append-clause-seen_heads : goal.returns-in_err-append-clause-seen_heads
returns-in_err-append-clause-seen_heads c =
    let d = (goal.at.returns-in_err-append-clause-seen_heads c).After-keep_below in
    (λ i. seen_heads (record { spans = c.in_err-append.ensures.same_spans i; heads = c.in_err-append.ensures.same_heads i }) c.args.limit) ∙ left_heads (left d)

pub returns-clause-cuts : goal.returns-clause-cuts
returns-clause-cuts c e = let d = (goal.at.returns-clause-cuts c).After-keep_below in ap cuts_in c.in_ok-append.ensures.spans ∙ longer_cuts (left d) c.args.more.now (map (λ v. v.items) c.args.more_heads.now) c.requires.more_rising

pub returns-clause-heads : goal.returns-clause-heads
returns-clause-heads c e =
    let d = (goal.at.returns-clause-heads c).After-keep_below in
    (λ i. heads_in (c.in_ok-append.ensures.spans i) (c.in_ok-append.ensures.heads i)) ∙ longer_heads (left d) c.args.more.now (map (λ v. v.items) c.args.more_heads.now) c.requires.more_rising

pub returns-clause-rising : goal.returns-clause-rising
returns-clause-rising c =
    let d = (goal.at.returns-clause-rising c).After-keep_below in
    subst (λ (ss : List CutSpan). RiseFrom 0 ss) (sym c.in_ok-append.ensures.spans)
    (rise_joined c.keep_below.new.spans.items c.args.more.now 0 (first d) c.keep_below.ensures.rising (under d) (ap (λ (ss : List CutSpan). ends_before ss (first d)) (sym c.deref.ensures.value) ∙ sym c.ends_before.ensures ∙ c.if-ends_before.false) (omega arith) (high d).1)

pub returns-clause-ends : goal.returns-clause-ends
returns-clause-ends c =
    subst (λ (ss : List CutSpan). EndBelow (2 ^ 32 - 1) ss) (sym c.in_ok-append.ensures.spans)
    (ends_joined c.keep_below.new.spans.items c.args.more.now (2 ^ 32 - 1) (c.keep_below.ensures.ends (2 ^ 32 - 1) c.requires.ends) c.requires.more_ends)

pub returns-clause-seen_cuts : goal.returns-clause-seen_cuts
returns-clause-seen_cuts c =
    let d = (goal.at.returns-clause-seen_cuts c).After-keep_below in
    (λ i. seen_cuts (record { spans = c.in_ok-append.ensures.spans i; heads = c.in_ok-append.ensures.heads i }) c.args.limit)
    ∙ longer_seen (left d) c.args.more.now (map (λ v. v.items) c.args.more_heads.now) c.requires.more_rising

pub returns-clause-seen_heads : goal.returns-clause-seen_heads
returns-clause-seen_heads c =
    let d = (goal.at.returns-clause-seen_heads c).After-keep_below in
    (λ i. seen_heads (record { spans = c.in_ok-append.ensures.spans i; heads = c.in_ok-append.ensures.heads i }) c.args.limit)
    ∙ longer_seen_heads (left d) c.args.more.now (map (λ v. v.items) c.args.more_heads.now) c.requires.more_rising
