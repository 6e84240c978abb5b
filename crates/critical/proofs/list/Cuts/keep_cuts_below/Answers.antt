use Rattle.std.proofs.Common.{◌∙◌, ◌+◌, ◌⊎◌, inl, inr, ⊎_elim, ℕ, List, map, take, length, sym, ap, arith}
use Rattle.std.proofs.lemmas.List.{length-map}
use Rattle.critical.specs.KeptCuts.{KeptCuts, with_below}
use Rattle.critical.specs.Older.{all_heads}
use Rattle.critical.proofs.OlderCuts.{Fewer, fewer, front_cuts, rise_lower}
use Rattle.critical.proofs.SpanChanges.{end_more}
use Rattle.critical.proofs.SpanSearches.{three_ways}
use Rattle.critical.proofs.list.Cuts.keep_cuts_below.Goals as goal

pub keep_below-requires-clause-rising : goal.keep_below-requires-clause-rising
keep_below-requires-clause-rising c = rise_lower c.self.inside.spans.items 0 c.self.inside.limit (omega arith) c.self.invariant.rising

pub invariant_of-self : goal.invariant_of-self
invariant_of-self c =
    let inside = c.self.inside in
    let kept = c.self.invariant in
    let left : Fewer inside.older inside.limit c.min-self-inside.result c.args.end inside.spans.items c.keep_below.new.spans.items (map (λ v. v.items) inside.heads.items) (map (λ v. v.items) c.keep_below.new.heads.items) =
    fewer inside.older kept.older_rising kept.older_alike inside.limit c.min-self-inside.result c.args.end inside.spans.items c.keep_below.new.spans.items (map (λ v. v.items) inside.heads.items) (map (λ v. v.items) c.keep_below.new.heads.items)
    (omega (arith, c.min-self-inside.ensures)) (omega (arith, c.min-self-inside.ensures))
    (⊎_elim (λ l. inl (omega (arith, c.min-self-inside.ensures, l))) (⊎_elim (λ l. inl (omega (arith, c.min-self-inside.ensures, l))) (λ l. inr (omega (arith, c.min-self-inside.ensures, l)))) (three_ways inside.limit c.args.end))
    kept.rising c.keep_below.ensures.rising c.keep_below.ensures.cuts c.keep_below.ensures.heads in
    record {
      rising = left.rising;
      below = end_more c.keep_below.new.spans.items c.self.inside.count (c.keep_below.ensures.ends c.self.inside.count c.self.invariant.below);
      alike = length-map c.keep_below.new.heads.items (λ v. v.items) ∙ c.keep_below.ensures.alike;
      within = let low = c.self.invariant.within in omega (arith, low, c.min-self-inside.ensures);
      older_rising = c.self.invariant.older_rising;
      older_ends = c.self.invariant.older_ends;
      older_alike = c.self.invariant.older_alike;
    }

pub returns : goal.returns
returns c =
    let inside = c.self.inside in
    let kept = c.self.invariant in
    let left : Fewer inside.older inside.limit c.min-self-inside.result c.args.end inside.spans.items c.keep_below.new.spans.items (map (λ v. v.items) inside.heads.items) (map (λ v. v.items) c.keep_below.new.heads.items) =
    fewer inside.older kept.older_rising kept.older_alike inside.limit c.min-self-inside.result c.args.end inside.spans.items c.keep_below.new.spans.items (map (λ v. v.items) inside.heads.items) (map (λ v. v.items) c.keep_below.new.heads.items)
    (omega (arith, c.min-self-inside.ensures)) (omega (arith, c.min-self-inside.ensures))
    (⊎_elim (λ l. inl (omega (arith, c.min-self-inside.ensures, l))) (⊎_elim (λ l. inl (omega (arith, c.min-self-inside.ensures, l))) (λ l. inr (omega (arith, c.min-self-inside.ensures, l)))) (three_ways inside.limit c.args.end))
    kept.rising c.keep_below.ensures.rising c.keep_below.ensures.cuts c.keep_below.ensures.heads in
    let given = map (λ v. v.items) inside.heads.items in
    let cuts = left.cuts in
    let first = cuts ∙ sym (front_cuts inside.older kept.older_rising kept.older_alike inside.limit c.args.end inside.spans.items kept.rising) in
    let heads = left.heads ∙ ap (λ (ks : List ℕ). take (length ks) (all_heads inside.older inside.limit inside.spans.items given)) cuts in
    (λ i. record { cuts = first i; heads = heads i; count = inside.count + 1 }) ∙ ap (λ (v : KeptCuts). with_below v c.args.end) c.self.view_is
