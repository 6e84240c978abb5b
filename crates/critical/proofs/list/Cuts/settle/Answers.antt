use Rattle.std.proofs.Common.{◌≡◌, ◌∙◌, ◌-◌, ◌^◌, ◌++◌, suc, List, Some, map, take, drop, length, slice_get, refl, sym, ap, subst, arith}
use Rattle.std.specs.List.{take-map}
use Rattle.std.proofs.lemmas.List.{drop-map, length-map}
use Rattle.std.proofs.lemmas.Option.{slice_get_read}
use Rattle.critical.specs.declared.spans.CutSpan.{CutSpan}
use Rattle.critical.specs.Older.{seen_cuts, seen_heads, all_cuts, all_heads}
use Rattle.critical.specs.Spans.{cuts_in, heads_in, RiseFrom, EndBelow}
use Rattle.critical.proofs.Chains.{end_higher}
use Rattle.critical.proofs.OlderCuts.{alike_ends, ends_drop, ends_take, moved, rise_drop, rise_take}
use Rattle.critical.proofs.SpanSearches.{span_end, span_order}
use Rattle.critical.proofs.list.Cuts.settle.Goals as goal

pub take_in-requires-clause-more_rising : goal.take_in-requires-clause-more_rising
take_in-requires-clause-more_rising c =
    let others = c.len-count.result - 1 in
    subst (λ (ss : List CutSpan). RiseFrom c.self.inside.limit (take others ss)) (sym c.deref.ensures.value) (rise_take others c.self.inside.spans.items c.self.inside.limit c.self.invariant.rising)

pub take_in-requires-clause-more_ends : goal.take_in-requires-clause-more_ends
take_in-requires-clause-more_ends c =
    let others = c.len-count.result - 1 in
    subst (λ (ss : List CutSpan). EndBelow (2 ^ 32 - 1) (take others ss)) (sym c.deref.ensures.value)
    (ends_take others (2 ^ 32 - 1) c.self.inside.spans.items (end_higher c.self.inside.spans.items c.self.inside.count (2 ^ 32 - 1) (omega arith) c.self.invariant.below))

pub invariant_of-self-then-branch : goal.invariant_of-self-then-branch
invariant_of-self-then-branch c =
    let inside = c.self.inside in
    let kept = c.self.invariant in
    let spans = inside.spans.items in
    let heads = inside.heads.items in
    let given = map (λ v. v.items) heads in
    let others = c.len-count.result - 1 in
    let s = c.index.result.now in
    let long : length spans ≡ suc others = omega (arith, c.len-count.ensures, inside.spans.ok.0, c.if-count-lt2.false) in
    let there : slice_get spans others ≡ Some s = slice_get_read spans (length spans) others s refl (omega (arith, long)) c.index.ensures in
    let place : length spans - 1 ≡ others = omega (arith, long) in
    let new : c.leave_last.new.items.items ≡ drop others spans = c.leave_last.ensures ∙ ap (λ n. drop n spans) place in
    let same_long : length heads ≡ length spans = sym (length-map heads (λ v. v.items)) ∙ kept.alike in
    let new_heads : c.leave_last-then-branch.new.items.items ≡ drop others heads = c.leave_last-then-branch.ensures ∙ ap (λ n. drop (n - 1) heads) same_long ∙ ap (λ n. drop n heads) place in
    record {
      rising = subst (λ (ss : List CutSpan). RiseFrom s.first ss) (sym new) (rise_drop others spans inside.limit s kept.rising there);
      below = subst (λ (ss : List CutSpan). EndBelow inside.count ss) (sym new) (ends_drop others inside.count spans kept.below);
      alike = (λ i. length (map (λ v. v.items) (new_heads i))) ∙ length-map (drop others heads) (λ v. v.items) ∙ alike_ends others heads spans same_long ∙ ap length (sym new);
      within = let order = span_order spans inside.limit others s kept.rising there in let end = span_end spans inside.count others s kept.below there in omega (arith, order, end);
      older_rising = c.in_ok-take_in.ensures.rising;
      older_ends = c.in_ok-take_in.ensures.ends;
      older_alike = c.in_ok-take_in.ensures.alike;
    }

pub returns-then-branch : goal.returns-then-branch
returns-then-branch c =
    let inside = c.self.inside in
    let kept = c.self.invariant in
    let spans = inside.spans.items in
    let heads = inside.heads.items in
    let given = map (λ v. v.items) heads in
    let others = c.len-count.result - 1 in
    let s = c.index.result.now in
    let long : length spans ≡ suc others = omega (arith, c.len-count.ensures, inside.spans.ok.0, c.if-count-lt2.false) in
    let there : slice_get spans others ≡ Some s = slice_get_read spans (length spans) others s refl (omega (arith, long)) c.index.ensures in
    let place : length spans - 1 ≡ others = omega (arith, long) in
    let new : c.leave_last.new.items.items ≡ drop others spans = c.leave_last.ensures ∙ ap (λ n. drop n spans) place in
    let same_long : length heads ≡ length spans = sym (length-map heads (λ v. v.items)) ∙ kept.alike in
    let new_heads : map (λ v. v.items) c.leave_last-then-branch.new.items.items ≡ drop others given =
    ap (map (λ v. v.items)) (c.leave_last-then-branch.ensures ∙ ap (λ n. drop (n - 1) heads) same_long ∙ ap (λ n. drop n heads) place) ∙ sym (drop-map (λ v. v.items) others heads) in
    let front_heads : map (λ v. v.items) (take others c.deref-2.result.now) ≡ take others given = ap (λ hs. map (λ v. v.items) (take others hs)) c.deref-2.ensures.value ∙ sym (take-map (λ v. v.items) others heads) in
    let cuts : cuts_in c.take_in.new.self.spans ≡ seen_cuts inside.older inside.limit ++ cuts_in (take others spans) =
    c.in_ok-take_in.ensures.cuts c.if-branch.true ∙ ap (λ (ss : List CutSpan). seen_cuts inside.older inside.limit ++ cuts_in (take others ss)) c.deref.ensures.value in
    let below : heads_in c.take_in.new.self.spans c.take_in.new.self.heads ≡ seen_heads inside.older inside.limit ++ heads_in (take others spans) (take others given) =
    c.in_ok-take_in.ensures.heads c.if-branch.true ∙ (λ i. seen_heads inside.older inside.limit ++ heads_in (take others (c.deref.ensures.value i)) (front_heads i)) in
    let all = moved inside.older c.take_in.new.self inside.limit spans given others s kept.rising kept.alike there cuts below c.in_ok-take_in.ensures.alike in
    (λ i. record {
      cuts = (ap (λ (ss : List CutSpan). all_cuts c.take_in.new.self s.first ss) new ∙ all.cuts) i;
      heads = ((λ j. all_heads c.take_in.new.self s.first (new j) (new_heads j)) ∙ all.heads) i;
      count = inside.count;
    }) ∙ c.self.view_is
