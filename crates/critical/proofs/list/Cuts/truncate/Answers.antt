use Rattle.std.proofs.Common.{◌≡◌, ◌∙◌, ◌<◌, ◌⊎◌, inl, inr, ⊎_elim, map, take, filter, length, nat_lt, sym, ap, subst, arith}
use Rattle.std.specs.List.{AllByRecursion}
use Rattle.std.proofs.lemmas.Bool.{ltb-true}
use Rattle.std.proofs.lemmas.List.{length-map}
use Rattle.ew_model.specs.Sets.{Among}
use Rattle.ew_model.proofs.SetLaws.{among_filter}
use Rattle.ew_model.proofs.SortingLaws.{all_from}
use Rattle.critical.specs.KeptCuts.{KeptCuts, inner_cuts, heads_below}
use Rattle.critical.specs.Older.{all_cuts, all_heads}
use Rattle.critical.specs.Spans.{cuts_in}
use Rattle.critical.proofs.FrontCuts.{kept_front}
use Rattle.critical.proofs.InnerCuts.{cut_low}
use Rattle.critical.proofs.OlderCuts.{Fewer, fewer, front_cuts, rise_lower}
use Rattle.critical.proofs.SpanChanges.{ends_under}
use Rattle.critical.proofs.SpanSearches.{three_ways}
use Rattle.critical.proofs.list.Cuts.truncate.Goals as goal

pub keep_below-requires-clause-rising : goal.keep_below-requires-clause-rising
keep_below-requires-clause-rising c = rise_lower c.self.inside.spans.items 0 c.self.inside.limit (omega arith) c.self.invariant.rising

pub invariant_of-self : goal.invariant_of-self
invariant_of-self c =
    let inside = c.self.inside in
    let kept = c.self.invariant in
    let left : Fewer inside.older inside.limit c.min-self-inside.result c.args.cut inside.spans.items c.keep_below.new.spans.items (map (λ v. v.items) inside.heads.items) (map (λ v. v.items) c.keep_below.new.heads.items) =
    fewer inside.older kept.older_rising kept.older_alike inside.limit c.min-self-inside.result c.args.cut inside.spans.items c.keep_below.new.spans.items (map (λ v. v.items) inside.heads.items) (map (λ v. v.items) c.keep_below.new.heads.items)
    (omega (arith, c.min-self-inside.ensures)) (omega (arith, c.min-self-inside.ensures))
    (⊎_elim (λ l. inl (omega (arith, c.min-self-inside.ensures, l))) (⊎_elim (λ l. inl (omega (arith, c.min-self-inside.ensures, l))) (λ l. inr (omega (arith, c.min-self-inside.ensures, l)))) (three_ways inside.limit c.args.cut))
    kept.rising c.keep_below.ensures.rising c.keep_below.ensures.cuts c.keep_below.ensures.heads in
    let spans = inside.spans.items in
    let below = cuts_in c.keep_below.new.spans.items in
    let under : AllByRecursion (λ k. k < c.args.cut) below =
    all_from (λ k. k < c.args.cut) below (λ k m. ltb-true k c.args.cut ((among_filter (λ j. nat_lt j c.args.cut) (cuts_in spans) k (subst (Among k) c.keep_below.ensures.cuts m)).1)) in
    record {
      rising = left.rising;
      below = ends_under c.keep_below.new.spans.items 0 c.args.cut c.keep_below.ensures.rising under;
      alike = length-map c.keep_below.new.heads.items (λ v. v.items) ∙ c.keep_below.ensures.alike;
      within = omega (arith, c.min-self-inside.ensures);
      older_rising = c.self.invariant.older_rising;
      older_ends = c.self.invariant.older_ends;
      older_alike = c.self.invariant.older_alike;
    }

pub returns : goal.returns
returns c history good stands cut =
    let inside = c.self.inside in
    let kept = c.self.invariant in
    let left : Fewer inside.older inside.limit c.min-self-inside.result c.args.cut inside.spans.items c.keep_below.new.spans.items (map (λ v. v.items) inside.heads.items) (map (λ v. v.items) c.keep_below.new.heads.items) =
    fewer inside.older kept.older_rising kept.older_alike inside.limit c.min-self-inside.result c.args.cut inside.spans.items c.keep_below.new.spans.items (map (λ v. v.items) inside.heads.items) (map (λ v. v.items) c.keep_below.new.heads.items)
    (omega (arith, c.min-self-inside.ensures)) (omega (arith, c.min-self-inside.ensures))
    (⊎_elim (λ l. inl (omega (arith, c.min-self-inside.ensures, l))) (⊎_elim (λ l. inl (omega (arith, c.min-self-inside.ensures, l))) (λ l. inr (omega (arith, c.min-self-inside.ensures, l)))) (three_ways inside.limit c.args.cut))
    kept.rising c.keep_below.ensures.rising c.keep_below.ensures.cuts c.keep_below.ensures.heads in
    let given = map (λ v. v.items) inside.heads.items in
    let n = c.args.cut in
    let all = all_cuts inside.older inside.limit inside.spans.items in
    let stays = all_cuts inside.older c.min-self-inside.result c.keep_below.new.spans.items in
    let cuts : all ≡ inner_cuts history = ap (λ (v : KeptCuts). v.cuts) (c.self.view_is ∙ stands) in
    let heads : all_heads inside.older inside.limit inside.spans.items given ≡ heads_below history (inner_cuts history) = ap (λ (v : KeptCuts). v.heads) (c.self.view_is ∙ stands) in
    let fewer_cuts = left.cuts in
    let are : stays ≡ filter (λ k. nat_lt k n) (inner_cuts history) = fewer_cuts ∙ ap (filter (λ k. nat_lt k n)) cuts in
    let front = front_cuts inside.older c.self.invariant.older_rising c.self.invariant.older_alike inside.limit n inside.spans.items c.self.invariant.rising in
    let first : take (length stays) (inner_cuts history) ≡ stays = (λ i. take (length (fewer_cuts i)) (sym cuts i)) ∙ front ∙ sym fewer_cuts in
    let stay = left.heads ∙ ap (take (length stays)) heads in
    (λ i. record { cuts = stays; heads = stay i; count = n }) ∙ sym (kept_front history n good (cut_low history n cut) cut stays are first)
