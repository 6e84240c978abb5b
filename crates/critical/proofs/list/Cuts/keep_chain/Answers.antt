use Rattle.std.proofs.Common.{◌∙◌, ◌+◌, ◌-◌, ◌++◌, sym, ap, subst, arith, ⊎_elim, append_assoc, map}
use Rattle.std.specs.List.{range_with_len}
use Rattle.std.proofs.lemmas.List.{length-map}
use Rattle.ew_model.specs.Sets.{Among}
use Rattle.ew_model.proofs.SetLaws.{among_joined}
use Rattle.critical.specs.KeptCuts.{KeptCuts, chain_parents, with_chain}
use Rattle.critical.specs.Older.{seen_cuts, seen_heads}
use Rattle.critical.specs.Spans.{cuts_in, heads_in}
use Rattle.critical.proofs.OlderCuts.{cuts_from, rise_from, rise_lower}
use Rattle.critical.proofs.Ranges.{among_range}
use Rattle.critical.proofs.list.Cuts.keep_chain.Goals as goal

pub add_cuts-requires-clause-rising : goal.add_cuts-requires-clause-rising
add_cuts-requires-clause-rising c = rise_lower c.self.inside.spans.items 0 c.self.inside.limit (omega arith) c.self.invariant.rising

pub invariant_of-self-2 : goal.invariant_of-self-2
invariant_of-self-2 c =
    let inside = c.self.inside in
    let kept = c.self.invariant in
    record {
      rising = rise_from c.add_cuts.new.spans.items inside.limit c.in_ok-add_cuts.ensures.rising
          (λ k a. ⊎_elim (λ b. cuts_from inside.spans.items inside.limit k kept.rising b) (λ b. let high = (among_range inside.count c.args.count k b).0 in let low = kept.within in omega (arith, high, low))
          (among_joined (cuts_in inside.spans.items) (range_with_len inside.count c.args.count) k (subst (Among k) c.in_ok-add_cuts.ensures.cuts a)));
      below = c.in_ok-add_cuts.ensures.ends;
      alike = length-map c.add_cuts.new.heads.items (λ v. v.items) ∙ c.in_ok-add_cuts.ensures.alike;
      within = let low = kept.within in omega (arith, low);
      older_rising = kept.older_rising;
      older_ends = kept.older_ends;
      older_alike = kept.older_alike;
    }

pub returns-clause-ok : goal.returns-clause-ok
returns-clause-ok c =
    let inside = c.self.inside in
    let spans = inside.spans.items in
    let given = map (λ v. v.items) inside.heads.items in
    let seen = seen_cuts inside.older inside.limit in
    let seen_below = seen_heads inside.older inside.limit in
    let cuts = ap (λ ks. seen ++ ks) c.in_ok-add_cuts.ensures.cuts ∙ sym (append_assoc seen (cuts_in spans) (range_with_len inside.count c.args.count)) in
    let heads = ap (λ hs. seen_below ++ hs) c.in_ok-add_cuts.ensures.heads ∙ sym (append_assoc seen_below (heads_in spans given) (chain_parents (inside.count - 1) c.args.count)) in
    (λ i. record { cuts = cuts i; heads = heads i; count = inside.count + c.args.count }) ∙ ap (λ (v : KeptCuts). with_chain v c.args.count) c.self.view_is
