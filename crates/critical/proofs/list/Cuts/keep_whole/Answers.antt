use Rattle.std.proofs.Common.{◌≡◌, ◌∙◌, ◌+◌, ◌-◌, ◌∷◌, ◌++◌, [], suc, sym, ap, subst, arith, ⊎_elim, append_assoc, map}
use Rattle.std.proofs.lemmas.List.{length-map}
use Rattle.ew_model.specs.Sets.{Among}
use Rattle.ew_model.proofs.SetLaws.{among_joined, joined_right}
use Rattle.critical.specs.KeptCuts.{KeptCuts, with_whole}
use Rattle.critical.specs.Older.{seen_cuts, seen_heads}
use Rattle.critical.specs.Spans.{cuts_in, heads_in}
use Rattle.critical.proofs.OlderCuts.{cuts_from, rise_from, rise_lower}
use Rattle.critical.proofs.SpanSearches.{last_there}
use Rattle.critical.proofs.list.Cuts.keep_whole.Goals as goal

pub add_cut-requires-clause-rising : goal.add_cut-requires-clause-rising
add_cut-requires-clause-rising c = rise_lower c.self.inside.spans.items 0 c.self.inside.limit (omega arith) c.self.invariant.rising

pub invariant_of-self-2 : goal.invariant_of-self-2
invariant_of-self-2 c =
    let inside = c.self.inside in
    let kept = c.self.invariant in
    record {
      rising = rise_from c.add_cut.new.spans.items inside.limit c.in_ok-add_cut.ensures.rising
          (λ k a. ⊎_elim (λ b. cuts_from inside.spans.items inside.limit k kept.rising b) (⊎_elim (λ e. let low = kept.within in omega (arith, e, low)) (λ no. absurd no))
          (among_joined (cuts_in inside.spans.items) (inside.count ∷ []) k (subst (Among k) c.in_ok-add_cut.ensures.cuts a)));
      below = c.in_ok-add_cut.ensures.ends;
      alike = length-map c.add_cut.new.heads.items (λ v. v.items) ∙ c.in_ok-add_cut.ensures.alike;
      within = let low = kept.within in omega (arith, low);
      older_rising = kept.older_rising;
      older_ends = kept.older_ends;
      older_alike = kept.older_alike;
    }

pub returns-clause-ok : goal.returns-clause-ok
returns-clause-ok c only =
    let inside = c.self.inside in
    let spans = inside.spans.items in
    let given = map (λ v. v.items) inside.heads.items in
    let count = inside.count in
    let seen = seen_cuts inside.older inside.limit in
    let seen_below = seen_heads inside.older inside.limit in
    let cuts = ap (λ ks. seen ++ ks) c.in_ok-add_cut.ensures.cuts ∙ sym (append_assoc seen (cuts_in spans) (count ∷ [])) in
    let below = c.in_ok-add_cut.ensures.heads (λ e.
    let last = last_there spans count (rise_lower spans 0 inside.limit (omega arith) c.self.invariant.rising) e in
    let named : Among (count - 1) c.args.self.now.cuts = subst (λ (v : KeptCuts). Among (count - 1) v.cuts) c.self.view_is (joined_right seen (cuts_in spans) (count - 1) last.1) in
    only (count - 1) (let top = last.0 in let same : suc (count - 1) ≡ count = omega (arith, top) in same ∙ ap (λ (v : KeptCuts). v.count) c.self.view_is) named) in
    let heads = ap (λ hs. seen_below ++ hs) below ∙ sym (append_assoc seen_below (heads_in spans given) (c.args.heads.now ∷ [])) in
    (λ i. record { cuts = cuts i; heads = heads i; count = count + 1 }) ∙ ap (λ (v : KeptCuts). with_whole v c.args.heads.now) c.self.view_is
