use Rattle.std.proofs.Common.{◌≡◌, ◌∙◌, ◌∷◌, [], map, nat_eq, slice_index_or, sym, ap, arith}
use Rattle.std.specs.Cmp.Lexicographic.{pointwise}
use Rattle.std.proofs.lemmas.Cmp.{nat_list_eq_equiv}
use Rattle.std.proofs.lemmas.List.{get_or-map, length-map}
use Rattle.std.proofs.lemmas.Option.{get_or_from_slice_get, slice_get_within}
use Rattle.critical.specs.declared.spans.CutSpan.{CutSpan}
use Rattle.critical.specs.Spans.{cuts_in, IsHeldAt}
use Rattle.critical.proofs.SpanSearches.{heads_found, get_among}
use Rattle.critical.proofs.spans.has_heads.Goals as goal

none : CutSpan
none = record { first = 0; last = 0 }

pub returns-then-spans-place : goal.returns-then-spans-place
returns-then-spans-place c place e =
    let spans = c.args.spans.now in
    let given = map (λ v. v.items) c.args.heads.now in
    let held : IsHeldAt spans c.in-Some.place c.args.cut = c.in-Some.ensures.some in
    let within = slice_get_within spans c.in-Some.place held.span held.there in
    let first = ap (λ (s : CutSpan). s.first) (sym (get_or_from_slice_get spans c.in-Some.place held.span (record { first = 0; last = 0 }) held.there)) ∙ c.if-spans-place.true in
    let found = heads_found spans given 0 c.args.cut c.in-Some.place held.span c.requires.rising (length-map c.args.heads.now (λ v. v.items) ∙ c.requires.alike) held.there held.from held.to place e in
    let read : slice_index_or given c.in-Some.place [] ≡ c.as_slice.result.now =
    get_or-map (λ v. v.items) c.args.heads.now c.in-Some.place c.index-heads-place.result [] (omega (arith, within, c.requires.alike)) ∙ ap (λ v. v.items) (sym c.index-heads-place.is) ∙ sym c.as_slice.ensures in
    c.eq.ensures ∙ nat_list_eq_equiv.symm c.as_slice.result.now c.args.positions.now ∙ ap (pointwise nat_eq c.args.positions.now) (sym (found.0 first ∙ read))

pub returns-else-spans-place : goal.returns-else-spans-place
returns-else-spans-place c place e =
    let spans = c.args.spans.now in
    let given = map (λ v. v.items) c.args.heads.now in
    let held : IsHeldAt spans c.in-Some.place c.args.cut = c.in-Some.ensures.some in
    let found = heads_found spans given 0 c.args.cut c.in-Some.place held.span c.requires.rising (length-map c.args.heads.now (λ v. v.items) ∙ c.requires.alike) held.there held.from held.to place e in
    let other = λ (q : held.span.first ≡ c.args.cut). c.if-spans-place.false (ap (λ (s : CutSpan). s.first) (get_or_from_slice_get spans c.in-Some.place held.span (record { first = 0; last = 0 }) held.there) ∙ q) in
    c.is_only.ensures ∙ ap (λ k. pointwise nat_eq c.args.positions.now (k ∷ [])) c.saturating_sub.ensures ∙ ap (pointwise nat_eq c.args.positions.now) (sym (found.1 other))

pub returns-in-None : goal.returns-in-None
returns-in-None c place e = absurd (c.in-None.ensures.none (get_among (cuts_in c.args.spans.now) place c.args.cut e))
