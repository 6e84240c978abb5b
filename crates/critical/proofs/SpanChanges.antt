-- Spans with a cut more, or with fewer.
use Rattle.std.proofs.Common.{◌≡◌, ◌⊎◌, ℕ, zero, suc, ◌+◌, ◌-◌, ◌<◌, ◌≤◌, Bool, true, false, cond, ⊎_elim, nat_lt, nat_eq, List, [], ◌∷◌, ◌++◌, length, map, filter, take, slice_get, Some, refl, sym, ap, ◌∙◌, arith, le-ltb, append-nil, append_assoc, length-append, eq-eqb}
use Rattle.std.specs.List.{range_with_len}
use Rattle.std.proofs.lemmas.Option.{same_Some}
use Rattle.std.proofs.lemmas.Bool.{eqb-true, eqb-false, ltb-true, ltb-false, ne_eqb}
use Rattle.std.proofs.lemmas.List.{map-append}
use Rattle.std.proofs.lemmas.List.Elements.{filter-append}
use Rattle.std.proofs.lemmas.List.FromFn.{length-range_with_len}
use Rattle.std.specs.List.{AllByRecursion}
use Rattle.ew_model.specs.Sets.{Among}
use Rattle.ew_model.proofs.RisingLists.{Rise}
use Rattle.ew_model.proofs.SetLaws.{among_joined, joined_left, joined_right}
use Rattle.ew_model.proofs.SortingLaws.{all_at, all_from}
use Rattle.critical.specs.declared.spans.CutSpan.{CutSpan}
use Rattle.critical.specs.CutRuns.{span_count}
use Rattle.critical.specs.Spans.{cuts_in, heads_in, RiseFrom, EndBelow, ends_before, with_last, shortened}
use Rattle.critical.proofs.Ranges.{single, among_range, range_inside, range_outside, range_part, take_singles, take_over}
use Rattle.critical.proofs.SpanSearches.{block, block_among, held_by_one, begins_high}
use Rattle.ew_model.proofs.Ranges.{range_more}

-- spans with one cut more
pub record Grown (spans new : List CutSpan) (given more : List (List ℕ)) (low cut : ℕ) (last : List ℕ) : Type 0 where
  pub cuts : cuts_in new ≡ cuts_in spans ++ cut ∷ []
  pub heads : heads_in new more ≡ heads_in spans given ++ last ∷ []
  pub rising : RiseFrom low new
  pub ends : EndBelow (cut + 1) new
  pub alike : length more ≡ length new

-- IN THE LAST SPAN, which ends right before it
pub lengthened : (spans : List CutSpan) (given : List (List ℕ)) (low cut : ℕ) → RiseFrom low spans → EndBelow cut spans → length given ≡ length spans → ends_before spans cut ≡ true
    → Grown spans (with_last spans cut) given given low cut ((cut - 1) ∷ [])
lengthened [] given low cut r b long e = let no : ⊥ = cc in absurd no
lengthened (s ∷ []) [] low cut r b long e = absurd (omega (arith, long))
lengthened (s ∷ t ∷ spans) [] low cut r b long e = absurd (omega (arith, long))
lengthened (s ∷ []) (hs ∷ given) low cut r b long e =
    let last : suc s.last ≡ cut = eqb-true (suc s.last) cut e in
    let more : cut - s.first ≡ suc (s.last - s.first) = omega (arith, last, r.1) in
    let top : s.first + suc (s.last - s.first) ≡ cut = omega (arith, last, r.1) in
    let under : s.first + (s.last - s.first) ≡ cut - 1 = omega (arith, last, r.1) in
    let tail : heads_in [] given ≡ [] = refl in
    record {
      cuts = append-nil (range_with_len s.first (suc (cut - s.first))) ∙ ap (λ n. range_with_len s.first (suc n)) more ∙ range_more s.first (suc (s.last - s.first))
          ∙ (λ i. sym (append-nil (block s)) i ++ single (top i));
      heads = ap (λ hss. hs ∷ hss)
          (append-nil (map single (range_with_len s.first (cut - s.first))) ∙ ap (λ n. map single (range_with_len s.first n)) more ∙ ap (map single) (range_more s.first (s.last - s.first))
          ∙ map-append single (range_with_len s.first (s.last - s.first)) ((s.first + (s.last - s.first)) ∷ [])
          ∙ (λ i. sym (append-nil (map single (range_with_len s.first (s.last - s.first)))) i ++ single (under i) ∷ []));
      rising = (r.0, omega (arith, last, r.1), tt);
      ends = (omega arith, tt);
      alike = omega (arith, long);
    }
lengthened (s ∷ t ∷ spans) (hs ∷ given) low cut r b long e =
    let ih = lengthened (t ∷ spans) given (suc (suc s.last)) cut r.2 b.1 (omega (arith, long)) e in
    let first = b.0 in
    record {
      cuts = ap (λ ks. block s ++ ks) ih.cuts ∙ sym (append_assoc (block s) (cuts_in (t ∷ spans)) (cut ∷ []));
      heads = ap (λ hss. hs ∷ (map single (range_with_len s.first (s.last - s.first)) ++ hss)) ih.heads
          ∙ ap (λ hss. hs ∷ hss) (sym (append_assoc (map single (range_with_len s.first (s.last - s.first))) (heads_in (t ∷ spans) given) (((cut - 1) ∷ []) ∷ [])));
      rising = (r.0, r.1, ih.rising);
      ends = (omega (arith, first), ih.ends);
      alike = let l = ih.alike in omega (arith, l);
    }

-- IN A SPAN OF ITS OWN
pub started : (spans : List CutSpan) (given : List (List ℕ)) (low cut : ℕ) (heads : List ℕ) → RiseFrom low spans → EndBelow cut spans → length given ≡ length spans → low ≤ cut → ends_before spans cut ≡ false
    → Grown spans (spans ++ record { first = cut; last = cut } ∷ []) given (given ++ heads ∷ []) low cut heads
started [] [] low cut heads r b long l e =
    let none : cut - cut ≡ 0 = omega arith in
    record {
      cuts = append-nil (range_with_len cut (suc (cut - cut))) ∙ ap (λ n. range_with_len cut (suc n)) none;
      heads = ap (λ hss. heads ∷ hss) (append-nil (map single (range_with_len cut (cut - cut))) ∙ ap (λ n. map single (range_with_len cut n)) none);
      rising = (l, omega arith, tt);
      ends = (omega arith, tt);
      alike = refl;
    }
started [] (hs ∷ given) low cut heads r b long l e = absurd (omega (arith, long))
started (s ∷ spans) [] low cut heads r b long l e = absurd (omega (arith, long))
started (s ∷ spans) (hs ∷ given) low cut heads r b long l e =
    let first = b.0 in
    let ih = started spans given (suc (suc s.last)) cut heads r.2 b.1 (omega (arith, long)) (behind spans e r.2 b.1) (others spans e) in
    record {
      cuts = ap (λ ks. block s ++ ks) ih.cuts ∙ sym (append_assoc (block s) (cuts_in spans) (cut ∷ []));
      heads = ap (λ hss. hs ∷ (map single (range_with_len s.first (s.last - s.first)) ++ hss)) ih.heads
          ∙ ap (λ hss. hs ∷ hss) (sym (append_assoc (map single (range_with_len s.first (s.last - s.first))) (heads_in spans given) (heads ∷ [])));
      rising = (r.0, r.1, ih.rising);
      ends = (omega (arith, first), ih.ends);
      alike = let n = ih.alike in omega (arith, n);
    }
  where
    apart : (m n : ℕ) → m < n → nat_eq (suc m) n ≡ false → suc (suc m) ≤ n
    apart m n l e = let ne = eqb-false (suc m) n e in omega (arith, l, ne)

    behind : (later : List CutSpan) → ends_before (s ∷ later) cut ≡ false → RiseFrom (suc (suc s.last)) later → EndBelow cut later → suc (suc s.last) ≤ cut
    behind [] e rise ends = apart s.last cut b.0 e
    behind (t ∷ later) e rise ends = omega (arith, rise.0, rise.1, ends.0)

    others : (later : List CutSpan) → ends_before (s ∷ later) cut ≡ false → ends_before later cut ≡ false
    others [] e = refl
    others (t ∷ later) e = e

-- those below a number
cuts_above : (spans : List CutSpan) (low end : ℕ) → RiseFrom low spans → end ≤ low → filter (λ k. nat_lt k end) (cuts_in spans) ≡ []
cuts_above [] low end r l = refl
cuts_above (s ∷ spans) low end r l =
    filter-append (λ k. nat_lt k end) (block s) (cuts_in spans)
    ∙ (λ i. range_outside s.first (suc (s.last - s.first)) end (omega (arith, l, r.0)) i ++ cuts_above spans (suc (suc s.last)) end r.2 (omega (arith, l, r.0, r.1)) i)

-- the spans that are left, with their heads
pub record Kept (spans new : List CutSpan) (given fewer : List (List ℕ)) (low end : ℕ) : Type 0 where
  pub cuts : cuts_in new ≡ filter (λ k. nat_lt k end) (cuts_in spans)
  pub heads : heads_in new fewer ≡ take (length (cuts_in new)) (heads_in spans given)
  pub rising : RiseFrom low new
  pub ends : (n : ℕ) → EndBelow n spans → EndBelow n new
  pub alike : length fewer ≡ length new

long_block : (a n : ℕ) (rest : List ℕ) → length (range_with_len a (suc n) ++ rest) ≡ suc (n + length rest)
long_block a n rest = let one = length-append (range_with_len a (suc n)) rest in let two = length-range_with_len a (suc n) in omega (arith, one, two)

-- one span is left
one_kept : (s : CutSpan) (spans : List CutSpan) (hs : List ℕ) (given : List (List ℕ)) (low end : ℕ) → RiseFrom low (s ∷ spans) → s.first < end
    → filter (λ k. nat_lt k end) (cuts_in spans) ≡ []
    → (b : Bool) → nat_lt s.last end ≡ b
    → Kept (s ∷ spans) (cond b s (record { first = s.first; last = end - 1 }) ∷ []) (hs ∷ given) (hs ∷ []) low end
one_kept s spans hs given low end r l none true e =
    let last = ltb-true s.last end e in
    record {
      cuts = append-nil (block s) ∙ sym (append-nil (block s)) ∙ sym (filter-append (λ k. nat_lt k end) (block s) (cuts_in spans) ∙ (λ i. range_inside s.first (suc (s.last - s.first)) end (omega (arith, last, r.1)) i ++ none i));
      heads = ap (λ hss. hs ∷ hss) (append-nil (map single (range_with_len s.first (s.last - s.first))))
          ∙ sym (ap (λ n. take n (heads_in (s ∷ spans) (hs ∷ given))) (long_block s.first (s.last - s.first) []
          ∙ (let z : suc (s.last - s.first + 0) ≡ suc (s.last - s.first) = omega arith in z))
          ∙ ap (λ hss. hs ∷ hss) (take_singles s.first (s.last - s.first) (s.last - s.first) (heads_in spans given) (omega arith)));
      rising = (r.0, r.1, tt);
      ends = λ n b. (b.0, tt);
      alike = refl;
    }
one_kept s spans hs given low end r l none false e =
    let last = ltb-false s.last end e in
    let m = end - 1 - s.first in
    let part : s.first + suc m ≡ end = omega (arith, l) in
    let fewer : m ≤ s.last - s.first = omega (arith, l, last) in
    record {
      cuts = append-nil (range_with_len s.first (suc m)) ∙ sym (append-nil (range_with_len s.first (suc m)))
          ∙ sym (filter-append (λ k. nat_lt k end) (block s) (cuts_in spans) ∙ (λ i. range_part s.first (suc (s.last - s.first)) (suc m) end part (omega (arith, fewer)) i ++ none i));
      heads = ap (λ hss. hs ∷ hss) (append-nil (map single (range_with_len s.first m)))
          ∙ sym (ap (λ n. take n (heads_in (s ∷ spans) (hs ∷ given))) (long_block s.first m []
          ∙ (let z : suc (m + 0) ≡ suc m = omega arith in z))
          ∙ ap (λ hss. hs ∷ hss) (take_singles s.first (s.last - s.first) m (heads_in spans given) fewer));
      rising = (r.0, omega (arith, l), tt);
      ends = λ n b. (let b0 = b.0 in omega (arith, b0, last, l), tt);
      alike = refl;
    }

-- THE SPANS that begin below the number, the last one shortened
pub kept_spans : (spans : List CutSpan) (given : List (List ℕ)) (low count end : ℕ) → RiseFrom low spans → length given ≡ length spans → count ≤ length spans
    → ((place : ℕ) (s : CutSpan) → place < count → slice_get spans place ≡ Some s → s.first < end)
    → ((place : ℕ) (s : CutSpan) → count ≤ place → slice_get spans place ≡ Some s → end ≤ s.first)
    → Kept spans (shortened (take count spans) end) given (take count given) low end
kept_spans [] given low zero end r long l below above = record { cuts = refl; heads = refl; rising = tt; ends = λ n b. tt; alike = refl }
kept_spans [] given low (suc count) end r long l below above = absurd (omega (arith, l))
kept_spans (s ∷ spans) given low zero end r long l below above = record {
  cuts = sym (cuts_above (s ∷ spans) s.first end (omega arith, r.1, r.2) (above 0 s (omega arith) refl));
  heads = refl;
  rising = tt;
  ends = λ n b. tt;
  alike = refl;
}
kept_spans (s ∷ spans) [] low (suc count) end r long l below above = absurd (omega (arith, long))
kept_spans (s ∷ spans) (hs ∷ given) low (suc zero) end r long l below above =
    one_kept s spans hs given low end r (below 0 s (omega arith) refl) (none spans r.2 (λ t. above 1 t (omega arith))) (nat_lt s.last end) refl
  where
    none : (later : List CutSpan) → RiseFrom (suc (suc s.last)) later → ((t : CutSpan) → slice_get later 0 ≡ Some t → end ≤ t.first) → filter (λ k. nat_lt k end) (cuts_in later) ≡ []
    none [] rise f = refl
    none (t ∷ later) rise f = cuts_above (t ∷ later) t.first end (omega arith, rise.1, rise.2) (f t refl)
kept_spans (s ∷ []) (hs ∷ given) low (suc (suc count)) end r long l below above = absurd (omega (arith, l))
kept_spans (s ∷ t ∷ spans) (hs ∷ given) low (suc (suc count)) end r long l below above =
    let ih = kept_spans (t ∷ spans) given (suc (suc s.last)) (suc count) end r.2 (omega (arith, long)) (omega (arith, l))
    (λ place x m e. below (suc place) x (omega (arith, m)) e) (λ place x m e. above (suc place) x (omega (arith, m)) e) in
    let next = below 1 t (omega arith) refl in
    let new = shortened (take (suc count) (t ∷ spans)) end in
    let d = s.last - s.first in
    record {
      cuts = ap (λ ks. block s ++ ks) ih.cuts
          ∙ sym (filter-append (λ k. nat_lt k end) (block s) (cuts_in (t ∷ spans)) ∙ ap (λ ks. ks ++ filter (λ k. nat_lt k end) (cuts_in (t ∷ spans))) (range_inside s.first (suc d) end (omega (arith, next, r.1, r.2.0))));
      heads = ap (λ hss. hs ∷ (map single (range_with_len s.first d) ++ hss)) ih.heads
          ∙ sym (ap (λ n. take n (heads_in (s ∷ t ∷ spans) (hs ∷ given))) (long_block s.first d (cuts_in new))
          ∙ ap (λ hss. hs ∷ hss) (take_over s.first d (length (cuts_in new)) (heads_in (t ∷ spans) given)));
      rising = (r.0, r.1, ih.rising);
      ends = λ n b. (b.0, ih.ends n b.1);
      alike = let n = ih.alike in omega (arith, n);
    }

-- HOW MANY SPANS of neighbours there are, with a number behind them
count_block : (a n m : ℕ) (rest : List ℕ) → span_count (range_with_len a (suc n) ++ m ∷ rest) ≡ cond (nat_eq m (suc (a + n))) (span_count (m ∷ rest)) (suc (span_count (m ∷ rest)))
count_block a zero m rest = let e : a ≡ a + 0 = omega arith in ap (λ k. cond (nat_eq m (suc k)) (span_count (m ∷ rest)) (suc (span_count (m ∷ rest)))) e
count_block a (suc n) m rest =
    let e : a + 1 + n ≡ a + suc n = omega arith in
    let next : a + 1 ≡ suc a = omega arith in
    let all = span_count (range_with_len (a + 1) (suc n) ++ m ∷ rest) in
    ap (λ b. cond b all (suc all)) (eq-eqb (a + 1) (suc a) next) ∙ count_block (a + 1) n m rest ∙ ap (λ k. cond (nat_eq m (suc k)) (span_count (m ∷ rest)) (suc (span_count (m ∷ rest)))) e

abbrev or_more : ℕ → Bool → ℕ
or_more m c = cond c m (suc m)

pub counted_more : (spans : List CutSpan) (low n : ℕ) (rest : List ℕ) → RiseFrom low spans → EndBelow n spans
    → span_count (cuts_in spans ++ n ∷ rest) ≡ cond (ends_before spans n) (length spans - 1) (length spans) + span_count (n ∷ rest)
counted_more [] low n rest r b = omega arith
counted_more (s ∷ []) low n rest r b =
    let top : suc (s.first + (s.last - s.first)) ≡ suc s.last = omega (arith, r.1) in
    ap span_count (append_assoc (block s) [] (n ∷ rest)) ∙ count_block s.first (s.last - s.first) n rest ∙ ap (λ k. or_more (span_count (n ∷ rest)) (nat_eq n k)) top ∙ at (nat_eq (suc s.last) n) refl
  where
    at : (b : Bool) → nat_eq (suc s.last) n ≡ b → or_more (span_count (n ∷ rest)) (nat_eq n (suc s.last)) ≡ cond b (1 - 1) 1 + span_count (n ∷ rest)
    at true e =
        let same = eqb-true (suc s.last) n e in
        let none : span_count (n ∷ rest) ≡ 1 - 1 + span_count (n ∷ rest) = omega arith in ap (or_more (span_count (n ∷ rest))) (eq-eqb n (suc s.last) (sym same)) ∙ none
    at false e =
        let other = eqb-false (suc s.last) n e in
        let one : suc (span_count (n ∷ rest)) ≡ 1 + span_count (n ∷ rest) = omega arith in ap (or_more (span_count (n ∷ rest))) (ne_eqb n (suc s.last) (λ q. other (sym q))) ∙ one
counted_more (s ∷ t ∷ spans) low n rest r b =
    let all = cuts_in (t ∷ spans) ++ n ∷ rest in
    let later = range_with_len (t.first + 1) (t.last - t.first) ++ cuts_in spans in
    let ih = counted_more (t ∷ spans) (suc (suc s.last)) n rest r.2 b.1 in
    let gap : nat_eq t.first (suc (s.first + (s.last - s.first))) ≡ false = ne_eqb t.first (suc (s.first + (s.last - s.first))) (λ q. omega (arith, q, r.1, r.2.0)) in
    ap span_count (append_assoc (block s) (cuts_in (t ∷ spans)) (n ∷ rest)) ∙ count_block s.first (s.last - s.first) t.first (later ++ n ∷ rest)
    ∙ ap (λ c. cond c (span_count all) (suc (span_count all))) gap ∙ ap suc ih ∙ at (ends_before (t ∷ spans) n) (length spans) (span_count (n ∷ rest))
  where
    at : (b : Bool) (k m : ℕ) → suc (cond b (suc k - 1) (suc k) + m) ≡ cond b (suc (suc k) - 1) (suc (suc k)) + m
    at true k m = omega arith
    at false k m = omega arith

pub counted : (spans : List CutSpan) (low n : ℕ) → RiseFrom low spans → EndBelow n spans → span_count (cuts_in spans ++ n ∷ []) ≡ cond (ends_before spans n) (length spans) (suc (length spans))
counted spans low n r b = counted_more spans low n [] r b ∙ at spans (ends_before spans n) refl
  where
    at : (ss : List CutSpan) (c : Bool) → ends_before ss n ≡ c → cond c (length ss - 1) (length ss) + 1 ≡ cond c (length ss) (suc (length ss))
    at [] true e = let no : ⊥ = cc in absurd no
    at [] false e = omega arith
    at (s ∷ ss) true e = omega arith
    at (s ∷ ss) false e = omega arith

-- there are at most half as many spans as numbers
pub few_spans : (spans : List CutSpan) (low n : ℕ) → RiseFrom low spans → EndBelow n spans → low ≤ suc n → low + length spans + length spans ≤ suc n
few_spans [] low n r b l = omega (arith, l)
few_spans (s ∷ spans) low n r b l = let ih = few_spans spans (suc (suc s.last)) n r.2 b.1 (let first = b.0 in omega (arith, first)) in omega (arith, ih, r.0, r.1)

pub end_more : (spans : List CutSpan) (n : ℕ) → EndBelow n spans → EndBelow (n + 1) spans
end_more [] n b = tt
end_more (s ∷ spans) n b = (let first = b.0 in omega (arith, first), end_more spans n b.1)

-- the spans end where their cuts do
pub ends_under : (spans : List CutSpan) (low n : ℕ) → RiseFrom low spans → AllByRecursion (λ k. k < n) (cuts_in spans) → EndBelow n spans
ends_under [] low n r h = tt
ends_under (s ∷ spans) low n r h = (
  all_at (λ k. k < n) (cuts_in (s ∷ spans)) s.last h (joined_left (block s) (cuts_in spans) s.last (block_among s s.last r.1 (omega arith))),
  ends_under spans (suc (suc s.last)) n r.2 (all_from (λ k. k < n) (cuts_in spans) (λ k m. all_at (λ j. j < n) (cuts_in (s ∷ spans)) k h (joined_right (block s) (cuts_in spans) k m))),
)

-- the cuts rise, so those below a number are the first ones
rise_range : (a n : ℕ) (ys : List ℕ) → ((y : ℕ) → Among y ys → a + n ≤ y) → Rise ys → Rise (range_with_len a n ++ ys)
rise_range a zero ys high r = r
rise_range a (suc n) ys high r = (
  all_from (λ y. a < y) (range_with_len (a + 1) n ++ ys) (λ y m.
      ⊎_elim (λ k. let low = (among_range (a + 1) n y k).0 in omega (arith, low)) (λ k. let up = high y k in omega (arith, up)) (among_joined (range_with_len (a + 1) n) ys y m)),
  rise_range (a + 1) n ys (λ y m. let up = high y m in omega (arith, up)) r,
)

pub cuts_rise : (spans : List CutSpan) (low : ℕ) → RiseFrom low spans → Rise (cuts_in spans)
cuts_rise [] low r = tt
cuts_rise (s ∷ spans) low r =
    rise_range s.first (suc (s.last - s.first)) (cuts_in spans)
    (λ y m. let held = held_by_one spans (suc (suc s.last)) y r.2 m in
    let high = begins_high spans (suc (suc s.last)) held.0 held.1.span r.2 held.1.there in omega (arith, high, held.1.from, r.1))
    (cuts_rise spans (suc (suc s.last)) r.2)

none_below : (xs : List ℕ) (x end : ℕ) → AllByRecursion (λ y. x < y) xs → end ≤ x → filter (λ k. nat_lt k end) xs ≡ []
none_below [] x end h l = refl
none_below (y ∷ xs) x end h l =
    let first = h.0 in
    λ i. cond (le-ltb y end (omega (arith, first, l)) i) (y ∷ filter (λ k. nat_lt k end) xs) (none_below xs x end h.1 l i)

pub front_below : (xs : List ℕ) (end : ℕ) → Rise xs → take (length (filter (λ k. nat_lt k end) xs)) xs ≡ filter (λ k. nat_lt k end) xs
front_below [] end r = refl
front_below (x ∷ xs) end r = at (nat_lt x end) refl (front_below xs end r.1)
  where
    at : (b : Bool) → nat_lt x end ≡ b → take (length (filter (λ k. nat_lt k end) xs)) xs ≡ filter (λ k. nat_lt k end) xs
        → take (length (cond b (x ∷ filter (λ k. nat_lt k end) xs) (filter (λ k. nat_lt k end) xs))) (x ∷ xs) ≡ cond b (x ∷ filter (λ k. nat_lt k end) xs) (filter (λ k. nat_lt k end) xs)
    at true e ih = ap (λ ys. x ∷ ys) ih
    at false e ih = let none = none_below xs x end r.0 (ltb-false x end e) in ap (λ ys. take (length ys) (x ∷ xs)) none ∙ sym none

pub first_cuts : (spans : List CutSpan) (end : ℕ) → RiseFrom 0 spans → take (length (filter (λ k. nat_lt k end) (cuts_in spans))) (cuts_in spans) ≡ filter (λ k. nat_lt k end) (cuts_in spans)
first_cuts spans end r = front_below (cuts_in spans) end (cuts_rise spans 0 r)

pub last_more : (spans : List CutSpan) (s : CutSpan) → cuts_in (spans ++ s ∷ []) ≡ cuts_in spans ++ block s
last_more [] s = append-nil (block s)
last_more (x ∷ spans) s = ap (λ ks. block x ++ ks) (last_more spans s) ∙ sym (append_assoc (block x) (cuts_in spans) (block s))

-- where shortened spans end
pub ends_shortened : (spans : List CutSpan) (limit n place : ℕ) (s : CutSpan) → length spans ≡ suc place → slice_get spans place ≡ Some s → 0 < limit
    → (last : ℕ) → (last ≤ s.last) → (last < limit) → ((last ≡ s.last) ⊎ (suc last ≡ limit)) → ends_before (shortened spans limit) n ≡ nat_eq (suc last) n
ends_shortened [] limit n place s long e some last l h c = absurd (omega (arith, long))
ends_shortened (x ∷ []) limit n (suc place) s long e some last l h c = absurd (omega (arith, long))
ends_shortened (x ∷ []) limit n zero s long e some last l h c = at (nat_lt x.last limit) refl
  where
    same : x.last ≡ s.last
    same = ap (λ (y : CutSpan). y.last) (same_Some x s e)

    at : (b : Bool) → nat_lt x.last limit ≡ b → ends_before (cond b x (record { first = x.first; last = limit - 1 }) ∷ []) n ≡ nat_eq (suc last) n
    at true t = let low = ltb-true x.last limit t in let is : x.last ≡ last = ⊎_elim (λ q. omega (arith, q, same)) (λ q. omega (arith, q, same, low, l)) c in ap (λ k. nat_eq (suc k) n) is
    at false t = let high = ltb-false x.last limit t in let is : limit - 1 ≡ last = ⊎_elim (λ q. omega (arith, q, same, high, h)) (λ q. omega (arith, q)) c in ap (λ k. nat_eq (suc k) n) is
ends_shortened (x ∷ t ∷ spans) limit n zero s long e some last l h c = absurd (omega (arith, long))
ends_shortened (x ∷ t ∷ spans) limit n (suc place) s long e some last l h c = behind spans (ends_shortened (t ∷ spans) limit n place s (omega (arith, long)) e some last l h c)
  where
    behind : (later : List CutSpan) → ends_before (shortened (t ∷ later) limit) n ≡ nat_eq (suc last) n → ends_before (x ∷ shortened (t ∷ later) limit) n ≡ nat_eq (suc last) n
    behind [] q = q
    behind (u ∷ later) q = q

pub long_shortened : (spans : List CutSpan) (limit : ℕ) → length (shortened spans limit) ≡ length spans
long_shortened [] limit = refl
long_shortened (s ∷ []) limit = refl
long_shortened (s ∷ t ∷ spans) limit = ap suc (long_shortened (t ∷ spans) limit)
