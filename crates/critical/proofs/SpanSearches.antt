-- What stands in spans.
use Rattle.std.proofs.Common.{◌≡◌, ℕ, zero, suc, ◌+◌, ◌-◌, ◌<◌, ◌≤◌, true, cond, ◌⊎◌, inl, inr, ⊎_elim, nat_eq, List, [], ◌∷◌, ◌++◌, length, map, set, slice_get, slice_index_or, Option, Some, None, IfSome, IfNone, refl, sym, ap, ◌∙◌, subst, arith, lt-ltb, le-ltb}
use Rattle.std.specs.List.{range_with_len}
use Rattle.std.proofs.lemmas.Option.{same_Some, slice_get-get_or}
use Rattle.std.specs.Option.{is_some}
use Rattle.std.proofs.lemmas.Bool.{false_from_ne_true, eqb-true}
use Rattle.ew_model.specs.Graph.{is_named}
use Rattle.ew_model.specs.Sets.{Among}
use Rattle.ew_model.proofs.RisingLists.{number_among, among_named}
use Rattle.ew_model.proofs.SetLaws.{among_joined, joined_left, joined_right}
use Rattle.critical.specs.declared.spans.CutSpan.{CutSpan}
use Rattle.critical.specs.Searches.{IsGreatestTo}
use Rattle.critical.specs.Spans.{cuts_in, heads_in, RiseFrom, EndBelow, ends_before, with_last, shortened, IsHeldAt}
use Rattle.critical.proofs.Ranges.{single, range_among, among_range, place_inside, place_behind, read_single, read_behind}

-- the cuts of a span
abbrev pub block : CutSpan → List ℕ
block s = range_with_len s.first (suc (s.last - s.first))

among_block : (s : CutSpan) (k : ℕ) → Among k (block s) → s.first ≤ s.last → (s.first ≤ k) × (k ≤ s.last)
among_block s k m l = let b = among_range s.first (suc (s.last - s.first)) k m in (b.0, omega (arith, b, l))

pub block_among : (s : CutSpan) (k : ℕ) → s.first ≤ k → k ≤ s.last → Among k (block s)
block_among s k l h = range_among s.first (suc (s.last - s.first)) k l (omega (arith, l, h))

-- a number of the spans is held by one of them, and the other way round
pub held_by_one : (spans : List CutSpan) (low k : ℕ) → RiseFrom low spans → Among k (cuts_in spans) → (place : ℕ) × IsHeldAt spans place k
held_by_one [] low k r m = absurd m
held_by_one (s ∷ spans) low k r m =
    ⊎_elim
    (λ here. let b = among_block s k here r.1 in (0, record { span = s; there = refl; from = b.0; to = b.1 }))
    (λ more. let ih = held_by_one spans (suc (suc s.last)) k r.2 more in (suc ih.0, record { span = ih.1.span; there = ih.1.there; from = ih.1.from; to = ih.1.to }))
    (among_joined (block s) (cuts_in spans) k m)

pub held_among : (spans : List CutSpan) (place k : ℕ) (s : CutSpan) → slice_get spans place ≡ Some s → s.first ≤ k → k ≤ s.last → Among k (cuts_in spans)
held_among [] place k s e l h = let no : ⊥ = cc in absurd no
held_among (x ∷ spans) zero k s e l h =
    let same : x ≡ s = same_Some x s e in
    joined_left (block x) (cuts_in spans) k (subst (λ (y : CutSpan). Among k (block y)) (sym same) (block_among s k l h))
held_among (x ∷ spans) (suc place) k s e l h = joined_right (block x) (cuts_in spans) k (held_among spans place k s e l h)

pub begins_high : (spans : List CutSpan) (low place : ℕ) (s : CutSpan) → RiseFrom low spans → slice_get spans place ≡ Some s → low ≤ s.first
begins_high [] low place s r e = let no : ⊥ = cc in absurd no
begins_high (x ∷ spans) low zero s r e = let same = ap (λ (y : CutSpan). y.first) (same_Some x s e) in omega (arith, same, r.0)
begins_high (x ∷ spans) low (suc place) s r e = let ih = begins_high spans (suc (suc x.last)) place s r.2 e in omega (arith, ih, r.0, r.1)

pub spans_apart : (spans : List CutSpan) (low i j : ℕ) (s t : CutSpan) → RiseFrom low spans → i < j → slice_get spans i ≡ Some s → slice_get spans j ≡ Some t → suc s.last < t.first
spans_apart [] low i j s t r l e f = let no : ⊥ = cc in absurd no
spans_apart (x ∷ spans) low i zero s t r l e f = absurd (omega (arith, l))
spans_apart (x ∷ spans) low zero (suc j) s t r l e f =
    let same = ap (λ (y : CutSpan). y.last) (same_Some x s e) in
    let high = begins_high spans (suc (suc x.last)) j t r.2 f in omega (arith, same, high)
spans_apart (x ∷ spans) low (suc i) (suc j) s t r l e f = spans_apart spans (suc (suc x.last)) i j s t r.2 (omega (arith, l)) e f

pub span_order : (spans : List CutSpan) (low place : ℕ) (s : CutSpan) → RiseFrom low spans → slice_get spans place ≡ Some s → s.first ≤ s.last
span_order [] low place s r e = let no : ⊥ = cc in absurd no
span_order (x ∷ spans) low zero s r e = subst (λ (y : CutSpan). y.first ≤ y.last) (same_Some x s e) r.1
span_order (x ∷ spans) low (suc place) s r e = span_order spans (suc (suc x.last)) place s r.2 e

pub span_end : (spans : List CutSpan) (n place : ℕ) (s : CutSpan) → EndBelow n spans → slice_get spans place ≡ Some s → s.last < n
span_end [] n place s b e = let no : ⊥ = cc in absurd no
span_end (x ∷ spans) n zero s b e = let same = ap (λ (y : CutSpan). y.last) (same_Some x s e) in omega (arith, same, b.0)
span_end (x ∷ spans) n (suc place) s b e = span_end spans n place s b.1 e

pub get_among : (xs : List ℕ) (i x : ℕ) → slice_get xs i ≡ Some x → Among x xs
get_among [] i x e = let no : ⊥ = cc in absurd no
get_among (z ∷ xs) zero x e = inl (sym (same_Some z x e))
get_among (z ∷ xs) (suc i) x e = inr (get_among xs i x e)

-- all numbers are high
pub cuts_high : (spans : List CutSpan) (low p y : ℕ) → RiseFrom low spans → slice_get (cuts_in spans) p ≡ Some y → low ≤ y
cuts_high spans low p y r e =
    let held = held_by_one spans low y r (get_among (cuts_in spans) p y e) in
    let high = begins_high spans low held.0 held.1.span r held.1.there in omega (arith, high, held.1.from)

pub three_ways : (i n : ℕ) → (i < n) ⊎ ((i ≡ n) ⊎ (n < i))
three_ways zero zero = inr (inl refl)
three_ways zero (suc n) = inl (omega arith)
three_ways (suc i) zero = inr (inr (omega arith))
three_ways (suc i) (suc n) = ⊎_elim (λ l. inl (omega (arith, l))) (⊎_elim (λ e. inr (inl (ap suc e))) (λ l. inr (inr (omega (arith, l))))) (three_ways i n)

-- THE SPAN that begins last at a number or below it: the number is in it, or in none.
pub held_by_none : (spans : List CutSpan) (k : ℕ) → RiseFrom 0 spans → ((place : ℕ) (t : CutSpan) → slice_get spans place ≡ Some t → k < t.first) → Among k (cuts_in spans) → ⊥
held_by_none spans k r above m =
    let held = held_by_one spans 0 k r m in
    let high = above held.0 held.1.span held.1.there in omega (arith, high, held.1.from)

pub held_by_no_other : (spans : List CutSpan) (below k : ℕ) (s : CutSpan) → RiseFrom 0 spans → slice_get spans below ≡ Some s → s.last < k
    → ((place : ℕ) (t : CutSpan) → below < place → slice_get spans place ≡ Some t → k < t.first)
    → Among k (cuts_in spans) → ⊥
held_by_no_other spans below k s r e last above m =
    let held = held_by_one spans 0 k r m in
    at held.0 held.1 (three_ways held.0 below)
  where
    at : (place : ℕ) → IsHeldAt spans place k → (place < below) ⊎ ((place ≡ below) ⊎ (below < place)) → ⊥
    at place h (inl before) =
        let apart = spans_apart spans 0 place below h.span s r before h.there e in
        let order = span_order spans 0 below s r e in omega (arith, apart, order, last, h.to)
    at place h (inr (inl here)) =
        let same = ap (λ (y : CutSpan). y.last) (same_Some h.span s (sym h.there ∙ ap (slice_get spans) here ∙ e)) in omega (arith, same, last, h.to)
    at place h (inr (inr behind)) = let high = above place h.span behind h.there in omega (arith, high, h.from)

-- the greatest number that is at most m
pub greatest_held : (spans : List CutSpan) (below m : ℕ) (s : CutSpan) → RiseFrom 0 spans → slice_get spans below ≡ Some s → s.first ≤ m
    → ((place : ℕ) (t : CutSpan) → below < place → slice_get spans place ≡ Some t → m < t.first)
    → (r : ℕ) → (r ≤ m) → (r ≤ s.last) → ((r ≡ m) ⊎ (r ≡ s.last)) → IsGreatestTo (cuts_in spans) m r
greatest_held spans below m s rise e from above r low inner is = record {
  within = low;
  there = inr (held_among spans below r s e (⊎_elim (λ q. omega (arith, q, from)) (λ q. let o = span_order spans 0 below s rise e in omega (arith, q, o)) is) inner);
  greatest = λ k a l.
      let held = held_by_one spans 0 k rise a in
      at k l held.0 held.1 (three_ways held.0 below);
}
  where
    at : (k : ℕ) → k ≤ m → (place : ℕ) → IsHeldAt spans place k → (place < below) ⊎ ((place ≡ below) ⊎ (below < place)) → k ≤ r
    at k l place h (inl before) =
        let apart = spans_apart spans 0 place below h.span s rise before h.there e in
        ⊎_elim (λ q. omega (arith, q, l)) (λ q. let o = span_order spans 0 below s rise e in omega (arith, q, o, apart, h.to)) is
    at k l place h (inr (inl here)) =
        let same : h.span ≡ s = same_Some h.span s (sym h.there ∙ ap (slice_get spans) here ∙ e) in
        let last = ap (λ (y : CutSpan). y.last) same in
        ⊎_elim (λ q. omega (arith, q, l)) (λ q. omega (arith, q, last, h.to)) is
    at k l place h (inr (inr behind)) = let high = above place h.span behind h.there in absurd (omega (arith, high, h.from, l))

pub greatest_none : (spans : List CutSpan) (m : ℕ) → RiseFrom 0 spans → ((place : ℕ) (t : CutSpan) → slice_get spans place ≡ Some t → m < t.first) → IsGreatestTo (cuts_in spans) m 0
greatest_none spans m rise above = record {
  within = omega arith;
  there = inl refl;
  greatest = λ k a l. let held = held_by_one spans 0 k rise a in let high = above held.0 held.1.span held.1.there in absurd (omega (arith, high, held.1.from, l));
}

-- THE HEADS below a cut that a span holds: those given for the span, where it is the first one, or else the cut before.
pub heads_found : (spans : List CutSpan) (given : List (List ℕ)) (low cut place : ℕ) (s : CutSpan) → RiseFrom low spans → length given ≡ length spans
    → slice_get spans place ≡ Some s → s.first ≤ cut → cut ≤ s.last
    → (p : ℕ) → slice_get (cuts_in spans) p ≡ Some cut
    → (s.first ≡ cut → slice_index_or (heads_in spans given) p [] ≡ slice_index_or given place [])
    × ((s.first ≡ cut → ⊥) → slice_index_or (heads_in spans given) p [] ≡ (cut - 1) ∷ [])
heads_found [] given low cut place s r long e l h p q = let no : ⊥ = cc in absurd no
heads_found (x ∷ spans) [] low cut place s r long e l h p q = absurd (omega (arith, long))
heads_found (x ∷ spans) (hs ∷ given) low cut zero s r long e l h zero q =
    let same = ap (λ (y : CutSpan). y.first) (same_Some x s e) in
    let first = same_Some x.first cut q in
    (λ _. refl, λ no. absurd (no (omega (arith, same, first))))
heads_found (x ∷ spans) (hs ∷ given) low cut zero s r long e l h (suc p) q =
    let span = same_Some x s e in
    let first = ap (λ (y : CutSpan). y.first) span in
    let last = ap (λ (y : CutSpan). y.last) span in
    let at = place_inside (x.first + 1) (x.last - x.first) (cuts_in spans) p cut q (omega (arith, l, h, first, last, r.1))
    (λ y j f. let high = cuts_high spans (suc (suc x.last)) j y r.2 f in omega (arith, high, r.1)) in
    let before : x.first + p ≡ cut - 1 = omega (arith, at) in
    (λ is. absurd (omega (arith, is, first, at)), λ no. read_single x.first (x.last - x.first) (heads_in spans given) p at.0 ∙ ap single before)
heads_found (x ∷ spans) (hs ∷ given) low cut (suc place) s r long e l h p q =
    let high = begins_high spans (suc (suc x.last)) place s r.2 e in
    let at = place_behind x.first (suc (x.last - x.first)) (cuts_in spans) p cut q (omega (arith, high, l, r.1)) in
    let ih = heads_found spans given (suc (suc x.last)) cut place s r.2 (omega (arith, long)) e l h at.0 at.2 in
    let read = behind (x.last - x.first) at.0 p at.1 in
    (λ is. read ∙ ih.0 is, λ no. read ∙ ih.1 no)
  where
    behind : (n i j : ℕ) → j ≡ suc n + i → slice_index_or (hs ∷ map single (range_with_len x.first n) ++ heads_in spans given) j [] ≡ slice_index_or (heads_in spans given) i []
    behind n i zero f = absurd (omega (arith, f))
    behind n i (suc j) f = read_behind x.first n (heads_in spans given) i j (omega (arith, f))

-- the first cuts of the spans rise
pub firsts_rise : (spans : List CutSpan) → RiseFrom 0 spans → (i j : ℕ) (d : CutSpan) → i ≤ j → j < length spans → (slice_index_or spans i d).first ≤ (slice_index_or spans j d).first
firsts_rise spans r i j d l m = at (three_ways i j)
  where
    at : (i < j) ⊎ ((i ≡ j) ⊎ (j < i)) → (slice_index_or spans i d).first ≤ (slice_index_or spans j d).first
    at (inl less) =
        let e = slice_get-get_or spans i d (omega (arith, less, m)) in
        let apart = spans_apart spans 0 i j (slice_index_or spans i d) (slice_index_or spans j d) r less e (slice_get-get_or spans j d m) in
        let order = span_order spans 0 i (slice_index_or spans i d) r e in omega (arith, apart, order)
    at (inr (inl same)) = let e = ap (λ k. (slice_index_or spans k d).first) same in omega (arith, e)
    at (inr (inr more)) = absurd (omega (arith, more, l))

-- the last span
pub ends_by_last : (spans : List CutSpan) (n place : ℕ) (s : CutSpan) → length spans ≡ suc place → slice_get spans place ≡ Some s → ends_before spans n ≡ nat_eq (suc s.last) n
ends_by_last [] n place s long e = absurd (omega (arith, long))
ends_by_last (x ∷ []) n zero s long e = ap (λ (y : CutSpan). nat_eq (suc y.last) n) (same_Some x s e)
ends_by_last (x ∷ []) n (suc place) s long e = absurd (omega (arith, long))
ends_by_last (x ∷ t ∷ spans) n zero s long e = absurd (omega (arith, long))
ends_by_last (x ∷ t ∷ spans) n (suc place) s long e = ends_by_last (t ∷ spans) n place s (omega (arith, long)) e

pub last_set : (spans : List CutSpan) (n place : ℕ) (s : CutSpan) → length spans ≡ suc place → s ≡ slice_index_or spans place s → set spans place (record { first = s.first; last = n }) ≡ with_last spans n
last_set [] n place s long e = absurd (omega (arith, long))
last_set (x ∷ []) n zero s long e = ap (λ (y : CutSpan). record { first = y.first; last = n } ∷ []) e
last_set (x ∷ []) n (suc place) s long e = absurd (omega (arith, long))
last_set (x ∷ t ∷ spans) n zero s long e = absurd (omega (arith, long))
last_set (x ∷ t ∷ spans) n (suc place) s long e = ap (λ ss. x ∷ ss) (last_set (t ∷ spans) n place s (omega (arith, long)) e)

pub shortened_set : (spans : List CutSpan) (n place : ℕ) (s : CutSpan) → length spans ≡ suc place → s ≡ slice_index_or spans place s → n ≤ s.last → set spans place (record { first = s.first; last = n - 1 }) ≡ shortened spans n
shortened_set [] n place s long e l = absurd (omega (arith, long))
shortened_set (x ∷ []) n zero s long e l =
    let last = ap (λ (y : CutSpan). y.last) e in
    ap (λ (y : CutSpan). record { first = y.first; last = n - 1 } ∷ []) e
    ∙ sym (ap (λ b. cond b x (record { first = x.first; last = n - 1 }) ∷ []) (le-ltb x.last n (omega (arith, l, last))))
shortened_set (x ∷ []) n (suc place) s long e l = absurd (omega (arith, long))
shortened_set (x ∷ t ∷ spans) n zero s long e l = absurd (omega (arith, long))
shortened_set (x ∷ t ∷ spans) n (suc place) s long e l = ap (λ ss. x ∷ ss) (shortened_set (t ∷ spans) n place s (omega (arith, long)) e l)

pub shortened_same : (spans : List CutSpan) (n : ℕ) → ((place : ℕ) (s : CutSpan) → length spans ≡ suc place → slice_get spans place ≡ Some s → s.last < n) → spans ≡ shortened spans n
shortened_same [] n f = refl
shortened_same (x ∷ []) n f = sym (ap (λ b. cond b x (record { first = x.first; last = n - 1 }) ∷ []) (lt-ltb x.last n (f 0 x refl refl)))
shortened_same (x ∷ t ∷ spans) n f = ap (λ ss. x ∷ ss) (shortened_same (t ∷ spans) n (λ place s long e. f (suc place) s (omega (arith, long)) e))

-- whether a span is found tells whether the number is there
pub found_tells : (spans : List CutSpan) (k : ℕ) (r : Option ℕ) → IfSome r (λ place. IsHeldAt spans place k) → IfNone r (Among k (cuts_in spans) → ⊥) → is_some r ≡ is_named nat_eq (cuts_in spans) k
found_tells spans k (Some place) some none = sym (among_named (cuts_in spans) k (held_among spans place k some.span some.there some.from some.to))
found_tells spans k None some none = sym (false_from_ne_true (is_named nat_eq (cuts_in spans) k) (λ e. none (number_among (cuts_in spans) k e)))

-- the number before is there, where the last span ends at it
pub last_there : (spans : List CutSpan) (n : ℕ) → RiseFrom 0 spans → ends_before spans n ≡ true → (0 < n) × Among (n - 1) (cuts_in spans)
last_there spans n r e = go spans 0 r e
  where
    go : (later : List CutSpan) (low : ℕ) → RiseFrom low later → ends_before later n ≡ true → (0 < n) × Among (n - 1) (cuts_in later)
    go [] low r e = absurd (let no : ⊥ = cc in no)
    go (s ∷ []) low r e =
        let last = eqb-true (suc s.last) n e in
        (omega (arith, last), joined_left (block s) [] (n - 1) (block_among s (n - 1) (omega (arith, last, r.1)) (omega (arith, last))))
    go (s ∷ t ∷ later) low r e = let ih = go (t ∷ later) (suc (suc s.last)) r.2 e in (ih.0, joined_right (block s) (cuts_in (t ∷ later)) (n - 1) ih.1)
