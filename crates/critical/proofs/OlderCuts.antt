-- What is seen of older spans, with the spans behind them.
use Rattle.std.proofs.Common.{◌≡◌, ℕ, zero, suc, ◌+◌, ◌-◌, ◌<◌, ◌≤◌, Bool, true, false, cond, ◌&&◌, ◌⊎◌, inl, inr, ⊎_elim, nat_eq, nat_lt, List, [], ◌∷◌, ◌++◌, length, map, filter, take, drop, slice_get, slice_index_or, Some, refl, sym, ap, ◌∙◌, subst, arith, lt-ltb, le-ltb, append-nil, append_assoc, length-append}
use Rattle.std.specs.List.{range_with_len}
use Rattle.std.specs.Cmp.Lexicographic.{pointwise}
use Rattle.std.proofs.Math.Seq.{take-length}
use Rattle.std.proofs.lemmas.Bool.{eqb-false, ltb-true, ltb-false}
use Rattle.std.proofs.lemmas.List.{length-map, take-append-drop}
use Rattle.std.proofs.lemmas.List.Elements.{filter-append}
use Rattle.std.proofs.lemmas.List.FromFn.{length-range_with_len}
use Rattle.std.proofs.lemmas.Option.{same_Some}
use Rattle.ew_model.specs.Graph.{is_named}
use Rattle.ew_model.specs.Sets.{Among}
use Rattle.ew_model.proofs.ListParts.{length-filter-le}
use Rattle.ew_model.proofs.ListPlaces.{get-take, get-take_within}
use Rattle.ew_model.proofs.ListTests.{filter_alike, filter_twice, same_truth}
use Rattle.ew_model.proofs.EntryLaws.{filter_none}
use Rattle.ew_model.proofs.LocalEdit.{filter_all}
use Rattle.ew_model.proofs.RisingLists.{Rise, number_among, among_named}
use Rattle.ew_model.proofs.SetLaws.{among_joined, among_filter, filter_among, joined_left, joined_right}
use Rattle.ew_model.proofs.SortingLaws.{all_at, all_filter, all_from}
use Rattle.critical.specs.declared.spans.CutSpan.{CutSpan}
use Rattle.critical.specs.CutRuns.{span_count}
use Rattle.critical.specs.Older.{SpanList, seen_cuts, seen_heads, all_cuts, all_heads}
use Rattle.critical.specs.Searches.{TellsHeads, IsGreatestTo}
use Rattle.critical.specs.Spans.{cuts_in, heads_in, RiseFrom, EndBelow, ends_before, shortened}
use Rattle.critical.proofs.Ranges.{single}
use Rattle.critical.proofs.SpanChanges.{Kept, counted_more, cuts_rise, ends_shortened, ends_under, few_spans, first_cuts, front_below, kept_spans, long_shortened}
use Rattle.critical.proofs.Chains.{end_higher}
use Rattle.critical.proofs.SpanSearches.{block, block_among, held_by_one, begins_high, spans_apart, get_among}

-- THE FRONT of a list, with another behind it
module _ {X : Type 0} where
  pub long_front : (n : ℕ) (xs : List X) → n ≤ length xs → length (take n xs) ≡ n
  long_front zero xs l = refl
  long_front (suc n) [] l = absurd (omega (arith, l))
  long_front (suc n) (x ∷ xs) l = ap suc (long_front n xs (omega (arith, l)))

  pub take_both : (m n k : ℕ) (xs ys : List X) → m ≤ n → n ≤ length xs → (m ≡ n) ⊎ (k ≡ 0) → take (m + k) (take n xs ++ ys) ≡ take m xs ++ take k ys
  take_both zero zero k xs ys l h c = let e : 0 + k ≡ k = omega arith in ap (λ j. take j ys) e
  take_both zero (suc n) k xs ys l h (inl e) = absurd (omega (arith, e))
  take_both zero (suc n) k xs ys l h (inr e) = let z : 0 + k ≡ 0 = omega (arith, e) in ap (λ j. take j (take (suc n) xs ++ ys)) z ∙ ap (λ j. take j ys) (sym e)
  take_both (suc m) zero k xs ys l h c = absurd (omega (arith, l))
  take_both (suc m) (suc n) k [] ys l h c = absurd (omega (arith, h))
  take_both (suc m) (suc n) k (x ∷ xs) ys l h c =
      let e : suc m + k ≡ suc (m + k) = omega arith in
      ap (λ j. take j (take (suc n) (x ∷ xs) ++ ys)) e
      ∙ ap (λ zs. x ∷ zs) (take_both m n k xs ys (omega (arith, l)) (omega (arith, h)) (⊎_elim (λ q. inl (omega (arith, q))) (λ q. inr q) c))

  -- an element stands in the front or behind it
  pub in_parts : (n : ℕ) (xs ys : List X) (i : ℕ) (x : X) → n ≤ length xs → slice_get (take n xs ++ ys) i ≡ Some x
      → ((i < n) × (slice_get xs i ≡ Some x)) ⊎ ((q : ℕ) × (i ≡ n + q) × (slice_get ys q ≡ Some x))
  in_parts zero xs ys i x h e = inr (i, omega arith, e)
  in_parts (suc n) [] ys i x h e = absurd (omega (arith, h))
  in_parts (suc n) (y ∷ xs) ys zero x h e = inl (omega arith, e)
  in_parts (suc n) (y ∷ xs) ys (suc i) x h e =
      ⊎_elim (λ w. inl ((let l = w.0 in omega (arith, l)), w.1)) (λ w. inr (w.0, (let at = w.1 in omega (arith, at)), w.2)) (in_parts n xs ys i x (omega (arith, h)) e)

  pub read_front : (n : ℕ) (xs ys : List X) (i : ℕ) (d : X) → i < n → n ≤ length xs → slice_index_or (take n xs ++ ys) i d ≡ slice_index_or xs i d
  read_front zero xs ys i d l h = absurd (omega (arith, l))
  read_front (suc n) [] ys i d l h = absurd (omega (arith, h))
  read_front (suc n) (y ∷ xs) ys zero d l h = refl
  read_front (suc n) (y ∷ xs) ys (suc i) d l h = read_front n xs ys i d (omega (arith, l)) (omega (arith, h))

  pub read_rest : (n : ℕ) (xs ys : List X) (i q : ℕ) (d : X) → i ≡ n + q → n ≤ length xs → slice_index_or (take n xs ++ ys) i d ≡ slice_index_or ys q d
  read_rest zero xs ys i q d e h = let same : i ≡ q = omega (arith, e) in ap (λ j. slice_index_or ys j d) same
  read_rest (suc n) [] ys i q d e h = absurd (omega (arith, h))
  read_rest (suc n) (y ∷ xs) ys zero q d e h = absurd (omega (arith, e))
  read_rest (suc n) (y ∷ xs) ys (suc i) q d e h = read_rest n xs ys i q d (omega (arith, e)) (omega (arith, h))

-- SPANS that rise
pub rise_lower : (spans : List CutSpan) (m low : ℕ) → m ≤ low → RiseFrom low spans → RiseFrom m spans
rise_lower [] m low l r = tt
rise_lower (s ∷ spans) m low l r = (let first = r.0 in omega (arith, first, l), r.1, r.2)

pub rise_from : (spans : List CutSpan) (low : ℕ) → RiseFrom 0 spans → ((k : ℕ) → Among k (cuts_in spans) → low ≤ k) → RiseFrom low spans
rise_from [] low r f = tt
rise_from (s ∷ spans) low r f = (f s.first (joined_left (block s) (cuts_in spans) s.first (block_among s s.first (omega arith) r.1)), r.1, r.2)

pub cuts_from : (spans : List CutSpan) (low k : ℕ) → RiseFrom low spans → Among k (cuts_in spans) → low ≤ k
cuts_from spans low k r m = let held = held_by_one spans low k r m in let high = begins_high spans low held.0 held.1.span r held.1.there in omega (arith, high, held.1.from)

pub rise_take : (n : ℕ) (spans : List CutSpan) (low : ℕ) → RiseFrom low spans → RiseFrom low (take n spans)
rise_take zero spans low r = tt
rise_take (suc n) [] low r = tt
rise_take (suc n) (s ∷ spans) low r = (r.0, r.1, rise_take n spans (suc (suc s.last)) r.2)

pub rise_drop : (n : ℕ) (spans : List CutSpan) (low : ℕ) (s : CutSpan) → RiseFrom low spans → slice_get spans n ≡ Some s → RiseFrom s.first (drop n spans)
rise_drop zero [] low s r e = tt
rise_drop zero (x ∷ spans) low s r e = subst (λ (y : CutSpan). RiseFrom y.first (x ∷ spans)) (same_Some x s e) (omega arith, r.1, r.2)
rise_drop (suc n) [] low s r e = tt
rise_drop (suc n) (x ∷ spans) low s r e = rise_drop n spans (suc (suc x.last)) s r.2 e

pub ends_drop : (n m : ℕ) (spans : List CutSpan) → EndBelow m spans → EndBelow m (drop n spans)
ends_drop zero m spans b = b
ends_drop (suc n) m [] b = tt
ends_drop (suc n) m (x ∷ spans) b = ends_drop n m spans b.1

pub ends_take : (n m : ℕ) (spans : List CutSpan) → EndBelow m spans → EndBelow m (take n spans)
ends_take zero m spans b = tt
ends_take (suc n) m [] b = tt
ends_take (suc n) m (x ∷ spans) b = (b.0, ends_take n m spans b.1)

-- the cuts before a span are below it
front_low : (spans : List CutSpan) (low n k : ℕ) (s : CutSpan) → RiseFrom low spans → slice_get spans n ≡ Some s → Among k (cuts_in (take n spans)) → k < s.first
front_low spans low n k s r e m =
    let held = held_by_one (take n spans) low k (rise_take n spans low r) m in
    let there : slice_get spans held.0 ≡ Some held.1.span = get-take n spans held.0 held.1.span held.1.there in
    let before : held.0 < n = within n spans held.0 held.1.span held.1.there in
    let apart = spans_apart spans low held.0 n held.1.span s r before there e in
    omega (arith, apart, held.1.to)
  where
    within : (n : ℕ) (xs : List CutSpan) (i : ℕ) (x : CutSpan) → slice_get (take n xs) i ≡ Some x → i < n
    within zero xs i x e = let no : ⊥ = cc in absurd no
    within (suc n) [] i x e = let no : ⊥ = cc in absurd no
    within (suc n) (y ∷ xs) zero x e = omega arith
    within (suc n) (y ∷ xs) (suc i) x e = let ih = within n xs i x e in omega (arith, ih)

-- SPANS behind others
pub cuts_joined : (spans more : List CutSpan) → cuts_in (spans ++ more) ≡ cuts_in spans ++ cuts_in more
cuts_joined [] more = refl
cuts_joined (s ∷ spans) more = ap (λ ks. block s ++ ks) (cuts_joined spans more) ∙ sym (append_assoc (block s) (cuts_in spans) (cuts_in more))

pub heads_joined : (spans more : List CutSpan) (given others : List (List ℕ)) → length given ≡ length spans → heads_in (spans ++ more) (given ++ others) ≡ heads_in spans given ++ heads_in more others
heads_joined [] more [] others long = refl
heads_joined [] more (hs ∷ given) others long = absurd (omega (arith, long))
heads_joined (s ∷ spans) more [] others long = absurd (omega (arith, long))
heads_joined (s ∷ spans) more (hs ∷ given) others long =
    let inner = map single (range_with_len s.first (s.last - s.first)) in
    ap (λ hss. hs ∷ (inner ++ hss)) (heads_joined spans more given others (omega (arith, long)))
    ∙ ap (λ hss. hs ∷ hss) (sym (append_assoc inner (heads_in spans given) (heads_in more others)))

pub long_heads : (spans : List CutSpan) (given : List (List ℕ)) → length given ≡ length spans → length (heads_in spans given) ≡ length (cuts_in spans)
long_heads [] given long = refl
long_heads (s ∷ spans) [] long = absurd (omega (arith, long))
long_heads (s ∷ spans) (hs ∷ given) long =
    let d = s.last - s.first in
    let inner = map single (range_with_len s.first d) in
    let ih = long_heads spans given (omega (arith, long)) in
    let one = length-append inner (heads_in spans given) in
    let two = length-map (range_with_len s.first d) single in
    let three = length-range_with_len s.first d in
    let four = length-append (block s) (cuts_in spans) in
    let five = length-range_with_len s.first (suc d) in omega (arith, ih, one, two, three, four, five)

pub rise_joined : (spans more : List CutSpan) (low cut : ℕ) → RiseFrom low spans → EndBelow cut spans → ends_before spans cut ≡ false → low ≤ cut → RiseFrom cut more → RiseFrom low (spans ++ more)
rise_joined [] more low cut r b e l m = rise_lower more low cut l m
rise_joined (s ∷ []) more low cut r b e l m =
    let other = eqb-false (suc s.last) cut e in
    let last = b.0 in
    (r.0, r.1, rise_lower more (suc (suc s.last)) cut (omega (arith, last, other)) m)
rise_joined (s ∷ t ∷ spans) more low cut r b e l m =
    (r.0, r.1, rise_joined (t ∷ spans) more (suc (suc s.last)) cut r.2 b.1 e (let first = r.2.0 in let order = r.2.1 in let last = b.1.0 in omega (arith, first, order, last)) m)

pub ends_joined : (spans more : List CutSpan) (n : ℕ) → EndBelow n spans → EndBelow n more → EndBelow n (spans ++ more)
ends_joined [] more n b c = c
ends_joined (s ∷ spans) more n b c = (b.0, ends_joined spans more n b.1 c)

-- NUMBERS below two bounds
below_both : (k limit end less : ℕ) → less ≤ limit → less ≤ end → (less ≡ limit) ⊎ (less ≡ end) → (nat_lt k limit && nat_lt k end) ≡ nat_lt k less
below_both k limit end less l m c = at (nat_lt k less) refl
  where
    both : (a b : Bool) → (a ≡ false) ⊎ (b ≡ false) → (a && b) ≡ false
    both true b (inl e) = let no : ⊥ = cc in absurd no
    both true b (inr e) = e
    both false b c = refl

    at : (b : Bool) → nat_lt k less ≡ b → (nat_lt k limit && nat_lt k end) ≡ nat_lt k less
    at true e = let low = ltb-true k less e in (λ i. lt-ltb k limit (omega (arith, low, l)) i && lt-ltb k end (omega (arith, low, m)) i) ∙ sym e
    at false e =
        let high = ltb-false k less e in
        both (nat_lt k limit) (nat_lt k end) (⊎_elim (λ q. inl (le-ltb k limit (omega (arith, q, high)))) (λ q. inr (le-ltb k end (omega (arith, q, high)))) c) ∙ sym e

-- NUMBERS that rise
rise_filtered : (p : ℕ → Bool) (xs : List ℕ) → Rise xs → Rise (filter p xs)
rise_filtered p [] r = tt
rise_filtered p (x ∷ xs) r = at (p x) (rise_filtered p xs r.1)
  where
    at : (b : Bool) → Rise (filter p xs) → Rise (cond b (x ∷ filter p xs) (filter p xs))
    at true rest = (all_filter (λ y. x < y) p xs r.0, rest)
    at false rest = rest

rise_both : (xs ys : List ℕ) → Rise xs → Rise ys → ((x y : ℕ) → Among x xs → Among y ys → x < y) → Rise (xs ++ ys)
rise_both [] ys r t f = t
rise_both (x ∷ xs) ys r t f = (
  all_from (λ y. x < y) (xs ++ ys) (λ y m. ⊎_elim (λ a. all_at (λ z. x < z) xs y r.0 a) (λ a. f x y (inl refl) a) (among_joined xs ys y m)),
  rise_both xs ys r.1 t (λ z y a b. f z y (inr a) b),
)

-- all that is left of older spans and others below a number
pub record Fewer (older : SpanList) (limit less end : ℕ) (spans new : List CutSpan) (given more : List (List ℕ)) : Type 0 where
  pub cuts : all_cuts older less new ≡ filter (λ k. nat_lt k end) (all_cuts older limit spans)
  pub heads : all_heads older less new more ≡ take (length (all_cuts older less new)) (all_heads older limit spans given)
  pub rising : RiseFrom less new

module _ (older : SpanList) (rising : RiseFrom 0 older.spans) (alike : length older.heads ≡ length older.spans) where
  seen_few : (limit : ℕ) → length (seen_cuts older limit) ≤ length (cuts_in older.spans)
  seen_few limit = length-filter-le (λ k. nat_lt k limit) (cuts_in older.spans)

  many_heads : (limit : ℕ) → length (seen_cuts older limit) ≤ length (heads_in older.spans older.heads)
  many_heads limit = let long = long_heads older.spans older.heads alike in let few = seen_few limit in omega (arith, long, few)

  -- what is seen is the front of the older cuts
  pub seen_front : (limit : ℕ) → take (length (seen_cuts older limit)) (cuts_in older.spans) ≡ seen_cuts older limit
  seen_front limit = first_cuts older.spans limit rising

  pub seen_low : (limit k : ℕ) → Among k (seen_cuts older limit) → k < limit
  seen_low limit k m = ltb-true k limit ((among_filter (λ j. nat_lt j limit) (cuts_in older.spans) k m).1)

  -- THOSE BELOW a number
  pub front_cuts : (limit end : ℕ) (spans : List CutSpan) → RiseFrom limit spans → take (length (filter (λ k. nat_lt k end) (all_cuts older limit spans))) (all_cuts older limit spans) ≡ filter (λ k. nat_lt k end) (all_cuts older limit spans)
  front_cuts limit end spans rise =
      front_below (all_cuts older limit spans) end
      (rise_both (seen_cuts older limit) (cuts_in spans) (rise_filtered (λ k. nat_lt k limit) (cuts_in older.spans) (cuts_rise older.spans 0 rising)) (cuts_rise spans limit rise)
      (λ x y a b. let low = seen_low limit x a in let high = cuts_from spans limit y rise b in omega (arith, low, high)))

  pub fewer : (limit less end : ℕ) (spans new : List CutSpan) (given more : List (List ℕ)) → less ≤ limit → less ≤ end → (less ≡ limit) ⊎ (less ≡ end) → RiseFrom limit spans → RiseFrom 0 new
      → cuts_in new ≡ filter (λ k. nat_lt k end) (cuts_in spans) → heads_in new more ≡ take (length (cuts_in new)) (heads_in spans given)
      → Fewer older limit less end spans new given more
  fewer limit less end spans new given more l m c rise new_rise left left_heads = record {
    cuts = whole;
    heads = ap (λ hs. seen_heads older less ++ hs) left_heads
        ∙ sym (ap (λ n. take n (all_heads older limit spans given)) (length-append seen (cuts_in new))
        ∙ take_both (length seen) (length (seen_cuts older limit)) (length (cuts_in new)) (heads_in older.spans older.heads) (heads_in spans given) few (many_heads limit) either);
    rising = rise_from new less new_rise (λ k a.
        let old = (among_filter (λ j. nat_lt j end) (cuts_in spans) k (subst (Among k) left a)).0 in
        let high = cuts_from spans limit k rise old in omega (arith, high, l));
  }
    where
      seen : List ℕ
      seen = seen_cuts older less

      narrowed : seen ≡ filter (λ k. nat_lt k end) (seen_cuts older limit)
      narrowed =
          sym (filter_twice (λ k. nat_lt k limit) (λ k. nat_lt k end) (cuts_in older.spans)
          ∙ filter_alike (λ k. nat_lt k limit && nat_lt k end) (λ k. nat_lt k less) (cuts_in older.spans) (λ k a. below_both k limit end less l m c))

      whole : all_cuts older less new ≡ filter (λ k. nat_lt k end) (all_cuts older limit spans)
      whole = (λ i. narrowed i ++ left i) ∙ sym (filter-append (λ k. nat_lt k end) (seen_cuts older limit) (cuts_in spans))

      few : length seen ≤ length (seen_cuts older limit)
      few = let same = ap length narrowed in let less = length-filter-le (λ k. nat_lt k end) (seen_cuts older limit) in omega (arith, same, less)

      either : (length seen ≡ length (seen_cuts older limit)) ⊎ (length (cuts_in new) ≡ 0)
      either = ⊎_elim (λ q. inl (ap (λ n. length (seen_cuts older n)) q))
          (λ q. inr (ap length (left ∙ filter_none (λ k. nat_lt k end) (cuts_in spans)
          (all_from (λ k. nat_lt k end ≡ false) (cuts_in spans) (λ k a. let high = cuts_from spans limit k rise a in le-ltb k end (omega (arith, high, q, l)))))))
          c

  -- WHERE a number stands
  pub named_older : (limit k : ℕ) (spans : List CutSpan) → RiseFrom limit spans → k < limit → is_named nat_eq (cuts_in older.spans) k ≡ is_named nat_eq (all_cuts older limit spans) k
  named_older limit k spans rise low =
      same_truth (is_named nat_eq (cuts_in older.spans) k) (is_named nat_eq (all_cuts older limit spans) k)
      (λ e. among_named (all_cuts older limit spans) k
      (joined_left (seen_cuts older limit) (cuts_in spans) k (filter_among (λ j. nat_lt j limit) (cuts_in older.spans) k (number_among (cuts_in older.spans) k e) (lt-ltb k limit low))))
      (λ e. among_named (cuts_in older.spans) k
      (⊎_elim (λ a. (among_filter (λ j. nat_lt j limit) (cuts_in older.spans) k a).0) (λ a. let high = cuts_from spans limit k rise a in absurd (omega (arith, high, low)))
      (among_joined (seen_cuts older limit) (cuts_in spans) k (number_among (all_cuts older limit spans) k e))))

  pub named_own : (limit k : ℕ) (spans : List CutSpan) → limit ≤ k → is_named nat_eq (cuts_in spans) k ≡ is_named nat_eq (all_cuts older limit spans) k
  named_own limit k spans high =
      same_truth (is_named nat_eq (cuts_in spans) k) (is_named nat_eq (all_cuts older limit spans) k)
      (λ e. among_named (all_cuts older limit spans) k (joined_right (seen_cuts older limit) (cuts_in spans) k (number_among (cuts_in spans) k e)))
      (λ e. among_named (cuts_in spans) k
      (⊎_elim (λ a. let low = seen_low limit k a in absurd (omega (arith, low, high))) (λ a. a)
      (among_joined (seen_cuts older limit) (cuts_in spans) k (number_among (all_cuts older limit spans) k e))))

  -- THE HEADS below a cut
  module _ (limit cut : ℕ) (spans : List CutSpan) (given : List (List ℕ)) (positions : List ℕ) (same : Bool) where
    parts : (place : ℕ) → slice_get (all_cuts older limit spans) place ≡ Some cut
        → ((place < length (seen_cuts older limit)) × (slice_get (cuts_in older.spans) place ≡ Some cut)) ⊎ ((q : ℕ) × (place ≡ length (seen_cuts older limit) + q) × (slice_get (cuts_in spans) q ≡ Some cut))
    parts place e =
        in_parts (length (seen_cuts older limit)) (cuts_in older.spans) (cuts_in spans) place cut (seen_few limit)
        (subst (λ (ks : List ℕ). slice_get (ks ++ cuts_in spans) place ≡ Some cut) (sym (seen_front limit)) e)

    pub tells_older : RiseFrom limit spans → cut < limit → TellsHeads (cuts_in older.spans) (heads_in older.spans older.heads) cut positions same
        → TellsHeads (all_cuts older limit spans) (all_heads older limit spans given) cut positions same
    tells_older rise low told place e =
        ⊎_elim
        (λ w. told place w.1
        ∙ ap (pointwise nat_eq positions) (sym (read_front (length (seen_cuts older limit)) (heads_in older.spans older.heads) (heads_in spans given) place [] w.0 (many_heads limit))))
        (λ w. let high = cuts_from spans limit cut rise (get_among (cuts_in spans) w.0 cut w.2) in absurd (omega (arith, high, low)))
        (parts place e)

    pub tells_own : limit ≤ cut → TellsHeads (cuts_in spans) (heads_in spans given) cut positions same → TellsHeads (all_cuts older limit spans) (all_heads older limit spans given) cut positions same
    tells_own high told place e =
        ⊎_elim
        (λ w.
        let there : slice_get (seen_cuts older limit) place ≡ Some cut =
        ap (λ (ks : List ℕ). slice_get ks place) (sym (seen_front limit)) ∙ get-take_within (length (seen_cuts older limit)) (cuts_in older.spans) place w.0 ∙ w.1 in
        let low = seen_low limit cut (get_among (seen_cuts older limit) place cut there) in absurd (omega (arith, low, high)))
        (λ w. told w.0 w.2
        ∙ ap (pointwise nat_eq positions) (sym (read_rest (length (seen_cuts older limit)) (heads_in older.spans older.heads) (heads_in spans given) place w.0 [] w.1 (many_heads limit))))
        (parts place e)

  -- THE GREATEST at most a number
  pub greatest_own : (limit m r : ℕ) (spans : List CutSpan) → RiseFrom limit spans → IsGreatestTo (cuts_in spans) m r → (0 < r) ⊎ (limit ≡ 0) → IsGreatestTo (all_cuts older limit spans) m r
  greatest_own limit m r spans rise g c = record {
    within = g.within;
    there = ⊎_elim (λ z. inl z) (λ a. inr (joined_right (seen_cuts older limit) (cuts_in spans) r a)) g.there;
    greatest = λ k a l.
        ⊎_elim
        (λ b. let low = seen_low limit k b in
        ⊎_elim (λ p. ⊎_elim (λ z. absurd (omega (arith, z, p))) (λ t. let high = cuts_from spans limit r rise t in omega (arith, low, high)) g.there) (λ z. absurd (omega (arith, z, low))) c)
        (λ b. g.greatest k b l)
        (among_joined (seen_cuts older limit) (cuts_in spans) k a);
  }

  pub greatest_older : (limit m n r : ℕ) (spans : List CutSpan) → n ≤ m → n < limit → (n ≡ m) ⊎ (suc n ≡ limit) → IsGreatestTo (cuts_in spans) m 0 → IsGreatestTo (cuts_in older.spans) n r → IsGreatestTo (all_cuts older limit spans) m r
  greatest_older limit m n r spans l h c none g = record {
    within = let w = g.within in omega (arith, w, l);
    there = ⊎_elim (λ z. inl z) (λ a. inr (joined_left (seen_cuts older limit) (cuts_in spans) r (filter_among (λ j. nat_lt j limit) (cuts_in older.spans) r a (lt-ltb r limit (let w = g.within in omega (arith, w, h)))))) g.there;
    greatest = λ k a j.
        ⊎_elim
        (λ b. let low = seen_low limit k b in g.greatest k ((among_filter (λ i. nat_lt i limit) (cuts_in older.spans) k b).0) (⊎_elim (λ q. omega (arith, q, j)) (λ q. omega (arith, q, low)) c))
        (λ b. let z = none.greatest k b j in omega (arith, z))
        (among_joined (seen_cuts older limit) (cuts_in spans) k a);
  }

alike_fronts : (n : ℕ) (xs : List (List ℕ)) (ys : List CutSpan) → length xs ≡ length ys → length (take n xs) ≡ length (take n ys)
alike_fronts zero xs ys e = refl
alike_fronts (suc n) [] [] e = refl
alike_fronts (suc n) [] (y ∷ ys) e = absurd (omega (arith, e))
alike_fronts (suc n) (x ∷ xs) [] e = absurd (omega (arith, e))
alike_fronts (suc n) (x ∷ xs) (y ∷ ys) e = ap suc (alike_fronts n xs ys (omega (arith, e)))

pub alike_ends : {X : Type 0} (n : ℕ) (xs : List X) (ys : List CutSpan) → length xs ≡ length ys → length (drop n xs) ≡ length (drop n ys)
alike_ends zero xs ys e = e
alike_ends (suc n) [] [] e = refl
alike_ends (suc n) [] (y ∷ ys) e = absurd (omega (arith, e))
alike_ends (suc n) (x ∷ xs) [] e = absurd (omega (arith, e))
alike_ends (suc n) (x ∷ xs) (y ∷ ys) e = alike_ends n xs ys (omega (arith, e))

-- the first cut of spans, or else the number behind them
pub first_part : (spans : List CutSpan) (n : ℕ) (s : CutSpan) → slice_get spans 0 ≡ Some s → (rest : List ℕ) × (cuts_in spans ++ n ∷ [] ≡ s.first ∷ rest)
first_part [] n s e = let no : ⊥ = cc in absurd no
first_part (x ∷ spans) n s e =
    let rest = (range_with_len (x.first + 1) (x.last - x.first) ++ cuts_in spans) ++ n ∷ [] in (rest, ap (λ (y : CutSpan). y.first ∷ rest) (same_Some x s e))

-- THE SPANS BEFORE THE LAST ONE, moved to the older ones
pub record Moved (older now : SpanList) (limit : ℕ) (spans : List CutSpan) (given : List (List ℕ)) (others : ℕ) (s : CutSpan) : Type 0 where
  pub cuts : all_cuts now s.first (drop others spans) ≡ all_cuts older limit spans
  pub heads : all_heads now s.first (drop others spans) (drop others given) ≡ all_heads older limit spans given

pub moved : (older now : SpanList) (limit : ℕ) (spans : List CutSpan) (given : List (List ℕ)) (others : ℕ) (s : CutSpan) → RiseFrom limit spans → length given ≡ length spans → slice_get spans others ≡ Some s
    → cuts_in now.spans ≡ seen_cuts older limit ++ cuts_in (take others spans) → heads_in now.spans now.heads ≡ seen_heads older limit ++ heads_in (take others spans) (take others given) → length now.heads ≡ length now.spans
    → Moved older now limit spans given others s
moved older now limit spans given others s rise long there cuts_are heads_are alike = record {
  cuts = ap (λ ks. ks ++ cuts_in back) (seen ∙ cuts_are) ∙ append_assoc (seen_cuts older limit) (cuts_in front) (cuts_in back)
      ∙ ap (λ ks. seen_cuts older limit ++ ks) (sym (cuts_joined front back) ∙ ap cuts_in (take-append-drop others spans));
  heads = ap (λ hs. hs ++ heads_in back back_heads) (all_seen ∙ heads_are) ∙ append_assoc (seen_heads older limit) (heads_in front front_heads) (heads_in back back_heads)
      ∙ ap (λ hs. seen_heads older limit ++ hs)
      (sym (heads_joined front back front_heads back_heads same) ∙ (λ i. heads_in (take-append-drop others spans i) (take-append-drop others given i)));
}
  where
    front : List CutSpan
    front = take others spans

    back : List CutSpan
    back = drop others spans

    front_heads : List (List ℕ)
    front_heads = take others given

    back_heads : List (List ℕ)
    back_heads = drop others given

    low : (k : ℕ) → Among k (cuts_in now.spans) → k < s.first
    low k m =
        ⊎_elim
        (λ a. let below = ltb-true k limit ((among_filter (λ j. nat_lt j limit) (cuts_in older.spans) k a).1) in let high = begins_high spans limit others s rise there in omega (arith, below, high))
        (λ a. front_low spans limit others k s rise there a)
        (among_joined (seen_cuts older limit) (cuts_in front) k (subst (Among k) cuts_are m))

    seen : seen_cuts now s.first ≡ cuts_in now.spans
    seen = filter_all (λ k. nat_lt k s.first) (cuts_in now.spans) (all_from (λ k. nat_lt k s.first ≡ true) (cuts_in now.spans) (λ k m. lt-ltb k s.first (low k m)))

    all_seen : seen_heads now s.first ≡ heads_in now.spans now.heads
    all_seen = ap (λ n. take n (heads_in now.spans now.heads)) (ap length seen ∙ sym (long_heads now.spans now.heads alike)) ∙ take-length (heads_in now.spans now.heads)

    same : length front_heads ≡ length front
    same = alike_fronts others given spans long

-- OLDER SPANS with others behind those below a limit
pub first_high : (more : List CutSpan) (limit : ℕ) (d : CutSpan) → 0 < length more → RiseFrom limit more → (limit ≤ (slice_index_or more 0 d).first) × RiseFrom (slice_index_or more 0 d).first more
first_high [] limit d some r = absurd (omega (arith, some))
first_high (s ∷ more) limit d some r = (r.0, (omega arith, r.1, r.2))

-- the spans that are left below a limit, with their heads
pub record Left (spans new : List CutSpan) (given fewer_heads : List (List ℕ)) (limit : ℕ) : Type 0 where
  pub cuts : cuts_in new ≡ filter (λ k. nat_lt k limit) (cuts_in spans)
  pub heads : heads_in new fewer_heads ≡ take (length (cuts_in new)) (heads_in spans given)
  pub rising : RiseFrom 0 new
  pub alike : length fewer_heads ≡ length new
  pub long : length given ≡ length spans

module _ {spans new : List CutSpan} {given fewer_heads : List (List ℕ)} {limit : ℕ} (left : Left spans new given fewer_heads limit) where
  abbrev older : SpanList
  older = record { spans = spans; heads = given }

  new_low : (k : ℕ) → Among k (cuts_in new) → k < limit
  new_low k m = ltb-true k limit ((among_filter (λ j. nat_lt j limit) (cuts_in spans) k (subst (Among k) left.cuts m)).1)

  all_new : filter (λ k. nat_lt k limit) (cuts_in new) ≡ cuts_in new
  all_new = filter_all (λ k. nat_lt k limit) (cuts_in new) (all_from (λ k. nat_lt k limit ≡ true) (cuts_in new) (λ k m. lt-ltb k limit (new_low k m)))

  pub ends_under_first : (first : ℕ) → limit ≤ first → EndBelow first new
  ends_under_first first l = ends_under new 0 first left.rising (all_from (λ k. k < first) (cuts_in new) (λ k m. let low = new_low k m in omega (arith, low, l)))

  new_heads : heads_in new fewer_heads ≡ seen_heads older limit
  new_heads = left.heads ∙ ap (λ ks. take (length ks) (heads_in spans given)) left.cuts

  pub left_cuts : seen_cuts (record { spans = new; heads = fewer_heads }) limit ≡ seen_cuts older limit
  left_cuts = all_new ∙ left.cuts

  pub left_heads : seen_heads (record { spans = new; heads = fewer_heads }) limit ≡ seen_heads older limit
  left_heads =
      ap (λ n. take n (heads_in new fewer_heads)) (ap length all_new ∙ sym (long_heads new fewer_heads left.alike)) ∙ take-length (heads_in new fewer_heads) ∙ new_heads

  module _ (more : List CutSpan) (others : List (List ℕ)) (high : RiseFrom limit more) where
    abbrev longer : SpanList
    longer = record { spans = new ++ more; heads = fewer_heads ++ others }

    pub longer_cuts : cuts_in (new ++ more) ≡ seen_cuts older limit ++ cuts_in more
    longer_cuts = cuts_joined new more ∙ ap (λ ks. ks ++ cuts_in more) left.cuts

    pub longer_heads : heads_in (new ++ more) (fewer_heads ++ others) ≡ seen_heads older limit ++ heads_in more others
    longer_heads = heads_joined new more fewer_heads others left.alike ∙ ap (λ hs. hs ++ heads_in more others) new_heads

    pub longer_seen : seen_cuts longer limit ≡ seen_cuts older limit
    longer_seen =
        ap (filter (λ k. nat_lt k limit)) (cuts_joined new more) ∙ filter-append (λ k. nat_lt k limit) (cuts_in new) (cuts_in more)
        ∙ (λ i. (all_new ∙ left.cuts) i ++ none i) ∙ append-nil (seen_cuts older limit)
      where
        none : filter (λ k. nat_lt k limit) (cuts_in more) ≡ []
        none = filter_none (λ k. nat_lt k limit) (cuts_in more) (all_from (λ k. nat_lt k limit ≡ false) (cuts_in more) (λ k a. le-ltb k limit (cuts_from more limit k high a)))

    pub longer_seen_heads : seen_heads longer limit ≡ seen_heads older limit
    longer_seen_heads =
        let n = length (seen_cuts older limit) in
        let few = length-filter-le (λ k. nat_lt k limit) (cuts_in spans) in
        let many = long_heads spans given left.long in
        let end : n ≡ n + 0 = omega arith in
        ap (λ m. take m (heads_in (new ++ more) (fewer_heads ++ others))) (ap length longer_seen ∙ end) ∙ ap (take (n + 0)) longer_heads
        ∙ take_both n n 0 (heads_in spans given) (heads_in more others) (omega arith) (omega (arith, few, many)) (inl refl) ∙ append-nil (seen_heads older limit)

-- HOW MANY RUNS there are below a limit
module _ (spans : List CutSpan) (kept limit next : ℕ) (rise : RiseFrom 0 spans) (bound : kept ≤ length spans) (order : limit ≤ next)
    (low : (place : ℕ) (s : CutSpan) → place < kept → slice_get spans place ≡ Some s → s.first < limit)
    (high : (place : ℕ) (s : CutSpan) → kept ≤ place → slice_get spans place ≡ Some s → limit ≤ s.first) where
  abbrev below : List CutSpan
  below = shortened (take kept spans) limit

  kept_below : Kept spans below (map (λ (s : CutSpan). []) spans) (take kept (map (λ (s : CutSpan). []) spans)) 0 limit
  kept_below = kept_spans spans (map (λ (s : CutSpan). []) spans) 0 kept limit rise (length-map spans (λ (s : CutSpan). [])) bound low high

  ends : EndBelow limit below
  ends = ends_under below 0 limit kept_below.rising (all_from (λ k. k < limit) (cuts_in below) (λ k m. ltb-true k limit ((among_filter (λ j. nat_lt j limit) (cuts_in spans) k (subst (Among k) kept_below.cuts m)).1)))

  count : length below ≡ kept
  count = long_shortened (take kept spans) limit ∙ long_front kept spans bound

  pub runs_are : (b : Bool) (rest : List ℕ) → ends_before below next ≡ b → cond b (kept - 1) kept + span_count (next ∷ rest) ≡ span_count (filter (λ k. nat_lt k limit) (cuts_in spans) ++ next ∷ rest)
  runs_are b rest e =
      sym (ap (λ ks. span_count (ks ++ next ∷ rest)) (sym kept_below.cuts) ∙ counted_more below 0 next rest kept_below.rising (end_higher below limit next order ends)
      ∙ (λ i. cond (e i) (count i - 1) (count i) + span_count (next ∷ rest)))

  pub few_runs : kept + kept ≤ limit + 1
  few_runs = let few = few_spans below 0 limit kept_below.rising ends (omega arith) in omega (arith, few, count)

  pub last_below : (s : CutSpan) (last : ℕ) → 0 < kept → slice_get spans (kept - 1) ≡ Some s → last ≤ s.last → last < limit → (last ≡ s.last) ⊎ (suc last ≡ limit) → ends_before below next ≡ nat_eq (suc last) next
  last_below s last some there l h c =
      ends_shortened (take kept spans) limit next (kept - 1) s (let long = long_front kept spans bound in omega (arith, long, some))
      (get-take_within kept spans (kept - 1) (omega (arith, some)) ∙ there) (omega (arith, h)) last l h c

  pub none_below : kept ≡ 0 → ends_before below next ≡ false
  none_below z = ap (λ n. ends_before (shortened (take n spans) limit) next) z

-- the last element, put first
module _ {X : Type 0} where
  one_left : (n : ℕ) (xs ys : List X) → length xs ≡ suc n → take 1 (drop n xs ++ ys) ≡ drop n xs
  one_left zero [] ys e = absurd (omega (arith, e))
  one_left zero (x ∷ []) ys e = refl
  one_left zero (x ∷ z ∷ xs) ys e = absurd (omega (arith, e))
  one_left (suc n) [] ys e = absurd (omega (arith, e))
  one_left (suc n) (x ∷ xs) ys e = one_left n xs ys (omega (arith, e))

  pub last_first : (n : ℕ) (xs : List X) → length xs ≡ suc n → take 1 (drop n xs ++ take n xs) ≡ drop n xs
  last_first n xs e = one_left n xs (take n xs) e
