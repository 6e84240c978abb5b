-- SO MANY EVENTS in a chain on the last one are as many single events.
use Rattle.std.proofs.Common.{◌≡◌, ℕ, zero, suc, ◌+◌, ◌-◌, ◌<◌, ◌≤◌, Bool, true, false, cond, not, ◌||◌, ◌&&◌, ⊎_elim, nat_eq, List, [], ◌∷◌, ◌++◌, length, filter, take, slice_get, Some, refl, sym, ap, ◌∙◌, subst, arith, append-nil, append_assoc, length-append}
use Rattle.std.specs.List.{AllByRecursion, range_with_len}
use Rattle.std.proofs.Math.Seq.{take-length}
use Rattle.std.proofs.lemmas.Bool.{eqb-true, eq-eqb, ne_eqb}
use Rattle.std.proofs.lemmas.List.{length-map, length_push, get_or_append_left, get_or_push}
use Rattle.std.proofs.lemmas.List.Elements.{filter-append, recursion_from_All}
use Rattle.std.proofs.lemmas.List.FromFn.{length-range_with_len}
use Rattle.std.proofs.lemmas.Option.{same_Some}
use Rattle.ew_model.specs.Graph.{is_named}
use Rattle.ew_model.specs.Positions.{AreParents, IsHistoryOfParents, frontier_of, is_reduced_at}
use Rattle.ew_model.specs.CutChange.{stays_behind}
use Rattle.ew_model.specs.PositionCuts.{is_frontier}
use Rattle.ew_model.proofs.PositionCuts.{last_cases, last_at}
use Rattle.ew_model.proofs.PositionEvents.{history_push}
use Rattle.ew_model.proofs.PositionFrontier.{frontier_push, frontier_below, one_parent}
use Rattle.ew_model.proofs.SortingLaws.{all_from, all_filter}
use Rattle.critical.specs.declared.spans.CutSpan.{CutSpan}
use Rattle.critical.specs.KeptCuts.{KeptCuts, inner_cuts, kept_for, chain_parents, with_chain, with_count, with_whole, with_first}
use Rattle.critical.specs.Spans.{cuts_in, heads_in, RiseFrom, EndBelow, ends_before, with_last}
use Rattle.critical.proofs.CutsKept.{filter-all, whole_kept, first_kept}
use Rattle.critical.proofs.InnerCuts.{inner_of}
use Rattle.critical.proofs.Ranges.{single}
use Rattle.critical.proofs.Searching.{stays_low}
use Rattle.critical.proofs.SpanChanges.{lengthened}
use Rattle.ew_model.proofs.Ranges.{read_range, skip_range}

-- one position is reduced
itself : (a c : Bool) → a ≡ true → ((a || c) && true) && true ≡ true
itself true c e = refl
itself false c e = let no : ⊥ = cc in absurd no

one_reduced : (history : List (List ℕ)) (p : ℕ) → is_reduced_at history (p ∷ []) ≡ true
unfolding is_reduced_at
one_reduced history p = itself (nat_eq p p) _ (eq-eqb p p refl)

-- THE HEADS behind an event on the last one
module _ (history : List (List ℕ)) (last : ℕ) (good : IsHistoryOfParents history) (end : suc last ≡ length history) where
  pub one_more : IsHistoryOfParents (history ++ (last ∷ []) ∷ [])
  one_more = history_push history (last ∷ []) good (one_parent (length history) last (omega (arith, end)))

  pub still_end : suc (last + 1) ≡ length (history ++ (last ∷ []) ∷ [])
  still_end = let long = length_push history (last ∷ []) in omega (arith, long, end)

  pub pushed : frontier_of (history ++ (last ∷ []) ∷ []) ≡ filter (λ q. not (is_named nat_eq (last ∷ []) q)) (frontier_of history) ++ (last + 1) ∷ []
  pushed =
      let next : length history ≡ last + 1 = omega (arith, end) in
      frontier_push history (last ∷ []) good (one_parent (length history) last (omega (arith, end)))
      ∙ ap (λ n. filter (λ q. not (is_named nat_eq (last ∷ []) q)) (frontier_of history) ++ n ∷ []) next

  -- an only head is followed by one
  pub only_head : frontier_of history ≡ last ∷ [] → frontier_of (history ++ (last ∷ []) ∷ []) ≡ (last + 1) ∷ []
  only_head only =
      pushed ∙ ap (λ heads. filter (λ q. not (is_named nat_eq (last ∷ []) q)) heads ++ (last + 1) ∷ []) only
      ∙ ap (λ b. cond (not (b || false)) (last ∷ []) [] ++ (last + 1) ∷ []) (eq-eqb last last refl)

  -- the heads before the last event stay
  pub older_stay : (older : List ℕ) → AllByRecursion (λ q. q < last) older → filter (λ q. not (is_named nat_eq (last ∷ []) q)) older ≡ older
  older_stay older low = filter-all (λ q. not (is_named nat_eq (last ∷ []) q)) older (at older low)
    where
      at : (xs : List ℕ) → AllByRecursion (λ q. q < last) xs → AllByRecursion (λ q. not (is_named nat_eq (last ∷ []) q) ≡ true) xs
      at [] h = tt
      at (x ∷ xs) h = (
        (let low : x < last = h.0 in ap (λ b. not (b || false)) (ne_eqb x last (λ e. omega (arith, e, low)))),
        at xs h.1,
      )

  -- where there are others, there are others still
  pub other_heads : (frontier_of history ≡ last ∷ [] → ⊥) → frontier_of (history ++ (last ∷ []) ∷ []) ≡ (last + 1) ∷ [] → ⊥
  other_heads others only = ⊎_elim (λ e. let none = ap length e in omega (arith, end, none)) (λ w. here w.0 w.1 w.2) (last_cases history)
    where
      alone : (older : List ℕ) → frontier_of history ≡ older ++ last ∷ [] → older ++ (last + 1) ∷ [] ≡ (last + 1) ∷ [] → ⊥
      alone [] heads only = others heads
      alone (x ∷ older) heads only = let long = ap length only in let more = length_push older (last + 1) in omega (arith, long, more)

      here : (before : List (List ℕ)) (parents : List ℕ) → history ≡ before ++ parents ∷ [] → ⊥
      here before parents e =
          let long = ap length e in
          let n : length before ≡ last = omega (arith, long, end, length_push before parents) in
          let all : IsHistoryOfParents (before ++ parents ∷ []) = subst IsHistoryOfParents e good in
          let first : IsHistoryOfParents before = λ j l. subst (AreParents j) (get_or_append_left before (parents ∷ []) [] j l) (all j (omega (arith, l, length_push before parents))) in
          let lower : AreParents (length before) parents = subst (AreParents (length before)) (get_or_push before parents [] (length before) refl) (all (length before) (omega (arith, length_push before parents))) in
          let older = filter (λ q. not (is_named nat_eq parents q)) (frontier_of before) in
          let heads : frontier_of history ≡ older ++ last ∷ [] = ap frontier_of e ∙ frontier_push before parents first lower ∙ ap (λ m. older ++ m ∷ []) n in
          let low : AllByRecursion (λ q. q < last) older =
          subst (λ m. AllByRecursion (λ q. q < m) older) n
          (all_filter (λ q. q < length before) (λ q. not (is_named nat_eq parents q)) (frontier_of before) (recursion_from_All (λ q. q < length before) (frontier_of before) (frontier_below before))) in
          let now : frontier_of (history ++ (last ∷ []) ∷ []) ≡ older ++ (last + 1) ∷ [] =
          pushed ∙ ap (λ hs. filter (λ q. not (is_named nat_eq (last ∷ []) q)) hs ++ (last + 1) ∷ []) heads
          ∙ ap (λ hs. hs ++ (last + 1) ∷ [])
          (filter-append (λ q. not (is_named nat_eq (last ∷ []) q)) older (last ∷ [])
          ∙ (λ i. older_stay older low i ++ cond (not (eq-eqb last last refl i || false)) (last ∷ []) []) ∙ append-nil older) in
          alone older heads (sym now ∙ only)

-- WHAT IS KEPT of the cuts
chain_next : (history : List (List ℕ)) (last n : ℕ) → (history ++ (last ∷ []) ∷ []) ++ chain_parents (last + 1) n ≡ history ++ chain_parents last (suc n)
chain_next history last n = append_assoc history ((last ∷ []) ∷ []) (chain_parents (last + 1) n)

pub chain_kept : (n : ℕ) (history : List (List ℕ)) (last : ℕ) → IsHistoryOfParents history → suc last ≡ length history → frontier_of history ≡ last ∷ [] → kept_for (history ++ chain_parents last n) ≡ with_chain (kept_for history) n
chain_kept zero history last good end only =
    let kept = kept_for history in
    let more : length history ≡ length history + 0 = omega arith in
    ap kept_for (append-nil history) ∙ (λ i. record { cuts = sym (append-nil kept.cuts) i; heads = sym (append-nil kept.heads) i; count = more i })
chain_kept (suc n) history last good end only =
    let kept = kept_for history in
    let then = history ++ (last ∷ []) ∷ [] in
    let one : kept_for then ≡ with_whole kept (last ∷ []) = whole_kept history (last ∷ []) good (one_parent (length history) last (omega (arith, end))) (one_reduced history last) end (sym only) in
    let rest = chain_kept n then (last + 1) (one_more history last good end) (still_end history last good end) (only_head history last good end only) in
    let under : length history + 1 - 1 ≡ length history - 1 + 1 = omega (arith, end) in
    let first : last ≡ length history - 1 = omega (arith, end) in
    let more : length history + 1 + n ≡ length history + suc n = omega arith in
    ap kept_for (sym (chain_next history last n)) ∙ rest ∙ ap (λ (k : KeptCuts). with_chain k n) one
    ∙ (λ i. record {
      cuts = append_assoc kept.cuts (kept.count ∷ []) (range_with_len (kept.count + 1) n) i;
      heads = ((λ j. (kept.heads ++ single (first j) ∷ []) ++ chain_parents (under j) n) ∙ append_assoc kept.heads (single (kept.count - 1) ∷ []) (chain_parents (kept.count - 1 + 1) n)) i;
      count = more i;
    })

pub chain_apart : (n : ℕ) (history : List (List ℕ)) (last : ℕ) → IsHistoryOfParents history → suc last ≡ length history → (frontier_of history ≡ last ∷ [] → ⊥) → kept_for (history ++ chain_parents last n) ≡ with_count (kept_for history) n
chain_apart zero history last good end others =
    let kept = kept_for history in
    let more : length history ≡ length history + 0 = omega arith in
    ap kept_for (append-nil history) ∙ (λ i. record { cuts = kept.cuts; heads = kept.heads; count = more i })
chain_apart (suc n) history last good end others =
    let kept = kept_for history in
    let then = history ++ (last ∷ []) ∷ [] in
    let inner = inner_cuts history in
    let stays = stays_behind (suc last) (is_frontier (take (suc last) history) (last ∷ [])) in
    let stay : filter stays inner ≡ inner = filter-all stays inner (all_from (λ k. stays k ≡ true) inner (λ k m. stays_low (suc last) _ k (let low = (inner_of history k m).1 in omega (arith, low, end)))) in
    let one : kept_for then ≡ with_first kept (length inner) =
    first_kept history (last ∷ []) good (one_parent (length history) last (omega (arith, end))) (one_reduced history last) (length inner) (λ at heads. others (sym heads)) (take-length inner ∙ sym stay) in
    let same : with_first kept (length inner) ≡ with_count kept 1 =
    λ i. record { cuts = take-length inner i; heads = (ap (λ m. take m kept.heads) (sym (length-map inner (λ k. frontier_of (take k history)))) ∙ take-length kept.heads) i; count = kept.count + 1 } in
    let rest = chain_apart n then (last + 1) (one_more history last good end) (still_end history last good end) (other_heads history last good end others) in
    let more : length history + 1 + n ≡ length history + suc n = omega arith in
    ap kept_for (sym (chain_next history last n)) ∙ rest ∙ ap (λ (k : KeptCuts). with_count k n) (one ∙ same)
    ∙ (λ i. record { cuts = kept.cuts; heads = kept.heads; count = more i })

-- THE LAST SPAN with so many cuts more
-- the last of the cuts is that of the last span
pub ends_at : (spans : List CutSpan) (low k p : ℕ) → RiseFrom low spans → length (cuts_in spans) ≡ suc k → slice_get (cuts_in spans) k ≡ Some p → ends_before spans (p + 1) ≡ true
ends_at [] low k p r long there = absurd (omega (arith, long))
ends_at (s ∷ []) low k p r long there =
    let n = suc (s.last - s.first) in
    let size = length-append (range_with_len s.first n) [] in
    let many = length-range_with_len s.first n in
    let last : s.first + k ≡ p = same_Some (s.first + k) p (sym (read_range s.first n [] k (omega (arith, long, size, many))) ∙ there) in
    eq-eqb (suc s.last) (p + 1) (omega (arith, long, size, many, last, r.1))
ends_at (s ∷ t ∷ spans) low k p r long there =
    let n = suc (s.last - s.first) in
    let size = length-append (range_with_len s.first n) (cuts_in (t ∷ spans)) in
    let many = length-range_with_len s.first n in
    let rest = length-append (range_with_len t.first (suc (t.last - t.first))) (cuts_in spans) in
    let some = length-range_with_len t.first (suc (t.last - t.first)) in
    ends_at (t ∷ spans) (suc (suc s.last)) (k - n) p r.2 (omega (arith, long, size, many, rest, some))
    (sym (skip_range s.first n (cuts_in (t ∷ spans)) (k - n) k (omega (arith, long, size, many, rest, some))) ∙ there)

last_same : (spans : List CutSpan) (n : ℕ) → ends_before spans (n + 1) ≡ true → with_last spans n ≡ spans
last_same [] n e = refl
last_same (s ∷ []) n e = let is = eqb-true (suc s.last) (n + 1) e in let last : n ≡ s.last = omega (arith, is) in λ i. record { first = s.first; last = last i } ∷ []
last_same (s ∷ t ∷ spans) n e = ap (λ ss. s ∷ ss) (last_same (t ∷ spans) n e)

last_twice : (spans : List CutSpan) (m n : ℕ) → with_last (with_last spans m) n ≡ with_last spans n
last_twice [] m n = refl
last_twice (s ∷ []) m n = refl
last_twice (s ∷ t ∷ spans) m n = behind spans (last_twice (t ∷ spans) m n)
  where
    behind : (later : List CutSpan) → with_last (with_last (t ∷ later) m) n ≡ with_last (t ∷ later) n → with_last (s ∷ with_last (t ∷ later) m) n ≡ s ∷ with_last (t ∷ later) n
    behind [] e = ap (λ ss. s ∷ ss) e
    behind (u ∷ later) e = ap (λ ss. s ∷ ss) e

then_ends : (spans : List CutSpan) (k n : ℕ) → ends_before spans k ≡ true → ends_before (with_last spans n) (n + 1) ≡ true
then_ends [] k n e = let no : ⊥ = cc in absurd no
then_ends (s ∷ []) k n e = eq-eqb (suc n) (n + 1) (omega arith)
then_ends (s ∷ t ∷ spans) k n e = behind spans (then_ends (t ∷ spans) k n e)
  where
    behind : (later : List CutSpan) → ends_before (with_last (t ∷ later) n) (n + 1) ≡ true → ends_before (s ∷ with_last (t ∷ later) n) (n + 1) ≡ true
    behind [] e = e
    behind (u ∷ later) e = e

-- spans with so many cuts more behind the last one
pub record GrownBy (spans new : List CutSpan) (given : List (List ℕ)) (last n : ℕ) : Type 0 where
  pub cuts : cuts_in new ≡ cuts_in spans ++ range_with_len (last + 1) n
  pub heads : heads_in new given ≡ heads_in spans given ++ chain_parents last n
  pub rising : RiseFrom 0 new
  pub ends : EndBelow (last + 1 + n) new
  pub alike : length given ≡ length new

pub lengthened_by : (n : ℕ) (spans : List CutSpan) (given : List (List ℕ)) (last : ℕ) → RiseFrom 0 spans → EndBelow (last + 1) spans → length given ≡ length spans → ends_before spans (last + 1) ≡ true
    → GrownBy spans (with_last spans (last + n)) given last n
lengthened_by zero spans given last r b long e =
    let here : last ≡ last + 0 = omega arith in
    let same : spans ≡ with_last spans (last + 0) = sym (last_same spans last e) ∙ ap (with_last spans) here in
    let end : last + 1 ≡ last + 1 + 0 = omega arith in
    subst (λ (ss : List CutSpan). GrownBy spans ss given last 0) same
    (record { cuts = sym (append-nil (cuts_in spans)); heads = sym (append-nil (heads_in spans given)); rising = r; ends = subst (λ m. EndBelow m spans) end b; alike = long })
lengthened_by (suc n) spans given last r b long e =
    let one = lengthened spans given 0 (last + 1) r b long e in
    let then = with_last spans (last + 1) in
    let rest = lengthened_by n then given (last + 1) one.rising one.ends one.alike (then_ends spans (last + 1) (last + 1) e) in
    let here : last + 1 + n ≡ last + suc n = omega arith in
    let same : with_last then (last + 1 + n) ≡ with_last spans (last + suc n) = last_twice spans (last + 1) (last + 1 + n) ∙ ap (with_last spans) here in
    let end : last + 1 + 1 + n ≡ last + 1 + suc n = omega arith in
    let under : last + 1 - 1 ≡ last = omega arith in
    subst (λ (ss : List CutSpan). GrownBy spans ss given last (suc n)) same
    (record {
      cuts = rest.cuts ∙ ap (λ ks. ks ++ range_with_len (last + 1 + 1) n) one.cuts ∙ append_assoc (cuts_in spans) ((last + 1) ∷ []) (range_with_len (last + 1 + 1) n);
      heads = rest.heads ∙ ap (λ hs. hs ++ chain_parents (last + 1) n) (one.heads ∙ ap (λ k. heads_in spans given ++ single k ∷ []) under) ∙ append_assoc (heads_in spans given) (single last ∷ []) (chain_parents (last + 1) n);
      rising = rest.rising;
      ends = subst (λ m. EndBelow m (with_last then (last + 1 + n))) end rest.ends;
      alike = rest.alike;
    })

-- spans with so many neighbouring cuts more
pub record Added (spans new : List CutSpan) (given more : List (List ℕ)) (cut n : ℕ) : Type 0 where
  pub cuts : cuts_in new ≡ cuts_in spans ++ range_with_len cut n
  pub heads : heads_in new more ≡ heads_in spans given ++ chain_parents (cut - 1) n
  pub rising : RiseFrom 0 new
  pub ends : EndBelow (cut + n) new
  pub alike : length more ≡ length new

-- in two steps: one cut behind the others, and then so many
pub added : (spans one : List CutSpan) (given more : List (List ℕ)) (cut n : ℕ) → 0 < cut → 0 < n → cuts_in one ≡ cuts_in spans ++ cut ∷ [] → heads_in one more ≡ heads_in spans given ++ ((cut - 1) ∷ []) ∷ []
    → RiseFrom 0 one → EndBelow (cut + 1) one → length more ≡ length one → Added spans (with_last one (cut + (n - 1))) given more cut n
added spans one given more cut zero some any cuts heads r b long = absurd (omega (arith, any))
added spans one given more cut (suc n) some any cuts heads r b long =
    let few : suc n - 1 ≡ n = omega arith in
    let here : cut + n ≡ cut + (suc n - 1) = ap (λ m. cut + m) (sym few) in
    let size = ap length cuts in
    let pushed_size = length_push (cuts_in spans) cut in
    let ends = ends_at one 0 (length (cuts_in spans)) cut r (omega (arith, size, pushed_size)) (ap (λ ks. slice_get ks (length (cuts_in spans))) cuts ∙ last_at (cuts_in spans) cut) in
    let rest = lengthened_by n one more cut r b long ends in
    let end : cut + 1 + n ≡ cut + suc n = omega arith in
    let under : cut ≡ cut - 1 + 1 = omega (arith, some) in
    subst (λ m. Added spans (with_last one m) given more cut (suc n)) here
    (record {
      cuts = rest.cuts ∙ ap (λ ks. ks ++ range_with_len (cut + 1) n) cuts ∙ append_assoc (cuts_in spans) (cut ∷ []) (range_with_len (cut + 1) n);
      heads = rest.heads ∙ (λ i. heads i ++ chain_parents (under i) n) ∙ append_assoc (heads_in spans given) (single (cut - 1) ∷ []) (chain_parents (cut - 1 + 1) n);
      rising = rest.rising;
      ends = subst (λ m. EndBelow m (with_last one (cut + n))) end rest.ends;
      alike = rest.alike;
    })

-- spans that end below a number end below a greater one
pub end_higher : (spans : List CutSpan) (m n : ℕ) → m ≤ n → EndBelow m spans → EndBelow n spans
end_higher [] m n l b = tt
end_higher (s ∷ spans) m n l b = (let first = b.0 in omega (arith, first, l), end_higher spans m n l b.1)
