-- Spans with one more position below them.
use Rattle.std.proofs.Common.{◌≡◌, ℕ, zero, suc, ◌+◌, ◌-◌, ◌<◌, ◌≤◌, ◌⊎◌, inl, inr, ⊎_elim, Bool, true, false, nat_lt, nat_eq, Some, List, [], ◌∷◌, ◌++◌, length, set, slice_get, slice_index_or, All, refl, sym, ap, ◌∙◌, subst, arith, append-nil, append_assoc}
use Rattle.std.specs.List.{range_with_len}
use Rattle.std.proofs.lemmas.Bool.{eqb-true, eqb-false, ltb-true, ltb-false}
use Rattle.std.proofs.lemmas.List.{get_or_append_left, get_or_push, get_or_read, length_push, set_at}
use Rattle.std.proofs.lemmas.List.Elements.{All-append}
use Rattle.std.proofs.lemmas.Option.{same_Some, slice_get_within}
use Rattle.ew_model.proofs.PositionCuts.{last_cases}
use Rattle.ancestors.specs.declared.spans.Span.{Span}
use Rattle.ancestors.specs.Spans.{positions_in, positions_of, AreDescending}
use Rattle.ew_model.proofs.Ranges.{range_joined}

pub positions_push : (spans : List Span) (s : Span) → positions_of (spans ++ s ∷ []) ≡ positions_in s ++ positions_of spans
positions_push [] s = sym (append-nil (positions_in s))
positions_push (x ∷ spans) s = ap (λ ps. ps ++ positions_in x) (positions_push spans s) ∙ append_assoc (positions_in s) (positions_of spans) (positions_in x)

-- an element in front stays at its place
get_front : (spans : List Span) (s : Span) (place : ℕ) → place < length spans → slice_get (spans ++ s ∷ []) place ≡ slice_get spans place
get_front [] s place l = absurd (omega (arith, l))
get_front (x ∷ spans) s zero l = refl
get_front (x ∷ spans) s (suc place) l = get_front spans s place (omega (arith, l))

get_last : (spans : List Span) (s : Span) (place : ℕ) → place ≡ length spans → slice_get (spans ++ s ∷ []) place ≡ Some s
get_last [] s zero e = refl
get_last [] s (suc place) e = absurd (omega (arith, e))
get_last (x ∷ spans) s zero e = absurd (omega (arith, e))
get_last (x ∷ spans) s (suc place) e = get_last spans s place (omega (arith, e))

-- the span ends below the last of the others
abbrev pub EndsBelow : List Span → Span → Type 0
EndsBelow spans s = (place : ℕ) (upper : Span) → place + 1 ≡ length spans → slice_get spans place ≡ Some upper → s.to < upper.from

descending_push : (spans : List Span) (s : Span) → AreDescending spans → s.from < s.to → EndsBelow spans s → AreDescending (spans ++ s ∷ [])
descending_push spans s h filled below = record {
  filled = All-append (λ x. x.from < x.to) spans (s ∷ []) h.filled one;
  apart = λ place upper lower u l. at place upper lower u l (nat_lt (place + 1) (length spans)) refl;
}
  where
    one : All (λ x. x.from < x.to) (s ∷ [])
    one zero d l = filled
    one (suc k) d l = absurd (omega (arith, l))

    at : (place : ℕ) (upper lower : Span) → slice_get (spans ++ s ∷ []) place ≡ Some upper → slice_get (spans ++ s ∷ []) (place + 1) ≡ Some lower
        → (b : Bool) → nat_lt (place + 1) (length spans) ≡ b → lower.to < upper.from
    at place upper lower u l true q =
        let less : place + 1 < length spans = ltb-true (place + 1) (length spans) q in
        h.apart place upper lower (sym (get_front spans s place (omega (arith, less))) ∙ u) (sym (get_front spans s (place + 1) less) ∙ l)
    at place upper lower u l false q =
        let high : length spans ≤ place + 1 = ltb-false (place + 1) (length spans) q in
        let within = slice_get_within (spans ++ s ∷ []) (place + 1) lower l in
        let last : place + 1 ≡ length spans = omega (arith, high, within, length_push spans s) in
        let same : s ≡ lower = same_Some s lower (sym (get_last spans s (place + 1) last) ∙ l) in
        subst (λ (x : Span). x.to < upper.from) same (below place upper last (sym (get_front spans s place (omega (arith, last))) ∙ u))

descending_front : (spans : List Span) (s : Span) → AreDescending (spans ++ s ∷ []) → AreDescending spans
descending_front spans s h = record {
  filled = λ k d l. subst (λ (x : Span). x.from < x.to) (front k d l) (h.filled k d (omega (arith, l, length_push spans s)));
  apart = λ place upper lower u l.
      let within = slice_get_within spans (place + 1) lower l in
      h.apart place upper lower (get_front spans s place (omega (arith, within)) ∙ u) (get_front spans s (place + 1) within ∙ l);
}
  where
    front : (k : ℕ) (d : Span) → k < length spans → slice_index_or (spans ++ s ∷ []) k d ≡ slice_index_or spans k d
    front k d l = get_or_append_left spans (s ∷ []) d k l

descending_last : (spans : List Span) (s : Span) → AreDescending (spans ++ s ∷ []) → (s.from < s.to) × EndsBelow spans s
descending_last spans s h = (
  subst (λ (x : Span). x.from < x.to) (get_or_push spans s s (length spans) refl) (h.filled (length spans) s (omega (arith, length_push spans s))),
  λ place upper e u. h.apart place upper s (get_front spans s place (omega (arith, e)) ∙ u) (get_last spans s (place + 1) e),
)

-- what comes of the spans
pub record Lowered (old new : List Span) (span : Span) : Type 0 where
  pub positions : positions_of new ≡ positions_in span ++ positions_of old
  pub order : AreDescending new

-- a span that ends where another one begins
positions_joined : (span x : Span) → span.from < span.to → x.from < x.to → x.from ≡ span.to → positions_in (record { from = span.from; to = x.to }) ≡ positions_in span ++ positions_in x
positions_joined span x filled above next =
    let long : x.to - span.from ≡ (span.to - span.from) + (x.to - x.from) = omega (arith, filled, above, next) in
    let start : span.from + (span.to - span.from) ≡ x.from = omega (arith, filled, next) in
    ap (range_with_len span.from) long
    ∙ range_joined span.from (span.to - span.from) (x.to - x.from)
    ∙ ap (λ (n : ℕ). range_with_len span.from (span.to - span.from) ++ range_with_len n (x.to - x.from)) start

-- The span joins the last one, where that begins right above it.
joined_lower : (spans : List Span) (place : ℕ) (span last : Span) → length spans ≡ place + 1 → last ≡ slice_index_or spans place last → last.from ≡ span.to → span.from < span.to
    → AreDescending spans → Lowered spans (set spans place (record { from = span.from; to = last.to })) span
joined_lower spans place span last long at next filled h = ⊎_elim (λ e. absurd (let none = ap length e in omega (arith, long, none))) (λ k. here k.0 k.1 k.2) (last_cases spans)
  where
    here : (front : List Span) (x : Span) → spans ≡ front ++ x ∷ [] → Lowered spans (set spans place (record { from = span.from; to = last.to })) span
    here front x e =
        let short : length front ≡ place = let l = ap length e in omega (arith, l, long, length_push front x) in
        let same : last ≡ x = at ∙ ap (λ (xs : List Span). slice_index_or xs place last) e ∙ get_or_push front x last place short in
        let new : Span = record { from = span.from; to = last.to } in
        let changed : set spans place new ≡ front ++ new ∷ [] = ap (λ (xs : List Span). set xs place new) e ∙ set_at front x [] new place short in
        let old : AreDescending (front ++ x ∷ []) = subst AreDescending e h in
        let was = descending_last front x old in
        let start : x.from ≡ span.to = ap (λ (s : Span). s.from) (sym same) ∙ next in
        let end : last.to ≡ x.to = ap (λ (s : Span). s.to) same in
        let in_new : positions_in new ≡ positions_in span ++ positions_in x = ap (λ (n : ℕ). positions_in (record { from = span.from; to = n })) end ∙ positions_joined span x filled was.0 start in
        record {
          positions =
              ap positions_of changed
              ∙ positions_push front new
              ∙ ap (λ ps. ps ++ positions_of front) in_new
              ∙ append_assoc (positions_in span) (positions_in x) (positions_of front)
              ∙ ap (λ ps. positions_in span ++ ps) (sym (positions_push front x) ∙ ap positions_of (sym e));
          order = subst AreDescending (sym changed) (descending_push front new (descending_front front x old) (omega (arith, was.0, start, end, filled)) (λ k u l g. let low = was.1 k u l g in omega (arith, low, end)));
        }

-- the last span, read twice
pub joined_read : (spans : List Span) (place : ℕ) (span read last : Span) → length spans ≡ place + 1 → read ≡ slice_index_or spans place read → last ≡ slice_index_or spans place last → read.from ≡ span.to → span.from < span.to
    → AreDescending spans → Lowered spans (set spans place (record { from = span.from; to = last.to })) span
joined_read spans place span read last long first at next filled h =
    let same : read ≡ last = get_or_read spans place read (omega (arith, long)) first last ∙ sym at in
    joined_lower spans place span last long at (ap (λ (s : Span). s.from) (sym same) ∙ next) filled h

first_above : (x : Span) (ps : List ℕ) (low : ℕ) → x.from < x.to → All (λ p. low ≤ p) (positions_in x ++ ps) → low ≤ x.from
first_above x ps low filled h =
    let more : x.to - x.from ≡ suc (x.to - x.from - 1) = omega (arith, filled) in
    let k : All (λ p. low ≤ p) (range_with_len x.from (suc (x.to - x.from - 1)) ++ ps) = subst (λ (n : ℕ). All (λ p. low ≤ p) (range_with_len x.from n ++ ps)) more h in
    k 0 0 (omega arith)

-- Or else it stands behind it.
pub started_lower : (spans : List Span) (span : Span) → span.from < span.to → AreDescending spans → All (λ p. span.to ≤ p) (positions_of spans)
    → ((place : ℕ) (last : Span) → length spans ≡ place + 1 → slice_get spans place ≡ Some last → last.from ≡ span.to → ⊥)
    → Lowered spans (spans ++ span ∷ []) span
started_lower spans span filled h above apart = record {
  positions = positions_push spans span;
  order = descending_push spans span h filled (λ place upper e u. higher place upper e u (last_cases spans));
}
  where
    higher : (place : ℕ) (upper : Span) → place + 1 ≡ length spans → slice_get spans place ≡ Some upper → (spans ≡ []) ⊎ ((front : List Span) × (x : Span) × (spans ≡ front ++ x ∷ [])) → span.to < upper.from
    higher place upper e u (inl none) = absurd (let l = ap length none in omega (arith, l, e))
    higher place upper e u (inr (front, x, is)) =
        let short : place ≡ length front = let l = ap length is in omega (arith, l, e, length_push front x) in
        let same : x ≡ upper = same_Some x upper (sym (get_last front x place short) ∙ ap (λ (xs : List Span). slice_get xs place) (sym is) ∙ u) in
        let long : x.from < x.to = (descending_last front x (subst AreDescending is h)).0 in
        let low : span.to ≤ x.from = first_above x (positions_of front) span.to long (subst (All (λ p. span.to ≤ p)) (ap positions_of is ∙ positions_push front x) above) in
        let from : x.from ≡ upper.from = ap (λ (s : Span). s.from) same in
        differs low from (nat_eq upper.from span.to) refl
      where
        differs : span.to ≤ x.from → x.from ≡ upper.from → (b : Bool) → nat_eq upper.from span.to ≡ b → span.to < upper.from
        differs low from true q = absurd (apart place upper (sym e) u (eqb-true upper.from span.to q))
        differs low from false q = let ne = eqb-false upper.from span.to q in omega (arith, low, from, ne)
