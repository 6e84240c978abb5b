-- Moves over the positions of spans.
use Rattle.std.proofs.Common.{◌≡◌, ℕ, suc, ◌+◌, ◌-◌, ◌<◌, ◌≤◌, List, [], ◌∷◌, ◌++◌, reverse, take, drop, sym, ap, ◌∙◌, subst, arith, length, get_or, length-append, drop-cons}
use Rattle.std.proofs.lemmas.List.{reverse-append, take_more, drop_all}
use Rattle.std.proofs.lemmas.List.FromFn.{length-range_with_len}
use Rattle.ew_model.specs.Tree.{Applied}
use Rattle.ew_model.specs.Records.{without}
use Rattle.ew_model.specs.Moves.{after_advances, after_retreats}
use Rattle.advance_retreat.specs.Kept.{Kept}
use Rattle.advance_retreat.specs.Standing.{StandsFor}
use Rattle.advance_retreat.specs.Conditions.{MayRetreatEach, MayAdvanceEach, Advanced, Retreated}
use Rattle.advance_retreat.proofs.SpanMoves.{advances-append, retreats-append, advance_whole, retreat_whole, fronts_joined}
use Rattle.ancestors.specs.declared.spans.Span.{Span}
use Rattle.ancestors.specs.Spans.{positions_in, positions_of}
use Rattle.ancestors.proofs.SpanLists.{positions_push}

-- SPANS
pub long_span : (s : Span) → length (positions_in s) ≡ s.to - s.from
long_span s = length-range_with_len s.from (s.to - s.from)

module _ (spans : List Span) (i : ℕ) (d : Span) (within : i < length spans) where
  from_here : drop i spans ≡ get_or spans i d ∷ drop (i + 1) spans
  from_here = let on : suc i ≡ i + 1 = omega arith in drop-cons spans i d within ∙ ap (λ (n : ℕ). get_or spans i d ∷ drop n spans) on

  -- the next span down
  pub falling_next : reverse (positions_of (drop i spans)) ≡ reverse (positions_in (get_or spans i d)) ++ reverse (positions_of (drop (i + 1) spans))
  falling_next = ap (λ (ss : List Span). reverse (positions_of ss)) from_here ∙ reverse-append (positions_of (drop (i + 1) spans)) (positions_in (get_or spans i d))

  pub falling_long : length (positions_of (drop i spans)) ≡ length (positions_of (drop (i + 1) spans)) + ((get_or spans i d).to - (get_or spans i d).from)
  falling_long =
      let whole = ap (λ (ss : List Span). length (positions_of ss)) from_here in
      let sum = length-append (positions_of (drop (i + 1) spans)) (positions_in (get_or spans i d)) in
      let one = long_span (get_or spans i d) in
      omega (arith, whole, sum, one)

-- the next span up
module _ (spans : List Span) (left : ℕ) (d : Span) (some : 0 < left) (within : left ≤ length spans) where
  last : left - 1 + 1 ≡ left
  last = omega (arith, some)

  pub rising_next : positions_of (take left spans) ≡ positions_in (get_or spans (left - 1) d) ++ positions_of (take (left - 1) spans)
  rising_next =
      ap (λ (n : ℕ). positions_of (take n spans)) (sym last) ∙ ap positions_of (take_more spans (left - 1) d (omega (arith, some, within)))
      ∙ positions_push (take (left - 1) spans) (get_or spans (left - 1) d)

  pub rising_long : length (positions_of (take left spans)) ≡ length (positions_of (take (left - 1) spans)) + ((get_or spans (left - 1) d).to - (get_or spans (left - 1) d).from)
  rising_long =
      let whole = ap (length {A = ℕ}) rising_next in
      let sum = length-append (positions_in (get_or spans (left - 1) d)) (positions_of (take (left - 1) spans)) in
      let one = long_span (get_or spans (left - 1) d) in
      omega (arith, whole, sum, one)

-- MOVES IN PARTS
module _ (events : List (Applied ℕ)) where
  retreats_parted : (prepared xs ys : List ℕ) → MayRetreatEach events prepared (xs ++ ys) → MayRetreatEach events prepared xs × MayRetreatEach events (after_retreats prepared xs) ys
  retreats_parted prepared [] ys may = (tt, may)
  retreats_parted prepared (x ∷ xs) ys may = let rest = retreats_parted (without x prepared) xs ys may.1 in ((may.0, rest.0), rest.1)

  advances_parted : (prepared xs ys : List ℕ) → MayAdvanceEach events prepared (xs ++ ys) → MayAdvanceEach events prepared xs × MayAdvanceEach events (after_advances prepared xs) ys
  advances_parted prepared [] ys may = (tt, may)
  advances_parted prepared (x ∷ xs) ys may = let rest = advances_parted (x ∷ prepared) xs ys may.1 in ((may.0, rest.0), rest.1)

module _ (b : ℕ) (events : List (Applied ℕ)) (prepared all : List ℕ) where
  -- the next of them, and what is left behind them
  module _ (s : Kept) (xs ys rest : List ℕ) (parts : rest ≡ xs ++ ys) where
    pub retreat_next : (a : Retreated s b events prepared all rest) → MayRetreatEach events a.now xs
    retreat_next a = (retreats_parted events a.now xs ys (subst (MayRetreatEach events a.now) parts a.may)).0

    pub retreat_on : (a : Retreated s b events prepared all rest) (t : Kept) → StandsFor t b events (after_retreats a.now xs) → Retreated t b events prepared all ys
    retreat_on a t stands = record {
      made = a.made ++ xs;
      parts = fronts_joined a.made xs ys rest all (sym parts) a.parts;
      now = after_retreats a.now xs;
      is = ap (λ (ps : List ℕ). after_retreats ps xs) a.is ∙ sym (retreats-append prepared a.made xs);
      stands = stands;
      may = (retreats_parted events a.now xs ys (subst (MayRetreatEach events a.now) parts a.may)).1;
    }

    pub advance_next : (a : Advanced s b events prepared all rest) → MayAdvanceEach events a.now xs
    advance_next a = (advances_parted events a.now xs ys (subst (MayAdvanceEach events a.now) parts a.may)).0

    pub advance_on : (a : Advanced s b events prepared all rest) (t : Kept) → StandsFor t b events (after_advances a.now xs) → Advanced t b events prepared all ys
    advance_on a t stands = record {
      made = a.made ++ xs;
      parts = fronts_joined a.made xs ys rest all (sym parts) a.parts;
      now = after_advances a.now xs;
      is = ap (λ (ps : List ℕ). after_advances ps xs) a.is ∙ sym (advances-append prepared a.made xs);
      stands = stands;
      may = (advances_parted events a.now xs ys (subst (MayAdvanceEach events a.now) parts a.may)).1;
    }

  -- none is left
  pub retreats_made : (s : Kept) (spans : List Span) (i : ℕ) → length spans ≤ i → Retreated s b events prepared all (reverse (positions_of (drop i spans))) → StandsFor s b events (after_retreats prepared all)
  retreats_made s spans i le a =
      let none : [] ≡ drop i spans = sym (drop_all i spans le) in
      subst (StandsFor s b events) (ap (λ (ss : List Span). after_retreats a.now (reverse (positions_of ss))) none ∙ retreat_whole b events prepared all s (reverse (positions_of (drop i spans))) a) a.stands

  pub advances_made : (s : Kept) (spans : List Span) (i : ℕ) → i ≡ 0 → Advanced s b events prepared all (positions_of (take i spans)) → StandsFor s b events (after_advances prepared all)
  advances_made s spans i none a = subst (StandsFor s b events) (ap (λ (n : ℕ). after_advances a.now (positions_of (take n spans))) (sym none) ∙ advance_whole b events prepared all s (positions_of (take i spans)) a) a.stands
