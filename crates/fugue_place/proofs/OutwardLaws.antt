-- Chains lead outward still once one more child is attached.
use Rattle.std.proofs.Common.{◌≡◌, ℕ, ◌+◌, ◌-◌, ◌<◌, Bool, true, false, ⊎_elim, List, [], ◌∷◌, ◌++◌, length, take, get_or, slice_get, Option, Some, None, refl, sym, ap, ◌∙◌, subst, length-append, arith}
use Rattle.std.specs.List.{list_any}
use Rattle.std.specs.Option.{option_map_or}
use Rattle.std.proofs.lemmas.Bool.{false_from_ne_true, cases_eq}
use Rattle.std.proofs.lemmas.List.{take-append-le}
use Rattle.std.proofs.lemmas.Option.{none-some, same_Some, slice_get_within}
use Rattle.std.proofs.Math.Seq.{get_or-append_seam}
use Rattle.ew_model.specs.Sets.{Among}
use Rattle.fugue_place.specs.declared.child.Side.{Side}
use Rattle.fugue_place.specs.declared.child.Attached.{Attached}
use Rattle.fugue_place.specs.declared.line.Line.{Line}
use Rattle.fugue_place.specs.Attachments.{node_eq, AreAttached}
use Rattle.fugue_place.specs.Chains.{IsLedBy}
use Rattle.fugue_place.specs.Lines.{is_in_line, line_of, is_further, IsOutermost, IsBest, AreOutermost, IsNewOutermost, IsNoOutermost}
use Rattle.fugue_place.proofs.ListLaws.{place_more, place_new, place_cases}
use Rattle.fugue_place.proofs.LineLaws.{best_skips, best_stays, best_begins, best_moves}
use Rattle.fugue_place.proofs.EndLaws.{from_line, in_line}
use Rattle.fugue_place.proofs.NodeLaws.{node_itself}
use Rattle.fugue_place.proofs.PlaceLaws.{one_node, newest_childless}

module _ (children : List Attached) (a : Attached) where
  abbrev more : List Attached
  more = children ++ a ∷ []

  count : length more ≡ length children + 1
  count = length-append children (a ∷ [])

  within : length children < length more
  within = let e = count in omega arith

  newest : a ≡ get_or more (length children) a
  newest = sym (get_or-append_seam children a [] a)

  front : take (length children) more ≡ take (length children) children
  front = take-append-le (length children) children (a ∷ []) (omega arith)

  -- the best of those before stands so among more
  best_before : (line : Line) (end : Side) (best : Option ℕ) → IsBest line end children (length children) best → IsBest line end more (length children) best
  best_before line end None none = ap (list_any (is_in_line line)) front ∙ none
  best_before line end (Some k) best = record {
    child = best.child;
    early = best.early;
    here = place_more children a k best.child best.here;
    fits = best.fits;
    outermost = λ c m. best.outermost c (subst (Among c) front m);
  }

  -- the newest child has no children
  childless : AreAttached [] more → (end : Side) → list_any (is_in_line (line_of a.node end)) (take (length more) more) ≡ false
  childless all end =
      let last : slice_get more (length more - 1) ≡ Some a = place_new children a (length more - 1) (let e = count in omega arith) in
      newest_childless more all (line_of a.node end) (ap (λ (o : Option Attached). option_map_or (λ (c : Attached). node_eq c.node a.node) o false) last ∙ node_itself a.node)

  module _ (all : AreAttached [] more) (end : Side) (outer led : ℕ → Option ℕ) (outermost : AreOutermost end children outer)
      (behind : Option ℕ) (added : IsLedBy (length children) outer behind led)
      (new : (k : ℕ) → behind ≡ Some k → IsNewOutermost end children outer a k) (none : behind ≡ None → IsNoOutermost end children outer a) where
    module _ (k : ℕ) (p : Attached) (here : slice_get children k ≡ Some p) where
      abbrev line : Line
      line = line_of p.node end

      abbrev IsBestNow : Option ℕ → Type 0
      IsBestNow best = IsBest line end more (length children + 1) best

      before : (best : Option ℕ) → outer k ≡ best → IsBest line end more (length children) best
      before best e = best_before line end best (subst (IsBest line end children (length children)) e (outermost k p here))

      fits : a.parent ≡ p.node → a.side ≡ end → is_in_line line a ≡ true
      fits parent side = in_line line a parent side refl

      skips : is_in_line line a ≡ false → IsBestNow (outer k)
      skips out = best_skips line end more (length children) a within newest (outer k) (before (outer k) refl) out

      stays : (j : ℕ) (c : Attached) → outer k ≡ Some j → slice_get children j ≡ Some c → is_further end a.id c.id ≡ false → IsBestNow (outer k)
      stays j c e at behind =
          let best : IsOutermost line end more (length children) j = before (Some j) e in
          let same : c ≡ best.child = same_Some c best.child (sym (place_more children a j c at) ∙ best.here) in
          subst IsBestNow (sym e)
          (best_stays line end more (length children) a within newest j best (ap (λ (x : Attached). is_further end a.id x.id) (sym same) ∙ behind))

      moves : (found : IsNewOutermost end children outer a k) (best : Option ℕ) → outer k ≡ best → IsBestNow (Some (length children))
      moves found None e =
          let same : found.parent ≡ p = same_Some found.parent p (sym found.here ∙ here) in
          best_begins line end more (length children) a within newest (before None e) (fits (found.is ∙ ap (λ (c : Attached). c.node) same) found.side)
      moves found (Some j) e =
          let same : found.parent ≡ p = same_Some found.parent p (sym found.here ∙ here) in
          let old : IsOutermost line end children (length children) j = subst (IsBest line end children (length children)) e (outermost k p here) in
          let best : IsOutermost line end more (length children) j = before (Some j) e in
          let one : best.child ≡ old.child = same_Some best.child old.child (sym best.here ∙ place_more children a j old.child old.here) in
          best_moves line end more (length children) a within newest j best (fits (found.is ∙ ap (λ (c : Attached). c.node) same) found.side)
          (ap (λ (x : Attached). is_further end a.id x.id) one ∙ found.further j old.child e old.here)

      -- where the new child goes behind another, it isn't in this line
      apart : (m : ℕ) → behind ≡ Some m → (m ≡ k → ⊥) → is_in_line line a ≡ false
      apart m e other = false_from_ne_true (is_in_line line a) (λ t.
          let found = new m e in
          let same : found.parent.node ≡ p.node = sym found.is ∙ (from_line line a t).parent in
          other (one_node more all m k found.parent p (place_more children a m found.parent found.here) (place_more children a k p here) same))

      kept : behind ≡ None → IsBestNow (outer k)
      kept e = at (is_in_line line a) refl
        where
          at : (b : Bool) → is_in_line line a ≡ b → IsBestNow (outer k)
          at true t = let known = from_line line a t in let rival = none e k p here known.parent known.side in stays rival.0 rival.1 rival.2 rival.3 rival.4
          at false t = skips t

      early_best : IsBestNow (led k)
      early_best = at behind refl
        where
          lt : k < length children
          lt = slice_get_within children k p here

          at : (b : Option ℕ) → behind ≡ b → IsBestNow (led k)
          at None e = subst IsBestNow (sym (added.others k lt (λ some. none-some k (sym e ∙ some)))) (kept e)
          at (Some m) e =
              ⊎_elim
              (λ (same : m ≡ k).
              let here : behind ≡ Some k = e ∙ ap (λ (x : ℕ). Some x) same in
              subst IsBestNow (sym (added.leads k here)) (moves (new k here) (outer k) refl))
              (λ other. subst IsBestNow (sym (added.others k lt (λ some. other (same_Some m k (sym e ∙ some))))) (skips (apart m e other)))
              (cases_eq m k)

    pub still_outermost : AreOutermost end more led
    still_outermost k p e =
        ⊎_elim
        (λ early. subst (λ (n : ℕ). IsBest (line_of p.node end) end more n (led k)) (sym count) (early_best k p early))
        (λ last.
        subst (IsBest (line_of p.node end) end more (length more)) (sym (ap led last.0 ∙ added.last))
        (ap (λ (c : Attached). list_any (is_in_line (line_of c.node end)) (take (length more) more)) (sym last.1) ∙ childless all end))
        (place_cases children a k p e)
