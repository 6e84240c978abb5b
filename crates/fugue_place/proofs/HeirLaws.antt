-- The heir in a line stands right behind the parent, and beside it the others tell the outermost child.
use Rattle.std.proofs.Common.{◌≡◌, ℕ, ◌+◌, ◌-◌, ◌<◌, Bool, true, false, List, [], length, take, slice_get, Option, Some, None, refl, sym, ap, ◌∙◌, subst, arith}
use Rattle.std.specs.List.{list_any}
use Rattle.std.specs.Option.{option_map_or}
use Rattle.std.proofs.lemmas.Bool.{false≢true, false_from_ne_true, and_parts, and_from}
use Rattle.std.proofs.lemmas.List.{length-take-le}
use Rattle.std.proofs.lemmas.Option.{slice_get_within, same_Some}
use Rattle.std.proofs.Math.Seq.{take-length}
use Rattle.ew_model.specs.declared.node.Node.{Node}
use Rattle.ew_model.specs.Sets.{Among}
use Rattle.ew_model.proofs.ListPlaces.{get-take, get-take_within}
use Rattle.ew_model.proofs.VersionLaws.{found_by}
use Rattle.fugue_place.specs.declared.child.Side.{Side}
use Rattle.fugue_place.specs.declared.child.Side.TheVariants.{Right}
use Rattle.fugue_place.specs.declared.child.Attached.{Attached}
use Rattle.fugue_place.specs.declared.line.Line.{Line}
use Rattle.fugue_place.specs.Attachments.{node_eq, is_attached, is_newest, AreAttached}
use Rattle.fugue_place.specs.Heirs.{is_heir, IsHeirIn, HasNoHeir, IsOuterThanOthers, IsBestOfOthers}
use Rattle.fugue_place.specs.Lines.{is_in_line, is_further, IsOutermost, IsBest}
use Rattle.fugue_place.specs.Neighbours.{side_eq}
use Rattle.fugue_place.specs.Places.{HasNodeAt}
use Rattle.fugue_place.proofs.EndLaws.{from_line}
use Rattle.fugue_place.proofs.FoundLaws.{attached_here}
use Rattle.fugue_place.proofs.LineLaws.{further_on, not_further_itself}
use Rattle.fugue_place.proofs.ListLaws.{place_of}
use Rattle.fugue_place.proofs.NodeLaws.{node_itself}
use Rattle.fugue_place.proofs.PlaceLaws.{one_node, newest_last}

module _ (children : List Attached) (all : AreAttached [] children) (line : Line) where
  -- THE HEIR
  -- the child ahead of an heir in the line is the parent
  parent_ahead : (k : ℕ) (a : Attached) → slice_get children k ≡ Some a → is_heir (take k children) a ≡ true → is_in_line line a ≡ true → (at : ℕ) × HasNodeAt children line.parent at × (k ≡ at + 1)
  parent_ahead k a here heir fits =
      let lt : k < length children = slice_get_within children k a here in
      let count : length (take k children) ≡ k = length-take-le k children (omega arith) in
      let last = newest_last (take k children) a.parent (and_parts (is_newest (take k children) a.parent) (side_eq a.side Right) heir).0 in
      let some : length (take k children) - 1 < length (take k children) = slice_get_within (take k children) (length (take k children) - 1) last.0 last.1 in
      let next : k ≡ (length (take k children) - 1) + 1 = omega arith in
      (length (take k children) - 1, (last.0, get-take k children (length (take k children) - 1) last.0 last.1, last.2 ∙ (from_line line a fits).parent), next)

  heir_place : (at : ℕ) → HasNodeAt children line.parent at → (k : ℕ) (a : Attached) → slice_get children k ≡ Some a → is_heir (take k children) a ≡ true → is_in_line line a ≡ true → k ≡ at + 1
  heir_place at parent k a here heir fits =
      let ahead = parent_ahead k a here heir fits in
      let same : at ≡ ahead.0 = one_node children all at ahead.0 parent.0 ahead.1.0 parent.1 ahead.1.1 (parent.2 ∙ sym ahead.1.2) in
      let next = ahead.2 in
      omega arith

  -- on the left none is an heir
  pub left_no_heir : side_eq line.side Right ≡ false → HasNoHeir line children
  left_no_heir left k a here fits = false_from_ne_true (is_heir (take k children) a) (λ heir.
      let side = (and_parts (is_newest (take k children) a.parent) (side_eq a.side Right) heir).1 in
      false≢true (sym left ∙ ap (λ (s : Side). side_eq s Right) (sym (from_line line a fits).side) ∙ side))

  pub no_parent_no_heir : is_attached children line.parent ≡ false → HasNoHeir line children
  no_parent_no_heir none k a here fits = false_from_ne_true (is_heir (take k children) a) (λ heir.
      let ahead = parent_ahead k a here heir fits in
      false≢true (sym none ∙ attached_here children line.parent ahead.0 ahead.1))

  module _ (at : ℕ) (parent : HasNodeAt children line.parent at) where
    pub parent_early : at < length children
    parent_early = slice_get_within children at parent.0 parent.1

    pub last_no_heir : at + 1 ≡ length children → HasNoHeir line children
    last_no_heir last k a here fits = false_from_ne_true (is_heir (take k children) a) (λ heir.
        let place = heir_place at parent k a here heir fits in
        let lt = slice_get_within children k a here in
        absurd (omega arith))

    module _ (child : Attached) (here : slice_get children (at + 1) ≡ Some child) where
      pub next_heir : side_eq line.side Right ≡ true → is_in_line line child ≡ true → IsHeirIn line children (at + 1)
      next_heir right fits =
          let side : side_eq child.side Right ≡ true = ap (λ (s : Side). side_eq s Right) (from_line line child fits).side ∙ right in
          let lt : at + 1 < length children = slice_get_within children (at + 1) child here in
          let count : length (take (at + 1) children) ≡ at + 1 = length-take-le (at + 1) children (omega arith) in
          let back : length (take (at + 1) children) - 1 ≡ at = omega arith in
          let last : slice_get (take (at + 1) children) (length (take (at + 1) children) - 1) ≡ Some parent.0 =
          ap (slice_get (take (at + 1) children)) back ∙ get-take_within (at + 1) children at (omega arith) ∙ parent.1 in
          let newest : is_newest (take (at + 1) children) child.parent ≡ true =
          ap (λ (o : Option Attached). option_map_or (λ (a : Attached). node_eq a.node child.parent) o false) last
          ∙ ap (λ (v : Node). node_eq v child.parent) (parent.2 ∙ sym (from_line line child fits).parent)
          ∙ node_itself child.parent in
          record { child = child; here = here; heir = and_from (is_newest (take (at + 1) children) child.parent) (side_eq child.side Right) newest side; fits = fits }

      pub next_no_heir : is_in_line line child ≡ false → HasNoHeir line children
      next_no_heir out k a there fits = false_from_ne_true (is_heir (take k children) a) (λ heir.
          let same : child ≡ a = same_Some child a (sym here ∙ ap (slice_get children) (sym (heir_place at parent k a there heir fits)) ∙ there) in
          false≢true (sym out ∙ ap (is_in_line line) same ∙ fits))

  -- THE OUTERMOST CHILD
  module _ (end : Side) where
    in_all : (P : Attached → Type 0) → ((j : ℕ) (a : Attached) → slice_get children j ≡ Some a → P a) → (a : Attached) → Among a (take (length children) children) → P a
    in_all P each a m = let place = place_of children a (subst (Among a) (take-length children) m) in each place.0 a place.1

    pub best_without : HasNoHeir line children → (best : Option ℕ) → IsBestOfOthers line end children best → IsBest line end children (length children) best
    best_without free None none = false_from_ne_true (list_any (is_in_line line) (take (length children) children)) (λ e.
        let found = found_by (is_in_line line) (take (length children) children) e in
        in_all (λ a. is_in_line line a ≡ true → ⊥) (λ j a here fits. false≢true (sym (none j a here (free j a here fits)) ∙ fits)) found.0 found.1 found.2)
    best_without free (Some k) best = record {
      child = best.child;
      early = slice_get_within children k best.child best.here;
      here = best.here;
      fits = best.fits;
      outermost = in_all (λ a. is_in_line line a ≡ true → is_further end a.id best.child.id ≡ false) (λ j a here fits. best.outermost j a here (free j a here fits) fits);
    }

    module _ (k : ℕ) (heir : IsHeirIn line children k) where
      -- each child in the line is the heir, or none
      pub heir_or_other : (P : Attached → Type 0) → P heir.child → ((j : ℕ) (a : Attached) → slice_get children j ≡ Some a → is_heir (take j children) a ≡ false → is_in_line line a ≡ true → P a)
          → (j : ℕ) (a : Attached) → slice_get children j ≡ Some a → is_in_line line a ≡ true → P a
      heir_or_other P own others j a here fits = at (is_heir (take j children) a) refl
        where
          at : (b : Bool) → is_heir (take j children) a ≡ b → P a
          at true e =
              let ahead = parent_ahead k heir.child heir.here heir.heir heir.fits in
              let place : k ≡ ahead.0 + 1 = ahead.2 in
              let again : j ≡ ahead.0 + 1 = heir_place ahead.0 ahead.1 j a here e fits in
              let one : k ≡ j = omega arith in
              subst P (same_Some heir.child a (sym heir.here ∙ ap (slice_get children) one ∙ here)) own
          at false e = others j a here e fits

      best_is : (best : ℕ) (child : Attached) → slice_get children best ≡ Some child → is_in_line line child ≡ true → is_further end heir.child.id child.id ≡ false
          → ((j : ℕ) (a : Attached) → slice_get children j ≡ Some a → is_heir (take j children) a ≡ false → is_in_line line a ≡ true → is_further end a.id child.id ≡ false) → IsOutermost line end children (length children) best
      best_is best child here fits own others = record {
        child = child;
        early = slice_get_within children best child here;
        here = here;
        fits = fits;
        outermost = in_all (λ a. is_in_line line a ≡ true → is_further end a.id child.id ≡ false) (heir_or_other (λ a. is_further end a.id child.id ≡ false) own others);
      }

      pub heir_alone : IsBestOfOthers line end children None → IsOutermost line end children (length children) k
      heir_alone none =
          best_is k heir.child heir.here heir.fits (not_further_itself end heir.child.id) (λ j a here other fits. absurd (false≢true (sym (none j a here other) ∙ fits)))

      module _ (m : ℕ) (best : IsOuterThanOthers line end children m) (h c : Attached) (is : slice_get children k ≡ Some h) (rival : slice_get children m ≡ Some c) where
        same_heir : heir.child ≡ h
        same_heir = same_Some heir.child h (sym heir.here ∙ is)

        same_best : best.child ≡ c
        same_best = same_Some best.child c (sym best.here ∙ rival)

        further_is : (b : Bool) → is_further end h.id c.id ≡ b → is_further end heir.child.id best.child.id ≡ b
        further_is b e = ap (λ (x : Attached). is_further end x.id best.child.id) same_heir ∙ ap (λ (x : Attached). is_further end h.id x.id) same_best ∙ e

        pub heir_further : is_further end h.id c.id ≡ true → IsOutermost line end children (length children) k
        heir_further ahead = best_is k heir.child heir.here heir.fits (not_further_itself end heir.child.id) (λ j a here other fits.
            false_from_ne_true (is_further end a.id heir.child.id) (λ e.
            false≢true (sym (best.outermost j a here other fits) ∙ further_on end a.id heir.child.id best.child.id e (further_is true ahead))))

        pub other_further : is_further end h.id c.id ≡ false → IsOutermost line end children (length children) m
        other_further behind = best_is m best.child best.here best.fits (further_is false behind) best.outermost
