-- Whose outermost child a new one is.
use Rattle.std.proofs.Common.{◌≡◌, ℕ, ◌-◌, ◌<◌, true, false, List, [], length, take, slice_get, Option, Some, None, refl, sym, ap, ◌∙◌, subst}
use Rattle.std.specs.List.{list_any}
use Rattle.std.proofs.lemmas.Bool.{false≢true, and_parts}
use Rattle.std.proofs.lemmas.Option.{slice_get_within, none-some, same_Some}
use Rattle.ew_model.proofs.OperationLaws.{got}
use Rattle.fugue_place.specs.declared.child.Side.{Side}
use Rattle.fugue_place.specs.declared.child.Side.TheVariants.{Left, Right}
use Rattle.fugue_place.specs.declared.child.Attached.{Attached}
use Rattle.fugue_place.specs.Attachments.{is_attached, is_newest, AreAttached}
use Rattle.fugue_place.specs.Heirs.{is_heir}
use Rattle.fugue_place.specs.Lines.{is_in_line, line_of, is_further, IsOutermost, IsBest, AreOutermost, IsNewOutermost, IsNoOutermost}
use Rattle.fugue_place.specs.Neighbours.{side_eq}
use Rattle.fugue_place.proofs.FoundLaws.{attached_here}
use Rattle.fugue_place.proofs.ListLaws.{none_passes, among_all}
use Rattle.fugue_place.proofs.NodeLaws.{side_same}
use Rattle.fugue_place.proofs.PlaceLaws.{one_node, newest_last, newest_childless}

module _ (children : List Attached) (all : AreAttached [] children) (end : Side) (outer : ℕ → Option ℕ) (outermost : AreOutermost end children outer) (a : Attached) where
  pub no_parent : is_attached children a.parent ≡ false → IsNoOutermost end children outer a
  no_parent none = λ k p here parent side. absurd (false≢true (sym none ∙ attached_here children a.parent k (p, here, sym parent)))

  pub other_side : (a.side ≡ end → ⊥) → IsNoOutermost end children outer a
  other_side apart = λ k p here parent side. absurd (apart side)

  module _ (at : ℕ) (p : Attached) (here : slice_get children at ≡ Some p) (is : p.node ≡ a.parent) where
    pub follower_early : (k : ℕ) → outer at ≡ Some k → k < length children
    follower_early k e =
        let best : IsOutermost (line_of p.node end) end children (length children) k = subst (IsBest (line_of p.node end) end children (length children)) e (outermost at p here) in
        best.early

    pub no_further : (k : ℕ) (rival : Attached) → outer at ≡ Some k → slice_get children k ≡ Some rival → is_further end a.id rival.id ≡ false → IsNoOutermost end children outer a
    no_further k rival e there behind = λ m q found parent side.
        let same : at ≡ m = one_node children all at m p q here found (is ∙ parent) in
        (k, rival, ap outer (sym same) ∙ e, there, behind)

    pub new_further : (k : ℕ) (rival : Attached) → outer at ≡ Some k → slice_get children k ≡ Some rival → is_further end a.id rival.id ≡ true → a.side ≡ end → IsNewOutermost end children outer a at
    new_further k rival e there ahead side = record {
      parent = p;
      here = here;
      is = sym is;
      side = side;
      further = λ j c f h.
          let same : k ≡ j = same_Some k j (sym e ∙ f) in
          let one : rival ≡ c = same_Some rival c (sym there ∙ ap (slice_get children) same ∙ h) in
          ap (λ (x : Attached). is_further end a.id x.id) (sym one) ∙ ahead;
    }

    pub new_only : outer at ≡ None → a.side ≡ end → IsNewOutermost end children outer a at
    new_only e side = record { parent = p; here = here; is = sym is; side = side; further = λ j c f h. absurd (none-some j (sym e ∙ f)) }

-- An heir is the outermost child of the newest one, which had none.
module _ (children : List Attached) (all : AreAttached [] children) (a : Attached) (heir : is_heir children a ≡ true) where
  newest : is_newest children a.parent ≡ true
  newest = (and_parts (is_newest children a.parent) (side_eq a.side Right) heir).0

  on_right : a.side ≡ Right
  on_right = side_same a.side Right (and_parts (is_newest children a.parent) (side_eq a.side Right) heir).1

  pub newest_early : length children - 1 < length children
  newest_early = let last = newest_last children a.parent newest in slice_get_within children (length children - 1) last.0 last.1

  pub heir_left : (outer : ℕ → Option ℕ) → IsNoOutermost Left children outer a
  heir_left outer = λ k p here parent side. let no : Right ≡ Left = sym on_right ∙ side in absurd cc

  module _ (end : Side) (outer : ℕ → Option ℕ) (outermost : AreOutermost end children outer) where
    none_follows : (p : Attached) → slice_get children (length children - 1) ≡ Some p → p.node ≡ a.parent → (o : Option ℕ) → outer (length children - 1) ≡ o → o ≡ None
    none_follows p here is None e = refl
    none_follows p here is (Some j) e =
        let best : IsOutermost (line_of p.node end) end children (length children) j = subst (IsBest (line_of p.node end) end children (length children)) e (outermost (length children - 1) p here) in
        let none : list_any (is_in_line (line_of p.node end)) (take (length children) children) ≡ false = newest_childless children all (line_of p.node end) (ap (is_newest children) is ∙ newest) in
        absurd (false≢true (sym (none_passes (is_in_line (line_of p.node end)) (take (length children) children) best.child none (among_all children best.child (got children j best.child best.here))) ∙ best.fits))

    pub none_behind : outer (length children - 1) ≡ None
    none_behind = let last = newest_last children a.parent newest in none_follows last.0 last.1 last.2 (outer (length children - 1)) refl

  pub heir_right : (outer : ℕ → Option ℕ) → AreOutermost Right children outer → IsNewOutermost Right children outer a (length children - 1)
  heir_right outer outermost =
      let last = newest_last children a.parent newest in
      new_only children all Right outer outermost a (length children - 1) last.0 last.1 last.2 (none_behind Right outer outermost) on_right
