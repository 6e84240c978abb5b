-- What is kept of the children, once one more is attached.
use Rattle.std.proofs.Common.{◌≡◌, ℕ, ◌+◌, ◌-◌, ◌<◌, true, List, [], ◌∷◌, ◌++◌, length, Option, None, refl, sym, ap, ◌∙◌, subst, length-append, arith}
use Rattle.std.specs.Option.{IfSome, IfNone}
use Rattle.std.proofs.lemmas.Option.{slice_get_within, IfSome_then}
use Rattle.fugue_place.specs.declared.child.Side.{Side}
use Rattle.fugue_place.specs.declared.child.Side.TheVariants.{Left, Right}
use Rattle.fugue_place.specs.declared.child.Attached.{Attached}
use Rattle.fugue_place.specs.declared.places.Places.{Places}
use Rattle.fugue_place.specs.declared.spot.Spot.{Spot}
use Rattle.fugue_place.specs.declared.ways.Ways.{Ways}
use Rattle.fugue_place.specs.Attachments.{AreAttached, MayAttach}
use Rattle.fugue_place.specs.Chains.{IsLedBy}
use Rattle.fugue_place.specs.Heirs.{is_heir}
use Rattle.fugue_place.specs.Kept.{AreSiblings}
use Rattle.fugue_place.specs.Lines.{line_of, IsBest, IsNewOutermost, IsNoOutermost}
use Rattle.fugue_place.specs.Places.{ArePlaces}
use Rattle.fugue_place.specs.Spots.{IsIndex}
use Rattle.fugue_place.specs.Ways.{way_of, LeadOutward, IsSameWays, IsOneMore}
use Rattle.fugue_place.proofs.LeaderLaws.{newest_early, heir_right, none_behind}
use Rattle.fugue_place.proofs.OutwardLaws.{still_outermost}
use Rattle.fugue_place.proofs.PathLaws.{attached_push}
use Rattle.fugue_place.proofs.WayStates.{same_way, same_ways}

-- THE SAME
outward_same : (end : Side) (children : List Attached) (v w : Ways) → LeadOutward end children v → IsSameWays v w → LeadOutward end children w
outward_same end children v w lead same = record {
  ways = same_ways v w same lead.ways;
  end = same.end ∙ lead.end;
  count = same.count ∙ lead.count;
  outermost = λ k a here. subst (IsBest (line_of a.node end) end children (length children)) (sym (same_way v w same k)) (lead.outermost k a here);
}

pub unchanged : (w : Ways) → IsSameWays w w
unchanged w = record { end = refl; count = refl; heads = refl; links = λ k. refl; free = refl; chains = record { count = refl; outer = refl; inner = refl; numbers = refl; ends = refl } }

pub siblings_same : (children more : List Attached) (spot spots : Spot → Option ℕ) (old places : Places) (firsts lasts left right : Ways) → AreSiblings children spot old firsts lasts → more ≡ children
    → IsIndex children spots → ArePlaces children places → IsSameWays firsts left → IsSameWays lasts right → AreSiblings more spots places left right
siblings_same children more spot spots old places firsts lasts left right kept e s p l r =
    subst (λ (xs : List Attached). AreSiblings xs spots places left right) (sym e) (record {
      attached = kept.attached;
      spots = s;
      places = p;
      left = outward_same Left children firsts left kept.left l;
      right = outward_same Right children lasts right kept.right r;
    })

-- ONE MORE
-- the place that the new one is put behind is there
pub behind_early : (end : Side) (children : List Attached) (a : Attached) (w : Ways) → LeadOutward end children w → (behind : Option ℕ) → IfSome behind (IsNewOutermost end children (way_of w) a) → IfSome behind (λ k. k < w.count)
behind_early end children a w lead behind some =
    IfSome_then behind some (λ k new. subst (λ (n : ℕ). k < n) (sym lead.count) (slice_get_within children k new.parent new.here))

pub outward_more : (end : Side) (children : List Attached) (a : Attached) → AreAttached [] (children ++ a ∷ []) → (v w : Ways) → LeadOutward end children v → (behind : Option ℕ) → IfSome behind (IsNewOutermost end children (way_of v) a)
    → IfNone behind (IsNoOutermost end children (way_of v) a) → IsOneMore v w behind → LeadOutward end (children ++ a ∷ []) w
outward_more end children a all v w lead behind some none more = record {
  ways = more.ways;
  end = more.end ∙ lead.end;
  count = more.count ∙ ap (λ (n : ℕ). n + 1) lead.count ∙ sym (length-append children (a ∷ []));
  outermost =
      still_outermost children a all end (way_of v) (way_of w) lead.outermost behind (subst (λ (n : ℕ). IsLedBy n (way_of v) behind (way_of w)) lead.count more.led)
      (λ k is. subst (λ (o : Option ℕ). IfSome o (IsNewOutermost end children (way_of v) a)) is some)
      (λ is. subst (λ (o : Option ℕ). IfNone o (IsNoOutermost end children (way_of v) a)) is none);
}

module _ (children more : List Attached) (a : Attached) (is : more ≡ children ++ a ∷ []) (may : MayAttach children a) (spot spots : Spot → Option ℕ) (old places : Places) (firsts lasts left right : Ways)
    (kept : AreSiblings children spot old firsts lasts) (s : IsIndex (children ++ a ∷ []) spots) (p : ArePlaces (children ++ a ∷ []) places) where
  all : AreAttached [] (children ++ a ∷ [])
  all = attached_push [] children kept.attached a may

  pub siblings_more : (to_left to_right : Option ℕ) → IfSome to_left (IsNewOutermost Left children (way_of firsts) a) → IfNone to_left (IsNoOutermost Left children (way_of firsts) a)
      → IfSome to_right (IsNewOutermost Right children (way_of lasts) a) → IfNone to_right (IsNoOutermost Right children (way_of lasts) a) → IsOneMore firsts left to_left → IsOneMore lasts right to_right → AreSiblings more spots places left right
  siblings_more to_left to_right some_left none_left some_right none_right more_left more_right =
      subst (λ (xs : List Attached). AreSiblings xs spots places left right) (sym is) (record {
        attached = all;
        spots = s;
        places = p;
        left = outward_more Left children a all firsts left kept.left to_left some_left none_left more_left;
        right = outward_more Right children a all lasts right kept.right to_right some_right none_right more_right;
      })

-- An heir
module _ (children : List Attached) (all : AreAttached [] children) (a : Attached) (heir : is_heir children a ≡ true) (end : Side) (w : Ways) (lead : LeadOutward end children w) where
  newest_place : w.count - 1 ≡ length children - 1
  newest_place = ap (λ (n : ℕ). n - 1) lead.count

  pub some_newest : 0 < w.count
  some_newest = let early = newest_early children all a heir in let many = lead.count in omega (arith, early, many)

  pub last_newest : way_of w (w.count - 1) ≡ None
  last_newest = ap (way_of w) newest_place ∙ none_behind children all a heir end (way_of w) lead.outermost

-- An heir follows the newest one.
pub heir_behind : (children : List Attached) → AreAttached [] children → (a : Attached) → is_heir children a ≡ true → (w : Ways) → LeadOutward Right children w → IsNewOutermost Right children (way_of w) a (w.count - 1)
heir_behind children all a heir w lead =
    subst (IsNewOutermost Right children (way_of w) a) (sym (newest_place children all a heir Right w lead)) (heir_right children all a heir (way_of w) lead.outermost)
