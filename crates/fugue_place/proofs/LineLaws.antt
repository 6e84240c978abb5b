-- The outermost of the children in a line, as a search finds it.
use Rattle.std.proofs.Common.{◌≡◌, ℕ, ◌+◌, ◌<◌, Bool, true, false, ◌||◌, List, [], ◌∷◌, length, take, get_or, Option, Some, None, refl, sym, ap, ◌∙◌, arith}
use Rattle.std.specs.List.{list_any}
use Rattle.std.specs.Ordering.{is_lt}
use Rattle.std.specs.declared.cmp.Ordering.{Ordering}
use Rattle.std.specs.declared.cmp.Ordering.TheVariants.{Less, Equal, Greater}
use Rattle.std.proofs.lemmas.Bool.{false≢true, false_from_ne_true}
use Rattle.std.proofs.lemmas.List.Folds.{list_any-append}
use Rattle.ew_model.specs.declared.id.Id.{Id}
use Rattle.ew_model.specs.Ids.{id_cmp}
use Rattle.ew_model.specs.Sets.{Among}
use Rattle.ew_model.proofs.PathOrder.{id_total}
use Rattle.ew_model.proofs.SortingLaws.{not_itself}
use Rattle.fugue_place.specs.declared.child.Side.{Side}
use Rattle.fugue_place.specs.declared.child.Side.TheVariants.{Left, Right}
use Rattle.fugue_place.specs.declared.child.Attached.{Attached}
use Rattle.fugue_place.specs.declared.line.Line.{Line}
use Rattle.fugue_place.specs.Lines.{is_in_line, is_further, IsOutermost, IsBest}
use Rattle.fugue_place.proofs.ListLaws.{none_passes, one_more, next_at, early_or_next}

pub is_less : (o : Ordering) → is_lt o ≡ true → o ≡ Less
is_less Less e = refl
is_less Equal e = absurd (false≢true e)
is_less Greater e = absurd (false≢true e)

-- further out is an order
pub further_on : (end : Side) (x y z : Id) → is_further end x y ≡ true → is_further end y z ≡ true → is_further end x z ≡ true
further_on Left x y z e f = ap is_lt (id_total.trans x y z (is_less (id_cmp x y) e) (is_less (id_cmp y z) f))
further_on Right x y z e f = ap is_lt (id_total.trans z y x (is_less (id_cmp z y) f) (is_less (id_cmp y x) e))

pub not_further_itself : (end : Side) (x : Id) → is_further end x x ≡ false
not_further_itself Left x = false_from_ne_true (is_further Left x x) (λ e. not_itself id_total x (is_less (id_cmp x x) e))
not_further_itself Right x = false_from_ne_true (is_further Right x x) (λ e. not_itself id_total x (is_less (id_cmp x x) e))

module _ (line : Line) (end : Side) (children : List Attached) (n : ℕ) (child : Attached) (within : n < length children) (is : child ≡ get_or children n child) where
  each_more : (P : Attached → Type 0) → ((a : Attached) → Among a (take n children) → P a) → P child → (a : Attached) → Among a (take (n + 1) children) → P a
  each_more = early_or_next children n child within is

  -- the next child isn't in the line
  pub best_skips : (best : Option ℕ) → IsBest line end children n best → is_in_line line child ≡ false → IsBest line end children (n + 1) best
  best_skips None none out =
      ap (list_any (is_in_line line)) (one_more children n child within is)
      ∙ list_any-append (is_in_line line) (take n children) (child ∷ [])
      ∙ ap (λ (b : Bool). b || list_any (is_in_line line) (child ∷ [])) none
      ∙ ap (λ (b : Bool). b || false) out
  best_skips (Some k) best out = record {
    child = best.child;
    early = let early : k < n = best.early in omega arith;
    here = best.here;
    fits = best.fits;
    outermost = each_more (λ a. is_in_line line a ≡ true → is_further end a.id best.child.id ≡ false) best.outermost (λ fits. absurd (false≢true (sym out ∙ fits)));
  }

  -- the next child is in the line, but no further out
  pub best_stays : (k : ℕ) (best : IsOutermost line end children n k) → is_further end child.id best.child.id ≡ false → IsOutermost line end children (n + 1) k
  best_stays k best behind = record {
    child = best.child;
    early = let early : k < n = best.early in omega arith;
    here = best.here;
    fits = best.fits;
    outermost = each_more (λ a. is_in_line line a ≡ true → is_further end a.id best.child.id ≡ false) best.outermost (λ fits. behind);
  }

  -- the next child is the first in the line
  pub best_begins : list_any (is_in_line line) (take n children) ≡ false → is_in_line line child ≡ true → IsOutermost line end children (n + 1) n
  best_begins none fits = record {
    child = child;
    early = omega arith;
    here = next_at children n child within is;
    fits = fits;
    outermost = each_more (λ a. is_in_line line a ≡ true → is_further end a.id child.id ≡ false)
        (λ a m in_line. absurd (false≢true (sym (none_passes (is_in_line line) (take n children) a none m) ∙ in_line)))
        (λ in_line. not_further_itself end child.id);
  }

  -- the next child stands further out
  pub best_moves : (k : ℕ) (best : IsOutermost line end children n k) → is_in_line line child ≡ true → is_further end child.id best.child.id ≡ true → IsOutermost line end children (n + 1) n
  best_moves k best fits further = record {
    child = child;
    early = omega arith;
    here = next_at children n child within is;
    fits = fits;
    outermost = each_more (λ a. is_in_line line a ≡ true → is_further end a.id child.id ≡ false)
        (λ a m in_line. false_from_ne_true (is_further end a.id child.id)
        (λ e. false≢true (sym (best.outermost a m in_line) ∙ further_on end a.id child.id best.child.id e further)))
        (λ in_line. not_further_itself end child.id);
  }
