-- A run that took a change, or did not.
use Rattle.std.proofs.Common.{◌≡◌, ℕ, ◌+◌, ◌<◌, Option, Some, None, List, length, take, drop, slice_set, slice_index_or, All, Contains, sym, ap, ◌∙◌, subst}
use Rattle.ew_model.specs.declared.run.Run.{Ghosts}
use Rattle.order_tree.specs.declared.summary.Summary.{Summary}
use Rattle.order_tree.specs.declared.summary.Sums.{Sums}
use Rattle.order_tree.specs.declared.change.Taken.{Taken}
use Rattle.order_tree.specs.Pairs.{Tree, IsRising, SumsFit, changed}
use Rattle.order_tree.specs.Parts.{first_or_zero, sums_of, summary_of, all_pairs, IsMoved}
use Rattle.order_tree.specs.Whole.{IsWhole}
use Rattle.order_tree.specs.Alterations.{IsAnswer, WasKept}
use Rattle.order_tree.proofs.AboutLaws.{kids_same, tree_is}
use Rattle.order_tree.proofs.ChangeLaws.{first_changed, known_kept, length-changed, whole_changed, kid_changed, kid_moved, kid_fits}
use Rattle.order_tree.proofs.KidPlaces.{part_holds, part_holds_back}

module _ {R : Type 0} (G : Ghosts R) (makes : R → Option R → Type 0) (label : ℕ) where
  -- whatever the change makes of the run of the label, the sums fit
  abbrev pub AllFit : List (ℕ × R) → Type 0
  AllFit old = (run after : R) → Contains old (label, run) → makes run (Some after) → SumsFit G (changed old label after)

  pub taken_long : (old new : List (ℕ × R)) (o : Option (Taken R)) → IsAnswer G makes label old new o → length new ≡ length old
  taken_long old new None h = ap length h.0
  taken_long old new (Some t) h = ap length h.pairs ∙ length-changed label t.altered.after old

  -- what was kept of the pairs before
  pub taken_kept : (old new : List (ℕ × R)) (kept : Summary) (r : R) (o : Option (Taken R)) → IsRising old → Contains old (label, r) → AllFit old → kept ≡ summary_of G old → IsAnswer G makes label old new o → WasKept G label new kept o
  taken_kept old new kept r None rising held fit is h = is ∙ sym (ap (λ (ps : List (ℕ × R)). summary_of G ps) h.0)
  taken_kept old new kept r (Some t) rising held fit is h = (
    ap (λ (s : Summary). s.first) is ∙ sym (ap first_or_zero h.pairs ∙ first_changed label t.altered.after old),
    known_kept G label t.altered.after old new r kept t.moved.gained.known rising held is h.pairs h.gained,
    subst (λ (ps : List (ℕ × R)). SumsFit G ps) (sym h.pairs) (fit t.altered.before t.altered.after h.before h.after),
    subst (λ (s : Sums). IsMoved s t.moved.lost t.moved.gained (sums_of G new)) (sym (ap (λ (s : Summary). s.sums) is)) h.moved,
  )

  -- a whole tree stays one
  pub whole_taken : (runs : ℕ) (old new : Tree R) (o : Option (Taken R)) → IsWhole G runs old → AllFit old.pairs → new.depth ≡ old.depth → IsAnswer G makes label old.pairs new.pairs o → IsWhole G runs new
  whole_taken runs old new None whole fit deep h = subst (λ (t : Tree R). IsWhole G runs t) (sym (tree_is new old h.0 deep)) whole
  whole_taken runs old new (Some t) whole fit deep h = whole_changed label t.altered.after G runs old new whole h.pairs deep (fit t.altered.before t.altered.after h.before h.after)

-- A NODE ABOVE BRANCHES
module _ {R : Type 0} (G : Ghosts R) (makes : R → Option R → Type 0) (kids : List (Tree R)) (k label : ℕ) (kid : Tree R) (lt : k < length kids) (is : kid ≡ slice_index_or kids k kid) (rising : IsRising (all_pairs (λ t. t.pairs) kids))
    (below : All (λ p. p.0 < label) (all_pairs (λ t. t.pairs) (take k kids))) (above : All (λ p. label < p.0) (all_pairs (λ t. t.pairs) (drop (k + 1) kids))) where
  up : (r : R) → Contains kid.pairs (label, r) → Contains (all_pairs (λ t. t.pairs) kids) (label, r)
  up r h = part_holds_back (λ t. t.pairs) kids k kid lt is rising (label, r) h

  pub kid_all_fit : AllFit G makes label (all_pairs (λ t. t.pairs) kids) → AllFit G makes label kid.pairs
  kid_all_fit fit = λ run after held made. kid_fits G kids k label kid lt is below above after (fit run after (up run held) made)

  pub kid_suits : (suits : R → Type 0) → ((r : R) → Contains (all_pairs (λ t. t.pairs) kids) (label, r) → suits r) → (r : R) → Contains kid.pairs (label, r) → suits r
  kid_suits suits all r held = all r (up r held)

  pub kid_taken : (w : Tree R) (o : Option (Taken R)) → IsAnswer G makes label kid.pairs w.pairs o → IsAnswer G makes label (all_pairs (λ t. t.pairs) kids) (all_pairs (λ t. t.pairs) (slice_set kids k w)) o
  kid_taken w None h = (kids_same kids k kid w lt is h.0, λ run held. h.1 run (part_holds (λ t. t.pairs) kids k kid lt is rising label run below above held))
  kid_taken w (Some t) h =
      record {
        before = up t.altered.before h.before;
        after = h.after;
        pairs = kid_changed G kids k label kid lt is below above t.altered.after w h.pairs;
        moved = kid_moved G kids k label kid lt is below above w t.moved.lost t.moved.gained h.moved;
        gained = h.gained;
      }
