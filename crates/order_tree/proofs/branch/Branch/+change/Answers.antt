use Rattle.std.proofs.Common.{◌≡◌, ℕ, ◌<◌, List, length, slice_index_or, slice_set, Contains, arith, sym, ap, ◌∙◌, subst}
use Rattle.std.proofs.lemmas.List.{length-set}
use Rattle.order_tree.specs.declared.summary.Summary.{Summary}
use Rattle.order_tree.specs.declared.summary.Sums.{Sums}
use Rattle.order_tree.specs.Pairs.{Tree, IsRising, SumsFit, changed}
use Rattle.order_tree.specs.Parts.{first_or_zero, sums_of, all_pairs, IsMoved}
use Rattle.order_tree.specs.Shape.{pairs_in}
use Rattle.order_tree.proofs.KidLaws.{kids_some, kid_lower}
use Rattle.order_tree.proofs.KidPlaces.{part_rises, part_holds}
use Rattle.order_tree.proofs.ChangeLaws.{first_changed, known_kept, length-changed, kid_fits, kid_changed, kid_moved, AllBelow-same}
use Rattle.order_tree.proofs.branch.Branch.+change.Goals as goal

-- LEAF
pub kept_after-self-inside-requires-clause-first : goal.kept_after-self-inside-requires-clause-first
kept_after-self-inside-requires-clause-first g t c =
    let kept = rw c.in-Leaf.is at c.self.invariant.kept in
    ap (λ (s : Summary). s.first) kept ∙ sym (ap first_or_zero c.change_entry-moved.ensures.pairs ∙ first_changed c.args.label c.args.run c.in-Leaf.entries.items)

pub kept_after-self-inside-requires-clause-known : goal.kept_after-self-inside-requires-clause-known
kept_after-self-inside-requires-clause-known g t c =
    let here : c.args.self.now.pairs ≡ c.in-Leaf.entries.items = sym (ap (λ (s : Tree _). s.pairs) c.self.view_is) ∙ ap pairs_in c.in-Leaf.is in
    let kept = rw c.in-Leaf.is at c.self.invariant.kept in
    let rising : IsRising c.in-Leaf.entries.items = subst (λ (ps : List (ℕ × _)). IsRising ps) here c.requires.rising in
    let held = subst (λ (ps : List (ℕ × _)). Contains ps (c.args.label, c.requires.held.0)) here c.requires.held.1 in
    known_kept g.R.Run c.args.label c.args.run c.in-Leaf.entries.items c.change_entry-moved.new.entries.items c.requires.held.0 c.self.inside.summary c.change_entry-moved.result.gained.known rising held kept c.change_entry-moved.ensures.pairs c.change_entry-moved.ensures.gained

pub kept_after-self-inside-requires-clause-fit : goal.kept_after-self-inside-requires-clause-fit
kept_after-self-inside-requires-clause-fit g t c =
    let here : c.args.self.now.pairs ≡ c.in-Leaf.entries.items = sym (ap (λ (s : Tree _). s.pairs) c.self.view_is) ∙ ap pairs_in c.in-Leaf.is in
    subst (λ (ps : List (ℕ × _)). SumsFit g.R.Run ps) (sym c.change_entry-moved.ensures.pairs) (subst (λ (ps : List (ℕ × _)). SumsFit g.R.Run (changed ps c.args.label c.args.run)) here c.requires.fit)

pub kept_after-self-inside-requires-clause-moved : goal.kept_after-self-inside-requires-clause-moved
kept_after-self-inside-requires-clause-moved g t c =
    let kept = rw c.in-Leaf.is at c.self.invariant.kept in
    subst (λ (s : Sums). IsMoved s c.change_entry-moved.result.lost c.change_entry-moved.result.gained (sums_of g.R.Run c.change_entry-moved.new.entries.items)) (sym (ap (λ (s : Summary). s.sums) kept)) c.change_entry-moved.ensures.moved

pub invariant_of-self : goal.invariant_of-self
invariant_of-self g t c =
    let shape = rw c.in-Leaf.is at c.self.invariant.shape in
    let long = ap length c.change_entry-moved.ensures.pairs ∙ length-changed c.args.label c.args.run c.in-Leaf.entries.items in
    record {
      shape = (shape.0, omega (arith, long, shape.1), omega (arith, long, shape.2), c.change_entry-moved.ensures.room);
      kept = c.kept_after-self-inside.ensures;
    }

pub returns-in-Leaf-clause-pairs : goal.returns-in-Leaf-clause-pairs
returns-in-Leaf-clause-pairs g t c =
    let here : c.args.self.now.pairs ≡ c.in-Leaf.entries.items = sym (ap (λ (s : Tree _). s.pairs) c.self.view_is) ∙ ap pairs_in c.in-Leaf.is in
    c.change_entry-moved.ensures.pairs ∙ sym (ap (λ (ps : List (ℕ × _)). changed ps c.args.label c.args.run) here)

pub returns-in-Leaf-clause-moved : goal.returns-in-Leaf-clause-moved
returns-in-Leaf-clause-moved g t c =
    let here : c.args.self.now.pairs ≡ c.in-Leaf.entries.items = sym (ap (λ (s : Tree _). s.pairs) c.self.view_is) ∙ ap pairs_in c.in-Leaf.is in
    subst (λ (ps : List (ℕ × _)). IsMoved (sums_of g.R.Run ps) c.change_entry-moved.result.lost c.change_entry-moved.result.gained (sums_of g.R.Run c.change_entry-moved.new.entries.items)) (sym here) c.change_entry-moved.ensures.moved

-- INNER
pub place_of-k-requires-clause-some : goal.place_of-k-requires-clause-some
place_of-k-requires-clause-some g t c =
    let shape = rw c.in-Inner.is at c.self.invariant.shape in
    rw c.as_slice.ensures.value (kids_some c.self.inside.depth c.in-Inner.kids.items shape.0)

pub change-moved-requires : goal.change-moved-requires
change-moved-requires g t c κs within =
    let here : c.args.self.now.pairs ≡ all_pairs (λ k. k.pairs) c.in-Inner.kids.items = sym (ap (λ (s : Tree _). s.pairs) c.self.view_is) ∙ ap pairs_in c.in-Inner.is in
    let shape = rw c.in-Inner.is at c.self.invariant.shape in
    let deep : c.args.self.now.depth ≡ c.self.inside.depth = sym (ap (λ (s : Tree _). s.depth) c.self.view_is) in
    let rising : IsRising (all_pairs (λ k. k.pairs) c.in-Inner.kids.items) = subst (λ (ps : List (ℕ × _)). IsRising ps) here c.requires.rising in
    let kids = c.in-Inner.kids.items in
    let k = c.place_of-k.result in
    let list = c.as_slice.ensures.value in
    let lt : k < length kids = rw list at c.place_of-k.ensures.within in
    let below = rw list at c.place_of-k.ensures.before in
    let above = rw list at c.place_of-k.ensures.behind in
    let kid = c.index_mut.result.now in
    let is : kid ≡ slice_index_or kids k kid = c.index_mut.ensures.value in
    let lower = kid_lower c.self.inside.depth kids k kid shape.0 lt is in
    let fit = subst (λ (ps : List (ℕ × _)). SumsFit g.R.Run (changed ps c.args.label c.args.run)) here c.requires.fit in
    let r = c.requires.held.0 in
    let held = subst (λ (ps : List (ℕ × _)). Contains ps (c.args.label, r)) here c.requires.held.1 in (
      omega (arith, c.decreases, lower, deep),
      (
        within.0,
        (
          within.1,
          (
            part_rises (λ t. t.pairs) kids k kid lt is rising,
            (
              (r, part_holds (λ t. t.pairs) kids k kid lt is rising c.args.label r below above held),
              kid_fits g.R.Run kids k c.args.label kid lt is below above c.args.run fit,
            ),
          ),
        ),
      ),
    )

pub kept_after-self-inside-requires-in-Inner-clause-first : goal.kept_after-self-inside-requires-in-Inner-clause-first
kept_after-self-inside-requires-in-Inner-clause-first g t c =
    let kept = rw c.in-Inner.is at c.self.invariant.kept in
    let kids = c.in-Inner.kids.items in
    let k = c.place_of-k.result in
    let list = c.as_slice.ensures.value in
    let lt : k < length kids = rw list at c.place_of-k.ensures.within in
    let below = rw list at c.place_of-k.ensures.before in
    let above = rw list at c.place_of-k.ensures.behind in
    let kid = c.index_mut.result.now in
    let is : kid ≡ slice_index_or kids k kid = c.index_mut.ensures.value in
    let w = c.change-moved.new.self in
    ap (λ (s : Summary). s.first) kept
    ∙ sym (ap first_or_zero (kid_changed g.R.Run kids k c.args.label kid lt is below above c.args.run w c.change-moved.ensures.pairs) ∙ first_changed c.args.label c.args.run (all_pairs (λ t. t.pairs) kids))

pub kept_after-self-inside-requires-in-Inner-clause-known : goal.kept_after-self-inside-requires-in-Inner-clause-known
kept_after-self-inside-requires-in-Inner-clause-known g t c =
    let here : c.args.self.now.pairs ≡ all_pairs (λ k. k.pairs) c.in-Inner.kids.items = sym (ap (λ (s : Tree _). s.pairs) c.self.view_is) ∙ ap pairs_in c.in-Inner.is in
    let kept = rw c.in-Inner.is at c.self.invariant.kept in
    let rising : IsRising (all_pairs (λ k. k.pairs) c.in-Inner.kids.items) = subst (λ (ps : List (ℕ × _)). IsRising ps) here c.requires.rising in
    let held = subst (λ (ps : List (ℕ × _)). Contains ps (c.args.label, c.requires.held.0)) here c.requires.held.1 in
    let kids = c.in-Inner.kids.items in
    let k = c.place_of-k.result in
    let list = c.as_slice.ensures.value in
    let lt : k < length kids = rw list at c.place_of-k.ensures.within in
    let below = rw list at c.place_of-k.ensures.before in
    let above = rw list at c.place_of-k.ensures.behind in
    let kid = c.index_mut.result.now in
    let is : kid ≡ slice_index_or kids k kid = c.index_mut.ensures.value in
    let w = c.change-moved.new.self in
    known_kept g.R.Run c.args.label c.args.run (all_pairs (λ t. t.pairs) kids) (all_pairs (λ t. t.pairs) (slice_set kids k w)) c.requires.held.0 c.self.inside.summary c.change-moved.result.gained.known rising held kept
    (kid_changed g.R.Run kids k c.args.label kid lt is below above c.args.run w c.change-moved.ensures.pairs) c.change-moved.ensures.gained

pub kept_after-self-inside-requires-in-Inner-clause-fit : goal.kept_after-self-inside-requires-in-Inner-clause-fit
kept_after-self-inside-requires-in-Inner-clause-fit g t c =
    let here : c.args.self.now.pairs ≡ all_pairs (λ k. k.pairs) c.in-Inner.kids.items = sym (ap (λ (s : Tree _). s.pairs) c.self.view_is) ∙ ap pairs_in c.in-Inner.is in
    let kids = c.in-Inner.kids.items in
    let k = c.place_of-k.result in
    let list = c.as_slice.ensures.value in
    let lt : k < length kids = rw list at c.place_of-k.ensures.within in
    let below = rw list at c.place_of-k.ensures.before in
    let above = rw list at c.place_of-k.ensures.behind in
    let kid = c.index_mut.result.now in
    let is : kid ≡ slice_index_or kids k kid = c.index_mut.ensures.value in
    let fit = subst (λ (ps : List (ℕ × _)). SumsFit g.R.Run (changed ps c.args.label c.args.run)) here c.requires.fit in
    let w = c.change-moved.new.self in
    subst (λ (ps : List (ℕ × _)). SumsFit g.R.Run ps) (sym (kid_changed g.R.Run kids k c.args.label kid lt is below above c.args.run w c.change-moved.ensures.pairs)) fit

pub kept_after-self-inside-requires-in-Inner-clause-moved : goal.kept_after-self-inside-requires-in-Inner-clause-moved
kept_after-self-inside-requires-in-Inner-clause-moved g t c =
    let kept = rw c.in-Inner.is at c.self.invariant.kept in
    let kids = c.in-Inner.kids.items in
    let k = c.place_of-k.result in
    let list = c.as_slice.ensures.value in
    let lt : k < length kids = rw list at c.place_of-k.ensures.within in
    let below = rw list at c.place_of-k.ensures.before in
    let above = rw list at c.place_of-k.ensures.behind in
    let kid = c.index_mut.result.now in
    let is : kid ≡ slice_index_or kids k kid = c.index_mut.ensures.value in
    let w = c.change-moved.new.self in
    let lost = c.change-moved.result.lost in
    let gained = c.change-moved.result.gained in
    subst (λ (s : Sums). IsMoved s lost gained (sums_of g.R.Run (all_pairs (λ t. t.pairs) (slice_set kids k w)))) (sym (ap (λ (s : Summary). s.sums) kept))
    (kid_moved g.R.Run kids k c.args.label kid lt is below above w lost gained c.change-moved.ensures.moved)

pub invariant_of-self-in-Inner : goal.invariant_of-self-in-Inner
invariant_of-self-in-Inner g t c =
    let shape = rw c.in-Inner.is at c.self.invariant.shape in
    let kids = c.in-Inner.kids.items in
    let k = c.place_of-k.result in
    let list = c.as_slice.ensures.value in
    let lt : k < length kids = rw list at c.place_of-k.ensures.within in
    let below = rw list at c.place_of-k.ensures.before in
    let above = rw list at c.place_of-k.ensures.behind in
    let kid = c.index_mut.result.now in
    let is : kid ≡ slice_index_or kids k kid = c.index_mut.ensures.value in
    let w = c.change-moved.new.self in
    let kept_below = AllBelow-same c.self.inside.depth kids k kid w shape.0 is c.change-moved.ensures.depth (ap length c.change-moved.ensures.pairs ∙ length-changed c.args.label c.args.run kid.pairs) in
    let len = length-set kids k w in
    record {
      shape = (kept_below, omega (arith, len, shape.1), omega (arith, len, shape.2), shape.3);
      kept = c.kept_after-self-inside-in-Inner.ensures;
    }

pub returns-in-Inner-clause-pairs : goal.returns-in-Inner-clause-pairs
returns-in-Inner-clause-pairs g t c =
    let here : c.args.self.now.pairs ≡ all_pairs (λ k. k.pairs) c.in-Inner.kids.items = sym (ap (λ (s : Tree _). s.pairs) c.self.view_is) ∙ ap pairs_in c.in-Inner.is in
    let kids = c.in-Inner.kids.items in
    let k = c.place_of-k.result in
    let list = c.as_slice.ensures.value in
    let lt : k < length kids = rw list at c.place_of-k.ensures.within in
    let below = rw list at c.place_of-k.ensures.before in
    let above = rw list at c.place_of-k.ensures.behind in
    let kid = c.index_mut.result.now in
    let is : kid ≡ slice_index_or kids k kid = c.index_mut.ensures.value in
    let w = c.change-moved.new.self in
    kid_changed g.R.Run kids k c.args.label kid lt is below above c.args.run w c.change-moved.ensures.pairs ∙ sym (ap (λ (ps : List (ℕ × _)). changed ps c.args.label c.args.run) here)

pub returns-in-Inner-clause-moved : goal.returns-in-Inner-clause-moved
returns-in-Inner-clause-moved g t c =
    let here : c.args.self.now.pairs ≡ all_pairs (λ k. k.pairs) c.in-Inner.kids.items = sym (ap (λ (s : Tree _). s.pairs) c.self.view_is) ∙ ap pairs_in c.in-Inner.is in
    let kids = c.in-Inner.kids.items in
    let k = c.place_of-k.result in
    let list = c.as_slice.ensures.value in
    let lt : k < length kids = rw list at c.place_of-k.ensures.within in
    let below = rw list at c.place_of-k.ensures.before in
    let above = rw list at c.place_of-k.ensures.behind in
    let kid = c.index_mut.result.now in
    let is : kid ≡ slice_index_or kids k kid = c.index_mut.ensures.value in
    let w = c.change-moved.new.self in
    let lost = c.change-moved.result.lost in
    let gained = c.change-moved.result.gained in
    subst (λ (ps : List (ℕ × _)). IsMoved (sums_of g.R.Run ps) lost gained (sums_of g.R.Run (all_pairs (λ t. t.pairs) (slice_set kids k w)))) (sym here)
    (kid_moved g.R.Run kids k c.args.label kid lt is below above w lost gained c.change-moved.ensures.moved)

pub returns-in-Inner-clause-cost : goal.returns-in-Inner-clause-cost
returns-in-Inner-clause-cost g t c =
    let shape = rw c.in-Inner.is at c.self.invariant.shape in
    let deep : c.args.self.now.depth ≡ c.self.inside.depth = sym (ap (λ (s : Tree _). s.depth) c.self.view_is) in
    let kids = c.in-Inner.kids.items in
    let k = c.place_of-k.result in
    let list = c.as_slice.ensures.value in
    let lt : k < length kids = rw list at c.place_of-k.ensures.within in
    let below = rw list at c.place_of-k.ensures.before in
    let above = rw list at c.place_of-k.ensures.behind in
    let kid = c.index_mut.result.now in
    let is : kid ≡ slice_index_or kids k kid = c.index_mut.ensures.value in
    let lower = kid_lower c.self.inside.depth kids k kid shape.0 lt is in
    omega (arith, c.change-moved.ensures.cost, c.tick.ensures, lower, deep)
