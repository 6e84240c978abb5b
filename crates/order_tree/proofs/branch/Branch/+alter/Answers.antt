use Rattle.std.proofs.Common.{◌≡◌, ℕ, ◌<◌, List, length, slice_index_or, slice_set, Contains, arith, sym, ap, ◌∙◌, subst}
use Rattle.std.proofs.lemmas.List.{length-set}
use Rattle.order_tree.specs.Pairs.{Tree, IsRising}
use Rattle.order_tree.specs.Parts.{all_pairs}
use Rattle.order_tree.specs.Shape.{pairs_in}
use Rattle.order_tree.specs.Alterations.{IsAnswer}
use Rattle.order_tree.proofs.KidLaws.{kids_some, kid_lower}
use Rattle.order_tree.proofs.KidPlaces.{part_rises, part_holds}
use Rattle.order_tree.proofs.ChangeLaws.{AllBelow-same}
use Rattle.order_tree.proofs.AlterLaws.{AllFit, taken_long, taken_kept, kid_all_fit, kid_suits, kid_taken}
use Rattle.order_tree.proofs.branch.Branch.+alter.Goals as goal

-- LEAF
pub alter_entry-requires-clause-suits : goal.alter_entry-requires-clause-suits
alter_entry-requires-clause-suits g t c =
    let here : c.args.self.now.pairs ≡ c.in-Leaf.entries.items = sym (ap (λ (s : Tree _). s.pairs) c.self.view_is) ∙ ap pairs_in c.in-Leaf.is in
    subst (λ (ps : List (ℕ × _)). (run : _) → Contains ps (c.args.label, run) → g.A.Alteration.suits c.args.alteration.now run) here c.requires.suits

pub kept_if-self-inside-requires : goal.kept_if-self-inside-requires
kept_if-self-inside-requires g t c =
    let here : c.args.self.now.pairs ≡ c.in-Leaf.entries.items = sym (ap (λ (s : Tree _). s.pairs) c.self.view_is) ∙ ap pairs_in c.in-Leaf.is in
    let kept = rw c.in-Leaf.is at c.self.invariant.kept in
    let makes = g.A.Alteration.makes c.args.alteration.now in
    let rising : IsRising c.in-Leaf.entries.items = subst (λ (ps : List (ℕ × _)). IsRising ps) here c.requires.rising in
    let held = subst (λ (ps : List (ℕ × _)). Contains ps (c.args.label, c.requires.held.0)) here c.requires.held.1 in
    let fit = subst (λ (ps : List (ℕ × _)). AllFit g.R.Run makes c.args.label ps) here c.requires.fit in
    taken_kept g.R.Run makes c.args.label c.in-Leaf.entries.items c.alter_entry.new.entries.items c.self.inside.summary c.requires.held.0 c.alter_entry.result rising held fit kept c.alter_entry.ensures.taken

pub invariant_of-self : goal.invariant_of-self
invariant_of-self g t c =
    let shape = rw c.in-Leaf.is at c.self.invariant.shape in
    let makes = g.A.Alteration.makes c.args.alteration.now in
    let long = taken_long g.R.Run makes c.args.label c.in-Leaf.entries.items c.alter_entry.new.entries.items c.alter_entry.result c.alter_entry.ensures.taken in
    record {
      shape = (shape.0, omega (arith, long, shape.1), omega (arith, long, shape.2), c.alter_entry.ensures.room);
      kept = c.kept_if-self-inside.ensures;
    }

pub returns-in-Leaf-clause-taken : goal.returns-in-Leaf-clause-taken
returns-in-Leaf-clause-taken g t c =
    let here : c.args.self.now.pairs ≡ c.in-Leaf.entries.items = sym (ap (λ (s : Tree _). s.pairs) c.self.view_is) ∙ ap pairs_in c.in-Leaf.is in
    let makes = g.A.Alteration.makes c.args.alteration.now in
    subst (λ (ps : List (ℕ × _)). IsAnswer g.R.Run makes c.args.label ps c.alter_entry.new.entries.items c.alter_entry.result) (sym here) c.alter_entry.ensures.taken

-- INNER
pub place_of-k-requires-clause-some : goal.place_of-k-requires-clause-some
place_of-k-requires-clause-some g t c =
    let shape = rw c.in-Inner.is at c.self.invariant.shape in
    rw c.as_slice.ensures.value (kids_some c.self.inside.depth c.in-Inner.kids.items shape.0)

pub alter-requires : goal.alter-requires
alter-requires g t c κs within =
    let here : c.args.self.now.pairs ≡ all_pairs (λ k. k.pairs) c.in-Inner.kids.items = sym (ap (λ (s : Tree _). s.pairs) c.self.view_is) ∙ ap pairs_in c.in-Inner.is in
    let shape = rw c.in-Inner.is at c.self.invariant.shape in
    let deep : c.args.self.now.depth ≡ c.self.inside.depth = sym (ap (λ (s : Tree _). s.depth) c.self.view_is) in
    let makes = g.A.Alteration.makes c.args.alteration.now in
    let suits = g.A.Alteration.suits c.args.alteration.now in
    let rising : IsRising (all_pairs (λ k. k.pairs) c.in-Inner.kids.items) = subst (λ (ps : List (ℕ × _)). IsRising ps) here c.requires.rising in
    let kids = c.in-Inner.kids.items in
    let k = c.place_of-k.result in
    let list = c.as_slice.ensures.value in
    let lt : k < length kids = rw list at c.place_of-k.ensures.within in
    let below = rw list at c.place_of-k.ensures.before in
    let above = rw list at c.place_of-k.ensures.behind in
    let kid = c.index_mut.result.now in
    let is : kid ≡ slice_index_or kids k kid = c.index_mut.ensures.value in
    let lower = kid_lower c.self.inside.depth kids k kid shape.0 lt is in
    let r = c.requires.held.0 in
    let held = subst (λ (ps : List (ℕ × _)). Contains ps (c.args.label, r)) here c.requires.held.1 in
    let fit = subst (λ (ps : List (ℕ × _)). AllFit g.R.Run makes c.args.label ps) here c.requires.fit in
    let all_suit = subst (λ (ps : List (ℕ × _)). (run : _) → Contains ps (c.args.label, run) → suits run) here c.requires.suits in (
      omega (arith, c.decreases, lower, deep),
      (
        within.0,
        (
          within.1.0,
          (
            within.1.1,
            (
              part_rises (λ t. t.pairs) kids k kid lt is rising,
              (
                (r, part_holds (λ t. t.pairs) kids k kid lt is rising c.args.label r below above held),
                (
                  kid_suits g.R.Run makes kids k c.args.label kid lt is rising below above suits all_suit,
                  kid_all_fit g.R.Run makes kids k c.args.label kid lt is rising below above fit,
                ),
              ),
            ),
          ),
        ),
      ),
    )

pub kept_if-self-inside-requires-in-Inner : goal.kept_if-self-inside-requires-in-Inner
kept_if-self-inside-requires-in-Inner g t c =
    let here : c.args.self.now.pairs ≡ all_pairs (λ k. k.pairs) c.in-Inner.kids.items = sym (ap (λ (s : Tree _). s.pairs) c.self.view_is) ∙ ap pairs_in c.in-Inner.is in
    let kept = rw c.in-Inner.is at c.self.invariant.kept in
    let makes = g.A.Alteration.makes c.args.alteration.now in
    let rising : IsRising (all_pairs (λ k. k.pairs) c.in-Inner.kids.items) = subst (λ (ps : List (ℕ × _)). IsRising ps) here c.requires.rising in
    let kids = c.in-Inner.kids.items in
    let k = c.place_of-k.result in
    let list = c.as_slice.ensures.value in
    let lt : k < length kids = rw list at c.place_of-k.ensures.within in
    let below = rw list at c.place_of-k.ensures.before in
    let above = rw list at c.place_of-k.ensures.behind in
    let kid = c.index_mut.result.now in
    let is : kid ≡ slice_index_or kids k kid = c.index_mut.ensures.value in
    let held = subst (λ (ps : List (ℕ × _)). Contains ps (c.args.label, c.requires.held.0)) here c.requires.held.1 in
    let fit = subst (λ (ps : List (ℕ × _)). AllFit g.R.Run makes c.args.label ps) here c.requires.fit in
    let w = c.alter.new.self in
    let all = kid_taken g.R.Run makes kids k c.args.label kid lt is rising below above w c.alter.new.taken c.alter.ensures.taken in
    taken_kept g.R.Run makes c.args.label (all_pairs (λ t. t.pairs) kids) (all_pairs (λ t. t.pairs) (slice_set kids k w)) c.self.inside.summary c.requires.held.0 c.alter.new.taken rising held fit kept all

pub invariant_of-self-in-Inner : goal.invariant_of-self-in-Inner
invariant_of-self-in-Inner g t c =
    let shape = rw c.in-Inner.is at c.self.invariant.shape in
    let makes = g.A.Alteration.makes c.args.alteration.now in
    let kids = c.in-Inner.kids.items in
    let k = c.place_of-k.result in
    let kid = c.index_mut.result.now in
    let is : kid ≡ slice_index_or kids k kid = c.index_mut.ensures.value in
    let w = c.alter.new.self in
    let long = taken_long g.R.Run makes c.args.label kid.pairs w.pairs c.alter.new.taken c.alter.ensures.taken in
    let kept_below = AllBelow-same c.self.inside.depth kids k kid w shape.0 is c.alter.ensures.depth long in
    let len = length-set kids k w in
    record {
      shape = (kept_below, omega (arith, len, shape.1), omega (arith, len, shape.2), shape.3);
      kept = c.kept_if-self-inside-in-Inner.ensures;
    }

pub returns-in-Inner-clause-taken : goal.returns-in-Inner-clause-taken
returns-in-Inner-clause-taken g t c =
    let here : c.args.self.now.pairs ≡ all_pairs (λ k. k.pairs) c.in-Inner.kids.items = sym (ap (λ (s : Tree _). s.pairs) c.self.view_is) ∙ ap pairs_in c.in-Inner.is in
    let makes = g.A.Alteration.makes c.args.alteration.now in
    let rising : IsRising (all_pairs (λ k. k.pairs) c.in-Inner.kids.items) = subst (λ (ps : List (ℕ × _)). IsRising ps) here c.requires.rising in
    let kids = c.in-Inner.kids.items in
    let k = c.place_of-k.result in
    let list = c.as_slice.ensures.value in
    let lt : k < length kids = rw list at c.place_of-k.ensures.within in
    let below = rw list at c.place_of-k.ensures.before in
    let above = rw list at c.place_of-k.ensures.behind in
    let kid = c.index_mut.result.now in
    let is : kid ≡ slice_index_or kids k kid = c.index_mut.ensures.value in
    let w = c.alter.new.self in
    let all = kid_taken g.R.Run makes kids k c.args.label kid lt is rising below above w c.alter.new.taken c.alter.ensures.taken in
    subst (λ (ps : List (ℕ × _)). IsAnswer g.R.Run makes c.args.label ps (all_pairs (λ t. t.pairs) (slice_set kids k w)) c.alter.new.taken) (sym here) all

pub returns-in-Inner-clause-cost : goal.returns-in-Inner-clause-cost
returns-in-Inner-clause-cost g t c =
    let shape = rw c.in-Inner.is at c.self.invariant.shape in
    let deep : c.args.self.now.depth ≡ c.self.inside.depth = sym (ap (λ (s : Tree _). s.depth) c.self.view_is) in
    let kids = c.in-Inner.kids.items in
    let k = c.place_of-k.result in
    let list = c.as_slice.ensures.value in
    let lt : k < length kids = rw list at c.place_of-k.ensures.within in
    let kid = c.index_mut.result.now in
    let is : kid ≡ slice_index_or kids k kid = c.index_mut.ensures.value in
    let lower = kid_lower c.self.inside.depth kids k kid shape.0 lt is in
    omega (arith, c.alter.ensures.cost, c.tick.ensures, lower, deep)
