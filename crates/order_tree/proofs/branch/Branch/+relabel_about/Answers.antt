use Rattle.std.proofs.Common.{◌≡◌, ℕ, ◌+◌, ◌<◌, List, length, slice_index_or, slice_set, Contains, arith, refl, sym, ap, ◌∙◌, subst}
use Rattle.std.proofs.lemmas.List.{length-set}
use Rattle.order_tree.specs.declared.summary.Summary.{Summary}
use Rattle.order_tree.specs.Pairs.{Tree, labels, runs, IsRising}
use Rattle.order_tree.specs.Parts.{all_pairs}
use Rattle.order_tree.specs.Shape.{pairs_in}
use Rattle.order_tree.specs.Abouts.{IsSpreadIn, IsTried}
use Rattle.order_tree.proofs.KidLaws.{kids_some, kid_lower}
use Rattle.order_tree.proofs.KidPlaces.{part_rises, part_holds}
use Rattle.order_tree.proofs.PairLaws.{has_label}
use Rattle.order_tree.proofs.ChangeLaws.{AllBelow-same}
use Rattle.order_tree.proofs.AboutLaws.{sums-same, length-same, kids_runs, kids_spread, kids_same, others_count, within_spread, label_of, kids_counted, tree_is}
use Rattle.order_tree.proofs.branch.Branch.+relabel_about.Goals as goal

pub relabel_about-tried-requires : goal.relabel_about-tried-requires
relabel_about-tried-requires g t c κs within =
    let here : c.args.self.now.pairs ≡ all_pairs (λ k. k.pairs) c.in-Inner.kids.items = sym (ap (λ (s : Tree _). s.pairs) c.self.view_is) ∙ ap pairs_in c.in-Inner.is in
    let shape = rw c.in-Inner.is at c.self.invariant.shape in
    let deep : c.args.self.now.depth ≡ c.self.inside.depth = sym (ap (λ (s : Tree _). s.depth) c.self.view_is) in
    let rising : IsRising (all_pairs (λ k. k.pairs) c.in-Inner.kids.items) = subst (λ (ps : List (ℕ × _)). IsRising ps) here c.requires.rising in
    let kids = c.in-Inner.kids.items in
    let k = c.place_about-k.result.0 in
    let list = c.as_slice.ensures.value in
    let lt : k < length kids = rw list at c.place_about-k.ensures.within in
    let below = rw list at c.place_about-k.ensures.before in
    let above = rw list at c.place_about-k.ensures.behind in
    let kid = c.index_mut.result.now in
    let is : kid ≡ slice_index_or kids k kid = c.index_mut.ensures.value in
    let lower = kid_lower c.self.inside.depth kids k kid shape.0 lt is in
    let found = has_label (all_pairs (λ k. k.pairs) kids) c.args.label (subst (λ (ps : List (ℕ × _)). Contains (labels ps) c.args.label) here c.requires.held) in
    let held = part_holds (λ t. t.pairs) kids k kid lt is rising c.args.label found.0 below above found.1 in
    let few = others_count kids k lt kid in (
      omega (arith, c.decreases, lower, deep),
      (
        within.0,
        (
          within.1,
          (
            part_rises (λ t. t.pairs) kids k kid lt is rising,
            (label_of c.args.label found.0 kid.pairs held, omega (arith, few, ap (λ (s : Tree _). length s.pairs) is, c.requires.few, ap length here)),
          ),
        ),
      ),
    )

pub summary_with-self-inside-requires-clause-first : goal.summary_with-self-inside-requires-clause-first
summary_with-self-inside-requires-clause-first g t c =
    let shape = rw c.in-Inner.is at c.self.invariant.shape in
    let kids = c.in-Inner.kids.items in
    let k = c.place_about-k.result.0 in
    let lt : k < length kids = rw c.as_slice.ensures.value at c.place_about-k.ensures.within in
    let kid = c.index_mut.result.now in
    let w = c.relabel_about-tried.new.self in
    let kept = AllBelow-same c.self.inside.depth kids k kid w shape.0 c.index_mut.ensures.value c.relabel_about-tried.ensures.depth (length-same w.pairs kid.pairs c.relabel_about-tried.ensures.runs) in
    let some : 0 < length (slice_set kids k w) = omega (arith, length-set kids k w, shape.1) in
    rw c.as_slice-in-Inner.ensures.value (λ d. kids_some c.self.inside.depth (slice_set kids k w) kept 0 d some)

pub summary_with-self-inside-requires-clause-sums : goal.summary_with-self-inside-requires-clause-sums
summary_with-self-inside-requires-clause-sums g t c =
    let kept = rw c.in-Inner.is at c.self.invariant.kept in
    let kids = c.in-Inner.kids.items in
    let k = c.place_about-k.result.0 in
    let lt : k < length kids = rw c.as_slice.ensures.value at c.place_about-k.ensures.within in
    let kid = c.index_mut.result.now in
    let w = c.relabel_about-tried.new.self in
    let same = kids_runs kids k kid w lt c.index_mut.ensures.value c.relabel_about-tried.ensures.runs in
    rw c.as_slice-in-Inner.ensures.value (ap (λ (s : Summary). s.sums) kept ∙ sym (sums-same g.R.Run (all_pairs (λ t. t.pairs) (slice_set kids k w)) (all_pairs (λ t. t.pairs) kids) same))

pub overflow_add-count : goal.overflow_add-count
overflow_add-count g t c =
    let here : c.args.self.now.pairs ≡ all_pairs (λ k. k.pairs) c.in-Inner.kids.items = sym (ap (λ (s : Tree _). s.pairs) c.self.view_is) ∙ ap pairs_in c.in-Inner.is in
    let kids = c.in-Inner.kids.items in
    let k = c.place_about-k.result.0 in
    let lt : k < length kids = rw c.as_slice.ensures.value at c.place_about-k.ensures.within in
    let kid = c.index_mut.result.now in
    let is : kid ≡ slice_index_or kids k kid = c.index_mut.ensures.value in
    let w = c.relabel_about-tried.new.self in
    let counted = kids_counted kids k kid w lt is c.in-Crowded.ensures.tried.0 c.in-Crowded.count c.count_beside.result (slice_set kids k w) refl c.in-Crowded.ensures.tried.1 (c.count_beside.ensures.count kid) in
    omega (arith, c.requires.few, ap length here, counted)

-- NO ROOM IN ONE OF THE BRANCHES
pub invariant_of-self-in-Crowded : goal.invariant_of-self-in-Crowded
invariant_of-self-in-Crowded g t c =
    let shape = rw c.in-Inner.is at c.self.invariant.shape in
    let kids = c.in-Inner.kids.items in
    let k = c.place_about-k.result.0 in
    let lt : k < length kids = rw c.as_slice.ensures.value at c.place_about-k.ensures.within in
    let kid = c.index_mut.result.now in
    let is : kid ≡ slice_index_or kids k kid = c.index_mut.ensures.value in
    let w = c.relabel_about-tried.new.self in
    let below = AllBelow-same c.self.inside.depth kids k kid w shape.0 is c.relabel_about-tried.ensures.depth (length-same w.pairs kid.pairs c.relabel_about-tried.ensures.runs) in
    let len = length-set kids k w in
    record {
      shape = (below, omega (arith, len, shape.1), omega (arith, len, shape.2), shape.3);
      kept = rw c.as_slice-in-Inner.ensures.value at c.summary_with-self-inside.ensures;
    }

pub spread-requires-in-Crowded-clause-rising : goal.spread-requires-in-Crowded-clause-rising
spread-requires-in-Crowded-clause-rising g t c =
    let here : c.args.self.now.pairs ≡ all_pairs (λ k. k.pairs) c.in-Inner.kids.items = sym (ap (λ (s : Tree _). s.pairs) c.self.view_is) ∙ ap pairs_in c.in-Inner.is in
    let kids = c.in-Inner.kids.items in
    let k = c.place_about-k.result.0 in
    let lt : k < length kids = rw c.as_slice.ensures.value at c.place_about-k.ensures.within in
    let kid = c.index_mut.result.now in
    let is : kid ≡ slice_index_or kids k kid = c.index_mut.ensures.value in
    let w = c.relabel_about-tried.new.self in
    let same : all_pairs (λ k. k.pairs) (slice_set kids k w) ≡ c.args.self.now.pairs = kids_same kids k kid w lt is (ap (λ (t : Tree _). t.pairs) c.in-Crowded.ensures.tried.0) ∙ sym here in
    subst (λ (ps : List (ℕ × _)). IsRising ps) (sym same) c.requires.rising

pub spread-requires-in-Crowded-clause-held : goal.spread-requires-in-Crowded-clause-held
spread-requires-in-Crowded-clause-held g t c =
    let here : c.args.self.now.pairs ≡ all_pairs (λ k. k.pairs) c.in-Inner.kids.items = sym (ap (λ (s : Tree _). s.pairs) c.self.view_is) ∙ ap pairs_in c.in-Inner.is in
    let kids = c.in-Inner.kids.items in
    let k = c.place_about-k.result.0 in
    let lt : k < length kids = rw c.as_slice.ensures.value at c.place_about-k.ensures.within in
    let kid = c.index_mut.result.now in
    let is : kid ≡ slice_index_or kids k kid = c.index_mut.ensures.value in
    let w = c.relabel_about-tried.new.self in
    let same : all_pairs (λ k. k.pairs) (slice_set kids k w) ≡ c.args.self.now.pairs = kids_same kids k kid w lt is (ap (λ (t : Tree _). t.pairs) c.in-Crowded.ensures.tried.0) ∙ sym here in
    subst (λ (ps : List (ℕ × _)). Contains (labels ps) c.args.label) (sym same) c.requires.held

pub spread-requires-in-Crowded-clause-few : goal.spread-requires-in-Crowded-clause-few
spread-requires-in-Crowded-clause-few g t c =
    let here : c.args.self.now.pairs ≡ all_pairs (λ k. k.pairs) c.in-Inner.kids.items = sym (ap (λ (s : Tree _). s.pairs) c.self.view_is) ∙ ap pairs_in c.in-Inner.is in
    let kids = c.in-Inner.kids.items in
    let k = c.place_about-k.result.0 in
    let lt : k < length kids = rw c.as_slice.ensures.value at c.place_about-k.ensures.within in
    let kid = c.index_mut.result.now in
    let is : kid ≡ slice_index_or kids k kid = c.index_mut.ensures.value in
    let w = c.relabel_about-tried.new.self in
    let same : all_pairs (λ k. k.pairs) (slice_set kids k w) ≡ c.args.self.now.pairs = kids_same kids k kid w lt is (ap (λ (t : Tree _). t.pairs) c.in-Crowded.ensures.tried.0) ∙ sym here in
    omega (arith, c.requires.few, ap length same)

pub spread-requires-in-Crowded-clause-count : goal.spread-requires-in-Crowded-clause-count
spread-requires-in-Crowded-clause-count g t c =
    let here : c.args.self.now.pairs ≡ all_pairs (λ k. k.pairs) c.in-Inner.kids.items = sym (ap (λ (s : Tree _). s.pairs) c.self.view_is) ∙ ap pairs_in c.in-Inner.is in
    let kids = c.in-Inner.kids.items in
    let k = c.place_about-k.result.0 in
    let lt : k < length kids = rw c.as_slice.ensures.value at c.place_about-k.ensures.within in
    let kid = c.index_mut.result.now in
    let is : kid ≡ slice_index_or kids k kid = c.index_mut.ensures.value in
    let w = c.relabel_about-tried.new.self in
    let same : all_pairs (λ k. k.pairs) (slice_set kids k w) ≡ c.args.self.now.pairs = kids_same kids k kid w lt is (ap (λ (t : Tree _). t.pairs) c.in-Crowded.ensures.tried.0) ∙ sym here in
    let counted = kids_counted kids k kid w lt is c.in-Crowded.ensures.tried.0 c.in-Crowded.count c.count_beside.result (slice_set kids k w) refl c.in-Crowded.ensures.tried.1 (c.count_beside.ensures.count kid) in
    omega (arith, counted, ap length same, ap length here)

pub returns-in-Crowded-clause-tried : goal.returns-in-Crowded-clause-tried
returns-in-Crowded-clause-tried g t c =
    let here : c.args.self.now.pairs ≡ all_pairs (λ k. k.pairs) c.in-Inner.kids.items = sym (ap (λ (s : Tree _). s.pairs) c.self.view_is) ∙ ap pairs_in c.in-Inner.is in
    let deep : c.args.self.now.depth ≡ c.self.inside.depth = sym (ap (λ (s : Tree _). s.depth) c.self.view_is) in
    let kids = c.in-Inner.kids.items in
    let k = c.place_about-k.result.0 in
    let lt : k < length kids = rw c.as_slice.ensures.value at c.place_about-k.ensures.within in
    let kid = c.index_mut.result.now in
    let is : kid ≡ slice_index_or kids k kid = c.index_mut.ensures.value in
    let w = c.relabel_about-tried.new.self in
    let same : all_pairs (λ k. k.pairs) (slice_set kids k w) ≡ c.args.self.now.pairs = kids_same kids k kid w lt is (ap (λ (t : Tree _). t.pairs) c.in-Crowded.ensures.tried.0) ∙ sym here in
    let before : Tree _ = record { pairs = all_pairs (λ k. k.pairs) (slice_set kids k w); depth = c.self.inside.depth } in
    subst (λ (t : Tree _). IsTried (c.args.most + 1) c.args.label t c.spread-in-Crowded.new.self c.spread-in-Crowded.result) (tree_is before c.args.self.now same (sym deep)) c.spread-in-Crowded.ensures.tried

pub returns-in-Crowded-clause-runs : goal.returns-in-Crowded-clause-runs
returns-in-Crowded-clause-runs g t c =
    let here : c.args.self.now.pairs ≡ all_pairs (λ k. k.pairs) c.in-Inner.kids.items = sym (ap (λ (s : Tree _). s.pairs) c.self.view_is) ∙ ap pairs_in c.in-Inner.is in
    let kids = c.in-Inner.kids.items in
    let k = c.place_about-k.result.0 in
    let lt : k < length kids = rw c.as_slice.ensures.value at c.place_about-k.ensures.within in
    let kid = c.index_mut.result.now in
    let is : kid ≡ slice_index_or kids k kid = c.index_mut.ensures.value in
    let w = c.relabel_about-tried.new.self in
    let same : all_pairs (λ k. k.pairs) (slice_set kids k w) ≡ c.args.self.now.pairs = kids_same kids k kid w lt is (ap (λ (t : Tree _). t.pairs) c.in-Crowded.ensures.tried.0) ∙ sym here in
    c.spread-in-Crowded.ensures.runs ∙ ap (λ (ps : List (ℕ × _)). runs ps) same

pub returns-in-Crowded-clause-cost : goal.returns-in-Crowded-clause-cost
returns-in-Crowded-clause-cost g t c =
    let here : c.args.self.now.pairs ≡ all_pairs (λ k. k.pairs) c.in-Inner.kids.items = sym (ap (λ (s : Tree _). s.pairs) c.self.view_is) ∙ ap pairs_in c.in-Inner.is in
    let shape = rw c.in-Inner.is at c.self.invariant.shape in
    let kids = c.in-Inner.kids.items in
    let k = c.place_about-k.result.0 in
    let lt : k < length kids = rw c.as_slice.ensures.value at c.place_about-k.ensures.within in
    let kid = c.index_mut.result.now in
    let is : kid ≡ slice_index_or kids k kid = c.index_mut.ensures.value in
    let w = c.relabel_about-tried.new.self in
    let same : all_pairs (λ k. k.pairs) (slice_set kids k w) ≡ c.args.self.now.pairs = kids_same kids k kid w lt is (ap (λ (t : Tree _). t.pairs) c.in-Crowded.ensures.tried.0) ∙ sym here in
    let counted = kids_counted kids k kid w lt is c.in-Crowded.ensures.tried.0 c.in-Crowded.count c.count_beside.result (slice_set kids k w) refl c.in-Crowded.ensures.tried.1 (c.count_beside.ensures.count kid) in
    let list = length-set kids k w in
    let all = ap length here in
    within_spread c.args.self.now c.args.visits.now c.count_beside.new.visits c.spread-in-Crowded.new.visits c.spread-in-Crowded.result
    (omega (arith, c.tick.ensures, c.in-Crowded.ensures.cost, c.in-Crowded.ensures.tried.1, c.count_beside.ensures.cost, list, shape.1, counted, all))
    (omega (arith, c.spread-in-Crowded.ensures.cost, ap length same)) c.spread-in-Crowded.ensures.crowded

-- ROOM IN IT
pub invariant_of-self-in-Given : goal.invariant_of-self-in-Given
invariant_of-self-in-Given g t c =
    let shape = rw c.in-Inner.is at c.self.invariant.shape in
    let kids = c.in-Inner.kids.items in
    let k = c.place_about-k.result.0 in
    let lt : k < length kids = rw c.as_slice.ensures.value at c.place_about-k.ensures.within in
    let kid = c.index_mut.result.now in
    let is : kid ≡ slice_index_or kids k kid = c.index_mut.ensures.value in
    let w = c.relabel_about-tried.new.self in
    let below = AllBelow-same c.self.inside.depth kids k kid w shape.0 is c.relabel_about-tried.ensures.depth (length-same w.pairs kid.pairs c.relabel_about-tried.ensures.runs) in
    let len = length-set kids k w in
    record {
      shape = (below, omega (arith, len, shape.1), omega (arith, len, shape.2), shape.3);
      kept = rw c.as_slice-in-Inner.ensures.value at c.summary_with-self-inside.ensures;
    }

pub returns-in-Given-clause-tried : goal.returns-in-Given-clause-tried
returns-in-Given-clause-tried g t c =
    let here : c.args.self.now.pairs ≡ all_pairs (λ k. k.pairs) c.in-Inner.kids.items = sym (ap (λ (s : Tree _). s.pairs) c.self.view_is) ∙ ap pairs_in c.in-Inner.is in
    let kids = c.in-Inner.kids.items in
    let k = c.place_about-k.result.0 in
    let lt : k < length kids = rw c.as_slice.ensures.value at c.place_about-k.ensures.within in
    let kid = c.index_mut.result.now in
    let is : kid ≡ slice_index_or kids k kid = c.index_mut.ensures.value in
    let w = c.relabel_about-tried.new.self in
    let most = rw c.as_slice.ensures.value at c.place_about-k.ensures.most in
    subst (λ (ps : List (ℕ × _)). IsSpreadIn (c.args.most + 1) c.args.label ps (all_pairs (λ k. k.pairs) (slice_set kids k w)) c.in-Given.given.items) (sym here)
    (kids_spread kids k kid w lt is (c.args.most + 1) (c.place_about-k.result.1 + 1) c.args.label c.in-Given.given.items most c.in-Given.ensures.tried)

pub returns-in-Given-clause-runs : goal.returns-in-Given-clause-runs
returns-in-Given-clause-runs g t c =
    let here : c.args.self.now.pairs ≡ all_pairs (λ k. k.pairs) c.in-Inner.kids.items = sym (ap (λ (s : Tree _). s.pairs) c.self.view_is) ∙ ap pairs_in c.in-Inner.is in
    let kids = c.in-Inner.kids.items in
    let k = c.place_about-k.result.0 in
    let lt : k < length kids = rw c.as_slice.ensures.value at c.place_about-k.ensures.within in
    let kid = c.index_mut.result.now in
    let is : kid ≡ slice_index_or kids k kid = c.index_mut.ensures.value in
    let w = c.relabel_about-tried.new.self in
    kids_runs kids k kid w lt is c.relabel_about-tried.ensures.runs ∙ sym (ap (λ (ps : List (ℕ × _)). runs ps) here)

pub returns-in-Given-clause-cost : goal.returns-in-Given-clause-cost
returns-in-Given-clause-cost g t c =
    let here : c.args.self.now.pairs ≡ all_pairs (λ k. k.pairs) c.in-Inner.kids.items = sym (ap (λ (s : Tree _). s.pairs) c.self.view_is) ∙ ap pairs_in c.in-Inner.is in
    let shape = rw c.in-Inner.is at c.self.invariant.shape in
    let deep : c.args.self.now.depth ≡ c.self.inside.depth = sym (ap (λ (s : Tree _). s.depth) c.self.view_is) in
    let kids = c.in-Inner.kids.items in
    let k = c.place_about-k.result.0 in
    let lt : k < length kids = rw c.as_slice.ensures.value at c.place_about-k.ensures.within in
    let kid = c.index_mut.result.now in
    let is : kid ≡ slice_index_or kids k kid = c.index_mut.ensures.value in
    let w = c.relabel_about-tried.new.self in
    let lower = kid_lower c.self.inside.depth kids k kid shape.0 lt is in
    omega (arith, c.tick.ensures, c.in-Given.ensures.cost, lower, deep, ap length here, others_count kids k lt kid, ap (λ (t : Tree _). length t.pairs) is)

pub returns-in-NoMemory-clause-cost : goal.returns-in-NoMemory-clause-cost
returns-in-NoMemory-clause-cost g t c =
    let here : c.args.self.now.pairs ≡ all_pairs (λ k. k.pairs) c.in-Inner.kids.items = sym (ap (λ (s : Tree _). s.pairs) c.self.view_is) ∙ ap pairs_in c.in-Inner.is in
    let shape = rw c.in-Inner.is at c.self.invariant.shape in
    let deep : c.args.self.now.depth ≡ c.self.inside.depth = sym (ap (λ (s : Tree _). s.depth) c.self.view_is) in
    let kids = c.in-Inner.kids.items in
    let k = c.place_about-k.result.0 in
    let lt : k < length kids = rw c.as_slice.ensures.value at c.place_about-k.ensures.within in
    let kid = c.index_mut.result.now in
    let is : kid ≡ slice_index_or kids k kid = c.index_mut.ensures.value in
    let w = c.relabel_about-tried.new.self in
    let lower = kid_lower c.self.inside.depth kids k kid shape.0 lt is in
    omega (arith, c.tick.ensures, c.in-NoMemory.ensures.cost, lower, deep, ap length here, others_count kids k lt kid, ap (λ (t : Tree _). length t.pairs) is)

-- AT LEAST ONE WAY DOWN
pub returns-in-Crowded-clause-onward : goal.returns-in-Crowded-clause-onward
returns-in-Crowded-clause-onward g t c =
    let shape = rw c.in-Inner.is at c.self.invariant.shape in
    let deep : c.args.self.now.depth ≡ c.self.inside.depth = sym (ap (λ (s : Tree _). s.depth) c.self.view_is) in
    let kids = c.in-Inner.kids.items in
    let k = c.place_about-k.result.0 in
    let lt : k < length kids = rw c.as_slice.ensures.value at c.place_about-k.ensures.within in
    let kid = c.index_mut.result.now in
    let is : kid ≡ slice_index_or kids k kid = c.index_mut.ensures.value in
    let lower = kid_lower c.self.inside.depth kids k kid shape.0 lt is in
    omega (arith, c.tick.ensures, c.relabel_about-tried.ensures.onward, c.count_beside.ensures.onward, c.spread-in-Crowded.ensures.onward, lower, deep)

pub returns-in-Given-clause-onward : goal.returns-in-Given-clause-onward
returns-in-Given-clause-onward g t c =
    let shape = rw c.in-Inner.is at c.self.invariant.shape in
    let deep : c.args.self.now.depth ≡ c.self.inside.depth = sym (ap (λ (s : Tree _). s.depth) c.self.view_is) in
    let kids = c.in-Inner.kids.items in
    let k = c.place_about-k.result.0 in
    let lt : k < length kids = rw c.as_slice.ensures.value at c.place_about-k.ensures.within in
    let kid = c.index_mut.result.now in
    let is : kid ≡ slice_index_or kids k kid = c.index_mut.ensures.value in
    let lower = kid_lower c.self.inside.depth kids k kid shape.0 lt is in
    omega (arith, c.tick.ensures, c.relabel_about-tried.ensures.onward, lower, deep)

pub returns-in-NoMemory-clause-onward : goal.returns-in-NoMemory-clause-onward
returns-in-NoMemory-clause-onward g t c =
    let shape = rw c.in-Inner.is at c.self.invariant.shape in
    let deep : c.args.self.now.depth ≡ c.self.inside.depth = sym (ap (λ (s : Tree _). s.depth) c.self.view_is) in
    let kids = c.in-Inner.kids.items in
    let k = c.place_about-k.result.0 in
    let lt : k < length kids = rw c.as_slice.ensures.value at c.place_about-k.ensures.within in
    let kid = c.index_mut.result.now in
    let is : kid ≡ slice_index_or kids k kid = c.index_mut.ensures.value in
    let lower = kid_lower c.self.inside.depth kids k kid shape.0 lt is in
    omega (arith, c.tick.ensures, c.relabel_about-tried.ensures.onward, lower, deep)
