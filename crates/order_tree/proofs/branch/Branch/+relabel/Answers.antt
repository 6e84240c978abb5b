use Rattle.std.proofs.Common.{◌≡◌, ℕ, ◌+◌, ◌^◌, ◌<◌, ◌++◌, List, length, vec_capacity, arith, refl, sym, ap, ◌∙◌, subst}
use Rattle.std.specs.Vec.{with_items}
use Rattle.std.proofs.lemmas.Nat.{pow_pos}
use Rattle.order_tree.specs.declared.relabel.Reached.{Reached}
use Rattle.order_tree.specs.declared.summary.Summary.{Summary}
use Rattle.order_tree.specs.Pairs.{Tree}
use Rattle.order_tree.specs.Parts.{last_known, all_pairs}
use Rattle.order_tree.specs.Shape.{pairs_in, AllBelow}
use Rattle.order_tree.specs.Relabels.{relabelled, renamed, reached}
use Rattle.order_tree.proofs.KidLaws.{kid_lower, bound_inner}
use Rattle.order_tree.proofs.RelabelLaws.{relabelling_none, relabelling_more, part_small, part_room, onward_pairs, onward_given, onward_last, onward_known, whole_back, length-relabelled, kept_after, first_small}
use Rattle.std.proofs.lemmas.List.{take_all}
use Rattle.order_tree.proofs.branch.Branch.+relabel.Goals as goal

-- LEAF
pub overflow_add-self : goal.overflow_add-self
overflow_add-self g t c =
    let shape = rw c.in-Leaf.is at c.self.invariant.shape in
    let here : c.args.self.now.pairs ≡ c.in-Leaf.entries.items = sym (ap (λ (s : Tree _). s.pairs) c.self.view_is) ∙ ap pairs_in c.in-Leaf.is in
    omega (arith, first_small c.args.step c.args.before (2 ^ 64) c.in-Leaf.entries.items shape.1 (subst (λ (ps : List (ℕ × _)). reached c.args.step c.args.before ps < 2 ^ 64) here c.requires.small))

pub invariant_of-self : goal.invariant_of-self
invariant_of-self g t c =
    let shape = rw c.in-Leaf.is at c.self.invariant.shape in
    let kept = rw c.in-Leaf.is at c.self.invariant.kept in
    let long = ap length c.relabel_entries-reached.ensures.items ∙ length-relabelled c.args.step c.args.before c.in-Leaf.entries.items in
    let s : Summary = record { first = c.args.before + c.args.step; last_known = c.relabel_entries-reached.result.last_known; sums = c.self.inside.summary.sums } in
    record {
      shape = (shape.0, omega (arith, long, shape.1), omega (arith, long, shape.2), omega (arith, shape.3, c.relabel_entries-reached.ensures.room));
      kept = kept_after g.R.Run c.args.step c.args.before c.in-Leaf.entries.items c.relabel_entries-reached.new.entries.items s shape.1 c.relabel_entries-reached.ensures.items refl c.relabel_entries-reached.ensures.known (ap (λ (s : Summary). s.sums) kept);
    }

pub returns-in-Leaf-clause-pairs : goal.returns-in-Leaf-clause-pairs
returns-in-Leaf-clause-pairs g t c =
    let here : c.args.self.now.pairs ≡ c.in-Leaf.entries.items = sym (ap (λ (s : Tree _). s.pairs) c.self.view_is) ∙ ap pairs_in c.in-Leaf.is in
    c.relabel_entries-reached.ensures.items ∙ sym (ap (relabelled c.args.step c.args.before) here)

-- INNER
pub loop-kid-init : goal.loop-kid-init
loop-kid-init g t c =
    let none : Reached = record { last = c.args.before; last_known = 0 } in
    relabelling_none g.R.Run.known c.args.step c.args.before c.deref_mut-kid-items.result.now c.deref_mut-kid-items.result.now c.args.given.now none c.tick.new.self refl refl refl

pub loop-kid-preserved : goal.loop-kid-preserved
loop-kid-preserved g t c =
    let is = sym c.kid-item.is in
    let step = c.args.step in
    let last = c.loop-kid.reached.last in
    relabelling_more g.R.Run.known c.args.step c.args.before c.loop-kid.kid-index c.deref_mut-kid-items.result.now c.loop-kid.kid-items c.args.given.now c.loop-kid.given c.loop-kid.reached c.tick.new.self c.loop-kid.visits c.kid-item.result c.loop-kid-test.true c.kid-item.is c.loop-kid.invariant
    c.relabel-next.new.self c.relabel-next.new.given c.relabel-next.result c.then-reached.result c.relabel-next.new.visits
    (c.relabel-next.ensures.pairs ∙ ap (λ (s : Tree _). relabelled step last s.pairs) is) (c.relabel-next.ensures.depth ∙ ap (λ (s : Tree _). s.depth) is)
    (c.relabel-next.ensures.given ∙ ap (λ (s : Tree _). c.loop-kid.given.items ++ renamed step last s.pairs) is) c.relabel-next.ensures.capacity
    (c.relabel-next.ensures.last ∙ ap (λ (s : Tree _). reached step last s.pairs) is) c.relabel-next.ensures.known c.then-reached.ensures.last c.then-reached.ensures.known
    (omega (arith, c.relabel-next.ensures.onward, ap (λ (s : Tree _). length s.pairs) is))
    (omega (arith, c.relabel-next.ensures.cost, ap (λ (s : Tree _). length s.pairs) is))

pub relabel-next-requires : goal.relabel-next-requires
relabel-next-requires g t c κs within =
    let kids = c.in-Inner.kids.items in
    let old = c.deref_mut-kid-items.result.now in
    let same : old ≡ kids = c.deref_mut-kid-items.ensures.value in
    let shape = rw c.in-Inner.is at c.self.invariant.shape in
    let here : c.args.self.now.pairs ≡ all_pairs (λ k. k.pairs) kids = sym (ap (λ (s : Tree _). s.pairs) c.self.view_is) ∙ ap pairs_in c.in-Inner.is in
    let there : c.args.self.now.pairs ≡ all_pairs (λ k. k.pairs) old = here ∙ sym (ap (λ (ks : List (Tree _)). all_pairs (λ k. k.pairs) ks) same) in
    let kid = c.kid-item.result in
    let is = c.kid-item.is in
    let deep : c.args.self.now.depth ≡ c.self.inside.depth = sym (ap (λ (s : Tree _). s.depth) c.self.view_is) in
    let below = c.loop-kid.invariant.below c.self.inside.depth (subst (λ (ks : List (Tree _)). AllBelow c.self.inside.depth ks) (sym same) shape.0) in
    let lower = kid_lower c.self.inside.depth c.loop-kid.kid-items c.loop-kid.kid-index kid below (omega (arith, c.loop-kid-test.true, c.loop-kid.invariant.onward.long)) is in
    let room = part_room (λ k. k.pairs) g.R.Run.known c.args.step c.args.before old c.loop-kid.kid-items c.args.given.now.items c.loop-kid.given.items c.loop-kid.reached c.loop-kid.kid-index kid c.loop-kid-test.true is c.loop-kid.invariant.onward (vec_capacity c.args.given.now) (omega (arith, c.requires.room, ap length there)) in
    let small = part_small (λ k. k.pairs) g.R.Run.known c.args.step c.args.before old c.loop-kid.kid-items c.args.given.now.items c.loop-kid.given.items c.loop-kid.reached c.loop-kid.kid-index kid c.loop-kid-test.true is c.loop-kid.invariant.onward (2 ^ 64) (subst (λ (ps : List (ℕ × _)). reached c.args.step c.args.before ps < 2 ^ 64) there c.requires.small) in (
      omega (arith, c.decreases, lower, deep, ap (λ (s : Tree _). s.depth) is),
      (
        within.0,
        (
          within.1,
          (
            omega (arith, room, c.loop-kid.invariant.capacity, ap (λ (s : Tree _). length s.pairs) is),
            subst (λ (s : Tree _). reached c.args.step c.loop-kid.reached.last s.pairs < 2 ^ 64) is small,
          ),
        ),
      ),
    )

pub overflow_add-self-in-Inner : goal.overflow_add-self-in-Inner
overflow_add-self-in-Inner g t c =
    let kids = c.in-Inner.kids.items in
    let old = c.deref_mut-kid-items.result.now in
    let same : old ≡ kids = c.deref_mut-kid-items.ensures.value in
    let shape = rw c.in-Inner.is at c.self.invariant.shape in
    let here : c.args.self.now.pairs ≡ all_pairs (λ k. k.pairs) kids = sym (ap (λ (s : Tree _). s.pairs) c.self.view_is) ∙ ap pairs_in c.in-Inner.is in
    let there : c.args.self.now.pairs ≡ all_pairs (λ k. k.pairs) old = here ∙ sym (ap (λ (ks : List (Tree _)). all_pairs (λ k. k.pairs) ks) same) in
    let some : 0 < length (all_pairs (λ k. k.pairs) kids) = omega (arith, bound_inner c.self.inside.depth kids shape.0 shape.1, pow_pos c.self.inside.depth) in
    omega (arith, first_small c.args.step c.args.before (2 ^ 64) (all_pairs (λ k. k.pairs) kids) some (subst (λ (ps : List (ℕ × _)). reached c.args.step c.args.before ps < 2 ^ 64) here c.requires.small))

pub invariant_of-self-in-Inner : goal.invariant_of-self-in-Inner
invariant_of-self-in-Inner g t c =
    let kids = c.in-Inner.kids.items in
    let old = c.deref_mut-kid-items.result.now in
    let same : old ≡ kids = c.deref_mut-kid-items.ensures.value in
    let shape = rw c.in-Inner.is at c.self.invariant.shape in
    let here : c.args.self.now.pairs ≡ all_pairs (λ k. k.pairs) kids = sym (ap (λ (s : Tree _). s.pairs) c.self.view_is) ∙ ap pairs_in c.in-Inner.is in
    let there : c.args.self.now.pairs ≡ all_pairs (λ k. k.pairs) old = here ∙ sym (ap (λ (ks : List (Tree _)). all_pairs (λ k. k.pairs) ks) same) in
    let now = c.loop-kid.kid-items in
    let fin : (with_items c.in-Inner.kids now).items ≡ now = whole_back c.in-Inner.kids.len now kids (c.loop-kid.invariant.onward.long ∙ ap length same) c.in-Inner.kids.ok.0 in
    let kept = rw c.in-Inner.is at c.self.invariant.kept in
    let some : 0 < length (all_pairs (λ k. k.pairs) kids) = omega (arith, bound_inner c.self.inside.depth kids shape.0 shape.1, pow_pos c.self.inside.depth) in
    let below = c.loop-kid.invariant.below c.self.inside.depth (subst (λ (ks : List (Tree _)). AllBelow c.self.inside.depth ks) (sym same) shape.0) in
    let long = ap length fin ∙ c.loop-kid.invariant.onward.long ∙ ap length same in
    let pairs = onward_pairs (λ k. k.pairs) g.R.Run.known c.args.step c.args.before old c.loop-kid.kid-items c.args.given.now.items c.loop-kid.given.items c.loop-kid.reached c.loop-kid.kid-index c.loop-kid.invariant.onward c.loop-kid-test.false in
    let found = onward_known (λ k. k.pairs) g.R.Run.known c.args.step c.args.before old c.loop-kid.kid-items c.args.given.now.items c.loop-kid.given.items c.loop-kid.reached c.loop-kid.kid-index c.loop-kid.invariant.onward c.loop-kid-test.false in
    let all = ap (λ (ks : List (Tree _)). all_pairs (λ k. k.pairs) ks) fin in
    let is = all ∙ pairs ∙ ap (λ (ks : List (Tree _)). relabelled c.args.step c.args.before (all_pairs (λ k. k.pairs) ks)) same in
    let s : Summary = record { first = c.args.before + c.args.step; last_known = c.loop-kid.reached.last_known; sums = c.self.inside.summary.sums } in
    record {
      shape = (subst (λ (ks : List (Tree _)). AllBelow c.self.inside.depth ks) (sym fin) below, omega (arith, long, shape.1), omega (arith, long, shape.2), shape.3);
      kept = kept_after g.R.Run c.args.step c.args.before (all_pairs (λ k. k.pairs) kids) (all_pairs (λ k. k.pairs) (with_items c.in-Inner.kids now).items) s some is refl (found ∙ sym (ap (last_known g.R.Run.known) all)) (ap (λ (s : Summary). s.sums) kept);
    }

pub returns-after-loop-kid-clause-pairs : goal.returns-after-loop-kid-clause-pairs
returns-after-loop-kid-clause-pairs g t c =
    let kids = c.in-Inner.kids.items in
    let old = c.deref_mut-kid-items.result.now in
    let same : old ≡ kids = c.deref_mut-kid-items.ensures.value in
    let shape = rw c.in-Inner.is at c.self.invariant.shape in
    let here : c.args.self.now.pairs ≡ all_pairs (λ k. k.pairs) kids = sym (ap (λ (s : Tree _). s.pairs) c.self.view_is) ∙ ap pairs_in c.in-Inner.is in
    let there : c.args.self.now.pairs ≡ all_pairs (λ k. k.pairs) old = here ∙ sym (ap (λ (ks : List (Tree _)). all_pairs (λ k. k.pairs) ks) same) in
    let now = c.loop-kid.kid-items in
    let fin : (with_items c.in-Inner.kids now).items ≡ now = whole_back c.in-Inner.kids.len now kids (c.loop-kid.invariant.onward.long ∙ ap length same) c.in-Inner.kids.ok.0 in
    let pairs = onward_pairs (λ k. k.pairs) g.R.Run.known c.args.step c.args.before old c.loop-kid.kid-items c.args.given.now.items c.loop-kid.given.items c.loop-kid.reached c.loop-kid.kid-index c.loop-kid.invariant.onward c.loop-kid-test.false in
    ap (λ (ks : List (Tree _)). all_pairs (λ k. k.pairs) ks) fin ∙ pairs ∙ sym (ap (relabelled c.args.step c.args.before) there)

pub returns-after-loop-kid-clause-given : goal.returns-after-loop-kid-clause-given
returns-after-loop-kid-clause-given g t c =
    let kids = c.in-Inner.kids.items in
    let old = c.deref_mut-kid-items.result.now in
    let same : old ≡ kids = c.deref_mut-kid-items.ensures.value in
    let shape = rw c.in-Inner.is at c.self.invariant.shape in
    let here : c.args.self.now.pairs ≡ all_pairs (λ k. k.pairs) kids = sym (ap (λ (s : Tree _). s.pairs) c.self.view_is) ∙ ap pairs_in c.in-Inner.is in
    let there : c.args.self.now.pairs ≡ all_pairs (λ k. k.pairs) old = here ∙ sym (ap (λ (ks : List (Tree _)). all_pairs (λ k. k.pairs) ks) same) in
    let given = onward_given (λ k. k.pairs) g.R.Run.known c.args.step c.args.before old c.loop-kid.kid-items c.args.given.now.items c.loop-kid.given.items c.loop-kid.reached c.loop-kid.kid-index c.loop-kid.invariant.onward c.loop-kid-test.false in
    given ∙ sym (ap (λ (ps : List (ℕ × _)). c.args.given.now.items ++ renamed c.args.step c.args.before ps) there)

pub returns-after-loop-kid-clause-last : goal.returns-after-loop-kid-clause-last
returns-after-loop-kid-clause-last g t c =
    let kids = c.in-Inner.kids.items in
    let old = c.deref_mut-kid-items.result.now in
    let same : old ≡ kids = c.deref_mut-kid-items.ensures.value in
    let shape = rw c.in-Inner.is at c.self.invariant.shape in
    let here : c.args.self.now.pairs ≡ all_pairs (λ k. k.pairs) kids = sym (ap (λ (s : Tree _). s.pairs) c.self.view_is) ∙ ap pairs_in c.in-Inner.is in
    let there : c.args.self.now.pairs ≡ all_pairs (λ k. k.pairs) old = here ∙ sym (ap (λ (ks : List (Tree _)). all_pairs (λ k. k.pairs) ks) same) in
    let last = onward_last (λ k. k.pairs) g.R.Run.known c.args.step c.args.before old c.loop-kid.kid-items c.args.given.now.items c.loop-kid.given.items c.loop-kid.reached c.loop-kid.kid-index c.loop-kid.invariant.onward c.loop-kid-test.false in
    last ∙ sym (ap (reached c.args.step c.args.before) there)

pub returns-after-loop-kid-clause-known : goal.returns-after-loop-kid-clause-known
returns-after-loop-kid-clause-known g t c =
    let kids = c.in-Inner.kids.items in
    let old = c.deref_mut-kid-items.result.now in
    let same : old ≡ kids = c.deref_mut-kid-items.ensures.value in
    let shape = rw c.in-Inner.is at c.self.invariant.shape in
    let here : c.args.self.now.pairs ≡ all_pairs (λ k. k.pairs) kids = sym (ap (λ (s : Tree _). s.pairs) c.self.view_is) ∙ ap pairs_in c.in-Inner.is in
    let there : c.args.self.now.pairs ≡ all_pairs (λ k. k.pairs) old = here ∙ sym (ap (λ (ks : List (Tree _)). all_pairs (λ k. k.pairs) ks) same) in
    let now = c.loop-kid.kid-items in
    let fin : (with_items c.in-Inner.kids now).items ≡ now = whole_back c.in-Inner.kids.len now kids (c.loop-kid.invariant.onward.long ∙ ap length same) c.in-Inner.kids.ok.0 in
    let found = onward_known (λ k. k.pairs) g.R.Run.known c.args.step c.args.before old c.loop-kid.kid-items c.args.given.now.items c.loop-kid.given.items c.loop-kid.reached c.loop-kid.kid-index c.loop-kid.invariant.onward c.loop-kid-test.false in
    found ∙ sym (ap (λ (ks : List (Tree _)). last_known g.R.Run.known (all_pairs (λ k. k.pairs) ks)) fin)

pub returns-after-loop-kid-clause-cost : goal.returns-after-loop-kid-clause-cost
returns-after-loop-kid-clause-cost g t c =
    let kids = c.in-Inner.kids.items in
    let old = c.deref_mut-kid-items.result.now in
    let same : old ≡ kids = c.deref_mut-kid-items.ensures.value in
    let shape = rw c.in-Inner.is at c.self.invariant.shape in
    let here : c.args.self.now.pairs ≡ all_pairs (λ k. k.pairs) kids = sym (ap (λ (s : Tree _). s.pairs) c.self.view_is) ∙ ap pairs_in c.in-Inner.is in
    let there : c.args.self.now.pairs ≡ all_pairs (λ k. k.pairs) old = here ∙ sym (ap (λ (ks : List (Tree _)). all_pairs (λ k. k.pairs) ks) same) in
    let all = ap (λ (ks : List (Tree _)). length (all_pairs (λ k. k.pairs) ks)) (take_all c.loop-kid.kid-index old c.loop-kid-test.false) in
    omega (arith, c.loop-kid.invariant.cost, all, ap length there, c.tick.ensures, c.loop-kid-test.false, shape.1, ap length same)

pub returns-after-loop-kid-clause-onward : goal.returns-after-loop-kid-clause-onward
returns-after-loop-kid-clause-onward g t c =
    let kids = c.in-Inner.kids.items in
    let old = c.deref_mut-kid-items.result.now in
    let same : old ≡ kids = c.deref_mut-kid-items.ensures.value in
    let shape = rw c.in-Inner.is at c.self.invariant.shape in
    let here : c.args.self.now.pairs ≡ all_pairs (λ k. k.pairs) kids = sym (ap (λ (s : Tree _). s.pairs) c.self.view_is) ∙ ap pairs_in c.in-Inner.is in
    let there : c.args.self.now.pairs ≡ all_pairs (λ k. k.pairs) old = here ∙ sym (ap (λ (ks : List (Tree _)). all_pairs (λ k. k.pairs) ks) same) in
    let all = ap (λ (ks : List (Tree _)). length (all_pairs (λ k. k.pairs) ks)) (take_all c.loop-kid.kid-index old c.loop-kid-test.false) in
    omega (arith, c.loop-kid.invariant.some, all, ap length there, c.tick.ensures, c.loop-kid-test.false)
