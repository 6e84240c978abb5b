use Rattle.std.proofs.Common.{◌≡◌, ◌/◌, ◌%◌, ℕ, List, None, true, false, length, ◌==◌, nat_lt, refl, sym, ap, ◌∙◌}
use Rattle.std.specs.Ordering.{nat_cmp}
use Rattle.std.specs.BTreeSet.{contains}
use Rattle.predecessor_map.specs.declared.block.Block.{Block}
use Rattle.predecessor_map.proofs.BlockLaws.{flag_here, flag_apart}
use Rattle.predecessor_map.proofs.ChangeLaws.{some_items, no_items, own_length, labels_changed, flags_changed, kept_some, is_put}
use Rattle.predecessor_map.proofs.table.Table.remove.Goals as goal

pub invariant_of-self-clause-marked : goal.invariant_of-self-clause-marked
invariant_of-self-clause-marked c =
    let own = c.args.self.now in
    let b = c.args.n / 64 in
    flags_changed own.first own.blocks.items c.args.n c.in-Some.place c.in-Some.ensures.some c.in-Some.ensures.bound c.index_mut.result.now c.index_mut.ensures.value c.remove.new.self (contains nat_cmp own.filled) (contains nat_cmp c.unmark.new.filled) own.marked
    (flag_apart (contains nat_cmp own.filled) (contains nat_cmp c.unmark.new.filled) b false c.unmark.ensures)
    (flag_here (contains nat_cmp own.filled) (contains nat_cmp c.unmark.new.filled) b false c.unmark.ensures ∙ sym (no_items c.remove.new.self.entries.items c.is_empty.result (c.is_empty.ensures ∙ ap (λ (y : Block). length y.entries.items == 0) (is_put own.blocks.items c.in-Some.place c.remove.new.self c.index.result.now c.in-Some.ensures.bound c.index.ensures)) c.if-is_empty.true))

pub invariant_of-self-else-is_empty-clause-marked : goal.invariant_of-self-else-is_empty-clause-marked
invariant_of-self-else-is_empty-clause-marked c =
    let own = c.args.self.now in
    let b = c.args.n / 64 in
    let left = some_items c.remove.new.self.entries.items c.is_empty.result (c.is_empty.ensures ∙ ap (λ (y : Block). length y.entries.items == 0) (is_put own.blocks.items c.in-Some.place c.remove.new.self c.index.result.now c.in-Some.ensures.bound c.index.ensures)) c.if-is_empty.false in
    flags_changed own.first own.blocks.items c.args.n c.in-Some.place c.in-Some.ensures.some c.in-Some.ensures.bound c.index_mut.result.now c.index_mut.ensures.value c.remove.new.self (contains nat_cmp own.filled) (contains nat_cmp own.filled) own.marked (λ b o. refl)
    (own.marked b ∙ own_length own.first own.blocks.items c.args.n c.in-Some.place c.in-Some.ensures.some c.in-Some.ensures.bound c.index_mut.result.now c.index_mut.ensures.value ∙ kept_some c.index_mut.result.now.entries.items c.remove.new.self (c.args.n % 64) left c.remove.ensures ∙ sym left)

pub returns-then-is_empty-clause-labels : goal.returns-then-is_empty-clause-labels
returns-then-is_empty-clause-labels c = let own = c.args.self.now in labels_changed own.first own.blocks.items c.args.n c.in-Some.place c.in-Some.ensures.some c.in-Some.ensures.bound c.index_mut.result.now c.index_mut.ensures.value c.remove.new.self None c.remove.ensures

pub returns-else-is_empty-clause-labels : goal.returns-else-is_empty-clause-labels
returns-else-is_empty-clause-labels c = let own = c.args.self.now in labels_changed own.first own.blocks.items c.args.n c.in-Some.place c.in-Some.ensures.some c.in-Some.ensures.bound c.index_mut.result.now c.index_mut.ensures.value c.remove.new.self None c.remove.ensures
