use Rattle.std.proofs.Common.{◌≡◌, ◌+◌, ◌-◌, ◌/◌, ◌%◌, ◌<◌, ◌≤◌, ℕ, List, Some, true, false, length, nat_lt, refl, sym, ap, ◌∙◌, arith}
use Rattle.std.specs.Ordering.{nat_cmp}
use Rattle.std.specs.BTreeSet.{contains}
use Rattle.std.proofs.lemmas.Result.{on_ok_weaker, on_err_weaker}
use Rattle.predecessor_map.proofs.BlockLaws.{flag_here, flag_apart}
use Rattle.predecessor_map.proofs.EntryLaws.{none_without}
use Rattle.predecessor_map.proofs.ChangeLaws.{when_err, when_ok, on_err_any, some_items, no_items, own_label, own_length, labels_changed, labels_same, flags_changed, filled_by, filled_after}
use Rattle.predecessor_map.proofs.table.Table.insert.Goals as goal

-- the place of the block of a number
at_place : (first b : ℕ) → first ≤ b → first + (b - first) ≡ b
at_place first b low = omega (arith, low)

in_list : (first b long : ℕ) → first ≤ b → b < first + long → b - first < long
in_list first b long low high = omega (arith, low, high)

pub invariant_of-self-clause-marked : goal.invariant_of-self-clause-marked
invariant_of-self-clause-marked c =
    let own = c.args.self.now in
    let n = c.args.n in
    let i = n / 64 - own.first in
    let at = at_place own.first (n / 64) c.requires.low in
    let there = in_list own.first (n / 64) (length own.blocks.items) c.requires.low c.requires.high in
    let some = sym (own_length own.first own.blocks.items n i at there c.index.result.now c.index.ensures) in
    let full = some_items c.index.result.now.entries.items c.is_empty.result c.is_empty.ensures c.if-not-is_empty.true in
    let mine = sym (own_length own.first own.blocks.items n i at there c.index_mut.result.now c.index_mut.ensures.value) in
    flags_changed own.first own.blocks.items n i at there c.index_mut.result.now c.index_mut.ensures.value c.insert.new.self (contains nat_cmp own.filled) (contains nat_cmp own.filled) own.marked (λ b o. refl)
    (own.marked (n / 64) ∙ sym some ∙ full ∙ sym (filled_after c.insert.result c.insert.new.self.entries.items c.index_mut.result.now.entries.items (n % 64) c.args.label (mine ∙ sym some ∙ full) c.insert.ensures.ok c.insert.ensures.err))

pub returns-then-not-is_empty-clause-ok : goal.returns-then-not-is_empty-clause-ok
returns-then-not-is_empty-clause-ok c =
    let own = c.args.self.now in
    let n = c.args.n in
    let i = n / 64 - own.first in
    let at = at_place own.first (n / 64) c.requires.low in
    let there = in_list own.first (n / 64) (length own.blocks.items) c.requires.low c.requires.high in
    on_ok_weaker c.insert.result (λ change. labels_changed own.first own.blocks.items n i at there c.index_mut.result.now c.index_mut.ensures.value c.insert.new.self (Some c.args.label) change) c.insert.ensures.ok

pub returns-then-not-is_empty-clause-err : goal.returns-then-not-is_empty-clause-err
returns-then-not-is_empty-clause-err c =
    let own = c.args.self.now in
    let n = c.args.n in
    let i = n / 64 - own.first in
    let at = at_place own.first (n / 64) c.requires.low in
    let there = in_list own.first (n / 64) (length own.blocks.items) c.requires.low c.requires.high in
    on_err_weaker c.insert.result (λ same. labels_same own.first own.blocks.items n i at there c.index_mut.result.now c.index_mut.ensures.value c.insert.new.self same) c.insert.ensures.err

pub returns-then-not-is_empty-clause-absent : goal.returns-then-not-is_empty-clause-absent
returns-then-not-is_empty-clause-absent c =
    let own = c.args.self.now in
    let n = c.args.n in
    let i = n / 64 - own.first in
    let at = at_place own.first (n / 64) c.requires.low in
    let there = in_list own.first (n / 64) (length own.blocks.items) c.requires.low c.requires.high in
    on_err_weaker c.insert.result (λ none. own_label own.first own.blocks.items n i at there c.index_mut.result.now c.index_mut.ensures.value ∙ none) c.insert.ensures.absent

pub returns-in_err-mark-clause-absent : goal.returns-in_err-mark-clause-absent
returns-in_err-mark-clause-absent c =
    let own = c.args.self.now in
    let n = c.args.n in
    let i = n / 64 - own.first in
    let at = at_place own.first (n / 64) c.requires.low in
    let there = in_list own.first (n / 64) (length own.blocks.items) c.requires.low c.requires.high in
    on_err_any c.from_residual.result (own_label own.first own.blocks.items n i at there c.index.result.now c.index.ensures ∙ none_without c.index.result.now.entries.items (n % 64) (no_items c.index.result.now.entries.items c.is_empty.result c.is_empty.ensures c.if-not-is_empty.false))

pub invariant_of-self-then-is_err-clause-marked : goal.invariant_of-self-then-is_err-clause-marked
invariant_of-self-then-is_err-clause-marked c =
    let own = c.args.self.now in
    let n = c.args.n in
    let i = n / 64 - own.first in
    let at = at_place own.first (n / 64) c.requires.low in
    let there = in_list own.first (n / 64) (length own.blocks.items) c.requires.low c.requires.high in
    let mine = own_length own.first own.blocks.items n i at there c.index_mut-2.result.now c.index_mut-2.ensures.value in
    let other = own_length own.first own.blocks.items n i at there c.index.result.now c.index.ensures in
    let none = no_items c.index.result.now.entries.items c.is_empty.result c.is_empty.ensures c.if-not-is_empty.false in
    let same = when_err c.insert-done.result (sym c.is_err.ensures.value ∙ c.if-is_err.true) c.insert-done.ensures.err in
    flags_changed own.first own.blocks.items n i at there c.index_mut-2.result.now c.index_mut-2.ensures.value c.insert-done.new.self (contains nat_cmp own.filled) (contains nat_cmp c.unmark.new.filled) own.marked
    (λ b o. flag_apart (contains nat_cmp c.mark.new.filled) (contains nat_cmp c.unmark.new.filled) (n / 64) false c.unmark.ensures b o ∙ flag_apart (contains nat_cmp own.filled) (contains nat_cmp c.mark.new.filled) (n / 64) true c.in_ok-mark.ensures.ok b o)
    (flag_here (contains nat_cmp c.mark.new.filled) (contains nat_cmp c.unmark.new.filled) (n / 64) false c.unmark.ensures ∙ sym (ap (λ (es : List (ℕ × ℕ)). nat_lt 0 (length es)) same ∙ sym mine ∙ other ∙ none))

pub invariant_of-self-else-is_err-clause-marked : goal.invariant_of-self-else-is_err-clause-marked
invariant_of-self-else-is_err-clause-marked c =
    let own = c.args.self.now in
    let n = c.args.n in
    let i = n / 64 - own.first in
    let at = at_place own.first (n / 64) c.requires.low in
    let there = in_list own.first (n / 64) (length own.blocks.items) c.requires.low c.requires.high in
    let change = when_ok c.insert-done.result (sym c.is_err.ensures.value ∙ c.if-is_err.false) c.insert-done.ensures.ok in
    flags_changed own.first own.blocks.items n i at there c.index_mut-2.result.now c.index_mut-2.ensures.value c.insert-done.new.self (contains nat_cmp own.filled) (contains nat_cmp c.mark.new.filled) own.marked
    (flag_apart (contains nat_cmp own.filled) (contains nat_cmp c.mark.new.filled) (n / 64) true c.in_ok-mark.ensures.ok)
    (flag_here (contains nat_cmp own.filled) (contains nat_cmp c.mark.new.filled) (n / 64) true c.in_ok-mark.ensures.ok ∙ sym (filled_by c.insert-done.new.self.entries.items c.index_mut-2.result.now.entries.items (n % 64) c.args.label change))

pub returns-then-is_err-clause-err : goal.returns-then-is_err-clause-err
returns-then-is_err-clause-err c =
    let own = c.args.self.now in
    let n = c.args.n in
    let i = n / 64 - own.first in
    let at = at_place own.first (n / 64) c.requires.low in
    let there = in_list own.first (n / 64) (length own.blocks.items) c.requires.low c.requires.high in
    on_err_weaker c.insert-done.result (λ same. labels_same own.first own.blocks.items n i at there c.index_mut-2.result.now c.index_mut-2.ensures.value c.insert-done.new.self same) c.insert-done.ensures.err

pub returns-then-is_err-clause-absent : goal.returns-then-is_err-clause-absent
returns-then-is_err-clause-absent c =
    let own = c.args.self.now in
    let n = c.args.n in
    let i = n / 64 - own.first in
    let at = at_place own.first (n / 64) c.requires.low in
    let there = in_list own.first (n / 64) (length own.blocks.items) c.requires.low c.requires.high in
    on_err_weaker c.insert-done.result (λ none. own_label own.first own.blocks.items n i at there c.index_mut-2.result.now c.index_mut-2.ensures.value ∙ none) c.insert-done.ensures.absent

pub returns-else-is_err-clause-ok : goal.returns-else-is_err-clause-ok
returns-else-is_err-clause-ok c =
    let own = c.args.self.now in
    let n = c.args.n in
    let i = n / 64 - own.first in
    let at = at_place own.first (n / 64) c.requires.low in
    let there = in_list own.first (n / 64) (length own.blocks.items) c.requires.low c.requires.high in
    on_ok_weaker c.insert-done.result (λ change. labels_changed own.first own.blocks.items n i at there c.index_mut-2.result.now c.index_mut-2.ensures.value c.insert-done.new.self (Some c.args.label) change) c.insert-done.ensures.ok
