use Rattle.std.proofs.Common.{◌≡◌, ◌≤◌, ◌<◌, ℕ, List, length, None, subst}
use Rattle.std.specs.List.{AllWithin}
use Rattle.predecessor_map.specs.Entries.{label_in}
use Rattle.predecessor_map.proofs.EntryLaws.{none_up_to, last_of}
use Rattle.predecessor_map.proofs.block.Block.last_up_to.Goals as goal

pub returns-then-count-eq0-clause-none : goal.returns-then-count-eq0-clause-none
returns-then-count-eq0-clause-none c =
    subst (λ (es : List (ℕ × ℕ)). (k : ℕ) → k ≤ c.args.offset → label_in es k ≡ None) c.as_slice.ensures.value
    (none_up_to c.as_slice.result.now c.count_up_to-count.result c.args.offset c.if-count-eq0.true c.count_up_to-count.ensures.behind)

pub returns-clause-some : goal.returns-clause-some
returns-clause-some c =
    let count = c.count_up_to-count in
    let es = c.args.self.now.entries.items in
    let same = c.as_slice.ensures.value in
    last_of es count.result c.args.offset c.index.result.now c.args.self.now.rising c.if-count-eq0.false
    (subst (λ (xs : List (ℕ × ℕ)). count.result ≤ length xs) same count.ensures.bound)
    (subst (λ (xs : List (ℕ × ℕ)). AllWithin (λ e. e.0 ≤ c.args.offset) xs 0 count.result) same count.ensures.to)
    (subst (λ (xs : List (ℕ × ℕ)). AllWithin (λ e. c.args.offset < e.0) xs count.result (length xs)) same count.ensures.behind)
    c.index.ensures
