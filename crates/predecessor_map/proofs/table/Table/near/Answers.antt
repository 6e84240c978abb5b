use Rattle.std.proofs.Common.{◌≡◌, ◌≤◌, ℕ, List, None, IfSome, IfNone, sym, subst}
use Rattle.predecessor_map.specs.Labels.{IsLastIn}
use Rattle.predecessor_map.specs.Entries.{label_in}
use Rattle.predecessor_map.proofs.BlockLaws.{block_at}
use Rattle.predecessor_map.proofs.table.Table.near.Goals as goal

pub returns-clause-some : goal.returns-clause-some
returns-clause-some c =
    let own = c.args.self.now in
    let same = block_at own.first own.blocks.items c.args.block c.in_ok-place.place c.index.result.now c.in_ok-place.ensures.some c.in_ok-place.ensures.bound c.index.ensures in
    subst (λ (es : List (ℕ × ℕ)). IfSome c.last_up_to.result (λ e. IsLastIn (label_in es) c.args.offset e.0 e.1)) (sym same) c.last_up_to.ensures.some

pub returns-clause-none : goal.returns-clause-none
returns-clause-none c =
    let own = c.args.self.now in
    let same = block_at own.first own.blocks.items c.args.block c.in_ok-place.place c.index.result.now c.in_ok-place.ensures.some c.in_ok-place.ensures.bound c.index.ensures in
    subst (λ (es : List (ℕ × ℕ)). IfNone c.last_up_to.result ((k : ℕ) → k ≤ c.args.offset → label_in es k ≡ None)) (sym same) c.last_up_to.ensures.none
