use Rattle.std.proofs.Common.{◌<◌, ℕ, List, All, sym, ap, ◌∙◌, subst}
use Rattle.predecessor_map.specs.Entries.{label_in, IsRising, IsEntryOf, IsGapFor}
use Rattle.predecessor_map.proofs.EntryLaws.{label_dropped, rises_removed, small_removed, removed_none, none_between}
use Rattle.predecessor_map.proofs.block.Block.remove.Goals as goal

pub invariant_of-self : goal.invariant_of-self
invariant_of-self c =
    let es = c.args.self.now.entries.items in
    let at = subst (λ (xs : List (ℕ × ℕ)). IsEntryOf xs c.args.offset c.in-Ok.place) c.as_slice.ensures.value c.in-Ok.ensures.ok in
    record {
      rising = subst IsRising (sym c.remove.ensures.items) (rises_removed es c.in-Ok.place at.there c.args.self.now.rising);
      small = subst (All (λ e. e.0 < 64)) (sym c.remove.ensures.items) (small_removed es c.in-Ok.place at.there c.args.self.now.small);
    }

pub returns-in-Ok : goal.returns-in-Ok
returns-in-Ok c = λ k.
    ap (λ (es : List (ℕ × ℕ)). label_in es k) c.remove.ensures.items
    ∙ label_dropped c.args.self.now.entries.items c.args.offset c.in-Ok.place c.args.self.now.rising
    (subst (λ (xs : List (ℕ × ℕ)). IsEntryOf xs c.args.offset c.in-Ok.place) c.as_slice.ensures.value c.in-Ok.ensures.ok) k

pub returns-in_default : goal.returns-in_default
returns-in_default c =
    removed_none (label_in c.args.self.now.entries.items) c.args.offset
    (none_between c.args.self.now.entries.items c.args.offset c.in_default.field-0
    (subst (λ (xs : List (ℕ × ℕ)). IsGapFor xs c.args.offset c.in_default.field-0) c.as_slice.ensures.value c.in_default.ensures.err))
