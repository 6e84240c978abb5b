use Rattle.std.proofs.Common.{ℕ, List, ◌∙◌, ap, length, subst, arith}
use Rattle.std.proofs.lemmas.List.{length-replicate}
use Rattle.std.specs.BTreeMap.{get}
use Rattle.ew_model.specs.declared.id.Id.{Id}
use Rattle.ew_model.specs.Ids.{id_cmp}
use Rattle.event_file.specs.SeenIds.{IsSeen}
use Rattle.event_file.proofs.Indexes.{none_indexed}
use Rattle.event_file.proofs.Known.{none_within}
use Rattle.event_file.proofs.SeenCounts.{none_seen, parted_none}
use Rattle.event_file.proofs.progress.Progress.new.Goals as goal

pub invariant_of-result : goal.invariant_of-result
invariant_of-result c =
    let agents = c.args.agents.items in
    let counts = c.in_ok-seen.ensures.counts in
    let table = get id_cmp c.in_ok-seen.seen.further in
    let none = λ (x : Id) (h : IsSeen agents c.in_ok-seen.seen.counts.items table x). none_seen agents c.len.result table c.in_ok-seen.ensures.further x (subst (λ (ns : List ℕ). IsSeen agents ns table x) counts h) in
    rw c.new-2.ensures.items (
      none_indexed agents (IsSeen agents c.in_ok-seen.seen.counts.items table) c.requires none,
      ap (λ (ns : List ℕ). length ns) counts ∙ length-replicate c.len.result 0 ∙ c.len.ensures ∙ c.args.agents.ok.0,
      none_within (length agents),
      parted_none table c.in_ok-seen.ensures.further,
      tt,
      omega arith,
    )
