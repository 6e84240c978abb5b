-- A state whose tree is the same for its readers.
use Rattle.std.proofs.Common.{◌≡◌, ℕ, List, ap, ◌∙◌}
use Rattle.advance_retreat.specs.declared.target.Target.{Target}
use Rattle.advance_retreat.specs.Kept.{Kept}
use Rattle.advance_retreat.specs.Hanging.{InTree}

abbrev pub kept_by : ℕ → List Target → ℕ → InTree → Kept
kept_by base targets lost t = record { base = base; records = t.records; attached = t.attached; targets = targets; lost = lost }

pub same_kept : (base : ℕ) (targets : List Target) (lost : ℕ) (old new : InTree) (s : Kept) → new ≡ old → kept_by base targets lost old ≡ s → kept_by base targets lost new ≡ s
same_kept base targets lost old new s same is = ap (kept_by base targets lost) same ∙ is
