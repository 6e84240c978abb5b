use Rattle.std.proofs.Common.{false}
use Rattle.fugue_place.proofs.KnownLaws.{IsLeft}
use Rattle.fugue_place.proofs.known.is_other_known.Given as goal

-- those that are left aren't known so far as they were asked
abbrev pub invariant-loop-place : goal.invariant-loop-place
invariant-loop-place g l = IsLeft l.children.items l.line.parent (λ v. goal.F-post g l.known v false) l.place-iterator
