use Rattle.std.proofs.Common.{◌≡◌, ◌↔◌, take, IsTrue}
use Rattle.ew_model.proofs.name.are_same.Given as goal

-- so far the two are the same exactly where their first bytes are
abbrev pub invariant-loop-place : goal.invariant-loop-place
invariant-loop-place l = IsTrue l.same ↔ (take l.place l.ours ≡ take l.place l.theirs)
