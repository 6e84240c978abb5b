-- How many applies were refused for want of memory.
use Rattle.std.specs.Prelude.{ℕ, ◌+◌, ◌*◌, ◌^◌, ◌<◌, ◌≤◌, nat_lt, Bool, if◌then◌else◌, List, Result, Ok, Err}
use Rattle.ew_model.specs.declared.node.Node.{Node}
use Rattle.ew_model.specs.declared.text_op.TextOp.{TextOp}
use Rattle.advance_retreat.specs.declared.fault.ApplyFault.{ApplyFault}
use Rattle.advance_retreat.specs.declared.fault.ApplyFault.TheVariants.{OutOfRange, OutOfMemory}
use Rattle.walker_record.specs.Stretches.{Stretch}
use Rattle.fugue_place.specs.Attachments.{node_eq}
use Rattle.character_runs.specs.Loose.{loose_in, is_one}
use Rattle.advance_retreat.specs.declared.target.Target.{Target}

-- one more, up to the last number
abbrev pub one_more : ℕ → ℕ
one_more n = if nat_lt (n + 1) (2 ^ 32) then n + 1 else n

-- the number after an answer
abbrev pub lost_after : Result TextOp ApplyFault → ℕ → ℕ
lost_after (Ok op) n = n
lost_after (Err (OutOfRange len)) n = n
lost_after (Err OutOfMemory) n = one_more n

-- one of the events is about the character
abbrev pub is_told : List Target → Node → Bool
is_told ts v = is_one (λ (t : Target). node_eq t.node) ts v

-- a refused apply leaves at most two runs that stand apart for no event's character, as long as all of them are counted
abbrev pub FewLoose : List Target → List Stretch → ℕ → Type 0
FewLoose ts rs lost = lost + 1 < 2 ^ 32 → loose_in (is_told ts) rs ≤ 1 + 2 * lost
