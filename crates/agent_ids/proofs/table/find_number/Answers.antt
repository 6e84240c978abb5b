use Rattle.std.proofs.Common.{◌≡◌, ℕ, Bool, false, Option, Some, None, is_some, sym}
use Rattle.std.specs.Prelude.{IfNone}
use Rattle.std.proofs.lemmas.Option.{slice_get_within}
use Rattle.agent_ids.proofs.OwnPositions.{agent_at}
use Rattle.agent_ids.proofs.table.find_number.Goals as goal

pub returns-then-is_at-clause-index : goal.returns-then-is_at-clause-index
returns-then-is_at-clause-index c = sym (agent_at c.requires.0 c.args.names.now.keys c.args.name.now c.args.likely c.requires.1 (c.is_at.ensures c.if-is_at.true))

pub returns-then-is_at-clause-within : goal.returns-then-is_at-clause-within
returns-then-is_at-clause-within c = slice_get_within c.args.names.now.keys c.args.likely c.args.name.now (c.is_at.ensures c.if-is_at.true)

none_there : (o : Option ℕ) (b : Bool) → is_some o ≡ b → IfNone o (b ≡ false)
none_there None b e = sym e
none_there (Some n) b e = tt

pub returns-else-is_at-clause-absent : goal.returns-else-is_at-clause-absent
returns-else-is_at-clause-absent c = none_there c.get_index_of.result _ c.get_index_of.ensures.found
