use Rattle.std.proofs.Common.{sym, ◌∙◌}
use Rattle.caret_places.proofs.Insertions.{char_where_inserted}
use Rattle.caret_places.proofs.indexes.inserts.Goals as goal

pub returns : goal.returns
returns c x at = c.is_insertion.ensures ∙ sym (char_where_inserted c.args.graph.now c.args.position x c.op_at.result c.requires.good at c.op_at.ensures)
