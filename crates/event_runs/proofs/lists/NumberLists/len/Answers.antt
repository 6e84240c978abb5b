use Rattle.std.proofs.Common.{◌∙◌, sym, ap, length}
use Rattle.event_runs.proofs.Cutting.{length-pieces}
use Rattle.event_runs.proofs.lists.NumberLists.len.Goals as goal

pub returns : goal.returns
returns c = c.len.ensures ∙ c.self.inside.ends.ok.0 ∙ sym (length-pieces 0 c.self.inside.ends.items c.self.inside.numbers.items) ∙ ap length c.self.view_is
