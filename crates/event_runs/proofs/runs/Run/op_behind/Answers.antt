use Rattle.std.proofs.Common.{◌∙◌, [], length, sym}
use Rattle.event_runs.proofs.OwnChanges.{label_place}
use Rattle.event_runs.proofs.runs.Run.op_behind.Goals as goal

pub bounds-labels-self : goal.bounds-labels-self
bounds-labels-self c =
    let run = c.args.self.now in
    label_place run.kind run.at run.chars_before (record { chars = c.args.chars.now; labels = [] }) c.args.offset (length c.args.labels.now) (sym (c.change_behind.ensures []) ∙ c.in-Nothing.is) c.requires.label
