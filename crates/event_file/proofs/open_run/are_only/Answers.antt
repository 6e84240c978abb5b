use Rattle.std.proofs.Common.{sym, ◌∙◌, arith}
use Rattle.event_file.proofs.RunRest.{only_one}
use Rattle.event_file.proofs.open_run.are_only.Goals as goal

pub returns-in-len1 : goal.returns-in-len1
returns-in-len1 c =
    let least = c.in-len1.len_at_least in
    let below = c.in-len1.len_below in
    c.is.ensures.value ∙ sym (only_one c.args.ids.now c.args.x.now c.id-item.result (omega (arith, least, below)) c.id-item.is)
