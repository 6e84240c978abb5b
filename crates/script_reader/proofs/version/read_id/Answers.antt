use Rattle.script_reader.proofs.IdReading.{NameCut, no_name_no_id, no_number_no_id}
use Rattle.script_reader.proofs.version.read_id.Goals as goal
use Rattle.ew_model.proofs.Outcomes.{if_none}

pub returns-in_err-ok-clause-none : goal.returns-in_err-ok-clause-none
returns-in_err-ok-clause-none c =
    let cut : NameCut c.args.word.now c.in_ok-agent.agent.now c.in_ok-agent.number.now = record { free = c.in_ok-agent.ensures.found.0; whole = c.in_ok-agent.ensures.found.1 } in
    if_none _ _ (no_name_no_id _ _ _ cut c.read.result c.read.ensures.name c.in_err-ok.ensures.value)

pub returns-in_err-read_number-clause-none : goal.returns-in_err-read_number-clause-none
returns-in_err-read_number-clause-none c =
    let cut : NameCut c.args.word.now c.in_ok-agent.agent.now c.in_ok-agent.number.now = record { free = c.in_ok-agent.ensures.found.0; whole = c.in_ok-agent.ensures.found.1 } in
    if_none _ _ (no_number_no_id _ _ _ cut c.in_err-read_number.ensures.none)
