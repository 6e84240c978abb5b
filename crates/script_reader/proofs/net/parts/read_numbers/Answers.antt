use Rattle.script_reader.proofs.LineParts.{AreCut}
use Rattle.script_reader.proofs.LineWords.{uncut_no_numbers, no_first_no_numbers, no_second_no_numbers}
use Rattle.script_reader.proofs.net.parts.read_numbers.Goals as goal
use Rattle.ew_model.proofs.Outcomes.{if_none}

pub returns-in_err-first-clause-none : goal.returns-in_err-first-clause-none
returns-in_err-first-clause-none c = if_none _ _ (uncut_no_numbers c.args.words.now c.in_err-first.ensures.none)

pub returns-in_err-read_number-clause-none : goal.returns-in_err-read_number-clause-none
returns-in_err-read_number-clause-none c =
    let cut : AreCut c.args.words.now c.in_ok-first.first.now c.in_ok-first.second.now = record { free = c.in_ok-first.ensures.found.0; whole = c.in_ok-first.ensures.found.1 } in
    if_none _ _ (no_first_no_numbers _ _ _ cut c.in_err-read_number.ensures.none)

pub returns-in_err-read_number-2-clause-none : goal.returns-in_err-read_number-2-clause-none
returns-in_err-read_number-2-clause-none c =
    let cut : AreCut c.args.words.now c.in_ok-first.first.now c.in_ok-first.second.now = record { free = c.in_ok-first.ensures.found.0; whole = c.in_ok-first.ensures.found.1 } in
    if_none _ _ (no_second_no_numbers _ _ _ cut c.in_err-read_number-2.ensures.none)
