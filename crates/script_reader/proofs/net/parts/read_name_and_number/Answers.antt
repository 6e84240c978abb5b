use Rattle.script_reader.proofs.LineParts.{AreCut}
use Rattle.script_reader.proofs.LineWords.{name_first, no_name_no_two, no_number_no_two, uncut_no_name, unnamed_no_name}
use Rattle.script_reader.proofs.net.parts.read_name_and_number.Goals as goal
use Rattle.ew_model.proofs.Outcomes.{if_none}

pub returns-in_err-first-clause-none : goal.returns-in_err-first-clause-none
returns-in_err-first-clause-none c =
    if_none _ _ (no_name_no_two _ (uncut_no_name c.args.words.now c.in_err-first.ensures.none))

pub returns-in_err-read_name-clause-none : goal.returns-in_err-read_name-clause-none
returns-in_err-read_name-clause-none c =
    let cut : AreCut c.args.words.now c.in_ok-first.first.now c.in_ok-first.second.now = record { free = c.in_ok-first.ensures.found.0; whole = c.in_ok-first.ensures.found.1 } in
    if_none _ _ (no_name_no_two _ (unnamed_no_name _ _ _ cut c.in_err-read_name.ensures.none))

pub returns-in_err-read_number-clause-none : goal.returns-in_err-read_number-clause-none
returns-in_err-read_number-clause-none c =
    let cut : AreCut c.args.words.now c.in_ok-first.first.now c.in_ok-first.second.now = record { free = c.in_ok-first.ensures.found.0; whole = c.in_ok-first.ensures.found.1 } in
    let name = c.in_ok-read_name.ensures.name in
    if_none _ _ (no_number_no_two _ _ _ (name_first _ _ _ _ cut name.0 name.1) c.in_err-read_number.ensures.none)
