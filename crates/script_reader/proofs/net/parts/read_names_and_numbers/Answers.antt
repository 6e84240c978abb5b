use Rattle.script_reader.proofs.LineParts.{AreCut}
use Rattle.script_reader.proofs.LineWords.{name_first, no_name_no_four, no_numbers_no_four, no_other_no_four, uncut_no_name, unnamed_no_name}
use Rattle.script_reader.proofs.net.parts.read_names_and_numbers.Goals as goal
use Rattle.ew_model.proofs.Outcomes.{if_none}

pub returns-in_err-word-clause-none : goal.returns-in_err-word-clause-none
returns-in_err-word-clause-none c =
    if_none _ _ (no_name_no_four _ (uncut_no_name c.args.words.now c.in_err-word.ensures.none))

pub returns-in_err-name-clause-none : goal.returns-in_err-name-clause-none
returns-in_err-name-clause-none c =
    let cut : AreCut c.args.words.now c.in_ok-word.word.now c.in_ok-word.behind.now = record { free = c.in_ok-word.ensures.found.0; whole = c.in_ok-word.ensures.found.1 } in
    if_none _ _ (no_name_no_four _ (unnamed_no_name _ _ _ cut c.in_err-name.ensures.none))

pub returns-in_err-second-clause-none : goal.returns-in_err-second-clause-none
returns-in_err-second-clause-none c =
    let cut : AreCut c.args.words.now c.in_ok-word.word.now c.in_ok-word.behind.now = record { free = c.in_ok-word.ensures.found.0; whole = c.in_ok-word.ensures.found.1 } in
    let name = c.in_ok-name.ensures.name in
    let none = uncut_no_name c.in_ok-word.behind.now c.in_err-second.ensures.none in
    if_none _ _ (no_other_no_four _ _ _ (name_first _ _ _ _ cut name.0 name.1) none)

pub returns-in_err-other-clause-none : goal.returns-in_err-other-clause-none
returns-in_err-other-clause-none c =
    let cut : AreCut c.args.words.now c.in_ok-word.word.now c.in_ok-word.behind.now = record { free = c.in_ok-word.ensures.found.0; whole = c.in_ok-word.ensures.found.1 } in
    let name = c.in_ok-name.ensures.name in
    let second : AreCut c.in_ok-word.behind.now c.in_ok-second.second.now c.in_ok-second.numbers.now = record { free = c.in_ok-second.ensures.found.0; whole = c.in_ok-second.ensures.found.1 } in
    let none = unnamed_no_name _ _ _ second c.in_err-other.ensures.none in
    if_none _ _ (no_other_no_four _ _ _ (name_first _ _ _ _ cut name.0 name.1) none)

pub returns-in_err-m-clause-none : goal.returns-in_err-m-clause-none
returns-in_err-m-clause-none c =
    let cut : AreCut c.args.words.now c.in_ok-word.word.now c.in_ok-word.behind.now = record { free = c.in_ok-word.ensures.found.0; whole = c.in_ok-word.ensures.found.1 } in
    let name = c.in_ok-name.ensures.name in
    let second : AreCut c.in_ok-word.behind.now c.in_ok-second.second.now c.in_ok-second.numbers.now = record { free = c.in_ok-second.ensures.found.0; whole = c.in_ok-second.ensures.found.1 } in
    let other = c.in_ok-other.ensures.name in
    if_none _ _ (no_numbers_no_four _ _ _ _ _ (name_first _ _ _ _ cut name.0 name.1) (name_first _ _ _ _ second other.0 other.1) c.in_err-m.ensures.none)
