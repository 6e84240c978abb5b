use Rattle.script_reader.proofs.LineParts.{AreCut, uncut_insertion_means_none, no_index_means_no_insertion, no_text_means_none}
use Rattle.script_reader.proofs.line.read_insertion.Goals as goal

pub returns-in_default : goal.returns-in_default
returns-in_default c = uncut_insertion_means_none c.args.words.now c.in_default.ensures.none

pub returns-in_default-read_number : goal.returns-in_default-read_number
returns-in_default-read_number c =
    let cut : AreCut c.args.words.now c.in-Some.number.now c.in-Some.escaped.now = record { free = c.in-Some.ensures.found.0; whole = c.in-Some.ensures.found.1 } in
    no_index_means_no_insertion _ _ _ cut c.in_default-read_number.ensures.none

pub returns-in_default-2 : goal.returns-in_default-2
returns-in_default-2 c =
    let cut : AreCut c.args.words.now c.in-Some.number.now c.in-Some.escaped.now = record { free = c.in-Some.ensures.found.0; whole = c.in-Some.ensures.found.1 } in
    no_text_means_none _ _ _ cut (rw c.in_default-2.is at c.in_ok-text.ensures.none)
