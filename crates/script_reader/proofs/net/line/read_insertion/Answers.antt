use Rattle.script_reader.proofs.LineParts.{AreCut}
use Rattle.script_reader.proofs.LineWords.{name_first, nameless_no_insertion, no_index_no_insertion, no_text_no_insertion, uncut_no_insertion, uncut_no_name, unnamed_no_name}
use Rattle.script_reader.proofs.net.line.read_insertion.Goals as goal

pub returns-in_default : goal.returns-in_default
returns-in_default c = nameless_no_insertion _ (uncut_no_name c.args.words.now c.in_default.ensures.none)

pub returns-in_default-read_name : goal.returns-in_default-read_name
returns-in_default-read_name c =
    let cut : AreCut c.args.words.now c.in-Some.word.now c.in-Some.behind.now = record { free = c.in-Some.ensures.found.0; whole = c.in-Some.ensures.found.1 } in
    nameless_no_insertion _ (unnamed_no_name _ _ _ cut c.in_default-read_name.ensures.none)

pub returns-in_default-split_once : goal.returns-in_default-split_once
returns-in_default-split_once c =
    let cut : AreCut c.args.words.now c.in-Some.word.now c.in-Some.behind.now = record { free = c.in-Some.ensures.found.0; whole = c.in-Some.ensures.found.1 } in
    let name = c.in-Some-read_name.ensures.name in
    uncut_no_insertion _ _ _ (name_first _ _ _ _ cut name.0 name.1) c.in_default-split_once.ensures.none

pub returns-in_default-read_number : goal.returns-in_default-read_number
returns-in_default-read_number c =
    let cut : AreCut c.args.words.now c.in-Some.word.now c.in-Some.behind.now = record { free = c.in-Some.ensures.found.0; whole = c.in-Some.ensures.found.1 } in
    let name = c.in-Some-read_name.ensures.name in
    let second : AreCut c.in-Some.behind.now c.in-Some-split_once.number.now c.in-Some-split_once.escaped.now = record { free = c.in-Some-split_once.ensures.found.0; whole = c.in-Some-split_once.ensures.found.1 } in
    no_index_no_insertion _ _ _ (name_first _ _ _ _ cut name.0 name.1) _ _ second c.in_default-read_number.ensures.none

pub returns-in_default-2 : goal.returns-in_default-2
returns-in_default-2 c =
    let cut : AreCut c.args.words.now c.in-Some.word.now c.in-Some.behind.now = record { free = c.in-Some.ensures.found.0; whole = c.in-Some.ensures.found.1 } in
    let name = c.in-Some-read_name.ensures.name in
    let second : AreCut c.in-Some.behind.now c.in-Some-split_once.number.now c.in-Some-split_once.escaped.now = record { free = c.in-Some-split_once.ensures.found.0; whole = c.in-Some-split_once.ensures.found.1 } in
    no_text_no_insertion _ _ _ (name_first _ _ _ _ cut name.0 name.1) _ _ second (rw c.in_default-2.is at c.in_ok-text.ensures.none)
