use Rattle.script_reader.proofs.LineParts.{AreCut}
use Rattle.script_reader.proofs.LineWords.{name_first, nameless_no_deletion, no_numbers_no_deletion, reads_none, uncut_no_name, unnamed_no_name}
use Rattle.script_reader.proofs.net.line.read_deletion.Goals as goal

pub returns-in_err-word : goal.returns-in_err-word
returns-in_err-word c =
    reads_none _ _ c.from_residual.ensures (nameless_no_deletion _ (uncut_no_name c.args.words.now c.in_err-word.ensures.none))

pub returns-in_err-who : goal.returns-in_err-who
returns-in_err-who c =
    let cut : AreCut c.args.words.now c.in_ok-word.word.now c.in_ok-word.numbers.now = record { free = c.in_ok-word.ensures.found.0; whole = c.in_ok-word.ensures.found.1 } in
    reads_none _ _ c.from_residual-in_err-who.ensures (nameless_no_deletion _ (unnamed_no_name _ _ _ cut c.in_err-who.ensures.none))

pub returns-in_err-at : goal.returns-in_err-at
returns-in_err-at c =
    let cut : AreCut c.args.words.now c.in_ok-word.word.now c.in_ok-word.numbers.now = record { free = c.in_ok-word.ensures.found.0; whole = c.in_ok-word.ensures.found.1 } in
    let name = c.in_ok-who.ensures.name in
    reads_none _ _ c.from_residual-in_err-at.ensures (no_numbers_no_deletion _ _ _ (name_first _ _ _ _ cut name.0 name.1) c.in_err-at.ensures.none)
