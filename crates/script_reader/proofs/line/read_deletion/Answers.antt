use Rattle.script_reader.proofs.LineParts.{AreCut, reads_none, uncut_deletion_means_none, no_index_means_no_deletion, no_count_means_none}
use Rattle.script_reader.proofs.line.read_deletion.Goals as goal

pub returns-in_err-at : goal.returns-in_err-at
returns-in_err-at c = reads_none _ _ c.from_residual.ensures (uncut_deletion_means_none c.args.words.now c.in_err-at.ensures.none)

pub returns-in_err-read_number : goal.returns-in_err-read_number
returns-in_err-read_number c =
    let cut : AreCut c.args.words.now c.in_ok-at.at.now c.in_ok-at.n.now = record { free = c.in_ok-at.ensures.found.0; whole = c.in_ok-at.ensures.found.1 } in
    reads_none _ _ c.from_residual-in_err-read_number.ensures (no_index_means_no_deletion _ _ _ cut c.in_err-read_number.ensures.none)

pub returns-in_err-read_number-2 : goal.returns-in_err-read_number-2
returns-in_err-read_number-2 c =
    let cut : AreCut c.args.words.now c.in_ok-at.at.now c.in_ok-at.n.now = record { free = c.in_ok-at.ensures.found.0; whole = c.in_ok-at.ensures.found.1 } in
    reads_none _ _ c.from_residual-in_err-read_number-2.ensures (no_count_means_none _ _ _ cut c.in_err-read_number-2.ensures.none)
