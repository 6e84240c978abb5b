use Rattle.std.proofs.Common.{◌-◌, length, sym}
use Rattle.fugue_place.proofs.RunLaws.{run_within}
use Rattle.fugue_place.proofs.children.takes_heirs.Goals as goal

pub ends_with-requires-clause-seqs : goal.ends_with-requires-clause-seqs
ends_with-requires-clause-seqs c =
    let runs = c.args.runs.now in
    (run_within c.requires.0 runs 0 c.requires.1 (length runs - 1) c.in-Some.run'.now c.requires.2 (sym c.in-Some.ensures.value)).kept.seqs

pub ends_with-requires-clause-events : goal.ends_with-requires-clause-events
ends_with-requires-clause-events c =
    let runs = c.args.runs.now in
    (run_within c.requires.0 runs 0 c.requires.1 (length runs - 1) c.in-Some.run'.now c.requires.2 (sym c.in-Some.ensures.value)).kept.events

pub returns-in-Some : goal.returns-in-Some
returns-in-Some c = λ on. (c.in-Some.run'.now, sym c.in-Some.ensures.value, c.ends_with.ensures on)
