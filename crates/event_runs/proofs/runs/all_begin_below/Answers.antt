use Rattle.std.proofs.Common.{sym}
use Rattle.std.proofs.lemmas.Bool.{ltb-true}
use Rattle.event_runs.proofs.RunEvents.{all_begin}
use Rattle.event_runs.proofs.runs.all_begin_below.Goals as goal

pub returns-in-Some : goal.returns-in-Some
returns-in-Some c = λ low.
    all_begin c.args.runs.now c.requires.0 c.requires.1 c.requires.2 c.args.end c.in-Some.run'.now c.requires.3 (sym c.in-Some.ensures.value) (ltb-true _ _ low)
