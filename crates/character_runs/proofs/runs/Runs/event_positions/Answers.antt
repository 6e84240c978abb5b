use Rattle.std.proofs.Common.{◌≡◌, ℕ, ap, ◌∙◌}
use Rattle.std.specs.declared.alloc.Global.{Global}
use Rattle.std.specs.declared.vec.Vec.{Vec}
use Rattle.std.proofs.lemmas.Result.{IfOk-weaker}
use Rattle.character_runs.specs.EventPositions.{event_positions}
use Rattle.character_runs.specs.Laid.{chars_in}
use Rattle.character_runs.proofs.EventPositions.{given_runs, given_chars}
use Rattle.character_runs.proofs.runs.Runs.event_positions.Goals as goal

pub returns-clause-positions : goal.returns-clause-positions
returns-clause-positions g c =
    let old = c.args.self.now.tree.pairs in
    let given = c.in_ok-given.given.items in
    let same = given_chars old c.relabel_each.new.self.tree.pairs given c.relabel_each.ensures.runs c.in_ok-given.ensures.given in
    IfOk-weaker c.positions_of_each.result (λ (ps : Vec ℕ Global). ps.items ≡ event_positions (chars_in (given_runs given))) (λ (ps : Vec ℕ Global). ps.items ≡ event_positions (chars_in old))
    (λ ps are. are ∙ ap event_positions same) c.positions_of_each.ensures
