use Rattle.std.proofs.Common.{[], None, Some, get_or, suc, length, ◌∙◌}
use Rattle.std.proofs.lemmas.Bool.{cond-true}
use Rattle.ew_model.specs.Writable.{agents_of}
use Rattle.ew_model.proofs.ListPlaces.{get-take}
use Rattle.event_file.proofs.Indexes.{known_open}
use Rattle.event_file.proofs.progress.Progress.agent.Goals as goal

pub returns-clause-open : goal.returns-clause-open
returns-clause-open c =
    let known = c.args.self.now in
    let place = c.in_ok-place.place in
    let name = get_or known.agents place [] in
    let there = c.is_open.ensures ∙ cond-true c.is_open.result (Some name) None c.if-not-is_open.false in
    record {
      at = get-take (suc (length (agents_of known.events))) known.agents place name there;
      is_open = known_open known.agents known.events place name there;
    }
