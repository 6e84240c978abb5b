use Rattle.std.proofs.Common.{◌∙◌, sym, arith}
use Rattle.agent_ids.proofs.OwnPositions.{place_within, agent_left, agent_gone, has_place, some_names}
use Rattle.agent_ids.proofs.table.remove_positions.Goals as goal
use Rattle.ew_model.proofs.Outcomes.{none_by}

pub returns-then-first-eq0 : goal.returns-then-first-eq0
returns-then-first-eq0 c ids more t number =
    let some = some_names ids c.args.first.now more c.args.names.now.keys c.args.positions.now.items t number c.if-first-eq0.true in
    agent_gone ids c.args.first.now more c.args.names.now.keys c.pop.new.self.keys c.args.positions.now.items c.pop-then-first-eq0.new.self.items c.pop.result c.pop-then-first-eq0.result t number c.if-first-eq0.true
    c.pop.ensures.keys (c.pop.ensures.found.1 (omega (arith, some))) c.pop-then-first-eq0.ensures.items (c.pop-then-first-eq0.ensures.variant.1 (omega (arith, some, c.args.positions.now.ok.0, c.requires.alike)))

pub returns-in-Some : goal.returns-in-Some
returns-in-Some c ids more t number =
    agent_left ids c.args.first.now more c.args.names.now.keys c.args.positions.now.items c.in-Some.number c.index_mut.result.now c.truncate.new.self t (sym c.in-Some.ensures.index) c.index_mut.ensures.value
    (place_within _ c.args.names.now.keys c.args.positions.now.items c.in-Some.number t c.in-Some.ensures.within) number (omega (arith, c.if-first-eq0.false)) c.truncate.ensures

pub returns-in_default : goal.returns-in_default
returns-in_default c ids more t number =
    absurd (has_place ids c.args.first.now more c.args.names.now.keys c.args.positions.now.items t (sym c.get_index_of.ensures.index ∙ none_by c.get_index_of.result c.in_default.not-Some))
