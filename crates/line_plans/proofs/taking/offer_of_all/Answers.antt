use Rattle.std.proofs.Common.{◌∙◌, [], List, ap, length, arith}
use Rattle.ew_model.specs.declared.event.Event.{Event}
use Rattle.history_definitions.specs.Missing.{missing}
use Rattle.line_plans.proofs.Taken.{all_missing, none_twice}
use Rattle.line_plans.proofs.taking.offer_of_all.Goals as goal

pub missing_positions-requires : goal.missing_positions-requires
missing_positions-requires c = none_twice

pub returns-clause-all : goal.returns-clause-all
returns-clause-all c = c.in_ok-positions.ensures.events ∙ all_missing c.args.graph

pub returns-clause-short : goal.returns-clause-short
returns-clause-short c =
    let many = c.in_ok-positions.ensures.count in
    let all = ap (length {A = Event}) (all_missing c.args.graph) in
    omega (arith, many, all, c.count-count.ensures, c.count-count.type_inv)
