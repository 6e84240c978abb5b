use Rattle.ew_model.specs.Arrival.{most_judgements}
use Rattle.replica.specs.Desks.{IsDesk, LeadsOn, desk_as}
use Rattle.replica.specs.Fronts.{IsFront}
use Rattle.replica.proofs.judging.judge_all.Given as goal

abbrev pub invariant-loop-answer : goal.invariant-loop-answer
invariant-loop-answer l = record {
  desk : IsDesk l.limits l.graph l.events l.desk.pool l.desk.progress;
  way : LeadsOn l.limits l.out (desk_as l.fn.graph l.events l.fn.desk) (desk_as l.graph l.events l.desk) l.fn.desk.progress l.desk.progress;
  front : IsFront l.fn.graph l.graph;
}

abbrev pub decreases-loop-answer : goal.decreases-loop-answer
decreases-loop-answer l = most_judgements (desk_as l.graph l.events l.desk)
