use Rattle.std.proofs.Common.{[]}
use Rattle.script_reader.specs.Meaning.{numbered_edits}
use Rattle.line_plans.proofs.Readings.{done_edits, stopped_edits}
use Rattle.line_plans.proofs.edit.run_edits.Goals as goal

pub returns-in-Some-clause-told : goal.returns-in-Some-clause-told
returns-in-Some-clause-told g c =
    stopped_edits c.args.name.now c.args.agent [] c.args.replica.now c.do_edits.new.replica (numbered_edits c.args.edits.now) _ c.in-Some.refusal c.in-Some.is c.in_ok-refusal.ensures.done

pub returns-in-None-clause-told : goal.returns-in-None-clause-told
returns-in-None-clause-told g c =
    done_edits c.args.name.now c.args.agent [] c.args.replica.now c.do_edits.new.replica (numbered_edits c.args.edits.now) _ c.count-before.result c.made_plan.result c.in-None.is c.in_ok-refusal.ensures.done c.count-before.ensures c.made_plan.ensures.told
