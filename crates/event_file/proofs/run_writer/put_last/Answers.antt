use Rattle.std.proofs.Common.{◌-◌, ◌^◌, Some, subst, arith}
use Rattle.std.specs.Option.{option_map}
use Rattle.event_file.specs.LastRuns.{HasAtMost}
use Rattle.event_file.specs.Steps.{run_of}
use Rattle.event_file.specs.declared.steps.LastRun.{LastRun}
use Rattle.std.specs.Prelude.{Option}
use Rattle.event_file.proofs.run_writer.put_last.Goals as goal

pub put-requires : goal.put-requires
put-requires c =
    let few : HasAtMost (2 ^ 32 - 1) (option_map (run_of c.args.text.now) (Some c.in-Some.there)) = subst (λ (o : Option LastRun). HasAtMost (2 ^ 32 - 1) (option_map (run_of c.args.text.now) o)) c.in-Some.is c.requires in
    omega (arith, few)
