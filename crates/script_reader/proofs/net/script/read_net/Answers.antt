use Rattle.std.proofs.Common.{◌+◌, Err, inl, sym, ◌∙◌, true-eqb}
use Rattle.ew_model.specs.Scripts.{lines_of}
use Rattle.ew_model.proofs.LineLaws.{all_readable}
use Rattle.std.proofs.lemmas.Result.{err_from_is_err_and}
use Rattle.script_reader.proofs.Faults.{memory_alone}
use Rattle.script_reader.proofs.Lines.{finished}
use Rattle.peer_definitions.specs.NetScripts.{MeansStep}
use Rattle.script_reader.proofs.net.script.read_net.Goals as goal

pub returns-clause-script : goal.returns-clause-script
returns-clause-script c =
    finished MeansStep c.args.b.now c.loop-rest.rest.now (c.loop-rest.number + 1) _ (true-eqb _ _ c.loop-rest-test.ensures) c.loop-rest.invariant.script

pub returns-clause-refused : goal.returns-clause-refused
returns-clause-refused c =
    let script = finished MeansStep c.args.b.now c.loop-rest.rest.now (c.loop-rest.number + 1) _ (true-eqb _ _ c.loop-rest-test.ensures) c.loop-rest.invariant.script in
    λ bad first. absurd (all_readable MeansStep 1 (lines_of c.args.b.now) _ bad script first)

pub returns-in_err-push_line-clause-read : goal.returns-in_err-push_line-clause-read
returns-in_err-push_line-clause-read c =
    let told = err_from_is_err_and c.from_residual.result c.from_residual.ensures.1 in
    memory_alone MeansStep c.args.b.now c.from_residual.result told.0 told.1
    (λ k e. let h = c.in_err-push_line.ensures.bad_line k (λ i. Err ((sym told.2 ∙ e) i)) in c.loop-rest.invariant.bad_line k (rw c.split_line.ensures.lines (inl (h.1, h.0))))
