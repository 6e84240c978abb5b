use Rattle.std.proofs.Common.{◌∙◌, List, ℕ, ap, length, arith}
use Rattle.std.proofs.lemmas.List.{take_all}
use Rattle.ew_model.specs.Writable.{agents_of}
use Rattle.event_file.specs.Writing.{with_name}
use Rattle.event_file.proofs.Tables.{few_agents}
use Rattle.stored_histories.proofs.IdRuns.{agents_to}
use Rattle.stored_histories.proofs.written.agents_in.Goals as goal

pub add-requires : goal.add-requires
add-requires c =
    let few = few_agents c.args.graph.now c.loop-position.position c.loop-position.invariant.within in
    let is = ap (λ (xs : List (List ℕ)). length xs) c.loop-position.invariant.so_far in
    omega arith

pub loop-position-preserved : goal.loop-position-preserved
loop-position-preserved c = record {
  so_far = c.in_ok-add.ensures.ok ∙ ap (λ agents. with_name agents c.id_near-first.result.agent) c.loop-position.invariant.so_far
      ∙ agents_to c.args.graph.now c.id_near-first.result c.loop-position.position c.end_of_ids-position.result c.end_of_ids-position.ensures.ids c.end_of_ids-position.ensures.from;
  within = c.end_of_ids-position.ensures.to;
}

pub returns : goal.returns
returns c = c.loop-position.invariant.so_far ∙ ap agents_of (take_all c.loop-position.position c.args.graph.now (omega arith))
