use Rattle.net_core.proofs.Adding.{only_edits_add}
use Rattle.net_core.proofs.Answering.{answers_arrive}
use Rattle.net_core.proofs.Fitting.{nets_are_reached}
use Rattle.net_core.proofs.Lawful.{agreement_is_told, only_full_refuses, pushes_arrive}
use Rattle.net_core.proofs.laws.law_net.Goals as goal

pub returns : goal.returns
returns c = record {
  reached = nets_are_reached;
  edits = only_edits_add;
  full = only_full_refuses;
  pushes = pushes_arrive;
  answers = answers_arrive;
  agreement = agreement_is_told;
}
