use Rattle.std.proofs.Common.{◌≡◌, ◌↔◌, List, Err, Some, ap, arith, length, subst}
use Rattle.ew_model.specs.declared.event.Event.{Event}
use Rattle.ew_model.specs.Kept.{ReplicaState}
use Rattle.ew_model.specs.Verdicts.{first_unknown}
use Rattle.replica.specs.declared.fault.VersionFault.TheVariants.{Unknown}
use Rattle.replica.proofs.state.Replica.text_at.Goals as goal

pub text_at-requires-clause-few : goal.text_at-requires-clause-few
text_at-requires-clause-few g c =
    omega (arith, c.self.invariant.0.kept.few, c.events-most.ensures.range.few_events, ap (length {A = Event}) c.graph.ensures.graph, ap (λ (r : ReplicaState). length r.held) c.self.view_is)

pub returns-clause-unknown : goal.returns-clause-unknown
returns-clause-unknown g c =
    λ x. subst (λ (held : List Event). (c.text_at.result ≡ Err (Unknown x)) ↔ (first_unknown held c.args.version.now ≡ Some x)) c.graph.ensures.graph (c.text_at.ensures.unknown x)
