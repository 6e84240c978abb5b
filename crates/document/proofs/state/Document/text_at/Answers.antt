use Rattle.std.proofs.Common.{◌≡◌, ◌↔◌, Err, Some, subst}
use Rattle.ew_model.specs.declared.id.Id.{Id}
use Rattle.ew_model.specs.Kept.{ReplicaState}
use Rattle.ew_model.specs.Verdicts.{first_unknown}
use Rattle.replica.specs.declared.fault.VersionFault.TheVariants as fault
use Rattle.document.proofs.state.Document.text_at.Goals as goal

pub returns-clause-unknown : goal.returns-clause-unknown
returns-clause-unknown c =
    subst (λ (r : ReplicaState). (x : Id) → (c.text_at_by.result ≡ Err (fault.Unknown x)) ↔ (first_unknown r.held c.args.version.now ≡ Some x)) c.self.view_is c.text_at_by.ensures.unknown
