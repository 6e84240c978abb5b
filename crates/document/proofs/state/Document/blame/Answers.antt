use Rattle.std.proofs.Common.{◌≡◌, ◌↔◌, List, Bor, Err, Some, subst}
use Rattle.std.specs.Option.{option_map}
use Rattle.blame_definitions.specs.Blame.{unknown_in}
use Rattle.ew_model.specs.declared.id.Id.{Id}
use Rattle.ew_model.specs.Kept.{ReplicaState}
use Rattle.replica.specs.declared.fault.VersionFault.TheVariants as fault
use Rattle.document.proofs.state.Document.blame.Goals as goal

pub returns-clause-unknown : goal.returns-clause-unknown
returns-clause-unknown c =
    subst (λ (r : ReplicaState). (x : Id) → (c.blame_by.result ≡ Err (fault.Unknown x)) ↔ (unknown_in r.held (option_map {T = Bor (List Id)} {U = List Id} (λ v. v.now) c.args.version) ≡ Some x))
    c.self.view_is c.blame_by.ensures.unknown
