use Rattle.std.proofs.Common.{◌≡◌, ◌↔◌, Err, Some, subst}
use Rattle.caret_places.specs.Faults.{fault_of}
use Rattle.caret_places.specs.declared.fault.IndexFault.TheVariants as standing
use Rattle.ew_model.specs.declared.id.Id.{Id}
use Rattle.ew_model.specs.Kept.{ReplicaState}
use Rattle.document.proofs.state.Document.caret_index.Goals as goal

pub returns-clause-unknown : goal.returns-clause-unknown
returns-clause-unknown c =
    subst (λ (r : ReplicaState). (x : Id) → (c.index_by.result ≡ Err (standing.Unknown x)) ↔ (fault_of r.held c.args.caret.now ≡ Some (standing.Unknown x))) c.self.view_is c.index_by.ensures.unknown

pub returns-clause-no_character : goal.returns-clause-no_character
returns-clause-no_character c =
    subst (λ (r : ReplicaState). (x : Id) → (c.index_by.result ≡ Err (standing.NoCharacter x)) ↔ (fault_of r.held c.args.caret.now ≡ Some (standing.NoCharacter x))) c.self.view_is c.index_by.ensures.no_character
