use Rattle.std.proofs.Common.{◌≡◌, ◌↔◌, List, Err, Some, subst}
use Rattle.caret_places.specs.Faults.{fault_of}
use Rattle.caret_places.specs.declared.fault.IndexFault.TheVariants as standing
use Rattle.ew_model.specs.declared.event.Event.{Event}
use Rattle.ew_model.specs.declared.id.Id.{Id}
use Rattle.document.proofs.counted.index_by.Goals as goal

pub returns-clause-unknown : goal.returns-clause-unknown
returns-clause-unknown g c =
    subst (λ (h : List Event). (x : Id) → (c.find_index.result ≡ Err (standing.Unknown x)) ↔ (fault_of h c.args.caret.now ≡ Some (standing.Unknown x))) c.graph.ensures.graph c.find_index.ensures.unknown

pub returns-clause-no_character : goal.returns-clause-no_character
returns-clause-no_character g c =
    subst (λ (h : List Event). (x : Id) → (c.find_index.result ≡ Err (standing.NoCharacter x)) ↔ (fault_of h c.args.caret.now ≡ Some (standing.NoCharacter x))) c.graph.ensures.graph c.find_index.ensures.no_character
