-- The last id of a history.
use Rattle.std.proofs.Common.{◌≡◌, suc, ◌+◌, ◌-◌, List, [], ◌∷◌, ◌++◌, length, Some, refl, ap, ◌∙◌, arith, length-append}
use Rattle.std.specs.Prelude.{slice_get}
use Rattle.ew_model.specs.declared.event.Event.{Event}
use Rattle.ew_model.specs.Ancestors.{ids_of}
use Rattle.history_definitions.specs.Chains.{last_id}

-- the last event of a history is the one that came behind the others
pub last_pushed : (history : List Event) (e : Event) → last_id (history ++ e ∷ []) ≡ Some e.id
last_pushed [] e = refl
last_pushed (f ∷ history) e =
    let long = length-append history (e ∷ []) in
    let place : length (f ∷ (history ++ e ∷ [])) - 1 ≡ suc (length (history ++ e ∷ []) - 1) = omega (arith, long) in
    ap (slice_get (ids_of (f ∷ (history ++ e ∷ [])))) place ∙ last_pushed history e
