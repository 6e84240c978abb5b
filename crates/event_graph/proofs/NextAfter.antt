-- The event that goes on after the last one is the next event.
use Rattle.std.proofs.Common.{◌≡◌, ◌+◌, ◌-◌, ◌<◌, ◌^◌, ◌∷◌, [], List, Some, length, option_map, refl, sym, ap}
use Rattle.ew_model.specs.declared.id.Id.{Id}
use Rattle.ew_model.specs.declared.event.Op.{Op}
use Rattle.ew_model.specs.declared.event.Event.{Event}
use Rattle.ew_model.specs.Ancestors.{heads}
use Rattle.ew_model.specs.Positions.{positions_in}
use Rattle.ew_model.specs.Sound.{IsSoundOp, AreSound}
use Rattle.history_definitions.specs.Chains.{event_behind, next_id, last_id}
use Rattle.event_graph.specs.Afters.{IsNextAfter}
use Rattle.event_graph.specs.Keeping.{IsAdmitted}
use Rattle.event_graph.specs.declared.parts.After.TheVariants.{Last}
use Rattle.event_graph.proofs.GoingOn.{last_there, last_of_ids, next_behind, sound_behind}

pub next_after_last : (history : List Event) (op : Op) → IsAdmitted history → AreSound history → IsSoundOp op → 0 < length history → length history + 1 < 2 ^ 32 → positions_in history (heads history) ≡ (length history - 1) ∷ []
    → (x : Id) × (last_id history ≡ Some x) × IsNextAfter history Last ((length history - 1) ∷ []) op (event_behind x op)
next_after_last history op admitted sound fits some room head =
    let there = last_there history some in
    let x = there.0 in
    let last = there.1 in (
      x,
      last,
      record {
        good = next_behind history admitted x last (length history - 1) (next_id x) op refl refl;
        sound = sound_behind history admitted x last op sound room fits;
        id = ap (option_map next_id) (last_of_ids history admitted x last);
        op_is = refl;
        stands = (sym head, refl);
      },
    )
