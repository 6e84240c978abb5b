-- A new node that came in beside its neighbour.
use Rattle.std.proofs.Common.{◌≡◌, ℕ, List, [], ◌∷◌, ◌++◌}
use Rattle.ew_model.specs.declared.id.Id.{Id}
use Rattle.ew_model.specs.declared.node.Node.TheVariants.{Event}
use Rattle.walker_record.specs.Stretches.{Stretch}
use Rattle.fugue_place.specs.declared.child.Attached.{Attached}
use Rattle.fugue_place.specs.declared.neighbour.Place.{Place}
use Rattle.fugue_place.specs.Neighbours.{IsPlaceOfNew}
use Rattle.character_runs.specs.declared.slot.Slot.{Slot}
use Rattle.advance_retreat.specs.declared.target.Target.{Target}
use Rattle.advance_retreat.specs.Kept.{Kept}
use Rattle.character_runs.specs.Spots.{Comes}
use Rattle.advance_retreat.specs.Hanging.{Puts}

pub puts_by : (s : Kept) (records : List Stretch) (attached : List Attached) (targets : List Target) (lv : ℕ) (x : Id) (slot : Slot) (place : Place) (n : ℕ)
    → IsPlaceOfNew s.attached slot.parent slot.side x place → Comes s.records records place lv n
    → attached ≡ s.attached ++ record { parent = slot.parent; side = slot.side; id = x; node = Event lv } ∷ []
    → targets ≡ s.targets ++ record { lv = lv; node = Event lv } ∷ []
    → Puts s (record { base = s.base; records = records; attached = attached; targets = targets; lost = s.lost }) lv x slot n
puts_by s records attached targets lv x slot place n right e more added = record {
  place = place;
  index = e.index;
  right = right;
  here = e.here;
  within = e.within;
  before = e.before;
  after = λ i. record { base = s.base; records = e.after i; attached = more i; targets = added i; lost = s.lost };
}
