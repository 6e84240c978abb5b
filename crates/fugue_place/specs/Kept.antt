-- What is kept of attached children.
use Rattle.std.specs.Prelude.{ℕ, List, [], Option}
use Rattle.fugue_place.specs.declared.child.Side.TheVariants.{Left, Right}
use Rattle.fugue_place.specs.declared.child.Attached.{Attached}
use Rattle.fugue_place.specs.declared.places.Places.{Places}
use Rattle.fugue_place.specs.declared.spot.Spot.{Spot}
use Rattle.fugue_place.specs.declared.ways.Ways.{Ways}
use Rattle.fugue_place.specs.Attachments.{AreAttached}
use Rattle.fugue_place.specs.Places.{ArePlaces}
use Rattle.fugue_place.specs.Spots.{IsIndex}
use Rattle.fugue_place.specs.Ways.{LeadOutward}

-- Each was rightly attached, is found by its spot and by its node, and the ways on each side lead outward.
pub record AreSiblings (children : List Attached) (spot : Spot → Option ℕ) (kept : Places) (firsts lasts : Ways) : Type 0 where
  pub attached : AreAttached [] children
  pub spots : IsIndex children spot
  pub places : ArePlaces children kept
  pub left : LeadOutward Left children firsts
  pub right : LeadOutward Right children lasts
