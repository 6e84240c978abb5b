-- Applies for which there is room.
use Rattle.std.proofs.Common.{◌≡◌, ℕ, ◌<◌, nat_lt, true, false, ◌&&◌, List, length}
use Rattle.std.specs.List.{list_any}
use Rattle.std.proofs.lemmas.Bool.{and_parts, ltb-true}
use Rattle.ew_model.specs.declared.id.Id.{Id}
use Rattle.ew_model.specs.Entries.{visible}
use Rattle.ew_model.specs.Tree.{Applied}
use Rattle.ew_model.specs.Records.{inserts_as, applied_entries}
use Rattle.advance_retreat.specs.Standing.{most}
use Rattle.advance_retreat.specs.Conditions.{IsNewPosition, MayInsert}

-- a deletion or a mark may be applied, and the history has room
pub record CanFollow (events : List (Applied ℕ)) (lv : ℕ) : Type 0 where
  pub position : IsNewPosition events lv
  pub room : length events < most

-- an insertion may be applied, and history and text have room
pub record CanInsert (b : ℕ) (events : List (Applied ℕ)) (lv : ℕ) (x : Id) : Type 0 where
  pub position : IsNewPosition events lv
  pub id : list_any (λ (c : Applied ℕ). inserts_as x c.act) events ≡ false
  pub room : length events < most
  pub room_in_text : length (visible (applied_entries b events)) < most

pub can_follow : (events : List (Applied ℕ)) (lv : ℕ) → IsNewPosition events lv → nat_lt (length events) most ≡ true → CanFollow events lv
can_follow events lv new room = record { position = new; room = ltb-true (length events) most room }

pub can_insert : (b : ℕ) (events : List (Applied ℕ)) (lv : ℕ) (x : Id) → MayInsert events lv x → (nat_lt (length events) most && nat_lt (length (visible (applied_entries b events))) most) ≡ true → CanInsert b events lv x
can_insert b events lv x may room =
    let both = and_parts (nat_lt (length events) most) (nat_lt (length (visible (applied_entries b events))) most) room in
    record { position = may.position; id = may.id; room = ltb-true (length events) most both.0; room_in_text = ltb-true (length (visible (applied_entries b events))) most both.1 }
