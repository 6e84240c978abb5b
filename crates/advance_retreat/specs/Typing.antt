-- Insertions that are applied one after another, each right behind the one before.
use Rattle.std.specs.Prelude.{◌≡◌, ℕ, zero, suc, ◌+◌, ◌<◌, ◌≤◌, nat_eq, true, List, [], ◌∷◌, ◌++◌, length}
use Rattle.ew_model.specs.declared.id.Id.{Id}
use Rattle.ew_model.specs.declared.text_op.TextOp.TheVariants.{Ins}
use Rattle.ew_model.specs.Entries.{visible}
use Rattle.ew_model.specs.Operations.{next_operation}
use Rattle.ew_model.specs.Places.Act.{InsertAs}
use Rattle.ew_model.specs.Records.{inserts_as, next_of, prepared_entries}
use Rattle.ew_model.specs.Sets.{Among}
use Rattle.ew_model.specs.Tree.{Applied, tree_of}
use Rattle.fugue_place.specs.Heirs.{id_on}
use Rattle.advance_retreat.specs.Conditions.{MayInsert}
use Rattle.advance_retreat.specs.Kept.{Kept}
use Rattle.advance_retreat.specs.Standing.{StandsFor}

-- so many insertions may be applied behind the event at the position, which inserts under no other id than this
pub record MayType (events : List (Applied ℕ)) (x : Id) (position n : ℕ) : Type 0 where
  pub under : (c : Applied ℕ) → Among c events → c.name ≡ position → (y : Id) → inserts_as y c.act ≡ true → y ≡ x
  pub new : (k : ℕ) → k < n → MayInsert events (position + k + 1) (id_on x (k + 1))

-- Over these events, with so much prepared, an insertion at an index is in range, its character comes to this index of the text, and the new state stands for the events with it.
pub record Inserts (new : Kept) (lv : ℕ) (x : Id) (at n : ℕ) (b : ℕ) (events : List (Applied ℕ)) (prepared : List ℕ) (ch : ℕ) : Type 0 where
  pub within : at ≤ length (visible (prepared_entries b events prepared))
  pub does : next_operation nat_eq b (tree_of nat_eq b events) (next_of lv (InsertAs x at ch) prepared) ≡ Ins n ch
  pub stands : StandsFor new b (events ++ next_of lv (InsertAs x at ch) prepared ∷ []) (lv ∷ prepared)

-- So many insertions by the events behind the one at a position were applied one after another, the first at an index, each other one right behind the one before, under the next ids. What each did holds of whatever the state before it stands for, and of any character.
abbrev pub TypedEach : Kept → Kept → Id → ℕ → ℕ → ℕ → ℕ → Type 0
TypedEach old new x position at zero n = new ≡ old
TypedEach old new x position at (suc k) n =
    (now : Kept) × TypedEach old now x position at k n
    × ((b : ℕ) (events : List (Applied ℕ)) (prepared : List ℕ) (ch : ℕ) → StandsFor now b events prepared → MayInsert events (position + k + 1) (id_on x (k + 1)) → Inserts new (position + k + 1) (id_on x (k + 1)) (at + k) (n + k) b events prepared ch)
