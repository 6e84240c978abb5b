-- Children that hang, on the right, on the one that was attached just before them.
use Rattle.std.specs.Prelude.{◌≡◌, ℕ, ◌+◌, ◌-◌, ◌<◌, Bool, true, false, ◌&&◌, List, ◌++◌, length, map, take, slice_get, Option, Some, None}
use Rattle.std.specs.List.{range_with_len}
use Rattle.ew_model.specs.declared.id.Id.{Id}
use Rattle.ew_model.specs.declared.node.Node.{Node}
use Rattle.ew_model.specs.declared.node.Node.TheVariants.{Event}
use Rattle.fugue_place.specs.declared.child.Side.{Side}
use Rattle.fugue_place.specs.declared.child.Side.TheVariants.{Right}
use Rattle.fugue_place.specs.declared.child.Attached.{Attached}
use Rattle.fugue_place.specs.declared.line.Line.{Line}
use Rattle.fugue_place.specs.Attachments.{is_newest, is_attached, has_id}
use Rattle.fugue_place.specs.Lines.{is_in_line, is_further}
use Rattle.fugue_place.specs.Neighbours.{is_child, side_eq}

-- behind these the child is such an heir
abbrev pub is_heir : List Attached → Attached → Bool
is_heir before a = is_newest before a.parent && side_eq a.side Right

-- the id of the same agent whose number is so much greater
abbrev pub id_on : Id → ℕ → Id
id_on x k = record { agent = x.agent; seq = x.seq + k }

-- the node of the event so many places and one more behind a position, on the right of that of the event before it; the node at the position has this id, and each further one the next
abbrev pub heir_on : Id → ℕ → ℕ → Attached
heir_on x newest k = record { parent = Event (newest + k); side = Right; id = id_on x (k + 1); node = Event (newest + k + 1) }

-- the nodes of the first so many of them
abbrev pub heirs_on : Id → ℕ → ℕ → List Attached
heirs_on x newest n = map (heir_on x newest) (range_with_len 0 n)

-- so many came behind the child that was attached last, which is the node of the event at the position
pub record HaveHeirs (old new : List Attached) (position n : ℕ) : Type 0 where
  pub newest : Attached
  pub last : slice_get old (length old - 1) ≡ Some newest
  pub node : newest.node ≡ Event position
  pub after : new ≡ old ++ heirs_on newest.id position n

-- so many more events and ids behind those of the child that was attached last are new
pub record AreNew (attached : List Attached) (position n : ℕ) : Type 0 where
  pub nodes : (k : ℕ) → k < n → is_attached attached (Event (position + k + 1)) ≡ false
  pub ids : (a : Attached) → slice_get attached (length attached - 1) ≡ Some a → a.node ≡ Event position → (k : ℕ) → k < n → has_id attached (id_on a.id (k + 1)) ≡ false

-- the child at k is an heir in the line
pub record IsHeirIn (line : Line) (children : List Attached) (k : ℕ) : Type 0 where
  pub child : Attached
  pub here : slice_get children k ≡ Some child
  pub heir : is_heir (take k children) child ≡ true
  pub fits : is_in_line line child ≡ true

-- no child in the line is an heir
abbrev pub HasNoHeir : Line → List Attached → Type 0
HasNoHeir line children = (k : ℕ) (a : Attached) → slice_get children k ≡ Some a → is_in_line line a ≡ true → is_heir (take k children) a ≡ false

-- The child at k is in the line, and of those that are no heirs none in the line stands further out.
pub record IsOuterThanOthers (line : Line) (end : Side) (children : List Attached) (k : ℕ) : Type 0 where
  pub child : Attached
  pub here : slice_get children k ≡ Some child
  pub fits : is_in_line line child ≡ true
  pub outermost : (j : ℕ) (a : Attached) → slice_get children j ≡ Some a → is_heir (take j children) a ≡ false → is_in_line line a ≡ true → is_further end a.id child.id ≡ false

-- The place is that of such a child; where there is none, none in the line but heirs.
abbrev pub IsBestOfOthers : Line → Side → List Attached → Option ℕ → Type 0
IsBestOfOthers line end children None = (j : ℕ) (a : Attached) → slice_get children j ≡ Some a → is_heir (take j children) a ≡ false → is_in_line line a ≡ false
IsBestOfOthers line end children (Some k) = IsOuterThanOthers line end children k

-- so it is of each right child of the node that is no heir
abbrev pub EveryOther : (Node → Type 0) → List Attached → Node → Type 0
EveryOther P children node = (k : ℕ) (a : Attached) → slice_get children k ≡ Some a → is_heir (take k children) a ≡ false → is_child node Right a ≡ true → P a.node
