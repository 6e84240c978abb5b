-- Children in a line: those of one node on one side.
use Rattle.std.specs.Prelude.{◌≡◌, ℕ, ◌<◌, Bool, true, false, ◌&&◌, List, length, take, Option, Some, None, slice_get}
use Rattle.std.specs.List.{list_any}
use Rattle.ew_model.specs.declared.id.Id.{Id}
use Rattle.ew_model.specs.declared.node.Node.{Node}
use Rattle.ew_model.specs.Ids.{id_lt}
use Rattle.ew_model.specs.Sets.{Among}
use Rattle.fugue_place.specs.declared.child.Side.{Side}
use Rattle.fugue_place.specs.declared.child.Side.TheVariants.{Left, Right}
use Rattle.fugue_place.specs.declared.child.Attached.{Attached}
use Rattle.fugue_place.specs.declared.line.Line.{Line}
use Rattle.fugue_place.specs.Neighbours.{is_child}

-- the id is below the limit, where there is one
abbrev pub is_below : Option Id → Id → Bool
is_below None x = true
is_below (Some limit) x = id_lt x limit

-- the child is in the line
abbrev pub is_in_line : Line → Attached → Bool
is_in_line line a = is_child line.parent line.side a && is_below line.below a.id

-- all children of a node on one side
abbrev pub line_of : Node → Side → Line
line_of v s = record { parent = v; side = s; below = None }

-- the first id stands further out on this side than the second
abbrev pub is_further : Side → Id → Id → Bool
is_further Left x y = id_lt x y
is_further Right x y = id_lt y x

-- The child at k is in the line, and of the first n children none in the line stands further out.
pub record IsOutermost (line : Line) (end : Side) (children : List Attached) (n k : ℕ) : Type 0 where
  pub child : Attached
  pub early : k < n
  pub here : slice_get children k ≡ Some child
  pub fits : is_in_line line child ≡ true
  pub outermost : (a : Attached) → Among a (take n children) → is_in_line line a ≡ true → is_further end a.id child.id ≡ false

-- The place is that of the outermost of the first n children in the line; none is in the line where there is no place.
abbrev pub IsBest : Line → Side → List Attached → ℕ → Option ℕ → Type 0
IsBest line end children n None = list_any (is_in_line line) (take n children) ≡ false
IsBest line end children n (Some k) = IsOutermost line end children n k

-- each child is followed by its outermost child on the side, or by none where it has none there
abbrev pub AreOutermost : Side → List Attached → (ℕ → Option ℕ) → Type 0
AreOutermost end children outer = (k : ℕ) (a : Attached) → slice_get children k ≡ Some a → IsBest (line_of a.node end) end children (length children) (outer k)

-- a new child stands further out on the side than the others of the child at k
pub record IsNewOutermost (end : Side) (children : List Attached) (outer : ℕ → Option ℕ) (child : Attached) (k : ℕ) : Type 0 where
  pub parent : Attached
  pub here : slice_get children k ≡ Some parent
  pub is : child.parent ≡ parent.node
  pub side : child.side ≡ end
  pub further : (j : ℕ) (c : Attached) → outer k ≡ Some j → slice_get children j ≡ Some c → is_further end child.id c.id ≡ true

-- a new child on the side is no child of these, or one of the others stands no less far out
abbrev pub IsNoOutermost : Side → List Attached → (ℕ → Option ℕ) → Attached → Type 0
IsNoOutermost end children outer child =
    (k : ℕ) (parent : Attached) → slice_get children k ≡ Some parent → child.parent ≡ parent.node → child.side ≡ end
    → (j : ℕ) × (c : Attached) × (outer k ≡ Some j) × (slice_get children j ≡ Some c) × (is_further end child.id c.id ≡ false)
