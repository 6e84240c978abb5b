-- Where a new child stands among the nodes of a tree: what its siblings tell (The Art of the Fugue, 2023: the traversal).
use Rattle.std.specs.Prelude.{◌≡◌, ℕ, nat_eq, Bool, true, false, ◌&&◌, List, [], ◌∷◌, ◌++◌, if◌then◌else◌, ◌⊎◌}
use Rattle.std.specs.Ordering.{is_eq, is_lt, is_gt}
use Rattle.std.specs.List.{AllByRecursion}
use Rattle.std.specs.List.Sorted.{IsStrictlySortedBy}
use Rattle.std.specs.declared.cmp.Ordering.TheVariants.{Less, Greater}
use Rattle.ew_model.specs.declared.id.Id.{Id}
use Rattle.ew_model.specs.Ids.{id_cmp}
use Rattle.ew_model.specs.Sets.{Among}
use Rattle.ew_model.specs.Sorting.{put_in_order}
use Rattle.ew_model.specs.Paths.{Side, Step, step_cmp, path_cmp, path_lt, step_down}
use Rattle.ew_model.specs.Entries.{Inserted, Entry, inserted_cmp, insertions, order}
use Rattle.ew_model.specs.Tree.{Applied, all_entries, tree_of}
use Rattle.ew_model.specs.Paths.Side.{Left, Right}
use Rattle.ew_model.specs.Entries.Entry.{Insertion}

-- every front of a node's path that isn't empty is a node's path
abbrev pub IsRooted : List Inserted → Type 0
IsRooted nodes =
    (z : Inserted) → Among z nodes → (front : List Step) (s : Step) (rest : List Step) → z.path ≡ front ++ s ∷ rest
    → (y : Inserted) × Among y nodes × (y.path ≡ front ++ s ∷ [])

-- a node is the child with this id, on this side of the node at p
abbrev pub HasChild : List Inserted → List Step → Side → Id → Type 0
HasChild nodes p side x = (y : Inserted) × Among y nodes × (y.path ≡ step_down p side x)

-- the second path is the first, or goes on from it
abbrev pub is_front : List Step → List Step → Bool
is_front [] q = true
is_front (s ∷ p) [] = false
is_front (s ∷ p) (t ∷ q) = is_eq (step_cmp t s) && is_front p q

-- y is the last of the nodes at p and below
pub record IsLastBelow (nodes : List Inserted) (p : List Step) (y : Inserted) : Type 0 where
  pub here : Among y nodes
  pub below : is_front p y.path ≡ true
  pub last : (z : Inserted) → Among z nodes → is_front p z.path ≡ true → path_lt y.path z.path ≡ false

-- y is the first of them
pub record IsFirstBelow (nodes : List Inserted) (p : List Step) (y : Inserted) : Type 0 where
  pub here : Among y nodes
  pub below : is_front p y.path ≡ true
  pub first : (z : Inserted) → Among z nodes → is_front p z.path ≡ true → path_lt z.path y.path ≡ false

-- Among the nodes the path c stands right behind v: what is at or before v is before c, and the rest behind it.
abbrev pub StandsBehind : List Inserted → List Step → List Step → Type 0
StandsBehind nodes c v = (z : Inserted) → Among z nodes → path_cmp z.path c ≡ (if is_gt (path_cmp z.path v) then Greater else Less)

-- Among the nodes the path c stands right ahead of v.
abbrev pub StandsAhead : List Inserted → List Step → List Step → Type 0
StandsAhead nodes c v = (z : Inserted) → Among z nodes → path_cmp z.path c ≡ (if is_lt (path_cmp z.path v) then Less else Greater)

-- j is the greatest of the children whose ids are below x
pub record IsNextLower (nodes : List Inserted) (p : List Step) (side : Side) (x j : Id) : Type 0 where
  pub here : HasChild nodes p side j
  pub lower : id_cmp j x ≡ Less
  pub greatest : (m : Id) → HasChild nodes p side m → id_cmp m x ≡ Less → id_cmp j m ≡ Less → ⊥

-- none of the children is below x, and j is the least of them
pub record IsLowest (nodes : List Inserted) (p : List Step) (side : Side) (x j : Id) : Type 0 where
  pub here : HasChild nodes p side j
  pub none : (m : Id) → HasChild nodes p side m → id_cmp m x ≡ Less → ⊥
  pub least : (m : Id) → HasChild nodes p side m → id_cmp m j ≡ Less → ⊥

-- beside a node: right behind it on the right, right ahead of it on the left
abbrev pub StandsBeside : Side → List Inserted → List Step → List Step → Type 0
StandsBeside Left nodes c p = StandsAhead nodes c p
StandsBeside Right nodes c p = StandsBehind nodes c p

-- A new child of the node at p stands behind the last node of the next lower sibling's subtree; where there is no lower
-- sibling, ahead of the first node of the lowest sibling's subtree; where there is no sibling, beside p.
pub record SiblingRule (nodes : List Inserted) (p : List Step) (side : Side) (x : Id) : Type 0 where
  pub lower : (j : Id) (y : Inserted) → IsNextLower nodes p side x j → IsLastBelow nodes (step_down p side j) y → StandsBehind nodes (step_down p side x) y.path
  pub higher : (j : Id) (y : Inserted) → IsLowest nodes p side x j → IsFirstBelow nodes (step_down p side j) y → StandsAhead nodes (step_down p side x) y.path
  pub alone : ((m : Id) → HasChild nodes p side m → ⊥) → StandsBeside side nodes (step_down p side x) p

abbrev pub SiblingsTell : Type 0
SiblingsTell =
    (nodes : List Inserted) → IsRooted nodes → (p : List Step) (side : Side) (x : Id) → (HasChild nodes p side x → ⊥) → SiblingRule nodes p side x

-- The last node of a subtree is the last below its greatest right child, and the node itself where it has none; the first
-- is the first below its lowest left child, or the node itself.
pub record SubtreeEnds (nodes : List Inserted) (p : List Step) : Type 0 where
  pub last_here : (y : Inserted) → Among y nodes → y.path ≡ p → ((m : Id) → HasChild nodes p Right m → ⊥) → IsLastBelow nodes p y
  pub last_through : (j : Id) (y : Inserted) → ((m : Id) → HasChild nodes p Right m → id_cmp j m ≡ Less → ⊥) → IsLastBelow nodes (step_down p Right j) y → IsLastBelow nodes p y
  pub first_here : (y : Inserted) → Among y nodes → y.path ≡ p → ((m : Id) → HasChild nodes p Left m → ⊥) → IsFirstBelow nodes p y
  pub first_through : (j : Id) (y : Inserted) → ((m : Id) → HasChild nodes p Left m → id_cmp m j ≡ Less → ⊥) → IsFirstBelow nodes (step_down p Left j) y → IsFirstBelow nodes p y

abbrev pub SubtreesEnd : Type 0
SubtreesEnd = (nodes : List Inserted) → IsRooted nodes → (p : List Step) → SubtreeEnds nodes p

-- So the order with the new node has it right behind that neighbour, or right ahead of it.
abbrev pub NeighboursPlace : Type 0
NeighboursPlace =
    (entries : List Entry) (y v : Inserted) (xs ys : List Inserted) → IsStrictlySortedBy inserted_cmp (order entries) → order entries ≡ xs ++ v ∷ ys
    → (StandsBehind (order entries) y.path v.path → order (entries ++ Insertion y ∷ []) ≡ xs ++ v ∷ y ∷ ys)
    × (StandsAhead (order entries) y.path v.path → order (entries ++ Insertion y ∷ []) ≡ xs ++ y ∷ v ∷ ys)

-- every tree, over any base, is rooted
abbrev pub TreesAreRooted : Type 0
TreesAreRooted = (b : ℕ) (events : List (Applied ℕ)) → IsRooted (insertions (all_entries b (tree_of nat_eq b events)))

-- The ids are those of the children on this side of the node at p, ascending: a line of a table of children.
pub record IsTable (nodes : List Inserted) (p : List Step) (side : Side) (ids : List Id) : Type 0 where
  pub sorted : IsStrictlySortedBy id_cmp ids
  pub there : (m : Id) → Among m ids → HasChild nodes p side m
  pub all : (m : Id) → HasChild nodes p side m → Among m ids

-- What such a line tells: the next lower sibling of x, the lowest where none is lower, that there is none, and which child
-- is the greatest and which the lowest.
pub record TableTells (nodes : List Inserted) (p : List Step) (side : Side) (ids : List Id) : Type 0 where
  pub next_lower : (x j : Id) (lows highs : List Id) → ids ≡ lows ++ j ∷ highs → id_cmp j x ≡ Less → AllByRecursion (λ (h : Id). id_cmp x h ≡ Less) highs → IsNextLower nodes p side x j
  pub lowest : (x j : Id) (highs : List Id) → ids ≡ j ∷ highs → id_cmp x j ≡ Less → IsLowest nodes p side x j
  pub none : ids ≡ [] → (m : Id) → HasChild nodes p side m → ⊥
  pub last : (j : Id) (lows : List Id) → ids ≡ lows ++ j ∷ [] → (m : Id) → HasChild nodes p side m → id_cmp j m ≡ Less → ⊥
  pub first : (j : Id) (highs : List Id) → ids ≡ j ∷ highs → (m : Id) → HasChild nodes p side m → id_cmp m j ≡ Less → ⊥

abbrev pub TablesTell : Type 0
TablesTell = (nodes : List Inserted) (p : List Step) (side : Side) (ids : List Id) → IsTable nodes p side ids → TableTells nodes p side ids

-- One more node: the id comes into the line of its parent and side, and the other lines stay.
pub record TableGrows (nodes : List Inserted) (y : Inserted) (p : List Step) (side : Side) (x : Id) : Type 0 where
  pub own : (ids : List Id) → IsTable nodes p side ids → IsTable (nodes ++ y ∷ []) p side (put_in_order id_cmp x ids)
  pub other : (q : List Step) (s : Side) (ids : List Id) → (q ≡ p → s ≡ side → ⊥) → IsTable nodes q s ids → IsTable (nodes ++ y ∷ []) q s ids

abbrev pub TablesGrow : Type 0
TablesGrow =
    (nodes : List Inserted) (y : Inserted) (p : List Step) (side : Side) (x : Id) → y.path ≡ step_down p side x → (HasChild nodes p side x → ⊥) → TableGrows nodes y p side x

-- A list of nodes that is rooted stays so with one more child of the root or of one of its nodes.
abbrev pub ChildrenRoot : Type 0
ChildrenRoot =
    (nodes : List Inserted) (y : Inserted) (p : List Step) (side : Side) (x : Id) → IsRooted nodes → (p ≡ []) ⊎ ((z : Inserted) × Among z nodes × (z.path ≡ p)) → y.path ≡ step_down p side x
    → IsRooted (nodes ++ y ∷ [])
