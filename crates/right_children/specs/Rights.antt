-- How many right children of each node are known.
use Rattle.std.specs.Prelude.{◌≡◌, ℕ, ◌+◌, ◌<◌, ◌≤◌, ◌^◌, Bool, ◌&&◌, if◌then◌else◌, true, false, List, [], filter, length, Option, Some, None, IsSome, unwrap_or}
use Rattle.std.specs.BTreeMap.{get}
use Rattle.ew_model.specs.declared.node.Node.{Node}
use Rattle.ew_model.specs.declared.node.Node.TheVariants.{Root, Base, Event}
use Rattle.ew_model.specs.Sets.{Among}
use Rattle.fugue_place.specs.declared.child.Attached.{Attached}
use Rattle.fugue_place.specs.declared.child.Side.TheVariants.{Right as right}
use Rattle.fugue_place.specs.Neighbours.{is_child, side_eq}
use Rattle.fugue_place.specs.Spots.{node_cmp}
use Rattle.fugue_place.specs.Attachments.{is_there, AreAttached}
use Rattle.right_children.specs.declared.rights.Rights.{Rights}
use Rattle.right_children.specs.Parents.{parent_at}
use Rattle.right_children.specs.Rows.{kept_at, row_at}

-- what one counts that is so or isn't
abbrev pub one_if : Bool → ℕ
one_if b = if b then 1 else 0

-- the parent of each event's node that is a right child, and how many right children of a node are known
pub record Counted : Type 0 where
  pub parent_at : ℕ → Option Node
  pub count : Node → ℕ

-- the parent of a node that is a right child
abbrev pub parent_of : Counted → Node → Option Node
parent_of c Root = None
parent_of c (Base i) = None
parent_of c (Event n) = c.parent_at n

-- how many right children of a node are known
abbrev pub known_right : (Node → Bool) → List Attached → Node → ℕ
known_right known attached v = length (filter (λ (a : Attached). is_child v right a && known a.node) attached)

-- a child's parent, where it is a right child
abbrev pub right_parent : Attached → Option Node
right_parent a = if side_eq a.side right then Some a.parent else None

-- the parents and the counts are those of the attached children, where these nodes are known
pub record AreRights (known : Node → Bool) (attached : List Attached) (c : Counted) : Type 0 where
  pub parents : (a : Attached) → Among a attached → parent_of c a.node ≡ right_parent a
  pub counts : (v : Node) → c.count v ≡ known_right known attached v

-- a count that is kept, or 0
abbrev pub or_none : Option ℕ → ℕ
or_none o = unwrap_or o 0

-- how many right children of a node are known, as the tables tell
abbrev pub count_in : Rights → Node → ℕ
count_in r Root = or_none (get node_cmp r.counts Root)
count_in r (Base i) = or_none (get node_cmp r.counts (Base i))
count_in r (Event n) = row_at r.rows n

-- what the tables tell
abbrev pub counted : Rights → Counted
counted r = record { parent_at = parent_at r.parents; count = count_in r }

-- a count is kept of the node
abbrev pub HasCount : Rights → Node → Type 0
HasCount r Root = IsSome (get node_cmp r.counts Root)
HasCount r (Base i) = IsSome (get node_cmp r.counts (Base i))
HasCount r (Event n) = IsSome (kept_at r.rows n)

-- each of those parents has a count
abbrev pub HaveCounts : (ℕ → Option Node) → (Node → Type 0) → Type 0
HaveCounts parent_at HasOne = (n : ℕ) (p : Node) → parent_at n ≡ Some p → HasOne p

-- each parent of a right child has a count
abbrev pub IsWhole : Rights → Type 0
IsWhole r = HaveCounts (counted r).parent_at (HasCount r)

-- a node that was known or not is so now, and only the count of its parent may change
pub record Shifts (old new : Counted) (v : Node) (was is : Bool) : Type 0 where
  pub parents : (n : ℕ) → new.parent_at n ≡ old.parent_at n
  pub own : (p : Node) → parent_of old v ≡ Some p → new.count p + one_if was ≡ old.count p + one_if is
  pub others : (w : Node) → (parent_of old v ≡ Some w → ⊥) → new.count w ≡ old.count w

-- the count of the parent may change so
abbrev pub MayShift : Counted → Node → Bool → Bool → Type 0
MayShift c v was is = (p : Node) → parent_of c v ≡ Some p → (one_if was ≤ c.count p) × (c.count p + one_if is < 2 ^ 32)

-- The nodes of the events at these positions hang in the tree; each of them was known or not, and is so now, and every other node
-- is known as before. No node has more than 2^25 right children that are known, before or after.
pub record ShiftEach (old new : Node → Bool) (attached : List Attached) (from to : ℕ) (was is : Bool) : Type 0 where
  pub sound : AreAttached [] attached
  pub few_before : (v : Node) → known_right old attached v ≤ 2 ^ 25
  pub few_after : (v : Node) → known_right new attached v ≤ 2 ^ 25
  pub there : (n : ℕ) → from ≤ n → n < to → is_there attached (Event n) ≡ true
  pub before : (n : ℕ) → from ≤ n → n < to → old (Event n) ≡ was
  pub after : (n : ℕ) → from ≤ n → n < to → new (Event n) ≡ is
  pub others : (v : Node) → ((n : ℕ) → from ≤ n → n < to → Event n ≡ v → ⊥) → new v ≡ old v

-- the parent of a right child has no known right child any more, and nothing else changed
pub record Resets (old new : Counted) (v : Node) : Type 0 where
  pub parents : (n : ℕ) → new.parent_at n ≡ old.parent_at n
  pub own : (p : Node) → parent_of old v ≡ Some p → new.count p ≡ 0
  pub others : (w : Node) → (parent_of old v ≡ Some w → ⊥) → new.count w ≡ old.count w

-- each attached node is that of an event at one of these positions
abbrev pub HangWithin : ℕ → ℕ → List Attached → Type 0
HangWithin from to attached = (a : Attached) → Among a attached → (n : ℕ) × (from ≤ n) × (n < to) × (a.node ≡ Event n)

-- no node is known
abbrev pub none_known : Node → Bool
none_known v = false
