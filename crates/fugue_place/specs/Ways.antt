-- Children that lead outward on one side, told by few of them.
use Rattle.std.specs.Prelude.{◌≡◌, ℕ, ◌+◌, ◌^◌, ◌<◌, ◌≤◌, nat_lt, if◌then◌else◌, List, [], ◌∷◌, length, get_or, Option, Some, None}
use Rattle.std.specs.BTreeMap.{get}
use Rattle.std.specs.Option.{IfSome}
use Rattle.std.specs.Ordering.{nat_cmp}
use Rattle.std.specs.Vec.{vec_capacity, vec_len}
use Rattle.fugue_place.specs.declared.child.Side.{Side}
use Rattle.fugue_place.specs.declared.child.Side.TheVariants.{Left, Right}
use Rattle.fugue_place.specs.declared.child.Attached.{Attached}
use Rattle.fugue_place.specs.declared.ways.Ways.{Ways}
use Rattle.fugue_place.specs.Chains.{follower, IsChains, IsLedBy, IsSame, HasRoom}
use Rattle.fugue_place.specs.Lines.{AreOutermost}

-- the place of a head
abbrev pub head_at : Ways → ℕ → ℕ
head_at w r = get_or w.heads.items r 0

-- the number of the head that a place is linked to
abbrev pub link_at : Ways → ℕ → Option ℕ
link_at w k = get nat_cmp w.links k

-- the first of some places that is behind this one, or the end
abbrev pub next_head : List ℕ → ℕ → ℕ → ℕ
next_head [] end k = end
next_head (h ∷ heads) end k = if nat_lt k h then h else next_head heads end k

-- the place behind the run that a place is in: on the left it's the whole run
abbrev pub stop_on : Side → List ℕ → ℕ → ℕ → ℕ
stop_on Left heads end k = k + 1
stop_on Right heads end k = next_head heads end k

-- the same for the ways
abbrev pub stop_of : Ways → ℕ → ℕ
stop_of w k = stop_on w.end w.heads.items w.count k

-- the next place, where it is in the same run
abbrev pub next_before : ℕ → ℕ → Option ℕ
next_before stop k = if nat_lt (k + 1) stop then Some (k + 1) else None

-- the next place of the run that a place is in
abbrev pub next_in_run : Ways → ℕ → Option ℕ
next_in_run w k = next_before (stop_of w k) k

-- what follows a place: the head that it is linked to, or else the next place of its run
abbrev pub led_to : (ℕ → ℕ) → Option ℕ → Option ℕ → Option ℕ
led_to head None next = next
led_to head (Some r) next = Some (head r)

-- what follows a place of the ways
abbrev pub way_of : Ways → ℕ → Option ℕ
way_of w k = led_to (head_at w) (link_at w k) (next_in_run w k)

-- each place stands behind the one before it
abbrev pub AreInOrder : List ℕ → Type 0
AreInOrder heads = (i j : ℕ) → i < j → j < length heads → get_or heads i 0 < get_or heads j 0

-- the heads rise, and are places of children
pub record IsSound (w : Ways) : Type 0 where
  pub few : w.count < 2 ^ 32
  pub rising : AreInOrder w.heads.items
  pub within : (r : ℕ) → r < length w.heads.items → head_at w r < w.count

-- the first linked place of those from the one up to the other is linked so, or none of them is
abbrev pub IsFirstLink : (ℕ → Option ℕ) → ℕ → ℕ → Option ℕ → Type 0
IsFirstLink link from to None = (k : ℕ) → from ≤ k → k < to → link k ≡ None
IsFirstLink link from to (Some r) = (k : ℕ) × (from ≤ k) × (k < to) × (link k ≡ Some r) × ((m : ℕ) → from ≤ m → m < k → link m ≡ None)

-- of the places ahead of one, each that is linked lies below the bound that is kept
abbrev pub KnowsLinks : Ways → ℕ → Type 0
KnowsLinks w k = (m r : ℕ) → m < k → link_at w m ≡ Some r → m < w.free

-- a linked place, and the number of its head
pub record IsLink (w : Ways) (k r : ℕ) : Type 0 where
  pub early : k < w.free
  pub known : r < length w.heads.items

-- what ways keep: in the chains each head is followed by the one that follows the first linked place of its run
pub record IsWays (w : Ways) : Type 0 where
  pub sound : IsSound w
  pub free : w.free ≤ w.count
  pub links : (k r : ℕ) → link_at w k ≡ Some r → IsLink w k r
  pub chains : IsChains w.chains
  pub count : w.chains.count ≡ length w.heads.items
  pub firsts : (r : ℕ) → r < length w.heads.items → IsFirstLink (link_at w) (head_at w r) (stop_of w (head_at w r)) (follower w.chains.outer.items r)

-- ways of the children lead outward on the side
pub record LeadOutward (side : Side) (children : List Attached) (w : Ways) : Type 0 where
  pub ways : IsWays w
  pub end : w.end ≡ side
  pub count : w.count ≡ length children
  pub outermost : AreOutermost side children (way_of w)

-- the place is in the run of this head
pub record IsInRun (w : Ways) (k r : ℕ) : Type 0 where
  pub known : r < length w.heads.items
  pub from : head_at w r ≤ k
  pub to : k < stop_of w (head_at w r)

-- the place is in the run of no head
abbrev pub IsInNoRun : Ways → ℕ → Type 0
IsInNoRun w k = (r : ℕ) → IsInRun w k r → ⊥

-- the place is in the run of this head, and none ahead of it there is linked
abbrev pub IsFirstIn : Ways → Option ℕ → ℕ → Type 0
IsFirstIn w place r = (k : ℕ) × (place ≡ Some k) × IsInRun w k r × IsFirstLink (link_at w) (head_at w r) k None

-- in each run that the place is in, some place ahead of it is linked
abbrev pub IsFirstInNone : Ways → Option ℕ → Type 0
IsFirstInNone w place = (k r : ℕ) → place ≡ Some k → IsInRun w k r → (s : ℕ) × IsFirstLink (link_at w) (head_at w r) k (Some s)

-- the same is kept, but for room
pub record IsSameWays (v w : Ways) : Type 0 where
  pub end : w.end ≡ v.end
  pub count : w.count ≡ v.count
  pub heads : w.heads.items ≡ v.heads.items
  pub links : (k : ℕ) → link_at w k ≡ link_at v k
  pub free : w.free ≡ v.free
  pub chains : IsSame v.chains w.chains

-- There is room for one more head, and the place that it is to follow is linked to its number. Else the same is kept.
pub record IsReady (v w : Ways) (behind : Option ℕ) : Type 0 where
  pub end : w.end ≡ v.end
  pub count : w.count ≡ v.count
  pub heads : w.heads.items ≡ v.heads.items
  pub early : IfSome behind (λ k. k < v.count)
  pub leads : (k : ℕ) → behind ≡ Some k → link_at w k ≡ Some (length v.heads.items)
  pub others : (k : ℕ) → (behind ≡ Some k → ⊥) → link_at w k ≡ link_at v k
  pub free : w.free ≡ v.free
  pub chains : IsSame v.chains w.chains
  pub room : vec_len w.heads < vec_capacity w.heads
  pub rows : HasRoom w.chains behind

-- and this is what the place was linked to
pub record IsPrepared (v w : Ways) (behind old : Option ℕ) : Type 0 where
  pub ready : IsReady v w behind
  pub was : (k : ℕ) → behind ≡ Some k → old ≡ link_at v k

-- one more child is led by another, or by none
pub record IsOneMore (v w : Ways) (behind : Option ℕ) : Type 0 where
  pub ways : IsWays w
  pub end : w.end ≡ v.end
  pub count : w.count ≡ v.count + 1
  pub led : IsLedBy v.count (way_of v) behind (way_of w)

-- the ways with so many children more, each an heir of the one before it
abbrev pub with_heirs : Ways → ℕ → Ways
with_heirs w n = record { end = w.end; count = w.count + n; heads = w.heads; links = w.links; free = w.free; chains = w.chains }
