-- One record in the place of another.
use Rattle.std.specs.Prelude.{◌≡◌, ℕ, ◌+◌, ◌<◌, ◌≤◌, nat_le, nat_lt, Bool, true, false, ◌&&◌, if◌then◌else◌, List, ◌∷◌, ◌++◌, length, Option, Some, None}
use Rattle.ew_model.specs.declared.node.Node.{Node}
use Rattle.ew_model.specs.declared.node.Node.TheVariants.{Root, Base, Event}
use Rattle.walker_record.specs.Stretches.{Stretch, node_on, prepared_of, effect_of}
use Rattle.character_runs.specs.declared.change.Change.{Change}
use Rattle.character_runs.specs.declared.change.Kind.{Kind}
use Rattle.character_runs.specs.declared.change.Kind.TheVariants.{OfBase, OfEvents}
use Rattle.character_runs.specs.declared.change.Positions.{Positions}
use Rattle.character_runs.specs.declared.runs.changing.Altered.{Altered}
use Rattle.character_runs.specs.declared.runs.changing.Recasting.{Recasting}
use Rattle.character_runs.specs.States.{changed, is_inserted, visible_in, shown_in, HasRoom}
use Rattle.character_runs.specs.Laid.{IsOffset}

-- what one counts that passes or does not
abbrev pub one_if : Bool → ℕ
one_if b = if b then 1 else 0

-- the new list has a record where the old one has another
pub record Replaces (old new : List Stretch) (before after : Stretch) : Type 0 where
  pub front : List Stretch
  pub back : List Stretch
  pub was : old ≡ front ++ before ∷ back
  pub now : new ≡ front ++ after ∷ back

-- so it has these, or it is the same where there are none
abbrev pub StaysOr : List Stretch → List Stretch → Option Altered → Type 0
StaysOr old new None = new ≡ old
StaysOr old new (Some a) = Replaces old new a.before a.after

-- the records of some characters are changed
abbrev pub changed_among : (Node → Bool) → Change → Stretch → Stretch
changed_among among change r = if among r.from then changed change r else r

-- these are the nodes of a run, and no others
pub record AreNodesOf (run : Stretch) (among : Node → Bool) : Type 0 where
  pub inside : (n : ℕ) → n < run.len → among (node_on run.from n) ≡ true
  pub outside : (v : Node) → ((n : ℕ) → n < run.len → node_on run.from n ≡ v → ⊥) → among v ≡ false

-- so many of the new list are visible, and in the text, where a run has other states than in the old list
pub record Recounted (old new : List Stretch) (a : Altered) : Type 0 where
  pub visible : visible_in new + prepared_of a.before ≡ visible_in old + prepared_of a.after
  pub visible_there : prepared_of a.before ≤ visible_in old
  pub shown : shown_in new + effect_of a.before ≡ shown_in old + effect_of a.after
  pub shown_there : effect_of a.before ≤ shown_in old
  pub long : length new ≡ length old

-- characters are inserted before a change, and after it; none are where there are none
abbrev pub were_inserted : Option Altered → Bool
were_inserted None = false
were_inserted (Some a) = is_inserted a.before

abbrev pub are_inserted : Option Altered → Bool
are_inserted None = false
are_inserted (Some a) = is_inserted a.after

-- the node of the kind with the number: a base character's index, or an event's position
abbrev pub node_by : Kind → ℕ → Node
node_by OfBase n = Base n
node_by OfEvents n = Event n

-- the node is of the kind, and its number is one from the first on that is below the second
abbrev pub is_in : Kind → ℕ → ℕ → Node → Bool
is_in kind low high Root = false
is_in OfBase low high (Base n) = nat_le low n && nat_lt n high
is_in OfBase low high (Event n) = false
is_in OfEvents low high (Base n) = false
is_in OfEvents low high (Event n) = nat_le low n && nat_lt n high

-- the records of such nodes are changed
abbrev pub changed_in : Kind → Positions → Change → Stretch → Stretch
changed_in kind at change r = changed_among (is_in kind at.from at.to) change r

-- the number is one of these, all of which are among those
pub record ArePart (number : ℕ) (these those : Positions) : Type 0 where
  pub first : those.from ≤ these.from
  pub last : these.to ≤ those.to
  pub low : these.from ≤ number
  pub high : number < these.to

-- the run's characters are of the kind, all of their numbers among these
pub record LiesWithin (kind : Kind) (run : Stretch) (within : Positions) : Type 0 where
  pub number : ℕ
  pub begins : run.from ≡ node_by kind number
  pub first : within.from ≤ number
  pub last : number + run.len ≤ within.to

-- the run takes the change: it has the node's character, and all of its characters are of the kind and have such numbers
pub record Takes (c : Recasting) (run : Stretch) : Type 0 where
  pub within : LiesWithin c.kind run c.within
  pub offset : ℕ
  pub node : IsOffset run c.node offset

-- what is made of a run: such a run is changed, and no other
abbrev pub Recasts : Recasting → Stretch → Option Stretch → Type 0
Recasts c run None = Takes c run → ⊥
Recasts c run (Some after) = Takes c run × (after ≡ changed c.change run)

-- one more deletion of the run's characters can be counted, if it has characters
abbrev pub MayRecast : Stretch → Type 0
MayRecast run = 0 < run.len → HasRoom run
