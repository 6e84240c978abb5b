-- Which ids were read so far: of each agent all below a count, and further ones in ranges.
use Rattle.std.specs.Prelude.{◌≡◌, ◌⊎◌, ℕ, ◌+◌, ◌<◌, ◌≤◌, Bool, true, false, List, ◌∷◌, Option, Some, if◌then◌else◌}
use Rattle.ew_model.specs.declared.id.Id.{Id}
use Rattle.ew_model.specs.Ids.{name_eq}

-- the count of an agent, where the agents have these counts in their order; 0 for another
abbrev pub count_for : List (List ℕ) → List ℕ → List ℕ → ℕ
count_for (a ∷ agents) (n ∷ counts) name = if name_eq name a then n else count_for agents counts name
count_for agents counts name = 0

-- one of the ids of an agent from the first on to the one that is so many behind it
pub record IsInRange (first : Id) (more : ℕ) (x : Id) : Type 0 where
  pub agent : x.agent ≡ first.agent
  pub from : first.seq ≤ x.seq
  pub to : x.seq ≤ first.seq + more

-- an id in one of the ranges, where the table has for the first id of a range how many more there are
pub record IsCovered (table : Id → Option ℕ) (x : Id) : Type 0 where
  pub first : Id
  pub more : ℕ
  pub has : table first ≡ Some more
  pub within : IsInRange first more x

-- a range of an agent ends before the next one begins
abbrev pub AreParted : (Id → Option ℕ) → Type 0
AreParted table = (x y : Id) (m n : ℕ) → table x ≡ Some m → table y ≡ Some n → x.agent ≡ y.agent → x.seq < y.seq → x.seq + m < y.seq

-- an id is seen whose number is below its agent's count, and each of the further ids
abbrev pub IsSeen : List (List ℕ) → List ℕ → (Id → Option ℕ) → Id → Type 0
IsSeen agents counts further x = (x.seq < count_for agents counts x.agent) ⊎ IsCovered further x

-- whether one of the ids from the first on has a number below the count, or is one of the further ids
abbrev pub HasOneOf : Bool → ℕ → (Id → Option ℕ) → Id → ℕ → Type 0
HasOneOf true count further first more = (x : Id) × IsInRange first more x × ((x.seq < count) ⊎ IsCovered further x)
HasOneOf false count further first more = (x : Id) → IsInRange first more x → ((x.seq < count) ⊎ IsCovered further x) → ⊥
