-- Runs that stand apart for none of some characters.
use Rattle.std.specs.Prelude.{◌≡◌, ℕ, ◌+◌, ◌-◌, ◌<◌, ◌⊎◌, nat_lt, Bool, true, false, ◌&&◌, ◌||◌, if◌then◌else◌, List, [], ◌∷◌, ◌++◌, take, drop}
use Rattle.ew_model.specs.declared.node.Node.{Node}
use Rattle.ew_model.specs.declared.node.Node.TheVariants.{Event}
use Rattle.walker_record.specs.Stretches.{Stretch, node_on, first_part, second_part}

-- the run has characters, and the first or the last of them is one of these
abbrev pub begins_in : (Node → Bool) → Stretch → Bool
begins_in among r = nat_lt 0 r.len && among r.from

abbrev pub ends_in : (Node → Bool) → Stretch → Bool
ends_in among r = nat_lt 0 r.len && among (node_on r.from (r.len - 1))

-- how many of the runs neither begin with one of these characters nor stand right behind one, where one stands before all or not
abbrev pub loose_behind : (Node → Bool) → Bool → List Stretch → ℕ
loose_behind among b [] = 0
loose_behind among b (r ∷ rs) = (if b || begins_in among r then 0 else 1) + loose_behind among (ends_in among r) rs

abbrev pub loose_in : (Node → Bool) → List Stretch → ℕ
loose_in among rs = loose_behind among false rs

-- how many are once one of the characters came in behind the first k runs
abbrev pub loose_parted : (Node → Bool) → List Stretch → ℕ → ℕ
loose_parted among rs k = loose_behind among false (take k rs) + loose_behind among true (drop k rs)

-- a run of the old ones is cut right before a node's character, and they are the same else
pub record IsCutBefore (old new : List Stretch) (v : Node) : Type 0 where
  pub front : List Stretch
  pub back : List Stretch
  pub run : Stretch
  pub at : ℕ
  pub some : 0 < at
  pub inside : at < run.len
  pub node : node_on run.from at ≡ v
  pub was : old ≡ front ++ run ∷ back
  pub now : new ≡ front ++ first_part run at ∷ second_part run at ∷ back

abbrev pub MayBeCut : List Stretch → List Stretch → Node → Type 0
MayBeCut old new v = (new ≡ old) ⊎ IsCutBefore old new v

-- the character is one of these
abbrev pub is_one : {X : Type 0} → (X → Node → Bool) → List X → Node → Bool
is_one eq [] v = false
is_one eq (x ∷ xs) v = eq x v || is_one eq xs v

-- the nodes of so many events behind the one at a position are among these characters
abbrev pub AreAmong : (Node → Bool) → ℕ → ℕ → Type 0
AreAmong among position n = (k : ℕ) → k < n → among (Event (position + k + 1)) ≡ true
