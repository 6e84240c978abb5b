-- The runs that a state keeps, and their characters.
use Rattle.std.specs.Prelude.{◌≡◌, ℕ, ◌+◌, ◌<◌, ◌≤◌, ◌^◌, Some, List, [], ◌∷◌, ◌++◌, map, length, Contains}
use Rattle.ew_model.specs.declared.node.Node.{Node}
use Rattle.ew_model.specs.declared.node.Node.TheVariants.{Root}
use Rattle.ew_model.specs.Runs.{NodeState}
use Rattle.walker_record.specs.Stretches.{Stretch, node_on, chars_of}
use Rattle.order_tree.specs.Pairs.{runs}
use Rattle.character_runs.specs.declared.labels.Labels.{Labels}
use Rattle.character_runs.specs.Labelled.{label_of}
use Rattle.character_runs.specs.States.{visible_in, shown_in}

-- a character, as a record of its own
abbrev pub record_of : NodeState → Stretch
record_of c = record { from = c.node; len = 1; prepared = c.prepared; effect = c.effect }

-- the records of a run's characters, and those of all runs, in order
abbrev pub records_of : Stretch → List Stretch
records_of r = map record_of (chars_of r)

abbrev pub chars_in : List (ℕ × Stretch) → List Stretch
chars_in [] = []
chars_in (p ∷ ps) = records_of p.1 ++ chars_in ps

-- the records of the characters of such runs
abbrev pub records_in : List Stretch → List Stretch
records_in [] = []
records_in (r ∷ rs) = records_of r ++ records_in rs

-- the records of characters, and the runs that they are kept in
pub record InRuns : Type 0 where
  pub records : List Stretch
  pub runs : List Stretch

abbrev pub in_runs : List (ℕ × Stretch) → InRuns
in_runs ps = record { records = chars_in ps; runs = runs ps }

-- the node's character is the one with this number in the run of the label
pub record Stands (ps : List (ℕ × Stretch)) (label n : ℕ) (v : Node) : Type 0 where
  pub run : Stretch
  pub held : Contains ps (label, run)
  pub inside : n < run.len
  pub node : node_on run.from n ≡ v

-- The labels are those of the runs that have characters, by their first nodes, and no node has two characters: none of
-- these first nodes stands further back in a run.
pub record AreLabelled (ps : List (ℕ × Stretch)) (t : Labels) : Type 0 where
  pub known : (label : ℕ) (r : Stretch) → Contains ps (label, r) → 0 < r.len → label_of t r.from ≡ Some label
  pub only : (v : Node) (label : ℕ) → label_of t v ≡ Some label → (r : Stretch) × Contains ps (label, r) × (r.from ≡ v) × (0 < r.len)
  pub apart : (v : Node) (own label n : ℕ) → label_of t v ≡ Some own → Stands ps label n v → n ≡ 0
  pub rooted : (label : ℕ) (r : Stretch) → Contains ps (label, r) → r.from ≡ Root → ⊥

-- the node is the one with this number in the run
abbrev pub IsOffset : Stretch → Node → ℕ → Type 0
IsOffset r v n = (n < r.len) × (node_on r.from n ≡ v)

-- wherever the node's character stands, it is the first of its run, and the last
abbrev pub BeginsRun : List (ℕ × Stretch) → Node → Type 0
BeginsRun ps v = (label n : ℕ) → Stands ps label n v → n ≡ 0

abbrev pub EndsRun : List (ℕ × Stretch) → Node → Type 0
EndsRun ps v = (label n : ℕ) (s : Stands ps label n v) → s.run.len ≡ n + 1

-- labelled runs of at most 2^25 characters, so many of them visible in what is prepared, and so many in the text
pub record AreCounted (ps : List (ℕ × Stretch)) (t : Labels) (visible shown : ℕ) : Type 0 where
  pub labelled : AreLabelled ps t
  pub visible_is : visible ≡ visible_in (chars_in ps)
  pub shown_is : shown ≡ shown_in (chars_in ps)
  pub few : length (chars_in ps) ≤ 2 ^ 25
