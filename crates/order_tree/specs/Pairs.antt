-- What a counted tree holds: runs in order, each with a label.
use Rattle.std.specs.Prelude.{◌≡◌, ℕ, ◌+◌, ◌*◌, ◌<◌, ◌≤◌, ◌^◌, nat_eq, nat_lt, nat_le, true, Option, Some, None, ◌&&◌, unwrap_or, if◌then◌else◌, List, [], ◌∷◌, ◌++◌, length, slice_index, map, filter, sum_by, zip, take, drop, Contains}
use Rattle.ew_model.specs.declared.run.Run.{Ghosts}

-- a tree: its runs in order, each with its label, and the number of levels of its nodes, 0 without runs
pub record Tree (R : Type 0) : Type 0 where
  pub pairs : List (ℕ × R)
  pub depth : ℕ

-- a tree with so many runs, one or more, may have so many levels: a leaf has one to sixteen runs, another node two to sixteen branches
abbrev pub IsDepthOf : ℕ → ℕ → Type 0
IsDepthOf depth runs = (2 ^ depth ≤ 2 * runs) × (runs ≤ 16 ^ depth)

module _ {R : Type 0} where
  -- the labels, in order
  abbrev pub labels : List (ℕ × R) → List ℕ
  labels ps = map (λ p. p.0) ps

  -- the runs, in order
  abbrev pub runs : List (ℕ × R) → List R
  runs ps = map (λ p. p.1) ps

  -- each label is above the one before it, the first above `low`
  abbrev pub RisesFrom : ℕ → List (ℕ × R) → Type 0
  RisesFrom low [] = Unit {0}
  RisesFrom low (p ∷ ps) = (low < p.0) × RisesFrom p.0 ps

  -- the labels rise strictly, and all are above 0
  abbrev pub IsRising : List (ℕ × R) → Type 0
  IsRising ps = RisesFrom 0 ps

  -- the pairs with lower labels, those with labels up to this one, and those with greater labels
  abbrev pub lower : List (ℕ × R) → ℕ → List (ℕ × R)
  lower ps label = filter (λ p. nat_lt p.0 label) ps

  abbrev pub up_to : List (ℕ × R) → ℕ → List (ℕ × R)
  up_to ps label = filter (λ p. nat_le p.0 label) ps

  abbrev pub greater : List (ℕ × R) → ℕ → List (ℕ × R)
  greater ps label = filter (λ p. nat_lt label p.0) ps

  -- the first label, if there is a run (the least, since they rise)
  abbrev pub first_label : List (ℕ × R) → Option ℕ
  first_label [] = None
  first_label (p ∷ ps) = Some p.0

  -- the least greater label, or this bound where there is none
  abbrev pub next_label : ℕ → List (ℕ × R) → ℕ → ℕ
  next_label bound ps label = unwrap_or (first_label (greater ps label)) bound

  -- a label is free between this one and the next, or below the bound where there is no next
  abbrev pub HasRoomBelow : ℕ → List (ℕ × R) → ℕ → Type 0
  HasRoomBelow bound ps label = label + 1 < next_label bound ps label

  -- the same of all labels there are
  abbrev pub HasRoom : List (ℕ × R) → ℕ → Type 0
  HasRoom ps label = HasRoomBelow (2 ^ 64) ps label

  -- the pairs with greater labels whose runs have a character that counts
  abbrev pub counted_after : (R → ℕ) → List (ℕ × R) → ℕ → List (ℕ × R)
  counted_after count ps label = filter (λ p. nat_lt label p.0 && nat_lt 0 (count p.1)) ps

  -- what all runs count together
  abbrev pub total : (R → ℕ) → List (ℕ × R) → ℕ
  total count ps = sum_by (λ p. count p.1) ps

  -- each of the three sums is below 2 ^ 32
  pub record SumsFit (G : Ghosts R) (ps : List (ℕ × R)) : Type 0 where
    pub known : total G.known ps < 2 ^ 32
    pub prepared : total G.prepared ps < 2 ^ 32
    pub effect : total G.effect ps < 2 ^ 32

  -- the i-th of the characters that count, from 0, is in the run of this label, at this place among those of the run
  pub record IsPlace (count : R → ℕ) (ps : List (ℕ × R)) (i label place : ℕ) : Type 0 where
    pub run : R
    pub held : Contains ps (label, run)
    pub before : total count (lower ps label) + place ≡ i
    pub inside : place < count run

  -- the last is this run, under this label
  abbrev pub EndsWith : List (ℕ × R) → ℕ → R → Type 0
  EndsWith ps label run = (front : List (ℕ × R)) × (ps ≡ front ++ (label, run) ∷ [])

  -- another run stands at the label
  abbrev pub changed : List (ℕ × R) → ℕ → R → List (ℕ × R)
  changed ps label run = map (λ p. if nat_eq p.0 label then (label, run) else p) ps

  -- the run stands behind the label, under a label of its own
  abbrev pub inserted : List (ℕ × R) → ℕ → ℕ → R → List (ℕ × R)
  inserted ps label own run = up_to ps label ++ (own, run) ∷ greater ps label

  -- the two parts of a run, cut at this place
  pub record ArePartsOf (G : Ghosts R) (run : R) (at : ℕ) (first second : R) : Type 0 where
    pub first_chars : G.chars first ≡ take at (G.chars run)
    pub second_chars : G.chars second ≡ drop at (G.chars run)
    pub fits : G.fits first second ≡ true
    pub back : G.joined first second ≡ run

  -- the run of the label stands in two parts, cut at this place, the second under a label of its own
  pub record IsCut (G : Ghosts R) (old new : List (ℕ × R)) (label at own : ℕ) : Type 0 where
    pub run : R
    pub first : R
    pub second : R
    pub held : Contains old (label, run)
    pub parts : ArePartsOf G run at first second
    pub pairs : new ≡ lower old label ++ (label, first) ∷ (own, second) ∷ greater old label

  -- the labels are spread evenly below 2 ^ 64: each is one step above the one before, the first a step above 0, and the step is the widest
  -- that leaves room for one more behind the last
  pub record AreSpread (ps : List (ℕ × R)) : Type 0 where
    pub step : ℕ
    pub each : (k : ℕ) → k < length ps → slice_index (labels ps) k ≡ (k + 1) * step
    pub fits : (length ps + 1) * step < 2 ^ 64
    pub widest : 2 ^ 64 ≤ (length ps + 1) * (step + 1)

  -- the runs of a part of the list stand under new labels, in order, and of each the old label, the new and the run are given
  pub record AreGivenIn (old new : List (ℕ × R)) (given : List (ℕ × (ℕ × R))) : Type 0 where
    pub front : List (ℕ × R)
    pub was : List (ℕ × R)
    pub is : List (ℕ × R)
    pub back : List (ℕ × R)
    pub old_is : old ≡ front ++ (was ++ back)
    pub new_is : new ≡ front ++ (is ++ back)
    pub runs_are : runs is ≡ runs was
    pub given_is : given ≡ zip (labels was) is
