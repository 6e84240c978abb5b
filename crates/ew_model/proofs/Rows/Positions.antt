-- Rows on frontiers, versions and cuts of events that are known by their positions: a fork and a join.
use Rattle.std.proofs.Common.{◌≡◌, ℕ, true, false, List, [], ◌∷◌, take, refl}
use Rattle.ew_model.specs.Positions.{known_positions, is_known_at, known_alone, frontier_of, is_reduced_at, is_cut_at, latest_cut_at, cuts_at}

-- 1 and 2 on 0, 3 on both
abbrev pub joined : List (List ℕ)
joined = [] ∷ (0 ∷ []) ∷ (0 ∷ []) ∷ (1 ∷ 2 ∷ []) ∷ []

first_frontier : frontier_of (take 1 joined) ≡ 0 ∷ []
first_frontier = refl

line_frontier : frontier_of (take 2 joined) ≡ 1 ∷ []
line_frontier = refl

fork_frontier : frontier_of (take 3 joined) ≡ 1 ∷ 2 ∷ []
fork_frontier = refl

join_frontier : frontier_of joined ≡ 3 ∷ []
join_frontier = refl

parent_is_known : is_known_at joined (1 ∷ []) 0 ≡ true
parent_is_known = refl

sibling_is_not : is_known_at joined (1 ∷ []) 2 ≡ false
sibling_is_not = refl

left_alone : known_alone joined (1 ∷ []) (2 ∷ []) ≡ 1 ∷ []
left_alone = refl

right_alone : known_alone joined (2 ∷ []) (1 ∷ []) ≡ 2 ∷ []
right_alone = refl

not_reduced : is_reduced_at joined (0 ∷ 1 ∷ []) ≡ false
unfolding is_reduced_at
not_reduced = refl

reduced : is_reduced_at joined (1 ∷ 2 ∷ []) ≡ true
unfolding is_reduced_at
reduced = refl

all_known : known_positions joined (3 ∷ []) ≡ 0 ∷ 1 ∷ 2 ∷ 3 ∷ []
all_known = refl

all_cuts : cuts_at joined ≡ 0 ∷ 1 ∷ 3 ∷ 4 ∷ []
unfolding is_cut_at
all_cuts = refl

latest : latest_cut_at joined 2 ≡ 1
unfolding is_cut_at
latest = refl

no_cut : is_cut_at joined 2 ≡ false
unfolding is_cut_at
no_cut = refl
