-- The laws of positions at work: their premises hold of a fork with a join, and what they say of it is so.
use Rattle.std.proofs.Common.{◌≡◌, ℕ, suc, ◌<◌, true, nat_eq, List, [], ◌∷◌, ◌++◌, reverse, refl, arith, zero, slice_index_or}
use Rattle.ew_model.specs.declared.event.Event.{Event}
use Rattle.ew_model.specs.Verdicts.{IsGood}
use Rattle.ew_model.specs.Graph.{is_named}
use Rattle.ew_model.specs.Positions.{AreParents, IsHistoryOfParents, known_positions, frontier_of, is_reduced_at, is_cut_at, cuts_at, positions_in, parent_positions}
use Rattle.ew_model.specs.PositionCuts.{CutsAfterAt}
use Rattle.ew_model.specs.PositionLaws.{AgreesByPositions}
use Rattle.ew_model.proofs.PositionAgreement.{positions_agree}
use Rattle.ew_model.proofs.PositionCuts.{cuts_step_at}
use Rattle.ew_model.proofs.PositionFrontier.{frontier_push}
use Rattle.ew_model.proofs.PositionWalk.{taken}
use Rattle.ew_model.proofs.Rows.Events.{id, ins}
use Rattle.ew_model.proofs.Rows.Receiving.{judging}

-- two characters by one author, between which another one's stands, and a join: its parents ascend by id, not by position
abbrev crossed : List Event
crossed = ins 99 0 0 97 [] ∷ ins 98 0 1 98 (id 99 0 ∷ []) ∷ ins 97 0 1 99 (id 99 0 ∷ []) ∷ ins 100 0 3 100 (id 97 0 ∷ id 98 0 ∷ []) ∷ []

crossed_good : IsGood crossed
unfolding judging
crossed_good = (refl, (refl, (refl, (refl, tt))))

crossed_parents : parent_positions crossed ≡ [] ∷ (0 ∷ []) ∷ (0 ∷ []) ∷ (1 ∷ 2 ∷ []) ∷ []
crossed_parents = refl

crossed_agrees : AgreesByPositions crossed
crossed_agrees = positions_agree crossed crossed_good

crossed_history : IsHistoryOfParents ([] ∷ (0 ∷ []) ∷ (0 ∷ []) ∷ (1 ∷ 2 ∷ []) ∷ [])
crossed_history = crossed_agrees.parents

crossed_version : known_positions (parent_positions crossed) (positions_in crossed (id 97 0 ∷ [])) ≡ 0 ∷ 2 ∷ []
crossed_version = crossed_agrees.versions (id 97 0 ∷ [])

-- the walk takes the same, the last first
crossed_walk : taken (reverse (parent_positions crossed)) (is_named nat_eq (2 ∷ [])) ≡ 2 ∷ 0 ∷ []
crossed_walk = refl

-- one more event, on the first alone
late_parents : AreParents 4 (0 ∷ [])
late_parents = record { rising = λ k h. absurd (omega (arith, h)); lower = λ k d h. low k d h; few = omega arith }
  where
    low : (k d : ℕ) → k < 1 → slice_index_or (0 ∷ []) k d < 4
    low zero d h = omega arith
    low (suc k) d h = absurd (omega (arith, h))

late_reduced : is_reduced_at (parent_positions crossed) (0 ∷ []) ≡ true
unfolding is_reduced_at
late_reduced = refl

late_cuts : CutsAfterAt (parent_positions crossed) (0 ∷ [])
late_cuts = cuts_step_at (parent_positions crossed) (0 ∷ []) crossed_history late_parents late_reduced

late_all : cuts_at (parent_positions crossed ++ (0 ∷ []) ∷ []) ≡ 0 ∷ 1 ∷ 5 ∷ []
unfolding is_cut_at
late_all = late_cuts.all

late_frontier : frontier_of (parent_positions crossed ++ (0 ∷ []) ∷ []) ≡ 3 ∷ 4 ∷ []
late_frontier = frontier_push (parent_positions crossed) (0 ∷ []) crossed_history late_parents
