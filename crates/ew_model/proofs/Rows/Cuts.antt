-- Rows on critical cuts and touches.
use Rattle.std.proofs.Common.{◌≡◌, [], ◌∷◌, ◌++◌, refl}
use Rattle.ew_model.specs.Cuts.{is_critical, latest_cut, cuts_of}
use Rattle.ew_model.specs.Touches.{touches}
use Rattle.ew_model.proofs.Rows.Events.{id, ins, abc, xyz, first_deleted, two_at_start, abcdef, diamond}

line : cuts_of abc ≡ 0 ∷ 1 ∷ 2 ∷ 3 ∷ []
unfolding is_critical
line = refl

two_lines : cuts_of (abc ++ xyz) ≡ 0 ∷ 6 ∷ []
unfolding is_critical
two_lines = refl

fork : cuts_of diamond ≡ 0 ∷ 1 ∷ 3 ∷ 4 ∷ []
unfolding is_critical
fork = refl

fork_latest : latest_cut diamond 2 ≡ 1
unfolding is_critical
fork_latest = refl

fork_and_more : latest_cut (diamond ++ ins 101 0 4 101 (id 100 0 ∷ []) ∷ []) 4 ≡ 4
unfolding is_critical
fork_and_more = refl

fork_beside : latest_cut (diamond ++ ins 102 0 3 102 (id 98 0 ∷ id 99 0 ∷ []) ∷ []) 4 ≡ 3
unfolding is_critical
fork_beside = refl

fork_beside_touches : touches (diamond ++ ins 102 0 3 102 (id 98 0 ∷ id 99 0 ∷ []) ∷ []) 3 ≡ 3
unfolding touches
fork_beside_touches = refl

at_start_cut : latest_cut (first_deleted ++ two_at_start) 3 ≡ 3
unfolding is_critical
at_start_cut = refl

at_start_touches : touches (first_deleted ++ two_at_start) 3 ≡ 3
unfolding touches
at_start_touches = refl

late_cut : latest_cut (abcdef ++ ins 98 0 1 88 (id 97 0 ∷ []) ∷ []) 6 ≡ 1
unfolding is_critical
late_cut = refl

late_touches : touches (abcdef ++ ins 98 0 1 88 (id 97 0 ∷ []) ∷ []) 1 ≡ 11
unfolding touches
late_touches = refl
