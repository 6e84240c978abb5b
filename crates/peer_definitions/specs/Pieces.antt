-- How many events go into a frame, and a list in pieces of so many.
use Rattle.std.specs.Prelude.{ℕ, zero, suc, ◌-◌, ◌/◌, List, [], ◌∷◌, length, take, drop}
use Rattle.std.specs.Int.{div_ceil}
use Rattle.ew_model.specs.Limits.{LimitNumbers}

-- how many events go into one frame: so many of the greatest that a history can hold, of 664 bytes each, fit into a body after
-- the four bytes that tell their number
abbrev pub frame_room : LimitNumbers → ℕ
frame_room limits = (limits.body - 4) / 664

-- so many pieces of n elements, one after the other from the front of the list
abbrev pub pieces_from : {X : Type 0} → ℕ → ℕ → List X → List (List X)
pieces_from n zero xs = []
pieces_from n (suc k) xs = take n xs ∷ pieces_from n k (drop n xs)

-- all of the list in pieces of n elements, of which the last alone may be shorter; none where the list is empty
abbrev pub pieces : {X : Type 0} → ℕ → List X → List (List X)
pieces n xs = pieces_from n (div_ceil (length xs) n) xs
