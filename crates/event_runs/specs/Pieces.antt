-- A list cut into pieces at given places.
use Rattle.std.specs.Prelude.{◌≡◌, ℕ, zero, suc, ◌≤◌, List, [], ◌∷◌, slice_range}

-- the pieces that end at these places, the first of which starts at a place
abbrev pub pieces : ℕ → List ℕ → List ℕ → List (List ℕ)
pieces start [] numbers = []
pieces start (end ∷ ends) numbers = slice_range numbers start end ∷ pieces end ends numbers

-- the places don't fall, and the last piece ends where the list does
abbrev pub AreEnds : ℕ → List ℕ → ℕ → Type 0
AreEnds start [] long = start ≡ long
AreEnds start (end ∷ ends) long = (start ≤ end) × AreEnds end ends long

-- where a piece starts
abbrev pub start_of : ℕ → List ℕ → ℕ → ℕ
start_of start ends zero = start
start_of start [] (suc place) = start
start_of start (end ∷ ends) (suc place) = start_of end ends place
