-- Pieces of a list: one more, and the first ones alone.
use Rattle.std.proofs.Common.{◌≡◌, ℕ, zero, suc, ◌+◌, ◌-◌, ◌<◌, ◌≤◌, List, [], ◌∷◌, ◌++◌, length, get_or, slice_range, slice_index_or, take, drop, refl, sym, ap, ◌∙◌, arith, length-append}
use Rattle.std.proofs.Math.Seq.{take-append_seam, drop-append_seam, take-length}
use Rattle.event_runs.specs.Pieces.{pieces, start_of, AreEnds}
use Rattle.ew_model.proofs.ListPlaces.{take_first}

pub length-pieces : (start : ℕ) (ends numbers : List ℕ) → length (pieces start ends numbers) ≡ length ends
length-pieces start [] numbers = refl
length-pieces start (end ∷ ends) numbers = ap suc (length-pieces end ends numbers)

-- where a piece starts and ends
pub start_at : (start : ℕ) (ends : List ℕ) (place : ℕ) → place < length ends → start_of start ends (suc place) ≡ get_or ends place 0
start_at start [] place h = absurd (omega (arith, h))
start_at start (end ∷ ends) zero h = nothing end ends
  where
    nothing : (s : ℕ) (es : List ℕ) → start_of s es zero ≡ s
    nothing s es = refl
start_at start (end ∷ ends) (suc place) h = start_at end ends place (omega (arith, h))

pub start_above : (ends : List ℕ) (place : ℕ) → 0 < place → place ≤ length ends → get_or ends (place - 1) 0 ≡ start_of 0 ends place
start_above ends zero h l = absurd (omega (arith, h))
start_above ends (suc place) h l = let same : suc place - 1 ≡ place = omega arith in ap (λ k. get_or ends k 0) same ∙ sym (start_at 0 ends place (omega (arith, l)))

pub last_end : (start : ℕ) (ends : List ℕ) (long : ℕ) → AreEnds start ends long → start ≤ long
last_end start [] long h = omega (arith, h)
last_end start (end ∷ ends) long h = let rest = last_end end ends long h.1 in omega (arith, h.0, rest)

pub end_within : (start : ℕ) (ends : List ℕ) (long place : ℕ) → AreEnds start ends long → place < length ends → get_or ends place 0 ≤ long
end_within start [] long place h l = absurd (omega (arith, l))
end_within start (end ∷ ends) long zero h l = last_end end ends long h.1
end_within start (end ∷ ends) long (suc place) h l = end_within end ends long place h.1 (omega (arith, l))

pub start_before : (start : ℕ) (ends : List ℕ) (long place : ℕ) → AreEnds start ends long → place < length ends → start_of start ends place ≤ get_or ends place 0
start_before start [] long place h l = absurd (omega (arith, l))
start_before start (end ∷ ends) long zero h l = h.0
start_before start (end ∷ ends) long (suc place) h l = start_before end ends long place h.1 (omega (arith, l))

pub piece_at : (start : ℕ) (ends numbers : List ℕ) (place : ℕ) → place < length ends → slice_index_or (pieces start ends numbers) place [] ≡ slice_range numbers (start_of start ends place) (get_or ends place 0)
piece_at start [] numbers place h = absurd (omega (arith, h))
piece_at start (end ∷ ends) numbers zero h = refl
piece_at start (end ∷ ends) numbers (suc place) h = piece_at end ends numbers place (omega (arith, h))

-- a range of the front of a list
front_range : (k s m : ℕ) (xs : List ℕ) → k + s ≤ m → take k (drop s (take m xs)) ≡ take k (drop s xs)
front_range k zero m xs h = take_first k m xs (omega (arith, h))
front_range k (suc s) zero xs h = absurd (omega (arith, h))
front_range k (suc s) (suc m) [] h = refl
front_range k (suc s) (suc m) (x ∷ xs) h = front_range k s m xs (omega (arith, h))

-- pieces of the front that they end in
pub pieces-front : (start : ℕ) (ends numbers : List ℕ) (long : ℕ) → AreEnds start ends long → pieces start ends (take long numbers) ≡ pieces start ends numbers
pieces-front start [] numbers long h = refl
pieces-front start (end ∷ ends) numbers long h =
    let within = last_end end ends long h.1 in
    λ i. front_range (end - start) start long numbers (let first : start ≤ end = h.0 in omega (arith, first, within)) i ∷ pieces-front end ends numbers long h.1 i

pieces-joined : (start : ℕ) (ends numbers more : List ℕ) → AreEnds start ends (length numbers) → pieces start ends (numbers ++ more) ≡ pieces start ends numbers
pieces-joined start ends numbers more h =
    sym (pieces-front start ends (numbers ++ more) (length numbers) h) ∙ ap (pieces start ends) (take-append_seam numbers more)

-- ONE MORE PIECE.
pieces-push_end : (start : ℕ) (ends numbers : List ℕ) (long end : ℕ) → AreEnds start ends long → pieces start (ends ++ end ∷ []) numbers ≡ pieces start ends numbers ++ slice_range numbers long end ∷ []
pieces-push_end start [] numbers long end h = ap (λ s. slice_range numbers s end ∷ []) h
pieces-push_end start (e ∷ ends) numbers long end h = ap (λ ps. slice_range numbers start e ∷ ps) (pieces-push_end e ends numbers long end h.1)

pub pieces-push : (start : ℕ) (ends numbers more : List ℕ) → AreEnds start ends (length numbers)
    → pieces start (ends ++ length (numbers ++ more) ∷ []) (numbers ++ more) ≡ pieces start ends numbers ++ more ∷ []
pieces-push start ends numbers more h =
    let long : length (numbers ++ more) - length numbers ≡ length more = omega (arith, length-append numbers more) in
    pieces-push_end start ends (numbers ++ more) (length numbers) (length (numbers ++ more)) h
    ∙ (λ i. pieces-joined start ends numbers more h i ++ take (long i) (drop-append_seam numbers more i) ∷ [])
    ∙ ap (λ xs. pieces start ends numbers ++ xs ∷ []) (take-length more)

pub ends_push : (start : ℕ) (ends : List ℕ) (long end : ℕ) → AreEnds start ends long → long ≤ end → AreEnds start (ends ++ end ∷ []) end
ends_push start [] long end h le = (omega (arith, h, le), refl)
ends_push start (e ∷ ends) long end h le = (h.0, ends_push e ends long end h.1 le)

-- THE FIRST PIECES ALONE.
pieces-take : (start : ℕ) (ends numbers : List ℕ) (n : ℕ) → pieces start (take n ends) numbers ≡ take n (pieces start ends numbers)
pieces-take start ends numbers zero = refl
pieces-take start [] numbers (suc n) = refl
pieces-take start (end ∷ ends) numbers (suc n) = ap (λ ps. slice_range numbers start end ∷ ps) (pieces-take end ends numbers n)

pub ends_take : (start : ℕ) (ends : List ℕ) (long n : ℕ) → AreEnds start ends long → n ≤ length ends → AreEnds start (take n ends) (start_of start ends n)
ends_take start [] long zero h l = refl
ends_take start (end ∷ ends) long zero h l = refl
ends_take start [] long (suc n) h l = absurd (omega (arith, l))
ends_take start (end ∷ ends) long (suc n) h l = (h.0, ends_take end ends long n h.1 (omega (arith, l)))

pub pieces-cut : (start : ℕ) (ends numbers : List ℕ) (long n : ℕ) → AreEnds start ends long → n ≤ length ends → pieces start (take n ends) (take (start_of start ends n) numbers) ≡ take n (pieces start ends numbers)
pieces-cut start ends numbers long n h l = pieces-front start (take n ends) numbers (start_of start ends n) (ends_take start ends long n h l) ∙ pieces-take start ends numbers n

pub start_within : (start : ℕ) (ends : List ℕ) (long n : ℕ) → AreEnds start ends long → n ≤ length ends → start_of start ends n ≤ long
start_within start ends long zero h l = last_end start ends long h
start_within start [] long (suc n) h l = absurd (omega (arith, l))
start_within start (end ∷ ends) long (suc n) h l = start_within end ends long n h.1 (omega (arith, l))
