-- A list in pieces.
use Rattle.std.proofs.Common.{◌≡◌, ℕ, zero, suc, ◌+◌, ◌-◌, ◌*◌, ◌<◌, ◌≤◌, List, [], ◌∷◌, ◌++◌, length, map, take, drop, flat_map, refl, sym, ap, ◌∙◌, append_assoc, arith}
use Rattle.std.specs.Int.{div_ceil}
use Rattle.std.proofs.lemmas.Grind.{div_ceil_times}
use Rattle.std.proofs.lemmas.List.{length-take, length-take-le, length-drop, take-append-drop}
use Rattle.ew_model.specs.declared.event.Event.{Event}
use Rattle.ew_model.specs.Limits.{LimitNumbers, AreLimits}
use Rattle.peer_definitions.specs.declared.frame.Frame.{Frame}
use Rattle.peer_definitions.specs.declared.frame.Frame.TheVariants.{Events}
use Rattle.peer_definitions.specs.Pieces.{frame_room, pieces_from, pieces}
use Rattle.peer_exchange.specs.Laws.{AreFull, ArePieces, FramesAreFull}

no_items : {X : Type 0} (xs : List X) → length xs ≤ 0 → xs ≡ []
no_items [] h = refl
no_items (x ∷ xs) h = absurd (omega (arith, h))

one_more : (n k : ℕ) → suc k * n ≡ n + k * n
one_more n k = omega arith

-- enough pieces are all of the list
joined : {X : Type 0} (n k : ℕ) (xs : List X) → length xs ≤ k * n → flat_map (λ piece. piece) (pieces_from n k xs) ≡ xs
joined n zero xs h = sym (no_items xs (omega (arith, h)))
joined n (suc k) xs h =
    ap (λ ys. take n xs ++ ys) (joined n k (drop n xs) (let rest = length-drop n xs in omega (arith, h, one_more n k, rest))) ∙ take-append-drop n xs

-- as many pieces as are needed are full
filled : {X : Type 0} (n k : ℕ) (xs : List X) → 0 < n → length xs ≤ k * n → k * n < length xs + n → AreFull n (pieces_from n k xs)
filled n zero xs some most least = tt
filled n (suc zero) xs some most least =
    let len = length-take n xs in (omega (arith, some, least, len), omega (arith, len))
filled n (suc (suc k)) xs some most least =
    let len = length-drop n xs in
    let one = one_more n (suc k) in
    let two = one_more n k in
    (length-take-le n xs (omega (arith, least, one, two)), filled n (suc k) (drop n xs) some (omega (arith, most, one, len)) (omega (arith, least, one, two, len)))

pub pieces_whole : {X : Type 0} (n : ℕ) (xs : List X) → 0 < n → ArePieces n xs (pieces n xs)
pieces_whole n xs some =
    let bounds = div_ceil_times (length xs) n some in
    record { full = filled n (div_ceil (length xs) n) xs some bounds.0 bounds.1; whole = joined n (div_ceil (length xs) n) xs bounds.0 }

pub some_room : (limits : LimitNumbers) → AreLimits limits → 0 < frame_room limits
some_room limits are = let least = are.room_for_an_event in omega (arith, least)

-- The law of frames.
pub frames_are_full : FramesAreFull
frames_are_full limits events are = pieces_whole (frame_room limits) events (some_room limits are)

-- ---- one piece more

-- a piece goes into a frame
pub next_frame : (n count counter : ℕ) (frames : List Frame) (events : List Event) → counter < count
    → (frames ++ Events (take n events) ∷ []) ++ map Events (pieces_from n (count - (counter + 1)) (drop n events)) ≡ frames ++ map Events (pieces_from n (count - counter) events)
next_frame n count counter frames events less =
    let left : suc (count - (counter + 1)) ≡ count - counter = omega (arith, less) in
    append_assoc frames (Events (take n events) ∷ []) (map Events (pieces_from n (count - (counter + 1)) (drop n events)))
    ∙ ap (λ k. frames ++ map Events (pieces_from n k events)) left
