-- Whole frames in front of bytes.
use Rattle.std.proofs.Common.{◌≡◌, ℕ, zero, suc, ◌+◌, ◌<◌, ◌≤◌, true, false, List, [], ◌∷◌, ◌++◌, length, drop, refl, sym, ap, subst, ◌∙◌, arith}
use Rattle.std.proofs.lemmas.List.{length-drop}
use Rattle.ew_model.specs.Limits.{LimitNumbers}
use Rattle.ew_model.specs.Bytes.{AreBytes}
use Rattle.ew_model.proofs.ByteLaws.{AreBytes-drop}
use Rattle.peer_definitions.specs.declared.frame.Frame.{Frame}
use Rattle.peer_definitions.specs.Cutting.{Head, head_of, told_length, Front, Tells, Finds, is_whole, AreFrames}
use Rattle.peer_definitions.specs.Cutting.Head.{Incomplete, NoKind, OverLimit, Complete}
use Rattle.peer_definitions.specs.Cutting.Front.{Whole, Partial}
use Rattle.peer_frames.proofs.Heads.{HeadSays, head_says, Grows, grows}
use Rattle.peer_frames.proofs.Cuts.{fronts_are_one, cuts_are_found, end_is_not, whole_parts}
use Rattle.command_table.specs.Framings.{BeginWith}

-- ---- bytes

pub bytes_join : (xs ys : List ℕ) → AreBytes xs → AreBytes ys → AreBytes (xs ++ ys)
bytes_join [] ys f g i = g i
bytes_join (x ∷ xs) ys f g zero = f zero
bytes_join (x ∷ xs) ys f g (suc i) = bytes_join xs ys (λ j. f (suc j)) g i

-- ---- one frame

abbrev IsLess : List ℕ → List ℕ → Type 0
IsLess bytes rest = (length rest < length bytes) × (AreBytes bytes → AreBytes rest)

rest_is_less : (limits : LimitNumbers) (bytes : List ℕ) (f : Frame) (rest : List ℕ) (h : Head) → HeadSays limits bytes h → Tells h (Whole f rest) → IsLess bytes rest
rest_is_less limits bytes f rest Incomplete s t = absurd t
rest_is_less limits bytes f rest (NoKind k) s t = absurd t
rest_is_less limits bytes f rest (OverLimit n) s t = absurd t
rest_is_less limits bytes f rest (Complete kind body behind) s t =
    let n = 4 + told_length s.behind in
    let is : rest ≡ drop n s.behind = t.1 ∙ s.rest_is in
    let size = ap (λ (bs : List ℕ). length bs) s.parts in
    let left = ap (λ (bs : List ℕ). length bs) is in (
      omega (arith, size, left, length-drop n s.behind),
      λ fits. subst AreBytes (sym is) (AreBytes-drop n s.behind (λ i. subst AreBytes s.parts fits (suc i))),
    )

-- what a frame leaves is shorter, and bytes
pub frame_takes : (limits : LimitNumbers) (bytes : List ℕ) (f : Frame) (rest : List ℕ) → Finds limits bytes (Whole f rest) → IsLess bytes rest
frame_takes limits bytes f rest t = rest_is_less limits bytes f rest (head_of limits bytes) (head_says limits bytes) t

pub whole_more : (h g : Head) (f : Frame) (rest more : List ℕ) → Grows h more g → Tells h (Whole f rest) → Tells g (Whole f (rest ++ more))
whole_more Incomplete g f r more same t = absurd t
whole_more (NoKind kind) g f r more same t = absurd t
whole_more (OverLimit m) g f r more same t = absurd t
whole_more (Complete kind body rest) g f r more same t = subst (λ h. Tells h (Whole f (r ++ more))) (sym same) (t.0, ap (λ bs. bs ++ more) t.1)

-- ---- frames

pub begins_more : (limits : LimitNumbers) (bytes more : List ℕ) (frames : List Frame) (rest : List ℕ) → BeginWith limits bytes frames rest
    → BeginWith limits (bytes ++ more) frames (rest ++ more)
begins_more limits bytes more [] rest h = ap (λ bs. bs ++ more) h
begins_more limits bytes more (f ∷ frames) rest h = (
  h.0 ++ more,
  whole_more (head_of limits bytes) (head_of limits (bytes ++ more)) f h.0 more (grows limits bytes more) h.1,
  begins_more limits h.0 more frames rest h.2,
)

-- frames, and then more of them
pub begins_append : (limits : LimitNumbers) (bytes : List ℕ) (frames others : List Frame) (rest behind : List ℕ) → BeginWith limits bytes frames rest
    → BeginWith limits rest others behind
    → BeginWith limits bytes (frames ++ others) behind
begins_append limits bytes [] others rest behind h k = subst (λ bs. BeginWith limits bs others behind) h k
begins_append limits bytes (f ∷ frames) others rest behind h k = (h.0, h.1, begins_append limits h.0 frames others rest behind h.2 k)

pub begins_one : (limits : LimitNumbers) (bytes : List ℕ) (f : Frame) (rest : List ℕ) → Finds limits bytes (Whole f rest) → BeginWith limits bytes (f ∷ []) rest
begins_one limits bytes f rest found = (rest, found, refl)

-- each frame has a byte
pub begins_short : (limits : LimitNumbers) (bytes : List ℕ) (frames : List Frame) (rest : List ℕ) → BeginWith limits bytes frames rest
    → length frames + length rest ≤ length bytes
begins_short limits bytes [] rest h = omega (arith, ap (λ (bs : List ℕ). length bs) h)
begins_short limits bytes (f ∷ frames) rest h = omega (arith, (frame_takes limits bytes f h.0 h.1).0, begins_short limits h.0 frames rest h.2)

pub begins_bytes : (limits : LimitNumbers) (bytes : List ℕ) (frames : List Frame) (rest : List ℕ) → BeginWith limits bytes frames rest → AreBytes bytes → AreBytes rest
begins_bytes limits bytes [] rest h fits = subst AreBytes (sym h) fits
begins_bytes limits bytes (f ∷ frames) rest h fits = begins_bytes limits h.0 frames rest h.2 ((frame_takes limits bytes f h.0 h.1).1 fits)

-- Where others are all the frames in front of the bytes, they are these frames and then more.
pub record GoesOn (limits : LimitNumbers) (frames others : List Frame) (rest end : List ℕ) : Type 0 where
  pub more : List Frame
  pub whole : others ≡ frames ++ more
  pub begins : BeginWith limits rest more end

pub begins_goes_on : (limits : LimitNumbers) (bytes : List ℕ) (frames others : List Frame) (rest end : List ℕ) (front : Front)
    → BeginWith limits bytes frames rest → BeginWith limits bytes others end
    → Finds limits end front → is_whole front ≡ false → GoesOn limits frames others rest end
begins_goes_on limits bytes [] others rest end front h k found none =
    record { more = others; whole = refl; begins = subst (λ bs. BeginWith limits bs others end) (sym h) k }
begins_goes_on limits bytes (f ∷ frames) [] rest end front h k found none =
    absurd (end_is_not f h.0 front (fronts_are_one limits bytes (Whole f h.0) front h.1 (subst (λ bs. Finds limits bs front) k found)) none)
begins_goes_on limits bytes (f ∷ frames) (g ∷ others) rest end front h k found none =
    let same = whole_parts f g h.0 k.0 (fronts_are_one limits bytes (Whole f h.0) (Whole g k.0) h.1 k.1) in
    let on = begins_goes_on limits k.0 frames others rest end front (subst (λ r. BeginWith limits r frames rest) same.1 h.2) k.2 found none in
    record { more = on.more; whole = ap (λ x. x ∷ others) (sym same.0) ∙ ap (λ xs. f ∷ xs) on.whole; begins = on.begins }

-- where no whole frame is left of either
pub begins_are_one : (limits : LimitNumbers) (bytes : List ℕ) (frames others : List Frame) (rest end : List ℕ) (front other : Front)
    → BeginWith limits bytes frames rest → BeginWith limits bytes others end
    → Finds limits rest front → is_whole front ≡ false → Finds limits end other → is_whole other ≡ false → (others ≡ frames) × (end ≡ rest) × (other ≡ front)
begins_are_one limits bytes [] [] rest end front other h k found none last whole =
    (refl, k ∙ sym h, fronts_are_one limits rest other front (subst (λ bs. Finds limits bs other) (k ∙ sym h) last) found)
begins_are_one limits bytes [] (g ∷ others) rest end front other h k found none last whole =
    absurd (end_is_not g k.0 front (fronts_are_one limits bytes (Whole g k.0) front k.1 (subst (λ bs. Finds limits bs front) h found)) none)
begins_are_one limits bytes (f ∷ frames) [] rest end front other h k found none last whole =
    absurd (end_is_not f h.0 other (fronts_are_one limits bytes (Whole f h.0) other h.1 (subst (λ bs. Finds limits bs other) k last)) whole)
begins_are_one limits bytes (f ∷ frames) (g ∷ others) rest end front other h k found none last whole =
    let same = whole_parts f g h.0 k.0 (fronts_are_one limits bytes (Whole f h.0) (Whole g k.0) h.1 k.1) in
    let on = begins_are_one limits k.0 frames others rest end front other (subst (λ r. BeginWith limits r frames rest) same.1 h.2) k.2 found none last whole in
    (ap (λ x. x ∷ others) (sym same.0) ∙ ap (λ xs. f ∷ xs) on.0, on.1, on.2)

-- ---- all frames

pub record AllCut (limits : LimitNumbers) (bytes : List ℕ) : Type 0 where
  pub frames : List Frame
  pub rest : List ℕ
  pub stop : Front
  pub begins : BeginWith limits bytes frames rest
  pub found : Finds limits rest stop
  pub none : is_whole stop ≡ false

all_cut : (limits : LimitNumbers) (bytes : List ℕ) (frames : List Frame) (end : Front) → AreFrames limits bytes frames end → AllCut limits bytes
all_cut limits bytes [] end h = record { frames = []; rest = bytes; stop = end; begins = refl; found = h.0; none = h.1 }
all_cut limits bytes (f ∷ frames) end h =
    let c = all_cut limits h.0 frames end h.2 in
    record { frames = f ∷ c.frames; rest = c.rest; stop = c.stop; begins = (h.0, h.1, c.begins); found = c.found; none = c.none }

-- all bytes are cut
pub bytes_are_cut : (limits : LimitNumbers) (bytes : List ℕ) → AreBytes bytes → AllCut limits bytes
bytes_are_cut limits bytes fits = let c = cuts_are_found limits bytes fits in all_cut limits bytes c.0 c.1 c.2
