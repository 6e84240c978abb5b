-- The laws of the cutting of bytes into frames.
use Rattle.std.proofs.Common.{◌≡◌, ℕ, zero, suc, ◌+◌, ◌^◌, ◌<◌, ◌≤◌, Bool, true, false, ltb, List, [], ◌∷◌, ◌++◌, length, take, drop, flat_map, Option, Some, None, refl, sym, ap, subst, ◌∙◌, append_assoc, append-nil, arith}
use Rattle.std.specs.List.{AllByRecursion}
use Rattle.std.proofs.lemmas.Bool.{and_parts, ltb-true}
use Rattle.std.proofs.lemmas.List.{length-take, length-drop}
use Rattle.ew_model.specs.Limits.{LimitNumbers}
use Rattle.ew_model.specs.Bytes.{AreBytes}
use Rattle.ew_model.proofs.ByteLaws.{AreBytes-take, AreBytes-drop}
use Rattle.peer_frames.specs.declared.kind.Kind.{Kind}
use Rattle.peer_definitions.specs.declared.frame.Frame.{Frame}
use Rattle.peer_definitions.specs.declared.frame.Frame.TheVariants.{Have, Events, Done, Took, Clash, Bye}
use Rattle.peer_definitions.specs.Spelling.{kind_of, frame_bytes, HasSpelling, IsSoundFrame, IsBody}
use Rattle.peer_definitions.specs.Cutting.{is_kind, Head, head_of, told_length, Front, Tells, Finds, is_whole, AreFrames}
use Rattle.peer_definitions.specs.Cutting.Head.{Incomplete, NoKind, OverLimit, Complete}
use Rattle.peer_definitions.specs.Cutting.Front.{Whole, Partial, BadKind, TooLong, BadBody}
use Rattle.peer_frames.specs.Calls.{Call, left_by, AreAnswers, fed, frames_in}
use Rattle.peer_frames.specs.Calls.Call.{Feed, Next}
use Rattle.peer_frames.specs.Reading.{kind_byte, frame_in}
use Rattle.peer_frames.specs.Laws.{NoFrameBeginsAnother, FrontsAreFound, FrontsAreOne, is_fault, FaultsStay, CutsAreOne, CutsAreFound, ChunkingIsNotSeen, ChunkingsAgree, IsTaken, FramesComeBack}
use Rattle.peer_frames.proofs.Bodies.{kind_at, frame_some, frame_back}
use Rattle.peer_frames.proofs.Heads.{HeadSays, IsThere, head_says, Grows, grows, head_spelled}
use Rattle.ew_model.proofs.ListPlaces.{some_is}

-- ---- one front

byte_of_frame : (f : Frame) → kind_byte (kind_at (kind_of f)) ≡ kind_of f
byte_of_frame (Have counts) = refl
byte_of_frame (Events events) = refl
byte_of_frame Done = refl
byte_of_frame (Took a b c d) = refl
byte_of_frame (Clash x) = refl
byte_of_frame Bye = refl

reads_back : (kind : ℕ) (body : List ℕ) (f : Frame) → IsBody kind body f → frame_in (kind_at kind) body ≡ Some f
reads_back kind body f h =
    frame_back (kind_at kind) body f (record { sound = h.sound; spelled = h.spelled; kind = sym (byte_of_frame f) ∙ ap (λ k. kind_byte (kind_at k)) h.kind; bytes = h.bytes })

-- a body is that of one frame
pub body_is_of_one : (kind : ℕ) (body : List ℕ) (f g : Frame) → IsBody kind body f → IsBody kind body g → f ≡ g
body_is_of_one kind body f g h k = some_is f g (sym (reads_back kind body f h) ∙ reads_back kind body g k)

only_partial : (b : Front) → Tells Incomplete b → Partial ≡ b
only_partial Partial t = refl
only_partial (Whole f r) t = absurd t
only_partial (BadKind k) t = absurd t
only_partial (TooLong n) t = absurd t
only_partial BadBody t = absurd t

only_kind : (kind : ℕ) (b : Front) → Tells (NoKind kind) b → BadKind kind ≡ b
only_kind kind Partial t = absurd t
only_kind kind (Whole f r) t = absurd t
only_kind kind (BadKind k) t = ap BadKind (sym t)
only_kind kind (TooLong n) t = absurd t
only_kind kind BadBody t = absurd t

only_long : (n : ℕ) (b : Front) → Tells (OverLimit n) b → TooLong n ≡ b
only_long n Partial t = absurd t
only_long n (Whole f r) t = absurd t
only_long n (BadKind k) t = absurd t
only_long n (TooLong m) t = ap TooLong (sym t)
only_long n BadBody t = absurd t

only_whole : (kind : ℕ) (body rest : List ℕ) (f : Frame) (b : Front) → IsBody kind body f → Tells (Complete kind body rest) b → Whole f rest ≡ b
only_whole kind body rest f Partial h t = absurd t
only_whole kind body rest f (Whole g r) h t = ap (λ x. Whole x rest) (body_is_of_one kind body f g h t.0) ∙ ap (Whole g) (sym t.1)
only_whole kind body rest f (BadKind k) h t = absurd t
only_whole kind body rest f (TooLong n) h t = absurd t
only_whole kind body rest f BadBody h t = absurd (t f h)

only_bad : (kind : ℕ) (body rest : List ℕ) (b : Front) → ((f : Frame) → IsBody kind body f → ⊥) → Tells (Complete kind body rest) b → BadBody ≡ b
only_bad kind body rest Partial h t = absurd t
only_bad kind body rest (Whole g r) h t = absurd (h g t.0)
only_bad kind body rest (BadKind k) h t = absurd t
only_bad kind body rest (TooLong n) h t = absurd t
only_bad kind body rest BadBody h t = refl

one_front : (h : Head) (a b : Front) → Tells h a → Tells h b → a ≡ b
one_front Incomplete a b s t = sym (only_partial a s) ∙ only_partial b t
one_front (NoKind kind) a b s t = sym (only_kind kind a s) ∙ only_kind kind b t
one_front (OverLimit n) a b s t = sym (only_long n a s) ∙ only_long n b t
one_front (Complete kind body rest) Partial b s t = absurd s
one_front (Complete kind body rest) (Whole f r) b s t = ap (Whole f) s.1 ∙ only_whole kind body rest f b s.0 t
one_front (Complete kind body rest) (BadKind k) b s t = absurd s
one_front (Complete kind body rest) (TooLong n) b s t = absurd s
one_front (Complete kind body rest) BadBody b s t = only_bad kind body rest b s t

pub fronts_are_one : FrontsAreOne
fronts_are_one limits bytes front other s t = one_front (head_of limits bytes) front other s t

-- ---- a front of all bytes

byte_at : (n : ℕ) → is_kind n ≡ true → kind_byte (kind_at n) ≡ n
byte_at zero h = absurd cc
byte_at (suc zero) h = refl
byte_at (suc (suc zero)) h = refl
byte_at (suc (suc (suc zero))) h = refl
byte_at (suc (suc (suc (suc zero)))) h = refl
byte_at (suc (suc (suc (suc (suc zero))))) h = refl
byte_at (suc (suc (suc (suc (suc (suc zero)))))) h = refl
byte_at (suc (suc (suc (suc (suc (suc (suc n))))))) h =
    let m = suc (suc (suc (suc (suc (suc (suc n)))))) in
    let small = ltb-true m 7 (and_parts (ltb 0 m) (ltb m 7) h).1 in
    absurd (omega (arith, small))

pub none_is : {A : Type 0} (x : A) → None ≡ Some x → ⊥
none_is x e = absurd cc

-- the body is that of a frame of its kind, or of none
pub decided : (kind : Kind) (body rest : List ℕ) (o : Option Frame) → AreBytes body → length body < 2 ^ 32 → frame_in kind body ≡ o → (front : Front) × Tells (Complete (kind_byte kind) body rest) front
decided kind body rest (Some f) fits short e = (Whole f rest, (frame_some kind body f fits short e, refl))
decided kind body rest None fits short e = (BadBody, λ f h. none_is f (sym e ∙ frame_back kind body f h))

pub body_short : (limits : LimitNumbers) (bytes : List ℕ) (kind : ℕ) (body rest : List ℕ) → AreBytes bytes → IsThere limits bytes kind body rest → AreBytes body × (length body < 2 ^ 32)
body_short limits bytes kind body rest fits s =
    let behind : AreBytes s.behind = λ i. subst AreBytes s.parts fits (suc i) in
    let four : AreBytes (take 4 s.behind) = AreBytes-take 4 s.behind behind in
    let told = told_length s.behind in
    let small : told < 2 ^ 32 = omega (arith, four 0, four 1, four 2, four 3) in
    let short : length body ≤ told = omega (arith, ap (λ (bs : List ℕ). length bs) s.body_is, length-take told (drop 4 s.behind)) in
    (subst AreBytes (sym s.body_is) (AreBytes-take told (drop 4 s.behind) (AreBytes-drop 4 s.behind behind)), omega (arith, small, short))

found_from : (limits : LimitNumbers) (bytes : List ℕ) (h : Head) → AreBytes bytes → HeadSays limits bytes h → (front : Front) × Tells h front
found_from limits bytes Incomplete fits s = (Partial, tt)
found_from limits bytes (NoKind kind) fits s = (BadKind kind, refl)
found_from limits bytes (OverLimit n) fits s = (TooLong n, refl)
found_from limits bytes (Complete kind body rest) fits s =
    let b = body_short limits bytes kind body rest fits s in
    subst (λ k. (front : Front) × Tells (Complete k body rest) front) (byte_at kind s.good) (decided (kind_at kind) body rest (frame_in (kind_at kind) body) b.0 b.1 refl)

pub fronts_are_found : FrontsAreFound
fronts_are_found limits bytes fits = found_from limits bytes (head_of limits bytes) fits (head_says limits bytes)

-- ---- more bytes

-- what stands in front of the bytes, with more bytes behind
abbrev pub with_more : Front → List ℕ → Front
with_more (Whole f rest) more = Whole f (rest ++ more)
with_more Partial more = Partial
with_more (BadKind k) more = BadKind k
with_more (TooLong n) more = TooLong n
with_more BadBody more = BadBody

abbrev is_settled : Front → Bool
is_settled Partial = false
is_settled front = true

tells_more : (h g : Head) (front : Front) (more : List ℕ) → is_settled front ≡ true → Grows h more g → Tells h front → Tells g (with_more front more)
tells_more Incomplete g Partial more settled same t = absurd cc
tells_more Incomplete g (Whole f r) more settled same t = absurd t
tells_more Incomplete g (BadKind k) more settled same t = absurd t
tells_more Incomplete g (TooLong n) more settled same t = absurd t
tells_more Incomplete g BadBody more settled same t = absurd t
tells_more (NoKind kind) g Partial more settled same t = absurd t
tells_more (NoKind kind) g (Whole f r) more settled same t = absurd t
tells_more (NoKind kind) g (BadKind k) more settled same t = subst (λ h. Tells h (BadKind k)) (sym same) t
tells_more (NoKind kind) g (TooLong n) more settled same t = absurd t
tells_more (NoKind kind) g BadBody more settled same t = absurd t
tells_more (OverLimit m) g Partial more settled same t = absurd t
tells_more (OverLimit m) g (Whole f r) more settled same t = absurd t
tells_more (OverLimit m) g (BadKind k) more settled same t = absurd t
tells_more (OverLimit m) g (TooLong n) more settled same t = subst (λ h. Tells h (TooLong n)) (sym same) t
tells_more (OverLimit m) g BadBody more settled same t = absurd t
tells_more (Complete kind body rest) g Partial more settled same t = absurd t
tells_more (Complete kind body rest) g (Whole f r) more settled same t = subst (λ h. Tells h (Whole f (r ++ more))) (sym same) (t.0, ap (λ bs. bs ++ more) t.1)
tells_more (Complete kind body rest) g (BadKind k) more settled same t = absurd t
tells_more (Complete kind body rest) g (TooLong n) more settled same t = absurd t
tells_more (Complete kind body rest) g BadBody more settled same t = subst (λ h. Tells h BadBody) (sym same) t

finds_more : (limits : LimitNumbers) (bytes more : List ℕ) (front : Front) → is_settled front ≡ true → Finds limits bytes front → Finds limits (bytes ++ more) (with_more front more)
finds_more limits bytes more front settled t = tells_more (head_of limits bytes) (head_of limits (bytes ++ more)) front more settled (grows limits bytes more) t

pub faults_stay : FaultsStay
faults_stay limits bytes more (Whole f r) fault t = absurd cc
faults_stay limits bytes more Partial fault t = absurd cc
faults_stay limits bytes more (BadKind k) fault t = finds_more limits bytes more (BadKind k) refl t
faults_stay limits bytes more (TooLong n) fault t = finds_more limits bytes more (TooLong n) refl t
faults_stay limits bytes more BadBody fault t = finds_more limits bytes more BadBody refl t

-- ---- frames

pub end_is_not : (f : Frame) (rest : List ℕ) (end : Front) → Whole f rest ≡ end → is_whole end ≡ false → ⊥
end_is_not f rest end e h = absurd (let t : true ≡ false = ap is_whole e ∙ h in cc)

pub whole_parts : (f g : Frame) (r s : List ℕ) → Whole f r ≡ Whole g s → (f ≡ g) × (r ≡ s)
whole_parts f g r s e = (cc, cc)

pub cuts_are_one : CutsAreOne
cuts_are_one limits bytes [] [] end other h k = (refl, fronts_are_one limits bytes end other h.0 k.0)
cuts_are_one limits bytes [] (g ∷ others) end other h k = absurd (end_is_not g k.0 end (fronts_are_one limits bytes (Whole g k.0) end k.1 h.0) h.1)
cuts_are_one limits bytes (f ∷ frames) [] end other h k = absurd (end_is_not f h.0 other (fronts_are_one limits bytes (Whole f h.0) other h.1 k.0) k.1)
cuts_are_one limits bytes (f ∷ frames) (g ∷ others) end other h k =
    let same = whole_parts f g h.0 k.0 (fronts_are_one limits bytes (Whole f h.0) (Whole g k.0) h.1 k.1) in
    let rest = cuts_are_one limits k.0 frames others end other (subst (λ r. AreFrames limits r frames end) same.1 h.2) k.2 in
    (ap (λ x. x ∷ frames) same.0 ∙ ap (λ xs. g ∷ xs) rest.0, rest.1)

chunked : (limits : LimitNumbers) (bytes : List ℕ) (calls : List Call) (answers : List Front) (kept : List ℕ) (frames : List Frame) (end : Front) → AreAnswers limits bytes calls answers kept → AreFrames limits kept frames end → AreFrames limits (bytes ++ fed calls) (frames_in answers ++ frames) end
chunked limits bytes [] answers kept frames end a h =
    subst (λ bs. AreFrames limits bs (frames_in answers ++ frames) end) (a.1 ∙ sym (append-nil bytes)) (subst (λ xs. AreFrames limits kept (frames_in xs ++ frames) end) (sym a.0) h)
chunked limits bytes (Feed piece ∷ calls) answers kept frames end a h =
    subst (λ bs. AreFrames limits bs (frames_in answers ++ frames) end) (append_assoc bytes piece (fed calls)) (chunked limits (bytes ++ piece) calls answers kept frames end a h)
chunked limits bytes (Next ∷ calls) [] kept frames end a h = absurd a
chunked limits bytes (Next ∷ calls) (Whole f rest ∷ answers) kept frames end a h =
    (rest ++ fed calls, finds_more limits bytes (fed calls) (Whole f rest) refl a.0, chunked limits rest calls answers kept frames end a.1 h)
chunked limits bytes (Next ∷ calls) (Partial ∷ answers) kept frames end a h = chunked limits bytes calls answers kept frames end a.1 h
chunked limits bytes (Next ∷ calls) (BadKind k ∷ answers) kept frames end a h = chunked limits bytes calls answers kept frames end a.1 h
chunked limits bytes (Next ∷ calls) (TooLong n ∷ answers) kept frames end a h = chunked limits bytes calls answers kept frames end a.1 h
chunked limits bytes (Next ∷ calls) (BadBody ∷ answers) kept frames end a h = chunked limits bytes calls answers kept frames end a.1 h

-- what bytes end with is the fault that stands in front of them
fault_ends : (limits : LimitNumbers) (bytes : List ℕ) (front : Front) (frames : List Frame) (end : Front) → is_fault front ≡ true → Finds limits bytes front → AreFrames limits bytes frames end → front ≡ end
fault_ends limits bytes front [] end fault t h = fronts_are_one limits bytes front end t h.0
fault_ends limits bytes front (f ∷ frames) end fault t h =
    absurd (let no : true ≡ false = sym fault ∙ ap is_fault (fronts_are_one limits bytes front (Whole f h.0) t h.1) in cc)

abbrev IsEnd : Front → Front → Type 0
IsEnd end front = is_fault front ≡ true → front ≡ end

faults_end : (limits : LimitNumbers) (bytes : List ℕ) (calls : List Call) (answers : List Front) (kept : List ℕ) (frames : List Frame) (end : Front) → AreAnswers limits bytes calls answers kept → AreFrames limits kept frames end → AllByRecursion (IsEnd end) answers
faults_end limits bytes [] answers kept frames end a h = subst (AllByRecursion (IsEnd end)) (sym a.0) tt
faults_end limits bytes (Feed piece ∷ calls) answers kept frames end a h = faults_end limits (bytes ++ piece) calls answers kept frames end a h
faults_end limits bytes (Next ∷ calls) [] kept frames end a h = absurd a
faults_end limits bytes (Next ∷ calls) (front ∷ answers) kept frames end a h = (
  λ fault. let whole : AreFrames limits (bytes ++ fed calls) (frames_in answers ++ frames) end = chunked limits bytes calls answers kept frames end (subst (λ bs. AreAnswers limits bs calls answers kept) (left_same bytes front fault) a.1) h in
      fault_ends limits (bytes ++ fed calls) front (frames_in answers ++ frames) end fault (faults_stay limits bytes (fed calls) front fault a.0) whole,
  faults_end limits (left_by bytes front) calls answers kept frames end a.1 h,
)
  where
    left_same : (bs : List ℕ) (x : Front) → is_fault x ≡ true → left_by bs x ≡ bs
    left_same bs (Whole f r) e = absurd cc
    left_same bs Partial e = refl
    left_same bs (BadKind k) e = refl
    left_same bs (TooLong n) e = refl
    left_same bs BadBody e = refl

pub chunking_is_not_seen : ChunkingIsNotSeen
chunking_is_not_seen limits calls answers kept frames end a h = (chunked limits [] calls answers kept frames end a h, faults_end limits [] calls answers kept frames end a h)

pub chunkings_agree : ChunkingsAgree
chunkings_agree limits calls others answers replies kept left end other a h b k e =
    let first = chunked limits [] calls answers kept [] end a h in
    let second = chunked limits [] others replies left [] other b k in
    let one = cuts_are_one limits (fed others) (frames_in answers ++ []) (frames_in replies ++ []) end other (subst (λ bs. AreFrames limits bs (frames_in answers ++ []) end) e first) second in
    (sym (append-nil (frames_in answers)) ∙ one.0 ∙ append-nil (frames_in replies), one.1)

-- ---- all bytes are cut

-- what a frame leaves is shorter, and bytes
rest_of : (limits : LimitNumbers) (bytes : List ℕ) (f : Frame) (rest : List ℕ) (h : Head) → AreBytes bytes → HeadSays limits bytes h → Tells h (Whole f rest) → AreBytes rest × (length rest < length bytes)
rest_of limits bytes f rest Incomplete fits s t = absurd t
rest_of limits bytes f rest (NoKind k) fits s t = absurd t
rest_of limits bytes f rest (OverLimit n) fits s t = absurd t
rest_of limits bytes f rest (Complete kind body behind) fits s t =
    let after : AreBytes s.behind = λ i. subst AreBytes s.parts fits (suc i) in
    let is : rest ≡ drop (4 + told_length s.behind) s.behind = t.1 ∙ s.rest_is in
    let size = ap (λ (bs : List ℕ). length bs) s.parts in
    let left = ap (λ (bs : List ℕ). length bs) is in
    (subst AreBytes (sym is) (AreBytes-drop (4 + told_length s.behind) s.behind after), omega (arith, size, left, length-drop (4 + told_length s.behind) s.behind))

abbrev AreCut : LimitNumbers → List ℕ → Type 0
AreCut limits bytes = (frames : List Frame) × (end : Front) × AreFrames limits bytes frames end

cut_front : (limits : LimitNumbers) (fuel : ℕ) (bytes : List ℕ) (front : Front) → AreBytes bytes → length bytes ≤ fuel → ((rest : List ℕ) → AreBytes rest → length rest < fuel → AreCut limits rest) → Finds limits bytes front → AreCut limits bytes
cut_front limits fuel bytes (Whole f rest) fits short go t =
    let left = rest_of limits bytes f rest (head_of limits bytes) fits (head_says limits bytes) t in
    let others = go rest left.0 (omega (arith, left.1, short)) in
    (f ∷ others.0, others.1, (rest, t, others.2))
cut_front limits fuel bytes Partial fits short go t = ([], Partial, (t, refl))
cut_front limits fuel bytes (BadKind k) fits short go t = ([], BadKind k, (t, refl))
cut_front limits fuel bytes (TooLong n) fits short go t = ([], TooLong n, (t, refl))
cut_front limits fuel bytes BadBody fits short go t = ([], BadBody, (t, refl))

cut_from : (limits : LimitNumbers) (fuel : ℕ) (bytes : List ℕ) → AreBytes bytes → length bytes < fuel → AreCut limits bytes
cut_from limits zero bytes fits short = absurd (omega (arith, short))
cut_from limits (suc fuel) bytes fits short =
    let front = fronts_are_found limits bytes fits in
    cut_front limits fuel bytes front.0 fits (omega (arith, short)) (λ rest f s. cut_from limits fuel rest f s) front.1

pub cuts_are_found : CutsAreFound
cuts_are_found limits bytes fits = cut_from limits (suc (length bytes)) bytes fits (omega arith)

-- ---- spellings

finds_spelled : (limits : LimitNumbers) (f : Frame) (rest : List ℕ) → IsTaken limits f → Finds limits (frame_bytes f ++ rest) (Whole f rest)
finds_spelled limits f rest h =
    subst (λ g. Tells g (Whole f rest)) (sym (head_spelled limits f rest h.spelled.body h.short)) (record { sound = h.sound; spelled = h.spelled; kind = refl; bytes = refl }, refl)

pub finds_nothing : (limits : LimitNumbers) → Finds limits [] Partial
unfolding head_of
finds_nothing limits = tt

pub frames_come_back : FramesComeBack
frames_come_back limits [] h = (finds_nothing limits, refl)
frames_come_back limits (f ∷ frames) h = (flat_map frame_bytes frames, finds_spelled limits f (flat_map frame_bytes frames) h.0, frames_come_back limits frames h.1)

-- limits that take each frame that has a spelling
abbrev widest : LimitNumbers
widest = record { events = 2 ^ 32; waiting = 0; input = 0; body = 2 ^ 32 }

taken_widest : (f : Frame) → IsSoundFrame f → HasSpelling f → IsTaken widest f
taken_widest (Have counts) sound h = record { sound = sound; spelled = h; short = omega (arith, h.body) }
taken_widest (Events events) sound h = record { sound = sound; spelled = h; short = omega (arith, h.body) }
taken_widest Done sound h = record { sound = sound; spelled = h; short = omega (arith, h.body) }
taken_widest (Took a b c d) sound h = record { sound = sound; spelled = h; short = omega (arith, h.body) }
taken_widest (Clash x) sound h = record { sound = sound; spelled = h; short = omega (arith, h.body) }
taken_widest Bye sound h = record { sound = sound; spelled = h; short = omega (arith, h.body) }

pub no_frame_begins_another : NoFrameBeginsAnother
no_frame_begins_another f g more sound_f has_f sound_g has_g e =
    let first = finds_spelled widest f more (taken_widest f sound_f has_f) in
    let second = finds_spelled widest g [] (taken_widest g sound_g has_g) in
    let same : frame_bytes f ++ more ≡ frame_bytes g ++ [] = e ∙ sym (append-nil (frame_bytes g)) in
    whole_parts f g more [] (fronts_are_one widest (frame_bytes g ++ []) (Whole f more) (Whole g []) (subst (λ bs. Finds widest bs (Whole f more)) same first) second)
