-- What the first bytes tell: case by case, and with more bytes behind.
use Rattle.std.proofs.Common.{◌≡◌, ℕ, ◌+◌, ◌^◌, ◌<◌, ◌≤◌, true, false, cond, not, ltb, List, [], ◌∷◌, ◌++◌, length, take, drop, refl, sym, ap, subst, ◌∙◌, arith, inl, inr}
use Rattle.std.specs.Int.{w32, from_le_bytes}
use Rattle.std.proofs.lemmas.Bool.{cases_Bool, cases_lt, lt-ltb, le-ltb, cond-true, cond-false}
use Rattle.std.proofs.lemmas.List.{take-append-le, drop-append-le, take_at, drop_at, drop-drop, length-drop, length-append}
use Rattle.std.proofs.lemmas.Nat.{from_le_bytes-to_le_bytes_4}
use Rattle.ew_model.specs.Limits.{LimitNumbers}
use Rattle.ew_model.specs.Bytes.{four_bytes}
use Rattle.peer_definitions.specs.declared.frame.Frame.{Frame}
use Rattle.peer_definitions.specs.declared.frame.Frame.TheVariants.{Have, Events, Done, Took, Clash, Bye}
use Rattle.peer_definitions.specs.Spelling.{kind_of, body_of, frame_bytes}
use Rattle.peer_definitions.specs.Cutting.{is_kind, most_body, Head, told_length, head_of}
use Rattle.peer_definitions.specs.Cutting.Head.{Incomplete, NoKind, OverLimit, Complete}

-- the tests behind that of the kind
abbrev by_body : LimitNumbers → ℕ → List ℕ → Head
by_body limits kind bytes = cond (ltb (length bytes) (4 + told_length bytes)) Incomplete (Complete kind (take (told_length bytes) (drop 4 bytes)) (drop (4 + told_length bytes) bytes))

abbrev by_limit : LimitNumbers → ℕ → List ℕ → Head
by_limit limits kind bytes = cond (ltb (most_body limits kind) (told_length bytes)) (OverLimit (told_length bytes)) (by_body limits kind bytes)

abbrev by_length : LimitNumbers → ℕ → List ℕ → Head
by_length limits kind bytes = cond (ltb (length bytes) 4) Incomplete (by_limit limits kind bytes)

head_first : (limits : LimitNumbers) (kind : ℕ) (bytes : List ℕ) → head_of limits (kind ∷ bytes) ≡ cond (not (is_kind kind)) (NoKind kind) (by_length limits kind bytes)
unfolding head_of
head_first limits kind bytes = refl

pub head_none : (limits : LimitNumbers) (kind : ℕ) (bytes : List ℕ) → is_kind kind ≡ false → head_of limits (kind ∷ bytes) ≡ NoKind kind
head_none limits kind bytes bad = head_first limits kind bytes ∙ ap (λ b. cond (not b) (NoKind kind) (by_length limits kind bytes)) bad

head_kind : (limits : LimitNumbers) (kind : ℕ) (bytes : List ℕ) → is_kind kind ≡ true → head_of limits (kind ∷ bytes) ≡ by_length limits kind bytes
head_kind limits kind bytes good = head_first limits kind bytes ∙ ap (λ b. cond (not b) (NoKind kind) (by_length limits kind bytes)) good

head_short : (limits : LimitNumbers) (kind : ℕ) (bytes : List ℕ) → is_kind kind ≡ true → length bytes < 4 → head_of limits (kind ∷ bytes) ≡ Incomplete
head_short limits kind bytes good short = head_kind limits kind bytes good ∙ cond-true (ltb (length bytes) 4) Incomplete (by_limit limits kind bytes) (lt-ltb (length bytes) 4 short)

head_long : (limits : LimitNumbers) (kind : ℕ) (bytes : List ℕ) → is_kind kind ≡ true → 4 ≤ length bytes → head_of limits (kind ∷ bytes) ≡ by_limit limits kind bytes
head_long limits kind bytes good long = head_kind limits kind bytes good ∙ cond-false (ltb (length bytes) 4) Incomplete (by_limit limits kind bytes) (le-ltb (length bytes) 4 long)

pub head_over : (limits : LimitNumbers) (kind : ℕ) (bytes : List ℕ) → is_kind kind ≡ true → 4 ≤ length bytes → most_body limits kind < told_length bytes → head_of limits (kind ∷ bytes) ≡ OverLimit (told_length bytes)
head_over limits kind bytes good long over =
    head_long limits kind bytes good long ∙ cond-true (ltb (most_body limits kind) (told_length bytes)) (OverLimit (told_length bytes)) (by_body limits kind bytes) (lt-ltb (most_body limits kind) (told_length bytes) over)

head_within : (limits : LimitNumbers) (kind : ℕ) (bytes : List ℕ) → is_kind kind ≡ true → 4 ≤ length bytes → told_length bytes ≤ most_body limits kind → head_of limits (kind ∷ bytes) ≡ by_body limits kind bytes
head_within limits kind bytes good long within =
    head_long limits kind bytes good long ∙ cond-false (ltb (most_body limits kind) (told_length bytes)) (OverLimit (told_length bytes)) (by_body limits kind bytes) (le-ltb (most_body limits kind) (told_length bytes) within)

head_waits : (limits : LimitNumbers) (kind : ℕ) (bytes : List ℕ) → is_kind kind ≡ true → 4 ≤ length bytes → told_length bytes ≤ most_body limits kind → length bytes < 4 + told_length bytes → head_of limits (kind ∷ bytes) ≡ Incomplete
head_waits limits kind bytes good long within waits =
    head_within limits kind bytes good long within ∙ cond-true (ltb (length bytes) (4 + told_length bytes)) Incomplete (Complete kind (take (told_length bytes) (drop 4 bytes)) (drop (4 + told_length bytes) bytes)) (lt-ltb (length bytes) (4 + told_length bytes) waits)

pub head_there : (limits : LimitNumbers) (kind : ℕ) (bytes : List ℕ) → is_kind kind ≡ true → 4 ≤ length bytes → told_length bytes ≤ most_body limits kind → 4 + told_length bytes ≤ length bytes
    → head_of limits (kind ∷ bytes) ≡ Complete kind (take (told_length bytes) (drop 4 bytes)) (drop (4 + told_length bytes) bytes)
head_there limits kind bytes good long within there =
    head_within limits kind bytes good long within ∙ cond-false (ltb (length bytes) (4 + told_length bytes)) Incomplete (Complete kind (take (told_length bytes) (drop 4 bytes)) (drop (4 + told_length bytes) bytes)) (le-ltb (length bytes) (4 + told_length bytes) there)

-- the facts behind an over-long frame, and behind one that is there
pub record IsOver (limits : LimitNumbers) (bytes : List ℕ) (n : ℕ) : Type 0 where
  pub kind : ℕ
  pub behind : List ℕ
  pub parts : bytes ≡ kind ∷ behind
  pub good : is_kind kind ≡ true
  pub long : 4 ≤ length behind
  pub over : most_body limits kind < told_length behind
  pub told : n ≡ told_length behind

pub record IsThere (limits : LimitNumbers) (bytes : List ℕ) (kind : ℕ) (body rest : List ℕ) : Type 0 where
  pub behind : List ℕ
  pub parts : bytes ≡ kind ∷ behind
  pub good : is_kind kind ≡ true
  pub long : 4 ≤ length behind
  pub within : told_length behind ≤ most_body limits kind
  pub there : 4 + told_length behind ≤ length behind
  pub body_is : body ≡ take (told_length behind) (drop 4 behind)
  pub rest_is : rest ≡ drop (4 + told_length behind) behind

abbrev pub HeadSays : LimitNumbers → List ℕ → Head → Type 0
HeadSays limits bytes Incomplete = Unit {0}
HeadSays limits bytes (NoKind kind) = (behind : List ℕ) × (bytes ≡ kind ∷ behind) × (is_kind kind ≡ false)
HeadSays limits bytes (OverLimit n) = IsOver limits bytes n
HeadSays limits bytes (Complete kind body rest) = IsThere limits bytes kind body rest

head_nothing : (limits : LimitNumbers) → head_of limits [] ≡ Incomplete
unfolding head_of
head_nothing limits = refl

pub head_says : (limits : LimitNumbers) (bytes : List ℕ) → HeadSays limits bytes (head_of limits bytes)
head_says limits [] = subst (HeadSays limits []) (sym (head_nothing limits)) tt
head_says limits (kind ∷ bytes) =
    let says = HeadSays limits (kind ∷ bytes) in
    let told = told_length bytes in
    elim (cases_Bool (is_kind kind)) [
      | inl good ↦ elim (cases_lt (length bytes) 4) [
        | inl short ↦ subst says (sym (head_short limits kind bytes good short)) tt
        | inr long ↦ elim (cases_lt (most_body limits kind) told) [
          | inl over ↦ subst says (sym (head_over limits kind bytes good long over)) (record { kind = kind; behind = bytes; parts = refl; good = good; long = long; over = over; told = refl })
          | inr within ↦ elim (cases_lt (length bytes) (4 + told)) [
            | inl waits ↦ subst says (sym (head_waits limits kind bytes good long within waits)) tt
            | inr there ↦ subst says (sym (head_there limits kind bytes good long within there)) (record { behind = bytes; parts = refl; good = good; long = long; within = within; there = there; body_is = refl; rest_is = refl })
          ]
        ]
      ]
      | inr bad ↦ subst says (sym (head_none limits kind bytes bad)) (bytes, refl, bad)
    ]

-- ---- more bytes behind

abbrev pub Grows : Head → List ℕ → Head → Type 0
Grows Incomplete more head = Unit {0}
Grows (NoKind kind) more head = head ≡ NoKind kind
Grows (OverLimit n) more head = head ≡ OverLimit n
Grows (Complete kind body rest) more head = head ≡ Complete kind body (rest ++ more)

told_same : (bytes more : List ℕ) → 4 ≤ length bytes → told_length (bytes ++ more) ≡ told_length bytes
told_same bytes more long = ap (from_le_bytes w32) (take-append-le 4 bytes more long)

grows_from : (limits : LimitNumbers) (bytes more : List ℕ) (h : Head) → HeadSays limits bytes h → Grows h more (head_of limits (bytes ++ more))
grows_from limits bytes more Incomplete s = tt
grows_from limits bytes more (NoKind kind) s =
    ap (λ bs. head_of limits (bs ++ more)) s.1 ∙ head_none limits kind (s.0 ++ more) s.2
grows_from limits bytes more (OverLimit n) s =
    let same = told_same s.behind more s.long in
    let size = length-append s.behind more in
    ap (λ bs. head_of limits (bs ++ more)) s.parts
    ∙ head_over limits s.kind (s.behind ++ more) s.good (omega (arith, size, s.long)) (subst (λ t. most_body limits s.kind < t) (sym same) s.over)
    ∙ ap OverLimit (same ∙ sym s.told)
grows_from limits bytes more (Complete kind body rest) s =
    let same = told_same s.behind more s.long in
    let size = length-append s.behind more in
    let told = told_length s.behind in
    let four : drop 4 (s.behind ++ more) ≡ drop 4 s.behind ++ more = drop-append-le 4 s.behind more s.long in
    let body_same : take (told_length (s.behind ++ more)) (drop 4 (s.behind ++ more)) ≡ body =
    ap (λ t. take t (drop 4 (s.behind ++ more))) same ∙ ap (take told) four ∙ take-append-le told (drop 4 s.behind) more (omega (arith, length-drop 4 s.behind, s.there)) ∙ sym s.body_is in
    let rest_same : drop (4 + told_length (s.behind ++ more)) (s.behind ++ more) ≡ rest ++ more =
    ap (λ t. drop (4 + t) (s.behind ++ more)) same ∙ drop-append-le (4 + told) s.behind more s.there ∙ ap (λ r. r ++ more) (sym s.rest_is) in
    ap (λ bs. head_of limits (bs ++ more)) s.parts
    ∙ head_there limits kind (s.behind ++ more) s.good (omega (arith, size, s.long)) (subst (λ t. t ≤ most_body limits kind) (sym same) s.within) (subst (λ t. 4 + t ≤ length (s.behind ++ more)) (sym same) (omega (arith, size, s.there)))
    ∙ ap (λ b. Complete kind b (drop (4 + told_length (s.behind ++ more)) (s.behind ++ more))) body_same ∙ ap (λ r. Complete kind body r) rest_same

pub grows : (limits : LimitNumbers) (bytes more : List ℕ) → Grows (head_of limits bytes) more (head_of limits (bytes ++ more))
grows limits bytes more = grows_from limits bytes more (head_of limits bytes) (head_says limits bytes)

-- ---- a spelling, and more bytes behind

kinds_are : (f : Frame) → is_kind (kind_of f) ≡ true
kinds_are (Have counts) = refl
kinds_are (Events events) = refl
kinds_are Done = refl
kinds_are (Took a b c d) = refl
kinds_are (Clash x) = refl
kinds_are Bye = refl

pub head_spelled : (limits : LimitNumbers) (f : Frame) (rest : List ℕ) → length (body_of f) < 2 ^ 32 → length (body_of f) ≤ most_body limits (kind_of f) → head_of limits (frame_bytes f ++ rest) ≡ Complete (kind_of f) (body_of f) rest
unfolding frame_bytes
head_spelled limits f rest fits within =
    let body = body_of f in
    let n = length body in
    let bytes = four_bytes n ++ (body ++ rest) in
    let told : told_length bytes ≡ n = from_le_bytes-to_le_bytes_4 n fits in
    let size : length bytes ≡ 4 + length (body ++ rest) = omega arith in
    let whole : 4 + n ≤ length bytes = omega (arith, size, length-append body rest) in
    let body_is : take (told_length bytes) (drop 4 bytes) ≡ body = ap (λ t. take t (body ++ rest)) told ∙ take_at body rest n refl in
    let rest_is : drop (4 + told_length bytes) bytes ≡ rest = ap (λ t. drop (4 + t) bytes) told ∙ sym (drop-drop n 4 bytes) ∙ drop_at body rest n refl in
    head_there limits (kind_of f) bytes (kinds_are f) (omega (arith, size)) (subst (λ t. t ≤ most_body limits (kind_of f)) (sym told) within) (subst (λ t. 4 + t ≤ length bytes) (sym told) whole)
    ∙ ap (λ b. Complete (kind_of f) b (drop (4 + told_length bytes) bytes)) body_is ∙ ap (λ r. Complete (kind_of f) body r) rest_is
