-- Characters of four bytes each.
use Rattle.std.proofs.Common.{◌≡◌, ℕ, zero, suc, ◌+◌, ◌-◌, ◌*◌, ◌<◌, ◌≤◌, Bool, true, false, cond, List, [], ◌∷◌, ◌++◌, length, take, drop, Ok, Err, refl, sym, ap, ◌∙◌, arith, ltb-false, append_assoc}
use Rattle.std.specs.Prelude.{nat_lt}
use Rattle.std.specs.Int.{w32, from_le_bytes}
use Rattle.std.proofs.lemmas.List.{length-append, length-take, take-append-drop}
use Rattle.std.proofs.Math.Seq.{take-append_seam}
use Rattle.file_words.specs.FileFaults as model
use Rattle.file_words.specs.FileFaults.{Reader, done, go_on, field, only, front, number, is_scalar}
use Rattle.file_words.specs.FileFaults.RecordFault.{Cut, Scalar}
use Rattle.file_words.specs.FileRuns.{read_text}
use Rattle.file_words.proofs.FileFields.{go_ok, tested_ok}
use Rattle.event_file.specs.declared.fault.Stop.{Stop}
use Rattle.event_file.specs.Reading.{Stops}
use Rattle.event_file.specs.Runs.{numbers_in}
use Rattle.event_file.proofs.Loops.{goes_on, ends, is_done}

pub numbers_count : (text : List ℕ) → (length (numbers_in text) * 4 ≤ length text) × (length text < length (numbers_in text) * 4 + 4)
numbers_count [] = (omega arith, omega arith)
numbers_count (a ∷ []) = (omega arith, omega arith)
numbers_count (a ∷ b ∷ []) = (omega arith, omega arith)
numbers_count (a ∷ b ∷ c ∷ []) = (omega arith, omega arith)
numbers_count (a ∷ b ∷ c ∷ d ∷ left) = let ih = numbers_count left in (omega (arith, ih), omega (arith, ih))

-- behind whole numbers stands one more
numbers_more : (text digits : List ℕ) (n : ℕ) → length text ≡ 4 * n → length digits ≡ 4 → numbers_in (text ++ digits) ≡ numbers_in text ++ from_le_bytes w32 digits ∷ []
numbers_more [] [] n whole four = absurd (omega (arith, four))
numbers_more [] (a ∷ []) n whole four = absurd (omega (arith, four))
numbers_more [] (a ∷ b ∷ []) n whole four = absurd (omega (arith, four))
numbers_more [] (a ∷ b ∷ c ∷ []) n whole four = absurd (omega (arith, four))
numbers_more [] (a ∷ b ∷ c ∷ d ∷ []) n whole four = refl
numbers_more [] (a ∷ b ∷ c ∷ d ∷ e ∷ left) n whole four = absurd (omega (arith, four))
numbers_more (a ∷ []) digits n whole four = absurd (omega (arith, whole))
numbers_more (a ∷ b ∷ []) digits n whole four = absurd (omega (arith, whole))
numbers_more (a ∷ b ∷ c ∷ []) digits n whole four = absurd (omega (arith, whole))
numbers_more (a ∷ b ∷ c ∷ d ∷ text) digits zero whole four = absurd (omega (arith, whole))
numbers_more (a ∷ b ∷ c ∷ d ∷ text) digits (suc n) whole four = ap (λ xs. from_le_bytes w32 (a ∷ b ∷ c ∷ d ∷ []) ∷ xs) (numbers_more text digits n (omega (arith, whole)) four)

front_parts : (b : Bool) (why : model.Stop) (x y : List ℕ × List ℕ) → cond b (Err why) (Ok x) ≡ Ok y → (b ≡ false) × (x ≡ y)
front_parts true why x y e = absurd cc
front_parts false why x y e = (refl, cc)

-- a number that is read is that of four bytes, which stand in front of what is left
number_parts : (bytes : List ℕ) (y : ℕ × List ℕ) → number bytes ≡ Ok y → (digits : List ℕ) × (bytes ≡ digits ++ y.1) × (length digits ≡ 4) × (y.0 ≡ from_le_bytes w32 digits)
number_parts bytes y e =
    let g = go_ok (front 4 bytes) (λ digits. done (from_le_bytes w32 digits)) y e in
    let f = front_parts (nat_lt (length bytes) 4) (model.BadField (length bytes) Cut) (take 4 bytes, drop 4 bytes) g.0 g.1 in
    let long : 4 ≤ length bytes = ltb-false (length bytes) 4 f.0 in
    let same : (from_le_bytes w32 g.0.0, g.0.1) ≡ y = cc in
    let size = length-take 4 bytes in
    let parts : bytes ≡ take 4 bytes ++ drop 4 bytes = sym (take-append-drop 4 bytes) in
    let left : drop 4 bytes ≡ y.1 = ap (λ (p : List ℕ × List ℕ). p.1) f.1 ∙ ap (λ (p : ℕ × List ℕ). p.1) same in
    let digits : take 4 bytes ≡ g.0.0 = ap (λ (p : List ℕ × List ℕ). p.0) f.1 in
    (take 4 bytes, parts ∙ ap (λ t. take 4 bytes ++ t) left, omega (arith, size, long), sym (ap (λ (p : ℕ × List ℕ). p.0) same) ∙ ap (from_le_bytes w32) (sym digits))

abbrev character : Reader ℕ
character = field number (only is_scalar) Scalar

text_step : (text : List ℕ) (n : ℕ) (bytes : List ℕ) → read_text text (suc n) bytes ≡ go_on (character bytes) (λ x. read_text (text ++ x ∷ []) n)
unfolding read_text
text_step text n bytes = refl

text_last : (text bytes : List ℕ) → read_text text zero bytes ≡ Ok (text, bytes)
unfolding read_text
text_last text bytes = refl

-- so many bytes were read as characters, and reading goes on behind them
abbrev pub IsTextSoFar : List ℕ → ℕ → ℕ → List ℕ → List ℕ → Type 0
IsTextSoFar bytes count i left start = (text : List ℕ) × (bytes ≡ text ++ left) × (length text ≡ 4 * i) × (read_text (numbers_in text) (count - i) left ≡ read_text [] count start)

pub text_begins : (bytes : List ℕ) (count : ℕ) → IsTextSoFar bytes count 0 bytes bytes
text_begins bytes count = let all : count - 0 ≡ count = omega arith in ([], refl, refl, ap (λ n. read_text [] n bytes) all)

pub text_goes_on : (bytes : List ℕ) (count i : ℕ) (left start : List ℕ) (ch : ℕ) (later : List ℕ) → i < count → IsTextSoFar bytes count i left start → character left ≡ Ok (ch, later) → IsTextSoFar bytes count (i + 1) later start
text_goes_on bytes count i left start ch later lt s one =
    let text = s.0 in
    let parts = s.1 in
    let whole = s.2 in
    let so_far = s.3 in
    let t = tested_ok number is_scalar Scalar left (ch, later) one in
    let n = number_parts left (ch, later) t.0 in
    let digits = n.0 in
    let size = length-append text digits in
    let four = n.2 in
    let step = goes_on read_text (λ _. character) text_step text_last (numbers_in text) count i left later ch (read_text [] count start) lt one so_far in
    let more : numbers_in (text ++ digits) ≡ numbers_in text ++ ch ∷ [] = numbers_more text digits i whole four ∙ ap (λ x. numbers_in text ++ x ∷ []) (sym n.3) in
    (text ++ digits, parts ∙ ap (λ t. text ++ t) n.1 ∙ sym (append_assoc text digits later), omega (arith, size, four, whole), ap (λ xs. read_text xs (count - (i + 1)) later) more ∙ step)

pub text_ends : (stop : Stop) (bytes : List ℕ) (count i : ℕ) (left start : List ℕ) → i < count → IsTextSoFar bytes count i left start → Stops stop (character left) → Stops stop (read_text [] count start)
text_ends stop bytes count i left start lt s one = ends read_text (λ _. character) text_step text_last stop (numbers_in s.0) count i left (read_text [] count start) lt one s.3

pub text_done : (bytes : List ℕ) (count i : ℕ) (left start : List ℕ) → count ≤ i → IsTextSoFar bytes count i left start → read_text [] count start ≡ Ok (numbers_in (take (length bytes - length left) bytes), left)
text_done bytes count i left start le s =
    let text = s.0 in
    let parts = s.1 in
    let so_far = s.3 in
    let size = ap (length {A = ℕ}) parts ∙ length-append text left in
    let place : length bytes - length left ≡ length text = omega (arith, size) in
    let taken : take (length bytes - length left) bytes ≡ text = ap (λ n. take n bytes) place ∙ ap (take (length text)) parts ∙ take-append_seam text left in
    is_done read_text (λ _. character) text_step text_last (numbers_in text) count i left (read_text [] count start) le so_far ∙ ap (λ xs. Ok (numbers_in xs, left)) (sym taken)
