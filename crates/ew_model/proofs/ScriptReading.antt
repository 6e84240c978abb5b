-- Whether a line means an edit can be decided: there is one edit that it might mean.
use Rattle.std.proofs.Common.{◌≡◌, ◌≢◌, ℕ, ◌<◌, ◌≤◌, ◌^◌, true, false, ◌⊎◌, inl, inr, List, [], ◌∷◌, ◌++◌, get_or, drop, codes, refl, sym, ap, subst, ◌∙◌, arith, append-nil}
use Rattle.std.specs.Prelude.{if◌then◌else◌, ◌==◌}
use Rattle.std.specs.Char.{IsScalar, encode_utf8}
use Rattle.std.specs.Fmt.{decimal}
use Rattle.std.specs.Str.{all_scalars, bytes_eq, chars}
use Rattle.std.specs.Str.Parse.{digits_value}
use Rattle.std.proofs.lemmas.Bool.{cases_lt, cases_Bool, both_ways, and_parts, and_from, ne_eqb, cond-false}
use Rattle.std.proofs.lemmas.Slice.Eq.{bytes_eq-Decides}
use Rattle.std.proofs.lemmas.Str.{chars-nil, chars-append, chars-encodes}
use Rattle.ew_model.specs.Names.{is_name}
use Rattle.ew_model.specs.Edits.{Edit}
use Rattle.ew_model.specs.Edits.Edit.{Insert, Delete, Mark}
use Rattle.ew_model.specs.Scripts.{escaped_char, escaped_text, edit_line, IsSoundEdit, lines_of, MeansEdit, IsReadable}
use Rattle.ew_model.specs.ScriptLaws.{LinesMeanOneEdit, ScriptsAreUnique, FirstBadLinesAreUnique, ScriptsHaveNoBadLine, BytesAreJudged}
use Rattle.ew_model.proofs.Decimals.{decimal_lacks, digits_value_is}
use Rattle.ew_model.proofs.EscapedText.{Written, written, escaped_char-IsUtf8}
use Rattle.ew_model.proofs.EscapedText.Written.{Newline, Backslash, Plain}
use Rattle.ew_model.proofs.LineLaws.{Lacks, lines_mean_once, first_unreadable_once, all_readable, judged}

-- the characters that escaped characters stand for
abbrev unescaped : List ℕ → List ℕ
unescaped [] = []
unescaped (c ∷ []) = c ∷ []
unescaped (c ∷ d ∷ cs) = if c == 92 then (if d == 110 then 10 else d) ∷ unescaped cs else c ∷ unescaped (d ∷ cs)

unescaped-plain : (c : ℕ) (cs : List ℕ) → c ≢ 92 → unescaped (c ∷ cs) ≡ c ∷ unescaped cs
unescaped-plain c [] n = refl
unescaped-plain c (d ∷ cs) n = cond-false _ _ _ (ne_eqb c 92 n)

newline_chars : chars (92 ∷ 110 ∷ []) ≡ 92 ∷ 110 ∷ []
unfolding chars
newline_chars = refl

backslash_chars : chars (92 ∷ 92 ∷ []) ≡ 92 ∷ 92 ∷ []
unfolding chars
backslash_chars = refl

plain_chars : (c : ℕ) → IsScalar c → chars (encode_utf8 c) ≡ c ∷ []
plain_chars c h = ap chars (sym (append-nil (encode_utf8 c))) ∙ chars-encodes (c ∷ []) (and_from _ _ h refl)

-- a written character is read first
unescaped-first : (c : ℕ) (rest : List ℕ) → IsScalar c → unescaped (chars (escaped_char c) ++ rest) ≡ c ∷ unescaped rest
unescaped-first c rest scalar = by (written c)
  where
    first : (xs ys : List ℕ) → escaped_char c ≡ xs → chars xs ≡ ys → unescaped (chars (escaped_char c) ++ rest) ≡ unescaped (ys ++ rest)
    first xs ys p q = ap (λ x. unescaped (x ++ rest)) (ap chars p ∙ q)

    by : Written c → unescaped (chars (escaped_char c) ++ rest) ≡ c ∷ unescaped rest
    by (Newline i w) = first _ _ w newline_chars ∙ (λ k. sym i k ∷ unescaped rest)
    by (Backslash i w) = first _ _ w backslash_chars ∙ (λ k. sym i k ∷ unescaped rest)
    by (Plain n m w) = first _ _ w (plain_chars c scalar) ∙ unescaped-plain c rest m

-- an escaped text stands for its text
unescaped-escaped : (text : List ℕ) → all_scalars text ≡ true → unescaped (chars (escaped_text text)) ≡ text
unescaped-escaped [] h = ap unescaped chars-nil
unescaped-escaped (c ∷ text) h =
    let parts = and_parts _ _ h in
    ap unescaped (chars-append (escaped_char c) (escaped_text text) (escaped_char-IsUtf8 c parts.0))
    ∙ unescaped-first c (chars (escaped_text text)) parts.0 ∙ ap (λ x. c ∷ x) (unescaped-escaped text parts.1)

-- what stands before the first space
abbrev before_space : List ℕ → List ℕ
before_space [] = []
before_space (b ∷ bytes) = if b == 32 then [] else b ∷ before_space bytes

-- what stands behind the first space
abbrev behind_space : List ℕ → List ℕ
behind_space [] = []
behind_space (b ∷ bytes) = if b == 32 then bytes else behind_space bytes

before_space-word : (word rest : List ℕ) → Lacks word 32 → before_space (word ++ 32 ∷ rest) ≡ word
before_space-word [] rest h = refl
before_space-word (b ∷ word) rest h = cond-false _ _ _ (ne_eqb b 32 h.0) ∙ ap (λ x. b ∷ x) (before_space-word word rest h.1)

behind_space-word : (word rest : List ℕ) → Lacks word 32 → behind_space (word ++ 32 ∷ rest) ≡ rest
behind_space-word [] rest h = refl
behind_space-word (b ∷ word) rest h = cond-false _ _ _ (ne_eqb b 32 h.0) ∙ behind_space-word word rest h.1

-- a number has no space
pub decimal_lacks_space : (n : ℕ) → n < 2 ^ 32 → Lacks (decimal n) 32
decimal_lacks_space n small = decimal_lacks n 32 small (λ h. omega (arith, h.0))

-- the line of an insertion, as its four parts
pub insert_line : (at : ℕ) (text : List ℕ) → edit_line (Insert at text) ≡ codes "ins " ++ (decimal at ++ 32 ∷ escaped_text text)
insert_line at text = ap (λ x. codes "ins " ++ (decimal at ++ 32 ∷ x)) (append-nil (escaped_text text))

-- the line of a deletion, as its four parts
pub delete_line : (at count : ℕ) → edit_line (Delete at count) ≡ codes "del " ++ (decimal at ++ 32 ∷ decimal count)
delete_line at count = ap (λ x. codes "del " ++ (decimal at ++ 32 ∷ x)) (append-nil (decimal count))

-- the line of a mark, as its two parts
pub mark_line : (label : List ℕ) → edit_line (Mark label) ≡ codes "mark " ++ label
mark_line label = ap (λ x. codes "mark " ++ x) (append-nil label)

-- the edit that a line might mean
abbrev pub edit_of : List ℕ → Edit
edit_of line =
    let words = drop 4 line in
    if get_or line 0 0 == 105 then Insert (digits_value 10 (before_space words)) (unescaped (chars (behind_space words)))
    else if get_or line 0 0 == 109 then Mark (drop 5 line)
    else Delete (digits_value 10 (before_space words)) (digits_value 10 (behind_space words))

-- each edit is read from its line
edit_of-line : (e : Edit) → IsSoundEdit e → edit_of (edit_line e) ≡ e
edit_of-line (Insert at text) h =
    let free = decimal_lacks_space at h.0 in
    let number = ap (digits_value 10) (before_space-word (decimal at) (escaped_text text) free) ∙ digits_value_is at h.0 in
    let rest = ap (λ x. unescaped (chars x)) (behind_space-word (decimal at) (escaped_text text) free) ∙ unescaped-escaped text h.1 in
    ap edit_of (insert_line at text) ∙ (λ i. Insert (number i) (rest i))
edit_of-line (Delete at count) h =
    let free = decimal_lacks_space at h.0 in
    let number = ap (digits_value 10) (before_space-word (decimal at) (decimal count) free) ∙ digits_value_is at h.0 in
    let rest = ap (digits_value 10) (behind_space-word (decimal at) (decimal count) free) ∙ digits_value_is count h.1 in
    ap edit_of (delete_line at count) ∙ (λ i. Delete (number i) (rest i))
edit_of-line (Mark label) h = ap edit_of (mark_line label)

edit_of-meant : (line : List ℕ) (e : Edit) → MeansEdit line e → edit_of line ≡ e
edit_of-meant line e m = ap edit_of (sym m.spelled) ∙ edit_of-line e m.sound

pub lines_mean_one_edit : LinesMeanOneEdit
lines_mean_one_edit line x y m k = sym (edit_of-meant line x m) ∙ edit_of-meant line y k

sound_decided : (e : Edit) → IsSoundEdit e ⊎ ¬ IsSoundEdit e
sound_decided (Insert at text) = by (cases_lt at (2 ^ 32)) (cases_Bool (all_scalars text))
  where
    by : (at < 2 ^ 32) ⊎ (2 ^ 32 ≤ at) → (all_scalars text ≡ true) ⊎ (all_scalars text ≡ false) → IsSoundEdit (Insert at text) ⊎ ¬ IsSoundEdit (Insert at text)
    by (inl small) (inl scalars) = inl (small, scalars)
    by (inl small) (inr other) = inr (λ h. both_ways _ other h.1)
    by (inr large) s = inr (λ h. omega (arith, h.0, large))
sound_decided (Delete at count) = by (cases_lt at (2 ^ 32)) (cases_lt count (2 ^ 32))
  where
    by : (at < 2 ^ 32) ⊎ (2 ^ 32 ≤ at) → (count < 2 ^ 32) ⊎ (2 ^ 32 ≤ count) → IsSoundEdit (Delete at count) ⊎ ¬ IsSoundEdit (Delete at count)
    by (inl small) (inl few) = inl (small, few)
    by (inl small) (inr many) = inr (λ h. omega (arith, h.1, many))
    by (inr large) s = inr (λ h. omega (arith, h.0, large))
sound_decided (Mark label) = by (cases_Bool (is_name label))
  where
    by : (is_name label ≡ true) ⊎ (is_name label ≡ false) → IsSoundEdit (Mark label) ⊎ ¬ IsSoundEdit (Mark label)
    by (inl name) = inl name
    by (inr other) = inr (λ h. both_ways _ other h)

-- a line that isn't the line of the edit that it might mean
pub means_no_edit : (line : List ℕ) → bytes_eq (edit_line (edit_of line)) line ≡ false → (e : Edit) → ¬ MeansEdit line e
means_no_edit line other e m =
    both_ways _ other ((bytes_eq-Decides (edit_line (edit_of line)) line).1 (ap edit_line (edit_of-meant line e m) ∙ m.spelled))

-- a line whose edit has a number that is too large, or what is no character
pub means_no_sound_edit : (line : List ℕ) → ¬ IsSoundEdit (edit_of line) → (e : Edit) → ¬ MeansEdit line e
means_no_sound_edit line unsound e m = unsound (subst IsSoundEdit (sym (edit_of-meant line e m)) m.sound)

-- whether a line means an edit
meaning_decided : (line : List ℕ) → ((e : Edit) × MeansEdit line e) ⊎ ((e : Edit) → ¬ MeansEdit line e)
meaning_decided line = by (sound_decided (edit_of line)) (cases_Bool (bytes_eq (edit_line (edit_of line)) line))
  where
    by : IsSoundEdit (edit_of line) ⊎ ¬ IsSoundEdit (edit_of line) → (bytes_eq (edit_line (edit_of line)) line ≡ true) ⊎ (bytes_eq (edit_line (edit_of line)) line ≡ false)
        → ((e : Edit) × MeansEdit line e) ⊎ ((e : Edit) → ¬ MeansEdit line e)
    by (inl sound) (inl same) = inl (edit_of line, record { sound = sound; spelled = (bytes_eq-Decides (edit_line (edit_of line)) line).0 same })
    by (inl sound) (inr other) = inr (means_no_edit line other)
    by (inr unsound) t = inr (means_no_sound_edit line unsound)

pub readable_decided : (line : List ℕ) → IsReadable MeansEdit line ⊎ ¬ IsReadable MeansEdit line
readable_decided [] = inl (inl refl)
readable_decided (b ∷ line) = by (meaning_decided (b ∷ line))
  where
    neither : ((e : Edit) → ¬ MeansEdit (b ∷ line) e) → IsReadable MeansEdit (b ∷ line) → ⊥
    neither none (inl empty) = cc
    neither none (inr m) = none m.0 m.1

    by : ((e : Edit) × MeansEdit (b ∷ line) e) ⊎ ((e : Edit) → ¬ MeansEdit (b ∷ line) e) → IsReadable MeansEdit (b ∷ line) ⊎ ¬ IsReadable MeansEdit (b ∷ line)
    by (inl m) = inl (inr m)
    by (inr none) = inr (neither none)

pub scripts_are_unique : ScriptsAreUnique
scripts_are_unique bytes = lines_mean_once MeansEdit lines_mean_one_edit 1 (lines_of bytes)

pub first_bad_lines_are_unique : FirstBadLinesAreUnique
first_bad_lines_are_unique bytes = first_unreadable_once MeansEdit 1 (lines_of bytes)

pub scripts_have_no_bad_line : ScriptsHaveNoBadLine
scripts_have_no_bad_line bytes = all_readable MeansEdit 1 (lines_of bytes)

pub bytes_are_judged : BytesAreJudged
bytes_are_judged bytes = judged MeansEdit readable_decided 1 (lines_of bytes)
