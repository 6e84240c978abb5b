-- Escaped text that is read from the front.
use Rattle.std.proofs.Common.{◌≡◌, ◌≢◌, ℕ, ◌⊎◌, inl, inr, List, [], ◌∷◌, ◌++◌, length, sym, ap, ◌∙◌, append-nil, append_assoc, arith}
use Rattle.std.specs.Char.{encode_utf8}
use Rattle.std.proofs.lemmas.List.Concat.{flat_map-append}
use Rattle.std.proofs.lemmas.Str.{encode_ascii, char_from_byte}
use Rattle.ew_model.specs.Scripts.{escaped_char, escaped_text}
use Rattle.ew_model.proofs.EscapedText.{escaped_rest, no_bare_newline, after_backslash}

ascii : (c b : ℕ) (rest : List ℕ) → c ≡ b → encode_utf8 b ≡ b ∷ [] → encode_utf8 c ++ rest ≡ b ∷ rest
ascii c b rest e one = ap (λ x. x ++ rest) (ap encode_utf8 e ∙ one)

newline : (c : ℕ) (rest : List ℕ) → c ≡ 10 → encode_utf8 c ++ rest ≡ 10 ∷ rest
newline c rest e = ascii c 10 rest e (encode_ascii 10 (omega arith))

backslash : (c : ℕ) (rest : List ℕ) → c ≡ 92 → encode_utf8 c ++ rest ≡ 92 ∷ rest
backslash c rest e = ascii c 92 rest e (encode_ascii 92 (omega arith))

-- a newline stands for nothing
pub newline_stands_for_none : (first : ℕ) (rest text : List ℕ) → first ≡ 10 → escaped_text text ≢ encode_utf8 first ++ rest
newline_stands_for_none first rest text e k = no_bare_newline text rest (k ∙ newline first rest e)

-- a backslash at the end stands for nothing
pub last_backslash_stands_for_none : (first : ℕ) (rest text : List ℕ) → first ≡ 92 → length rest ≡ 0 → escaped_text text ≢ encode_utf8 first ++ rest
last_backslash_stands_for_none first rest text e none k = by after.1
  where
    after : (more : List ℕ) × ((rest ≡ 110 ∷ more) ⊎ (rest ≡ 92 ∷ more))
    after = after_backslash text rest (k ∙ backslash first rest e)

    by : (rest ≡ 110 ∷ after.0) ⊎ (rest ≡ 92 ∷ after.0) → ⊥
    by (inl f) = omega (arith, ap length f)
    by (inr f) = omega (arith, ap length f)

-- a backslash before another character stands for nothing
pub other_escape_stands_for_none : (first second : ℕ) (rest behind text : List ℕ) → first ≡ 92 → rest ≡ encode_utf8 second ++ behind → second ≢ 110 → second ≢ 92
    → escaped_text text ≢ encode_utf8 first ++ rest
other_escape_stands_for_none first second rest behind text e parts no_n no_backslash k = by after.1
  where
    after : (more : List ℕ) × ((rest ≡ 110 ∷ more) ⊎ (rest ≡ 92 ∷ more))
    after = after_backslash text rest (k ∙ backslash first rest e)

    by : (rest ≡ 110 ∷ after.0) ⊎ (rest ≡ 92 ∷ after.0) → ⊥
    by (inl f) = no_n (char_from_byte (110 ∷ after.0) behind second (sym f ∙ parts) (omega arith) (omega arith))
    by (inr f) = no_backslash (char_from_byte (92 ∷ after.0) behind second (sym f ∙ parts) (omega arith) (omega arith))

-- what was read and what is left make the whole
module _ (text left whole : List ℕ) (so_far : escaped_text text ++ left ≡ whole) where
  -- where what is left stands for nothing, the whole does
  pub whole_stands_for_none : ((more : List ℕ) → escaped_text more ≢ left) → (all : List ℕ) → escaped_text all ≢ whole
  whole_stands_for_none none all e = let rest = escaped_rest text all left (e ∙ sym so_far) in none rest.0 rest.2

  -- one more character is read
  pub whole-push : (ch : ℕ) (rest new : List ℕ) → escaped_char ch ++ rest ≡ left → new ≡ text ++ ch ∷ [] → escaped_text new ++ rest ≡ whole
  whole-push ch rest new parts grown =
      let written : escaped_text new ≡ escaped_text text ++ escaped_char ch =
      ap escaped_text grown ∙ flat_map-append escaped_char text (ch ∷ []) ∙ ap (λ x. escaped_text text ++ x) (append-nil (escaped_char ch)) in
      ap (λ x. x ++ rest) written ∙ append_assoc (escaped_text text) (escaped_char ch) rest ∙ ap (λ x. escaped_text text ++ x) parts ∙ so_far
