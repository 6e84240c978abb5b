-- Text in UTF-8 is escaped byte by byte.
use Rattle.std.proofs.Common.{◌≡◌, ℕ, ◌+◌, ◌/◌, ◌%◌, ◌<◌, ◌≤◌, ◌⊎◌, inl, inr, List, [], ◌∷◌, ◌++◌, refl, sym, ap, ◌∙◌, append-nil, arith, codes}
use Rattle.std.specs.Prelude.{if◌then◌else◌, ◌==◌}
use Rattle.std.specs.Char.{encode_utf8}
use Rattle.std.specs.List.{flat_map}
use Rattle.std.specs.Str.{encode_utf8_all}
use Rattle.std.proofs.lemmas.Bool.{cases_lt, cond-true, cond-false, ne_eqb, lt-ltb, le-ltb}
use Rattle.std.proofs.lemmas.List.Concat.{flat_map-append}
use Rattle.std.proofs.lemmas.Str.{encode_ascii}
use Rattle.ew_model.specs.Scripts.{escaped_char, escaped_text}
use Rattle.net_core.specs.Bytes.{escaped_byte}

-- a high byte stands for itself
high : (b : ℕ) → 92 < b → escaped_byte b ≡ b ∷ []
high b large = cond-false _ _ _ (ne_eqb b 10 (λ e. omega arith)) ∙ cond-false _ _ _ (ne_eqb b 92 (λ e. omega arith))

-- so do several
abbrev pub escaped_bytes : List ℕ → List ℕ
escaped_bytes bytes = flat_map escaped_byte bytes

high_two : (a b : ℕ) → 92 < a → 92 < b → escaped_bytes (a ∷ b ∷ []) ≡ a ∷ b ∷ []
high_two a b p q = λ i. high a p i ++ (high b q i ++ [])

high_three : (a b c : ℕ) → 92 < a → 92 < b → 92 < c → escaped_bytes (a ∷ b ∷ c ∷ []) ≡ a ∷ b ∷ c ∷ []
high_three a b c p q r = λ i. high a p i ++ (high b q i ++ (high c r i ++ []))

high_four : (a b c d : ℕ) → 92 < a → 92 < b → 92 < c → 92 < d → escaped_bytes (a ∷ b ∷ c ∷ d ∷ []) ≡ a ∷ b ∷ c ∷ d ∷ []
high_four a b c d p q r s = λ i. high a p i ++ (high b q i ++ (high c r i ++ (high d s i ++ [])))

plain : (c : ℕ) → 127 < c → escaped_char c ≡ encode_utf8 c
plain c large = cond-false _ _ _ (ne_eqb c 10 (λ e. omega arith)) ∙ cond-false _ _ _ (ne_eqb c 92 (λ e. omega arith))

two : (c : ℕ) → 128 ≤ c → c < 2048 → encode_utf8 c ≡ (192 + c / 64) ∷ (128 + c % 64) ∷ []
unfolding encode_utf8
two c p q = cond-false _ _ _ (le-ltb c 128 p) ∙ cond-true _ _ _ (lt-ltb c 2048 q)

three : (c : ℕ) → 2048 ≤ c → c < 65536 → encode_utf8 c ≡ (224 + c / 4096) ∷ (128 + (c / 64) % 64) ∷ (128 + c % 64) ∷ []
unfolding encode_utf8
three c p q = cond-false _ _ _ (le-ltb c 128 (omega arith)) ∙ cond-false _ _ _ (le-ltb c 2048 p) ∙ cond-true _ _ _ (lt-ltb c 65536 q)

four : (c : ℕ) → 65536 ≤ c → encode_utf8 c ≡ (240 + c / 262144) ∷ (128 + (c / 4096) % 64) ∷ (128 + (c / 64) % 64) ∷ (128 + c % 64) ∷ []
unfolding encode_utf8
four c p = cond-false _ _ _ (le-ltb c 128 (omega arith)) ∙ cond-false _ _ _ (le-ltb c 2048 (omega arith)) ∙ cond-false _ _ _ (le-ltb c 65536 p)

-- the bytes of a character that isn't ASCII are high
wide : (c : ℕ) → 128 ≤ c → escaped_bytes (encode_utf8 c) ≡ encode_utf8 c
wide c large = by (cases_lt c 2048) (cases_lt c 65536)
  where
    by : (c < 2048) ⊎ (2048 ≤ c) → (c < 65536) ⊎ (65536 ≤ c) → escaped_bytes (encode_utf8 c) ≡ encode_utf8 c
    by (inl q) r = let e = two c large q in ap escaped_bytes e ∙ high_two _ _ (omega arith) (omega arith) ∙ sym e
    by (inr q) (inl r) = let e = three c q r in ap escaped_bytes e ∙ high_three _ _ _ (omega arith) (omega arith) (omega arith) ∙ sym e
    by (inr q) (inr r) = let e = four c r in ap escaped_bytes e ∙ high_four _ _ _ _ (omega arith) (omega arith) (omega arith) (omega arith) ∙ sym e

escaped_one : (c : ℕ) → escaped_bytes (encode_utf8 c) ≡ escaped_char c
escaped_one c = by (cases_lt c 128)
  where
    by : (c < 128) ⊎ (128 ≤ c) → escaped_bytes (encode_utf8 c) ≡ escaped_char c
    by (inl low) =
        let one = encode_ascii c low in
        ap escaped_bytes one ∙ append-nil (escaped_byte c) ∙ ap (λ x. if c == 10 then codes "\\n" else if c == 92 then codes "\\\\" else x) (sym one)
    by (inr large) = wide c large ∙ sym (plain c (omega arith))

pub escaped_all : (chars : List ℕ) → escaped_bytes (encode_utf8_all chars) ≡ escaped_text chars
escaped_all [] = refl
escaped_all (c ∷ chars) =
    flat_map-append escaped_byte (encode_utf8 c) (encode_utf8_all chars) ∙ (λ i. escaped_one c i ++ escaped_all chars i)
