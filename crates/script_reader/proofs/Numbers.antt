-- Numbers in a script: which words spell one.
use Rattle.std.proofs.Common.{◌≡◌, ◌≢◌, ℕ, ◌<◌, ◌≤◌, ◌^◌, ◌⊎◌, inl, inr, List, [], ◌∷◌, length, get_or, Result, Ok, Err, Some, None, IfSome, IfNone, MatchResult, Bor, sym, ap, subst, ◌∙◌, arith}
use Rattle.std.specs.Fmt.{decimal}
use Rattle.std.specs.Result.{result_ok}
use Rattle.std.specs.Str.{IsUtf8}
use Rattle.std.specs.Str.Parse.{AllDigits, digits_value, ParsesUnsigned}
use Rattle.std.proofs.lemmas.Bool.{cases_eq, cases_lt}
use Rattle.std.proofs.lemmas.Fmt.{decimal_nonempty, decimal_digit, first_decimal, decimal-digits_value, parse-decimal}
use Rattle.std.proofs.lemmas.Str.Parse.{IsNumeralModel, numerals_by_value, tells_digits, parse_plain}
use Rattle.ew_model.proofs.LineLaws.{Lacks}
use Rattle.ew_model.proofs.Decimals.{is_wide, decimal_lacks, decimal-IsUtf8}

numerals : IsNumeralModel (AllDigits 10) (digits_value 10)
numerals = numerals_by_value (AllDigits 10) tells_digits

first_lacks : (word : List ℕ) (b : ℕ) → Lacks word b → 0 < length word → get_or word 0 0 ≡ b → ⊥
first_lacks [] b h some e = omega arith
first_lacks (x ∷ word) b h some e = h.0 e

-- the word spells no number of 32 bits
abbrev pub SpellsNone : List ℕ → Type 0
SpellsNone word = (n : ℕ) → n < 2 ^ 32 → decimal n ≢ word

sign_spells_none : (word : List ℕ) → get_or word 0 0 ≡ 43 → SpellsNone word
sign_spells_none word sign n small e =
    let free = decimal_lacks n 43 small (λ h. omega (arith, h.0)) in
    first_lacks (decimal n) 43 free (decimal_nonempty n (is_wide n small)) (ap (λ x. get_or x 0 0) e ∙ sign)

zero_spells_none : (word : List ℕ) → get_or word 0 0 ≡ 48 → 1 < length word → SpellsNone word
zero_spells_none word zero long n small e = by (cases_eq n 0)
  where
    by : (n ≡ 0) ⊎ (n ≡ 0 → ⊥) → ⊥
    by (inl none) =
        let one : length (decimal n) ≡ 1 = ap length (decimal_digit n (omega arith)) in
        omega (arith, one, ap length e)
    by (inr some) =
        let high = first_decimal n (omega arith) (is_wide n small) in
        let first : get_or (decimal n) 0 0 ≡ get_or word 0 0 = ap (λ x. get_or x 0 0) e in
        omega arith

-- a sign in front, or a zero in front of other bytes
abbrev HasExtra : List ℕ → Type 0
HasExtra word = (get_or word 0 0 ≡ 43) ⊎ ((get_or word 0 0 ≡ 48) × (1 < length word))

pub extra_spells_none : (word : List ℕ) → HasExtra word → SpellsNone word
extra_spells_none word (inl sign) = sign_spells_none word sign
extra_spells_none word (inr zero) = zero_spells_none word zero.0 zero.1

lone_zero : (word : List ℕ) → (HasExtra word → ⊥) → 0 < length word → get_or word 0 0 ≡ 48 → length word ≡ 1
lone_zero word plain some zero = by (cases_lt 1 (length word))
  where
    by : (1 < length word) ⊎ (length word ≤ 1) → length word ≡ 1
    by (inl long) = absurd (plain (inr (zero, long)))
    by (inr short) = omega arith

module _ {E : Type 0} (word : List ℕ) where
  -- what `from_utf8` says of a word
  abbrev IsText : Result (Bor (List ℕ)) E → (E → Type 0) → Type 0
  IsText r Q = MatchResult r (λ s. (s.now ≡ word) × IsUtf8 word) (λ e. ¬ IsUtf8 word × Q e)

  -- where it fails there is no number
  pub no_text_spells_none : (r : Result (Bor (List ℕ)) E) (Q : E → Type 0) → IsText r Q → None ≡ result_ok r → SpellsNone word
  no_text_spells_none (Ok s) Q h e = cc
  no_text_spells_none (Err x) Q h e = λ n small k. h.0 (subst IsUtf8 k (decimal-IsUtf8 n small))

  -- what it gives is the word
  pub text_is_word : (r : Result (Bor (List ℕ)) E) (Q : E → Type 0) (s : Bor (List ℕ)) → IsText r Q → Some s ≡ result_ok r → s.now ≡ word
  text_is_word (Ok t) Q s h e = let same : s ≡ t = cc in ap (λ x. x.now) same ∙ h.0
  text_is_word (Err x) Q s h e = cc

  -- what `parse` reads is the number of the word
  pub parsed : (r : Result ℕ E) → ParsesUnsigned 32 10 word r → (HasExtra word → ⊥) → IfSome (result_ok r) (λ n. decimal n ≡ word)
  parsed (Ok n) h plain =
      let p = parse_plain numerals {E = E} 32 word (Ok n) h (λ e. plain (inl e)) in
      ap decimal p.1 ∙ decimal-digits_value numerals word p.0.0 p.0.1 (lone_zero word plain p.0.1) (is_wide (digits_value 10 word) p.0.2)
  parsed (Err x) h plain = tt

  failed : (x : E) (n : ℕ) → Err x ≡ Ok n → ⊥
  failed x n e = cc

  -- where it fails there is no number
  pub unparsed : (r : Result ℕ E) → ParsesUnsigned 32 10 word r → IfNone (result_ok r) (SpellsNone word)
  unparsed (Ok n) h = tt
  unparsed (Err x) h = λ n small e. failed x n (parse-decimal 32 n word (Err x) small (is_wide n small) (sym e) h)
