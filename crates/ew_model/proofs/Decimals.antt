-- Numbers as decimal digits.
use Rattle.std.proofs.Common.{◌≡◌, ℕ, ◌<◌, ◌^◌, List, [], ◌∷◌, subst, lt_trans, lit<}
use Rattle.std.specs.Fmt.{decimal}
use Rattle.std.specs.Int.{IsInRange}
use Rattle.std.specs.Str.{IsUtf8}
use Rattle.std.specs.Str.Parse.{AllDigits, digits_value}
use Rattle.std.proofs.lemmas.Fmt.{decimal_is_IsNumeral, decimal_injective, IsAscii-decimal}
use Rattle.std.proofs.lemmas.Str.{IsUtf8-from_ascii}
use Rattle.std.proofs.lemmas.Str.Parse.{digit_from_value}
use Rattle.ew_model.proofs.LineLaws.{Lacks}

-- a number of 32 bits is one of 64 bits
pub is_wide : (n : ℕ) → n < 2 ^ 32 → n < 2 ^ 64
is_wide n h = lt_trans h (lit< tt)

digits_lack : (bytes : List ℕ) (b : ℕ) → ¬ IsInRange 48 57 b → AllDigits 10 bytes → Lacks bytes b
digits_lack [] b other h = tt
digits_lack (d ∷ bytes) b other h =
    (λ e. other (subst (IsInRange 48 57) e (digit_from_value d h.0)), digits_lack bytes b other h.1)

-- only digits stand in a number
pub decimal_lacks : (n b : ℕ) → n < 2 ^ 32 → ¬ IsInRange 48 57 b → Lacks (decimal n) b
decimal_lacks n b small other = digits_lack (decimal n) b other (decimal_is_IsNumeral n (is_wide n small)).0.1

-- a number is read from its digits
pub digits_value_is : (n : ℕ) → n < 2 ^ 32 → digits_value 10 (decimal n) ≡ n
digits_value_is n small = (decimal_is_IsNumeral n (is_wide n small)).1

-- the digits of a number are of no other
pub decimal_once : (m n : ℕ) → m < 2 ^ 32 → n < 2 ^ 32 → decimal m ≡ decimal n → m ≡ n
decimal_once m n h k e = decimal_injective m n (is_wide m h) (is_wide n k) e

-- a number is UTF-8
pub decimal-IsUtf8 : (n : ℕ) → n < 2 ^ 32 → IsUtf8 (decimal n)
decimal-IsUtf8 n small = IsUtf8-from_ascii (decimal n) (IsAscii-decimal n (is_wide n small))
