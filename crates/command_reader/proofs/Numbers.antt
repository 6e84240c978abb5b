-- Numbers that words spell: what `parse` reads.
use Rattle.std.proofs.Common.{◌≡◌, ◌≤◌, ℕ, zero, suc, ℤ, pos, Bool, true, false, List, Some, None, Result, Ok, Err, cond, arith, refl, sym, ap, subst, ◌∙◌, FitsSigned, w64, to_z, of_z}
use Rattle.std.specs.Prelude.{◌<◌, ◌^◌, T, nat_abs, neg_ℤ}
use Rattle.std.specs.Int.Signed.{le_z, le_z_yes}
use Rattle.std.specs.Result.{result_ok}
use Rattle.std.specs.Str.Parse.{ParsesSigned, ParsesUnsigned, digits_value, signed_digits_value, starts_with_minus, without_leading_plus, without_leading_sign}
use Rattle.std.proofs.lemmas.Int.{to_z-of_z}
use Rattle.clap.specs.ValueTests.{is_signed_in, is_unsigned_in}
use Rattle.clap.specs.declared.builder.value_parser.ValueParser.TheVariants as vp
use Rattle.clap.proofs.ValueTestLemmas.{accepts-Accepts, Accepts-accepts}
use Rattle.command_table.specs.Cli.{most_seed}
use Rattle.command_table.specs.Table.{number_between, seed_in}

not_true : (b : Bool) → (b ≡ true → ⊥) → b ≡ false
not_true true h = absurd (h refl)
not_true false h = refl

pub seed_parsed : {E : Type 0} (text : List ℕ) (r : Result ℕ E) → ParsesUnsigned 64 10 text r → result_ok r ≡ seed_in text
seed_parsed text (Ok n) parses =
    let small = parses.0.1 in
    let test : is_unsigned_in 0 most_seed text ≡ true = Accepts-accepts false (vp.Unsigned 0 most_seed) text (parses.0.0, parses.0.1, omega arith, omega (arith, small)) in
    ap Some parses.1 ∙ sym (ap (λ b. cond b (Some (digits_value 10 (without_leading_plus text))) None) test)
seed_parsed text (Err e) parses =
    sym (ap (λ b. cond b (Some (digits_value 10 (without_leading_plus text))) None)
    (not_true (is_unsigned_in 0 most_seed text) (λ test. parses (let a = accepts-Accepts false (vp.Unsigned 0 most_seed) text test in (a.0, a.1)))))

-- a number without its sign is its digits'
by_digits : (b : Bool) (d : ℕ) → nat_abs (cond b (neg_ℤ (pos d)) (pos d)) ≡ d
by_digits false d = refl
by_digits true zero = refl
by_digits true (suc d) = refl

without_sign : (text : List ℕ) → nat_abs (signed_digits_value 10 text) ≡ digits_value 10 (without_leading_sign text)
without_sign text = by_digits (starts_with_minus text) (digits_value 10 (without_leading_sign text))

-- what is read within the bounds is the number
pub number_taken : {E : Type 0} (least most : ℕ) (z low high : ℤ) (text : List ℕ) (r : Result ℤ E) → ParsesSigned w64 10 text r → Some z ≡ result_ok r → least < 2 ^ 32 → most < 2 ^ 32 → low ≡ pos least → high ≡ pos most
    → le_z (to_z w64 (of_z w64 low)) (to_z w64 (of_z w64 z)) ≡ true → le_z (to_z w64 (of_z w64 z)) (to_z w64 (of_z w64 high)) ≡ true
    → Some (nat_abs (to_z w64 (of_z w64 z))) ≡ number_between least most text
number_taken least most z low high text (Ok y) parses is small_least small_most low_is high_is above below =
    let same : z ≡ y = cc in
    let value : z ≡ signed_digits_value 10 text = same ∙ parses.1 in
    let fits : FitsSigned w64 z = subst (FitsSigned w64) (sym value) parses.0.1 in
    let least_fits : FitsSigned w64 (pos least) = record { sfits = omega (arith, small_least) } in
    let most_fits : FitsSigned w64 (pos most) = record { sfits = omega (arith, small_most) } in
    let whole : to_z w64 (of_z w64 z) ≡ signed_digits_value 10 text = to_z-of_z w64 z fits ∙ value in
    let begin : to_z w64 (of_z w64 low) ≡ pos least = ap (λ x. to_z w64 (of_z w64 x)) low_is ∙ to_z-of_z w64 (pos least) least_fits in
    let end : to_z w64 (of_z w64 high) ≡ pos most = ap (λ x. to_z w64 (of_z w64 x)) high_is ∙ to_z-of_z w64 (pos most) most_fits in
    let least_so : le_z (pos least) (signed_digits_value 10 text) ≡ true = (λ i. le_z (sym begin i) (sym whole i)) ∙ above in
    let most_so : le_z (signed_digits_value 10 text) (pos most) ≡ true = (λ i. le_z (sym whole i) (sym end i)) ∙ below in
    let test : is_signed_in (pos least) (pos most) text ≡ true =
    Accepts-accepts false (vp.Signed (pos least) (pos most)) text (parses.0.0, parses.0.1, le_z_yes (subst T (sym least_so) tt), le_z_yes (subst T (sym most_so) tt)) in
    ap Some (ap nat_abs whole ∙ without_sign text) ∙ sym (ap (λ b. cond b (Some (digits_value 10 (without_leading_sign text))) None) test)
number_taken least most z low high text (Err e) parses is small_least small_most low_is high_is above below = let no : ⊥ = cc in absurd no

-- nothing is read where no number of 64 bits is spelled
pub number_unread : {E : Type 0} (least most : ℕ) (text : List ℕ) (r : Result ℤ E) → ParsesSigned w64 10 text r → None ≡ result_ok r → None ≡ number_between least most text
number_unread least most text (Ok y) parses is = let no : ⊥ = cc in absurd no
number_unread least most text (Err f) parses is =
    sym (ap (λ b. cond b (Some (digits_value 10 (without_leading_sign text))) None)
    (not_true (is_signed_in (pos least) (pos most) text) (λ test. parses (let a = accepts-Accepts false (vp.Signed (pos least) (pos most)) text test in (a.0, a.1)))))
