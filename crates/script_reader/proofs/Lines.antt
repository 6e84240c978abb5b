-- Where bytes are cut into lines.
use Rattle.std.proofs.Common.{◌≡◌, ◌≢◌, ℕ, ◌<◌, List, [], ◌∷◌, ◌++◌, length, Option, Some, None, IfSome, IfNone, unwrap_or, Bor, sym, ap, subst, ◌∙◌, append-nil, arith}
use Rattle.std.specs.List.{All}
use Rattle.std.proofs.lemmas.List.Elements.{recursion_from_All}
use Rattle.ew_model.specs.Scripts.{Numbered, LinesMean, lines_of}
use Rattle.ew_model.proofs.LineLaws.{lines_of-cut, lines_of-uncut}

-- what stands before the first newline is a line, if there is one, and else all is
lines_of-found : (bytes : List ℕ) (found : Option (Bor (List ℕ) × Bor (List ℕ))) (whole : Bor (List ℕ) × Bor (List ℕ)) → 0 < length bytes
    → IfSome found (λ parts. All (λ x. x ≢ 10) parts.0.now × (bytes ≡ parts.0.now ++ 10 ∷ parts.1.now)) → IfNone found (All (λ x. x ≢ 10) bytes)
    → whole.0.now ≡ bytes → whole.1.now ≡ [] → lines_of bytes ≡ (unwrap_or found whole).0.now ∷ lines_of (unwrap_or found whole).1.now
lines_of-found bytes (Some parts) whole some cut uncut p q =
    ap lines_of cut.1 ∙ lines_of-cut parts.0.now parts.1.now (recursion_from_All (λ x. x ≢ 10) parts.0.now cut.0)
lines_of-found [] None whole some cut uncut p q = absurd (omega arith)
lines_of-found (b ∷ bytes) None whole some cut uncut p q =
    lines_of-uncut b bytes (recursion_from_All (λ x. x ≢ 10) (b ∷ bytes) uncut) ∙ (λ i. sym p i ∷ lines_of (sym q i))

pub lines_of-split : (bytes : List ℕ) (found : Option (Bor (List ℕ) × Bor (List ℕ))) (whole parts : Bor (List ℕ) × Bor (List ℕ)) → 0 < length bytes
    → IfSome found (λ parts. All (λ x. x ≢ 10) parts.0.now × (bytes ≡ parts.0.now ++ 10 ∷ parts.1.now)) → IfNone found (All (λ x. x ≢ 10) bytes)
    → parts ≡ unwrap_or found whole → whole.0.now ≡ bytes → whole.1.now ≡ [] → lines_of bytes ≡ parts.0.now ∷ lines_of parts.1.now
lines_of-split bytes found whole parts some cut uncut e p q =
    lines_of-found bytes found whole some cut uncut p q ∙ ap (λ x. x.0.now ∷ lines_of x.1.now) (sym e)

-- where no line is left, the items so far are what the lines mean
pub finished : {A : Type 0} (Means : List ℕ → A → Type 0) (bytes rest : List ℕ) (n : ℕ) (items : List (Numbered A)) → length rest ≡ 0
    → ((more : List (Numbered A)) → LinesMean Means n (lines_of rest) more → LinesMean Means 1 (lines_of bytes) (items ++ more)) → LinesMean Means 1 (lines_of bytes) items
finished Means bytes [] n items none mean = subst (LinesMean Means 1 (lines_of bytes)) (append-nil items) (mean [] tt)
finished Means bytes (b ∷ rest) n items none mean = absurd (omega arith)
