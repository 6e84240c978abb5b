-- Texts, which are kept as UTF-8 and seen as their characters.
use Rattle.std.proofs.Common.{◌≡◌, ℕ, List, [], ◌∷◌, ◌++◌, Result, Ok, Err, is_ok, OnOk, if◌then◌else◌, refl, sym, ap, ◌∙◌, append-nil}
use Rattle.std.specs.Char.{IsScalar, encode_utf8}
use Rattle.std.specs.Str.{IsUtf8, chars}
use Rattle.std.proofs.lemmas.Bool.{and_from}
use Rattle.std.proofs.lemmas.Str.{chars-append, chars-encodes}

-- one more character
chars-push : (bytes : List ℕ) (ch : ℕ) → IsUtf8 bytes → IsScalar ch → chars (bytes ++ encode_utf8 ch) ≡ chars bytes ++ ch ∷ []
chars-push bytes ch utf8 scalar =
    let one = ap chars (sym (append-nil (encode_utf8 ch))) ∙ chars-encodes (ch ∷ []) (and_from _ _ scalar refl) in
    chars-append bytes (encode_utf8 ch) utf8 ∙ ap (λ x. chars bytes ++ x) one

-- where a push to the UTF-8 is done, it is one to the text
pub pushed : {E : Type 0} (r : Result (Unit {0}) E) (old new text : List ℕ) (ch : ℕ) → IsUtf8 old → IsScalar ch → chars old ≡ text
    → new ≡ (if is_ok r then old ++ encode_utf8 ch else old) → OnOk r (chars new ≡ text ++ ch ∷ [])
pushed (Ok u) old new text ch utf8 scalar view e = ap chars e ∙ chars-push old ch utf8 scalar ∙ ap (λ x. x ++ ch ∷ []) view
pushed (Err x) old new text ch utf8 scalar view e = tt
