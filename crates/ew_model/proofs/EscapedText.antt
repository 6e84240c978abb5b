-- Escaped text: how each character is written, and that no writing begins another.
use Rattle.std.proofs.Common.{◌≡◌, ◌≢◌, ℕ, ◌<◌, true, ◌⊎◌, inl, inr, List, [], ◌∷◌, ◌++◌, length, refl, sym, ap, subst, ◌∙◌, arith, append_assoc, append-nil, length-append}
use Rattle.std.specs.Char.{IsScalar, encode_utf8}
use Rattle.std.specs.Str.{all_scalars, IsUtf8}
use Rattle.std.proofs.lemmas.Bool.{cases_eq, eq-eqb, ne_eqb, cond-true, cond-false, and_parts}
use Rattle.std.proofs.lemmas.Str.{encode_same, char_from_byte, length-encode, len_utf8_bounds, IsUtf8-append, IsUtf8-encode, IsUtf8-nil}
use Rattle.ew_model.specs.Scripts.{escaped_char, escaped_text}

-- how a character is written
pub data Written (c : ℕ) : Type 0 where
  Newline : c ≡ 10 → escaped_char c ≡ 92 ∷ 110 ∷ [] → Written c
  Backslash : c ≡ 92 → escaped_char c ≡ 92 ∷ 92 ∷ [] → Written c
  Plain : c ≢ 10 → c ≢ 92 → escaped_char c ≡ encode_utf8 c → Written c

pub written : (c : ℕ) → Written c
written c = by (cases_eq c 10) (cases_eq c 92)
  where
    by : (c ≡ 10) ⊎ (c ≡ 10 → ⊥) → (c ≡ 92) ⊎ (c ≡ 92 → ⊥) → Written c
    by (inl e) second = Newline e (cond-true _ _ _ (eq-eqb c 10 e))
    by (inr n) (inl e) = Backslash e (cond-false _ _ _ (ne_eqb c 10 n) ∙ cond-true _ _ _ (eq-eqb c 92 e))
    by (inr n) (inr m) = Plain n m (cond-false _ _ _ (ne_eqb c 10 n) ∙ cond-false _ _ _ (ne_eqb c 92 m))

-- the writing of a character that isn't escaped begins with 92 or 10 only if the character is that
plain_begins : (c b : ℕ) (r bytes : List ℕ) → c ≢ b → b < 128 → encode_utf8 c ++ r ≡ b ∷ bytes → ⊥
plain_begins c b r bytes differ low e = differ (char_from_byte (b ∷ bytes) r c (sym e) low (omega arith))

-- lists with different heads differ
pub heads_differ : (a b : ℕ) (xs ys : List ℕ) → (a ≡ b → ⊥) → a ∷ xs ≡ b ∷ ys → ⊥
heads_differ a b xs ys differ e = differ cc

-- each writing has a byte
pub escaped_char_some : (c : ℕ) (r : List ℕ) → escaped_char c ++ r ≡ [] → ⊥
escaped_char_some c r e = by (written c)
  where
    by : Written c → ⊥
    by (Newline i w) = let f : 92 ∷ 110 ∷ r ≡ [] = ap (λ x. x ++ r) (sym w) ∙ e in cc
    by (Backslash i w) = let f : 92 ∷ 92 ∷ r ≡ [] = ap (λ x. x ++ r) (sym w) ∙ e in cc
    by (Plain n m w) =
        let f : encode_utf8 c ++ r ≡ [] = ap (λ x. x ++ r) (sym w) ∙ e in
        let long : 0 < length (encode_utf8 c) = omega (arith, length-encode c, len_utf8_bounds c) in
        omega (arith, length-append (encode_utf8 c) r, ap length f)

-- what begins with one writing begins with no other
pub escaped_same : (c d : ℕ) (r t : List ℕ) → escaped_char c ++ r ≡ escaped_char d ++ t → (c ≡ d) × (r ≡ t)
escaped_same c d r t e = by (written c) (written d)
  where
    tails_same : {a : ℕ} {xs ys : List ℕ} → a ∷ xs ≡ a ∷ ys → xs ≡ ys
    tails_same f = cc

    given : (x y : List ℕ) → escaped_char c ≡ x → escaped_char d ≡ y → x ++ r ≡ y ++ t
    given x y p q = ap (λ z. z ++ r) (sym p) ∙ e ∙ ap (λ z. z ++ t) q

    by : Written c → Written d → (c ≡ d) × (r ≡ t)
    by (Newline i p) (Newline j q) = let f : 92 ∷ 110 ∷ r ≡ 92 ∷ 110 ∷ t = given _ _ p q in (i ∙ sym j, cc)
    by (Newline i p) (Backslash j q) = absurd (heads_differ 110 92 r t (λ x. omega arith) (tails_same (given _ _ p q)))
    by (Newline i p) (Plain n m q) = absurd (plain_begins d 92 t (110 ∷ r) m (omega arith) (sym (given _ _ p q)))
    by (Backslash i p) (Newline j q) = absurd (heads_differ 92 110 r t (λ x. omega arith) (tails_same (given _ _ p q)))
    by (Backslash i p) (Backslash j q) = let f : 92 ∷ 92 ∷ r ≡ 92 ∷ 92 ∷ t = given _ _ p q in (i ∙ sym j, cc)
    by (Backslash i p) (Plain n m q) = absurd (plain_begins d 92 t (92 ∷ r) m (omega arith) (sym (given _ _ p q)))
    by (Plain n m p) (Newline j q) = absurd (plain_begins c 92 r (110 ∷ t) m (omega arith) (given _ _ p q))
    by (Plain n m p) (Backslash j q) = absurd (plain_begins c 92 r (92 ∷ t) m (omega arith) (given _ _ p q))
    by (Plain n m p) (Plain k l q) = encode_same c d r t (given _ _ p q)

-- an escaped text that begins with another goes on with an escaped text
pub escaped_rest : (text whole rest : List ℕ) → escaped_text whole ≡ escaped_text text ++ rest → (more : List ℕ) × (whole ≡ text ++ more) × (escaped_text more ≡ rest)
escaped_rest [] whole rest e = (whole, refl, e)
escaped_rest (c ∷ text) [] rest e = absurd (escaped_char_some c (escaped_text text ++ rest) (sym (e ∙ append_assoc (escaped_char c) (escaped_text text) rest)))
escaped_rest (c ∷ text) (d ∷ whole) rest e =
    let first = escaped_same d c (escaped_text whole) (escaped_text text ++ rest) (e ∙ append_assoc (escaped_char c) (escaped_text text) rest) in
    let tail = escaped_rest text whole rest first.1 in
    (tail.0, λ i. first.0 i ∷ tail.1 i, tail.2)

-- one text is written so
pub escaped_once : (a b : List ℕ) → escaped_text a ≡ escaped_text b → a ≡ b
escaped_once a b e =
    let more = escaped_rest b a [] (e ∙ sym (append-nil (escaped_text b))) in
    by more.0 more.1 more.2
  where
    by : (more : List ℕ) → a ≡ b ++ more → escaped_text more ≡ [] → a ≡ b
    by [] p q = p ∙ append-nil b
    by (c ∷ more) p q = absurd (escaped_char_some c (escaped_text more) q)

-- no escaped text begins with a newline
pub no_bare_newline : (text rest : List ℕ) → escaped_text text ≡ 10 ∷ rest → ⊥
no_bare_newline [] rest e = cc
no_bare_newline (c ∷ text) rest e = by (written c)
  where
    by : Written c → ⊥
    by (Newline i w) = heads_differ 92 10 (110 ∷ escaped_text text) rest (λ x. omega arith) (ap (λ x. x ++ escaped_text text) (sym w) ∙ e)
    by (Backslash i w) = heads_differ 92 10 (92 ∷ escaped_text text) rest (λ x. omega arith) (ap (λ x. x ++ escaped_text text) (sym w) ∙ e)
    by (Plain n m w) = plain_begins c 10 (escaped_text text) rest n (omega arith) (ap (λ x. x ++ escaped_text text) (sym w) ∙ e)

-- behind a backslash stands `n` or a backslash
pub after_backslash : (text rest : List ℕ) → escaped_text text ≡ 92 ∷ rest → (more : List ℕ) × ((rest ≡ 110 ∷ more) ⊎ (rest ≡ 92 ∷ more))
after_backslash [] rest e = absurd (cc)
after_backslash (c ∷ text) rest e = by (written c)
  where
    by : Written c → (more : List ℕ) × ((rest ≡ 110 ∷ more) ⊎ (rest ≡ 92 ∷ more))
    by (Newline i w) = let f : 92 ∷ 110 ∷ escaped_text text ≡ 92 ∷ rest = ap (λ x. x ++ escaped_text text) (sym w) ∙ e in (escaped_text text, inl cc)
    by (Backslash i w) = let f : 92 ∷ 92 ∷ escaped_text text ≡ 92 ∷ rest = ap (λ x. x ++ escaped_text text) (sym w) ∙ e in (escaped_text text, inr cc)
    by (Plain n m w) = absurd (plain_begins c 92 (escaped_text text) rest m (omega arith) (ap (λ x. x ++ escaped_text text) (sym w) ∙ e))

newline_IsUtf8 : IsUtf8 (92 ∷ 110 ∷ [])
unfolding encode_utf8
newline_IsUtf8 = (92 ∷ 110 ∷ [], (refl, refl))

backslash_IsUtf8 : IsUtf8 (92 ∷ 92 ∷ [])
unfolding encode_utf8
backslash_IsUtf8 = (92 ∷ 92 ∷ [], (refl, refl))

-- the writing of a character is UTF-8
pub escaped_char-IsUtf8 : (c : ℕ) → IsScalar c → IsUtf8 (escaped_char c)
escaped_char-IsUtf8 c scalar = by (written c)
  where
    by : Written c → IsUtf8 (escaped_char c)
    by (Newline i w) = subst IsUtf8 (sym w) newline_IsUtf8
    by (Backslash i w) = subst IsUtf8 (sym w) backslash_IsUtf8
    by (Plain n m w) = subst IsUtf8 (sym w) (IsUtf8-encode c scalar)

-- an escaped text is UTF-8
pub escaped_text-IsUtf8 : (text : List ℕ) → all_scalars text ≡ true → IsUtf8 (escaped_text text)
escaped_text-IsUtf8 [] h = IsUtf8-nil
escaped_text-IsUtf8 (c ∷ text) h =
    let parts = and_parts _ _ h in
    IsUtf8-append (escaped_char c) (escaped_text text) (escaped_char-IsUtf8 c parts.0) (escaped_text-IsUtf8 text parts.1)
