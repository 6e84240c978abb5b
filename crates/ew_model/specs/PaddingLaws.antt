-- A name's bytes and its length are found again from the name. (What a type's model cites has to stand here.)
use Rattle.std.specs.Prelude.{◌≡◌, ℕ, ◌-◌, ◌≤◌, List, ◌++◌, length, take, replicate}
use Rattle.std.proofs.Common.{arith, sym, ap, ◌∙◌}
use Rattle.std.proofs.lemmas.List.{length-take-le}
use Rattle.ew_model.specs.Padding.{IsPadded, padded}

-- the name has as many bytes as its length says
pub length_front : (len : ℕ) (bytes : List ℕ) → IsPadded len bytes → length (take len bytes) ≡ len
length_front len bytes h =
    let whole : length bytes ≡ 32 = h.whole in
    let within : len ≤ 32 = h.within in
    length-take-le len bytes (omega arith)

-- the name, filled up, is the bytes kept, and its length the length kept
pub padded_again : (len : ℕ) (bytes : List ℕ) → IsPadded len bytes → (padded (take len bytes) ≡ bytes) × (length (take len bytes) ≡ len)
padded_again len bytes h =
    (ap (λ n. take len bytes ++ replicate (32 - n) 0) (length_front len bytes h) ∙ sym h.rest, length_front len bytes h)
