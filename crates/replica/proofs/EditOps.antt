-- The operations of an edit, and what they do to the text, one more after another.
use Rattle.std.proofs.Common.{◌≡◌, ℕ, zero, suc, ◌+◌, ◌-◌, ◌<◌, List, [], ◌∷◌, ◌++◌, map, length, take, drop, replicate, get_or, refl, sym, ap, ◌∙◌, arith}
use Rattle.std.proofs.lemmas.List.{take_more, length-take-le, map-append}
use Rattle.ew_model.specs.declared.event.Op.TheVariants as op
use Rattle.ew_model.specs.declared.text_op.TextOp.{TextOp}
use Rattle.ew_model.specs.declared.text_op.TextOp.TheVariants as change
use Rattle.ew_model.specs.Edits.{insertions_at, deletions_at}
use Rattle.ew_model.specs.TextLaws.{own_change}
use Rattle.ew_model.proofs.EditTexts.{insertions_push}

-- the first insertion, and those behind it
pub first_insertion : (at : ℕ) (text : List ℕ) (ch : ℕ) → 0 < length text → ch ≡ get_or text 0 0 → op.Ins at ch ∷ insertions_at (at + 1) (drop 1 text) ≡ insertions_at at text
first_insertion at [] ch some is = absurd (omega (arith, some))
first_insertion at (x ∷ text) ch some is = ap (λ c. op.Ins at c ∷ insertions_at (at + 1) text) is

-- the first deletion, and those behind it
pub first_deletion : (at n : ℕ) → 0 < n → op.Del at ∷ deletions_at at (n - 1) ≡ deletions_at at n
first_deletion at zero some = absurd (omega (arith, some))
first_deletion at (suc n) some =
    let less : suc n - 1 ≡ n = omega arith in
    ap (λ k. op.Del at ∷ deletions_at at k) less

-- one more character gives one more insertion
insertions_more : (at : ℕ) (text : List ℕ) (i ch : ℕ) → i < length text → ch ≡ get_or text i 0 → insertions_at at (take i text) ++ op.Ins (at + i) ch ∷ [] ≡ insertions_at at (take (i + 1) text)
insertions_more at text i ch within is =
    sym (
    ap (insertions_at at) (take_more text i 0 within ∙ ap (λ c. take i text ++ c ∷ []) (sym is))
    ∙ insertions_push at (take i text) ch
    ∙ ap (λ k. insertions_at at (take i text) ++ op.Ins (at + k) ch ∷ []) (length-take-le i text (omega arith)))

-- and one more change
pub typed_more : (at : ℕ) (text : List ℕ) (i ch : ℕ) → i < length text → ch ≡ get_or text i 0
    → map own_change (insertions_at at (take i text)) ++ change.Ins (at + i) ch ∷ [] ≡ map own_change (insertions_at at (take (i + 1) text))
typed_more at text i ch within is =
    sym (map-append own_change (insertions_at at (take i text)) (op.Ins (at + i) ch ∷ []))
    ∙ ap (map own_change) (insertions_more at text i ch within is)

deletions_alike : (at n : ℕ) → map own_change (deletions_at at n) ≡ replicate n (change.Del at)
deletions_alike at zero = refl
deletions_alike at (suc n) = ap (λ changes. change.Del at ∷ changes) (deletions_alike at n)

take_none : (n : ℕ) → take {A = TextOp} n [] ≡ []
take_none zero = refl
take_none (suc n) = refl

-- a list that was empty, filled up
pub taken_filled : (at n k : ℕ) (changes : List TextOp) → changes ≡ [] → k ≡ 0 → take n changes ++ replicate (n - k) (change.Del at) ≡ map own_change (deletions_at at n)
taken_filled at n k changes none zero_long =
    ap (λ xs. take n xs ++ replicate (n - k) (change.Del at)) none ∙ ap (λ xs. xs ++ replicate (n - k) (change.Del at)) (take_none n)
    ∙ ap (λ m. replicate m (change.Del at)) (omega (arith, zero_long)) ∙ sym (deletions_alike at n)
