-- A replay is cut into its lines, and each line is read, in one way.
use Rattle.std.proofs.Common.{◌≡◌, ℕ, ◌+◌, ◌<◌, ◌^◌, length, List, [], ◌∷◌, ◌++◌, codes, sym, ap, ◌∙◌, append_assoc, arith, refl}
use Rattle.std.specs.List.{AllByRecursion}
use Rattle.ew_model.specs.declared.event.Op.TheVariants as op
use Rattle.ew_model.specs.declared.text_op.TextOp.{TextOp}
use Rattle.ew_model.specs.declared.text_op.TextOp.TheVariants.{Ins, Del, Nothing}
use Rattle.ew_model.specs.Operations.{operations, changed_by}
use Rattle.ew_model.specs.Scripts.{spaced}
use Rattle.ew_model.specs.TextLaws.{AllFit, own_change}
use Rattle.ew_model.proofs.FitLaw.{operations_fit}
use Rattle.ew_model.proofs.GoodLaws.{operations_make_text}
use Rattle.ew_model.proofs.TextLengths.{length_changed, length_operations}
use Rattle.history_definitions.specs.Replays.{change_words, change_line, change_lines}
use Rattle.history_view.specs.ReplayLaw.{HasSmallIndex, ReplaysMakeText}
use Rattle.history_view.proofs.LogReading.{op_once, same_heads}

no_byte : {a : ℕ} {xs : List ℕ} → [] ≡ a ∷ xs → ⊥
no_byte e = cc

-- a line and what is behind it
cut : (a : TextOp) (r : List ℕ) → change_line a ++ r ≡ spaced (change_words a) ++ 10 ∷ r
cut a r = append_assoc (spaced (change_words a)) (codes "\n") r

both : (a b : TextOp) (r t : List ℕ) → change_line a ++ r ≡ change_line b ++ t → spaced (change_words a) ++ 10 ∷ r ≡ spaced (change_words b) ++ 10 ∷ t
both a b r t e = sym (cut a r) ∙ e ∙ cut b t

same_rests : {a b c d e f g h : ℕ} {xs ys : List ℕ} → a ∷ b ∷ c ∷ d ∷ e ∷ f ∷ g ∷ h ∷ xs ≡ a ∷ b ∷ c ∷ d ∷ e ∷ f ∷ g ∷ h ∷ ys → xs ≡ ys
same_rests e = cc

line_once : (a b : TextOp) (r t : List ℕ) → HasSmallIndex a → HasSmallIndex b → change_line a ++ r ≡ change_line b ++ t → (a ≡ b) × (r ≡ t)
line_once (Ins at c) (Ins to d) r t s u e = let same = op_once (op.Ins at c) (op.Ins to d) r t s u (both (Ins at c) (Ins to d) r t e) in (ap own_change same.0, same.1)
line_once (Ins at c) (Del to) r t s u e = let no : 105 ≡ 100 = same_heads e in absurd (omega (arith, no))
line_once (Ins at c) Nothing r t s u e = let no : 105 ≡ 110 = same_heads e in absurd (omega (arith, no))
line_once (Del at) (Ins to d) r t s u e = let no : 100 ≡ 105 = same_heads e in absurd (omega (arith, no))
line_once (Del at) (Del to) r t s u e = let same = op_once (op.Del at) (op.Del to) r t s u (both (Del at) (Del to) r t e) in (ap own_change same.0, same.1)
line_once (Del at) Nothing r t s u e = let no : 100 ≡ 110 = same_heads e in absurd (omega (arith, no))
line_once Nothing (Ins to d) r t s u e = let no : 110 ≡ 105 = same_heads e in absurd (omega (arith, no))
line_once Nothing (Del to) r t s u e = let no : 110 ≡ 100 = same_heads e in absurd (omega (arith, no))
line_once Nothing Nothing r t s u e = (refl, same_rests e)

-- a line has a byte
some_line : (a : TextOp) (r : List ℕ) → [] ≡ change_line a ++ r → ⊥
some_line (Ins at c) r e = no_byte e
some_line (Del at) r e = no_byte e
some_line Nothing r e = no_byte e

lines_once : (xs ys : List TextOp) → AllByRecursion HasSmallIndex xs → AllByRecursion HasSmallIndex ys → change_lines xs ≡ change_lines ys → xs ≡ ys
lines_once [] [] s u e = refl
lines_once [] (b ∷ ys) s u e = absurd (some_line b (change_lines ys) e)
lines_once (a ∷ xs) [] s u e = absurd (some_line a (change_lines xs) (sym e))
lines_once (a ∷ xs) (b ∷ ys) s u e =
    let first = line_once a b (change_lines xs) (change_lines ys) s.0 u.0 e in
    let rest = lines_once xs ys s.1 u.1 first.1 in
    λ i. first.0 i ∷ rest i

-- operations that fit a text have small indices, where it and they are not too many
small_index : (text : List ℕ) (a : TextOp) → AllFit text (a ∷ []) → length text < 2 ^ 32 → HasSmallIndex a
small_index text (Ins at c) fit few = omega (arith, fit.0, few)
small_index text (Del at) fit few = omega (arith, fit.0, few)
small_index text Nothing fit few = tt

small_indices : (text : List ℕ) (ops : List TextOp) → AllFit text ops → length text + length ops < 2 ^ 32 → AllByRecursion HasSmallIndex ops
small_indices text [] fit few = tt
small_indices text (a ∷ ops) fit few =
    (small_index text a (fit.0, tt) (omega (arith, few)), small_indices (changed_by a text) ops fit.1 (omega (arith, few, length_changed a text)))

-- The law of replays.
pub replays_make_text : ReplaysMakeText
replays_make_text history good few =
    let fit = operations_fit history good in
    let small = small_indices [] (operations history) fit (omega (arith, few, length_operations history)) in
    record {
      small = small;
      once = λ ops sound e. lines_once ops (operations history) sound small e;
      made = sym (operations_make_text history good);
    }
