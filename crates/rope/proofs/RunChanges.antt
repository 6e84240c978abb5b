-- Operations of runs, and what they do to a text.
use Rattle.std.proofs.Common.{◌≡◌, ℕ, zero, suc, ◌+◌, ◌-◌, ◌<◌, ◌≤◌, List, [], ◌∷◌, ◌++◌, length, take, drop, refl, sym, ap, ◌∙◌, subst, arith, length-drop}
use Rattle.std.proofs.lemmas.List.{drop-take, drop-drop, take_all, length-take-le}
use Rattle.ew_model.specs.declared.text_op.TextOp.{TextOp}
use Rattle.ew_model.specs.declared.text_op.TextOp.TheVariants as op
use Rattle.ew_model.specs.Operations.{changed_by, changed_by_all}
use Rattle.ew_model.specs.TextLaws.{AllFit}
use Rattle.operation_runs.specs.Runs.{insertions, deletions, back_deletions, nothings}
use Rattle.operation_runs.proofs.RunLaws.{length-back_deletions}
use Rattle.rope.specs.Deletions.{DeletesFrom, without}
use Rattle.rope.specs.Lengths.{AllStayShort}
use Rattle.rope.specs.Typed.{IsTyped}
use Rattle.rope.proofs.DeletionRuns.{first_change, first_fit}
use Rattle.rope.proofs.ShortTexts.{short_first}
use Rattle.rope.proofs.TypedRuns.{IsLine, is_line, change_parts, fit_later, short_later}

-- THE FIRST OF THE OPERATIONS
pub fit_front : (xs ys : List TextOp) (text : List ℕ) → AllFit text (xs ++ ys) → AllFit text xs × AllFit (changed_by_all xs text) ys
fit_front [] ys text h = (tt, h)
fit_front (x ∷ xs) ys text h = let rest = fit_front xs ys (changed_by x text) h.1 in ((h.0, rest.0), rest.1)

pub short_front : (xs ys : List TextOp) (text : List ℕ) → AllStayShort text (xs ++ ys) → AllStayShort text xs × AllStayShort (changed_by_all xs text) ys
short_front [] ys text h = (short_first text ys h, h)
short_front (x ∷ xs) ys text h = let rest = short_front xs ys (changed_by x text) h.1 in ((h.0, rest.0), rest.1)

pub change_both : (xs ys : List TextOp) (text : List ℕ) → changed_by_all (xs ++ ys) text ≡ changed_by_all ys (changed_by_all xs text)
change_both [] ys text = refl
change_both (x ∷ xs) ys text = change_both xs ys (changed_by x text)

pub fit_first : (n : ℕ) (ops : List TextOp) (text : List ℕ) → AllFit text ops → AllFit text (take n ops)
fit_first zero ops text h = tt
fit_first (suc n) [] text h = tt
fit_first (suc n) (op ∷ ops) text h = (h.0, fit_first n ops (changed_by op text) h.1)

pub short_begin : (n : ℕ) (ops : List TextOp) (text : List ℕ) → AllStayShort text ops → AllStayShort text (take n ops)
short_begin zero ops text h = short_first text ops h
short_begin (suc n) [] text h = h
short_begin (suc n) (op ∷ ops) text h = (h.0, short_begin n ops (changed_by op text) h.1)

-- INSERTIONS
pub insertions_typed : (at : ℕ) (chars : List ℕ) → IsTyped at (insertions at chars)
insertions_typed at [] = tt
insertions_typed at (ch ∷ chars) = (refl, insertions_typed (at + 1) chars)

pub typed_later : (n at : ℕ) (ops : List TextOp) → IsTyped at ops → IsTyped (at + n) (drop n ops)
typed_later zero at ops h = let same : at ≡ at + 0 = omega arith in subst (λ i. IsTyped i ops) same h
typed_later (suc n) at [] h = tt
typed_later (suc n) at (op.Ins i ch ∷ ops) h = let same : at + 1 + n ≡ at + suc n = omega arith in subst (λ i. IsTyped i (drop n ops)) same (typed_later n (at + 1) ops h.1)
typed_later (suc n) at (op.Del i ∷ ops) h = absurd h
typed_later (suc n) at (op.Nothing ∷ ops) h = absurd h

pub typed_begin : (n at : ℕ) (ops : List TextOp) → IsTyped at ops → IsTyped at (take n ops)
typed_begin zero at ops h = tt
typed_begin (suc n) at [] h = tt
typed_begin (suc n) at (op.Ins i ch ∷ ops) h = (h.0, typed_begin n (at + 1) ops h.1)
typed_begin (suc n) at (op.Del i ∷ ops) h = absurd h
typed_begin (suc n) at (op.Nothing ∷ ops) h = absurd h

-- so many of the insertions from a place on, where those before it were done
module _ (ops : List TextOp) (from many : ℕ) (piece : List TextOp) (text : List ℕ) (is : piece ≡ drop from (take (from + many) ops)) (fit : AllFit text (drop from ops)) (short : AllStayShort text (drop from ops)) where
  first_ones : piece ≡ take many (drop from ops)
  first_ones = is ∙ drop-take from many ops

  pub piece_line : (at : ℕ) → 0 < many → from + many ≤ length ops → IsTyped at ops → IsLine piece (at + from) text
  piece_line at some within typed =
      let rest = drop from ops in
      let long = length-drop from ops in
      let few : length (take many rest) ≡ many = length-take-le many rest (omega (arith, long, within)) in
      let same = ap (length {A = TextOp}) first_ones in
      is_line piece (at + from) text (omega (arith, same, few, some)) (subst (IsTyped (at + from)) (sym first_ones) (typed_begin many (at + from) rest (typed_later from at ops typed)))
      (subst (AllFit text) (sym first_ones) (fit_first many rest text fit)) (subst (AllStayShort text) (sym first_ones) (short_begin many rest text short))

  pub piece_done : (new all : List ℕ) → new ≡ changed_by_all piece text → changed_by_all (drop from ops) text ≡ all
      → AllFit new (drop (from + many) ops) × AllStayShort new (drop (from + many) ops) × (changed_by_all (drop (from + many) ops) new ≡ all)
  piece_done new all done before =
      let rest = drop from ops in
      let now : new ≡ changed_by_all (take many rest) text = done ∙ ap (λ os. changed_by_all os text) first_ones in
      let left : drop many rest ≡ drop (from + many) ops = drop-drop many from ops in (
        subst (AllFit new) left (subst (λ (t : List ℕ). AllFit t (drop many rest)) (sym now) (fit_later many rest text fit)),
        subst (AllStayShort new) left (subst (λ (t : List ℕ). AllStayShort t (drop many rest)) (sym now) (short_later many rest text short)),
        ap (λ os. changed_by_all os new) (sym left) ∙ ap (changed_by_all (drop many rest)) now ∙ change_parts many rest text ∙ before,
      )

-- DELETIONS
pub deletions_from_one : (at n : ℕ) → DeletesFrom at (deletions at n)
deletions_from_one at zero = tt
deletions_from_one at (suc n) = (omega arith, omega arith, deletions_from_one at n)

pub deletions_down_to : (low at n : ℕ) → low + n ≡ at + 1 → DeletesFrom low (back_deletions at n)
deletions_down_to low at zero h = tt
deletions_down_to low at (suc zero) h = (omega (arith, h), omega (arith, h), tt)
deletions_down_to low at (suc (suc n)) h = (omega (arith, h), let long = length-back_deletions (at - 1) (suc n) in omega (arith, h, long), deletions_down_to low (at - 1) (suc n) (omega (arith, h)))

-- what deletions of one place do
pub deleted : (ops : List TextOp) (low n : ℕ) (text : List ℕ) → length ops ≡ n → 0 < n → DeletesFrom low ops → AllFit text ops → (changed_by_all ops text ≡ without text low n) × (low + n ≤ length text)
deleted ops low n text long some from fit =
    let all : take n ops ≡ ops = take_all n ops (omega (arith, long)) in
    let here = subst (DeletesFrom low) (sym all) from in (
      ap (λ os. changed_by_all os text) (sym all) ∙ first_change n ops low text (omega (arith, long)) here fit,
      first_fit n ops low text some (omega (arith, long)) here fit,
    )

pub nothing_done : (n : ℕ) (text : List ℕ) → changed_by_all (nothings n) text ≡ text
nothing_done zero text = refl
nothing_done (suc n) text = nothing_done n text
