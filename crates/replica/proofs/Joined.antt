-- Operations that follow others.
use Rattle.std.proofs.Common.{◌≡◌, ◌∙◌, ℕ, List, [], ◌∷◌, ◌++◌, length, sym, ap, subst}
use Rattle.ew_model.specs.declared.text_op.TextOp.{TextOp}
use Rattle.ew_model.specs.Operations.{changed_by, changed_by_all}
use Rattle.ew_model.specs.TextLaws.{AllFit}
use Rattle.rope.specs.Lengths.{AllStayShort}
use Rattle.rope.proofs.RunChanges.{change_both}

-- where each may be done, all may
pub fit_joined : (xs ys : List TextOp) (text : List ℕ) → AllFit text xs → AllFit (changed_by_all xs text) ys → AllFit text (xs ++ ys)
fit_joined [] ys text h k = k
fit_joined (x ∷ xs) ys text h k = (h.0, fit_joined xs ys (changed_by x text) h.1 k)

-- where each text stays short, all do
pub short_joined : (xs ys : List TextOp) (text : List ℕ) → AllStayShort text xs → AllStayShort (changed_by_all xs text) ys → AllStayShort text (xs ++ ys)
short_joined [] ys text h k = k
short_joined (x ∷ xs) ys text h k = (h.0, short_joined xs ys (changed_by x text) h.1 k)

-- Operations that make a text of the empty one, and changes of that text, one behind the other: they make what the changes make,
pub told_all : (ops changes all : List TextOp) (text : List ℕ) → all ≡ ops ++ changes → changed_by_all ops [] ≡ text → changed_by_all all [] ≡ changed_by_all changes text
told_all ops changes all text is now = ap (λ (os : List TextOp). changed_by_all os []) is ∙ change_both ops changes [] ∙ ap (changed_by_all changes) now

-- and may be told in their place.
pub told_more : (ops changes all : List TextOp) (text : List ℕ) (after : ℕ) → all ≡ ops ++ changes → changed_by_all ops [] ≡ text → AllFit [] ops → AllStayShort [] ops → AllFit text changes → AllStayShort text changes
    → after ≡ length (changed_by_all changes text) → AllFit [] all × AllStayShort [] all × (after ≡ length (changed_by_all all []))
told_more ops changes all text after is now fit short fits stays long = (
  subst (AllFit []) (sym is) (fit_joined ops changes [] fit (subst (λ (t : List ℕ). AllFit t changes) (sym now) fits)),
  subst (AllStayShort []) (sym is) (short_joined ops changes [] short (subst (λ (t : List ℕ). AllStayShort t changes) (sym now) stays)),
  long ∙ ap length (sym (told_all ops changes all text is now)),
)
