-- Right children of the nodes right before them, one after another.
use Rattle.std.proofs.Common.{◌≡◌, ◌⊎◌, inl, inr, ⊎_elim, ℕ, ◌+◌, ◌<◌, ◌≤◌, Bool, true, false, Option, Some, IsSome, nat_eq, if◌then◌else◌, refl, sym, ap, ◌∙◌, subst, arith}
use Rattle.std.proofs.lemmas.Bool.{false≢true, false_from_ne_true, eqb-true, eq-eqb, cases_lt}
use Rattle.std.proofs.lemmas.Option.{same_Some}
use Rattle.ew_model.specs.declared.node.Node.{Node}
use Rattle.ew_model.specs.declared.node.Node.TheVariants.{Root, Base, Event}
use Rattle.right_children.specs.declared.rights.Rights.{Rights}
use Rattle.right_children.specs.Chains.{IsApart, HangInLine, AreToldOn}
use Rattle.right_children.specs.Rights.{counted, HasCount, IsWhole}
use Rattle.right_children.specs.Rows.{kept_at, KeepsRows}

-- none so far
pub told_none : (told : ℕ → Option Node) (first : ℕ) → AreToldOn told told first 0
told_none told first = λ n. inl refl

-- one more
module _ (old mid new : ℕ → Option Node) (first k : ℕ) (each : HangInLine mid first k) (told : AreToldOn old mid first k) (next : (n : ℕ) → new n ≡ (if nat_eq (first + k + 1) n then Some (Event (first + k)) else mid n)) where
  next_here : (n : ℕ) → n ≡ first + k + 1 → new n ≡ Some (Event (first + k))
  next_here n is = next n ∙ ap (λ (b : Bool). if b then Some (Event (first + k)) else mid n) (eq-eqb (first + k + 1) n (sym is))

  next_apart : (n : ℕ) → (n ≡ first + k + 1 → ⊥) → new n ≡ mid n
  next_apart n apart = next n ∙ ap (λ (b : Bool). if b then Some (Event (first + k)) else mid n) (false_from_ne_true (nat_eq (first + k + 1) n) (λ e. apart (sym (eqb-true (first + k + 1) n e))))

  pub each_step : HangInLine new first (k + 1)
  each_step i lt =
      ⊎_elim
      (λ (low : i < k). next_apart (first + i + 1) (λ same. absurd (omega (arith, same, low))) ∙ each i low)
      (λ (high : k ≤ i).
      let is : i ≡ k = omega (arith, high, lt) in
      let here : first + i + 1 ≡ first + k + 1 = omega (arith, is) in
      next_here (first + i + 1) here ∙ ap (λ (j : ℕ). Some (Event (first + j))) (sym is))
      (cases_lt i k)

  pub told_step : AreToldOn old new first (k + 1)
  told_step n = at (nat_eq (first + k + 1) n) refl
    where
      at : (b : Bool) → nat_eq (first + k + 1) n ≡ b → (new n ≡ old n) ⊎ ((i : ℕ) × (i < k + 1) × (n ≡ first + i + 1) × (new n ≡ Some (Event (first + i))))
      at true e =
          let is = sym (eqb-true (first + k + 1) n e) in
          inr (k, omega arith, is, next_here n is)
      at false e =
          let stays = next_apart n (λ is. false≢true (sym e ∙ eq-eqb (first + k + 1) n (sym is))) in
          ⊎_elim
          (λ same. inl (stays ∙ same))
          (λ hangs. let lt = hangs.1 in inr (hangs.0, omega (arith, lt), hangs.2, stays ∙ hangs.3))
          (told n)

pub told_more : (old new : ℕ → Option Node) (first k count : ℕ) → k ≤ count → AreToldOn old new first k → AreToldOn old new first count
told_more old new first k count le told n =
    ⊎_elim (λ same. inl same) (λ hangs. let lt = hangs.1 in inr (hangs.0, omega (arith, lt, le), hangs.2, hangs.3)) (told n)

pub told_same : (old mid new : ℕ → Option Node) (first k : ℕ) → AreToldOn old mid first k → ((n : ℕ) → new n ≡ mid n) → AreToldOn old new first k
told_same old mid new first k told same n =
    ⊎_elim (λ stays. inl (same n ∙ stays)) (λ hangs. inr (hangs.0, hangs.1, hangs.2, same n ∙ hangs.3)) (told n)

-- of the others nothing is told anew
pub told_apart : (old new : ℕ → Option Node) (first count : ℕ) → AreToldOn old new first count → (n : ℕ) → IsApart first count n → new n ≡ old n
told_apart old new first count told n apart = ⊎_elim (λ same. same) (λ hangs. absurd (apart hangs.0 hangs.1 hangs.2)) (told n)

-- THEIR COUNTS
pub counts_kept : (old new : Rights) → KeepsRows old.rows new.rows → new.counts ≡ old.counts → (v : Node) → (counted new).count v ≡ (counted old).count v
counts_kept old new rows same Root = ap (λ c. (counted (record { parents = new.parents; rows = new.rows; counts = c })).count Root) same
counts_kept old new rows same (Base i) = ap (λ c. (counted (record { parents = new.parents; rows = new.rows; counts = c })).count (Base i)) same
counts_kept old new rows same (Event n) = rows.same n

has_kept : (old new : Rights) → KeepsRows old.rows new.rows → new.counts ≡ old.counts → (v : Node) → HasCount old v → HasCount new v
has_kept old new rows same Root h = subst (λ c. HasCount (record { parents = new.parents; rows = new.rows; counts = c }) Root) (sym same) h
has_kept old new rows same (Base i) h = subst (λ c. HasCount (record { parents = new.parents; rows = new.rows; counts = c }) (Base i)) (sym same) h
has_kept old new rows same (Event n) h = rows.kept n h

-- where rows are begun, and nothing is told anew
pub begun_whole : (old new : Rights) → IsWhole old → KeepsRows old.rows new.rows → new.counts ≡ old.counts → ((n : ℕ) → (counted new).parent_at n ≡ (counted old).parent_at n) → IsWhole new
begun_whole old new whole rows same told n p e = has_kept old new rows same p (whole n p (sym (told n) ∙ e))

-- or what hangs on those that have rows
pub heirs_whole : (old new : Rights) (first count : ℕ) → IsWhole old → KeepsRows old.rows new.rows → new.counts ≡ old.counts → ((k : ℕ) → k < count → IsSome (kept_at new.rows (first + k)))
    → AreToldOn (counted old).parent_at (counted new).parent_at first count → IsWhole new
heirs_whole old new first count whole rows same begun told n p e =
    ⊎_elim
    (λ stays. has_kept old new rows same p (whole n p (sym stays ∙ e)))
    (λ hangs. subst (HasCount new) (same_Some (Event (first + hangs.0)) p (sym hangs.3 ∙ e)) (begun hangs.0 hangs.1))
    (told n)
