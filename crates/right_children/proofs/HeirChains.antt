-- Several positions at once behind the chains.
use Rattle.std.proofs.Common.{◌≡◌, inl, inr, ⊎_elim, ℕ, zero, suc, ◌+◌, ◌-◌, ◌<◌, ◌≤◌, Bool, false, ◌&&◌, Option, Some, None, List, [], ◌∷◌, ◌++◌, length, set, slice_get, slice_index_or, nat_eq, nat_le, if◌then◌else◌, refl, sym, ap, ◌∙◌, subst, arith}
use Rattle.std.proofs.lemmas.Bool.{false_from_ne_true, le-leb, eqb-true, eq-eqb, cases_lt}
use Rattle.std.proofs.lemmas.Option.{same_Some, slice_get_read}
use Rattle.ew_model.specs.declared.node.Node.{Node}
use Rattle.ew_model.specs.declared.node.Node.TheVariants.{Event}
use Rattle.right_children.specs.declared.chains.Chain.{Chain}
use Rattle.right_children.specs.Chains.{holds, parent_by, parent_in, AreInOrder, AreBelow, HangInLine, AreToldOn, HangOn, IsNextOf}
use Rattle.right_children.proofs.ChainLaws.{chain_within, held, unheld, longer}

-- behind a chain that ends before them
ahead : (d : Chain) (cs ds : List Chain) (first count : ℕ) → d.last ≤ first → HangOn (parent_in cs) (parent_in ds) first count → HangOn (parent_in (d ∷ cs)) (parent_in (d ∷ ds)) first count
ahead d cs ds first count le on = record {
  each = λ k lt. past (first + k + 1) (omega (arith, le)) ∙ on.each k lt;
  told = λ n.
      ⊎_elim
      (λ same. inl (ap (λ (o : Option Node). if holds d n then Some (parent_by d n) else o) same))
      (λ hangs. let is = hangs.2 in inr (hangs.0, hangs.1, hangs.2, past n (omega (arith, le, is)) ∙ hangs.3))
      (on.told n);
}
  where
    past : (n : ℕ) → d.last < n → parent_in (d ∷ ds) n ≡ parent_in ds n
    past n lt = ap (λ (b : Bool). if b then Some (parent_by d n) else parent_in ds n) (unheld d n (λ low high. absurd (omega (arith, lt, high))))

-- what one chain tells of the positions behind its first, and of that
later_by : (c : Chain) (n : ℕ) → c.first < n → n ≤ c.last → parent_in (c ∷ []) n ≡ Some (Event (n - 1))
later_by c n low high =
    let apart : nat_eq n c.first ≡ false = false_from_ne_true (nat_eq n c.first) (λ e. let same = eqb-true n c.first e in absurd (omega (arith, same, low))) in
    ap (λ (b : Bool). if b then Some (parent_by c n) else None) (held c n (omega (arith, low)) high) ∙ ap (λ (b : Bool). Some (if b then c.parent else Event (n - 1))) apart

first_by : (c : Chain) (n : ℕ) → n ≡ c.first → c.first ≤ c.last → parent_in (c ∷ []) n ≡ Some c.parent
first_by c n is order =
    ap (λ (b : Bool). if b then Some (parent_by c n) else None) (held c n (omega (arith, is)) (omega (arith, is, order))) ∙ ap (λ (b : Bool). Some (if b then c.parent else Event (n - 1))) (eq-eqb n c.first is)

none_by : (c : Chain) (n : ℕ) → (c.first ≤ n → n ≤ c.last → ⊥) → parent_in (c ∷ []) n ≡ None
none_by c n none = ap (λ (b : Bool). if b then Some (parent_by c n) else None) (unheld c n none)

-- THE LAST CHAIN, with so many more
module _ (c : Chain) (order : c.first ≤ c.last) (count : ℕ) where
  abbrev more : Chain
  more = longer c (c.last + count)

  more_each : HangInLine (parent_in (more ∷ [])) c.last count
  more_each k lt =
      let back : c.last + k + 1 - 1 ≡ c.last + k = omega arith in
      later_by more (c.last + k + 1) (omega (arith, order)) (omega (arith, lt)) ∙ ap (λ (n : ℕ). Some (Event n)) back

  -- up to its old end it tells the same, and behind its new one
  same_to : (n : ℕ) → n ≤ c.last → parent_in (more ∷ []) n ≡ parent_in (c ∷ []) n
  same_to n le = ap (λ (b : Bool). if nat_le c.first n && b then Some (parent_by c n) else None) (le-leb n (c.last + count) (omega (arith, le)) ∙ sym (le-leb n c.last le))

  same_from : (n : ℕ) → c.last + count < n → parent_in (more ∷ []) n ≡ parent_in (c ∷ []) n
  same_from n lt = none_by more n (λ low high. absurd (omega (arith, lt, high))) ∙ sym (none_by c n (λ low high. absurd (omega (arith, lt, high))))

  more_told : AreToldOn (parent_in (c ∷ [])) (parent_in (more ∷ [])) c.last count
  more_told n =
      ⊎_elim
      (λ (early : n < c.last + 1). inl (same_to n (omega (arith, early))))
      (λ (late : c.last + 1 ≤ n).
      ⊎_elim
      (λ (within : n < c.last + count + 1).
      let is : n ≡ c.last + (n - c.last - 1) + 1 = omega (arith, late) in
      let lt : n - c.last - 1 < count = omega (arith, late, within) in
      inr (n - c.last - 1, lt, is, ap (parent_in (more ∷ [])) is ∙ more_each (n - c.last - 1) lt))
      (λ (past : c.last + count + 1 ≤ n). inl (same_from n (omega (arith, past))))
      (cases_lt n (c.last + count + 1)))
      (cases_lt n (c.last + 1))

pub lengthened_by : (cs : List Chain) (low k count : ℕ) (c : Chain) → AreInOrder low cs → length cs ≡ suc k → slice_get cs k ≡ Some c
    → AreInOrder low (set cs k (longer c (c.last + count))) × HangOn (parent_in cs) (parent_in (set cs k (longer c (c.last + count)))) c.last count
lengthened_by [] low k count c are long e = absurd (omega (arith, long))
lengthened_by (d ∷ []) low zero count c are long e =
    let within = chain_within (d ∷ []) low 0 c are e in
    let order = within.1 in (
      (within.0, omega (arith, order), tt),
      record {
        each = more_each c order count;
        told = subst (λ (x : Chain). AreToldOn (parent_in (x ∷ [])) (parent_in (longer c (c.last + count) ∷ [])) c.last count) (sym (same_Some d c e)) (more_told c order count);
      },
    )
lengthened_by (d ∷ []) low (suc k) count c are long e = absurd (omega (arith, long))
lengthened_by (d ∷ x ∷ cs) low zero count c are long e = absurd (omega (arith, long))
lengthened_by (d ∷ x ∷ cs) low (suc k) count c are long e =
    let ih = lengthened_by (x ∷ cs) (suc d.last) k count c are.2 (omega (arith, long)) e in
    let within = chain_within (x ∷ cs) (suc d.last) k c are.2 e in
    let from = within.0 in
    let order = within.1 in
    ((are.0, are.1, ih.0), ahead d (x ∷ cs) (set (x ∷ cs) k (longer c (c.last + count))) c.last count (omega (arith, from, order)) ih.1)

-- where they go on with the last chain; the one that is looked at is the one that is written
pub joined_by : (cs : List Chain) (k first count last : ℕ) (c d : Chain) → AreInOrder 0 cs → length cs ≡ suc k → c ≡ slice_index_or cs k c → d ≡ slice_index_or cs k d → IsNextOf c (first + 1) (Event first) → last ≡ first + count
    → AreInOrder 0 (set cs k (longer d last)) × HangOn (parent_in cs) (parent_in (set cs k (longer d last))) first count
joined_by cs k first count last c d are long one other next is =
    let there = slice_get_read cs (suc k) k d (sym long) (omega arith) other in
    let seen = slice_get_read cs (suc k) k c (sym long) (omega arith) one in
    let on = subst (λ (x : Chain). IsNextOf x (first + 1) (Event first)) (same_Some c d (sym seen ∙ there)) next in
    let behind = on.next in
    let same : d.last ≡ first = omega (arith, behind) in
    let end : d.last + count ≡ last = omega (arith, same, is) in
    let made = lengthened_by cs 0 k count d are long there in (
      subst (λ (n : ℕ). AreInOrder 0 (set cs k (longer d n))) end made.0,
      subst (λ (n : ℕ). HangOn (parent_in cs) (parent_in (set cs k (longer d n))) first count) end
          (subst (λ (n : ℕ). HangOn (parent_in cs) (parent_in (set cs k (longer d (d.last + count)))) n count) same made.1),
    )

-- A CHAIN OF THEIR OWN
abbrev pub chain_of : ℕ → ℕ → Chain
chain_of first count = record { first = first + 1; last = first + count; parent = Event first }

module _ (first count : ℕ) (some : 0 < count) where
  own_each : HangInLine (parent_in (chain_of first count ∷ [])) first count
  own_each zero lt =
      let zero_on : first ≡ first + 0 = omega arith in
      first_by (chain_of first count) (first + 0 + 1) (omega arith) (omega (arith, some)) ∙ ap (λ (n : ℕ). Some (Event n)) zero_on
  own_each (suc k) lt =
      let back : first + suc k + 1 - 1 ≡ first + suc k = omega arith in
      later_by (chain_of first count) (first + suc k + 1) (omega arith) (omega (arith, lt)) ∙ ap (λ (n : ℕ). Some (Event n)) back

  own_told : AreToldOn (parent_in []) (parent_in (chain_of first count ∷ [])) first count
  own_told n =
      ⊎_elim
      (λ (early : n < first + 1). inl (none_by (chain_of first count) n (λ low high. absurd (omega (arith, early, low)))))
      (λ (late : first + 1 ≤ n).
      ⊎_elim
      (λ (within : n < first + count + 1).
      let is : n ≡ first + (n - first - 1) + 1 = omega (arith, late) in
      let lt : n - first - 1 < count = omega (arith, late, within) in
      inr (n - first - 1, lt, is, ap (parent_in (chain_of first count ∷ [])) is ∙ own_each (n - first - 1) lt))
      (λ (past : first + count + 1 ≤ n). inl (none_by (chain_of first count) n (λ low high. absurd (omega (arith, past, high)))))
      (cases_lt n (first + count + 1)))
      (cases_lt n (first + 1))

  pub pushed_by : (cs : List Chain) (low : ℕ) → AreInOrder low cs → low ≤ first + 1 → AreBelow (first + 1) cs
      → AreInOrder low (cs ++ chain_of first count ∷ []) × HangOn (parent_in cs) (parent_in (cs ++ chain_of first count ∷ [])) first count
  pushed_by [] low are le below = ((le, omega (arith, some), tt), record { each = own_each; told = own_told })
  pushed_by (d ∷ cs) low are le below =
      let lt = below 0 d refl in
      let ih = pushed_by cs (suc d.last) are.2 (omega (arith, lt)) (λ k c e. below (suc k) c e) in
      ((are.0, are.1, ih.0), ahead d cs (cs ++ chain_of first count ∷ []) first count (omega (arith, lt)) ih.1)
