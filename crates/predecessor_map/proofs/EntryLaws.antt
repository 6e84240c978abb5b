-- Lists of entries with rising offsets, and the labels in them.
use Rattle.std.proofs.Common.{⊎_elim, ◌⊎◌, inl, inr, ◌≡◌, ℕ, zero, suc, ◌+◌, ◌-◌, ◌<◌, ◌≤◌, List, [], ◌∷◌, length, All, Option, Some, None, IsSome, Bool, true, false, nat_eq, nat_lt, if◌then◌else◌, slice_index_or, slice_set, insert, remove, arith, refl, sym, ap, ◌∙◌, subst, eq-eqb, ne_eqb, lt-ltb}
use Rattle.std.specs.List.{AllWithin}
use Rattle.std.specs.Cmp.{nat_eq_equiv}
use Rattle.std.proofs.lemmas.Bool.{false≢true, cases_lt, cases_eq, cases_order}
use Rattle.std.proofs.lemmas.Map.{lookup-insert, none_passes_from_lookup}
use Rattle.std.proofs.lemmas.List.{get_or_default}
use Rattle.std.proofs.lemmas.List.Edits.{length-insert, get_or-insert_below, get_or-insert_at, get_or-insert_above, length-remove, get_or-remove_below, get_or-remove_above}
use Rattle.predecessor_map.specs.Labels.{IsLastIn}
use Rattle.predecessor_map.specs.Entries.{label_in, IsRising, IsEntryOf, IsGapFor}

tail_rises : (e : ℕ × ℕ) (es : List (ℕ × ℕ)) → IsRising (e ∷ es) → IsRising es
tail_rises e es rising = λ i j d l m. rising (suc i) (suc j) d (omega (arith, l)) (omega (arith, m))

head_below : (e : ℕ × ℕ) (es : List (ℕ × ℕ)) → IsRising (e ∷ es) → (i : ℕ) (d : ℕ × ℕ) → i < length es → e.0 < (slice_index_or es i d).0
head_below e es rising i d l = rising 0 (suc i) d (omega arith) (omega (arith, l))

pub never_falls : (es : List (ℕ × ℕ)) → IsRising es → (i j : ℕ) (d : ℕ × ℕ) → i ≤ j → j < length es → (slice_index_or es i d).0 ≤ (slice_index_or es j d).0
never_falls es rising i j d l m = ⊎_elim (λ less. let rises = rising i j d less m in omega (arith, rises)) (λ more. same (omega (arith, l, more))) (cases_lt i j)
  where
    same : i ≡ j → (slice_index_or es i d).0 ≤ (slice_index_or es j d).0
    same e = subst (λ (k : ℕ). (slice_index_or es i d).0 ≤ (slice_index_or es k d).0) e (omega arith)

-- the entries that start with this one, where its offset is k and where it isn't
at_head : (e : ℕ × ℕ) (es : List (ℕ × ℕ)) (k : ℕ) → k ≡ e.0 → label_in (e ∷ es) k ≡ Some e.1
at_head e es k is = ap (λ (b : Bool). if b then Some e.1 else label_in es k) (eq-eqb k e.0 is)

past_head : (e : ℕ × ℕ) (es : List (ℕ × ℕ)) (k : ℕ) → (k ≡ e.0 → ⊥) → label_in (e ∷ es) k ≡ label_in es k
past_head e es k apart = ap (λ (b : Bool). if b then Some e.1 else label_in es k) (ne_eqb k e.0 apart)

-- an offset that no entry has
pub none_in : (es : List (ℕ × ℕ)) (k : ℕ) → ((i : ℕ) (d : ℕ × ℕ) → i < length es → (slice_index_or es i d).0 ≡ k → ⊥) → label_in es k ≡ None
none_in [] k apart = refl
none_in (e ∷ es) k apart = past_head e es k (λ is. apart 0 e (omega arith) (sym is)) ∙ none_in es k (λ i d l is. apart (suc i) d (omega (arith, l)) is)

pub entry_here : (es : List (ℕ × ℕ)) (i : ℕ) (d : ℕ × ℕ) → IsRising es → i < length es → label_in es (slice_index_or es i d).0 ≡ Some (slice_index_or es i d).1
entry_here [] i d rising l = absurd (omega (arith, l))
entry_here (e ∷ es) zero d rising l = at_head e es e.0 refl
entry_here (e ∷ es) (suc i) d rising l =
    let below = head_below e es rising i d (omega (arith, l)) in
    past_head e es (slice_index_or es i d).0 (λ is. absurd (omega (arith, is, below))) ∙ entry_here es i d (tail_rises e es rising) (omega (arith, l))

-- an offset that would stand between the entries
pub none_between : (es : List (ℕ × ℕ)) (k place : ℕ) → IsGapFor es k place → label_in es k ≡ None
none_between es k place gap = none_in es k (λ i d l is. ⊎_elim (λ less. absurd (low i d is (gap.below i d (omega arith) less))) (λ more. absurd (high i d is (gap.above i d more l))) (cases_lt i place))
  where
    low : (i : ℕ) (d : ℕ × ℕ) → (slice_index_or es i d).0 ≡ k → (slice_index_or es i d).0 < k → ⊥
    low i d is less = omega (arith, is, less)

    high : (i : ℕ) (d : ℕ × ℕ) → (slice_index_or es i d).0 ≡ k → k < (slice_index_or es i d).0 → ⊥
    high i d is more = omega (arith, is, more)

-- where all entries are above an offset, none up to it has a label
pub none_up_to : (es : List (ℕ × ℕ)) (count n : ℕ) → count ≡ 0 → AllWithin (λ e. n < e.0) es count (length es) → (k : ℕ) → k ≤ n → label_in es k ≡ None
none_up_to es count n none above k le = none_in es k (λ i d l is. against i d is (above i d (omega (arith, none)) l))
  where
    against : (i : ℕ) (d : ℕ × ℕ) → (slice_index_or es i d).0 ≡ k → n < (slice_index_or es i d).0 → ⊥
    against i d is more = omega (arith, is, more, le)

-- the last entry up to an offset
pub last_of : (es : List (ℕ × ℕ)) (count n : ℕ) (x : ℕ × ℕ) → IsRising es → (count ≡ 0 → ⊥) → count ≤ length es → AllWithin (λ e. e.0 ≤ n) es 0 count → AllWithin (λ e. n < e.0) es count (length es)
    → x ≡ slice_index_or es (count - 1) x → IsLastIn (label_in es) n x.0 x.1
last_of es count n x rising many bound to behind is = record {
  before = let low = to (count - 1) x (omega arith) (omega (arith, some)) in subst (λ (y : ℕ × ℕ). y.0 ≤ n) (sym is) low;
  has = subst (λ (y : ℕ × ℕ). label_in es y.0 ≡ Some y.1) (sym is) (entry_here es (count - 1) x rising lt);
  last = λ k le labelled. ⊎_elim (λ more. absurd (false≢true (subst IsSome (none k le more) labelled))) (λ less. less) (cases_lt x.0 k);
}
  where
    some : 0 < count
    some = ⊎_elim (λ more. more) (λ less. absurd (many (omega (arith, less)))) (cases_lt 0 count)

    lt : count - 1 < length es
    lt = omega (arith, some, bound)

    top : (slice_index_or es (count - 1) x).0 ≡ x.0
    top = ap (λ (y : ℕ × ℕ). y.0) (sym is)

    up_to : (i : ℕ) → i < count → (slice_index_or es i x).0 ≤ x.0
    up_to i l = ⊎_elim (λ less. let rises = rising i (count - 1) x less lt in omega (arith, rises, top)) (λ more. same i (omega (arith, l, more))) (cases_lt i (count - 1))
      where
        same : (j : ℕ) → j ≡ count - 1 → (slice_index_or es j x).0 ≤ x.0
        same j e = subst (λ (m : ℕ). (slice_index_or es m x).0 ≤ x.0) (sym e) (omega (arith, top))

    none : (k : ℕ) → k ≤ n → x.0 < k → label_in es k ≡ None
    none k le more = none_in es k (λ i d l e. ⊎_elim (λ less. absurd (low i d l less e)) (λ over. absurd (high i d e (behind i d over l))) (cases_lt i count))
      where
        low : (i : ℕ) (d : ℕ × ℕ) → i < length es → i < count → (slice_index_or es i d).0 ≡ k → ⊥
        low i d l less e =
            let own = up_to i less in
            let same = ap (λ (y : ℕ × ℕ). y.0) (get_or_default es i d x l) in
            omega (arith, own, same, e, more)

        high : (i : ℕ) (d : ℕ × ℕ) → (slice_index_or es i d).0 ≡ k → n < (slice_index_or es i d).0 → ⊥
        high i d e over = omega (arith, e, over, le)

-- ---- an entry that is changed in place
label_set : (es : List (ℕ × ℕ)) (i k label : ℕ) → IsRising es → i < length es → ((d : ℕ × ℕ) → (slice_index_or es i d).0 ≡ k) → (q : ℕ) → label_in (slice_set es i (k, label)) q ≡ (if nat_eq k q then Some label else label_in es q)
label_set [] i k label rising l is q = absurd (omega (arith, l))
label_set (e ∷ es) zero k label rising l is q = ⊎_elim here apart (cases_eq q k)
  where
    own : e.0 ≡ k
    own = is e

    here : q ≡ k → label_in ((k, label) ∷ es) q ≡ (if nat_eq k q then Some label else label_in (e ∷ es) q)
    here same = at_head (k, label) es q same ∙ sym (ap (λ (b : Bool). if b then Some label else label_in (e ∷ es) q) (eq-eqb k q (sym same)))

    apart : (q ≡ k → ⊥) → label_in ((k, label) ∷ es) q ≡ (if nat_eq k q then Some label else label_in (e ∷ es) q)
    apart other = past_head (k, label) es q other ∙ sym (past_head e es q (λ same. other (same ∙ own))) ∙ sym (ap (λ (b : Bool). if b then Some label else label_in (e ∷ es) q) (ne_eqb k q (λ same. other (sym same))))
label_set (e ∷ es) (suc i) k label rising l is q = ⊎_elim here (apart (label_set es i k label (tail_rises e es rising) (omega (arith, l)) is q)) (cases_eq q e.0)
  where
    below : e.0 < k
    below = let rises = head_below e es rising i e (omega (arith, l)) in let same = is e in omega (arith, rises, same)

    here : q ≡ e.0 → label_in (e ∷ slice_set es i (k, label)) q ≡ (if nat_eq k q then Some label else label_in (e ∷ es) q)
    here same = at_head e (slice_set es i (k, label)) q same ∙ sym (at_head e es q same) ∙ sym (ap (λ (b : Bool). if b then Some label else label_in (e ∷ es) q) (ne_eqb k q (λ equal. omega (arith, equal, same, below))))

    apart : label_in (slice_set es i (k, label)) q ≡ (if nat_eq k q then Some label else label_in es q) → (q ≡ e.0 → ⊥) → label_in (e ∷ slice_set es i (k, label)) q ≡ (if nat_eq k q then Some label else label_in (e ∷ es) q)
    apart rest other =
        past_head e (slice_set es i (k, label)) q other
        ∙ rest
        ∙ ap (λ (o : Option ℕ). if nat_eq k q then Some label else o) (sym (past_head e es q other))

-- ---- an entry that is taken out
label_removed : (es : List (ℕ × ℕ)) (i k : ℕ) → IsRising es → i < length es → ((d : ℕ × ℕ) → (slice_index_or es i d).0 ≡ k) → (q : ℕ) → label_in (remove es i) q ≡ (if nat_eq k q then None else label_in es q)
label_removed [] i k rising l is q = absurd (omega (arith, l))
label_removed (e ∷ es) zero k rising l is q = ⊎_elim here apart (cases_eq q k)
  where
    own : e.0 ≡ k
    own = is e

    here : q ≡ k → label_in es q ≡ (if nat_eq k q then None else label_in (e ∷ es) q)
    here same = none_in es q (λ i d m equal. let rises = head_below e es rising i d m in omega (arith, rises, equal, same, own)) ∙ sym (ap (λ (b : Bool). if b then None else label_in (e ∷ es) q) (eq-eqb k q (sym same)))

    apart : (q ≡ k → ⊥) → label_in es q ≡ (if nat_eq k q then None else label_in (e ∷ es) q)
    apart other = sym (past_head e es q (λ same. other (same ∙ own))) ∙ sym (ap (λ (b : Bool). if b then None else label_in (e ∷ es) q) (ne_eqb k q (λ same. other (sym same))))
label_removed (e ∷ es) (suc i) k rising l is q = ⊎_elim here (apart (label_removed es i k (tail_rises e es rising) (omega (arith, l)) is q)) (cases_eq q e.0)
  where
    below : e.0 < k
    below = let rises = head_below e es rising i e (omega (arith, l)) in let same = is e in omega (arith, rises, same)

    here : q ≡ e.0 → label_in (e ∷ remove es i) q ≡ (if nat_eq k q then None else label_in (e ∷ es) q)
    here same = at_head e (remove es i) q same ∙ sym (at_head e es q same) ∙ sym (ap (λ (b : Bool). if b then None else label_in (e ∷ es) q) (ne_eqb k q (λ equal. omega (arith, equal, same, below))))

    apart : label_in (remove es i) q ≡ (if nat_eq k q then None else label_in es q) → (q ≡ e.0 → ⊥) → label_in (e ∷ remove es i) q ≡ (if nat_eq k q then None else label_in (e ∷ es) q)
    apart rest other =
        past_head e (remove es i) q other
        ∙ rest
        ∙ ap (λ (o : Option ℕ). if nat_eq k q then None else o) (sym (past_head e es q other))

pub label_put : (es : List (ℕ × ℕ)) (k i label : ℕ) → IsRising es → IsEntryOf es k i → (q : ℕ) → label_in (slice_set es i (k, label)) q ≡ (if nat_eq k q then Some label else label_in es q)
label_put es k i label rising at = label_set es i k label rising at.there at.is

pub label_dropped : (es : List (ℕ × ℕ)) (k i : ℕ) → IsRising es → IsEntryOf es k i → (q : ℕ) → label_in (remove es i) q ≡ (if nat_eq k q then None else label_in es q)
label_dropped es k i rising at = label_removed es i k rising at.there at.is

module _ (es : List (ℕ × ℕ)) (p : ℕ) (there : p < length es) where
  removed_below : (i : ℕ) (d : ℕ × ℕ) → i < p → (slice_index_or (remove es p) i d).0 ≡ (slice_index_or es i d).0
  removed_below i d l = ap (λ (y : ℕ × ℕ). y.0) (get_or-remove_below es p d i l there)

  removed_above : (i : ℕ) (d : ℕ × ℕ) → p ≤ i → (slice_index_or (remove es p) i d).0 ≡ (slice_index_or es (i + 1) d).0
  removed_above i d l = ap (λ (y : ℕ × ℕ). y.0) (get_or-remove_above es p d i l there)

  pub rises_removed : IsRising es → IsRising (remove es p)
  rises_removed rising i j d l m = ⊎_elim (λ first. ⊎_elim (λ second. both first second) (λ second. across first second) (cases_lt j p)) (λ first. above first) (cases_lt i p)
    where
      long : length (remove es p) + 1 ≡ length es
      long = length-remove es p there

      both : i < p → j < p → (slice_index_or (remove es p) i d).0 < (slice_index_or (remove es p) j d).0
      both a b =
          let x = removed_below i d a in
          let y = removed_below j d b in
          let rises = rising i j d l (omega (arith, m, long)) in
          omega (arith, x, y, rises)

      across : i < p → p ≤ j → (slice_index_or (remove es p) i d).0 < (slice_index_or (remove es p) j d).0
      across a b =
          let x = removed_below i d a in
          let y = removed_above j d b in
          let rises = rising i (j + 1) d (omega (arith, l)) (omega (arith, m, long)) in
          omega (arith, x, y, rises)

      above : p ≤ i → (slice_index_or (remove es p) i d).0 < (slice_index_or (remove es p) j d).0
      above a =
          let x = removed_above i d a in
          let y = removed_above j d (omega (arith, a, l)) in
          let rises = rising (i + 1) (j + 1) d (omega (arith, l)) (omega (arith, m, long)) in
          omega (arith, x, y, rises)

  pub small_removed : All (λ e. e.0 < 64) es → All (λ e. e.0 < 64) (remove es p)
  small_removed small i d l = ⊎_elim (λ a. below a) (λ a. above a) (cases_lt i p)
    where
      long : length (remove es p) + 1 ≡ length es
      long = length-remove es p there

      below : i < p → (slice_index_or (remove es p) i d).0 < 64
      below a =
          let x = removed_below i d a in
          let own = small i d (omega (arith, l, long)) in
          omega (arith, x, own)

      above : p ≤ i → (slice_index_or (remove es p) i d).0 < 64
      above a =
          let x = removed_above i d a in
          let own = small (i + 1) d (omega (arith, l, long)) in
          omega (arith, x, own)

-- ---- a new entry
pub label_inserted : (es : List (ℕ × ℕ)) (k place label : ℕ) → IsGapFor es k place → (q : ℕ) → label_in (insert es place (k, label)) q ≡ (if nat_eq k q then Some label else label_in es q)
label_inserted es k place label gap q = lookup-insert nat_eq_equiv k label q es place (none_passes_from_lookup (nat_eq k) es (none_between es k place gap))

module _ (es : List (ℕ × ℕ)) (k p label : ℕ) (gap : IsGapFor es k p) where
  bound : p ≤ length es
  bound = gap.bound

  inserted_below : (i : ℕ) (d : ℕ × ℕ) → i < p → (slice_index_or (insert es p (k, label)) i d).0 ≡ (slice_index_or es i d).0
  inserted_below i d l = ap (λ (y : ℕ × ℕ). y.0) (get_or-insert_below es p (k, label) d i l bound)

  inserted_at : (i : ℕ) (d : ℕ × ℕ) → i ≡ p → (slice_index_or (insert es p (k, label)) i d).0 ≡ k
  inserted_at i d e = subst (λ (j : ℕ). (slice_index_or (insert es p (k, label)) j d).0 ≡ k) (sym e) (ap (λ (y : ℕ × ℕ). y.0) (get_or-insert_at es p (k, label) d bound))

  inserted_above : (i : ℕ) (d : ℕ × ℕ) → p < i → (slice_index_or (insert es p (k, label)) i d).0 ≡ (slice_index_or es (i - 1) d).0
  inserted_above i d l =
      let next : i - 1 + 1 ≡ i = omega (arith, l) in
      subst (λ (j : ℕ). (slice_index_or (insert es p (k, label)) j d).0 ≡ (slice_index_or es (i - 1) d).0) next (ap (λ (y : ℕ × ℕ). y.0) (get_or-insert_above es p (k, label) d (i - 1) (omega (arith, l)) bound))

  long : length (insert es p (k, label)) ≡ length es + 1
  long = length-insert es p (k, label) bound

  pub rises_inserted : IsRising es → IsRising (insert es p (k, label))
  rises_inserted rising i j d l m = ⊎_elim (λ e. at e) (λ o. ⊎_elim (λ b. ahead b) (λ b. behind b) o) (cases_order j p)
    where
      at : j ≡ p → (slice_index_or (insert es p (k, label)) i d).0 < (slice_index_or (insert es p (k, label)) j d).0
      at e =
          let x = inserted_below i d (omega (arith, l, e)) in
          let y = inserted_at j d e in
          let low = gap.below i d (omega arith) (omega (arith, l, e)) in
          omega (arith, x, y, low)

      ahead : j < p → (slice_index_or (insert es p (k, label)) i d).0 < (slice_index_or (insert es p (k, label)) j d).0
      ahead b =
          let x = inserted_below i d (omega (arith, l, b)) in
          let y = inserted_below j d b in
          let rises = rising i j d l (omega (arith, b, bound)) in
          omega (arith, x, y, rises)

      behind : p < j → (slice_index_or (insert es p (k, label)) i d).0 < (slice_index_or (insert es p (k, label)) j d).0
      behind b = ⊎_elim (λ e. here e) (λ o. ⊎_elim (λ a. low a) (λ a. high a) o) (cases_order i p)
        where
          y : (slice_index_or (insert es p (k, label)) j d).0 ≡ (slice_index_or es (j - 1) d).0
          y = inserted_above j d b

          here : i ≡ p → (slice_index_or (insert es p (k, label)) i d).0 < (slice_index_or (insert es p (k, label)) j d).0
          here e =
              let x = inserted_at i d e in
              let more = gap.above (j - 1) d (omega (arith, b)) (omega (arith, b, m, long)) in
              omega (arith, x, y, more)

          low : i < p → (slice_index_or (insert es p (k, label)) i d).0 < (slice_index_or (insert es p (k, label)) j d).0
          low a =
              let x = inserted_below i d a in
              let rises = rising i (j - 1) d (omega (arith, a, b)) (omega (arith, b, m, long)) in
              omega (arith, x, y, rises)

          high : p < i → (slice_index_or (insert es p (k, label)) i d).0 < (slice_index_or (insert es p (k, label)) j d).0
          high a =
              let x = inserted_above i d a in
              let rises = rising (i - 1) (j - 1) d (omega (arith, a, l)) (omega (arith, b, m, long)) in
              omega (arith, x, y, rises)

  pub small_inserted : k < 64 → All (λ e. e.0 < 64) es → All (λ e. e.0 < 64) (insert es p (k, label))
  small_inserted low small i d l = ⊎_elim (λ e. at e) (λ o. ⊎_elim (λ a. ahead a) (λ a. behind a) o) (cases_order i p)
    where
      at : i ≡ p → (slice_index_or (insert es p (k, label)) i d).0 < 64
      at e = let x = inserted_at i d e in omega (arith, x, low)

      ahead : i < p → (slice_index_or (insert es p (k, label)) i d).0 < 64
      ahead a =
          let x = inserted_below i d a in
          let own = small i d (omega (arith, a, bound)) in
          omega (arith, x, own)

      behind : p < i → (slice_index_or (insert es p (k, label)) i d).0 < 64
      behind a =
          let x = inserted_above i d a in
          let own = small (i - 1) d (omega (arith, a, l, long)) in
          omega (arith, x, own)

-- where a number has no label, taking it away changes nothing
pub removed_none : (f : ℕ → Option ℕ) (n : ℕ) → f n ≡ None → (k : ℕ) → f k ≡ (if nat_eq n k then None else f k)
removed_none f n none k = ⊎_elim (λ same. ap f (sym same) ∙ none ∙ sym (ap (λ (b : Bool). if b then None else f k) (eq-eqb n k same))) (λ other. sym (ap (λ (b : Bool). if b then None else f k) (ne_eqb n k other))) (cases_eq n k)

-- without entries nothing has a label
pub none_without : (es : List (ℕ × ℕ)) (k : ℕ) → nat_lt 0 (length es) ≡ false → label_in es k ≡ None
none_without [] k none = refl
none_without (e ∷ es) k none = absurd (false≢true (sym none ∙ lt-ltb 0 (length (e ∷ es)) (omega arith)))
