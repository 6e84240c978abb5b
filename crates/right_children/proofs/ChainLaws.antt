-- Chains: which one has a position, and how one more position is put behind.
use Rattle.std.proofs.Common.{◌≡◌, ℕ, zero, suc, ◌-◌, ◌<◌, ◌≤◌, Bool, true, false, ◌&&◌, Option, Some, None, IfNone, List, [], ◌∷◌, ◌++◌, length, set, slice_get, slice_index_or, nat_eq, nat_le, nat_lt, if◌then◌else◌, refl, sym, ap, ◌∙◌, subst, arith}
use Rattle.std.proofs.lemmas.Bool.{false≢true, false_from_ne_true, and_parts, leb-true, ltb-true, ltb-false, le-leb, eqb-true, eq-eqb}
use Rattle.std.proofs.lemmas.Option.{same_Some, slice_get-get_or, slice_get_read, slice_get_within, get_or_from_slice_get}
use Rattle.ew_model.specs.declared.node.Node.{Node}
use Rattle.ew_model.specs.declared.node.Node.TheVariants.{Event}
use Rattle.right_children.specs.declared.chains.Chain.{Chain}
use Rattle.right_children.specs.Chains.{holds, parent_by, parent_in, AreInOrder, AreBelow, HasAt, IsPlaceOf, IsHeldBy, Tells, IsNextOf}

-- THEIR ORDER
pub chain_within : (cs : List Chain) (low k : ℕ) (c : Chain) → AreInOrder low cs → slice_get cs k ≡ Some c → (low ≤ c.first) × (c.first ≤ c.last)
chain_within [] low k c are e = absurd cc
chain_within (d ∷ cs) low zero c are e = subst (λ (x : Chain). (low ≤ x.first) × (x.first ≤ x.last)) (same_Some d c e) (are.0, are.1)
chain_within (d ∷ cs) low (suc k) c are e =
    let ih = chain_within cs (suc d.last) k c are.2 e in
    let from = ih.0 in
    let first = are.0 in
    let order = are.1 in
    (omega (arith, from, first, order), ih.1)

ends_rise : (cs : List Chain) (low i j : ℕ) (c d : Chain) → AreInOrder low cs → i ≤ j → slice_get cs i ≡ Some c → slice_get cs j ≡ Some d → c.last ≤ d.last
ends_rise [] low i j c d are l e f = absurd cc
ends_rise (x ∷ cs) low zero zero c d are l e f =
    let one = ap (λ (y : Chain). y.last) (same_Some x c e) in
    let other = ap (λ (y : Chain). y.last) (same_Some x d f) in
    omega (arith, one, other)
ends_rise (x ∷ cs) low zero (suc j) c d are l e f =
    let within = chain_within cs (suc x.last) j d are.2 f in
    let from = within.0 in
    let order = within.1 in
    let same = ap (λ (y : Chain). y.last) (same_Some x c e) in
    omega (arith, from, order, same)
ends_rise (x ∷ cs) low (suc i) zero c d are l e f = absurd (omega (arith, l))
ends_rise (x ∷ cs) low (suc i) (suc j) c d are l e f = ends_rise cs (suc x.last) i j c d are.2 (omega (arith, l)) e f

pub starts_rise : (cs : List Chain) (low i j : ℕ) (d : Chain) → AreInOrder low cs → i ≤ j → j < length cs → (slice_index_or cs i d).first ≤ (slice_index_or cs j d).first
starts_rise [] low i j d are l m = absurd (omega (arith, m))
starts_rise (x ∷ cs) low zero zero d are l m = omega arith
starts_rise (x ∷ cs) low (suc i) zero d are l m = absurd (omega (arith, l))
starts_rise (x ∷ cs) low zero (suc j) d are l m =
    let from = (chain_within cs (suc x.last) j (slice_index_or cs j d) are.2 (slice_get-get_or cs j d (omega (arith, m)))).0 in
    let order = are.1 in
    omega (arith, from, order)
starts_rise (x ∷ cs) low (suc i) (suc j) d are l m = starts_rise cs (suc x.last) i j d are.2 (omega (arith, l)) (omega (arith, m))

pub all_begin : (cs : List Chain) (n : ℕ) (c : Chain) → AreInOrder 0 cs → slice_get cs (length cs - 1) ≡ Some c → c.first ≤ n → (k : ℕ) (d : Chain) → 0 ≤ k → k < length cs → (slice_index_or cs k d).first ≤ n
all_begin cs n c are e le k d low high =
    let rise = starts_rise cs 0 k (length cs - 1) d are (omega (arith, high)) (omega (arith, high)) in
    let last = ap (λ (x : Chain). x.first) (get_or_from_slice_get cs (length cs - 1) c d e) in
    omega (arith, rise, last, le)

pub all_below : (cs : List Chain) (n : ℕ) (c : Chain) → AreInOrder 0 cs → slice_get cs (length cs - 1) ≡ Some c → c.last < n → AreBelow n cs
all_below cs n c are e lt k d f =
    let high = slice_get_within cs k d f in
    let rise = ends_rise cs 0 k (length cs - 1) d c are (omega (arith, high)) f e in
    omega (arith, rise, lt)

-- WHICH ONE HAS A POSITION
pub held : (c : Chain) (n : ℕ) → c.first ≤ n → n ≤ c.last → holds c n ≡ true
held c n low high = λ i. le-leb c.first n low i && le-leb n c.last high i

pub unheld : (c : Chain) (n : ℕ) → (c.first ≤ n → n ≤ c.last → ⊥) → holds c n ≡ false
unheld c n none = false_from_ne_true (holds c n) (λ h.
    let parts = and_parts (nat_le c.first n) (nat_le n c.last) h in
    none (leb-true c.first n parts.0) (leb-true n c.last parts.1))

found_at : (cs : List Chain) (low k n : ℕ) (c : Chain) → AreInOrder low cs → slice_get cs k ≡ Some c → c.first ≤ n → n ≤ c.last → parent_in cs n ≡ Some (parent_by c n)
found_at [] low k n c are e l h = absurd cc
found_at (d ∷ cs) low zero n c are e l h =
    let same = same_Some d c e in
    let first = ap (λ (x : Chain). x.first) same in
    let last = ap (λ (x : Chain). x.last) same in
    ap (λ (b : Bool). if b then Some (parent_by d n) else parent_in cs n) (held d n (omega (arith, first, l)) (omega (arith, last, h))) ∙ ap (λ (x : Chain). Some (parent_by x n)) same
found_at (d ∷ cs) low (suc k) n c are e l h =
    let from = (chain_within cs (suc d.last) k c are.2 e).0 in
    ap (λ (b : Bool). if b then Some (parent_by d n) else parent_in cs n) (unheld d n (λ low high. absurd (omega (arith, from, l, high)))) ∙ found_at cs (suc d.last) k n c are.2 e l h

none_held : (cs : List Chain) (n : ℕ) → ((k : ℕ) (c : Chain) → slice_get cs k ≡ Some c → c.first ≤ n → n ≤ c.last → ⊥) → parent_in cs n ≡ None
none_held [] n none = refl
none_held (d ∷ cs) n none = ap (λ (b : Bool). if b then Some (parent_by d n) else parent_in cs n) (unheld d n (none 0 d refl)) ∙ none_held cs n (λ k c e. none (suc k) c e)

pub below_none : (cs : List Chain) (n : ℕ) → AreBelow n cs → parent_in cs n ≡ None
below_none cs n below = none_held cs n (λ k c e low high. let lt = below k c e in absurd (omega (arith, lt, high)))

linked : (cs : List Chain) (p n : ℕ) (c : Chain) → AreInOrder 0 cs → IsHeldBy cs p c → p < n → n ≤ c.last → (0 < n) × (parent_in cs n ≡ Some (Event (n - 1)))
linked cs p n c are by l h =
    let low = by.low in
    let later : nat_eq n c.first ≡ false = false_from_ne_true (nat_eq n c.first) (λ e. let same = eqb-true n c.first e in absurd (omega (arith, same, low, l))) in (
      omega (arith, l),
      found_at cs 0 by.place n c are by.there (omega (arith, low, l)) h ∙ ap (λ (b : Bool). Some (if b then c.parent else Event (n - 1))) later,
    )

pub tells : (cs : List Chain) (n : ℕ) (c : Chain) → AreInOrder 0 cs → IsHeldBy cs n c → Tells cs n c
tells cs n c are by = record {
  low = by.low;
  high = by.high;
  own = found_at cs 0 by.place n c are by.there by.low by.high;
  behind = λ k low high. linked cs n k c are by (omega (arith, low)) (omega (arith, high));
}

-- WHERE THAT ONE STANDS
one_place : (cs : List Chain) (low i j n : ℕ) (c d : Chain) → AreInOrder low cs → slice_get cs i ≡ Some c → slice_get cs j ≡ Some d → c.first ≤ n → n ≤ c.last → d.first ≤ n → n ≤ d.last → i ≡ j
one_place [] low i j n c d are e f cl ch dl dh = absurd cc
one_place (x ∷ cs) low zero zero n c d are e f cl ch dl dh = refl
one_place (x ∷ cs) low zero (suc j) n c d are e f cl ch dl dh =
    let from = (chain_within cs (suc x.last) j d are.2 f).0 in
    let same = ap (λ (y : Chain). y.last) (same_Some x c e) in
    absurd (omega (arith, from, same, ch, dl))
one_place (x ∷ cs) low (suc i) zero n c d are e f cl ch dl dh =
    let from = (chain_within cs (suc x.last) i c are.2 e).0 in
    let same = ap (λ (y : Chain). y.last) (same_Some x d f) in
    absurd (omega (arith, from, same, cl, dh))
one_place (x ∷ cs) low (suc i) (suc j) n c d are e f cl ch dl dh = ap suc (one_place cs (suc x.last) i j n c d are.2 e f cl ch dl dh)

pub place_of : (cs : List Chain) (n place : ℕ) → AreInOrder 0 cs → HasAt cs n place → IsPlaceOf cs n place
place_of cs n place are has k c e low high = one_place cs 0 k place n c has.0 are e has.1 low high has.2 has.3

rises : (cs : List Chain) (low i j : ℕ) (c d : Chain) → AreInOrder low cs → i < j → slice_get cs i ≡ Some c → slice_get cs j ≡ Some d → c.last < d.first
rises [] low i j c d are l e f = absurd cc
rises (x ∷ cs) low zero zero c d are l e f = absurd (omega (arith, l))
rises (x ∷ cs) low zero (suc j) c d are l e f =
    let from = (chain_within cs (suc x.last) j d are.2 f).0 in
    let same = ap (λ (y : Chain). y.last) (same_Some x c e) in
    omega (arith, from, same)
rises (x ∷ cs) low (suc i) zero c d are l e f = absurd (omega (arith, l))
rises (x ∷ cs) low (suc i) (suc j) c d are l e f = rises cs (suc x.last) i j c d are.2 (omega (arith, l)) e f

-- the last of the chains that begin up to the position
pub place_behind : (cs : List Chain) (n b : ℕ) → AreInOrder 0 cs → b ≤ length cs → ((k : ℕ) (d : Chain) → 0 ≤ k → k < b → (slice_index_or cs k d).first ≤ n) → ((k : ℕ) (d : Chain) → b ≤ k → k < length cs → n < (slice_index_or cs k d).first)
    → IsPlaceOf cs n (b - 1)
place_behind cs n b are bound to behind k c e low high = at (nat_lt k b) refl
  where
    read : (slice_index_or cs k c).first ≡ c.first
    read = ap (λ (x : Chain). x.first) (get_or_from_slice_get cs k c c e)

    near : k < b → (t : Bool) → nat_lt k (b - 1) ≡ t → k ≡ b - 1
    near less true t =
        let before = ltb-true k (b - 1) t in
        let there = slice_get-get_or cs (b - 1) c (omega (arith, less, bound)) in
        let rise = rises cs 0 k (b - 1) c (slice_index_or cs (b - 1) c) are before e there in
        let begun = to (b - 1) c (omega arith) (omega (arith, less)) in
        absurd (omega (arith, rise, begun, high))
    near less false t = let le = ltb-false k (b - 1) t in omega (arith, less, le)

    at : (t : Bool) → nat_lt k b ≡ t → k ≡ b - 1
    at true t = near (ltb-true k b t) (nat_lt k (b - 1)) refl
    at false t =
        let far = behind k c (ltb-false k b t) (slice_get_within cs k c e) in
        absurd (omega (arith, far, read, low))

-- no chain at that place has it
pub none_at : (cs : List Chain) (n place : ℕ) → IsPlaceOf cs n place → ((c : Chain) → slice_get cs place ≡ Some c → c.first ≤ n → n ≤ c.last → ⊥) → parent_in cs n ≡ None
none_at cs n place of none = none_held cs n (λ k c e low high. none c (sym (ap (slice_get cs) (of k c e low high)) ∙ e) low high)

-- nor the one that is looked at
pub none_of : (cs : List Chain) (n place : ℕ) (c : Chain) (o : Option Chain) → IsPlaceOf cs n place → slice_get cs place ≡ Some c → IfNone o (c.first ≤ n → n ≤ c.last → ⊥) → IfNone o (parent_in cs n ≡ None)
none_of cs n place c None of there none = none_at cs n place of (λ d e low high. let same = ap (λ (x : Chain). x.first) (same_Some c d (sym there ∙ e)) in let other = ap (λ (x : Chain). x.last) (same_Some c d (sym there ∙ e)) in none (omega (arith, same, low)) (omega (arith, other, high)))
none_of cs n place c (Some d) of there none = tt

-- ONE MORE BEHIND
abbrev pub alone : ℕ → Node → Chain
alone p v = record { first = p; last = p; parent = v }

abbrev pub longer : Chain → ℕ → Chain
longer c p = record { first = c.first; last = p; parent = c.parent }

-- a position behind the chain
swapped : (d : Chain) (p n : ℕ) (v w x : Option Node) → d.last < p → (if holds d n then x else (if nat_eq p n then v else w)) ≡ (if nat_eq p n then v else (if holds d n then x else w))
swapped d p n v w x lt = at (nat_eq p n) refl
  where
    at : (b : Bool) → nat_eq p n ≡ b → (if holds d n then x else (if b then v else w)) ≡ (if b then v else (if holds d n then x else w))
    at true e = let same = eqb-true p n e in ap (λ (h : Bool). if h then x else v) (unheld d n (λ low high. absurd (omega (arith, same, lt, high))))
    at false e = refl

single : (p n : ℕ) (v : Node) → (if holds (alone p v) n then Some (parent_by (alone p v) n) else None) ≡ (if nat_eq p n then Some v else None)
single p n v = at (nat_eq p n) refl
  where
    at : (b : Bool) → nat_eq p n ≡ b → (if holds (alone p v) n then Some (parent_by (alone p v) n) else None) ≡ (if b then Some v else None)
    at true e =
        let same = eqb-true p n e in
        ap (λ (h : Bool). if h then Some (parent_by (alone p v) n) else None) (held (alone p v) n (omega (arith, same)) (omega (arith, same)))
        ∙ ap (λ (h : Bool). Some (if h then v else Event (n - 1))) (eq-eqb n p (sym same))
    at false e =
        ap (λ (h : Bool). if h then Some (parent_by (alone p v) n) else None) (unheld (alone p v) n (λ low high. false≢true (sym e ∙ eq-eqb p n (omega (arith, low, high)))))

pub pushed : (cs : List Chain) (low p : ℕ) (v : Node) → AreInOrder low cs → low ≤ p → AreBelow p cs
    → AreInOrder low (cs ++ alone p v ∷ []) × ((n : ℕ) → parent_in (cs ++ alone p v ∷ []) n ≡ (if nat_eq p n then Some v else parent_in cs n))
pushed [] low p v are le below = ((le, omega arith, tt), λ n. single p n v)
pushed (d ∷ cs) low p v are le below =
    let lt = below 0 d refl in
    let ih = pushed cs (suc d.last) p v are.2 (omega (arith, lt)) (λ k c e. below (suc k) c e) in (
      (are.0, are.1, ih.0),
      λ n. ap (λ (o : Option Node). if holds d n then Some (parent_by d n) else o) (ih.1 n) ∙ swapped d p n (Some v) (parent_in cs n) (Some (parent_by d n)) lt,
    )

one_longer : (c : Chain) (p n : ℕ) → c.first ≤ c.last → p ≡ suc c.last
    → (if holds (longer c p) n then Some (parent_by c n) else None) ≡ (if nat_eq p n then Some (Event c.last) else (if holds c n then Some (parent_by c n) else None))
one_longer c p n order next = at (nat_eq p n) refl
  where
    at : (b : Bool) → nat_eq p n ≡ b → (if holds (longer c p) n then Some (parent_by c n) else None) ≡ (if b then Some (Event c.last) else (if holds c n then Some (parent_by c n) else None))
    at true e =
        let same = eqb-true p n e in
        let later : nat_eq n c.first ≡ false = false_from_ne_true (nat_eq n c.first) (λ f. let first = eqb-true n c.first f in absurd (omega (arith, first, same, order, next))) in
        let before : n - 1 ≡ c.last = omega (arith, same, next) in
        ap (λ (h : Bool). if h then Some (parent_by c n) else None) (held (longer c p) n (omega (arith, same, order, next)) (omega (arith, same)))
        ∙ ap (λ (h : Bool). Some (if h then c.parent else Event (n - 1))) later ∙ ap (λ (k : ℕ). Some (Event k)) before
    at false e = ap (λ (h : Bool). if nat_le c.first n && h then Some (parent_by c n) else None) (by (nat_le n c.last) refl)
      where
        by : (b : Bool) → nat_le n c.last ≡ b → nat_le n p ≡ b
        by true t = let le = leb-true n c.last t in le-leb n p (omega (arith, le, next))
        by false t = false_from_ne_true (nat_le n p) (λ h.
            let le = leb-true n p h in
            past le (nat_eq n p) refl)
          where
            past : n ≤ p → (b : Bool) → nat_eq n p ≡ b → ⊥
            past le true f = let same = eqb-true n p f in false≢true (sym e ∙ eq-eqb p n (sym same))
            past le false f = false≢true (sym t ∙ le-leb n c.last (less le (λ same. false≢true (sym f ∙ eq-eqb n p same))))
              where
                less : n ≤ p → (n ≡ p → ⊥) → n ≤ c.last
                less le other = omega (arith, le, other, next)

lengthened : (cs : List Chain) (low k p : ℕ) (c : Chain) → AreInOrder low cs → length cs ≡ suc k → slice_get cs k ≡ Some c → p ≡ suc c.last
    → AreInOrder low (set cs k (longer c p)) × ((n : ℕ) → parent_in (set cs k (longer c p)) n ≡ (if nat_eq p n then Some (Event c.last) else parent_in cs n))
lengthened [] low k p c are long e next = absurd (omega (arith, long))
lengthened (d ∷ []) low zero p c are long e next =
    let within = chain_within (d ∷ []) low 0 c are e in
    let order = within.1 in (
      (within.0, omega (arith, order, next), tt),
      λ n. one_longer c p n order next ∙ ap (λ (x : Chain). if nat_eq p n then Some (Event c.last) else (if holds x n then Some (parent_by x n) else None)) (sym (same_Some d c e)),
    )
lengthened (d ∷ []) low (suc k) p c are long e next = absurd (omega (arith, long))
lengthened (d ∷ x ∷ cs) low zero p c are long e next = absurd (omega (arith, long))
lengthened (d ∷ x ∷ cs) low (suc k) p c are long e next =
    let ih = lengthened (x ∷ cs) (suc d.last) k p c are.2 (omega (arith, long)) e next in
    let within = chain_within (x ∷ cs) (suc d.last) k c are.2 e in
    let from = within.0 in
    let order = within.1 in
    let lt : d.last < p = omega (arith, from, order, next) in (
      (are.0, are.1, ih.0),
      λ n. ap (λ (o : Option Node). if holds d n then Some (parent_by d n) else o) (ih.1 n) ∙ swapped d p n (Some (Event c.last)) (parent_in (x ∷ cs) n) (Some (parent_by d n)) lt,
    )

-- a right child that goes on with the last chain
pub joined : (cs : List Chain) (k p : ℕ) (v : Node) (c d : Chain) → AreInOrder 0 cs → length cs ≡ suc k → c ≡ slice_index_or cs k c → d ≡ slice_index_or cs k d → IsNextOf c p v
    → AreInOrder 0 (set cs k (longer d p)) × ((n : ℕ) → parent_in (set cs k (longer d p)) n ≡ (if nat_eq p n then Some v else parent_in cs n))
joined cs k p v c d are long one other next =
    let there = slice_get_read cs (suc k) k d (sym long) (omega arith) other in
    let seen = slice_get_read cs (suc k) k c (sym long) (omega arith) one in
    let on = subst (λ (x : Chain). IsNextOf x p v) (same_Some c d (sym seen ∙ there)) next in
    let made = lengthened cs 0 k p d are long there on.next in
    (made.0, λ n. made.1 n ∙ ap (λ (w : Node). if nat_eq p n then Some w else parent_in cs n) (sym on.hangs))

-- where none is told of a position, it changes nothing to say so
pub none_told : (told : ℕ → Option Node) (p : ℕ) → told p ≡ None → (n : ℕ) → told n ≡ (if nat_eq p n then None else told n)
none_told told p none n = at (nat_eq p n) refl
  where
    at : (b : Bool) → nat_eq p n ≡ b → told n ≡ (if b then None else told n)
    at true e = ap told (sym (eqb-true p n e)) ∙ none
    at false e = refl
