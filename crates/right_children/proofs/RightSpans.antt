-- The counts of right children, while the nodes of events that follow one another come to be known in turn, or are so no more.
use mathlib.Core.Bool.{beq}
use Rattle.std.proofs.Common.{◌≡◌, ℕ, ◌+◌, ◌<◌, ◌≤◌, ◌^◌, nat_le, nat_lt, Bool, true, false, ◌&&◌, List, [], ◌∷◌, if◌then◌else◌, refl, sym, ap, ◌∙◌, subst, arith, eq-eqb}
use Rattle.std.proofs.lemmas.Bool.{false≢true, and_parts, leb-true, ltb-true, le-leb, lt-ltb}
use Rattle.ew_model.specs.declared.node.Node.{Node}
use Rattle.ew_model.specs.declared.node.Node.TheVariants.{Root, Base, Event}
use Rattle.fugue_place.specs.declared.child.Attached.{Attached}
use Rattle.fugue_place.specs.declared.child.Side.TheVariants.{Right as right}
use Rattle.fugue_place.specs.Attachments.{node_eq}
use Rattle.fugue_place.specs.Neighbours.{is_child}
use Rattle.right_children.specs.Rights.{one_if, known_right, Counted, AreRights, Shifts, ShiftEach, MayShift}
use Rattle.right_children.proofs.RightCounts.{count, count-cons}
use Rattle.right_children.proofs.RightMoves.{may_shift, shifted}

-- THE EVENTS
-- the node is that of an event at one of the positions from the first on that are below the second
abbrev pub is_between : ℕ → ℕ → Node → Bool
is_between low high Root = false
is_between low high (Base i) = false
is_between low high (Event n) = nat_le low n && nat_lt n high

same_by : (b c : Bool) → beq b c ≡ true → b ≡ c
same_by true true e = refl
same_by true false e = sym e
same_by false true e = e
same_by false false e = refl

is_false : (b : Bool) → (b ≡ true → ⊥) → b ≡ false
is_false true h = absurd (h refl)
is_false false h = refl

pub between : (low high n : ℕ) → low ≤ n → n < high → is_between low high (Event n) ≡ true
between low high n le lt = λ i. le-leb low n le i && lt-ltb n high lt i

pub outside : (low high n : ℕ) → (low ≤ n → n < high → ⊥) → is_between low high (Event n) ≡ false
outside low high n none = is_false (is_between low high (Event n)) (λ h.
    let parts = and_parts (nat_le low n) (nat_lt n high) h in
    none (leb-true low n parts.0) (ltb-true n high parts.1))

pub none_between : (n : ℕ) (v : Node) → is_between n n v ≡ false
none_between n Root = refl
none_between n (Base i) = refl
none_between n (Event k) = outside n n k (λ l h. absurd (omega (arith, l, h)))

pub one_more : (low n : ℕ) (v : Node) → node_eq v (Event n) ≡ false → is_between low (n + 1) v ≡ is_between low n v
one_more low n Root e = refl
one_more low n (Base i) e = refl
one_more low n (Event k) e = ap (λ (b : Bool). nat_le low k && b) (at (nat_lt k n) refl)
  where
    other : k ≡ n → ⊥
    other is = false≢true (sym e ∙ eq-eqb k n is)

    at : (b : Bool) → nat_lt k n ≡ b → nat_lt k (n + 1) ≡ b
    at true f = let lt = ltb-true k n f in lt-ltb k (n + 1) (omega (arith, lt))
    at false f = is_false (nat_lt k (n + 1)) (λ h. let lt = ltb-true k (n + 1) h in by lt)
      where
        by : k < n + 1 → ⊥
        by lt = past (omega (arith, lt, other))
          where
            past : k < n → ⊥
            past less = false≢true (sym f ∙ lt-ltb k n less)

-- SO FAR
-- what is known once the events below a position are seen to
abbrev pub so_far : (Node → Bool) → (Node → Bool) → ℕ → ℕ → Node → Bool
so_far old new from n v = if is_between from n v then new v else old v

part_le : (child b x y : Bool) → one_if (child && (if b then y else x)) ≤ one_if (child && x) + one_if (child && y)
part_le false b x y = omega arith
part_le true true x y = omega arith
part_le true false x y = omega arith

few_parts : {X : Type 0} (p q r : X → Bool) (xs : List X) → ((x : X) → one_if (p x) ≤ one_if (q x) + one_if (r x)) → count p xs ≤ count q xs + count r xs
few_parts p q r [] each = omega arith
few_parts p q r (x ∷ xs) each = omega (arith, count-cons p x xs, count-cons q x xs, count-cons r x xs, each x, few_parts p q r xs each)

module _ (old new : Node → Bool) (attached : List Attached) (from to : ℕ) (was is : Bool) (h : ShiftEach old new attached from to was is) where
  pub before_all : so_far old new from from ≡ old
  before_all = λ i v. if none_between from v i then new v else old v

  pub after_all : so_far old new from to ≡ new
  after_all = λ i v. at v (is_between from to v) refl i
    where
      at : (v : Node) (b : Bool) → is_between from to v ≡ b → (if b then new v else old v) ≡ new v
      at v true e = refl
      at v false e = sym (h.others v (λ n low high own. false≢true (sym e ∙ ap (is_between from to) (sym own) ∙ between from to n low high)))

  -- what is known stays so where each was and is the same
  same_known : was ≡ is → old ≡ new
  same_known e = λ i v. at v (is_between from to v) refl i
    where
      at : (v : Node) (b : Bool) → is_between from to v ≡ b → old v ≡ new v
      at Root true f = absurd (false≢true f)
      at (Base i) true f = absurd (false≢true f)
      at (Event n) true f =
          let parts = and_parts (nat_le from n) (nat_lt n to) f in
          let low = leb-true from n parts.0 in
          let high = ltb-true n to parts.1 in
          h.before n low high ∙ e ∙ sym (h.after n low high)
      at v false f = sym (h.others v (λ n low high own. false≢true (sym f ∙ ap (is_between from to) (sym own) ∙ between from to n low high)))

  pub still_right : beq was is ≡ true → (c : Counted) → AreRights old attached c → AreRights new attached c
  still_right e c rights = subst (λ (known : Node → Bool). AreRights known attached c) (same_known (same_by was is e)) rights

  few : (n : ℕ) (v : Node) → known_right (so_far old new from n) attached v ≤ 2 ^ 26
  few n v =
      let parts = few_parts (λ (a : Attached). is_child v right a && so_far old new from n a.node) (λ (a : Attached). is_child v right a && old a.node) (λ (a : Attached). is_child v right a && new a.node) attached
      (λ a. part_le (is_child v right a) (is_between from n a.node) (old a.node) (new a.node)) in
      omega (arith, parts, h.few_before v, h.few_after v)

  module _ (n : ℕ) (low : from ≤ n) (high : n < to) (c : Counted) (rights : AreRights (so_far old new from n) attached c) where
    others : (u : Node) → node_eq u (Event n) ≡ false → so_far old new from (n + 1) u ≡ so_far old new from n u
    others u e = ap (λ (b : Bool). if b then new u else old u) (one_more from n u e)

    before : so_far old new from n (Event n) ≡ was
    before = ap (λ (b : Bool). if b then new (Event n) else old (Event n)) (outside from n n (λ l h. absurd (omega (arith, h)))) ∙ h.before n low high

    after : so_far old new from (n + 1) (Event n) ≡ is
    after = ap (λ (b : Bool). if b then new (Event n) else old (Event n)) (between from (n + 1) n low (omega arith)) ∙ h.after n low high

    pub may_next : MayShift c (Event n) was is
    may_next =
        subst (λ (b : Bool). MayShift c (Event n) b is) before
        (subst (λ (b : Bool). MayShift c (Event n) (so_far old new from n (Event n)) b) after
        (may_shift (so_far old new from n) (so_far old new from (n + 1)) attached c (Event n) rights h.sound others (h.there n low high) (few n)))

    pub kept_next : (d : Counted) → Shifts c d (Event n) was is → AreRights (so_far old new from (n + 1)) attached d
    kept_next d shifts =
        shifted (so_far old new from n) (so_far old new from (n + 1)) attached c (Event n) rights h.sound others d (h.there n low high)
        (subst (λ (b : Bool). Shifts c d (Event n) b (so_far old new from (n + 1) (Event n))) (sym before) (subst (λ (b : Bool). Shifts c d (Event n) was b) (sym after) shifts))
