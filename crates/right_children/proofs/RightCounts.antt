-- The right children that are known, counted.
use Rattle.std.proofs.Common.{◌≡◌, ℕ, suc, ◌+◌, ◌≤◌, Bool, true, false, ◌&&◌, ◌||◌, cond, inl, inr, List, [], ◌∷◌, ◌++◌, filter, length, nat_lt, refl, sym, ap, ◌∙◌, subst, arith}
use Rattle.std.specs.List.{list_any}
use Rattle.std.proofs.lemmas.Bool.{false≢true, ltb-false}
use Rattle.std.proofs.lemmas.List.Folds.{list_any-append}
use Rattle.ew_model.specs.declared.node.Node.{Node}
use Rattle.ew_model.specs.Sets.{Among}
use Rattle.fugue_place.specs.declared.child.Attached.{Attached}
use Rattle.fugue_place.specs.Attachments.{node_eq, is_attached, AreAttached}
use Rattle.fugue_place.proofs.NodeLaws.{node_same, node_itself}
use Rattle.right_children.specs.Rights.{one_if}

-- COUNTS
abbrev pub count : {X : Type 0} → (X → Bool) → List X → ℕ
count p xs = length (filter p xs)

some_more : (n : ℕ) → nat_lt 0 (suc n) ≡ true
some_more n = by (nat_lt 0 (suc n)) refl
  where
    by : (b : Bool) → nat_lt 0 (suc n) ≡ b → b ≡ true
    by true e = refl
    by false e = let past = ltb-false 0 (suc n) e in absurd (omega (arith, past))

either_le : (a b : Bool) → one_if (a || b) ≤ one_if a + one_if b
either_le true b = omega arith
either_le false true = omega arith
either_le false false = omega arith

both_le : (a b : Bool) → one_if (a && b) ≤ one_if b
both_le true b = omega arith
both_le false b = omega arith

module _ {X : Type 0} where
  pub count-cons : (p : X → Bool) (x : X) (xs : List X) → count p (x ∷ xs) ≡ one_if (p x) + count p xs
  count-cons p x xs = at (p x)
    where
      at : (b : Bool) → length (cond b (x ∷ filter p xs) (filter p xs)) ≡ one_if b + count p xs
      at true = let more : suc (count p xs) ≡ 1 + count p xs = omega arith in more
      at false = let same : count p xs ≡ 0 + count p xs = omega arith in same

  pub count_same : (p q : X → Bool) (xs : List X) → ((x : X) → Among x xs → p x ≡ q x) → count p xs ≡ count q xs
  count_same p q [] same = refl
  count_same p q (x ∷ xs) same =
      count-cons p x xs ∙ (λ i. one_if (same x (inl refl) i) + count_same p q xs (λ y m. same y (inr m)) i) ∙ sym (count-cons q x xs)

  pub count_has : (p : X → Bool) (xs : List X) (x : X) → Among x xs → one_if (p x) ≤ count p xs
  count_has p [] x m = absurd m
  count_has p (y ∷ xs) x (inl is) = let own : one_if (p x) ≡ one_if (p y) = ap (λ (z : X). one_if (p z)) is in omega (arith, own, count-cons p y xs)
  count_has p (y ∷ xs) x (inr m) = omega (arith, count_has p xs x m, count-cons p y xs)

  pub count_none : (p : X → Bool) (xs : List X) → ((x : X) → Among x xs → p x ≡ false) → count p xs ≡ 0
  count_none p [] none = refl
  count_none p (x ∷ xs) none = let rest = count_none p xs (λ y m. none y (inr m)) in ap (λ (b : Bool). length (cond b (x ∷ filter p xs) (filter p xs))) (none x (inl refl)) ∙ rest

  pub count_either : (p q : X → Bool) (xs : List X) → count (λ (x : X). p x || q x) xs ≤ count p xs + count q xs
  count_either p q [] = omega arith
  count_either p q (x ∷ xs) =
      omega (arith, count-cons (λ (y : X). p y || q y) x xs, count-cons p x xs, count-cons q x xs, either_le (p x) (q x), count_either p q xs)

  pub count_both : (p q : X → Bool) (xs : List X) → count (λ (x : X). p x && q x) xs ≤ count q xs
  count_both p q [] = omega arith
  count_both p q (x ∷ xs) = omega (arith, count-cons (λ (y : X). p y && q y) x xs, count-cons q x xs, both_le (p x) (q x), count_both p q xs)

  -- one of them passes where some do
  pub any_counted : (p : X → Bool) (xs : List X) → nat_lt 0 (count p xs) ≡ list_any p xs
  any_counted p [] = refl
  any_counted p (x ∷ xs) = at (any_counted p xs) (p x)
    where
      at : nat_lt 0 (count p xs) ≡ list_any p xs → (b : Bool) → nat_lt 0 (length (cond b (x ∷ filter p xs) (filter p xs))) ≡ (b || list_any p xs)
      at rest true = some_more (count p xs)
      at rest false = rest

-- EACH NODE IS ATTACHED ONCE
pub not_same : (v w : Node) → (v ≡ w → ⊥) → (b : Bool) → node_eq v w ≡ b → b ≡ false
not_same v w other true e = absurd (other (node_same v w e))
not_same v w other false e = refl

or_true : (b : Bool) → (b || true) ≡ true
or_true true = refl
or_true false = refl

still_there : (before : List Attached) (a : Attached) (w : Node) → is_attached before w ≡ true → is_attached (before ++ a ∷ []) w ≡ true
still_there before a w h = list_any-append (λ (x : Attached). node_eq x.node w) before (a ∷ []) ∙ ap (λ (b : Bool). b || list_any (λ (x : Attached). node_eq x.node w) (a ∷ [])) h

pub itself_there : (before : List Attached) (a : Attached) → is_attached (before ++ a ∷ []) a.node ≡ true
itself_there before a =
    list_any-append (λ (x : Attached). node_eq x.node a.node) before (a ∷ [])
    ∙ ap (λ (b : Bool). list_any (λ (x : Attached). node_eq x.node a.node) before || (b || false)) (node_itself a.node) ∙ or_true (list_any (λ (x : Attached). node_eq x.node a.node) before)

pub later_differ : (before later : List Attached) → AreAttached before later → (w : Node) → is_attached before w ≡ true → (x : Attached) → Among x later → node_eq x.node w ≡ false
later_differ before [] sound w there x m = absurd m
later_differ before (a ∷ later) sound w there x (inl is) =
    let new : is_attached before w ≡ true → a.node ≡ w → ⊥ = λ h e. false≢true (sym sound.0.new ∙ ap (is_attached before) e ∙ h) in
    not_same x.node w (λ e. new there (sym (ap (λ (y : Attached). y.node) is) ∙ e)) (node_eq x.node w) refl
later_differ before (a ∷ later) sound w there x (inr m) = later_differ (before ++ a ∷ []) later sound.1 w (still_there before a w there) x m

-- what differs at one node alone is counted so
pub count_moved : (p q : Attached → Bool) (before xs : List Attached) → AreAttached before xs → (w : Node) → ((x : Attached) → node_eq x.node w ≡ false → p x ≡ q x)
    → (a : Attached) → Among a xs → a.node ≡ w → count p xs + one_if (q a) ≡ count q xs + one_if (p a)
count_moved p q before [] sound w same a m is = absurd m
count_moved p q before (x ∷ xs) sound w same a (inl e) is =
    let others = count_same p q xs (λ y m. same y (later_differ (before ++ x ∷ []) xs sound.1 w (subst (λ (v : Node). is_attached (before ++ x ∷ []) v ≡ true) (sym (ap (λ (y : Attached). y.node) e) ∙ is) (itself_there before x)) y m)) in
    let own_p : one_if (p a) ≡ one_if (p x) = ap (λ (y : Attached). one_if (p y)) e in
    let own_q : one_if (q a) ≡ one_if (q x) = ap (λ (y : Attached). one_if (q y)) e in
    omega (arith, others, own_p, own_q, count-cons p x xs, count-cons q x xs)
count_moved p q before (x ∷ xs) sound w same a (inr m) is =
    let differs : node_eq a.node x.node ≡ false = later_differ (before ++ x ∷ []) xs sound.1 x.node (itself_there before x) a m in
    let other : node_eq x.node w ≡ false = not_same x.node w (λ e. false≢true (sym differs ∙ ap (λ (v : Node). node_eq a.node v) (e ∙ sym is) ∙ node_itself a.node)) (node_eq x.node w) refl in
    let here : one_if (p x) ≡ one_if (q x) = ap one_if (same x other) in
    let rest = count_moved p q (before ++ x ∷ []) xs sound.1 w same a m is in
    omega (arith, here, rest, count-cons p x xs, count-cons q x xs)

or_left : (a b : Bool) → (a || b) ≡ false → a ≡ false
or_left true b e = e
or_left false b e = refl

or_right : (a b : Bool) → (a || b) ≡ false → b ≡ false
or_right true b e = absurd (false≢true (sym e))
or_right false b e = e

pub not_there : (ys : List Attached) (w : Node) → is_attached ys w ≡ false → (x : Attached) → Among x ys → node_eq x.node w ≡ false
not_there [] w e x m = absurd m
not_there (y ∷ ys) w e x (inl is) = ap (λ (z : Attached). node_eq z.node w) is ∙ or_left (node_eq y.node w) (is_attached ys w) e
not_there (y ∷ ys) w e x (inr m) = not_there ys w (or_right (node_eq y.node w) (is_attached ys w) e) x m

-- where the node isn't attached, nothing differs
pub count_unmoved : (p q : Attached → Bool) (xs : List Attached) (w : Node) → is_attached xs w ≡ false → ((x : Attached) → node_eq x.node w ≡ false → p x ≡ q x) → count p xs ≡ count q xs
count_unmoved p q xs w none same = count_same p q xs (λ x m. same x (not_there xs w none x m))
