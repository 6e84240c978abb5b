-- Runs by their numbers in the list.
use Rattle.std.proofs.Common.{◌≡◌, ℕ, zero, suc, ◌+◌, ◌<◌, ◌≤◌, Some, zip, slice_get, List, [], ◌∷◌, ◌++◌, Contains, length, slice_index_or, refl, sym, ap, ◌∙◌, subst, arith}
use Rattle.std.proofs.lemmas.List.Elements.{Contains-append_right}
use Rattle.std.proofs.lemmas.Option.{slice_get-get_or}
use Rattle.ew_model.specs.declared.node.Node.{Node}
use Rattle.walker_record.specs.Stretches.{Stretch}
use Rattle.order_tree.specs.Pairs.{RisesFrom, labels, runs}
use Rattle.character_runs.specs.Laid.{Stands, chars_in, records_in, records_of}

-- the one with this number
abbrev pub At : {X : Type 0} → List X → ℕ → X → Type 0
At [] k x = ⊥
At (y ∷ ys) zero x = y ≡ x
At (y ∷ ys) (suc k) x = At ys k x

module _ {X : Type 0} where
  pub at_held : (xs : List X) (k : ℕ) (x : X) → At xs k x → Contains xs x
  at_held [] k x h = absurd h
  at_held (y ∷ ys) zero x h = (0, omega arith, h)
  at_held (y ∷ ys) (suc k) x h = Contains-append_right (y ∷ []) ys x (at_held ys k x h)

  pub held_at : (xs : List X) (x : X) → Contains xs x → (k : ℕ) × At xs k x
  held_at xs x h = (h.0, at xs h.0 h.1 h.2)
    where
      at : (ys : List X) (k : ℕ) → k < length ys → slice_index_or ys k x ≡ x → At ys k x
      at [] k lt e = absurd (omega (arith, lt))
      at (y ∷ ys) zero lt e = e
      at (y ∷ ys) (suc k) lt e = at ys k (omega (arith, lt)) e

  pub at_less : (xs : List X) (k : ℕ) (x : X) → At xs k x → k < length xs
  at_less [] k x h = absurd h
  at_less (y ∷ ys) zero x h = omega arith
  at_less (y ∷ ys) (suc k) x h = let lt = at_less ys k x h in omega (arith, lt)

  pub at_one : (xs : List X) (k : ℕ) (x y : X) → At xs k x → At xs k y → x ≡ y
  at_one [] k x y h i = absurd h
  at_one (z ∷ zs) zero x y h i = sym h ∙ i
  at_one (z ∷ zs) (suc k) x y h i = at_one zs k x y h i

  -- in front of others, behind others, and between
  pub at_before : (front xs ys : List X) (k : ℕ) (x : X) → k < length front → At (front ++ xs) k x → At (front ++ ys) k x
  at_before [] xs ys k x lt h = absurd (omega (arith, lt))
  at_before (f ∷ fs) xs ys zero x lt h = h
  at_before (f ∷ fs) xs ys (suc k) x lt h = at_before fs xs ys k x (omega (arith, lt)) h

  pub at_past : (xs ys back : List X) → length xs ≡ length ys → (k : ℕ) (x : X) → length xs ≤ k → At (xs ++ back) k x → At (ys ++ back) k x
  at_past [] [] back e k x le h = h
  at_past [] (y ∷ ys) back e k x le h = absurd (omega (arith, e))
  at_past (z ∷ zs) [] back e k x le h = absurd (omega (arith, e))
  at_past (z ∷ zs) (y ∷ ys) back e zero x le h = absurd (omega (arith, le))
  at_past (z ∷ zs) (y ∷ ys) back e (suc k) x le h = at_past zs ys back (omega (arith, e)) k x (omega (arith, le)) h

  at_left : (xs ys : List X) (k : ℕ) (x : X) → At xs k x → At (xs ++ ys) k x
  at_left [] ys k x h = absurd h
  at_left (z ∷ zs) ys zero x h = h
  at_left (z ∷ zs) ys (suc k) x h = at_left zs ys k x h

  pub at_within : (front xs back : List X) (k : ℕ) (x : X) → At xs k x → At (front ++ (xs ++ back)) (length front + k) x
  at_within [] xs back k x h = let same : k ≡ 0 + k = omega arith in subst (λ (n : ℕ). At (xs ++ back) n x) same (at_left xs back k x h)
  at_within (f ∷ fs) xs back k x h =
      let same : suc (length fs + k) ≡ suc (length fs) + k = omega arith in
      subst (λ (n : ℕ). At (f ∷ (fs ++ (xs ++ back))) n x) same (at_within fs xs back k x h)

-- the same runs stand at the same numbers
pub run_at : (ps qs : List (ℕ × Stretch)) → runs ps ≡ runs qs → (k l : ℕ) (r : Stretch) → At ps k (l, r) → (own : ℕ) × At qs k (own, r)
run_at [] qs e k l r h = absurd h
run_at (p ∷ ps) [] e k l r h = absurd (cc)
run_at (p ∷ ps) (q ∷ qs) e zero l r h = (q.0, second q r (sym first ∙ ap (λ (x : ℕ × Stretch). x.1) h))
  where
    first : p.1 ≡ q.1
    first = cc

    second : (q : ℕ × Stretch) (r : Stretch) → q.1 ≡ r → q ≡ (q.0, r)
    second q r e = let as_pair : Stretch → ℕ × Stretch = λ s. (q.0, s) in ap as_pair e
run_at (p ∷ ps) (q ∷ qs) e (suc k) l r h = run_at ps qs (rest) k l r h
  where
    rest : runs ps ≡ runs qs
    rest = cc

pub above_low : (low : ℕ) (ps : List (ℕ × Stretch)) → RisesFrom low ps → (k l : ℕ) (r : Stretch) → At ps k (l, r) → low < l
above_low low [] rises k l r h = absurd h
above_low low (p ∷ ps) rises zero l r h = let e = ap (λ (x : ℕ × Stretch). x.0) h in let lt = rises.0 in omega (arith, lt, e)
above_low low (p ∷ ps) rises (suc k) l r h = let lt = above_low p.0 ps rises.1 k l r h in let le = rises.0 in omega (arith, lt, le)

-- one number has a label
pub one_number : (low : ℕ) (ps : List (ℕ × Stretch)) → RisesFrom low ps → (j k l : ℕ) (r q : Stretch) → At ps j (l, r) → At ps k (l, q) → j ≡ k
one_number low [] rises j k l r q h i = absurd h
one_number low (p ∷ ps) rises zero zero l r q h i = refl
one_number low (p ∷ ps) rises zero (suc k) l r q h i = let lt = above_low p.0 ps rises.1 k l q i in let e = ap (λ (x : ℕ × Stretch). x.0) h in absurd (omega (arith, lt, e))
one_number low (p ∷ ps) rises (suc j) zero l r q h i = let lt = above_low p.0 ps rises.1 j l r h in let e = ap (λ (x : ℕ × Stretch). x.0) i in absurd (omega (arith, lt, e))
one_number low (p ∷ ps) rises (suc j) (suc k) l r q h i = ap suc (one_number p.0 ps rises.1 j k l r q h i)

-- THE SAME RUNS UNDER OTHER LABELS
module _ (ps qs : List (ℕ × Stretch)) (same : runs ps ≡ runs qs) where
  pub run_held : (l : ℕ) (r : Stretch) → Contains ps (l, r) → (own : ℕ) × Contains qs (own, r)
  run_held l r h =
      let at = held_at ps (l, r) h in
      let other = run_at ps qs same at.0 l r at.1 in
      (other.0, at_held qs at.0 (other.0, r) other.1)

  pub stands_too : (l n : ℕ) (v : Node) → Stands ps l n v → (own : ℕ) × Stands qs own n v
  stands_too l n v s =
      let h = run_held l s.run s.held in
      (h.0, record { run = s.run; held = h.1; inside = s.inside; node = s.node })

pub by_runs : (ps : List (ℕ × Stretch)) → records_in (runs ps) ≡ chars_in ps
by_runs [] = refl
by_runs (p ∷ ps) = ap (λ (xs : List Stretch). records_of p.1 ++ xs) (by_runs ps)

pub same_chars : (ps qs : List (ℕ × Stretch)) → runs ps ≡ runs qs → chars_in ps ≡ chars_in qs
same_chars ps qs same = sym (by_runs ps) ∙ ap records_in same ∙ by_runs qs

pub same_length : (ps qs : List (ℕ × Stretch)) → runs ps ≡ runs qs → length ps ≡ length qs
same_length [] [] e = refl
same_length [] (q ∷ qs) e = absurd (cc)
same_length (p ∷ ps) [] e = absurd (cc)
same_length (p ∷ ps) (q ∷ qs) e = ap suc (same_length ps qs rest)
  where
    rest : runs ps ≡ runs qs
    rest = cc

-- beside the labels of some runs stand others with theirs
zip_at : (xs : List ℕ) (ys : List (ℕ × Stretch)) (k : ℕ) (x : ℕ × (ℕ × Stretch)) → slice_get (zip xs ys) k ≡ Some x → At ys k x.1
zip_at [] ys k x e = absurd (cc)
zip_at (x ∷ xs) [] k z e = absurd (cc)
zip_at (x ∷ xs) (y ∷ ys) zero z e = second x y z e
  where
    second : (x : ℕ) (y : ℕ × Stretch) (z : ℕ × (ℕ × Stretch)) → Some (x, y) ≡ Some z → y ≡ z.1
    second x y z e = ap (λ (p : ℕ × (ℕ × Stretch)). p.1) (inside (x, y) z e)
      where
        inside : (p q : ℕ × (ℕ × Stretch)) → Some p ≡ Some q → p ≡ q
        inside p q e = cc
zip_at (x ∷ xs) (y ∷ ys) (suc k) z e = zip_at xs ys k z e

pub given_at : (ps qs : List (ℕ × Stretch)) (given : List (ℕ × (ℕ × Stretch))) (k : ℕ) (x : ℕ × (ℕ × Stretch)) → given ≡ zip (labels ps) qs → k < length given → slice_index_or given k x ≡ x → At qs k x.1
given_at ps qs given k x is lt e =
    zip_at (labels ps) qs k x (ap (λ (xs : List (ℕ × (ℕ × Stretch))). slice_get xs k) (sym is) ∙ slice_get-get_or given k x lt ∙ ap (λ (y : ℕ × (ℕ × Stretch)). Some y) e)

pub given_long : (ps qs : List (ℕ × Stretch)) → length qs ≡ length ps → length (zip (labels ps) qs) ≡ length qs
given_long [] [] e = refl
given_long [] (q ∷ qs) e = absurd (omega (arith, e))
given_long (p ∷ ps) [] e = absurd (omega (arith, e))
given_long (p ∷ ps) (q ∷ qs) e = ap suc (given_long ps qs (omega (arith, e)))
