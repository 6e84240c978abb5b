-- Two walks side by side, and what one of them takes alone.
use Rattle.std.proofs.Common.{◌≡◌, ℕ, ◌+◌, ◌<◌, Bool, true, false, not, cond, ◌&&◌, ◌||◌, if◌then◌else◌, inl, inr, ⊎_elim, nat_eq, List, [], ◌∷◌, ◌++◌, filter, length, reverse, slice_index_or, All, refl, sym, ap, ◌∙◌, subst, arith, append-nil, append_assoc}
use Rattle.std.specs.List.{list_any, AllByRecursion}
use Rattle.std.proofs.Math.ListN.{get_or-append}
use Rattle.std.proofs.Math.Seq.{get_or-append_seam}
use Rattle.std.proofs.lemmas.Bool.{false≢true, false_from_ne_true, or_cases}
use Rattle.std.proofs.lemmas.Cmp.{nat_eq_equiv}
use Rattle.std.proofs.lemmas.List.{length-reverse, reverse-reverse, reverse-append}
use Rattle.std.proofs.lemmas.List.Folds.{list_any-append}
use Rattle.std.proofs.lemmas.Map.Views.{exact_unsigned_eq}
use Rattle.ew_model.specs.Sets.{Among}
use Rattle.ew_model.specs.Graph.{is_named}
use Rattle.ew_model.specs.Positions.{parents_at, IsHistoryOfParents, known_positions, is_known_at, known_alone}
use Rattle.ew_model.proofs.ListTests.{filter_alike, filter_reversed}
use Rattle.ew_model.proofs.SortingLaws.{all_at}
use Rattle.ew_model.proofs.RisingLists.{among_named, number_among}
use Rattle.ew_model.proofs.PositionWalk.{taken, taken_agree, walk_takes, after_taking, turn, taken_below}
use Rattle.std.proofs.lemmas.List.Elements.{recursion_from_All}

-- the numbers of the first list that aren't in the second
abbrev pub only : List ℕ → List ℕ → List ℕ
only xs ys = filter (λ p. not (is_named nat_eq ys p)) xs

pub any_reversed : {X : Type 0} (p : X → Bool) (xs : List X) → list_any p (reverse xs) ≡ list_any p xs
any_reversed p [] = refl
any_reversed p (x ∷ xs) = ap (list_any p) (reverse-append (x ∷ []) xs) ∙ list_any-append p (reverse xs) (x ∷ []) ∙ ap (λ b. b || (p x || false)) (any_reversed p xs) ∙ turned (list_any p xs) (p x)
  where
    turned : (a b : Bool) → (a || (b || false)) ≡ (b || a)
    turned true true = refl
    turned true false = refl
    turned false true = refl
    turned false false = refl

-- What the walk over one version takes alone is what is in that version alone, from the highest position down.
pub walk_alone : (history : List (List ℕ)) (one other : List ℕ) → only (taken (reverse history) (is_named nat_eq one)) (taken (reverse history) (is_named nat_eq other)) ≡ reverse (known_alone history one other)
walk_alone history one other =
    let known = known_positions history one in
    (λ i. only (walk_takes history one i) (walk_takes history other i))
    ∙ filter_alike (λ p. not (is_named nat_eq (reverse (known_positions history other)) p)) (λ p. not (is_known_at history other p)) (reverse known) (λ p m. ap not (any_reversed (nat_eq p) (known_positions history other)))
    ∙ filter_reversed (λ p. not (is_known_at history other p)) known

-- each event's parents are lower, the last event first
abbrev Lower : List (List ℕ) → Type 0
Lower [] = Unit {0}
Lower (ps ∷ r) = All (λ p. p < length r) ps × Lower r

lower_of : (r : List (List ℕ)) → ((j : ℕ) → j < length r → All (λ p. p < j) (parents_at (reverse r) j)) → Lower r
lower_of [] h = tt
lower_of (ps ∷ r) h =
    let whole : reverse (ps ∷ r) ≡ reverse r ++ ps ∷ [] = reverse-append (ps ∷ []) r in
    let long : length (reverse r) ≡ length r = length-reverse r in
    let last : parents_at (reverse (ps ∷ r)) (length r) ≡ ps = ap (λ h. parents_at h (length r)) whole ∙ ap (λ k. slice_index_or (reverse r ++ ps ∷ []) k []) (sym long) ∙ get_or-append_seam (reverse r) ps [] [] in (
      subst (λ xs. All (λ p. p < length r) xs) last (h (length r) (omega arith)),
      lower_of r (λ j l.
          let within : j < length (reverse r) = omega (arith, l, long) in
          subst (λ xs. All (λ p. p < j) xs) (ap (λ h. parents_at h j) whole ∙ get_or-append (reverse r) (ps ∷ []) [] j within) (h j (omega (arith, l)))),
    )

lower_history : (history : List (List ℕ)) → IsHistoryOfParents history → Lower (reverse history)
lower_history history h =
    lower_of (reverse history) (λ j l.
    let within : j < length history = let e = length-reverse history in omega (arith, l, e) in
    subst (λ xs. All (λ p. p < j) (parents_at xs j)) (sym (reverse-reverse history)) (h j within).lower)

-- where nothing from n on passes, nothing from n on is taken
taken_low : (r : List (List ℕ)) (S : ℕ → Bool) (n : ℕ) → Lower r → ((m : ℕ) → S m ≡ true → m < n) → AllByRecursion (λ p. p < n) (taken r S)
taken_low [] S n low h = tt
taken_low (ps ∷ r) S n low h = at (S (length r)) refl (λ T k. taken_low r T n low.1 k)
  where
    at : (b : Bool) → S (length r) ≡ b → ((T : ℕ → Bool) → ((m : ℕ) → T m ≡ true → m < n) → AllByRecursion (λ p. p < n) (taken r T))
        → AllByRecursion (λ p. p < n) (cond b (length r ∷ taken r (λ p. S p || is_named nat_eq ps p)) (taken r S))
    at true e later =
        let top : length r < n = h (length r) e in
        (top, later (λ p. S p || is_named nat_eq ps p) (λ m q. ⊎_elim (λ k. h m k) (λ k. let less : m < length r = all_at (λ p. p < length r) ps m (recursion_from_All (λ p. p < length r) ps low.0) (number_among ps m k) in omega (arith, less, top)) (or_cases (S m) (is_named nat_eq ps m) q)))
    at false e later = later S h

pub not_taken : (history : List (List ℕ)) → IsHistoryOfParents history → (S : ℕ → Bool) (n : ℕ) → ((m : ℕ) → S m ≡ true → m < n) → is_named nat_eq (taken (reverse history) S) n ≡ false
not_taken history good S n h =
    false_from_ne_true (is_named nat_eq (taken (reverse history) S) n) (λ e.
    let low : n < n = all_at (λ p. p < n) (taken (reverse history) S) n (taken_low (reverse history) S n (lower_history history good) h) (number_among (taken (reverse history) S) n e) in omega (arith, low))

-- n passes one of the tests, and nothing above it does
pub record IsTop (left right : ℕ → Bool) (n : ℕ) : Type 0 where
  pub either : (left n || right n) ≡ true
  pub left_above : (m : ℕ) → n < m → left m ≡ false
  pub right_above : (m : ℕ) → n < m → right m ≡ false

-- n alone, where it is here and not there
abbrev pub alone : ℕ → Bool → Bool → List ℕ
alone n here there = if here && not there then n ∷ [] else []

-- what both walks still take, before and after their turn at n
pub record TurnsBoth (history : List (List ℕ)) (n : ℕ) (left right left' right' : ℕ → Bool) : Type 0 where
  pub xs : taken (reverse history) left ≡ cond (left n) (n ∷ taken (reverse history) left') (taken (reverse history) left')
  pub ys : taken (reverse history) right ≡ cond (right n) (n ∷ taken (reverse history) right') (taken (reverse history) right')
  pub no_x : is_named nat_eq (taken (reverse history) left') n ≡ false
  pub no_y : is_named nat_eq (taken (reverse history) right') n ≡ false
  pub left_low : (m : ℕ) → left' m ≡ true → m < n
  pub right_low : (m : ℕ) → right' m ≡ true → m < n

pub top_within : (history : List (List ℕ)) (n : ℕ) (left right : ℕ → Bool) → IsTop left right n → ((m : ℕ) → left m ≡ true → m < length history) → ((m : ℕ) → right m ≡ true → m < length history) → n < length history
top_within history n left right t f g = ⊎_elim (λ e. f n e) (λ e. g n e) (or_cases (left n) (right n) t.either)

pub turn_both : (history : List (List ℕ)) → IsHistoryOfParents history → (n : ℕ) (left right left' right' : ℕ → Bool) → IsTop left right n → n < length history
    → ((m : ℕ) → left' m ≡ after_taking left (parents_at history n) n m) → ((m : ℕ) → right' m ≡ after_taking right (parents_at history n) n m) → TurnsBoth history n left right left' right'
turn_both history good n left right left' right' t l fl fr = record {
  xs = turn history good n l left left' t.left_above fl;
  ys = turn history good n l right right' t.right_above fr;
  no_x = not_taken history good left' n (taken_below history good n l left left' t.left_above fl);
  no_y = not_taken history good right' n (taken_below history good n l right right' t.right_above fr);
  left_low = taken_below history good n l left left' t.left_above fl;
  right_low = taken_below history good n l right right' t.right_above fr;
}

only_skip : (xs ys : List ℕ) (n : ℕ) → is_named nat_eq xs n ≡ false → only xs (n ∷ ys) ≡ only xs ys
only_skip xs ys n h =
    filter_alike (λ p. not (is_named nat_eq (n ∷ ys) p)) (λ p. not (is_named nat_eq ys p)) xs (λ p m.
    ap (λ b. not (b || is_named nat_eq ys p)) (false_from_ne_true (nat_eq p n) (λ e. false≢true (sym h ∙ subst (λ q. is_named nat_eq xs q ≡ true) (exact_unsigned_eq p n e) (among_named xs p m)))))

-- what is taken alone, with n before it where n is taken on one side alone
pub only_turn : (xs ys : List ℕ) (n : ℕ) (l r : Bool) → is_named nat_eq xs n ≡ false → is_named nat_eq ys n ≡ false → only (cond l (n ∷ xs) xs) (cond r (n ∷ ys) ys) ≡ alone n l r ++ only xs ys
only_turn xs ys n true true hx hy =
    ap (λ b. cond (not (b || is_named nat_eq ys n)) (n ∷ only xs (n ∷ ys)) (only xs (n ∷ ys))) (nat_eq_equiv.refl n) ∙ only_skip xs ys n hx
only_turn xs ys n true false hx hy = ap (λ b. cond (not b) (n ∷ only xs ys) (only xs ys)) hy
only_turn xs ys n false true hx hy = only_skip xs ys n hx
only_turn xs ys n false false hx hy = refl

-- so what was found alone and what is still to be found stay together all that is alone
pub turn_keeps : (old new all xs xs' ys ys' : List ℕ) (n : ℕ) (l r : Bool) → xs ≡ cond l (n ∷ xs') xs' → ys ≡ cond r (n ∷ ys') ys' → is_named nat_eq xs' n ≡ false → is_named nat_eq ys' n ≡ false
    → new ≡ old ++ alone n l r → old ++ only xs ys ≡ all → new ++ only xs' ys' ≡ all
turn_keeps old new all xs xs' ys ys' n l r ex ey hx hy e h =
    let both : only xs ys ≡ alone n l r ++ only xs' ys' = (λ i. only (ex i) (ey i)) ∙ only_turn xs' ys' n l r hx hy in
    ap (λ zs. zs ++ only xs' ys') e ∙ append_assoc old (alone n l r) (only xs' ys') ∙ ap (λ zs. old ++ zs) (sym both) ∙ h

-- and there is less to take
pub turn_lessens : (xs xs' ys ys' : List ℕ) (n : ℕ) (l r : Bool) → (l || r) ≡ true → xs ≡ cond l (n ∷ xs') xs' → ys ≡ cond r (n ∷ ys') ys' → length xs' + length ys' < length xs + length ys
turn_lessens xs xs' ys ys' n true true e ex ey = omega (arith, ap length ex, ap length ey)
turn_lessens xs xs' ys ys' n true false e ex ey = omega (arith, ap length ex, ap length ey)
turn_lessens xs xs' ys ys' n false true e ex ey = omega (arith, ap length ex, ap length ey)
turn_lessens xs xs' ys ys' n false false e ex ey = absurd (false≢true e)

only_itself : (xs ys : List ℕ) → ((p : ℕ) → Among p xs → is_named nat_eq ys p ≡ true) → only xs ys ≡ []
only_itself [] ys h = refl
only_itself (x ∷ xs) ys h = ap (λ b. cond (not b) (x ∷ only xs ys) (only xs ys)) (h x (inl refl)) ∙ only_itself xs ys (λ p m. h p (inr m))

-- where both sides have the same pending, nothing more is alone
pub sides_done : (r : List (List ℕ)) (left right : ℕ → Bool) (found all : List ℕ) → ((m : ℕ) → left m ≡ right m) → found ++ only (taken r left) (taken r right) ≡ all → found ≡ all
sides_done r left right found all same h =
    let one : taken r left ≡ taken r right = taken_agree r left right (λ m l. same m) in
    let none : only (taken r left) (taken r right) ≡ [] = only_itself (taken r left) (taken r right) (λ p m. ap (λ xs. is_named nat_eq xs p) (sym one) ∙ among_named (taken r left) p m) in
    sym (append-nil found) ∙ ap (λ zs. found ++ zs) (sym none) ∙ h
