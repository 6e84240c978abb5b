-- Two walks side by side, down to a floor.
use Rattle.std.proofs.Common.{◌≡◌, ℕ, zero, suc, ◌+◌, ◌-◌, ◌<◌, ◌≤◌, Bool, true, false, not, cond, ◌&&◌, ◌||◌, if◌then◌else◌, inl, ⊎_elim, nat_lt, nat_le, nat_eq, List, [], ◌∷◌, ◌++◌, length, reverse, All, refl, sym, ap, ◌∙◌, subst, arith, append-nil, append_assoc, ne_eqb}
use Rattle.std.specs.List.{range_with_len}
use Rattle.std.proofs.lemmas.Bool.{false≢true, false_from_ne_true, ltb-true, ltb-false, leb-true, leb-false, eqb-false, or_cases, or_parts}
use Rattle.std.proofs.lemmas.List.{reverse-reverse, reverse-append}
use Rattle.std.proofs.lemmas.List.Elements.{All-cons, recursion_from_All}
use Rattle.ew_model.specs.Sets.{Among}
use Rattle.ew_model.specs.Graph.{is_named}
use Rattle.ew_model.specs.Positions.{parents_at, IsHistoryOfParents, known_positions, is_known_at, known_alone}
use Rattle.ew_model.proofs.RisingLists.{number_among, among_named}
use Rattle.ew_model.proofs.SetLaws.{joined_right, among_filter}
use Rattle.ew_model.proofs.SortingLaws.{all_at}
use Rattle.ew_model.proofs.PositionVersions.{known_within}
use Rattle.ew_model.proofs.PositionWalk.{taken, taken_agree, after_taking}
use Rattle.ew_model.proofs.PositionSides.{only, any_reversed, walk_alone, IsTop, TurnsBoth, turn_both, turn_keeps, turn_lessens}
use Rattle.ancestors.specs.Floors.{HasAllBelow}
use Rattle.ancestors.specs.Sides.{AgreeFrom, IsHighest}
use Rattle.frontier.specs.Chains.{IsChain}
use Rattle.ancestors.proofs.Chains.{range_one, range_up, down_at, down_clear, down_next}
use Rattle.ancestors.proofs.Walks.{start_within, taken_from}

-- What was found on each side and what the two walks still take there alone are what is there alone; all that is pending
-- lies below what was found.
pub record Parting (history : List (List ℕ)) (a b : List ℕ) (left right : ℕ → Bool) (found_left found_right : List ℕ) : Type 0 where
  pub on_left : reverse found_left ++ only (taken (reverse history) left) (taken (reverse history) right) ≡ reverse (known_alone history a b)
  pub on_right : reverse found_right ++ only (taken (reverse history) right) (taken (reverse history) left) ≡ reverse (known_alone history b a)
  pub left_within : (q : ℕ) → left q ≡ true → q < length history
  pub right_within : (q : ℕ) → right q ≡ true → q < length history
  pub left_lower : (q : ℕ) → (left q || right q) ≡ true → All (λ p. q < p) found_left
  pub right_lower : (q : ℕ) → (left q || right q) ≡ true → All (λ p. q < p) found_right

pub parting_starts : (history : List (List ℕ)) (a b : List ℕ) (left right : ℕ → Bool) → All (λ v. v < length history) a → All (λ v. v < length history) b
    → ((q : ℕ) → left q ≡ is_named nat_eq a q) → ((q : ℕ) → right q ≡ is_named nat_eq b q) → Parting history a b left right [] []
parting_starts history a b left right low_a low_b same_a same_b =
    let xs = taken_agree (reverse history) left (is_named nat_eq a) (λ m l. same_a m) in
    let ys = taken_agree (reverse history) right (is_named nat_eq b) (λ m l. same_b m) in
    record {
      on_left = (λ i. only (xs i) (ys i)) ∙ walk_alone history a b;
      on_right = (λ i. only (ys i) (xs i)) ∙ walk_alone history b a;
      left_within = start_within history a left low_a same_a;
      right_within = start_within history b right low_b same_b;
      left_lower = λ q e k d l. absurd (omega (arith, l));
      right_lower = λ q e k d l. absurd (omega (arith, l));
    }

-- one turn of both walks, where the highest position is taken off each that has it
record Pair (history : List (List ℕ)) (n : ℕ) (left right new_left new_right : ℕ → Bool) : Type 0 where
  pub top : IsHighest left right n
  pub next_left : (q : ℕ) → new_left q ≡ after_taking left (parents_at history n) n q
  pub next_right : (q : ℕ) → new_right q ≡ after_taking right (parents_at history n) n q

is_top : (left right : ℕ → Bool) (n : ℕ) → IsHighest left right n → IsTop left right n
is_top left right n t = record { either = t.either; left_above = t.left_above; right_above = t.right_above }

pub highest_within : (history : List (List ℕ)) (a b : List ℕ) (left right : ℕ → Bool) (xs ys : List ℕ) (n : ℕ) → Parting history a b left right xs ys → IsHighest left right n → n < length history
highest_within history a b left right xs ys n h t = ⊎_elim (λ e. h.left_within n e) (λ e. h.right_within n e) (or_cases (left n) (right n) t.either)

turns_both : (history : List (List ℕ)) → IsHistoryOfParents history → (a b : List ℕ) (left right new_left new_right : ℕ → Bool) (xs ys : List ℕ) (n : ℕ) → Parting history a b left right xs ys → Pair history n left right new_left new_right
    → TurnsBoth history n left right new_left new_right
turns_both history good a b left right new_left new_right xs ys n h p =
    turn_both history good n left right new_left new_right (is_top left right n p.top) (highest_within history a b left right xs ys n h p.top) p.next_left p.next_right

put_first : (n : ℕ) (found : List ℕ) (b : Bool) → reverse (cond b (n ∷ found) found) ≡ reverse found ++ cond b (n ∷ []) []
put_first n found true = reverse-append (n ∷ []) found
put_first n found false = sym (append-nil (reverse found))

put_lower : (n q : ℕ) (found : List ℕ) (b : Bool) → q < n → All (λ p. n < p) found → All (λ p. q < p) (cond b (n ∷ found) found)
put_lower n q found true l h = All-cons (λ p. q < p) n found l (λ k d m. let high = h k d m in omega (arith, high, l))
put_lower n q found false l h = λ k d m. let high = h k d m in omega (arith, high, l)

parting_turns : (history : List (List ℕ)) → IsHistoryOfParents history → (a b : List ℕ) (left right new_left new_right : ℕ → Bool) (xs ys : List ℕ) (n : ℕ) → Parting history a b left right xs ys → Pair history n left right new_left new_right
    → Parting history a b new_left new_right (if left n && not (right n) then n ∷ xs else xs) (if right n && not (left n) then n ∷ ys else ys)
parting_turns history good a b left right new_left new_right xs ys n h p =
    let t = turns_both history good a b left right new_left new_right xs ys n h p in
    let r = reverse history in
    let top = highest_within history a b left right xs ys n h p.top in
    let low : (q : ℕ) → (new_left q || new_right q) ≡ true → q < n = λ q e. ⊎_elim (λ k. t.left_low q k) (λ k. t.right_low q k) (or_cases (new_left q) (new_right q) e) in
    record {
      on_left = turn_keeps (reverse xs) (reverse (if left n && not (right n) then n ∷ xs else xs)) (reverse (known_alone history a b)) (taken r left) (taken r new_left) (taken r right) (taken r new_right) n (left n) (right n)
          t.xs t.ys t.no_x t.no_y (put_first n xs (left n && not (right n))) h.on_left;
      on_right = turn_keeps (reverse ys) (reverse (if right n && not (left n) then n ∷ ys else ys)) (reverse (known_alone history b a)) (taken r right) (taken r new_right) (taken r left) (taken r new_left) n (right n) (left n)
          t.ys t.xs t.no_y t.no_x (put_first n ys (right n && not (left n))) h.on_right;
      left_within = λ q e. let less = t.left_low q e in omega (arith, less, top);
      right_within = λ q e. let less = t.right_low q e in omega (arith, less, top);
      left_lower = λ q e. put_lower n q xs (left n && not (right n)) (low q e) (h.left_lower n p.top.either);
      right_lower = λ q e. put_lower n q ys (right n && not (left n)) (low q e) (h.right_lower n p.top.either);
    }

parting_lessens : (history : List (List ℕ)) → IsHistoryOfParents history → (a b : List ℕ) (left right new_left new_right : ℕ → Bool) (xs ys : List ℕ) (n : ℕ) → Parting history a b left right xs ys → Pair history n left right new_left new_right
    → length (taken (reverse history) new_left) + length (taken (reverse history) new_right) < length (taken (reverse history) left) + length (taken (reverse history) right)
parting_lessens history good a b left right new_left new_right xs ys n h p =
    let t = turns_both history good a b left right new_left new_right xs ys n h p in
    let r = reverse history in
    turn_lessens (taken r left) (taken r new_left) (taken r right) (taken r new_right) n (left n) (right n) p.top.either t.xs t.ys

-- Both walks go down a chain: the highest position is taken off each that has it, nothing else is pending in the chain to
-- it from the first event on, and the parents of that one are put in.
pub record BothGo (history : List (List ℕ)) (first n : ℕ) (left right new_left new_right : ℕ → Bool) : Type 0 where
  pub top : IsHighest left right n
  pub chain : IsChain history first n
  pub left_clear : (m : ℕ) → first ≤ m → m < n → left m ≡ false
  pub right_clear : (m : ℕ) → first ≤ m → m < n → right m ≡ false
  pub next_left : (q : ℕ) → new_left q ≡ after_taking left (parents_at history first) n q
  pub next_right : (q : ℕ) → new_right q ≡ after_taking right (parents_at history first) n q

-- what comes of it
pub record Parted (history : List (List ℕ)) (a b : List ℕ) (first n : ℕ) (left right new_left new_right : ℕ → Bool) (xs ys : List ℕ) : Type 0 where
  pub parting : Parting history a b new_left new_right (if left n && not (right n) then range_with_len first (n + 1 - first) ++ xs else xs) (if right n && not (left n) then range_with_len first (n + 1 - first) ++ ys else ys)
  pub less : length (taken (reverse history) new_left) + length (taken (reverse history) new_right) < length (taken (reverse history) left) + length (taken (reverse history) right)

put_more : (b : Bool) (chain more : List ℕ) (n : ℕ) (xs : List ℕ) → more ≡ chain ++ n ∷ [] → cond b (chain ++ cond b (n ∷ xs) xs) (cond b (n ∷ xs) xs) ≡ cond b (more ++ xs) xs
put_more true chain more n xs e = sym (ap (λ ps. ps ++ xs) e ∙ append_assoc chain (n ∷ []) xs)
put_more false chain more n xs e = refl

-- one of the two passes where the chain goes on
either_down : (a b c d : Bool) → a ≡ c → b ≡ d → (c || d) ≡ true → (a || b) ≡ true
either_down a b c d e f h = (λ i. e i || f i) ∙ h

parted_by : (history : List (List ℕ)) → IsHistoryOfParents history → (a b : List ℕ) (first count n : ℕ) (left right new_left new_right : ℕ → Bool) (xs ys : List ℕ) → n ≡ first + count
    → Parting history a b left right xs ys → BothGo history first n left right new_left new_right → Parted history a b first n left right new_left new_right xs ys
parted_by history good a b first zero n left right new_left new_right xs ys long h g =
    let here : first ≡ n = omega (arith, long) in
    let one = sym (range_one first n here) in
    let pair : Pair history n left right new_left new_right = record {
      top = g.top;
      next_left = subst (λ (k : ℕ). (q : ℕ) → new_left q ≡ after_taking left (parents_at history k) n q) here g.next_left;
      next_right = subst (λ (k : ℕ). (q : ℕ) → new_right q ≡ after_taking right (parents_at history k) n q) here g.next_right;
    } in
    record {
      parting =
          subst (λ (zs : List ℕ). Parting history a b new_left new_right (if left n && not (right n) then zs ++ xs else xs) (if right n && not (left n) then zs ++ ys else ys)) one
          (parting_turns history good a b left right new_left new_right xs ys n h pair);
      less = parting_lessens history good a b left right new_left new_right xs ys n h pair;
    }
parted_by history good a b first (suc count) n left right new_left new_right xs ys long h g =
    let before : ℕ = first + count in
    let behind : n ≡ suc before = omega (arith, long) in
    let order : first ≤ before = omega arith in
    let link : parents_at history n ≡ before ∷ [] = ap (parents_at history) behind ∙ g.chain.links before order (omega (arith, behind)) in
    let mid_left : ℕ → Bool = after_taking left (parents_at history n) n in
    let mid_right : ℕ → Bool = after_taking right (parents_at history n) n in
    let pair : Pair history n left right mid_left mid_right = record { top = g.top; next_left = λ q. refl; next_right = λ q. refl } in
    let t = turns_both history good a b left right mid_left mid_right xs ys n h pair in
    let at_left : mid_left before ≡ left n = down_at history first before n left new_left behind order link g.left_clear g.next_left in
    let at_right : mid_right before ≡ right n = down_at history first before n right new_right behind order link g.right_clear g.next_right in
    let go : BothGo history first before mid_left mid_right new_left new_right = record {
      top = record {
        either = either_down (mid_left before) (mid_right before) (left n) (right n) at_left at_right g.top.either;
        left_above = λ m l. false_from_ne_true (mid_left m) (λ e. let less = t.left_low m e in omega (arith, less, l, behind));
        right_above = λ m l. false_from_ne_true (mid_right m) (λ e. let less = t.right_low m e in omega (arith, less, l, behind));
      };
      chain = record { order = order; links = λ lv from to. g.chain.links lv from (omega (arith, to, behind)) };
      left_clear = down_clear history first before n left new_left behind order link g.left_clear g.next_left;
      right_clear = down_clear history first before n right new_right behind order link g.right_clear g.next_right;
      next_left = down_next history first before n left new_left behind order link g.left_clear g.next_left;
      next_right = down_next history first before n right new_right behind order link g.right_clear g.next_right;
    } in
    let chain : List ℕ = range_with_len first (before + 1 - first) in
    let more : List ℕ = range_with_len first (n + 1 - first) in
    let up : more ≡ chain ++ n ∷ [] = range_up first before n behind order in
    let in_left : List ℕ = if left n && not (right n) then n ∷ xs else xs in
    let in_right : List ℕ = if right n && not (left n) then n ∷ ys else ys in
    let rest = parted_by history good a b first count before mid_left mid_right new_left new_right in_left in_right refl (parting_turns history good a b left right mid_left mid_right xs ys n h pair) go in
    let whole_left = (λ i. cond (at_left i && not (at_right i)) (chain ++ in_left) in_left) ∙ put_more (left n && not (right n)) chain more n xs up in
    let whole_right = (λ i. cond (at_right i && not (at_left i)) (chain ++ in_right) in_right) ∙ put_more (right n && not (left n)) chain more n ys up in
    record {
      parting = subst (λ (zs : List ℕ). Parting history a b new_left new_right zs (if right n && not (left n) then more ++ ys else ys)) whole_left
          (subst (λ (zs : List ℕ). Parting history a b new_left new_right (cond (mid_left before && not (mid_right before)) (chain ++ in_left) in_left) zs) whole_right rest.parting);
      less = let now = parting_lessens history good a b left right mid_left mid_right xs ys n h pair in let later = rest.less in omega (arith, now, later);
    }

pub parting_goes : (history : List (List ℕ)) → IsHistoryOfParents history → (a b : List ℕ) (first n : ℕ) (left right new_left new_right : ℕ → Bool) (xs ys : List ℕ) → Parting history a b left right xs ys
    → BothGo history first n left right new_left new_right → Parted history a b first n left right new_left new_right xs ys
parting_goes history good a b first n left right new_left new_right xs ys h g =
    let order = g.chain.order in
    parted_by history good a b first (n - first) n left right new_left new_right xs ys (omega (arith, order)) h g

-- Where what is left once n was taken off lies below the first event of the chain, nothing is pending in the chain but n.
pub clear_above : (left right mid_left mid_right : ℕ → Bool) (first n : ℕ) → ((q : ℕ) → mid_left q ≡ (if nat_eq n q then false else left q)) → ((q : ℕ) → mid_right q ≡ (if nat_eq n q then false else right q))
    → ((q : ℕ) → (mid_left q || mid_right q) ≡ true → q < first) → ((m : ℕ) → first ≤ m → m < n → left m ≡ false) × ((m : ℕ) → first ≤ m → m < n → right m ≡ false)
clear_above left right mid_left mid_right first n off_left off_right above = (
  λ m low high. sym (off_left m ∙ ap (λ b. cond b false (left m)) (ne_eqb n m (λ e. omega (arith, e, high)))) ∙ (free m low).0,
  λ m low high. sym (off_right m ∙ ap (λ b. cond b false (right m)) (ne_eqb n m (λ e. omega (arith, e, high)))) ∙ (free m low).1,
)
  where
    free : (m : ℕ) → first ≤ m → (mid_left m ≡ false) × (mid_right m ≡ false)
    free m low = or_parts (mid_left m) (mid_right m) (false_from_ne_true (mid_left m || mid_right m) (λ e. let less = above m e in omega (arith, less, low)))

-- Once the highest was taken off, all that is left lies below it.
pub left_below : (left right mid_left mid_right : ℕ → Bool) (n : ℕ) → IsHighest left right n → ((q : ℕ) → mid_left q ≡ (if nat_eq n q then false else left q)) → ((q : ℕ) → mid_right q ≡ (if nat_eq n q then false else right q))
    → (q : ℕ) → (mid_left q || mid_right q) ≡ true → q < n
left_below left right mid_left mid_right n top off_left off_right q e =
    ⊎_elim (λ k. by left mid_left top.left_above off_left k) (λ k. by right mid_right top.right_above off_right k) (or_cases (mid_left q) (mid_right q) e)
  where
    by : (old mid : ℕ → Bool) → ((m : ℕ) → n < m → old m ≡ false) → ((q : ℕ) → mid q ≡ (if nat_eq n q then false else old q)) → mid q ≡ true → q < n
    by old mid above off k = at (nat_eq n q) refl (nat_le n q) refl
      where
        at : (b : Bool) → nat_eq n q ≡ b → (c : Bool) → nat_le n q ≡ c → q < n
        at true f c l = absurd (false≢true (sym (off q ∙ ap (λ b. cond b false (old q)) f) ∙ k))
        at false f false l = leb-false n q l
        at false f true l =
            let ne = eqb-false n q f in
            let low = leb-true n q l in
            absurd (false≢true (sym (off q ∙ ap (λ b. cond b false (old q)) f ∙ above q (omega (arith, ne, low))) ∙ k))

none_among : (xs : List ℕ) → ((p : ℕ) → Among p xs → ⊥) → xs ≡ []
none_among [] h = refl
none_among (x ∷ xs) h = absurd (h x (inl refl))

not_true : (b : Bool) → b ≡ true → not b ≡ true → ⊥
not_true b e f = false≢true (sym (ap not e) ∙ f)

-- Where the walks agree from the floor on, all is found that one version has alone, where the other has all below the
-- floor.
side_ends : (history : List (List ℕ)) (one other : List ℕ) (here there : ℕ → Bool) (found : List ℕ) (floor : ℕ) → HasAllBelow history other floor → AgreeFrom floor here there
    → reverse found ++ only (taken (reverse history) here) (taken (reverse history) there) ≡ reverse (known_alone history one other) → found ≡ known_alone history one other
side_ends history one other here there found floor all agree whole =
    sym (reverse-reverse found)
    ∙ ap reverse (sym (append-nil (reverse found)) ∙ ap (λ ps. reverse found ++ ps) (sym none) ∙ whole)
    ∙ reverse-reverse (known_alone history one other)
  where
    r : List (List ℕ)
    r = reverse history

    found_late : (p : ℕ) → Among p (only (taken r here) (taken r there)) → Among p (known_alone history one other)
    found_late p m =
        let late : Among p (reverse (known_alone history one other)) = subst (Among p) whole (joined_right (reverse found) (only (taken r here) (taken r there)) p m) in
        number_among (known_alone history one other) p (sym (any_reversed (nat_eq p) (known_alone history one other)) ∙ among_named (reverse (known_alone history one other)) p late)

    no_more : (p : ℕ) → Among p (only (taken r here) (taken r there)) → (b : Bool) → nat_lt p floor ≡ b → ⊥
    no_more p m true q =
        let parts = among_filter (λ p. not (is_known_at history other p)) (known_positions history one) p (found_late p m) in
        let within : p < length history = all_at (λ p. p < length history) (known_positions history one) p (recursion_from_All (λ p. p < length history) (known_positions history one) (known_within history one)) parts.0 in
        not_true (is_known_at history other p) (all p (ltb-true p floor q) within) parts.1
    no_more p m false q =
        let parts = among_filter (λ p. not (is_named nat_eq (taken r there) p)) (taken r here) p m in
        not_true (is_named nat_eq (taken r there) p) (sym (taken_from r floor here there agree p (ltb-false p floor q)) ∙ among_named (taken r here) p parts.0) parts.1

    none : only (taken r here) (taken r there) ≡ []
    none = none_among (only (taken r here) (taken r there)) (λ p m. no_more p m (nat_lt p floor) refl)

pub parting_ends : (history : List (List ℕ)) (a b : List ℕ) (left right : ℕ → Bool) (xs ys : List ℕ) (floor : ℕ) → HasAllBelow history a floor → HasAllBelow history b floor → AgreeFrom floor left right → Parting history a b left right xs ys
    → (xs ≡ known_alone history a b) × (ys ≡ known_alone history b a)
parting_ends history a b left right xs ys floor all_a all_b agree h =
    (side_ends history a b left right xs floor all_b agree h.on_left, side_ends history b a right left ys floor all_a (λ p l. sym (agree p l)) h.on_right)
