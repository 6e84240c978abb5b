-- What is kept of the cuts when an event comes.
use Rattle.std.proofs.Common.{◌≡◌, ℕ, zero, suc, ◌+◌, ◌<◌, ◌≤◌, Bool, true, false, cond, ◌⊎◌, inl, inr, ⊎_elim, nat_eq, nat_lt, List, [], ◌∷◌, ◌++◌, length, map, filter, take, slice_get, slice_index_or, Some, refl, sym, ap, ◌∙◌, subst, arith, append-nil, length-append, le-ltb}
use Rattle.std.specs.List.{AllByRecursion, take-map}
use Rattle.std.specs.Cmp.Lexicographic.{pointwise}
use Rattle.std.proofs.Math.Seq.{take-length}
use Rattle.std.proofs.lemmas.Bool.{false_from_ne_true}
use Rattle.std.proofs.lemmas.List.{take-append-le, map-append}
use Rattle.std.proofs.lemmas.List.Elements.{filter-append}
use Rattle.ew_model.specs.Sets.{Among}
use Rattle.ew_model.specs.CutChange.{stays_behind}
use Rattle.ew_model.specs.Positions.{AreParents, IsHistoryOfParents, frontier_of, is_reduced_at, is_cut_at, cuts_at}
use Rattle.ew_model.specs.PositionCuts.{past_parents, is_frontier}
use Rattle.ew_model.proofs.SortingLaws.{all_at, all_from, all_filter}
use Rattle.ew_model.proofs.RisingLists.{pointwise_same, pointwise_itself}
use Rattle.ew_model.proofs.PositionCuts.{past_within, cuts_step_at}
use Rattle.critical.specs.KeptCuts.{inner_cuts, heads_below, kept_for, with_whole, with_first}
use Rattle.critical.specs.Searches.{TellsHeads}
use Rattle.critical.proofs.Searching.{stays_low, stays_at, stops_high}
use Rattle.critical.proofs.InnerCuts.{passing_low, filter-below, cuts_split, inner_of}

-- the inner cuts are below the length
inner_low : (history : List (List ℕ)) → AllByRecursion (λ k. k < length history) (inner_cuts history)
inner_low history = all_from (λ k. k < length history) (inner_cuts history) (λ k m. (inner_of history k m).1)

pub filter-all : (p : ℕ → Bool) (xs : List ℕ) → AllByRecursion (λ k. p k ≡ true) xs → filter p xs ≡ xs
filter-all p [] h = refl
filter-all p (x ∷ xs) h = λ i. cond (h.0 i) (x ∷ filter-all p xs h.1 i) (filter-all p xs h.1 i)

-- the heads kept for a cut are those of the events below it
read-map : (f : ℕ → List ℕ) (xs : List ℕ) (place x : ℕ) → slice_get xs place ≡ Some x → slice_index_or (map f xs) place [] ≡ f x
read-map f [] place x e = let no : ⊥ = cc in absurd no
read-map f (y ∷ xs) zero x e = let one : y ≡ x = cc in ap f one
read-map f (y ∷ xs) (suc place) x e = read-map f xs place x e

pub inner_tells : (history : List (List ℕ)) (parents : List ℕ) (past : ℕ) → TellsHeads (inner_cuts history) (heads_below history (inner_cuts history)) past parents (is_frontier (take past history) parents)
inner_tells history parents past place e = ap (pointwise nat_eq parents) (sym (read-map (λ k. frontier_of (take k history)) (inner_cuts history) place past e))

module _ (history : List (List ℕ)) (parents : List ℕ) where
  -- the heads below a cut don't change by an event behind it
  heads-behind : (cuts : List ℕ) → AllByRecursion (λ k. k ≤ length history) cuts → heads_below (history ++ parents ∷ []) cuts ≡ heads_below history cuts
  heads-behind [] h = refl
  heads-behind (k ∷ cuts) h = λ i. frontier_of (take-append-le k history (parents ∷ []) h.0 i) ∷ heads-behind cuts h.1 i

  pushed_length : length (history ++ parents ∷ []) ≡ suc (length history)
  pushed_length = let long = length-append history (parents ∷ []) in omega (arith, long)

  module _ (good : IsHistoryOfParents history) (lower : AreParents (length history) parents) (reduced : is_reduced_at history parents ≡ true) where
    -- the inner cuts are those of all cuts so far that stay
    inner_after : inner_cuts (history ++ parents ∷ []) ≡ filter (stays_behind (past_parents parents) (is_frontier (take (past_parents parents) history) parents)) (cuts_at history)
    inner_after =
        let stays = stays_behind (past_parents parents) (is_frontier (take (past_parents parents) history) parents) in
        let n = length history in
        let kept = filter stays (cuts_at history) in
        let low : AllByRecursion (λ k. k ≤ n) kept = all_filter (λ k. k ≤ n) stays (cuts_at history) (passing_low (is_cut_at history) n) in
        ap (λ m. filter (λ k. nat_lt k m) (cuts_at (history ++ parents ∷ []))) pushed_length
        ∙ ap (filter (λ k. nat_lt k (suc n))) (cuts_step_at history parents good lower reduced).all
        ∙ filter-append (λ k. nat_lt k (suc n)) kept (suc n ∷ [])
        ∙ (λ i. filter-below kept n (suc n) low (omega arith) i ++ cond (le-ltb (suc n) (suc n) (omega arith) i) (suc n ∷ []) [])
        ∙ append-nil kept

    inner_parts : inner_cuts (history ++ parents ∷ []) ≡ filter (stays_behind (past_parents parents) (is_frontier (take (past_parents parents) history) parents)) (inner_cuts history)
        ++ cond (stays_behind (past_parents parents) (is_frontier (take (past_parents parents) history) parents) (length history)) (length history ∷ []) []
    inner_parts =
        let stays = stays_behind (past_parents parents) (is_frontier (take (past_parents parents) history) parents) in
        inner_after ∙ ap (filter stays) (cuts_split history) ∙ filter-append stays (inner_cuts history) (length history ∷ [])

    -- ALL STAY, where the parents are the frontier.
    pub whole_kept : past_parents parents ≡ length history → parents ≡ frontier_of history
        → kept_for (history ++ parents ∷ []) ≡ with_whole (kept_for history) parents
    whole_kept at heads =
        let stays = stays_behind (past_parents parents) (is_frontier (take (past_parents parents) history) parents) in
        let n = length history in
        let front : take (past_parents parents) history ≡ history = ap (λ k. take k history) at ∙ take-length history in
        let are : is_frontier (take (past_parents parents) history) parents ≡ true = ap (λ h. is_frontier h parents) front ∙ ap (λ ps. pointwise nat_eq parents ps) (sym heads) ∙ pointwise_itself parents in
        let inner : filter stays (inner_cuts history) ≡ inner_cuts history =
        filter-all stays (inner_cuts history) (all_from (λ k. stays k ≡ true) (inner_cuts history) (λ k m. stays_low (past_parents parents) _ k (let low = (inner_of history k m).1 in omega (arith, low, at)))) in
        let cuts : inner_cuts (history ++ parents ∷ []) ≡ inner_cuts history ++ n ∷ [] =
        inner_parts ∙ (λ i. inner i ++ cond ((stays_at (past_parents parents) _ n (sym at) ∙ are) i) (n ∷ []) []) in
        let low : AllByRecursion (λ k. k ≤ n) (inner_cuts history ++ n ∷ []) = all_from (λ k. k ≤ n) (inner_cuts history ++ n ∷ []) (λ k m. at_most k m) in
        let below : heads_below (history ++ parents ∷ []) (inner_cuts history ++ n ∷ []) ≡ heads_below history (inner_cuts history) ++ parents ∷ [] =
        heads-behind (inner_cuts history ++ n ∷ []) low ∙ map-append (λ k. frontier_of (take k history)) (inner_cuts history) (n ∷ [])
        ∙ ap (λ hs. heads_below history (inner_cuts history) ++ hs ∷ []) (ap frontier_of (take-length history) ∙ sym heads) in
        let more : suc n ≡ n + 1 = omega arith in
        λ i. record { cuts = cuts i; heads = (ap (heads_below (history ++ parents ∷ [])) cuts ∙ below) i; count = (pushed_length ∙ more) i }
      where
        at_most : (k : ℕ) → Among k (inner_cuts history ++ length history ∷ []) → k ≤ length history
        at_most k m = all_at (λ j. j ≤ length history) (cuts_at history) k (passing_low (is_cut_at history) (length history)) (subst (Among k) (sym (cuts_split history)) m)

    -- ONLY THE FIRST STAY, where they aren't.
    pub first_kept : (i : ℕ) → (past_parents parents ≡ length history → parents ≡ frontier_of history → ⊥)
        → take i (inner_cuts history) ≡ filter (stays_behind (past_parents parents) (is_frontier (take (past_parents parents) history) parents)) (inner_cuts history)
        → kept_for (history ++ parents ∷ []) ≡ with_first (kept_for history) i
    first_kept i other kept =
        let stays = stays_behind (past_parents parents) (is_frontier (take (past_parents parents) history) parents) in
        let n = length history in
        let stops : stays n ≡ false = at (is_lower (past_parents parents) n (past_within history parents lower)) in
        let cuts : inner_cuts (history ++ parents ∷ []) ≡ take i (inner_cuts history) =
        inner_parts ∙ (λ j. sym kept j ++ cond (stops j) (n ∷ []) []) ∙ append-nil (take i (inner_cuts history)) in
        let low : AllByRecursion (λ k. k ≤ n) (take i (inner_cuts history)) = fewer i (inner_cuts history) (inner_low history) in
        let below : heads_below (history ++ parents ∷ []) (take i (inner_cuts history)) ≡ take i (heads_below history (inner_cuts history)) =
        heads-behind (take i (inner_cuts history)) low ∙ sym (take-map (λ k. frontier_of (take k history)) i (inner_cuts history)) in
        let more : suc n ≡ n + 1 = omega arith in
        λ j. record { cuts = cuts j; heads = (ap (heads_below (history ++ parents ∷ [])) cuts ∙ below) j; count = (pushed_length ∙ more) j }
      where
        is_lower : (a b : ℕ) → a ≤ b → (a < b) ⊎ (a ≡ b)
        is_lower zero zero l = inr refl
        is_lower zero (suc b) l = inl (omega arith)
        is_lower (suc a) zero l = absurd (omega (arith, l))
        is_lower (suc a) (suc b) l = ⊎_elim (λ s. inl (omega (arith, s))) (λ e. inr (ap suc e)) (is_lower a b (omega (arith, l)))

        at : (past_parents parents < length history) ⊎ (past_parents parents ≡ length history) → stays_behind (past_parents parents) (is_frontier (take (past_parents parents) history) parents) (length history) ≡ false
        at (inl l) = stops_high (past_parents parents) _ (length history) l
        at (inr e) =
            stays_at (past_parents parents) _ (length history) (sym e)
            ∙ ap (λ h. is_frontier h parents) (ap (λ k. take k history) e ∙ take-length history)
            ∙ false_from_ne_true (pointwise nat_eq parents (frontier_of history)) (λ t. other e (pointwise_same parents (frontier_of history) t))

        fewer : (m : ℕ) (xs : List ℕ) → AllByRecursion (λ k. k < length history) xs → AllByRecursion (λ k. k ≤ length history) (take m xs)
        fewer zero xs h = tt
        fewer (suc m) [] h = tt
        fewer (suc m) (x ∷ xs) h = (let first : x < length history = h.0 in omega (arith, first), fewer m xs h.1)
