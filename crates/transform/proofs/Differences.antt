-- The positions in one of two versions alone, and the moves over them.
use Rattle.std.proofs.Common.{◌≡◌, ℕ, ◌<◌, Bool, true, false, not, cond, ◌&&◌, nat_eq, List, [], ◌∷◌, ◌++◌, filter, reverse, refl, sym, ap, ◌∙◌, eqb-true, subst}
use Rattle.std.specs.List.{AllByRecursion}
use Rattle.std.proofs.lemmas.Cmp.{nat_eq_equiv}
use Rattle.std.proofs.lemmas.List.{reverse-append}
use Rattle.std.proofs.lemmas.Map.Made.{is_member-filter}
use Rattle.ew_model.specs.Tree.{Applied}
use Rattle.ew_model.specs.Records.{holds, without, IsClosed}
use Rattle.ew_model.specs.Moves.{LookBack, Falling, Rising, AreAlone, Moves, MayRetreatAll, MayAdvanceAll, after_retreats}
use Rattle.ew_model.proofs.EntryLaws.{all_joined, filter_none}
use Rattle.ew_model.proofs.SortingLaws.{all_from, all_filter}
use Rattle.ew_model.proofs.RisingLists.{among_named}
use Rattle.ew_model.proofs.PositionSides.{any_reversed}
use Rattle.ew_model.proofs.MoveLaws.{moves_arrive}
use Rattle.advance_retreat.specs.Standing.{is_applied}
use Rattle.advance_retreat.specs.Conditions.{MayRetreatEach, MayAdvanceEach}
use Rattle.transform.specs.Moving.{alone}

-- ORDER
kept_rising : (b : Bool) (x : ℕ) (xs : List ℕ) → AllByRecursion (λ y. x < y) xs → Rising xs → Rising (cond b (x ∷ xs) xs)
kept_rising true x xs above h = (above, h)
kept_rising false x xs above h = h

filter_rising : (p : ℕ → Bool) (xs : List ℕ) → Rising xs → Rising (filter p xs)
filter_rising p [] h = tt
filter_rising p (x ∷ xs) h = kept_rising (p x) x (filter p xs) (all_filter (λ y. x < y) p xs h.0) (filter_rising p xs h.1)

push_falling : (xs : List ℕ) (x : ℕ) → Falling xs → AllByRecursion (λ y. x < y) xs → Falling (xs ++ x ∷ [])
push_falling [] x h low = (tt, tt)
push_falling (y ∷ xs) x h low = (all_joined (λ z. z < y) xs (x ∷ []) h.0 (low.0, tt), push_falling xs x h.1 low.1)

all_reversed : (P : ℕ → Type 0) (xs : List ℕ) → AllByRecursion P xs → AllByRecursion P (reverse xs)
all_reversed P [] h = tt
all_reversed P (x ∷ xs) h = subst (AllByRecursion P) (sym (reverse-append (x ∷ []) xs)) (all_joined P (reverse xs) (x ∷ []) (all_reversed P xs h.1) (h.0, tt))

reverse_falling : (xs : List ℕ) → Rising xs → Falling (reverse xs)
reverse_falling [] h = tt
reverse_falling (x ∷ xs) h = subst Falling (sym (reverse-append (x ∷ []) xs)) (push_falling (reverse xs) x (reverse_falling xs h.1) (all_reversed (λ y. x < y) xs h.0))

-- WHAT THEY HOLD
holds_alone : (xs ys : List ℕ) (n : ℕ) → holds (alone xs ys) n ≡ (holds xs n && not (holds ys n))
holds_alone xs ys n = is_member-filter {eq = nat_eq} nat_eq_equiv (λ m. not (holds ys m)) n (λ m e. ap (λ k. not (holds ys k)) (eqb-true n m e)) xs

alone_falls : (xs ys : List ℕ) → Rising xs → Falling (reverse (alone xs ys)) × AreAlone (reverse (alone xs ys)) xs ys
alone_falls xs ys h = (reverse_falling (alone xs ys) (filter_rising (λ m. not (holds ys m)) xs h), λ n. any_reversed (nat_eq n) (alone xs ys) ∙ holds_alone xs ys n)

alone_rises : (xs ys : List ℕ) → Rising xs → Rising (alone xs ys) × AreAlone (alone xs ys) xs ys
alone_rises xs ys h = (filter_rising (λ m. not (holds ys m)) xs h, holds_alone xs ys)

-- no position is in a list alone beside the list itself
pub none_alone : (xs : List ℕ) → alone xs xs ≡ []
none_alone xs = filter_none (λ n. not (holds xs n)) xs (all_from (λ n. not (holds xs n) ≡ false) xs (λ n m. ap not (among_named xs n m)))

-- THE MOVES
-- The moves from one version to another, where both are closed: what the one has alone is taken out from the highest position
-- down, and what the other has alone is put in from the lowest up.
pub moves_between : (events : List (Applied ℕ)) (a b : List ℕ) → LookBack events → IsClosed events a → IsClosed events b → Rising a → Rising b → Moves events a b (reverse (alone a b)) (alone b a)
moves_between events a b back closed_a closed_b rise_a rise_b =
    let downs = alone_falls a b rise_a in
    let ups = alone_rises b a rise_b in
    moves_arrive events a b (reverse (alone a b)) (alone b a) back closed_a closed_b downs.0 downs.1 ups.0 ups.1

-- what is in a list alone is in it
alone_in : (xs ys : List ℕ) (n : ℕ) → holds (alone xs ys) n ≡ true → holds xs n ≡ true
alone_in xs ys n h = first (holds xs n) (not (holds ys n)) (sym (holds_alone xs ys n) ∙ h)
  where
    first : (a b : Bool) → (a && b) ≡ true → a ≡ true
    first true b h = refl
    first false b h = h

all_applied : (events : List (Applied ℕ)) (xs : List ℕ) → ((n : ℕ) → holds xs n ≡ true → is_applied events n) → AllByRecursion (is_applied events) xs
all_applied events xs f = all_from (is_applied events) xs (λ n m. f n (among_named xs n m))

each_retreat : (events : List (Applied ℕ)) (prepared xs : List ℕ) → AllByRecursion (is_applied events) xs → MayRetreatAll events prepared xs → MayRetreatEach events prepared xs
each_retreat events prepared [] there h = tt
each_retreat events prepared (x ∷ xs) there h = ((there.0, h.0), each_retreat events (without x prepared) xs there.1 h.1)

each_advance : (events : List (Applied ℕ)) (prepared xs : List ℕ) → AllByRecursion (is_applied events) xs → MayAdvanceAll events prepared xs → MayAdvanceEach events prepared xs
each_advance events prepared [] there h = tt
each_advance events prepared (x ∷ xs) there h = ((there.0, h.0), each_advance events (x ∷ prepared) xs there.1 h.1)

-- each event that is taken out is applied, and each that is put in
pub retreats_may : (events : List (Applied ℕ)) (a b ups : List ℕ) → ((n : ℕ) → holds a n ≡ true → is_applied events n) → Moves events a b (reverse (alone a b)) ups → MayRetreatEach events a (reverse (alone a b))
retreats_may events a b ups part moves =
    each_retreat events a (reverse (alone a b)) (all_applied events (reverse (alone a b)) (λ n h. part n (alone_in a b n (sym (any_reversed (nat_eq n) (alone a b)) ∙ h)))) moves.down

pub advances_may : (events : List (Applied ℕ)) (a b downs : List ℕ) → ((n : ℕ) → holds b n ≡ true → is_applied events n) → Moves events a b downs (alone b a) → MayAdvanceEach events (after_retreats a downs) (alone b a)
advances_may events a b downs part moves = each_advance events (after_retreats a downs) (alone b a) (all_applied events (alone b a) (λ n h. part n (alone_in b a n h))) moves.up
