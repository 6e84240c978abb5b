-- Names that ascend, and counts one behind the other.
use Rattle.std.proofs.Common.{◌≡◌, ℕ, suc, ◌-◌, ◌<◌, Bool, true, false, ◌&&◌, ltb, List, [], ◌∷◌, ◌++◌, length, map, Some, refl, sym, ap, ◌∙◌, append_assoc, append-nil, arith}
use Rattle.std.specs.Prelude.{slice_get}
use Rattle.std.specs.List.{AllByRecursion}
use Rattle.std.specs.Ordering.{is_lt, nat_cmp}
use Rattle.std.specs.Cmp.Lexicographic.{slice_cmp}
use Rattle.std.proofs.lemmas.Bool.{and_parts, and_from, ltb-true, lt-ltb}
use Rattle.std.proofs.lemmas.List.{map-append}
use Rattle.peer_definitions.specs.Spelling.{AgentCount, names_ascend, IsSoundCount}
use Rattle.peer_frames.specs.Reading.{may_follow}
use Rattle.peer_frames.proofs.Lists.{AllBehind}
use Rattle.ew_model.proofs.ListPlaces.{some_is}

abbrev pub names_of : List AgentCount → List (List ℕ)
names_of counts = map (λ (c : AgentCount). c.0) counts

and_true : (b : Bool) → (b && true) ≡ b
and_true true = refl
and_true false = refl

-- names that ascend go on ascending with one that is above their last
pub above_last : (counts : List AgentCount) (x : List ℕ) (c : AgentCount) → names_ascend (names_of counts) ≡ true → slice_get counts (length counts - 1) ≡ Some c → names_ascend (names_of counts ++ x ∷ []) ≡ is_lt (slice_cmp nat_cmp c.0 x)
above_last [] x c up e = absurd cc
above_last (d ∷ []) x c up e = ap (λ (w : AgentCount). is_lt (slice_cmp nat_cmp w.0 x) && true) (some_is d c e) ∙ and_true (is_lt (slice_cmp nat_cmp c.0 x))
above_last (d ∷ w ∷ counts) x c up e =
    let p = and_parts (is_lt (slice_cmp nat_cmp d.0 w.0)) (names_ascend (names_of (w ∷ counts))) up in
    ap (λ b. b && names_ascend (names_of (w ∷ counts) ++ x ∷ [])) p.0 ∙ above_last (w ∷ counts) x c p.1 (ap (slice_get (d ∷ w ∷ counts)) (shorter (length counts)) ∙ e)
  where
    shorter : (n : ℕ) → suc (suc n - 1) ≡ suc (suc n) - 1
    shorter n = omega arith

-- a front of names that ascend ascends
pub ascend_front : (xs ys : List (List ℕ)) → names_ascend (xs ++ ys) ≡ true → names_ascend xs ≡ true
ascend_front [] ys h = refl
ascend_front (x ∷ []) ys h = refl
ascend_front (x ∷ y ∷ xs) ys h =
    let p = and_parts (is_lt (slice_cmp nat_cmp x y)) (names_ascend (y ∷ xs ++ ys)) h in
    and_from _ _ p.0 (ascend_front (y ∷ xs) ys p.1)

-- the count is sound, and may stand behind those before it
abbrev pub MayCount : List AgentCount → AgentCount → Type 0
MayCount before c = IsSoundCount c × (may_follow before c ≡ true)

abbrev pub IsNotZero : AgentCount → Type 0
IsNotZero c = 0 < c.1

pub follows : (before : List AgentCount) (c : AgentCount) → may_follow before c ≡ true → (0 < c.1) × (names_ascend (names_of (before ++ c ∷ [])) ≡ true)
follows before c h =
    let p = and_parts (ltb 0 c.1) (names_ascend (names_of before ++ c.0 ∷ [])) h in
    (ltb-true 0 c.1 p.0, ap names_ascend (map-append (λ (d : AgentCount). d.0) before (c ∷ [])) ∙ p.1)

-- counts that were read one behind the other
pub counts_read : (before more : List AgentCount) → names_ascend (names_of before) ≡ true → AllBehind MayCount before more → AllByRecursion IsSoundCount more × AllByRecursion IsNotZero more × (names_ascend (names_of (before ++ more)) ≡ true)
counts_read before [] up h = (tt, tt, ap (λ xs. names_ascend (names_of xs)) (append-nil before) ∙ up)
counts_read before (c ∷ more) up h =
    let f = follows before c h.0.1 in
    let others = counts_read (before ++ c ∷ []) more f.1 h.1 in
    ((h.0.0, others.0), (f.0, others.1), ap (λ xs. names_ascend (names_of xs)) (sym (append_assoc before (c ∷ []) more)) ∙ others.2)

pub counts_written : (before more : List AgentCount) → AllByRecursion IsSoundCount more → AllByRecursion IsNotZero more → names_ascend (names_of (before ++ more)) ≡ true → AllBehind MayCount before more
counts_written before [] sound some up = tt
counts_written before (c ∷ more) sound some up =
    let joined : names_ascend (names_of ((before ++ c ∷ []) ++ more)) ≡ true = ap (λ xs. names_ascend (names_of xs)) (append_assoc before (c ∷ []) more) ∙ up in
    let split : names_ascend (names_of (before ++ c ∷ []) ++ names_of more) ≡ true = ap names_ascend (sym (map-append (λ (d : AgentCount). d.0) (before ++ c ∷ []) more)) ∙ joined in
    let front : names_ascend (names_of (before ++ c ∷ [])) ≡ true = ascend_front (names_of (before ++ c ∷ [])) (names_of more) split in
    let one : names_ascend (names_of before ++ c.0 ∷ []) ≡ true = ap names_ascend (sym (map-append (λ (d : AgentCount). d.0) before (c ∷ []))) ∙ front in
    ((sound.0, and_from (ltb 0 c.1) (names_ascend (names_of before ++ c.0 ∷ [])) (lt-ltb 0 c.1 some.0) one), counts_written (before ++ c ∷ []) more sound.1 some.1 joined)
