-- Lists of branches: their characters, and one of them changed.
use Rattle.std.proofs.Common.{◌≡◌, ℕ, zero, suc, ◌+◌, ◌-◌, ◌*◌, ◌^◌, ◌<◌, ◌≤◌, List, [], ◌∷◌, ◌++◌, length, take, drop, insert, remove, slice_set, slice_index_or, slice_get, Option, Some, None, is_some, false, arith, refl, sym, ap, ◌∙◌, subst, append_assoc, append-nil, length-append, take-append-drop, length-take-le, take_at, drop_at}
use Rattle.std.proofs.lemmas.Bool.{false≢true}
use Rattle.std.proofs.lemmas.List.{take_more}
use Rattle.std.proofs.lemmas.List.Concat.{flat_map-append}
use Rattle.std.proofs.lemmas.List.Sums.{sum_by-cons, sum_by-append}
use Rattle.std.proofs.Math.Nat.{pow-succ'}
use Rattle.rope.specs.Counts.{wide_chars, utf8_bytes}
use Rattle.rope.specs.Nodes.{Seen, all_chars, all_leaves}
use Rattle.rope.specs.Shape.{IsSound, AllBelow, least}
use Rattle.rope.specs.Rights.{chars_of_right, IsLike, with_right}
use Rattle.rope.specs.Typed.{with_more}
use Rattle.rope.specs.Deletions.{without}
use Rattle.rope.proofs.DeletionRuns.{without_inside}
use Rattle.rope.proofs.ExtentLaws.{wide-append, bytes-append}
use Rattle.rope.proofs.TypedRuns.{more_inside}

-- it, as a list of branches
abbrev pub listed : Option Seen → List Seen
listed None = []
listed (Some b) = b ∷ []

pub all_chars-append : (xs ys : List Seen) → all_chars (xs ++ ys) ≡ all_chars xs ++ all_chars ys
all_chars-append xs ys = flat_map-append (λ (k : Seen). k.chars) xs ys

chars_of_listed : (right : Option Seen) → all_chars (listed right) ≡ chars_of_right right
chars_of_listed None = refl
chars_of_listed (Some b) = append-nil b.chars

-- the branch at k between those before it and those behind
pub split_at : (ks : List Seen) (k : ℕ) (v : Seen) → k < length ks → v ≡ slice_index_or ks k v → ks ≡ take k ks ++ (v ∷ drop (k + 1) ks)
split_at [] k v lt is = absurd (omega arith)
split_at (x ∷ xs) zero v lt is = ap (λ (y : Seen). y ∷ xs) (sym is)
split_at (x ∷ xs) (suc k) v lt is = let more : suc k + 1 ≡ suc (k + 1) = omega arith in rw more (ap (λ (ys : List Seen). x ∷ ys) (split_at xs k v (omega arith) is))

-- another branch at k, and its second half behind it
pub put_at : (ks : List Seen) (k : ℕ) (w : Seen) (right : Option Seen) → k < length ks → with_right (slice_set ks k w) (k + 1) right ≡ take k ks ++ (w ∷ (listed right ++ drop (k + 1) ks))
put_at [] k w right lt = absurd (omega arith)
put_at (x ∷ xs) zero w None lt = refl
put_at (x ∷ xs) zero w (Some r) lt = refl
put_at (x ∷ xs) (suc k) w None lt = let more : suc k + 1 ≡ suc (k + 1) = omega arith in rw more (ap (λ (ys : List Seen). x ∷ ys) (put_at xs k w None (omega arith)))
put_at (x ∷ xs) (suc k) w (Some r) lt = let more : suc k + 1 ≡ suc (k + 1) = omega arith in rw more (ap (λ (ys : List Seen). x ∷ ys) (put_at xs k w (Some r) (omega arith)))

pub chars_split : (ks : List Seen) (k : ℕ) (v : Seen) → k < length ks → v ≡ slice_index_or ks k v → all_chars ks ≡ all_chars (take k ks) ++ (v.chars ++ all_chars (drop (k + 1) ks))
chars_split ks k v lt is = ap all_chars (split_at ks k v lt is) ∙ all_chars-append (take k ks) (v ∷ drop (k + 1) ks)

pub chars_put : (ks : List Seen) (k : ℕ) (w : Seen) (right : Option Seen) → k < length ks
    → all_chars (with_right (slice_set ks k w) (k + 1) right) ≡ all_chars (take k ks) ++ ((w.chars ++ chars_of_right right) ++ all_chars (drop (k + 1) ks))
chars_put ks k w right lt =
    let rest = drop (k + 1) ks in
    ap all_chars (put_at ks k w right lt) ∙ all_chars-append (take k ks) (w ∷ (listed right ++ rest))
    ∙ ap (λ (cs : List ℕ). all_chars (take k ks) ++ (w.chars ++ cs)) (all_chars-append (listed right) rest ∙ ap (λ (cs : List ℕ). cs ++ all_chars rest) (chars_of_listed right))
    ∙ ap (λ (cs : List ℕ). all_chars (take k ks) ++ cs) (sym (append_assoc w.chars (chars_of_right right) (all_chars rest)))

-- what more characters put into branch k do to all of them
pub grown_chars : (ks : List Seen) (k at rest : ℕ) (more : List ℕ) (v w : Seen) (right : Option Seen) → k < length ks → v ≡ slice_index_or ks k v → at ≡ length (all_chars (take k ks)) + rest → rest ≤ length v.chars
    → w.chars ++ chars_of_right right ≡ with_more v.chars rest more → all_chars (with_right (slice_set ks k w) (k + 1) right) ≡ with_more (all_chars ks) at more
grown_chars ks k at rest more v w right lt is place le e =
    let p = all_chars (take k ks) in
    let q = all_chars (drop (k + 1) ks) in
    chars_put ks k w right lt ∙ ap (λ (cs : List ℕ). p ++ (cs ++ q)) e ∙ sym (more_inside p v.chars q more rest le)
    ∙ ap (λ (i : ℕ). with_more (p ++ (v.chars ++ q)) i more) (sym place) ∙ ap (λ (cs : List ℕ). with_more cs at more) (sym (chars_split ks k v lt is))

-- and some taken out of it
pub less_chars : (ks : List Seen) (k at rest many : ℕ) (v w : Seen) → k < length ks → v ≡ slice_index_or ks k v → at ≡ length (all_chars (take k ks)) + rest → rest + many ≤ length v.chars
    → w.chars ≡ without v.chars rest many → all_chars (slice_set ks k w) ≡ without (all_chars ks) at many
less_chars ks k at rest many v w lt is place le e =
    let p = all_chars (take k ks) in
    let q = all_chars (drop (k + 1) ks) in
    chars_put ks k w None lt ∙ ap (λ (cs : List ℕ). p ++ (cs ++ q)) (append-nil w.chars ∙ e) ∙ sym (without_inside p v.chars q rest many le)
    ∙ ap (λ (i : ℕ). without (p ++ (v.chars ++ q)) i many) (sym place) ∙ ap (λ (cs : List ℕ). without cs at many) (sym (chars_split ks k v lt is))

-- a character of the middle of three lists is one of all
get_right : (p q : List ℕ) (i : ℕ) → slice_get (p ++ q) (length p + i) ≡ slice_get q i
get_right [] q i = let same : 0 + i ≡ i = omega arith in ap (slice_get q) same
get_right (x ∷ p) q i = let more : length (x ∷ p) + i ≡ suc (length p + i) = omega arith in rw more (get_right p q i)

get_left : (v q : List ℕ) (i : ℕ) → i < length v → slice_get (v ++ q) i ≡ slice_get v i
get_left [] q i lt = absurd (omega (arith, lt))
get_left (x ∷ v) q zero lt = refl
get_left (x ∷ v) q (suc i) lt = get_left v q i (omega (arith, lt))

-- what is read in branch k is read in all of them
pub kid_char : (ks : List Seen) (k at rest ch : ℕ) (v : Seen) → k < length ks → v ≡ slice_index_or ks k v → at ≡ length (all_chars (take k ks)) + rest → rest < length v.chars → slice_get v.chars rest ≡ Some ch → slice_get (all_chars ks) at ≡ Some ch
kid_char ks k at rest ch v lt is place inside e =
    let p = all_chars (take k ks) in
    let q = all_chars (drop (k + 1) ks) in
    ap (λ (cs : List ℕ). slice_get cs at) (chars_split ks k v lt is) ∙ ap (λ (i : ℕ). slice_get (p ++ (v.chars ++ q)) i) place ∙ get_right p (v.chars ++ q) rest ∙ get_left v.chars q rest inside ∙ e

-- a branch that is as before leaves all as before
pub set_same : (ks : List Seen) (k : ℕ) (w v : Seen) → v ≡ slice_index_or ks k v → w ≡ v → slice_set ks k w ≡ ks
set_same [] k w v is same = refl
set_same (x ∷ xs) zero w v is same = ap (λ (y : Seen). y ∷ xs) (same ∙ is)
set_same (x ∷ xs) (suc k) w v is same = ap (λ (ys : List Seen). x ∷ ys) (set_same xs k w v is same)

-- the characters and the leaves of the branches so far and of the next are among all
pub chars_so_far : (ks : List Seen) (k : ℕ) (v : Seen) → k < length ks → v ≡ slice_index_or ks k v → length (all_chars (take k ks)) + length v.chars ≤ length (all_chars ks)
chars_so_far ks k v lt is =
    let all = ap length (chars_split ks k v lt is) in
    omega (arith, all, length-append (all_chars (take k ks)) (v.chars ++ all_chars (drop (k + 1) ks)), length-append v.chars (all_chars (drop (k + 1) ks)))

pub leaves-cons : (k : Seen) (ks : List Seen) → all_leaves (k ∷ ks) ≡ k.leaves + all_leaves ks
leaves-cons k ks = sum_by-cons (λ (t : Seen). t.leaves) k ks

pub leaves_so_far : (ks : List Seen) (k : ℕ) (v : Seen) → k < length ks → v ≡ slice_index_or ks k v → all_leaves (take k ks) + v.leaves ≤ all_leaves ks
leaves_so_far ks k v lt is =
    let all : all_leaves ks ≡ all_leaves (take k ks ++ (v ∷ drop (k + 1) ks)) = ap all_leaves (split_at ks k v lt is) in
    omega (arith, all, sum_by-append (λ (t : Seen). t.leaves) (take k ks) (v ∷ drop (k + 1) ks), leaves-cons v (drop (k + 1) ks))

-- DEPTHS
pub below-append : (d : ℕ) (xs ys : List Seen) → AllBelow d xs → AllBelow d ys → AllBelow d (xs ++ ys)
below-append d [] ys h g = g
below-append d (x ∷ xs) ys h g = (h.0, h.1, below-append d xs ys h.2 g)

pub below_front : (d : ℕ) (xs ys : List Seen) → AllBelow d (xs ++ ys) → AllBelow d xs
below_front d [] ys h = tt
below_front d (x ∷ xs) ys h = (h.0, h.1, below_front d xs ys h.2)

pub below_back : (d : ℕ) (xs ys : List Seen) → AllBelow d (xs ++ ys) → AllBelow d ys
below_back d [] ys h = h
below_back d (x ∷ xs) ys h = below_back d xs ys h.2

pub below-take : (d k : ℕ) (ks : List Seen) → AllBelow d ks → AllBelow d (take k ks)
below-take d zero ks h = tt
below-take d (suc k) [] h = h
below-take d (suc k) (x ∷ xs) h = (h.0, h.1, below-take d k xs h.2)

pub below-drop : (d k : ℕ) (ks : List Seen) → AllBelow d ks → AllBelow d (drop k ks)
below-drop d zero ks h = h
below-drop d (suc k) [] h = h
below-drop d (suc k) (x ∷ xs) h = below-drop d k xs h.2

pub below_at : (d : ℕ) (ks : List Seen) (k : ℕ) (v : Seen) → AllBelow d ks → k < length ks → v ≡ slice_index_or ks k v → (v.depth + 1 ≡ d) × IsSound v
below_at d [] k v h lt is = absurd (omega arith)
below_at d (x ∷ xs) zero v h lt is = rw is (h.0, h.1)
below_at d (x ∷ xs) (suc k) v h lt is = below_at d xs k v h.2 (omega arith) is

below_listed : (d e : ℕ) (right : Option Seen) → IsLike e right → e + 1 ≡ d → AllBelow d (listed right)
below_listed d e None h same = tt
below_listed d e (Some b) h same = (ap (λ (n : ℕ). n + 1) h.0 ∙ same, h.1, tt)

pub below_put : (d : ℕ) (ks : List Seen) (k : ℕ) (w : Seen) (right : Option Seen) → k < length ks → AllBelow d (take k ks) → AllBelow d (drop (k + 1) ks) → w.depth + 1 ≡ d → IsSound w → IsLike w.depth right
    → AllBelow d (with_right (slice_set ks k w) (k + 1) right)
below_put d ks k w right lt front back deep sound like =
    subst (AllBelow d) (sym (put_at ks k w right lt))
    (below-append d (take k ks) (w ∷ (listed right ++ drop (k + 1) ks)) front (deep, sound, below-append d (listed right) (drop (k + 1) ks) (below_listed d w.depth right like deep) back))

-- BOUNDS
double : (n x : ℕ) → 2 ≤ n → 2 * x ≤ n * x
double n x h = grind arith

pow-more : (e : ℕ) → 2 ^ (e + 1) ≡ 2 * 2 ^ e
pow-more e = let more : e + 1 ≡ suc e = omega arith in rw more (pow-succ' 2 e)

-- branches of depth e have together as many leaves as they are branches, times what that depth asks
many : (e : ℕ) (ks : List Seen) → AllBelow (e + 1) ks → length ks * 2 ^ e ≤ 2 * all_leaves ks
many e [] h = omega arith
many e (k ∷ ks) h =
    let same : k.depth ≡ e = omega (arith, h.0) in
    let own : 2 ^ e ≤ 2 * k.leaves = rw (← same) h.1.enough in
    omega (arith, own, many e ks h.2, leaves-cons k ks)

pub leaves_some : (d : ℕ) (ks : List Seen) → AllBelow d ks → all_leaves ks ≤ length (all_chars ks)
leaves_some d [] h = omega arith
leaves_some d (k ∷ ks) h = omega (arith, h.1.some, leaves_some d ks h.2, leaves-cons k ks, length-append k.chars (all_chars ks))

leaves_few : (d : ℕ) (ks : List Seen) → AllBelow d ks → length (all_chars ks) ≤ 64 * all_leaves ks
leaves_few d [] h = omega arith
leaves_few d (k ∷ ks) h = omega (arith, h.1.few, leaves_few d ks h.2, leaves-cons k ks, length-append k.chars (all_chars ks))

-- a node with branches is of depth 2 at least
pub high : (d : ℕ) (ks : List Seen) → AllBelow d ks → 1 ≤ length ks → 2 ≤ d
high d [] h some = absurd (omega (arith, some))
high d (k ∷ ks) h some = omega (arith, h.0, h.1.deep)

bound : (d : ℕ) (ks : List Seen) → AllBelow d ks → 2 ≤ length ks → 2 ^ d ≤ 2 * all_leaves ks
bound d ks h some =
    let up : d ≡ d - 1 + 1 = omega (arith, high d ks h (omega (arith, some))) in
    let all : length ks * 2 ^ (d - 1) ≤ 2 * all_leaves ks = many (d - 1) ks (subst (λ (m : ℕ). AllBelow m ks) up h) in
    let twice : 2 * 2 ^ (d - 1) ≤ length ks * 2 ^ (d - 1) = double (length ks) (2 ^ (d - 1)) some in
    let power : 2 ^ d ≡ 2 * 2 ^ (d - 1) = ap (λ (m : ℕ). 2 ^ m) up ∙ pow-more (d - 1) in
    omega (arith, all, twice, power)

pub least_two : (d : ℕ) → 2 ≤ d → least d ≡ 2
least_two d h = grind arith

-- a node with two branches is sound
pub sound_inner : (d : ℕ) (ks : List Seen) → AllBelow d ks → 2 ≤ length ks → IsSound (record { chars = all_chars ks; depth = d; leaves = all_leaves ks; parts = length ks })
sound_inner d ks h some =
    let tall : 2 ≤ d = high d ks h (omega (arith, some)) in
    record {
      deep = omega (arith, tall);
      parts = rw (least_two d tall) some;
      enough = bound d ks h some;
      some = leaves_some d ks h;
      few = leaves_few d ks h;
    }

-- so is a leaf with a character
pub sound_leaf : (cs : List ℕ) → 0 < length cs → length cs ≤ 64 → IsSound (record { chars = cs; depth = 1; leaves = 1; parts = length cs })
sound_leaf cs some few = record { deep = omega arith; parts = omega (arith, some); enough = omega arith; some = omega (arith, some); few = omega (arith, few) }

-- REMOVALS
-- branches around one that is sound are below d, all of them
pub below_whole : (d : ℕ) (ks : List Seen) (k : ℕ) (v : Seen) → k < length ks → v ≡ slice_index_or ks k v → AllBelow d (take k ks) → AllBelow d (drop (k + 1) ks) → v.depth + 1 ≡ d → IsSound v → AllBelow d ks
below_whole d ks k v lt is front back deep sound = subst (AllBelow d) (sym (split_at ks k v lt is)) (below-append d (take k ks) (v ∷ drop (k + 1) ks) front (deep, sound, back))

remove_is : (ks : List Seen) (k : ℕ) → remove ks k ≡ take k ks ++ drop (k + 1) ks
remove_is ks k = let more : suc k ≡ k + 1 = omega arith in ap (λ (i : ℕ). take k ks ++ drop i ks) more

pub below_removed : (d : ℕ) (ks : List Seen) (k : ℕ) → AllBelow d (take k ks) → AllBelow d (drop (k + 1) ks) → AllBelow d (remove ks k)
below_removed d ks k front back = subst (AllBelow d) (sym (remove_is ks k)) (below-append d (take k ks) (drop (k + 1) ks) front back)

pub take_removed : (ks : List Seen) (k : ℕ) → k < length ks → take k (remove ks k) ≡ take k ks
take_removed ks k lt = take_at (take k ks) (drop (suc k) ks) k (length-take-le k ks (omega arith))

pub drop_removed : (ks : List Seen) (k : ℕ) → k < length ks → drop k (remove ks k) ≡ drop (k + 1) ks
drop_removed ks k lt = let more : suc k ≡ k + 1 = omega arith in drop_at (take k ks) (drop (suc k) ks) k (length-take-le k ks (omega arith)) ∙ ap (λ (i : ℕ). drop i ks) more

-- a branch without characters goes
pub emptied_chars : (ks : List Seen) (k : ℕ) (v : Seen) → k < length ks → v ≡ slice_index_or ks k v → v.chars ≡ [] → all_chars (remove ks k) ≡ all_chars ks
emptied_chars ks k v lt is none =
    ap all_chars (remove_is ks k) ∙ all_chars-append (take k ks) (drop (k + 1) ks)
    ∙ ap (λ (cs : List ℕ). all_chars (take k ks) ++ (cs ++ all_chars (drop (k + 1) ks))) (sym none) ∙ sym (chars_split ks k v lt is)

-- the characters of a branch stay where it stood
pub moved_chars : (ks : List Seen) (k : ℕ) (v kid : Seen) → k < length ks → v ≡ slice_index_or ks k v → v.chars ≡ kid.chars
    → all_chars (take k (remove ks k)) ++ (kid.chars ++ all_chars (drop k (remove ks k))) ≡ all_chars ks
moved_chars ks k v kid lt is same =
    ap (λ (xs : List Seen). all_chars xs ++ (kid.chars ++ all_chars (drop k (remove ks k)))) (take_removed ks k lt)
    ∙ ap (λ (xs : List Seen). all_chars (take k ks) ++ (kid.chars ++ all_chars xs)) (drop_removed ks k lt)
    ∙ ap (λ (cs : List ℕ). all_chars (take k ks) ++ (cs ++ all_chars (drop (k + 1) ks))) (sym same) ∙ sym (chars_split ks k v lt is)

-- a branch given to the one before its place, or to the first
pub given_last : (ks : List Seen) (j k : ℕ) (v w kid : Seen) (right : Option Seen) → k ≡ j + 1 → j < length ks → v ≡ slice_index_or ks j v → w.chars ++ chars_of_right right ≡ v.chars ++ kid.chars
    → all_chars (with_right (slice_set ks j w) k right) ≡ all_chars (take k ks) ++ (kid.chars ++ all_chars (drop k ks))
given_last ks j k v w kid right next lt is e =
    let p = all_chars (take j ks) in
    let q = all_chars (drop (j + 1) ks) in
    let front : all_chars (take (j + 1) ks) ≡ p ++ v.chars =
    ap all_chars (take_more ks j v lt) ∙ all_chars-append (take j ks) (slice_index_or ks j v ∷ []) ∙ ap (λ (cs : List ℕ). p ++ cs) (append-nil (slice_index_or ks j v).chars ∙ ap (λ (t : Seen). t.chars) (sym is)) in
    rw next
    (chars_put ks j w right lt ∙ ap (λ (cs : List ℕ). p ++ (cs ++ q)) e ∙ ap (λ (cs : List ℕ). p ++ cs) (append_assoc v.chars kid.chars q) ∙ sym (append_assoc p v.chars (kid.chars ++ q))
    ∙ ap (λ (cs : List ℕ). cs ++ (kid.chars ++ q)) (sym front))

pub given_first : (ks : List Seen) (k : ℕ) (v w kid : Seen) (right : Option Seen) → k ≡ 0 → 0 < length ks → v ≡ slice_index_or ks 0 v → w.chars ++ chars_of_right right ≡ kid.chars ++ v.chars
    → all_chars (with_right (slice_set ks 0 w) 1 right) ≡ all_chars (take k ks) ++ (kid.chars ++ all_chars (drop k ks))
given_first ks k v w kid right none lt is e =
    rw none
    (chars_put ks 0 w right lt ∙ ap (λ (cs : List ℕ). cs ++ all_chars (drop 1 ks)) e ∙ append_assoc kid.chars v.chars (all_chars (drop 1 ks)) ∙ ap (λ (cs : List ℕ). kid.chars ++ cs) (sym (chars_split ks 0 v lt is)))

pub removed_long : (ks : List Seen) (k : ℕ) (v kid : Seen) → k < length ks → v ≡ slice_index_or ks k v → v.chars ≡ kid.chars → length (all_chars (remove ks k)) + length kid.chars ≡ length (all_chars ks)
removed_long ks k v kid lt is same =
    let all = ap length (chars_split ks k v lt is) in
    let rest = ap length (ap all_chars (remove_is ks k) ∙ all_chars-append (take k ks) (drop (k + 1) ks)) in
    omega (arith, all, rest, ap length same, length-append (all_chars (take k ks)) (v.chars ++ all_chars (drop (k + 1) ks)), length-append v.chars (all_chars (drop (k + 1) ks)), length-append (all_chars (take k ks)) (all_chars (drop (k + 1) ks)))

pub below_given : (d : ℕ) (ks : List Seen) (j k : ℕ) (v w : Seen) (right : Option Seen) → k ≡ j + 1 → j < length ks → AllBelow d ks → v.depth + 1 ≡ d → w.depth ≡ v.depth → IsSound w → IsLike v.depth right
    → AllBelow d (with_right (slice_set ks j w) k right)
below_given d ks j k v w right next lt h lower same sound like =
    rw next
    (below_put d ks j w right lt (below-take d j ks h) (below-drop d (j + 1) ks h) (ap (λ (n : ℕ). n + 1) same ∙ lower) sound (subst (λ (n : ℕ). IsLike n right) (sym same) like))

-- ONE MORE
pub below_insert : (d : ℕ) (ks : List Seen) (at : ℕ) (kid : Seen) → AllBelow d ks → kid.depth + 1 ≡ d → IsSound kid → AllBelow d (insert ks at kid)
below_insert d ks at kid h lower sound = below-append d (take at ks) (kid ∷ drop at ks) (below-take d at ks h) (lower, sound, below-drop d at ks h)

pub insert_long : (ks : List Seen) (at : ℕ) (kid : Seen) → length (all_chars (insert ks at kid)) ≡ length kid.chars + length (all_chars ks)
insert_long ks at kid =
    let all = ap length (ap all_chars (sym (take-append-drop at ks)) ∙ all_chars-append (take at ks) (drop at ks)) in
    let more = ap length (all_chars-append (take at ks) (kid ∷ drop at ks)) in
    omega (arith, all, more, length-append (all_chars (take at ks)) (all_chars (drop at ks)), length-append (all_chars (take at ks)) (kid.chars ++ all_chars (drop at ks)), length-append kid.chars (all_chars (drop at ks)))

-- the characters of the branches so far and the next
pub chars_more : (ks : List Seen) (i : ℕ) (v : Seen) → i < length ks → v ≡ slice_index_or ks i v → all_chars (take (i + 1) ks) ≡ all_chars (take i ks) ++ v.chars
chars_more ks i v lt is =
    ap all_chars (take_more ks i v lt) ∙ all_chars-append (take i ks) (slice_index_or ks i v ∷ []) ∙ ap (λ (cs : List ℕ). all_chars (take i ks) ++ cs) (append-nil (slice_index_or ks i v).chars ∙ ap (λ (t : Seen). t.chars) (sym is))

-- what stands around a branch that is put in the place of another, and it itself
drop_put : (ks : List Seen) (k : ℕ) (w : Seen) → drop (suc k) (slice_set ks k w) ≡ drop (suc k) ks
drop_put [] k w = refl
drop_put (x ∷ xs) zero w = refl
drop_put (x ∷ xs) (suc k) w = drop_put xs k w

pub behind_put : (ks : List Seen) (k : ℕ) (w : Seen) → drop (k + 1) (slice_set ks k w) ≡ drop (k + 1) ks
behind_put ks k w = let more : k + 1 ≡ suc k = omega arith in rw more (drop_put ks k w)

pub get_put : (ks : List Seen) (k : ℕ) (w e : Seen) → k < length ks → slice_index_or (slice_set ks k w) k e ≡ w
get_put [] k w e lt = absurd (omega arith)
get_put (x ∷ xs) zero w e lt = refl
get_put (x ∷ xs) (suc k) w e lt = get_put xs k w e (omega arith)

-- two readings of one place
pub same_item : (ks : List Seen) (k : ℕ) (a b : Seen) → k < length ks → a ≡ slice_index_or ks k a → b ≡ slice_index_or ks k b → a ≡ b
same_item [] k a b lt isa isb = absurd (omega (arith, lt))
same_item (x ∷ xs) zero a b lt isa isb = isa ∙ sym isb
same_item (x ∷ xs) (suc k) a b lt isa isb = same_item xs k a b (omega (arith, lt)) isa isb

-- the leaves of all, where another branch stands at k
pub leaves_put : (ks : List Seen) (k : ℕ) (v w : Seen) → k < length ks → v ≡ slice_index_or ks k v → all_leaves (slice_set ks k w) + v.leaves ≡ all_leaves ks + w.leaves
leaves_put [] k v w lt is = absurd (omega (arith, lt))
leaves_put (x ∷ xs) zero v w lt is = omega (arith, leaves-cons w xs, leaves-cons x xs, ap (λ (t : Seen). t.leaves) is)
leaves_put (x ∷ xs) (suc k) v w lt is = omega (arith, leaves_put xs k v w (omega (arith, lt)) is, leaves-cons x (slice_set xs k w), leaves-cons x xs)

-- what is counted of one branch is among what is counted of all
pub wide_part : (ks : List Seen) (k : ℕ) (v : Seen) → k < length ks → v ≡ slice_index_or ks k v → wide_chars v.chars ≤ wide_chars (all_chars ks)
wide_part ks k v lt is =
    let behind = all_chars (drop (k + 1) ks) in
    omega (arith, ap wide_chars (chars_split ks k v lt is), wide-append (all_chars (take k ks)) (v.chars ++ behind), wide-append v.chars behind)

pub bytes_part : (ks : List Seen) (k : ℕ) (v : Seen) → k < length ks → v ≡ slice_index_or ks k v → utf8_bytes v.chars ≤ utf8_bytes (all_chars ks)
bytes_part ks k v lt is =
    let behind = all_chars (drop (k + 1) ks) in
    omega (arith, ap utf8_bytes (chars_split ks k v lt is), bytes-append (all_chars (take k ks)) (v.chars ++ behind), bytes-append v.chars behind)

pub none_is : (right : Option Seen) → is_some right ≡ false → right ≡ None
none_is None h = refl
none_is (Some b) h = absurd (false≢true (sym h))

-- the characters where another branch stands at k, counted
chars_set : (ks : List Seen) (k : ℕ) (w : Seen) → k < length ks → all_chars (slice_set ks k w) ≡ all_chars (take k ks) ++ (w.chars ++ all_chars (drop (k + 1) ks))
chars_set ks k w lt = chars_put ks k w None lt ∙ ap (λ (cs : List ℕ). all_chars (take k ks) ++ (cs ++ all_chars (drop (k + 1) ks))) (append-nil w.chars)

pub long_put : (ks : List Seen) (k : ℕ) (v w : Seen) → k < length ks → v ≡ slice_index_or ks k v → length (all_chars (slice_set ks k w)) + length v.chars ≡ length (all_chars ks) + length w.chars
long_put ks k v w lt is =
    let front = all_chars (take k ks) in
    let behind = all_chars (drop (k + 1) ks) in
    omega (arith, ap length (chars_set ks k w lt), ap length (chars_split ks k v lt is), length-append front (w.chars ++ behind), length-append w.chars behind, length-append front (v.chars ++ behind), length-append v.chars behind)

pub wide_put : (ks : List Seen) (k : ℕ) (v w : Seen) → k < length ks → v ≡ slice_index_or ks k v → wide_chars (all_chars (slice_set ks k w)) + wide_chars v.chars ≡ wide_chars (all_chars ks) + wide_chars w.chars
wide_put ks k v w lt is =
    let front = all_chars (take k ks) in
    let behind = all_chars (drop (k + 1) ks) in
    omega (arith, ap wide_chars (chars_set ks k w lt), ap wide_chars (chars_split ks k v lt is), wide-append front (w.chars ++ behind), wide-append w.chars behind, wide-append front (v.chars ++ behind), wide-append v.chars behind)

pub bytes_put : (ks : List Seen) (k : ℕ) (v w : Seen) → k < length ks → v ≡ slice_index_or ks k v → utf8_bytes (all_chars (slice_set ks k w)) + utf8_bytes v.chars ≡ utf8_bytes (all_chars ks) + utf8_bytes w.chars
bytes_put ks k v w lt is =
    let front = all_chars (take k ks) in
    let behind = all_chars (drop (k + 1) ks) in
    omega (arith, ap utf8_bytes (chars_set ks k w lt), ap utf8_bytes (chars_split ks k v lt is), bytes-append front (w.chars ++ behind), bytes-append w.chars behind, bytes-append front (v.chars ++ behind), bytes-append v.chars behind)
