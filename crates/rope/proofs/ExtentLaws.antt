-- How much room the parts of a text take.
use Rattle.std.proofs.Common.{◌≡◌, ℕ, ◌+◌, ◌-◌, ◌*◌, ◌<◌, ◌≤◌, ⊎_elim, List, [], ◌∷◌, ◌++◌, length, take, drop, append-nil, length-append, length-drop, Some, None, arith, refl, sym, ap, ◌∙◌}
use Rattle.std.specs.Char.{len_utf8}
use Rattle.std.specs.List.{sum_by}
use Rattle.std.proofs.lemmas.Bool.{cases_order}
use Rattle.std.proofs.lemmas.List.{take_all, drop_all, take-take, drop-drop, take-append-le, drop-append-le}
use Rattle.std.proofs.lemmas.List.Sums.{sum_by-cons, sum_by-append, sum_by-take-drop}
use Rattle.std.proofs.lemmas.Str.{len_utf8_bounds}
use Rattle.std.proofs.Math.Seq.{take-append-add, drop-append-add}
use Rattle.rope.specs.declared.extents.Measure.{Measure}
use Rattle.rope.specs.declared.extents.Measure.TheVariants.{Utf16, Utf8}
use Rattle.rope.specs.Counts.{second_unit, wide_chars, utf8_bytes, Reaches}
use Rattle.rope.specs.Deletions.{without}
use Rattle.rope.specs.Extents.{width, extent, IsIndexBehind}
use Rattle.rope.specs.Typed.{with_more}

-- SUMS OVER CHARACTERS
sum_most : (f : ℕ → ℕ) (n : ℕ) → ((ch : ℕ) → f ch ≤ n) → (cs : List ℕ) → sum_by f cs ≤ n * length cs
sum_most f n h [] = omega arith
sum_most f n h (ch ∷ cs) = omega (arith, h ch, sum_most f n h cs, sum_by-cons f ch cs)

sum-take-le : (f : ℕ → ℕ) (cs : List ℕ) (i j : ℕ) → i ≤ j → sum_by f (take i cs) ≤ sum_by f (take j cs)
sum-take-le f cs i j le =
    let parts = sum_by-take-drop f (take j cs) i in
    let front : sum_by f (take i (take j cs)) ≡ sum_by f (take i cs) = ap (sum_by f) (take-take i j cs le) in
    omega (arith, parts, front)

-- characters put in, some of which may stand in a second half
sum_grown : (f : ℕ → ℕ) (new right old more : List ℕ) (at : ℕ) → new ++ right ≡ with_more old at more → sum_by f new + sum_by f right ≡ sum_by f old + sum_by f more
sum_grown f new right old more at e =
    let whole : sum_by f (new ++ right) ≡ sum_by f (with_more old at more) = ap (sum_by f) e in
    omega (arith, whole, sum_by-append f new right, sum_by-append f (take at old) (more ++ drop at old), sum_by-append f more (drop at old), sum_by-take-drop f old at)

drop_few : (cs : List ℕ) (at many : ℕ) → at + many ≡ length cs → length (drop at cs) ≤ many
drop_few cs at many e = omega (arith, length-drop at cs, e)

-- as many as wanted, or all that are there
taken : (cs : List ℕ) (at many most : ℕ) → many ≤ most → (many < most → at + many ≡ length cs) → take most (drop at cs) ≡ take many (drop at cs)
taken cs at many most le all =
    let short : many < most → length (drop at cs) ≤ many = λ lt. drop_few cs at many (all lt) in
    ⊎_elim
    (λ same. ap (λ (n : ℕ). take n (drop at cs)) (sym same))
    (λ rest. ⊎_elim (λ lt. take_all most (drop at cs) (omega (arith, short lt, le)) ∙ sym (take_all many (drop at cs) (short lt))) (λ gt. absurd (omega (arith, gt, le))) rest)
    (cases_order many most)

-- characters taken out
sum_less : (f : ℕ → ℕ) (new old : List ℕ) (at many most : ℕ) → new ≡ without old at many → many ≤ most → (many < most → at + many ≡ length old) → sum_by f new + sum_by f (take most (drop at old)) ≡ sum_by f old
sum_less f new old at many most e le all =
    let whole : sum_by f new ≡ sum_by f (without old at many) = ap (sum_by f) e in
    let gone : sum_by f (take most (drop at old)) ≡ sum_by f (take many (drop at old)) = ap (sum_by f) (taken old at many most le all) in
    let back : sum_by f (drop many (drop at old)) ≡ sum_by f (drop (at + many) old) = ap (sum_by f) (drop-drop many at old) in
    omega (arith, whole, gone, back, sum_by-append f (take at old) (drop (at + many) old), sum_by-take-drop f old at, sum_by-take-drop f (drop at old) many)

-- RANGES OF TWO TEXTS
take-append-any : (n : ℕ) (xs ys : List ℕ) → take n (xs ++ ys) ≡ take n xs ++ take (n - length xs) ys
take-append-any n xs ys =
    let few : n ≤ length xs → take n (xs ++ ys) ≡ take n xs ++ take (n - length xs) ys =
    (λ le. let none : n - length xs ≡ 0 = omega (arith, le) in take-append-le n xs ys le ∙ sym (append-nil (take n xs)) ∙ ap (λ (k : ℕ). take n xs ++ take k ys) (sym none)) in
    let many : length xs < n → take n (xs ++ ys) ≡ take n xs ++ take (n - length xs) ys =
    (λ lt.
    let same : n ≡ length xs + (n - length xs) = omega (arith, lt) in
    ap (λ (k : ℕ). take k (xs ++ ys)) same ∙ take-append-add xs ys (n - length xs) ∙ ap (λ (cs : List ℕ). cs ++ take (n - length xs) ys) (sym (take_all n xs (omega (arith, lt))))) in
    ⊎_elim (λ e. few (omega (arith, e))) (λ other. ⊎_elim (λ lt. few (omega (arith, lt))) many other) (cases_order n (length xs))

pub range-append : (xs ys : List ℕ) (from n : ℕ) → take n (drop from (xs ++ ys)) ≡ take n (drop from xs) ++ take (n - (length xs - from)) (drop (from - length xs) ys)
range-append xs ys from n =
    let low : from ≤ length xs → take n (drop from (xs ++ ys)) ≡ take n (drop from xs) ++ take (n - (length xs - from)) (drop (from - length xs) ys) =
    (λ le.
    let none : from - length xs ≡ 0 = omega (arith, le) in
    ap (take n) (drop-append-le from xs ys le) ∙ take-append-any n (drop from xs) ys ∙ ap (λ (k : ℕ). take n (drop from xs) ++ take (n - k) ys) (length-drop from xs)
    ∙ ap (λ (k : ℕ). take n (drop from xs) ++ take (n - (length xs - from)) (drop k ys)) (sym none)) in
    let high : length xs < from → take n (drop from (xs ++ ys)) ≡ take n (drop from xs) ++ take (n - (length xs - from)) (drop (from - length xs) ys) =
    (λ lt.
    let same : from ≡ length xs + (from - length xs) = omega (arith, lt) in
    let all : n ≡ n - (length xs - from) = omega (arith, lt) in
    let gone : take n (drop from xs) ≡ [] = ap (take n) (drop_all from xs (omega (arith, lt))) ∙ take_all n [] (omega arith) in
    ap (λ (k : ℕ). take n (drop k (xs ++ ys))) same ∙ ap (take n) (drop-append-add xs ys (from - length xs)) ∙ ap (λ (k : ℕ). take k (drop (from - length xs) ys)) all
    ∙ ap (λ (cs : List ℕ). cs ++ take (n - (length xs - from)) (drop (from - length xs) ys)) (sym gone)) in
    ⊎_elim (λ e. low (omega (arith, e))) (λ other. ⊎_elim (λ lt. low (omega (arith, lt))) high other) (cases_order from (length xs))

-- WIDE CHARACTERS, AND BYTES
second_most : (ch : ℕ) → second_unit ch ≤ 1
second_most ch = grind arith

pub wide_most : (cs : List ℕ) → wide_chars cs ≤ length cs
wide_most cs = omega (arith, sum_most second_unit 1 second_most cs)

pub bytes_most : (cs : List ℕ) → utf8_bytes cs ≤ 4 * length cs
bytes_most cs = sum_most len_utf8 4 (λ ch. (len_utf8_bounds ch).1) cs

pub wide-append : (xs ys : List ℕ) → wide_chars (xs ++ ys) ≡ wide_chars xs + wide_chars ys
wide-append xs ys = sum_by-append second_unit xs ys

pub bytes-append : (xs ys : List ℕ) → utf8_bytes (xs ++ ys) ≡ utf8_bytes xs + utf8_bytes ys
bytes-append xs ys = sum_by-append len_utf8 xs ys

pub wide_grown : (new right old more : List ℕ) (at : ℕ) → new ++ right ≡ with_more old at more → wide_chars new + wide_chars right ≡ wide_chars old + wide_chars more
wide_grown new right old more at e = sum_grown second_unit new right old more at e

pub bytes_grown : (new right old more : List ℕ) (at : ℕ) → new ++ right ≡ with_more old at more → utf8_bytes new + utf8_bytes right ≡ utf8_bytes old + utf8_bytes more
bytes_grown new right old more at e = sum_grown len_utf8 new right old more at e

pub wide_less : (new old : List ℕ) (at many most : ℕ) → new ≡ without old at many → many ≤ most → (many < most → at + many ≡ length old) → wide_chars new + wide_chars (take most (drop at old)) ≡ wide_chars old
wide_less new old at many most e le all = sum_less second_unit new old at many most e le all

pub bytes_less : (new old : List ℕ) (at many most : ℕ) → new ≡ without old at many → many ≤ most → (many < most → at + many ≡ length old) → utf8_bytes new + utf8_bytes (take most (drop at old)) ≡ utf8_bytes old
bytes_less new old at many most e le all = sum_less len_utf8 new old at many most e le all

-- EXTENTS
units_one : (ch : ℕ) → width Utf16 ch ≡ 1 + second_unit ch
units_one ch = grind arith

-- the code units are the characters, and one more for each wide one
pub units : (cs : List ℕ) → extent Utf16 cs ≡ length cs + wide_chars cs
units [] = refl
units (ch ∷ cs) = omega (arith, units cs, units_one ch, sum_by-cons (width Utf16) ch cs, sum_by-cons second_unit ch cs)

width_most : (measure : Measure) (ch : ℕ) → width measure ch ≤ 4
width_most Utf16 ch = grind arith
width_most Utf8 ch = (len_utf8_bounds ch).1

pub extent_most : (measure : Measure) (cs : List ℕ) → extent measure cs ≤ 4 * length cs
extent_most measure cs = sum_most (width measure) 4 (width_most measure) cs

pub extent-append : (measure : Measure) (xs ys : List ℕ) → extent measure (xs ++ ys) ≡ extent measure xs + extent measure ys
extent-append measure xs ys = sum_by-append (width measure) xs ys

pub extent_push : (measure : Measure) (cs : List ℕ) (ch : ℕ) → extent measure (cs ++ ch ∷ []) ≡ extent measure cs + width measure ch
extent_push measure cs ch = omega (arith, extent-append measure cs (ch ∷ []))

pub extent_front : (measure : Measure) (cs : List ℕ) (at : ℕ) → extent measure (take at cs) ≤ extent measure cs
extent_front measure cs at = omega (arith, sum_by-take-drop (width measure) cs at)

pub extent_all : (measure : Measure) (cs : List ℕ) (at : ℕ) → length cs ≤ at → extent measure (take at cs) ≡ extent measure cs
extent_all measure cs at le = ap (extent measure) (take_all at cs le)

-- the first characters end in the middle of three texts
pub extent_inside : (measure : Measure) (p v q : List ℕ) (i : ℕ) → i ≤ length v → extent measure (take (length p + i) (p ++ (v ++ q))) ≡ extent measure p + extent measure (take i v)
extent_inside measure p v q i le =
    ap (extent measure) (take-append-add p (v ++ q) i ∙ ap (λ (cs : List ℕ). p ++ cs) (take-append-le i v q le)) ∙ extent-append measure p (take i v)

-- REACHING AN INDEX
length_three : (p v q : List ℕ) → length (p ++ (v ++ q)) ≡ length p + (length v + length q)
length_three p v q = omega (arith, length-append p (v ++ q), length-append v q)

-- what is less than all characters take ends before the last of them does
inside_at : (measure : Measure) (v : List ℕ) (rest at left : ℕ) → rest < extent measure v → Reaches measure v rest at left → at < length v
inside_at measure v rest at left here h = ⊎_elim
    (λ e. absurd (omega (arith, here, h.before, extent_all measure v at (omega (arith, e)))))
    (λ other. ⊎_elim (λ lt. lt) (λ gt. absurd (omega (arith, gt, h.within))) other)
    (cases_order at (length v))

-- in the middle of three texts
pub reach_inside : (measure : Measure) (p v q : List ℕ) (much rest at left : ℕ) → extent measure p + rest ≡ much → rest < extent measure v → Reaches measure v rest at left → Reaches measure (p ++ (v ++ q)) much (length p + at) left
reach_inside measure p v q much rest at left so_far here h =
    let lt : at < length v = inside_at measure v rest at left here h in
    let one : length p + at + 1 ≡ length p + (at + 1) = omega arith in
    record {
      within = omega (arith, lt, length_three p v q);
      before = omega (arith, extent_inside measure p v q at h.within, h.before, so_far);
      inside = λ _. rw one (omega (arith, extent_inside measure p v q (at + 1) (omega (arith, lt)), h.inside lt, so_far));
    }

-- behind all
pub reach_end : (measure : Measure) (cs : List ℕ) (much at rest : ℕ) → at ≡ length cs → extent measure cs + rest ≡ much → Reaches measure cs much at rest
reach_end measure cs much at rest end so_far =
    record {
      within = omega (arith, end);
      before = omega (arith, extent_all measure cs at (omega (arith, end)), so_far);
      inside = λ lt. absurd (omega (arith, lt, end));
    }

-- an index with no rest is the one; with a rest there is none
pub reached : (measure : Measure) (cs : List ℕ) (much at rest : ℕ) → Reaches measure cs much at rest → rest ≡ 0 → IsIndexBehind measure cs much (Some at)
reached measure cs much at rest h none = (h.within, omega (arith, h.before, none))

pub not_reached : (measure : Measure) (cs : List ℕ) (much at rest : ℕ) → Reaches measure cs much at rest → 0 < rest → IsIndexBehind measure cs much None
not_reached measure cs much at rest h some = λ i le same.
    ⊎_elim
    (λ e. omega (arith, h.before, some, same, ap (λ (n : ℕ). extent measure (take n cs)) e))
    (λ other. ⊎_elim
    (λ lt. omega (arith, same, h.inside (omega (arith, lt, le)), sum-take-le (width measure) cs (at + 1) i (omega (arith, lt))))
    (λ gt. omega (arith, same, h.before, some, sum-take-le (width measure) cs i at (omega (arith, gt))))
    other)
    (cases_order at i)
