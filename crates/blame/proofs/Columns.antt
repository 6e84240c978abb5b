-- Which fronts of a text are too wide.
use Rattle.std.proofs.Common.{◌≡◌, ℕ, zero, suc, ◌+◌, ◌-◌, ◌<◌, ◌≤◌, nat_le, Bool, true, false, cond, not, ◌==◌, ◌⊎◌, inl, inr, ⊎_elim, List, [], ◌∷◌, ◌++◌, length, take, drop, flat_map, refl, sym, ap, ◌∙◌, subst, append_assoc, append-nil, length-append, take-append-drop, arith, codes}
use Rattle.std.specs.List.{AllByRecursion}
use Rattle.std.proofs.lemmas.Bool.{cases_Bool, cases_eq, leb-true, leb-false}
use Rattle.std.proofs.lemmas.Bool.Decides.{nat_tests}
use Rattle.std.proofs.lemmas.Grind.{flat_map-append}
use Rattle.std.proofs.lemmas.List.{length-drop, length-take-le, take_at, take_all}
use Rattle.unicode_width.specs.declared.state.After.TheVariants.{Emoji}
use Rattle.unicode_width.specs.declared.state.State.{State}
use Rattle.unicode_width.specs.Width.{Reading, before, if_kept, is_emoji_variation_base, is_joined_emoji, past_emoji, plain, read_before, step, str_width}
use Rattle.blame_definitions.specs.Widths.{columns_of, escape, fits, greatest}
use Rattle.blame_definitions.proofs.Readings.{end_counts, read_joined, read_shifts}
use Rattle.blame.specs.Fitting.{EndsPrintable, IsPrintable}

-- PARTS OF A TEXT
pub slice_end : (xs : List ℕ) (n : ℕ) → take (length xs - n) (drop n xs) ≡ drop n xs
slice_end xs n = take_all (length xs - n) (drop n xs) (omega (arith, length-drop n xs))

-- PRINTABLE CHARACTERS
-- what may stand behind one
abbrev IsCalm : State → Type 0
IsCalm s = (s ≡ plain) ⊎ (s ≡ before Emoji)

abbrev IsCalmFrom : ℕ → Reading → Type 0
IsCalmFrom t r = (t ≤ r.0) × IsCalm r.1

past_printable : (c t : ℕ) (s : State) → IsPrintable c → past_emoji false c t s ≡ (t + 1, plain)
unfolding past_emoji
past_printable c t s h = grind (arith, nat_tests)

-- one leaves a calm state, whatever comes behind it,
calms : (c t : ℕ) (s : State) → IsPrintable c → IsCalmFrom t (step false c (t, s))
unfolding step
calms c t s h = at (not s.emoji) (is_emoji_variation_base c)
  where
    past : (q : State) → IsCalmFrom t (past_emoji false c t q)
    past q = subst (IsCalmFrom t) (sym (past_printable c t q h)) (omega arith, inl refl)

    at : (e b : Bool) → IsCalmFrom t (cond e (past_emoji false c t s) (cond b (t + cond (is_joined_emoji s.after) 0 2, before Emoji) (past_emoji false c t (record (if_kept s) { emoji = false }))))
    at true b = past s
    at false true = (omega arith, inr refl)
    at false false = past (record (if_kept s) { emoji = false })

-- and takes one column where the state is calm
counts : (c t : ℕ) (s : State) → IsPrintable c → IsCalm s → step false c (t, s) ≡ (t + 1, plain)
unfolding step
counts c t s h calm =
    ⊎_elim
    (λ e. subst (λ q. step false c (t, q) ≡ (t + 1, plain)) (sym e) (past_printable c t plain h))
    (λ e. subst (λ q. step false c (t, q) ≡ (t + 1, plain)) (sym e) (past_printable c t (before Emoji) h))
    calm

abbrev ArePrintable : List ℕ → Type 0
ArePrintable cs = AllByRecursion IsPrintable cs

all_calm : (p : ℕ) (ps : List ℕ) (r : Reading) → ArePrintable (p ∷ ps) → IsCalmFrom r.0 (read_before false (p ∷ ps) r)
all_calm p [] r h = calms p r.0 r.1 h.0
all_calm p (q ∷ ps) r h =
    let rest = all_calm q ps r h.1 in
    let next = read_before false (q ∷ ps) r in
    let here = calms p next.0 next.1 h.0 in
    (omega (arith, rest.0, here.0), here.1)

all_count : (p : ℕ) (ps : List ℕ) (t : ℕ) (s : State) → ArePrintable (p ∷ ps) → IsCalm s → read_before false (p ∷ ps) (t, s) ≡ (t + length (p ∷ ps), plain)
all_count p [] t s h calm = counts p t s h.0 calm
all_count p (q ∷ ps) t s h calm =
    let more : (t + length (q ∷ ps)) + 1 ≡ t + length (p ∷ q ∷ ps) = omega arith in
    ap (step false p) (all_count q ps t s h.1 calm) ∙ counts p (t + length (q ∷ ps)) plain h.0 (inl refl) ∙ ap (λ n. (n, plain)) more

-- a text behind which so many columns are taken
shifted : (cs : List ℕ) (t : ℕ) → (read_before false cs (t, plain)).0 ≡ t + (read_before false cs (0, plain)).0
shifted cs t =
    let none : t + 0 ≡ t = omega arith in
    ap (λ n. (read_before false cs (n, plain)).0) (sym none) ∙ ap (λ r. r.0) ((read_shifts false cs plain 0 (omega arith)).shifts t)

-- What ends with printable characters is no wider than what goes on with further ones, whatever comes behind them.
wider : (xs ps qs ys : List ℕ) (p q : ℕ) → ArePrintable (p ∷ ps) → ArePrintable (q ∷ qs) → str_width false (xs ++ (p ∷ ps)) ≤ str_width false (xs ++ ((p ∷ ps) ++ ((q ∷ qs) ++ ys)))
unfolding str_width
wider xs ps qs ys p q hp hq =
    let r = read_before false ys (0, plain) in
    let calm = all_calm q qs r hq in
    let mid = read_before false (q ∷ qs) r in
    let whole : (read_before false (xs ++ ((p ∷ ps) ++ ((q ∷ qs) ++ ys))) (0, plain)).0 ≡ (mid.0 + length (p ∷ ps)) + (read_before false xs (0, plain)).0 =
    ap (λ k. k.0) (
    read_joined false xs ((p ∷ ps) ++ ((q ∷ qs) ++ ys)) (0, plain)
    ∙ ap (read_before false xs) (read_joined false (p ∷ ps) ((q ∷ qs) ++ ys) (0, plain))
    ∙ ap (λ k. read_before false xs (read_before false (p ∷ ps) k)) (read_joined false (q ∷ qs) ys (0, plain))
    ∙ ap (read_before false xs) (all_count p ps mid.0 mid.1 hp calm.1))
    ∙ shifted xs (mid.0 + length (p ∷ ps)) in
    let front : (read_before false (xs ++ (p ∷ ps)) (0, plain)).0 ≡ (0 + length (p ∷ ps)) + (read_before false xs (0, plain)).0 =
    ap (λ k. k.0) (read_joined false xs (p ∷ ps) (0, plain) ∙ ap (read_before false xs) (all_count p ps 0 plain hp (inl refl)))
    ∙ shifted xs (0 + length (p ∷ ps)) in
    omega (arith, whole, front)

-- a printable character is written by printable ones
record IsWritten (c : ℕ) : Type 0 where
  first : ℕ
  others : List ℕ
  is : escape c ≡ first ∷ others
  printable : ArePrintable (first ∷ others)

written : (c : ℕ) → IsPrintable c → IsWritten c
written c h = at (c == 10) (c == 92) refl refl
  where
    at : (b d : Bool) → (c == 10) ≡ b → (c == 92) ≡ d → IsWritten c
    at true d e f = record { first = 92; others = 110 ∷ []; is = ap (λ k. cond k (codes "\\n") (cond (c == 92) (codes "\\\\") (c ∷ []))) e; printable = (refl, (refl, tt)) }
    at false true e f = record { first = 92; others = 92 ∷ []; is = λ i. cond (e i) (codes "\\n") (cond (f i) (codes "\\\\") (c ∷ [])); printable = (refl, (refl, tt)) }
    at false false e f = record { first = c; others = []; is = λ i. cond (e i) (codes "\\n") (cond (f i) (codes "\\\\") (c ∷ [])); printable = (h, tt) }

-- TOO WIDE
front_wide : (front ys : List ℕ) (a b : ℕ) → IsPrintable a → IsPrintable b → columns_of (front ++ a ∷ []) ≤ columns_of (front ++ a ∷ b ∷ ys)
front_wide front ys a b ha hb =
    let p = written a ha in
    let q = written b hb in
    let xs = flat_map escape front in
    let short : flat_map escape (front ++ a ∷ []) ≡ xs ++ (p.first ∷ p.others) =
    flat_map-append escape front (a ∷ []) ∙ ap (λ cs. xs ++ cs) (append-nil (escape a) ∙ p.is) in
    let long : flat_map escape (front ++ a ∷ b ∷ ys) ≡ xs ++ ((p.first ∷ p.others) ++ ((q.first ∷ q.others) ++ flat_map escape ys)) =
    flat_map-append escape front (a ∷ b ∷ ys) ∙ (λ i. xs ++ (p.is i ++ (q.is i ++ flat_map escape ys))) in
    let le = wider xs p.others q.others (flat_map escape ys) p.first q.first p.printable q.printable in
    omega (arith, le, ap (str_width false) short, ap (str_width false) long)

too_wide : (a b : ℕ) → b < a → nat_le a b ≡ false
too_wide a b lt = ⊎_elim (λ (e : nat_le a b ≡ true). absurd (omega (arith, lt, leb-true a b e))) (λ (e : nat_le a b ≡ false). e) (cases_Bool (nat_le a b))

-- a text is too wide where its end is
pub end_wide : (columns n : ℕ) (text : List ℕ) → columns + 1 < columns_of (drop n text) → nat_le (columns_of text) columns ≡ false
end_wide columns n text h =
    let parts : columns_of text ≡ str_width false (flat_map escape (take n text) ++ flat_map escape (drop n text)) =
    ap columns_of (sym (take-append-drop n text)) ∙ ap (str_width false) (flat_map-append escape (take n text) (drop n text)) in
    let end = end_counts false (flat_map escape (take n text)) (flat_map escape (drop n text)) in
    too_wide (columns_of text) columns (omega (arith, h, parts, end))

-- THE GREATEST
-- none behind a number passes
greatest_cut : (test : ℕ → Bool) (m n : ℕ) → m ≤ n → ((k : ℕ) → m < k → k ≤ n → test k ≡ false) → greatest test m ≡ greatest test n
greatest_cut test m zero le none = let same : m ≡ 0 = omega (arith, le) in ap (greatest test) same
greatest_cut test m (suc n) le none =
    ⊎_elim
    (λ (same : m ≡ suc n). ap (greatest test) same)
    (λ (differ : m ≡ suc n → ⊥).
    let low : m ≤ n = not_last m n le differ in
    greatest_cut test m n low (λ k lt high. none k lt (omega (arith, high)))
    ∙ ap (λ b. cond b (suc n) (greatest test n)) (sym (none (suc n) (omega (arith, low)) (omega arith))))
    (cases_eq m (suc n))
  where
    not_last : (m n : ℕ) → m ≤ suc n → (m ≡ suc n → ⊥) → m ≤ n
    not_last m n le differ = ⊎_elim (λ (e : nat_le m n ≡ true). leb-true m n e) (λ (e : nat_le m n ≡ false). absurd (differ (omega (arith, le, leb-false m n e)))) (cases_Bool (nat_le m n))

pub greatest_here : (test : ℕ → Bool) (k : ℕ) → test k ≡ true → greatest test k ≡ k
greatest_here test zero h = refl
greatest_here test (suc k) h = ap (λ b. cond b (suc k) (greatest test k)) h

pub greatest_less : (test : ℕ → Bool) (k : ℕ) → 0 < k → test k ≡ false → greatest test (k - 1) ≡ greatest test k
greatest_less test zero some h = absurd (omega (arith, some))
greatest_less test (suc k) some h = let less : suc k - 1 ≡ k = omega arith in ap (greatest test) less ∙ ap (λ b. cond b (suc k) (greatest test k)) (sym h)

-- Where a front ends with two printable characters and is too wide without the last one, no longer front fits.
pub none_longer : (columns : ℕ) (text : List ℕ) (n : ℕ) → 2 ≤ n → n ≤ length text → EndsPrintable (take n text) → nat_le (columns_of (take (n - 1) text)) columns ≡ false
    → greatest (fits columns text) (n - 2) ≡ greatest (fits columns text) (length text)
none_longer columns text n some low ends wide =
    greatest_cut (fits columns text) (n - 2) (length text) (omega (arith, low)) (λ k lt high. none k lt high)
  where
    before : List ℕ
    before = ends.front ++ ends.before ∷ []

    whole : text ≡ ends.front ++ (ends.before ∷ ends.last ∷ drop n text)
    whole = sym (take-append-drop n text) ∙ ap (λ cs. cs ++ drop n text) ends.whole ∙ append_assoc ends.front (ends.before ∷ ends.last ∷ []) (drop n text)

    long : length ends.front + 2 ≡ n
    long = omega (arith, ap (length {A = ℕ}) ends.whole, length-append ends.front (ends.before ∷ ends.last ∷ []), length-take-le n text low)

    short : take (n - 1) text ≡ before
    short =
        let at : length before ≡ n - 1 = omega (arith, length-append ends.front (ends.before ∷ []), long) in
        ap (take (n - 1)) (whole ∙ sym (append_assoc ends.front (ends.before ∷ []) (ends.last ∷ drop n text)))
        ∙ take_at before (ends.last ∷ drop n text) (n - 1) at

    -- a longer front goes on with the last of the two
    longer : (k : ℕ) → n ≤ k → k ≤ length text → (ys : List ℕ) × (take k text ≡ ends.front ++ (ends.before ∷ ends.last ∷ ys))
    longer k le high =
        let m = k - n in
        let front = ends.front ++ (ends.before ∷ ends.last ∷ []) in
        let at : length front ≡ n = omega (arith, length-append ends.front (ends.before ∷ ends.last ∷ []), long) in
        let all : text ≡ front ++ drop n text = whole ∙ sym (append_assoc ends.front (ends.before ∷ ends.last ∷ []) (drop n text)) in
        (take m (drop n text), ap (take k) all ∙ take_past front (drop n text) k m (omega (arith, at, le)) ∙ append_assoc ends.front (ends.before ∷ ends.last ∷ []) (take m (drop n text)))
      where
        take_past : (xs ys : List ℕ) (k m : ℕ) → k ≡ length xs + m → take k (xs ++ ys) ≡ xs ++ take m ys
        take_past [] ys k m e = let same : k ≡ m = omega (arith, e) in ap (λ j. take j ys) same
        take_past (x ∷ xs) ys zero m e = absurd (omega (arith, e))
        take_past (x ∷ xs) ys (suc k) m e = ap (λ cs. x ∷ cs) (take_past xs ys k m (omega (arith, e)))

    none : (k : ℕ) → n - 2 < k → k ≤ length text → fits columns text k ≡ false
    none k lt high =
        ⊎_elim
        (λ (same : k ≡ n - 1). ap (λ j. nat_le (columns_of (take j text)) columns) same ∙ wide)
        (λ (differ : k ≡ n - 1 → ⊥).
        let further = longer k (behind k lt differ) high in
        let low : columns < columns_of before = leb-false (columns_of before) columns (ap (λ cs. nat_le (columns_of cs) columns) (sym short) ∙ wide) in
        let le = front_wide ends.front further.0 ends.before ends.last ends.before_is ends.last_is in
        ap (λ cs. nat_le (columns_of cs) columns) further.1
        ∙ too_wide (columns_of (ends.front ++ (ends.before ∷ ends.last ∷ further.0))) columns (omega (arith, low, le)))
        (cases_eq k (n - 1))
      where
        behind : (k : ℕ) → n - 2 < k → (k ≡ n - 1 → ⊥) → n ≤ k
        behind k lt differ = ⊎_elim (λ (e : nat_le n k ≡ true). leb-true n k e) (λ (e : nat_le n k ≡ false). absurd (differ (omega (arith, lt, some, leb-false n k e)))) (cases_Bool (nat_le n k))
