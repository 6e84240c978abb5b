-- Characters taken out of a text from a place on, by deletions one after another or together.
use Rattle.std.proofs.Common.{◌≡◌, ℕ, zero, suc, ◌+◌, ◌-◌, ◌<◌, ◌≤◌, List, [], ◌∷◌, ◌++◌, length, take, drop, remove, slice_index_or, sym, ap, ◌∙◌, append_assoc, length-append, length-drop, take-append-drop, length-take-le, take_at, drop_at, arith}
use Rattle.std.proofs.lemmas.List.{take_all, take-take, drop-drop, take-append-le, drop-append-le}
use Rattle.std.proofs.lemmas.List.Edits.{length-remove, take-paste}
use Rattle.std.proofs.Math.Seq.{take-append-add, drop-append-add}
use lib.Seq.{paste}
use Rattle.ew_model.specs.declared.text_op.TextOp.{TextOp}
use Rattle.ew_model.specs.declared.text_op.TextOp.TheVariants.{Ins, Del, Nothing}
use Rattle.ew_model.specs.Operations.{changed_by, changed_by_all}
use Rattle.ew_model.specs.TextLaws.{AllFit}
use Rattle.rope.specs.Deletions.{without, DeletesFrom}

-- TEXTS WITHOUT SOME CHARACTERS
pub length-without : (text : List ℕ) (at many : ℕ) → at + many ≤ length text → length (without text at many) + many ≡ length text
length-without text at many le =
    let front = length-take-le at text (omega (arith, le)) in
    omega (arith, le, front, length-drop (at + many) text, length-append (take at text) (drop (at + many) text))

pub without_none : (text : List ℕ) (at : ℕ) → without text at 0 ≡ text
without_none text at = let same : at + 0 ≡ at = omega arith in ap (λ (n : ℕ). take at text ++ drop n text) same ∙ take-append-drop at text

pub without_one : (text : List ℕ) (at : ℕ) → without text at 1 ≡ remove text at
without_one text at = let same : at + 1 ≡ suc at = omega arith in ap (λ (n : ℕ). take at text ++ drop n text) same

-- taken out one after another, or together
pub without_twice : (text : List ℕ) (at n m : ℕ) → at ≤ length text → without (without text at n) at m ≡ without text at (n + m)
without_twice text at n m le =
    let long : length (take at text) ≡ at = length-take-le at text le in
    let far : at + n + m ≡ at + (n + m) = omega arith in
    let front : take at (without text at n) ≡ take at text = take_at (take at text) (drop (at + n) text) at long in
    let back : drop (at + m) (without text at n) ≡ drop (at + (n + m)) text =
    sym (drop-drop m at (without text at n)) ∙ ap (drop m) (drop_at (take at text) (drop (at + n) text) at long) ∙ drop-drop m (at + n) text ∙ ap (λ (i : ℕ). drop i text) far in
    (λ i. front i ++ back i)

-- taken out of the middle of three texts
pub without_inside : (p v q : List ℕ) (at n : ℕ) → at + n ≤ length v → without (p ++ (v ++ q)) (length p + at) n ≡ p ++ (without v at n ++ q)
without_inside p v q at n le =
    let far : length p + at + n ≡ length p + (at + n) = omega arith in
    let front : take (length p + at) (p ++ (v ++ q)) ≡ p ++ take at v = take-append-add p (v ++ q) at ∙ ap (λ (cs : List ℕ). p ++ cs) (take-append-le at v q (omega (arith, le))) in
    let back : drop (length p + at + n) (p ++ (v ++ q)) ≡ drop (at + n) v ++ q = ap (λ (i : ℕ). drop i (p ++ (v ++ q))) far ∙ drop-append-add p (v ++ q) (at + n) ∙ drop-append-le (at + n) v q le in
    (λ i. front i ++ back i) ∙ append_assoc p (take at v) (drop (at + n) v ++ q) ∙ ap (λ (cs : List ℕ). p ++ cs) (sym (append_assoc (take at v) (drop (at + n) v) q))

-- what stands behind is moved down, and the end cut off
pub moved_down : (text : List ℕ) (at n : ℕ) → at + n ≤ length text → take (length text - n) (paste text at (drop (at + n) text) (length text - (at + n))) ≡ without text at n
moved_down text at n le =
    let left = length text - (at + n) in
    let short : length text - n ≡ at + left = omega (arith, le) in
    let rest : length (drop (at + n) text) ≡ left = length-drop (at + n) text in
    ap (λ (i : ℕ). take i (paste text at (drop (at + n) text) left)) short ∙ take-paste text at (drop (at + n) text) left (omega (arith, le)) (omega (arith, rest))
    ∙ ap (λ (cs : List ℕ). take at text ++ cs) (take_all left (drop (at + n) text) (omega (arith, rest)))

-- DELETIONS
-- a deletion before others
deleted_first : (text : List ℕ) (at i n : ℕ) → at ≤ i → i ≤ at + n → i < length text → without (remove text i) at n ≡ without text at (suc n)
deleted_first text at i n low high lt =
    let j = at + n - i in
    let long : length (take i text) ≡ i = length-take-le i text (omega (arith, lt)) in
    let place : at + n ≡ length (take i text) + j = omega (arith, long, high) in
    let far : suc i + j ≡ at + suc n = omega (arith, high) in
    let front : take at (remove text i) ≡ take at text = take-append-le at (take i text) (drop (suc i) text) (omega (arith, long, low)) ∙ take-take at i text low in
    let back : drop (at + n) (remove text i) ≡ drop (at + suc n) text =
    ap (λ (k : ℕ). drop k (remove text i)) place ∙ drop-append-add (take i text) (drop (suc i) text) j ∙ drop-drop j (suc i) text ∙ ap (λ (k : ℕ). drop k text) far in
    (λ k. front k ++ back k)

-- deletions take their characters out together
deletes_change : (ops : List TextOp) (at : ℕ) (text : List ℕ) → DeletesFrom at ops → AllFit text ops → changed_by_all ops text ≡ without text at (length ops)
deletes_change [] at text h fit = sym (without_none text at)
deletes_change (Ins i ch ∷ ops) at text h fit = absurd h
deletes_change (Del i ∷ ops) at text h fit = deletes_change ops at (remove text i) h.2 fit.1 ∙ deleted_first text at i (length ops) h.0 h.1 fit.0
deletes_change (Nothing ∷ ops) at text h fit = absurd h

-- and the text has these
deletes_fit : (ops : List TextOp) (at : ℕ) (text : List ℕ) → 0 < length ops → DeletesFrom at ops → AllFit text ops → at + length ops ≤ length text
deletes_fit [] at text some h fit = absurd (omega (arith, some))
deletes_fit (Ins i ch ∷ ops) at text some h fit = absurd h
deletes_fit (Del i ∷ []) at text some h fit = omega (arith, h.0, fit.0)
deletes_fit (Del i ∷ (op ∷ ops)) at text some h fit = omega (arith, deletes_fit (op ∷ ops) at (remove text i) (omega arith) h.2 fit.1, length-remove text i fit.0)
deletes_fit (Nothing ∷ ops) at text some h fit = absurd h

-- the first of operations that fit
fit_first : (n : ℕ) (ops : List TextOp) (text : List ℕ) → AllFit text ops → AllFit text (take n ops)
fit_first zero ops text h = tt
fit_first (suc n) [] text h = tt
fit_first (suc n) (op ∷ ops) text h = (h.0, fit_first n ops (changed_by op text) h.1)

-- the first operations, if they are such
pub first_change : (n : ℕ) (ops : List TextOp) (at : ℕ) (text : List ℕ) → n ≤ length ops → DeletesFrom at (take n ops) → AllFit text ops → changed_by_all (take n ops) text ≡ without text at n
first_change n ops at text le h fit = deletes_change (take n ops) at text h (fit_first n ops text fit) ∙ ap (without text at) (length-take-le n ops le)

pub first_fit : (n : ℕ) (ops : List TextOp) (at : ℕ) (text : List ℕ) → 1 ≤ n → n ≤ length ops → DeletesFrom at (take n ops) → AllFit text ops → at + n ≤ length text
first_fit n ops at text some le h fit =
    let long = length-take-le n ops le in
    omega (arith, long, deletes_fit (take n ops) at text (omega (arith, long, some)) h (fit_first n ops text fit))

-- a deletion alone
pub deletes_one : (ops : List TextOp) (at : ℕ) (d : TextOp) → 0 < length ops → slice_index_or ops 0 d ≡ Del at → DeletesFrom at (take 1 ops)
deletes_one [] at d lt is = absurd (omega (arith, lt))
deletes_one (op ∷ ops) at d lt is = rw is (omega arith, omega arith, tt)

-- one more of the operations, at the place or right before it
pub deletes_more : (ops : List TextOp) (i at next : ℕ) (d : TextOp) → i < length ops → DeletesFrom at (take i ops) → next ≤ at → at ≤ next + 1 → DeletesFrom next (slice_index_or ops i d ∷ []) → DeletesFrom next (take (i + 1) ops)
deletes_more [] i at next d lt h low high more = absurd (omega (arith, lt))
deletes_more (op ∷ ops) zero at next d lt h low high more = more
deletes_more (Ins j ch ∷ ops) (suc i) at next d lt h low high more = absurd h
deletes_more (Del j ∷ ops) (suc i) at next d lt h low high more =
    let one : suc i + 1 ≡ suc (i + 1) = omega arith in
    let short = length-take-le i ops (omega (arith, lt)) in
    let long = length-take-le (i + 1) ops (omega (arith, lt)) in
    rw one (omega (arith, h.0, low), omega (arith, h.1, high, short, long), deletes_more ops i at next d (omega (arith, lt)) h.2 low high more)
deletes_more (Nothing ∷ ops) (suc i) at next d lt h low high more = absurd h
