-- Lists of blocks, and which of them have labels.
use Rattle.std.proofs.Common.{⊎_elim, ◌⊎◌, ◌≡◌, ℕ, zero, suc, ◌+◌, ◌-◌, ◌*◌, ◌/◌, ◌%◌, ◌<◌, ◌≤◌, List, [], ◌∷◌, ◌++◌, length, Option, Some, None, Bool, true, false, nat_eq, nat_lt, if◌then◌else◌, slice_index_or, slice_set, arith, refl, sym, ap, ◌∙◌, subst, eq-eqb, ne_eqb, lt-ltb, le-ltb}
use Rattle.std.proofs.lemmas.Nat.{div-add-mod'}
use Rattle.std.proofs.lemmas.Bool.{cases_lt, cases_eq}
use Rattle.std.proofs.lemmas.Option.{none-some}
use Rattle.predecessor_map.specs.declared.block.Block.{Block}
use Rattle.predecessor_map.specs.Entries.{label_in}
use Rattle.predecessor_map.specs.Blocks.{entries_at, block_of}

pub entries_in : (bs : List Block) (i : ℕ) (d : Block) → i < length bs → entries_at bs i ≡ (slice_index_or bs i d).entries.items
entries_in [] i d l = absurd (omega (arith, l))
entries_in (b ∷ bs) zero d l = refl
entries_in (b ∷ bs) (suc i) d l = entries_in bs i d (omega (arith, l))

entries_past : (bs : List Block) (i : ℕ) → length bs ≤ i → entries_at bs i ≡ []
entries_past [] i l = refl
entries_past (b ∷ bs) zero l = absurd (omega (arith, l))
entries_past (b ∷ bs) (suc i) l = entries_past bs i (omega (arith, l))

entries_here : (bs : List Block) (i : ℕ) (x : Block) → i < length bs → entries_at (slice_set bs i x) i ≡ x.entries.items
entries_here [] i x l = absurd (omega (arith, l))
entries_here (b ∷ bs) zero x l = refl
entries_here (b ∷ bs) (suc i) x l = entries_here bs i x (omega (arith, l))

entries_apart : (bs : List Block) (i j : ℕ) (x : Block) → (j ≡ i → ⊥) → entries_at (slice_set bs i x) j ≡ entries_at bs j
entries_apart [] i j x other = refl
entries_apart (b ∷ bs) zero zero x other = absurd (other refl)
entries_apart (b ∷ bs) zero (suc j) x other = refl
entries_apart (b ∷ bs) (suc i) zero x other = refl
entries_apart (b ∷ bs) (suc i) (suc j) x other = entries_apart bs i j x (λ e. other (ap suc e))

pub entries_push : (bs : List Block) (i : ℕ) (x : Block) → x.entries.items ≡ [] → entries_at (bs ++ x ∷ []) i ≡ entries_at bs i
entries_push [] zero x none = none
entries_push [] (suc i) x none = refl
entries_push (b ∷ bs) zero x none = refl
entries_push (b ∷ bs) (suc i) x none = entries_push bs i x none

-- ---- by the number of the block
module _ (first : ℕ) where
  pub block_low : (bs : List Block) (b : ℕ) → b < first → block_of first bs b ≡ []
  block_low bs b l = ap (λ (t : Bool). if t then [] else entries_at bs (b - first)) (lt-ltb b first l)

  pub block_in : (bs : List Block) (b i : ℕ) → first + i ≡ b → block_of first bs b ≡ entries_at bs i
  block_in bs b i is =
      let place : b - first ≡ i = omega (arith, is) in
      ap (λ (t : Bool). if t then [] else entries_at bs (b - first)) (le-ltb b first (omega (arith, is))) ∙ ap (λ (j : ℕ). entries_at bs j) place

  pub block_past : (bs : List Block) (b i : ℕ) → first + i ≡ b → length bs ≤ i → block_of first bs b ≡ []
  block_past bs b i is l = block_in bs b i is ∙ entries_past bs i l

  pub block_at : (bs : List Block) (b i : ℕ) (x : Block) → first + i ≡ b → i < length bs → x ≡ slice_index_or bs i x → block_of first bs b ≡ x.entries.items
  block_at bs b i x is l own = block_in bs b i is ∙ entries_in bs i x l ∙ sym (ap (λ (y : Block). y.entries.items) own)

  pub block_here : (bs : List Block) (b i : ℕ) (x : Block) → first + i ≡ b → i < length bs → block_of first (slice_set bs i x) b ≡ x.entries.items
  block_here bs b i x is l = block_in (slice_set bs i x) b i is ∙ entries_here bs i x l

  pub block_apart : (bs : List Block) (b i : ℕ) (x : Block) → first + i ≡ b → (q : ℕ) → (q ≡ b → ⊥) → block_of first (slice_set bs i x) q ≡ block_of first bs q
  block_apart bs b i x is q other = ⊎_elim low high (cases_lt q first)
    where
      low : q < first → block_of first (slice_set bs i x) q ≡ block_of first bs q
      low l = block_low (slice_set bs i x) q l ∙ sym (block_low bs q l)

      high : first ≤ q → block_of first (slice_set bs i x) q ≡ block_of first bs q
      high l =
          let place : first + (q - first) ≡ q = omega (arith, l) in
          block_in (slice_set bs i x) q (q - first) place ∙ entries_apart bs i (q - first) x (λ e. other (omega (arith, e, is, l))) ∙ sym (block_in bs q (q - first) place)

  pub block_push : (bs : List Block) (x : Block) → x.entries.items ≡ [] → (q : ℕ) → block_of first (bs ++ x ∷ []) q ≡ block_of first bs q
  block_push bs x none q = ⊎_elim low high (cases_lt q first)
    where
      low : q < first → block_of first (bs ++ x ∷ []) q ≡ block_of first bs q
      low l = block_low (bs ++ x ∷ []) q l ∙ sym (block_low bs q l)

      high : first ≤ q → block_of first (bs ++ x ∷ []) q ≡ block_of first bs q
      high l =
          let place : first + (q - first) ≡ q = omega (arith, l) in
          block_in (bs ++ x ∷ []) q (q - first) place ∙ entries_push bs (q - first) x none ∙ sym (block_in bs q (q - first) place)

-- without blocks there is nothing, wherever they would begin
pub block_none : (first b : ℕ) (bs : List Block) → bs ≡ [] → block_of first bs b ≡ []
block_none first b bs none = ⊎_elim (λ low. block_low first bs b low) (λ high. block_past first bs b (b - first) (omega (arith, high)) (subst (λ (xs : List Block). length xs ≤ b - first) (sym none) (omega arith))) (cases_lt b first)

-- ---- a change in one block
pub when_same : {X : Type 0} (a b : ℕ) (x y : X) → a ≡ b → (if nat_eq a b then x else y) ≡ x
when_same a b x y same = ap (λ (t : Bool). if t then x else y) (eq-eqb a b same)

when_apart : {X : Type 0} (a b : ℕ) (x y : X) → (a ≡ b → ⊥) → (if nat_eq a b then x else y) ≡ y
when_apart a b x y other = ap (λ (t : Bool). if t then x else y) (ne_eqb a b other)

same_number : (n k : ℕ) → n / 64 ≡ k / 64 → n % 64 ≡ k % 64 → n ≡ k
same_number n k block offset =
    let first = div-add-mod' n 64 in
    let second = div-add-mod' k 64 in
    sym first ∙ ap (λ (b : ℕ). b * 64 + n % 64) block ∙ ap (λ (o : ℕ). k / 64 * 64 + o) offset ∙ second

pub label_changed : (f g : ℕ → List (ℕ × ℕ)) (n : ℕ) (w : Option ℕ) → ((q : ℕ) → label_in (g (n / 64)) q ≡ (if nat_eq (n % 64) q then w else label_in (f (n / 64)) q)) → ((b : ℕ) → (b ≡ n / 64 → ⊥) → g b ≡ f b)
    → (k : ℕ) → label_in (g (k / 64)) (k % 64) ≡ (if nat_eq n k then w else label_in (f (k / 64)) (k % 64))
label_changed f g n w here others k = ⊎_elim same apart (cases_eq n k)
  where
    same : n ≡ k → label_in (g (k / 64)) (k % 64) ≡ (if nat_eq n k then w else label_in (f (k / 64)) (k % 64))
    same e = subst (λ (m : ℕ). label_in (g (m / 64)) (m % 64) ≡ w) e (here (n % 64) ∙ when_same (n % 64) (n % 64) w (label_in (f (n / 64)) (n % 64)) refl) ∙ sym (when_same n k w (label_in (f (k / 64)) (k % 64)) e)

    apart : (n ≡ k → ⊥) → label_in (g (k / 64)) (k % 64) ≡ (if nat_eq n k then w else label_in (f (k / 64)) (k % 64))
    apart other = ⊎_elim inside outside (cases_eq (k / 64) (n / 64)) ∙ sym (when_apart n k w (label_in (f (k / 64)) (k % 64)) other)
      where
        inside : k / 64 ≡ n / 64 → label_in (g (k / 64)) (k % 64) ≡ label_in (f (k / 64)) (k % 64)
        inside e =
            ap (λ (b : ℕ). label_in (g b) (k % 64)) e
            ∙ here (k % 64)
            ∙ when_apart (n % 64) (k % 64) w (label_in (f (n / 64)) (k % 64)) (λ o. other (same_number n k (sym e) o))
            ∙ sym (ap (λ (b : ℕ). label_in (f b) (k % 64)) e)

        outside : (k / 64 ≡ n / 64 → ⊥) → label_in (g (k / 64)) (k % 64) ≡ label_in (f (k / 64)) (k % 64)
        outside e = ap (λ (es : List (ℕ × ℕ)). label_in es (k % 64)) (others (k / 64) e)

-- ---- which blocks have labels
pub some_entries : (es : List (ℕ × ℕ)) (k label : ℕ) → label_in es k ≡ Some label → 0 < length es
some_entries [] k label is = absurd (none-some label is)
some_entries (e ∷ es) k label is = omega arith

pub marked_by : (c d : ℕ → Bool) (f g : ℕ → List (ℕ × ℕ)) (block : ℕ) → ((b : ℕ) → c b ≡ nat_lt 0 (length (f b))) → ((b : ℕ) → (b ≡ block → ⊥) → d b ≡ c b) → ((b : ℕ) → (b ≡ block → ⊥) → g b ≡ f b)
    → d block ≡ nat_lt 0 (length (g block)) → (b : ℕ) → d b ≡ nat_lt 0 (length (g b))
marked_by c d f g block marked flags others here b = ⊎_elim same apart (cases_eq b block)
  where
    same : b ≡ block → d b ≡ nat_lt 0 (length (g b))
    same e = subst (λ (a : ℕ). d a ≡ nat_lt 0 (length (g a))) (sym e) here

    apart : (b ≡ block → ⊥) → d b ≡ nat_lt 0 (length (g b))
    apart e = flags b e ∙ marked b ∙ sym (ap (λ (es : List (ℕ × ℕ)). nat_lt 0 (length es)) (others b e))

-- a flag that is changed at one block
pub flag_here : (c d : ℕ → Bool) (block : ℕ) (flag : Bool) → ((b : ℕ) → d b ≡ (if nat_eq block b then flag else c b)) → d block ≡ flag
flag_here c d block flag is = is block ∙ when_same block block flag (c block) refl

pub flag_apart : (c d : ℕ → Bool) (block : ℕ) (flag : Bool) → ((b : ℕ) → d b ≡ (if nat_eq block b then flag else c b)) → (b : ℕ) → (b ≡ block → ⊥) → d b ≡ c b
flag_apart c d block flag is b other = is b ∙ when_apart block b flag (c b) (λ e. other (sym e))

pub block_bound : (first : ℕ) (bs : List Block) (b : ℕ) → 0 < length (block_of first bs b) → b < first + length bs
block_bound first bs b some = ⊎_elim (λ l. l) (λ l. absurd (against l)) (cases_lt b (first + length bs))
  where
    against : first + length bs ≤ b → ⊥
    against l =
        let none = ap (λ (es : List (ℕ × ℕ)). length es) (block_past first bs b (b - first) (omega (arith, l)) (omega (arith, l))) in
        omega (arith, some, none)

-- the same entries from another first number, where there were no blocks
pub block_same : (first next : ℕ) (old new : List Block) → (next ≡ first) ⊎ (old ≡ []) → ((i : ℕ) → entries_at new i ≡ entries_at old i) → (b : ℕ) → block_of next new b ≡ block_of first old b
block_same first next old new way same b = ⊎_elim kept moved way
  where
    kept : next ≡ first → block_of next new b ≡ block_of first old b
    kept e = ap (λ (f : ℕ). block_of f new b) e ∙ ap (λ (es : List (ℕ × ℕ)). if nat_lt b first then [] else es) (same (b - first))

    moved : old ≡ [] → block_of next new b ≡ block_of first old b
    moved e = ap (λ (es : List (ℕ × ℕ)). if nat_lt b next then [] else es) (same (b - next)) ∙ block_none next b old e ∙ sym (block_none first b old e)
