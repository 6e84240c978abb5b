-- The last number up to another, by blocks.
use Rattle.std.proofs.Common.{⊎_elim, ◌≡◌, ℕ, zero, suc, ◌+◌, ◌-◌, ◌*◌, ◌/◌, ◌%◌, ◌<◌, ◌≤◌, List, [], ◌∷◌, length, All, Option, Some, None, IsSome, IfSome, IfNone, Bool, true, false, nat_lt, slice_index_or, arith, refl, sym, ap, ◌∙◌, subst, lt-ltb}
use Rattle.std.proofs.lemmas.Nat.{div-add-mod', div-mul-add, mod-mul-add, mod_below}
use Rattle.std.proofs.lemmas.Bool.{cases_lt, cases_eq, false≢true}
use Rattle.std.proofs.lemmas.Option.{none-some}
use Rattle.predecessor_map.specs.declared.block.Block.{Block}
use Rattle.predecessor_map.specs.Labels.{IsLastIn, AreLastIn}
use Rattle.predecessor_map.specs.Entries.{label_in, IsRising}
use Rattle.predecessor_map.specs.Blocks.{entries_at, block_of}
use Rattle.predecessor_map.specs.Tables.{IsLastBelow}
use Rattle.predecessor_map.proofs.EntryLaws.{entry_here}
use Rattle.predecessor_map.proofs.BlockLaws.{block_low, block_in}

none_rise : (es : List (ℕ × ℕ)) → es ≡ [] → IsRising es × All (λ e. e.0 < 64) es
none_rise es none =
    let empty = ap (λ (xs : List (ℕ × ℕ)). length xs) none in
    (λ i j d l m. absurd (omega (arith, m, empty)), λ i d l. absurd (omega (arith, l, empty)))

entries_rise : (bs : List Block) (i : ℕ) → IsRising (entries_at bs i) × All (λ e. e.0 < 64) (entries_at bs i)
entries_rise [] i = none_rise [] refl
entries_rise (b ∷ bs) zero = (b.rising, b.small)
entries_rise (b ∷ bs) (suc i) = entries_rise bs i

block_rises : (first : ℕ) (bs : List Block) (b : ℕ) → IsRising (block_of first bs b) × All (λ e. e.0 < 64) (block_of first bs b)
block_rises first bs b = ⊎_elim (λ l. none_rise (block_of first bs b) (block_low first bs b l)) (λ l. high l) (cases_lt b first)
  where
    high : first ≤ b → IsRising (block_of first bs b) × All (λ e. e.0 < 64) (block_of first bs b)
    high l = subst (λ (es : List (ℕ × ℕ)). IsRising es × All (λ e. e.0 < 64) es) (sym (block_in first bs b (b - first) (omega (arith, l)))) (entries_rise bs (b - first))

-- a block with entries has a label up to its last offset
pub not_all_none : (first : ℕ) (bs : List Block) (b : ℕ) → 0 < length (block_of first bs b) → ((k : ℕ) → k ≤ 63 → label_in (block_of first bs b) k ≡ None) → ⊥
not_all_none first bs b some none =
    let own = block_rises first bs b in
    let es = block_of first bs b in
    let low = own.1 0 (0, 0) some in
    none-some (slice_index_or es 0 (0, 0)).1 (sym (none (slice_index_or es 0 (0, 0)).0 (omega (arith, low))) ∙ entry_here es 0 (0, 0) own.0 some)

-- where something has a label, there are entries
pub has_entries : (es : List (ℕ × ℕ)) (k : ℕ) → IsSome (label_in es k) → 0 < length es
has_entries [] k labelled = absurd (false≢true labelled)
has_entries (e ∷ es) k labelled = omega arith

-- the numbers of a block
module _ (f : ℕ → List (ℕ × ℕ)) where
  at_number : (b o : ℕ) (label : ℕ) → o < 64 → label_in (f b) o ≡ Some label → label_in (f ((b * 64 + o) / 64)) ((b * 64 + o) % 64) ≡ Some label
  at_number b o label low is = ap (λ (m : ℕ). label_in (f m) ((b * 64 + o) % 64)) (div-mul-add b 64 o low) ∙ ap (λ (m : ℕ). label_in (f b) m) (mod-mul-add b 64 o low) ∙ is

  -- a number of an earlier block, and one of the same block
  earlier : (k b o : ℕ) → k / 64 < b → k ≤ b * 64 + o
  earlier k b o l =
      let split = div-add-mod' k 64 in
      let low = mod_below k 64 (omega arith) in
      omega (arith, l, split, low)

  within : (k b o : ℕ) → k / 64 ≡ b → k % 64 ≤ o → k ≤ b * 64 + o
  within k b o e l =
      let split = div-add-mod' k 64 in
      let same = ap (λ (m : ℕ). m * 64) e in
      omega (arith, l, split, same)

  -- the last of a block that holds the number itself
  pub near_last : (n o label : ℕ) → IsLastIn (label_in (f (n / 64))) (n % 64) o label → IsLastIn (λ k. label_in (f (k / 64)) (k % 64)) n (n / 64 * 64 + o) label
  near_last n o label h = record {
    before = let split = div-add-mod' n 64 in let low = h.before in omega (arith, split, low);
    has = let small = mod_below n 64 (omega arith) in let low = h.before in at_number (n / 64) o label (omega (arith, small, low)) h.has;
    last = λ k le labelled. ⊎_elim (λ l. earlier k (n / 64) o l) (λ l. same k le labelled (level k le l)) (cases_lt (k / 64) (n / 64));
  }
    where
      level : (k : ℕ) → k ≤ n → n / 64 ≤ k / 64 → k / 64 ≡ n / 64
      level k le l =
          let a = div-add-mod' k 64 in
          let b = div-add-mod' n 64 in
          let c = mod_below n 64 (omega arith) in
          omega (arith, a, b, c, le, l)

      same : (k : ℕ) → k ≤ n → IsSome (label_in (f (k / 64)) (k % 64)) → k / 64 ≡ n / 64 → k ≤ n / 64 * 64 + o
      same k le labelled e =
          let a = div-add-mod' k 64 in
          let b = div-add-mod' n 64 in
          let product = ap (λ (m : ℕ). m * 64) e in
          within k (n / 64) o e (h.last (k % 64) (omega (arith, a, b, product, le)) (subst (λ (m : ℕ). IsSome (label_in (f m) (k % 64))) e labelled))

  -- where the block of the number has none up to it, the last of the blocks before is the last
  pub below_last : (n : ℕ) → ((k : ℕ) → k ≤ n % 64 → label_in (f (n / 64)) k ≡ None) → (found : Option (ℕ × ℕ))
      → IfSome found (λ e. IsLastBelow (λ k. label_in (f (k / 64)) (k % 64)) (n / 64) e.0 e.1) → IfNone found ((k : ℕ) → k / 64 < n / 64 → label_in (f (k / 64)) (k % 64) ≡ None)
      → AreLastIn (λ k. label_in (f (k / 64)) (k % 64)) n found
  below_last n none found some nothing = by found some nothing
    where
      own : (k : ℕ) → k ≤ n → n / 64 ≤ k / 64 → label_in (f (k / 64)) (k % 64) ≡ None
      own k le l =
          let a = div-add-mod' k 64 in
          let b = div-add-mod' n 64 in
          let c = mod_below n 64 (omega arith) in
          let e : k / 64 ≡ n / 64 = omega (arith, a, b, c, le, l) in
          let product = ap (λ (m : ℕ). m * 64) e in
          ap (λ (m : ℕ). label_in (f m) (k % 64)) e ∙ none (k % 64) (omega (arith, a, b, product, le))

      by : (found : Option (ℕ × ℕ)) → IfSome found (λ e. IsLastBelow (λ k. label_in (f (k / 64)) (k % 64)) (n / 64) e.0 e.1) → IfNone found ((k : ℕ) → k / 64 < n / 64 → label_in (f (k / 64)) (k % 64) ≡ None) → AreLastIn (λ k. label_in (f (k / 64)) (k % 64)) n found
      by None h q = λ k le. ⊎_elim (λ l. q k l) (λ l. own k le l) (cases_lt (k / 64) (n / 64))
      by (Some e) h q = record {
        before =
            let a = div-add-mod' e.0 64 in
            let b = div-add-mod' n 64 in
            let c = mod_below e.0 64 (omega arith) in
            let d = h.before in
            omega (arith, a, b, c, d);
        has = h.has;
        last = λ k le labelled. ⊎_elim (λ l. h.last k l labelled) (λ l. absurd (false≢true (subst IsSome (own k le l) labelled))) (cases_lt (k / 64) (n / 64));
      }

-- the last of the last block before another that has labels
pub last_before : (first : ℕ) (bs : List Block) (flag : ℕ → Bool) → ((b : ℕ) → flag b ≡ nat_lt 0 (length (block_of first bs b))) → (block last o label : ℕ) → last < block → ((b : ℕ) → b < block → flag b ≡ true → b ≤ last)
    → IsLastIn (label_in (block_of first bs last)) 63 o label → IsLastBelow (λ k. label_in (block_of first bs (k / 64)) (k % 64)) block (last * 64 + o) label
last_before first bs flag marked block last o label below top h = record {
  before = let is = div-mul-add last 64 o small in omega (arith, is, below);
  has = at_number f last o label small h.has;
  last = λ k l labelled. ⊎_elim (λ less. earlier f k last o less) (λ more. same k labelled (level k l labelled more)) (cases_lt (k / 64) last);
}
  where
    f : ℕ → List (ℕ × ℕ)
    f b = block_of first bs b

    small : o < 64
    small = let low = h.before in omega (arith, low)

    level : (k : ℕ) → k / 64 < block → IsSome (label_in (block_of first bs (k / 64)) (k % 64)) → last ≤ k / 64 → k / 64 ≡ last
    level k l labelled more =
        let le = top (k / 64) l (marked (k / 64) ∙ lt-ltb 0 _ (has_entries (block_of first bs (k / 64)) (k % 64) labelled)) in
        omega (arith, le, more)

    same : (k : ℕ) → IsSome (label_in (block_of first bs (k / 64)) (k % 64)) → k / 64 ≡ last → k ≤ last * 64 + o
    same k labelled e =
        let rest = mod_below k 64 (omega arith) in
        within f k last o e (h.last (k % 64) (omega (arith, rest)) (subst (λ (m : ℕ). IsSome (label_in (block_of first bs m) (k % 64))) e labelled))

-- the last number in one clause and in two
pub are_last : (f : ℕ → Option ℕ) (n : ℕ) (found : Option (ℕ × ℕ)) → IfSome found (λ e. IsLastIn f n e.0 e.1) → IfNone found ((k : ℕ) → k ≤ n → f k ≡ None) → AreLastIn f n found
are_last f n None some none = none
are_last f n (Some e) some none = some

pub last_some : (f : ℕ → Option ℕ) (n : ℕ) (found : Option (ℕ × ℕ)) → AreLastIn f n found → IfSome found (λ e. IsLastIn f n e.0 e.1)
last_some f n None h = tt
last_some f n (Some e) h = h

pub last_none : (f : ℕ → Option ℕ) (n : ℕ) (found : Option (ℕ × ℕ)) → AreLastIn f n found → IfNone found ((k : ℕ) → k ≤ n → f k ≡ None)
last_none f n None h = h
last_none f n (Some e) h = tt
