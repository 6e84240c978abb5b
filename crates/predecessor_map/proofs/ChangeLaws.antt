-- A change in one block of a table.
use Rattle.std.proofs.Common.{⊎_elim, ◌≡◌, ℕ, ◌+◌, ◌-◌, ◌/◌, ◌%◌, ◌<◌, ◌≤◌, List, [], ◌∷◌, length, Option, Some, None, Bool, true, false, Result, Ok, Err, OnOk, OnErr, is_err, ◌==◌, nat_eq, nat_lt, if◌then◌else◌, slice_index_or, slice_set, arith, refl, sym, ap, ◌∙◌, subst, lt-ltb, le-ltb, eqb-true, ltb-true}
use Rattle.std.proofs.lemmas.Bool.{cases_lt, cases_eq, false≢true, eqb-false}
use Rattle.std.proofs.lemmas.List.{get_or-set_same}
use Rattle.std.proofs.lemmas.Option.{none-some}
use Rattle.predecessor_map.specs.declared.block.Block.{Block}
use Rattle.predecessor_map.specs.Entries.{label_in}
use Rattle.predecessor_map.specs.Blocks.{block_of}
use Rattle.predecessor_map.proofs.EntryLaws.{entry_here}
use Rattle.predecessor_map.proofs.BlockLaws.{block_at, block_here, block_apart, label_changed, marked_by, some_entries, when_same}

pub when_err : {T E P : Type 0} (r : Result T E) → is_err r ≡ true → OnErr r P → P
when_err (Ok x) is h = absurd (false≢true is)
when_err (Err e) is h = h

pub when_ok : {T E P : Type 0} (r : Result T E) → is_err r ≡ false → OnOk r P → P
when_ok (Ok x) is h = h
when_ok (Err e) is h = absurd (false≢true (sym is))

pub on_err_any : {T E P : Type 0} (r : Result T E) → P → OnErr r P
on_err_any (Ok x) h = tt
on_err_any (Err e) h = h

-- what is read where a block was written
pub is_put : (bs : List Block) (i : ℕ) (x z : Block) → i < length bs → z ≡ slice_index_or (slice_set bs i x) i z → z ≡ x
is_put bs i x z lt is = is ∙ get_or-set_same bs i x z lt

-- whether a list is empty, as a test tells
pub some_items : (es : List (ℕ × ℕ)) (b : Bool) → b ≡ (length es == 0) → b ≡ false → nat_lt 0 (length es) ≡ true
some_items es b is not_so = lt-ltb 0 (length es) (⊎_elim (λ l. l) (λ l. absurd (eqb-false (length es) 0 (sym is ∙ not_so) (omega (arith, l)))) (cases_lt 0 (length es)))

pub no_items : (es : List (ℕ × ℕ)) (b : Bool) → b ≡ (length es == 0) → b ≡ true → nat_lt 0 (length es) ≡ false
no_items es b is so = let none = eqb-true (length es) 0 (sym is ∙ so) in le-ltb 0 (length es) (omega (arith, none))

-- the block of the number n, at this place in the list
module _ (first : ℕ) (bs : List Block) (n i : ℕ) (is : first + i ≡ n / 64) (lt : i < length bs) (y : Block) (own : y ≡ slice_index_or bs i y) where
  pub own_label : label_in (block_of first bs (n / 64)) (n % 64) ≡ label_in y.entries.items (n % 64)
  own_label = ap (λ (es : List (ℕ × ℕ)). label_in es (n % 64)) (block_at first bs (n / 64) i y is lt own)

  pub own_length : nat_lt 0 (length (block_of first bs (n / 64))) ≡ nat_lt 0 (length y.entries.items)
  own_length = ap (λ (es : List (ℕ × ℕ)). nat_lt 0 (length es)) (block_at first bs (n / 64) i y is lt own)

  module _ (x : Block) where
    pub labels_changed : (w : Option ℕ) → ((k : ℕ) → label_in x.entries.items k ≡ (if nat_eq (n % 64) k then w else label_in y.entries.items k))
        → (k : ℕ) → label_in (block_of first (slice_set bs i x) (k / 64)) (k % 64) ≡ (if nat_eq n k then w else label_in (block_of first bs (k / 64)) (k % 64))
    labels_changed w change =
        label_changed (block_of first bs) (block_of first (slice_set bs i x)) n w
        (λ q. ap (λ (es : List (ℕ × ℕ)). label_in es q) (block_here first bs (n / 64) i x is lt) ∙ change q ∙ ap (λ (es : List (ℕ × ℕ)). if nat_eq (n % 64) q then w else label_in es q) (sym (block_at first bs (n / 64) i y is lt own)))
        (block_apart first bs (n / 64) i x is)

    pub labels_same : x.entries.items ≡ y.entries.items → (k : ℕ) → label_in (block_of first (slice_set bs i x) (k / 64)) (k % 64) ≡ label_in (block_of first bs (k / 64)) (k % 64)
    labels_same same k = ap (λ (es : List (ℕ × ℕ)). label_in es (k % 64)) (⊎_elim (λ e. here (k / 64) e) (λ o. block_apart first bs (n / 64) i x is (k / 64) o) (cases_eq (k / 64) (n / 64)))
      where
        here : (b : ℕ) → b ≡ n / 64 → block_of first (slice_set bs i x) b ≡ block_of first bs b
        here b e = subst (λ (a : ℕ). block_of first (slice_set bs i x) a ≡ block_of first bs a) (sym e) (block_here first bs (n / 64) i x is lt ∙ same ∙ sym (block_at first bs (n / 64) i y is lt own))

    -- which blocks have labels then
    pub flags_changed : (c d : ℕ → Bool) → ((b : ℕ) → c b ≡ nat_lt 0 (length (block_of first bs b))) → ((b : ℕ) → (b ≡ n / 64 → ⊥) → d b ≡ c b) → d (n / 64) ≡ nat_lt 0 (length x.entries.items)
        → (b : ℕ) → d b ≡ nat_lt 0 (length (block_of first (slice_set bs i x) b))
    flags_changed c d marked others here =
        marked_by c d (block_of first bs) (block_of first (slice_set bs i x)) (n / 64) marked others (block_apart first bs (n / 64) i x is)
        (here ∙ sym (ap (λ (es : List (ℕ × ℕ)). nat_lt 0 (length es)) (block_here first bs (n / 64) i x is lt)))

-- a block into which a label was put has entries
pub filled_by : (es old : List (ℕ × ℕ)) (k label : ℕ) → ((q : ℕ) → label_in es q ≡ (if nat_eq k q then Some label else label_in old q)) → nat_lt 0 (length es) ≡ true
filled_by es old k label change = lt-ltb 0 (length es) (some_entries es k label (change k ∙ when_same k k (Some label) (label_in old k) refl))

-- and so after a try to put one into a block that has entries
pub filled_after : {T E : Type 0} (r : Result T E) (es old : List (ℕ × ℕ)) (k label : ℕ) → nat_lt 0 (length old) ≡ true → OnOk r ((q : ℕ) → label_in es q ≡ (if nat_eq k q then Some label else label_in old q)) → OnErr r (es ≡ old) → nat_lt 0 (length es) ≡ true
filled_after (Ok x) es old k label some change same = filled_by es old k label change
filled_after (Err e) es old k label some change same = ap (λ (xs : List (ℕ × ℕ)). nat_lt 0 (length xs)) same ∙ some

either_none : {X : Type 0} (b : Bool) (o : Option X) → o ≡ None → (if b then None else o) ≡ None
either_none true o is = refl
either_none false o is = is

-- a block that has a label after one was taken away had one before
pub kept_some : (old : List (ℕ × ℕ)) (x : Block) (k : ℕ) → nat_lt 0 (length x.entries.items) ≡ true → ((q : ℕ) → label_in x.entries.items q ≡ (if nat_eq k q then None else label_in old q)) → nat_lt 0 (length old) ≡ true
kept_some [] x k some change = absurd (none-some (slice_index_or x.entries.items 0 (0, 0)).1 (sym (change (slice_index_or x.entries.items 0 (0, 0)).0 ∙ either_none (nat_eq k (slice_index_or x.entries.items 0 (0, 0)).0) None refl) ∙ entry_here x.entries.items 0 (0, 0) x.rising (ltb-true 0 (length x.entries.items) some)))
kept_some (e ∷ es) x k some change = lt-ltb 0 (length (e ∷ es)) (omega arith)
