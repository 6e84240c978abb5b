-- Operations of one step: how many there are, which stands at a place, and those from a place on.
use Rattle.std.proofs.Common.{◌≡◌, ℕ, zero, suc, ◌+◌, ◌-◌, ◌<◌, ◌≤◌, ◌^◌, List, [], ◌∷◌, ◌++◌, length, get_or, slice_get, take, drop, Some, refl, sym, ap, ◌∙◌, subst, arith}
use Rattle.std.specs.List.{flat_map}
use Rattle.std.proofs.lemmas.List.{length-drop}
use Rattle.ew_model.specs.declared.event.Op.{Op}
use Rattle.ew_model.specs.declared.event.Op.TheVariants.{Ins, Del, Mark}
use Rattle.ew_model.specs.Edits.{insertions_at, deletions_at, back_deletions_at}
use Rattle.event_runs.specs.declared.runs.RunKind.{RunKind}
use Rattle.event_runs.specs.declared.runs.RunKind.TheVariants.{Insertions, Deletions, BackDeletions, Marks}
use Rattle.event_runs.specs.declared.ops.RunOps.{RunOps}
use Rattle.event_runs.specs.declared.ops.RunOps.TheVariants as run
use Rattle.event_runs.specs.BareEvents.{bare}
use Rattle.event_runs.specs.KeptRuns.{IsNext, op_chars, op_labels}
use Rattle.event_runs.specs.RunOps.{ops_of, IndicesFit, chain_on}
use Rattle.event_runs.specs.Steps.{kind_of, index_in, chars_in}
use Rattle.ew_model.proofs.EditTexts.{insertions_long, back_long}
use Rattle.std.proofs.Math.Seq.{drop-nil}
use Rattle.std.proofs.lemmas.Option.{same_Some}

-- the operation at a place
pub insertion_there : (at : ℕ) (text : List ℕ) (k : ℕ) → k < length text → slice_get (insertions_at at text) k ≡ Some (Ins (at + k) (get_or text k 0))
insertion_there at [] k h = absurd (omega (arith, h))
insertion_there at (ch ∷ text) zero h = let e : at ≡ at + 0 = omega arith in ap (λ i. Some (Ins i ch)) e
insertion_there at (ch ∷ text) (suc k) h = let e : at + 1 + k ≡ at + suc k = omega arith in insertion_there (at + 1) text k (omega (arith, h)) ∙ ap (λ i. Some (Ins i (get_or text k 0))) e

pub deletion_there : (at n k : ℕ) → k < n → slice_get (deletions_at at n) k ≡ Some (Del at)
deletion_there at zero k h = absurd (omega (arith, h))
deletion_there at (suc n) zero h = refl
deletion_there at (suc n) (suc k) h = deletion_there at n k (omega (arith, h))

pub back_there : (at n k : ℕ) → k < n → slice_get (back_deletions_at at n) k ≡ Some (Del (at - k))
back_there at zero k h = absurd (omega (arith, h))
back_there at (suc n) zero h = let e : at ≡ at - 0 = omega arith in ap (λ i. Some (Del i)) e
back_there at (suc n) (suc k) h = let e : at - 1 - k ≡ at - suc k = omega arith in back_there (at - 1) n k (omega (arith, h)) ∙ ap (λ i. Some (Del i)) e

-- the operations from a place on
pub insertions_from : (at : ℕ) (text : List ℕ) (k : ℕ) → drop k (insertions_at at text) ≡ insertions_at (at + k) (drop k text)
insertions_from at text zero = let e : at ≡ at + 0 = omega arith in ap (λ i. insertions_at i text) e
insertions_from at [] (suc k) = refl
insertions_from at (ch ∷ text) (suc k) = let e : at + 1 + k ≡ at + suc k = omega arith in insertions_from (at + 1) text k ∙ ap (λ i. insertions_at i (drop k text)) e

pub deletions_from : (at n k : ℕ) → drop k (deletions_at at n) ≡ deletions_at at (n - k)
deletions_from at n zero = let e : n ≡ n - 0 = omega arith in ap (deletions_at at) e
deletions_from at zero (suc k) = let e : 0 ≡ 0 - suc k = omega arith in ap (deletions_at at) e
deletions_from at (suc n) (suc k) = let e : n - k ≡ suc n - suc k = omega arith in deletions_from at n k ∙ ap (deletions_at at) e

pub back_from : (at n k : ℕ) → drop k (back_deletions_at at n) ≡ back_deletions_at (at - k) (n - k)
back_from at n zero = let e : at ≡ at - 0 = omega arith in let f : n ≡ n - 0 = omega arith in λ i. back_deletions_at (e i) (f i)
back_from at zero (suc k) = let e : 0 ≡ 0 - suc k = omega arith in ap (back_deletions_at (at - suc k)) e
back_from at (suc n) (suc k) = let e : at - 1 - k ≡ at - suc k = omega arith in let f : n - k ≡ suc n - suc k = omega arith in back_from (at - 1) n k ∙ (λ i. back_deletions_at (e i) (f i))

-- THE OPERATION is the next one of a run of this kind, and its index is a number of 32 bits
abbrev pub Takes : RunKind → ℕ → ℕ → Op → Type 0
Takes Insertions at more (Ins i ch) = IsNext Insertions at more i × (i < 2 ^ 32)
Takes Insertions at more (Del i) = ⊥
Takes Insertions at more (Mark label) = ⊥
Takes Deletions at more (Ins i ch) = ⊥
Takes Deletions at more (Del i) = IsNext Deletions at more i × (i < 2 ^ 32)
Takes Deletions at more (Mark label) = ⊥
Takes BackDeletions at more (Ins i ch) = ⊥
Takes BackDeletions at more (Del i) = IsNext BackDeletions at more i × (i < 2 ^ 32)
Takes BackDeletions at more (Mark label) = ⊥
Takes Marks at more op = ⊥

-- each of them is the next one of the run that has those before
abbrev pub TakesAll : RunKind → ℕ → ℕ → List Op → Type 0
TakesAll kind at more [] = Unit {0}
TakesAll kind at more (op ∷ ops) = Takes kind at more op × TakesAll kind at (more + 1) ops

pub takes_insertions : (at more i : ℕ) (text : List ℕ) → IsNext Insertions at more i → i + length text ≤ 2 ^ 32 → TakesAll Insertions at more (insertions_at i text)
takes_insertions at more i [] next fit = tt
takes_insertions at more i (ch ∷ text) next fit = ((next, omega (arith, fit)), takes_insertions at (more + 1) (i + 1) text (omega (arith, next)) (omega (arith, fit)))

pub takes_deletions : (at more i n : ℕ) → IsNext Deletions at more i → i < 2 ^ 32 → TakesAll Deletions at more (deletions_at i n)
takes_deletions at more i zero next fit = tt
takes_deletions at more i (suc n) next fit = ((next, fit), takes_deletions at (more + 1) i n next fit)

pub takes_back : (at more i n : ℕ) → IsNext BackDeletions at more i → i < 2 ^ 32 → n ≤ suc i → TakesAll BackDeletions at more (back_deletions_at i n)
takes_back at more i zero next fit low = tt
takes_back at more i (suc zero) next fit low = ((next, fit), tt)
takes_back at more i (suc (suc n)) next fit low = ((next, fit), takes_back at (more + 1) (i - 1) (suc n) (omega (arith, next, low)) (omega (arith, fit)) (omega (arith, low)))

-- the characters that they put in
pub chars_inserted : (at : ℕ) (text : List ℕ) → flat_map op_chars (insertions_at at text) ≡ text
chars_inserted at [] = refl
chars_inserted at (ch ∷ text) = ap (λ cs. ch ∷ cs) (chars_inserted (at + 1) text)

pub none_inserted : (at n : ℕ) → flat_map op_chars (deletions_at at n) ≡ []
none_inserted at zero = refl
none_inserted at (suc n) = none_inserted at n

pub none_inserted_back : (at n : ℕ) → flat_map op_chars (back_deletions_at at n) ≡ []
none_inserted_back at zero = refl
none_inserted_back at (suc n) = none_inserted_back (at - 1) n

-- what stands in place of none makes no difference where there is one
pub get_any : (xs : List ℕ) (k d e : ℕ) → k < length xs → get_or xs k d ≡ get_or xs k e
get_any [] k d e h = absurd (omega (arith, h))
get_any (x ∷ xs) zero d e h = refl
get_any (x ∷ xs) (suc k) d e h = get_any xs k d e (omega (arith, h))

-- THE OPERATIONS from a place on, where the next of a run has the index of the first of them
pub takes_from : (ops : RunOps) (k at more : ℕ) → IndicesFit ops → index_in ops k < 2 ^ 32 → k < length (ops_of ops) → IsNext (kind_of ops) at more (index_in ops k) → TakesAll (kind_of ops) at more (drop k (ops_of ops))
takes_from (run.Insertions i text) k at more fit small low next =
    let long = insertions_long i text.now in
    let rest = length-drop k text.now in
    subst (TakesAll Insertions at more) (sym (insertions_from i text.now k)) (takes_insertions at more (i + k) (drop k text.now) next (omega (arith, fit, low, long, rest)))
takes_from (run.Deletions i n) k at more fit small low next = subst (TakesAll Deletions at more) (sym (deletions_from i n k)) (takes_deletions at more i (n - k) next small)
takes_from (run.BackDeletions i n) k at more fit small low next =
    let long = back_long i n in
    subst (TakesAll BackDeletions at more) (sym (back_from i n k)) (takes_back at more (i - k) (n - k) next small (omega (arith, fit, low, long)))

no_labels : (at : ℕ) (text : List ℕ) → flat_map op_labels (insertions_at at text) ≡ []
no_labels at [] = refl
no_labels at (ch ∷ text) = no_labels (at + 1) text

no_labels_deleted : (at n : ℕ) → flat_map op_labels (deletions_at at n) ≡ []
no_labels_deleted at zero = refl
no_labels_deleted at (suc n) = no_labels_deleted at n

no_labels_back : (at n : ℕ) → flat_map op_labels (back_deletions_at at n) ≡ []
no_labels_back at zero = refl
no_labels_back at (suc n) = no_labels_back (at - 1) n

pub labels_from : (ops : RunOps) (k : ℕ) → flat_map op_labels (drop k (ops_of ops)) ≡ []
labels_from (run.Insertions i text) k = ap (flat_map op_labels) (insertions_from i text.now k) ∙ no_labels (i + k) (drop k text.now)
labels_from (run.Deletions i n) k = ap (flat_map op_labels) (deletions_from i n k) ∙ no_labels_deleted i (n - k)
labels_from (run.BackDeletions i n) k = ap (flat_map op_labels) (back_from i n k) ∙ no_labels_back (i - k) (n - k)

pub inserted_from : (ops : RunOps) (k : ℕ) → flat_map op_chars (drop k (ops_of ops)) ≡ drop k (chars_in ops)
inserted_from (run.Insertions i text) k = ap (flat_map op_chars) (insertions_from i text.now k) ∙ chars_inserted (i + k) (drop k text.now)
inserted_from (run.Deletions i n) k = ap (flat_map op_chars) (deletions_from i n k) ∙ none_inserted i (n - k) ∙ sym (drop-nil k)
inserted_from (run.BackDeletions i n) k = ap (flat_map op_chars) (back_from i n k) ∙ none_inserted_back (i - k) (n - k) ∙ sym (drop-nil k)

-- THEIR EVENTS
pub chain_long : (p : ℕ) (ops : List Op) → length (chain_on p ops) ≡ length ops
chain_long p [] = refl
chain_long p (op ∷ ops) = ap suc (chain_long (p + 1) ops)

pub chain_joined : (p q : ℕ) (xs ys : List Op) → p + length xs ≡ q → chain_on p (xs ++ ys) ≡ chain_on p xs ++ chain_on q ys
chain_joined p q [] ys e = let same : p ≡ q = omega (arith, e) in ap (λ m. chain_on m ys) same
chain_joined p q (op ∷ xs) ys e = ap (λ es. bare op (p ∷ []) ∷ es) (chain_joined (p + 1) q xs ys (omega (arith, e)))

pub take_next : (ops : List Op) (k : ℕ) (op : Op) → slice_get ops k ≡ Some op → take (k + 1) ops ≡ take k ops ++ op ∷ []
take_next [] k op e = let no : ⊥ = cc in absurd no
take_next (x ∷ ops) zero op e = ap (λ y. y ∷ []) (same_Some x op e)
take_next (x ∷ ops) (suc k) op e = let more : suc k + 1 ≡ suc (k + 1) = omega arith in ap (λ n. take n (x ∷ ops)) more ∙ ap (λ ys. x ∷ ys) (take_next ops k op e)
