-- What is kept of runs, with one more behind them.
use Rattle.std.proofs.Common.{◌≡◌, ℕ, suc, ◌+◌, ◌-◌, ◌<◌, ◌≤◌, ◌^◌, List, [], ◌∷◌, ◌++◌, length, take, drop, get_or, set, sym, ap, ◌∙◌, subst, arith, append_assoc, append-nil, length-append, length-drop}
use Rattle.std.proofs.lemmas.List.{take_all, take_more, drop_all, set_split, take-append-le, drop-append-le}
use Rattle.ew_model.specs.declared.text_op.TextOp.{TextOp}
use Rattle.operation_runs.specs.Runs.{insertions, back_deletions}
use Rattle.operation_runs.specs.declared.stored.StoredRun.{StoredRun}
use Rattle.operation_runs.specs.declared.stored.RunKind.{RunKind}
use Rattle.operation_runs.specs.declared.stored.RunKind.TheVariants.{Insertions, Deletions, BackDeletions, Nothings}
use Rattle.operation_runs.proofs.RunLaws.{length-insertions, length-deletions, length-back_deletions, length-nothings, insertions_append, deletions_append, back_append, nothings_append}
use Rattle.operation_runs.specs.Stored.{ops_by, chars_by, FitBy, ops_in, stored_ops, stored_chars, AreStored, IsStored, GoesOn, GoesBack, IsBoth, AreGrown, IsKeptOf}

-- the operations of the only run
only_ops : (r : StoredRun) (chars : List ℕ) → length chars ≡ stored_chars r → ops_in (r ∷ []) chars ≡ stored_ops r chars
only_ops r chars long = append-nil (stored_ops r (take (stored_chars r) chars)) ∙ ap (stored_ops r) (take_all (stored_chars r) chars (omega (arith, long)))

only_stored : (r : StoredRun) (chars : List ℕ) → IsStored r → length chars ≡ stored_chars r → AreStored (r ∷ []) chars
only_stored r chars is long = (is, omega (arith, long), drop_all (stored_chars r) chars (omega (arith, long)))

-- the characters of the first run stay, and those of the others are followed by more
first_ops : (r : StoredRun) (front new : List StoredRun) (chars more : List ℕ) (ops : List TextOp) → stored_chars r ≤ length chars
    → ops_in new (drop (stored_chars r) chars ++ more) ≡ ops_in front (drop (stored_chars r) chars) ++ ops
    → ops_in (r ∷ new) (chars ++ more) ≡ ops_in (r ∷ front) chars ++ ops
first_ops r front new chars more ops h e =
    let n = stored_chars r in
    ap (λ xs. stored_ops r xs ++ ops_in new (drop n (chars ++ more))) (take-append-le n chars more h)
    ∙ ap (λ xs. stored_ops r (take n chars) ++ ops_in new xs) (drop-append-le n chars more h)
    ∙ ap (λ os. stored_ops r (take n chars) ++ os) e
    ∙ sym (append_assoc (stored_ops r (take n chars)) (ops_in front (drop n chars)) ops)

first_stored : (r : StoredRun) (new : List StoredRun) (chars more : List ℕ) → IsStored r → stored_chars r ≤ length chars → AreStored new (drop (stored_chars r) chars ++ more) → AreStored (r ∷ new) (chars ++ more)
first_stored r new chars more is h rest =
    (is, let all = length-append chars more in omega (arith, h, all), subst (AreStored new) (sym (drop-append-le (stored_chars r) chars more h)) rest)

-- a run that stands behind the others
pub ops_behind : (runs : List StoredRun) (one : StoredRun) (chars more : List ℕ) → AreStored runs chars → length more ≡ stored_chars one → ops_in (runs ++ one ∷ []) (chars ++ more) ≡ ops_in runs chars ++ stored_ops one more
ops_behind [] one chars more stored long = ap (λ xs. ops_in (one ∷ []) (xs ++ more)) stored ∙ only_ops one more long
ops_behind (r ∷ runs) one chars more stored long = first_ops r runs (runs ++ one ∷ []) chars more (stored_ops one more) stored.1 (ops_behind runs one (drop (stored_chars r) chars) more stored.2 long)

pub stored_behind : (runs : List StoredRun) (one : StoredRun) (chars more : List ℕ) → AreStored runs chars → IsStored one → length more ≡ stored_chars one → AreStored (runs ++ one ∷ []) (chars ++ more)
stored_behind [] one chars more stored is long = subst (λ (xs : List ℕ). AreStored (one ∷ []) (xs ++ more)) (sym stored) (only_stored one more is long)
stored_behind (r ∷ runs) one chars more stored is long = first_stored r (runs ++ one ∷ []) chars more stored.0 stored.1 (stored_behind runs one (drop (stored_chars r) chars) more stored.2 is long)

pub grown_behind : (runs : List StoredRun) (one : StoredRun) (chars more : List ℕ) → AreStored runs chars → IsStored one → length more ≡ stored_chars one → AreGrown runs chars one more (runs ++ one ∷ [])
grown_behind runs one chars more stored is long = record { ops = ops_behind runs one chars more stored long; stored = stored_behind runs one chars more stored is long }

-- the characters of the only run are all
only_long : (r : StoredRun) (chars : List ℕ) → AreStored (r ∷ []) chars → length chars ≡ stored_chars r
only_long r chars stored =
    let none = ap (length {A = ℕ}) stored.2 in
    let left = length-drop (stored_chars r) chars in
    let low = stored.1 in
    omega (arith, none, left, low)

-- a run that goes into the last of the others
module _ (last one both : StoredRun) (more : List ℕ) (is : IsBoth last one both) (long : length more ≡ stored_chars one) where
  both_long : (chars : List ℕ) → AreStored (last ∷ []) chars → length (chars ++ more) ≡ stored_chars both
  both_long chars stored = let all = length-append chars more in let here = only_long last chars stored in let sum = is.chars in omega (arith, all, here, sum, long)

  ops_into : (front : List StoredRun) (chars : List ℕ) → AreStored (front ++ last ∷ []) chars → ops_in (front ++ both ∷ []) (chars ++ more) ≡ ops_in (front ++ last ∷ []) chars ++ stored_ops one more
  ops_into [] chars stored =
      only_ops both (chars ++ more) (both_long chars stored)
      ∙ is.ops chars more (only_long last chars stored)
      ∙ ap (λ ops. ops ++ stored_ops one more) (sym (only_ops last chars (only_long last chars stored)))
  ops_into (r ∷ front) chars stored = first_ops r (front ++ last ∷ []) (front ++ both ∷ []) chars more (stored_ops one more) stored.1 (ops_into front (drop (stored_chars r) chars) stored.2)

  stored_into : (front : List StoredRun) (chars : List ℕ) → AreStored (front ++ last ∷ []) chars → AreStored (front ++ both ∷ []) (chars ++ more)
  stored_into [] chars stored = only_stored both (chars ++ more) is.stored (both_long chars stored)
  stored_into (r ∷ front) chars stored = first_stored r (front ++ both ∷ []) chars more stored.0 stored.1 (stored_into front (drop (stored_chars r) chars) stored.2)

  pub grown_into : (front : List StoredRun) (chars : List ℕ) → AreStored (front ++ last ∷ []) chars → AreGrown (front ++ last ∷ []) chars one more (front ++ both ∷ [])
  grown_into front chars stored = record { ops = ops_into front chars stored; stored = stored_into front chars stored }

-- a list by its last element
pub parted : (runs : List StoredRun) (n : ℕ) (r : StoredRun) → length runs ≡ n + 1 → r ≡ get_or runs n r → runs ≡ take n runs ++ r ∷ []
parted runs n r long is = sym (take_all (n + 1) runs (omega (arith, long))) ∙ take_more runs n r (omega (arith, long)) ∙ ap (λ x. take n runs ++ x ∷ []) (sym is)

pub last_set : (runs : List StoredRun) (n : ℕ) (r : StoredRun) → length runs ≡ n + 1 → set runs n r ≡ take n runs ++ r ∷ []
last_set runs n r long = set_split runs n r (omega (arith, long)) ∙ ap (λ rest. take n runs ++ r ∷ rest) (drop_all (suc n) runs (omega (arith, long)))

pub last_stored : (front : List StoredRun) (last : StoredRun) (chars : List ℕ) → AreStored (front ++ last ∷ []) chars → IsStored last
last_stored [] last chars stored = stored.0
last_stored (r ∷ front) last chars stored = last_stored front last (drop (stored_chars r) chars) stored.2

-- how many operations there are
pub length-ops_by : (kind : RunKind) (at count : ℕ) (chars : List ℕ) → length chars ≡ chars_by kind count → length (ops_by kind at count chars) ≡ count
length-ops_by Insertions at count chars long = length-insertions at chars ∙ long
length-ops_by Deletions at count chars long = length-deletions at count
length-ops_by BackDeletions at count chars long = length-back_deletions at count
length-ops_by Nothings at count chars long = length-nothings count

-- which runs go on from which
pub insertions_on : (a b : StoredRun) → a.kind ≡ Insertions → b.kind ≡ Insertions → b.at ≡ a.at + a.count → IsStored b → GoesOn a b Insertions
insertions_on a b ka kb gap stored = record {
  ops = λ xs ys long.
      let here : length xs ≡ a.count = long ∙ ap (λ k. chars_by k a.count) ka in
      let next : a.at + length xs ≡ b.at = omega (arith, here, gap) in
      insertions_append a.at xs ys ∙ ap (λ n. insertions a.at xs ++ insertions n ys) next ∙ (λ i. ops_by (sym ka i) a.at a.count xs ++ ops_by (sym kb i) b.at b.count ys);
  chars = λ i. chars_by (sym ka i) a.count + chars_by (sym kb i) b.count;
  fit = let fit = subst (λ (k : RunKind). FitBy k b.at b.count) kb stored.fit in omega (arith, fit, gap);
}

pub deletions_on : (a b : StoredRun) → a.kind ≡ Deletions → b.kind ≡ Deletions → a.at ≡ b.at → GoesOn a b Deletions
deletions_on a b ka kb same = record {
  ops = λ xs ys long. deletions_append a.at a.count b.count ∙ (λ i. ops_by (sym ka i) a.at a.count xs ++ ops_by (sym kb i) (same i) b.count ys);
  chars = λ i. chars_by (sym ka i) a.count + chars_by (sym kb i) b.count;
  fit = tt;
}

pub nothings_on : (a b : StoredRun) → a.kind ≡ Nothings → b.kind ≡ Nothings → GoesOn a b Nothings
nothings_on a b ka kb = record {
  ops = λ xs ys long. nothings_append a.count b.count ∙ (λ i. ops_by (sym ka i) a.at a.count xs ++ ops_by (sym kb i) b.at b.count ys);
  chars = λ i. chars_by (sym ka i) a.count + chars_by (sym kb i) b.count;
  fit = tt;
}

pub back_on : (a b : StoredRun) → GoesBack a → GoesBack b → b.at + a.count ≡ a.at → GoesOn a b BackDeletions
back_on a b ga gb gap = record {
  ops = λ xs ys long.
      let next : a.at - a.count ≡ b.at = omega (arith, gap) in
      back_append a.at a.count b.count ∙ ap (λ n. back_deletions a.at a.count ++ back_deletions n b.count) next ∙ (λ i. sym (ga.ops xs) i ++ sym (gb.ops ys) i);
  chars = λ i. sym ga.chars i + sym gb.chars i;
  fit = let fit = gb.fit in omega (arith, fit, gap);
}

-- two runs as one
pub both_of : (a b : StoredRun) (kind : RunKind) (count : ℕ) → GoesOn a b kind → IsStored a → count ≡ a.count + b.count → count < 2 ^ 32 → IsBoth a b (record { kind = kind; at = a.at; count = count })
both_of a b kind count on stored is few = record {
  ops = λ xs ys long. ap (λ n. ops_by kind a.at n (xs ++ ys)) is ∙ on.ops xs ys long;
  chars = ap (chars_by kind) is ∙ on.chars;
  stored = record { some = let some = stored.some in omega (arith, some, is); few = few; fit = subst (FitBy kind a.at) (sym is) on.fit };
}

-- what is kept of operations of a kind
pub kept_of : (kind : RunKind) (at count : ℕ) (chars : List ℕ) (ops : List TextOp) → ops_by kind at count chars ≡ ops → length chars ≡ chars_by kind count → 0 < count → count < 2 ^ 32 → FitBy kind at count
    → IsKeptOf ops chars (record { kind = kind; at = at; count = count })
kept_of kind at count chars ops are long some few fit = record { ops_are = are; chars_are = long; stored = record { some = some; few = few; fit = fit } }
