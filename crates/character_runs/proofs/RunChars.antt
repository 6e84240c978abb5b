-- The characters of runs.
use Rattle.std.proofs.Common.{◌≡◌, ℕ, zero, suc, ◌+◌, ◌<◌, ◌≤◌, Bool, true, false, cond, List, [], ◌∷◌, ◌++◌, map, filter, length, take, drop, Some, slice_get, nat_eq, refl, sym, ap, ◌∙◌, append_assoc, arith}
use Rattle.std.proofs.lemmas.List.{length-append}
use Rattle.std.proofs.lemmas.List.Elements.{filter-append}
use Rattle.ew_model.specs.declared.node.Node.{Node}
use Rattle.ew_model.specs.declared.node.Node.TheVariants.{Root, Base, Event}
use Rattle.walker_record.specs.Stretches.{Stretch, node_on, states_from, prepared_of, effect_of}
use Rattle.order_tree.specs.Pairs.{total}
use Rattle.order_tree.proofs.PairLaws.{total-cons}
use Rattle.character_runs.specs.Laid.{record_of, records_of, chars_in}

pub node_on_none : (v : Node) → node_on v 0 ≡ v
node_on_none Root = refl
node_on_none (Base i) = let same : i + 0 ≡ i = omega arith in ap Base same
node_on_none (Event i) = let same : i + 0 ≡ i = omega arith in ap Event same

pub next_on : (v : Node) (n : ℕ) → node_on (node_on v 1) n ≡ node_on v (suc n)
next_on Root n = refl
next_on (Base i) n = let same : i + 1 + n ≡ i + suc n = omega arith in ap Base same
next_on (Event i) n = let same : i + 1 + n ≡ i + suc n = omega arith in ap Event same

abbrev pub one : Node → ℕ → Bool → Stretch
one v prepared effect = record { from = v; len = 1; prepared = prepared; effect = effect }

-- A RUN
at_in : (n k : ℕ) (v : Node) (prepared : ℕ) (effect : Bool) → k < n → slice_get (map record_of (states_from v n prepared effect)) k ≡ Some (one (node_on v k) prepared effect)
at_in zero k v p e lt = absurd (omega arith)
at_in (suc n) zero v p e lt = ap (λ (w : Node). Some (one w p e)) (sym (node_on_none v))
at_in (suc n) (suc k) v p e lt = at_in n k (node_on v 1) p e (omega arith) ∙ ap (λ (w : Node). Some (one w p e)) (next_on v k)

length_in : (n : ℕ) (v : Node) (prepared : ℕ) (effect : Bool) → length (map record_of (states_from v n prepared effect)) ≡ n
length_in zero v p e = refl
length_in (suc n) v p e = ap suc (length_in n (node_on v 1) p e)

pub length-records_of : (r : Stretch) → length (records_of r) ≡ r.len
length-records_of r = length_in r.len r.from r.prepared r.effect

pub at-records_of : (r : Stretch) (k : ℕ) → k < r.len → slice_get (records_of r) k ≡ Some (one (node_on r.from k) r.prepared r.effect)
at-records_of r k lt = at_in r.len k r.from r.prepared r.effect lt

-- where all characters pass or none does, so many do
pub counted_in : (p : Stretch → Bool) (b : Bool) (prepared : ℕ) (effect : Bool) → ((v : Node) → p (one v prepared effect) ≡ b)
    → (n : ℕ) (v : Node) → length (filter p (map record_of (states_from v n prepared effect))) ≡ cond b n 0
counted_in p true prepared effect same zero v = refl
counted_in p false prepared effect same zero v = refl
counted_in p true prepared effect same (suc n) v =
    ap (λ (c : Bool). length (cond c (one v prepared effect ∷ filter p (map record_of (states_from (node_on v 1) n prepared effect))) (filter p (map record_of (states_from (node_on v 1) n prepared effect))))) (same v)
    ∙ ap suc (counted_in p true prepared effect same n (node_on v 1))
counted_in p false prepared effect same (suc n) v =
    ap (λ (c : Bool). length (cond c (one v prepared effect ∷ filter p (map record_of (states_from (node_on v 1) n prepared effect))) (filter p (map record_of (states_from (node_on v 1) n prepared effect))))) (same v)
    ∙ counted_in p false prepared effect same n (node_on v 1)

-- ALL RUNS
pub chars-append : (ps qs : List (ℕ × Stretch)) → chars_in (ps ++ qs) ≡ chars_in ps ++ chars_in qs
chars-append [] qs = refl
chars-append (p ∷ ps) qs = ap (λ (xs : List Stretch). records_of p.1 ++ xs) (chars-append ps qs) ∙ sym (append_assoc (records_of p.1) (chars_in ps) (chars_in qs))

module _ (p : Stretch → Bool) (count : Stretch → ℕ) (tells : (r : Stretch) → length (filter p (records_of r)) ≡ count r) where
  counted : (ps : List (ℕ × Stretch)) → length (filter p (chars_in ps)) ≡ total count ps
  counted [] = refl
  counted (x ∷ ps) =
      ap length (filter-append p (records_of x.1) (chars_in ps)) ∙ length-append (filter p (records_of x.1)) (filter p (chars_in ps))
      ∙ (λ i. tells x.1 i + counted ps i) ∙ sym (total-cons count x ps)

pub visible-chars : (ps : List (ℕ × Stretch)) → length (filter (λ (r : Stretch). nat_eq r.prepared 1) (chars_in ps)) ≡ total prepared_of ps
visible-chars ps = counted (λ (r : Stretch). nat_eq r.prepared 1) prepared_of (λ r. counted_in (λ (r : Stretch). nat_eq r.prepared 1) (nat_eq r.prepared 1) r.prepared r.effect (λ v. refl) r.len r.from) ps

pub shown-chars : (ps : List (ℕ × Stretch)) → length (filter (λ (r : Stretch). r.effect) (chars_in ps)) ≡ total effect_of ps
shown-chars ps = counted (λ (r : Stretch). r.effect) effect_of (λ r. counted_in (λ (r : Stretch). r.effect) r.effect r.prepared r.effect (λ v. refl) r.len r.from) ps

-- A PLACE IN A RUN
taken_in : (n k : ℕ) (v : Node) (prepared : ℕ) (effect : Bool) → k ≤ n → take k (map record_of (states_from v n prepared effect)) ≡ map record_of (states_from v k prepared effect)
taken_in zero zero v p e le = refl
taken_in (suc n) zero v p e le = refl
taken_in zero (suc k) v p e le = absurd (omega arith)
taken_in (suc n) (suc k) v p e le = ap (λ (xs : List Stretch). one v p e ∷ xs) (taken_in n k (node_on v 1) p e (omega arith))

pub dropped_in : (n k : ℕ) (v : Node) (prepared : ℕ) (effect : Bool) → drop k (map record_of (states_from v (k + n) prepared effect)) ≡ map record_of (states_from (node_on v k) n prepared effect)
dropped_in n zero v p e =
    let none : 0 + n ≡ n = omega arith in
    (λ i. map record_of (states_from v (none i) p e)) ∙ ap (λ (w : Node). map record_of (states_from w n p e)) (sym (node_on_none v))
dropped_in n (suc k) v p e =
    let more : suc k + n ≡ suc (k + n) = omega arith in
    (λ i. drop (suc k) (map record_of (states_from v (more i) p e))) ∙ dropped_in n k (node_on v 1) p e ∙ ap (λ (w : Node). map record_of (states_from w n p e)) (next_on v k)

module _ {X : Type 0} where
  pub take_behind : (xs ys : List X) (k : ℕ) → take (length xs + k) (xs ++ ys) ≡ xs ++ take k ys
  take_behind [] ys k = let none : 0 + k ≡ k = omega arith in ap (λ n. take n (ys)) none
  take_behind (x ∷ xs) ys k = let more : suc (length xs) + k ≡ suc (length xs + k) = omega arith in ap (λ n. take n (x ∷ (xs ++ ys))) more ∙ ap (λ (zs : List X). x ∷ zs) (take_behind xs ys k)

  drop_behind : (xs ys : List X) (k : ℕ) → drop (length xs + k) (xs ++ ys) ≡ drop k ys
  drop_behind [] ys k = let none : 0 + k ≡ k = omega arith in ap (λ n. drop n (ys)) none
  drop_behind (x ∷ xs) ys k = let more : suc (length xs) + k ≡ suc (length xs + k) = omega arith in ap (λ n. drop n (x ∷ (xs ++ ys))) more ∙ drop_behind xs ys k

  pub get_behind : (xs ys : List X) (k : ℕ) → slice_get (xs ++ ys) (length xs + k) ≡ slice_get ys k
  get_behind [] ys k = let none : 0 + k ≡ k = omega arith in ap (λ n. slice_get (ys) n) none
  get_behind (x ∷ xs) ys k = let more : suc (length xs) + k ≡ suc (length xs + k) = omega arith in ap (λ n. slice_get (x ∷ (xs ++ ys)) n) more ∙ get_behind xs ys k

  get_front : (xs ys : List X) (k : ℕ) → k < length xs → slice_get (xs ++ ys) k ≡ slice_get xs k
  get_front [] ys k lt = absurd (omega arith)
  get_front (x ∷ xs) ys zero lt = refl
  get_front (x ∷ xs) ys (suc k) lt = get_front xs ys k (omega arith)

  take_front : (xs ys : List X) (k : ℕ) → k ≤ length xs → take k (xs ++ ys) ≡ take k xs
  take_front [] ys zero le = refl
  take_front [] ys (suc k) le = absurd (omega arith)
  take_front (x ∷ xs) ys zero le = refl
  take_front (x ∷ xs) ys (suc k) le = ap (λ (zs : List X). x ∷ zs) (take_front xs ys k (omega arith))

  drop_front : (xs ys : List X) (k : ℕ) → k ≤ length xs → drop k (xs ++ ys) ≡ drop k xs ++ ys
  drop_front [] ys zero le = refl
  drop_front [] ys (suc k) le = absurd (omega arith)
  drop_front (x ∷ xs) ys zero le = refl
  drop_front (x ∷ xs) ys (suc k) le = drop_front xs ys k (omega arith)

-- the characters of a list that is parted at a run
module _ (front back : List (ℕ × Stretch)) (label : ℕ) (r : Stretch) where
  abbrev pub around : List (ℕ × Stretch)
  around = front ++ (((label, r) ∷ []) ++ back)

  pub chars-around : chars_in around ≡ chars_in front ++ (records_of r ++ chars_in back)
  chars-around = chars-append front (((label, r) ∷ []) ++ back)

  module _ (n : ℕ) (within : n < r.len) where
    long : n < length (records_of r)
    long = let is = length-records_of r in omega (arith, is)

    pub char_at : slice_get (chars_in around) (length (chars_in front) + n) ≡ Some (one (node_on r.from n) r.prepared r.effect)
    char_at =
        ap (λ (xs : List Stretch). slice_get xs (length (chars_in front) + n)) chars-around ∙ get_behind (chars_in front) (records_of r ++ chars_in back) n
        ∙ get_front (records_of r) (chars_in back) n long ∙ at-records_of r n within

    pub chars_before : take (length (chars_in front) + n) (chars_in around) ≡ chars_in front ++ map record_of (states_from r.from n r.prepared r.effect)
    chars_before =
        ap (take (length (chars_in front) + n)) chars-around ∙ take_behind (chars_in front) (records_of r ++ chars_in back) n
        ∙ ap (λ (xs : List Stretch). chars_in front ++ xs) (take_front (records_of r) (chars_in back) n (omega (arith, long)) ∙ taken_in r.len n r.from r.prepared r.effect (omega (arith, within)))

    pub chars_behind : drop (length (chars_in front) + suc n) (chars_in around) ≡ drop (suc n) (records_of r) ++ chars_in back
    chars_behind =
        ap (drop (length (chars_in front) + suc n)) chars-around ∙ drop_behind (chars_in front) (records_of r ++ chars_in back) (suc n)
        ∙ drop_front (records_of r) (chars_in back) (suc n) (omega (arith, long))
