-- What runs of nodes keep to. (What the implementation of a trait cites has to stand here.)
use Rattle.std.specs.Prelude.{◌≡◌, ℕ, zero, suc, ◌+◌, ◌-◌, ◌≤◌, ◌<◌, nat_eq, nat_lt, Bool, true, false, ◌&&◌, if◌then◌else◌, cond, ◌⊎◌, List, ◌∷◌, ◌++◌, length, take, drop, count_by, refl}
use Rattle.std.proofs.Common.{◌*◌, arith, inl, inr, sym, ap, ◌∙◌, zero-add, zero-mul}
use Rattle.std.proofs.lemmas.List.Sums.{sum_by-cons}
use Rattle.std.proofs.lemmas.Bool.{false≢true, and_parts, and_from, eqb-true, eq-eqb}
use Rattle.std.proofs.lemmas.List.{take_at, drop_at}
use Rattle.ew_model.specs.declared.node.Node.{Node}
use Rattle.ew_model.specs.declared.node.Node.TheVariants.{Root, Base, Event}
use Rattle.ew_model.specs.Runs.{NodeState, is_inserted_state, is_visible_state, has_effect}
use Rattle.walker_record.specs.Stretches.{Stretch, node_on, is_node_on, states_from, chars_of, known_of, prepared_of, effect_of, same_bool, is_continued, joined_of, first_part, second_part, HasNumbers}

pub length-states_from : (node : Node) (n prepared : ℕ) (effect : Bool) → length (states_from node n prepared effect) ≡ n
length-states_from node zero prepared effect = refl
length-states_from node (suc n) prepared effect = ap suc (length-states_from (node_on node 1) n prepared effect)

-- a stretch has as many characters as its length says
pub length-chars_of : (s : Stretch) → length (chars_of s) ≡ s.len
length-chars_of s = length-states_from s.from s.len s.prepared s.effect

-- steps on add up
node_on_on : (node : Node) (m n : ℕ) → node_on (node_on node m) n ≡ node_on node (m + n)
node_on_on Root m n = refl
node_on_on (Base i) m n = let same : i + m + n ≡ i + (m + n) = omega arith in ap Base same
node_on_on (Event i) m n = let same : i + m + n ≡ i + (m + n) = omega arith in ap Event same

node_on_none : (node : Node) → node_on node 0 ≡ node
node_on_none Root = refl
node_on_none (Base i) = let same : i + 0 ≡ i = omega arith in ap Base same
node_on_none (Event i) = let same : i + 0 ≡ i = omega arith in ap Event same

-- so many characters and then so many others are all of them
states_from-+ : (node : Node) (m n prepared : ℕ) (effect : Bool) → states_from node (m + n) prepared effect ≡ states_from node m prepared effect ++ states_from (node_on node m) n prepared effect
states_from-+ node zero n prepared effect =
    let none : 0 + n ≡ n = zero-add n in
    ap (λ (k : ℕ). states_from node k prepared effect) none ∙ ap (λ (v : Node). states_from v n prepared effect) (sym (node_on_none node))
states_from-+ node (suc m) n prepared effect =
    let more : suc m + n ≡ suc (m + n) = omega arith in
    let on : 1 + m ≡ suc m = omega arith in
    ap (λ (k : ℕ). states_from node k prepared effect) more
    ∙ ap (λ (xs : List NodeState). record { node = node; prepared = prepared; effect = effect } ∷ xs)
    (states_from-+ (node_on node 1) m n prepared effect
    ∙ ap (λ (v : Node). states_from (node_on node 1) m prepared effect ++ states_from v n prepared effect) (node_on_on node 1 m ∙ ap (node_on node) on))

-- where a test holds of these states, all characters pass it; else none
counted_in : (p : NodeState → Bool) (b : Bool) (prepared : ℕ) (effect : Bool) → ((v : Node) → p (record { node = v; prepared = prepared; effect = effect }) ≡ b)
    → (n : ℕ) (node : Node) → count_by p (states_from node n prepared effect) ≡ n * cond b 1 0
counted_in p b prepared effect same zero node = sym (zero-mul (cond b 1 0))
counted_in p b prepared effect same (suc n) node =
    let x : NodeState = record { node = node; prepared = prepared; effect = effect } in
    let rest : List NodeState = states_from (node_on node 1) n prepared effect in
    let step : count_by p (x ∷ rest) ≡ cond (p x) 1 0 + count_by p rest = sum_by-cons (λ (s : NodeState). cond (p s) 1 0) x rest in
    let more : count_by p rest ≡ n * cond b 1 0 = counted_in p b prepared effect same n (node_on node 1) in
    step ∙ ap (λ (c : Bool). cond c 1 0 + count_by p rest) (same node) ∙ ap (λ (k : ℕ). cond b 1 0 + k) more ∙ one_more n (cond b 1 0)
  where
    one_more : (n k : ℕ) → k + n * k ≡ suc n * k
    one_more n k = omega arith

counted : (p : NodeState → Bool) (b : Bool) (prepared : ℕ) (effect : Bool) → ((v : Node) → p (record { node = v; prepared = prepared; effect = effect }) ≡ b)
    → (n : ℕ) (node : Node) → (if b then n else 0) ≡ count_by p (states_from node n prepared effect)
counted p b prepared effect same n node = at b ∙ sym (counted_in p b prepared effect same n node)
  where
    at : (b : Bool) → (if b then n else 0) ≡ n * cond b 1 0
    at true = omega arith
    at false = omega arith

pub known_counted : (s : Stretch) → known_of s ≡ count_by is_inserted_state (chars_of s)
known_counted s = counted is_inserted_state (nat_lt 0 s.prepared) s.prepared s.effect (λ v. refl) s.len s.from

pub prepared_counted : (s : Stretch) → prepared_of s ≡ count_by is_visible_state (chars_of s)
prepared_counted s = counted is_visible_state (nat_eq s.prepared 1) s.prepared s.effect (λ v. refl) s.len s.from

pub effect_counted : (s : Stretch) → effect_of s ≡ count_by has_effect (chars_of s)
effect_counted s = counted has_effect s.effect s.prepared s.effect (λ v. refl) s.len s.from

all_or_none : (b : Bool) (n m : ℕ) → m ≡ n → ((if b then n else 0) ≡ 0) ⊎ ((if b then n else 0) ≡ m)
all_or_none true n m e = inr (sym e)
all_or_none false n m e = inl refl

pub known_all_or_none : (s : Stretch) → (known_of s ≡ 0) ⊎ (known_of s ≡ length (chars_of s))
known_all_or_none s = all_or_none (nat_lt 0 s.prepared) s.len (length (chars_of s)) (length-chars_of s)

pub prepared_all_or_none : (s : Stretch) → (prepared_of s ≡ 0) ⊎ (prepared_of s ≡ length (chars_of s))
prepared_all_or_none s = all_or_none (nat_eq s.prepared 1) s.len (length (chars_of s)) (length-chars_of s)

pub effect_all_or_none : (s : Stretch) → (effect_of s ≡ 0) ⊎ (effect_of s ≡ length (chars_of s))
effect_all_or_none s = all_or_none s.effect s.len (length (chars_of s)) (length-chars_of s)

-- WHAT GOES ON
same_bool_is : (b c : Bool) → same_bool b c ≡ true → b ≡ c
same_bool_is true true h = refl
same_bool_is true false h = absurd (false≢true h)
same_bool_is false true h = absurd (false≢true h)
same_bool_is false false h = refl

pub same_bool_itself : (b : Bool) → same_bool b b ≡ true
same_bool_itself true = refl
same_bool_itself false = refl

next_is : (node : Node) (n : ℕ) (other : Node) → is_node_on node n other ≡ true → other ≡ node_on node n
next_is Root n other h = absurd (false≢true h)
next_is (Base i) n Root h = absurd (false≢true h)
next_is (Base i) n (Base j) h = ap Base (eqb-true j (i + n) h)
next_is (Base i) n (Event j) h = absurd (false≢true h)
next_is (Event i) n Root h = absurd (false≢true h)
next_is (Event i) n (Base j) h = absurd (false≢true h)
next_is (Event i) n (Event j) h = ap Event (eqb-true j (i + n) h)

-- what goes on begins at the next node, in the same states
pub record GoesOn (s t : Stretch) : Type 0 where
  pub prepared : s.prepared ≡ t.prepared
  pub effect : s.effect ≡ t.effect
  pub from : t.from ≡ node_on s.from s.len

pub goes_on : (s t : Stretch) → is_continued s t ≡ true → GoesOn s t
goes_on s t h =
    let last = and_parts (nat_eq s.prepared t.prepared && same_bool s.effect t.effect) (is_node_on s.from s.len t.from) h in
    let states = and_parts (nat_eq s.prepared t.prepared) (same_bool s.effect t.effect) last.0 in
    record { prepared = eqb-true s.prepared t.prepared states.0; effect = same_bool_is s.effect t.effect states.1; from = next_is s.from s.len t.from last.1 }

pub joined_chars_of : (s t : Stretch) → is_continued s t ≡ true → chars_of (joined_of s t) ≡ chars_of s ++ chars_of t
joined_chars_of s t h =
    let on = goes_on s t h in
    states_from-+ s.from s.len t.len s.prepared s.effect
    ∙ ap (λ (v : Node). chars_of s ++ states_from v t.len s.prepared s.effect) (sym on.from)
    ∙ ap (λ (k : ℕ). chars_of s ++ states_from t.from t.len k s.effect) on.prepared
    ∙ ap (λ (b : Bool). chars_of s ++ states_from t.from t.len t.prepared b) on.effect

sum_at : (b : Bool) (m n : ℕ) → (if b then m + n else 0) ≡ (if b then m else 0) + (if b then n else 0)
sum_at true m n = refl
sum_at false m n = refl

pub joined_known_of : (s t : Stretch) → is_continued s t ≡ true → known_of (joined_of s t) ≡ known_of s + known_of t
joined_known_of s t h =
    sum_at (nat_lt 0 s.prepared) s.len t.len ∙ ap (λ (k : ℕ). known_of s + (if nat_lt 0 k then t.len else 0)) (goes_on s t h).prepared

pub joined_prepared_of : (s t : Stretch) → is_continued s t ≡ true → prepared_of (joined_of s t) ≡ prepared_of s + prepared_of t
joined_prepared_of s t h =
    sum_at (nat_eq s.prepared 1) s.len t.len ∙ ap (λ (k : ℕ). prepared_of s + (if nat_eq k 1 then t.len else 0)) (goes_on s t h).prepared

pub joined_effect_of : (s t : Stretch) → is_continued s t ≡ true → effect_of (joined_of s t) ≡ effect_of s + effect_of t
joined_effect_of s t h =
    sum_at s.effect s.len t.len ∙ ap (λ (b : Bool). effect_of s + (if b then t.len else 0)) (goes_on s t h).effect

-- THE PARTS OF A STRETCH THAT IS CUT INSIDE
module _ (s : Stretch) (at : ℕ) (within : at < s.len) where
  whole : s.len ≡ at + (s.len - at)
  whole = omega arith

  parts_chars : chars_of s ≡ chars_of (first_part s at) ++ chars_of (second_part s at)
  parts_chars = ap (λ (n : ℕ). states_from s.from n s.prepared s.effect) whole ∙ states_from-+ s.from at (s.len - at) s.prepared s.effect

  pub first_chars : chars_of (first_part s at) ≡ take at (chars_of s)
  first_chars = sym (ap (take at) parts_chars ∙ take_at (chars_of (first_part s at)) (chars_of (second_part s at)) at (length-states_from s.from at s.prepared s.effect))

  pub second_chars : chars_of (second_part s at) ≡ drop at (chars_of s)
  second_chars = sym (ap (drop at) parts_chars ∙ drop_at (chars_of (first_part s at)) (chars_of (second_part s at)) at (length-states_from s.from at s.prepared s.effect))

  parts_sum : (b : Bool) → (if b then at else 0) + (if b then s.len - at else 0) ≡ (if b then s.len else 0)
  parts_sum true = sym whole
  parts_sum false = refl

  pub parts_known : known_of (first_part s at) + known_of (second_part s at) ≡ known_of s
  parts_known = parts_sum (nat_lt 0 s.prepared)

  pub parts_prepared : prepared_of (first_part s at) + prepared_of (second_part s at) ≡ prepared_of s
  parts_prepared = parts_sum (nat_eq s.prepared 1)

  pub parts_effect : effect_of (first_part s at) + effect_of (second_part s at) ≡ effect_of s
  parts_effect = parts_sum s.effect

  pub parts_back : joined_of (first_part s at) (second_part s at) ≡ s
  parts_back = ap (λ (n : ℕ). record { from = s.from; len = n; prepared = s.prepared; effect = s.effect }) (sym whole)

-- the next node is there, but for the root, which has none
next_there : (node : Node) (n many : ℕ) → HasNumbers node many → is_node_on node n (node_on node n) ≡ true
next_there Root n many h = absurd h
next_there (Base i) n many h = eq-eqb (i + n) (i + n) refl
next_there (Event i) n many h = eq-eqb (i + n) (i + n) refl

pub parts_continued : (s : Stretch) (at : ℕ) → HasNumbers s.from s.len → is_continued (first_part s at) (second_part s at) ≡ true
parts_continued s at h =
    and_from (nat_eq s.prepared s.prepared && same_bool s.effect s.effect) (is_node_on s.from at (node_on s.from at))
    (and_from (nat_eq s.prepared s.prepared) (same_bool s.effect s.effect) (eq-eqb s.prepared s.prepared refl) (same_bool_itself s.effect))
    (next_there s.from at s.len h)

-- the numbers of a part are numbers of the whole
pub fewer_numbers : (node : Node) (many few : ℕ) → few ≤ many → HasNumbers node many → HasNumbers node few
fewer_numbers Root many few le h = absurd h
fewer_numbers (Base i) many few le h = omega arith
fewer_numbers (Event i) many few le h = omega arith

pub further_numbers : (node : Node) (many at : ℕ) → at ≤ many → HasNumbers node many → HasNumbers (node_on node at) (many - at)
further_numbers Root many at le h = absurd h
further_numbers (Base i) many at le h = omega arith
further_numbers (Event i) many at le h = omega arith

-- and the numbers of both are those of the join
pub more_numbers : (node : Node) (many more : ℕ) → HasNumbers node many → HasNumbers (node_on node many) more → HasNumbers node (many + more)
more_numbers Root many more h k = absurd h
more_numbers (Base i) many more h k = omega arith
more_numbers (Event i) many more h k = omega arith
