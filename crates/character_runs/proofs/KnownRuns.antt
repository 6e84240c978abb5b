-- The first inserted character of runs, and that behind a character of one.
use Rattle.std.proofs.Common.{◌≡◌, ℕ, zero, suc, ◌+◌, ◌<◌, ◌≤◌, Bool, true, false, ◌&&◌, cond, ◌-◌, List, [], ◌∷◌, ◌++◌, map, filter, drop, Option, Some, None, Contains, length, slice_index_or, nat_lt, refl, sym, ap, ◌∙◌, arith}
use Rattle.std.proofs.lemmas.Bool.{lt-ltb, le-ltb}
use Rattle.std.proofs.lemmas.List.Elements.{Contains-append_right}
use Rattle.ew_model.specs.declared.node.Node.{Node}
use Rattle.walker_record.specs.Stretches.{Stretch, node_on, states_from, known_of}
use Rattle.order_tree.specs.Pairs.{IsRising, greater, labels, runs, first_label, counted_after}
use Rattle.character_runs.specs.Laid.{record_of, records_of, chars_in}
use Rattle.character_runs.specs.Spots.{first_known}
use Rattle.character_runs.proofs.PartedRuns.{same_run}
use Rattle.character_runs.proofs.RunChars.{dropped_in}

-- the first of a run's characters is inserted, or none of them
first_in : (b : Bool) (prepared : ℕ) (effect : Bool) → nat_lt 0 prepared ≡ b → (n : ℕ) (v : Node) (rs : List Stretch)
    → first_known (map record_of (states_from v n prepared effect) ++ rs) ≡ cond (nat_lt 0 (cond b n 0)) (Some v) (first_known rs)
first_in true p e is zero v rs = refl
first_in false p e is zero v rs = refl
first_in true p e is (suc n) v rs = let some : nat_lt 0 (suc n) ≡ true = lt-ltb 0 (suc n) (omega arith) in rw is (rw some refl)
first_in false p e is (suc n) v rs = rw is (first_in false p e is n (node_on v 1) rs)

first_of_run : (r : Stretch) (rs : List Stretch) → first_known (records_of r ++ rs) ≡ cond (nat_lt 0 (known_of r)) (Some r.from) (first_known rs)
first_of_run r rs = first_in (nat_lt 0 r.prepared) r.prepared r.effect refl r.len r.from rs

-- the first node of the first run
abbrev from_of : List (ℕ × Stretch) → Option Node
from_of [] = None
from_of (p ∷ ps) = Some p.1.from

first_after : (ps : List (ℕ × Stretch)) (label : ℕ) → first_known (chars_in (greater ps label)) ≡ from_of (counted_after known_of ps label)
first_after [] label = refl
first_after (p ∷ ps) label = by_label (first_after ps label) (nat_lt label p.0)
  where
    by_known : (first_known (chars_in (greater ps label)) ≡ from_of (counted_after known_of ps label)) → (b : Bool) → cond b (Some p.1.from) (first_known (chars_in (greater ps label))) ≡ from_of (cond b (p ∷ counted_after known_of ps label) (counted_after known_of ps label))
    by_known rest true = refl
    by_known rest false = rest

    by_label : (first_known (chars_in (greater ps label)) ≡ from_of (counted_after known_of ps label)) → (b : Bool) → first_known (chars_in (cond b (p ∷ greater ps label) (greater ps label))) ≡ from_of (cond (b && nat_lt 0 (known_of p.1)) (p ∷ counted_after known_of ps label) (counted_after known_of ps label))
    by_label rest true = first_of_run p.1 (chars_in (greater ps label)) ∙ by_known rest (nat_lt 0 (known_of p.1))
    by_label rest false = rest

-- what a filter keeps was there
module _ {X : Type 0} where
  kept_head : (p : X → Bool) (xs : List X) (y : X) (ys : List X) → filter p xs ≡ y ∷ ys → Contains xs y
  kept_head p [] y ys e = absurd (cc)
  kept_head p (x ∷ xs) y ys e = by_kept (λ h. kept_head p xs y ys h) (p x) e
    where
      by_kept : (filter p xs ≡ y ∷ ys → Contains xs y) → (b : Bool) → cond b (x ∷ filter p xs) (filter p xs) ≡ y ∷ ys → Contains (x ∷ xs) y
      by_kept rest true h = let same : x ≡ y = cc in (0, omega arith, same)
      by_kept rest false h = Contains-append_right (x ∷ []) xs y (rest h)

pub none_known : (ps : List (ℕ × Stretch)) (label : ℕ) → first_label (counted_after known_of ps label) ≡ None → first_known (chars_in (greater ps label)) ≡ None
none_known ps label e = first_after ps label ∙ at (counted_after known_of ps label) e
  where
    at : (qs : List (ℕ × Stretch)) → first_label qs ≡ None → from_of qs ≡ None
    at [] h = refl
    at (q ∷ qs) h = absurd (cc)

-- the label of the next known run is that of a run
pub next_held : (ps : List (ℕ × Stretch)) (label next : ℕ) → first_label (counted_after known_of ps label) ≡ Some next → (r : Stretch) × Contains ps (next, r) × (first_known (chars_in (greater ps label)) ≡ Some r.from)
next_held ps label next e = at (counted_after known_of ps label) refl e
  where
    at : (qs : List (ℕ × Stretch)) → counted_after known_of ps label ≡ qs → first_label qs ≡ Some next → (r : Stretch) × Contains ps (next, r) × (first_known (chars_in (greater ps label)) ≡ Some r.from)
    at [] is h = absurd (cc)
    at (q ∷ qs) is h =
        let same : q.0 ≡ next = cc in
        (q.1, subst_label q next same (kept_head (λ p. nat_lt label p.0 && nat_lt 0 (known_of p.1)) ps q qs is), first_after ps label ∙ ap from_of is)
      where
        subst_label : (q : ℕ × Stretch) (n : ℕ) → q.0 ≡ n → Contains ps q → Contains ps (n, q.1)
        subst_label q n e h = rw (sym e) h

pub next_known_is : (ps : List (ℕ × Stretch)) (label next : ℕ) (r : Stretch) → IsRising ps → first_label (counted_after known_of ps label) ≡ Some next → Contains ps (next, r) → Some r.from ≡ first_known (chars_in (greater ps label))
next_known_is ps label next r rising e held =
    let found = next_held ps label next e in
    ap (λ (s : Stretch). Some s.from) (same_run ps next r found.0 rising held found.1) ∙ sym found.2

pub held_label : (ps : List (ℕ × Stretch)) (n : ℕ) (r : Stretch) → Contains ps (n, r) → Contains (labels ps) n
held_label ps n r h = at ps h.0 h.1 h.2
  where
    at : (qs : List (ℕ × Stretch)) (k : ℕ) → k < length qs → slice_index_or qs k (n, r) ≡ (n, r) → Contains (labels qs) n
    at [] k lt e = absurd (omega (arith, lt))
    at (q ∷ qs) zero lt e = (0, omega arith, ap (λ (p : ℕ × Stretch). p.0) e)
    at (q ∷ qs) (suc k) lt e = Contains-append_right (q.0 ∷ []) (labels qs) n (at qs k (omega (arith, lt)) e)

-- each run stands at a label
pub label_of_run : (ps : List (ℕ × Stretch)) (r : Stretch) → Contains (runs ps) r → (label : ℕ) × Contains ps (label, r)
label_of_run ps r h = at ps h.0 h.1 h.2
  where
    at : (qs : List (ℕ × Stretch)) (k : ℕ) → k < length (runs qs) → slice_index_or (runs qs) k r ≡ r → (label : ℕ) × Contains qs (label, r)
    at [] k lt e = absurd (omega (arith, lt))
    at (q ∷ qs) zero lt e = (q.0, (0, omega arith, ap (λ (s : Stretch). (q.0, s)) e))
    at (q ∷ qs) (suc k) lt e = let rest = at qs k (omega (arith, lt)) e in (rest.0, Contains-append_right (q ∷ []) qs (rest.0, r) rest.1)

-- BEHIND A CHARACTER OF A RUN
behind : (r : Stretch) (k : ℕ) (rs : List Stretch) → k ≤ r.len
    → first_known (drop k (records_of r) ++ rs) ≡ cond (nat_lt 0 (cond (nat_lt 0 r.prepared) (r.len - k) 0)) (Some (node_on r.from k)) (first_known rs)
behind r k rs le =
    let all : k + (r.len - k) ≡ r.len = omega (arith, le) in
    let parts : drop k (records_of r) ≡ map record_of (states_from (node_on r.from k) (r.len - k) r.prepared r.effect) =
    ap (λ (n : ℕ). drop k (map record_of (states_from r.from n r.prepared r.effect))) (sym all) ∙ dropped_in (r.len - k) k r.from r.prepared r.effect in
    ap (λ (xs : List Stretch). first_known (xs ++ rs)) parts ∙ first_in (nat_lt 0 r.prepared) r.prepared r.effect refl (r.len - k) (node_on r.from k) rs

pub behind_known : (r : Stretch) (k : ℕ) (rs : List Stretch) → 0 < r.prepared → k < r.len → first_known (drop k (records_of r) ++ rs) ≡ Some (node_on r.from k)
behind_known r k rs known lt =
    let p : nat_lt 0 r.prepared ≡ true = lt-ltb 0 r.prepared known in
    let q : nat_lt 0 (r.len - k) ≡ true = lt-ltb 0 (r.len - k) (omega (arith, lt)) in
    behind r k rs (omega (arith, lt)) ∙ ap (λ (b : Bool). cond (nat_lt 0 (cond b (r.len - k) 0)) (Some (node_on r.from k)) (first_known rs)) p
    ∙ ap (λ (b : Bool). cond b (Some (node_on r.from k)) (first_known rs)) q

pub behind_unknown : (r : Stretch) (k : ℕ) (rs : List Stretch) → r.prepared ≤ 0 → k ≤ r.len → first_known (drop k (records_of r) ++ rs) ≡ first_known rs
behind_unknown r k rs none le =
    let p : nat_lt 0 r.prepared ≡ false = le-ltb 0 r.prepared none in
    behind r k rs le ∙ ap (λ (b : Bool). cond (nat_lt 0 (cond b (r.len - k) 0)) (Some (node_on r.from k)) (first_known rs)) p

pub behind_end : (r : Stretch) (k : ℕ) (rs : List Stretch) → r.len ≤ k → k ≤ r.len → first_known (drop k (records_of r) ++ rs) ≡ first_known rs
behind_end r k rs end le = behind r k rs le ∙ at (nat_lt 0 r.prepared)
  where
    at : (b : Bool) → cond (nat_lt 0 (cond b (r.len - k) 0)) (Some (node_on r.from k)) (first_known rs) ≡ first_known rs
    at true = let q : nat_lt 0 (r.len - k) ≡ false = le-ltb 0 (r.len - k) (omega (arith, end)) in ap (λ (b : Bool). cond b (Some (node_on r.from k)) (first_known rs)) q
    at false = refl
