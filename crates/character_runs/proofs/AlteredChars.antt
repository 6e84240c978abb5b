-- Characters after those of a run got other states.
use Rattle.std.proofs.Common.{◌≡◌, ℕ, zero, suc, ◌+◌, ◌<◌, ◌≤◌, ◌^◌, Bool, true, false, List, [], ◌∷◌, ◌++◌, map, length, Contains, if◌then◌else◌, nat_eq, nat_lt, refl, sym, ap, ◌∙◌, subst, arith}
use Rattle.std.specs.List.{AllByRecursion}
use Rattle.std.proofs.lemmas.List.{length-append, map-append}
use Rattle.std.proofs.lemmas.List.Elements.{All-contains, Contains-append_left, Contains-append_right}
use Rattle.ew_model.specs.declared.node.Node.{Node}
use Rattle.walker_record.specs.Stretches.{Stretch, node_on, states_from, known_of, prepared_of, effect_of}
use Rattle.order_tree.specs.Pairs.{IsRising, total, changed as with_run}
use Rattle.order_tree.proofs.PairLaws.{total-cons, total-append}
use Rattle.character_runs.specs.declared.change.Change.{Change}
use Rattle.character_runs.specs.declared.change.Change.TheVariants.{Raise, Lower, Strike}
use Rattle.character_runs.specs.declared.labels.Labels.{Labels}
use Rattle.character_runs.specs.States.{changed}
use Rattle.character_runs.specs.Laid.{AreLabelled, record_of, records_of, chars_in}
use Rattle.character_runs.specs.Replacing.{AreNodesOf, Recounted, changed_among}
use Rattle.character_runs.proofs.Changing.{change_from, change_len}
use Rattle.character_runs.proofs.Moves.{is_first}
use Rattle.character_runs.proofs.PartedRuns.{Parted, parted}
use Rattle.character_runs.proofs.Places.{one_label, on_on}
use Rattle.character_runs.proofs.ChangedPairs.{changed_is}
use Rattle.character_runs.proofs.RunChars.{one, node_on_none, length-records_of, chars-append, visible-chars, shown-chars}

-- a run of one character is its character's record
pub one_record : (r : Stretch) → r.len ≡ 1 → records_of r ≡ r ∷ []
one_record r e =
    ap (λ (n : ℕ). map record_of (states_from r.from n r.prepared r.effect)) e
    ∙ ap (λ (n : ℕ). record { from = r.from; len = n; prepared = r.prepared; effect = r.effect } ∷ []) (sym e)

next_to : (k : ℕ) → 1 + k ≡ suc k
next_to k = omega arith

-- each character of a run changes as the run does
changed_one : (change : Change) (r : Stretch) (v : Node) → changed change (one v r.prepared r.effect) ≡ one v (changed change r).prepared (changed change r).effect
changed_one Raise r v = refl
changed_one Lower r v = refl
changed_one Strike r v = refl

module _ (among : Node → Bool) (change : Change) where
  abbrev pick : Stretch → Stretch
  pick r = changed_among among change r

  -- none of these, and all of these
  others_in : (n : ℕ) (w : Node) (p : ℕ) (e : Bool) → ((k : ℕ) → k < n → among (node_on w k) ≡ false) → map pick (map record_of (states_from w n p e)) ≡ map record_of (states_from w n p e)
  others_in zero w p e none = refl
  others_in (suc n) w p e none =
      let other : among w ≡ false = ap among (sym (node_on_none w)) ∙ none 0 (omega arith) in
      let first : pick (one w p e) ≡ one w p e = ap (λ (b : Bool). if b then changed change (one w p e) else one w p e) other in
      let rest = others_in n (node_on w 1) p e (λ k lt. ap among (on_on w 1 k ∙ ap (node_on w) (next_to k)) ∙ none (suc k) (omega (arith, lt))) in
      λ i. first i ∷ rest i

  own_in : (n : ℕ) (w : Node) (p q : ℕ) (e f : Bool) → ((v : Node) → changed change (one v p e) ≡ one v q f) → ((k : ℕ) → k < n → among (node_on w k) ≡ true)
      → map pick (map record_of (states_from w n p e)) ≡ map record_of (states_from w n q f)
  own_in zero w p q e f now all = refl
  own_in (suc n) w p q e f now all =
      let here : among w ≡ true = ap among (sym (node_on_none w)) ∙ all 0 (omega arith) in
      let first : pick (one w p e) ≡ one w q f = ap (λ (b : Bool). if b then changed change (one w p e) else one w p e) here ∙ now w in
      let rest = own_in n (node_on w 1) p q e f now (λ k lt. ap among (on_on w 1 k ∙ ap (node_on w) (next_to k)) ∙ all (suc k) (omega (arith, lt))) in
      λ i. first i ∷ rest i

module _ (ps : List (ℕ × Stretch)) (t : Labels) (laid : AreLabelled ps t) (rising : IsRising ps) (label : ℕ) (was : Stretch) (held : Contains ps (label, was))
    (change : Change) (among : Node → Bool) (nodes : AreNodesOf was among) where
  abbrev now : Stretch
  now = changed change was

  abbrev IsOther : ℕ → Stretch → Type 0
  IsOther l r = Contains ps (l, r) × (l ≡ label → ⊥)

  -- the characters of another run
  other_run : (l : ℕ) (r : Stretch) → IsOther l r → map (pick among change) (records_of r) ≡ records_of r
  other_run l r o =
      others_in among change r.len r.from r.prepared r.effect (λ k lt. nodes.outside (node_on r.from k) (λ n inside e.
      o.1 (one_label ps t laid (node_on r.from k) l label k n (record { run = r; held = o.0; inside = lt; node = refl }) (record { run = was; held = held; inside = inside; node = e }))))

  others : (qs : List (ℕ × Stretch)) → ((l : ℕ) (r : Stretch) → Contains qs (l, r) → IsOther l r) → map (pick among change) (chars_in qs) ≡ chars_in qs
  others [] h = refl
  others (p ∷ qs) h =
      let first = other_run p.0 p.1 (h p.0 p.1 (is_first p qs)) in
      let rest = others qs (λ l r c. h l r (Contains-append_right (p ∷ []) qs (l, r) c)) in
      map-append (pick among change) (records_of p.1) (chars_in qs) ∙ (λ i. first i ++ rest i)

  at : Parted ps label was
  at = parted ps label was rising held

  in_front : (l : ℕ) (r : Stretch) → Contains at.front (l, r) → IsOther l r
  in_front l r c =
      let low = All-contains (λ p. p.0 < label) at.front (l, r) at.below c in
      (subst (λ (xs : List (ℕ × Stretch)). Contains xs (l, r)) (sym at.is) (Contains-append_left at.front (((label, was) ∷ []) ++ at.back) (l, r) c), λ e. omega (arith, low, e))

  in_back : (l : ℕ) (r : Stretch) → Contains at.back (l, r) → IsOther l r
  in_back l r c =
      let high = All-contains (λ p. label < p.0) at.back (l, r) at.above c in (
        subst (λ (xs : List (ℕ × Stretch)). Contains xs (l, r)) (sym at.is)
            (Contains-append_right at.front (((label, was) ∷ []) ++ at.back) (l, r) (Contains-append_right ((label, was) ∷ []) at.back (l, r) c)),
        λ e. omega (arith, high, e),
      )

  own : map (pick among change) (records_of was) ≡ records_of now
  own =
      own_in among change was.len was.from was.prepared now.prepared was.effect now.effect (changed_one change was) nodes.inside
      ∙ (λ i. map record_of (states_from (sym (change_from change was) i) (sym (change_len change was) i) now.prepared now.effect))

  pub altered : chars_in (with_run ps label now) ≡ map (pick among change) (chars_in ps)
  altered =
      ap chars_in (changed_is label now ps was at) ∙ chars-append at.front (((label, now) ∷ []) ++ at.back)
      ∙ sym (ap (λ (xs : List (ℕ × Stretch)). map (pick among change) (chars_in xs)) at.is ∙ ap (map (pick among change)) (chars-append at.front (((label, was) ∷ []) ++ at.back))
      ∙ map-append (pick among change) (chars_in at.front) (records_of was ++ chars_in at.back)
      ∙ (λ i. others at.front in_front i ++ (map-append (pick among change) (records_of was) (chars_in at.back) ∙ (λ j. own j ++ others at.back in_back j)) i))

-- SUMS
total_most : (count : Stretch → ℕ) → ((r : Stretch) → count r ≤ r.len) → (ps : List (ℕ × Stretch)) → total count ps ≤ length (chars_in ps)
total_most count most [] = omega arith
total_most count most (p ∷ ps) =
    let rest = total_most count most ps in
    let one = most p.1 in
    let sum = total-cons count p ps in
    let long = length-append (records_of p.1) (chars_in ps) in
    let own = length-records_of p.1 in
    omega (arith, rest, one, sum, long, own)

pub long_total : (ps : List (ℕ × Stretch)) → length (chars_in ps) ≡ total (λ (r : Stretch). r.len) ps
long_total [] = refl
long_total (p ∷ ps) =
    let rest = long_total ps in
    let sum = total-cons (λ (r : Stretch). r.len) p ps in
    let long = length-append (records_of p.1) (chars_in ps) in
    let own = length-records_of p.1 in
    omega (arith, rest, sum, long, own)

some_or_none : (b : Bool) (n : ℕ) → (if b then n else 0) ≤ n
some_or_none true n = omega arith
some_or_none false n = omega arith

pub effect_most : (ps : List (ℕ × Stretch)) → total effect_of ps ≤ length (chars_in ps)
effect_most ps = total_most effect_of (λ r. some_or_none r.effect r.len) ps

-- the sums of few characters fit
pub sums_fit : (ps : List (ℕ × Stretch)) → length (chars_in ps) < 2 ^ 32 → (total known_of ps < 2 ^ 32) × (total prepared_of ps < 2 ^ 32) × (total effect_of ps < 2 ^ 32)
sums_fit ps few =
    let known = total_most known_of (λ r. some_or_none (nat_lt 0 r.prepared) r.len) ps in
    let prepared = total_most prepared_of (λ r. some_or_none (nat_eq r.prepared 1) r.len) ps in
    let effect = total_most effect_of (λ r. some_or_none r.effect r.len) ps in
    (omega (arith, known, few), omega (arith, prepared, few), omega (arith, effect, few))

-- COUNTS
module _ (ps : List (ℕ × Stretch)) (rising : IsRising ps) (label : ℕ) (was now : Stretch) (held : Contains ps (label, was)) where
  with_total : (count : Stretch → ℕ) → (total count (with_run ps label now) + count was ≡ total count ps + count now) × (count was ≤ total count ps)
  with_total count =
      let at = parted ps label was rising held in
      let before = ap (total count) at.is ∙ total-append count at.front (((label, was) ∷ []) ++ at.back) in
      let after = ap (total count) (changed_is label now ps was at) ∙ total-append count at.front (((label, now) ∷ []) ++ at.back) in
      let one = total-cons count (label, was) at.back in
      let other = total-cons count (label, now) at.back in
      (omega (arith, before, after, one, other), omega (arith, before, one))

  pub altered_long : length (chars_in (with_run ps label now)) + was.len ≡ length (chars_in ps) + now.len
  altered_long =
      let sum = (with_total (λ (r : Stretch). r.len)).0 in
      let before = long_total ps in
      let after = long_total (with_run ps label now) in
      omega (arith, sum, before, after)

  pub same_long : now.len ≡ was.len → length (chars_in (with_run ps label now)) ≡ length (chars_in ps)
  same_long len = let sum = altered_long in omega (arith, sum, len)

  pub recounted : now.len ≡ was.len → Recounted (chars_in ps) (chars_in (with_run ps label now)) (record { before = was; after = now })
  recounted len =
      let qs = with_run ps label now in
      let visible = with_total prepared_of in
      let shown = with_total effect_of in
      let first = visible-chars ps in
      let second = visible-chars qs in
      let third = shown-chars ps in
      let fourth = shown-chars qs in
      record {
        visible = let is = visible.0 in omega (arith, is, first, second);
        visible_there = let le = visible.1 in omega (arith, le, first);
        shown = let is = shown.0 in omega (arith, is, third, fourth);
        shown_there = let le = shown.1 in omega (arith, le, third);
        long = same_long len;
      }

-- what all characters keep to, those of a run do
module _ (P : Stretch → Type 0) where
  all_behind : (xs ys : List Stretch) → AllByRecursion P (xs ++ ys) → AllByRecursion P ys
  all_behind [] ys h = h
  all_behind (x ∷ xs) ys h = all_behind xs ys h.1

  first_keeps : (n : ℕ) (w : Node) (p : ℕ) (e : Bool) (ys : List Stretch) → 0 < n → AllByRecursion P (map record_of (states_from w n p e) ++ ys) → P (one w p e)
  first_keeps zero w p e ys some h = absurd (omega (arith, some))
  first_keeps (suc n) w p e ys some h = h.0

  pub run_keeps : (ps : List (ℕ × Stretch)) → IsRising ps → (label : ℕ) (was : Stretch) → Contains ps (label, was) → 0 < was.len → AllByRecursion P (chars_in ps) → P (one was.from was.prepared was.effect)
  run_keeps ps rising label was held some all =
      let at = parted ps label was rising held in
      let apart = ap chars_in at.is ∙ chars-append at.front (((label, was) ∷ []) ++ at.back) in
      first_keeps was.len was.from was.prepared was.effect (chars_in at.back) some
      (all_behind (chars_in at.front) (records_of was ++ chars_in at.back) (subst (λ (xs : List Stretch). AllByRecursion P xs) apart all))
