-- Heads found by halving.
use Rattle.std.proofs.Common.{◌≡◌, ℕ, ◌-◌, ◌<◌, ◌≤◌, ⊎_elim, List, length, get_or, sym, ap, ◌∙◌, subst, arith}
use Rattle.std.specs.List.{AllWithin}
use Rattle.std.specs.List.Sorted.{IsNonDecreasingBy}
use Rattle.std.proofs.lemmas.Bool.{cases_eq, cases_lt, cases_order}
use Rattle.std.proofs.lemmas.List.{get_or_default}
use Rattle.fugue_place.specs.declared.child.Side.{Side}
use Rattle.fugue_place.specs.declared.child.Side.TheVariants.{Left, Right}
use Rattle.fugue_place.specs.declared.ways.Ways.{Ways}
use Rattle.fugue_place.specs.Ways.{head_at, next_head, stop_on, AreInOrder, IsSound, IsInRun, IsInNoRun}
use Rattle.fugue_place.proofs.HeadLaws.{next_ahead, next_point}

module _ (heads : List ℕ) (order : AreInOrder heads) where
  rise : (i j : ℕ) → i ≤ j → j < length heads → get_or heads i 0 ≤ get_or heads j 0
  rise i j le low =
      ⊎_elim
      (λ (same : i ≡ j). let is = ap (λ (k : ℕ). get_or heads k 0) same in omega (arith, is))
      (λ r. ⊎_elim (λ (lt : i < j). let up = order i j lt low in omega (arith, up)) (λ (high : j < i). absurd (omega (arith, high, le))) r)
      (cases_order i j)

  pub heads_sorted : IsNonDecreasingBy (λ (h : ℕ). h) heads
  heads_sorted i j d le low =
      let first = get_or_default heads i d 0 (omega (arith, le, low)) in
      let second = get_or_default heads j d 0 low in
      let up = rise i j le low in
      omega (arith, first, second, up)

  module _ (n at to : ℕ) (low : at < n) (bound : to ≤ length heads) (early : AllWithin (λ (h : ℕ). h ≤ at) heads 0 to) (late : AllWithin (λ (h : ℕ). at < h) heads to (length heads)) where
    first_late : to < length heads → at < get_or heads to 0
    first_late lt = late to 0 (omega arith) lt

    all_early : (r : ℕ) → r < to → get_or heads r 0 ≤ at
    all_early r lt = early r 0 (omega arith) lt

    -- the first head behind a place
    pub next_found : next_head heads n at ≡ get_or heads to n
    next_found = next_point heads n at to (λ r lt within. all_early r lt) first_late

    module _ (some : to ≡ 0 → ⊥) where
      abbrev run : ℕ
      run = to - 1

      run_low : run < to
      run_low = ⊎_elim (λ (none : to ≡ 0). absurd (some none)) (λ apart. omega arith) (cases_eq to 0)

      pub run_known : run < length heads
      run_known = let lt = run_low in omega (arith, lt, bound)

      pub run_from : get_or heads run 0 ≤ at
      run_from = all_early run run_low

      -- it goes on to that one
      next_of_run : next_head heads n (get_or heads run 0) ≡ get_or heads to n
      next_of_run =
          let lt = run_low in
          let from = run_from in
          next_point heads n (get_or heads run 0) to (λ r le within. rise r run (omega (arith, le, lt)) run_known) (λ more. let up = first_late more in omega (arith, from, up))

      run_to : at < next_head heads n (get_or heads run 0)
      run_to = subst (λ (x : ℕ). at < x) (next_found ∙ sym next_of_run) (next_ahead heads n at low)

      pub run_on_right : at < stop_on Right heads n (get_or heads run 0)
      run_on_right = run_to

      -- on the left it's the place itself, or none
      pub run_on_left : get_or heads run 0 ≡ at → at < stop_on Left heads n (get_or heads run 0)
      run_on_left is = omega (arith, is)

      pub none_on_left : (get_or heads run 0 ≡ at → ⊥) → (r : ℕ) → r < length heads → get_or heads r 0 ≤ at → at < stop_on Left heads n (get_or heads r 0) → ⊥
      none_on_left apart r known from to_it =
          ⊎_elim
          (λ (before : r < to).
          let lt = run_low in
          let up = rise r run (omega (arith, before)) run_known in
          let last = run_from in
          apart (omega (arith, from, to_it, up, last)))
          (λ (past : to ≤ r). let up = late r 0 past known in omega (arith, from, up))
          (cases_lt r to)

    -- there's no head up to the place
    pub none_found : to ≡ 0 → (r : ℕ) → r < length heads → get_or heads r 0 ≤ at → ⊥
    none_found none r known from = let up = late r 0 (omega (arith, none)) known in omega (arith, from, up)

-- what a search in the places of the heads tells of ways
module _ (w : Ways) (sound : IsSound w) (seen : List ℕ) (same : seen ≡ w.heads.items) (at to : ℕ) (low : at < w.count) (bound : to ≤ length seen)
    (early : AllWithin (λ (h : ℕ). h ≤ at) seen 0 to) (late : AllWithin (λ (h : ℕ). at < h) seen to (length seen)) where
  abbrev heads : List ℕ
  heads = w.heads.items

  within : to ≤ length heads
  within = subst (λ (xs : List ℕ). to ≤ length xs) same bound

  before : AllWithin (λ (h : ℕ). h ≤ at) heads 0 to
  before = subst (λ (xs : List ℕ). AllWithin (λ (h : ℕ). h ≤ at) xs 0 to) same early

  behind : AllWithin (λ (h : ℕ). at < h) heads to (length heads)
  behind = subst (λ (xs : List ℕ). AllWithin (λ (h : ℕ). at < h) xs to (length xs)) same late

  pub found_next : next_head heads w.count at ≡ get_or heads to w.count
  found_next = next_found heads sound.rising w.count at to low within before behind

  pub found_none : to ≡ 0 → IsInNoRun w at
  found_none none r run = none_found heads sound.rising w.count at to low within before behind none r run.known run.from

  module _ (some : to ≡ 0 → ⊥) where
    pub found_known : to - 1 < length heads
    found_known = run_known heads sound.rising w.count at to low within before behind some

    found_from : head_at w (to - 1) ≤ at
    found_from = run_from heads sound.rising w.count at to low within before behind some

    pub found_right : w.end ≡ Right → IsInRun w at (to - 1)
    found_right e = record {
      known = found_known;
      from = found_from;
      to = subst (λ (s : Side). at < stop_on s heads w.count (head_at w (to - 1))) (sym e) (run_on_right heads sound.rising w.count at to low within before behind some);
    }

    pub found_left : w.end ≡ Left → head_at w (to - 1) ≡ at → IsInRun w at (to - 1)
    found_left e is = record {
      known = found_known;
      from = found_from;
      to = subst (λ (s : Side). at < stop_on s heads w.count (head_at w (to - 1))) (sym e) (run_on_left heads sound.rising w.count at to low within before behind some is);
    }

    pub found_not : w.end ≡ Left → (head_at w (to - 1) ≡ at → ⊥) → IsInNoRun w at
    found_not e apart r run =
        none_on_left heads sound.rising w.count at to low within before behind some apart r run.known run.from (subst (λ (s : Side). at < stop_on s heads w.count (head_at w r)) e run.to)
