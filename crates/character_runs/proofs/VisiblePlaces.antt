-- The visible character with an index, in a list of runs.
use Rattle.std.proofs.Common.{◌≡◌, ℕ, suc, ◌+◌, ◌<◌, ◌≤◌, Bool, true, false, cond, List, [], ◌∷◌, ◌++◌, Contains, map, filter, length, take, drop, Some, slice_get, nat_eq, inr, refl, sym, ap, ◌∙◌, arith}
use Rattle.std.proofs.lemmas.Bool.{eqb-true}
use Rattle.std.proofs.lemmas.List.{length-append}
use Rattle.std.proofs.lemmas.List.Elements.{filter-append}
use Rattle.ew_model.specs.declared.node.Node.{Node}
use Rattle.walker_record.specs.Stretches.{Stretch, node_on, states_from, prepared_of, effect_of}
use Rattle.order_tree.specs.Pairs.{IsRising, IsPlace, lower, greater, total}
use Rattle.order_tree.proofs.PairLaws.{total-append, total-cons}
use Rattle.character_runs.specs.States.{is_visible, visible_in, shown_in, deletion_by}
use Rattle.character_runs.specs.Laid.{record_of, records_of, chars_in}
use Rattle.character_runs.specs.Spots.{IsVisibleAt, IsLeft}
use Rattle.character_runs.proofs.PartedRuns.{Parted, parted, lower_is}
use Rattle.character_runs.proofs.RunChars.{one, counted_in, visible-chars, shown-chars, around, char_at, chars_before, chars_behind}
use Rattle.character_runs.proofs.CutPairs.{greater_is}

-- a place among what is counted: it is counted, and the place is in the run
counts_at : (b : Bool) (n place : ℕ) → place < cond b n 0 → b ≡ true
counts_at true n place lt = refl
counts_at false n place lt = absurd (omega (arith, lt))

within_at : (b : Bool) (n place : ℕ) → place < cond b n 0 → place < n
within_at true n place lt = lt
within_at false n place lt = absurd (omega (arith, lt))

module _ (ps : List (ℕ × Stretch)) (at label place : ℕ) (rising : IsRising ps) (is : IsPlace prepared_of ps at label place) where
  abbrev pub parts : Parted ps label is.run
  parts = parted ps label is.run rising is.held

  abbrev pub place_in : ℕ
  place_in = length (chars_in parts.front) + place

  one_is : nat_eq is.run.prepared 1 ≡ true
  one_is = counts_at (nat_eq is.run.prepared 1) is.run.len place is.inside

  pub inside_run : place < is.run.len
  inside_run = within_at (nat_eq is.run.prepared 1) is.run.len place is.inside

  abbrev ahead : List Stretch
  ahead = map record_of (states_from is.run.from place is.run.prepared is.run.effect)

  visible_ahead : length (filter is_visible ahead) ≡ place
  visible_ahead =
      counted_in is_visible (nat_eq is.run.prepared 1) is.run.prepared is.run.effect (λ v. refl) place is.run.from
      ∙ ap (λ (b : Bool). cond b place 0) one_is

  pub before : visible_in (take place_in (chars_in ps)) ≡ at
  before =
      ap (λ (qs : List (ℕ × Stretch)). visible_in (take place_in (chars_in qs))) parts.is
      ∙ ap visible_in (chars_before parts.front parts.back label is.run place inside_run)
      ∙ ap length (filter-append is_visible (chars_in parts.front) ahead)
      ∙ length-append (filter is_visible (chars_in parts.front)) (filter is_visible ahead)
      ∙ (λ i. visible-chars parts.front i + visible_ahead i)
      ∙ ap (λ (qs : List (ℕ × Stretch)). total prepared_of qs + place) (sym (lower_is ps label is.run parts))
      ∙ is.before

  abbrev pub there : Stretch
  there = one (node_on is.run.from place) is.run.prepared is.run.effect

  pub at_place : slice_get (chars_in ps) place_in ≡ Some there
  at_place = ap (λ (qs : List (ℕ × Stretch)). slice_get (chars_in qs) place_in) parts.is ∙ char_at parts.front parts.back label is.run place inside_run

  pub visible_there : is.run.prepared ≡ 1
  visible_there = eqb-true is.run.prepared 1 one_is

  abbrev pub visible_place : IsVisibleAt (chars_in ps) at place_in
  visible_place = (there, at_place, visible_there, before)

  -- it stands before the next index
  pub left_place : (v : Node) → v ≡ node_on is.run.from place → IsLeft (chars_in ps) (at + 1) (record { node = v; behind = suc place_in })
  left_place v node =
      let index : at + 1 ≡ suc (visible_in (take place_in (chars_in ps))) = omega (arith, before) in
      inr (place_in, there, at_place, visible_there, index, node, refl)

  -- what stands behind it
  pub behind_place : drop (suc place_in) (chars_in ps) ≡ drop (place + 1) (records_of is.run) ++ chars_in (greater ps label)
  behind_place =
      let next : suc place_in ≡ length (chars_in parts.front) + suc place = omega arith in
      let one_on : suc place ≡ place + 1 = omega arith in
      ap (λ (qs : List (ℕ × Stretch)). drop (suc place_in) (chars_in qs)) parts.is
      ∙ ap (λ n. drop n (chars_in (around parts.front parts.back label is.run))) next
      ∙ chars_behind parts.front parts.back label is.run place inside_run
      ∙ ap (λ n. drop n (records_of is.run) ++ chars_in parts.back) one_on
      ∙ ap (λ (qs : List (ℕ × Stretch)). drop (place + 1) (records_of is.run) ++ chars_in qs) (sym (greater_is ps label is.run parts))

  -- how many of the text stand before it
  pub shown_place : shown_in (take place_in (chars_in ps)) ≡ total effect_of (lower ps label) + cond is.run.effect place 0
  shown_place =
      ap (λ (qs : List (ℕ × Stretch)). shown_in (take place_in (chars_in qs))) parts.is
      ∙ ap shown_in (chars_before parts.front parts.back label is.run place inside_run)
      ∙ ap length (filter-append (λ (r : Stretch). r.effect) (chars_in parts.front) ahead)
      ∙ length-append (filter (λ (r : Stretch). r.effect) (chars_in parts.front)) (filter (λ (r : Stretch). r.effect) ahead)
      ∙ (λ i. shown-chars parts.front i + counted_in (λ (r : Stretch). r.effect) is.run.effect is.run.prepared is.run.effect (λ v. refl) place is.run.from i)
      ∙ ap (λ (qs : List (ℕ × Stretch)). total effect_of qs + cond is.run.effect place 0) (sym (lower_is ps label is.run parts))

-- a run and those before it count no more than all
pub run_below : (count : Stretch → ℕ) (ps : List (ℕ × Stretch)) (label : ℕ) (run : Stretch) → IsRising ps → Contains ps (label, run) → total count (lower ps label) + count run ≤ total count ps
run_below count ps label run rising held =
    let p = parted ps label run rising held in
    let all = ap (total count) p.is ∙ total-append count p.front (((label, run) ∷ []) ++ p.back) ∙ ap (λ (k : ℕ). total count p.front + k) (total-cons count (label, run) p.back) in
    let low = ap (total count) (lower_is ps label run p) in
    omega (arith, all, low)

-- so many of the text stand before a character of it
pub shown_below : (ps : List (ℕ × Stretch)) (label n : ℕ) (run : Stretch) → IsRising ps → Contains ps (label, run) → run.effect ≡ true → n < run.len
    → total effect_of (lower ps label) + n < total effect_of ps
shown_below ps label n run rising held shown lt =
    let most = run_below effect_of ps label run rising held in
    let own : effect_of run ≡ run.len = ap (λ (b : Bool). cond b run.len 0) shown in
    omega (arith, most, own, lt)

-- what a deletion of it does
pub deletion_is : (b : Bool) (n place : ℕ) → deletion_by b (n + place) ≡ deletion_by b (n + cond b place 0)
deletion_is true n place = refl
deletion_is false n place = refl
