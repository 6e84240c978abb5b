-- One record in the place of another, and counts of them.
use Rattle.std.proofs.Common.{◌≡◌, ℕ, suc, ◌+◌, ◌≤◌, Bool, true, false, cond, ◌||◌, List, [], ◌∷◌, ◌++◌, map, filter, length, take, drop, insert, Contains, if◌then◌else◌, refl, sym, ap, ◌∙◌, arith, length-append, take-append-drop}
use Rattle.std.specs.List.{list_any}
use Rattle.std.proofs.lemmas.Bool.{false≢true}
use Rattle.ew_model.specs.declared.node.Node.{Node}
use Rattle.walker_record.specs.Stretches.{Stretch}
use Rattle.order_tree.specs.Pairs.{IsRising, changed}
use Rattle.character_runs.specs.declared.change.Change.{Change}
use Rattle.character_runs.specs.States.{is_of, changed as after_change, changed_at}
use Rattle.character_runs.specs.Laid.{chars_in}
use Rattle.character_runs.specs.Replacing.{one_if, Replaces}
use Rattle.character_runs.proofs.Lists.{count}
use Rattle.character_runs.proofs.PartedRuns.{Parted, parted}
use Rattle.character_runs.proofs.ChangedPairs.{changed_is}
use Rattle.character_runs.proofs.AlteredChars.{one_record}
use Rattle.character_runs.proofs.RunChars.{chars-append}
use Rattle.ew_model.proofs.ListTests.{count-append}

-- a run of one character, for another
module _ (ps : List (ℕ × Stretch)) (rising : IsRising ps) (label : ℕ) (was : Stretch) (held : Contains ps (label, was)) (single : was.len ≡ 1) where
  abbrev at : Parted ps label was
  at = parted ps label was rising held

  pub single_chars : chars_in ps ≡ chars_in at.front ++ was ∷ chars_in at.back
  single_chars =
      ap chars_in at.is ∙ chars-append at.front (((label, was) ∷ []) ++ at.back)
      ∙ ap (λ (xs : List Stretch). chars_in at.front ++ (xs ++ chars_in at.back)) (one_record was single)

  pub replaced : (now : Stretch) → now.len ≡ 1 → Replaces (chars_in ps) (chars_in (changed ps label now)) was now
  replaced now alone = record {
    front = chars_in at.front;
    back = chars_in at.back;
    was = single_chars;
    now = ap chars_in (changed_is label now ps was at) ∙ chars-append at.front (((label, now) ∷ []) ++ at.back)
        ∙ ap (λ (xs : List Stretch). chars_in at.front ++ (xs ++ chars_in at.back)) (one_record now alone);
  }

-- where none is of the node, a change of it changes none
pub none_changed : (xs : List Stretch) (v : Node) (change : Change) → list_any (is_of v) xs ≡ false → map (changed_at v change) xs ≡ xs
none_changed [] v change none = refl
none_changed (x ∷ xs) v change none =
    let rest = none_changed xs v change (right (is_of v x) (list_any (is_of v) xs) none) in
    let here : changed_at v change x ≡ x = ap (λ (b : Bool). if b then after_change change x else x) (left (is_of v x) (list_any (is_of v) xs) none) in
    λ i. here i ∷ rest i
  where
    left : (a b : Bool) → (a || b) ≡ false → a ≡ false
    left true b e = absurd (false≢true (sym e))
    left false b e = refl

    right : (a b : Bool) → (a || b) ≡ false → b ≡ false
    right true b e = absurd (false≢true (sym e))
    right false b e = e

-- COUNTS
module _ (p : Stretch → Bool) where
  one_more : (x : Stretch) (xs : List Stretch) → count p (x ∷ xs) ≡ cond (p x) 1 0 + count p xs
  one_more x xs = by (p x)
    where
      by : (b : Bool) → length (cond b (x ∷ filter p xs) (filter p xs)) ≡ cond b 1 0 + count p xs
      by true = omega arith
      by false = omega arith

  around : (front back : List Stretch) (x : Stretch) → count p (front ++ x ∷ back) ≡ count p front + (cond (p x) 1 0 + count p back)
  around front back x = count-append p front (x ∷ back) ∙ ap (λ (n : ℕ). count p front + n) (one_more x back)

  pub count_replaced : (old new : List Stretch) (before after : Stretch) → Replaces old new before after → count p new + one_if (p before) ≡ count p old + one_if (p after)
  count_replaced old new before after r =
      let was = ap (count p) r.was ∙ around r.front r.back before in
      let now = ap (count p) r.now ∙ around r.front r.back after in
      omega (arith, was, now)

  pub count_there : (old new : List Stretch) (before after : Stretch) → Replaces old new before after → one_if (p before) ≤ count p old
  count_there old new before after r = let was = ap (count p) r.was ∙ around r.front r.back before in omega (arith, was)

  -- one that comes in counts where it passes
  pub count_inserted : (old : List Stretch) (index : ℕ) (x : Stretch) → p x ≡ true → count p (insert old index x) ≡ count p old + 1
  count_inserted old index x passes =
      let now = around (take index old) (drop index old) x in
      let was = ap (count p) (sym (take-append-drop index old)) ∙ count-append p (take index old) (drop index old) in
      let one : cond (p x) 1 0 ≡ 1 = ap one_if passes in
      omega (arith, now, was, one)

pub length_inserted : (old : List Stretch) (index : ℕ) (x : Stretch) → length (insert old index x) ≡ length old + 1
length_inserted old index x =
    let now = length-append (take index old) (x ∷ drop index old) in
    let more : length (x ∷ drop index old) ≡ suc (length (drop index old)) = refl in
    let was = ap length (sym (take-append-drop index old)) ∙ length-append (take index old) (drop index old) in
    omega (arith, now, more, was)
