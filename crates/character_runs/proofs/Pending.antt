-- Runs to which the cursor's own, and what was deleted from its end, are still to be told, and characters found among them.
use Rattle.std.proofs.Common.{◌≡◌, ℕ, zero, suc, ◌+◌, ◌<◌, ◌≤◌, ◌^◌, List, [], ◌∷◌, length, Contains, Option, Some, slice_index_or, sym, ap, subst, arith}
use Rattle.std.proofs.lemmas.List.Elements.{Contains-append_right}
use Rattle.walker_record.specs.Stretches.{Stretch, effect_of}
use Rattle.order_tree.specs.Pairs.{IsRising, labels, lower, total, changed}
use Rattle.character_runs.specs.declared.cursor.Cursor.{Cursor}
use Rattle.character_runs.specs.declared.cursor.Struck.{Struck}
use Rattle.character_runs.specs.Cursors.{StandsBehind, IsCursor, settled}
use Rattle.character_runs.specs.Laid.{chars_in}
use Rattle.character_runs.proofs.AlteredChars.{altered_long, effect_most, long_total}
use Rattle.character_runs.proofs.Settled.{behind_held, changed_labels, settled_label, settled_rising}
use Rattle.character_runs.proofs.VisiblePlaces.{run_below}

-- a run stands at each label
label_held : (ps : List (ℕ × Stretch)) (label : ℕ) → Contains (labels ps) label → (r : Stretch) × Contains ps (label, r)
label_held ps label h = at ps h.0 h.1 h.2
  where
    at : (qs : List (ℕ × Stretch)) (k : ℕ) → k < length (labels qs) → slice_index_or (labels qs) k label ≡ label → (r : Stretch) × Contains qs (label, r)
    at [] k lt e = absurd (omega (arith, lt))
    at (q ∷ qs) zero lt e = (q.1, (0, omega arith, ap (λ (n : ℕ). (n, q.1)) e))
    at (q ∷ qs) (suc k) lt e = let rest = at qs k (omega (arith, lt)) e in (rest.0, Contains-append_right (q ∷ []) qs (label, rest.0) rest.1)

module _ (ps : List (ℕ × Stretch)) (rising : IsRising ps) (c : Cursor) (at : IsCursor (settled ps (Some c)) c) where
  pub own_label : Contains (labels ps) c.label
  own_label = settled_label ps c c.label c.run at.held

  module _ (s : Struck) (is : c.struck ≡ Some s) where
    held : Contains (settled ps (Some c)) (s.label, s.run)
    held = behind_held c.label c.run (settled ps (Some c)) s (subst (λ (o : Option Struck). StandsBehind (settled ps (Some c)) c.label c.run o) is at.behind)

    pub struck_label : Contains (labels ps) s.label
    struck_label = settled_label ps c s.label s.run held

    pub still_label : Contains (labels (changed ps s.label s.run)) c.label
    still_label = subst (λ (ns : List ℕ). Contains ns c.label) (sym (changed_labels s.label s.run ps)) own_label

    -- what was deleted has at most as many characters as all settled runs
    pub struck_few : length (chars_in (settled ps (Some c))) ≤ 2 ^ 25 → length (chars_in ps) ≤ 2 ^ 25 → length (chars_in (changed ps s.label s.run)) < 2 ^ 32
    struck_few few own =
        let was = label_held ps s.label struck_label in
        let sum = altered_long ps rising s.label was.0 s.run was.1 in
        let all = long_total (settled ps (Some c)) in
        let part = run_below (λ (r : Stretch). r.len) (settled ps (Some c)) s.label s.run (settled_rising ps (Some c) rising) held in
        omega (arith, sum, all, part, few, own)

-- so many of the text are ahead of a run, and of its own ahead of one, together fewer than all characters
pub found_few : (ps : List (ℕ × Stretch)) (label offset : ℕ) (run : Stretch) → IsRising ps → Contains ps (label, run) → offset < run.len → total effect_of (lower ps label) + offset < length (chars_in ps)
found_few ps label offset run rising held inside =
    let below = run_below (λ (r : Stretch). r.len) ps label run rising held in
    let all = long_total ps in
    let low = long_total (lower ps label) in
    let shown = effect_most (lower ps label) in
    omega (arith, inside, below, all, low, shown)
