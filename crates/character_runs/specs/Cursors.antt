-- The run at whose end characters are typed or deleted one after another.
use Rattle.std.specs.Prelude.{◌≡◌, ◌⊎◌, ℕ, ◌+◌, ◌-◌, ◌<◌, ◌≤◌, ◌^◌, Bool, true, false, List, ◌++◌, ◌∷◌, length, Contains, Option, Some, None}
use Rattle.ew_model.specs.declared.node.Node.{Node}
use Rattle.walker_record.specs.Stretches.{Stretch, node_on, is_continued, prepared_of, effect_of, first_part}
use Rattle.order_tree.specs.Pairs.{lower, total, changed}
use Rattle.character_runs.specs.declared.cursor.Cursor.{Cursor}
use Rattle.character_runs.specs.declared.cursor.Struck.{Struck}
use Rattle.character_runs.specs.declared.labels.Labels.{Labels}
use Rattle.character_runs.specs.Laid.{AreLabelled, AreCounted, chars_in}

-- the node of the run's last character
abbrev pub last_of : Stretch → Node
last_of r = node_on r.from (r.len - 1)

-- the run without its last character
abbrev pub shorter : Stretch → Stretch
shorter r = first_part r (r.len - 1)

-- the run with so many characters more, of the next nodes
abbrev pub longer_by : Stretch → ℕ → Stretch
longer_by r n = record { from = r.from; len = r.len + n; prepared = r.prepared; effect = r.effect }

-- where a cursor is once so many characters came to the end of its run: it lets go of what was deleted from there
abbrev pub longer_at : Cursor → ℕ → Cursor
longer_at c n = record { label = c.label; run = longer_by c.run n; before = c.before; index = c.index + n; struck = None }

-- the run of a node's character and n more behind it, all deleted once and not in the text
abbrev pub struck_with : Node → ℕ → Stretch
struck_with v n = record { from = v; len = n + 1; prepared = 2; effect = false }

-- how many characters were deleted from the end of the run
abbrev pub struck_long : Option Struck → ℕ
struck_long None = 0
struck_long (Some s) = s.run.len

-- the run that was deleted from the end of another stands right behind that one, its nodes go on with those, and all of them are deleted once, and not in the text
abbrev pub StandsBehind : List (ℕ × Stretch) → ℕ → Stretch → Option Struck → Type 0
StandsBehind ps label run None = Unit {0}
StandsBehind ps label run (Some s) =
    (front : List (ℕ × Stretch)) × (back : List (ℕ × Stretch)) × (ps ≡ front ++ (label, run) ∷ (s.label, s.run) ∷ back)
    × (s.run.from ≡ node_on run.from run.len) × (0 < s.run.len) × (s.run.prepared ≡ 2) × (s.run.effect ≡ false)

-- a struck run stands right ahead of the one at the label, and goes on with the first of its characters once that is deleted; this one has others too, all visible in what is prepared
pub record StandsAhead (ps : List (ℕ × Stretch)) (s : Struck) (label : ℕ) (run : Stretch) : Type 0 where
  pub front : List (ℕ × Stretch)
  pub back : List (ℕ × Stretch)
  pub stood : ps ≡ front ++ (s.label, s.run) ∷ (label, run) ∷ back
  pub goes_on : is_continued s.run (struck_with run.from 0) ≡ true
  pub some : 0 < s.run.len
  pub long : 1 < run.len
  pub prepared : run.prepared ≡ 1

-- The run stands at the label, with characters, all visible in what is prepared and in the text. So many of the text are ahead of it, so many are visible up to its end, and what was deleted from its end stands behind it.
pub record IsCursor (ps : List (ℕ × Stretch)) (c : Cursor) : Type 0 where
  pub held : Contains ps (c.label, c.run)
  pub some : 0 < c.run.len
  pub prepared : c.run.prepared ≡ 1
  pub effect : c.run.effect ≡ true
  pub before : c.before ≡ total effect_of (lower ps c.label)
  pub index : c.index ≡ total prepared_of (lower ps c.label) + c.run.len
  pub behind : StandsBehind ps c.label c.run c.struck

abbrev pub MayBeCursor : List (ℕ × Stretch) → Option Cursor → Type 0
MayBeCursor ps None = Unit {0}
MayBeCursor ps (Some c) = IsCursor ps c

-- the last character of the cursor's run went over to the deleted ones behind it
pub record GaveEnd (old new : List (ℕ × Stretch)) (c : Cursor) (s : Struck) : Type 0 where
  pub front : List (ℕ × Stretch)
  pub back : List (ℕ × Stretch)
  pub was : (old ≡ front ++ (c.label, c.run) ∷ back) ⊎ ((r : Struck) × (c.struck ≡ Some r) × (old ≡ front ++ (c.label, c.run) ∷ (r.label, r.run) ∷ back))
  pub now : new ≡ front ++ (c.label, shorter c.run) ∷ (s.label, s.run) ∷ back
  pub struck : s.run ≡ struck_with (last_of c.run) (struck_long c.struck)

-- the runs with this one at the label, and with what was deleted from its end at the label of that
abbrev pub with_end : List (ℕ × Stretch) → ℕ → Stretch → Option Struck → List (ℕ × Stretch)
with_end ps label run None = changed ps label run
with_end ps label run (Some s) = changed (changed ps s.label s.run) label run

-- the runs, but at the cursor's label the run that the cursor has, and what was deleted from its end as the cursor has that
abbrev pub settled : List (ℕ × Stretch) → Option Cursor → List (ℕ × Stretch)
settled ps None = ps
settled ps (Some c) = with_end ps c.label c.run c.struck

-- with the cursor the runs settle to the same as before, under these labels, and where nothing is pending they are that already
pub record SettleSame (old new : List (ℕ × Stretch)) (t : Labels) (c : Cursor) (pending : Bool) : Type 0 where
  pub same : settled new (Some c) ≡ settled old (Some c)
  pub laid : AreLabelled (settled new (Some c)) t
  pub told : pending ≡ false → settled new (Some c) ≡ new

-- The settled runs are counted, and the cursor stands among them. Where nothing that was typed or deleted at it is pending,
-- they are the runs themselves. The runs themselves have at most 2^25 characters, as the settled ones do.
pub record AreKept (ps : List (ℕ × Stretch)) (t : Labels) (visible shown : ℕ) (at : Option Cursor) (pending : Bool) : Type 0 where
  pub counted : AreCounted (settled ps at) t visible shown
  pub cursor : MayBeCursor (settled ps at) at
  pub told : pending ≡ false → settled ps at ≡ ps
  pub few : length (chars_in ps) ≤ 2 ^ 25
