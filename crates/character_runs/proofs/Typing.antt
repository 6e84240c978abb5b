-- A cursor at whose run's end a character is typed.
use Rattle.std.proofs.Common.{◌≡◌, ℕ, ◌+◌, ◌-◌, ◌<◌, ◌≤◌, ◌^◌, Bool, true, false, inl, List, length, Option, Some, None, refl, sym, ap, ◌∙◌, subst, arith}
use Rattle.std.specs.List.{list_any}
use Rattle.std.proofs.lemmas.Bool.{false≢true}
use Rattle.ew_model.specs.declared.node.Node.{Node}
use Rattle.ew_model.specs.declared.node.Node.TheVariants.{Event}
use Rattle.fugue_place.specs.declared.neighbour.Place.TheVariants.{After}
use Rattle.walker_record.specs.Stretches.{Stretch, is_continued, joined_of, prepared_of, effect_of}
use Rattle.order_tree.specs.Pairs.{IsRising, changed, total, runs}
use Rattle.character_runs.specs.declared.cursor.Cursor.{Cursor}
use Rattle.character_runs.specs.declared.labels.Labels.{Labels}
use Rattle.character_runs.specs.declared.runs.child.Child.{Child}
use Rattle.character_runs.specs.Cursors.{IsCursor, MayBeCursor, AreKept, settled, last_of}
use Rattle.character_runs.specs.Entering.{run_of}
use Rattle.character_runs.specs.States.{is_of, visible_in}
use Rattle.character_runs.specs.Laid.{Stands, AreLabelled, chars_in}
use Rattle.character_runs.specs.Loose.{loose_in}
use Rattle.character_runs.specs.Spots.{Comes}
use Rattle.character_runs.proofs.ChangedAt.{changed_come}
use Rattle.character_runs.proofs.Counters.{counted_more}
use Rattle.character_runs.proofs.Entered.{comes_behind, joined_enters, joined_short, joined_labelled}
use Rattle.character_runs.proofs.LooseEntries.{behind_told, joined_told}
use Rattle.character_runs.proofs.OpenedChars.{lower_changed}
use Rattle.character_runs.proofs.Parting.{last_ends}
use Rattle.character_runs.proofs.RunChars.{visible-chars}
use Rattle.character_runs.proofs.Settled.{changed_twice, settled_rising}
use Rattle.character_runs.proofs.VisiblePlaces.{run_below}

-- where a cursor is once a child's character came to the end of its run
abbrev pub typed_at : Cursor → Child → Cursor
typed_at c child = record { label = c.label; run = joined_of c.run (run_of child 1); before = c.before; index = c.index + 1; struck = None }

module _ (ps : List (ℕ × Stretch)) (rising : IsRising ps) (c : Cursor) (at : IsCursor ps c) where
  -- its index is at most the number of visible characters
  pub index_most : c.index ≤ visible_in (chars_in ps)
  index_most =
      let most = run_below prepared_of ps c.label c.run rising at.held in
      let own : prepared_of c.run ≡ c.run.len = ap (λ (n : ℕ). prepared_of (record { from = c.run.from; len = c.run.len; prepared = n; effect = c.run.effect })) at.prepared in
      let all = visible-chars ps in
      let index = at.index in
      omega (arith, most, own, all, index)

  -- with one more at the end of its run
  typed_on : (child : Child) → IsCursor (changed ps c.label (typed_at c child).run) (typed_at c child)
  typed_on child =
      let run = joined_of c.run (run_of child 1) in
      let low = lower_changed ps c.label c.run run rising at.held in
      record {
        held = changed_come c.label run ps c.run at.held;
        some = let some = at.some in omega (arith, some);
        prepared = at.prepared;
        effect = at.effect;
        before = at.before ∙ ap (total effect_of) (sym low);
        index = let index = at.index in let same = ap (total prepared_of) low in omega (arith, index, same);
        behind = tt;
      }

-- A CHILD'S CHARACTER IS TYPED AT THE CURSOR OF KEPT RUNS
module _ (ps : List (ℕ × Stretch)) (t : Labels) (visible shown : ℕ) (at : Option Cursor) (pending : Bool) (kept : AreKept ps t visible shown at pending) (rising : IsRising ps) (c : Cursor) (is : at ≡ Some c)
    (child : Child) (goes : is_continued c.run (run_of child 1) ≡ true) where
  abbrev old : List (ℕ × Stretch)
  old = settled ps at

  abbrev joined : Stretch
  joined = joined_of c.run (run_of child 1)

  here : IsCursor old c
  here = subst (MayBeCursor old) is kept.cursor

  rises : IsRising old
  rises = settled_rising ps at rising

  pub most : c.index ≤ visible_in (chars_in old)
  most = index_most old rises c here

  pub short : c.before + c.run.len ≤ length (chars_in old)
  short =
      let le = joined_short old rises c.label c.run here.held child goes in
      let before = here.before in
      omega (arith, le, before)

  pub long : c.run.len ≤ c.index
  long = let index = here.index in omega (arith, index)

  stands : Stands old c.label (c.run.len - 1) (last_of c.run)
  stands = record { run = c.run; held = here.held; inside = let some = here.some in omega (arith, some); node = refl }

  -- the runs that the cursor had come with the longer one, where only that is pending
  module _ (qs : List (ℕ × Stretch)) (u : Labels) (end : changed qs c.label c.run ≡ settled ps (Some c)) (table : u ≡ t) (own : length (chars_in qs) ≤ 2 ^ 25) where
    abbrev new : List (ℕ × Stretch)
    new = settled qs (Some (typed_at c child))

    new_is : changed old c.label joined ≡ new
    new_is = ap (λ (xs : List (ℕ × Stretch)). changed xs c.label joined) (ap (settled ps) is ∙ sym end) ∙ changed_twice c.label joined qs c.run

    pub comes : Comes (chars_in old) (chars_in new) (After (last_of c.run)) child.position (c.before + c.run.len)
    comes =
        let some = here.some in
        let before = here.before in
        let n = c.before + c.run.len in
        let ends = last_ends old t kept.counted.labelled rises (last_of c.run) c.label (c.run.len - 1) c.run stands here.held (omega (arith, some)) in
        subst (λ (qs : List (ℕ × Stretch)). Comes (chars_in old) (chars_in qs) (After (last_of c.run)) child.position n) new_is
        (comes_behind old rises (chars_in old) (chars_in (changed old c.label joined)) refl child (last_of c.run) n c.label (c.run.len - 1) stands ends
        (joined_enters old rises c.label c.run here.held child goes n (omega (arith, before))))

    pub told : (among : Node → Bool) → among (Event child.position) ≡ true → loose_in among (runs new) ≤ loose_in among (runs old)
    told among e =
        let le = joined_told among old c.label rises c.run here.held child goes here.some e in
        let less = behind_told among old t kept.counted.labelled rises (runs old) (last_of c.run) c.label (c.run.len - 1) stands (inl refl) in
        let same = ap (λ (qs : List (ℕ × Stretch)). loose_in among (runs qs)) new_is in
        omega (arith, le, less, same)

    pub kept_more : list_any (is_of (Event child.position)) (chars_in old) ≡ false → length (chars_in old) < 2 ^ 25 → AreKept qs u (visible + 1) (shown + 1) (Some (typed_at c child)) true
    kept_more unrecorded room =
        let laid = joined_labelled old rises c.label c.run here.held child goes t kept.counted.labelled here.some unrecorded in
        record {
          counted = counted_more old t visible shown kept.counted new u (After (last_of c.run)) child.position (c.before + c.run.len) (subst (λ (x : Labels). AreLabelled new x) (sym table) (subst (λ (xs : List (ℕ × Stretch)). AreLabelled xs t) new_is laid)) comes room;
          cursor = subst (λ (qs : List (ℕ × Stretch)). IsCursor qs (typed_at c child)) new_is (typed_on old rises c here child);
          told = λ e. absurd (false≢true (sym e));
          few = own;
        }
