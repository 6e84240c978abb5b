-- Characters that came in behind or ahead of runs.
use Rattle.std.proofs.Common.{◌≡◌, ℕ, suc, ◌+◌, ◌<◌, ◌≤◌, Bool, true, false, cond, List, [], ◌∷◌, ◌++◌, map, length, take, drop, insert, Result, Ok, Err, IfOk, OnErr, Contains, refl, sym, ap, ◌∙◌, subst, inr, arith, append_assoc, length-append}
use Rattle.std.specs.List.{list_any}
use Rattle.std.proofs.lemmas.List.{map-append, take_at, drop_at}
use Rattle.std.proofs.lemmas.List.Elements.{Contains-append_right}
use Rattle.ew_model.specs.declared.node.Node.{Node}
use Rattle.ew_model.specs.declared.node.Node.TheVariants.{Event}
use Rattle.walker_record.specs.Stretches.{Stretch, node_on, chars_of, effect_of, is_continued, joined_of}
use Rattle.walker_record.specs.StretchLaws.{GoesOn, goes_on, joined_chars_of}
use Rattle.fugue_place.specs.declared.neighbour.Place.TheVariants.{After, Before}
use Rattle.order_tree.specs.Pairs.{IsRising, lower, up_to, greater, inserted, changed, total, runs}
use Rattle.order_tree.proofs.PairLaws.{rises_above, up_to_none}
use Rattle.character_runs.specs.declared.labels.Labels.{Labels}
use Rattle.character_runs.specs.declared.runs.child.Child.{Child}
use Rattle.character_runs.specs.Entering.{run_of, EntersAt}
use Rattle.character_runs.specs.States.{is_of, shown_in}
use Rattle.character_runs.specs.Laid.{Stands, AreLabelled, BeginsRun, EndsRun, record_of, records_of, chars_in}
use Rattle.character_runs.specs.Spots.{Comes}
use Rattle.character_runs.proofs.Moves.{is_first}
use Rattle.character_runs.proofs.PartedRuns.{Parted, parted, lower_is}
use Rattle.character_runs.proofs.ChangedPairs.{changed_is, moves_changed}
use Rattle.character_runs.proofs.JoinedRuns.{joined_laid}
use Rattle.character_runs.proofs.AlteredChars.{one_record, effect_most}
use Rattle.character_runs.proofs.OpenedChars.{around_empty, lower_opened}
use Rattle.character_runs.proofs.RunChars.{counted_in, length-records_of, chars-append, shown-chars}
use Rattle.character_runs.proofs.RunsAt.{run_held}
use Rattle.character_runs.proofs.CharPlaces.{stands_not, none_of, up_to_chars, index_behind, index_ahead}
use Rattle.ew_model.proofs.ListTests.{count-append}

pub if_ok_then : {X E : Type 0} (r : Result X E) (P Q : X → Type 0) → ((x : X) → P x → Q x) → IfOk r P → IfOk r Q
if_ok_then (Ok x) P Q f p = f x p
if_ok_then (Err e) P Q f p = tt

pub on_err_then : {X E : Type 0} (r : Result X E) (P Q : Type 0) → (P → Q) → OnErr r P → OnErr r Q
on_err_then (Ok x) P Q f p = tt
on_err_then (Err e) P Q f p = f p

-- a record between two parts of a list stands behind the first
pub placed : (old new front back : List Stretch) (r : Stretch) → old ≡ front ++ back → new ≡ front ++ r ∷ back → new ≡ insert old (length front) r
placed old new front back r is now =
    let first : take (length front) old ≡ front = ap (take (length front)) is ∙ take_at front back (length front) refl in
    let rest : drop (length front) old ≡ back = ap (drop (length front)) is ∙ drop_at front back (length front) refl in
    now ∙ ap (λ (xs : List Stretch). xs ++ r ∷ back) (sym first) ∙ ap (λ (xs : List Stretch). take (length front) old ++ r ∷ xs) (sym rest)

pub enters_by : (old new front back : List Stretch) (child : Child) (n : ℕ) → old ≡ front ++ back → new ≡ front ++ run_of child 1 ∷ back → n ≡ shown_in front → EntersAt old new child (length front) n
enters_by old new front back child n is now count = record {
  within = let long = ap length is ∙ length-append front back in omega (arith, long);
  before = count ∙ sym (ap shown_in (ap (take (length front)) is ∙ take_at front back (length front) refl));
  after = placed old new front back (run_of child 1) is now;
}

-- A RUN OF ITS OWN
pub opened_held : (ps : List (ℕ × Stretch)) (label own : ℕ) (empty : Stretch) → Contains (inserted ps label own empty) (own, empty)
opened_held ps label own empty = Contains-append_right (up_to ps label) ((own, empty) ∷ greater ps label) (own, empty) (is_first (own, empty) (greater ps label))

pub entered : (ps mid new : List (ℕ × Stretch)) (label own : ℕ) (empty run : Stretch) (child : Child) (n : ℕ) → mid ≡ inserted ps label own empty → IsRising mid → empty.len ≡ 0 → chars_in mid ≡ chars_in ps
    → run ≡ run_of child 1 → chars_in new ≡ chars_in (lower mid own) ++ run ∷ chars_in (greater mid own) → lower new own ≡ lower mid own → n ≡ total effect_of (lower new own)
    → EntersAt (chars_in ps) (chars_in new) child (length (chars_in (up_to ps label))) n
entered ps mid new label own empty run child n is rises none same run_is chars low count =
    let held = subst (λ (xs : List (ℕ × Stretch)). Contains xs (own, empty)) (sym is) (opened_held ps label own empty) in
    let front : lower mid own ≡ up_to ps label = ap (λ (xs : List (ℕ × Stretch)). lower xs own) is ∙ lower_opened ps label own empty (subst (λ (xs : List (ℕ × Stretch)). IsRising xs) is rises) in
    enters_by (chars_in ps) (chars_in new) (chars_in (up_to ps label)) (chars_in (greater mid own)) child n
    (sym same ∙ around_empty mid own empty empty rises held none ∙ ap (λ (xs : List (ℕ × Stretch)). chars_in xs ++ chars_in (greater mid own)) front)
    (chars ∙ ap (λ (xs : List (ℕ × Stretch)). chars_in xs ++ run ∷ chars_in (greater mid own)) front ∙ ap (λ (r : Stretch). chars_in (up_to ps label) ++ r ∷ chars_in (greater mid own)) run_is)
    (count ∙ ap (λ (xs : List (ℕ × Stretch)). total effect_of xs) (low ∙ front) ∙ sym (shown-chars (up_to ps label)))

-- INTO THE RUN BEFORE
module _ (ps : List (ℕ × Stretch)) (rising : IsRising ps) (label : ℕ) (run : Stretch) (held : Contains ps (label, run)) (child : Child) (goes : is_continued run (run_of child 1) ≡ true) where
  abbrev pub joined : Stretch
  joined = joined_of run (run_of child 1)

  abbrev at : Parted ps label run
  at = parted ps label run rising held

  on : GoesOn run (run_of child 1)
  on = goes_on run (run_of child 1) goes

  joined_records : records_of joined ≡ records_of run ++ run_of child 1 ∷ []
  joined_records =
      ap (map record_of) (joined_chars_of run (run_of child 1) goes) ∙ map-append record_of (chars_of run) (chars_of (run_of child 1))
      ∙ ap (λ (xs : List Stretch). records_of run ++ xs) (one_record (run_of child 1) refl)

  front_chars : chars_in (up_to ps label) ≡ chars_in at.front ++ records_of run
  front_chars = up_to_chars ps rising label run held

  pub old_chars : chars_in ps ≡ chars_in (up_to ps label) ++ chars_in at.back
  old_chars =
      ap chars_in at.is ∙ chars-append at.front (((label, run) ∷ []) ++ at.back) ∙ sym (append_assoc (chars_in at.front) (records_of run) (chars_in at.back))
      ∙ ap (λ (xs : List Stretch). xs ++ chars_in at.back) (sym front_chars)

  new_chars : chars_in (changed ps label joined) ≡ chars_in (up_to ps label) ++ run_of child 1 ∷ chars_in at.back
  new_chars =
      ap chars_in (changed_is label joined ps run at) ∙ chars-append at.front (((label, joined) ∷ []) ++ at.back)
      ∙ ap (λ (xs : List Stretch). chars_in at.front ++ (xs ++ chars_in at.back)) joined_records
      ∙ ap (λ (xs : List Stretch). chars_in at.front ++ xs) (append_assoc (records_of run) (run_of child 1 ∷ []) (chars_in at.back))
      ∙ sym (append_assoc (chars_in at.front) (records_of run) (run_of child 1 ∷ chars_in at.back))
      ∙ ap (λ (xs : List Stretch). xs ++ run_of child 1 ∷ chars_in at.back) (sym front_chars)

  long_front : length (chars_in (up_to ps label)) ≡ length (chars_in (lower ps label)) + run.len
  long_front =
      ap length front_chars ∙ length-append (chars_in at.front) (records_of run) ∙ ap (λ (n : ℕ). length (chars_in at.front) + n) (length-records_of run)
      ∙ ap (λ (xs : List (ℕ × Stretch)). length (chars_in xs) + run.len) (sym (lower_is ps label run at))

  shown_front : total effect_of (lower ps label) + run.len ≡ shown_in (chars_in (up_to ps label))
  shown_front =
      let own : shown_in (records_of run) ≡ run.len = counted_in (λ (r : Stretch). r.effect) run.effect run.prepared run.effect (λ v. refl) run.len run.from ∙ ap (λ (b : Bool). cond b run.len 0) on.effect in
      sym (ap shown_in front_chars ∙ count-append (λ (r : Stretch). r.effect) (chars_in at.front) (records_of run)
      ∙ ap (λ (n : ℕ). shown_in (chars_in at.front) + n) own ∙ ap (λ (n : ℕ). n + run.len) (shown-chars at.front)
      ∙ ap (λ (xs : List (ℕ × Stretch)). total effect_of xs + run.len) (sym (lower_is ps label run at)))

  pub joined_enters : (n : ℕ) → n ≡ total effect_of (lower ps label) + run.len → EntersAt (chars_in ps) (chars_in (changed ps label joined)) child (length (chars_in (up_to ps label))) n
  joined_enters n count = enters_by (chars_in ps) (chars_in (changed ps label joined)) (chars_in (up_to ps label)) (chars_in at.back) child n old_chars new_chars (count ∙ shown_front)

  -- so many they are
  pub joined_long : length (chars_in (changed ps label joined)) ≡ length (chars_in ps) + 1
  joined_long =
      let old = ap length old_chars ∙ length-append (chars_in (up_to ps label)) (chars_in at.back) in
      let new = ap length new_chars ∙ length-append (chars_in (up_to ps label)) (run_of child 1 ∷ chars_in at.back) in
      let more : length (run_of child 1 ∷ chars_in at.back) ≡ suc (length (chars_in at.back)) = refl in
      omega (arith, old, new, more)

  pub joined_short : total effect_of (lower ps label) + run.len ≤ length (chars_in ps)
  joined_short =
      let old = ap length old_chars ∙ length-append (chars_in (up_to ps label)) (chars_in at.back) in
      let few = effect_most (lower ps label) in
      let long = long_front in
      omega (arith, old, few, long)

  pub joined_labelled : (t : Labels) → AreLabelled ps t → 0 < run.len → list_any (is_of (Event child.position)) (chars_in ps) ≡ false → AreLabelled (changed ps label joined) t
  joined_labelled t laid some none =
      joined_laid ps (changed ps label joined) t label run joined laid held (moves_changed label joined ps run rising held) refl some refl
      (stands_not ps (node_on run.from run.len) (ap (λ (v : Node). list_any (is_of v) (chars_in ps)) (sym on.from) ∙ none))

-- WHERE THEY CAME
pub still_ends : (ps qs : List (ℕ × Stretch)) → runs qs ≡ runs ps → (v : Node) → EndsRun ps v → EndsRun qs v
still_ends ps qs same v ends l n s = let h = run_held qs ps same l s.run s.held in ends h.0 n (record { run = s.run; held = h.1; inside = s.inside; node = s.node })

module _ (qs : List (ℕ × Stretch)) (rising : IsRising qs) (old new : List Stretch) (same : chars_in qs ≡ old) (child : Child) (v : Node) (m : ℕ) where
  pub comes_behind : (label n : ℕ) (s : Stands qs label n v) → EndsRun qs v → EntersAt (chars_in qs) new child (length (chars_in (up_to qs label))) m → Comes old new (After v) child.position m
  comes_behind label n s ends e = subst (λ (rs : List Stretch). Comes rs new (After v) child.position m) same (record {
    index = length (chars_in (up_to qs label));
    here = index_behind qs rising label s.run s.held v n s.inside s.node (ends label n s);
    within = e.within;
    before = e.before;
    after = e.after;
  })

  pub comes_ahead : (label n : ℕ) (s : Stands qs label n v) → BeginsRun qs v → EntersAt (chars_in qs) new child (length (chars_in (lower qs label))) m → Comes old new (Before v) child.position m
  comes_ahead label n s begins e = subst (λ (rs : List Stretch). Comes rs new (Before v) child.position m) same (record {
    index = length (chars_in (lower qs label));
    here = index_ahead qs rising label s.run s.held v n s.inside s.node (begins label n s);
    within = e.within;
    before = e.before;
    after = e.after;
  })

  module _ (none : (l n : ℕ) → Stands qs l n v → ⊥) (e : EntersAt (chars_in qs) new child (length (chars_in (up_to qs 0))) m) where
    first : length (chars_in (up_to qs 0)) ≡ 0
    first = ap (λ (xs : List (ℕ × Stretch)). length (chars_in xs)) (up_to_none 0 qs (rises_above 0 qs rising))

    pub comes_first_behind : Comes old new (After v) child.position m
    comes_first_behind = subst (λ (rs : List Stretch). Comes rs new (After v) child.position m) same (record {
      index = length (chars_in (up_to qs 0));
      here = inr (none_of qs v none, first);
      within = e.within;
      before = e.before;
      after = e.after;
    })

    pub comes_first_ahead : Comes old new (Before v) child.position m
    comes_first_ahead = subst (λ (rs : List Stretch). Comes rs new (Before v) child.position m) same (record {
      index = length (chars_in (up_to qs 0));
      here = inr (none_of qs v none, first);
      within = e.within;
      before = e.before;
      after = e.after;
    })
