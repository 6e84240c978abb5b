-- The deletions of the characters of a run from one on that was found by its index.
use Rattle.std.proofs.Common.{◌≡◌, ℕ, ◌+◌, ◌-◌, ◌<◌, false, List, [], ◌∷◌, ◌++◌, map, take, Contains, sym, ap, ◌∙◌, subst, arith, append_assoc}
use Rattle.std.specs.List.{list_any}
use Rattle.std.proofs.lemmas.List.Elements.{All-contains, Contains-append_left}
use Rattle.std.proofs.lemmas.List.Folds.{list_any-append}
use Rattle.ew_model.specs.declared.node.Node.{Node}
use Rattle.ew_model.specs.declared.node.Node.TheVariants.{Root}
use Rattle.walker_record.specs.Stretches.{Stretch, node_on, states_from, prepared_of}
use Rattle.order_tree.specs.Pairs.{IsRising, IsPlace}
use Rattle.character_runs.specs.declared.labels.Labels.{Labels}
use Rattle.character_runs.specs.States.{is_of, visible_in, shown_in, deletion_by}
use Rattle.character_runs.specs.Laid.{Stands, AreLabelled, record_of, chars_in}
use Rattle.character_runs.specs.Deleting.{struck_each}
use Rattle.character_runs.specs.Spots.{IsDeletion}
use Rattle.character_runs.proofs.CharPlaces.{none_in, none_of, or_none}
use Rattle.character_runs.proofs.CutChars.{parts_records}
use Rattle.character_runs.proofs.Places.{one_label, on_on, same_steps, not_root_on}
use Rattle.character_runs.proofs.RunChars.{chars-around, chars_before}
use Rattle.character_runs.proofs.StruckRuns.{deletions_from}
use Rattle.character_runs.proofs.VisiblePlaces.{parts, place_in, inside_run, before, visible_there}

module _ (ps : List (ℕ × Stretch)) (t : Labels) (laid : AreLabelled ps t) (rising : IsRising ps) (at label place : ℕ) (is : IsPlace prepared_of ps at label place) where
  abbrev run : Stretch
  run = is.run

  abbrev first : Node
  first = node_on run.from place

  abbrev front : List (ℕ × Stretch)
  front = (parts ps at label place rising is).front

  abbrev back : List (ℕ × Stretch)
  back = (parts ps at label place rising is).back

  abbrev ahead : List Stretch
  ahead = map record_of (states_from run.from place run.prepared run.effect)

  abbrev rest : ℕ
  rest = run.len - place

  inside : place < run.len
  inside = inside_run ps at label place rising is

  parted : chars_in ps ≡ (chars_in front ++ ahead) ++ (map record_of (states_from first rest 1 run.effect) ++ chars_in back)
  parted =
      ap chars_in (parts ps at label place rising is).is ∙ chars-around front back label run
      ∙ ap (λ (xs : List Stretch). chars_in front ++ (xs ++ chars_in back)) (sym (parts_records run place inside))
      ∙ ap (λ (n : ℕ). chars_in front ++ ((ahead ++ map record_of (states_from first rest n run.effect)) ++ chars_in back)) (visible_there ps at label place rising is)
      ∙ ap (λ (xs : List Stretch). chars_in front ++ xs) (append_assoc ahead (map record_of (states_from first rest 1 run.effect)) (chars_in back))
      ∙ sym (append_assoc (chars_in front) ahead (map record_of (states_from first rest 1 run.effect) ++ chars_in back))

  rooted : run.from ≡ Root → ⊥
  rooted = laid.rooted label run is.held

  here : (j : ℕ) → j < rest → Stands ps label (place + j) (node_on first j)
  here j lt = record { run = run; held = is.held; inside = omega (arith, lt, inside); node = sym (on_on run.from place j) }

  none : (j : ℕ) → j < rest → list_any (is_of (node_on first j)) (chars_in front ++ ahead) ≡ false
  none j lt =
      list_any-append (is_of (node_on first j)) (chars_in front) ahead
      ∙ or_none (list_any (is_of (node_on first j)) (chars_in front)) (list_any (is_of (node_on first j)) ahead) (none_of front (node_on first j) in_front)
      (none_in place run.from (node_on first j) run.prepared run.effect (λ k low e. let same = same_steps run.from k (place + j) rooted (e ∙ on_on run.from place j) in omega (arith, same, low)))
    where
      in_front : (l n : ℕ) → Stands front l n (node_on first j) → ⊥
      in_front l n s =
          let held : Contains ps (l, s.run) = subst (λ (xs : List (ℕ × Stretch)). Contains xs (l, s.run)) (sym (parts ps at label place rising is).is) (Contains-append_left front (((label, run) ∷ []) ++ back) (l, s.run) s.held) in
          let same = one_label ps t laid (node_on first j) l label n (place + j) (record { run = s.run; held = held; inside = s.inside; node = s.node }) (here j lt) in
          let low = All-contains (λ p. p.0 < label) front (l, s.run) (parts ps at label place rising is).below s.held in
          omega (arith, same, low)

  taken : take (place_in ps at label place rising is) (chars_in ps) ≡ chars_in front ++ ahead
  taken =
      ap (λ (qs : List (ℕ × Stretch)). take (place_in ps at label place rising is) (chars_in qs)) (parts ps at label place rising is).is
      ∙ chars_before front back label run place inside

  pub deletions_here : (k : ℕ) → place + k < run.len
      → IsDeletion (struck_each (chars_in ps) first k) at (record { node = node_on first k; op = deletion_by run.effect (shown_in (take (place_in ps at label place rising is) (chars_in ps))) })
  deletions_here k lt =
      subst (λ (xs : List Stretch). IsDeletion (struck_each xs first k) at (record { node = node_on first k; op = deletion_by run.effect (shown_in (take (place_in ps at label place rising is) (chars_in ps))) })) (sym parted)
      (subst (λ (xs : List Stretch). IsDeletion (struck_each ((chars_in front ++ ahead) ++ (map record_of (states_from first rest 1 run.effect) ++ chars_in back)) first k) at (record { node = node_on first k; op = deletion_by run.effect (shown_in xs) })) (sym taken)
      (deletions_from run.effect at rest first (chars_in front ++ ahead) (chars_in back) (not_root_on run.from place rooted) none (ap visible_in (sym taken) ∙ before ps at label place rising is) k (omega (arith, lt))))
