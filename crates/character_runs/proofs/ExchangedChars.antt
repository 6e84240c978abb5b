-- Characters after a run went to the place behind it, and a new one came in its place.
use Rattle.std.proofs.Common.{◌≡◌, ℕ, suc, ◌+◌, ◌<◌, ◌^◌, List, [], ◌∷◌, ◌++◌, length, insert, All, Contains, refl, sym, ap, ◌∙◌, subst, arith, append_assoc, length-append}
use Rattle.std.proofs.lemmas.List.Elements.{All-cons, All-head, All-tail, Contains-append_right}
use Rattle.walker_record.specs.Stretches.{Stretch, effect_of}
use Rattle.order_tree.specs.Pairs.{IsRising, lower, greater, inserted, changed, total, runs}
use Rattle.order_tree.proofs.Around.{held_below, held_above}
use Rattle.character_runs.specs.declared.runs.child.Child.{Child}
use Rattle.character_runs.specs.Entering.{run_of, EntersAt, HasPlaceBehind}
use Rattle.character_runs.specs.Laid.{records_of, chars_in}
use Rattle.character_runs.proofs.Moves.{is_first, is_second}
use Rattle.character_runs.proofs.PartedRuns.{Parted, parted, lower_is}
use Rattle.character_runs.proofs.ChangedPairs.{changed_is}
use Rattle.character_runs.proofs.AlteredChars.{one_record}
use Rattle.character_runs.proofs.OpenedChars.{no_records}
use Rattle.character_runs.proofs.RunChars.{length-records_of, chars-append, shown-chars}
use Rattle.character_runs.proofs.CharPlaces.{up_to_is}
use Rattle.character_runs.proofs.CutPairs.{greater_is}
use Rattle.character_runs.proofs.Splits.{runs-append}
use Rattle.character_runs.proofs.Entered.{placed, enters_by}

module _ (ps : List (ℕ × Stretch)) (label own : ℕ) (rising : IsRising ps) (p : HasPlaceBehind ps label own) where
  abbrev one_at : ℕ → Stretch → List (ℕ × Stretch)
  one_at l r = (l, r) ∷ []

  abbrev front : List (ℕ × Stretch)
  front = p.front

  abbrev back : List (ℕ × Stretch)
  back = p.back

  abbrev run : Stretch
  run = p.run

  pub run_held : Contains ps (label, run)
  run_held =
      subst (λ (xs : List (ℕ × Stretch)). Contains xs (label, run)) (sym p.is)
      (Contains-append_right front ((label, run) ∷ (own, p.empty) ∷ back) (label, run) (is_first (label, run) ((own, p.empty) ∷ back)))

  pub place_held : Contains ps (own, p.empty)
  place_held =
      subst (λ (xs : List (ℕ × Stretch)). Contains xs (own, p.empty)) (sym p.is)
      (Contains-append_right front ((label, run) ∷ (own, p.empty) ∷ back) (own, p.empty) (is_second (own, p.empty) (label, run) back))

  rises : IsRising (front ++ (one_at label run ++ ((own, p.empty) ∷ back)))
  rises = subst (λ (xs : List (ℕ × Stretch)). IsRising xs) p.is rising

  below : All (λ x. x.0 < label) front
  below = held_below front (one_at label run) ((own, p.empty) ∷ back) label run rises (is_first (label, run) [])

  above_old : All (λ x. label < x.0) ((own, p.empty) ∷ back)
  above_old = held_above front (one_at label run) ((own, p.empty) ∷ back) label run rises (is_first (label, run) [])

  above : All (λ x. label < x.0) ((own, run) ∷ back)
  above = All-cons (λ x. label < x.0) (own, run) back (All-head (λ x. label < x.0) (own, p.empty) back above_old) (All-tail (λ x. label < x.0) (own, p.empty) back above_old)

  abbrev at_old : Parted ps label run
  at_old = record { front = front; back = (own, p.empty) ∷ back; is = p.is; below = below; above = above_old }

  regroup : (r : Stretch) → front ++ ((label, run) ∷ (own, r) ∷ back) ≡ (front ++ one_at label run) ++ (one_at own r ++ back)
  regroup r = sym (append_assoc front (one_at label run) ((own, r) ∷ back))

  rises_own : IsRising ((front ++ one_at label run) ++ (one_at own p.empty ++ back))
  rises_own = subst (λ (xs : List (ℕ × Stretch)). IsRising xs) (p.is ∙ regroup p.empty) rising

  abbrev at_own : Parted ps own p.empty
  at_own = record {
    front = front ++ one_at label run;
    back = back;
    is = p.is ∙ regroup p.empty;
    below = held_below (front ++ one_at label run) (one_at own p.empty) back own p.empty rises_own (is_first (own, p.empty) []);
    above = held_above (front ++ one_at label run) (one_at own p.empty) back own p.empty rises_own (is_first (own, p.empty) []);
  }

  abbrev mid : List (ℕ × Stretch)
  mid = changed ps own run

  old_chars : chars_in ps ≡ chars_in front ++ (records_of run ++ chars_in back)
  old_chars =
      ap chars_in p.is ∙ chars-append front ((label, run) ∷ (own, p.empty) ∷ back)
      ∙ ap (λ (xs : List Stretch). chars_in front ++ (records_of run ++ (xs ++ chars_in back))) (no_records p.empty p.none)

  long_old : length (chars_in ps) ≡ length (chars_in front) + (run.len + length (chars_in back))
  long_old =
      ap length old_chars ∙ length-append (chars_in front) (records_of run ++ chars_in back)
      ∙ ap (λ (n : ℕ). length (chars_in front) + n) (length-append (records_of run) (chars_in back) ∙ ap (λ (n : ℕ). n + length (chars_in back)) (length-records_of run))

  pub lower_old : lower ps label ≡ front
  lower_old = lower_is ps label run at_old

  -- where its front is known
  pub enters_ahead : (old new : List Stretch) (child : Child) (n : ℕ) → chars_in ps ≡ old → new ≡ insert (chars_in ps) (length (chars_in (lower ps label))) (run_of child 1) → n ≡ total effect_of (lower ps label)
      → (ahead : List (ℕ × Stretch)) → lower ps label ≡ ahead → EntersAt old new child (length (chars_in ahead)) n
  enters_ahead old new child n same now count ahead is =
      subst (λ (rs : List Stretch). EntersAt rs new child (length (chars_in ahead)) n) same
      (subst (λ (xs : List (ℕ × Stretch)). EntersAt (chars_in ps) new child (length (chars_in xs)) n) (sym lower_old ∙ is)
      (enters_by (chars_in ps) new (chars_in front) (records_of run ++ chars_in back) child n old_chars
      (now ∙ ap (λ (xs : List (ℕ × Stretch)). insert (chars_in ps) (length (chars_in xs)) (run_of child 1)) lower_old
      ∙ sym (placed (chars_in ps) (chars_in front ++ run_of child 1 ∷ (records_of run ++ chars_in back)) (chars_in front) (records_of run ++ chars_in back) (run_of child 1) old_chars refl))
      (count ∙ ap (λ (xs : List (ℕ × Stretch)). total effect_of xs) lower_old ∙ sym (shown-chars front))))

  mid_is : mid ≡ front ++ (one_at label run ++ ((own, run) ∷ back))
  mid_is = changed_is own run ps p.empty at_own ∙ sym (regroup run)

  pub mid_few : length (chars_in ps) < 2 ^ 25 → length (chars_in mid) < 2 ^ 32
  mid_few few =
      let long = ap (λ (xs : List (ℕ × Stretch)). length (chars_in xs)) mid_is ∙ ap length (chars-append front ((label, run) ∷ (own, run) ∷ back))
      ∙ length-append (chars_in front) (records_of run ++ (records_of run ++ chars_in back))
      ∙ ap (λ (n : ℕ). length (chars_in front) + n) (length-append (records_of run) (records_of run ++ chars_in back)) in
      let rest = length-append (records_of run) (chars_in back) in
      let own_long = length-records_of run in
      let old = long_old in
      omega (arith, long, rest, own_long, old, few)

  abbrev at_mid : Parted mid label run
  at_mid = record { front = front; back = (own, run) ∷ back; is = mid_is; below = below; above = above }

  module _ (new : Stretch) (one : new.len ≡ 1) where
    abbrev qs : List (ℕ × Stretch)
    qs = changed mid label new

    qs_is : qs ≡ front ++ (one_at label new ++ ((own, run) ∷ back))
    qs_is = changed_is label new mid run at_mid

    abbrev at_new : Parted qs label new
    at_new = record { front = front; back = (own, run) ∷ back; is = qs_is; below = below; above = above }

    pub lower_new : lower qs label ≡ lower ps label
    lower_new = lower_is qs label new at_new ∙ sym lower_old

    pub exchanged_runs : runs qs ≡ runs front ++ new ∷ run ∷ runs back
    exchanged_runs = ap runs qs_is ∙ runs-append front ((label, new) ∷ (own, run) ∷ back)

    new_chars : chars_in qs ≡ chars_in front ++ new ∷ (records_of run ++ chars_in back)
    new_chars =
        ap chars_in qs_is ∙ chars-append front ((label, new) ∷ (own, run) ∷ back)
        ∙ ap (λ (xs : List Stretch). chars_in front ++ (xs ++ (records_of run ++ chars_in back))) (one_record new one)

    pub exchanged_chars : chars_in qs ≡ insert (chars_in ps) (length (chars_in (lower ps label))) new
    exchanged_chars =
        placed (chars_in ps) (chars_in qs) (chars_in front) (records_of run ++ chars_in back) new old_chars new_chars
        ∙ ap (λ (xs : List (ℕ × Stretch)). insert (chars_in ps) (length (chars_in xs)) new) (sym lower_old)

    pub exchanged_few : length (chars_in ps) < 2 ^ 25 → length (chars_in qs) < 2 ^ 32
    exchanged_few few =
        let long = ap length new_chars ∙ length-append (chars_in front) (new ∷ (records_of run ++ chars_in back)) in
        let more : length (new ∷ (records_of run ++ chars_in back)) ≡ suc (length (records_of run ++ chars_in back)) = refl in
        let rest = length-append (records_of run) (chars_in back) in
        let own_long = length-records_of run in
        let old = long_old in
        omega (arith, long, more, rest, own_long, old, few)

-- the place that was opened behind a run
module _ (ps : List (ℕ × Stretch)) (label own : ℕ) (run empty : Stretch) (rising : IsRising ps) (held : Contains ps (label, run)) where
  abbrev at : Parted ps label run
  at = parted ps label run rising held

  opened_is : inserted ps label own empty ≡ at.front ++ (label, run) ∷ (own, empty) ∷ greater ps label
  opened_is =
      ap (λ (xs : List (ℕ × Stretch)). xs ++ (own, empty) ∷ greater ps label) (up_to_is ps rising label run held)
      ∙ append_assoc at.front ((label, run) ∷ []) ((own, empty) ∷ greater ps label)

  pub place_behind : (opened : List (ℕ × Stretch)) → opened ≡ inserted ps label own empty → 0 < run.len → empty.len ≡ 0 → (p : HasPlaceBehind opened label own) × (p.front ≡ lower ps label) × (runs ps ≡ runs p.front ++ p.run ∷ runs p.back)
  place_behind opened is some none = (
    record { front = at.front; back = greater ps label; run = run; empty = empty; is = is ∙ opened_is; some = some; none = none },
    sym (lower_is ps label run at),
    ap runs at.is ∙ runs-append at.front (((label, run) ∷ []) ++ at.back) ∙ ap (λ (xs : List (ℕ × Stretch)). runs at.front ++ run ∷ runs xs) (sym (greater_is ps label run at)),
  )
