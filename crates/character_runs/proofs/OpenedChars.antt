-- Characters after a run without any came in, and after it got its first.
use Rattle.std.proofs.Common.{◌≡◌, ℕ, suc, ◌+◌, ◌<◌, ◌^◌, Bool, true, false, List, [], ◌∷◌, ◌++◌, map, length, Contains, if◌then◌else◌, refl, sym, ap, ◌∙◌, arith}
use Rattle.std.proofs.lemmas.List.{length-append}
use Rattle.walker_record.specs.Stretches.{Stretch, states_from}
use Rattle.order_tree.specs.Pairs.{IsRising, up_to, lower, greater, inserted, changed}
use Rattle.character_runs.specs.Laid.{record_of, records_of, chars_in}
use Rattle.order_tree.proofs.Around.{held_below, held_above}
use Rattle.character_runs.proofs.Moves.{is_first}
use Rattle.character_runs.proofs.PartedRuns.{Parted, parted, lower_is}
use Rattle.character_runs.proofs.CutPairs.{greater_is}
use Rattle.character_runs.proofs.ChangedPairs.{changed_is}
use Rattle.character_runs.proofs.InsertedPairs.{parts_at}
use Rattle.character_runs.proofs.AlteredChars.{one_record}
use Rattle.character_runs.proofs.RunChars.{chars-append}

pub no_records : (r : Stretch) → r.len ≡ 0 → records_of r ≡ []
no_records r e = ap (λ (n : ℕ). map record_of (states_from r.from n r.prepared r.effect)) e

pub none_counted : (b : Bool) (n : ℕ) → n ≡ 0 → (if b then n else 0) ≡ 0
none_counted true n e = e
none_counted false n e = refl

pub opened_chars : (ps : List (ℕ × Stretch)) (label own : ℕ) (run : Stretch) → IsRising ps → run.len ≡ 0 → chars_in (inserted ps label own run) ≡ chars_in ps
opened_chars ps label own run rising none =
    chars-append (up_to ps label) ((own, run) ∷ greater ps label)
    ∙ ap (λ (xs : List Stretch). chars_in (up_to ps label) ++ (xs ++ chars_in (greater ps label))) (no_records run none)
    ∙ sym (chars-append (up_to ps label) (greater ps label)) ∙ ap chars_in (parts_at label 0 ps rising)

module _ (ps : List (ℕ × Stretch)) (own : ℕ) (was run : Stretch) (rising : IsRising ps) (held : Contains ps (own, was)) (none : was.len ≡ 0) where
  at : Parted ps own was
  at = parted ps own was rising held

  -- the characters on both sides of it
  pub around_empty : chars_in ps ≡ chars_in (lower ps own) ++ chars_in (greater ps own)
  around_empty =
      ap chars_in at.is ∙ chars-append at.front (((own, was) ∷ []) ++ at.back) ∙ ap (λ (xs : List Stretch). chars_in at.front ++ (xs ++ chars_in at.back)) (no_records was none)
      ∙ sym (ap (λ (xs : List (ℕ × Stretch)). chars_in xs ++ chars_in (greater ps own)) (lower_is ps own was at) ∙ ap (λ (xs : List (ℕ × Stretch)). chars_in at.front ++ chars_in xs) (greater_is ps own was at))

  module _ (one : run.len ≡ 1) where
    pub filled_chars : chars_in (changed ps own run) ≡ chars_in (lower ps own) ++ run ∷ chars_in (greater ps own)
    filled_chars =
        ap chars_in (changed_is own run ps was at) ∙ chars-append at.front (((own, run) ∷ []) ++ at.back) ∙ ap (λ (xs : List Stretch). chars_in at.front ++ (xs ++ chars_in at.back)) (one_record run one)
        ∙ sym (ap (λ (xs : List (ℕ × Stretch)). chars_in xs ++ run ∷ chars_in (greater ps own)) (lower_is ps own was at) ∙ ap (λ (xs : List (ℕ × Stretch)). chars_in at.front ++ run ∷ chars_in xs) (greater_is ps own was at))

    pub filled_few : length (chars_in ps) + 1 < 2 ^ 32 → length (chars_in (changed ps own run)) < 2 ^ 32
    filled_few few =
        let old = ap length around_empty ∙ length-append (chars_in (lower ps own)) (chars_in (greater ps own)) in
        let new = ap length filled_chars ∙ length-append (chars_in (lower ps own)) (run ∷ chars_in (greater ps own)) in
        let more : length (run ∷ chars_in (greater ps own)) ≡ suc (length (chars_in (greater ps own))) = refl in
        omega (arith, few, old, new, more)

-- the sides of a run that came in are those of the label
module _ (ps : List (ℕ × Stretch)) (label own : ℕ) (run : Stretch) (rises : IsRising (inserted ps label own run)) where
  abbrev pub opened : Parted (inserted ps label own run) own run
  opened = record {
    front = up_to ps label;
    back = greater ps label;
    is = refl;
    below = held_below (up_to ps label) ((own, run) ∷ []) (greater ps label) own run rises (is_first (own, run) []);
    above = held_above (up_to ps label) ((own, run) ∷ []) (greater ps label) own run rises (is_first (own, run) []);
  }

  pub lower_opened : lower (inserted ps label own run) own ≡ up_to ps label
  lower_opened = lower_is (inserted ps label own run) own run opened

  pub greater_opened : greater (inserted ps label own run) own ≡ greater ps label
  greater_opened = greater_is (inserted ps label own run) own run opened

-- another run at a label leaves those below
pub lower_changed : (ps : List (ℕ × Stretch)) (own : ℕ) (was run : Stretch) → IsRising ps → Contains ps (own, was) → lower (changed ps own run) own ≡ lower ps own
lower_changed ps own was run rising held =
    let at = parted ps own was rising held in
    let now : Parted (changed ps own run) own run = record { front = at.front; back = at.back; is = changed_is own run ps was at; below = at.below; above = at.above } in
    lower_is (changed ps own run) own run now ∙ sym (lower_is ps own was at)
