-- The numbers of visible characters and of those in the text, which are kept beside the runs.
use Rattle.std.proofs.Common.{◌≡◌, ℕ, ◌+◌, ◌<◌, ◌≤◌, ◌^◌, true, List, length, refl, ap, arith}
use Rattle.walker_record.specs.Stretches.{Stretch, prepared_of, effect_of}
use Rattle.fugue_place.specs.declared.neighbour.Place.{Place}
use Rattle.ew_model.specs.declared.node.Node.TheVariants.{Event}
use Rattle.character_runs.specs.declared.labels.Labels.{Labels}
use Rattle.character_runs.specs.declared.runs.changing.Altered.{Altered}
use Rattle.character_runs.specs.States.{is_visible, visible_in, shown_in, single}
use Rattle.character_runs.specs.Laid.{AreLabelled, AreCounted, chars_in}
use Rattle.character_runs.specs.Replacing.{Recounted}
use Rattle.character_runs.specs.Spots.{Comes}
use Rattle.character_runs.proofs.Lists.{count_few}
use Rattle.character_runs.proofs.Replaced.{count_inserted, length_inserted}

module _ (ps : List (ℕ × Stretch)) (t : Labels) (visible shown : ℕ) (so : AreCounted ps t visible shown) where
  pub visible_few : visible ≤ 2 ^ 25
  visible_few = let all = count_few is_visible (chars_in ps) in let is = so.visible_is in let le = so.few in omega (arith, all, is, le)

  pub shown_few : shown ≤ 2 ^ 25
  shown_few = let all = count_few (λ (r : Stretch). r.effect) (chars_in ps) in let is = so.shown_is in let le = so.few in omega (arith, all, is, le)

  -- where a run has other states
  module _ (qs : List (ℕ × Stretch)) (a : Altered) (r : Recounted (chars_in ps) (chars_in qs) a) where
    pub visible_fits : visible + prepared_of a.after < 2 ^ 32
    visible_fits =
        let all = count_few is_visible (chars_in qs) in
        let is = so.visible_is in
        let le = so.few in
        omega (arith, all, is, le, r.visible, r.visible_there, r.long, visible_few)

    pub shown_fits : shown + effect_of a.after < 2 ^ 32
    shown_fits =
        let all = count_few (λ (x : Stretch). x.effect) (chars_in qs) in
        let is = so.shown_is in
        let le = so.few in
        omega (arith, all, is, le, r.shown, r.shown_there, r.long, shown_few)

    pub counted_again : (u : Labels) (v s : ℕ) → AreLabelled qs u → v + prepared_of a.before ≡ visible + prepared_of a.after → s + effect_of a.before ≡ shown + effect_of a.after → AreCounted qs u v s
    counted_again u v s laid first second = record {
      labelled = laid;
      visible_is = let is = so.visible_is in omega (arith, is, first, r.visible);
      shown_is = let is = so.shown_is in omega (arith, is, second, r.shown);
      few = let le = so.few in omega (arith, le, r.long);
    }

  -- with one more, which is both
  pub counted_more : (qs : List (ℕ × Stretch)) (u : Labels) (place : Place) (position n : ℕ) → AreLabelled qs u → Comes (chars_in ps) (chars_in qs) place position n → length (chars_in ps) < 2 ^ 25 → AreCounted qs u (visible + 1) (shown + 1)
  counted_more qs u place position n laid e room = record {
    labelled = laid;
    visible_is =
        let is = so.visible_is in
        let more = ap (λ (xs : List Stretch). visible_in xs) e.after in
        let one = count_inserted is_visible (chars_in ps) e.index (single (Event position) 1 true) refl in
        omega (arith, is, more, one);
    shown_is =
        let is = so.shown_is in
        let more = ap (λ (xs : List Stretch). shown_in xs) e.after in
        let one = count_inserted (λ (r : Stretch). r.effect) (chars_in ps) e.index (single (Event position) 1 true) refl in
        omega (arith, is, more, one);
    few =
        let more = ap length e.after in
        let one = length_inserted (chars_in ps) e.index (single (Event position) 1 true) in
        omega (arith, more, one, room);
  }
