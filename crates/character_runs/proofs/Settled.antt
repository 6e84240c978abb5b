-- Runs of which the cursor's is as the cursor has it.
use Rattle.std.proofs.Common.{◌≡◌, ℕ, ◌<◌, ◌≤◌, ◌^◌, suc, Bool, true, false, List, [], ◌∷◌, length, Contains, Option, Some, None, nat_eq, if◌then◌else◌, refl, sym, ap, ◌∙◌, subst, eq-eqb}
use Rattle.std.proofs.lemmas.Bool.{eqb-true, ne_eqb}
use Rattle.std.proofs.lemmas.List.Elements.{Contains-append_right}
use Rattle.walker_record.specs.Stretches.{Stretch}
use Rattle.order_tree.specs.Pairs.{IsRising, RisesFrom, labels, changed}
use Rattle.character_runs.specs.declared.cursor.Cursor.{Cursor}
use Rattle.character_runs.specs.declared.cursor.Struck.{Struck}
use Rattle.character_runs.specs.declared.labels.Labels.{Labels}
use Rattle.character_runs.specs.Cursors.{StandsBehind, IsCursor, MayBeCursor, SettleSame, AreKept, with_end, settled}
use Rattle.character_runs.specs.Laid.{AreLabelled, AreCounted, chars_in}
use Rattle.character_runs.proofs.ChangedPairs.{changed_is}
use Rattle.character_runs.proofs.KnownRuns.{held_label}
use Rattle.character_runs.proofs.Moves.{is_second}
use Rattle.character_runs.proofs.PartedRuns.{parted}

module _ (label : ℕ) (run : Stretch) where
  abbrev pick : ℕ × Stretch → Bool → ℕ × Stretch
  pick p b = if b then (label, run) else p

  same_label : (p : ℕ × Stretch) (b : Bool) → nat_eq p.0 label ≡ b → (pick p b).0 ≡ p.0
  same_label p true e = sym (eqb-true p.0 label e)
  same_label p false e = refl

  pub changed_labels : (ps : List (ℕ × Stretch)) → labels (changed ps label run) ≡ labels ps
  changed_labels [] = refl
  changed_labels (p ∷ ps) = ap (λ (n : ℕ). n ∷ labels (changed ps label run)) (same_label p (nat_eq p.0 label) refl) ∙ ap (λ (ns : List ℕ). p.0 ∷ ns) (changed_labels ps)

  changed_from : (low : ℕ) (ps : List (ℕ × Stretch)) → RisesFrom low ps → RisesFrom low (changed ps label run)
  changed_from low [] rises = rises
  changed_from low (p ∷ ps) rises =
      let same = sym (same_label p (nat_eq p.0 label) refl) in
      (subst (λ (n : ℕ). low < n) same rises.0, subst (λ (n : ℕ). RisesFrom n (changed ps label run)) same (changed_from p.0 ps rises.1))

  -- twice is once, with the last
  pub changed_twice : (ps : List (ℕ × Stretch)) (was : Stretch) → changed (changed ps label was) label run ≡ changed ps label run
  changed_twice [] was = refl
  changed_twice (p ∷ ps) was = by (nat_eq p.0 label) refl ∙ ap (λ (qs : List (ℕ × Stretch)). pick p (nat_eq p.0 label) ∷ qs) (changed_twice ps was)
    where
      first : Bool → ℕ × Stretch
      first b = if b then (label, was) else p

      by : (b : Bool) → nat_eq p.0 label ≡ b → pick (first b) (nat_eq (first b).0 label) ∷ changed (changed ps label was) label run ≡ pick p b ∷ changed (changed ps label was) label run
      by true e = ap (λ (b : Bool). pick (label, was) b ∷ changed (changed ps label was) label run) (eq-eqb label label refl)
      by false e = ap (λ (b : Bool). pick p b ∷ changed (changed ps label was) label run) e

  -- runs at two labels come in any order
  changed_swap : (ps : List (ℕ × Stretch)) (own : ℕ) (other : Stretch) → (label ≡ own → ⊥) → changed (changed ps own other) label run ≡ changed (changed ps label run) own other
  changed_swap [] own other apart = refl
  changed_swap (p ∷ ps) own other apart = let first = by (nat_eq p.0 label) (nat_eq p.0 own) refl refl in let rest = changed_swap ps own other apart in λ i. first i ∷ rest i
    where
      second : ℕ × Stretch → Bool → ℕ × Stretch
      second q b = if b then (own, other) else q

      by : (a b : Bool) → nat_eq p.0 label ≡ a → nat_eq p.0 own ≡ b → pick (second p b) (nat_eq (second p b).0 label) ≡ second (pick p a) (nat_eq (pick p a).0 own)
      by true true e f = absurd (apart (sym (eqb-true p.0 label e) ∙ eqb-true p.0 own f))
      by true false e f = ap (pick p) e ∙ sym (ap (second (label, run)) (ne_eqb label own apart))
      by false true e f = ap (pick (own, other)) (ne_eqb own label (λ same. apart (sym same))) ∙ sym (ap (second p) f)
      by false false e f = ap (pick p) e ∙ sym (ap (second p) f)

  changed_long : (ps : List (ℕ × Stretch)) → length (changed ps label run) ≡ length ps
  changed_long [] = refl
  changed_long (p ∷ ps) = ap suc (changed_long ps)

  -- a run that stands there already changes none
  pub changed_same : (ps : List (ℕ × Stretch)) → IsRising ps → Contains ps (label, run) → changed ps label run ≡ ps
  changed_same ps rising held = let at = parted ps label run rising held in changed_is label run ps run at ∙ sym at.is

-- A RUN, AND WHAT WAS DELETED FROM ITS END
module _ (label : ℕ) (run : Stretch) where
  pub end_rising : (ps : List (ℕ × Stretch)) (struck : Option Struck) → IsRising ps → IsRising (with_end ps label run struck)
  end_rising ps None rising = changed_from label run 0 ps rising
  end_rising ps (Some s) rising = changed_from label run 0 (changed ps s.label s.run) (changed_from s.label s.run 0 ps rising)

  end_long : (ps : List (ℕ × Stretch)) (struck : Option Struck) → length (with_end ps label run struck) ≡ length ps
  end_long ps None = changed_long label run ps
  end_long ps (Some s) = changed_long label run (changed ps s.label s.run) ∙ changed_long s.label s.run ps

  end_labels : (ps : List (ℕ × Stretch)) (struck : Option Struck) → labels (with_end ps label run struck) ≡ labels ps
  end_labels ps None = changed_labels label run ps
  end_labels ps (Some s) = changed_labels label run (changed ps s.label s.run) ∙ changed_labels s.label s.run ps

  pub behind_held : (ps : List (ℕ × Stretch)) (s : Struck) → StandsBehind ps label run (Some s) → Contains ps (s.label, s.run)
  behind_held ps s stands =
      subst (λ (xs : List (ℕ × Stretch)). Contains xs (s.label, s.run)) (sym stands.2)
      (Contains-append_right stands.0 ((label, run) ∷ (s.label, s.run) ∷ stands.1) (s.label, s.run) (is_second (s.label, s.run) (label, run) stands.1))

  pub end_same : (ps : List (ℕ × Stretch)) (struck : Option Struck) → IsRising ps → Contains ps (label, run) → StandsBehind ps label run struck → with_end ps label run struck ≡ ps
  end_same ps None rising held stands = changed_same label run ps rising held
  end_same ps (Some s) rising held stands = ap (λ (xs : List (ℕ × Stretch)). changed xs label run) (changed_same s.label s.run ps rising (behind_held ps s stands)) ∙ changed_same label run ps rising held

-- others in the place of both
pub end_again : (ps : List (ℕ × Stretch)) (label own : ℕ) (run longer struck shorter : Stretch) → (label ≡ own → ⊥)
    → changed (changed (changed (changed ps own struck) label run) own longer) label shorter ≡ changed (changed ps own longer) label shorter
end_again ps label own run longer struck shorter apart =
    ap (λ (xs : List (ℕ × Stretch)). changed xs label shorter) (sym (changed_swap label run (changed ps own struck) own longer apart))
    ∙ changed_twice label shorter (changed (changed ps own struck) own longer) run
    ∙ ap (λ (xs : List (ℕ × Stretch)). changed xs label shorter) (changed_twice own longer ps struck)

pub settled_rising : (ps : List (ℕ × Stretch)) (at : Option Cursor) → IsRising ps → IsRising (settled ps at)
settled_rising ps None rising = rising
settled_rising ps (Some c) rising = end_rising c.label c.run ps c.struck rising

pub settled_long : (ps : List (ℕ × Stretch)) (at : Option Cursor) → length (settled ps at) ≡ length ps
settled_long ps None = refl
settled_long ps (Some c) = end_long c.label c.run ps c.struck

-- a cursor that is among them leaves them the same
pub settled_same : (ps : List (ℕ × Stretch)) (at : Option Cursor) → IsRising ps → MayBeCursor ps at → settled ps at ≡ ps
settled_same ps None rising here = refl
settled_same ps (Some c) rising here = end_same c.label c.run ps c.struck rising here.held here.behind

-- a label that stands among the settled runs stands among the others
pub settled_label : (ps : List (ℕ × Stretch)) (c : Cursor) (label : ℕ) (run : Stretch) → Contains (settled ps (Some c)) (label, run) → Contains (labels ps) label
settled_label ps c label run held = subst (λ (ns : List ℕ). Contains ns label) (end_labels c.label c.run ps c.struck) (held_label (settled ps (Some c)) label run held)

-- settled ones settle the same again
pub settle_again : (ps qs : List (ℕ × Stretch)) (u : Labels) (c : Cursor) (pending : Bool) → IsCursor (settled ps (Some c)) c → IsRising qs → qs ≡ settled ps (Some c) → AreLabelled qs u → SettleSame ps qs u c pending
settle_again ps qs u c pending here rising is laid =
    let same = settled_same qs (Some c) rising (subst (λ (xs : List (ℕ × Stretch)). IsCursor xs c) (sym is) here) in
    record { same = same ∙ is; laid = subst (λ (xs : List (ℕ × Stretch)). AreLabelled xs u) (sym same) laid; told = λ e. same }

-- so are kept runs that the cursor is among
kept_same : (ps : List (ℕ × Stretch)) (t : Labels) (visible shown : ℕ) (at : Option Cursor) (pending : Bool) → IsRising ps → AreCounted ps t visible shown → MayBeCursor ps at → AreKept ps t visible shown at pending
kept_same ps t visible shown at pending rising counted here =
    let same = settled_same ps at rising here in
    record {
      counted = subst (λ (qs : List (ℕ × Stretch)). AreCounted qs t visible shown) (sym same) counted;
      cursor = subst (λ (qs : List (ℕ × Stretch)). MayBeCursor qs at) (sym same) here;
      told = λ e. same;
      few = counted.few;
    }

-- so are other runs, with another cursor, that settle as the ones before
pub kept_again : (ps qs : List (ℕ × Stretch)) (t u : Labels) (visible shown : ℕ) (at to : Option Cursor) (pending now : Bool) → AreKept ps t visible shown at pending
    → settled qs to ≡ settled ps at → u ≡ t → MayBeCursor (settled ps at) to → (now ≡ false → settled ps at ≡ qs) → length (chars_in qs) ≤ 2 ^ 25 → AreKept qs u visible shown to now
kept_again ps qs t u visible shown at to pending now kept same table here told few = record {
  counted = subst (λ (xs : List (ℕ × Stretch)). AreCounted xs u visible shown) (sym same) (subst (λ (x : Labels). AreCounted (settled ps at) x visible shown) (sym table) kept.counted);
  cursor = subst (λ (xs : List (ℕ × Stretch)). MayBeCursor xs to) (sym same) here;
  told = λ e. same ∙ told e;
  few = few;
}

-- once settled, they settle as before
module _ (ps qs : List (ℕ × Stretch)) (t u : Labels) (visible shown : ℕ) (at : Option Cursor) (pending : Bool) (kept : AreKept ps t visible shown at pending) (is : qs ≡ settled ps at) (table : u ≡ t) where
  pub now_counted : AreCounted qs u visible shown
  now_counted = subst (λ (xs : List (ℕ × Stretch)). AreCounted xs u visible shown) (sym is) (subst (λ (x : Labels). AreCounted (settled ps at) x visible shown) (sym table) kept.counted)

  now_cursor : MayBeCursor qs at
  now_cursor = subst (λ (xs : List (ℕ × Stretch)). MayBeCursor xs at) (sym is) kept.cursor

  module _ (rising : IsRising qs) where
    pub now_same : settled qs at ≡ settled ps at
    now_same = settled_same qs at rising now_cursor ∙ is

    pub now_kept : (now : Bool) → AreKept qs u visible shown at now
    now_kept now = kept_same qs u visible shown at now rising now_counted now_cursor
