-- Runs whose characters are as they are where no event is prepared.
use Rattle.std.proofs.Common.{◌≡◌, ℕ, zero, suc, ◌+◌, ◌<◌, ◌≤◌, Bool, true, false, cond, List, [], ◌∷◌, ◌++◌, All, Contains, map, filter, length, unwrap_or, nat_lt, refl, sym, ap, ◌∙◌, subst, append_assoc, arith}
use Rattle.std.proofs.lemmas.Bool.{ltb-true, ltb-false, lt-ltb}
use Rattle.std.proofs.lemmas.List.{map-append}
use Rattle.std.proofs.lemmas.List.Elements.{All-contains, All-head, All-tail, Contains-append_right}
use Rattle.ew_model.specs.declared.node.Node.{Node}
use Rattle.ew_model.specs.declared.node.Node.TheVariants.{Root, Base, Event}
use Rattle.walker_record.specs.Stretches.{Stretch, node_on, states_from, prepared_of}
use Rattle.order_tree.specs.Pairs.{EndsWith, IsRising, changed, first_label, greater, labels, lower, next_label}
use Rattle.order_tree.proofs.PairLaws.{All_right}
use Rattle.character_runs.specs.declared.labels.Labels.{Labels}
use Rattle.character_runs.specs.declared.runs.resting.Labelled.{Labelled}
use Rattle.character_runs.specs.States.{shown_in}
use Rattle.character_runs.specs.Laid.{AreCounted, record_of, records_of, chars_in}
use Rattle.character_runs.specs.Resting.{at_rest, rested}
use Rattle.character_runs.proofs.AlteredChars.{recounted}
use Rattle.character_runs.proofs.ChangedPairs.{changed_is, moves_changed}
use Rattle.character_runs.proofs.ChangedRuns.{changed_laid}
use Rattle.character_runs.proofs.Counters.{counted_again}
use Rattle.character_runs.proofs.PartedRuns.{Parted, parted, parted_by, lower_is}
use Rattle.character_runs.proofs.RunChars.{one}
use Rattle.character_runs.proofs.Settled.{changed_same}

-- a run with its label, at rest
abbrev pub pair_at_rest : ℕ × Stretch → ℕ × Stretch
pair_at_rest p = (p.0, rested p.1)

-- the runs behind this one are at rest, and the others are as they were
pub record IsNext (old now : List (ℕ × Stretch)) (at : Labelled) : Type 0 where
  pub front : List (ℕ × Stretch)
  pub back : List (ℕ × Stretch)
  pub was : old ≡ front ++ (at.label, at.run) ∷ back
  pub is : now ≡ front ++ (at.label, at.run) ∷ map pair_at_rest back

-- those from this label on are at rest
pub record IsDown (old now : List (ℕ × Stretch)) (label : ℕ) : Type 0 where
  pub front : List (ℕ × Stretch)
  pub back : List (ℕ × Stretch)
  pub was : old ≡ front ++ back
  pub is : now ≡ front ++ map pair_at_rest back
  pub left : lower now label ≡ front
  pub below : All (λ p. p.0 < label) front

-- CHARACTERS
still_on : (v : Node) → at_rest (node_on v 1) ≡ at_rest v
still_on Root = refl
still_on (Base i) = refl
still_on (Event i) = refl

rested_in : (n : ℕ) (v : Node) (p q : ℕ) (e : Bool) → q ≡ at_rest v → map record_of (states_from v n q e) ≡ map rested (map record_of (states_from v n p e))
rested_in zero v p q e is = refl
rested_in (suc n) v p q e is =
    let first : one v q e ≡ one v (at_rest v) e = ap (λ (k : ℕ). one v k e) is in
    let rest = rested_in n (node_on v 1) p q e (is ∙ sym (still_on v)) in
    λ i. first i ∷ rest i

rested_records : (r : Stretch) → records_of (rested r) ≡ map rested (records_of r)
rested_records r = rested_in r.len r.from r.prepared (at_rest r.from) r.effect refl

pub rested_chars : (ps : List (ℕ × Stretch)) → chars_in (map pair_at_rest ps) ≡ map rested (chars_in ps)
rested_chars [] = refl
rested_chars (p ∷ ps) = (λ i. rested_records p.1 i ++ rested_chars ps i) ∙ sym (map-append rested (records_of p.1) (chars_in ps))

-- as many are in the text
pub rested_shown : (rs : List Stretch) → shown_in (map rested rs) ≡ shown_in rs
rested_shown [] = refl
rested_shown (r ∷ rs) = by r.effect (rested_shown rs)
  where
    is_shown : Stretch → Bool
    is_shown x = x.effect

    by : (b : Bool) → shown_in (map rested rs) ≡ shown_in rs → length (cond b (rested r ∷ filter is_shown (map rested rs)) (filter is_shown (map rested rs))) ≡ length (cond b (r ∷ filter is_shown rs) (filter is_shown rs))
    by true e = ap suc e
    by false e = e

-- A RUN
-- one that is at rest already changes none
pub rest_keeps : (ps : List (ℕ × Stretch)) (label : ℕ) (run : Stretch) → IsRising ps → Contains ps (label, run) → run.prepared ≡ at_rest run.from → ps ≡ changed ps label (rested run)
rest_keeps ps label run rising held is =
    let same : rested run ≡ run = ap (λ (k : ℕ). record { from = run.from; len = run.len; prepared = k; effect = run.effect }) (sym is) in
    sym (ap (changed ps label) same ∙ changed_same label run ps rising held)

-- another keeps to the counts
pub run_counted : (ps : List (ℕ × Stretch)) (t : Labels) (visible count label : ℕ) (was now : Stretch) → IsRising ps → AreCounted ps t visible (shown_in (chars_in ps)) → Contains ps (label, was)
    → now.from ≡ was.from → now.len ≡ was.len → count + prepared_of was ≡ visible + prepared_of now → AreCounted (changed ps label now) t count (shown_in (chars_in (changed ps label now)))
run_counted ps t visible count label was now rising so held from len is =
    let qs = changed ps label now in
    let again = recounted ps rising label was now held len in
    counted_again ps t visible (shown_in (chars_in ps)) so qs (record { before = was; after = now }) again t count (shown_in (chars_in qs))
    (changed_laid ps qs t label was now so.labelled held (moves_changed label now ps was rising held) from len) is again.shown

-- THE WAY DOWN
pub down_begun : (ps : List (ℕ × Stretch)) (at : Labelled) → EndsWith ps at.label at.run → IsNext ps ps at
down_begun ps at ends = record { front = ends.0; back = []; was = ends.1; is = ends.1 }

pub down_held : (old now : List (ℕ × Stretch)) (at : Labelled) → IsNext old now at → Contains now (at.label, at.run)
down_held old now at d =
    let one : ℕ × Stretch = (at.label, at.run) in
    subst (λ (xs : List (ℕ × Stretch)). Contains xs one) (sym d.is) (Contains-append_right d.front (one ∷ map pair_at_rest d.back) one (0, omega arith, refl))

-- one more is at rest
module _ (old now new : List (ℕ × Stretch)) (at : Labelled) (rising : IsRising now) (rises : IsRising new) (d : IsNext old now at) (changes : new ≡ changed now at.label (rested at.run)) where
  new_is : new ≡ d.front ++ (at.label, rested at.run) ∷ map pair_at_rest d.back
  new_is = changes ∙ changed_is at.label (rested at.run) now at.run (parted_by now d.front (map pair_at_rest d.back) at.label at.run rising d.is)

  abbrev parts : Parted new at.label (rested at.run)
  parts = parted_by new d.front (map pair_at_rest d.back) at.label (rested at.run) rises new_is

  pub down_on : IsDown old new at.label
  down_on = record {
    front = d.front;
    back = (at.label, at.run) ∷ d.back;
    was = d.was;
    is = new_is;
    left = lower_is new at.label (rested at.run) parts;
    below = parts.below;
  }

-- another is left, or none
module _ (old now : List (ℕ × Stretch)) (label : ℕ) (d : IsDown old now label) where
  pub down_end : lower now label ≡ [] → now ≡ map pair_at_rest old
  down_end none =
      let first : d.front ≡ [] = sym d.left ∙ none in
      d.is ∙ ap (λ (xs : List (ℕ × Stretch)). xs ++ map pair_at_rest d.back) first ∙ sym (ap (map pair_at_rest) (d.was ∙ ap (λ (xs : List (ℕ × Stretch)). xs ++ d.back) first))

  module _ (next : Labelled) (ends : EndsWith (lower now label) next.label next.run) where
    abbrev own : ℕ × Stretch
    own = (next.label, next.run)

    last : d.front ≡ ends.0 ++ own ∷ []
    last = sym d.left ∙ ends.1

    pub down_next : IsNext old now next
    down_next = record {
      front = ends.0;
      back = d.back;
      was = d.was ∙ ap (λ (xs : List (ℕ × Stretch)). xs ++ d.back) last ∙ append_assoc ends.0 (own ∷ []) d.back;
      is = d.is ∙ ap (λ (xs : List (ℕ × Stretch)). xs ++ map pair_at_rest d.back) last ∙ append_assoc ends.0 (own ∷ []) (map pair_at_rest d.back);
    }

    pub down_falls : next.label < label
    down_falls =
        let there : Contains d.front own = subst (λ (xs : List (ℕ × Stretch)). Contains xs own) (sym last) (Contains-append_right ends.0 (own ∷ []) own (0, omega arith, refl)) in
        All-contains (λ p. p.0 < label) d.front own d.below there

-- THE GREATEST LABEL
module _ {R : Type 0} (low : ℕ) where
  -- no run has it where it is free
  pub none_greatest : (ps : List (ℕ × R)) → All (λ p. p.0 < low + 2) ps → low + 1 < next_label (low + 2) ps low → lower ps (low + 1) ≡ ps
  none_greatest [] below room = refl
  none_greatest (p ∷ ps) below room = by (λ lt. none_greatest ps (All-tail (λ q. q.0 < low + 2) p ps below) lt) (nat_lt low p.0) refl room
    where
      by : (low + 1 < next_label (low + 2) ps low → lower ps (low + 1) ≡ ps) → (b : Bool) → nat_lt low p.0 ≡ b → low + 1 < unwrap_or (first_label (cond b (p ∷ greater ps low) (greater ps low))) (low + 2)
          → lower (p ∷ ps) (low + 1) ≡ p ∷ ps
      by rest true e lt = let high = All-head (λ q. q.0 < low + 2) p ps below in absurd (omega (arith, lt, high))
      by rest false e lt =
          let le : p.0 ≤ low = ltb-false low p.0 e in
          let here : nat_lt p.0 (low + 1) ≡ true = lt-ltb p.0 (low + 1) (omega (arith, le)) in
          ap (λ (b : Bool). cond b (p ∷ lower ps (low + 1)) (lower ps (low + 1))) here ∙ ap (λ (xs : List (ℕ × R)). p ∷ xs) (rest lt)

  -- else one has it
  pub has_greatest : (ps : List (ℕ × R)) → All (λ p. p.0 < low + 2) ps → (low + 1 < next_label (low + 2) ps low → ⊥) → Contains (labels ps) (low + 1)
  has_greatest [] below full = absurd (full (omega arith))
  has_greatest (p ∷ ps) below full = by (λ full. has_greatest ps (All-tail (λ q. q.0 < low + 2) p ps below) full) (nat_lt low p.0) refl full
    where
      by : ((low + 1 < next_label (low + 2) ps low → ⊥) → Contains (labels ps) (low + 1)) → (b : Bool) → nat_lt low p.0 ≡ b → (low + 1 < unwrap_or (first_label (cond b (p ∷ greater ps low) (greater ps low))) (low + 2) → ⊥)
          → Contains (labels (p ∷ ps)) (low + 1)
      by rest true e full =
          let above : low < p.0 = ltb-true low p.0 e in
          let is : p.0 ≡ low + 1 = omega (arith, above, full) in
          (0, omega arith, is)
      by rest false e full = Contains-append_right (p.0 ∷ []) (labels ps) (low + 1) (rest full)

  none_back : (ps : List (ℕ × R)) → All (λ p. low + 1 < p.0) ps → All (λ p. p.0 < low + 2) ps → ps ≡ []
  none_back [] above below = refl
  none_back (p ∷ ps) above below =
      let one = All-head (λ p. low + 1 < p.0) p ps above in
      let other = All-head (λ p. p.0 < low + 2) p ps below in
      absurd (omega (arith, one, other))

  -- and is the last
  pub greatest_last : (ps : List (ℕ × R)) (run : R) → IsRising ps → All (λ p. p.0 < low + 2) ps → Contains ps (low + 1, run) → EndsWith ps (low + 1) run
  greatest_last ps run rising below held =
      let at = parted ps (low + 1) run rising held in
      let one : List (ℕ × R) = (low + 1, run) ∷ [] in
      let all : All (λ p. p.0 < low + 2) (at.front ++ (one ++ at.back)) = subst (λ (xs : List (ℕ × R)). All (λ p. p.0 < low + 2) xs) at.is below in
      let high = All_right (λ p. p.0 < low + 2) one at.back (All_right (λ p. p.0 < low + 2) at.front (one ++ at.back) all) in
      (at.front, at.is ∙ ap (λ (xs : List (ℕ × R)). at.front ++ (low + 1, run) ∷ xs) (none_back at.back at.above high))
