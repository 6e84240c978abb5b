-- Whether a node is inserted, by where its character stands.
use Rattle.std.proofs.Common.{◌≡◌, ℕ, zero, suc, ◌+◌, ◌<◌, Bool, true, false, ◌&&◌, ◌||◌, List, [], ◌∷◌, ◌++◌, map, Contains, nat_lt, refl, sym, ap, ◌∙◌, subst, arith}
use Rattle.std.specs.List.{list_any}
use Rattle.std.proofs.lemmas.List.Elements.{All-contains, Contains-append_left, Contains-append_right}
use Rattle.std.proofs.lemmas.List.Folds.{list_any-append}
use Rattle.ew_model.specs.declared.node.Node.{Node}
use Rattle.walker_record.specs.Stretches.{Stretch, node_on, states_from}
use Rattle.fugue_place.specs.Attachments.{node_eq}
use Rattle.fugue_place.proofs.NodeLaws.{node_itself}
use Rattle.order_tree.specs.Pairs.{IsRising}
use Rattle.character_runs.specs.declared.labels.Labels.{Labels}
use Rattle.character_runs.specs.States.{is_of, is_inserted, knows}
use Rattle.character_runs.specs.Laid.{Stands, AreLabelled, record_of, records_of, chars_in}
use Rattle.character_runs.proofs.CutRuns.{unlike}
use Rattle.character_runs.proofs.Moves.{is_first}
use Rattle.character_runs.proofs.PartedRuns.{Parted, parted}
use Rattle.character_runs.proofs.Places.{one_label, on_on}
use Rattle.character_runs.proofs.RunChars.{one, node_on_none, chars-append}

next_to : (k : ℕ) → 1 + k ≡ suc k
next_to k = omega arith

module _ (v : Node) where
  -- the node's record, of an inserted character
  abbrev tells : Stretch → Bool
  tells r = is_of v r && is_inserted r

  -- A RUN
  none_in : (n : ℕ) (w : Node) (p : ℕ) (e : Bool) → ((k : ℕ) → k < n → node_on w k ≡ v → ⊥) → list_any tells (map record_of (states_from w n p e)) ≡ false
  none_in zero w p e none = refl
  none_in (suc n) w p e none =
      let other : node_eq w v ≡ false = unlike w v (λ is. none 0 (omega arith) (node_on_none w ∙ is)) in
      ap (λ (b : Bool). (b && nat_lt 0 p) || list_any tells (map record_of (states_from (node_on w 1) n p e))) other
      ∙ none_in n (node_on w 1) p e (λ k lt is. none (suc k) (omega (arith, lt)) (ap (node_on w) (sym (next_to k)) ∙ sym (on_on w 1 k) ∙ is))

  or_true : (b : Bool) → (b || true) ≡ true
  or_true true = refl
  or_true false = refl

  and_false : (b : Bool) → (b && false) ≡ false
  and_false true = refl
  and_false false = refl

  one_in : (n k : ℕ) (w : Node) (p : ℕ) (e : Bool) → nat_lt 0 p ≡ true → k < n → node_on w k ≡ v → list_any tells (map record_of (states_from w n p e)) ≡ true
  one_in zero k w p e some lt is = absurd (omega (arith, lt))
  one_in (suc n) zero w p e some lt is =
      let own : node_eq w v ≡ true = ap (λ (u : Node). node_eq u v) (sym (node_on_none w) ∙ is) ∙ node_itself v in
      λ i. (own i && some i) || list_any tells (map record_of (states_from (node_on w 1) n p e))
  one_in (suc n) (suc k) w p e some lt is =
      ap (λ (b : Bool). tells (one w p e) || b) (one_in n k (node_on w 1) p e some (omega (arith, lt)) (on_on w 1 k ∙ ap (node_on w) (next_to k) ∙ is)) ∙ or_true (tells (one w p e))

  unknown_in : (n : ℕ) (w : Node) (p : ℕ) (e : Bool) → nat_lt 0 p ≡ false → list_any tells (map record_of (states_from w n p e)) ≡ false
  unknown_in zero w p e un = refl
  unknown_in (suc n) w p e un =
      ap (λ (b : Bool). (node_eq w v && b) || list_any tells (map record_of (states_from (node_on w 1) n p e))) un
      ∙ ap (λ (b : Bool). b || list_any tells (map record_of (states_from (node_on w 1) n p e))) (and_false (node_eq w v)) ∙ unknown_in n (node_on w 1) p e un

  in_run : (r : Stretch) (k : ℕ) → k < r.len → node_on r.from k ≡ v → list_any tells (records_of r) ≡ nat_lt 0 r.prepared
  in_run r k lt is = by (nat_lt 0 r.prepared) refl
    where
      by : (b : Bool) → nat_lt 0 r.prepared ≡ b → list_any tells (records_of r) ≡ nat_lt 0 r.prepared
      by true e = one_in r.len k r.from r.prepared r.effect e lt is ∙ sym e
      by false e = unknown_in r.len r.from r.prepared r.effect e ∙ sym e

  -- ALL RUNS
  none_of : (qs : List (ℕ × Stretch)) → ((l : ℕ) (r : Stretch) → Contains qs (l, r) → (k : ℕ) → k < r.len → node_on r.from k ≡ v → ⊥) → list_any tells (chars_in qs) ≡ false
  none_of [] none = refl
  none_of (q ∷ qs) none =
      let first = none_in q.1.len q.1.from q.1.prepared q.1.effect (none q.0 q.1 (is_first q qs)) in
      let rest = none_of qs (λ l r h. none l r (Contains-append_right (q ∷ []) qs (l, r) h)) in
      list_any-append tells (records_of q.1) (chars_in qs) ∙ (λ i. first i || rest i)

  -- a node without a character isn't inserted
  pub known_nowhere : (ps : List (ℕ × Stretch)) → ((label n : ℕ) → Stands ps label n v → ⊥) → knows (chars_in ps) v ≡ false
  known_nowhere ps none = none_of ps (λ l r h k lt is. none l k (record { run = r; held = h; inside = lt; node = is }))

  -- one with a character is as its run is
  pub known_there : (ps : List (ℕ × Stretch)) (t : Labels) (label n : ℕ) (run : Stretch) → AreLabelled ps t → IsRising ps → Contains ps (label, run) → n < run.len → node_on run.from n ≡ v
      → knows (chars_in ps) v ≡ nat_lt 0 run.prepared
  known_there ps t label n run laid rising held lt is =
      ap (λ (qs : List (ℕ × Stretch)). list_any tells (chars_in qs)) at.is ∙ ap (list_any tells) (chars-append at.front (((label, run) ∷ []) ++ at.back))
      ∙ list_any-append tells (chars_in at.front) (records_of run ++ chars_in at.back)
      ∙ (λ i. before i || (list_any-append tells (records_of run) (chars_in at.back) ∙ (λ j. in_run run n lt is j || behind j)) i) ∙ or_none (nat_lt 0 run.prepared)
    where
      at : Parted ps label run
      at = parted ps label run rising held

      here : Stands ps label n v
      here = record { run = run; held = held; inside = lt; node = is }

      or_none : (b : Bool) → (b || false) ≡ b
      or_none true = refl
      or_none false = refl

      other : (l : ℕ) (r : Stretch) → Contains ps (l, r) → (l ≡ label → ⊥) → (k : ℕ) → k < r.len → node_on r.from k ≡ v → ⊥
      other l r h differs k inside e = differs (one_label ps t laid v l label k n (record { run = r; held = h; inside = inside; node = e }) here)

      before : list_any tells (chars_in at.front) ≡ false
      before =
          none_of at.front
          (λ l r h. let low = All-contains (λ p. p.0 < label) at.front (l, r) at.below h in
          other l r (subst (λ (xs : List (ℕ × Stretch)). Contains xs (l, r)) (sym at.is) (Contains-append_left at.front (((label, run) ∷ []) ++ at.back) (l, r) h)) (λ e. omega (arith, low, e)))

      behind : list_any tells (chars_in at.back) ≡ false
      behind =
          none_of at.back
          (λ l r h. let high = All-contains (λ p. label < p.0) at.back (l, r) at.above h in
          other l r
          (subst (λ (xs : List (ℕ × Stretch)). Contains xs (l, r)) (sym at.is)
          (Contains-append_right at.front (((label, run) ∷ []) ++ at.back) (l, r) (Contains-append_right ((label, run) ∷ []) at.back (l, r) h))) (λ e. omega (arith, high, e)))
