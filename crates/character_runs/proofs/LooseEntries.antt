-- How many runs stand apart for none of some characters, after one of these came in.
use Rattle.std.proofs.Common.{◌≡◌, ℕ, zero, suc, ◌+◌, ◌-◌, ◌<◌, ◌≤◌, inl, inr, Bool, true, false, List, [], ◌∷◌, ◌++◌, length, take, drop, Contains, refl, sym, ap, ◌∙◌, subst, arith, append_assoc, length-append, take-append-drop}
use Rattle.std.proofs.lemmas.List.{take_at, drop_at}
use Rattle.ew_model.specs.declared.node.Node.{Node}
use Rattle.ew_model.specs.declared.node.Node.TheVariants.{Event}
use Rattle.walker_record.specs.Stretches.{Stretch, node_on, first_part, second_part, is_continued, joined_of}
use Rattle.walker_record.specs.StretchLaws.{goes_on}
use Rattle.order_tree.specs.Pairs.{IsRising, lower, up_to, greater, inserted, changed, runs}
use Rattle.character_runs.specs.declared.labels.Labels.{Labels}
use Rattle.character_runs.specs.declared.runs.child.Child.{Child}
use Rattle.character_runs.specs.Entering.{run_of}
use Rattle.character_runs.specs.Laid.{Stands, AreLabelled}
use Rattle.character_runs.specs.Loose.{loose_behind, loose_in, loose_parted, IsCutBefore, MayBeCut}
use Rattle.character_runs.proofs.Places.{one_label, on_on}
use Rattle.character_runs.proofs.PartedRuns.{parted, lower_is}
use Rattle.character_runs.proofs.ChangedPairs.{changed_is}
use Rattle.character_runs.proofs.InsertedPairs.{parts_at}
use Rattle.character_runs.proofs.CutPairs.{greater_is}
use Rattle.character_runs.proofs.OpenedChars.{lower_opened, greater_opened}
use Rattle.character_runs.proofs.RunChars.{node_on_none}
use Rattle.character_runs.proofs.RunsAt.{At, at_held, one_number}
use Rattle.character_runs.proofs.Splits.{runs-append}
use Rattle.character_runs.proofs.CharPlaces.{up_to_is}
use Rattle.character_runs.proofs.LooseRuns.{none_more, opened_loose, came_loose, joined_loose, cut_between}
use Rattle.character_runs.proofs.LooseCuts.{one_back}

pub long_runs : (ps : List (ℕ × Stretch)) → length (runs ps) ≡ length ps
long_runs [] = refl
long_runs (p ∷ ps) = ap suc (long_runs ps)

pub parts_runs : (ps : List (ℕ × Stretch)) (label : ℕ) → IsRising ps → runs ps ≡ runs (up_to ps label) ++ runs (greater ps label)
parts_runs ps label rising = ap runs (sym (parts_at label 0 ps rising)) ∙ runs-append (up_to ps label) (greater ps label)

pub filled_runs : (ps : List (ℕ × Stretch)) (own : ℕ) (was run : Stretch) → IsRising ps → Contains ps (own, was) → runs (changed ps own run) ≡ runs (lower ps own) ++ run ∷ runs (greater ps own)
filled_runs ps own was run rising held =
    let at = parted ps own was rising held in
    ap runs (changed_is own run ps was at) ∙ runs-append at.front (((own, run) ∷ []) ++ at.back)
    ∙ sym (ap (λ (xs : List (ℕ × Stretch)). runs xs ++ run ∷ runs (greater ps own)) (lower_is ps own was at) ∙ ap (λ (xs : List (ℕ × Stretch)). runs at.front ++ run ∷ runs xs) (greater_is ps own was at))

-- the sides of a run that came in behind a label
pub opened_runs : (ps mid : List (ℕ × Stretch)) (label own : ℕ) (empty run : Stretch) → mid ≡ inserted ps label own empty → IsRising mid
    → runs (lower mid own) ++ run ∷ runs (greater mid own) ≡ runs (up_to ps label) ++ run ∷ runs (greater ps label)
opened_runs ps mid label own empty run is rises =
    let up = subst (λ (xs : List (ℕ × Stretch)). IsRising xs) is rises in
    ap (λ (xs : List (ℕ × Stretch)). runs (lower xs own) ++ run ∷ runs (greater xs own)) is
    ∙ ap (λ (xs : List (ℕ × Stretch)). runs xs ++ run ∷ runs (greater (inserted ps label own empty) own)) (lower_opened ps label own empty up)
    ∙ ap (λ (xs : List (ℕ × Stretch)). runs (up_to ps label) ++ run ∷ runs xs) (greater_opened ps label own empty up)

module _ (among : Node → Bool) where
  pub parted_is : (rs front back : List Stretch) (k : ℕ) → rs ≡ front ++ back → k ≡ length front → loose_parted among rs k ≡ loose_behind among false front + loose_behind among true back
  parted_is rs front back k is long =
      let all : loose_parted among rs k ≡ loose_parted among (front ++ back) (length front) = λ i. loose_parted among (is i) (long i) in
      all ∙ ap (λ (xs : List Stretch). loose_behind among false xs + loose_behind among true (drop (length front) (front ++ back))) (take_at front back (length front) refl)
      ∙ ap (λ (xs : List Stretch). loose_behind among false front + loose_behind among true xs) (drop_at front back (length front) refl)

  pub parted_less : (rs : List Stretch) (k : ℕ) → loose_parted among rs k ≤ loose_in among rs
  parted_less rs k =
      let less = none_more among false (take k rs) (drop k rs) in
      let same = ap (loose_in among) (take-append-drop k rs) in
      omega (arith, less, same)

  -- a run without characters, and one of the characters as a run
  module _ (ps : List (ℕ × Stretch)) (label : ℕ) (rising : IsRising ps) where
    pub empty_loose : (own : ℕ) (empty : Stretch) → empty.len ≡ 0 → loose_in among (runs (inserted ps label own empty)) ≤ loose_in among (runs ps) + 1
    empty_loose own empty none =
        let old = ap (loose_in among) (parts_runs ps label rising) in
        let new = ap (loose_in among) (runs-append (up_to ps label) ((own, empty) ∷ greater ps label)) in
        let le = opened_loose among false (runs (up_to ps label)) (runs (greater ps label)) empty none in
        omega (arith, old, new, le)

    pub inserted_told : (new : List Stretch) (run : Stretch) → new ≡ runs (up_to ps label) ++ run ∷ runs (greater ps label) → run.len ≡ 1 → among run.from ≡ true → loose_in among new ≤ loose_parted among (runs ps) (length (up_to ps label))
    inserted_told new run is one e =
        let now = ap (loose_in among) is ∙ came_loose among false (runs (up_to ps label)) (runs (greater ps label)) run one e in
        let was = parted_is (runs ps) (runs (up_to ps label)) (runs (greater ps label)) (length (up_to ps label)) (parts_runs ps label rising) (sym (long_runs (up_to ps label))) in
        omega (arith, now, was)

    -- or in the run before
    pub joined_told : (run : Stretch) → Contains ps (label, run) → (child : Child) → is_continued run (run_of child 1) ≡ true → 0 < run.len → among (Event child.position) ≡ true
        → loose_in among (runs (changed ps label (joined_of run (run_of child 1)))) ≤ loose_parted among (runs ps) (length (up_to ps label))
    joined_told run held child goes some e =
        let joined : Stretch = joined_of run (run_of child 1) in
        let at = parted ps label run rising held in
        let on = goes_on run (run_of child 1) goes in
        let first : runs (up_to ps label) ≡ runs at.front ++ run ∷ [] = ap runs (up_to_is ps rising label run held) ∙ runs-append at.front ((label, run) ∷ []) in
        let whole : runs ps ≡ (runs at.front ++ run ∷ []) ++ runs at.back =
        ap runs at.is ∙ runs-append at.front (((label, run) ∷ []) ++ at.back) ∙ sym (append_assoc (runs at.front) (run ∷ []) (runs at.back)) in
        let long : length (up_to ps label) ≡ length (runs at.front ++ run ∷ []) = sym (long_runs (up_to ps label)) ∙ ap length first in
        let now = ap (λ (xs : List (ℕ × Stretch)). loose_in among (runs xs)) (changed_is label joined ps run at) ∙ ap (loose_in among) (runs-append at.front (((label, joined) ∷ []) ++ at.back))
        ∙ joined_loose among false (runs at.front) (runs at.back) run joined some refl refl (ap among (sym on.from) ∙ e) in
        let was = parted_is (runs ps) (runs at.front ++ run ∷ []) (runs at.back) (length (up_to ps label)) whole long in
        omega (arith, now, was)

-- WHERE A RUN STANDS
at_middle : {X : Type 0} (front back : List X) (x : X) → At (front ++ x ∷ back) (length front) x
at_middle [] back x = refl
at_middle (y ∷ front) back x = at_middle front back x

pair_at : (ps : List (ℕ × Stretch)) (k : ℕ) (r : Stretch) → At (runs ps) k r → (l : ℕ) × At ps k (l, r)
pair_at [] k r h = absurd h
pair_at (p ∷ ps) zero r h = (p.0, pair p r h)
  where
    pair : (p : ℕ × Stretch) (r : Stretch) → p.1 ≡ r → p ≡ (p.0, r)
    pair p r e = let as_pair : Stretch → ℕ × Stretch = λ s. (p.0, s) in ap as_pair e
pair_at (p ∷ ps) (suc k) r h = pair_at ps k r h

module _ (qs : List (ℕ × Stretch)) (t : Labels) (laid : AreLabelled qs t) (rising : IsRising qs) (front back : List Stretch) (r : Stretch) (is : runs qs ≡ front ++ r ∷ back) (j : ℕ) (inside : j < r.len) (v : Node) (node : node_on r.from j ≡ v) where
  pub here : (l : ℕ) × At qs (length front) (l, r)
  here = pair_at qs (length front) r (subst (λ (rs : List Stretch). At rs (length front) r) (sym is) (at_middle front back r))

  pub stands_there : Stands qs here.0 j v
  stands_there = record { run = r; held = at_held qs (length front) (here.0, r) here.1; inside = inside; node = node }

  -- so many runs stand before the one with the character
  pub same_place : (label n : ℕ) (s : Stands qs label n v) → length (parted qs label s.run rising s.held).front ≡ length front
  same_place label n s =
      let at = parted qs label s.run rising s.held in
      let own = one_label qs t laid v label here.0 n j s stands_there in
      let there : At qs (length at.front) (label, s.run) = subst (λ (xs : List (ℕ × Stretch)). At xs (length at.front) (label, s.run)) (sym at.is) (at_middle at.front at.back (label, s.run)) in
      one_number 0 qs rising (length at.front) (length front) label s.run r there (subst (λ (l : ℕ). At qs (length front) (l, r)) (sym own) here.1)

module _ (among : Node → Bool) (qs : List (ℕ × Stretch)) (t : Labels) (laid : AreLabelled qs t) (rising : IsRising qs) (old : List Stretch) (v : Node) where
  last_node : (h : IsCutBefore old (runs qs) (node_on v 1)) → node_on h.run.from (h.at - 1) ≡ v
  last_node h =
      let some = h.some in
      let place : h.at - 1 + 1 ≡ h.at = omega (arith, some) in
      one_back (node_on h.run.from (h.at - 1)) v (on_on h.run.from (h.at - 1) 1 ∙ ap (node_on h.run.from) place ∙ h.node)

  regroup : (w : Node) (h : IsCutBefore old (runs qs) w) → runs qs ≡ (h.front ++ first_part h.run h.at ∷ []) ++ second_part h.run h.at ∷ h.back
  regroup w h = h.now ∙ sym (append_assoc h.front (first_part h.run h.at ∷ []) (second_part h.run h.at ∷ h.back))

  between : (w : Node) (h : IsCutBefore old (runs qs) w) (k : ℕ) → k ≡ length (h.front ++ first_part h.run h.at ∷ []) → loose_parted among (runs qs) k ≤ loose_in among old
  between w h k long =
      let is = parted_is among (runs qs) (h.front ++ first_part h.run h.at ∷ []) (second_part h.run h.at ∷ h.back) k (regroup w h) long in
      let whole = cut_between among h.run h.at h.some h.inside false h.front h.back in
      let was = ap (loose_in among) h.was in
      omega (arith, is, whole, was)

  pub behind_told : (label n : ℕ) → Stands qs label n v → MayBeCut old (runs qs) (node_on v 1) → loose_parted among (runs qs) (length (up_to qs label)) ≤ loose_in among old
  behind_told label n s (inl e) =
      let less = parted_less among (runs qs) (length (up_to qs label)) in
      let same = ap (loose_in among) e in
      omega (arith, less, same)
  behind_told label n s (inr h) =
      let some = h.some in
      let at = parted qs label s.run rising s.held in
      let place = same_place qs t laid rising h.front (second_part h.run h.at ∷ h.back) (first_part h.run h.at) h.now (h.at - 1) (omega (arith, some)) v (last_node h) label n s in
      let own : List (ℕ × Stretch) = (label, s.run) ∷ [] in
      let up = ap length (up_to_is qs rising label s.run s.held) ∙ length-append at.front own in
      let one : length own ≡ 1 = refl in
      let long = length-append h.front (first_part h.run h.at ∷ []) in
      let single : length (first_part h.run h.at ∷ []) ≡ 1 = refl in
      between (node_on v 1) h (length (up_to qs label)) (omega (arith, place, up, one, long, single))

  pub ahead_told : (label n : ℕ) → Stands qs label n v → MayBeCut old (runs qs) v → loose_parted among (runs qs) (length (lower qs label)) ≤ loose_in among old
  ahead_told label n s (inl e) =
      let less = parted_less among (runs qs) (length (lower qs label)) in
      let same = ap (loose_in among) e in
      omega (arith, less, same)
  ahead_told label n s (inr h) =
      let inside = h.inside in
      let at = parted qs label s.run rising s.held in
      let place = same_place qs t laid rising (h.front ++ first_part h.run h.at ∷ []) h.back (second_part h.run h.at) (regroup v h) 0 (omega (arith, inside)) v (node_on_none (node_on h.run.from h.at) ∙ h.node) label n s in
      let low = ap length (lower_is qs label s.run at) in
      between v h (length (lower qs label)) (low ∙ place)

  -- where the node has no character
  module _ (none : (l n : ℕ) → Stands qs l n v → ⊥) where
    no_less : runs qs ≡ old → loose_parted among (runs qs) (length (up_to qs 0)) ≤ loose_in among old
    no_less e =
        let less = parted_less among (runs qs) (length (up_to qs 0)) in
        let same = ap (loose_in among) e in
        omega (arith, less, same)

    pub first_behind_told : MayBeCut old (runs qs) (node_on v 1) → loose_parted among (runs qs) (length (up_to qs 0)) ≤ loose_in among old
    first_behind_told (inl e) = no_less e
    first_behind_told (inr h) =
        let some = h.some in
        let inside : h.at - 1 < (first_part h.run h.at).len = omega (arith, some) in
        absurd (none _ _ (stands_there qs t laid rising h.front (second_part h.run h.at ∷ h.back) (first_part h.run h.at) h.now (h.at - 1) inside v (last_node h)))

    pub first_ahead_told : MayBeCut old (runs qs) v → loose_parted among (runs qs) (length (up_to qs 0)) ≤ loose_in among old
    first_ahead_told (inl e) = no_less e
    first_ahead_told (inr h) =
        let long = h.inside in
        let inside : 0 < (second_part h.run h.at).len = omega (arith, long) in
        absurd (none _ _ (stands_there qs t laid rising (h.front ++ first_part h.run h.at ∷ []) h.back (second_part h.run h.at) (regroup v h) 0 inside v (node_on_none (node_on h.run.from h.at) ∙ h.node)))
