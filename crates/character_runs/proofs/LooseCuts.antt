-- How many runs stand apart for none of some characters, after a run is cut or has other states.
use Rattle.std.proofs.Common.{◌≡◌, ℕ, ◌+◌, ◌-◌, ◌≤◌, inl, inr, Bool, true, false, List, [], ◌∷◌, ◌++◌, Contains, refl, sym, ap, ◌∙◌, arith}
use Rattle.ew_model.specs.declared.node.Node.{Node}
use Rattle.ew_model.specs.declared.node.Node.TheVariants.{Root, Base, Event}
use Rattle.walker_record.specs.Stretches.{Stretch, node_on}
use Rattle.order_tree.specs.Pairs.{IsRising, changed, runs}
use Rattle.character_runs.specs.Loose.{loose_in, MayBeCut}
use Rattle.character_runs.proofs.Places.{on_on}
use Rattle.character_runs.proofs.PartedRuns.{parted}
use Rattle.character_runs.proofs.ChangedPairs.{changed_is}
use Rattle.character_runs.proofs.Splits.{runs-append}
use Rattle.character_runs.proofs.LooseRuns.{cut_loose, cut_ahead, cut_behind, loose_same}

-- the node ahead is one
pub one_back : (v w : Node) → node_on v 1 ≡ node_on w 1 → v ≡ w
one_back Root Root e = refl
one_back Root (Base j) e = absurd (cc)
one_back Root (Event j) e = absurd (cc)
one_back (Base i) Root e = absurd (cc)
one_back (Base i) (Base j) e = let same : i + 1 ≡ j + 1 = cc in let is : i ≡ j = omega (arith, same) in ap Base is
one_back (Base i) (Event j) e = absurd (cc)
one_back (Event i) Root e = absurd (cc)
one_back (Event i) (Base j) e = absurd (cc)
one_back (Event i) (Event j) e = let same : i + 1 ≡ j + 1 = cc in let is : i ≡ j = omega (arith, same) in ap Event is

module _ (among : Node → Bool) (old new : List Stretch) where
  pub may_loose : (v : Node) → MayBeCut old new v → loose_in among new ≤ loose_in among old + 1
  may_loose v (inl e) = let same = ap (loose_in among) e in omega (arith, same)
  may_loose v (inr h) =
      let was = ap (loose_in among) h.was in
      let now = ap (loose_in among) h.now in
      let le = cut_loose among h.run h.at h.some h.inside false h.front h.back in
      omega (arith, was, now, le)

  pub may_ahead : (v : Node) → MayBeCut old new v → among v ≡ true → loose_in among new ≤ loose_in among old
  may_ahead v (inl e) is = let same = ap (loose_in among) e in omega (arith, same)
  may_ahead v (inr h) is =
      let was = ap (loose_in among) h.was in
      let now = ap (loose_in among) h.now in
      let le = cut_ahead among h.run h.at h.some h.inside false h.front h.back (ap among h.node ∙ is) in
      omega (arith, was, now, le)

  pub may_behind : (v : Node) → MayBeCut old new (node_on v 1) → among v ≡ true → loose_in among new ≤ loose_in among old
  may_behind v (inl e) is = let same = ap (loose_in among) e in omega (arith, same)
  may_behind v (inr h) is =
      let was = ap (loose_in among) h.was in
      let now = ap (loose_in among) h.now in
      let some = h.some in
      let place : h.at - 1 + 1 ≡ h.at = omega (arith, some) in
      let last : node_on h.run.from (h.at - 1) ≡ v = one_back (node_on h.run.from (h.at - 1)) v (on_on h.run.from (h.at - 1) 1 ∙ ap (node_on h.run.from) place ∙ h.node) in
      let le = cut_behind among h.run h.at h.some h.inside false h.front h.back (ap among last ∙ is) in
      omega (arith, was, now, le)

-- other states of a run
pub changed_loose : (among : Node → Bool) (ps : List (ℕ × Stretch)) (label : ℕ) (was now : Stretch) → IsRising ps → Contains ps (label, was) → now.from ≡ was.from → now.len ≡ was.len
    → loose_in among (runs (changed ps label now)) ≡ loose_in among (runs ps)
changed_loose among ps label was now rising held from len =
    let at = parted ps label was rising held in
    ap (λ (xs : List (ℕ × Stretch)). loose_in among (runs xs)) (changed_is label now ps was at)
    ∙ ap (loose_in among) (runs-append at.front (((label, now) ∷ []) ++ at.back))
    ∙ loose_same among false (runs at.front) (runs at.back) now was from len
    ∙ ap (loose_in among) (sym (runs-append at.front (((label, was) ∷ []) ++ at.back)))
    ∙ ap (λ (xs : List (ℕ × Stretch)). loose_in among (runs xs)) (sym at.is)
