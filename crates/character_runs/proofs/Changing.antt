-- The record of a character that is a run of its own, before and after a change.
use Rattle.std.proofs.Common.{◌≡◌, ℕ, ◌<◌, Bool, true, false, List, refl, sym, ap, ◌∙◌, arith}
use Rattle.ew_model.specs.declared.node.Node.{Node}
use Rattle.walker_record.specs.Stretches.{Stretch, node_on}
use Rattle.character_runs.specs.declared.change.Change.{Change}
use Rattle.character_runs.specs.declared.change.Change.TheVariants.{Raise, Lower, Strike}
use Rattle.character_runs.specs.States.{changed}
use Rattle.fugue_place.specs.Attachments.{node_eq}
use Rattle.fugue_place.proofs.NodeLaws.{node_same, node_itself}
use Rattle.character_runs.specs.Laid.{Stands, IsOffset, BeginsRun, EndsRun}
use Rattle.character_runs.specs.Replacing.{AreNodesOf}
use Rattle.character_runs.proofs.RunChars.{node_on_none}

pub change_from : (change : Change) (r : Stretch) → (changed change r).from ≡ r.from
change_from Raise r = refl
change_from Lower r = refl
change_from Strike r = refl

pub change_len : (change : Change) (r : Stretch) → (changed change r).len ≡ r.len
change_len Raise r = refl
change_len Lower r = refl
change_len Strike r = refl

module _ (ps : List (ℕ × Stretch)) (v : Node) (label n : ℕ) (s : Stands ps label n v) (begins : BeginsRun ps v) where
  pub first_node : s.run.from ≡ v
  first_node = sym (node_on_none s.run.from) ∙ ap (node_on s.run.from) (sym (begins label n s)) ∙ s.node

  pub only_long : EndsRun ps v → s.run.len ≡ 1
  only_long ends = let long = ends label n s in let none = begins label n s in omega (arith, long, none)

-- a run of one character
module _ (r : Stretch) (v : Node) (single : r.len ≡ 1) where
  pub lone_offset : r.from ≡ v → IsOffset r v 0
  lone_offset from = (omega (arith, single), node_on_none r.from ∙ from)

  pub lone_nodes : r.from ≡ v → AreNodesOf r (λ w. node_eq w v)
  lone_nodes from = record { inside = inside; outside = λ w other. outside w other (node_eq w v) refl }
    where
      inside : (n : ℕ) → n < r.len → node_eq (node_on r.from n) v ≡ true
      inside n lt =
          let none : n ≡ 0 = omega (arith, lt, single) in
          ap (λ (w : Node). node_eq w v) (ap (node_on r.from) none ∙ node_on_none r.from ∙ from) ∙ node_itself v

      outside : (w : Node) → ((n : ℕ) → n < r.len → node_on r.from n ≡ w → ⊥) → (b : Bool) → node_eq w v ≡ b → b ≡ false
      outside w other true e = absurd (other 0 (omega (arith, single)) (node_on_none r.from ∙ from ∙ sym (node_same w v e)))
      outside w other false e = refl
