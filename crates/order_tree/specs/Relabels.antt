-- Runs under new labels that rise by steps. (No public contract cites this.)
use Rattle.std.specs.Prelude.{◌≡◌, ℕ, ◌+◌, ◌*◌, ◌≤◌, List, [], ◌∷◌, ◌++◌, length, take, drop, vec_capacity}
use Rattle.std.specs.declared.vec.Vec.{Vec}
use Rattle.std.specs.declared.alloc.Global.{Global}
use Rattle.order_tree.specs.Pairs.{Tree}
use Rattle.order_tree.specs.Shape.{AllBelow}
use Rattle.order_tree.specs.Parts.{all_pairs, last_known}
use Rattle.order_tree.specs.declared.relabel.Reached.{Reached}

module _ {R : Type 0} where
  -- each label one step above the one before it, the first a step above `low`
  abbrev pub relabelled : ℕ → ℕ → List (ℕ × R) → List (ℕ × R)
  relabelled step low [] = []
  relabelled step low (p ∷ ps) = (low + step, p.1) ∷ relabelled step (low + step) ps

  -- the old label of each beside the new and its run
  abbrev pub renamed : ℕ → ℕ → List (ℕ × R) → List (ℕ × (ℕ × R))
  renamed step low [] = []
  renamed step low (p ∷ ps) = (p.0, (low + step, p.1)) ∷ renamed step (low + step) ps

  -- the last of the new labels, and `low` without runs
  abbrev pub reached : ℕ → ℕ → List (ℕ × R) → ℕ
  reached step low [] = low
  reached step low (p ∷ ps) = reached step (low + step) ps

  -- the first k parts of a node have new labels, the others the old ones; of each run the old label, the new and the run are noted, and so far the labels have come
  pub record IsOnward {T : Type 0} (pairs : T → List (ℕ × R)) (known : R → ℕ) (step low k : ℕ) (old now : List T) (noted given : List (ℕ × (ℕ × R))) (at : Reached) : Type 0 where
    pub long : length now ≡ length old
    pub front : all_pairs pairs (take k now) ≡ relabelled step low (all_pairs pairs (take k old))
    pub rest : drop k now ≡ drop k old
    pub given_is : given ≡ noted ++ renamed step low (all_pairs pairs (take k old))
    pub last_is : at.last ≡ reached step low (all_pairs pairs (take k old))
    pub known_is : at.last_known ≡ last_known known (all_pairs pairs (take k now))

  -- the same of branches: they stay as deep, the list of what is noted keeps its room, there is a visit for each sixteen runs with a new label, and the visits with one more for each of the k are at most two for each such run
  pub record IsRelabelling (known : R → ℕ) (step low k : ℕ) (old now : List (Tree R)) (noted given : Vec (ℕ × (ℕ × R)) Global) (at : Reached) (before visits : ℕ) : Type 0 where
    pub onward : IsOnward (λ t. t.pairs) known step low k old now noted.items given.items at
    pub below : (d : ℕ) → AllBelow d old → AllBelow d now
    pub capacity : vec_capacity noted ≤ vec_capacity given
    pub some : length (all_pairs (λ t. t.pairs) (take k old)) + 16 * before ≤ 16 * visits
    pub cost : visits + k ≤ before + 2 * length (all_pairs (λ t. t.pairs) (take k old))
