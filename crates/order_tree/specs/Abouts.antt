-- New labels for the runs about a place. (No public contract cites this.)
use Rattle.std.specs.Prelude.{◌≡◌, ℕ, ◌+◌, ◌*◌, ◌<◌, ◌≤◌, List, ◌++◌, length, take, unwrap_or, Contains}
use Rattle.order_tree.specs.declared.about.Tried.{Tried}
use Rattle.order_tree.specs.declared.about.Tried.TheVariants.{Given, Crowded, NoMemory}
use Rattle.order_tree.specs.Pairs.{Tree, labels, first_label}
use Rattle.order_tree.specs.Parts.{first_or_zero, all_pairs}
use Rattle.order_tree.specs.Relabels.{relabelled, renamed}

module _ {R : Type 0} where
  -- the runs of a part of the list, one of them with this label, stand under new labels, which rise by steps of two or more from one below the first label that one of them had. A step behind the last is still before the next label, or below the bound where there is no next
  pub record IsSpreadIn (bound label : ℕ) (old new : List (ℕ × R)) (given : List (ℕ × (ℕ × R))) : Type 0 where
    pub front : List (ℕ × R)
    pub was : List (ℕ × R)
    pub back : List (ℕ × R)
    pub low : ℕ
    pub step : ℕ
    pub old_is : old ≡ front ++ (was ++ back)
    pub new_is : new ≡ front ++ (relabelled step low was ++ back)
    pub given_is : given ≡ renamed step low was
    pub held : Contains (labels was) label
    pub first : low + 1 ≡ first_or_zero was
    pub wide : 2 ≤ step
    pub fits : low + (length was + 1) * step < unwrap_or (first_label back) bound

  -- new labels were given so, or all is as it was, and the answer counts the runs or says that there is no memory
  abbrev pub IsTried : ℕ → ℕ → Tree R → Tree R → Tried R → Type 0
  IsTried bound label old new (Given given) = IsSpreadIn bound label old.pairs new.pairs given.items
  IsTried bound label old new (Crowded count) = (new ≡ old) × (count ≡ length old.pairs)
  IsTried bound label old new NoMemory = new ≡ old

  -- no more visits than these: fewer than two for each run where the answer counts the runs, and else four for each, and one for each level
  abbrev pub IsWithin : Tree R → ℕ → ℕ → Tried R → Type 0
  IsWithin t before after (Given given) = after ≤ before + (t.depth + 4 * length t.pairs)
  IsWithin t before after (Crowded count) = after + 1 ≤ before + 2 * length t.pairs
  IsWithin t before after NoMemory = after ≤ before + (t.depth + 4 * length t.pairs)

  -- the runs of the first k branches are counted, with a visit for each sixteen of them, and at most two for each, one less for each branch
  pub record IsCounting (k : ℕ) (kids : List (Tree R)) (count before visits : ℕ) : Type 0 where
    pub count_is : count ≡ length (all_pairs (λ t. t.pairs) (take k kids))
    pub some : count + 16 * before ≤ 16 * visits
    pub cost : visits + k ≤ before + 2 * count

  -- nothing more was visited where the answer counts the runs
  abbrev pub IsIdle : ℕ → ℕ → Tried R → Type 0
  IsIdle before after (Given given) = Unit {0}
  IsIdle before after (Crowded count) = after ≡ before
  IsIdle before after NoMemory = Unit {0}
