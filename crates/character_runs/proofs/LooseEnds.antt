-- How many runs stand apart for none of some characters, after the last character of a run went over to others behind it.
use Rattle.std.proofs.Common.{◌≡◌, ℕ, ◌+◌, ◌-◌, ◌<◌, ◌≤◌, Bool, true, ◌&&◌, List, ◌∷◌, ◌++◌, nat_lt, sym, ap, ◌∙◌, arith}
use Rattle.std.proofs.lemmas.Bool.{lt-ltb}
use Rattle.ew_model.specs.declared.node.Node.{Node}
use Rattle.walker_record.specs.Stretches.{Stretch, node_on}
use Rattle.character_runs.specs.Cursors.{last_of, shorter, struck_with}
use Rattle.character_runs.specs.Loose.{begins_in, ends_in, loose_behind}
use Rattle.character_runs.proofs.Places.{on_on}
use Rattle.character_runs.proofs.LooseRuns.{one_of, one_most, one_none, ends_of, loose-append, begins_first}

module _ (among : Node → Bool) (run : Stretch) (long : 1 < run.len) (n : ℕ) (b : Bool) (front back : List Stretch) where
  abbrev struck : Stretch
  struck = struck_with (last_of run) n

  -- those that begin with the character
  abbrev between : ℕ
  between = one_of (ends_in among (shorter run)) (begins_in among struck)

  same_begin : begins_in among (shorter run) ≡ begins_in among run
  same_begin = begins_first among run (run.len - 1) (omega (arith, long)) (omega (arith, long))

  none_between : among (last_of run) ≡ true → between ≡ 0
  none_between e =
      let begins : begins_in among struck ≡ true = ap (λ (c : Bool). c && among (last_of run)) (lt-ltb 0 (n + 1) (omega arith)) ∙ e in
      ap (one_of (ends_in among (shorter run))) begins ∙ one_none (ends_in among (shorter run))

  few_between : between ≤ 1
  few_between = one_most (ends_in among (shorter run)) (begins_in among struck)

  now_is : loose_behind among b (front ++ shorter run ∷ struck ∷ back) ≡ loose_behind among b front + (one_of (ends_of among b front) (begins_in among run) + (between + loose_behind among (ends_in among struck) back))
  now_is =
      let all = loose-append among b front (shorter run ∷ struck ∷ back) in
      let first = ap (one_of (ends_of among b front)) same_begin in
      omega (arith, all, first)

  -- it went behind no others
  module _ (none : n ≡ 0) where
    ends_alone : ends_in among struck ≡ ends_in among run
    ends_alone =
        let one : nat_lt 0 (n + 1) ≡ true = lt-ltb 0 (n + 1) (omega arith) in
        let two : nat_lt 0 run.len ≡ true = lt-ltb 0 run.len (omega (arith, long)) in
        let place : run.len - 1 + (n + 1 - 1) ≡ run.len - 1 = omega (arith, none) in
        let last : node_on (last_of run) (n + 1 - 1) ≡ last_of run = on_on run.from (run.len - 1) (n + 1 - 1) ∙ ap (node_on run.from) place in
        ap (λ (c : Bool). c && among (node_on (last_of run) (n + 1 - 1))) (one ∙ sym two) ∙ ap (λ (v : Node). nat_lt 0 run.len && among v) last

    alone_is : loose_behind among b (front ++ shorter run ∷ struck ∷ back) ≡ loose_behind among b (front ++ run ∷ back) + between
    alone_is =
        let now = now_is in
        let was = loose-append among b front (run ∷ back) in
        let rest = ap (λ (c : Bool). loose_behind among c back) ends_alone in
        omega (arith, now, was, rest)

    pub alone_loose : loose_behind among b (front ++ shorter run ∷ struck ∷ back) ≤ loose_behind among b (front ++ run ∷ back) + 1
    alone_loose = let is = alone_is in let few = few_between in omega (arith, is, few)

    pub alone_told : among (last_of run) ≡ true → loose_behind among b (front ++ shorter run ∷ struck ∷ back) ≤ loose_behind among b (front ++ run ∷ back)
    alone_told e = let is = alone_is in let none = none_between e in omega (arith, is, none)

  -- or ahead of these
  module _ (other : Stretch) (from : other.from ≡ node_on run.from run.len) (len : other.len ≡ n) (some : 0 < n) where
    ends_joined : ends_in among struck ≡ ends_in among other
    ends_joined =
        let one : nat_lt 0 (n + 1) ≡ true = lt-ltb 0 (n + 1) (omega arith) in
        let two : nat_lt 0 other.len ≡ true = lt-ltb 0 other.len (omega (arith, len, some)) in
        let place : run.len - 1 + (n + 1 - 1) ≡ run.len + (other.len - 1) = omega (arith, len, some, long) in
        let last : node_on (last_of run) (n + 1 - 1) ≡ node_on other.from (other.len - 1) =
        on_on run.from (run.len - 1) (n + 1 - 1) ∙ ap (node_on run.from) place ∙ sym (on_on run.from run.len (other.len - 1)) ∙ ap (λ (v : Node). node_on v (other.len - 1)) (sym from) in
        ap (λ (c : Bool). c && among (node_on (last_of run) (n + 1 - 1))) (one ∙ sym two) ∙ ap (λ (v : Node). nat_lt 0 other.len && among v) last

    joined_is : loose_behind among b (front ++ shorter run ∷ struck ∷ back) ≤ loose_behind among b (front ++ run ∷ other ∷ back) + between
    joined_is =
        let now = now_is in
        let was = loose-append among b front (run ∷ other ∷ back) in
        let rest = ap (λ (c : Bool). loose_behind among c back) ends_joined in
        omega (arith, now, was, rest)

    pub joined_loose : loose_behind among b (front ++ shorter run ∷ struck ∷ back) ≤ loose_behind among b (front ++ run ∷ other ∷ back) + 1
    joined_loose = let is = joined_is in let few = few_between in omega (arith, is, few)

    pub joined_told : among (last_of run) ≡ true → loose_behind among b (front ++ shorter run ∷ struck ∷ back) ≤ loose_behind among b (front ++ run ∷ other ∷ back)
    joined_told e = let is = joined_is in let none = none_between e in omega (arith, is, none)
