-- How many runs stand apart for none of some characters, after runs are cut and come in.
use Rattle.std.proofs.Common.{◌≡◌, ℕ, ◌+◌, ◌-◌, ◌*◌, ◌<◌, ◌≤◌, Bool, true, false, ◌&&◌, ◌||◌, if◌then◌else◌, cond, List, [], ◌∷◌, ◌++◌, filter, length, nat_lt, refl, sym, ap, ◌∙◌, arith}
use Rattle.std.proofs.lemmas.Bool.{lt-ltb}
use Rattle.ew_model.specs.declared.node.Node.{Node}
use Rattle.ew_model.specs.declared.node.Node.TheVariants.{Root, Base, Event}
use Rattle.walker_record.specs.Stretches.{Stretch, node_on, first_part, second_part}
use Rattle.character_runs.specs.Loose.{begins_in, ends_in, loose_behind, loose_in, is_one}
use Rattle.character_runs.proofs.Places.{on_on}

-- what one run adds
abbrev pub one_of : Bool → Bool → ℕ
one_of b c = if b || c then 0 else 1

one_least : (b c : Bool) → one_of true c ≤ one_of b c
one_least b c = omega arith

pub one_most : (b c : Bool) → one_of b c ≤ 1
one_most true c = omega arith
one_most false true = omega arith
one_most false false = omega arith

pub one_none : (b : Bool) → one_of b true ≡ 0
one_none true = refl
one_none false = refl

-- COUNTS
abbrev pub counted_by : (Stretch → Bool) → List Stretch → ℕ
counted_by p rs = length (filter p rs)

head_counts : (p : Stretch → Bool) (r : Stretch) (rs : List Stretch) → counted_by p (r ∷ rs) ≡ cond (p r) 1 0 + counted_by p rs
head_counts p r rs = by (p r)
  where
    by : (c : Bool) → length (cond c (r ∷ filter p rs) (filter p rs)) ≡ cond c 1 0 + counted_by p rs
    by true = omega arith
    by false = omega arith

module _ (among : Node → Bool) where
  -- a character ahead of all makes none more loose, and at most one less
  pub loose_less : (b : Bool) (rs : List Stretch) → loose_behind among true rs ≤ loose_behind among b rs
  loose_less b [] = omega arith
  loose_less b (r ∷ rs) = let least = one_least b (begins_in among r) in omega (arith, least)

  pub loose_more : (b : Bool) (rs : List Stretch) → loose_behind among b rs ≤ loose_behind among true rs + 1
  loose_more b [] = omega arith
  loose_more b (r ∷ rs) = let most = one_most b (begins_in among r) in omega (arith, most)

  -- whether one stands right behind these
  abbrev pub ends_of : Bool → List Stretch → Bool
  ends_of b [] = b
  ends_of b (r ∷ rs) = ends_of (ends_in among r) rs

  pub loose-append : (b : Bool) (xs ys : List Stretch) → loose_behind among b (xs ++ ys) ≡ loose_behind among b xs + loose_behind among (ends_of b xs) ys
  loose-append b [] ys = omega arith
  loose-append b (x ∷ xs) ys = let rest = loose-append (ends_in among x) xs ys in omega (arith, rest)

  -- a run that is cut
  module _ (run : Stretch) (n : ℕ) (some : 0 < n) (inside : n < run.len) where
    pub begins_first : begins_in among (first_part run n) ≡ begins_in among run
    begins_first =
        let one : nat_lt 0 n ≡ true = lt-ltb 0 n some in
        let two : nat_lt 0 run.len ≡ true = lt-ltb 0 run.len (omega (arith, inside)) in
        ap (λ (b : Bool). b && among run.from) (one ∙ sym two)

    pub ends_second : ends_in among (second_part run n) ≡ ends_in among run
    ends_second =
        let one : nat_lt 0 (run.len - n) ≡ true = lt-ltb 0 (run.len - n) (omega (arith, inside)) in
        let two : nat_lt 0 run.len ≡ true = lt-ltb 0 run.len (omega (arith, inside)) in
        let last : n + (run.len - n - 1) ≡ run.len - 1 = omega (arith, inside) in
        let there : node_on (node_on run.from n) (run.len - n - 1) ≡ node_on run.from (run.len - 1) = on_on run.from n (run.len - n - 1) ∙ ap (node_on run.from) last in
        ap (λ (b : Bool). b && among (node_on (node_on run.from n) (run.len - n - 1))) (one ∙ sym two) ∙ ap (λ (v : Node). nat_lt 0 run.len && among v) there

    module _ (b : Bool) (front back : List Stretch) where
      abbrev between : ℕ
      between = one_of (ends_in among (first_part run n)) (begins_in among (second_part run n))

      -- the second part may be one more
      cut_is : loose_behind among b (front ++ first_part run n ∷ second_part run n ∷ back) ≡ loose_behind among b (front ++ run ∷ back) + between
      cut_is =
          let old = loose-append b front (run ∷ back) in
          let new = loose-append b front (first_part run n ∷ second_part run n ∷ back) in
          let first = ap (λ (c : Bool). one_of (ends_of b front) c) begins_first in
          let second = ap (λ (c : Bool). loose_behind among c back) ends_second in
          omega (arith, old, new, first, second)

      pub cut_loose : loose_behind among b (front ++ first_part run n ∷ second_part run n ∷ back) ≤ loose_behind among b (front ++ run ∷ back) + 1
      cut_loose = let is = cut_is in let most = one_most (ends_in among (first_part run n)) (begins_in among (second_part run n)) in omega (arith, is, most)

      -- but not where it begins with one of them, or stands behind one
      pub cut_ahead : among (node_on run.from n) ≡ true → loose_behind among b (front ++ first_part run n ∷ second_part run n ∷ back) ≤ loose_behind among b (front ++ run ∷ back)
      cut_ahead e =
          let is = cut_is in
          let one : nat_lt 0 (run.len - n) ≡ true = lt-ltb 0 (run.len - n) (omega (arith, inside)) in
          let both : begins_in among (second_part run n) ≡ true = ap (λ (c : Bool). c && among (node_on run.from n)) one ∙ e in
          let none : between ≡ 0 = ap (one_of (ends_in among (first_part run n))) both ∙ one_none (ends_in among (first_part run n)) in
          omega (arith, is, none)

      pub cut_behind : among (node_on run.from (n - 1)) ≡ true → loose_behind among b (front ++ first_part run n ∷ second_part run n ∷ back) ≤ loose_behind among b (front ++ run ∷ back)
      cut_behind e =
          let is = cut_is in
          let one : nat_lt 0 n ≡ true = lt-ltb 0 n some in
          let both : ends_in among (first_part run n) ≡ true = ap (λ (c : Bool). c && among (node_on run.from (n - 1))) one ∙ e in
          let none : between ≡ 0 = ap (λ (c : Bool). one_of c (begins_in among (second_part run n))) both in
          omega (arith, is, none)

      -- nor once one of them comes in between
      pub cut_between : loose_behind among b (front ++ first_part run n ∷ []) + loose_behind among true (second_part run n ∷ back) ≡ loose_behind among b (front ++ run ∷ back)
      cut_between =
          let old = loose-append b front (run ∷ back) in
          let new = loose-append b front (first_part run n ∷ []) in
          let first = ap (λ (c : Bool). one_of (ends_of b front) c) begins_first in
          let second = ap (λ (c : Bool). loose_behind among c back) ends_second in
          omega (arith, old, new, first, second)

  -- a run without characters
  pub opened_loose : (b : Bool) (front back : List Stretch) (empty : Stretch) → empty.len ≡ 0 → loose_behind among b (front ++ empty ∷ back) ≤ loose_behind among b (front ++ back) + 1
  opened_loose b front back empty none =
      let old = loose-append b front back in
      let new = loose-append b front (empty ∷ back) in
      let begins : begins_in among empty ≡ false = ap (λ (n : ℕ). nat_lt 0 n && among empty.from) none in
      let ends : ends_in among empty ≡ false = ap (λ (n : ℕ). nat_lt 0 n && among (node_on empty.from (n - 1))) none in
      let own = ap (λ (c : Bool). one_of (ends_of b front) c) begins in
      let rest = ap (λ (c : Bool). loose_behind among c back) ends in
      let all = by (ends_of b front) in
      omega (arith, old, new, own, rest, all)
    where
      by : (c : Bool) → one_of c false + loose_behind among false back ≤ loose_behind among c back + 1
      by true = let more = loose_more false back in omega (arith, more)
      by false = omega arith

  -- one of them comes in as a run
  module _ (b : Bool) (front back : List Stretch) where
    pub came_loose : (new : Stretch) → new.len ≡ 1 → among new.from ≡ true → loose_behind among b (front ++ new ∷ back) ≡ loose_behind among b front + loose_behind among true back
    came_loose new one e =
        let all = loose-append b front (new ∷ back) in
        let begins : begins_in among new ≡ true = ap (λ (n : ℕ). nat_lt 0 n && among new.from) one ∙ e in
        let first : node_on new.from 0 ≡ new.from = none new.from in
        let ends : ends_in among new ≡ true = ap (λ (n : ℕ). nat_lt 0 n && among (node_on new.from (n - 1))) one ∙ ap among first ∙ e in
        let own : one_of (ends_of b front) (begins_in among new) ≡ 0 = ap (one_of (ends_of b front)) begins ∙ one_none (ends_of b front) in
        let rest = ap (λ (c : Bool). loose_behind among c back) ends in
        omega (arith, all, own, rest)
      where
        none : (v : Node) → node_on v 0 ≡ v
        none Root = refl
        none (Base i) = let same : i + 0 ≡ i = omega arith in ap Base same
        none (Event i) = let same : i + 0 ≡ i = omega arith in ap Event same

    -- or behind the characters of one
    pub joined_loose : (run joined : Stretch) → 0 < run.len → joined.from ≡ run.from → joined.len ≡ run.len + 1 → among (node_on run.from run.len) ≡ true
        → loose_behind among b (front ++ joined ∷ back) ≡ loose_behind among b (front ++ run ∷ []) + loose_behind among true back
    joined_loose run joined some from long e =
        let old = loose-append b front (run ∷ []) in
        let new = loose-append b front (joined ∷ back) in
        let one : nat_lt 0 joined.len ≡ true = lt-ltb 0 joined.len (omega (arith, long)) in
        let two : nat_lt 0 run.len ≡ true = lt-ltb 0 run.len some in
        let begins : begins_in among joined ≡ begins_in among run = ap (λ (c : Bool). c && among joined.from) (one ∙ sym two) ∙ ap (λ (v : Node). nat_lt 0 run.len && among v) from in
        let place : joined.len - 1 ≡ run.len = omega (arith, long) in
        let last : node_on joined.from (joined.len - 1) ≡ node_on run.from run.len = ap (λ (v : Node). node_on v (joined.len - 1)) from ∙ ap (node_on run.from) place in
        let ends : ends_in among joined ≡ true = ap (λ (c : Bool). c && among (node_on joined.from (joined.len - 1))) one ∙ ap among last ∙ e in
        let own = ap (one_of (ends_of b front)) begins in
        let rest = ap (λ (c : Bool). loose_behind among c back) ends in
        omega (arith, old, new, own, rest)

    -- so it adds none
    pub none_more : loose_behind among b front + loose_behind among true back ≤ loose_behind among b (front ++ back)
    none_more = let all = loose-append b front back in let less = loose_less (ends_of b front) back in omega (arith, all, less)

  -- one run for another of the same nodes
  pub loose_same : (b : Bool) (front back : List Stretch) (x y : Stretch) → x.from ≡ y.from → x.len ≡ y.len → loose_behind among b (front ++ x ∷ back) ≡ loose_behind among b (front ++ y ∷ back)
  loose_same b front back x y from len =
      let one = loose-append b front (x ∷ back) in
      let two = loose-append b front (y ∷ back) in
      let begins : begins_in among x ≡ begins_in among y = ap (λ (n : ℕ). nat_lt 0 n && among x.from) len ∙ ap (λ (v : Node). nat_lt 0 y.len && among v) from in
      let ends : ends_in among x ≡ ends_in among y = ap (λ (n : ℕ). nat_lt 0 n && among (node_on x.from (n - 1))) len ∙ ap (λ (v : Node). nat_lt 0 y.len && among (node_on v (y.len - 1))) from in
      let own = ap (λ (c : Bool). one_of (ends_of b front) c) begins in
      let rest = ap (λ (c : Bool). loose_behind among c back) ends in
      omega (arith, one, two, own, rest)

  -- ALL RUNS
  some_one : (b c : Bool) → 1 ≤ one_of b c + (cond b 1 0 + cond c 1 0)
  some_one true c = omega arith
  some_one false true = omega arith
  some_one false false = omega arith

  -- each is loose, begins with one of them, or stands right behind one
  pub all_runs : (b : Bool) (rs : List Stretch) → length rs ≤ loose_behind among b rs + (counted_by (begins_in among) rs + counted_by (ends_in among) rs + cond b 1 0)
  all_runs b [] = omega arith
  all_runs b (r ∷ rs) =
      let rest = all_runs (ends_in among r) rs in
      let begins = head_counts (begins_in among) r rs in
      let ends = head_counts (ends_in among) r rs in
      let own = some_one b (begins_in among r) in
      omega (arith, rest, begins, ends, own)

pub counted_none : (p : Stretch → Bool) (r : Stretch) (rs : List Stretch) → (p r ≡ true → ⊥) → counted_by p rs ≡ 0 → counted_by p (r ∷ rs) ≡ 0
counted_none p r rs not none = by (p r) refl
  where
    by : (c : Bool) → p r ≡ c → counted_by p (r ∷ rs) ≡ 0
    by true e = absurd (not e)
    by false e = let all = head_counts p r rs in let own = ap {B = ℕ} (λ (c : Bool). cond c 1 0) e in omega (arith, all, own, none)

-- ONE RUN FOR EACH OF SOME CHARACTERS
or_most : (b c : Bool) → cond (b || c) 1 0 ≤ cond b 1 0 + cond c 1 0
or_most true c = omega arith
or_most false true = omega arith
or_most false false = omega arith

-- no two of them pass
abbrev pub AtMostOne : (Stretch → Bool) → List Stretch → Type 0
AtMostOne p [] = Unit {0}
AtMostOne p (r ∷ rs) = (p r ≡ true → counted_by p rs ≡ 0) × AtMostOne p rs

pub one_counts : (p : Stretch → Bool) (rs : List Stretch) → AtMostOne p rs → counted_by p rs ≤ 1
one_counts p [] h = omega arith
one_counts p (r ∷ rs) h = let all = head_counts p r rs in let rest = one_counts p rs h.1 in by (p r) refl all rest
  where
    by : (c : Bool) → p r ≡ c → counted_by p (r ∷ rs) ≡ cond c 1 0 + counted_by p rs → counted_by p rs ≤ 1 → counted_by p (r ∷ rs) ≤ 1
    by true e all rest = let none = h.0 e in omega (arith, all, none)
    by false e all rest = omega (arith, all, rest)

-- what passes one of two tests
either_counts : (p q both : Stretch → Bool) → ((r : Stretch) → both r ≡ (p r || q r)) → (rs : List Stretch) → counted_by both rs ≤ counted_by p rs + counted_by q rs
either_counts p q both is [] = omega arith
either_counts p q both is (r ∷ rs) =
    let one = head_counts p r rs in
    let two = head_counts q r rs in
    let all = head_counts both r rs in
    let rest = either_counts p q both is rs in
    let own = ap {B = ℕ} (λ (c : Bool). cond c 1 0) (is r) in
    let most = or_most (p r) (q r) in
    omega (arith, one, two, all, rest, own, most)

none_counts : (p : Stretch → Bool) → ((r : Stretch) → p r ≡ false) → (rs : List Stretch) → counted_by p rs ≡ 0
none_counts p none [] = refl
none_counts p none (r ∷ rs) =
    let all = head_counts p r rs in
    let rest = none_counts p none rs in
    let own = ap {B = ℕ} (λ (c : Bool). cond c 1 0) (none r) in
    omega (arith, all, rest, own)

and_or : (a b c : Bool) → (a && (b || c)) ≡ ((a && b) || (a && c))
and_or true b c = refl
and_or false b c = refl

and_false : (a : Bool) → (a && false) ≡ false
and_false true = refl
and_false false = refl

-- where at most one run begins with each, at most so many begin with one of them; and so it is of those that end with one
pub begin_few : {X : Type 0} (eq : X → Node → Bool) (xs : List X) (rs : List Stretch) → ((x : X) → AtMostOne (begins_in (eq x)) rs) → counted_by (begins_in (is_one eq xs)) rs ≤ length xs
begin_few eq [] rs each = let none = none_counts (begins_in (is_one eq [])) (λ r. and_false (nat_lt 0 r.len)) rs in omega (arith, none)
begin_few eq (x ∷ xs) rs each =
    let rest = begin_few eq xs rs each in
    let own = one_counts (begins_in (eq x)) rs (each x) in
    let all = either_counts (begins_in (eq x)) (begins_in (is_one eq xs)) (begins_in (is_one eq (x ∷ xs))) (λ r. and_or (nat_lt 0 r.len) (eq x r.from) (is_one eq xs r.from)) rs in
    omega (arith, rest, own, all)

pub end_few : {X : Type 0} (eq : X → Node → Bool) (xs : List X) (rs : List Stretch) → ((x : X) → AtMostOne (ends_in (eq x)) rs) → counted_by (ends_in (is_one eq xs)) rs ≤ length xs
end_few eq [] rs each = let none = none_counts (ends_in (is_one eq [])) (λ r. and_false (nat_lt 0 r.len)) rs in omega (arith, none)
end_few eq (x ∷ xs) rs each =
    let rest = end_few eq xs rs each in
    let own = one_counts (ends_in (eq x)) rs (each x) in
    let last : Stretch → Node = λ r. node_on r.from (r.len - 1) in
    let all = either_counts (ends_in (eq x)) (ends_in (is_one eq xs)) (ends_in (is_one eq (x ∷ xs))) (λ r. and_or (nat_lt 0 r.len) (eq x (last r)) (is_one eq xs (last r))) rs in
    omega (arith, rest, own, all)

-- so all runs are at most one more than the loose ones and two for each
pub runs_few : {X : Type 0} (eq : X → Node → Bool) (xs : List X) (rs : List Stretch) → ((x : X) → AtMostOne (begins_in (eq x)) rs) → ((x : X) → AtMostOne (ends_in (eq x)) rs)
    → length rs ≤ loose_in (is_one eq xs) rs + 2 * length xs
runs_few eq xs rs first last =
    let all = all_runs (is_one eq xs) false rs in
    let begin = begin_few eq xs rs first in
    let end = end_few eq xs rs last in
    omega (arith, all, begin, end)
