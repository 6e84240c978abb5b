-- The parts of runs that were cut, wherever they stand.
use Rattle.std.proofs.Common.{◌≡◌, ℕ, ◌+◌, ◌-◌, inl, inr, List, [], ◌∷◌, ◌++◌, Contains, sym, ap, ◌∙◌, subst, arith, append_assoc}
use Rattle.std.specs.List.{list_any}
use Rattle.std.proofs.lemmas.Bool.{false≢true}
use Rattle.std.proofs.lemmas.List.Elements.{Contains-append_right}
use Rattle.ew_model.specs.declared.node.Node.{Node}
use Rattle.walker_record.specs.Stretches.{Stretch, node_on, first_part, second_part}
use Rattle.order_tree.specs.Pairs.{IsRising, runs}
use Rattle.character_runs.specs.declared.labels.Labels.{Labels}
use Rattle.character_runs.specs.States.{is_of}
use Rattle.character_runs.specs.Laid.{Stands, IsOffset, AreLabelled, BeginsRun, EndsRun, chars_in}
use Rattle.character_runs.specs.Loose.{MayBeCut}
use Rattle.character_runs.proofs.Changing.{first_node}
use Rattle.character_runs.proofs.CharPlaces.{any_of, none_of}
use Rattle.character_runs.proofs.FoundCuts.{found_stands}
use Rattle.character_runs.proofs.LooseCuts.{one_back}
use Rattle.character_runs.proofs.Moves.{is_first}
use Rattle.character_runs.proofs.PartedRuns.{parted, same_run}
use Rattle.character_runs.proofs.Places.{on_on, one_label, same_steps}
use Rattle.character_runs.proofs.RunChars.{node_on_none}
use Rattle.character_runs.proofs.Splits.{runs-append}

head_is : (x y : Stretch) (xs ys : List Stretch) → x ∷ xs ≡ y ∷ ys → x ≡ y
head_is x y xs ys e = cc

tail_is : (x y : Stretch) (xs ys : List Stretch) → x ∷ xs ≡ y ∷ ys → xs ≡ ys
tail_is x y xs ys e = cc

not_none : (x : Stretch) (xs : List Stretch) → [] ≡ x ∷ xs → ⊥
not_none x xs e = cc

-- one of the runs has a label
pub run_there : (ps : List (ℕ × Stretch)) (r : Stretch) (front back : List Stretch) → runs ps ≡ front ++ r ∷ back → (label : ℕ) × Contains ps (label, r)
run_there [] r [] back e = absurd (not_none r back e)
run_there [] r (x ∷ front) back e = absurd (not_none x (front ++ r ∷ back) e)
run_there (p ∷ ps) r [] back e = (p.0, subst (λ (s : Stretch). Contains (p ∷ ps) (p.0, s)) (head_is p.1 r (runs ps) back e) (is_first p ps))
run_there (p ∷ ps) r (x ∷ front) back e =
    let h = run_there ps r front back (tail_is p.1 x (runs ps) (front ++ r ∷ back) e) in
    (h.0, Contains-append_right (p ∷ []) ps (h.0, r) h.1)

-- a run at a label is one of the runs of others that have the same ones
pub run_still : (ps qs : List (ℕ × Stretch)) (label : ℕ) (r : Stretch) → IsRising ps → Contains ps (label, r) → runs qs ≡ runs ps → (own : ℕ) × Contains qs (own, r)
run_still ps qs label r rising held same =
    let at = parted ps label r rising held in
    run_there qs r (runs at.front) (runs at.back) (same ∙ ap runs at.is ∙ runs-append at.front (((label, r) ∷ []) ++ at.back))

-- a character that stands somewhere does so where the characters are the same
pub stands_still : (ps qs : List (ℕ × Stretch)) (label n : ℕ) (v : Node) → Stands ps label n v → chars_in qs ≡ chars_in ps → ((l k : ℕ) → Stands qs l k v → ⊥) → ⊥
stands_still ps qs label n v s same none = false≢true (sym (none_of qs v none) ∙ ap (list_any (is_of v)) same ∙ any_of ps label n v s)

-- two runs with a node's character are one
pub record IsOne (r q : Stretch) (m n : ℕ) : Type 0 where
  pub run : r ≡ q
  pub place : m ≡ n

module _ (ps : List (ℕ × Stretch)) (t : Labels) (laid : AreLabelled ps t) (rising : IsRising ps) (v : Node) where
  pub one_run : (label own m n : ℕ) (r q : Stretch) → Contains ps (label, r) → IsOffset r v m → Contains ps (own, q) → IsOffset q v n → IsOne r q m n
  one_run label own m n r q held is there at =
      let l = one_label ps t laid v label own m n (found_stands ps label m r v held is) (found_stands ps own n q v there at) in
      let same = same_run ps own r q rising (subst (λ (k : ℕ). Contains ps (k, r)) l held) there in
      record {
        run = same;
        place = same_steps q.from m n (laid.rooted own q there) (ap (λ (s : Stretch). node_on s.from m) (sym same) ∙ is.1 ∙ sym at.1);
      }

module _ (ps qs : List (ℕ × Stretch)) (t u : Labels) (laid : AreLabelled ps t) (after : AreLabelled qs u) (rising : IsRising ps) (risen : IsRising qs)
    (v : Node) (label n : ℕ) (run : Stretch) (held : Contains ps (label, run)) (is : IsOffset run v n)
    (own m : ℕ) (now : Stretch) (there : Contains qs (own, now)) (at : IsOffset now v m) where
  -- the run that begins with the node is the old one from there on
  pub record IsRest : Type 0 where
    pub from : now.from ≡ v
    pub len : now.len + n ≡ run.len
    pub prepared : now.prepared ≡ run.prepared

  pub begun_part : MayBeCut (runs ps) (runs qs) v → BeginsRun qs v → IsRest
  begun_part (inl same) begins =
      let still = run_still ps qs label run rising held same in
      let one = one_run qs u after risen v still.0 own n m run now still.1 is there at in
      let place = one.place in
      let none = begins own m (found_stands qs own m now v there at) in
      let long = ap (λ (s : Stretch). s.len) one.run in
      record {
        from = first_node qs v own m (found_stands qs own m now v there at) begins;
        len = omega (arith, place, none, long);
        prepared = ap (λ (s : Stretch). s.prepared) (sym one.run);
      }
  begun_part (inr h) begins =
      let was = run_there ps h.run h.front h.back h.was in
      let old = one_run ps t laid rising v label was.0 n h.at run h.run held is was.1 (h.inside, h.node) in
      let rest = second_part h.run h.at in
      let came = run_there qs rest (h.front ++ first_part h.run h.at ∷ []) h.back (h.now ∙ sym (append_assoc h.front (first_part h.run h.at ∷ []) (rest ∷ h.back))) in
      let inside = h.inside in
      let first : IsOffset rest v 0 = (omega (arith, inside), node_on_none (node_on h.run.from h.at) ∙ h.node) in
      let new = one_run qs u after risen v own came.0 m 0 now rest there at came.1 first in
      let place = old.place in
      let long = ap (λ (s : Stretch). s.len) old.run in
      let short = ap (λ (s : Stretch). s.len) new.run in
      record {
        from = first_node qs v own m (found_stands qs own m now v there at) begins;
        len = omega (arith, place, long, short, inside);
        prepared = ap (λ (s : Stretch). s.prepared) new.run ∙ ap (λ (s : Stretch). s.prepared) (sym old.run);
      }

  -- the run that ends with the node is the old one up to there
  pub record IsFront : Type 0 where
    pub from : now.from ≡ run.from
    pub len : now.len ≡ n + 1
    pub prepared : now.prepared ≡ run.prepared

  pub ended_part : MayBeCut (runs ps) (runs qs) (node_on v 1) → EndsRun qs v → IsFront
  ended_part (inl same) ends =
      let still = run_still ps qs label run rising held same in
      let one = one_run qs u after risen v still.0 own n m run now still.1 is there at in
      let place = one.place in
      let long = ends own m (found_stands qs own m now v there at) in
      record {
        from = ap (λ (s : Stretch). s.from) (sym one.run);
        len = omega (arith, place, long);
        prepared = ap (λ (s : Stretch). s.prepared) (sym one.run);
      }
  ended_part (inr h) ends =
      let was = run_there ps h.run h.front h.back h.was in
      let some = h.some in
      let inside = h.inside in
      let step : h.at - 1 + 1 ≡ h.at = omega (arith, some) in
      let last : node_on h.run.from (h.at - 1) ≡ v = one_back (node_on h.run.from (h.at - 1)) v (on_on h.run.from (h.at - 1) 1 ∙ ap (node_on h.run.from) step ∙ h.node) in
      let old = one_run ps t laid rising v label was.0 n (h.at - 1) run h.run held is was.1 (omega (arith, inside), last) in
      let front = first_part h.run h.at in
      let came = run_there qs front h.front (second_part h.run h.at ∷ h.back) h.now in
      let new = one_run qs u after risen v own came.0 m (h.at - 1) now front there at came.1 (omega (arith, some), last) in
      let place = old.place in
      let short = ap (λ (s : Stretch). s.len) new.run in
      record {
        from = ap (λ (s : Stretch). s.from) new.run ∙ ap (λ (s : Stretch). s.from) (sym old.run);
        len = omega (arith, place, short, some);
        prepared = ap (λ (s : Stretch). s.prepared) new.run ∙ ap (λ (s : Stretch). s.prepared) (sym old.run);
      }
