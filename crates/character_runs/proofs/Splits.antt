-- A run that the tree cut.
use Rattle.std.proofs.Common.{◌≡◌, ℕ, zero, suc, ◌<◌, ◌≤◌, ◌⊎◌, Bool, true, false, List, [], ◌∷◌, ◌++◌, Option, Some, None, length, take, drop, All, Contains, if◌then◌else◌, refl, sym, ap, ◌∙◌, subst, arith, inl, inr}
use Rattle.std.proofs.lemmas.List.Elements.{All-cons}
use Rattle.ew_model.specs.declared.node.Node.{Node}
use Rattle.ew_model.specs.declared.run.Run.{Ghosts}
use Rattle.ew_model.specs.Runs.{NodeState}
use Rattle.walker_record.specs.Stretches.{Stretch, node_on, states_from, chars_of, first_part, second_part}
use Rattle.walker_record.specs.StretchLaws.{first_chars, second_chars, length-states_from}
use Rattle.fugue_place.specs.Attachments.{node_eq}
use Rattle.order_tree.specs.Pairs.{IsRising, IsCut, lower, greater, runs}
use Rattle.order_tree.proofs.Around.{held_mid}
use Rattle.character_runs.specs.declared.labels.Labels.{Labels}
use Rattle.character_runs.specs.Labelled.{label_of, Sets}
use Rattle.character_runs.specs.Laid.{Stands, AreLabelled, chars_in, BeginsRun}
use Rattle.character_runs.specs.Loose.{IsCutBefore}
use Rattle.character_runs.proofs.Moves.{in_one}
use Rattle.character_runs.proofs.PartedRuns.{Parted, parted, same_run}
use Rattle.character_runs.proofs.CutPairs.{cut_is, moves_cut}
use Rattle.character_runs.proofs.CutRuns.{cut_laid, cut_begins, alike, set_own, set_other, run_is}
use Rattle.character_runs.proofs.CutChars.{cut_chars}
use Rattle.character_runs.proofs.Places.{unlabelled}

pub runs-append : (xs ys : List (ℕ × Stretch)) → runs (xs ++ ys) ≡ runs xs ++ runs ys
runs-append [] ys = refl
runs-append (x ∷ xs) ys = ap (λ (rs : List Stretch). x.1 ∷ rs) (runs-append xs ys)

-- runs of some characters that have the same characters are one
head_is : (x y : NodeState) (xs ys : List NodeState) → x ∷ xs ≡ y ∷ ys → x ≡ y
head_is x y xs ys e = cc

same_parts : (v w : Node) (m n p q : ℕ) (e f : Bool) → 0 < m → states_from v m p e ≡ states_from w n q f → m ≡ n
    → ◌≡◌ {A = Stretch} (record { from = v; len = m; prepared = p; effect = e }) (record { from = w; len = n; prepared = q; effect = f })
same_parts v w zero n p q e f lt h long = absurd (omega (arith, lt))
same_parts v w (suc m) zero p q e f lt h long = absurd (omega (arith, long))
same_parts v w (suc m) (suc n) p q e f lt h long =
    let first = head_is (record { node = v; prepared = p; effect = e }) (record { node = w; prepared = q; effect = f }) (states_from (node_on v 1) m p e) (states_from (node_on w 1) n q f) h in
    ap (λ (k : ℕ). record { from = v; len = k; prepared = p; effect = e }) long
    ∙ ap (λ (s : NodeState). record { from = s.node; len = suc n; prepared = s.prepared; effect = s.effect }) first

same_stretch : (s t : Stretch) → 0 < s.len → chars_of s ≡ chars_of t → s ≡ t
same_stretch s t lt h =
    same_parts s.from t.from s.len t.len s.prepared t.prepared s.effect t.effect lt h
    (sym (length-states_from s.from s.len s.prepared s.effect) ∙ ap length h ∙ length-states_from t.from t.len t.prepared t.effect)

-- a label that was set twice
sets_twice : (t m u : Labels) (v : Node) (a b : Option ℕ) → Sets t m v a → Sets m u v b → Sets t u v b
sets_twice t m u v a b one two w = two w ∙ by (node_eq v w) refl
  where
    by : (c : Bool) → node_eq v w ≡ c → (if c then b else label_of m w) ≡ (if c then b else label_of t w)
    by true e = refl
    by false e = set_other t m v a one w e

module _ (G : Ghosts Stretch) (chars : (s : Stretch) → G.chars s ≡ chars_of s) (ps qs : List (ℕ × Stretch)) (t u : Labels) (label own n : ℕ) (v : Node)
    (laid : AreLabelled ps t) (rising : IsRising ps) (s : Stands ps label n v) (some : 0 < n) (cut : IsCut G ps qs label n own) (above : label < own)
    (sets : Sets t u v (Some own)) where
  abbrev run : Stretch
  run = s.run

  run_is_cut : cut.run ≡ run
  run_is_cut = same_run ps label cut.run run rising cut.held s.held

  first_is : cut.first ≡ first_part run n
  first_is =
      let long : n < run.len = s.inside in
      sym (same_stretch (first_part run n) cut.first some
      (first_chars run n long ∙ ap (λ (r : Stretch). take n (chars_of r)) (sym run_is_cut) ∙ sym (sym (chars cut.first) ∙ cut.parts.first_chars ∙ ap (take n) (chars cut.run))))

  second_is : cut.second ≡ second_part run n
  second_is =
      let long : n < run.len = s.inside in
      sym (same_stretch (second_part run n) cut.second (omega (arith, long))
      (second_chars run n long ∙ ap (λ (r : Stretch). drop n (chars_of r)) (sym run_is_cut) ∙ sym (sym (chars cut.second) ∙ cut.parts.second_chars ∙ ap (drop n) (chars cut.run))))

  at : Parted ps label run
  at = parted ps label run rising s.held

  pub parts : qs ≡ lower ps label ++ (label, first_part run n) ∷ (own, second_part run n) ∷ greater ps label
  parts =
      cut.pairs ∙ ap (λ (f : Stretch). lower ps label ++ (label, f) ∷ (own, cut.second) ∷ greater ps label) first_is
      ∙ ap (λ (f : Stretch). lower ps label ++ (label, first_part run n) ∷ (own, f) ∷ greater ps label) second_is

  is : qs ≡ at.front ++ (((label, first_part run n) ∷ []) ++ ((own, second_part run n) ∷ at.back))
  is = parts ∙ cut_is ps label run own (first_part run n) (second_part run n) at

  short : (r : Stretch) → Contains qs (label, r) → r.len ≤ n
  short r h =
      let back : List (ℕ × Stretch) = (own, second_part run n) ∷ at.back in
      let over : All (λ p. label < p.0) back = All-cons (λ p. label < p.0) (own, second_part run n) at.back above at.above in
      let here = held_mid at.front ((label, first_part run n) ∷ []) back label r at.below over (subst (λ (xs : List (ℕ × Stretch)). Contains xs (label, r)) is h) in
      let same = run_is (label, r) (label, first_part run n) (in_one (label, r) (label, first_part run n) here) in
      let long : r.len ≡ n = ap (λ (q : Stretch). q.len) same in
      omega (arith, long)

  pub split_laid : AreLabelled qs u
  split_laid =
      cut_laid ps qs t u label own n v run laid rising s.held some s.inside s.node
      (moves_cut ps label run qs own (first_part run n) (second_part run n) rising s.held parts) sets short

  pub split_chars : chars_in qs ≡ chars_in ps
  split_chars = ap chars_in is ∙ cut_chars run n s.inside at.front at.back label own ∙ sym (ap chars_in at.is)

  -- one run is cut
  pub split_cut : IsCutBefore (runs ps) (runs qs) v
  split_cut = record {
    front = runs at.front;
    back = runs at.back;
    run = run;
    at = n;
    some = some;
    inside = s.inside;
    node = s.node;
    was = ap runs at.is ∙ runs-append at.front (((label, run) ∷ []) ++ at.back);
    now = ap runs is ∙ runs-append at.front (((label, first_part run n) ∷ []) ++ ((own, second_part run n) ∷ at.back));
  }

  pub split_first : BeginsRun qs v
  split_first l k there = split_laid.apart v own l k (set_own t u v (Some own) sets) there

  pub split_begins : (w : Node) → BeginsRun ps w → BeginsRun qs w
  split_begins =
      cut_begins ps qs t u label own n v run laid rising s.held some s.inside s.node
      (moves_cut ps label run qs own (first_part run n) (second_part run n) rising s.held parts) sets short

-- a label that was given to a node that had none, and taken away
pub taken_bare : (t m u : Labels) (v : Node) (own : ℕ) → label_of t v ≡ None → Sets t m v (Some own) → Sets m u v None → (w : Node) → label_of u w ≡ label_of t w
taken_bare t m u v own bare one two w = by (alike v w)
  where
    sets : Sets t u v None
    sets = sets_twice t m u v (Some own) None one two

    by : (v ≡ w) ⊎ (node_eq v w ≡ false) → label_of u w ≡ label_of t w
    by (inl e) = ap (label_of u) (sym e) ∙ set_own t u v None sets ∙ sym bare ∙ ap (label_of t) e
    by (inr e) = set_other t u v None sets w e

-- the node stands inside a run
pub taken_same : (ps : List (ℕ × Stretch)) (t m u : Labels) (label own n : ℕ) (v : Node) → AreLabelled ps t → Stands ps label n v → 0 < n → Sets t m v (Some own) → Sets m u v None → (w : Node) → label_of u w ≡ label_of t w
taken_same ps t m u label own n v laid s some = taken_bare t m u v own (unlabelled ps t label n v laid s some)
