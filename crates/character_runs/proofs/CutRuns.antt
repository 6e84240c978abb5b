-- Labels after a run was cut.
use Rattle.std.proofs.Common.{◌≡◌, ℕ, ◌+◌, ◌-◌, ◌<◌, ◌≤◌, ◌⊎◌, Bool, true, false, List, [], ◌∷◌, Option, Some, Contains, if◌then◌else◌, refl, sym, ap, ◌∙◌, subst, arith, inl, inr}
use Rattle.std.proofs.lemmas.Bool.{false≢true}
use Rattle.ew_model.specs.declared.node.Node.{Node}
use Rattle.ew_model.specs.declared.node.Node.TheVariants.{Root}
use Rattle.walker_record.specs.Stretches.{Stretch, node_on, first_part, second_part}
use Rattle.fugue_place.specs.Attachments.{node_eq}
use Rattle.fugue_place.proofs.NodeLaws.{node_same, node_itself}
use Rattle.order_tree.specs.Pairs.{IsRising}
use Rattle.character_runs.specs.declared.labels.Labels.{Labels}
use Rattle.character_runs.specs.Labelled.{label_of, Sets}
use Rattle.character_runs.specs.Laid.{Stands, AreLabelled, BeginsRun}
use Rattle.character_runs.proofs.Moves.{Moves, in_one, in_two, is_first, is_second}
use Rattle.character_runs.proofs.PartedRuns.{same_run}
use Rattle.character_runs.proofs.Places.{one_label, on_on, not_root_on, same_steps}
use Rattle.character_runs.proofs.Standings.{some_same}

-- the run stands at the label
abbrev pub In : List (ℕ × Stretch) → ℕ → Stretch → Type 0
In ps label r = Contains ps (label, r)

-- two pairs are one
abbrev pub Is : ℕ → Stretch → ℕ → Stretch → Type 0
Is l r label q = ◌≡◌ {A = ℕ × Stretch} (l, r) (label, q)

-- one node or another
pub alike : (v w : Node) → (v ≡ w) ⊎ (node_eq v w ≡ false)
alike v w = by (node_eq v w) refl
  where
    by : (b : Bool) → node_eq v w ≡ b → (v ≡ w) ⊎ (node_eq v w ≡ false)
    by true e = inl (node_same v w e)
    by false e = inr e

-- other nodes than one, and whether one is another
pub unlike : (v w : Node) → (v ≡ w → ⊥) → node_eq v w ≡ false
unlike v w other = by (alike v w)
  where
    by : (v ≡ w) ⊎ (node_eq v w ≡ false) → node_eq v w ≡ false
    by (inl e) = absurd (other e)
    by (inr e) = e

pub decide : (v w : Node) → (v ≡ w) ⊎ (v ≡ w → ⊥)
decide v w = by (alike v w)
  where
    by : (v ≡ w) ⊎ (node_eq v w ≡ false) → (v ≡ w) ⊎ (v ≡ w → ⊥)
    by (inl e) = inl e
    by (inr e) = inr (λ same. false≢true (sym e ∙ ap (node_eq v) (sym same) ∙ node_itself v))

module _ (t u : Labels) (v : Node) (to : Option ℕ) (sets : Sets t u v to) where
  pub set_own : label_of u v ≡ to
  set_own = sets v ∙ ap (λ (b : Bool). if b then to else label_of t v) (node_itself v)

  pub set_other : (w : Node) → node_eq v w ≡ false → label_of u w ≡ label_of t w
  set_other w e = sets w ∙ ap (λ (b : Bool). if b then to else label_of t w) e

pub label_is : (p q : ℕ × Stretch) → p ≡ q → p.0 ≡ q.0
label_is p q e = ap (λ (x : ℕ × Stretch). x.0) e

pub run_is : (p q : ℕ × Stretch) → p ≡ q → p.1 ≡ q.1
run_is p q e = ap (λ (x : ℕ × Stretch). x.1) e

module _ (ps qs : List (ℕ × Stretch)) (t u : Labels) (label own n : ℕ) (v : Node) (run : Stretch)
    (laid : AreLabelled ps t) (rising : IsRising ps) (held : Contains ps (label, run)) (some : 0 < n) (inside : n < run.len) (node : node_on run.from n ≡ v)
    (moves : Moves ps qs ((label, run) ∷ []) ((label, first_part run n) ∷ (own, second_part run n) ∷ [])) (sets : Sets t u v (Some own)) where
  abbrev first : Stretch
  first = first_part run n

  abbrev second : Stretch
  second = second_part run n

  root : run.from ≡ Root → ⊥
  root = laid.rooted label run held

  here : Stands ps label n v
  here = record { run = run; held = held; inside = inside; node = node }

  -- the node had no label
  bare : (l : ℕ) → label_of t v ≡ Some l → ⊥
  bare l e = let z = laid.apart v l label n e here in omega (arith, z, some)

  first_other : v ≡ run.from → ⊥
  first_other e = bare label (ap (label_of t) e ∙ laid.known label run held (omega (arith, inside)))

  known_by : (l : ℕ) (r : Stretch) → In ((label, first) ∷ (own, second) ∷ []) l r ⊎ In ps l r → 0 < r.len → label_of u r.from ≡ Some l
  known_by l r (inr h) lt = by_node (alike v r.from)
    where
      by_node : (v ≡ r.from) ⊎ (node_eq v r.from ≡ false) → label_of u r.from ≡ Some l
      by_node (inl e) = absurd (bare l (ap (label_of t) e ∙ laid.known l r h lt))
      by_node (inr e) = set_other t u v (Some own) sets r.from e ∙ laid.known l r h lt
  known_by l r (inl h) lt = by_part (in_two (l, r) (label, first) (own, second) h)
    where
      by_node : (v ≡ run.from) ⊎ (node_eq v run.from ≡ false) → label_of u run.from ≡ Some label
      by_node (inl e) = absurd (first_other e)
      by_node (inr e) = set_other t u v (Some own) sets run.from e ∙ laid.known label run held (omega (arith, inside))

      by_part : Is l r label first ⊎ Is l r own second → label_of u r.from ≡ Some l
      by_part (inl e) =
          ap (λ (q : Stretch). label_of u q.from) (run_is (l, r) (label, first) e) ∙ by_node (alike v run.from) ∙ ap (λ (k : ℕ). Some k) (sym (label_is (l, r) (label, first) e))
      by_part (inr e) =
          ap (λ (q : Stretch). label_of u q.from) (run_is (l, r) (own, second) e) ∙ ap (label_of u) node ∙ set_own t u v (Some own) sets ∙ ap (λ (k : ℕ). Some k) (sym (label_is (l, r) (own, second) e))

  abbrev Has : Node → ℕ → Type 0
  Has w l = (r : Stretch) × In qs l r × (r.from ≡ w) × (0 < r.len)

  only_old : (w : Node) (l : ℕ) (r : Stretch) → In ((label, run) ∷ []) l r ⊎ In qs l r → r.from ≡ w → 0 < r.len → Has w l
  only_old w l r (inr h) e lt = (r, h, e, lt)
  only_old w l r (inl h) e lt =
      let is = in_one (l, r) (label, run) h in
      let there : Contains qs (l, first) = subst (λ (k : ℕ). Contains qs (k, first)) (sym (label_is (l, r) (label, run) is)) (moves.come (label, first) (is_first (label, first) ((own, second) ∷ []))) in
      (first, there, ap (λ (q : Stretch). q.from) (sym (run_is (l, r) (label, run) is)) ∙ e, some)

  only_by : (w : Node) (l : ℕ) → label_of u w ≡ Some l → (v ≡ w) ⊎ (node_eq v w ≡ false) → Has w l
  only_by w l e (inl same) =
      let is : own ≡ l = some_same own l (sym (set_own t u v (Some own) sets) ∙ ap (label_of u) same ∙ e) in
      (second, subst (λ (k : ℕ). Contains qs (k, second)) is (moves.come (own, second) (is_second (own, second) (label, first) [])), node ∙ same, omega (arith, inside))
  only_by w l e (inr other) =
      let old = laid.only w l (sym (set_other t u v (Some own) sets w other) ∙ e) in
      only_old w l old.0 (moves.kept (l, old.0) old.1) old.2 old.3

  -- a character of the new runs, as one of the old
  record Was (l k : ℕ) (w : Node) : Type 0 where
    at : ℕ
    place : ℕ
    stood : Stands ps at place w
    first_of : place ≡ 0 → k ≡ 0
    own_of : w ≡ v → k ≡ 0

  was_by : (l k : ℕ) (w : Node) (r : Stretch) → k < r.len → node_on r.from k ≡ w → In qs l r → In ((label, first) ∷ (own, second) ∷ []) l r ⊎ In ps l r → (l ≡ label → k < n) → Was l k w
  was_by l k w r lt e h (inr was) less =
      let stood : Stands ps l k w = record { run = r; held = was; inside = lt; node = e } in
      record { at = l; place = k; stood = stood; first_of = λ z. z; own_of = own_by stood }
    where
      own_by : Stands ps l k w → w ≡ v → k ≡ 0
      own_by stood same =
          let at_v : Stands ps l k v = subst (λ (x : Node). Stands ps l k x) same stood in
          let l_is = one_label ps t laid v l label k n at_v here in
          let steps = same_steps run.from k n root (ap (λ (q : Stretch). node_on q.from k) (same_run ps label run r rising held (subst (λ (x : ℕ). Contains ps (x, r)) l_is was)) ∙ e ∙ same ∙ sym node) in
          let few = less l_is in
          absurd (omega (arith, steps, few))
  was_by l k w r lt e h (inl part) less = by_part (in_two (l, r) (label, first) (own, second) part)
    where
      by_part : Is l r label first ⊎ Is l r own second → Was l k w
      by_part (inl is) =
          let r_is = run_is (l, r) (label, first) is in
          let few : k < n = subst (λ (q : Stretch). k < q.len) r_is lt in
          let e2 : node_on run.from k ≡ w = ap (λ (q : Stretch). node_on q.from k) (sym r_is) ∙ e in
          record {
            at = label;
            place = k;
            stood = record { run = run; held = held; inside = omega (arith, few, inside); node = e2 };
            first_of = λ z. z;
            own_of = λ same. let steps = same_steps run.from k n root (e2 ∙ same ∙ sym node) in absurd (omega (arith, steps, few));
          }
      by_part (inr is) =
          let r_is = run_is (l, r) (own, second) is in
          let few : k < run.len - n = subst (λ (q : Stretch). k < q.len) r_is lt in
          let e2 : node_on run.from (n + k) ≡ w = sym (on_on run.from n k) ∙ ap (λ (q : Stretch). node_on q.from k) (sym r_is) ∙ e in
          record {
            at = label;
            place = n + k;
            stood = record { run = run; held = held; inside = omega (arith, few, inside); node = e2 };
            first_of = λ z. omega (arith, z, some);
            own_of = λ same. let steps = same_steps run.from (n + k) n root (e2 ∙ same ∙ sym node) in omega (arith, steps);
          }

  module _ (short : (r : Stretch) → Contains qs (label, r) → r.len ≤ n) where
    apart_by : (w : Node) (o l k : ℕ) → label_of u w ≡ Some o → Stands qs l k w → (v ≡ w) ⊎ (node_eq v w ≡ false) → k ≡ 0
    apart_by w o l k e s which = by which
      where
        was : Was l k w
        was = was_by l k w s.run s.inside s.node s.held (moves.each (l, s.run) s.held)
            (λ is. let le = short s.run (subst (λ (x : ℕ). Contains qs (x, s.run)) is s.held) in let lt = s.inside in omega (arith, le, lt))

        by : (v ≡ w) ⊎ (node_eq v w ≡ false) → k ≡ 0
        by (inl same) = was.own_of (sym same)
        by (inr other) = was.first_of (laid.apart w o was.at was.place (sym (set_other t u v (Some own) sets w other) ∙ e) was.stood)

    rooted_by : (l : ℕ) (r : Stretch) → In ((label, first) ∷ (own, second) ∷ []) l r ⊎ In ps l r → r.from ≡ Root → ⊥
    rooted_by l r (inr h) e = laid.rooted l r h e
    rooted_by l r (inl h) e = by_part (in_two (l, r) (label, first) (own, second) h)
      where
        by_part : Is l r label first ⊎ Is l r own second → ⊥
        by_part (inl is) = root (ap (λ (q : Stretch). q.from) (sym (run_is (l, r) (label, first) is)) ∙ e)
        by_part (inr is) = not_root_on run.from n root (ap (λ (q : Stretch). q.from) (sym (run_is (l, r) (own, second) is)) ∙ e)

    pub cut_laid : AreLabelled qs u
    cut_laid = record {
      known = λ l r h lt. known_by l r (moves.each (l, r) h) lt;
      only = λ w l e. only_by w l e (alike v w);
      apart = λ w o l k e s. apart_by w o l k e s (alike v w);
      rooted = λ l r h. rooted_by l r (moves.each (l, r) h);
    }

    -- the first of a run stays one
    pub cut_begins : (w : Node) → BeginsRun ps w → BeginsRun qs w
    cut_begins w first l k s =
        let was = was_by l k w s.run s.inside s.node s.held (moves.each (l, s.run) s.held) (λ is. let le = short s.run (subst (λ (x : ℕ). Contains qs (x, s.run)) is s.held) in let lt = s.inside in omega (arith, le, lt)) in
        was.first_of (first was.at was.place was.stood)
