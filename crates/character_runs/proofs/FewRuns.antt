-- How many runs there are: at most two stand apart for each event's character.
use Rattle.std.proofs.Common.{◌≡◌, ℕ, ◌+◌, ◌-◌, ◌*◌, ◌≤◌, Bool, true, nat_lt, List, [], ◌∷◌, length, Contains, refl, sym, ap, ◌∙◌, arith}
use Rattle.std.proofs.lemmas.Bool.{ltb-true, and_parts}
use Rattle.std.proofs.lemmas.List.Elements.{Contains-append_right}
use Rattle.ew_model.specs.declared.node.Node.{Node}
use Rattle.walker_record.specs.Stretches.{Stretch, node_on}
use Rattle.fugue_place.specs.Attachments.{node_eq}
use Rattle.fugue_place.proofs.NodeLaws.{node_same}
use Rattle.order_tree.specs.Pairs.{RisesFrom, IsRising, runs}
use Rattle.character_runs.specs.declared.labels.Labels.{Labels}
use Rattle.character_runs.specs.Labelled.{label_of}
use Rattle.character_runs.specs.Laid.{Stands, AreLabelled}
use Rattle.character_runs.specs.Loose.{begins_in, ends_in, loose_in, is_one}
use Rattle.character_runs.proofs.Places.{one_label}
use Rattle.character_runs.proofs.Standings.{some_same}
use Rattle.character_runs.proofs.RunsAt.{held_at, above_low}
use Rattle.character_runs.proofs.LooseRuns.{AtMostOne, counted_by, counted_none, runs_few}

-- where any two runs that pass have one label, at most one passes
module _ (p : Stretch → Bool) where
  abbrev OneLabel : List (ℕ × Stretch) → Type 0
  OneLabel ps = (l own : ℕ) (r q : Stretch) → Contains ps (l, r) → Contains ps (own, q) → p r ≡ true → p q ≡ true → l ≡ own

  here : (x : ℕ × Stretch) (ps : List (ℕ × Stretch)) → Contains (x ∷ ps) x
  here x ps = (0, omega arith, refl)

  behind : (x y : ℕ × Stretch) (ps : List (ℕ × Stretch)) → Contains ps y → Contains (x ∷ ps) y
  behind x y ps h = Contains-append_right (x ∷ []) ps y h

  none_pass : (ps : List (ℕ × Stretch)) → ((l : ℕ) (r : Stretch) → Contains ps (l, r) → p r ≡ true → ⊥) → counted_by p (runs ps) ≡ 0
  none_pass [] none = refl
  none_pass (x ∷ ps) none = counted_none p x.1 (runs ps) (none x.0 x.1 (here x ps)) (none_pass ps (λ l r h. none l r (behind x (l, r) ps h)))

  one_pass : (low : ℕ) (ps : List (ℕ × Stretch)) → RisesFrom low ps → OneLabel ps → AtMostOne p (runs ps)
  one_pass low [] rises one = tt
  one_pass low (x ∷ ps) rises one = (first, one_pass x.0 ps rises.1 (λ l own r q h i. one l own r q (behind x (l, r) ps h) (behind x (own, q) ps i)))
    where
      first : p x.1 ≡ true → counted_by p (runs ps) ≡ 0
      first e = none_pass ps (λ l r h yes.
          let same = one x.0 l x.1 r (here x ps) (behind x (l, r) ps h) e yes in
          let at = held_at ps (l, r) h in
          let above = above_low x.0 ps rises.1 at.0 l r at.1 in
          omega (arith, same, above))

module _ (ps : List (ℕ × Stretch)) (t : Labels) (laid : AreLabelled ps t) (rising : IsRising ps) where
  one_begins : (v : Node) → AtMostOne (begins_in (node_eq v)) (runs ps)
  one_begins v = one_pass (begins_in (node_eq v)) 0 ps rising by
    where
      by : (l own : ℕ) (r q : Stretch) → Contains ps (l, r) → Contains ps (own, q) → begins_in (node_eq v) r ≡ true → begins_in (node_eq v) q ≡ true → l ≡ own
      by l own r q h i e f =
          let one = and_parts (nat_lt 0 r.len) (node_eq v r.from) e in
          let two = and_parts (nat_lt 0 q.len) (node_eq v q.from) f in
          let same : r.from ≡ q.from = sym (node_same v r.from one.1) ∙ node_same v q.from two.1 in
          some_same l own (sym (laid.known l r h (ltb-true 0 r.len one.0)) ∙ ap (label_of t) same ∙ laid.known own q i (ltb-true 0 q.len two.0))

  last_stands : (v : Node) (l : ℕ) (r : Stretch) → Contains ps (l, r) → ends_in (node_eq v) r ≡ true → Stands ps l (r.len - 1) v
  last_stands v l r h e =
      let both = and_parts (nat_lt 0 r.len) (node_eq v (node_on r.from (r.len - 1))) e in
      let some = ltb-true 0 r.len both.0 in
      record { run = r; held = h; inside = omega (arith, some); node = sym (node_same v (node_on r.from (r.len - 1)) both.1) }

  one_ends : (v : Node) → AtMostOne (ends_in (node_eq v)) (runs ps)
  one_ends v = one_pass (ends_in (node_eq v)) 0 ps rising
      (λ l own r q h i e f. one_label ps t laid v l own (r.len - 1) (q.len - 1) (last_stands v l r h e) (last_stands v own q i f))

  pub few_runs : (vs : List Node) → length (runs ps) ≤ loose_in (is_one node_eq vs) (runs ps) + 2 * length vs
  few_runs vs = runs_few node_eq vs (runs ps) one_begins one_ends
