-- Each character stands at one place.
use Rattle.std.proofs.Common.{◌≡◌, ℕ, ◌+◌, ◌-◌, ◌≤◌, ◌<◌, ◌⊎◌, Bool, true, false, List, Some, None, nat_le, refl, sym, ap, ◌∙◌, arith, inl, inr}
use Rattle.std.proofs.lemmas.Bool.{leb-true}
use Rattle.ew_model.specs.declared.node.Node.{Node}
use Rattle.ew_model.specs.declared.node.Node.TheVariants.{Root, Base, Event}
use Rattle.ew_model.proofs.Outcomes.{none_by}
use Rattle.walker_record.specs.Stretches.{Stretch, node_on}
use Rattle.character_runs.specs.declared.labels.Labels.{Labels}
use Rattle.character_runs.specs.Labelled.{label_of}
use Rattle.character_runs.specs.Laid.{Stands, AreLabelled}
use Rattle.character_runs.proofs.Standings.{some_same}
use Rattle.character_runs.proofs.RunChars.{node_on_none}

-- nodes behind one another
pub on_on : (v : Node) (m n : ℕ) → node_on (node_on v m) n ≡ node_on v (m + n)
on_on Root m n = refl
on_on (Base i) m n = let same : i + m + n ≡ i + (m + n) = omega arith in ap Base same
on_on (Event i) m n = let same : i + m + n ≡ i + (m + n) = omega arith in ap Event same

pub not_root_on : (v : Node) (n : ℕ) → (v ≡ Root → ⊥) → node_on v n ≡ Root → ⊥
not_root_on Root n some e = some refl
not_root_on (Base i) n some e = cc
not_root_on (Event i) n some e = cc

base_is : (i j : ℕ) → Base i ≡ Base j → i ≡ j
base_is i j e = cc

event_is : (i j : ℕ) → Event i ≡ Event j → i ≡ j
event_is i j e = cc

pub same_steps : (v : Node) (m n : ℕ) → (v ≡ Root → ⊥) → node_on v m ≡ node_on v n → m ≡ n
same_steps Root m n some e = absurd (some refl)
same_steps (Base i) m n some e = let s = base_is (i + m) (i + n) e in omega (arith, s)
same_steps (Event i) m n some e = let s = event_is (i + m) (i + n) e in omega (arith, s)

base_event : (i j : ℕ) → Base i ≡ Event j → ⊥
base_event i j e = cc

-- where runs from two nodes on meet, one of the two is in the other's run
pub one_in_other : (v w : Node) (m n : ℕ) → (v ≡ Root → ⊥) → (w ≡ Root → ⊥) → node_on v m ≡ node_on w n
    → ((k : ℕ) × (k ≤ m) × (node_on v k ≡ w)) ⊎ ((k : ℕ) × (k ≤ n) × (node_on w k ≡ v))
one_in_other Root w m n sv sw e = absurd (sv refl)
one_in_other (Base i) Root m n sv sw e = absurd (sw refl)
one_in_other (Event i) Root m n sv sw e = absurd (sw refl)
one_in_other (Base i) (Event j) m n sv sw e = absurd (base_event (i + m) (j + n) e)
one_in_other (Event i) (Base j) m n sv sw e = absurd (base_event (j + n) (i + m) (sym e))
one_in_other (Base i) (Base j) m n sv sw e = by_order (nat_le i j) refl
  where
    by_order : (b : Bool) → nat_le i j ≡ b → ((k : ℕ) × (k ≤ m) × (Base (i + k) ≡ Base j)) ⊎ ((k : ℕ) × (k ≤ n) × (Base (j + k) ≡ Base i))
    by_order true h = let le = leb-true i j h in let s = base_is (i + m) (j + n) e in let is : i + (j - i) ≡ j = omega (arith, le) in inl (j - i, omega (arith, le, s), ap Base is)
    by_order false h =
        let le : j ≤ i = not_le h in let s = base_is (i + m) (j + n) e in let is : j + (i - j) ≡ i = omega (arith, le) in inr (i - j, omega (arith, le, s), ap Base is)
      where
        not_le : nat_le i j ≡ false → j ≤ i
        not_le h = grind arith
one_in_other (Event i) (Event j) m n sv sw e = by_order (nat_le i j) refl
  where
    by_order : (b : Bool) → nat_le i j ≡ b → ((k : ℕ) × (k ≤ m) × (Event (i + k) ≡ Event j)) ⊎ ((k : ℕ) × (k ≤ n) × (Event (j + k) ≡ Event i))
    by_order true h = let le = leb-true i j h in let s = event_is (i + m) (j + n) e in let is : i + (j - i) ≡ j = omega (arith, le) in inl (j - i, omega (arith, le, s), ap Event is)
    by_order false h =
        let le : j ≤ i = not_le h in let s = event_is (i + m) (j + n) e in let is : j + (i - j) ≡ i = omega (arith, le) in inr (i - j, omega (arith, le, s), ap Event is)
      where
        not_le : nat_le i j ≡ false → j ≤ i
        not_le h = grind arith

module _ (ps : List (ℕ × Stretch)) (t : Labels) (laid : AreLabelled ps t) where
  pub one_label : (v : Node) (label own m n : ℕ) → Stands ps label m v → Stands ps own n v → label ≡ own
  one_label v label own m n s o =
      by_first (one_in_other s.run.from o.run.from m n (laid.rooted label s.run s.held) (laid.rooted own o.run o.held) (s.node ∙ sym o.node))
    where
      first : label_of t s.run.from ≡ Some label
      first = laid.known label s.run s.held (omega (arith, s.inside))

      other : label_of t o.run.from ≡ Some own
      other = laid.known own o.run o.held (omega (arith, o.inside))

      by_first : ((k : ℕ) × (k ≤ m) × (node_on s.run.from k ≡ o.run.from)) ⊎ ((k : ℕ) × (k ≤ n) × (node_on o.run.from k ≡ s.run.from)) → label ≡ own
      by_first (inl h) =
          let here : Stands ps label h.0 o.run.from = record { run = s.run; held = s.held; inside = omega (arith, h.1, s.inside); node = h.2 } in
          let none = laid.apart o.run.from own label h.0 other here in
          let same : s.run.from ≡ o.run.from = sym (node_on_none s.run.from) ∙ ap (node_on s.run.from) (sym none) ∙ h.2 in
          some_same label own (sym first ∙ ap (label_of t) same ∙ other)
      by_first (inr h) =
          let here : Stands ps own h.0 s.run.from = record { run = o.run; held = o.held; inside = omega (arith, h.1, o.inside); node = h.2 } in
          let none = laid.apart s.run.from label own h.0 first here in
          let same : o.run.from ≡ s.run.from = sym (node_on_none o.run.from) ∙ ap (node_on o.run.from) (sym none) ∙ h.2 in
          some_same label own (sym first ∙ ap (label_of t) (sym same) ∙ other)

-- what is labelled stays so by equal labels
-- a node behind the first of a run has no label
pub unlabelled : (ps : List (ℕ × Stretch)) (t : Labels) (label n : ℕ) (v : Node) → AreLabelled ps t → Stands ps label n v → 0 < n → label_of t v ≡ None
unlabelled ps t label n v laid s some = none_by (label_of t v) (λ l e. let z = laid.apart v l label n e s in omega (arith, z, some))

pub laid_same : (ps : List (ℕ × Stretch)) (t u : Labels) → ((v : Node) → label_of u v ≡ label_of t v) → AreLabelled ps t → AreLabelled ps u
laid_same ps t u same laid = record {
  known = λ label r held some. same r.from ∙ laid.known label r held some;
  only = λ v label e. laid.only v label (sym (same v) ∙ e);
  apart = λ v own label n e s. laid.apart v own label n (sym (same v) ∙ e) s;
  rooted = laid.rooted;
}
