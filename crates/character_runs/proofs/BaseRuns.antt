-- The run of a base.
use Rattle.std.proofs.Common.{◌≡◌, ℕ, zero, suc, ◌+◌, ◌<◌, ◌≤◌, ◌^◌, ◌⊎◌, true, false, None, Some, List, [], ◌∷◌, ◌++◌, map, length, refl, sym, ap, ◌∙◌, append-nil, arith, inl, inr}
use Rattle.ew_model.specs.declared.node.Node.{Node}
use Rattle.ew_model.specs.declared.node.Node.TheVariants.{Root, Base}
use Rattle.walker_record.specs.Stretches.{Stretch, node_on, states_from}
use Rattle.fugue_place.specs.Attachments.{node_eq}
use Rattle.character_runs.specs.declared.labels.Labels.{Labels}
use Rattle.character_runs.specs.States.{single, base_records, is_visible, visible_in, shown_in}
use Rattle.character_runs.specs.Labelled.{label_of, Sets}
use Rattle.character_runs.specs.Laid.{AreLabelled, AreCounted, record_of, records_of, chars_in}
use Rattle.character_runs.proofs.CutRuns.{alike, set_own, set_other, label_is, run_is}
use Rattle.character_runs.proofs.Lists.{length-push}
use Rattle.character_runs.proofs.Moves.{in_one}
use Rattle.character_runs.proofs.Places.{same_steps}
use Rattle.character_runs.proofs.RunChars.{node_on_none}
use Rattle.character_runs.proofs.Standings.{some_same, none_some}
use Rattle.ew_model.proofs.ListTests.{count-append}

-- ITS CHARACTERS
last_in : (n i : ℕ) → map record_of (states_from (Base i) (suc n) 1 true) ≡ map record_of (states_from (Base i) n 1 true) ++ single (Base (i + n)) 1 true ∷ []
last_in zero i = let same : i ≡ i + 0 = omega arith in ap (λ (k : ℕ). single (Base k) 1 true ∷ []) same
last_in (suc n) i =
    let same : i + 1 + n ≡ i + suc n = omega arith in
    ap (λ (xs : List Stretch). single (Base i) 1 true ∷ xs)
    (last_in n (i + 1) ∙ ap (λ (k : ℕ). map record_of (states_from (Base (i + 1)) n 1 true) ++ single (Base k) 1 true ∷ []) same)

base_chars : (n : ℕ) → map record_of (states_from (Base 0) n 1 true) ≡ base_records n
base_chars zero = refl
base_chars (suc n) =
    let none : 0 + n ≡ n = omega arith in
    last_in n 0 ∙ (λ i. base_chars n i ++ single (Base (none i)) 1 true ∷ [])

abbrev pub base_run : ℕ → Stretch
base_run n = record { from = Base 0; len = n; prepared = 1; effect = true }

pub run_chars : (own n : ℕ) → chars_in ((own, base_run n) ∷ []) ≡ base_records n
run_chars own n = append-nil (records_of (base_run n)) ∙ base_chars n

-- all are visible, and in the text
visible_base : (n : ℕ) → visible_in (base_records n) ≡ n
visible_base zero = refl
visible_base (suc n) =
    let one : n + 1 ≡ suc n = omega arith in
    count-append is_visible (base_records n) (single (Base n) 1 true ∷ []) ∙ ap (λ (k : ℕ). k + 1) (visible_base n) ∙ one

shown_base : (n : ℕ) → shown_in (base_records n) ≡ n
shown_base zero = refl
shown_base (suc n) =
    let one : n + 1 ≡ suc n = omega arith in
    count-append (λ (r : Stretch). r.effect) (base_records n) (single (Base n) 1 true ∷ []) ∙ ap (λ (k : ℕ). k + 1) (shown_base n) ∙ one

length-base : (b : ℕ) → length (base_records b) ≡ b
length-base zero = refl
length-base (suc b) = length-push (base_records b) (single (Base b) 1 true) ∙ ap suc (length-base b)

base_few : (b : ℕ) → length (base_records b) ≤ b
base_few b = let all = length-base b in omega arith

pub base_counted : (ps : List (ℕ × Stretch)) (t : Labels) (n : ℕ) → AreLabelled ps t → chars_in ps ≡ base_records n → n ≤ 2 ^ 24 → AreCounted ps t n n
base_counted ps t n laid is few = record {
  labelled = laid;
  visible_is = sym (ap visible_in is ∙ visible_base n);
  shown_is = sym (ap shown_in is ∙ shown_base n);
  few = let long = ap length is in omega (arith, long, base_few n, few);
}

-- ITS LABEL
module _ (t : Labels) (none : (v : Node) → label_of t v ≡ None) where
  pub no_runs : AreLabelled [] t
  no_runs = record {
    known = λ l r h lt. let inside = h.1 in absurd (omega (arith, inside));
    only = λ v l e. absurd (none_some l (sym (none v) ∙ e));
    apart = λ v o l n e s. absurd (none_some o (sym (none v) ∙ e));
    rooted = λ l r h e. let inside = h.1 in absurd (omega (arith, inside));
  }

  module _ (u : Labels) (own : ℕ) (run : Stretch) (some : run.from ≡ Root → ⊥) (long : 0 < run.len) (sets : Sets t u run.from (Some own)) where
    only_by : (v : Node) (l : ℕ) → label_of u v ≡ Some l → (run.from ≡ v) ⊎ (node_eq run.from v ≡ false) → (l ≡ own) × (run.from ≡ v)
    only_by v l e (inl is) = (some_same l own (sym e ∙ ap (label_of u) (sym is) ∙ set_own t u run.from (Some own) sets), is)
    only_by v l e (inr not) = absurd (none_some l (sym (none v) ∙ sym (set_other t u run.from (Some own) sets v not) ∙ e))

    pub one_run : AreLabelled ((own, run) ∷ []) u
    one_run = record {
      known = λ l r h lt.
          let is = in_one (l, r) (own, run) h in
          ap (λ (q : Stretch). label_of u q.from) (run_is (l, r) (own, run) is) ∙ set_own t u run.from (Some own) sets ∙ ap (λ (k : ℕ). Some k) (sym (label_is (l, r) (own, run) is));
      only = λ v l e. let o = only_by v l e (alike run.from v) in (run, (0, omega arith, λ i. (sym o.0 i, run)), o.1, long);
      apart = λ v o l n e s.
          let from = only_by v o e (alike run.from v) in
          let is = run_is (l, s.run) (own, run) (in_one (l, s.run) (own, run) s.held) in
          same_steps run.from n 0 some (ap (λ (q : Stretch). node_on q.from n) (sym is) ∙ s.node ∙ sym from.1 ∙ sym (node_on_none run.from));
      rooted = λ l r h e. some (ap (λ (q : Stretch). q.from) (sym (run_is (l, r) (own, run) (in_one (l, r) (own, run) h))) ∙ e);
    }

pub not_root : (n : ℕ) → Base n ≡ Root → ⊥
not_root n e = cc
