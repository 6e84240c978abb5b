-- A state where no event was applied.
use Rattle.std.proofs.Common.{◌≡◌, ℕ, zero, suc, ◌<◌, ◌≤◌, true, not, cond, nat_eq, [], ◌∷◌, ◌++◌, map, filter, length, refl, sym, ap, ◌∙◌, subst, append-nil, arith}
use Rattle.std.proofs.lemmas.List.{map-append}
use Rattle.std.proofs.lemmas.List.Elements.{filter-append}
use Rattle.ew_model.specs.declared.id.Id.{Id}
use Rattle.ew_model.specs.declared.node.Node.TheVariants.{Base}
use Rattle.ew_model.specs.Entries.{Inserted, insertions, deletes, is_deleted, order, visible}
use Rattle.ew_model.specs.Entries.Entry.{Insertion}
use Rattle.ew_model.specs.Tree.{base_id, based, Noted, all_entries, entries_over, tree_of}
use Rattle.ew_model.specs.Records.{Record, record_in, records, walker_records, applied_entries, prepared_entries, prepared_in, deletions_of}
use Rattle.ew_model.proofs.SortingLaws.{all_from}
use Rattle.ew_model.proofs.ClearLaws.{all_pass}
use Rattle.ew_model.proofs.BaseLaws.{base_visible, base_long, base_kept}
use Rattle.ew_model.proofs.RecordLaws.{is_inserted_from}
use Rattle.advance_retreat.specs.Kept.{Kept}
use Rattle.character_runs.specs.States.{single, base_records}
use Rattle.advance_retreat.specs.Standing.{most, kept_record, kept_target, AreChildren, StandsFor}
use Rattle.advance_retreat.proofs.Nodes.{base_node, base_next, base_there}

base_struck : (n : ℕ) (x : Id) → filter (deletes x) (based n) ≡ []
base_struck zero x = refl
base_struck (suc n) x = filter-append (deletes x) (based n) (Insertion (base_node n) ∷ []) ∙ append-nil (filter (deletes x) (based n)) ∙ base_struck n x

base_order : (n : ℕ) → order (based n) ≡ insertions (based n)
unfolding visible
base_order n =
    sym (all_pass (λ (y : Inserted). not (is_deleted (based n) y.id)) (order (based n)) (all_from (λ (y : Inserted). not (is_deleted (based n) y.id) ≡ true) (order (based n)) (λ y m. ap not (base_kept n y.id))))
    ∙ base_visible n

pub base_number : (b i : ℕ) → i < b → prepared_in (based b) (base_id i) ≡ 1
base_number b i lt =
    ap (λ c. cond c (suc (deletions_of (based b) (base_id i))) 0) (is_inserted_from (based b) (base_node i) (base_there b i lt))
    ∙ ap (λ es. suc (length es)) (base_struck b (base_id i))

abbrev base_record : ℕ → Inserted → Record
base_record b z = record_in (based b) (based b) z

kept_base : (b n : ℕ) → n ≤ b → map (kept_record []) (map (base_record b) (insertions (based n))) ≡ base_records n
kept_base b zero le = refl
kept_base b (suc n) le =
    ap (λ zs. map (kept_record []) (map (base_record b) zs)) (base_next n)
    ∙ ap (map (kept_record [])) (map-append (base_record b) (insertions (based n)) (base_node n ∷ []))
    ∙ map-append (kept_record []) (map (base_record b) (insertions (based n))) (base_record b (base_node n) ∷ [])
    ∙ (λ i. kept_base b n below i ++ single (Base n) (base_number b n lt i) (not (base_kept b (base_id n) i)) ∷ [])
  where
    below : n ≤ b
    below = omega arith

    lt : n < b
    lt = omega arith

no_events : (b : ℕ) → tree_of nat_eq b [] ≡ []
unfolding tree_of
no_events b = refl

no_notes : (b : ℕ) → all_entries {N = ℕ} b [] ≡ based b
no_notes b = append-nil (based b)

base_applied : (b : ℕ) → applied_entries b [] ≡ based b
base_applied b = ap (all_entries b) (no_events b) ∙ no_notes b

base_prepared : (b : ℕ) → prepared_entries b [] [] ≡ based b
base_prepared b = ap (λ ns. entries_over nat_eq b ns []) (no_events b) ∙ no_notes b

base_walker : (b : ℕ) → walker_records b [] [] ≡ map (base_record b) (insertions (based b))
base_walker b = (λ i. records (base_applied b i) (base_prepared b i)) ∙ ap (map (base_record b)) (base_order b)

abbrev pub base_state : ℕ → Kept
base_state b = record { base = b; records = base_records b; attached = []; targets = []; lost = 0 }

no_children : (b : ℕ) → AreChildren b [] []
no_children b = record { sound = tt; paths = λ n y m. absurd m; there = λ n y m. absurd m; only = λ a m. absurd m; enough = λ a i m. absurd m }

pub base_stands : (b : ℕ) → b ≤ most → StandsFor (base_state b) b [] []
base_stands b short = record {
  run = tt;
  closed = λ c m. absurd m;
  part = λ n h. let no : ⊥ = cc in absurd no;
  placed = ap (map (λ (n : Noted ℕ). n.name)) (no_events b);
  base = refl;
  records = sym (kept_base b b (omega arith)) ∙ (λ i. map (kept_record (sym (no_events b) i)) (sym (base_walker b) i));
  children = subst (λ ns. AreChildren b ns []) (sym (no_events b)) (no_children b);
  targets = sym (ap (λ ns. map (kept_target ns) ns) (no_events b));
  short_base = short;
  short_history = omega arith;
  short_text = let long : length (visible (applied_entries b [])) ≡ b = ap (λ es. length (visible es)) (base_applied b) ∙ base_long b in omega arith;
}

-- all of the base is visible
pub base_text : (b : ℕ) → length (visible (prepared_entries b [] [])) ≡ b
base_text b = ap (λ es. length (visible es)) (base_prepared b) ∙ base_long b
