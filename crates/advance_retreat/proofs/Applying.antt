-- What stands after any apply.
use Rattle.std.proofs.Common.{◌≡◌, ℕ, ◌<◌, ◌≤◌, true, false, inl, ⊎_elim, List, [], ◌∷◌, ◌++◌, map, filter, length, Some, nat_eq, refl, sym, ap, ◌∙◌, subst, arith}
use Rattle.std.proofs.lemmas.Bool.{or_cases, eq-eqb, eqb-true, false≢true}
use Rattle.std.proofs.lemmas.List.{map-append}
use Rattle.ew_model.specs.declared.id.Id.{Id}
use Rattle.ew_model.specs.Sets.{Among}
use Rattle.ew_model.specs.Entries.{Inserted, Entry, visible}
use Rattle.ew_model.specs.Entries.Entry.{Insertion}
use Rattle.ew_model.specs.Places.{Act}
use Rattle.ew_model.specs.Tree.{Applied, Noted, next_entry, noted_as, tree_of}
use Rattle.ew_model.specs.Records.{Record, IsRun, IsClosed, MayApply, holds, inserts, next_of, walker_records, applied_entries}
use Rattle.ew_model.proofs.SetLaws.{among_joined, joined_left, joined_right}
use Rattle.ew_model.proofs.ListTests.{any_from, found_by}
use Rattle.ew_model.proofs.TreeLaws.{tree_of-push}
use Rattle.ew_model.proofs.RunLaws.{id_itself}
use Rattle.ew_model.proofs.RecordLaws.{map_same, records_tell}
use Rattle.ew_model.proofs.StateLaws.{node_of as record_node, applies_keep}
use Rattle.advance_retreat.specs.Kept.{Kept}
use Rattle.advance_retreat.specs.Standing.{most, kept_record, kept_target, AreChildren, is_applied, StandsFor}
use Rattle.character_runs.specs.States.{single}
use Rattle.advance_retreat.proofs.Keeping.{notes}
use Rattle.advance_retreat.proofs.Nodes.{node_of-more, about-more}
use Rattle.character_runs.proofs.Lists.{count, length-push}
use Rattle.character_runs.proofs.Cuts.{length-mapped}

-- as many records have effect as the text has characters
pub text_told : (b : ℕ) (events : List (Applied ℕ)) (prepared : List ℕ) → IsRun [] events → count (λ (r : Record). r.effect) (walker_records b events prepared) ≡ length (visible (applied_entries b events))
text_told b events prepared run =
    sym (length-mapped record_node (filter (λ (r : Record). r.effect) (walker_records b events prepared))) ∙ ap length (records_tell b events prepared run).effect_nodes

module _ (s : Kept) (b : ℕ) (events : List (Applied ℕ)) (prepared : List ℕ) (st : StandsFor s b events prepared) (lv : ℕ) (act : Act) (e : Entry) (may : MayApply events (next_of lv act prepared))
    (entry : next_entry nat_eq b (tree_of nat_eq b events) (next_of lv act prepared) ≡ Some e) (room : length events < most) where
  abbrev pub event : Applied ℕ
  event = next_of lv act prepared

  abbrev pub later : List (Applied ℕ)
  later = events ++ event ∷ []

  abbrev pub note : Noted ℕ
  note = record { name = lv; entry = e }

  pub grows : tree_of nat_eq b later ≡ tree_of nat_eq b events ++ note ∷ []
  grows = tree_of-push nat_eq b events event ∙ ap (λ o. tree_of nat_eq b events ++ noted_as lv o) entry

  pub run_kept : IsRun [] later
  run_kept = (applies_keep events prepared lv act st.run may).0

  pub closed_kept : IsClosed later (lv ∷ prepared)
  closed_kept = (applies_keep events prepared lv act st.run may).1

  pub part_kept : (n : ℕ) → holds (lv ∷ prepared) n ≡ true → is_applied later n
  part_kept n h =
      ⊎_elim
      (λ own. any_from (λ (c : Applied ℕ). nat_eq c.name n) later event (joined_right events (event ∷ []) event (inl refl)) (eq-eqb lv n (sym (eqb-true n lv own))))
      (λ old. let c = found_by (λ (c : Applied ℕ). nat_eq c.name n) events (st.part n old) in any_from (λ (c : Applied ℕ). nat_eq c.name n) later c.0 (joined_left events (event ∷ []) c.0 c.1) c.2)
      (or_cases (nat_eq n lv) (holds prepared n) h)

  pub placed_kept : map (λ (n : Noted ℕ). n.name) (tree_of nat_eq b later) ≡ map (λ (c : Applied ℕ). c.name) later
  placed_kept =
      ap (map (λ (n : Noted ℕ). n.name)) grows ∙ map-append (λ (n : Noted ℕ). n.name) (tree_of nat_eq b events) (note ∷ []) ∙ (λ i. st.placed i ++ lv ∷ [])
      ∙ sym (map-append (λ (c : Applied ℕ). c.name) events (event ∷ []))

  pub short_kept : length later ≤ most
  short_kept = let long = length-push events event in omega (arith, long, room)

  -- where no character comes in
  module _ (none : (x : Id) → inserts x e ≡ false) where
    abbrev more : List (Noted ℕ)
    more = notes s b events prepared st ++ note ∷ []

    pub record_kept : (r : Record) → kept_record (notes s b events prepared st) r ≡ kept_record more r
    record_kept r = ap (λ v. single v r.prepared r.effect) (sym (node_of-more note none (notes s b events prepared st) r.node.id))

    target_kept : (n : Noted ℕ) → kept_target (notes s b events prepared st) n ≡ kept_target more n
    target_kept n = ap (λ v. record { lv = n.name; node = v }) (sym (about-more note none (notes s b events prepared st) n.entry))

    pub targets_kept : s.targets ++ kept_target (notes s b events prepared st) note ∷ [] ≡ map (kept_target (tree_of nat_eq b later)) (tree_of nat_eq b later)
    targets_kept =
        (λ i. old i ++ target_kept note i ∷ []) ∙ sym (map-append (kept_target more) (notes s b events prepared st) (note ∷ [])) ∙ sym (ap (λ ms. map (kept_target ms) ms) grows)
      where
        old : s.targets ≡ map (kept_target more) (notes s b events prepared st)
        old = st.targets ∙ map_same (kept_target (notes s b events prepared st)) (kept_target more) (notes s b events prepared st) (λ n m. target_kept n)

    pub children_kept : AreChildren b (tree_of nat_eq b later) s.attached
    children_kept = subst (λ ms. AreChildren b ms s.attached) (sym grows) (record {
      sound = st.children.sound;
      paths = λ n y m h. st.children.paths n y (older n y m h) h;
      there = λ n y m h. st.children.there n y (older n y m h) h;
      only = λ a m. let o = st.children.only a m in (o.0, joined_left (notes s b events prepared st) (note ∷ []) o.0 o.1, o.2, o.3);
      enough = st.children.enough;
    })
      where
        older : (n : Noted ℕ) (y : Inserted) → Among n more → n.entry ≡ Insertion y → Among n (notes s b events prepared st)
        older n y m h =
            ⊎_elim
            (λ old. old)
            (λ new. ⊎_elim
            (λ is. absurd (false≢true (sym (none y.id) ∙ ap (inserts y.id) (sym (ap (λ (w : Noted ℕ). w.entry) is) ∙ h) ∙ id_itself y.id)))
            (λ no. absurd no)
            new)
            (among_joined (notes s b events prepared st) (note ∷ []) n m)
