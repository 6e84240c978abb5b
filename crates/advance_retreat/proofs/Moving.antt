-- What an advance and a retreat leave.
use Rattle.std.proofs.Common.{◌≡◌, ℕ, suc, Bool, true, false, cond, ⊎_elim, List, ◌∷◌, map, nat_eq, not, Some, None, refl, sym, ap, ◌∙◌, subst}
use Rattle.std.proofs.lemmas.Bool.{or_cases, and_parts, eqb-true}
use Rattle.std.specs.List.{list_any}
use Rattle.ew_model.specs.declared.node.Node.{Node}
use Rattle.ew_model.specs.declared.node.Node.TheVariants.{Root}
use Rattle.ew_model.specs.Sets.{Among}
use Rattle.ew_model.specs.Entries.{Entry}
use Rattle.ew_model.specs.Tree.{Applied, Noted}
use Rattle.ew_model.specs.Records.{Record, holds, is_about, raised, lowered, one_less, without, MayAdvance, MayRetreat}
use Rattle.ew_model.proofs.RecordLaws.{map_map, map_same}
use Rattle.ew_model.proofs.StateLaws.{advances_tell, retreats_tell, holds_without}
use Rattle.walker_record.specs.Stretches.{Stretch}
use Rattle.fugue_place.specs.Attachments.{node_eq}
use Rattle.character_runs.specs.declared.change.Change.{Change}
use Rattle.character_runs.specs.declared.change.Change.TheVariants.{Raise, Lower}
use Rattle.advance_retreat.specs.Kept.{Kept, target_at}
use Rattle.character_runs.specs.States.{single, changed, changed_at}
use Rattle.advance_retreat.specs.Standing.{node_of, kept_record, about, is_applied, StandsFor}
use Rattle.character_runs.proofs.Cuts.{mapped_alike}
use Rattle.advance_retreat.proofs.Nodes.{about_char}
use Rattle.advance_retreat.proofs.Keeping.{notes, rs, grown, note_named, target_told, root_apart, about_told}

raise_one : (ns : List (Noted ℕ)) (e : Entry) (v : Node) (r : Record) → node_eq (node_of ns r.node.id) v ≡ is_about e r.node.id → changed_at v Raise (kept_record ns r) ≡ kept_record ns (raised e r)
raise_one ns e v r h = ap (λ c. cond c (changed Raise (kept_record ns r)) (kept_record ns r)) h ∙ at (is_about e r.node.id)
  where
    at : (c : Bool) → cond c (changed Raise (kept_record ns r)) (kept_record ns r) ≡ single (node_of ns r.node.id) (cond c (suc r.prepared) r.prepared) r.effect
    at true = refl
    at false = refl

lower_one : (ns : List (Noted ℕ)) (e : Entry) (v : Node) (r : Record) → node_eq (node_of ns r.node.id) v ≡ is_about e r.node.id → changed_at v Lower (kept_record ns r) ≡ kept_record ns (lowered e r)
lower_one ns e v r h = ap (λ c. cond c (changed Lower (kept_record ns r)) (kept_record ns r)) h ∙ at (is_about e r.node.id)
  where
    at : (c : Bool) → cond c (changed Lower (kept_record ns r)) (kept_record ns r) ≡ single (node_of ns r.node.id) (cond c (one_less r.prepared) r.prepared) r.effect
    at true = refl
    at false = refl

-- a state with other records, and with its own changed at a node
abbrev pub with_records : Kept → List Stretch → Kept
with_records s rs = record { base = s.base; records = rs; attached = s.attached; targets = s.targets; lost = s.lost }

abbrev pub changed_state : Kept → Node → Change → Kept
changed_state s v change = with_records s (map (changed_at v change) s.records)

module _ (s : Kept) (b : ℕ) (events : List (Applied ℕ)) (prepared : List ℕ) (st : StandsFor s b events prepared) (n : Noted ℕ) (m : Among n (notes s b events prepared st)) (applied : is_applied events n.name) where
  same_node : (r : Record) → Among r (rs s b events prepared st) → node_eq (node_of (notes s b events prepared st) r.node.id) (about (notes s b events prepared st) n.entry) ≡ is_about n.entry r.node.id
  same_node r mr =
      about_told s b events prepared st n.entry (about_char b events (notes s b events prepared st) (grown s b events prepared st) n m) r mr

  pub advanced : MayAdvance events prepared n.name → StandsFor (changed_state s (about (notes s b events prepared st) n.entry) Raise) b events (n.name ∷ prepared)
  advanced may =
      let law = advances_tell b events prepared n st.run st.closed m may in
      let k = kept_record (notes s b events prepared st) in
      let v = about (notes s b events prepared st) n.entry in
      record {
        run = st.run;
        closed = law.1;
        part = λ i h. ⊎_elim (λ own. ap (λ j. list_any (λ (c : Applied ℕ). nat_eq c.name j) events) (eqb-true i n.name own) ∙ applied) (λ in_names. st.part i in_names) (or_cases (nat_eq i n.name) (holds prepared i) h);
        placed = st.placed;
        base = st.base;
        records = ap (map (changed_at v Raise)) st.records
            ∙ mapped_alike k (changed_at v Raise) (raised n.entry) k (rs s b events prepared st) (λ r mr. raise_one (notes s b events prepared st) n.entry v r (same_node r mr))
            ∙ sym (ap (map k) law.0);
        children = st.children;
        targets = st.targets;
        short_base = st.short_base;
        short_history = st.short_history;
        short_text = st.short_text;
      }

  pub retreated : MayRetreat events prepared n.name → StandsFor (changed_state s (about (notes s b events prepared st) n.entry) Lower) b events (without n.name prepared)
  retreated may =
      let law = retreats_tell b events prepared n st.run st.closed m may in
      let k = kept_record (notes s b events prepared st) in
      let v = about (notes s b events prepared st) n.entry in
      record {
        run = st.run;
        closed = law.1;
        part = λ i h. st.part i (and_parts (holds prepared i) (not (nat_eq i n.name)) (sym (holds_without n.name i prepared) ∙ h)).0;
        placed = st.placed;
        base = st.base;
        records = ap (map (changed_at v Lower)) st.records
            ∙ mapped_alike k (changed_at v Lower) (lowered n.entry) k (rs s b events prepared st) (λ r mr. lower_one (notes s b events prepared st) n.entry v r (same_node r mr))
            ∙ sym (ap (map k) law.0);
        children = st.children;
        targets = st.targets;
        short_base = st.short_base;
        short_history = st.short_history;
        short_text = st.short_text;
      }

-- a change at the root changes nothing
module _ (s : Kept) (b : ℕ) (events : List (Applied ℕ)) (prepared : List ℕ) (st : StandsFor s b events prepared) (change : Change) where
  abbrev k : Record → Stretch
  k = kept_record (notes s b events prepared st)

  pub root_unchanged : changed_state s Root change ≡ s
  root_unchanged =
      ap (with_records s)
      (ap (map (changed_at Root change)) st.records ∙ map_map k (changed_at Root change) (rs s b events prepared st)
      ∙ map_same (λ (r : Record). changed_at Root change (k r)) k (rs s b events prepared st) (λ r m. ap (λ c. cond c (changed change (k r)) (k r)) (root_apart s b events prepared st r m))
      ∙ sym st.records)

some_node : (v w : Node) → Some v ≡ Some w → v ≡ w
some_node v w e = cc

none_node : (w : Node) → None ≡ Some w → ⊥
none_node w e = cc

-- by the position and the node found for it
module _ (s : Kept) (b : ℕ) (events : List (Applied ℕ)) (prepared : List ℕ) (st : StandsFor s b events prepared) (lv : ℕ) where
  pub found_node : (applied : is_applied events lv) → let n = note_named s b events prepared st lv applied in target_at s.targets lv ≡ Some (about (notes s b events prepared st) n.0.entry)
  found_node applied = let n = note_named s b events prepared st lv applied in ap (target_at s.targets) (sym n.2) ∙ target_told s b events prepared st n.0 n.1

  pub no_target : is_applied events lv → target_at s.targets lv ≡ None → ⊥
  no_target applied none = let n = note_named s b events prepared st lv applied in none_node (about (notes s b events prepared st) n.0.entry) (sym none ∙ found_node applied)

  pub advanced_by : (v : Node) → target_at s.targets lv ≡ Some v → is_applied events lv → MayAdvance events prepared lv → StandsFor (changed_state s v Raise) b events (lv ∷ prepared)
  advanced_by v found applied may =
      let n = note_named s b events prepared st lv applied in
      let own = about (notes s b events prepared st) n.0.entry in
      subst (λ (w : Node). StandsFor (changed_state s w Raise) b events (lv ∷ prepared)) (some_node own v (sym (found_node applied) ∙ found))
      (subst (λ (k : ℕ). StandsFor (changed_state s own Raise) b events (k ∷ prepared)) n.2
      (advanced s b events prepared st n.0 n.1 (subst (is_applied events) (sym n.2) applied) (subst (MayAdvance events prepared) (sym n.2) may)))

  pub retreated_by : (v : Node) → target_at s.targets lv ≡ Some v → is_applied events lv → MayRetreat events prepared lv → StandsFor (changed_state s v Lower) b events (without lv prepared)
  retreated_by v found applied may =
      let n = note_named s b events prepared st lv applied in
      let own = about (notes s b events prepared st) n.0.entry in
      subst (λ (w : Node). StandsFor (changed_state s w Lower) b events (without lv prepared)) (some_node own v (sym (found_node applied) ∙ found))
      (subst (λ (k : ℕ). StandsFor (changed_state s own Lower) b events (without k prepared)) n.2
      (retreated s b events prepared st n.0 n.1 (subst (is_applied events) (sym n.2) applied) (subst (MayRetreat events prepared) (sym n.2) may)))

  -- a mark is about the root
  pub advanced_past : target_at s.targets lv ≡ Some Root → is_applied events lv → MayAdvance events prepared lv → StandsFor s b events (lv ∷ prepared)
  advanced_past found applied may = subst (λ (t : Kept). StandsFor t b events (lv ∷ prepared)) (root_unchanged s b events prepared st Raise) (advanced_by Root found applied may)

  pub retreated_past : target_at s.targets lv ≡ Some Root → is_applied events lv → MayRetreat events prepared lv → StandsFor s b events (without lv prepared)
  retreated_past found applied may = subst (λ (t : Kept). StandsFor t b events (without lv prepared)) (root_unchanged s b events prepared st Lower) (retreated_by Root found applied may)
