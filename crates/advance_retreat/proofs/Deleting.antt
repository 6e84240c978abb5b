-- What the apply of a deletion leaves, and does to the text.
use Rattle.std.proofs.Common.{◌≡◌, ℕ, suc, ◌<◌, ◌≤◌, Bool, true, false, cond, inl, List, [], ◌∷◌, ◌++◌, map, filter, length, take, Some, option_map, slice_get, nat_eq, refl, sym, ap, ◌∙◌, subst, arith}
use Rattle.std.proofs.lemmas.Bool.{eq-eqb, false≢true}
use Rattle.ew_model.specs.declared.id.Id.{Id}
use Rattle.ew_model.specs.declared.node.Node.{Node}
use Rattle.ew_model.specs.declared.text_op.TextOp.TheVariants.{Del, Nothing}
use Rattle.ew_model.specs.Ids.{id_eq}
use Rattle.ew_model.specs.Sets.{Among}
use Rattle.ew_model.specs.Operations.{next_operation}
use Rattle.ew_model.specs.Entries.{Inserted, visible}
use Rattle.ew_model.specs.Entries.Entry.{Deletion}
use Rattle.ew_model.specs.Places.{place}
use Rattle.ew_model.specs.Places.Act.{DeleteAt}
use Rattle.ew_model.specs.Tree.{Applied, Noted, next_entry, tree_of}
use Rattle.ew_model.specs.Records.{Record, MayApply, struck, next_of, walker_records, applied_entries, prepared_entries, is_one, ones_in, effects_in}
use Rattle.ew_model.proofs.SetLaws.{joined_right}
use Rattle.ew_model.proofs.ReadLaws.{operations_read}
use Rattle.ew_model.proofs.PlaceReads.{records_place}
use Rattle.ew_model.proofs.StateLaws.{applies_tell}
use Rattle.walker_record.specs.Stretches.{Stretch}
use Rattle.fugue_place.specs.Attachments.{node_eq}
use Rattle.character_runs.specs.declared.change.Change.TheVariants.{Strike}
use Rattle.advance_retreat.specs.Kept.{Kept, with_deletion}
use Rattle.character_runs.specs.States.{deletion_by, single, is_visible, visible_in, shown_in, changed, changed_at}
use Rattle.character_runs.specs.Spots.{IsVisibleAt}
use Rattle.advance_retreat.specs.Standing.{most, node_of, kept_record, StandsFor}
use Rattle.character_runs.proofs.Lists.{count, count_above}
use Rattle.character_runs.proofs.Cuts.{count-mapped, mapped_alike, Cut, cut_at, taken}
use Rattle.advance_retreat.proofs.Room.{CanFollow}
use Rattle.advance_retreat.proofs.Nodes.{node_of-more}
use Rattle.advance_retreat.proofs.Keeping.{notes, rs, part, record_char, visible_told, about_told}
use Rattle.advance_retreat.proofs.Applying as apply

count_fewer : {X : Type 0} (p q : X → Bool) (xs : List X) → ((x : X) → p x ≡ true → q x ≡ true) → count p xs ≤ count q xs
count_fewer p q [] f = omega arith
count_fewer p q (x ∷ xs) f = at (p x) refl (q x) refl (count_fewer p q xs f)
  where
    at : (b : Bool) → p x ≡ b → (c : Bool) → q x ≡ c → count p xs ≤ count q xs → length (cond b (x ∷ filter p xs) (filter p xs)) ≤ length (cond c (x ∷ filter q xs) (filter q xs))
    at true h true k le = omega arith
    at true h false k le = absurd (false≢true (sym k ∙ f x h))
    at false h true k le = omega arith
    at false h false k le = omega arith

still_shown : (b e : Bool) → cond b false e ≡ true → e ≡ true
still_shown true e h = absurd (false≢true h)
still_shown false e h = h

strike_one : (ns : List (Noted ℕ)) (lv : ℕ) (t : Id) (v : Node) (r : Record) → node_eq (node_of ns r.node.id) v ≡ id_eq t r.node.id
    → changed_at v Strike (kept_record ns r) ≡ kept_record (ns ++ record { name = lv; entry = Deletion t } ∷ []) (struck t r)
strike_one ns lv t v r h =
    ap (λ c. cond c (changed Strike (kept_record ns r)) (kept_record ns r)) h ∙ at (id_eq t r.node.id)
    ∙ sym (ap (λ w. single w (struck t r).prepared (struck t r).effect) (node_of-more (record { name = lv; entry = Deletion t }) (λ x. refl) ns r.node.id))
  where
    at : (c : Bool) → cond c (changed Strike (kept_record ns r)) (kept_record ns r) ≡ single (node_of ns r.node.id) (cond c (suc r.prepared) r.prepared) (cond c false r.effect)
    at true = refl
    at false = refl

module _ (s : Kept) (b : ℕ) (events : List (Applied ℕ)) (prepared : List ℕ) (st : StandsFor s b events prepared) (lv : ℕ) (may : CanFollow events lv) (at k : ℕ) (found : IsVisibleAt s.records at k) where
  abbrev ns : List (Noted ℕ)
  ns = notes s b events prepared st

  abbrev kept : Record → Stretch
  kept = kept_record ns

  pub cut : Cut kept (rs s b events prepared st) k found.0
  cut = cut_at kept (rs s b events prepared st) k found.0 (ap (λ ks. slice_get ks k) (sym st.records) ∙ found.1)

  abbrev r : Record
  r = cut.here

  abbrev t : Id
  t = r.node.id

  one : is_one r ≡ true
  one = eq-eqb r.prepared 1 (ap (λ (w : Stretch). w.prepared) cut.image ∙ found.2)

  front_kept : take k s.records ≡ map kept cut.front
  front_kept = ap (take k) st.records ∙ taken kept (rs s b events prepared st) k found.0 cut

  ones : ones_in cut.front ≡ at
  ones = sym (count-mapped kept is_visible cut.front) ∙ ap visible_in (sym front_kept) ∙ found.3

  target : slice_get (visible (part s b events prepared st)) at ≡ Some r.node
  target = ap (slice_get (visible (part s b events prepared st))) (sym ones) ∙ (records_place b events prepared st.run).at cut.front r cut.rest cut.whole one

  pub entry : next_entry nat_eq b (tree_of nat_eq b events) (next_of lv (DeleteAt at) prepared) ≡ Some (Deletion t)
  unfolding next_entry place
  entry = ap (option_map (λ (z : Inserted). Deletion z.id)) target

  pub may_apply : MayApply events (next_of lv (DeleteAt at) prepared)
  may_apply = record { name = may.position; act = tt; over = st.closed }

  abbrev more : List (Noted ℕ)
  more = ns ++ record { name = lv; entry = Deletion t } ∷ []

  grows : tree_of nat_eq b (events ++ next_of lv (DeleteAt at) prepared ∷ []) ≡ more
  grows = apply.grows s b events prepared st lv (DeleteAt at) (Deletion t) may_apply entry may.room

  tells : walker_records b (events ++ next_of lv (DeleteAt at) prepared ∷ []) (lv ∷ prepared) ≡ map (struck t) (rs s b events prepared st)
  tells = applies_tell b events prepared lv (DeleteAt at) (Deletion t) st.run may_apply entry

  from_is : node_of ns t ≡ found.0.from
  from_is = ap (λ (w : Stretch). w.from) cut.image

  here : Among r (rs s b events prepared st)
  here = subst (Among r) (sym cut.whole) (joined_right cut.front (r ∷ cut.rest) r (inl refl))

  same_node : (x : Record) → Among x (rs s b events prepared st) → node_eq (node_of ns x.node.id) found.0.from ≡ id_eq t x.node.id
  same_node x m =
      ap (node_eq (node_of ns x.node.id)) (sym from_is)
      ∙ about_told s b events prepared st (Deletion t) (r.node, record_char s b events prepared st r here, refl) x m

  records_kept : map (changed_at found.0.from Strike) s.records ≡ map (kept_record (tree_of nat_eq b (events ++ next_of lv (DeleteAt at) prepared ∷ []))) (walker_records b (events ++ next_of lv (DeleteAt at) prepared ∷ []) (lv ∷ prepared))
  records_kept =
      ap (map (changed_at found.0.from Strike)) st.records
      ∙ mapped_alike kept (changed_at found.0.from Strike) (struck t) (kept_record more) (rs s b events prepared st) (λ x m. strike_one ns lv t found.0.from x (same_node x m))
      ∙ (λ i. map (kept_record (sym grows i)) (sym tells i))

  text_kept : length (visible (applied_entries b (events ++ next_of lv (DeleteAt at) prepared ∷ []))) ≤ most
  text_kept =
      let run = apply.run_kept s b events prepared st lv (DeleteAt at) (Deletion t) may_apply entry may.room in
      let new = apply.text_told b (events ++ next_of lv (DeleteAt at) prepared ∷ []) (lv ∷ prepared) run in
      let old = apply.text_told b events prepared st.run in
      let counted : count (λ (x : Record). x.effect) (walker_records b (events ++ next_of lv (DeleteAt at) prepared ∷ []) (lv ∷ prepared)) ≡ count (λ (x : Record). (struck t x).effect) (rs s b events prepared st) =
      ap (count (λ (x : Record). x.effect)) tells ∙ count-mapped (struck t) (λ (x : Record). x.effect) (rs s b events prepared st) in
      let fewer = count_fewer (λ (x : Record). (struck t x).effect) (λ (x : Record). x.effect) (rs s b events prepared st) (λ x h. still_shown (id_eq t x.node.id) x.effect h) in
      let short = st.short_text in
      omega (arith, new, old, counted, fewer, short)

  pub deleted : StandsFor (with_deletion s lv found.0.from) b (events ++ next_of lv (DeleteAt at) prepared ∷ []) (lv ∷ prepared)
  deleted = record {
    run = apply.run_kept s b events prepared st lv (DeleteAt at) (Deletion t) may_apply entry may.room;
    closed = apply.closed_kept s b events prepared st lv (DeleteAt at) (Deletion t) may_apply entry may.room;
    part = apply.part_kept s b events prepared st lv (DeleteAt at) (Deletion t) may_apply entry may.room;
    placed = apply.placed_kept s b events prepared st lv (DeleteAt at) (Deletion t) may_apply entry may.room;
    base = st.base;
    records = records_kept;
    children = apply.children_kept s b events prepared st lv (DeleteAt at) (Deletion t) may_apply entry may.room (λ x. refl);
    targets = ap (λ (v : Node). s.targets ++ record { lv = lv; node = v } ∷ []) (sym from_is)
        ∙ apply.targets_kept s b events prepared st lv (DeleteAt at) (Deletion t) may_apply entry may.room (λ x. refl);
    short_base = st.short_base;
    short_history = apply.short_kept s b events prepared st lv (DeleteAt at) (Deletion t) may_apply entry may.room;
    short_text = text_kept;
  }

  pub deletion_does : next_operation nat_eq b (tree_of nat_eq b events) (next_of lv (DeleteAt at) prepared) ≡ deletion_by found.0.effect (shown_in (take k s.records))
  deletion_does =
      operations_read b events prepared lv (DeleteAt at) (Deletion t) st.run may_apply entry cut.front r cut.rest cut.whole refl
      ∙ (λ i. cond (ap (λ (w : Stretch). w.effect) cut.image i) (Del (shown i)) Nothing)
      ∙ either found.0.effect (shown_in (take k s.records))
    where
      either : (c : Bool) (n : ℕ) → cond c (Del n) Nothing ≡ deletion_by c n
      either true n = refl
      either false n = refl

      shown : effects_in cut.front ≡ shown_in (take k s.records)
      shown = sym (count-mapped kept (λ (w : Stretch). w.effect) cut.front) ∙ ap shown_in (sym front_kept)

-- the index is one of the visible characters
pub in_range : (s : Kept) (b : ℕ) (events : List (Applied ℕ)) (prepared : List ℕ) → StandsFor s b events prepared → (at k : ℕ) → IsVisibleAt s.records at k → at < length (visible (prepared_entries b events prepared))
in_range s b events prepared st at k found =
    let above = count_above is_visible s.records k found.0 found.1 (eq-eqb found.0.prepared 1 found.2) in
    let all = visible_told s b events prepared st in
    let before = found.3 in
    omega (arith, above, all, before)
