-- What the apply of a mark leaves, and that it does nothing to the text.
use Rattle.std.proofs.Common.{◌≡◌, ℕ, ◌≤◌, List, [], ◌∷◌, ◌++◌, map, length, Some, nat_eq, refl, sym, ap, ◌∙◌, arith}
use Rattle.ew_model.specs.declared.text_op.TextOp.TheVariants.{Nothing}
use Rattle.ew_model.specs.Operations.{next_operation}
use Rattle.ew_model.specs.Entries.{visible}
use Rattle.ew_model.specs.Entries.Entry.{Mark}
use Rattle.ew_model.specs.Places.{place}
use Rattle.ew_model.specs.Places.Act.{MarkAs}
use Rattle.ew_model.specs.Tree.{Applied, Noted, next_entry, tree_of}
use Rattle.ew_model.specs.Records.{Record, MayApply, next_of, walker_records, applied_entries}
use Rattle.ew_model.proofs.RecordLaws.{map_same}
use Rattle.ew_model.proofs.StateLaws.{applies_tell}
use Rattle.advance_retreat.specs.Kept.{Kept, with_mark}
use Rattle.advance_retreat.specs.Standing.{most, kept_record, StandsFor}
use Rattle.character_runs.proofs.Lists.{count}
use Rattle.advance_retreat.proofs.Applying as apply
use Rattle.advance_retreat.proofs.Keeping.{notes, rs}
use Rattle.advance_retreat.proofs.Room.{CanFollow}

module _ (s : Kept) (b : ℕ) (events : List (Applied ℕ)) (prepared : List ℕ) (st : StandsFor s b events prepared) (lv : ℕ) where
  abbrev ns : List (Noted ℕ)
  ns = notes s b events prepared st

  abbrev later : List (Applied ℕ)
  later = events ++ next_of lv MarkAs prepared ∷ []

  entry : next_entry nat_eq b (tree_of nat_eq b events) (next_of lv MarkAs prepared) ≡ Some Mark
  unfolding next_entry place
  entry = refl

  pub mark_does : next_operation nat_eq b (tree_of nat_eq b events) (next_of lv MarkAs prepared) ≡ Nothing
  unfolding next_operation next_entry place
  mark_does = refl

  module _ (may : CanFollow events lv) where
    may_apply : MayApply events (next_of lv MarkAs prepared)
    may_apply = record { name = may.position; act = tt; over = st.closed }

    tells : walker_records b later (lv ∷ prepared) ≡ rs s b events prepared st
    tells = applies_tell b events prepared lv MarkAs Mark st.run may_apply entry

    records_kept : s.records ≡ map (kept_record (tree_of nat_eq b later)) (walker_records b later (lv ∷ prepared))
    records_kept =
        st.records
        ∙ map_same (kept_record ns) (kept_record (ns ++ record { name = lv; entry = Mark } ∷ [])) (rs s b events prepared st) (λ r m. apply.record_kept s b events prepared st lv MarkAs Mark may_apply entry may.room (λ x. refl) r)
        ∙ (λ i. map (kept_record (sym (apply.grows s b events prepared st lv MarkAs Mark may_apply entry may.room) i)) (sym tells i))

    text_kept : length (visible (applied_entries b later)) ≤ most
    text_kept =
        let run = apply.run_kept s b events prepared st lv MarkAs Mark may_apply entry may.room in
        let new = apply.text_told b later (lv ∷ prepared) run in
        let old = apply.text_told b events prepared st.run in
        let same = ap (count (λ (x : Record). x.effect)) tells in
        let short = st.short_text in
        omega (arith, new, old, same, short)

    pub marked : StandsFor (with_mark s lv) b later (lv ∷ prepared)
    marked = record {
      run = apply.run_kept s b events prepared st lv MarkAs Mark may_apply entry may.room;
      closed = apply.closed_kept s b events prepared st lv MarkAs Mark may_apply entry may.room;
      part = apply.part_kept s b events prepared st lv MarkAs Mark may_apply entry may.room;
      placed = apply.placed_kept s b events prepared st lv MarkAs Mark may_apply entry may.room;
      base = st.base;
      records = records_kept;
      children = apply.children_kept s b events prepared st lv MarkAs Mark may_apply entry may.room (λ x. refl);
      targets = apply.targets_kept s b events prepared st lv MarkAs Mark may_apply entry may.room (λ x. refl);
      short_base = st.short_base;
      short_history = apply.short_kept s b events prepared st lv MarkAs Mark may_apply entry may.room;
      short_text = text_kept;
    }
