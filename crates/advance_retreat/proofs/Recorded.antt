-- The events whose characters a state has a record of.
use Rattle.std.proofs.Common.{◌≡◌, ℕ, true, List, sym, ap, ◌∙◌, subst}
use Rattle.std.specs.List.{list_any}
use Rattle.ew_model.specs.declared.node.Node.TheVariants.{Event}
use Rattle.ew_model.specs.Sets.{Among}
use Rattle.ew_model.specs.Tree.{Applied, Noted}
use Rattle.ew_model.specs.Records.{Record}
use Rattle.ew_model.proofs.SetLaws.{among_map}
use Rattle.ew_model.proofs.ListTests.{found_by}
use Rattle.walker_record.specs.Stretches.{Stretch}
use Rattle.fugue_place.specs.Attachments.{is_there}
use Rattle.fugue_place.proofs.NodeLaws.{node_same}
use Rattle.advance_retreat.specs.Kept.{Kept}
use Rattle.character_runs.specs.States.{is_of}
use Rattle.advance_retreat.specs.Standing.{node_of, kept_record, StandsFor}
use Rattle.advance_retreat.proofs.CharLaws.{own_char, char_there}
use Rattle.advance_retreat.proofs.Keeping.{notes, rs}

module _ (s : Kept) (b : ℕ) (events : List (Applied ℕ)) (prepared : List ℕ) (st : StandsFor s b events prepared) (n : ℕ) (recorded : list_any (is_of (Event n)) s.records ≡ true) where
  abbrev ns : List (Noted ℕ)
  ns = notes s b events prepared st

  record Own : Type 0 where
    record_of : Record
    there : Among record_of (rs s b events prepared st)
    node : node_of ns record_of.node.id ≡ Event n

  own : Own
  own =
      let k = found_by (is_of (Event n)) s.records recorded in
      let r = among_map (kept_record ns) (rs s b events prepared st) k.0 (subst (Among k.0) st.records k.1) in
      record { record_of = r.0; there = r.1; node = sym (ap (λ (x : Stretch). x.from) r.2) ∙ node_same k.0.from (Event n) k.2 }

  -- its node hangs in the tree
  pub recorded_there : is_there s.attached (Event n) ≡ true
  recorded_there =
      ap (is_there s.attached) (sym own.node) ∙ char_there s b events prepared st own.record_of.node (own_char s b events prepared st own.record_of own.there)
