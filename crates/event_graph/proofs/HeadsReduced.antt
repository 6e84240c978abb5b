-- Parents that are all heads are reduced.
use Rattle.std.proofs.Common.{◌≡◌, ℕ, zero, suc, ◌<◌, true, List, [], ◌∷◌, filter, map, length, inl, inr, sym, ap, ◌∙◌, arith}
use Rattle.std.specs.List.{HoldsAt}
use Rattle.std.specs.Ordering.{nat_cmp}
use Rattle.std.specs.declared.cmp.Ordering.TheVariants.{Equal}
use Rattle.std.proofs.lemmas.Cmp.{ranked}
use Rattle.ew_model.specs.declared.id.Id.{Id}
use Rattle.ew_model.specs.declared.event.Event.{Event}
use Rattle.ew_model.specs.Sets.{Among}
use Rattle.ew_model.specs.Ids.{id_eq, is_among}
use Rattle.ew_model.specs.Ancestors.{heads, is_reduced}
use Rattle.ew_model.specs.Positions.{is_reduced_at, positions_in, parent_positions}
use Rattle.ew_model.proofs.CoverLaws.{among_here}
use Rattle.ew_model.proofs.EditHeads.{heads_reduced}
use Rattle.ew_model.proofs.IdLaws.{is_same_id}
use Rattle.ew_model.proofs.ListTests.{filter_alike, found_by, same_truth}
use Rattle.ew_model.proofs.PositionNumbers.{numbered, position_named, positions_filtered}
use Rattle.ew_model.proofs.RisingLists.{among_named, number_among}
use Rattle.ew_model.proofs.SetLaws.{among_filter, filter_among}
use Rattle.event_graph.specs.Keeping.{IsAdmitted}
use Rattle.event_graph.proofs.Admitted.{agrees}

module _ (history : List Event) (parents : List Id) (all : (p : ℕ) → Among p (positions_in history parents) → Among p (positions_in history (heads history))) where
  -- the heads among the parents: all of them that are held
  abbrev them : List Id
  them = filter (is_among parents) (heads history)

  named : (z : ℕ × Event) → is_among them z.1.id ≡ true → is_among parents z.1.id ≡ true
  named z e =
      let found = found_by (id_eq z.1.id) them e in
      let same : z.1.id ≡ found.0 = (is_same_id z.1.id found.0).0 found.2 in
      ap (is_among parents) same ∙ (among_filter (is_among parents) (heads history) found.0 found.1).1

  head : (z : ℕ × Event) → Among z (numbered 0 history) → is_among parents z.1.id ≡ true → is_among them z.1.id ≡ true
  head z m e =
      let at : Among z.0 (positions_in history parents) = number_among (positions_in history parents) z.0 (position_named parents 0 history z m ∙ e) in
      let one : is_among (heads history) z.1.id ≡ true = sym (position_named (heads history) 0 history z m) ∙ among_named (positions_in history (heads history)) z.0 (all z.0 at) in
      let found = found_by (id_eq z.1.id) (heads history) one in
      let same : z.1.id ≡ found.0 = (is_same_id z.1.id found.0).0 found.2 in
      ap (is_among them) same ∙ among_here them found.0 (filter_among (is_among parents) (heads history) found.0 found.1 (ap (is_among parents) (sym same) ∙ e))

  same_positions : positions_in history parents ≡ positions_in history them
  same_positions =
      positions_filtered parents 0 history
      ∙ ap (map (λ (z : ℕ × Event). z.0)) (filter_alike (λ (z : ℕ × Event). is_among parents z.1.id) (λ (z : ℕ × Event). is_among them z.1.id) (numbered 0 history) (λ z m. same_truth (is_among parents z.1.id) (is_among them z.1.id) (head z m) (named z)))
      ∙ sym (positions_filtered them 0 history)

  pub all_heads_reduced : IsAdmitted history → is_reduced history parents ≡ true
  all_heads_reduced admitted =
      sym ((agrees history admitted).reduced parents) ∙ ap (is_reduced_at (parent_positions history)) same_positions ∙ (agrees history admitted).reduced them
      ∙ heads_reduced history them (λ x m. (among_filter (is_among parents) (heads history) x m).0)

-- what stands at a place is one of the numbers
pub stood_at : (xs : List ℕ) (x k : ℕ) → k < length xs → HoldsAt (λ y. nat_cmp y x ≡ Equal) xs k → Among x xs
stood_at [] x k low here = absurd (omega (arith, low))
stood_at (y ∷ xs) x zero low here = inl (sym (ranked y x Equal (sym (here 0))))
stood_at (y ∷ xs) x (suc k) low here = inr (stood_at xs x k (omega (arith, low)) here)
