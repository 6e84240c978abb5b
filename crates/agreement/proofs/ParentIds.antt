-- An event's parents are told by the ids at their positions.
use Rattle.std.proofs.Common.{◌≡◌, ℕ, zero, suc, ◌<◌, true, List, [], ◌∷◌, map, length, Option, Some, None, sym, ap, ◌∙◌, subst, arith}
use Rattle.std.specs.Prelude.{slice_get, slice_index_or}
use Rattle.std.proofs.lemmas.List.{length-map}
use Rattle.ew_model.specs.declared.id.Id.{Id}
use Rattle.ew_model.specs.declared.event.Event.{Event}
use Rattle.ew_model.specs.Sets.{Among}
use Rattle.ew_model.specs.Sorting.{sort_by}
use Rattle.ew_model.specs.Cuts.{are_among}
use Rattle.ew_model.specs.Ids.{id_cmp, is_among}
use Rattle.ew_model.specs.Ancestors.{ids_of}
use Rattle.ew_model.specs.Positions.{parents_at, parent_positions, positions_in}
use Rattle.ew_model.proofs.PathOrder.{id_total}
use Rattle.ew_model.proofs.CoverLaws.{among_here}
use Rattle.ew_model.proofs.ListTests.{passes, pass_all}
use Rattle.ew_model.proofs.SortingLaws.{NoTies, length-sort, sort_among, among_sort, same_sorted}
use Rattle.event_graph.specs.Keeping.{IsAdmitted, id_of, ascending_at, bare_events}
use Rattle.event_graph.proofs.Admitted.{laid}
use Rattle.event_graph.proofs.Grown.{parents_kept, ops_kept}
use Rattle.event_graph.proofs.Rebuilt.{rebuilt, event_here, held_ties}
use Rattle.agreement.specs.Sharing.{HaveSameParents, ids_at}
use Rattle.agreement.proofs.Apart.{apart_untied, no_others}
use Rattle.ew_model.proofs.ListParts.{element_there}
use Rattle.ew_model.proofs.ReachSteps.{id_among}

pub made_get : {X : Type 0} (make : Event → X) (history : List Event) (place : ℕ) (e : Event) → slice_get history place ≡ Some e → slice_get (map make history) place ≡ Some (make e)
made_get make [] place e h = let no : ⊥ = cc in absurd no
made_get make (f ∷ history) zero e h = let one : f ≡ e = cc in ap (λ g. Some (make g)) one
made_get make (f ∷ history) (suc place) e h = made_get make history place e h

made_there : (make : Event → List ℕ) (history : List Event) (place : ℕ) (e : Event) → slice_get history place ≡ Some e → slice_index_or (map make history) place [] ≡ make e
made_there make [] place e h = let no : ⊥ = cc in absurd no
made_there make (f ∷ history) zero e h = let one : f ≡ e = cc in ap make one
made_there make (f ∷ history) (suc place) e h = made_there make history place e h

abbrev parents_in_one : Option Event → List Id
parents_in_one None = []
parents_in_one (Some e) = e.parents

module _ (history : List Event) (place : ℕ) (e : Event) (admitted : IsAdmitted history) (at : slice_get history place ≡ Some e) where
  -- an event's parents are the ids at their positions, ascending
  pub parents_told : e.parents ≡ sort_by id_cmp (ids_at history (parents_at (parent_positions history) place))
  parents_told =
      let ids = ids_of history in
      let here = event_here ids ids (bare_events history) place e.id e.op (made_get (λ (f : Event). f.id) history place e at)
      (ap (λ ops. slice_get ops place) (ops_kept history) ∙ made_get (λ (f : Event). f.op) history place e at) in
      ap parents_in_one (sym at ∙ (ap (λ (events : List Event). slice_get events place) (sym (rebuilt history admitted)) ∙ here))
      ∙ ap (λ (lists : List (List ℕ)). ascending_at ids (parents_at lists place)) (parents_kept history)

  -- no two of which tie
  pub parents_untied : NoTies id_cmp (ids_at history (parents_at (parent_positions history) place))
  parents_untied =
      subst (λ (ps : List ℕ). NoTies id_cmp (ids_at history ps)) (sym (made_there (λ (f : Event). positions_in history f.parents) history place e at))
      (held_ties history e.parents (laid history admitted))

-- as many ids, all of which are among the others, are the others in whatever order
sorted_alike : (xs ys : List Id) → NoTies id_cmp xs → NoTies id_cmp ys → length xs ≡ length ys → are_among ys xs ≡ true → sort_by id_cmp xs ≡ sort_by id_cmp ys
sorted_alike xs ys n m alike h =
    let there : (z : Id) → Among z xs → Among z ys = λ z k. id_among ys z (passes (is_among ys) xs z h k) in
    same_sorted id_total xs ys n m there (no_others xs ys (apart_untied id_total xs n) there (omega (arith, alike)))

alike_length : (xs ys : List Id) → sort_by id_cmp xs ≡ sort_by id_cmp ys → length xs ≡ length ys
alike_length xs ys h = sym (length-sort id_cmp xs) ∙ (ap (length {A = Id}) h ∙ length-sort id_cmp ys)

alike_among : (xs ys : List Id) → sort_by id_cmp xs ≡ sort_by id_cmp ys → are_among ys xs ≡ true
alike_among xs ys h = pass_all (is_among ys) xs (λ z k. among_here ys z (sort_among id_total ys z (subst (Among z) h (among_sort id_total xs z k))))

-- EVENTS HAVE THE SAME PARENTS exactly where these are as many, and the ids at the one's positions are among those at the other's.
module _ (one other : List Event) (p q : ℕ) (ours theirs : List ℕ) (admitted : IsAdmitted one) (known : IsAdmitted other) (these : ours ≡ parents_at (parent_positions one) p) (those : theirs ≡ parents_at (parent_positions other) q) where
  pub same_parents : length ours ≡ length theirs → are_among (ids_at other theirs) (ids_at one ours) ≡ true → HaveSameParents one p other q
  same_parents many among e f at there =
      let xs : List Id = ids_at one ours in
      let ys : List Id = ids_at other theirs in
      let xs_are : xs ≡ ids_at one (parents_at (parent_positions one) p) = ap (ids_at one) these in
      let ys_are : ys ≡ ids_at other (parents_at (parent_positions other) q) = ap (ids_at other) those in
      parents_told one p e admitted at
      ∙ ap (sort_by id_cmp) (sym xs_are)
      ∙ sorted_alike xs ys (subst (NoTies id_cmp) (sym xs_are) (parents_untied one p e admitted at)) (subst (NoTies id_cmp) (sym ys_are) (parents_untied other q f known there))
      (length-map ours (id_of (ids_of one)) ∙ (many ∙ sym (length-map theirs (id_of (ids_of other))))) among
      ∙ ap (sort_by id_cmp) ys_are
      ∙ sym (parents_told other q f known there)

  sorted_same : p < length one → q < length other → HaveSameParents one p other q → sort_by id_cmp (ids_at one ours) ≡ sort_by id_cmp (ids_at other theirs)
  sorted_same h k same =
      let e = element_there one p h in
      let f = element_there other q k in
      ap (λ ps. sort_by id_cmp (ids_at one ps)) these
      ∙ (sym (parents_told one p e.0 admitted e.1) ∙ (same e.0 f.0 e.1 f.1 ∙ (parents_told other q f.0 known f.1
      ∙ ap (λ ps. sort_by id_cmp (ids_at other ps)) (sym those))))

  pub as_many : p < length one → q < length other → HaveSameParents one p other q → length ours ≡ length theirs
  as_many h k same =
      sym (length-map ours (id_of (ids_of one))) ∙ (alike_length (ids_at one ours) (ids_at other theirs) (sorted_same h k same) ∙ length-map theirs (id_of (ids_of other)))

  pub all_among : p < length one → q < length other → HaveSameParents one p other q → are_among (ids_at other theirs) (ids_at one ours) ≡ true
  all_among h k same = alike_among (ids_at one ours) (ids_at other theirs) (sorted_same h k same)
