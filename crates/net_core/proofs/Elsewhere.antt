-- An event that was good where it was made is good wherever its parents are held.
use Rattle.std.proofs.Common.{◌≡◌, true, List, [], ◌∷◌, ◌++◌, inl, inr, sym, ◌∙◌, subst, append_assoc}
use Rattle.std.specs.List.{list_all}
use Rattle.ew_model.specs.declared.id.Id.{Id}
use Rattle.ew_model.specs.declared.event.Event.{Event}
use Rattle.ew_model.specs.Ancestors.{is_held, version_events}
use Rattle.ew_model.specs.Arrival.{is_ready}
use Rattle.ew_model.specs.Ids.{id_eq, is_among}
use Rattle.ew_model.specs.Sets.{Among, SameElements}
use Rattle.ew_model.specs.Verdicts.{IsGood, IsGoodAfter, first_row}
use Rattle.ew_model.specs.Verdicts.Ruling.{Good}
use Rattle.ew_model.proofs.CoverLaws.{closed_taken, equal_through, event_of, passes}
use Rattle.ew_model.proofs.EntryLaws.{points_back}
use Rattle.ew_model.proofs.GoodLaws.{good_laid_out}
use Rattle.ew_model.proofs.JudgeLaws.{ancestors_judge}
use Rattle.ew_model.proofs.KeptLaws.{good-push}
use Rattle.ew_model.proofs.ListTests.{found_by}
use Rattle.ew_model.proofs.RulingLaws.{IsRight, good_parents, next_right, ruled}
use Rattle.ew_model.proofs.SetLaws.{joined_left}
use Rattle.ew_model.proofs.SubgraphLaws.{taken_within}

-- behind which events it was good
pub record WasGood (U : Event → Type 0) (e : Event) : Type 0 where
  pub front : List Event
  pub good : IsGood front
  pub given : (z : Event) → Among z front → U z
  pub right : IsRight front e

good_at : (U : Event → Type 0) (before later : List Event) → IsGood before → IsGoodAfter before later → ((z : Event) → Among z (before ++ later) → U z)
    → (e : Event) → Among e later → WasGood U e
unfolding IsGood
good_at U before [] good h given e m = absurd m
good_at U before (x ∷ later) good h given e (inl q) =
    subst (WasGood U) (sym q) (record { front = before; good = good; given = λ z k. given z (joined_left before (x ∷ later) z k); right = next_right before x h.0 })
good_at U before (x ∷ later) good h given e (inr m) =
    let step = append_assoc before (x ∷ []) later in
    good_at U (before ++ x ∷ []) later (good-push [] before x good h.0) h.1 (λ z k. given z (subst (Among z) step k)) e m

-- each event of a good history was
pub was_good : (U : Event → Type 0) (history : List Event) → IsGood history → ((z : Event) → Among z history → U z) → (e : Event) → Among e history → WasGood U e
unfolding IsGood
was_good U history good given e m = good_at U [] history tt good given e m

-- where one id names one event
module _ (U : Event → Type 0) (one : (f g : Event) → U f → U g → id_eq f.id g.id ≡ true → f ≡ g) where
  -- a history that has the id of an event has the event
  pub has_event : (ys : List Event) → ((z : Event) → Among z ys → U z) → (z : Event) → U z → is_held ys z.id ≡ true → Among z ys
  has_event ys uy z uz h =
      let f = event_of ys z.id h in
      subst (λ w. Among w ys) (sym (one z f.0 uz (uy f.0 f.1) f.2)) f.1

  -- what is under ids that a good history holds, it has
  within : (xs ys : List Event) (ids : List Id) → ((z : Event) → Among z xs → U z) → ((z : Event) → Among z ys → U z) → IsGood ys → list_all (is_held ys) ids ≡ true
      → (z : Event) → Among z (version_events xs ids) → Among z ys
  within xs ys ids ux uy good held z m = closed_taken (λ w. Among w ys) xs ids first next z m
    where
      first : (w : Event) → Among w xs → is_among ids w.id ≡ true → Among w ys
      first w k q =
          let found = found_by (id_eq w.id) ids q in
          let f = event_of ys found.0 (passes (is_held ys) ids found.0 held found.1) in
          subst (λ v. Among v ys) (sym (one w f.0 (ux w k) (uy f.0 f.1) (equal_through w.id found.0 f.0.id found.2 f.2))) f.1

      next : (f w : Event) → Among f ys → Among w xs → is_among f.parents w.id ≡ true → Among w ys
      next f w t k q = has_event ys uy w (ux w k) (good_parents ys good f t w.id q)

  same_under : (xs ys : List Event) (ids : List Id) → ((z : Event) → Among z xs → U z) → ((z : Event) → Among z ys → U z) → IsGood xs → IsGood ys
      → list_all (is_held xs) ids ≡ true → list_all (is_held ys) ids ≡ true → SameElements (version_events xs ids) (version_events ys ids)
  same_under xs ys ids ux uy gx gy hx hy = record {
    there = taken_within xs ys ids (points_back [] ys (good_laid_out ys gy)) (within xs ys ids ux uy gy hy);
    back = taken_within ys xs ids (points_back [] xs (good_laid_out xs gx)) (within ys xs ids uy ux gx hx);
  }

  -- two good histories that hold its parents judge an event alike
  ruled_alike : (xs ys : List Event) (e : Event) → ((z : Event) → Among z xs → U z) → ((z : Event) → Among z ys → U z) → IsGood xs → IsGood ys
      → is_ready xs e ≡ true → is_ready ys e ≡ true → ruled xs e ≡ ruled ys e
  ruled_alike xs ys e ux uy gx gy rx ry =
      let rows = ancestors_judge xs ys e gx gy rx ry (same_under xs ys e.parents ux uy gx gy rx ry) in
      λ i. first_row (rows.0 i ++ rows.1 i)

  pub good_elsewhere : (held : List Event) (e : Event) → ((z : Event) → Among z held → U z) → IsGood held → WasGood U e → is_ready held e ≡ true → ruled held e ≡ Good
  good_elsewhere held e given good was ready =
      ruled_alike held was.front e given was.given good was.good ready was.right.ready ∙ was.right.good
