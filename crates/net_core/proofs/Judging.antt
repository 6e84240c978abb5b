-- How events are judged that were good where they were made: none is refused but for want of room.
use Rattle.std.proofs.Common.{◌≡◌, ℕ, nat_lt, nat_le, Bool, true, false, not, cond, ◌⊎◌, inl, inr, ⊎_elim, List, [], ◌∷◌, ◌++◌, find, length, Option, Some, None, option_map, refl, sym, ap, ◌∙◌, subst}
use Rattle.std.specs.Bool.{then_some}
use Rattle.std.specs.List.{list_any}
use Rattle.std.proofs.lemmas.Bool.{cases_Bool, false≢true}
use Rattle.ew_model.specs.declared.id.Id.{Id}
use Rattle.ew_model.specs.declared.event.Event.{Event}
use Rattle.ew_model.specs.Ancestors.{is_held, is_reduced}
use Rattle.ew_model.specs.Arrival.{at_the_pool, is_ready}
use Rattle.ew_model.specs.Events.{event_eq}
use Rattle.ew_model.specs.Ids.{id_eq, ids_ascend, is_among}
use Rattle.ew_model.specs.Limits.{LimitNumbers}
use Rattle.ew_model.specs.Sets.{Among}
use Rattle.ew_model.specs.Verdicts.{IsGood, Ruling, first_row, follows_its_agent, id_rows, later_rows, parent_rows, range_rows, size_rows}
use Rattle.ew_model.specs.Verdicts.Ruling.{Repeat, Clash, SelfParent, TooManyParents, ParentsUnsorted, Unknown, PoolFull, NotReduced, Skipped, GraphFull, OutOfRange, Good}
use Rattle.ew_model.proofs.ArrivalLaws.{is_unknown}
use Rattle.ew_model.proofs.ArrivalRuns.{no_id}
use Rattle.ew_model.proofs.KeptLaws.{no_repeat}
use Rattle.ew_model.proofs.ListTests.{any_from}
use Rattle.ew_model.proofs.MergeSteps.{good_or_full, repeat_row, same_event}
use Rattle.ew_model.proofs.RulingLaws.{ruled, ruled_cases}
use Rattle.ew_model.proofs.SetLaws.{among_joined}
use Rattle.net_core.proofs.Elsewhere.{WasGood, good_elsewhere, has_event}

-- a row that says Unknown comes before those of the size and the index
unknown_first : (a b c : Bool) (o : Option Id) (rows others : List (Option Ruling)) → is_unknown (first_row rows) ≡ false
    → is_unknown (first_row (then_some a SelfParent ∷ then_some b TooManyParents ∷ then_some c ParentsUnsorted ∷ option_map Unknown o ∷ rows)) ≡ true
    → is_unknown (first_row (then_some a SelfParent ∷ then_some b TooManyParents ∷ then_some c ParentsUnsorted ∷ option_map Unknown o ∷ others)) ≡ true
unknown_first true b c o rows others h k = absurd (false≢true k)
unknown_first false true c o rows others h k = absurd (false≢true k)
unknown_first false false true o rows others h k = absurd (false≢true k)
unknown_first false false false (Some p) rows others h k = refl
unknown_first false false false None rows others h k = absurd (false≢true (sym h ∙ k))

known_last : (d f g : Bool) (len : ℕ) → is_unknown (first_row (then_some d NotReduced ∷ then_some f Skipped ∷ then_some g (OutOfRange len) ∷ [])) ≡ false
known_last true f g len = refl
known_last false true g len = refl
known_last false false true len = refl
known_last false false false len = refl

unknown_later : (limits : LimitNumbers) (held : List Event) (e : Event) → is_unknown (ruled held e) ≡ true → is_unknown (first_row (later_rows limits true held e)) ≡ true
unfolding parent_rows size_rows range_rows
unknown_later limits held e h =
    unknown_first (is_among e.parents e.id) (nat_lt 16 (length e.parents)) (not (ids_ascend e.parents)) (find (λ p. not (is_held held p)) e.parents) _ _
    (known_last (not (is_reduced held e.parents)) (not (follows_its_agent held e)) _ _) h

-- in which ways an event may be judged, of which some are known
abbrev pub Way : List Event → List Event → Event → Ruling → Type 0
Way known held e r = ((r ≡ Repeat) × Among e known) ⊎ ((r ≡ Good) ⊎ ((r ≡ GraphFull) ⊎ ((is_ready held e ≡ false) × ((r ≡ PoolFull) ⊎ (is_unknown r ≡ true)))))

pool_way : (limits : LimitNumbers) (known held waiting : List Event) (e : Event) (r : Ruling) → Way known held e r → Way known held e (at_the_pool limits waiting r)
pool_way limits known held waiting e r (inl again) = inl (ap (at_the_pool limits waiting) again.0, again.1)
pool_way limits known held waiting e r (inr (inl good)) = inr (inl (ap (at_the_pool limits waiting) good))
pool_way limits known held waiting e r (inr (inr (inl full))) = inr (inr (inl (ap (at_the_pool limits waiting) full)))
pool_way limits known held waiting e r (inr (inr (inr (late, inl full)))) = inr (inr (inr (late, inl (ap (at_the_pool limits waiting) full))))
pool_way limits known held waiting e r (inr (inr (inr (late, inr unknown)))) = inr (inr (inr (late, waits r unknown)))
  where
    in_pool : (p : Id) (b : Bool) → (cond b PoolFull (Unknown p) ≡ PoolFull) ⊎ (is_unknown (cond b PoolFull (Unknown p)) ≡ true)
    in_pool p true = inl refl
    in_pool p false = inr refl

    waits : (q : Ruling) → is_unknown q ≡ true → (at_the_pool limits waiting q ≡ PoolFull) ⊎ (is_unknown (at_the_pool limits waiting q) ≡ true)
    waits (Unknown p) h = in_pool p (nat_le limits.waiting (length waiting))
    waits Repeat h = absurd (false≢true h)
    waits Clash h = absurd (false≢true h)
    waits SelfParent h = absurd (false≢true h)
    waits TooManyParents h = absurd (false≢true h)
    waits ParentsUnsorted h = absurd (false≢true h)
    waits PoolFull h = absurd (false≢true h)
    waits NotReduced h = absurd (false≢true h)
    waits Skipped h = absurd (false≢true h)
    waits GraphFull h = absurd (false≢true h)
    waits (OutOfRange len) h = absurd (false≢true h)
    waits Good h = absurd (false≢true h)

module _ (U : Event → Type 0) (one : (f g : Event) → U f → U g → id_eq f.id g.id ≡ true → f ≡ g) (was : (e : Event) → U e → WasGood U e) (limits : LimitNumbers)
    (held : List Event) (given : (z : Event) → Among z held → U z) (good : IsGood held) where
  -- by the rows from the parents on
  later_way : (known : List Event) (e : Event) → U e → Way known held e (first_row (later_rows limits true held e))
  later_way known e u = at (cases_Bool (is_ready held e))
    where
      late : is_ready held e ≡ false → is_unknown (ruled held e) ≡ true
      late h = ⊎_elim
          (λ bad. absurd (false≢true (sym (was e u).right.form ∙ bad.0)))
          (λ right. ⊎_elim (λ k. k) (λ k. absurd (false≢true (sym h ∙ k))) right.1)
          (ruled_cases held e (ruled held e) refl)

      at : (is_ready held e ≡ true) ⊎ (is_ready held e ≡ false) → Way known held e (first_row (later_rows limits true held e))
      at (inl ready) = ⊎_elim (λ k. inr (inl k)) (λ k. inr (inr (inl k))) (good_or_full limits held e (good_elsewhere U one held e given good (was e u) ready))
      at (inr h) = inr (inr (inr (h, inr (unknown_later limits held e (late h)))))

  -- a ready event that waited
  pub ready_way : (e : Event) → U e → is_ready held e ≡ true → (first_row (later_rows limits true held e) ≡ Good)
      ⊎ (first_row (later_rows limits true held e) ≡ GraphFull)
  ready_way e u ready = good_or_full limits held e (good_elsewhere U one held e given good (was e u) ready)

  -- an event that comes
  pub coming_way : (waiting : List Event) → ((z : Event) → Among z waiting → U z) → (e : Event) → U e
      → Way (held ++ waiting) held e (at_the_pool limits waiting (first_row (id_rows held waiting e ++ later_rows limits true held e)))
  unfolding id_rows
  coming_way waiting wait e u = pool_way limits (held ++ waiting) held waiting e _ (at (cases_Bool (is_held (held ++ waiting) e.id)))
    where
      all : (z : Event) → Among z (held ++ waiting) → U z
      all z m = ⊎_elim (given z) (wait z) (among_joined held waiting z m)

      at : (is_held (held ++ waiting) e.id ≡ true) ⊎ (is_held (held ++ waiting) e.id ≡ false)
          → Way (held ++ waiting) held e (first_row (then_some (list_any (event_eq e) (held ++ waiting)) Repeat ∷ then_some
          (is_held (held ++ waiting) e.id) Clash ∷ later_rows limits true held e))
      at (inl known) =
          let there = has_event U one (held ++ waiting) all e u known in
          inl (repeat_row _ _ _ (any_from (event_eq e) (held ++ waiting) e there (same_event e)), there)
      at (inr free) =
          subst (Way (held ++ waiting) held e) (sym (no_id _ _ (later_rows limits true held e) (no_repeat (held ++ waiting) e free) free))
          (later_way (held ++ waiting) e u)
