-- What a judgement leaves of events that were good where they were made, and what all of them leave.
use Rattle.std.proofs.Common.{◌≡◌, true, false, ◌⊎◌, inl, inr, ⊎_elim, List, [], ◌∷◌, ◌++◌, refl, sym, subst}
use Rattle.std.proofs.lemmas.Bool.{false≢true}
use Rattle.ew_model.specs.declared.event.Event.{Event}
use Rattle.ew_model.specs.Arrival.{Desk, Judgement, desk_after, is_ready}
use Rattle.ew_model.specs.ArrivalLaw.{NoneReady}
use Rattle.ew_model.specs.Kept.{IsOrderly}
use Rattle.ew_model.specs.Sets.{Among}
use Rattle.ew_model.specs.Verdicts.{Ruling}
use Rattle.ew_model.specs.Verdicts.Ruling.{Repeat, Clash, SelfParent, TooManyParents, ParentsUnsorted, Unknown, PoolFull, NotReduced, Skipped, GraphFull, OutOfRange, Good}
use Rattle.ew_model.proofs.ArrivalLaws.{is_unknown}
use Rattle.ew_model.proofs.SetLaws.{among_joined, joined_left, joined_right}
use Rattle.net_core.specs.Laws.{IsRoomRefusal}

-- all events of a desk are given ones
pub record IsFrom (U : Event → Type 0) (d : Desk) : Type 0 where
  pub kept : IsOrderly d.held d.waiting
  pub of_held : (e : Event) → Among e d.held → U e
  pub of_waiting : (e : Event) → Among e d.waiting → U e
  pub of_coming : (e : Event) → Among e d.coming → U e

-- which event was judged: the next one, where none that waits is ready, or one that waited
abbrev pub Takes : Desk → Judgement → Type 0
Takes d j =
    ((d.coming ≡ j.answer.event ∷ j.desk.coming) × (d.is_settling ≡ true → NoneReady d.held d.waiting))
    ⊎ ((d.coming ≡ j.desk.coming) × (is_ready d.held j.answer.event ≡ true))

-- what a judgement leaves
pub record IsTurn (U : Event → Type 0) (d : Desk) (j : Judgement) : Type 0 where
  pub whence : IsFrom U j.desk
  pub settling : j.desk.is_settling ≡ true
  pub grown : (e : Event) → Among e d.held → Among e j.desk.held
  pub left : (e : Event) → Among e d.waiting → (e ≡ j.answer.event) ⊎ Among e j.desk.waiting
  pub takes : Takes d j
  pub ends : (j.answer.ruling ≡ GraphFull) ⊎ (Among j.answer.event j.desk.held
      ⊎ ((Among j.answer.event j.desk.waiting × (d.coming ≡ j.answer.event ∷ j.desk.coming)) ⊎ (is_ready d.held j.answer.event ≡ false)))
  pub room : IsRoomRefusal j.answer

-- the desk and the answer, by the way
module _ (U : Event → Type 0) (d rest : Desk) (e : Event) (given : U e) (from : IsFrom U d) (same : rest.held ≡ d.held) (settled : rest.is_settling ≡ true)
    (fewer : (z : Event) → Among z rest.waiting → Among z d.waiting) (left : (z : Event) → Among z d.waiting → (z ≡ e) ⊎ Among z rest.waiting)
    (coming : (z : Event) → Among z rest.coming → Among z d.coming) where
  -- nothing is put anywhere
  stays_from : IsOrderly rest.held rest.waiting → IsFrom U (record { held = rest.held; waiting = rest.waiting; coming = rest.coming; is_settling = true })
  stays_from kept = record {
    kept = kept;
    of_held = λ z m. from.of_held z (subst (Among z) same m);
    of_waiting = λ z m. from.of_waiting z (fewer z m);
    of_coming = λ z m. from.of_coming z (coming z m);
  }

  grown_same : (z : Event) → Among z d.held → Among z rest.held
  grown_same z m = subst (Among z) (sym same) m

  last_from : (V : Event → Type 0) (xs : List Event) → ((z : Event) → Among z xs → V z) → V e → (z : Event) → Among z (xs ++ e ∷ []) → V z
  last_from V xs h k z m = ⊎_elim (h z) (λ r. ⊎_elim (λ q. subst V (sym q) k) (λ no. absurd no) r) (among_joined xs (e ∷ []) z m)

  abbrev after : Ruling → Judgement
  after r = record { desk = desk_after r e rest; answer = record { event = e; ruling = r } }

  good_turn : Takes d (after Good) → IsOrderly (rest.held ++ e ∷ []) rest.waiting → IsTurn U d (after Good)
  good_turn takes kept = record {
    whence = record {
      kept = kept;
      of_held = last_from U rest.held (λ z m. from.of_held z (subst (Among z) same m)) given;
      of_waiting = λ z m. from.of_waiting z (fewer z m);
      of_coming = λ z m. from.of_coming z (coming z m);
    };
    settling = refl;
    grown = λ z m. joined_left rest.held (e ∷ []) z (grown_same z m);
    left = left;
    takes = takes;
    ends = inr (inl (joined_right rest.held (e ∷ []) e (inl refl)));
    room = inl refl;
  }

  full_turn : Takes d (after GraphFull) → IsOrderly rest.held rest.waiting → IsTurn U d (after GraphFull)
  full_turn takes kept = record {
    whence = stays_from kept;
    settling = refl;
    grown = grown_same;
    left = left;
    takes = takes;
    ends = inl refl;
    room = inr refl;
  }

  pool_turn : Takes d (after PoolFull) → is_ready d.held e ≡ false → IsOrderly rest.held rest.waiting → IsTurn U d (after PoolFull)
  pool_turn takes late kept = record {
    whence = stays_from kept;
    settling = refl;
    grown = grown_same;
    left = left;
    takes = takes;
    ends = inr (inr (inr late));
    room = inr refl;
  }

  again_turn : Takes d (after Repeat) → (Among e rest.held ⊎ (Among e rest.waiting × (d.coming ≡ e ∷ rest.coming)))
      → IsOrderly rest.held rest.waiting → IsTurn U d (after Repeat)
  again_turn takes there kept = record {
    whence = stays_from kept;
    settling = refl;
    grown = grown_same;
    left = left;
    takes = takes;
    ends = inr (⊎_elim (λ k. inl k) (λ k. inr (inl k)) there);
    room = inl refl;
  }

  unknown_turn : (r : Ruling) → is_unknown r ≡ true → Takes d (after r) → is_ready d.held e ≡ false
      → IsOrderly (after r).desk.held (after r).desk.waiting → IsTurn U d (after r)
  unknown_turn (Unknown p) h takes late kept = record {
    whence = record {
      kept = kept;
      of_held = λ z m. from.of_held z (subst (Among z) same m);
      of_waiting = last_from U rest.waiting (λ z m. from.of_waiting z (fewer z m)) given;
      of_coming = λ z m. from.of_coming z (coming z m);
    };
    settling = refl;
    grown = grown_same;
    left = λ z m. ⊎_elim (λ q. inl q) (λ k. inr (joined_left rest.waiting (e ∷ []) z k)) (left z m);
    takes = takes;
    ends = inr (inr (inr late));
    room = inl refl;
  }
  unknown_turn Repeat h takes late kept = absurd (false≢true h)
  unknown_turn Clash h takes late kept = absurd (false≢true h)
  unknown_turn SelfParent h takes late kept = absurd (false≢true h)
  unknown_turn TooManyParents h takes late kept = absurd (false≢true h)
  unknown_turn ParentsUnsorted h takes late kept = absurd (false≢true h)
  unknown_turn PoolFull h takes late kept = absurd (false≢true h)
  unknown_turn NotReduced h takes late kept = absurd (false≢true h)
  unknown_turn Skipped h takes late kept = absurd (false≢true h)
  unknown_turn GraphFull h takes late kept = absurd (false≢true h)
  unknown_turn (OutOfRange len) h takes late kept = absurd (false≢true h)
  unknown_turn Good h takes late kept = absurd (false≢true h)

  pub by_way : (r : Ruling) → ((r ≡ Repeat) × (Among e rest.held ⊎ (Among e rest.waiting × (d.coming ≡ e ∷ rest.coming))))
      ⊎ ((r ≡ Good) ⊎ ((r ≡ GraphFull) ⊎ ((is_ready d.held e ≡ false) × ((r ≡ PoolFull) ⊎ (is_unknown r ≡ true)))))
      → Takes d (after r) → IsOrderly (after r).desk.held (after r).desk.waiting → IsTurn U d (after r)
  by_way r (inl again) takes kept = subst (λ (q : Ruling). Takes d (after q) → IsOrderly (after q).desk.held (after q).desk.waiting → IsTurn U d (after q)) (sym again.0)
      (λ t k. again_turn t again.1 k) takes kept
  by_way r (inr (inl good)) takes kept = subst (λ (q : Ruling). Takes d (after q) → IsOrderly (after q).desk.held (after q).desk.waiting → IsTurn U d (after q))
      (sym good) good_turn takes kept
  by_way r (inr (inr (inl full))) takes kept = subst (λ (q : Ruling). Takes d (after q) → IsOrderly (after q).desk.held (after q).desk.waiting → IsTurn U d (after q))
      (sym full) full_turn takes kept
  by_way r (inr (inr (inr (late, inl full)))) takes kept = subst (λ (q : Ruling). Takes d (after q) → IsOrderly (after q).desk.held (after q).desk.waiting → IsTurn U d
      (after q)) (sym full) (λ t k. pool_turn t late k) takes kept
  by_way r (inr (inr (inr (late, inr unknown)))) takes kept = unknown_turn r unknown takes late kept
