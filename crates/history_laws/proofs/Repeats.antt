-- Events whose ids are held change nothing when they are received.
use Rattle.std.proofs.Common.{◌≡◌, ℕ, zero, suc, ◌+◌, ◌<◌, ◌≤◌, inl, inr, Bool, true, false, cond, List, [], ◌∷◌, length, Option, Some, None, refl, sym, ap, ◌∙◌, subst, arith}
use Rattle.std.specs.Option.{option_map_or}
use Rattle.std.proofs.lemmas.Bool.{false≢true}
use Rattle.ew_model.specs.declared.event.Event.{Event}
use Rattle.ew_model.specs.Arrival.{Desk, Judgement, next_judgement, judgements, judged, most_judgements, desk_of, arrive}
use Rattle.ew_model.specs.Cuts.{latest_cut}
use Rattle.ew_model.specs.Limits.{LimitNumbers}
use Rattle.ew_model.specs.Rounds.{is_out_of_range, after_out_of_range, round_touches, rounds_touches, most_touches}
use Rattle.ew_model.specs.Touches.{touches}
use Rattle.ew_model.proofs.ArrivalLaws.{next_less, judgements_end}
use Rattle.history_laws.specs.Repeats.{HeldEventsChangeNothing, without_held}
use Rattle.history_laws.proofs.Pairs.{in_pairs}
use Rattle.history_laws.proofs.Thinning.{Ends, Goes, IsCalm, Step, step, thinned}

-- the same events are held at both desks, and the same wait
record SameDesk (a c : Desk) : Type 0 where
  held : a.held ≡ c.held
  waiting : a.waiting ≡ c.waiting

-- Enough judgements leave the same at both desks.
same_desks : (limits : LimitNumbers) (b : Bool) (old : List Event) (n m : ℕ) (d : Desk) → IsCalm old d → most_judgements d ≤ n → most_judgements (thinned old d) ≤ m
    → SameDesk (judgements limits b n d).desk (judgements limits b m (thinned old d)).desk
same_desks limits b old =
    in_pairs limits b old (λ d o p. SameDesk o.desk p.desk) (λ d calm ends. record { held = refl; waiting = refl }) (λ d skips o p same. same) (λ d goes o p same. same)

-- The first answers OutOfRange leave desks that are alike again.
abbrev SameOut : List Event → Desk → Option Desk → Option Desk → Type 0
SameOut old d None None = Unit {0}
SameOut old d (Some a) (Some c) = (c ≡ thinned old a) × IsCalm old a × (most_judgements a < most_judgements d) × (most_judgements c < most_judgements (thinned old d))
SameOut old d None (Some c) = ⊥
SameOut old d (Some a) None = ⊥

-- the desk behind a judgement OutOfRange, or behind a later one
abbrev out_then : LimitNumbers → ℕ → Option Judgement → Option Desk
out_then limits n o = option_map_or (λ j. cond (is_out_of_range j.answer.ruling) (Some j.desk) (after_out_of_range limits n j.desk)) o None

none_out : (limits : LimitNumbers) (n : ℕ) (d : Desk) → next_judgement limits true d ≡ None → after_out_of_range limits n d ≡ None
none_out limits zero d none = refl
none_out limits (suc n) d none = ap (out_then limits n) none

-- from a desk with fewer to judge on
later_out : (old : List Event) (a d : Desk) (x y : Option Desk) → most_judgements a < most_judgements d
    → most_judgements (thinned old a) ≤ most_judgements (thinned old d) → SameOut old a x y → SameOut old d x y
later_out old a d None None less few same = tt
later_out old a d (Some x) (Some y) less few same = (same.0, same.1, omega (arith, same.2, less), omega (arith, same.3, few))
later_out old a d None (Some y) less few same = same
later_out old a d (Some x) None less few same = same

module _ (limits : LimitNumbers) (old : List Event) where
  out_ended : (n m : ℕ) (d : Desk) → Ends limits true old d → SameOut old d (after_out_of_range limits n d) (after_out_of_range limits m (thinned old d))
  out_ended n m d ends =
      subst (λ o. SameOut old d o (after_out_of_range limits m (thinned old d))) (sym (none_out limits n d ends.here))
      (subst (λ o. SameOut old d None o) (sym (none_out limits m (thinned old d) ends.there)) tt)

  out_at_end : (m : ℕ) (d : Desk) → next_judgement limits true d ≡ None → Step limits true old d
      → SameOut old d (after_out_of_range limits 0 d) (after_out_of_range limits m (thinned old d))
  out_at_end m d none (inl ends) = out_ended 0 m d ends
  out_at_end m d none (inr (inl skips)) = let h = skips.here in let no : ⊥ = cc in absurd no
  out_at_end m d none (inr (inr goes)) = let h = goes.here in let no : ⊥ = cc in absurd no

  out_both : (n m : ℕ) (d : Desk) → (goes : Goes limits true old d) → most_judgements (thinned old d) ≤ m
      → ((k : ℕ) → most_judgements (thinned old goes.judgement.desk) ≤ k → SameOut old goes.judgement.desk (after_out_of_range limits n goes.judgement.desk) (after_out_of_range limits k (thinned old goes.judgement.desk)))
      → SameOut old d (after_out_of_range limits (suc n) d) (after_out_of_range limits m (thinned old d))
  out_both n zero d goes few f = let less = next_less limits true (thinned old d) _ goes.there in absurd (omega (arith, few, less))
  out_both n (suc m) d goes few f =
      subst (λ o. SameOut old d o (after_out_of_range limits (suc m) (thinned old d))) (sym (ap (out_then limits n) goes.here))
      (subst (λ o. SameOut old d (out_then limits n (Some goes.judgement)) o) (sym (ap (out_then limits m) goes.there)) (at (is_out_of_range goes.judgement.answer.ruling)))
    where
      a : Desk
      a = goes.judgement.desk

      less : most_judgements a < most_judgements d
      less = next_less limits true d goes.judgement goes.here

      less_there : most_judgements (thinned old a) < most_judgements (thinned old d)
      less_there = next_less limits true (thinned old d) _ goes.there

      at : (t : Bool) → SameOut old d (cond t (Some a) (after_out_of_range limits n a)) (cond t (Some (thinned old a)) (after_out_of_range limits m (thinned old a)))
      at true = (refl, goes.calm, less, less_there)
      at false = later_out old a d _ _ less (omega (arith, less_there)) (f m (omega (arith, few, less_there)))

  out_more : (n m : ℕ) (d : Desk) → Step limits true old d → most_judgements d ≤ suc n → most_judgements (thinned old d) ≤ m
      → ((a : Desk) (k : ℕ) → IsCalm old a → most_judgements a ≤ n → most_judgements (thinned old a) ≤ k → SameOut old a (after_out_of_range limits n a) (after_out_of_range limits k (thinned old a)))
      → SameOut old d (after_out_of_range limits (suc n) d) (after_out_of_range limits m (thinned old d))
  out_more n m d (inl ends) few fewer f = out_ended (suc n) m d ends
  out_more n m d (inr (inl skips)) few fewer f =
      let a = skips.judgement.desk in
      let less = next_less limits true d skips.judgement skips.here in
      let same = f a m skips.calm (omega (arith, few, less)) (subst (λ (c : Desk). most_judgements c ≤ m) (sym skips.same) fewer) in
      let later = later_out old a d _ _ less (subst (λ (c : Desk). most_judgements c ≤ most_judgements (thinned old d)) (sym skips.same) (omega arith)) same in
      subst (λ o. SameOut old d o (after_out_of_range limits m (thinned old d))) (sym (ap (out_then limits n) skips.here ∙ ap (λ t. cond t (Some a) (after_out_of_range limits n a)) skips.in_range))
      (subst (λ (c : Desk). SameOut old d (after_out_of_range limits n a) (after_out_of_range limits m c)) skips.same later)
  out_more n m d (inr (inr goes)) few fewer f =
      let less = next_less limits true d goes.judgement goes.here in
      out_both n m d goes fewer (λ k small. f goes.judgement.desk k goes.calm (omega (arith, few, less)) small)

  same_outs : (n m : ℕ) (d : Desk) → IsCalm old d → most_judgements d ≤ n → most_judgements (thinned old d) ≤ m
      → SameOut old d (after_out_of_range limits n d) (after_out_of_range limits m (thinned old d))
  same_outs zero m d calm few fewer = out_at_end m d (judgements_end limits true zero d few) (step limits true old d calm)
  same_outs (suc n) m d calm few fewer = out_more n m d (step limits true old d calm) few fewer (λ a k. same_outs n k a)

  -- a round walks over the same events
  same_round : (d : Desk) → IsCalm old d → round_touches limits d ≡ round_touches limits (thinned old d)
  unfolding round_touches
  same_round d calm =
      let same = same_desks limits false old (most_judgements d) (most_judgements (thinned old d)) d calm (omega arith) (omega arith) in
      ap (λ (held : List Event). touches held (latest_cut held (length d.held))) same.held

  -- the touches of the rounds behind the first
  abbrev behind : ℕ → Option Desk → ℕ
  behind n o = option_map_or (λ (a : Desk). rounds_touches limits n a) o 0

  -- there are none where nothing is left to judge
  unrolled : (n : ℕ) (d : Desk) → most_judgements d ≤ n
      → (k : ℕ) × (rounds_touches limits n d ≡ round_touches limits d + behind k (after_out_of_range limits (most_judgements d) d)) × ((a : Desk) → most_judgements a < most_judgements d → most_judgements a ≤ k)
  unrolled zero d few =
      (0, sym (ap (λ o. round_touches limits d + behind 0 o) (none_out limits (most_judgements d) d (judgements_end limits true zero d few)) ∙ omega arith), λ a less. omega (arith, few, less))
  unrolled (suc n) d few = (n, refl, λ a less. omega (arith, few, less))

  behind_same : (n k : ℕ) (d : Desk) (x y : Option Desk) → SameOut old d x y → most_judgements d ≤ suc n
      → ((c : Desk) → most_judgements c < most_judgements (thinned old d) → most_judgements c ≤ k)
      → ((a : Desk) → IsCalm old a → most_judgements a ≤ n → most_judgements (thinned old a) ≤ k → rounds_touches limits n a ≡ rounds_touches limits k (thinned old a)) → behind n x ≡ behind k y
  behind_same n k d None None same few small f = refl
  behind_same n k d (Some a) (Some c) same few small f =
      f a same.1 (omega (arith, few, same.2)) (subst (λ (e : Desk). most_judgements e ≤ k) same.0 (small c same.3)) ∙ sym (ap (rounds_touches limits k) same.0)
  behind_same n k d None (Some c) same few small f = absurd same
  behind_same n k d (Some a) None same few small f = absurd same

  rounds_at_end : (k : ℕ) (d : Desk) (x y : Option Desk) → SameOut old d x y → x ≡ None → behind k y ≡ 0
  rounds_at_end k d None None same none = refl
  rounds_at_end k d None (Some c) same none = absurd same
  rounds_at_end k d (Some a) y same none = let no : ⊥ = cc in absurd no

  -- and so do all rounds
  same_rounds : (n m : ℕ) (d : Desk) → IsCalm old d → most_judgements d ≤ n → most_judgements (thinned old d) ≤ m
      → rounds_touches limits n d ≡ rounds_touches limits m (thinned old d)
  same_rounds zero m d calm few fewer =
      let outs = same_outs (most_judgements d) (most_judgements (thinned old d)) d calm (omega arith) (omega arith) in
      let there = unrolled m (thinned old d) fewer in
      let first = same_round d calm in
      let none = rounds_at_end there.0 d _ _ outs (none_out limits (most_judgements d) d (judgements_end limits true zero d few)) in
      omega (arith, first, there.1, none)
  same_rounds (suc n) m d calm few fewer =
      let outs = same_outs (most_judgements d) (most_judgements (thinned old d)) d calm (omega arith) (omega arith) in
      let there = unrolled m (thinned old d) fewer in
      let first = same_round d calm in
      let later = behind_same n there.0 d _ _ outs few there.2 (λ a quiet small smaller. same_rounds n there.0 a quiet small smaller) in
      omega (arith, first, there.1, later)

-- nothing is held by the empty history
pub none_left_out : (events : List Event) → without_held [] events ≡ events
none_left_out [] = refl
none_left_out (e ∷ events) = ap (λ (w : List Event). e ∷ w) (none_left_out events)

-- a list of events, received, comes to what it does where waiting events that are ready come first
module _ (limits : LimitNumbers) (old history waiting events : List Event) (calm : IsCalm old (desk_of history waiting events)) where
  abbrev settling : Desk
  settling = thinned old (desk_of history waiting events)

  received : SameDesk (arrive limits history waiting events).desk (judged limits true settling).desk
  unfolding arrive
  received = same_desks limits true old (most_judgements (desk_of history waiting events)) (most_judgements settling) (desk_of history waiting events) calm (omega arith) (omega arith)

  walked : most_touches limits history waiting events ≡ rounds_touches limits (most_judgements settling) settling
  unfolding most_touches
  walked = same_rounds limits old (most_judgements (desk_of history waiting events)) (most_judgements settling) (desk_of history waiting events) calm (omega arith) (omega arith)

-- The law of events that are held already.
pub held_events_change_nothing : HeldEventsChangeNothing
held_events_change_nothing limits history waiting events none =
    let few = without_held history events in
    let here : IsCalm history (desk_of history waiting events) = record { more = λ x h. h; still = λ h. none } in
    let there : IsCalm [] (desk_of history waiting few) = record { more = λ x h. absurd (false≢true h); still = λ h. none } in
    let same : thinned [] (desk_of history waiting few) ≡ thinned history (desk_of history waiting events) =
    λ i. record { held = history; waiting = waiting; coming = none_left_out few i; is_settling = true } in
    let all = received limits history history waiting events here in
    let some = subst (λ (a : Desk). SameDesk (arrive limits history waiting few).desk (judged limits true a).desk) same (received limits [] history waiting few there) in
    record {
      held = some.held ∙ sym all.held;
      waits = some.waiting ∙ sym all.waiting;
      touches = walked limits [] history waiting few there ∙ ap (λ (a : Desk). rounds_touches limits (most_judgements a) a) same ∙ sym (walked limits history history waiting events here);
    }
