-- The laws of cuts and of arrival at work: their premises hold of a fork with a join, and what they say of it is so.
use Rattle.std.proofs.Common.{◌≡◌, true, List, [], ◌∷◌, ◌++◌, inl, inr, ⊎_elim, refl, map, Some}
use Rattle.ew_model.specs.declared.event.Event.{Event}
use Rattle.ew_model.specs.Sets.{Among, SameElements}
use Rattle.ew_model.specs.Arrival.{Desk, most_judgements, desk_of, arrive}
use Rattle.ew_model.specs.Verdicts.{IsGood}
use Rattle.ew_model.specs.Kept.{IsOrderly}
use Rattle.ew_model.specs.RoundLaw.{IsFirstOut, rounds}
use Rattle.ew_model.proofs.RoundSteps.{rounds_tell}
use Rattle.ew_model.specs.MergeLaw.{IsMerged}
use Rattle.ew_model.proofs.MergeSteps.{histories_merge}
use Rattle.ew_model.proofs.SetLaws.{among_joined, joined_left}
use Rattle.ew_model.specs.Cuts.{is_critical, cuts_of}
use Rattle.ew_model.specs.Rounds.{after_out_of_range}
use Rattle.ew_model.specs.CutRule.{past_last_parent, cut_stays, CutsAfter}
use Rattle.ew_model.specs.ArrivalLaw.{NoneFull, OneEach, SameState}
use Rattle.ew_model.proofs.SubgraphLaws.{one_event}
use Rattle.ew_model.proofs.GoodLaws.{good_laid_out}
use Rattle.ew_model.proofs.CutSteps.{cuts_step}
use Rattle.ew_model.proofs.ArrivalAgreement.{arrival_agrees}
use Rattle.ew_model.proofs.Rows.Events.{id, ins, typed, fork, diamond}
use Rattle.ew_model.proofs.Rows.Receiving.{judging, program}

abbrev join : Event
join = ins 100 0 3 100 (id 98 0 ∷ id 99 0 ∷ [])

-- a late event that knows a alone
abbrev late : Event
late = ins 101 0 1 101 (id 97 0 ∷ [])

fork_joined : IsGood (fork ++ join ∷ [])
unfolding judging
fork_joined = (refl, (refl, (refl, (refl, tt))))

joined_cuts : CutsAfter fork join
joined_cuts = cuts_step fork join fork_joined

-- all cuts of the fork stay
joined_stay : map (cut_stays fork join.parents) (0 ∷ 1 ∷ 2 ∷ 3 ∷ []) ≡ true ∷ true ∷ true ∷ true ∷ []
joined_stay = refl

joined_all : cuts_of (fork ++ join ∷ []) ≡ 0 ∷ 1 ∷ 3 ∷ 4 ∷ []
unfolding is_critical
joined_all = joined_cuts.all

late_good : IsGood (diamond ++ late ∷ [])
unfolding judging
late_good = (refl, (refl, (refl, (refl, (refl, tt)))))

-- behind a late event the cuts stop from the second event after its parent on
late_reach : past_last_parent diamond late.parents ≡ 1
late_reach = refl

late_all : cuts_of (diamond ++ late ∷ []) ≡ 0 ∷ 1 ∷ 5 ∷ []
unfolding is_critical
late_all = (cuts_step diamond late late_good).all

-- The events of the fork with its join, in another order and one of them twice.
abbrev mixed : List Event
mixed = join ∷ ins 99 0 1 99 (id 97 0 ∷ []) ∷ ins 97 0 0 97 [] ∷ ins 97 0 0 97 [] ∷ ins 98 0 1 98 (id 97 0 ∷ []) ∷ []

mixed_same : SameElements diamond mixed
mixed_same = record {
  there = λ z m. ⊎_elim (λ a. inr (inr (inl a))) (λ r. ⊎_elim (λ b. inr (inr (inr (inr (inl b))))) (λ r. ⊎_elim (λ c. inr (inl c)) (λ r. ⊎_elim (λ d. inl d) (λ no. absurd no) r) r) r) m;
  back = λ z m. ⊎_elim (λ d. inr (inr (inr (inl d)))) (λ r. ⊎_elim (λ c. inr (inr (inl c))) (λ r. ⊎_elim (λ a. inl a) (λ r. ⊎_elim (λ a. inl a) (λ r. ⊎_elim (λ b. inr (inl b)) (λ no. absurd no) r) r) r) r) m;
}

diamond_good : IsGood diamond
unfolding judging
diamond_good = (refl, (refl, (refl, (refl, tt))))

nothing_kept : IsOrderly [] []
unfolding judging
nothing_kept = record { good = tt; fresh = tt; apart = tt }

diamond_one : OneEach diamond
diamond_one f g mf mg e = one_event [] diamond f g (good_laid_out diamond diamond_good) mf mg e

straight_none : NoneFull (arrive program [] [] diamond).answers
unfolding judging
straight_none = (refl, (refl, (refl, (refl, tt))))

mixed_none : NoneFull (arrive program [] [] mixed).answers
unfolding judging
mixed_none = (refl, (refl, (refl, (refl, (refl, (refl, (refl, tt)))))))

mixed_agrees : SameState (arrive program [] [] diamond) (arrive program [] [] mixed)
mixed_agrees = arrival_agrees program [] [] diamond mixed nothing_kept tt diamond_one mixed_same straight_none mixed_none

-- Two events of which the first is out of range, and its child; then a good one.
abbrev two : List Event
two = typed 97 0 0 (97 ∷ 98 ∷ []) []

abbrev far : List Event
far = ins 98 0 5 88 (id 97 1 ∷ []) ∷ ins 98 1 0 89 (id 98 0 ∷ []) ∷ ins 99 0 2 90 (id 97 1 ∷ []) ∷ []

two_kept : IsOrderly two []
unfolding judging
two_kept = record { good = (refl, (refl, tt)); fresh = tt; apart = tt }

-- so there are two rounds
far_rounds : rounds program (most_judgements (desk_of two [] far)) (desk_of two [] far) ≡ 2
unfolding judging
far_rounds = rounds_tell.number program two [] far two_kept

far_first : (next : Desk) → after_out_of_range program (most_judgements (desk_of two [] far)) (desk_of two [] far) ≡ Some next → IsFirstOut program (desk_of two [] far) next
far_first next e = rounds_tell.first program (desk_of two [] far) next two_kept e

far_found : after_out_of_range program (most_judgements (desk_of two [] far)) (desk_of two [] far) ≡ Some (record { held = two; waiting = []; coming = ins 98 1 0 89 (id 98 0 ∷ []) ∷ ins 99 0 2 90 (id 97 1 ∷ []) ∷ []; is_settling = true })
unfolding judging
far_found = refl

-- The fork with its join is received where the fork is held: three repeats and a good event.
fork_good : IsGood fork
unfolding judging
fork_good = (refl, (refl, (refl, tt)))

merged_none : NoneFull (arrive program fork [] diamond).answers
unfolding judging
merged_none = (refl, (refl, (refl, (refl, tt))))

inside : (z : Event) → Among z (fork ++ diamond) → Among z diamond
inside z m = ⊎_elim (λ k. joined_left fork (join ∷ []) z k) (λ k. k) (among_joined fork diamond z m)

merged : IsMerged fork diamond (arrive program fork [] diamond)
merged =
    histories_merge program fork diamond fork_good diamond_good
    (λ f g mf mg e. diamond_one f g (inside f mf) (inside g mg) e) merged_none
