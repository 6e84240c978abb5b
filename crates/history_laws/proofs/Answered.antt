-- Where there is one event for each id, events whose ids are held are repeats.
use Rattle.std.proofs.Common.{◌≡◌, ◌+◌, inl, inr, ⊎_elim, Bool, true, false, cond, ◌||◌, List, [], ◌∷◌, ◌++◌, count_by, length, refl, sym, ap, ◌∙◌, subst, arith}
use Rattle.std.specs.List.{list_any, AllByRecursion}
use Rattle.std.proofs.lemmas.Bool.{false≢true}
use Rattle.std.proofs.lemmas.List.Folds.{list_any-append}
use Rattle.std.proofs.lemmas.List.Sums.{sum_by-cons}
use Rattle.ew_model.specs.declared.event.Event.{Event}
use Rattle.ew_model.specs.Ancestors.{is_held}
use Rattle.ew_model.specs.ArrivalLaw.{OneEach}
use Rattle.ew_model.specs.Arrival.{Answer, Desk, Outcome, arrive, desk_of, judged, most_judgements, with_answer}
use Rattle.ew_model.specs.Events.{event_eq}
use Rattle.ew_model.specs.Limits.{LimitNumbers}
use Rattle.ew_model.specs.Sets.{Among}
use Rattle.ew_model.specs.Verdicts.{is_verdict_good}
use Rattle.ew_model.specs.Verdicts.Ruling.{Repeat}
use Rattle.ew_model.proofs.ArrivalRuns.{ended}
use Rattle.ew_model.proofs.CoverLaws.{event_of}
use Rattle.ew_model.proofs.ListTests.{any_from}
use Rattle.ew_model.proofs.MergeSteps.{same_event}
use Rattle.ew_model.proofs.RoundSteps.{grown_next}
use Rattle.ew_model.proofs.SetLaws.{among_joined, joined_left, joined_right}
use Rattle.history_definitions.specs.Tallies.{accepted_in, is_repeat, refused_by, refused_in, repeats_in}
use Rattle.history_laws.specs.Repeats.{HeldEventsAreRepeats, without_held}
use Rattle.history_laws.proofs.Pairs.{in_pairs}
use Rattle.history_laws.proofs.Repeats.{none_left_out}
use Rattle.history_laws.proofs.Thinning.{Ends, Goes, IsCalm, Skips, TakesNew, thinned, without_one}

-- one event for each id is in two lists, in whichever order
swapped : (xs ys : List Event) (z : Event) → Among z (ys ++ xs) → Among z (xs ++ ys)
swapped xs ys z m = ⊎_elim (joined_right xs ys z) (joined_left xs ys z) (among_joined ys xs z m)

pub each_swapped : (xs ys : List Event) → OneEach (xs ++ ys) → OneEach (ys ++ xs)
each_swapped xs ys each f g m n same = each f g (swapped xs ys f m) (swapped xs ys g n) same

-- As many are appended by both lists of answers, and the same are refused; and the one has a repeat more for each event of these that
-- is left out.
record Alike (old coming : List Event) (xs ys : List Answer) : Type 0 where
  accepted : accepted_in xs ≡ accepted_in ys
  refused : refused_in xs ≡ refused_in ys
  repeats : repeats_in ys + length coming ≡ repeats_in xs + length (without_held old coming)

counted : (p : Answer → Bool) (a : Answer) (xs : List Answer) → count_by p (a ∷ xs) ≡ cond (p a) 1 0 + count_by p xs
counted p a xs = sum_by-cons (λ x. cond (p x) 1 0) a xs

-- one more repeat, of an event that is left out
one_repeat : (old : List Event) (e : Event) (coming : List Event) (a : Answer) (xs ys : List Answer) → is_held old e.id ≡ true → a.ruling ≡ Repeat → Alike old coming xs ys → Alike old (e ∷ coming) (a ∷ xs) ys
one_repeat old e coming a xs ys known is alike =
    let good : accepted_in (a ∷ xs) ≡ 0 + accepted_in xs = counted (λ (x : Answer). is_verdict_good x.ruling) a xs ∙ ap (λ r. cond (is_verdict_good r) 1 0 + accepted_in xs) is in
    let again : repeats_in (a ∷ xs) ≡ 1 + repeats_in xs = counted (λ (x : Answer). is_repeat x.ruling) a xs ∙ ap (λ r. cond (is_repeat r) 1 0 + repeats_in xs) is in
    let same : length (without_held old (e ∷ coming)) ≡ length (without_held old coming) = ap (λ (w : List Event). length w) (without_one old e coming true known) in
    let accepts = alike.accepted in
    let repeats = alike.repeats in
    record {
      accepted = omega (arith, good, accepts);
      refused = (λ i. refused_by (record { event = a.event; ruling = is i }) ++ refused_in xs) ∙ alike.refused;
      repeats = omega (arith, again, same, repeats);
    }

-- the same answer in front of both
same_answer : (old before after : List Event) (a : Answer) (xs ys : List Answer) → TakesNew old before after → Alike old after xs ys → Alike old before (a ∷ xs) (a ∷ ys)
same_answer old before after a xs ys took alike =
    let good = counted (λ (x : Answer). is_verdict_good x.ruling) a xs in
    let good_too = counted (λ (x : Answer). is_verdict_good x.ruling) a ys in
    let again = counted (λ (x : Answer). is_repeat x.ruling) a xs in
    let again_too = counted (λ (x : Answer). is_repeat x.ruling) a ys in
    let accepts = alike.accepted in
    let repeats = alike.repeats in
    let all = lengths took in
    record {
      accepted = omega (arith, good, good_too, accepts);
      refused = ap (λ r. refused_by a ++ r) alike.refused;
      repeats = omega (arith, again, again_too, repeats, all);
    }
  where
    lengths : TakesNew old before after → length before + length (without_held old after) ≡ length after + length (without_held old before)
    lengths (inl same) = ap (λ (w : List Event). length w + length (without_held old after)) same ∙ ap (λ (w : List Event). length after + length (without_held old w)) (sym same)
    lengths (inr (e, first, new)) =
        let more = ap (λ (w : List Event). length w) first in
        let kept = ap (λ (w : List Event). length (without_held old w)) first ∙ ap (λ (w : List Event). length w) (without_one old e after false new) in
        omega (arith, more, kept)

-- each event to come whose id the old history holds is held
abbrev AreThere : List Event → List Event → List Event → Type 0
AreThere old held coming = AllByRecursion (λ (e : Event). is_held old e.id ≡ true → list_any (event_eq e) held ≡ true) coming

there_joined : (old held more coming : List Event) → AreThere old held coming → AreThere old (held ++ more) coming
there_joined old held more [] a = tt
there_joined old held more (e ∷ coming) a =
    ((λ h. list_any-append (event_eq e) held more ∙ ap (λ t. t || list_any (event_eq e) more) (a.0 h)), there_joined old held more coming a.1)

there_at : (old history : List Event) (events : List Event) → ((x : Event) → Among x events → is_held old x.id ≡ true → list_any (event_eq x) history ≡ true) → AreThere old history events
there_at old history [] f = tt
there_at old history (e ∷ events) f = (f e (inl refl), there_at old history events (λ x m. f x (inr m)))

-- those that are left once an event is taken
there_taken : (old held before after : List Event) → TakesNew old before after → AreThere old held before → AreThere old held after
there_taken old held before after (inl same) a = subst (AreThere old held) same a
there_taken old held before after (inr (e, first, new)) a = (subst (AreThere old held) first a).1

module _ (limits : LimitNumbers) (old : List Event) where
  abbrev AreAlike : Desk → Outcome → Outcome → Type 0
  AreAlike d o p = AreThere old d.held d.coming → Alike old d.coming o.answers p.answers

  at_last : (d : Desk) → IsCalm old d → Ends limits true old d → AreAlike d (record { desk = d; answers = [] }) (record { desk = thinned old d; answers = [] })
  at_last d calm ends there =
      let none = (ended limits d ends.here calm.still).1 in
      record { accepted = refl; refused = refl; repeats = ap (λ (w : List Event). repeats_in [] + length w) none ∙ ap (λ (w : List Event). repeats_in [] + length (without_held old w)) (sym none) }

  at_one : (d : Desk) (skips : Skips limits true old d) (o p : Outcome) → AreAlike skips.judgement.desk o p → AreAlike d (with_answer skips.judgement.answer o) p
  at_one d skips o p alike there =
      let j = skips.judgement in
      let here = subst (AreThere old d.held) skips.first there in
      let grown = grown_next limits true d j skips.here in
      let rest = subst (λ held. AreThere old held j.desk.coming) (sym grown.1) (there_joined old d.held grown.0 j.desk.coming here.1) in
      subst (λ coming. Alike old coming (j.answer ∷ o.answers) p.answers) (sym skips.first)
      (one_repeat old skips.event j.desk.coming j.answer o.answers p.answers skips.known (skips.repeat (here.0 skips.known)) (alike rest))

  at_both : (d : Desk) (goes : Goes limits true old d) (o p : Outcome) → AreAlike goes.judgement.desk o p → AreAlike d (with_answer goes.judgement.answer o) (with_answer goes.judgement.answer p)
  at_both d goes o p alike there =
      let j = goes.judgement in
      let grown = grown_next limits true d j goes.here in
      let rest = subst (λ held. AreThere old held j.desk.coming) (sym grown.1) (there_joined old d.held grown.0 j.desk.coming (there_taken old d.held d.coming j.desk.coming goes.took there)) in
      same_answer old d.coming j.desk.coming j.answer o.answers p.answers goes.took (alike rest)

  answered : (history waiting events : List Event) → IsCalm old (desk_of history waiting events) → AreThere old history events
      → Alike old events (arrive limits history waiting events).answers (judged limits true (thinned old (desk_of history waiting events))).answers
  unfolding arrive
  answered history waiting events calm there =
      let d = desk_of history waiting events in
      in_pairs limits true old AreAlike at_last at_one at_both (most_judgements d) (most_judgements (thinned old d)) d calm (omega arith) (omega arith) there

-- The law of the answers to events that are held already.
pub held_events_are_repeats : HeldEventsAreRepeats
held_events_are_repeats limits history waiting events none one =
    let few = without_held history events in
    let here : IsCalm history (desk_of history waiting events) = record { more = λ x h. h; still = λ h. none } in
    let there : IsCalm [] (desk_of history waiting few) = record { more = λ x h. absurd (false≢true h); still = λ h. none } in
    let same : thinned [] (desk_of history waiting few) ≡ thinned history (desk_of history waiting events) =
    λ i. record { held = history; waiting = waiting; coming = none_left_out few i; is_settling = true } in
    let held = there_at history history events (λ x m h.
    let f = event_of history x.id h in
    let is : x ≡ f.0 = one x f.0 (joined_right history events x m) (joined_left history events f.0 f.1) f.2 in
    any_from (event_eq x) history f.0 f.1 (subst (λ g. event_eq x g ≡ true) is (same_event x))) in
    let all = answered limits history history waiting events here held in
    let some = subst (λ (a : Desk). Alike [] few (arrive limits history waiting few).answers (judged limits true a).answers) same
    (answered limits [] history waiting few there (there_at [] history few (λ x m h. absurd (false≢true h)))) in
    let repeats = all.repeats in
    let others = some.repeats in
    let none_out = ap (λ (w : List Event). length w) (none_left_out few) in
    record {
      accepted = some.accepted ∙ sym all.accepted;
      refused = some.refused ∙ sym all.refused;
      repeats = omega (arith, repeats, others, none_out);
    }
