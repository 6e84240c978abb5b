-- What receiving the events that are lacking comes to, where the others are repeats.
use Rattle.std.proofs.Common.{◌≡◌, ◌≤◌, ℕ, ◌+◌, true, cond, nat_le, ⊎_elim, List, [], ◌∷◌, ◌++◌, length, refl, sym, ap, ◌∙◌, subst, arith}
use Rattle.std.specs.List.{IsDistinct}
use Rattle.std.proofs.lemmas.Bool.{true_from_ne_false, leb-false}
use Rattle.ew_model.specs.declared.event.Event.{Event}
use Rattle.ew_model.specs.ArrivalLaw.{NoneReady, OneEach}
use Rattle.ew_model.specs.Cuts.{latest_cut}
use Rattle.ew_model.specs.Ids.{name_eq}
use Rattle.ew_model.specs.Kept.{IsKept, ReplicaState}
use Rattle.ew_model.specs.Rounds.{most_touches}
use Rattle.ew_model.specs.Sets.{Among}
use Rattle.ew_model.proofs.SetLaws.{among_joined, joined_left, joined_right}
use Rattle.history_laws.specs.Repeats.{AreAnsweredAlike, LeaveTheSame, without_held}
use Rattle.history_laws.proofs.Answered.{each_swapped, held_events_are_repeats}
use Rattle.history_laws.proofs.LastAnswers.{few_repeats}
use Rattle.history_laws.proofs.Repeats.{held_events_change_nothing}
use Rattle.history_definitions.specs.Missing.{missing}
use Rattle.history_definitions.specs.Summary.{summary_of}
use Rattle.generator.proofs.Missing.{lacking, no_more}
use Rattle.replica.specs.declared.took.Took.{Took}
use Rattle.replica.specs.Receiving.{Receives}

-- what is told, with so many more repeats
abbrev pub with_repeats : Took → ℕ → Took
with_repeats took more = record { accepted = took.accepted; waiting = took.waiting; repeats = took.repeats + more; refused = took.refused; cut = took.cut }

-- Where nothing waits, and both have one event for each id, the events that are lacking were received, and so many others are held.
module _ (old : ReplicaState) (others few : List Event) (held : ℕ) (none : old.waiting ≡ []) (each : OneEach (others ++ old.held)) (lacked : few ≡ without_held old.held others) (all : held + length few ≡ length others) where
  settled : NoneReady old.held old.waiting
  settled = subst (NoneReady old.held) (sym none) tt

  same : LeaveTheSame old.limits old.held old.waiting few others
  same =
      subst (λ (events : List Event). LeaveTheSame old.limits old.held old.waiting events others) (sym lacked)
      (held_events_change_nothing old.limits old.held old.waiting others settled)

  alike : AreAnsweredAlike old.limits old.held old.waiting few others
  alike =
      subst (λ (events : List Event). AreAnsweredAlike old.limits old.held old.waiting events others) (sym lacked)
      (held_events_are_repeats old.limits old.held old.waiting others settled (each_swapped others old.held each))

  -- with the others as repeats, it is told as if all were
  pub takes_all : (new : ReplicaState) (took : Took) → Receives old few new took → Receives old others new (with_repeats took held)
  takes_all new took got =
      let repeats = alike.repeats in
      let told = got.told.repeats in
      record {
        state = got.state ∙ (λ i. record { limits = old.limits; held = same.held i; waiting = same.waits i });
        told = record {
          accepted = got.told.accepted ∙ alike.accepted;
          waiting = got.told.waiting ∙ ap (λ (w : List Event). length w) same.waits;
          repeats = omega (arith, repeats, told, all);
          refused = got.told.refused ∙ alike.refused;
          cut = got.told.cut ∙ ap (λ (h : List Event). latest_cut h (length old.held)) same.held;
        };
      }

  -- there are no more repeats than events
  pub repeats_within : (new : ReplicaState) (took : Took) → Receives old few new took → took.repeats + held ≤ length others
  repeats_within new took got =
      let repeats = alike.repeats in
      let told = got.told.repeats in
      let most = few_repeats old.limits old.held old.waiting others in
      let waits = ap (λ (w : List Event). length w) none in
      omega (arith, repeats, told, all, most, waits)

  -- and the walks are those of receiving all
  pub touched_no_more : (before now : ℕ) → now ≤ before + most_touches old.limits old.held old.waiting few → now ≤ before + most_touches old.limits old.held [] others
  touched_no_more before now most =
      subst (λ n. now ≤ before + n) (same.touches ∙ ap (λ (w : List Event). most_touches old.limits old.held w others) none) most

-- What a replica lacks of other events, by its summary: those whose ids it doesn't hold.
module _ (old : ReplicaState) (others known events : List Event) (counts : List (List ℕ × ℕ)) (ours : known ≡ old.held) (summed : counts ≡ summary_of known) (kept : IsKept old.limits old.held old.waiting) (are : events ≡ missing others counts) where
  pub offered : events ≡ without_held old.held others
  offered = are ∙ lacking old (record { limits = old.limits; held = others; waiting = [] }) others known counts refl ours summed kept

  -- they are no more than all
  pub offered_few : length events ≤ length others
  offered_few =
      let long = ap (λ (w : List Event). length w) offered in
      let fewer = no_more old.held others in
      omega (arith, long, fewer)

-- no counts leave all out
pub all_missing : (history : List Event) → missing history [] ≡ history
all_missing [] = refl
all_missing (e ∷ history) =
    let left : nat_le 0 e.id.seq ≡ true = true_from_ne_false (nat_le 0 e.id.seq) (λ no. omega (arith, leb-false 0 e.id.seq no)) in
    ap (λ b. cond b (e ∷ missing history []) (missing history [])) left ∙ ap (λ (es : List Event). e ∷ es) (all_missing history)

-- and no agent stands twice in none
pub none_twice : IsDistinct name_eq []
unfolding IsDistinct
none_twice = tt
