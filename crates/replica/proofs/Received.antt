-- What receiving comes to.
use Rattle.std.proofs.Common.{◌≡◌, ℕ, ◌+◌, true, false, List, [], ◌++◌, filter, length, take, None, refl, sym, ap, ◌∙◌, subst, arith, length-append}
use Rattle.std.proofs.lemmas.List.{length-map, take-append-drop}
use Rattle.std.proofs.lemmas.List.Sums.{length-filter}
use Rattle.ew_model.specs.declared.event.Event.{Event}
use Rattle.ew_model.specs.Arrival.{Desk, Answer, Outcome, next_judgement, judgements, judged, most_judgements, desk_of, arrive}
use Rattle.ew_model.specs.Cuts.{latest_cut}
use Rattle.ew_model.specs.Kept.{ReplicaState}
use Rattle.ew_model.specs.Limits.{LimitNumbers}
use Rattle.ew_model.specs.Verdicts.{is_verdict_good}
use Rattle.ew_model.proofs.AppendSteps.{good_events, judgements_append}
use Rattle.ew_model.proofs.JoinedJudgements.{behind, judgements_joined, plus, plus_above}
use Rattle.ew_model.proofs.RoundSteps.{enough, grown_all}
use Rattle.replica.specs.declared.took.Took.{Took}
use Rattle.replica.specs.declared.took.Stopped.{Stopped}
use Rattle.replica.specs.Counting.{Counted}
use Rattle.replica.specs.Desks.{desk_of_replica}
use Rattle.replica.specs.Fronts.{IsFront}
use Rattle.replica.specs.Reaching.{Reaches}
use Rattle.replica.specs.Receiving.{ComesTo, Receives, StandsBetween, StopsBetween}
use Rattle.history_definitions.specs.Outcomes.{state_at}
use Rattle.history_definitions.specs.Tallies.{accepted_in}
use Rattle.replica.proofs.RoundWays.{all_made}
use Rattle.replica.proofs.Ways.{counts_joined, counts_none}

-- nothing was counted yet
abbrev pub none_counted : Counted
none_counted = record { judged = 0; settling = false; repeats = 0; refused = [] }

pub reaches_none : (limits : LimitNumbers) (d : Desk) (c : Counted) → Reaches limits d d c c
reaches_none limits d c = record { number = 0; answers = []; judged = refl; counted = counts_none c }

-- one round after another
pub reaches_on : (limits : LimitNumbers) (from mid to : Desk) (a b c : Counted) → Reaches limits from mid a b → Reaches limits mid to b c → Reaches limits from to a c
reaches_on limits from mid to a b c h k = record {
  number = plus h.number k.number;
  answers = h.answers ++ k.answers;
  judged =
      judgements_joined limits true h.number k.number from
      ∙ ap (λ (o : Outcome). behind o.answers (judgements limits true k.number o.desk)) h.judged
      ∙ ap (behind h.answers) k.judged;
  counted = counts_joined h.answers k.answers a b c h.counted k.counted;
}

-- where the limits stay as they were
pub reaches_next : (limits now : LimitNumbers) (from mid to : Desk) (a b c : Counted) → now ≡ limits → Reaches limits from mid a b → Reaches now mid to b c → Reaches limits from to a c
reaches_next limits now from mid to a b c e h k = reaches_on limits from mid to a b c h (subst (λ (l : LimitNumbers). Reaches l mid to b c) e k)

-- as many events are held more as were answered Good
length_good : (answers : List Answer) → length (good_events answers) ≡ accepted_in answers
length_good answers = length-map (filter (λ (a : Answer). is_verdict_good a.ruling) answers) (λ (a : Answer). a.event) ∙ length-filter (λ (a : Answer). is_verdict_good a.ruling) answers

-- what is told of all that was judged
pub record IsTold (before : ℕ) (held waiting : List Event) (c : Counted) (took : Took) : Type 0 where
  pub accepted : took.accepted + before ≡ length held
  pub waits : took.waiting ≡ length waiting
  pub repeats : took.repeats ≡ c.repeats
  pub refused : took.refused.items ≡ c.refused
  pub cut : took.cut ≡ latest_cut held before

-- nothing is given up, and as much is held more as was accepted
pub more_held : (old new : ReplicaState) (events : List Event) (c : Counted) (r : Reaches old.limits (desk_of_replica old events none_counted) (desk_of_replica new events c) none_counted c) → length new.held ≡ length old.held + accepted_in r.answers
more_held old new events c r =
    let grown : new.held ≡ old.held ++ good_events r.answers =
    ap (λ (o : Outcome). o.desk.held) (sym r.judged) ∙ judgements_append old.limits true r.number (desk_of old.held old.waiting events) ∙ ap (λ (o : Outcome). old.held ++ good_events o.answers) r.judged in
    ap (length {A = Event}) grown ∙ length-append old.held (good_events r.answers) ∙ ap (λ n. length old.held + n) (length_good r.answers)

pub comes : (old new : ReplicaState) (events : List Event) (c : Counted) (took : Took) (r : Reaches old.limits (desk_of_replica old events none_counted) (desk_of_replica new events c) none_counted c) → new.limits ≡ old.limits
    → IsTold (length old.held) new.held new.waiting c took → ComesTo old new (judgements old.limits true r.number (desk_of old.held old.waiting events)) took
comes old new events c took r limits told =
    let more = more_held old new events c r in
    let accepted = told.accepted in
    let repeats = told.repeats in
    let counted = r.counted.repeats in
    let now : ComesTo old new (record { desk = desk_of_replica new events c; answers = r.answers }) took = record {
      state = λ i. record { limits = limits i; held = new.held; waiting = new.waiting };
      told = record {
        accepted = omega (arith, more, accepted);
        waiting = told.waits;
        repeats = omega (arith, repeats, counted);
        refused = told.refused ∙ r.counted.refused;
        cut = told.cut;
      };
    } in
    subst (λ (o : Outcome). ComesTo old new o took) (sym r.judged) now

pub receives : (old new : ReplicaState) (events : List Event) (c : Counted) (took : Took) → Reaches old.limits (desk_of_replica old events none_counted) (desk_of_replica new events c) none_counted c → new.limits ≡ old.limits
    → next_judgement old.limits true (desk_of_replica new events c) ≡ None → IsTold (length old.held) new.held new.waiting c took → Receives old events new took
unfolding arrive
receives old new events c took r limits end told =
    subst (λ (o : Outcome). ComesTo old new o took)
    (r.judged ∙ sym (all_made old.limits true r.number (desk_of old.held old.waiting events) (desk_of_replica new events c) r.answers r.judged end))
    (comes old new events c took r limits told)

-- what some judgements leave is a front of what all leave
front_of_all : (limits : LimitNumbers) (n : ℕ) (from to : Desk) (answers : List Answer) → judgements limits true n from ≡ record { desk = to; answers = answers } → IsFront to.held (judged limits true from).desk.held
front_of_all limits n from to answers h =
    let grown = grown_all limits true (most_judgements from) to in
    let all : judged limits true from ≡ behind answers (judgements limits true (most_judgements from) to) =
    enough limits true (most_judgements from) (plus n (most_judgements from)) from (omega arith) (plus_above n (most_judgements from))
    ∙ judgements_joined limits true n (most_judgements from) from
    ∙ ap (λ (o : Outcome). behind o.answers (judgements limits true (most_judgements from) o.desk)) h in
    (grown.0, ap (λ (o : Outcome). o.desk.held) all ∙ grown.1)

-- what stands, where the rest isn't handed back
pub stands_between : (old new : ReplicaState) (events : List Event) (c : Counted) → Reaches old.limits (desk_of_replica old events none_counted) (desk_of_replica new events c) none_counted c → new.limits ≡ old.limits → StandsBetween old events new
unfolding arrive
stands_between old new events c r limits = record {
  number = r.number;
  state = (λ i. record { limits = limits i; held = new.held; waiting = new.waiting }) ∙ ap (state_at old.limits) (sym r.judged);
  front = front_of_all old.limits r.number (desk_of old.held old.waiting events) (desk_of_replica new events c) r.answers r.judged;
}

pub stops_between : (old new : ReplicaState) (events : List Event) (c : Counted) (stopped : Stopped) → Reaches old.limits (desk_of_replica old events none_counted) (desk_of_replica new events c) none_counted c → new.limits ≡ old.limits
    → IsTold (length old.held) new.held new.waiting c stopped.took → stopped.rest.items ≡ (desk_of_replica new events c).coming → StopsBetween old events new stopped
unfolding arrive
stops_between old new events c stopped r limits told rest = record {
  number = r.number;
  comes = comes old new events c stopped.took r limits told;
  rest = rest ∙ ap (λ (o : Outcome). o.desk.coming) (sym r.judged);
  settled = take c.judged events;
  whole = sym (take-append-drop c.judged events) ∙ ap (λ (more : List Event). take c.judged events ++ more) (sym rest);
  front = front_of_all old.limits r.number (desk_of old.held old.waiting events) (desk_of_replica new events c) r.answers r.judged;
}

-- what is reached from a replica, known by other names
pub reached : (old new : ReplicaState) (given events : List Event) (begun c : Counted) → begun ≡ none_counted → given ≡ events → Reaches old.limits (desk_of_replica old given begun) (desk_of_replica new given c) begun c
    → Reaches old.limits (desk_of_replica old events none_counted) (desk_of_replica new events c) none_counted c
reached old new given events begun c b e r =
    subst (λ (k : Counted). Reaches old.limits (desk_of_replica old events k) (desk_of_replica new events c) k c) b
    (subst (λ (es : List Event). Reaches old.limits (desk_of_replica old es begun) (desk_of_replica new es c) begun c) e r)
