-- How many touches a round takes, and several.
use Rattle.std.proofs.Common.{◌≡◌, ℕ, zero, suc, ◌+◌, ◌<◌, ◌≤◌, true, false, cond, List, length, Option, Some, None, refl, sym, ap, ◌∙◌, arith}
use Rattle.std.specs.Option.{option_map_or}
use Rattle.ew_model.specs.declared.event.Event.{Event}
use Rattle.ew_model.specs.Arrival.{Desk, Judgement, Outcome, next_judgement, most_judgements, desk_of, arrive}
use Rattle.ew_model.specs.Cuts.{latest_cut}
use Rattle.ew_model.specs.Kept.{ReplicaState}
use Rattle.ew_model.specs.Limits.{LimitNumbers}
use Rattle.ew_model.specs.Rounds.{is_out_of_range, after_out_of_range, round_touches, rounds_touches, most_touches}
use Rattle.ew_model.specs.TouchLaws.{NoneOutOfRange}
use Rattle.ew_model.specs.Touches.{touches}
use Rattle.ew_model.proofs.ArrivalLaws.{next_less, judgements_end}
use Rattle.ew_model.proofs.RoundLaws.{no_round, same_run}
use Rattle.replica.specs.declared.took.Took.{Took}
use Rattle.replica.specs.Receiving.{Receives}

-- the desk behind the first answer OutOfRange, where the next judgement is this
abbrev after_by : LimitNumbers → ℕ → Option Judgement → Option Desk
after_by limits n o = option_map_or (λ j. cond (is_out_of_range j.answer.ruling) (Some j.desk) (after_out_of_range limits n j.desk)) o None

-- More judgements than there can be change nothing.
enough_by : (limits : LimitNumbers) (n m : ℕ) (o : Option Judgement) → ((j : Judgement) → o ≡ Some j → after_out_of_range limits n j.desk ≡ after_out_of_range limits m j.desk) → after_by limits n o ≡ after_by limits m o
enough_by limits n m None f = refl
enough_by limits n m (Some j) f = ap (λ (o : Option Desk). cond (is_out_of_range j.answer.ruling) (Some j.desk) o) (f j refl)

enough_looked : (limits : LimitNumbers) (n m : ℕ) (d : Desk) → most_judgements d ≤ n → most_judgements d ≤ m → after_out_of_range limits n d ≡ after_out_of_range limits m d
enough_looked limits zero zero d h k = refl
enough_looked limits zero (suc m) d h k = sym (ap (after_by limits m) (judgements_end limits true zero d h))
enough_looked limits (suc n) zero d h k = ap (after_by limits n) (judgements_end limits true zero d k)
enough_looked limits (suc n) (suc m) d h k =
    enough_by limits n m (next_judgement limits true d) (λ j e. enough_looked limits n m j.desk (omega (arith, h, next_less limits true d j e)) (omega (arith, k, next_less limits true d j e)))

one_judged : (limits : LimitNumbers) (d : Desk) (j : Judgement) → next_judgement limits true d ≡ Some j → after_out_of_range limits (most_judgements d) d ≡ after_by limits (most_judgements d) (Some j)
one_judged limits d j e = enough_looked limits (most_judgements d) (suc (most_judgements d)) d (omega arith) (omega arith) ∙ ap (after_by limits (most_judgements d)) e

-- an answer that isn't OutOfRange is passed over
pub looked_past : (limits : LimitNumbers) (d : Desk) (j : Judgement) → next_judgement limits true d ≡ Some j → is_out_of_range j.answer.ruling ≡ false
    → after_out_of_range limits (most_judgements d) d ≡ after_out_of_range limits (most_judgements j.desk) j.desk
looked_past limits d j e still =
    let less = next_less limits true d j e in
    one_judged limits d j e
    ∙ ap (λ b. cond b (Some j.desk) (after_out_of_range limits (most_judgements d) j.desk)) still
    ∙ enough_looked limits (most_judgements d) (most_judgements j.desk) j.desk (omega (arith, less)) (omega arith)

-- and one that is OutOfRange is the first
pub looked_at : (limits : LimitNumbers) (d : Desk) (j : Judgement) → next_judgement limits true d ≡ Some j → is_out_of_range j.answer.ruling ≡ true → after_out_of_range limits (most_judgements d) d ≡ Some j.desk
looked_at limits d j e out = one_judged limits d j e ∙ ap (λ b. cond b (Some j.desk) (after_out_of_range limits (most_judgements d) j.desk)) out

-- more rounds take no fewer touches
grow_by : (limits : LimitNumbers) (n m : ℕ) (o : Option Desk) → ((d : Desk) → rounds_touches limits n d ≤ rounds_touches limits m d)
    → option_map_or (λ next. rounds_touches limits n next) o 0 ≤ option_map_or (λ next. rounds_touches limits m next) o 0
grow_by limits n m None f = omega arith
grow_by limits n m (Some d) f = f d

rounds_grow : (limits : LimitNumbers) (n m : ℕ) (d : Desk) → n ≤ m → rounds_touches limits n d ≤ rounds_touches limits m d
rounds_grow limits zero zero d h = omega arith
rounds_grow limits zero (suc m) d h = omega arith
rounds_grow limits (suc n) zero d h = absurd (omega (arith, h))
rounds_grow limits (suc n) (suc m) d h =
    let more = grow_by limits n m (after_out_of_range limits (most_judgements d) d) (λ next. rounds_grow limits n m next (omega (arith, h))) in
    omega (arith, more)

-- the first of the rounds
pub first_round : (limits : LimitNumbers) (n : ℕ) (d : Desk) → round_touches limits d ≤ rounds_touches limits n d
first_round limits n d = rounds_grow limits zero n d (omega arith)

-- one round, and those behind it
pub round_and_rest : (limits : LimitNumbers) (n k : ℕ) (d next : Desk) → after_out_of_range limits (most_judgements d) d ≡ Some next → k < n → round_touches limits d + rounds_touches limits k next ≤ rounds_touches limits n d
round_and_rest limits zero k d next e h = absurd (omega (arith, h))
round_and_rest limits (suc n) k d next e h =
    let same : rounds_touches limits (suc n) d ≡ round_touches limits d + rounds_touches limits n next = ap (λ (o : Option Desk). round_touches limits d + option_map_or (λ next. rounds_touches limits n next) o 0) e in
    let more = rounds_grow limits k n next (omega (arith, h)) in
    omega (arith, same, more)

-- where no index is out of range, there is one round
pub one_alone : (limits : LimitNumbers) (held waiting events : List Event) → NoneOutOfRange (arrive limits held waiting events).answers
    → after_out_of_range limits (most_judgements (desk_of held waiting events)) (desk_of held waiting events) ≡ None
unfolding arrive
one_alone limits held waiting events none = no_round limits (most_judgements (desk_of held waiting events)) (desk_of held waiting events) none

-- which takes the touches of what is held then, from the cut that is told
pub touches_told : (old new : ReplicaState) (events : List Event) (took : Took) → NoneOutOfRange (arrive old.limits old.held old.waiting events).answers → Receives old events new took
    → round_touches old.limits (desk_of old.held old.waiting events) ≡ touches new.held took.cut
unfolding arrive round_touches
touches_told old new events took none r =
    let d = desk_of old.held old.waiting events in
    ap (λ (o : Outcome). touches o.desk.held (latest_cut o.desk.held (length old.held))) (same_run old.limits (most_judgements d) d none)
    ∙ (λ i. touches (sym (ap (λ (s : ReplicaState). s.held) r.state) i) (sym r.told.cut i))

-- the bound on a list of received events is that of the rounds from the first desk on
pub most_is : (limits : LimitNumbers) (held waiting events : List Event)
    → most_touches limits held waiting events ≡ rounds_touches limits (most_judgements (desk_of held waiting events)) (desk_of held waiting events)
unfolding most_touches
most_is limits held waiting events = refl

-- So many steps were taken from a desk on to another: with the rounds that are left they are no more than the bound; and none were,
-- and it is the same desk, where no answer to come is OutOfRange.
pub record IsCounted (limits : LimitNumbers) (from to : Desk) (was now : ℕ) : Type 0 where
  pub most : now + rounds_touches limits (most_judgements to) to ≤ was + rounds_touches limits (most_judgements from) from
  pub none : after_out_of_range limits (most_judgements from) from ≡ None → (to ≡ from) × (now ≡ was)

pub none_counted : (limits : LimitNumbers) (d : Desk) (steps : ℕ) → IsCounted limits d d steps steps
none_counted limits d steps = record { most = omega arith; none = λ _. (refl, refl) }

-- one round further, which isn't the last
pub counted_on : (limits now : LimitNumbers) (from to next : Desk) (was steps more : ℕ) → now ≡ limits → IsCounted limits from to was steps → after_out_of_range now (most_judgements to) to ≡ Some next
    → most_judgements next < most_judgements to → more ≤ steps + round_touches now to → IsCounted limits from next was more
counted_on limits now from to next was steps more same c leaves fewer took =
    let left : after_out_of_range limits (most_judgements to) to ≡ Some next = ap (λ (l : LimitNumbers). after_out_of_range l (most_judgements to) to) (sym same) ∙ leaves in
    let takes : round_touches now to ≡ round_touches limits to = ap (λ (l : LimitNumbers). round_touches l to) same in
    let rest = round_and_rest limits (most_judgements to) (most_judgements next) to next left fewer in
    let most = c.most in
    record {
      most = omega (arith, took, takes, rest, most);
      none = λ h.
          let at : after_out_of_range limits (most_judgements to) to ≡ None = ap (λ (d : Desk). after_out_of_range limits (most_judgements d) d) (c.none h).0 ∙ h in
          let no : ⊥ = cc in
          absurd no;
    }

-- the last round, and one that stops for want of memory
pub counted_most : (limits now : LimitNumbers) (from to : Desk) (was steps more : ℕ) → now ≡ limits → IsCounted limits from to was steps → more ≤ steps + round_touches now to
    → more ≤ was + rounds_touches limits (most_judgements from) from
counted_most limits now from to was steps more same c took =
    let takes : round_touches now to ≡ round_touches limits to = ap (λ (l : LimitNumbers). round_touches l to) same in
    let first = first_round limits (most_judgements to) to in
    let most = c.most in
    omega (arith, took, takes, first, most)

-- the last round, where it is the first too
pub counted_just : (limits now : LimitNumbers) (from to : Desk) (was steps more : ℕ) → now ≡ limits → IsCounted limits from to was steps → more ≡ steps + round_touches now to
    → after_out_of_range limits (most_judgements from) from ≡ None → more ≡ was + round_touches limits from
counted_just limits now from to was steps more same c took none =
    let takes : round_touches now to ≡ round_touches limits from = ap (λ (l : LimitNumbers). round_touches l to) same ∙ ap (round_touches limits) (c.none none).0 in
    took ∙ ap (λ n. steps + n) takes ∙ ap (λ n. n + round_touches limits from) (c.none none).1
