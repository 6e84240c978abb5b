-- Each event has one last answer, or waits, or is still to come.
use Rattle.std.proofs.Common.{◌≡◌, ℕ, zero, suc, Bool, true, false, not, cond, List, [], ◌∷◌, ◌++◌, map, filter, Option, Some, None, inl, inr, length, count_by, ◌+◌, ◌≤◌, arith, refl, sym, ap, ◌∙◌, subst, append_assoc}
use Rattle.std.specs.List.Sorted.{IsPermutation}
use Rattle.std.proofs.lemmas.List.{append-nil, length-append, length-map}
use Rattle.std.proofs.lemmas.List.Sums.{length-filter, sum_by-cons}
use Rattle.std.proofs.lemmas.List.Sorted.{IsPermutation-refl, IsPermutation-cons, IsPermutation-middle, IsPermutation-append_left, IsPermutation-trans, length_permutation}
use Rattle.ew_model.specs.declared.event.Event.{Event}
use Rattle.ew_model.specs.Limits.{LimitNumbers}
use Rattle.ew_model.specs.Arrival.{Desk, Answer, Judgement, Outcome, next_judgement, judgements, with_answer, desk_of, arrive, most_judgements}
use Rattle.ew_model.specs.Verdicts.{Ruling}
use Rattle.ew_model.specs.Verdicts.Ruling.{Unknown}
use Rattle.ew_model.proofs.RoundLaws.{then}
use Rattle.history_definitions.specs.Tallies.{is_repeat, repeats_in}
use Rattle.history_laws.specs.Accounts.{is_told_to_wait, answered_at_last, HasOneLastAnswer, EachHasOneLastAnswer}
use Rattle.history_laws.proofs.Turns.{TakesComing, TakesWaiting, takes_one, told_alone}

-- where the answer is that it waits, or not
at_last : (a : Answer) (answers : List Answer) (t : Bool) → is_told_to_wait a.ruling ≡ t
    → answered_at_last (a ∷ answers) ≡ map (λ (b : Answer). b.event) (cond (not t) (a ∷ filter (λ (b : Answer). not (is_told_to_wait b.ruling)) answers) (filter (λ (b : Answer). not (is_told_to_wait b.ruling)) answers))
at_last a answers t h =
    let rest = filter (λ (b : Answer). not (is_told_to_wait b.ruling)) answers in
    ap (λ (u : Bool). map (λ (b : Answer). b.event) (cond (not u) (a ∷ rest) rest)) h

-- one more last answer in front
one_last : (d : Desk) (a : Answer) (o : Outcome) (before after : List Event) → is_told_to_wait a.ruling ≡ false → IsPermutation before (a.event ∷ after) → HasOneLastAnswer after o → HasOneLastAnswer before (with_answer a o)
one_last d a o before after h first rest =
    let left = o.desk.waiting ++ o.desk.coming in
    subst (λ (w : List Event). IsPermutation before (w ++ left)) (sym (at_last a o.answers false h)) (
    IsPermutation-trans before (a.event ∷ after) (a.event ∷ (answered_at_last o.answers ++ left)) first
    (IsPermutation-cons a.event after (answered_at_last o.answers ++ left) rest)
    )

one_came : (d : Desk) (j : Judgement) (o : Outcome) (t : Bool) → is_told_to_wait j.answer.ruling ≡ t → TakesComing d j → HasOneLastAnswer (j.desk.waiting ++ j.desk.coming) o → HasOneLastAnswer (d.waiting ++ d.coming) (with_answer j.answer o)
one_came d j o true h taken rest =
    let left = o.desk.waiting ++ o.desk.coming in
    let e = j.answer.event in
    let waits : j.desk.waiting ≡ d.waiting ++ e ∷ [] = taken.waiting ∙ ap (λ (w : List Event). d.waiting ++ w) (told_alone j.answer true h) in
    let same : j.desk.waiting ++ j.desk.coming ≡ d.waiting ++ d.coming =
    ap (λ (w : List Event). w ++ j.desk.coming) waits ∙ append_assoc d.waiting (e ∷ []) j.desk.coming ∙ ap (λ (w : List Event). d.waiting ++ w) (sym taken.coming) in
    subst (λ (w : List Event). IsPermutation (d.waiting ++ d.coming) (w ++ left)) (sym (at_last j.answer o.answers true h))
    (subst (λ (w : List Event). IsPermutation w (answered_at_last o.answers ++ left)) same rest)
one_came d j o false h taken rest =
    let waits : j.desk.waiting ≡ d.waiting =
    taken.waiting ∙ ap (λ (w : List Event). d.waiting ++ w) (told_alone j.answer false h) ∙ append-nil d.waiting in
    let first : IsPermutation (d.waiting ++ d.coming) (j.answer.event ∷ (d.waiting ++ j.desk.coming)) =
    subst (λ (w : List Event). IsPermutation (d.waiting ++ w) (j.answer.event ∷ (d.waiting ++ j.desk.coming))) (sym taken.coming) (IsPermutation-middle d.waiting j.answer.event j.desk.coming) in
    one_last d j.answer o (d.waiting ++ d.coming) (d.waiting ++ j.desk.coming) h first
    (subst (λ (w : List Event). HasOneLastAnswer (w ++ j.desk.coming) o) waits rest)

one_waited : (d : Desk) (j : Judgement) (o : Outcome) → TakesWaiting d j → HasOneLastAnswer (j.desk.waiting ++ j.desk.coming) o → HasOneLastAnswer (d.waiting ++ d.coming) (with_answer j.answer o)
one_waited d j o taken rest =
    one_last d j.answer o (d.waiting ++ d.coming) (j.desk.waiting ++ j.desk.coming) taken.known
    (subst (λ (w : List Event). IsPermutation (d.waiting ++ w) (j.answer.event ∷ (j.desk.waiting ++ j.desk.coming))) (sym taken.coming)
    (IsPermutation-append_left j.desk.coming d.waiting (j.answer.event ∷ j.desk.waiting) taken.waiting))
    rest

one_more : (limits : LimitNumbers) (b : Bool) (d : Desk) (j : Judgement) (o : Outcome) → next_judgement limits b d ≡ Some j → HasOneLastAnswer (j.desk.waiting ++ j.desk.coming) o → HasOneLastAnswer (d.waiting ++ d.coming) (with_answer j.answer o)
one_more limits b d j o e rest = elim (takes_one limits b d j e) [
  | inl taken ↦ one_came d j o (is_told_to_wait j.answer.ruling) refl taken rest
  | inr taken ↦ one_waited d j o taken rest
]

by_next : (limits : LimitNumbers) (b : Bool) (n : ℕ) (d : Desk) (o : Option Judgement) → ((j : Judgement) → o ≡ Some j → HasOneLastAnswer (d.waiting ++ d.coming) (with_answer j.answer (judgements limits b n j.desk)))
    → HasOneLastAnswer (d.waiting ++ d.coming) (then limits b n d o)
by_next limits b n d None f = IsPermutation-refl (d.waiting ++ d.coming)
by_next limits b n d (Some j) f = f j refl

last_from : (limits : LimitNumbers) (b : Bool) (n : ℕ) (d : Desk) → HasOneLastAnswer (d.waiting ++ d.coming) (judgements limits b n d)
last_from limits b zero d = IsPermutation-refl (d.waiting ++ d.coming)
last_from limits b (suc n) d =
    by_next limits b n d (next_judgement limits b d) (λ j e. one_more limits b d j (judgements limits b n j.desk) e (last_from limits b n j.desk))

-- The law of last answers.
pub each_has_one_last_answer : EachHasOneLastAnswer
each_has_one_last_answer limits held waiting events n = last_from limits true n (desk_of held waiting events)

-- a repeat is a last answer
repeats_last : (r : Ruling) → cond (is_repeat r) 1 0 ≤ cond (not (is_told_to_wait r)) 1 0
repeats_last (Unknown p) = omega arith
repeats_last r = omega arith

repeats_counted : (answers : List Answer) → repeats_in answers ≤ count_by (λ (a : Answer). not (is_told_to_wait a.ruling)) answers
repeats_counted [] = omega arith
repeats_counted (a ∷ answers) =
    let one = sum_by-cons (λ (x : Answer). cond (is_repeat x.ruling) 1 0) a answers in
    let other = sum_by-cons (λ (x : Answer). cond (not (is_told_to_wait x.ruling)) 1 0) a answers in
    let more = repeats_counted answers in
    let this = repeats_last a.ruling in
    omega (arith, one, other, more, this)

-- so there are no more of them than events that waited and came
pub few_repeats : (limits : LimitNumbers) (held waiting events : List Event) → repeats_in (arrive limits held waiting events).answers ≤ length waiting + length events
unfolding arrive
few_repeats limits held waiting events =
    let o = arrive limits held waiting events in
    let all = each_has_one_last_answer limits held waiting events (most_judgements (desk_of held waiting events)) in
    let long = length_permutation (waiting ++ events) (answered_at_last o.answers ++ (o.desk.waiting ++ o.desk.coming)) all in
    let behind = length-append (answered_at_last o.answers) (o.desk.waiting ++ o.desk.coming) in
    let sum = length-append waiting events in
    let last = length-map (filter (λ (a : Answer). not (is_told_to_wait a.ruling)) o.answers) (λ (a : Answer). a.event) in
    let count = length-filter (λ (a : Answer). not (is_told_to_wait a.ruling)) o.answers in
    let most = repeats_counted o.answers in
    omega (arith, long, behind, sum, last, count, most)
