-- All events are accounted for, one judgement after another.
use Rattle.std.proofs.Common.{◌≡◌, ℕ, zero, suc, Bool, true, false, List, [], ◌∷◌, ◌++◌, map, filter, take, Option, Some, None, inl, inr, refl, sym, ap, ◌∙◌, subst, append_assoc}
use Rattle.std.specs.List.Sorted.{IsPermutation}
use Rattle.std.proofs.lemmas.Bool.{false≢true}
use Rattle.std.proofs.lemmas.List.{append-nil, map-append}
use Rattle.std.proofs.lemmas.List.Elements.{filter-append}
use Rattle.std.proofs.lemmas.List.Sorted.{IsPermutation-refl, IsPermutation-cons, IsPermutation-append_left, IsPermutation-trans}
use Rattle.ew_model.specs.declared.event.Event.{Event}
use Rattle.ew_model.specs.Limits.{LimitNumbers}
use Rattle.ew_model.specs.Arrival.{Desk, Answer, Judgement, Outcome, next_judgement, judgements, with_answer, desk_of}
use Rattle.ew_model.proofs.RoundLaws.{then}
use Rattle.ew_model.proofs.AppendSteps.{judgements_append}
use Rattle.history_laws.specs.Accounts.{is_told_to_wait, told_to_wait, answered_good, Judged, answers_of, judged_after_waiting, StillWait, AccountsForAll, JudgementsAccountForAll}
use Rattle.history_laws.proofs.Turns.{TakesComing, TakesWaiting, takes_one, told_alone}

told_first : (a : Answer) (answers : List Answer) → told_to_wait (a ∷ answers) ≡ told_to_wait (a ∷ []) ++ told_to_wait answers
told_first a answers =
    let waits = λ (b : Answer). is_told_to_wait b.ruling in
    ap (map (λ (b : Answer). b.event)) (filter-append waits (a ∷ []) answers) ∙ map-append (λ (b : Answer). b.event) (filter waits (a ∷ [])) (filter waits answers)

told_no_other : (a : Answer) (answers : List Answer) → is_told_to_wait a.ruling ≡ false → told_to_wait (a ∷ answers) ≡ told_to_wait answers
told_no_other a answers h = told_first a answers ∙ ap (λ (w : List Event). w ++ told_to_wait answers) (told_alone a false h)

-- before the first judgement those that waited still wait
none_yet : (waiting : List Event) → StillWait waiting [] waiting
none_yet waiting = subst (λ (w : List Event). IsPermutation w waiting) (sym (append-nil waiting)) (IsPermutation-refl waiting)

-- what an outcome holds is the old history and the events answered Good
abbrev HoldsGood : List Event → Outcome → Type 0
HoldsGood history o = o.desk.held ≡ history ++ answered_good o.answers

none_judged : (d : Desk) → AccountsForAll d.held d.waiting d.coming (record { desk = d; answers = [] })
none_judged d = record {
  marked = [];
  answers = refl;
  held = sym (append-nil d.held);
  received = refl;
  left = none_yet d.waiting;
  waited = λ k. (d.waiting, at k);
  once = tt;
}
  where
    at : (k : ℕ) → StillWait d.waiting (take k []) d.waiting
    at zero = none_yet d.waiting
    at (suc k) = none_yet d.waiting

abbrev as_it_came : Judgement → Judged
as_it_came j = record { answer = j.answer; had_waited = false }

abbrev after_waiting : Judgement → Judged
after_waiting j = record { answer = j.answer; had_waited = true }

-- the same events still wait, whether the first judgement is counted or not
with_one_came : (d : Desk) (j : Judgement) (marked : List Judged) (waits : List Event) → TakesComing d j → StillWait j.desk.waiting marked waits → StillWait d.waiting (as_it_came j ∷ marked) waits
with_one_came d j marked waits taken rest =
    let answers = answers_of marked in
    let told = told_to_wait answers in
    let same : j.desk.waiting ++ told ≡ d.waiting ++ told_to_wait (j.answer ∷ answers) =
    ap (λ (w : List Event). w ++ told) taken.waiting ∙ append_assoc d.waiting (told_to_wait (j.answer ∷ [])) told ∙ ap (λ (w : List Event). d.waiting ++ w) (sym (told_first j.answer answers)) in
    subst (λ (w : List Event). IsPermutation w (judged_after_waiting marked ++ waits)) same rest

with_one_waited : (d : Desk) (j : Judgement) (marked : List Judged) (waits : List Event) → TakesWaiting d j → StillWait j.desk.waiting marked waits → StillWait d.waiting (after_waiting j ∷ marked) waits
with_one_waited d j marked waits taken rest =
    let e = j.answer.event in
    let answers = answers_of marked in
    let told = told_to_wait answers in
    let after = judged_after_waiting marked ++ waits in
    let all : IsPermutation (d.waiting ++ told) (e ∷ after) =
    IsPermutation-trans (d.waiting ++ told) (e ∷ (j.desk.waiting ++ told)) (e ∷ after)
    (IsPermutation-append_left told d.waiting (e ∷ j.desk.waiting) taken.waiting)
    (IsPermutation-cons e (j.desk.waiting ++ told) after rest) in
    subst (λ (w : List Event). IsPermutation (d.waiting ++ w) (e ∷ after)) (sym (told_no_other j.answer answers taken.known)) all

one_came : (d : Desk) (j : Judgement) (o : Outcome) → TakesComing d j → HoldsGood d.held (with_answer j.answer o) → AccountsForAll j.desk.held j.desk.waiting j.desk.coming o → AccountsForAll d.held d.waiting d.coming (with_answer j.answer o)
one_came d j o taken held rest = record {
  marked = as_it_came j ∷ rest.marked;
  answers = ap (λ (w : List Answer). j.answer ∷ w) rest.answers;
  held = held;
  received = taken.coming ∙ ap (λ (w : List Event). j.answer.event ∷ w) rest.received;
  left = with_one_came d j rest.marked o.desk.waiting taken rest.left;
  waited = at;
  once = ((λ h. absurd (false≢true h)), rest.once);
}
  where
    at : (k : ℕ) → (waits : List Event) × StillWait d.waiting (take k (as_it_came j ∷ rest.marked)) waits
    at zero = (d.waiting, none_yet d.waiting)
    at (suc k) = ((rest.waited k).0, with_one_came d j (take k rest.marked) (rest.waited k).0 taken (rest.waited k).1)

one_waited : (d : Desk) (j : Judgement) (o : Outcome) → TakesWaiting d j → HoldsGood d.held (with_answer j.answer o) → AccountsForAll j.desk.held j.desk.waiting j.desk.coming o → AccountsForAll d.held d.waiting d.coming (with_answer j.answer o)
one_waited d j o taken held rest = record {
  marked = after_waiting j ∷ rest.marked;
  answers = ap (λ (w : List Answer). j.answer ∷ w) rest.answers;
  held = held;
  received = taken.coming ∙ rest.received;
  left = with_one_waited d j rest.marked o.desk.waiting taken rest.left;
  waited = at;
  once = ((λ h. taken.known), rest.once);
}
  where
    at : (k : ℕ) → (waits : List Event) × StillWait d.waiting (take k (after_waiting j ∷ rest.marked)) waits
    at zero = (d.waiting, none_yet d.waiting)
    at (suc k) = ((rest.waited k).0, with_one_waited d j (take k rest.marked) (rest.waited k).0 taken (rest.waited k).1)

one_more : (limits : LimitNumbers) (b : Bool) (d : Desk) (j : Judgement) (o : Outcome) → next_judgement limits b d ≡ Some j → HoldsGood d.held (with_answer j.answer o) → AccountsForAll j.desk.held j.desk.waiting j.desk.coming o → AccountsForAll d.held d.waiting d.coming (with_answer j.answer o)
one_more limits b d j o e held rest = elim (takes_one limits b d j e) [
  | inl taken ↦ one_came d j o taken held rest
  | inr taken ↦ one_waited d j o taken held rest
]

by_next : (limits : LimitNumbers) (b : Bool) (n : ℕ) (d : Desk) (o : Option Judgement) → ((j : Judgement) → o ≡ Some j → AccountsForAll d.held d.waiting d.coming (with_answer j.answer (judgements limits b n j.desk)))
    → AccountsForAll d.held d.waiting d.coming (then limits b n d o)
by_next limits b n d None f = none_judged d
by_next limits b n d (Some j) f = f j refl

-- what is held where there is a first judgement
held_by_next : (limits : LimitNumbers) (b : Bool) (n : ℕ) (d : Desk) (j : Judgement) → next_judgement limits b d ≡ Some j → HoldsGood d.held (with_answer j.answer (judgements limits b n j.desk))
held_by_next limits b n d j e = subst (HoldsGood d.held) (ap (then limits b n d) e) (judgements_append limits b (suc n) d)

accounts_from : (limits : LimitNumbers) (b : Bool) (n : ℕ) (d : Desk) → AccountsForAll d.held d.waiting d.coming (judgements limits b n d)
accounts_from limits b zero d = none_judged d
accounts_from limits b (suc n) d =
    by_next limits b n d (next_judgement limits b d) (λ j e. one_more limits b d j (judgements limits b n j.desk) e (held_by_next limits b n d j e) (accounts_from limits b n j.desk))

-- The law of accounts.
pub judgements_account_for_all : JudgementsAccountForAll
judgements_account_for_all limits held waiting events n = accounts_from limits true n (desk_of held waiting events)
