-- The first answer OutOfRange of a round, and the number of rounds.
use Rattle.std.proofs.Common.{◌≡◌, ℕ, zero, suc, ◌+◌, ◌<◌, ◌≤◌, Bool, true, false, cond, List, [], ◌∷◌, ◌++◌, find, length, Option, Some, None, option_map, refl, sym, ap, ◌∙◌, subst, arith, append_assoc, append-nil}
use Rattle.std.specs.Bool.{then_some}
use Rattle.std.specs.List.{AllByRecursion}
use Rattle.std.specs.Option.{option_map_or}
use Rattle.std.proofs.lemmas.Bool.{false≢true}
use Rattle.ew_model.specs.declared.id.Id.{Id}
use Rattle.ew_model.specs.declared.event.Event.{Event}
use Rattle.ew_model.specs.Texts.{text_at}
use Rattle.ew_model.specs.Limits.{LimitNumbers}
use Rattle.ew_model.specs.Verdicts.{Ruling, is_outside, first_row, id_rows, parent_rows, size_rows, range_rows, later_rows}
use Rattle.ew_model.specs.Arrival.{Desk, Answer, Judgement, Outcome, is_ready, without_ready, at_the_pool, desk_after, judgement_of, judge_coming, judge_ready, next_judgement, judgements, judged, with_answer, most_judgements, desk_of, arrive}
use Rattle.ew_model.specs.Kept.{IsOrderly}
use Rattle.ew_model.specs.Verdicts.Ruling.{Repeat, Clash, SelfParent, TooManyParents, ParentsUnsorted, Unknown, PoolFull, NotReduced, Skipped, GraphFull, OutOfRange, Good}
use Rattle.ew_model.specs.Rounds.{is_out_of_range, after_out_of_range}
use Rattle.ew_model.specs.TouchLaws.{NoneOutOfRange}
use Rattle.ew_model.specs.RoundLaw.{number_out, IsFirstOut, rounds, RoundsTell}
use Rattle.ew_model.proofs.ArrivalLaws.{next_less, judgements_end}
use Rattle.ew_model.proofs.KeptLaws.{kept_next}
use Rattle.ew_model.proofs.RoundLaws.{InRange, then, next_same, same_run}

-- what is held grows at its end
abbrev Grown : List Event → List Event → Type 0
Grown xs ys = (more : List Event) × (ys ≡ xs ++ more)

grown_none : (xs : List Event) → Grown xs xs
grown_none xs = ([], sym (append-nil xs))

grown_on : (xs ys zs : List Event) → Grown xs ys → Grown ys zs → Grown xs zs
grown_on xs ys zs g h = (g.0 ++ h.0, h.1 ∙ (ap (λ w. w ++ h.0) g.1 ∙ append_assoc xs g.0 h.0))

grown_by : (r : Ruling) (e : Event) (d : Desk) → Grown d.held (desk_after r e d).held
grown_by Good e d = (e ∷ [], refl)
grown_by (Unknown p) e d = grown_none d.held
grown_by Repeat e d = grown_none d.held
grown_by Clash e d = grown_none d.held
grown_by SelfParent e d = grown_none d.held
grown_by TooManyParents e d = grown_none d.held
grown_by ParentsUnsorted e d = grown_none d.held
grown_by PoolFull e d = grown_none d.held
grown_by NotReduced e d = grown_none d.held
grown_by Skipped e d = grown_none d.held
grown_by GraphFull e d = grown_none d.held
grown_by (OutOfRange len) e d = grown_none d.held

grown_coming : (limits : LimitNumbers) (b : Bool) (d : Desk) (coming : List Event) (j : Judgement) → judge_coming limits b d coming ≡ Some j → Grown d.held j.desk.held
grown_coming limits b d [] j e = let no : ⊥ = cc in absurd no
grown_coming limits b d (x ∷ coming) j e =
    let rest : Desk = record { held = d.held; waiting = d.waiting; coming = coming; is_settling = true } in
    let first = first_row (id_rows d.held d.waiting x ++ later_rows limits b d.held x) in
    let same : judgement_of limits rest x first ≡ j = cc in
    subst (λ (i : Judgement). Grown d.held i.desk.held) same (grown_by (at_the_pool limits d.waiting first) x rest)

grown_ready : (limits : LimitNumbers) (b : Bool) (d : Desk) (o : Option Event) (j : Judgement) → judge_ready limits b d o ≡ Some j → Grown d.held j.desk.held
grown_ready limits b d None j e = grown_coming limits b d d.coming j e
grown_ready limits b d (Some x) j e =
    let less = without_ready d.held d.waiting in
    let rest : Desk = record { held = d.held; waiting = less; coming = d.coming; is_settling = true } in
    let first = first_row (later_rows limits b d.held x) in
    let same : judgement_of limits rest x first ≡ j = cc in
    subst (λ (i : Judgement). Grown d.held i.desk.held) same (grown_by (at_the_pool limits less first) x rest)

pub grown_next : (limits : LimitNumbers) (b : Bool) (d : Desk) (j : Judgement) → next_judgement limits b d ≡ Some j → Grown d.held j.desk.held
unfolding next_judgement
grown_next limits b d j e = grown_ready limits b d (cond d.is_settling (find (is_ready d.held) d.waiting) None) j e

grown_step : (limits : LimitNumbers) (b : Bool) (n : ℕ) (d : Desk) (o : Option Judgement) → ((j : Judgement) → o ≡ Some j → Grown d.held (judgements limits b n j.desk).desk.held) → Grown d.held (then limits b n d o).desk.held
grown_step limits b n d None f = grown_none d.held
grown_step limits b n d (Some j) f = f j refl

pub grown_all : (limits : LimitNumbers) (b : Bool) (n : ℕ) (d : Desk) → Grown d.held (judgements limits b n d).desk.held
grown_all limits b zero d = grown_none d.held
grown_all limits b (suc n) d =
    grown_step limits b n d (next_judgement limits b d) (λ j e. grown_on d.held j.desk.held (judgements limits b n j.desk).desk.held (grown_next limits b d j e) (grown_all limits b n j.desk))

-- No other row says OutOfRange.
abbrev pub NotOut : Option Ruling → Type 0
NotOut row = (r : Ruling) → row ≡ Some r → is_out_of_range r ≡ false

pub not_out : (b : Bool) (q : Ruling) → is_out_of_range q ≡ false → NotOut (then_some b q)
not_out true q h r e = let same : q ≡ r = cc in ap is_out_of_range (sym same) ∙ h
not_out false q h r e = let no : ⊥ = cc in absurd no

pub unknown_not_out : (o : Option Id) → NotOut (option_map Unknown o)
unknown_not_out None r e = let no : ⊥ = cc in absurd no
unknown_not_out (Some p) r e = let same : Unknown p ≡ r = cc in ap is_out_of_range (sym same)

-- where the last row alone says it, it holds, and without it the answer is Good
out_row : (rows : List (Option Ruling)) (b : Bool) (q : Ruling) → AllByRecursion NotOut rows → is_out_of_range (first_row (rows ++ then_some b q ∷ [])) ≡ true → (b ≡ true) × (first_row (rows ++ []) ≡ Good)
out_row [] true q n h = (refl, refl)
out_row [] false q n h = absurd (false≢true h)
out_row (None ∷ rows) b q n h = out_row rows b q n.1 h
out_row (Some p ∷ rows) b q n h = absurd (false≢true (sym (n.0 p refl) ∙ h))

out_later : (limits : LimitNumbers) (held : List Event) (e : Event) → is_out_of_range (first_row (later_rows limits true held e)) ≡ true → (is_outside (length (text_at held e.parents)) e.op ≡ true) × (first_row (later_rows limits false held e) ≡ Good)
unfolding parent_rows size_rows range_rows
out_later limits held e h =
    out_row (parent_rows held e ++ size_rows limits held) (is_outside (length (text_at held e.parents)) e.op) (OutOfRange (length (text_at held e.parents)))
    (not_out _ SelfParent refl, (not_out _ TooManyParents refl, (not_out _ ParentsUnsorted refl, (unknown_not_out _, (not_out _ NotReduced refl, (not_out _ Skipped refl, (not_out _ GraphFull refl, tt))))))) h

out_all : (limits : LimitNumbers) (held waiting : List Event) (e : Event) → is_out_of_range (first_row (id_rows held waiting e ++ later_rows limits true held e)) ≡ true → (is_outside (length (text_at held e.parents)) e.op ≡ true) × (first_row (id_rows held waiting e ++ later_rows limits false held e) ≡ Good)
unfolding id_rows parent_rows size_rows range_rows
out_all limits held waiting e h =
    out_row (id_rows held waiting e ++ (parent_rows held e ++ size_rows limits held)) (is_outside (length (text_at held e.parents)) e.op) (OutOfRange (length (text_at held e.parents)))
    (not_out _ Repeat refl, (not_out _ Clash refl, (not_out _ SelfParent refl, (not_out _ TooManyParents refl, (not_out _ ParentsUnsorted refl, (unknown_not_out _, (not_out _ NotReduced refl, (not_out _ Skipped refl, (not_out _ GraphFull refl, tt))))))))) h

out_at_pool : (limits : LimitNumbers) (waiting : List Event) (r : Ruling) → is_out_of_range (at_the_pool limits waiting r) ≡ true → is_out_of_range r ≡ true
out_at_pool limits waiting (Unknown p) h = at (Rattle.std.proofs.Common.nat_le limits.waiting (length waiting)) h
  where
    at : (b : Bool) → is_out_of_range (cond b PoolFull (Unknown p)) ≡ true → false ≡ true
    at true h = h
    at false h = h
out_at_pool limits waiting Good h = h
out_at_pool limits waiting Repeat h = h
out_at_pool limits waiting Clash h = h
out_at_pool limits waiting SelfParent h = h
out_at_pool limits waiting TooManyParents h = h
out_at_pool limits waiting ParentsUnsorted h = h
out_at_pool limits waiting PoolFull h = h
out_at_pool limits waiting NotReduced h = h
out_at_pool limits waiting Skipped h = h
out_at_pool limits waiting GraphFull h = h
out_at_pool limits waiting (OutOfRange len) h = h

out_holds : (r : Ruling) (e : Event) (d : Desk) → is_out_of_range r ≡ true → (desk_after r e d).held ≡ d.held
out_holds (OutOfRange len) e d h = refl
out_holds Good e d h = absurd (false≢true h)
out_holds (Unknown p) e d h = refl
out_holds Repeat e d h = refl
out_holds Clash e d h = refl
out_holds SelfParent e d h = refl
out_holds TooManyParents e d h = refl
out_holds ParentsUnsorted e d h = refl
out_holds PoolFull e d h = refl
out_holds NotReduced e d h = refl
out_holds Skipped e d h = refl
out_holds GraphFull e d h = refl

-- the judgement OutOfRange, and what is judged in its place without the row
record IsOut (limits : LimitNumbers) (d : Desk) (j : Judgement) (o : Option Judgement) : Type 0 where
  event : Event
  instead : Judgement
  held : j.desk.held ≡ d.held
  outside : is_outside (length (text_at d.held event.parents)) event.op ≡ true
  judged_so : o ≡ Some instead
  appended : instead.desk.held ≡ d.held ++ event ∷ []

out_coming : (limits : LimitNumbers) (d : Desk) (coming : List Event) (j : Judgement) → judge_coming limits true d coming ≡ Some j → is_out_of_range j.answer.ruling ≡ true → IsOut limits d j (judge_coming limits false d coming)
out_coming limits d [] j e h = let no : ⊥ = cc in absurd no
out_coming limits d (x ∷ coming) j e h =
    let rest : Desk = record { held = d.held; waiting = d.waiting; coming = coming; is_settling = true } in
    let first = first_row (id_rows d.held d.waiting x ++ later_rows limits true d.held x) in
    let other = first_row (id_rows d.held d.waiting x ++ later_rows limits false d.held x) in
    let same : judgement_of limits rest x first ≡ j = cc in
    subst (λ (i : Judgement). is_out_of_range i.answer.ruling ≡ true → IsOut limits d i (Some (judgement_of limits rest x other))) same
    (λ k. let parts = out_all limits d.held d.waiting x (out_at_pool limits d.waiting first k) in record {
      event = x;
      instead = judgement_of limits rest x Good;
      held = out_holds (at_the_pool limits d.waiting first) x rest k;
      outside = parts.0;
      judged_so = ap (λ (r : Ruling). Some (judgement_of limits rest x r)) parts.1;
      appended = refl;
    })
    h

out_ready : (limits : LimitNumbers) (d : Desk) (o : Option Event) (j : Judgement) → judge_ready limits true d o ≡ Some j → is_out_of_range j.answer.ruling ≡ true → IsOut limits d j (judge_ready limits false d o)
out_ready limits d None j e h = out_coming limits d d.coming j e h
out_ready limits d (Some x) j e h =
    let less = without_ready d.held d.waiting in
    let rest : Desk = record { held = d.held; waiting = less; coming = d.coming; is_settling = true } in
    let first = first_row (later_rows limits true d.held x) in
    let other = first_row (later_rows limits false d.held x) in
    let same : judgement_of limits rest x first ≡ j = cc in
    subst (λ (i : Judgement). is_out_of_range i.answer.ruling ≡ true → IsOut limits d i (Some (judgement_of limits rest x other))) same
    (λ k. let parts = out_later limits d.held x (out_at_pool limits less first k) in record {
      event = x;
      instead = judgement_of limits rest x Good;
      held = out_holds (at_the_pool limits less first) x rest k;
      outside = parts.0;
      judged_so = ap (λ (r : Ruling). Some (judgement_of limits rest x r)) parts.1;
      appended = refl;
    })
    h

out_next : (limits : LimitNumbers) (d : Desk) (j : Judgement) → next_judgement limits true d ≡ Some j → is_out_of_range j.answer.ruling ≡ true → IsOut limits d j (next_judgement limits false d)
unfolding next_judgement
out_next limits d j e h = out_ready limits d (cond d.is_settling (find (is_ready d.held) d.waiting) None) j e h

-- More judgements than there can be change nothing.
enough_at : (limits : LimitNumbers) (b : Bool) (n m : ℕ) (d : Desk) (o : Option Judgement) → ((j : Judgement) → o ≡ Some j → judgements limits b n j.desk ≡ judgements limits b m j.desk) → then limits b n d o ≡ then limits b m d o
enough_at limits b n m d None f = refl
enough_at limits b n m d (Some j) f = ap (with_answer j.answer) (f j refl)

pub enough : (limits : LimitNumbers) (b : Bool) (n m : ℕ) (d : Desk) → most_judgements d ≤ n → most_judgements d ≤ m → judgements limits b n d ≡ judgements limits b m d
enough limits b zero zero d h k = refl
enough limits b zero (suc m) d h k = sym (ap (then limits b m d) (judgements_end limits b zero d h))
enough limits b (suc n) zero d h k = ap (then limits b n d) (judgements_end limits b zero d k)
enough limits b (suc n) (suc m) d h k =
    enough_at limits b n m d (next_judgement limits b d) (λ j e. enough limits b n m j.desk (omega (arith, h, next_less limits b d j e)) (omega (arith, k, next_less limits b d j e)))

-- what is known of the first answer OutOfRange among n judgements, of which k are left behind it
record IsFound (limits : LimitNumbers) (n : ℕ) (d next : Desk) : Type 0 where
  event : Event
  added : List Event
  later : List Event
  left : ℕ
  before : next.held ≡ d.held ++ added
  reached : (judgements limits false n d).desk.held ≡ next.held ++ event ∷ later
  outside : is_outside (length (text_at next.held event.parents)) event.op ≡ true
  kept : IsOrderly next.held next.waiting
  fewer : most_judgements next < most_judgements d
  within : most_judgements next ≤ left
  rest : (judgements limits true n d).desk ≡ (judgements limits true left next).desk
  number : number_out (judgements limits true n d).answers ≡ suc (number_out (judgements limits true left next).answers)

found_here : (limits : LimitNumbers) (n : ℕ) (d : Desk) (j : Judgement) → IsOrderly d.held d.waiting → most_judgements d ≤ suc n → next_judgement limits true d ≡ Some j → is_out_of_range j.answer.ruling ≡ true → IsFound limits (suc n) d j.desk
found_here limits n d j kept h e out =
    let o = out_next limits d j e out in
    let more = grown_all limits false n o.instead.desk in
    let steps : judgements limits false (suc n) d ≡ then limits false n d (Some o.instead) = ap (then limits false n d) o.judged_so in
    let steps_true : judgements limits true (suc n) d ≡ then limits true n d (Some j) = ap (then limits true n d) e in
    record {
      event = o.event;
      added = [];
      later = more.0;
      left = n;
      before = o.held ∙ sym (append-nil d.held);
      reached = ap (λ (w : Outcome). w.desk.held) steps ∙ (more.1 ∙ (ap (λ (w : List Event). w ++ more.0) (o.appended ∙ ap (λ (w : List Event). w ++ o.event ∷ []) (sym o.held)) ∙ append_assoc j.desk.held (o.event ∷ []) more.0));
      outside = ap (λ (w : List Event). is_outside (length (text_at w o.event.parents)) o.event.op) o.held ∙ o.outside;
      kept = kept_next limits d j kept e;
      fewer = next_less limits true d j e;
      within = omega (arith, h, next_less limits true d j e);
      rest = ap (λ (w : Outcome). w.desk) steps_true;
      number = ap (λ (w : Outcome). number_out w.answers) steps_true ∙ ap (λ b. cond b (suc (number_out (judgements limits true n j.desk).answers)) (number_out (judgements limits true n j.desk).answers)) out;
    }

found_later : (limits : LimitNumbers) (n : ℕ) (d : Desk) (j : Judgement) (next : Desk) → next_judgement limits true d ≡ Some j → is_out_of_range j.answer.ruling ≡ false → IsFound limits n j.desk next → IsFound limits (suc n) d next
found_later limits n d j next e still f =
    let in_range : InRange (next_judgement limits true d) = λ i q. let same : j ≡ i = cc in subst (λ (k : Judgement). is_out_of_range k.answer.ruling ≡ false) same still in
    let steps : judgements limits false (suc n) d ≡ then limits false n d (Some j) = ap (then limits false n d) (next_same limits d in_range ∙ e) in
    let steps_true : judgements limits true (suc n) d ≡ then limits true n d (Some j) = ap (then limits true n d) e in
    let more = grown_on d.held j.desk.held next.held (grown_next limits true d j e) (f.added, f.before) in
    record {
      event = f.event;
      added = more.0;
      later = f.later;
      left = f.left;
      before = more.1;
      reached = ap (λ (w : Outcome). w.desk.held) steps ∙ f.reached;
      outside = f.outside;
      kept = f.kept;
      fewer = omega (arith, f.fewer, next_less limits true d j e);
      within = f.within;
      rest = ap (λ (w : Outcome). w.desk) steps_true ∙ f.rest;
      number = ap (λ (w : Outcome). number_out w.answers) steps_true ∙ (ap (λ b. cond b (suc (number_out (judgements limits true n j.desk).answers)) (number_out (judgements limits true n j.desk).answers)) still ∙ f.number);
    }

found_at : (limits : LimitNumbers) (n : ℕ) (d next : Desk) (o : Option Judgement) → IsOrderly d.held d.waiting → most_judgements d ≤ suc n → next_judgement limits true d ≡ o
    → option_map_or (λ j. cond (is_out_of_range j.answer.ruling) (Some j.desk) (after_out_of_range limits n j.desk)) o None ≡ Some next
    → ((j : Judgement) → o ≡ Some j → after_out_of_range limits n j.desk ≡ Some next → IsFound limits n j.desk next) → IsFound limits (suc n) d next
found_at limits n d next None kept h e q f = let no : ⊥ = cc in absurd no
found_at limits n d next (Some j) kept h e q f = at (is_out_of_range j.answer.ruling) refl q
  where
    at : (b : Bool) → is_out_of_range j.answer.ruling ≡ b → cond b (Some j.desk) (after_out_of_range limits n j.desk) ≡ Some next → IsFound limits (suc n) d next
    at true r s = let same : j.desk ≡ next = cc in subst (IsFound limits (suc n) d) same (found_here limits n d j kept h e r)
    at false r s = found_later limits n d j next e r (f j refl s)

found_first : (limits : LimitNumbers) (n : ℕ) (d next : Desk) → IsOrderly d.held d.waiting → most_judgements d ≤ n → after_out_of_range limits n d ≡ Some next → IsFound limits n d next
found_first limits zero d next kept h e = let no : ⊥ = cc in absurd no
found_first limits (suc n) d next kept h e =
    found_at limits n d next (next_judgement limits true d) kept h refl e (λ j q r. found_first limits n j.desk next (kept_next limits d j kept q) (omega (arith, h, next_less limits true d j q)) r)

pub first_out : (limits : LimitNumbers) (d next : Desk) → IsOrderly d.held d.waiting → after_out_of_range limits (most_judgements d) d ≡ Some next → IsFirstOut limits d next
first_out limits d next kept e =
    let f = found_first limits (most_judgements d) d next kept (omega arith) e in
    let same = enough limits true f.left (most_judgements next) next f.within (omega arith) in
    record {
      event = f.event;
      added = f.added;
      later = f.later;
      before = f.before;
      reached = f.reached;
      outside = f.outside;
      kept = f.kept;
      rest = f.rest ∙ ap (λ (w : Outcome). w.desk) same;
      number = f.number ∙ ap (λ (w : Outcome). suc (number_out w.answers)) same;
    }

-- where there is none
none_step : (limits : LimitNumbers) (n : ℕ) (d : Desk) (o : Option Judgement) → option_map_or (λ j. cond (is_out_of_range j.answer.ruling) (Some j.desk) (after_out_of_range limits n j.desk)) o None ≡ None
    → ((j : Judgement) → after_out_of_range limits n j.desk ≡ None → NoneOutOfRange (judgements limits true n j.desk).answers) → NoneOutOfRange (then limits true n d o).answers
none_step limits n d None e f = tt
none_step limits n d (Some j) e f = at (is_out_of_range j.answer.ruling) refl e
  where
    at : (b : Bool) → is_out_of_range j.answer.ruling ≡ b → cond b (Some j.desk) (after_out_of_range limits n j.desk) ≡ None → NoneOutOfRange (then limits true n d (Some j)).answers
    at true r s = let no : ⊥ = cc in absurd no
    at false r s = (r, f j s)

none_out : (limits : LimitNumbers) (n : ℕ) (d : Desk) → after_out_of_range limits n d ≡ None → NoneOutOfRange (judgements limits true n d).answers
none_out limits zero d e = tt
none_out limits (suc n) d e = none_step limits n d (next_judgement limits true d) e (λ j q. none_out limits n j.desk q)

pub last_round : (limits : LimitNumbers) (d : Desk) → after_out_of_range limits (most_judgements d) d ≡ None → judged limits false d ≡ judged limits true d
last_round limits d e = same_run limits (most_judgements d) d (none_out limits (most_judgements d) d e)

none_counted : (limits : LimitNumbers) (n : ℕ) (d : Desk) → NoneOutOfRange (judgements limits true n d).answers → number_out (judgements limits true n d).answers ≡ 0
none_counted limits n d h = counted (judgements limits true n d).answers h
  where
    counted : (answers : List Answer) → NoneOutOfRange answers → number_out answers ≡ 0
    counted [] h = refl
    counted (a ∷ answers) h = ap (λ b. cond b (suc (number_out answers)) (number_out answers)) h.0 ∙ counted answers h.1

rounds_by : (limits : LimitNumbers) (n : ℕ) (d : Desk) (o : Option Desk) → IsOrderly d.held d.waiting → most_judgements d ≤ suc n → after_out_of_range limits (most_judgements d) d ≡ o
    → ((next : Desk) → IsOrderly next.held next.waiting → most_judgements next ≤ n → rounds limits n next ≡ 1 + number_out (judged limits true next).answers)
    → 1 + option_map_or (λ next. rounds limits n next) o 0 ≡ 1 + number_out (judged limits true d).answers
rounds_by limits n d None kept h e f = ap (λ m. 1 + m) (sym (none_counted limits (most_judgements d) d (none_out limits (most_judgements d) d e)))
rounds_by limits n d (Some next) kept h e f =
    let found = found_first limits (most_judgements d) d next kept (omega arith) e in
    let out = first_out limits d next kept e in
    let more = f next found.kept (omega (arith, h, found.fewer)) in
    omega (arith, more, out.number)

-- one round more than there are answers OutOfRange
pub rounds_counted : (limits : LimitNumbers) (n : ℕ) (d : Desk) → IsOrderly d.held d.waiting → most_judgements d ≤ n → rounds limits n d ≡ 1 + number_out (judged limits true d).answers
rounds_counted limits zero d kept h = ap (λ (o : Outcome). 1 + number_out o.answers) (enough limits true zero (most_judgements d) d h (omega arith))
rounds_counted limits (suc n) d kept h =
    rounds_by limits n d (after_out_of_range limits (most_judgements d) d) kept h refl (λ next k q. rounds_counted limits n next k q)

-- The law of rounds.
pub rounds_tell : RoundsTell
unfolding arrive
rounds_tell = record {
  first = first_out;
  last = last_round;
  number = λ limits held waiting events kept. rounds_counted limits (most_judgements (desk_of held waiting events)) (desk_of held waiting events) kept (omega arith);
}
