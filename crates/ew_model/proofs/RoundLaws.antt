-- A round of judgements with the row for the index and without it.
use Rattle.std.proofs.Common.{◌≡◌, ℕ, zero, suc, ◌+◌, Bool, true, false, cond, List, [], ◌∷◌, ◌++◌, find, length, Option, Some, None, refl, sym, ap, ◌∙◌, subst, arith}
use Rattle.std.specs.Bool.{then_some}
use Rattle.std.specs.Option.{option_map_or}
use Rattle.std.proofs.lemmas.Bool.{false≢true}
use Rattle.ew_model.specs.declared.event.Event.{Event}
use Rattle.ew_model.specs.Texts.{text_at}
use Rattle.ew_model.specs.Limits.{LimitNumbers}
use Rattle.ew_model.specs.Verdicts.{Ruling, is_outside, first_row, id_rows, parent_rows, size_rows, range_rows, later_rows}
use Rattle.ew_model.specs.Arrival.{Desk, Judgement, Outcome, is_ready, without_ready, at_the_pool, judgement_of, judge_coming, judge_ready, next_judgement, judgements, with_answer, most_judgements, desk_of, arrive}
use Rattle.ew_model.specs.Verdicts.Ruling.{OutOfRange}
use Rattle.ew_model.specs.Rounds.{is_out_of_range, after_out_of_range, round_touches, rounds_touches, most_touches}
use Rattle.ew_model.specs.Touches.{touches}
use Rattle.ew_model.specs.Cuts.{latest_cut}
use Rattle.ew_model.specs.TouchLaws.{NoneOutOfRange, OneRound}

-- the last row may be left out where it isn't the answer
last_row : (rows : List (Option Ruling)) (b : Bool) (q : Ruling) → is_out_of_range q ≡ true → is_out_of_range (first_row (rows ++ then_some b q ∷ [])) ≡ false → first_row (rows ++ []) ≡ first_row (rows ++ then_some b q ∷ [])
last_row [] true q y h = absurd (false≢true (sym h ∙ y))
last_row [] false q y h = refl
last_row (None ∷ rows) b q y h = last_row rows b q y h
last_row (Some p ∷ rows) b q y h = refl

in_range_at_pool : (limits : LimitNumbers) (waiting : List Event) (r : Ruling) → is_out_of_range (at_the_pool limits waiting r) ≡ false → is_out_of_range r ≡ false
in_range_at_pool limits waiting (OutOfRange len) h = h
in_range_at_pool limits waiting r h = refl

later_same : (limits : LimitNumbers) (held : List Event) (e : Event) → is_out_of_range (first_row (later_rows limits true held e)) ≡ false → first_row (later_rows limits false held e) ≡ first_row (later_rows limits true held e)
unfolding parent_rows size_rows range_rows
later_same limits held e h = last_row (parent_rows held e ++ size_rows limits held) (is_outside (length (text_at held e.parents)) e.op) (OutOfRange (length (text_at held e.parents))) refl h

all_same : (limits : LimitNumbers) (held waiting : List Event) (e : Event) → is_out_of_range (first_row (id_rows held waiting e ++ later_rows limits true held e)) ≡ false → first_row (id_rows held waiting e ++ later_rows limits false held e) ≡ first_row (id_rows held waiting e ++ later_rows limits true held e)
unfolding id_rows parent_rows size_rows range_rows
all_same limits held waiting e h = last_row (id_rows held waiting e ++ (parent_rows held e ++ size_rows limits held)) (is_outside (length (text_at held e.parents)) e.op) (OutOfRange (length (text_at held e.parents))) refl h

abbrev pub InRange : Option Judgement → Type 0
InRange o = (j : Judgement) → o ≡ Some j → is_out_of_range j.answer.ruling ≡ false

coming_same : (limits : LimitNumbers) (d : Desk) (coming : List Event) → InRange (judge_coming limits true d coming) → judge_coming limits false d coming ≡ judge_coming limits true d coming
coming_same limits d [] f = refl
coming_same limits d (e ∷ coming) f =
    ap (λ (r : Ruling). Some (judgement_of limits (record { held = d.held; waiting = d.waiting; coming = coming; is_settling = true }) e r))
    (all_same limits d.held d.waiting e (in_range_at_pool limits d.waiting (first_row (id_rows d.held d.waiting e ++ later_rows limits true d.held e)) (f _ refl)))

ready_same : (limits : LimitNumbers) (d : Desk) (o : Option Event) → InRange (judge_ready limits true d o) → judge_ready limits false d o ≡ judge_ready limits true d o
ready_same limits d None f = coming_same limits d d.coming f
ready_same limits d (Some e) f =
    ap (λ (r : Ruling). Some (judgement_of limits (record { held = d.held; waiting = without_ready d.held d.waiting; coming = d.coming; is_settling = true }) e r))
    (later_same limits d.held e (in_range_at_pool limits (without_ready d.held d.waiting) (first_row (later_rows limits true d.held e)) (f _ refl)))

-- a judgement that isn't OutOfRange is the same without the row for the index
pub next_same : (limits : LimitNumbers) (d : Desk) → InRange (next_judgement limits true d) → next_judgement limits false d ≡ next_judgement limits true d
unfolding next_judgement
next_same limits d f = ready_same limits d (cond d.is_settling (find (is_ready d.held) d.waiting) None) f

abbrev pub then : LimitNumbers → Bool → ℕ → Desk → Option Judgement → Outcome
then limits b n d o = option_map_or (λ j. with_answer j.answer (judgements limits b n j.desk)) o (record { desk = d; answers = [] })

first_in_range : (limits : LimitNumbers) (n : ℕ) (d : Desk) (o : Option Judgement) → NoneOutOfRange (then limits true n d o).answers → InRange o
first_in_range limits n d None h j e = let no : ⊥ = cc in absurd no
first_in_range limits n d (Some i) h j e = let same : i ≡ j = cc in subst (λ (k : Judgement). is_out_of_range k.answer.ruling ≡ false) same h.0

rest_same : (limits : LimitNumbers) (n : ℕ) (d : Desk) (o : Option Judgement) → NoneOutOfRange (then limits true n d o).answers
    → ((j : Judgement) → NoneOutOfRange (judgements limits true n j.desk).answers → judgements limits false n j.desk ≡ judgements limits true n j.desk)
    → then limits false n d o ≡ then limits true n d o
rest_same limits n d None h f = refl
rest_same limits n d (Some j) h f = ap (with_answer j.answer) (f j h.1)

-- A run in which no index is out of range is the same without the row for it.
pub same_run : (limits : LimitNumbers) (n : ℕ) (d : Desk) → NoneOutOfRange (judgements limits true n d).answers → judgements limits false n d ≡ judgements limits true n d
same_run limits zero d h = refl
same_run limits (suc n) d h =
    ap (then limits false n d) (next_same limits d (first_in_range limits n d (next_judgement limits true d) h))
    ∙ rest_same limits n d (next_judgement limits true d) h (λ j k. same_run limits n j.desk k)

no_stop : (limits : LimitNumbers) (n : ℕ) (d : Desk) (o : Option Judgement) → NoneOutOfRange (then limits true n d o).answers
    → ((j : Judgement) → NoneOutOfRange (judgements limits true n j.desk).answers → after_out_of_range limits n j.desk ≡ None)
    → option_map_or (λ j. cond (is_out_of_range j.answer.ruling) (Some j.desk) (after_out_of_range limits n j.desk)) o None ≡ None
no_stop limits n d None h f = refl
no_stop limits n d (Some j) h f = ap (λ b. cond b (Some j.desk) (after_out_of_range limits n j.desk)) h.0 ∙ f j h.1

-- and it has no further round
pub no_round : (limits : LimitNumbers) (n : ℕ) (d : Desk) → NoneOutOfRange (judgements limits true n d).answers → after_out_of_range limits n d ≡ None
no_round limits zero d h = refl
no_round limits (suc n) d h = no_stop limits n d (next_judgement limits true d) h (λ j k. no_round limits n j.desk k)

one_round_at : (limits : LimitNumbers) (n : ℕ) (d : Desk) → after_out_of_range limits (most_judgements d) d ≡ None → rounds_touches limits n d ≡ round_touches limits d
one_round_at limits zero d h = refl
one_round_at limits (suc n) d h = ap (λ (o : Option Desk). round_touches limits d + option_map_or (λ next. rounds_touches limits n next) o 0) h ∙ omega arith

-- The law of one round.
pub one_round : OneRound
unfolding arrive most_touches round_touches
one_round limits held waiting events h =
    let d = desk_of held waiting events in
    let n = most_judgements d in
    one_round_at limits n d (no_round limits n d h)
    ∙ ap (λ (o : Outcome). touches o.desk.held (latest_cut o.desk.held (length held))) (same_run limits n d h)
