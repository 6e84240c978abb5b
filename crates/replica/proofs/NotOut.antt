-- Without a look at the index no answer is OutOfRange.
use Rattle.std.proofs.Common.{◌≡◌, nat_le, Bool, true, false, cond, List, [], ◌∷◌, find, length, Option, Some, None, refl, sym, ap, ◌∙◌}
use Rattle.std.specs.List.{AllByRecursion}
use Rattle.ew_model.specs.declared.event.Event.{Event}
use Rattle.ew_model.specs.Arrival.{Desk, Judgement, is_ready, without_ready, at_the_pool, judgement_of, judge_coming, judge_ready, next_judgement}
use Rattle.ew_model.specs.Limits.{LimitNumbers}
use Rattle.ew_model.specs.Rounds.{is_out_of_range}
use Rattle.ew_model.specs.Verdicts.{Ruling, first_row, id_rows, parent_rows, later_rows, verdict, is_verdict_good}
use Rattle.ew_model.specs.Verdicts.Ruling.{Repeat, Clash, SelfParent, TooManyParents, ParentsUnsorted, Unknown, PoolFull, NotReduced, Skipped, GraphFull, OutOfRange, Good}
use Rattle.replica.proofs.RulingRows.{by_id, by_parents, by_size, size_is, later_blind, verdict_is}
use Rattle.ew_model.proofs.RoundSteps.{not_out, unknown_not_out, NotOut}

rows_not_out : (rows : List (Option Ruling)) → AllByRecursion NotOut rows → is_out_of_range (first_row rows) ≡ false
rows_not_out [] h = refl
rows_not_out (None ∷ rows) h = rows_not_out rows h.1
rows_not_out (Some r ∷ rows) h = h.0 r refl

ids_not_out : (held waiting : List Event) (e : Event) → is_out_of_range (by_id held waiting e) ≡ false
unfolding id_rows
ids_not_out held waiting e = rows_not_out (id_rows held waiting e) (not_out _ Repeat refl, (not_out _ Clash refl, tt))

parents_not_out : (held : List Event) (e : Event) → is_out_of_range (by_parents held e) ≡ false
unfolding parent_rows
parents_not_out held e =
    rows_not_out (parent_rows held e)
    (not_out _ SelfParent refl, (not_out _ TooManyParents refl, (not_out _ ParentsUnsorted refl, (unknown_not_out _, (not_out _ NotReduced refl, (not_out _ Skipped refl, tt))))))

size_not_out : (b : Bool) → is_out_of_range (cond b GraphFull Good) ≡ false
size_not_out true = refl
size_not_out false = refl

neither_out : (b : Bool) (q r : Ruling) → is_out_of_range q ≡ false → is_out_of_range r ≡ false → is_out_of_range (cond b r q) ≡ false
neither_out true q r h k = k
neither_out false q r h k = h

later_not_out : (limits : LimitNumbers) (held : List Event) (e : Event) → is_out_of_range (first_row (later_rows limits false held e)) ≡ false
later_not_out limits held e =
    ap is_out_of_range (later_blind limits held e)
    ∙ neither_out (is_verdict_good (by_parents held e)) (by_parents held e) (by_size limits held) (parents_not_out held e) (ap is_out_of_range (size_is limits held) ∙ size_not_out (nat_le limits.events (length held)))

verdict_not_out : (limits : LimitNumbers) (held waiting : List Event) (e : Event) → is_out_of_range (verdict limits false held waiting e) ≡ false
verdict_not_out limits held waiting e =
    ap is_out_of_range (verdict_is limits false held waiting e)
    ∙ neither_out (is_verdict_good (by_id held waiting e)) (by_id held waiting e) (first_row (later_rows limits false held e)) (ids_not_out held waiting e) (later_not_out limits held e)

pool_not_out : (limits : LimitNumbers) (waiting : List Event) (r : Ruling) → is_out_of_range r ≡ false → is_out_of_range (at_the_pool limits waiting r) ≡ false
pool_not_out limits waiting (Unknown p) h = at (nat_le limits.waiting (length waiting))
  where
    at : (b : Bool) → is_out_of_range (cond b PoolFull (Unknown p)) ≡ false
    at true = refl
    at false = refl
pool_not_out limits waiting Good h = h
pool_not_out limits waiting Repeat h = h
pool_not_out limits waiting Clash h = h
pool_not_out limits waiting SelfParent h = h
pool_not_out limits waiting TooManyParents h = h
pool_not_out limits waiting ParentsUnsorted h = h
pool_not_out limits waiting PoolFull h = h
pool_not_out limits waiting NotReduced h = h
pool_not_out limits waiting Skipped h = h
pool_not_out limits waiting GraphFull h = h
pool_not_out limits waiting (OutOfRange len) h = h

coming_in_range : (limits : LimitNumbers) (d : Desk) (coming : List Event) (j : Judgement) → judge_coming limits false d coming ≡ Some j → is_out_of_range j.answer.ruling ≡ false
coming_in_range limits d [] j e = let no : ⊥ = cc in absurd no
coming_in_range limits d (x ∷ coming) j e =
    let same : judgement_of limits (record { held = d.held; waiting = d.waiting; coming = coming; is_settling = true }) x (verdict limits false d.held d.waiting x) ≡ j = cc in
    ap (λ (k : Judgement). is_out_of_range k.answer.ruling) (sym same) ∙ pool_not_out limits d.waiting (verdict limits false d.held d.waiting x) (verdict_not_out limits d.held d.waiting x)

ready_in_range : (limits : LimitNumbers) (d : Desk) (o : Option Event) (j : Judgement) → judge_ready limits false d o ≡ Some j → is_out_of_range j.answer.ruling ≡ false
ready_in_range limits d None j e = coming_in_range limits d d.coming j e
ready_in_range limits d (Some x) j e =
    let less = without_ready d.held d.waiting in
    let r = first_row (later_rows limits false d.held x) in
    let same : judgement_of limits (record { held = d.held; waiting = less; coming = d.coming; is_settling = true }) x r ≡ j = cc in
    ap (λ (k : Judgement). is_out_of_range k.answer.ruling) (sym same) ∙ pool_not_out limits less r (later_not_out limits d.held x)

pub blind_in_range : (limits : LimitNumbers) (d : Desk) (j : Judgement) → next_judgement limits false d ≡ Some j → is_out_of_range j.answer.ruling ≡ false
unfolding next_judgement
blind_in_range limits d j e = ready_in_range limits d (cond d.is_settling (find (is_ready d.held) d.waiting) None) j e
