-- The earliest waiting event that is ready, and the others.
use Rattle.std.proofs.Common.{◌≡◌, ℕ, Bool, true, false, cond, List, [], ◌∷◌, find, length, Option, Some, None, option_map, nat_le, refl, sym, ap, ◌∙◌, ◌==◌}
use Rattle.std.specs.Bool.{then_some}
use Rattle.std.specs.List.{AllByRecursion}
use Rattle.std.proofs.lemmas.Bool.{false≢true, or_from}
use Rattle.ew_model.specs.declared.id.Id.{Id}
use Rattle.ew_model.specs.declared.event.Event.{Event}
use Rattle.ew_model.specs.Ancestors.{is_held}
use Rattle.ew_model.specs.Arrival.{is_ready, without_ready}
use Rattle.ew_model.specs.Ids.{id_eq}
use Rattle.ew_model.specs.Kept.{AreFresh, AreApart}
use Rattle.ew_model.specs.Limits.{LimitNumbers}
use Rattle.ew_model.specs.Verdicts.{Ruling, first_row, parent_rows, later_rows, verdict, is_verdict_good}
use Rattle.ew_model.specs.Verdicts.Ruling.{Repeat, Clash, SelfParent, TooManyParents, ParentsUnsorted, Unknown, PoolFull, NotReduced, Skipped, GraphFull, OutOfRange, Good}
use Rattle.replica.specs.declared.answer.Answer.{Answer}
use Rattle.replica.specs.declared.answer.Answer.TheVariants as answer
use Rattle.replica.specs.Desks.{answer_by, known_at, pooled, repeats_at}
use Rattle.history_definitions.specs.Tallies.{is_repeat}
use Rattle.replica.proofs.RulingRows.{by_parents, by_size, size_is, later_blind, id_new, none_there, verdict_is}
use Rattle.waiting_pool.proofs.Ready.{held_found}
use Rattle.ew_model.proofs.IndexLaw.{unequal_back}

-- the others are as fresh
fresh_at : (b : Bool) (held : List Event) (w : Event) (events less : List Event) → AreFresh held (w ∷ events) → AreFresh held less → AreFresh held (cond b events (w ∷ less))
fresh_at true held w events less f g = f.1
fresh_at false held w events less f g = (f.0, g)

pub less_fresh : (held events : List Event) → AreFresh held events → AreFresh held (without_ready held events)
less_fresh held [] f = tt
less_fresh held (w ∷ events) f = fresh_at (is_ready held w) held w events (without_ready held events) f (less_fresh held events f.1)

-- it isn't held
new_at : (b : Bool) (held : List Event) (w e : Event) (found : Option Event) → cond b (Some w) found ≡ Some e → is_held held w.id ≡ false → (found ≡ Some e → is_held held e.id ≡ false) → is_held held e.id ≡ false
new_at true held w e found q h more = let same : w ≡ e = cc in ap (λ (z : Event). is_held held z.id) (sym same) ∙ h
new_at false held w e found q h more = more q

pub ready_new : (held events : List Event) (e : Event) → AreFresh held events → find (is_ready held) events ≡ Some e → is_held held e.id ≡ false
ready_new held [] e fresh f = let no : ⊥ = cc in absurd no
ready_new held (w ∷ events) e fresh f = new_at (is_ready held w) held w e (find (is_ready held) events) f fresh.0 (λ q. ready_new held events e fresh.1 q)

-- and it waits no longer
gone_at : (b : Bool) (w e : Event) (events less : List Event) (found : Option Event) → cond b (Some w) found ≡ Some e → is_held events w.id ≡ false → (found ≡ Some e → id_eq w.id e.id ≡ false) → (found ≡ Some e → is_held less e.id ≡ false)
    → is_held (cond b events (w ∷ less)) e.id ≡ false
gone_at true w e events less found q new other more = let same : w ≡ e = cc in ap (λ (z : Event). is_held events z.id) (sym same) ∙ new
gone_at false w e events less found q new other more = or_from (id_eq e.id w.id) (is_held less e.id) (unequal_back w.id e.id (other q)) (more q)

pub ready_gone : (held events : List Event) (e : Event) → AreApart events → find (is_ready held) events ≡ Some e → is_held (without_ready held events) e.id ≡ false
ready_gone held [] e a f = let no : ⊥ = cc in absurd no
ready_gone held (w ∷ events) e a f =
    gone_at (is_ready held w) w e events (without_ready held events) (find (is_ready held) events) f a.0 (λ q. held_found held events e w.id q a.0) (λ q. ready_gone held events e a.1 q)

-- so the rows by the id don't hold
pub ready_verdict : (limits : LimitNumbers) (b : Bool) (held events : List Event) (e : Event) → AreFresh held events → AreApart events → find (is_ready held) events ≡ Some e
    → verdict limits b held (without_ready held events) e ≡ first_row (later_rows limits b held e)
ready_verdict limits b held events e fresh apart f =
    let less = without_ready held events in
    verdict_is limits b held less e
    ∙ ap (λ (r : Ruling). cond (is_verdict_good r) (first_row (later_rows limits b held e)) r) (id_new held less e (none_there held less e.id (ready_new held events e fresh f) (ready_gone held events e apart f)))

-- The later rows don't say Repeat.
abbrev NotRepeat : Option Ruling → Type 0
NotRepeat row = (r : Ruling) → row ≡ Some r → is_repeat r ≡ false

not_repeat : (b : Bool) (q : Ruling) → is_repeat q ≡ false → NotRepeat (then_some b q)
not_repeat true q h r e = let same : q ≡ r = cc in ap is_repeat (sym same) ∙ h
not_repeat false q h r e = let no : ⊥ = cc in absurd no

unknown_not_repeat : (o : Option Id) → NotRepeat (option_map Unknown o)
unknown_not_repeat None r e = let no : ⊥ = cc in absurd no
unknown_not_repeat (Some p) r e = let same : Unknown p ≡ r = cc in ap is_repeat (sym same)

rows_not_repeat : (rows : List (Option Ruling)) → AllByRecursion NotRepeat rows → is_repeat (first_row rows) ≡ false
rows_not_repeat [] h = refl
rows_not_repeat (None ∷ rows) h = rows_not_repeat rows h.1
rows_not_repeat (Some r ∷ rows) h = h.0 r refl

parents_not_repeat : (held : List Event) (e : Event) → is_repeat (by_parents held e) ≡ false
unfolding parent_rows
parents_not_repeat held e =
    rows_not_repeat (parent_rows held e)
    (not_repeat _ SelfParent refl, (not_repeat _ TooManyParents refl, (not_repeat _ ParentsUnsorted refl, (unknown_not_repeat _, (not_repeat _ NotReduced refl, (not_repeat _ Skipped refl, tt))))))

size_not_repeat : (b : Bool) → is_repeat (cond b GraphFull Good) ≡ false
size_not_repeat true = refl
size_not_repeat false = refl

neither_repeat : (b : Bool) (q r : Ruling) → is_repeat q ≡ false → is_repeat r ≡ false → is_repeat (cond b r q) ≡ false
neither_repeat true q r h k = k
neither_repeat false q r h k = h

later_not_repeat : (limits : LimitNumbers) (held : List Event) (e : Event) → is_repeat (first_row (later_rows limits false held e)) ≡ false
later_not_repeat limits held e =
    ap is_repeat (later_blind limits held e)
    ∙ neither_repeat (is_verdict_good (by_parents held e)) (by_parents held e) (by_size limits held) (parents_not_repeat held e) (ap is_repeat (size_is limits held) ∙ size_not_repeat (nat_le limits.events (length held)))

pub ready_not_repeat : (limits : LimitNumbers) (held events : List Event) (e : Event) → AreFresh held events → AreApart events → find (is_ready held) events ≡ Some e
    → is_repeat (verdict limits false held (without_ready held events) e) ≡ false
ready_not_repeat limits held events e fresh apart f = ap is_repeat (ready_verdict limits false held events e fresh apart f) ∙ later_not_repeat limits held e

repeats_by : (r : Ruling) → is_repeat r ≡ false → repeats_at (answer_by r) ≡ 0
repeats_by Repeat h = absurd (false≢true (sym h))
repeats_by Good h = refl
repeats_by Clash h = refl
repeats_by SelfParent h = refl
repeats_by TooManyParents h = refl
repeats_by ParentsUnsorted h = refl
repeats_by (Unknown p) h = refl
repeats_by PoolFull h = refl
repeats_by NotReduced h = refl
repeats_by Skipped h = refl
repeats_by GraphFull h = refl
repeats_by (OutOfRange len) h = refl

known_repeats : (b : Bool) (len : ℕ) (full : Bool) → repeats_at (pooled full (cond b (answer_by (OutOfRange len)) answer.Held)) ≡ 0
known_repeats true len full = refl
known_repeats false len full = refl

repeats_same : (out : Option (ℕ × ℕ)) (n : ℕ) (full : Bool) (a : Answer) → repeats_at (pooled full (known_at out n a)) ≡ repeats_at a
repeats_same None n full answer.Held = refl
repeats_same (Some o) n full answer.Held = known_repeats (n == o.0) o.1 full
repeats_same None n true answer.Waits = refl
repeats_same None n false answer.Waits = refl
repeats_same (Some o) n true answer.Waits = refl
repeats_same (Some o) n false answer.Waits = refl
repeats_same None n full answer.Repeat = refl
repeats_same (Some o) n full answer.Repeat = refl
repeats_same None n full (answer.Refused reason) = refl
repeats_same (Some o) n full (answer.Refused reason) = refl

-- it counts as no repeat
pub no_repeats : (out : Option (ℕ × ℕ)) (n : ℕ) (full : Bool) (r : Ruling) → is_repeat r ≡ false → repeats_at (pooled full (known_at out n (answer_by r))) ≡ 0
no_repeats out n full r h = repeats_same out n full (answer_by r) ∙ repeats_by r h
