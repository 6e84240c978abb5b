-- What the rows say in parts: by the id, by the parents, by the number of events held, and by the index.
use Rattle.std.proofs.Common.{◌≡◌, nat_le, Bool, true, false, cond, List, [], ◌∷◌, ◌++◌, length, Option, Some, None, option_map, refl, sym, ap, ◌∙◌, append-nil}
use Rattle.std.specs.Bool.{then_some}
use Rattle.std.specs.List.{list_any, AllByRecursion}
use Rattle.std.proofs.lemmas.Bool.{false≢true, or_parts, or_from}
use Rattle.ew_model.specs.declared.id.Id.{Id}
use Rattle.ew_model.specs.declared.event.Event.{Event}
use Rattle.ew_model.specs.Ancestors.{is_held}
use Rattle.ew_model.specs.Events.{event_eq}
use Rattle.ew_model.specs.Limits.{LimitNumbers}
use Rattle.ew_model.specs.Verdicts.{Ruling, first_row, id_rows, parent_rows, size_rows, range_rows, later_rows, verdict, graph_verdict, next_verdict, is_verdict_good}
use Rattle.ew_model.specs.Verdicts.Ruling.{Repeat, Clash, SelfParent, TooManyParents, ParentsUnsorted, Unknown, NotReduced, Skipped, GraphFull, Good}
use Rattle.ew_model.proofs.KeptLaws.{held_joined, no_repeat}

-- the row doesn't say Good
abbrev pub NotGood : Option Ruling → Type 0
NotGood row = (r : Ruling) → row ≡ Some r → is_verdict_good r ≡ false

not_good : (b : Bool) (q : Ruling) → is_verdict_good q ≡ false → NotGood (then_some b q)
not_good true q h r e = let same : q ≡ r = cc in ap is_verdict_good (sym same) ∙ h
not_good false q h r e = let no : ⊥ = cc in absurd no

unknown_not_good : (o : Option Id) → NotGood (option_map Unknown o)
unknown_not_good None r e = let no : ⊥ = cc in absurd no
unknown_not_good (Some p) r e = let same : Unknown p ≡ r = cc in ap is_verdict_good (sym same)

-- a ruling, and another where that is Good
abbrev pub or_else : Ruling → Ruling → Ruling
or_else q r = cond (is_verdict_good q) r q

pub or_else-assoc : (p q r : Ruling) → or_else (or_else p q) r ≡ or_else p (or_else q r)
or_else-assoc p q r = at (is_verdict_good p) refl
  where
    at : (b : Bool) → is_verdict_good p ≡ b → cond (is_verdict_good (cond b q p)) r (cond b q p) ≡ cond b (cond (is_verdict_good q) r q) p
    at true h = refl
    at false h = ap (λ c. cond c r p) h

-- the first of more rows
pub first_joined : (xs ys : List (Option Ruling)) → AllByRecursion NotGood xs → first_row (xs ++ ys) ≡ or_else (first_row xs) (first_row ys)
first_joined [] ys n = refl
first_joined (None ∷ xs) ys n = first_joined xs ys n.1
first_joined (Some r ∷ xs) ys n = sym (ap (λ b. cond b (first_row ys) r) (n.0 r refl))

ids_not_good : (held waiting : List Event) (e : Event) → AllByRecursion NotGood (id_rows held waiting e)
unfolding id_rows
ids_not_good held waiting e = (not_good _ Repeat refl, (not_good _ Clash refl, tt))

parents_not_good : (held : List Event) (e : Event) → AllByRecursion NotGood (parent_rows held e)
unfolding parent_rows
parents_not_good held e =
    (not_good _ SelfParent refl, (not_good _ TooManyParents refl, (not_good _ ParentsUnsorted refl, (unknown_not_good _, (not_good _ NotReduced refl, (not_good _ Skipped refl, tt))))))

size_not_good : (limits : LimitNumbers) (held : List Event) → AllByRecursion NotGood (size_rows limits held)
unfolding size_rows
size_not_good limits held = (not_good _ GraphFull refl, tt)

-- by the id, by the parents, by the number
abbrev pub by_id : List Event → List Event → Event → Ruling
by_id held waiting e = first_row (id_rows held waiting e)

abbrev pub by_parents : List Event → Event → Ruling
by_parents held e = first_row (parent_rows held e)

abbrev pub by_size : LimitNumbers → List Event → Ruling
by_size limits held = first_row (size_rows limits held)

abbrev pub by_index : List Event → Event → Ruling
by_index held e = first_row (range_rows held e)

pub size_is : (limits : LimitNumbers) (held : List Event) → by_size limits held ≡ cond (nat_le limits.events (length held)) GraphFull Good
unfolding size_rows
size_is limits held = at (nat_le limits.events (length held))
  where
    at : (b : Bool) → first_row (then_some b GraphFull ∷ []) ≡ cond b GraphFull Good
    at true = refl
    at false = refl

-- the later rows, without the index and with it
pub later_blind : (limits : LimitNumbers) (held : List Event) (e : Event) → first_row (later_rows limits false held e) ≡ or_else (by_parents held e) (by_size limits held)
unfolding parent_rows size_rows
later_blind limits held e =
    first_joined (parent_rows held e) (size_rows limits held ++ []) (parents_not_good held e)
    ∙ ap (λ (rows : List (Option Ruling)). or_else (by_parents held e) (first_row rows)) (append-nil (size_rows limits held))

pub later_seeing : (limits : LimitNumbers) (held : List Event) (e : Event) → first_row (later_rows limits true held e) ≡ or_else (first_row (later_rows limits false held e)) (by_index held e)
unfolding parent_rows size_rows range_rows
later_seeing limits held e =
    first_joined (parent_rows held e) (size_rows limits held ++ range_rows held e) (parents_not_good held e)
    ∙ ap (or_else (by_parents held e)) (first_joined (size_rows limits held) (range_rows held e) (size_not_good limits held))
    ∙ sym (or_else-assoc (by_parents held e) (by_size limits held) (by_index held e))
    ∙ ap (λ (r : Ruling). or_else r (by_index held e)) (sym (later_blind limits held e))

-- all rows
pub verdict_is : (limits : LimitNumbers) (b : Bool) (held waiting : List Event) (e : Event) → verdict limits b held waiting e ≡ or_else (by_id held waiting e) (first_row (later_rows limits b held e))
verdict_is limits b held waiting e = first_joined (id_rows held waiting e) (later_rows limits b held e) (ids_not_good held waiting e)

pub verdict_seeing : (limits : LimitNumbers) (held waiting : List Event) (e : Event) → verdict limits true held waiting e ≡ or_else (verdict limits false held waiting e) (by_index held e)
verdict_seeing limits held waiting e =
    verdict_is limits true held waiting e
    ∙ ap (or_else (by_id held waiting e)) (later_seeing limits held e)
    ∙ sym (or_else-assoc (by_id held waiting e) (first_row (later_rows limits false held e)) (by_index held e))
    ∙ ap (λ (r : Ruling). or_else r (by_index held e)) (sym (verdict_is limits false held waiting e))

pub graph_verdict_is : (held : List Event) (e : Event) → graph_verdict held e ≡ or_else (by_id held [] e) (by_parents held e)
graph_verdict_is held e = first_joined (id_rows held [] e) (parent_rows held e) (ids_not_good held [] e)

pub next_verdict_is : (held : List Event) (e : Event) → next_verdict held e ≡ or_else (by_id held [] e) (or_else (by_parents held e) (by_index held e))
unfolding next_verdict id_rows range_rows parent_rows
next_verdict_is held e =
    first_joined (id_rows held [] e) (parent_rows held e ++ range_rows held e) (ids_not_good held [] e)
    ∙ ap (or_else (by_id held [] e)) (first_joined (parent_rows held e) (range_rows held e) (parents_not_good held e))

-- an id that isn't there
no_row : (b c : Bool) → b ≡ false → c ≡ false → first_row (then_some b Repeat ∷ then_some c Clash ∷ []) ≡ Good
no_row true c h k = absurd (false≢true (sym h))
no_row false true h k = absurd (false≢true (sym k))
no_row false false h k = refl

pub id_new : (held waiting : List Event) (e : Event) → is_held (held ++ waiting) e.id ≡ false → by_id held waiting e ≡ Good
unfolding id_rows
id_new held waiting e new = no_row (list_any (event_eq e) (held ++ waiting)) (is_held (held ++ waiting) e.id) (no_repeat (held ++ waiting) e new) new

pub none_there : (held waiting : List Event) (x : Id) → is_held held x ≡ false → is_held waiting x ≡ false → is_held (held ++ waiting) x ≡ false
none_there held waiting x h w = held_joined held waiting x ∙ or_from (is_held held x) (is_held waiting x) h w

-- the other way round
row_none : (b c : Bool) → is_verdict_good (first_row (then_some b Repeat ∷ then_some c Clash ∷ [])) ≡ true → c ≡ false
row_none true c h = absurd (false≢true h)
row_none false true h = absurd (false≢true h)
row_none false false h = refl

pub id_good : (held waiting : List Event) (e : Event) → is_verdict_good (by_id held waiting e) ≡ true → (is_held held e.id ≡ false) × (is_held waiting e.id ≡ false)
unfolding id_rows
id_good held waiting e good =
    or_parts (is_held held e.id) (is_held waiting e.id) (sym (held_joined held waiting e.id) ∙ row_none (list_any (event_eq e) (held ++ waiting)) (is_held (held ++ waiting) e.id) good)
