-- The program's answers as those of the rows.
use Rattle.std.proofs.Common.{◌≡◌, nat_le, Bool, true, false, cond, ◌&&◌, ◌||◌, List, [], ◌∷◌, ◌++◌, length, Some, refl, sym, ap, ◌∙◌, subst, append-nil}
use Rattle.std.specs.Bool.{then_some}
use Rattle.std.specs.List.{list_any}
use Rattle.std.specs.Cmp.Lexicographic.{pointwise}
use Rattle.std.proofs.lemmas.Bool.{false≢true, false_from_ne_true}
use Rattle.ew_model.specs.declared.id.Id.{Id}
use Rattle.ew_model.specs.declared.event.Event.{Event}
use Rattle.ew_model.specs.Ancestors.{is_held}
use Rattle.ew_model.specs.Events.{op_eq, event_eq}
use Rattle.ew_model.specs.Ids.{id_eq}
use Rattle.ew_model.specs.Kept.{AreFresh, AreApart}
use Rattle.ew_model.specs.Limits.{LimitNumbers}
use Rattle.ew_model.specs.Verdicts.{Ruling, first_row, id_rows, later_rows, verdict, graph_verdict}
use Rattle.ew_model.specs.Verdicts.Ruling.{Repeat, Clash, SelfParent, TooManyParents, ParentsUnsorted, Unknown, PoolFull, NotReduced, Skipped, GraphFull, OutOfRange, Good}
use Rattle.ew_model.proofs.IdLaws.{is_same_id}
use Rattle.ew_model.proofs.KeptLaws.{held_joined, no_repeat}
use Rattle.ew_model.proofs.MergeSteps.{same_event}
use Rattle.waiting_pool.specs.Waiting.{event_with}
use Rattle.replica.specs.declared.answer.Answer.TheVariants as answer
use Rattle.ew_model.specs.declared.verdict.Refusal.TheVariants as why
use Rattle.replica.specs.Desks.{answer_by, sized}
use Rattle.replica.proofs.RulingRows.{or_else, or_else-assoc, by_id, by_parents, by_size, size_is, later_blind, verdict_is, graph_verdict_is}
use Rattle.ew_model.proofs.SameEvents.{same_events}

-- by a waiting event of the same id
pub repeated : (e f : Event) → e ≡ f → answer.Repeat ≡ answer_by (cond (event_eq e f) Repeat Clash)
repeated e f same = ap (λ (b : Bool). answer_by (cond b Repeat Clash)) (sym (subst (λ (g : Event). event_eq e g ≡ true) same (same_event e)))

pub clashing : (e f : Event) → (e ≡ f → ⊥) → answer.Refused why.Clash ≡ answer_by (cond (event_eq e f) Repeat Clash)
clashing e f other = ap (λ (b : Bool). answer_by (cond b Repeat Clash)) (sym (false_from_ne_true (event_eq e f) (λ q. other (same_events e f q))))

-- a good event is refused where no more may be held
sized_by : (g : Ruling) (b : Bool) → answer_by (or_else g (cond b GraphFull Good)) ≡ sized b (answer_by g)
sized_by Good true = refl
sized_by Good false = refl
sized_by Repeat b = refl
sized_by Clash b = refl
sized_by SelfParent b = refl
sized_by TooManyParents b = refl
sized_by ParentsUnsorted b = refl
sized_by (Unknown p) b = refl
sized_by PoolFull b = refl
sized_by NotReduced b = refl
sized_by Skipped b = refl
sized_by GraphFull b = refl
sized_by (OutOfRange len) b = refl

same_row : (a b c d : Bool) → a ≡ c → b ≡ d → first_row (then_some a Repeat ∷ then_some b Clash ∷ []) ≡ first_row (then_some c Repeat ∷ then_some d Clash ∷ [])
same_row a b c d h k = λ i. first_row (then_some (h i) Repeat ∷ then_some (k i) Clash ∷ [])

any_joined : (p : Event → Bool) (xs ys : List Event) → list_any p (xs ++ ys) ≡ (list_any p xs || list_any p ys)
any_joined p [] ys = refl
any_joined p (x ∷ xs) ys = at (p x) (any_joined p xs ys)
  where
    at : (b : Bool) → list_any p (xs ++ ys) ≡ (list_any p xs || list_any p ys) → (b || list_any p (xs ++ ys)) ≡ ((b || list_any p xs) || list_any p ys)
    at true h = refl
    at false h = h

or_false : (b c : Bool) → c ≡ false → (b || c) ≡ b
or_false true c h = refl
or_false false c h = h

-- where none with its id waits, the events held decide
id_held : (held waiting : List Event) (e : Event) → is_held waiting e.id ≡ false → by_id held waiting e ≡ by_id held [] e
unfolding id_rows
id_held held waiting e new =
    same_row (list_any (event_eq e) (held ++ waiting)) (is_held (held ++ waiting) e.id) (list_any (event_eq e) (held ++ [])) (is_held (held ++ []) e.id)
    (any_joined (event_eq e) held waiting ∙ or_false (list_any (event_eq e) held) (list_any (event_eq e) waiting) (no_repeat waiting e new) ∙ ap (λ (l : List Event). list_any (event_eq e) l) (sym (append-nil held)))
    (held_joined held waiting e.id ∙ or_false (is_held held e.id) (is_held waiting e.id) new ∙ ap (λ (l : List Event). is_held l e.id) (sym (append-nil held)))

pub by_graph : (limits : LimitNumbers) (held waiting : List Event) (e : Event) → is_held waiting e.id ≡ false
    → sized (nat_le limits.events (length held)) (answer_by (graph_verdict held e)) ≡ answer_by (verdict limits false held waiting e)
by_graph limits held waiting e new =
    sym (sized_by (graph_verdict held e) (nat_le limits.events (length held)))
    ∙ ap answer_by (
    ap (or_else (graph_verdict held e)) (sym (size_is limits held))
    ∙ ap (λ (r : Ruling). or_else r (by_size limits held)) (graph_verdict_is held e)
    ∙ or_else-assoc (by_id held [] e) (by_parents held e) (by_size limits held)
    ∙ ap (or_else (by_id held [] e)) (sym (later_blind limits held e))
    ∙ ap (λ (r : Ruling). or_else r (first_row (later_rows limits false held e))) (sym (id_held held waiting e new))
    ∙ sym (verdict_is limits false held waiting e)
    )

-- where one waits, it decides
other_id : (e f : Event) → id_eq e.id f.id ≡ false → event_eq e f ≡ false
other_id e f h = ap (λ (b : Bool). (b && pointwise id_eq e.parents f.parents) && op_eq e.op f.op) h

any_waiting : (waiting : List Event) (e f : Event) → AreApart waiting → event_with waiting e.id ≡ Some f → list_any (event_eq e) waiting ≡ event_eq e f
any_waiting [] e f apart h = let no : ⊥ = cc in absurd no
any_waiting (w ∷ waiting) e f apart h = at (id_eq e.id w.id) refl h (λ r. any_waiting waiting e f apart.1 r)
  where
    at : (b : Bool) → id_eq e.id w.id ≡ b → cond b (Some w) (event_with waiting e.id) ≡ Some f → (event_with waiting e.id ≡ Some f → list_any (event_eq e) waiting ≡ event_eq e f)
        → (event_eq e w || list_any (event_eq e) waiting) ≡ event_eq e f
    at true q r more =
        let same : w ≡ f = cc in
        let ids : e.id ≡ w.id = (is_same_id e.id w.id).0 q in
        let none : is_held waiting e.id ≡ false = ap (is_held waiting) ids ∙ apart.0 in
        or_false (event_eq e w) (list_any (event_eq e) waiting) (no_repeat waiting e none) ∙ ap (event_eq e) same
    at false q r more = ap (λ (b : Bool). b || list_any (event_eq e) waiting) (other_id e w q) ∙ more r

held_waiting : (waiting : List Event) (e f : Event) → event_with waiting e.id ≡ Some f → is_held waiting e.id ≡ true
held_waiting [] e f h = let no : ⊥ = cc in absurd no
held_waiting (w ∷ waiting) e f h = at (id_eq e.id w.id) h (λ r. held_waiting waiting e f r)
  where
    at : (b : Bool) → cond b (Some w) (event_with waiting e.id) ≡ Some f → (event_with waiting e.id ≡ Some f → is_held waiting e.id ≡ true) → (b || is_held waiting e.id) ≡ true
    at true r more = refl
    at false r more = more r

-- no waiting event is held by its id
pub not_held : (held waiting : List Event) (x : Id) → AreFresh held waiting → is_held waiting x ≡ true → is_held held x ≡ false
not_held held [] x fresh h = absurd (false≢true h)
not_held held (w ∷ waiting) x fresh h = at (id_eq x w.id) refl h (λ r. not_held held waiting x fresh.1 r)
  where
    at : (b : Bool) → id_eq x w.id ≡ b → (b || is_held waiting x) ≡ true → (is_held waiting x ≡ true → is_held held x ≡ false) → is_held held x ≡ false
    at true q r more = ap (is_held held) ((is_same_id x w.id).0 q) ∙ fresh.0
    at false q r more = more r

both : (b c : Bool) → c ≡ true → (b || c) ≡ true
both true c h = refl
both false c h = h

row_of : (a b : Bool) → b ≡ true → first_row (then_some a Repeat ∷ then_some b Clash ∷ []) ≡ cond a Repeat Clash
row_of true b h = refl
row_of false true h = refl
row_of false false h = absurd (false≢true h)

by_waiting_at : (q : Bool) (r : Ruling) → answer_by (cond q Repeat Clash) ≡ answer_by (or_else (cond q Repeat Clash) r)
by_waiting_at true r = refl
by_waiting_at false r = refl

pub by_waiting : (limits : LimitNumbers) (held waiting : List Event) (e f : Event) → AreFresh held waiting → AreApart waiting → event_with waiting e.id ≡ Some f
    → answer_by (cond (event_eq e f) Repeat Clash) ≡ answer_by (verdict limits false held waiting e)
unfolding id_rows
by_waiting limits held waiting e f fresh apart h =
    let there = held_waiting waiting e f h in
    let new : is_held held e.id ≡ false = not_held held waiting e.id fresh there in
    let any : list_any (event_eq e) (held ++ waiting) ≡ event_eq e f =
    any_joined (event_eq e) held waiting ∙ ap (λ (b : Bool). b || list_any (event_eq e) waiting) (no_repeat held e new) ∙ any_waiting waiting e f apart h in
    let ids : by_id held waiting e ≡ cond (event_eq e f) Repeat Clash =
    row_of (list_any (event_eq e) (held ++ waiting)) (is_held (held ++ waiting) e.id) (held_joined held waiting e.id ∙ both (is_held held e.id) (is_held waiting e.id) there)
    ∙ ap (λ (b : Bool). cond b Repeat Clash) any in
    by_waiting_at (event_eq e f) (first_row (later_rows limits false held e))
    ∙ ap (λ (r : Ruling). answer_by (or_else r (first_row (later_rows limits false held e)))) (sym ids)
    ∙ ap answer_by (sym (verdict_is limits false held waiting e))
