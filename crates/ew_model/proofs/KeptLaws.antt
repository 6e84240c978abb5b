-- What every judgement keeps: the history held is good, and no id stands twice among the events held and waiting.
use Rattle.std.proofs.Common.{◌≡◌, ℕ, zero, suc, Bool, true, false, cond, ◌&&◌, ◌||◌, ◌⊎◌, inl, inr, ⊎_elim, nat_le, List, [], ◌∷◌, ◌++◌, find, length, Option, Some, None, refl, sym, ap, ◌∙◌, subst, append-nil, append_assoc}
use Rattle.std.specs.List.{list_any}
use Rattle.std.specs.Cmp.Lexicographic.{pointwise}
use Rattle.std.specs.Bool.{then_some}
use Rattle.std.specs.Option.{option_map_or}
use Rattle.std.specs.Cmp.{eq_by_cmp_equiv, IsEquivalence}
use Rattle.std.proofs.lemmas.Bool.{false≢true, or_parts, or_from}
use Rattle.std.proofs.lemmas.List.{map-append}
use Rattle.ew_model.specs.declared.id.Id.{Id}
use Rattle.ew_model.specs.declared.event.Event.{Event}
use Rattle.ew_model.specs.Ids.{id_eq, is_among}
use Rattle.ew_model.specs.Events.{op_eq, event_eq}
use Rattle.ew_model.specs.Ancestors.{ids_of, is_held}
use Rattle.ew_model.specs.Limits.{LimitNumbers}
use Rattle.ew_model.specs.Verdicts.{Ruling, first_row, id_rows, parent_rows, size_rows, range_rows, next_verdict, IsGoodAfter, IsGood, later_rows}
use Rattle.ew_model.specs.Arrival.{Desk, Judgement, is_ready, without_ready, at_the_pool, desk_after, judgement_of, judge_coming, judge_ready, next_judgement, judgements, with_answer}
use Rattle.ew_model.specs.Kept.{AreFresh, AreApart, IsOrderly}
use Rattle.ew_model.specs.Verdicts.Ruling.{Repeat, Clash, SelfParent, TooManyParents, ParentsUnsorted, Unknown, PoolFull, NotReduced, Skipped, GraphFull, OutOfRange, Good}
use Rattle.ew_model.proofs.PathOrder.{id_total}
use Rattle.ew_model.proofs.AncestorLaws.{among-append}
use Rattle.ew_model.proofs.ArrivalLaws.{is_unknown, ready_known, pool_known, ready_found}

equal_ids : IsEquivalence id_eq
equal_ids = eq_by_cmp_equiv id_total

pub held_joined : (xs ys : List Event) (x : Id) → is_held (xs ++ ys) x ≡ (is_held xs x || is_held ys x)
held_joined xs ys x = ap (λ ids. is_among ids x) (map-append (λ (e : Event). e.id) xs ys) ∙ among-append (ids_of xs) (ids_of ys) x

-- a good event extends a good history
pub good-push : (before events : List Event) (e : Event) → IsGoodAfter before events → next_verdict (before ++ events) e ≡ Good → IsGoodAfter before (events ++ e ∷ [])
good-push before [] e h v = (ap (λ w. next_verdict w e) (sym (append-nil before)) ∙ v, tt)
good-push before (f ∷ events) e h v = (h.0, good-push (before ++ f ∷ []) events e h.1 (ap (λ w. next_verdict w e) (append_assoc before (f ∷ []) events) ∙ v))

-- a front of good events is good
pub good_before : (seen before later : List Event) → IsGoodAfter seen (before ++ later) → IsGoodAfter seen before
good_before seen [] later h = tt
good_before seen (f ∷ before) later h = (h.0, good_before (seen ++ f ∷ []) before later h.1)

-- a row that isn't Good may be left out
without_row : (rows : List (Option Ruling)) (b : Bool) (r : Ruling) (more : List (Option Ruling)) → (r ≡ Good → ⊥) → first_row (rows ++ then_some b r ∷ more) ≡ Good → first_row (rows ++ more) ≡ Good
without_row [] true r more n e = absurd (n e)
without_row [] false r more n e = e
without_row (None ∷ rows) b r more n e = without_row rows b r more n e
without_row (Some q ∷ rows) b r more n e = e

-- what isn't held by its id isn't there
pub no_repeat : (held : List Event) (e : Event) → is_held held e.id ≡ false → list_any (event_eq e) held ≡ false
no_repeat [] e h = refl
no_repeat (f ∷ held) e h =
    let parts = or_parts (id_eq e.id f.id) (is_held held e.id) h in
    ap (λ b. (b && pointwise id_eq e.parents f.parents && op_eq e.op f.op) || list_any (event_eq e) held) parts.0 ∙ no_repeat held e parts.1

-- the rows by the id, of an event that isn't among those held and waiting
by_id : (b c : Bool) (rows : List (Option Ruling)) (r : Ruling) → first_row (then_some b Repeat ∷ then_some c Clash ∷ rows) ≡ r → (Repeat ≡ r → ⊥) → (Clash ≡ r → ⊥) → (c ≡ false) × (first_row rows ≡ r)
by_id true c rows r e n m = absurd (n e)
by_id false true rows r e n m = absurd (m e)
by_id false false rows r e n m = (refl, e)

-- Of an event that is judged Good by all rows the verdict behind what is held is Good.
good_next : (limits : LimitNumbers) (held : List Event) (e : Event) → is_held held e.id ≡ false → first_row (later_rows limits true held e) ≡ Good → next_verdict held e ≡ Good
unfolding next_verdict id_rows size_rows parent_rows range_rows
good_next limits held e new good =
    (λ i. first_row (then_some (list_any (event_eq e) (append-nil held i)) Repeat ∷ then_some (is_held (append-nil held i) e.id) Clash ∷ (parent_rows held e ++ range_rows held e)))
    ∙ (λ i. first_row (then_some (no_repeat held e new i) Repeat ∷ then_some (new i) Clash ∷ (parent_rows held e ++ range_rows held e)))
    ∙ without_row (parent_rows held e) (nat_le limits.events (length held)) GraphFull (range_rows held e) (λ q. cc) good

pub fresh-push : (held waiting : List Event) (e : Event) → AreFresh held waiting → is_held waiting e.id ≡ false → AreFresh (held ++ e ∷ []) waiting
fresh-push held [] e f n = tt
fresh-push held (w ∷ waiting) e f n =
    let parts = or_parts (id_eq e.id w.id) (is_held waiting e.id) n in (
      held_joined held (e ∷ []) w.id ∙ or_from (is_held held w.id) (id_eq w.id e.id || false) f.0 (or_from (id_eq w.id e.id) false (equal_ids.symm w.id e.id ∙ parts.0) refl),
      fresh-push held waiting e f.1 parts.1,
    )

pub fresh-wait : (held waiting : List Event) (e : Event) → AreFresh held waiting → is_held held e.id ≡ false → AreFresh held (waiting ++ e ∷ [])
fresh-wait held [] e f n = (n, tt)
fresh-wait held (w ∷ waiting) e f n = (f.0, fresh-wait held waiting e f.1 n)

pub apart-wait : (waiting : List Event) (e : Event) → AreApart waiting → is_held waiting e.id ≡ false → AreApart (waiting ++ e ∷ [])
apart-wait [] e a n = (refl, tt)
apart-wait (w ∷ waiting) e a n =
    let parts = or_parts (id_eq e.id w.id) (is_held waiting e.id) n in (
      held_joined waiting (e ∷ []) w.id ∙ or_from (is_held waiting w.id) (id_eq w.id e.id || false) a.0 (or_from (id_eq w.id e.id) false (equal_ids.symm w.id e.id ∙ parts.0) refl),
      apart-wait waiting e a.1 parts.1,
    )

-- a good event is appended
kept_good : (limits : LimitNumbers) (held waiting : List Event) (e : Event) → IsOrderly held waiting → is_held held e.id ≡ false → is_held waiting e.id ≡ false → first_row (later_rows limits true held e) ≡ Good → IsOrderly (held ++ e ∷ []) waiting
unfolding IsGood
kept_good limits held waiting e k n m good =
    record { good = good-push [] held e k.good (good_next limits held e n good); fresh = fresh-push held waiting e k.fresh m; apart = k.apart }

-- an event waits
kept_waiting : (held waiting : List Event) (e : Event) → IsOrderly held waiting → is_held held e.id ≡ false → is_held waiting e.id ≡ false → IsOrderly held (waiting ++ e ∷ [])
kept_waiting held waiting e k n m = record { good = k.good; fresh = fresh-wait held waiting e k.fresh n; apart = apart-wait waiting e k.apart m }

-- after a ruling
kept_by : (r : Ruling) (e : Event) (d : Desk) → (r ≡ Good → IsOrderly (d.held ++ e ∷ []) d.waiting) → (is_unknown r ≡ true → IsOrderly d.held (d.waiting ++ e ∷ [])) → IsOrderly d.held d.waiting → IsOrderly (desk_after r e d).held (desk_after r e d).waiting
kept_by Good e d f g k = f refl
kept_by (Unknown p) e d f g k = g refl
kept_by Repeat e d f g k = k
kept_by Clash e d f g k = k
kept_by SelfParent e d f g k = k
kept_by TooManyParents e d f g k = k
kept_by ParentsUnsorted e d f g k = k
kept_by PoolFull e d f g k = k
kept_by NotReduced e d f g k = k
kept_by Skipped e d f g k = k
kept_by GraphFull e d f g k = k
kept_by (OutOfRange len) e d f g k = k

-- the waiting list changes an Unknown alone
pool_cases : (limits : LimitNumbers) (waiting : List Event) (r : Ruling) → (at_the_pool limits waiting r ≡ r) ⊎ (at_the_pool limits waiting r ≡ PoolFull)
pool_cases limits waiting (Unknown p) = full (nat_le limits.waiting (length waiting))
  where
    full : (b : Bool) → (cond b PoolFull (Unknown p) ≡ Unknown p) ⊎ (cond b PoolFull (Unknown p) ≡ PoolFull)
    full true = inr refl
    full false = inl refl
pool_cases limits waiting Good = inl refl
pool_cases limits waiting Repeat = inl refl
pool_cases limits waiting Clash = inl refl
pool_cases limits waiting SelfParent = inl refl
pool_cases limits waiting TooManyParents = inl refl
pool_cases limits waiting ParentsUnsorted = inl refl
pool_cases limits waiting PoolFull = inl refl
pool_cases limits waiting NotReduced = inl refl
pool_cases limits waiting Skipped = inl refl
pool_cases limits waiting GraphFull = inl refl
pool_cases limits waiting (OutOfRange len) = inl refl

-- a ruling that keeps or appends the event is that of the rows
pool_same : (limits : LimitNumbers) (waiting : List Event) (r : Ruling) → (at_the_pool limits waiting r ≡ PoolFull → ⊥) → at_the_pool limits waiting r ≡ r
pool_same limits waiting r n = ⊎_elim (λ same. same) (λ full. absurd (n full)) (pool_cases limits waiting r)

-- after the next event to come
kept_coming : (limits : LimitNumbers) (d : Desk) (coming : List Event) (j : Judgement) → IsOrderly d.held d.waiting → judge_coming limits true d coming ≡ Some j → IsOrderly j.desk.held j.desk.waiting
unfolding id_rows
kept_coming limits d [] j k e = let no : ⊥ = cc in absurd no
kept_coming limits d (x ∷ coming) j k e =
    let first = first_row (id_rows d.held d.waiting x ++ later_rows limits true d.held x) in
    let rest : Desk = record { held = d.held; waiting = d.waiting; coming = coming; is_settling = true } in
    let ids = λ (r : Ruling) (q : first ≡ r) (n : Repeat ≡ r → ⊥) (m : Clash ≡ r → ⊥). by_id (list_any (event_eq x) (d.held ++ d.waiting)) (is_held (d.held ++ d.waiting) x.id) (later_rows limits true d.held x) r q n m in
    let same : judgement_of limits rest x first ≡ j = cc in
    subst (λ (i : Judgement). IsOrderly i.desk.held i.desk.waiting) same
    (kept_by (at_the_pool limits d.waiting first) x rest
    (λ q.
    let all = ids Good (sym (pool_same limits d.waiting first (λ full. let no : ⊥ = cc in no)) ∙ q) (λ c. cc) (λ c. cc) in
    let parts = or_parts (is_held d.held x.id) (is_held d.waiting x.id) (sym (held_joined d.held d.waiting x.id) ∙ all.0) in
    kept_good limits d.held d.waiting x k parts.0 parts.1 all.1)
    (λ q.
    let kept = pool_same limits d.waiting first (λ full. false≢true (ap is_unknown (sym full) ∙ q)) in
    let unknown : is_unknown first ≡ true = ap is_unknown (sym kept) ∙ q in
    let all = ids first refl (λ c. false≢true (ap is_unknown c ∙ unknown)) (λ c. false≢true (ap is_unknown c ∙ unknown)) in
    let parts = or_parts (is_held d.held x.id) (is_held d.waiting x.id) (sym (held_joined d.held d.waiting x.id) ∙ all.0) in
    kept_waiting d.held d.waiting x k parts.0 parts.1)
    k)

held_less : (held waiting : List Event) (y : Id) → is_held waiting y ≡ false → is_held (without_ready held waiting) y ≡ false
held_less held [] y h = refl
held_less held (x ∷ waiting) y h = at (is_ready held x) (or_parts (id_eq y x.id) (is_held waiting y) h) (held_less held waiting y (or_parts (id_eq y x.id) (is_held waiting y) h).1)
  where
    at : (b : Bool) → (id_eq y x.id ≡ false) × (is_held waiting y ≡ false) → is_held (without_ready held waiting) y ≡ false → is_held (cond b waiting (x ∷ without_ready held waiting)) y ≡ false
    at true p q = p.1
    at false p q = or_from (id_eq y x.id) (is_held (without_ready held waiting) y) p.0 q

-- what is known of a ready event that was found, and of the others
record IsTaken (held waiting less : List Event) (e : Event) : Type 0 where
  new : is_held held e.id ≡ false
  fresh : AreFresh held less
  apart : AreApart less
  gone : is_held less e.id ≡ false
  was : (y : Id) → is_held waiting y ≡ false → id_eq y e.id ≡ false

taken_at : (b : Bool) (held : List Event) (x : Event) (waiting : List Event) (e : Event) → cond b (Some x) (find (is_ready held) waiting) ≡ Some e → AreFresh held (x ∷ waiting) → AreApart (x ∷ waiting)
    → (find (is_ready held) waiting ≡ Some e → IsTaken held waiting (without_ready held waiting) e) → IsTaken held (x ∷ waiting) (cond b waiting (x ∷ without_ready held waiting)) e
taken_at true held x waiting e found f a more =
    let same : x ≡ e = cc in
    subst (IsTaken held (x ∷ waiting) waiting) same (record { new = f.0; fresh = f.1; apart = a.1; gone = a.0; was = λ y h. (or_parts (id_eq y x.id) (is_held waiting y) h).0 })
taken_at false held x waiting e found f a more =
    let rest = more found in
    record {
      new = rest.new;
      fresh = (f.0, rest.fresh);
      apart = (held_less held waiting x.id a.0, rest.apart);
      gone = or_from (id_eq e.id x.id) (is_held (without_ready held waiting) e.id) (equal_ids.symm e.id x.id ∙ rest.was x.id a.0) rest.gone;
      was = λ y h. rest.was y (or_parts (id_eq y x.id) (is_held waiting y) h).1;
    }

taken : (held waiting : List Event) (e : Event) → find (is_ready held) waiting ≡ Some e → AreFresh held waiting → AreApart waiting → IsTaken held waiting (without_ready held waiting) e
taken held [] e found f a = let no : ⊥ = cc in absurd no
taken held (x ∷ waiting) e found f a = taken_at (is_ready held x) held x waiting e found f a (λ q. taken held waiting e q f.1 a.1)

kept_ready : (limits : LimitNumbers) (d : Desk) (o : Option Event) (j : Judgement) → IsOrderly d.held d.waiting → ((e : Event) → o ≡ Some e → find (is_ready d.held) d.waiting ≡ Some e) → judge_ready limits true d o ≡ Some j → IsOrderly j.desk.held j.desk.waiting
kept_ready limits d None j k f e = kept_coming limits d d.coming j k e
kept_ready limits d (Some x) j k f e =
    let less = without_ready d.held d.waiting in
    let rest : Desk = record { held = d.held; waiting = less; coming = d.coming; is_settling = true } in
    let found = f x refl in
    let t = taken d.held d.waiting x found k.fresh k.apart in
    let left : IsOrderly d.held less = record { good = k.good; fresh = t.fresh; apart = t.apart } in
    let first = first_row (later_rows limits true d.held x) in
    let known : is_unknown (at_the_pool limits less first) ≡ false = pool_known limits less first (ready_known limits true d.held x (ready_found d.held d.waiting x found).0) in
    let same : judgement_of limits rest x first ≡ j = cc in
    subst (λ (i : Judgement). IsOrderly i.desk.held i.desk.waiting) same
    (kept_by (at_the_pool limits less first) x rest
    (λ q. kept_good limits d.held less x left t.new t.gone (sym (pool_same limits less first (λ full. let no : ⊥ = cc in no)) ∙ q))
    (λ q. absurd (false≢true (sym known ∙ q)))
    left)

-- A judgement keeps it.
pub kept_next : (limits : LimitNumbers) (d : Desk) (j : Judgement) → IsOrderly d.held d.waiting → next_judgement limits true d ≡ Some j → IsOrderly j.desk.held j.desk.waiting
unfolding next_judgement
kept_next limits d j k e = kept_ready limits d (cond d.is_settling (find (is_ready d.held) d.waiting) None) j k (settled d.is_settling) e
  where
    settled : (b : Bool) (x : Event) → cond b (find (is_ready d.held) d.waiting) None ≡ Some x → find (is_ready d.held) d.waiting ≡ Some x
    settled true x h = h
    settled false x h = let no : ⊥ = cc in absurd no

kept_step : (limits : LimitNumbers) (n : ℕ) (d : Desk) (o : Option Judgement) → IsOrderly d.held d.waiting → ((j : Judgement) → o ≡ Some j → IsOrderly (judgements limits true n j.desk).desk.held (judgements limits true n j.desk).desk.waiting)
    → IsOrderly (option_map_or (λ j. with_answer j.answer (judgements limits true n j.desk)) o (record { desk = d; answers = [] })).desk.held (option_map_or (λ j. with_answer j.answer (judgements limits true n j.desk)) o (record { desk = d; answers = [] })).desk.waiting
kept_step limits n d None k f = k
kept_step limits n d (Some j) k f = f j refl

-- Any number of judgements keeps it.
pub judgements_keep : (limits : LimitNumbers) (n : ℕ) (d : Desk) → IsOrderly d.held d.waiting → IsOrderly (judgements limits true n d).desk.held (judgements limits true n d).desk.waiting
judgements_keep limits zero d k = k
judgements_keep limits (suc n) d k = kept_step limits n d (next_judgement limits true d) k (λ j e. judgements_keep limits n j.desk (kept_next limits d j k e))
