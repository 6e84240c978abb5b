-- What a ruling tells of an event: its form, and how it is judged by its ancestors.
use Rattle.std.proofs.Common.{◌≡◌, nat_lt, nat_le, Bool, true, false, not, cond, ◌||◌, ◌⊎◌, inl, inr, ⊎_elim, List, [], ◌∷◌, ◌++◌, find, length, Option, Some, None, option_map, refl, sym, ap, ◌∙◌, subst, append_assoc}
use Rattle.std.specs.List.{list_any}
use Rattle.std.specs.Bool.{then_some}
use Rattle.std.proofs.lemmas.Bool.{false≢true, not-false}
use Rattle.ew_model.specs.declared.id.Id.{Id}
use Rattle.ew_model.specs.declared.event.Event.{Event}
use Rattle.ew_model.specs.Sets.{Among, SameElements}
use Rattle.ew_model.specs.Ids.{id_eq, is_among, ids_ascend}
use Rattle.ew_model.specs.Events.{event_eq}
use Rattle.ew_model.specs.Ancestors.{is_held, version_events}
use Rattle.ew_model.specs.Limits.{LimitNumbers}
use Rattle.ew_model.specs.Verdicts.{Ruling, first_row, id_rows, parent_rows, size_rows, range_rows, next_verdict, IsGoodAfter, IsGood, follows_its_agent, later_rows}
use Rattle.ew_model.specs.Arrival.{is_ready, at_the_pool}
use Rattle.ew_model.specs.Ancestors.{is_reduced}
use Rattle.ew_model.specs.Verdicts.Ruling.{Repeat, Clash, SelfParent, TooManyParents, ParentsUnsorted, Unknown, PoolFull, NotReduced, Skipped, GraphFull, OutOfRange, Good}
use Rattle.ew_model.specs.ArrivalLaw.{is_full}
use Rattle.ew_model.proofs.SetLaws.{joined_left}
use Rattle.ew_model.proofs.SortingLaws.{all_at}
use Rattle.ew_model.proofs.VersionLaws.{found_by, find_none, version_within}
use Rattle.ew_model.proofs.EntryLaws.{points_back}
use Rattle.ew_model.proofs.SubgraphLaws.{one_event, taken_within}
use Rattle.ew_model.proofs.ArrivalLaws.{is_unknown}
use Rattle.ew_model.proofs.GoodLaws.{next_from_good, good_laid_out}
use Rattle.ew_model.proofs.JudgeLaws.{ancestors_judge}
use Rattle.ew_model.proofs.CoverLaws.{ids_alike, passes, pass_all, event_of, held_by, ids_within, closed_taken, equal_through}

-- the event is refused by its form alone
abbrev pub is_malformed : Event → Bool
is_malformed e = is_among e.parents e.id || (nat_lt 16 (length e.parents) || not (ids_ascend e.parents))

-- the ruling by the event's parents and its index
abbrev pub ruled : List Event → Event → Ruling
ruled held e = first_row (parent_rows held e ++ range_rows held e)

-- the first rows, by their tests
first_rows : (a b c : Bool) (o : Option Id) (rows : List (Option Ruling)) (r : Ruling) → first_row (then_some a SelfParent ∷ then_some b TooManyParents ∷ then_some c ParentsUnsorted ∷ option_map Unknown o ∷ rows) ≡ r
    → (((a || (b || c)) ≡ true) × (r ≡ Good → ⊥) × (is_unknown r ≡ false)) ⊎ (((a || (b || c)) ≡ false) × ((is_unknown r ≡ true) ⊎ (o ≡ None)))
first_rows true b c o rows r h = inl (refl, λ q. let no : ⊥ = cc in no, ap is_unknown (sym h))
first_rows false true c o rows r h = inl (refl, λ q. let no : ⊥ = cc in no, ap is_unknown (sym h))
first_rows false false true o rows r h = inl (refl, λ q. let no : ⊥ = cc in no, ap is_unknown (sym h))
first_rows false false false None rows r h = inr (refl, inr refl)
first_rows false false false (Some p) rows r h = inr (refl, inl (ap is_unknown (sym h)))

ready_from : (held : List Event) (e : Event) → find (λ p. not (is_held held p)) e.parents ≡ None → is_ready held e ≡ true
ready_from held e h =
    pass_all (is_held held) e.parents (λ x m. not-false (is_held held x) (all_at (λ p. not (is_held held p) ≡ false) e.parents x (find_none (λ p. not (is_held held p)) e.parents h) m))

-- a ruling refuses the event's form, or the form is right and a parent is unknown or all are held
pub ruled_cases : (held : List Event) (e : Event) (r : Ruling) → ruled held e ≡ r
    → ((is_malformed e ≡ true) × (r ≡ Good → ⊥) × (is_unknown r ≡ false)) ⊎ ((is_malformed e ≡ false) × ((is_unknown r ≡ true) ⊎ (is_ready held e ≡ true)))
unfolding parent_rows
ruled_cases held e r h =
    ⊎_elim (λ bad. inl bad) (λ good. inr (good.0, ⊎_elim (λ u. inl u) (λ n. inr (ready_from held e n)) good.1))
    (first_rows (is_among e.parents e.id) (nat_lt 16 (length e.parents)) (not (ids_ascend e.parents)) (find (λ p. not (is_held held p)) e.parents)
    (then_some (not (is_reduced held e.parents)) NotReduced ∷ then_some (not (follows_its_agent held e)) Skipped ∷ range_rows held e) r h)

-- a row that doesn't hold may be left out
drop_row : (rows : List (Option Ruling)) (b : Bool) (q : Ruling) (more : List (Option Ruling)) (r : Ruling) → (q ≡ r → ⊥) → first_row (rows ++ then_some b q ∷ more) ≡ r → first_row (rows ++ more) ≡ r
drop_row [] true q more r n e = absurd (n e)
drop_row [] false q more r n e = e
drop_row (None ∷ rows) b q more r n e = drop_row rows b q more r n e
drop_row (Some p ∷ rows) b q more r n e = e

-- where the history isn't full its size decides nothing
pub ruled_by_later : (limits : LimitNumbers) (held : List Event) (e : Event) (r : Ruling) → first_row (later_rows limits true held e) ≡ r → is_full r ≡ false → ruled held e ≡ r
unfolding size_rows parent_rows range_rows
ruled_by_later limits held e r h f =
    drop_row (parent_rows held e) (nat_le limits.events (length held)) GraphFull (range_rows held e) r (λ q. false≢true (sym f ∙ ap is_full (sym q))) h

-- where the waiting list isn't full it changes nothing
pub pool_kept : (limits : LimitNumbers) (waiting : List Event) (r : Ruling) → is_full (at_the_pool limits waiting r) ≡ false → at_the_pool limits waiting r ≡ r
pool_kept limits waiting (Unknown p) h = at (nat_le limits.waiting (length waiting)) h
  where
    at : (b : Bool) → is_full (cond b PoolFull (Unknown p)) ≡ false → cond b PoolFull (Unknown p) ≡ Unknown p
    at true h = absurd (false≢true (sym h))
    at false h = refl
pool_kept limits waiting Good h = refl
pool_kept limits waiting Repeat h = refl
pool_kept limits waiting Clash h = refl
pool_kept limits waiting SelfParent h = refl
pool_kept limits waiting TooManyParents h = refl
pool_kept limits waiting ParentsUnsorted h = refl
pool_kept limits waiting PoolFull h = refl
pool_kept limits waiting NotReduced h = refl
pool_kept limits waiting Skipped h = refl
pool_kept limits waiting GraphFull h = refl
pool_kept limits waiting (OutOfRange len) h = refl

pub behind_ids : (b c : Bool) (rows : List (Option Ruling)) → first_row (then_some b Repeat ∷ then_some c Clash ∷ rows) ≡ Good → first_row rows ≡ Good
behind_ids true c rows e = let no : ⊥ = cc in absurd no
behind_ids false true rows e = let no : ⊥ = cc in absurd no
behind_ids false false rows e = e

-- what is known of an event that may come next
pub record IsRight (held : List Event) (e : Event) : Type 0 where
  pub form : is_malformed e ≡ false
  pub ready : is_ready held e ≡ true
  pub good : ruled held e ≡ Good

pub next_right : (held : List Event) (e : Event) → next_verdict held e ≡ Good → IsRight held e
unfolding next_verdict id_rows
next_right held e h =
    let good : ruled held e ≡ Good = behind_ids (list_any (event_eq e) (held ++ [])) (is_held (held ++ []) e.id) (parent_rows held e ++ range_rows held e) h in
    ⊎_elim (λ bad. absurd (bad.1 refl)) (λ right. record { form = right.0; ready = ⊎_elim (λ u. absurd (false≢true u)) (λ k. k) right.1; good = good }) (ruled_cases held e Good good)

-- an event that is ready stays so
pub ready_more : (xs ys : List Event) (e : Event) → ((z : Event) → Among z xs → Among z ys) → is_ready xs e ≡ true → is_ready ys e ≡ true
ready_more xs ys e sub h = pass_all (is_held ys) e.parents (λ x m. ids_within xs ys sub x (passes (is_held xs) e.parents x h m))

-- the parents of a good history's events are held
parents_held : (before later : List Event) → IsGoodAfter before later → (f : Event) → Among f later → (x : Id) → is_among f.parents x ≡ true → is_held (before ++ later) x ≡ true
parents_held before [] h f m x e = absurd m
parents_held before (y ∷ later) h f m x e =
    ⊎_elim
    (λ fy.
    let found = found_by (id_eq x) y.parents (subst (λ (z : Event). is_among z.parents x ≡ true) fy e) in
    let g = event_of before found.0 (all_at (λ p. is_held before p ≡ true) y.parents found.0 (next_from_good before y h.0).parents found.1) in
    held_by (before ++ y ∷ later) x g.0 (joined_left before (y ∷ later) g.0 g.1) (equal_through x found.0 g.0.id found.2 g.2))
    (λ k. ap (λ w. is_held w x) (sym (append_assoc before (y ∷ []) later)) ∙ parents_held (before ++ y ∷ []) later h.1 f k x e)
    m

pub good_parents : (history : List Event) → IsGood history → (f : Event) → Among f history → (x : Id) → is_among f.parents x ≡ true → is_held history x ≡ true
unfolding IsGood
good_parents history h f m x e = parents_held [] history h f m x e

turn_eq : (x y : Id) → id_eq x y ≡ true → id_eq y x ≡ true
turn_eq x y e = ids_alike.symm y x ∙ e

equal_back : (p x y : Id) → id_eq p x ≡ true → id_eq p y ≡ true → id_eq x y ≡ true
equal_back p x y e f = equal_through x p y (turn_eq p x e) f

-- A good history that has all the events of another, in which an event is ready, judges it alike.
pub stays : (xs ys : List Event) (e : Event) → IsGood xs → IsGood ys → ((z : Event) → Among z xs → Among z ys) → is_ready xs e ≡ true → ruled xs e ≡ ruled ys e
stays xs ys e good_xs good_ys sub ready =
    let lx = good_laid_out xs good_xs in
    let ly = good_laid_out ys good_ys in
    let from : (p : Id) → is_held xs p ≡ true → (z : Event) → Among z ys → id_eq p z.id ≡ true → Among z xs = λ p h z m q.
    let f = event_of xs p h in
    subst (λ (w : Event). Among w xs) (one_event [] ys f.0 z ly (sub f.0 f.1) m (equal_back p f.0.id z.id f.2 q)) f.1 in
    let inside : (z : Event) → Among z (version_events ys e.parents) → Among z xs =
    closed_taken (λ z. Among z xs) ys e.parents
    (λ z m q. let found = found_by (id_eq z.id) e.parents q in from found.0 (passes (is_held xs) e.parents found.0 ready found.1) z m (turn_eq z.id found.0 found.2))
    (λ f z t m q. from z.id (good_parents xs good_xs f t z.id q) z m (ids_alike.refl z.id)) in
    let same : SameElements (version_events xs e.parents) (version_events ys e.parents) = record {
      there = version_within xs ys e.parents (points_back [] ys ly) sub;
      back = taken_within ys xs e.parents (points_back [] xs lx) inside;
    } in
    let rows = ancestors_judge xs ys e good_xs good_ys ready (ready_more xs ys e sub ready) same in
    λ i. first_row (rows.0 i ++ rows.1 i)
