-- What receiving leaves: what was known of all events on the desk is known of those held and waiting, and all that was held is held.
use Rattle.std.proofs.Common.{◌≡◌, ℕ, zero, suc, Bool, true, false, cond, ◌||◌, List, [], ◌∷◌, ◌++◌, find, Option, Some, None, refl, ap, ◌∙◌, subst}
use Rattle.std.specs.List.{AllByRecursion}
use Rattle.std.specs.Option.{option_map_or}
use Rattle.ew_model.specs.declared.id.Id.{Id}
use Rattle.ew_model.specs.declared.event.Event.{Event}
use Rattle.ew_model.specs.Ancestors.{is_held}
use Rattle.ew_model.specs.Limits.{LimitNumbers}
use Rattle.ew_model.specs.Verdicts.{Ruling, first_row, later_rows, verdict}
use Rattle.ew_model.specs.Verdicts.Ruling.{Repeat, Clash, SelfParent, TooManyParents, ParentsUnsorted, Unknown, PoolFull, NotReduced, Skipped, GraphFull, OutOfRange, Good}
use Rattle.ew_model.specs.Arrival.{Desk, Judgement, Outcome, is_ready, without_ready, at_the_pool, desk_after, judgement_of, judge_coming, judge_ready, next_judgement, judgements, with_answer}
use Rattle.ew_model.proofs.KeptLaws.{held_joined}
use Rattle.ew_model.proofs.EntryLaws.{all_joined}

pub record KnowsDesk (P : Event → Type 0) (d : Desk) : Type 0 where
  pub held : AllByRecursion P d.held
  pub waiting : AllByRecursion P d.waiting
  pub coming : AllByRecursion P d.coming

abbrev pub HoldsMore : List Event → List Event → Type 0
HoldsMore old new = (x : Id) → is_held old x ≡ true → is_held new x ≡ true

pub held_more : (xs ys : List Event) → HoldsMore xs (xs ++ ys)
held_more xs ys x h = held_joined xs ys x ∙ ap (λ b. b || is_held ys x) h

found_step : (P : Event → Type 0) (b : Bool) (x e : Event) (o : Option Event) → cond b (Some x) o ≡ Some e → P x → (o ≡ Some e → P e) → P e
found_step P true x e o q p rest = let same : x ≡ e = cc in subst P same p
found_step P false x e o q p rest = rest q

found : (P : Event → Type 0) (f : Event → Bool) (xs : List Event) (e : Event) → find f xs ≡ Some e → AllByRecursion P xs → P e
found P f [] e q a = let no : ⊥ = cc in absurd no
found P f (x ∷ xs) e q (p, ps) = found_step P (f x) x e (find f xs) q p (λ r. found P f xs e r ps)

without_step : (P : Event → Type 0) (b : Bool) (x : Event) (xs ys : List Event) → P x → AllByRecursion P xs → AllByRecursion P ys → AllByRecursion P (cond b xs (x ∷ ys))
without_step P true x xs ys p a c = a
without_step P false x xs ys p a c = (p, c)

without : (P : Event → Type 0) (held xs : List Event) → AllByRecursion P xs → AllByRecursion P (without_ready held xs)
without P held [] a = tt
without P held (x ∷ xs) (p, ps) = without_step P (is_ready held x) x xs (without_ready held xs) p ps (without P held xs ps)

-- the desk after a ruling
abbrev pub Grown : (Event → Type 0) → Desk → Desk → Type 0
Grown P d next = KnowsDesk P next × HoldsMore d.held next.held

same : (P : Event → Type 0) (d : Desk) → KnowsDesk P d → Grown P d (record { held = d.held; waiting = d.waiting; coming = d.coming; is_settling = true })
same P d k = (record { held = k.held; waiting = k.waiting; coming = k.coming }, λ x h. h)

after : (P : Event → Type 0) (r : Ruling) (e : Event) (d : Desk) → KnowsDesk P d → P e → Grown P d (desk_after r e d)
after P Good e d k p = (record { held = all_joined P d.held (e ∷ []) k.held (p, tt); waiting = k.waiting; coming = k.coming }, held_more d.held (e ∷ []))
after P (Unknown y) e d k p = (record { held = k.held; waiting = all_joined P d.waiting (e ∷ []) k.waiting (p, tt); coming = k.coming }, λ x h. h)
after P Repeat e d k p = same P d k
after P Clash e d k p = same P d k
after P SelfParent e d k p = same P d k
after P TooManyParents e d k p = same P d k
after P ParentsUnsorted e d k p = same P d k
after P PoolFull e d k p = same P d k
after P NotReduced e d k p = same P d k
after P Skipped e d k p = same P d k
after P GraphFull e d k p = same P d k
after P (OutOfRange len) e d k p = same P d k

by_coming : (P : Event → Type 0) (limits : LimitNumbers) (d : Desk) (coming : List Event) (j : Judgement) → judge_coming limits true d coming ≡ Some j → KnowsDesk P d → AllByRecursion P coming → Grown P d j.desk
by_coming P limits d [] j q k a = let no : ⊥ = cc in absurd no
by_coming P limits d (e ∷ coming) j q k (p, ps) =
    let there : Desk = record { held = d.held; waiting = d.waiting; coming = coming; is_settling = true } in
    let made = judgement_of limits there e (verdict limits true d.held d.waiting e) in
    let is : made ≡ j = cc in
    subst (λ (m : Judgement). Grown P d m.desk) is
    (after P (at_the_pool limits d.waiting (verdict limits true d.held d.waiting e)) e there (record { held = k.held; waiting = k.waiting; coming = ps }) p)

by_ready : (P : Event → Type 0) (limits : LimitNumbers) (d : Desk) (o : Option Event) (j : Judgement) → judge_ready limits true d o ≡ Some j → KnowsDesk P d → ((e : Event) → o ≡ Some e → P e) → Grown P d j.desk
by_ready P limits d None j q k a = by_coming P limits d d.coming j q k k.coming
by_ready P limits d (Some e) j q k a =
    let there : Desk = record { held = d.held; waiting = without_ready d.held d.waiting; coming = d.coming; is_settling = true } in
    let ruling = first_row (later_rows limits true d.held e) in
    let made = judgement_of limits there e ruling in
    let is : made ≡ j = cc in
    subst (λ (m : Judgement). Grown P d m.desk) is
    (after P (at_the_pool limits there.waiting ruling) e there (record { held = k.held; waiting = without P d.held d.waiting k.waiting; coming = k.coming }) (a e refl))

ready_known : (P : Event → Type 0) (b : Bool) (d : Desk) (e : Event) → KnowsDesk P d → cond b (find (is_ready d.held) d.waiting) None ≡ Some e → P e
ready_known P true d e k q = found P (is_ready d.held) d.waiting e q k.waiting
ready_known P false d e k q = let no : ⊥ = cc in absurd no

next : (P : Event → Type 0) (limits : LimitNumbers) (d : Desk) (j : Judgement) → next_judgement limits true d ≡ Some j → KnowsDesk P d → Grown P d j.desk
unfolding next_judgement
next P limits d j q k = by_ready P limits d (cond d.is_settling (find (is_ready d.held) d.waiting) None) j q k (λ e. ready_known P d.is_settling d e k)

-- a judgement, and those behind it
one_more : (P : Event → Type 0) (limits : LimitNumbers) (d : Desk) (rest : Desk → Outcome) (o : Option Judgement) → next_judgement limits true d ≡ o → KnowsDesk P d → ((j : Judgement) → KnowsDesk P j.desk → Grown P j.desk (rest j.desk).desk)
    → Grown P d (option_map_or (λ j. with_answer j.answer (rest j.desk)) o (record { desk = d; answers = [] })).desk
one_more P limits d rest None q k grows = (k, λ x h. h)
one_more P limits d rest (Some j) q k grows =
    let first = next P limits d j q k in
    let later = grows j first.0 in
    (later.0, λ x h. later.1 x (first.1 x h))

-- up to n judgements
pub judgements_grow : (P : Event → Type 0) (limits : LimitNumbers) (n : ℕ) (d : Desk) → KnowsDesk P d → Grown P d (judgements limits true n d).desk
judgements_grow P limits zero d k = (k, λ x h. h)
judgements_grow P limits (suc n) d k = one_more P limits d (judgements limits true n) (next_judgement limits true d) refl k (λ j known. judgements_grow P limits n j.desk known)
