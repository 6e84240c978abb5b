-- Where receiving stops between two judgements, a front of it was done.
use Rattle.std.proofs.Common.{◌≡◌, ℕ, zero, suc, Bool, true, cond, List, [], ◌∷◌, ◌++◌, Option, Some, None, find, refl, sym, ap, ◌∙◌, subst, append_assoc}
use Rattle.ew_model.specs.declared.event.Event.{Event}
use Rattle.ew_model.specs.Arrival.{Desk, Judgement, Outcome, is_ready, without_ready, at_the_pool, desk_after, judgement_of, judge_coming, judge_ready, next_judgement, judgements, most_judgements, desk_of, arrive}
use Rattle.ew_model.specs.Limits.{LimitNumbers}
use Rattle.ew_model.specs.Verdicts.{Ruling, first_row, id_rows, later_rows}
use Rattle.ew_model.specs.Verdicts.Ruling.{Repeat, Clash, SelfParent, TooManyParents, ParentsUnsorted, Unknown, PoolFull, NotReduced, Skipped, GraphFull, OutOfRange, Good}
use Rattle.ew_model.specs.StopLaws.{JudgementsAreAFront}
use Rattle.ew_model.proofs.RoundLaws.{then}
use Rattle.ew_model.proofs.RoundSteps.{grown_all}
use Rattle.ew_model.proofs.JoinedJudgements.{judged_behind}

-- what is to come gets shorter at its front
abbrev pub Settles : List Event → List Event → Type 0
Settles xs ys = (settled : List Event) × (xs ≡ settled ++ ys)

settles_on : (xs ys zs : List Event) → Settles xs ys → Settles ys zs → Settles xs zs
settles_on xs ys zs s t = (s.0 ++ t.0, s.1 ∙ (ap (λ w. s.0 ++ w) t.1 ∙ sym (append_assoc s.0 t.0 zs)))

-- no ruling changes what is to come
pub coming_stays : (r : Ruling) (e : Event) (d : Desk) → (desk_after r e d).coming ≡ d.coming
coming_stays Good e d = refl
coming_stays (Unknown p) e d = refl
coming_stays Repeat e d = refl
coming_stays Clash e d = refl
coming_stays SelfParent e d = refl
coming_stays TooManyParents e d = refl
coming_stays ParentsUnsorted e d = refl
coming_stays PoolFull e d = refl
coming_stays NotReduced e d = refl
coming_stays Skipped e d = refl
coming_stays GraphFull e d = refl
coming_stays (OutOfRange len) e d = refl

settles_coming : (limits : LimitNumbers) (b : Bool) (d : Desk) (coming : List Event) (j : Judgement) → judge_coming limits b d coming ≡ Some j → Settles coming j.desk.coming
settles_coming limits b d [] j e = let no : ⊥ = cc in absurd no
settles_coming limits b d (x ∷ coming) j e =
    let rest : Desk = record { held = d.held; waiting = d.waiting; coming = coming; is_settling = true } in
    let first = first_row (id_rows d.held d.waiting x ++ later_rows limits b d.held x) in
    let same : judgement_of limits rest x first ≡ j = cc in
    subst (λ (i : Judgement). Settles (x ∷ coming) i.desk.coming) same (x ∷ [], ap (λ (w : List Event). x ∷ w) (sym (coming_stays (at_the_pool limits d.waiting first) x rest)))

settles_ready : (limits : LimitNumbers) (b : Bool) (d : Desk) (o : Option Event) (j : Judgement) → judge_ready limits b d o ≡ Some j → Settles d.coming j.desk.coming
settles_ready limits b d None j e = settles_coming limits b d d.coming j e
settles_ready limits b d (Some x) j e =
    let less = without_ready d.held d.waiting in
    let rest : Desk = record { held = d.held; waiting = less; coming = d.coming; is_settling = true } in
    let first = first_row (later_rows limits b d.held x) in
    let same : judgement_of limits rest x first ≡ j = cc in
    subst (λ (i : Judgement). Settles d.coming i.desk.coming) same ([], sym (coming_stays (at_the_pool limits less first) x rest))

settles_next : (limits : LimitNumbers) (b : Bool) (d : Desk) (j : Judgement) → next_judgement limits b d ≡ Some j → Settles d.coming j.desk.coming
unfolding next_judgement
settles_next limits b d j e = settles_ready limits b d (cond d.is_settling (find (is_ready d.held) d.waiting) None) j e

settles_step : (limits : LimitNumbers) (b : Bool) (n : ℕ) (d : Desk) (o : Option Judgement) → ((j : Judgement) → o ≡ Some j → Settles d.coming (judgements limits b n j.desk).desk.coming) → Settles d.coming (then limits b n d o).desk.coming
settles_step limits b n d None f = ([], refl)
settles_step limits b n d (Some j) f = f j refl

settles_all : (limits : LimitNumbers) (b : Bool) (n : ℕ) (d : Desk) → Settles d.coming (judgements limits b n d).desk.coming
settles_all limits b zero d = ([], refl)
settles_all limits b (suc n) d =
    settles_step limits b n d (next_judgement limits b d) (λ j e. settles_on d.coming j.desk.coming (judgements limits b n j.desk).desk.coming (settles_next limits b d j e) (settles_all limits b n j.desk))

-- The law of stopping.
pub judgements_are_a_front : JudgementsAreAFront
unfolding arrive
judgements_are_a_front limits held waiting events n =
    let d = desk_of held waiting events in
    let o = judgements limits true n d in
    let all = judged_behind limits true n d in
    let later = judgements limits true (most_judgements d) o.desk in
    let more = grown_all limits true (most_judgements d) o.desk in
    record {
      held = (more.0, ap (λ (w : Outcome). w.desk.held) all ∙ more.1);
      answers = (later.answers, ap (λ (w : Outcome). w.answers) all);
      received = settles_all limits true n d;
    }
