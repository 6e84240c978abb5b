-- Receiving goes on from where it ended as if it had never ended.
use Rattle.std.proofs.Common.{◌≡◌, ℕ, zero, suc, ◌≤◌, true, cond, List, [], ◌∷◌, ◌++◌, find, Option, Some, None, refl, sym, ap, ◌∙◌, subst, arith}
use Rattle.ew_model.specs.declared.event.Event.{Event}
use Rattle.ew_model.specs.Arrival.{Answer, Desk, Judgement, Outcome, arrive, at_the_pool, desk_after, desk_of, is_ready, judge_coming, judge_ready, judged, judgement_of, judgements, most_judgements, next_judgement, with_answer, without_ready}
use Rattle.ew_model.specs.Limits.{LimitNumbers}
use Rattle.ew_model.specs.Verdicts.{Ruling, first_row, later_rows, verdict}
use Rattle.ew_model.specs.Verdicts.Ruling.{Repeat, Clash, SelfParent, TooManyParents, ParentsUnsorted, Unknown, PoolFull, NotReduced, Skipped, GraphFull, OutOfRange, Good}
use Rattle.ew_model.proofs.ArrivalLaws.{judgements_end, next_less, nothing_left}
use Rattle.ew_model.proofs.JoinedJudgements.{none_made}
use Rattle.ew_model.proofs.RoundLaws.{then}
use Rattle.ew_model.proofs.RoundSteps.{enough}
use Rattle.history_laws.specs.Parts.{AreItsParts, PartsAreTheWhole}

-- the waiting event that is judged next, if one is
abbrev ready_on : Desk → Option Event
ready_on d = cond d.is_settling (find (is_ready d.held) d.waiting) None

next_by : (limits : LimitNumbers) (d : Desk) → next_judgement limits true d ≡ judge_ready limits true d (ready_on d)
unfolding next_judgement
next_by limits d = refl

-- two outcomes that leave the same, with the same answers
record AreAlike (a b : Outcome) : Type 0 where
  held : a.desk.held ≡ b.desk.held
  waits : a.desk.waiting ≡ b.desk.waiting
  answers : a.answers ≡ b.answers

module _ (limits : LimitNumbers) (ys : List Event) where
  -- more events come behind
  abbrev more : Desk → Desk
  more d = record { held = d.held; waiting = d.waiting; coming = d.coming ++ ys; is_settling = d.is_settling }

  abbrev more_left : Judgement → Judgement
  more_left j = record { desk = more j.desk; answer = j.answer }

  after_more : (r : Ruling) (e : Event) (d : Desk) → desk_after r e (more d) ≡ more (desk_after r e d)
  after_more Good e d = refl
  after_more (Unknown p) e d = refl
  after_more Repeat e d = refl
  after_more Clash e d = refl
  after_more SelfParent e d = refl
  after_more TooManyParents e d = refl
  after_more ParentsUnsorted e d = refl
  after_more PoolFull e d = refl
  after_more NotReduced e d = refl
  after_more Skipped e d = refl
  after_more GraphFull e d = refl
  after_more (OutOfRange len) e d = refl

  judged_more : (d : Desk) (e : Event) (r : Ruling) → judgement_of limits (more d) e r ≡ more_left (judgement_of limits d e r)
  judged_more d e r = λ i. record { desk = after_more (at_the_pool limits d.waiting r) e d i; answer = record { event = e; ruling = at_the_pool limits d.waiting r } }

  coming_more : (d : Desk) (coming : List Event) (j : Judgement) → judge_coming limits true d coming ≡ Some j → judge_coming limits true (more d) (coming ++ ys) ≡ Some (more_left j)
  coming_more d [] j is = let no : ⊥ = cc in absurd no
  coming_more d (e ∷ coming) j is =
      let rest : Desk = record { held = d.held; waiting = d.waiting; coming = coming; is_settling = true } in
      let same : judgement_of limits rest e (verdict limits true d.held d.waiting e) ≡ j = cc in
      ap Some (judged_more rest e (verdict limits true d.held d.waiting e)) ∙ ap (λ k. Some (more_left k)) same

  ready_more : (d : Desk) (o : Option Event) (j : Judgement) → judge_ready limits true d o ≡ Some j → judge_ready limits true (more d) o ≡ Some (more_left j)
  ready_more d None j is = coming_more d d.coming j is
  ready_more d (Some e) j is =
      let rest : Desk = record { held = d.held; waiting = without_ready d.held d.waiting; coming = d.coming; is_settling = true } in
      let same : judgement_of limits rest e (first_row (later_rows limits true d.held e)) ≡ j = cc in
      ap Some (judged_more rest e (first_row (later_rows limits true d.held e))) ∙ ap (λ k. Some (more_left k)) same

  -- a judgement isn't changed by what comes behind
  next_more : (d : Desk) (j : Judgement) → next_judgement limits true d ≡ Some j → next_judgement limits true (more d) ≡ Some (more_left j)
  next_more d j is = next_by limits (more d) ∙ ready_more d (ready_on d) j (sym (next_by limits d) ∙ is)

  -- the desk where the others are received anew
  abbrev anew : Desk → Desk
  anew d = desk_of d.held d.waiting ys

  same_coming : (d : Desk) (coming : List Event) → judge_coming limits true (more d) coming ≡ judge_coming limits true (anew d) coming
  same_coming d [] = refl
  same_coming d (e ∷ coming) = refl

  -- where nothing is left, the next judgement is the first of the others
  next_anew : (d : Desk) → next_judgement limits true d ≡ None → next_judgement limits true (more d) ≡ next_judgement limits true (anew d)
  next_anew d none =
      let left = nothing_left limits d (ready_on d) d.coming refl (sym (next_by limits d) ∙ none) in
      next_by limits (more d)
      ∙ (λ i. judge_ready limits true (more d) (left.0 i))
      ∙ (λ i. judge_coming limits true (more d) (left.1 i ++ ys))
      ∙ same_coming d ys
      ∙ sym (next_by limits (anew d))

  alike_then : (n : ℕ) (d : Desk) (o : Option Judgement) → AreAlike (then limits true n (more d) o) (then limits true n (anew d) o)
  alike_then n d None = record { held = refl; waits = refl; answers = refl }
  alike_then n d (Some j) = record { held = refl; waits = refl; answers = refl }

  same_most : (d : Desk) → d.coming ≡ [] → most_judgements (more d) ≡ most_judgements (anew d)
  same_most d none = ap (λ (zs : List Event). most_judgements (desk_of d.held d.waiting (zs ++ ys))) none

  one_longer : (d : Desk) → judged limits true d ≡ then limits true (most_judgements d) d (next_judgement limits true d)
  one_longer d = enough limits true (most_judgements d) (suc (most_judgements d)) d (omega arith) (omega arith)

  ends_anew : (d : Desk) → next_judgement limits true d ≡ None → AreAlike (judged limits true (more d)) (judged limits true (anew d))
  ends_anew d none =
      let left = nothing_left limits d (ready_on d) d.coming refl (sym (next_by limits d) ∙ none) in
      let n = most_judgements (anew d) in
      let a : judged limits true (more d) ≡ then limits true n (more d) (next_judgement limits true (anew d)) =
      one_longer (more d) ∙ (λ i. then limits true (same_most d left.1 i) (more d) (next_anew d none i)) in
      subst (λ (o : Outcome). AreAlike o (judged limits true (anew d))) (sym a)
      (subst (λ (o : Outcome). AreAlike (then limits true n (more d) (next_judgement limits true (anew d))) o) (sym (one_longer (anew d))) (alike_then n d (next_judgement limits true (anew d))))

  ended : (d : Desk) → AreAlike (judged limits true (more d)) (judged limits true (anew d)) → AreItsParts (judged limits true (more d)) (record { desk = d; answers = [] }) (judged limits true (anew d))
  ended d alike = record { held = alike.held; waits = alike.waits; answers = alike.answers }

  one_further : (j : Judgement) (whole first second : Outcome) → AreItsParts whole first second → AreItsParts (with_answer j.answer whole) (with_answer j.answer first) second
  one_further j whole first second parts = record { held = parts.held; waits = parts.waits; answers = ap (λ (others : List Answer). j.answer ∷ others) parts.answers }

  after_judgement : (d : Desk) (j : Judgement) → next_judgement limits true d ≡ Some j → judged limits true (more d) ≡ with_answer j.answer (judged limits true (more j.desk))
  after_judgement d j is =
      let fewer = next_less limits true (more d) (more_left j) (next_more d j is) in
      one_longer (more d)
      ∙ ap (then limits true (most_judgements (more d)) (more d)) (next_more d j is)
      ∙ ap (with_answer j.answer) (enough limits true (most_judgements (more d)) (most_judgements (more j.desk)) (more j.desk) (omega (arith, fewer)) (omega arith))

  abbrev Parted : ℕ → Desk → Outcome → Type 0
  Parted n d o = AreItsParts (judged limits true (more d)) o (judged limits true (anew o.desk))

  by_next : (n : ℕ) (d : Desk) (o : Option Judgement) → next_judgement limits true d ≡ o → ((j : Judgement) → o ≡ Some j → Parted n j.desk (judgements limits true n j.desk)) → Parted (suc n) d (then limits true n d o)
  by_next n d None is f = ended d (ends_anew d is)
  by_next n d (Some j) is f =
      subst (λ (o : Outcome). AreItsParts o (with_answer j.answer (judgements limits true n j.desk)) (judged limits true (anew (judgements limits true n j.desk).desk))) (sym (after_judgement d j is))
      (one_further j (judged limits true (more j.desk)) (judgements limits true n j.desk) (judged limits true (anew (judgements limits true n j.desk).desk)) (f j refl))

  parted : (n : ℕ) (d : Desk) → most_judgements d ≤ n → Parted n d (judgements limits true n d)
  parted zero d few = ended d (ends_anew d (judgements_end limits true zero d few))
  parted (suc n) d few = by_next n d (next_judgement limits true d) refl (λ j is. let fewer = next_less limits true d j is in parted n j.desk (omega (arith, few, fewer)))

pub parts_are_the_whole : PartsAreTheWhole
unfolding arrive
parts_are_the_whole limits history waiting xs ys = let d = desk_of history waiting xs in parted limits ys (most_judgements d) d (omega arith)

-- where nothing is received all stays
pub nothing_arrives : (limits : LimitNumbers) (history waiting : List Event) → arrive limits history waiting [] ≡ record { desk = desk_of history waiting []; answers = [] }
unfolding arrive next_judgement
nothing_arrives limits history waiting = none_made limits true (most_judgements (desk_of history waiting [])) (desk_of history waiting []) refl
