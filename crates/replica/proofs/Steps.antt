-- What a judgement leaves, and how it is counted.
use Rattle.std.proofs.Common.{◌≡◌, ℕ, ◌+◌, ◌<◌, ◌==◌, get_or, nat_le, Bool, true, false, cond, List, [], ◌∷◌, ◌++◌, drop, find, length, Option, Some, None, option_map, refl, sym, ap, ◌∙◌, subst, arith}
use Rattle.std.proofs.lemmas.List.{drop_more}
use Rattle.ew_model.specs.declared.id.Id.{Id}
use Rattle.ew_model.specs.declared.event.Event.{Event}
use Rattle.ew_model.specs.declared.verdict.Refusal.{Refusal}
use Rattle.ew_model.specs.Arrival.{Desk, Answer, Judgement, is_ready, without_ready, judgement_of, judge_coming, judge_ready, next_judgement}
use Rattle.ew_model.specs.Limits.{LimitNumbers}
use Rattle.ew_model.specs.Verdicts.{Ruling, first_row, later_rows, verdict}
use Rattle.ew_model.specs.Verdicts.Ruling.{Repeat, Clash, SelfParent, TooManyParents, ParentsUnsorted, Unknown, PoolFull, NotReduced, Skipped, GraphFull, OutOfRange, Good}
use Rattle.replica.specs.declared.answer.Answer as program
use Rattle.replica.specs.Counting.{Counted, with_more}
use Rattle.replica.specs.Desks.{Judges, answer_by, known_at, pooled, held_by, waiting_by, refused_at, repeats_at, with_known, desk_at, IsBegun}
use Rattle.history_definitions.specs.Tallies.{repeats_in, refused_in}

-- a desk where these wait and these are to come, with the same events held, and one was judged
abbrev pub rest_of : Desk → List Event → List Event → Desk
rest_of d waiting coming = record { held = d.held; waiting = waiting; coming = coming; is_settling = true }

-- what the program does by an answer is what the judgement leaves
pub record IsGiven (d : Desk) (waiting coming : List Event) (e : Event) (j : Judgement) (a : program.Answer) : Type 0 where
  pub desk : record { held = held_by a e d.held; waiting = waiting_by a e waiting; coming = coming; is_settling = true } ≡ j.desk
  pub answer : a ≡ answer_by j.answer.ruling
  pub refused : refused_at e.id a ≡ refused_in (j.answer ∷ [])
  pub repeats : repeats_at a ≡ repeats_in (j.answer ∷ [])

unknown_at : (d : Desk) (waiting coming : List Event) (e : Event) (p : Id) (out : Option (ℕ × ℕ)) (b : Bool)
    → IsGiven d waiting coming e
    (with_known out d (record { desk = Rattle.ew_model.specs.Arrival.desk_after (cond b PoolFull (Unknown p)) e (rest_of d waiting coming); answer = record { event = e; ruling = cond b PoolFull (Unknown p) } }))
    (cond b (answer_by PoolFull) (answer_by (Unknown p)))
unknown_at d waiting coming e p None true = record { desk = refl; answer = refl; refused = refl; repeats = refl }
unknown_at d waiting coming e p None false = record { desk = refl; answer = refl; refused = refl; repeats = refl }
unknown_at d waiting coming e p (Some out) true = record { desk = refl; answer = refl; refused = refl; repeats = refl }
unknown_at d waiting coming e p (Some out) false = record { desk = refl; answer = refl; refused = refl; repeats = refl }

pub given : (limits : LimitNumbers) (out : Option (ℕ × ℕ)) (d : Desk) (waiting coming : List Event) (e : Event) (r : Ruling)
    → IsGiven d waiting coming e (with_known out d (judgement_of limits (rest_of d waiting coming) e r)) (pooled (nat_le limits.waiting (length waiting)) (known_at out (length d.held) (answer_by r)))
given limits None d waiting coming e Good = record { desk = refl; answer = refl; refused = refl; repeats = refl }
given limits (Some out) d waiting coming e Good = at (length d.held == out.0)
  where
    at : (b : Bool) → IsGiven d waiting coming e
        (cond b (record { desk = record { held = d.held; waiting = waiting; coming = coming; is_settling = true }; answer = record { event = e; ruling = OutOfRange out.1 } })
        (record { desk = record { held = d.held ++ e ∷ []; waiting = waiting; coming = coming; is_settling = true }; answer = record { event = e; ruling = Good } }))
        (pooled (nat_le limits.waiting (length waiting)) (cond b (answer_by (OutOfRange out.1)) (answer_by Good)))
    at true = record { desk = refl; answer = refl; refused = refl; repeats = refl }
    at false = record { desk = refl; answer = refl; refused = refl; repeats = refl }
given limits None d waiting coming e (Unknown p) = unknown_at d waiting coming e p None (nat_le limits.waiting (length waiting))
given limits (Some out) d waiting coming e (Unknown p) = unknown_at d waiting coming e p (Some out) (nat_le limits.waiting (length waiting))
given limits None d waiting coming e Repeat = record { desk = refl; answer = refl; refused = refl; repeats = refl }
given limits (Some out) d waiting coming e Repeat = record { desk = refl; answer = refl; refused = refl; repeats = refl }
given limits None d waiting coming e Clash = record { desk = refl; answer = refl; refused = refl; repeats = refl }
given limits (Some out) d waiting coming e Clash = record { desk = refl; answer = refl; refused = refl; repeats = refl }
given limits None d waiting coming e SelfParent = record { desk = refl; answer = refl; refused = refl; repeats = refl }
given limits (Some out) d waiting coming e SelfParent = record { desk = refl; answer = refl; refused = refl; repeats = refl }
given limits None d waiting coming e TooManyParents = record { desk = refl; answer = refl; refused = refl; repeats = refl }
given limits (Some out) d waiting coming e TooManyParents = record { desk = refl; answer = refl; refused = refl; repeats = refl }
given limits None d waiting coming e ParentsUnsorted = record { desk = refl; answer = refl; refused = refl; repeats = refl }
given limits (Some out) d waiting coming e ParentsUnsorted = record { desk = refl; answer = refl; refused = refl; repeats = refl }
given limits None d waiting coming e PoolFull = record { desk = refl; answer = refl; refused = refl; repeats = refl }
given limits (Some out) d waiting coming e PoolFull = record { desk = refl; answer = refl; refused = refl; repeats = refl }
given limits None d waiting coming e NotReduced = record { desk = refl; answer = refl; refused = refl; repeats = refl }
given limits (Some out) d waiting coming e NotReduced = record { desk = refl; answer = refl; refused = refl; repeats = refl }
given limits None d waiting coming e Skipped = record { desk = refl; answer = refl; refused = refl; repeats = refl }
given limits (Some out) d waiting coming e Skipped = record { desk = refl; answer = refl; refused = refl; repeats = refl }
given limits None d waiting coming e GraphFull = record { desk = refl; answer = refl; refused = refl; repeats = refl }
given limits (Some out) d waiting coming e GraphFull = record { desk = refl; answer = refl; refused = refl; repeats = refl }
given limits None d waiting coming e (OutOfRange len) = record { desk = refl; answer = refl; refused = refl; repeats = refl }
given limits (Some out) d waiting coming e (OutOfRange len) = record { desk = refl; answer = refl; refused = refl; repeats = refl }

-- the judgement of a waiting event that is ready
pub ready_next : (limits : LimitNumbers) (b : Bool) (d : Desk) (e : Event) → d.is_settling ≡ true → find (is_ready d.held) d.waiting ≡ Some e
    → next_judgement limits b d ≡ Some (judgement_of limits (rest_of d (without_ready d.held d.waiting) d.coming) e (first_row (later_rows limits b d.held e)))
unfolding next_judgement
ready_next limits b d e settling found = ap (judge_ready limits b d) (ap (λ (s : Bool). cond s (find (is_ready d.held) d.waiting) None) settling ∙ found)

-- where none is judged
none_ready : (d : Desk) (b : Bool) → d.is_settling ≡ b → (d.is_settling ≡ true → find (is_ready d.held) d.waiting ≡ None) → cond d.is_settling (find (is_ready d.held) d.waiting) None ≡ None
none_ready d true is none = ap (λ (s : Bool). cond s (find (is_ready d.held) d.waiting) None) is ∙ none is
none_ready d false is none = ap (λ (s : Bool). cond s (find (is_ready d.held) d.waiting) None) is

-- the judgement of the next received event
pub coming_next : (limits : LimitNumbers) (b : Bool) (d : Desk) (e : Event) (coming : List Event) → (d.is_settling ≡ true → find (is_ready d.held) d.waiting ≡ None) → d.coming ≡ e ∷ coming
    → next_judgement limits b d ≡ Some (judgement_of limits (rest_of d d.waiting coming) e (verdict limits b d.held d.waiting e))
unfolding next_judgement
coming_next limits b d e coming none is = ap (judge_ready limits b d) (none_ready d d.is_settling refl none) ∙ ap (judge_coming limits b d) is

-- the next received event, and those behind it
pub next_coming : (events : List Event) (n k : ℕ) (e : Event) → k ≡ n → k < length events → e ≡ get_or events k e → drop n events ≡ e ∷ drop (n + 1) events
next_coming events n k e same within is =
    ap (λ m. drop m events) (sym same) ∙ drop_more events k e within ∙ ap (λ x. x ∷ drop (k + 1) events) (sym is) ∙ ap (λ m. e ∷ drop (m + 1) events) same

-- desks are the same by their parts
pub same_desk : (graph held pool waiting events : List Event) (c k : Counted) → graph ≡ held → pool ≡ waiting → c ≡ k → desk_at graph pool events c ≡ desk_at held waiting events k
same_desk graph held pool waiting events c k g p h = λ i. desk_at (g i) (p i) events (h i)

-- a settling desk by its parts
pub settling_desk : (graph held pool waiting events : List Event) (c k : Counted) → graph ≡ held → pool ≡ waiting → c ≡ k → k.settling ≡ true
    → desk_at graph pool events c ≡ record { held = held; waiting = waiting; coming = drop k.judged events; is_settling = true }
settling_desk graph held pool waiting events c k g p h s =
    same_desk graph held pool waiting events c k g p h ∙ (λ i. record { held = held; waiting = waiting; coming = drop k.judged events; is_settling = s i })

-- what is begun stays so where no repeat is counted
pub still_begun : (events : List Event) (c k : Counted) (n : ℕ) (refused : List (Id × Refusal)) → n ≡ 0 → k ≡ with_more c n refused → IsBegun events c → IsBegun events k
still_begun events c k n refused none is begun =
    subst (IsBegun events) (sym is) (record { within = begun.within; repeats = let few = begun.repeats in omega (arith, none, few) })

pub coming_none : (limits : LimitNumbers) (b : Bool) (d : Desk) → (d.is_settling ≡ true → find (is_ready d.held) d.waiting ≡ None) → d.coming ≡ [] → next_judgement limits b d ≡ None
unfolding next_judgement
coming_none limits b d none is = ap (judge_ready limits b d) (none_ready d d.is_settling refl none) ∙ ap (judge_coming limits b d) is

-- a judgement that the program makes
pub judges : (limits : LimitNumbers) (out : Option (ℕ × ℕ)) (d new : Desk) (before after : Counted) (waiting coming : List Event) (e : Event) (r : Ruling) (a : program.Answer)
    → next_judgement limits false d ≡ Some (judgement_of limits (rest_of d waiting coming) e r)
    → a ≡ pooled (nat_le limits.waiting (length waiting)) (known_at out (length d.held) (answer_by r))
    → new ≡ record { held = held_by a e d.held; waiting = waiting_by a e waiting; coming = coming; is_settling = true }
    → after.repeats ≡ before.repeats + repeats_at a → after.refused ≡ before.refused ++ refused_at e.id a
    → Judges limits out d new before after (Some a)
judges limits out d new before after waiting coming e r a next is left repeats refused =
    let final = pooled (nat_le limits.waiting (length waiting)) (known_at out (length d.held) (answer_by r)) in
    let j = with_known out d (judgement_of limits (rest_of d waiting coming) e r) in
    let g : IsGiven d waiting coming e j a = subst (IsGiven d waiting coming e j) (sym is) (given limits out d waiting coming e r) in (
      j,
      ap (option_map (with_known out d)) next,
      left ∙ g.desk,
      g.answer,
      record { repeats = repeats ∙ ap (λ n. before.repeats + n) g.repeats; refused = refused ∙ ap (λ l. before.refused ++ l) g.refused },
    )
