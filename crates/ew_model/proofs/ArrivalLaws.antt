-- Judgements come to an end: no waiting event is ready then, and nothing is left to come.
use Rattle.std.proofs.Common.{◌≡◌, ℕ, zero, suc, ◌+◌, ◌*◌, ◌<◌, ◌≤◌, Bool, true, false, not, cond, List, [], ◌∷◌, ◌++◌, find, length, Option, Some, None, option_map, refl, sym, ap, ◌∙◌, subst, arith, length-append}
use Rattle.std.specs.List.{list_all, AllByRecursion}
use Rattle.std.specs.Bool.{then_some}
use Rattle.std.specs.Option.{option_map_or}
use Rattle.std.proofs.lemmas.Bool.{false≢true, and_parts}
use Rattle.ew_model.specs.declared.id.Id.{Id}
use Rattle.ew_model.specs.declared.event.Event.{Event}
use Rattle.ew_model.specs.Ancestors.{is_held}
use Rattle.ew_model.specs.Limits.{LimitNumbers}
use Rattle.ew_model.specs.Verdicts.{Ruling, first_row, id_rows, parent_rows, size_rows, range_rows, later_rows}
use Rattle.ew_model.specs.Arrival.{Desk, Judgement, is_ready, without_ready, at_the_pool, desk_after, judgement_of, judge_coming, judge_ready, next_judgement, judgements, most_judgements, with_answer}
use Rattle.ew_model.specs.Verdicts.Ruling.{Repeat, Clash, SelfParent, TooManyParents, ParentsUnsorted, Unknown, PoolFull, NotReduced, Skipped, GraphFull, OutOfRange, Good}

-- the ruling names an unknown parent
abbrev pub is_unknown : Ruling → Bool
is_unknown (Unknown p) = true
is_unknown ruling = false

one_more : (r : Ruling) (e : Event) (d : Desk) → most_judgements (desk_after r e d) ≤ most_judgements d + 1
one_more (Unknown p) e d = omega (arith, length-append d.waiting (e ∷ []))
one_more Repeat e d = omega arith
one_more Clash e d = omega arith
one_more SelfParent e d = omega arith
one_more TooManyParents e d = omega arith
one_more ParentsUnsorted e d = omega arith
one_more PoolFull e d = omega arith
one_more NotReduced e d = omega arith
one_more Skipped e d = omega arith
one_more GraphFull e d = omega arith
one_more (OutOfRange len) e d = omega arith
one_more Good e d = omega arith

no_more : (r : Ruling) (e : Event) (d : Desk) → is_unknown r ≡ false → most_judgements (desk_after r e d) ≡ most_judgements d
no_more (Unknown p) e d h = absurd (false≢true (sym h))
no_more Repeat e d h = refl
no_more Clash e d h = refl
no_more SelfParent e d h = refl
no_more TooManyParents e d h = refl
no_more ParentsUnsorted e d h = refl
no_more PoolFull e d h = refl
no_more NotReduced e d h = refl
no_more Skipped e d h = refl
no_more GraphFull e d h = refl
no_more (OutOfRange len) e d h = refl
no_more Good e d h = refl

-- an event whose parents are all held has no unknown parent
pub no_unknown_parent : (held : List Event) (ps : List Id) → list_all (is_held held) ps ≡ true → find (λ p. not (is_held held p)) ps ≡ None
no_unknown_parent held [] h = refl
no_unknown_parent held (p ∷ ps) h =
    let parts = and_parts (is_held held p) (list_all (is_held held) ps) h in
    ap (λ b. cond (not b) (Some p) (find (λ p. not (is_held held p)) ps)) parts.0 ∙ no_unknown_parent held ps parts.1

-- a row doesn't say Unknown
known_row : (b : Bool) (r : Ruling) → is_unknown r ≡ false → (x : Ruling) → then_some b r ≡ Some x → is_unknown x ≡ false
known_row true r h x e = let same : r ≡ x = cc in ap is_unknown (sym same) ∙ h
known_row false r h x e = cc

unknown_row : (o : Option Id) → o ≡ None → (x : Ruling) → option_map Unknown o ≡ Some x → is_unknown x ≡ false
unknown_row None h x e = cc
unknown_row (Some p) h x e = cc

rows_known : (rows : List (Option Ruling)) → AllByRecursion (λ r. (x : Ruling) → r ≡ Some x → is_unknown x ≡ false) rows → is_unknown (first_row rows) ≡ false
rows_known [] h = refl
rows_known (None ∷ rows) h = rows_known rows h.1
rows_known (Some r ∷ rows) h = h.0 r refl

range_known : (held : List Event) (e : Event) (b : Bool) → AllByRecursion (λ r. (x : Ruling) → r ≡ Some x → is_unknown x ≡ false) (cond b (range_rows held e) [])
unfolding range_rows
range_known held e true = (known_row _ (OutOfRange _) refl, tt)
range_known held e false = tt

-- no row of an event whose parents are all held says Unknown
pub ready_known : (limits : LimitNumbers) (in_range : Bool) (held : List Event) (e : Event) → is_ready held e ≡ true → is_unknown (first_row (later_rows limits in_range held e)) ≡ false
unfolding parent_rows size_rows
ready_known limits in_range held e h =
    rows_known (later_rows limits in_range held e) (
      known_row _ SelfParent refl,
      (
        known_row _ TooManyParents refl,
        (
          known_row _ ParentsUnsorted refl,
          (
            unknown_row _ (no_unknown_parent held e.parents h),
            (known_row _ NotReduced refl, (known_row _ Skipped refl, (known_row _ GraphFull refl, range_known held e in_range))),
          ),
        ),
      ),
    )

pub pool_known : (limits : LimitNumbers) (waiting : List Event) (r : Ruling) → is_unknown r ≡ false → is_unknown (at_the_pool limits waiting r) ≡ false
pool_known limits waiting (Unknown p) h = absurd (false≢true (sym h))
pool_known limits waiting Repeat h = refl
pool_known limits waiting Clash h = refl
pool_known limits waiting SelfParent h = refl
pool_known limits waiting TooManyParents h = refl
pool_known limits waiting ParentsUnsorted h = refl
pool_known limits waiting PoolFull h = refl
pool_known limits waiting NotReduced h = refl
pool_known limits waiting Skipped h = refl
pool_known limits waiting GraphFull h = refl
pool_known limits waiting (OutOfRange len) h = refl
pool_known limits waiting Good h = refl

-- the ready event is one less
ready_found_at : (held : List Event) (x e : Event) (waiting : List Event) (b : Bool) → is_ready held x ≡ b → cond b (Some x) (find (is_ready held) waiting) ≡ Some e
    → ((find (is_ready held) waiting ≡ Some e → (is_ready held e ≡ true) × (length (without_ready held waiting) + 1 ≡ length waiting)))
    → (is_ready held e ≡ true) × (length (cond b waiting (x ∷ without_ready held waiting)) + 1 ≡ length (x ∷ waiting))
ready_found_at held x e waiting true h found f = let same : x ≡ e = cc in (ap (is_ready held) (sym same) ∙ h, omega arith)
ready_found_at held x e waiting false h found f = let more = f found in (more.0, omega (arith, more.1))

pub ready_found : (held : List Event) (waiting : List Event) (e : Event) → find (is_ready held) waiting ≡ Some e → (is_ready held e ≡ true) × (length (without_ready held waiting) + 1 ≡ length waiting)
ready_found held [] e found = let no : ⊥ = cc in absurd no
ready_found held (x ∷ waiting) e found = ready_found_at held x e waiting (is_ready held x) refl found (ready_found held waiting e)

coming_less : (limits : LimitNumbers) (in_range : Bool) (d : Desk) (coming : List Event) (j : Judgement) → d.coming ≡ coming → judge_coming limits in_range d coming ≡ Some j → most_judgements j.desk < most_judgements d
coming_less limits in_range d [] j is e = let no : ⊥ = cc in absurd no
coming_less limits in_range d (x ∷ coming) j is e =
    let rest : Desk = record { held = d.held; waiting = d.waiting; coming = coming; is_settling = true } in
    let ruling = at_the_pool limits d.waiting (first_row (id_rows d.held d.waiting x ++ later_rows limits in_range d.held x)) in
    let same : judgement_of limits rest x (first_row (id_rows d.held d.waiting x ++ later_rows limits in_range d.held x)) ≡ j = cc in
    subst (λ (k : Judgement). most_judgements k.desk < most_judgements d) same (omega (arith, one_more ruling x rest, ap (length {A = Event}) is))

judge_less : (limits : LimitNumbers) (in_range : Bool) (d : Desk) (o : Option Event) (j : Judgement) → ((e : Event) → o ≡ Some e → find (is_ready d.held) d.waiting ≡ Some e) → judge_ready limits in_range d o ≡ Some j → most_judgements j.desk < most_judgements d
judge_less limits in_range d None j f e = coming_less limits in_range d d.coming j refl e
judge_less limits in_range d (Some x) j f e =
    let rest : Desk = record { held = d.held; waiting = without_ready d.held d.waiting; coming = d.coming; is_settling = true } in
    let found = ready_found d.held d.waiting x (f x refl) in
    let first = first_row (later_rows limits in_range d.held x) in
    let ruling = at_the_pool limits (without_ready d.held d.waiting) first in
    let known : is_unknown ruling ≡ false = pool_known limits (without_ready d.held d.waiting) first (ready_known limits in_range d.held x found.0) in
    let same : judgement_of limits rest x first ≡ j = cc in
    subst (λ (k : Judgement). most_judgements k.desk < most_judgements d) same (omega (arith, no_more ruling x rest known, found.1))

-- each judgement leaves fewer
pub next_less : (limits : LimitNumbers) (in_range : Bool) (d : Desk) (j : Judgement) → next_judgement limits in_range d ≡ Some j → most_judgements j.desk < most_judgements d
unfolding next_judgement
next_less limits in_range d j e = judge_less limits in_range d (cond d.is_settling (find (is_ready d.held) d.waiting) None) j (settled d.is_settling) e
  where
    settled : (b : Bool) (x : Event) → cond b (find (is_ready d.held) d.waiting) None ≡ Some x → find (is_ready d.held) d.waiting ≡ Some x
    settled true x h = h
    settled false x h = let no : ⊥ = cc in absurd no

nothing_left_to_judge : (limits : LimitNumbers) (in_range : Bool) (d : Desk) (waiting coming : List Event) → d.waiting ≡ waiting → d.coming ≡ coming → length waiting + 2 * length coming ≤ 0 → next_judgement limits in_range d ≡ None
unfolding next_judgement
nothing_left_to_judge limits in_range d [] [] w c h =
    let none : cond d.is_settling (find (is_ready d.held) d.waiting) None ≡ None = nowhere d.is_settling in
    ap (judge_ready limits in_range d) none ∙ ap (judge_coming limits in_range d) c
  where
    nowhere : (b : Bool) → cond b (find (is_ready d.held) d.waiting) None ≡ None
    nowhere true = ap (find (is_ready d.held)) w
    nowhere false = refl
nothing_left_to_judge limits in_range d (x ∷ waiting) coming w c h = absurd (omega arith)
nothing_left_to_judge limits in_range d [] (x ∷ coming) w c h = absurd (omega arith)

-- what n judgements leave, by the first of them
judgements_by : (limits : LimitNumbers) (in_range : Bool) (n : ℕ) (d : Desk) (o : Option Judgement) → next_judgement limits in_range d ≡ o
    → ((j : Judgement) → o ≡ Some j → next_judgement limits in_range (judgements limits in_range n j.desk).desk ≡ None)
    → next_judgement limits in_range (judgements limits in_range (suc n) d).desk ≡ None
judgements_by limits in_range n d o e f = ap (λ (p : Option Judgement). next_judgement limits in_range (option_map_or (λ j. with_answer j.answer (judgements limits in_range n j.desk)) p (record { desk = d; answers = [] })).desk) e ∙ at o e f
  where
    at : (o : Option Judgement) → next_judgement limits in_range d ≡ o → ((j : Judgement) → o ≡ Some j → next_judgement limits in_range (judgements limits in_range n j.desk).desk ≡ None)
        → next_judgement limits in_range (option_map_or (λ j. with_answer j.answer (judgements limits in_range n j.desk)) o (record { desk = d; answers = [] })).desk ≡ None
    at None e f = e
    at (Some j) e f = f j refl

-- After as many judgements as there can be none is left to make.
pub judgements_end : (limits : LimitNumbers) (in_range : Bool) (n : ℕ) (d : Desk) → most_judgements d ≤ n → next_judgement limits in_range (judgements limits in_range n d).desk ≡ None
judgements_end limits in_range zero d h = nothing_left_to_judge limits in_range d d.waiting d.coming refl refl h
judgements_end limits in_range (suc n) d h =
    judgements_by limits in_range n d (next_judgement limits in_range d) refl (λ j e. judgements_end limits in_range n j.desk (omega (arith, next_less limits in_range d j e)))

-- nothing comes any more where no judgement is left
pub nothing_left : (limits : LimitNumbers) (d : Desk) (o : Option Event) (coming : List Event) → d.coming ≡ coming → judge_ready limits true d o ≡ None → (o ≡ None) × (d.coming ≡ [])
nothing_left limits d None [] is h = (refl, is)
nothing_left limits d None (x ∷ coming) is h = let none : judge_coming limits true d (x ∷ coming) ≡ None = ap (judge_coming limits true d) (sym is) ∙ h in absurd cc
nothing_left limits d (Some x) coming is h = absurd cc
