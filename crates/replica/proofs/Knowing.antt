-- Where the first event that is out of range is known, judging without a look at the index comes to the same as with it.
use Rattle.std.proofs.Common.{◌≡◌, ℕ, suc, ◌<◌, ◌≤◌, ◌==◌, ◌&&◌, nat_le, Bool, true, false, cond, ◌⊎◌, inl, inr, List, [], ◌∷◌, ◌++◌, find, length, Option, Some, None, option_map, refl, sym, ap, ◌∙◌, arith, append_assoc, length-append, eq-eqb, ne_eqb}
use Rattle.std.specs.Bool.{then_some}
use Rattle.std.proofs.lemmas.Bool.{false≢true}
use Rattle.ew_model.specs.declared.event.Event.{Event}
use Rattle.ew_model.specs.Ancestors.{is_held}
use Rattle.ew_model.specs.Arrival.{Desk, Judgement, Outcome, is_ready, without_ready, at_the_pool, judgement_of, next_judgement, judged, most_judgements}
use Rattle.ew_model.specs.Kept.{AreFresh, IsOrderly}
use Rattle.ew_model.specs.Limits.{LimitNumbers}
use Rattle.ew_model.specs.Texts.{text_at}
use Rattle.ew_model.specs.Verdicts.{Ruling, BadEvent, first_row, later_rows, range_rows, verdict, next_verdict, is_outside, is_verdict_good, first_bad, first_bad_after, IsGood}
use Rattle.ew_model.specs.Verdicts.Ruling.{Repeat, Clash, SelfParent, TooManyParents, ParentsUnsorted, Unknown, PoolFull, NotReduced, Skipped, GraphFull, OutOfRange, Good}
use Rattle.ew_model.proofs.RoundLaws.{then}
use Rattle.ew_model.proofs.RoundSteps.{enough, grown_all}
use Rattle.transform.specs.Walking.{bad_at}
use Rattle.replica.specs.Desks.{next_known, with_known}
use Rattle.replica.proofs.Judged.{almost_good, good_or, or_good}
use Rattle.replica.proofs.RulingRows.{or_else, by_parents, by_size, by_index, id_new, none_there, later_blind, later_seeing, verdict_seeing, next_verdict_is}
use Rattle.replica.proofs.Steps.{rest_of, ready_next, coming_next, coming_none}
use Rattle.replica.proofs.Taking.{ready_new}
use Rattle.ew_model.proofs.FirstBadLaws.{good_of}
use Rattle.transform.proofs.Judging.{behind_good}

-- how the next event is judged without a look at its index, and with it
pub record IsJudged (limits : LimitNumbers) (d : Desk) : Type 0 where
  pub waiting : List Event
  pub coming : List Event
  pub event : Event
  pub ruling : Ruling
  pub blind : next_judgement limits false d ≡ Some (judgement_of limits (rest_of d waiting coming) event ruling)
  pub seeing : next_judgement limits true d ≡ Some (judgement_of limits (rest_of d waiting coming) event (or_else ruling (by_index d.held event)))
  pub next : is_verdict_good ruling ≡ true → next_verdict d.held event ≡ by_index d.held event

-- an event that is new, and whose parents are right, is judged by its index
next_by_index : (held : List Event) (e : Event) → is_held held e.id ≡ false → is_verdict_good (by_parents held e) ≡ true → next_verdict held e ≡ by_index held e
next_by_index held e new parents =
    next_verdict_is held e
    ∙ ap (λ (r : Ruling). or_else r (or_else (by_parents held e) (by_index held e))) (id_new held [] e (none_there held [] e.id new refl))
    ∙ good_or (by_parents held e) (by_index held e) parents

abbrev Judged : LimitNumbers → Desk → Type 0
Judged limits d = ((next_judgement limits false d ≡ None) × (next_judgement limits true d ≡ None)) ⊎ IsJudged limits d

coming_cases : (limits : LimitNumbers) (d : Desk) (coming : List Event) → d.coming ≡ coming → (d.is_settling ≡ true → find (is_ready d.held) d.waiting ≡ None) → Judged limits d
coming_cases limits d [] is none = inl (coming_none limits false d none is, coming_none limits true d none is)
coming_cases limits d (e ∷ coming) is none = inr (record {
  waiting = d.waiting;
  coming = coming;
  event = e;
  ruling = verdict limits false d.held d.waiting e;
  blind = coming_next limits false d e coming none is;
  seeing =
      coming_next limits true d e coming none is
      ∙ ap (λ (r : Ruling). Some (judgement_of limits (rest_of d d.waiting coming) e r)) (verdict_seeing limits d.held d.waiting e);
  next = λ good. let g = almost_good limits d.held d.waiting e good in next_by_index d.held e g.new g.parents;
})

ready_cases : (limits : LimitNumbers) (d : Desk) (o : Option Event) → AreFresh d.held d.waiting → d.is_settling ≡ true → find (is_ready d.held) d.waiting ≡ o → Judged limits d
ready_cases limits d None fresh settling found = coming_cases limits d d.coming refl (λ h. found)
ready_cases limits d (Some e) fresh settling found = inr (record {
  waiting = without_ready d.held d.waiting;
  coming = d.coming;
  event = e;
  ruling = first_row (later_rows limits false d.held e);
  blind = ready_next limits false d e settling found;
  seeing =
      ready_next limits true d e settling found
      ∙ ap (λ (r : Ruling). Some (judgement_of limits (rest_of d (without_ready d.held d.waiting) d.coming) e r)) (later_seeing limits d.held e);
  next = λ good.
      next_by_index d.held e (ready_new d.held d.waiting e fresh found)
      (or_good (by_parents d.held e) (by_size limits d.held) (ap is_verdict_good (sym (later_blind limits d.held e)) ∙ good)).0;
})

pub cases : (limits : LimitNumbers) (d : Desk) → AreFresh d.held d.waiting → Judged limits d
cases limits d fresh = at d.is_settling refl
  where
    at : (b : Bool) → d.is_settling ≡ b → Judged limits d
    at true s = ready_cases limits d (find (is_ready d.held) d.waiting) fresh s refl
    at false s = coming_cases limits d d.coming refl (λ h. absurd (false≢true (sym s ∙ h)))

-- the row for the index
index_at : (b : Bool) (len : ℕ) → first_row (then_some b (OutOfRange len) ∷ []) ≡ cond b (OutOfRange len) Good
index_at true len = refl
index_at false len = refl

pub index_is : (held : List Event) (e : Event) → by_index held e ≡ cond (is_outside (length (text_at held e.parents)) e.op) (OutOfRange (length (text_at held e.parents))) Good
unfolding range_rows
index_is held e = index_at (is_outside (length (text_at held e.parents)) e.op) (length (text_at held e.parents))

-- the pool makes no ruling Good
pool_good : (limits : LimitNumbers) (waiting : List Event) (r : Ruling) → is_verdict_good (at_the_pool limits waiting r) ≡ is_verdict_good r
pool_good limits waiting (Unknown p) = at (nat_le limits.waiting (length waiting))
  where
    at : (b : Bool) → is_verdict_good (cond b PoolFull (Unknown p)) ≡ false
    at true = refl
    at false = refl
pool_good limits waiting Good = refl
pool_good limits waiting Repeat = refl
pool_good limits waiting Clash = refl
pool_good limits waiting SelfParent = refl
pool_good limits waiting TooManyParents = refl
pool_good limits waiting ParentsUnsorted = refl
pool_good limits waiting PoolFull = refl
pool_good limits waiting NotReduced = refl
pool_good limits waiting Skipped = refl
pool_good limits waiting GraphFull = refl
pool_good limits waiting (OutOfRange len) = refl

pub known_same : (out : Option (ℕ × ℕ)) (d : Desk) (j : Judgement) → is_verdict_good j.answer.ruling ≡ false → with_known out d j ≡ j
known_same None d j h = refl
known_same (Some o) d j h = ap (λ b. cond (b && (length d.held == o.0)) (record { desk = record { held = d.held; waiting = j.desk.waiting; coming = j.desk.coming; is_settling = true }; answer = record { event = j.answer.event; ruling = OutOfRange o.1 } }) j) h

-- what a judgement without the index leads to
pub next_leads : (limits : LimitNumbers) (b : Bool) (d : Desk) (j : Judgement) → next_judgement limits b d ≡ Some j → judged limits b d ≡ then limits b (most_judgements d) d (Some j)
next_leads limits b d j e =
    enough limits b (most_judgements d) (suc (most_judgements d)) d (omega arith) (omega arith) ∙ ap (then limits b (most_judgements d) d) e

-- what is held then begins with what is held before
reached_with : (limits : LimitNumbers) (d : Desk) (j : Judgement) → next_judgement limits false d ≡ Some j → (later : List Event) × ((judged limits false d).desk.held ≡ j.desk.held ++ later)
reached_with limits d j e =
    let more = grown_all limits false (most_judgements d) j.desk in
    (more.0, ap (λ (o : Outcome). o.desk.held) (next_leads limits false d j e) ∙ more.1)

-- a bad event stands behind the good ones
above_at : (b : Bool) (held : List Event) (e : Event) (more : Option BadEvent) (verdict : Ruling) (found : BadEvent) → cond b more (Some (record { position = length held; verdict = verdict })) ≡ Some found
    → (more ≡ Some found → length held ≤ found.position) → length held ≤ found.position
above_at true held e more verdict found h f = f h
above_at false held e more verdict found h f = let same : length held ≡ found.position = cc in omega (arith, same)

pub bad_above : (held events : List Event) (found : BadEvent) → first_bad_after held events ≡ Some found → length held ≤ found.position
bad_above held [] found h = let no : ⊥ = cc in absurd no
bad_above held (e ∷ events) found h =
    above_at (is_verdict_good (next_verdict held e)) held e (first_bad_after (held ++ e ∷ []) events) (next_verdict held e) found h
    (λ k. let above = bad_above (held ++ e ∷ []) events found k in let long = length-append held (e ∷ []) in omega (arith, above, long))

-- the first bad event behind a good history and one event more
first_behind : (held : List Event) (e : Event) (later : List Event) (b : Bool) (len : ℕ) → IsGood held → next_verdict held e ≡ cond b (OutOfRange len) Good
    → first_bad (held ++ e ∷ later) ≡ cond b (Some (record { position = length held; verdict = OutOfRange len })) (first_bad_after (held ++ e ∷ []) later)
unfolding first_bad IsGood
first_behind held e later true len good next =
    behind_good [] held (e ∷ later) good
    ∙ ap (λ (r : Ruling). cond (is_verdict_good r) (first_bad_after (held ++ e ∷ []) later) (Some (record { position = length held; verdict = r }))) next
first_behind held e later false len good next =
    behind_good [] held (e ∷ later) good
    ∙ ap (λ (r : Ruling). cond (is_verdict_good r) (first_bad_after (held ++ e ∷ []) later) (Some (record { position = length held; verdict = r }))) next

-- the judgement of an event that is answered OutOfRange
abbrev out_of : Desk → List Event → List Event → Event → ℕ → Judgement
out_of d waiting coming e len = record { desk = record { held = d.held; waiting = waiting; coming = coming; is_settling = true }; answer = record { event = e; ruling = OutOfRange len } }

-- and of one that is held
abbrev held_at : Desk → List Event → List Event → Event → Judgement
held_at d waiting coming e = record { desk = record { held = d.held ++ e ∷ []; waiting = waiting; coming = coming; is_settling = true }; answer = record { event = e; ruling = Good } }

-- the two judgements of an event that is good but for its index
out_here : (o : ℕ × ℕ) (d : Desk) (waiting coming : List Event) (e : Event) (len : ℕ) → (length d.held == o.0) ≡ true → o.1 ≡ len
    → with_known (Some o) d (held_at d waiting coming e) ≡ out_of d waiting coming e len
out_here o d waiting coming e len here same =
    ap (λ b. cond b (out_of d waiting coming e o.1) (held_at d waiting coming e)) here ∙ ap (out_of d waiting coming e) same

out_at : (out : Option (ℕ × ℕ)) (d : Desk) (waiting coming : List Event) (e : Event) (len : ℕ) → option_map bad_at out ≡ Some (record { position = length d.held; verdict = OutOfRange len })
    → with_known out d (held_at d waiting coming e) ≡ out_of d waiting coming e len
out_at None d waiting coming e len h = let no : ⊥ = cc in absurd no
out_at (Some o) d waiting coming e len h =
    let bad : bad_at o ≡ record { position = length d.held; verdict = OutOfRange len } = cc in
    let place : length d.held ≡ o.0 = sym (ap (λ (b : BadEvent). b.position) bad) in
    let told : OutOfRange o.1 ≡ OutOfRange len = ap (λ (b : BadEvent). b.verdict) bad in
    out_here o d waiting coming e len (eq-eqb (length d.held) o.0 place) (cc)

in_at : (out : Option (ℕ × ℕ)) (d : Desk) (waiting coming : List Event) (e : Event) (more : Option BadEvent) → option_map bad_at out ≡ more → ((found : BadEvent) → more ≡ Some found → length d.held < found.position)
    → with_known out d (held_at d waiting coming e) ≡ held_at d waiting coming e
in_at None d waiting coming e more h f = refl
in_at (Some o) d waiting coming e more h f =
    let above : length d.held < o.0 = f (bad_at o) (sym h) in
    let other : (length d.held == o.0) ≡ false = ne_eqb (length d.held) o.0 (λ e. omega (arith, above, e)) in
    ap (λ b. cond b (out_of d waiting coming e o.1) (held_at d waiting coming e)) other

good_case : (limits : LimitNumbers) (out : Option (ℕ × ℕ)) (d : Desk) (waiting coming : List Event) (e : Event) (later : List Event) (b : Bool) (len : ℕ) → IsGood d.held → next_verdict d.held e ≡ cond b (OutOfRange len) Good
    → option_map bad_at out ≡ first_bad (d.held ++ e ∷ later)
    → with_known out d (judgement_of limits (rest_of d waiting coming) e Good) ≡ judgement_of limits (rest_of d waiting coming) e (cond b (OutOfRange len) Good)
good_case limits out d waiting coming e later true len good next told = out_at out d waiting coming e len (told ∙ first_behind d.held e later true len good next)
good_case limits out d waiting coming e later false len good next told =
    in_at out d waiting coming e (first_bad_after (d.held ++ e ∷ []) later) (told ∙ first_behind d.held e later false len good next)
    (λ found h. let above = bad_above (d.held ++ e ∷ []) later found h in let long = length-append d.held (e ∷ []) in omega (arith, above, long))

knows_judged : (limits : LimitNumbers) (out : Option (ℕ × ℕ)) (d : Desk) (j : IsJudged limits d) (b : Bool) → is_verdict_good j.ruling ≡ b → IsGood d.held → option_map bad_at out ≡ first_bad (judged limits false d).desk.held
    → with_known out d (judgement_of limits (rest_of d j.waiting j.coming) j.event j.ruling) ≡ judgement_of limits (rest_of d j.waiting j.coming) j.event (or_else j.ruling (by_index d.held j.event))
knows_judged limits out d j false bad good told =
    known_same out d (judgement_of limits (rest_of d j.waiting j.coming) j.event j.ruling) (pool_good limits j.waiting j.ruling ∙ bad)
    ∙ ap (λ c. judgement_of limits (rest_of d j.waiting j.coming) j.event (cond c (by_index d.held j.event) j.ruling)) (sym bad)
knows_judged limits out d j true fine good told =
    let len = length (text_at d.held j.event.parents) in
    let b = is_outside len j.event.op in
    let is : j.ruling ≡ Good = good_of j.ruling fine in
    let blind : next_judgement limits false d ≡ Some (judgement_of limits (rest_of d j.waiting j.coming) j.event Good) =
    j.blind ∙ ap (λ (r : Ruling). Some (judgement_of limits (rest_of d j.waiting j.coming) j.event r)) is in
    let reached = reached_with limits d (judgement_of limits (rest_of d j.waiting j.coming) j.event Good) blind in
    let whole : (judged limits false d).desk.held ≡ d.held ++ j.event ∷ reached.0 = reached.1 ∙ append_assoc d.held (j.event ∷ []) reached.0 in
    ap (λ (r : Ruling). with_known out d (judgement_of limits (rest_of d j.waiting j.coming) j.event r)) is
    ∙ good_case limits out d j.waiting j.coming j.event reached.0 b len good (j.next fine ∙ index_is d.held j.event) (told ∙ ap first_bad whole)
    ∙ ap (judgement_of limits (rest_of d j.waiting j.coming) j.event) (sym (index_is d.held j.event))
    ∙ ap (λ c. judgement_of limits (rest_of d j.waiting j.coming) j.event (cond c (by_index d.held j.event) j.ruling)) (sym fine)

-- The next judgement is that with a look at the index.
pub knows : (limits : LimitNumbers) (out : Option (ℕ × ℕ)) (d : Desk) → IsOrderly d.held d.waiting → option_map bad_at out ≡ first_bad (judged limits false d).desk.held → next_known limits out d ≡ next_judgement limits true d
knows limits out d kept told = at (cases limits d kept.fresh)
  where
    at : Judged limits d → next_known limits out d ≡ next_judgement limits true d
    at (inl none) = ap (option_map (with_known out d)) none.0 ∙ sym none.1
    at (inr j) = ap (option_map (with_known out d)) j.blind ∙ ap Some (knows_judged limits out d j (is_verdict_good j.ruling) refl kept.good told) ∙ sym j.seeing
