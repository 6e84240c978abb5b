-- Lists of events that a graph is made of one after another.
use Rattle.std.proofs.Common.{◌≡◌, ℕ, ◌+◌, ◌<◌, Bool, true, false, cond, List, [], ◌∷◌, ◌++◌, take, drop, length, get_or, Option, Some, None, refl, sym, ap, ◌∙◌, subst, append-nil, append_assoc}
use Rattle.std.proofs.Math.Seq.{take-append_seam}
use Rattle.std.proofs.lemmas.Bool.{false≢true}
use Rattle.std.proofs.lemmas.List.{take_more, drop_more, take-append-drop}
use Rattle.ew_model.specs.declared.event.Event.{Event}
use Rattle.ew_model.specs.Verdicts.{Ruling, BadEvent, first_row, id_rows, parent_rows, range_rows, graph_verdict, next_verdict, is_verdict_good, IsGood, IsGoodAfter, first_bad, first_bad_after}
use Rattle.ew_model.specs.Verdicts.Ruling.{Good}
use Rattle.ew_model.specs.Cuts.{is_critical}
use Rattle.ew_model.proofs.CutLaws.{critical_front}
use Rattle.ew_model.proofs.EntryLaws.{LaidOut}
use Rattle.ew_model.proofs.FirstBadLaws.{good_has_no_bad}
use Rattle.event_graph.specs.Keeping.{AreAdmittedAfter, IsAdmitted}
use Rattle.event_graph.specs.Tails.{Standing, hold_of}
use Rattle.event_graph.proofs.Admitted.{laid}
use Rattle.replica.specs.Answers.{TellsBad}
use Rattle.replica.specs.declared.fault.LoadFault.{LoadFault}
use Rattle.replica.specs.declared.fault.LoadFault.TheVariants as load
use Rattle.ew_model.specs.Answers.{ruling_of}
use Rattle.replica.specs.Fronts.{IsFront, IsAdmittedFront}
use Rattle.transform.proofs.Judging.{behind_good}

-- where the first of more rows that holds is Good, it is so of the first ones
front_good : (rows more : List (Option Ruling)) → first_row (rows ++ more) ≡ Good → first_row rows ≡ Good
front_good [] more h = refl
front_good (None ∷ rows) more h = front_good rows more h
front_good (Some r ∷ rows) more h = h

-- a row that holds stands before all later ones
front_bad : (rows more : List (Option Ruling)) → is_verdict_good (first_row rows) ≡ false → first_row (rows ++ more) ≡ first_row rows
front_bad [] more h = absurd (false≢true (sym h))
front_bad (None ∷ rows) more h = front_bad rows more h
front_bad (Some r ∷ rows) more h = refl

next_good : (held : List Event) (e : Event) → next_verdict held e ≡ Good → graph_verdict held e ≡ Good
unfolding next_verdict id_rows parent_rows range_rows
next_good held e h = front_good (id_rows held [] e ++ parent_rows held e) (range_rows held e) (ap first_row (append_assoc (id_rows held [] e) (parent_rows held e) (range_rows held e)) ∙ h)

next_bad : (held : List Event) (e : Event) (r : Ruling) → graph_verdict held e ≡ r → is_verdict_good r ≡ false → next_verdict held e ≡ r
unfolding next_verdict id_rows parent_rows range_rows
next_bad held e r h bad =
    ap first_row (sym (append_assoc (id_rows held [] e) (parent_rows held e) (range_rows held e)))
    ∙ front_bad (id_rows held [] e ++ parent_rows held e) (range_rows held e) (ap is_verdict_good h ∙ bad) ∙ h

-- good events are admitted one after another
all_admitted : (held events : List Event) → IsGoodAfter held events → AreAdmittedAfter held events
all_admitted held [] h = tt
all_admitted held (e ∷ events) h = (next_good held e h.0, all_admitted (held ++ e ∷ []) events h.1)

pub good_behind : (before held events : List Event) → IsGoodAfter before (held ++ events) → IsGoodAfter (before ++ held) events
good_behind before [] events h = subst (λ (l : List Event). IsGoodAfter l events) (sym (append-nil before)) h
good_behind before (e ∷ held) events h = subst (λ (l : List Event). IsGoodAfter l events) (append_assoc before (e ∷ []) held) (good_behind (before ++ e ∷ []) held events h.1)

pub made_admitted : (held made : List Event) → IsGood (held ++ made) → AreAdmittedAfter held made
unfolding IsGood
made_admitted held made h = all_admitted held made (good_behind [] held made h)

-- a bad event of the front is the first bad one of all
bad_at : (b : Bool) (now bad : Option BadEvent) (more : Option BadEvent) (found : BadEvent) → (now ≡ Some found → more ≡ Some found) → cond b now bad ≡ Some found → cond b more bad ≡ Some found
bad_at true now bad more found f h = f h
bad_at false now bad more found f h = h

bad_stays : (held front later : List Event) (found : BadEvent) → first_bad_after held front ≡ Some found → first_bad_after held (front ++ later) ≡ Some found
bad_stays held [] later found h = let no : ⊥ = cc in absurd no
bad_stays held (e ∷ front) later found h =
    bad_at (is_verdict_good (next_verdict held e)) (first_bad_after (held ++ e ∷ []) front) (Some (record { position = length held; verdict = next_verdict held e })) (first_bad_after (held ++ e ∷ []) (front ++ later)) found
    (λ k. bad_stays (held ++ e ∷ []) front later found k) h

pub front_of : (front : List Event) (r : Option Ruling) (events : List Event) → IsAdmittedFront front r events → IsFront front events
front_of front None events h = ([], h ∙ sym (append-nil front))
front_of front (Some ruling) events h = (h.0 ∷ h.1, h.2)

pub front_takes : (front events : List Event) → IsFront front events → take (length front) events ≡ front
front_takes front events h = ap (take (length front)) h.1 ∙ take-append_seam front h.0

pub admitted_joined : (before held made : List Event) → AreAdmittedAfter before held → AreAdmittedAfter (before ++ held) made → AreAdmittedAfter before (held ++ made)
admitted_joined before [] made h k = subst (λ (l : List Event). AreAdmittedAfter l made) (append-nil before) k
admitted_joined before (e ∷ held) made h k = (h.0, admitted_joined (before ++ e ∷ []) held made h.1 (subst (λ (l : List Event). AreAdmittedAfter l made) (sym (append_assoc before (e ∷ []) held)) k))

-- a critical cut below events that are admitted stays one while they come
pub stays_cut : (held made : List Event) (i : ℕ) (graph : List Event) → IsAdmitted held → AreAdmittedAfter held made → is_critical (held ++ made) (length held) ≡ true → graph ≡ held ++ take i made → is_critical graph (length held) ≡ true
stays_cut held made i graph before after cut grown =
    let parts : held ++ (take i made ++ drop i made) ≡ held ++ made = ap (λ (l : List Event). held ++ l) (take-append-drop i made) in
    ap (λ (g : List Event). is_critical g (length held)) grown
    ∙ critical_front held (take i made) (drop i made)
    (subst (LaidOut []) (sym parts) (laid (held ++ made) (admitted_joined [] held made before after)))
    (ap (λ (l : List Event). is_critical l (length held)) parts ∙ cut)

-- the hold on a front is that on the front taken again
pub hold_stands : (tail : Standing) (old new : List Event) → tail ≡ hold_of old → IsFront old new → tail ≡ hold_of (take tail.count new)
hold_stands tail old new marked front = marked ∙ ap hold_of (sym (ap (λ (t : Standing). take t.count new) marked ∙ front_takes old new front))

-- what is told of a front is told of all
pub told_of_front : (front events : List Event) (fault : LoadFault) → IsFront front events → TellsBad front fault → TellsBad events fault
unfolding first_bad
told_of_front front events (load.BadEvent position verdict) h told = ap (first_bad_after []) h.1 ∙ bad_stays [] front h.0 (record { position = position; verdict = ruling_of verdict }) told
told_of_front front events load.OutOfMemory h told = tt

-- The event behind a good front that isn't good by its id and its parents is the first bad one.
pub bad_behind : (front events : List Event) (r : Ruling) → IsAdmittedFront front (Some r) events → first_bad front ≡ None → first_bad events ≡ Some (record { position = length front; verdict = r })
unfolding first_bad IsGood
bad_behind front events r h none =
    let next : next_verdict front h.0 ≡ r = next_bad front h.0 r h.3 h.4 in
    ap (first_bad_after []) h.2 ∙ behind_good [] front (h.0 ∷ h.1) ((good_has_no_bad front).1 none)
    ∙ ap (λ (q : Ruling). cond (is_verdict_good q) (first_bad_after (front ++ h.0 ∷ []) h.1) (Some (record { position = length front; verdict = q }))) next
    ∙ ap (λ b. cond b (first_bad_after (front ++ h.0 ∷ []) h.1) (Some (record { position = length front; verdict = r }))) h.4

-- The events of a loop.
next_event : (events : List Event) (i : ℕ) (e : Event) → i < length events → e ≡ get_or events i e → drop i events ≡ e ∷ drop (i + 1) events
next_event events i e within is = drop_more events i e within ∙ ap (λ (x : Event). x ∷ drop (i + 1) events) (sym is)

pub next_admitted : (graph made : List Event) (i : ℕ) (e : Event) → i < length made → e ≡ get_or made i e → AreAdmittedAfter graph (drop i made) → (graph_verdict graph e ≡ Good) × AreAdmittedAfter (graph ++ e ∷ []) (drop (i + 1) made)
next_admitted graph made i e within is h = subst (AreAdmittedAfter graph) (next_event made i e within is) h

pub one_more : (old made : List Event) (i : ℕ) (e : Event) (graph : List Event) → i < length made → e ≡ get_or made i e → graph ≡ old ++ take i made → graph ++ e ∷ [] ≡ old ++ take (i + 1) made
one_more old made i e graph within is grown =
    ap (λ (g : List Event). g ++ e ∷ []) grown ∙ append_assoc old (take i made) (e ∷ [])
    ∙ ap (λ (t : List Event). old ++ t) (sym (take_more made i e within ∙ ap (λ (x : Event). take i made ++ x ∷ []) (sym is)))

pub split_here : (events : List Event) (i : ℕ) (e : Event) (graph : List Event) → i < length events → e ≡ get_or events i e → graph ≡ take i events → events ≡ graph ++ e ∷ drop (i + 1) events
split_here events i e graph within is grown = sym (take-append-drop i events) ∙ (λ k. sym grown k ++ next_event events i e within is k)
