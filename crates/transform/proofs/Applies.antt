-- What an apply answers is what a turn answers.
use Rattle.std.proofs.Common.{◌≡◌, ◌↔◌, ℕ, ◌+◌, ◌<◌, ◌≤◌, nat_eq, Bool, true, false, List, [], ◌∷◌, ◌++◌, length, map, take, drop, Some, option_map, Result, Ok, Err, IfOk, OnOk, OnErr, refl, sym, ap, ◌∙◌, subst, arith}
use Rattle.std.specs.Prelude.{slice_get}
use Rattle.std.proofs.lemmas.Bool.{ltb-true, lt-ltb, leb-true, le-leb}
use Rattle.std.proofs.lemmas.List.{length-append, take-append-drop}
use Rattle.std.proofs.Math.Seq.{take-append_seam}
use Rattle.std.proofs.lemmas.Option.{slice_get-map, slice_get_within}
use Rattle.ew_model.specs.declared.id.Id.{Id}
use Rattle.ew_model.specs.declared.name.Name.{Name}
use Rattle.ew_model.specs.declared.event.Op.TheVariants.{Ins, Del, Mark}
use Rattle.ew_model.specs.declared.event.Event.{Event}
use Rattle.ew_model.specs.declared.text_op.TextOp.{TextOp}
use Rattle.ew_model.specs.Ancestors.{ids_of}
use Rattle.ew_model.specs.Cuts.{is_critical}
use Rattle.ew_model.specs.Entries.{visible}
use Rattle.ew_model.specs.Operations.{next_operation, operations}
use Rattle.ew_model.specs.Texts.{text_at}
use Rattle.ew_model.specs.TextLaws.{own_change}
use Rattle.ew_model.specs.Records.{next_of, prepared_entries}
use Rattle.ew_model.specs.Places.Act.{InsertAs, DeleteAt, MarkAs}
use Rattle.ew_model.specs.Sound.{IsSound, AreSound}
use Rattle.ew_model.specs.Tree.{Applied, act_by, tree_of}
use Rattle.ew_model.specs.Verdicts.{is_outside, graph_verdict}
use Rattle.ew_model.specs.Verdicts.Ruling.{Good}
use Rattle.ew_model.specs.Walks.{base_at, walked_from}
use Rattle.ew_model.proofs.EntryLaws.{LaidOut}
use Rattle.advance_retreat.specs.Conditions.{MayInsert, MayDelete, MayMark}
use Rattle.advance_retreat.specs.Kept.{Kept, with_lost}
use Rattle.advance_retreat.specs.Standing.{StandsFor}
use Rattle.advance_retreat.specs.declared.fault.ApplyFault.{ApplyFault}
use Rattle.advance_retreat.specs.declared.fault.ApplyFault.TheVariants.{OutOfRange, OutOfMemory}
use Rattle.advance_retreat.proofs.Losses.{still_stands}
use Rattle.event_graph.specs.Keeping.{IsAdmitted}
use Rattle.event_graph.proofs.Admitted.{admitted_at, laid, let_in}
use Rattle.event_graph.proofs.Tails.{all_first, front_after}
use Rattle.transform.specs.Answering.{turn_by}
use Rattle.transform.specs.declared.apply.Turn.TheVariants as turn
use Rattle.transform.specs.Reaching.{IsReady, IsReadyAt, Turned, over_since}
use Rattle.transform.proofs.CutFronts.{critical_take, knows_ids, same_base}
use Rattle.transform.proofs.Judging.{good_more, in_range, out_of_range}
use Rattle.transform.proofs.Sides.{length_front, take_next}
use Rattle.transform.proofs.Steps.{length_over, operations_more, stands_more}
use Rattle.transform.proofs.WalkedEvents.{walked, unnamed, uninserted}

-- the length of the prepared text
abbrev pub prepared_length : List Event → ℕ → Event → ℕ
prepared_length front cut e = length (visible (prepared_entries (base_at front cut) (walked_from front cut) (over_since front cut e)))

-- what an apply of the event answers
pub record Answers (front : List Event) (cut : ℕ) (e : Event) (old new : Kept) (answer : Result TextOp ApplyFault) : Type 0 where
  pub op : IfOk answer (λ op. op ≡ next_operation nat_eq (base_at front cut) (tree_of nat_eq (base_at front cut) (walked_from front cut)) (walked front cut e))
  pub ok : OnOk answer (StandsFor new (base_at front cut) (walked_from front cut ++ walked front cut e ∷ []) (length front ∷ over_since front cut e))
  pub range : (len : ℕ) → (answer ≡ Err (OutOfRange len)) ↔ ((len ≡ prepared_length front cut e) × (is_outside len e.op ≡ true))
  pub err : OnErr answer (new ≡ with_lost old new.lost)

-- what isn't refused is in range
not_outside : (front : List Event) (cut : ℕ) (e : Event) (answer : Result TextOp ApplyFault) (b : Bool) → is_outside (prepared_length front cut e) e.op ≡ b → ((len : ℕ) → answer ≡ Err (OutOfRange len) → ⊥)
    → ((len : ℕ) → (answer ≡ Err (OutOfRange len)) ↔ ((len ≡ prepared_length front cut e) × (is_outside len e.op ≡ true))) → is_outside (prepared_length front cut e) e.op ≡ false
not_outside front cut e answer false q taken range = q
not_outside front cut e answer true q taken range = absurd (taken (prepared_length front cut e) ((range (prepared_length front cut e)).1 (refl, q)))

-- WHAT IS READY
module _ (front : List Event) (cut : ℕ) (e : Event) (state : Kept) (ready : IsReady front cut e state) where
  laid_more : LaidOut [] (front ++ e ∷ [])
  laid_more = laid (front ++ e ∷ []) ready.whole

  sound_front : AreSound front
  sound_front = subst AreSound (take-append_seam front (e ∷ [])) (all_first IsSound (length front) (front ++ e ∷ []) ready.sound)

  critical_front : is_critical front cut ≡ true
  critical_front =
      ap (λ (es : List Event). is_critical es cut) (sym (take-append_seam front (e ∷ [])))
      ∙ critical_take (front ++ e ∷ []) cut (length front) laid_more ready.low (omega (arith, length-append front (e ∷ []))) ready.critical

  pub same_length : prepared_length front cut e ≡ length (text_at front e.parents)
  same_length = length_over front cut e ready.low ready.good sound_front critical_front (knows_ids front e cut laid_more ready.low ready.critical)

  applied_well : (op : TextOp) (new : Kept) → is_outside (prepared_length front cut e) e.op ≡ false → op ≡ next_operation nat_eq (base_at front cut) (tree_of nat_eq (base_at front cut) (walked_from front cut)) (walked front cut e)
      → StandsFor new (base_at front cut) (walked_from front cut ++ walked front cut e ∷ []) (length front ∷ over_since front cut e) → Turned front cut e new (turn.Applied op)
  applied_well op new inside is stands =
      let verdict = in_range front e (prepared_length front cut e) ready.admitted same_length inside in
      let good = good_more front e ready.good verdict in (
        good,
        stands_more front cut e ready.low new (let_in front e ready.admitted).new stands,
        operations_more front cut e ready.low ready.good sound_front critical_front good ready.sound ready.critical ∙ ap (λ o. operations front ++ o ∷ []) (sym is),
      )

-- The turn that an apply makes.
pub turned : (front : List Event) (cut : ℕ) (e : Event) (old new : Kept) (answer : Result TextOp ApplyFault) → IsReady front cut e old → Answers front cut e old new answer → IfOk (turn_by answer) (Turned front cut e new)
turned front cut e old new (Ok op) ready a = applied_well front cut e old ready op new (not_outside front cut e (Ok op) (is_outside (prepared_length front cut e) e.op) refl (λ len h. cc) a.range) a.op a.ok
turned front cut e old new (Err (OutOfRange len)) ready a =
    let found = (a.range len).0 refl in (
      out_of_range front e len ready.admitted (found.0 ∙ same_length front cut e old ready) found.1,
      (over_since front cut e, subst (λ (s : Kept). StandsFor s (base_at front cut) (walked_from front cut) (over_since front cut e)) (sym a.err) (still_stands old new.lost (base_at front cut) (walked_from front cut) (over_since front cut e) ready.stands)),
    )
turned front cut e old new (Err OutOfMemory) ready a = tt

pub id_is : (history : List Event) (n : ℕ) (e : Event) (x : Id) → slice_get history n ≡ Some e → slice_get (ids_of history) n ≡ Some x → e.id ≡ x
id_is history n e x at id =
    let same : Some e.id ≡ Some x = sym (ap (option_map (λ (f : Event). f.id)) at) ∙ sym (slice_get-map (λ (f : Event). f.id) history n) ∙ id in cc

pub change_is : (history : List Event) (n : ℕ) (e : Event) (change : TextOp) → slice_get history n ≡ Some e → slice_get (map (λ (f : Event). own_change f.op) history) n ≡ Some change → own_change e.op ≡ change
change_is history n e change at is =
    let same : Some (own_change e.op) ≡ Some change = sym (ap (option_map (λ (f : Event). own_change f.op)) at) ∙ sym (slice_get-map (λ (f : Event). own_change f.op) history n) ∙ is in cc

-- what the calls of a state answer of the event
pub insertion_answers : (front : List Event) (cut : ℕ) (e : Event) (old new : Kept) (answer : Result TextOp ApplyFault) (position : ℕ) (x : Id) (at ch : ℕ) → length front ≡ position → e.id ≡ x → e.op ≡ Ins at ch
    → IfOk answer (λ op. op ≡ next_operation nat_eq (base_at front cut) (tree_of nat_eq (base_at front cut) (walked_from front cut)) (next_of position (InsertAs x at ch) (over_since front cut e)))
    → OnOk answer (StandsFor new (base_at front cut) (walked_from front cut ++ next_of position (InsertAs x at ch) (over_since front cut e) ∷ []) (position ∷ over_since front cut e))
    → ((len : ℕ) → (answer ≡ Err (OutOfRange len)) ↔ ((len ≡ prepared_length front cut e) × (len < at)))
    → OnErr answer (new ≡ with_lost old new.lost) → Answers front cut e old new answer
insertion_answers front cut e old new answer position x at ch long id op told stands range err =
    let b = base_at front cut in
    let over = over_since front cut e in
    let same : next_of position (InsertAs x at ch) over ≡ walked front cut e = λ i. record { name = sym long i; act = act_by (sym id i) (sym op i); over = over } in
    record {
      op = subst (λ (a : Applied ℕ). IfOk answer (λ o. o ≡ next_operation nat_eq b (tree_of nat_eq b (walked_from front cut)) a)) same told;
      ok = subst (λ n. OnOk answer (StandsFor new b (walked_from front cut ++ walked front cut e ∷ []) (n ∷ over))) (sym long)
          (subst (λ (a : Applied ℕ). OnOk answer (StandsFor new b (walked_from front cut ++ a ∷ []) (position ∷ over))) same stands);
      range = λ len. (
        λ refused. let r = (range len).0 refused in (r.0, ap (is_outside len) op ∙ lt-ltb len at r.1),
        λ r. (range len).1 (r.0, ltb-true len at (ap (is_outside len) (sym op) ∙ r.1)),
      );
      err = err;
    }

pub deletion_answers : (front : List Event) (cut : ℕ) (e : Event) (old new : Kept) (answer : Result TextOp ApplyFault) (position at : ℕ) → length front ≡ position → e.op ≡ Del at
    → IfOk answer (λ op. op ≡ next_operation nat_eq (base_at front cut) (tree_of nat_eq (base_at front cut) (walked_from front cut)) (next_of position (DeleteAt at) (over_since front cut e)))
    → OnOk answer (StandsFor new (base_at front cut) (walked_from front cut ++ next_of position (DeleteAt at) (over_since front cut e) ∷ []) (position ∷ over_since front cut e))
    → ((len : ℕ) → (answer ≡ Err (OutOfRange len)) ↔ ((len ≡ prepared_length front cut e) × (len ≤ at)))
    → OnErr answer (new ≡ with_lost old new.lost) → Answers front cut e old new answer
deletion_answers front cut e old new answer position at long op told stands range err =
    let b = base_at front cut in
    let over = over_since front cut e in
    let same : next_of position (DeleteAt at) over ≡ walked front cut e = λ i. record { name = sym long i; act = act_by e.id (sym op i); over = over } in
    record {
      op = subst (λ (a : Applied ℕ). IfOk answer (λ o. o ≡ next_operation nat_eq b (tree_of nat_eq b (walked_from front cut)) a)) same told;
      ok = subst (λ n. OnOk answer (StandsFor new b (walked_from front cut ++ walked front cut e ∷ []) (n ∷ over))) (sym long)
          (subst (λ (a : Applied ℕ). OnOk answer (StandsFor new b (walked_from front cut ++ a ∷ []) (position ∷ over))) same stands);
      range = λ len. (
        λ refused. let r = (range len).0 refused in (r.0, ap (is_outside len) op ∙ le-leb len at r.1),
        λ r. (range len).1 (r.0, leb-true len at (ap (is_outside len) (sym op) ∙ r.1)),
      );
      err = err;
    }

-- a mark is never out of range
pub mark_turned : (front : List Event) (cut : ℕ) (e : Event) (old new : Kept) (op : TextOp) (position : ℕ) (label : Name) → length front ≡ position → e.op ≡ Mark label → IsReady front cut e old
    → op ≡ next_operation nat_eq (base_at front cut) (tree_of nat_eq (base_at front cut) (walked_from front cut)) (next_of position MarkAs (over_since front cut e))
    → StandsFor new (base_at front cut) (walked_from front cut ++ next_of position MarkAs (over_since front cut e) ∷ []) (position ∷ over_since front cut e)
    → Turned front cut e new (turn.Applied op)
mark_turned front cut e old new op position label long is ready told stands =
    let b = base_at front cut in
    let over = over_since front cut e in
    let same : next_of position MarkAs over ≡ walked front cut e = λ i. record { name = sym long i; act = act_by e.id (sym is i); over = over } in
    applied_well front cut e old ready op new (ap (is_outside (prepared_length front cut e)) is)
    (told ∙ ap (next_operation nat_eq b (tree_of nat_eq b (walked_from front cut))) same)
    (subst (λ n. StandsFor new b (walked_from front cut ++ walked front cut e ∷ []) (n ∷ over)) (sym long)
    (subst (λ (a : Applied ℕ). StandsFor new b (walked_from front cut ++ a ∷ []) (position ∷ over)) same stands))

pub may_insert : (front : List Event) (cut : ℕ) (e : Event) (position : ℕ) (x : Id) → cut ≤ length front → graph_verdict front e ≡ Good → e.id ≡ x → length front ≡ position → MayInsert (walked_from front cut) position x
may_insert front cut e position x low admitted id long =
    subst (MayInsert (walked_from front cut) position) id
    (subst (λ n. MayInsert (walked_from front cut) n e.id) long (record { position = unnamed front cut low; id = uninserted front cut e.id (let_in front e admitted).new }))

pub may_mark : (front : List Event) (cut position : ℕ) → cut ≤ length front → length front ≡ position → MayMark (walked_from front cut) position
may_mark front cut position low long = subst (MayMark (walked_from front cut)) long (unnamed front cut low)

pub may_delete : (front : List Event) (cut position : ℕ) → cut ≤ length front → length front ≡ position → MayDelete (walked_from front cut) position
may_delete front cut position low long = subst (MayDelete (walked_from front cut)) long (unnamed front cut low)

-- the event at a place, where what it was made over is prepared
pub ready : (history : List Event) (cut n : ℕ) (e : Event) (state : Kept) → IsAdmitted history → AreSound history → slice_get history n ≡ Some e → IsReadyAt history cut n state → IsReady (take n history) cut e state
ready history cut n e state admitted sound at r =
    let front = take n history in
    let next = take_next history n e at in
    let long = length_front history n e at in
    let within : n < length history = slice_get_within history n e at in
    record {
      low = omega (arith, r.behind.low, long);
      critical = ap (λ (es : List Event). is_critical es cut) (sym next) ∙ critical_take history cut (n + 1) (laid history admitted) (omega (arith, r.behind.low)) (omega (arith, within)) r.behind.critical;
      good = r.behind.good;
      whole = subst IsAdmitted next (front_after [] (take (n + 1) history) (drop (n + 1) history) (subst IsAdmitted (sym (take-append-drop (n + 1) history)) admitted));
      sound = subst AreSound next (all_first IsSound (n + 1) history sound);
      admitted = admitted_at history n e admitted at;
      stands = subst (λ b. StandsFor state b (walked_from front cut) (over_since front cut e)) (sym (same_base history cut n r.behind.low)) (r.stands e at);
    }
