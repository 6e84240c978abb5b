-- The next received events, where they go on from the last one held and from one another.
use Rattle.std.proofs.Common.{◌≡◌, ℕ, suc, ◌+◌, ◌<◌, nat_le, Bool, true, false, List, [], ◌∷◌, ◌++◌, drop, length, slice_get, Option, Some, None, refl, sym, ap, ◌∙◌, subst, arith, append-nil, append_assoc, add-zero, find, length-append}
use Rattle.std.proofs.lemmas.Bool.{false_from_ne_true, leb-true}
use Rattle.std.proofs.lemmas.Option.{get_or_from_slice_get, slice_get_within, same_Some}
use Rattle.ew_model.specs.declared.id.Id.{Id}
use Rattle.ew_model.specs.declared.event.Op.{Op}
use Rattle.ew_model.specs.declared.event.Event.{Event}
use Rattle.ew_model.specs.Ancestors.{is_held}
use Rattle.ew_model.specs.Arrival as model
use Rattle.ew_model.specs.Arrival.{is_ready}
use Rattle.ew_model.specs.Kept.{AreFresh}
use Rattle.ew_model.specs.Limits.{LimitNumbers}
use Rattle.ew_model.specs.Verdicts.{graph_verdict, verdict}
use Rattle.ew_model.specs.Verdicts.Ruling.{Good}
use Rattle.history_definitions.specs.Chains.{event_behind, next_id, last_id}
use Rattle.history_definitions.proofs.LastIds.{last_pushed}
use Rattle.event_graph.specs.GoingOn.{chain_behind}
use Rattle.event_graph.specs.Keeping.{IsAdmitted}
use Rattle.event_graph.proofs.Chains.{chain_admitted}
use Rattle.event_graph.proofs.GoingOn.{good_behind}
use Rattle.waiting_pool.specs.Knowing.{IsBehind}
use Rattle.waiting_pool.specs.Waiting.{events_of}
use Rattle.waiting_pool.proofs.Behind.{behind_more}
use Rattle.replica.specs.declared.answer.Answer.TheVariants as answer
use Rattle.replica.specs.declared.desk.Desk.{Desk}
use Rattle.replica.specs.Counting.{Counted, more_judged}
use Rattle.replica.specs.Desks.{AreNextHeld, IsBegun, IsDesk, Judges, LeadsOn, answer_by, desk_at, desk_as, known_at, pooled, sized}
use Rattle.replica.proofs.AnswerRows.{by_graph}
use Rattle.replica.proofs.Steps.{judges, coming_next, next_coming, same_desk}
use Rattle.replica.proofs.Ways.{begun, goes_on}

-- The next received event has this operation and goes on from the last one held, nothing waits, one more may be held, and no event is
-- known to be out of range.
record IsNextHeld (limits : LimitNumbers) (out : Option (ℕ × ℕ)) (held events : List Event) (d : Desk) (op : Op) : Type 0 where
  last : Id
  held_last : last_id held ≡ Some last
  there : slice_get events d.progress.judged ≡ Some (event_behind last op)
  none_waits : events_of d.pool ≡ []
  room : length held < limits.events
  none_out : out ≡ None

-- Where the next received event goes on from the last one held, and nothing waits ..
module _ (limits : LimitNumbers) (out : Option (ℕ × ℕ)) (held events : List Event) (d : Desk) (op : Op) (next : IsNextHeld limits out held events d op) where
  abbrev e : Event
  e = event_behind next.last op

  -- .. it is among those received ..
  next_within : d.progress.judged < length events
  next_within = slice_get_within events d.progress.judged e next.there

  -- .. it is judged Good ..
  by_verdict : IsAdmitted held → answer_by (verdict limits false held (events_of d.pool) e) ≡ answer.Held
  by_verdict admitted =
      let good : graph_verdict held e ≡ Good = good_behind held admitted next.last next.held_last op in
      let free = next.room in
      let room : nat_le limits.events (length held) ≡ false = false_from_ne_true (nat_le limits.events (length held)) (λ le. omega (arith, free, leb-true limits.events (length held) le)) in
      sym (by_graph limits held (events_of d.pool) e (ap (λ ws. is_held ws e.id) next.none_waits)) ∙ (λ i. sized (room i) (answer_by (good i)))

  answered : (full : Bool) → IsAdmitted held → answer.Held ≡ pooled full (known_at out (length held) (answer_by (verdict limits false held (events_of d.pool) e)))
  answered full admitted = sym (λ i. pooled full (known_at (next.none_out i) (length held) (by_verdict admitted i)))

  module _ (graph : List Event) (after : Counted) (on : (x : Id) × (last_id held ≡ Some x) × (graph ≡ held ++ event_behind x op ∷ [])) (counted : after ≡ more_judged d.progress 1) where
    grown : graph ≡ held ++ e ∷ []
    grown = on.2 ∙ ap (λ (x : Id). held ++ event_behind x op ∷ []) (same_Some on.0 next.last (sym on.1 ∙ next.held_last))

    -- .. so that holding it is the next judgement ..
    holds_next : IsAdmitted held → (d.progress.settling ≡ true → find (is_ready held) (events_of d.pool) ≡ None)
        → Judges limits out (desk_as held events d) (desk_at graph (events_of d.pool) events after) d.progress after (Some answer.Held)
    holds_next admitted none =
        let waiting = events_of d.pool in
        let n = d.progress.judged in
        let coming = next_coming events n n e refl next_within (sym (get_or_from_slice_get events n e e next.there)) in
        judges limits out (desk_as held events d) (desk_at graph waiting events after) d.progress after waiting (drop (n + 1) events) e (verdict limits false held waiting e) answer.Held
        (coming_next limits false (desk_as held events d) e (drop (n + 1) events) none coming)
        (answered (nat_le limits.waiting (length waiting)) admitted)
        (same_desk graph (held ++ e ∷ []) waiting waiting events after (more_judged d.progress 1) grown refl counted)
        (ap (λ (k : Counted). k.repeats) counted ∙ sym (add-zero d.progress.repeats))
        (ap (λ (k : Counted). k.refused) counted ∙ sym (append-nil d.progress.refused))

    -- .. and the desk stays one.
    still_desk : IsDesk limits held events d.pool d.progress → IsDesk limits graph events d.pool after
    still_desk desk = record {
      fresh = subst (AreFresh graph) (sym next.none_waits) tt;
      limit = desk.limit;
      behind = subst (λ (es : List Event). IsBehind es d.pool) (sym grown) (behind_more held (e ∷ []) d.pool desk.behind);
      few = let free = next.room in let long = ap (length {A = Event}) grown in omega (arith, free, long, length-append held (e ∷ []));
      begun =
          subst (IsBegun events) (sym counted)
          (record { within = let less = next_within in omega (arith, less); repeats = let repeats = desk.begun.repeats in omega (arith, repeats) });
    }

-- the desk behind one of them
abbrev one_on : Desk → Desk
one_on d = record { pool = d.pool; progress = more_judged d.progress 1 }

-- Where the next received events go on from the last one held and from one another, the first is the next ..
module _ (limits : LimitNumbers) (out : Option (ℕ × ℕ)) (held events : List Event) (d : Desk) (op : Op) (ops : List Op) (next : AreNextHeld limits out held events d (op ∷ ops)) where
  abbrev first : Event
  first = event_behind next.last op

  first_held : IsNextHeld limits out held events d op
  first_held = record {
    last = next.last;
    held_last = next.held_last;
    there = subst (λ n. slice_get events n ≡ Some first) (add-zero d.progress.judged) (next.there 0 first refl);
    none_waits = next.none_waits;
    room = let free = next.room in omega (arith, free);
    none_out = next.none_out;
  }

  -- .. and the others are those behind it.
  abbrev others_held : AreNextHeld limits out (held ++ first ∷ []) events (one_on d) ops
  others_held = record {
    last = next_id next.last;
    held_last = last_pushed held first;
    there = λ k e is. let on : d.progress.judged + suc k ≡ d.progress.judged + 1 + k = omega arith in subst (λ n. slice_get events n ≡ Some e) on (next.there (suc k) e is);
    none_waits = next.none_waits;
    room = let free = next.room in let long = length-append held (first ∷ []) in omega (arith, free, long);
    none_out = next.none_out;
  }

  first_judged : IsAdmitted held → Judges limits out (desk_as held events d) (desk_as (held ++ first ∷ []) events (one_on d)) d.progress (more_judged d.progress 1) (Some answer.Held)
  first_judged admitted =
      holds_next limits out held events d op first_held (held ++ first ∷ []) (more_judged d.progress 1) (next.last, next.held_last, refl) refl admitted
      (λ settling. ap (find (is_ready held)) next.none_waits)

  first_desk : IsDesk limits held events d.pool d.progress → IsDesk limits (held ++ first ∷ []) events d.pool (more_judged d.progress 1)
  first_desk desk = still_desk limits out held events d op first_held (held ++ first ∷ []) (more_judged d.progress 1) (next.last, next.held_last, refl) refl desk

-- where they were judged, the desk is one, and judgements have led there
record AreHeld (limits : LimitNumbers) (out : Option (ℕ × ℕ)) (from : model.Desk) (events : List Event) (before : Counted) (held : List Event) (d : Desk) : Type 0 where
  leads : LeadsOn limits out from (desk_as held events d) before d.progress
  desk : IsDesk limits held events d.pool d.progress

-- so many are judged after one
counted_on : (c : Counted) (n : ℕ) → more_judged (more_judged c 1) n ≡ more_judged c (suc n)
counted_on c n =
    let sum : c.judged + 1 + n ≡ c.judged + suc n = omega arith in
    ap (λ k. record { judged = k; settling = true; repeats = c.repeats; refused = c.refused }) sum

none_on : (c : Counted) → c.settling ≡ true → c ≡ more_judged c 0
none_on c is = λ i. record { judged = sym (add-zero c.judged) i; settling = is i; repeats = c.repeats; refused = c.refused }

all_held : (limits : LimitNumbers) (out : Option (ℕ × ℕ)) (from : model.Desk) (events : List Event) (before : Counted) (ops : List Op) (held : List Event) (d : Desk) (next : AreNextHeld limits out held events d ops) → IsAdmitted held
    → (length ops ≡ 0 → d.progress.settling ≡ true) → AreHeld limits out from events before held d
    → AreHeld limits out from events before (held ++ chain_behind next.last ops) (record { pool = d.pool; progress = more_judged d.progress (length ops) })
all_held limits out from events before [] held d next admitted settling so_far =
    let same = none_on d.progress (settling refl) in
    let pair : (held, d.progress) ≡ (held ++ [], more_judged d.progress 0) = λ i. (sym (append-nil held) i, same i) in
    subst (λ (at : List Event × Counted). AreHeld limits out from events before at.0 (record { pool = d.pool; progress = at.1 })) pair so_far
all_held limits out from events before (op ∷ ops) held d next admitted settling so_far =
    let e = event_behind next.last op in
    let grown = held ++ e ∷ [] in
    let judged = first_judged limits out held events d op ops next admitted in
    let then : AreHeld limits out from events before grown (one_on d) = record {
      leads = goes_on limits out from (desk_as held events d) (desk_as grown events (one_on d)) before d.progress (more_judged d.progress 1) answer.Held so_far.leads judged refl;
      desk = first_desk limits out held events d op ops next so_far.desk;
    } in
    let good : IsAdmitted grown = chain_admitted (op ∷ []) held next.last admitted next.held_last in
    let rest = all_held limits out from events before ops grown (one_on d) (others_held limits out held events d op ops next) good (λ none. refl) then in
    let pair : (grown ++ chain_behind (next_id next.last) ops, more_judged (more_judged d.progress 1) (length ops)) ≡ (held ++ chain_behind next.last (op ∷ ops), more_judged d.progress (suc (length ops))) =
    λ i. (append_assoc held (e ∷ []) (chain_behind (next_id next.last) ops) i, counted_on d.progress (length ops) i) in
    subst (λ (at : List Event × Counted). AreHeld limits out from events before at.0 (record { pool = d.pool; progress = at.1 })) pair rest

-- THE NEXT RECEIVED EVENTS are held, where they go on from the last one held and from one another: so they are judged one by one.
module _ (limits : LimitNumbers) (out : Option (ℕ × ℕ)) (held events : List Event) (d : Desk) (ops : List Op) (next : AreNextHeld limits out held events d ops) (some : 0 < length ops) (admitted : IsAdmitted held) (desk : IsDesk limits held events d.pool d.progress) (graph : List Event) (after : Counted) (count : ℕ) (many : count ≡ length ops) (on : (x : Id) × (last_id held ≡ Some x) × (graph ≡ held ++ chain_behind x ops)) (counted : after ≡ more_judged d.progress count) where
  there : AreHeld limits out (desk_as held events d) events d.progress graph (record { pool = d.pool; progress = after })
  there =
      let all = all_held limits out (desk_as held events d) events d.progress ops held d next admitted (λ none. absurd (omega (arith, none, some))) (record { leads = begun limits out (desk_as held events d) d.progress; desk = desk }) in
      let same : next.last ≡ on.0 = same_Some next.last on.0 (sym next.held_last ∙ on.1) in
      let pair : (held ++ chain_behind next.last ops, more_judged d.progress (length ops)) ≡ (graph, after) =
      λ i. ((ap (λ (x : Id). held ++ chain_behind x ops) same ∙ sym on.2) i, (ap (more_judged d.progress) (sym many) ∙ sym counted) i) in
      subst (λ (at : List Event × Counted). AreHeld limits out (desk_as held events d) events d.progress at.0 (record { pool = d.pool; progress = at.1 })) pair all

  pub run_leads : LeadsOn limits out (desk_as held events d) (desk_at graph (events_of d.pool) events after) d.progress after
  run_leads = there.leads

  pub run_desk : IsDesk limits graph events d.pool after
  run_desk = there.desk
