-- Events that are good behind a history are all appended to it, and so they are piece by piece.
use Rattle.std.proofs.Common.{◌≡◌, ℕ, zero, suc, ◌+◌, ◌≤◌, ◌<◌, nat_le, Bool, true, false, List, [], ◌∷◌, ◌++◌, map, length, flat_map, Option, Some, None, option_map, refl, sym, ap, ◌∙◌, subst, arith, append-nil, append_assoc}
use Rattle.std.specs.Bool.{then_some}
use Rattle.std.proofs.lemmas.Bool.{false≢true}
use Rattle.std.proofs.lemmas.Bool.Decides.{nat_tests}
use Rattle.std.proofs.lemmas.List.{length-append}
use Rattle.ew_model.specs.declared.event.Event.{Event}
use Rattle.ew_model.specs.Ancestors.{is_held}
use Rattle.ew_model.specs.Arrival.{Desk, Answer, Outcome, judgement_of, judgements, with_answer, most_judgements, desk_of, arrive}
use Rattle.ew_model.specs.Events.{event_eq}
use Rattle.std.specs.List.{list_any}
use Rattle.ew_model.specs.Kept.{ReplicaState}
use Rattle.ew_model.specs.Limits.{LimitNumbers}
use Rattle.ew_model.specs.Verdicts.{Ruling, IsGoodAfter, first_row, next_verdict, id_rows, parent_rows, size_rows, range_rows, later_rows}
use Rattle.ew_model.specs.Verdicts.Ruling.{Good, GraphFull}
use Rattle.ew_model.proofs.ArrivalRuns.{no_id}
use Rattle.ew_model.proofs.GoodLaws.{next_from_good}
use Rattle.ew_model.proofs.KeptLaws.{no_repeat}
use Rattle.ew_model.proofs.MergeSteps.{first_judged, none_judged}
use Rattle.ew_model.proofs.RoundLaws.{then}
use Rattle.ew_model.proofs.RulingLaws.{next_right}
use Rattle.history_definitions.specs.Tallies.{refused_in}
use Rattle.peer_definitions.specs.declared.frame.Frame.{Frame}
use Rattle.peer_definitions.specs.declared.frame.Frame.TheVariants.{Events, Done, Bye}
use Rattle.peer_definitions.specs.Answering.{Answered, first_clash, told_of}
use Rattle.peer_definitions.specs.declared.end.End.{End}
use Rattle.peer_definitions.specs.declared.end.End.TheVariants as end
use Rattle.command_table.specs.Sessions.{Exchange, bytes_of, exchanged, opened_state, then_exchanged}
use Rattle.history_laws.proofs.FirstRows.{not_full, row_off}
use Rattle.table_laws.proofs.GoodBehind.{good_parted}

-- ---- one list of events

-- an event that is good is answered so, where there is room
good_row : (limits : LimitNumbers) (held : List Event) (x : Event) → next_verdict held x ≡ Good → length held < limits.events
    → first_row (id_rows held [] x ++ later_rows limits true held x) ≡ Good
unfolding id_rows size_rows parent_rows range_rows
good_row limits held x good room =
    let free : is_held (held ++ []) x.id ≡ false = ap (λ (l : List Event). is_held l x.id) (append-nil held) ∙ (next_from_good held x good).new in
    no_id (list_any (event_eq x) (held ++ [])) (is_held (held ++ []) x.id) (later_rows limits true held x) (no_repeat (held ++ []) x free) free
    ∙ row_off (parent_rows held x) (nat_le limits.events (length held)) GraphFull (range_rows held x) (not_full limits.events (length held) room)
    ∙ (next_right held x good).good

-- each is answered Good
abbrev pub all_good : List Event → List Answer
all_good events = map (λ (e : Event). record { event = e; ruling = Good }) events

-- all stand behind the history, and none waits
pub record IsReceived (old events : List Event) (o : Outcome) : Type 0 where
  pub answers : o.answers ≡ all_good events
  pub held : o.desk.held ≡ old ++ events
  pub waiting : o.desk.waiting ≡ []

nothing_received : (held : List Event) (s : Bool) → IsReceived held [] (record { desk = record { held = held; waiting = []; coming = []; is_settling = s }; answers = [] })
nothing_received held s = record { answers = refl; held = sym (append-nil held); waiting = refl }

one_received : (held : List Event) (x : Event) (later : List Event) (o : Outcome) → IsReceived (held ++ x ∷ []) later o → IsReceived held (x ∷ later) (with_answer (record { event = x; ruling = Good }) o)
one_received held x later o r = record {
  answers = ap (λ (more : List Answer). record { event = x; ruling = Good } ∷ more) r.answers;
  held = r.held ∙ append_assoc held (x ∷ []) later;
  waiting = r.waiting;
}

module _ (limits : LimitNumbers) where
  all_received : (n : ℕ) (held events : List Event) (s : Bool) → length events ≤ n → IsGoodAfter held events → length held + length events ≤ limits.events
      → IsReceived held events (judgements limits true n (record { held = held; waiting = []; coming = events; is_settling = s }))
  all_received zero held [] s h good room = nothing_received held s
  all_received zero held (x ∷ later) s h good room = absurd (omega (arith, h))
  all_received (suc n) held [] s h good room =
      subst (IsReceived held []) (sym (ap (then limits true n (record { held = held; waiting = []; coming = []; is_settling = s })) (none_judged limits held s))) (nothing_received held s)
  all_received (suc n) held (x ∷ later) s h good room =
      let d : Desk = record { held = held; waiting = []; coming = x ∷ later; is_settling = s } in
      let rest : Desk = record { held = held; waiting = []; coming = later; is_settling = true } in
      let fine = good_row limits held x good.0 (omega (arith, room)) in
      let longer = length-append held (x ∷ []) in
      let steps : judgements limits true (suc n) d ≡ then limits true n d (Some (judgement_of limits rest x Good)) =
      ap (then limits true n d) (first_judged limits held x later s ∙ ap (λ (r : Ruling). Some (judgement_of limits rest x r)) fine) in
      subst (IsReceived held (x ∷ later)) (sym steps)
      (one_received held x later (judgements limits true n (record { held = held ++ x ∷ []; waiting = []; coming = later; is_settling = true }))
      (all_received n (held ++ x ∷ []) later true (omega (arith, h)) good.1 (omega (arith, room, longer))))

  pub received : (held events : List Event) → IsGoodAfter held events → length held + length events ≤ limits.events → IsReceived held events (arrive limits held [] events)
  unfolding arrive
  received held events good room = all_received (most_judgements (desk_of held [] events)) held events false (omega arith) good room

-- ---- frames of them

none_refused : (events : List Event) → refused_in (all_good events) ≡ []
none_refused [] = refl
none_refused (x ∷ events) = none_refused events

same_state : (limits : LimitNumbers) (xs ys ws : List Event) → xs ≡ ys → ws ≡ [] → record { limits = limits; held = xs; waiting = ws } ≡ opened_state limits ys
same_state limits xs ys ws p q = λ i. record { limits = limits; held = p i; waiting = q i }

-- the session ended with a Bye, which is answered
pub record IsTalked (limits : LimitNumbers) (events : List Event) (t : Exchange) : Type 0 where
  pub end : t.end ≡ Some end.Bye
  pub last : t.last ≡ bytes_of (Bye ∷ [])
  pub state : t.state ≡ opened_state limits events

went_on : (limits : LimitNumbers) (events : List Event) (a : Answered) (more : Exchange) (o : Option End) → o ≡ None → IsTalked limits events more → IsTalked limits events (then_exchanged a o more)
went_on limits events a more o none t =
    subst (λ (x : Option End). IsTalked limits events (then_exchanged a x more)) (sym none) (record { end = t.end; last = t.last; state = t.state })

-- events in frames, of which each is received behind those before, and then Done and Bye
pub talked : (limits : LimitNumbers) (held : List Event) (pieces : List (List Event)) → IsGoodAfter held (flat_map (λ piece. piece) pieces) → length held + length (flat_map (λ (piece : List Event). piece) pieces) ≤ limits.events
    → IsTalked limits (held ++ flat_map (λ piece. piece) pieces) (exchanged (opened_state limits held) (map Events pieces ++ Done ∷ Bye ∷ []))
talked limits held [] good room = record { end = refl; last = refl; state = same_state limits held (held ++ []) [] (sym (append-nil held)) refl }
talked limits held (piece ∷ pieces) good room =
    let more : List Event = flat_map (λ p. p) pieces in
    let parts = good_parted held piece more good in
    let both = length-append piece more in
    let longer = length-append held piece in
    let r = received limits held piece parts.0 (omega (arith, room, both)) in
    let o = arrive limits held [] piece in
    let a = told_of limits o in
    let frames : List Frame = map Events pieces ++ Done ∷ Bye ∷ [] in
    let none : a.end ≡ None = ap (λ (answers : List Answer). option_map end.Clash (first_clash (refused_in answers))) r.answers ∙ ap (λ refused. option_map end.Clash (first_clash refused)) (none_refused piece) in
    let state : a.state ≡ opened_state limits (held ++ piece) = same_state limits o.desk.held (held ++ piece) o.desk.waiting r.held r.waiting in
    let rest : IsTalked limits ((held ++ piece) ++ more) (exchanged a.state frames) =
    subst (λ (s : ReplicaState). IsTalked limits ((held ++ piece) ++ more) (exchanged s frames)) (sym state) (talked limits (held ++ piece) pieces parts.1 (omega (arith, room, both, longer))) in
    went_on limits (held ++ (piece ++ more)) a (exchanged a.state frames) a.end none
    (subst (λ (events : List Event). IsTalked limits events (exchanged a.state frames)) (append_assoc held piece more) rest)
