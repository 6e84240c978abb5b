-- Events that are sent in frames, in order, are all held after them, where the history isn't full.
use Rattle.std.proofs.Common.{◌≡◌, ℕ, zero, suc, ◌+◌, ◌*◌, ◌≤◌, true, false, not, ◌⊎◌, inl, inr, ⊎_elim, List, [], ◌∷◌, ◌++◌, cond, length, map, take, drop, refl, sym, ap, subst, append_assoc, append-nil, arith}
use Rattle.std.specs.Int.{div_ceil}
use Rattle.std.specs.List.{AllByRecursion, list_any}
use Rattle.std.proofs.lemmas.Bool.{cases_Bool, cond-false, cond-true}
use Rattle.std.proofs.lemmas.Grind.{div_ceil_times}
use Rattle.std.proofs.lemmas.List.{length-drop, take-append-drop}
use Rattle.ew_model.specs.declared.event.Event.{Event}
use Rattle.ew_model.specs.Ancestors.{is_held}
use Rattle.ew_model.specs.Arrival.{Answer}
use Rattle.ew_model.specs.Events.{event_eq}
use Rattle.ew_model.specs.Kept.{ReplicaState}
use Rattle.ew_model.specs.Limits.{AreLimits, LimitNumbers}
use Rattle.ew_model.specs.Sets.{Among}
use Rattle.ew_model.specs.Verdicts.{IsGood, IsGoodAfter}
use Rattle.ew_model.proofs.CoverLaws.{ids_within}
use Rattle.ew_model.proofs.GoodLaws.{next_from_good}
use Rattle.ew_model.proofs.SameEvents.{event_among}
use Rattle.ew_model.proofs.SetLaws.{among_joined, joined_left, joined_right}
use Rattle.ew_model.proofs.SortingLaws.{all_at}
use Rattle.event_graph.proofs.Tails.{all_first}
use Rattle.peer_exchange.proofs.Lengths.{all_drop}
use Rattle.peer_exchange.proofs.PieceLaws.{some_room}
use Rattle.peer_definitions.specs.Answering.{answer_to, event_frames}
use Rattle.peer_exchange.specs.Laws.{unheld}
use Rattle.peer_definitions.specs.Pieces.{frame_room, pieces_from}
use Rattle.peer_definitions.specs.declared.frame.Frame.{Frame}
use Rattle.peer_definitions.specs.declared.frame.Frame.TheVariants as frame
use Rattle.net_core.specs.Keeping.{IsHome, IsReplica}
use Rattle.net_core.specs.Laws.{HeldAll, answers_in, answers_to, is_graph_full}
use Rattle.peer_definitions.specs.Machine.{Peer, delivery_of}
use Rattle.net_core.proofs.CatchingUp.{AreOrdered, all_caught}
use Rattle.net_core.proofs.Deliveries.{all_before, from_desk, went, went_all}
use Rattle.net_core.proofs.Homes.{one_home, was_home}
use Rattle.net_core.proofs.Reaching.{HasHomes}

-- parts of an order
ordered_front : (known xs ys : List Event) → AreOrdered known (xs ++ ys) → AreOrdered known xs
ordered_front known [] ys h = tt
ordered_front known (x ∷ xs) ys h = (h.0, ordered_front (known ++ x ∷ []) xs ys h.1)

ordered_back : (known xs ys : List Event) → AreOrdered known (xs ++ ys) → AreOrdered (known ++ xs) ys
ordered_back known [] ys h = subst (λ ks. AreOrdered ks ys) (sym (append-nil known)) h
ordered_back known (x ∷ xs) ys h = subst (λ ks. AreOrdered ks ys) (append_assoc known (x ∷ []) xs) (ordered_back (known ++ x ∷ []) xs ys h.1)

-- a good history is in order
ordered_after : (before later : List Event) → IsGoodAfter before later → AreOrdered before later
ordered_after before [] h = tt
ordered_after before (e ∷ later) h = (
  λ x m. all_at (λ p. is_held before p ≡ true) e.parents x
      (next_from_good before e h.0).parents m,
  ordered_after (before ++ e ∷ []) later h.1,
)

pub good_ordered : (history : List Event) → IsGood history → AreOrdered [] history
unfolding IsGood
good_ordered history h = ordered_after [] history h

-- so is what another history doesn't hold of it, behind that history
unheld_after : (a known before later : List Event) → IsGoodAfter before later → ((e : Event) → Among e a → Among e known) → ((e : Event) → Among e before → Among e known)
    → AreOrdered known (unheld later a)
unheld_after a known before [] h has inside = tt
unheld_after a known before (e ∷ later) h has inside = at (cases_Bool (list_any (event_eq e) a))
    (λ more sub here. unheld_after a more (before ++ e ∷ []) later h.1 sub here)
  where
    next : (more : List Event) → ((z : Event) → Among z known → Among z more) → Among e more → (z : Event) → Among z (before ++ e ∷ []) → Among z more
    next more sub here z m = ⊎_elim (λ k. sub z (inside z k)) (λ k. ⊎_elim (λ q. subst (λ y. Among y more) (sym q) here) (λ none. absurd none) k)
        (among_joined before (e ∷ []) z m)

    at : (list_any (event_eq e) a ≡ true) ⊎ (list_any (event_eq e) a ≡ false)
        → ((more : List Event) → ((z : Event) → Among z a → Among z more) → ((z : Event) → Among z (before ++ e ∷ []) → Among z more) → AreOrdered more (unheld later a))
        → AreOrdered known (cond (not (list_any (event_eq e) a)) (e ∷ unheld later a) (unheld later a))
    at (inl there) rest =
        subst (AreOrdered known) (sym (cond-false _ _ _ (ap not there))) (rest known has (next known (λ z k. k) (has e (event_among e a there))))
    at (inr other) rest =
        subst (AreOrdered known) (sym (cond-true _ _ _ (ap not other))) (
          λ x m. ids_within before known inside x (all_at (λ p. is_held before p ≡ true) e.parents x (next_from_good before e h.0).parents m),
          rest (known ++ e ∷ []) (λ z k. joined_left known (e ∷ []) z (has z k))
              (next (known ++ e ∷ []) (λ z k. joined_left known (e ∷ []) z k) (joined_right known (e ∷ []) e (inl refl))),
        )

pub unheld_ordered : (history a : List Event) → IsGood history → AreOrdered a (unheld history a)
unfolding IsGood
unheld_ordered history a h = unheld_after a a [] history h (λ e m. m) (λ e none. absurd none)

-- the room in the first answers
room_first : (xs ys : List Answer) → HeldAll (xs ++ ys) → HeldAll xs
room_first xs ys h = all_before (λ (a : Answer). is_graph_full a.ruling ≡ false) xs ys h

room_last : (xs ys : List Answer) → HeldAll (xs ++ ys) → HeldAll ys
room_last [] ys h = h
room_last (a ∷ xs) ys h = room_last xs ys h.1

nothing_in : (xs : List Event) (e : Event) → length xs ≤ 0 → Among e xs → ⊥
nothing_in [] e h m = m
nothing_in (x ∷ xs) e h m = omega (arith, h)

module _ (limits : LimitNumbers) (peers : List Peer) (all : AllByRecursion (λ (p : Peer). IsReplica limits peers p.replica) peers) (name : List ℕ) (rest : List Frame)
    (homes_rest : AllByRecursion (HasHomes peers) rest) where
  -- one frame
  frame_caught : (r : ReplicaState) (events known : List Event) → IsReplica limits peers r → AllByRecursion (IsHome peers) events → AreOrdered known events
      → ((e : Event) → Among e known → Among e r.held)
      → HeldAll (answers_to r (frame.Events events)) → (e : Event) → Among e known ⊎ Among e events → Among e (answer_to r (frame.Events events)).state.held
  frame_caught r events known h homes ordered inside room e m =
      all_caught (IsHome peers) (one_home limits peers all) (was_home limits peers all) r.limits r.held r.waiting events known
      (from_desk limits peers all r events h homes) ordered inside room e m

  pieces_caught : (n k : ℕ) (events known : List Event) (r : ReplicaState) → length events ≤ k * n → IsReplica limits peers r
      → AllByRecursion (IsHome peers) events → AreOrdered known events
      → ((e : Event) → Among e known → Among e r.held) → HeldAll (answers_in r (map frame.Events (pieces_from n k events) ++ rest))
      → (e : Event) → Among e known ⊎ Among e events → Among e (delivery_of name r (map frame.Events (pieces_from n k events) ++ rest)).replica.held
  pieces_caught n zero events known r long h homes ordered inside room e m =
      ⊎_elim (λ old. (went_all limits peers all name r rest h homes_rest).grown e (inside e old)) (λ new. absurd (nothing_in events e (omega (arith, long)) new)) m
  pieces_caught n (suc k) events known r long h homes ordered inside room e m =
      let first = take n events in
      let later = drop n events in
      let whole = take-append-drop n events in
      let f = frame.Events first in
      let first_homes = all_first (IsHome peers) n events homes in
      let order : AreOrdered known (first ++ later) = subst (AreOrdered known) (sym whole) ordered in
      let next = (answer_to r f).state in
      let more = map frame.Events (pieces_from n k later) ++ rest in
      let caught = frame_caught r first known h first_homes (ordered_front known first later order) inside (room_first (answers_to r f) (answers_in next more) room) in
      let fewer = length-drop n events in
      let one : suc k * n ≡ n + k * n = omega arith in
      pieces_caught n k later (known ++ first) next (omega (arith, long, fewer, one)) (went limits peers all r f h first_homes).replica
      (all_drop (IsHome peers) n events homes)
      (ordered_back known first later order) (λ z k. caught z (among_joined known first z k)) (room_last (answers_to r f) (answers_in next more) room) e
      (⊎_elim (λ old. inl (joined_left known first e old)) (λ new. ⊎_elim (λ i. inl (joined_right known first e i)) (λ i. inr i)
      (among_joined first later e (subst (Among e) (sym whole) new))) m)

  -- All frames of a list of events, and others behind them.
  pub frames_caught : AreLimits limits → (events known : List Event) (r : ReplicaState) → IsReplica limits peers r
      → AllByRecursion (IsHome peers) events → AreOrdered known events
      → ((e : Event) → Among e known → Among e r.held) → HeldAll (answers_in r (event_frames limits events ++ rest))
      → (e : Event) → Among e known ⊎ Among e events → Among e (delivery_of name r (event_frames limits events ++ rest)).replica.held
  frames_caught are events known r h homes ordered inside room e m =
      let n = frame_room limits in
      pieces_caught n (div_ceil (length events) n) events known r (div_ceil_times (length events) n (some_room limits are)).0 h homes ordered inside room e m
