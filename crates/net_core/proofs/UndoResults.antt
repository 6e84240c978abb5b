-- What an undo of a peer leaves of a network, and what is answered.
use Rattle.std.proofs.Common.{◌≡◌, ℕ, ◌<◌, List, [], ◌∷◌, length, Some, None, refl, sym, ap, ◌∙◌, subst}
use Rattle.std.specs.Global.{Vec}
use Rattle.std.specs.List.{slice_get}
use Rattle.std.specs.Prelude.{Err, Ok, Result, codes, decimal}
use Rattle.ew_model.specs.declared.id.Id.{Id}
use Rattle.ew_model.specs.Edits as model
use Rattle.ew_model.specs.Kept.{ReplicaState}
use Rattle.peer_definitions.specs.declared.net_step.NetStep.{NetStep}
use Rattle.undo.specs.Answers.{Undoes}
use Rattle.undo.specs.declared.fault.UndoFault.{UndoFault}
use Rattle.undo.specs.declared.fault.UndoFault.TheVariants as undo
use Rattle.undo_definitions.specs.Undoing.{undo_refusal}
use Rattle.net_core.specs.declared.fault.NetFault.{NetFault}
use Rattle.net_core.specs.declared.fault.NetFault.TheVariants as fault
use Rattle.net_core.specs.Answers.{IsLeftAt, StepsTo, fault_of_undo, handed_over, told_bytes}
use Rattle.net_core.specs.Keeping.{IsReached}
use Rattle.peer_definitions.specs.Machine.{Network, Peer, net_step, peer_of, printed_line, undo_outcome, undo_step}
use Rattle.peer_definitions.specs.Machine.Refusal.{NoEdit, NoEvent}
use Rattle.peer_definitions.specs.Machine.StepOutcome.{Stepped}
use Rattle.net_core.proofs.Editing.{named_so, undone_homely, undone_state, undone_step}
use Rattle.net_core.proofs.Reaching.{homely}
use Rattle.net_core.proofs.Steps.{at_peer, refused}
use Rattle.net_core.proofs.Puts.{with_replica}
use Rattle.net_core.proofs.Writes.{here, put_is, seen, there, with_written, written, written_back, written_reached}

-- what is left, whatever the fault
left_same : (agent : List ℕ) (undone : List Id) (old new : ReplicaState) (f : UndoFault) → Undoes agent undone old new (Err f) → new ≡ old
left_same agent undone old new (undo.NoEvent id) h = h.1
left_same agent undone old new (undo.TooManyHeads heads) h = h.1
left_same agent undone old new (undo.Full count) h = h.1
left_same agent undone old new undo.OutOfMemory h = h

-- what is answered to a refused undo
told_refused : (network : Network) (s : NetStep) (who : List ℕ) (p : Peer) (undone : List Id) (new : ReplicaState) (f : UndoFault) → net_step network s ≡ undo_step network who undone
    → handed_over network s ≡ None → peer_of network who ≡ Some p
    → Undoes p.name undone p.replica new (Err f) → StepsTo network s network (Err (fault_of_undo f))
told_refused network s who p undone new f is none found undoes = at f undoes
  where
    outcome : undo_step network who undone ≡ undo_outcome network p undone (undo_refusal p.replica.limits p.replica.held undone)
    outcome = at_peer network who (λ (x : Peer). undo_outcome network x undone (undo_refusal x.replica.limits x.replica.held undone)) p found

    at : (g : UndoFault) → Undoes p.name undone p.replica new (Err g) → StepsTo network s network (Err (fault_of_undo g))
    at (undo.NoEvent id) h = refused network network s (fault.NoEvent id) (NoEvent id) refl
        (is ∙ outcome ∙ ap (undo_outcome network p undone) h.0) refl
    at (undo.TooManyHeads heads) h = refused network network s (fault.TooManyHeads heads) (NoEdit (model.EditRefusal.TooManyHeads heads)) refl
        (is ∙ outcome ∙ ap (undo_outcome network p undone) h.0) refl
    at (undo.Full count) h = refused network network s (fault.Full count) (NoEdit (model.EditRefusal.Full count)) refl
        (is ∙ outcome ∙ ap (undo_outcome network p undone) h.0) refl
    at undo.OutOfMemory h = subst (λ o. IsLeftAt network o network) (sym none) refl

module _ (N S : Network) (view : N ≡ S) (h : IsReached N) (who : List ℕ) (place : ℕ)
    (found : (place < length S.peers) × (peer_of S who ≡ slice_get S.peers place)) (undone : List Id) (x q : Peer)
    (old : q ≡ here N S view h who place found) (named : x.name ≡ q.name) (caret : x.caret ≡ q.caret) where
  abbrev p : Peer
  p = here N S view h who place found

  undoes_here : (r : Result ℕ UndoFault) → Undoes q.name undone q.replica x.replica r → Undoes p.name undone p.replica x.replica r
  undoes_here r undoes = subst (λ (y : Peer). Undoes y.name undone y.replica x.replica r) old undoes

  put_so : (r : ReplicaState) → x.replica ≡ r → x ≡ with_replica r p
  put_so r same = put_is N S view h who place found x q old named caret r same

  -- it was refused
  pub failed_back : (f : UndoFault) → Undoes q.name undone q.replica x.replica (Err f) → with_written N S view h who place found x ≡ S
  failed_back f undoes = let same = left_same p.name undone p.replica x.replica f (undoes_here (Err f) undoes) in written_back N S view h who place found x (put_so p.replica same)

  pub failed_reached : (f : UndoFault) → Undoes q.name undone q.replica x.replica (Err f) → IsReached (with_written N S view h who place found x)
  failed_reached f undoes = subst IsReached (sym (failed_back f undoes)) (seen N S view h who place found)

  pub failed_told : (s : NetStep) (f : UndoFault) (y : NetFault) (result : Result (Vec ℕ) NetFault) → net_step S s ≡ undo_step S who undone → handed_over S s ≡ None
      → Undoes q.name undone q.replica x.replica (Err f) → y ≡ fault_of_undo f → result ≡ Err y
      → StepsTo S s (with_written N S view h who place found x) (told_bytes result)
  failed_told s f y result is none undoes told answered =
      subst (λ n. StepsTo S s n (told_bytes result)) (sym (failed_back f undoes))
      (subst (λ r. StepsTo S s S (told_bytes r)) (sym (answered ∙ ap Err told))
      (told_refused S s who p undone x.replica f is none (there N S view h who place found) (undoes_here (Err f) undoes)))

  -- it was made
  made_is : (n : ℕ) (undoes : Undoes q.name undone q.replica x.replica (Ok n))
      → x ≡ with_replica (undone_state S who p undone (homely S (seen N S view h who place found)) (there N S view h who place found) (undoes_here (Ok n) undoes).0) p
  made_is n undoes = let all = undoes_here (Ok n) undoes in put_so _ all.1

  pub made_reached : (n : ℕ) → Undoes q.name undone q.replica x.replica (Ok n) → IsReached (with_written N S view h who place found x)
  made_reached n undoes =
      written_reached N S view h who place found x _ (made_is n undoes)
      (undone_homely S who p undone (homely S (seen N S view h who place found)) (there N S view h who place found) (undoes_here (Ok n) undoes).0)

  pub made_told : (n : ℕ) → Undoes q.name undone q.replica x.replica (Ok n)
      → undo_step S who undone ≡ Stepped (with_written N S view h who place found x) (printed_line (who ∷ codes "made" ∷ decimal n ∷ []))
  made_told n undoes =
      let all = undoes_here (Ok n) undoes in
      let back = written N S view h who place found x _ (made_is n undoes) in
      let name = named_so S who p (there N S view h who place found) in
      undone_step S who p undone (homely S (seen N S view h who place found)) (there N S view h who place found) all.0
      ∙ (λ i. Stepped (sym back i) (printed_line (name i ∷ codes "made" ∷ decimal (sym all.2 i) ∷ [])))
