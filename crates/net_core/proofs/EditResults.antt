-- What a local edit of a peer leaves of a network, and what is answered.
use Rattle.std.proofs.Common.{◌≡◌, ℕ, ◌<◌, List, [], ◌∷◌, length, Some, None, refl, sym, ap, ◌∙◌, subst}
use Rattle.std.specs.Global.{Vec}
use Rattle.std.specs.List.{slice_get}
use Rattle.std.specs.Prelude.{Err, Ok, Result, codes, decimal}
use Rattle.ew_model.specs.Edits.{Edit, edit_refusal}
use Rattle.ew_model.specs.Edits as model
use Rattle.ew_model.specs.Kept.{ReplicaState}
use Rattle.peer_definitions.specs.declared.net_step.NetStep.{NetStep}
use Rattle.replica.specs.Answers.{EditsBy}
use Rattle.replica.specs.declared.fault.EditFault.{EditFault}
use Rattle.replica.specs.declared.fault.EditFault.TheVariants as edit
use Rattle.net_core.specs.declared.fault.NetFault.{NetFault}
use Rattle.net_core.specs.declared.fault.NetFault.TheVariants as fault
use Rattle.net_core.specs.Answers.{IsLeftAt, StepsTo, fault_of, handed_over, told_bytes}
use Rattle.net_core.specs.Keeping.{IsReached}
use Rattle.peer_definitions.specs.Machine.{Network, Peer, edit_outcome, edit_step, net_step, peer_of, printed_line}
use Rattle.peer_definitions.specs.Machine.Refusal.{NoEdit}
use Rattle.peer_definitions.specs.Machine.StepOutcome.{Stepped}
use Rattle.net_core.proofs.Editing.{edited_homely, edited_state, edited_step, named_so}
use Rattle.net_core.proofs.Reaching.{homely}
use Rattle.net_core.proofs.Steps.{at_peer, refused}
use Rattle.net_core.proofs.Puts.{with_replica}
use Rattle.net_core.proofs.Writes.{here, put_is, seen, there, with_written, written, written_back, written_reached}

-- what is left, whatever the fault
left_same : (agent : List ℕ) (e : Edit) (old new : ReplicaState) (f : EditFault) → EditsBy agent e old new (Err f) → new ≡ old
left_same agent e old new (edit.OutOfRange len) h = h.1
left_same agent e old new (edit.TooManyHeads heads) h = h.1
left_same agent e old new (edit.Full count) h = h.1
left_same agent e old new edit.OutOfMemory h = h

-- what is answered to a refused edit
told_refused : (network : Network) (s : NetStep) (who : List ℕ) (p : Peer) (e : Edit) (new : ReplicaState) (f : EditFault) → net_step network s ≡ edit_step network who e
    → handed_over network s ≡ None → peer_of network who ≡ Some p
    → EditsBy p.name e p.replica new (Err f) → StepsTo network s network (Err (fault_of f))
told_refused network s who p e new f is none found edits = at f edits
  where
    outcome : edit_step network who e ≡ edit_outcome network p e (edit_refusal p.replica.limits p.replica.held p.name e)
    outcome = at_peer network who (λ (x : Peer). edit_outcome network x e (edit_refusal x.replica.limits x.replica.held x.name e)) p found

    at : (g : EditFault) → EditsBy p.name e p.replica new (Err g) → StepsTo network s network (Err (fault_of g))
    at (edit.OutOfRange len) h = refused network network s (fault.OutOfRange len) (NoEdit (model.EditRefusal.OutOfRange len)) refl
        (is ∙ outcome ∙ ap (edit_outcome network p e) h.0) refl
    at (edit.TooManyHeads heads) h = refused network network s (fault.TooManyHeads heads) (NoEdit (model.EditRefusal.TooManyHeads heads)) refl
        (is ∙ outcome ∙ ap (edit_outcome network p e) h.0) refl
    at (edit.Full count) h = refused network network s (fault.Full count) (NoEdit (model.EditRefusal.Full count)) refl
        (is ∙ outcome ∙ ap (edit_outcome network p e) h.0) refl
    at edit.OutOfMemory h = subst (λ o. IsLeftAt network o network) (sym none) refl

module _ (N S : Network) (view : N ≡ S) (h : IsReached N) (who : List ℕ) (place : ℕ)
    (found : (place < length S.peers) × (peer_of S who ≡ slice_get S.peers place)) (e : Edit) (x q : Peer)
    (old : q ≡ here N S view h who place found) (named : x.name ≡ q.name) (caret : x.caret ≡ q.caret) where
  abbrev p : Peer
  p = here N S view h who place found

  edits_here : (r : Result ℕ EditFault) → EditsBy q.name e q.replica x.replica r → EditsBy p.name e p.replica x.replica r
  edits_here r edits = subst (λ (y : Peer). EditsBy y.name e y.replica x.replica r) old edits

  put_so : (r : ReplicaState) → x.replica ≡ r → x ≡ with_replica r p
  put_so r same = put_is N S view h who place found x q old named caret r same

  -- it was refused
  pub failed_back : (f : EditFault) → EditsBy q.name e q.replica x.replica (Err f) → with_written N S view h who place found x ≡ S
  failed_back f edits = let same = left_same p.name e p.replica x.replica f (edits_here (Err f) edits) in written_back N S view h who place found x (put_so p.replica same)

  pub failed_reached : (f : EditFault) → EditsBy q.name e q.replica x.replica (Err f) → IsReached (with_written N S view h who place found x)
  failed_reached f edits = subst IsReached (sym (failed_back f edits)) (seen N S view h who place found)

  pub failed_told : (s : NetStep) (f : EditFault) (y : NetFault) (result : Result (Vec ℕ) NetFault) → net_step S s ≡ edit_step S who e → handed_over S s ≡ None
      → EditsBy q.name e q.replica x.replica (Err f) → y ≡ fault_of f → result ≡ Err y
      → StepsTo S s (with_written N S view h who place found x) (told_bytes result)
  failed_told s f y result is none edits told answered =
      subst (λ n. StepsTo S s n (told_bytes result)) (sym (failed_back f edits))
      (subst (λ r. StepsTo S s S (told_bytes r)) (sym (answered ∙ ap Err told))
      (told_refused S s who p e x.replica f is none (there N S view h who place found) (edits_here (Err f) edits)))

  -- it was made
  made_is : (n : ℕ) (edits : EditsBy q.name e q.replica x.replica (Ok n))
      → x ≡ with_replica (edited_state S who p e (homely S (seen N S view h who place found)) (there N S view h who place found) (edits_here (Ok n) edits).0) p
  made_is n edits = let all = edits_here (Ok n) edits in put_so _ all.1

  pub made_reached : (n : ℕ) → EditsBy q.name e q.replica x.replica (Ok n) → IsReached (with_written N S view h who place found x)
  made_reached n edits =
      written_reached N S view h who place found x _ (made_is n edits)
      (edited_homely S who p e (homely S (seen N S view h who place found)) (there N S view h who place found) (edits_here (Ok n) edits).0)

  pub made_told : (n : ℕ) → EditsBy q.name e q.replica x.replica (Ok n)
      → edit_step S who e ≡ Stepped (with_written N S view h who place found x) (printed_line (who ∷ codes "made" ∷ decimal n ∷ []))
  made_told n edits =
      let all = edits_here (Ok n) edits in
      let back = written N S view h who place found x _ (made_is n edits) in
      let name = named_so S who p (there N S view h who place found) in
      edited_step S who p e (homely S (seen N S view h who place found)) (there N S view h who place found) all.0
      ∙ (λ i. Stepped (sym back i) (printed_line (name i ∷ codes "made" ∷ decimal (sym all.2 i) ∷ [])))
