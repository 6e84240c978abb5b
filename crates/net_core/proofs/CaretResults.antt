-- What a set caret of a peer leaves of a network, and what is answered.
use Rattle.std.proofs.Common.{◌≡◌, ℕ, ◌<◌, List, length, Some, None, refl, sym, ap, ◌∙◌, subst}
use Rattle.std.specs.Global.{Vec}
use Rattle.std.specs.List.{slice_get}
use Rattle.std.specs.Prelude.{Err, Ok, Result}
use Rattle.ew_model.specs.Edits.EditRefusal.{OutOfRange}
use Rattle.ew_model.specs.Texts.{text_of}
use Rattle.carets.specs.declared.caret.Caret.{Caret}
use Rattle.carets.specs.Sides.{caret_in, text_chars}
use Rattle.peer_definitions.specs.declared.net_step.NetStep.TheVariants as step
use Rattle.net_core.specs.declared.fault.NetFault.{NetFault}
use Rattle.net_core.specs.declared.fault.NetFault.TheVariants as fault
use Rattle.net_core.specs.Answers.{SetsCaret, StepsTo, refusal_told, told_bytes}
use Rattle.net_core.specs.Keeping.{IsReached}
use Rattle.peer_definitions.specs.Machine.{Network, Peer, caret_line, caret_outcome, net_step, peer_of}
use Rattle.peer_definitions.specs.Machine.Refusal.{NoEdit}
use Rattle.peer_definitions.specs.Machine.StepOutcome.{Stepped}
use Rattle.net_core.proofs.Editing.{named_so}
use Rattle.net_core.proofs.Steps.{at_peer, caret_is, refused}
use Rattle.net_core.proofs.Writes.{caret_reached, caret_written, here, there, with_written, written_back}

-- what is left, whatever the fault
left_same : (A : Type 0) (at : ℕ) (old new : Peer) (f : NetFault) → SetsCaret {A = A} at old new (Err f) → new ≡ old
left_same A at old new (fault.NoPeer name) h = h.1
left_same A at old new (fault.PeerTwice name) h = h.1
left_same A at old new (fault.NoPacket n) h = h.1
left_same A at old new (fault.NoEvent id) h = h.1
left_same A at old new (fault.OutOfRange len) h = h.1
left_same A at old new (fault.TooManyHeads heads) h = h.1
left_same A at old new (fault.Full count) h = h.1
left_same A at old new fault.OutOfMemory h = h

module _ (network : Network) (who : List ℕ) (at : ℕ) (p : Peer) (found : peer_of network who ≡ Some p) where
  abbrev OutOfText : NetFault → Type 0
  OutOfText f = (caret_in (text_chars p.replica.held) at ≡ None) × (f ≡ fault.OutOfRange (length (text_of p.replica.held)))

  outcome : net_step network (step.Caret who at) ≡ caret_outcome network p at (caret_in (text_chars p.replica.held) at)
  outcome = caret_is network who at ∙ at_peer network who (λ (x : Peer). caret_outcome network x at (caret_in (text_chars x.replica.held) at)) p found

  out_of_text : (f : NetFault) → OutOfText f → StepsTo network (step.Caret who at) network (Err f)
  out_of_text f h =
      refused network network (step.Caret who at) f (NoEdit (OutOfRange (length (text_of p.replica.held)))) (ap refusal_told h.1)
      (outcome ∙ ap (caret_outcome network p at) h.0) refl

  -- what is answered where it isn't set
  told_refused : (A : Type 0) (new : Peer) (f : NetFault) → SetsCaret {A = A} at p new (Err f) → StepsTo network (step.Caret who at) network (Err f)
  told_refused A new (fault.NoPeer name) h = out_of_text (fault.NoPeer name) h.0
  told_refused A new (fault.PeerTwice name) h = out_of_text (fault.PeerTwice name) h.0
  told_refused A new (fault.NoPacket n) h = out_of_text (fault.NoPacket n) h.0
  told_refused A new (fault.NoEvent id) h = out_of_text (fault.NoEvent id) h.0
  told_refused A new (fault.OutOfRange len) h = out_of_text (fault.OutOfRange len) h.0
  told_refused A new (fault.TooManyHeads heads) h = out_of_text (fault.TooManyHeads heads) h.0
  told_refused A new (fault.Full count) h = out_of_text (fault.Full count) h.0
  told_refused A new fault.OutOfMemory h = refl

module _ (N S : Network) (view : N ≡ S) (h : IsReached N) (who : List ℕ) (place : ℕ)
    (found : (place < length S.peers) × (peer_of S who ≡ slice_get S.peers place)) (at : ℕ) (x q : Peer)
    (old : q ≡ here N S view h who place found) where
  abbrev p : Peer
  p = here N S view h who place found

  sets_here : {A : Type 0} (r : Result A NetFault) → SetsCaret at q x r → SetsCaret at p x r
  sets_here r sets = subst (λ (y : Peer). SetsCaret at y x r) old sets

  -- it wasn't set
  failed_back : (A : Type 0) (f : NetFault) → SetsCaret {A = A} at q x (Err f) → with_written N S view h who place found x ≡ S
  failed_back A f sets = written_back N S view h who place found x (left_same A at p x f (sets_here {A = A} (Err f) sets))

  pub failed_told : (A : Type 0) (f y : NetFault) (result : Result (Vec ℕ) NetFault) → SetsCaret {A = A} at q x (Err f) → y ≡ f → result ≡ Err y
      → StepsTo S (step.Caret who at) (with_written N S view h who place found x) (told_bytes result)
  failed_told A f y result sets told answered =
      subst (λ n. StepsTo S (step.Caret who at) n (told_bytes result)) (sym (failed_back A f sets))
      (subst (λ r. StepsTo S (step.Caret who at) S (told_bytes r)) (sym (answered ∙ ap Err told))
      (told_refused S who at p (there N S view h who place found) A x f (sets_here {A = A} (Err f) sets)))

  -- it was set
  pub set_reached : {A : Type 0} (d : A) → SetsCaret at q x (Ok d) → IsReached (with_written N S view h who place found x)
  set_reached {A} d sets = let all = sets_here {A = A} (Ok d) sets in caret_reached N S view h who place found x all.0 all.2

  pub set_told : {A : Type 0} (d : A) → SetsCaret at q x (Ok d) → net_step S (step.Caret who at) ≡ Stepped (with_written N S view h who place found x) (caret_line who at)
  set_told {A} d sets =
      let all = sets_here {A = A} (Ok d) sets in
      let back = caret_written N S view h who place found x all.0 all.2 in
      let name = named_so S who p (there N S view h who place found) in
      outcome S who at p (there N S view h who place found) ∙ ap (caret_outcome S p at) all.1 ∙ (λ i. Stepped (sym back i) (caret_line (name i) at))
