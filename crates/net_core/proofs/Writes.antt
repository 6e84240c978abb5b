-- A peer of a network is read at its place, and written there.
use Rattle.std.proofs.Common.{◌≡◌, ℕ, zero, suc, ◌<◌, List, [], ◌∷◌, get_or, length, map, set, Some, refl, sym, ap, ◌∙◌, subst}
use Rattle.std.specs.Global.{Vec}
use Rattle.std.specs.List.{slice_get}
use Rattle.std.specs.Prelude.{Err, Result}
use Rattle.ew_model.specs.Kept.{ReplicaState}
use Rattle.carets.specs.declared.caret.Caret.{Caret}
use Rattle.peer_definitions.specs.declared.net_step.NetStep.{NetStep}
use Rattle.net_core.specs.declared.fault.NetFault.{NetFault}
use Rattle.net_core.specs.declared.fault.NetFault.TheVariants as fault
use Rattle.net_core.specs.Answers.{StepsTo, refusal_told, told_bytes}
use Rattle.net_core.specs.Keeping.{IsReached}
use Rattle.peer_definitions.specs.Machine.{Network, Peer, Refusal, net_step, peer_of, put_caret, put_replica}
use Rattle.peer_definitions.specs.Machine.Refusal.{NoPeer}
use Rattle.peer_definitions.specs.Machine.StepOutcome.{Refused}
use Rattle.net_core.proofs.Editing.{named_so, placed, with_peers}
use Rattle.net_core.proofs.Packets.{put_same}
use Rattle.net_core.proofs.Puts.{changed_in, with_caret, with_replica}
use Rattle.net_core.proofs.Reaching.{IsHomely, caret_homely, fit, homely, reached}
use Rattle.net_core.proofs.Steps.{peer_at, refused}

got_or : {X : Type 0} (xs : List X) (i : ℕ) (x d : X) → slice_get xs i ≡ Some x → get_or xs i d ≡ x
got_or [] i x d at = let no : ⊥ = cc in absurd no
got_or (y ∷ xs) zero x d at = cc
got_or (y ∷ xs) (suc i) x d at = got_or xs i x d at

-- what a call answers that was refused
pub refused_so : (network : Network) (s : NetStep) (f : NetFault) (why : Refusal) (result : Result (Vec ℕ) NetFault) → result ≡ Err f → refusal_told f ≡ Some why
    → net_step network s ≡ Refused why
    → StepsTo network s network (told_bytes result)
refused_so network s f why result is told step = subst (λ r. StepsTo network s network (told_bytes r)) (sym is) (refused network network s f why told step refl)

pub no_peer_told : (network : Network) (s : NetStep) (name : List ℕ) (f : NetFault) (result : Result (Vec ℕ) NetFault) → result ≡ Err f → f ≡ fault.NoPeer name
    → net_step network s ≡ Refused (NoPeer name)
    → StepsTo network s network (told_bytes result)
no_peer_told network s name f result is named step = refused_so network s f (NoPeer name) result is (ap refusal_told named) step

-- the peer of a name at its place, where N is S in its fields
module _ (N S : Network) (view : N ≡ S) (h : IsReached N) (name : List ℕ) (place : ℕ)
    (found : (place < length S.peers) × (peer_of S name ≡ slice_get S.peers place)) where
  pub seen : IsReached S
  seen = subst IsReached view h

  pub here : Peer
  here = (peer_at S name place found.0 found.1).0

  pub at : slice_get S.peers place ≡ Some here
  unfolding here
  at = (peer_at S name place found.0 found.1).1

  pub there : peer_of S name ≡ Some here
  unfolding here
  there = (peer_at S name place found.0 found.1).2

  -- a read
  pub read : (x : Peer) → x ≡ get_or N.peers place x → x ≡ here
  read x is = is ∙ ap (λ (n : Network). get_or n.peers place x) view ∙ got_or S.peers place here x at

  -- a write
  abbrev pub with_written : Peer → Network
  with_written x = record { limits = N.limits; peers = set N.peers place x; packets = N.packets }

  written_so : (x : Peer) (f : Peer → Peer) → x ≡ f here
      → with_written x ≡ with_peers S (map (changed_in here.name f) S.peers)
  written_so x f is =
      (λ i. record { limits = (view i).limits; peers = set (view i).peers place (is i); packets = (view i).packets })
      ∙ placed S name here place f (homely S seen) there at

  pub written : (x : Peer) (r : ReplicaState) → x ≡ with_replica r here → with_written x ≡ put_replica S here.name r
  written x r is = written_so x (with_replica r) is

  pub written_reached : (x : Peer) (r : ReplicaState) → x ≡ with_replica r here → IsHomely (put_replica S here.name r) → IsReached (with_written x)
  written_reached x r is all = subst IsReached (sym (written x r is)) (reached (put_replica S here.name r) all (fit S seen))

  -- a call that leaves the name and the caret
  module _ (x q : Peer) (old : q ≡ here) (named : x.name ≡ q.name) (caret : x.caret ≡ q.caret) where
    pub put_is : (r : ReplicaState) → x.replica ≡ r → x ≡ with_replica r here
    put_is r same =
        let name_is = named ∙ ap (λ (y : Peer). y.name) old in
        let caret_is = caret ∙ ap (λ (y : Peer). y.caret) old in
        λ i. record { name = name_is i; replica = same i; caret = caret_is i }

  -- a write of a caret
  pub caret_written : (x : Peer) (c : Caret) → x ≡ with_caret c here → with_written x ≡ put_caret S here.name c
  caret_written x c is = written_so x (with_caret c) is

  pub caret_reached : (x : Peer) (c : Caret) → x ≡ with_caret c here → IsReached (with_written x)
  caret_reached x c is = subst IsReached (sym (caret_written x c is)) (reached (put_caret S here.name c) (caret_homely S here.name c (homely S seen)) (fit S seen))

  -- a write of what was there
  pub written_back : (x : Peer) → x ≡ here → with_written x ≡ S
  written_back x is =
      written x here.replica is
      ∙ ap (λ n. put_replica S n here.replica) (named_so S name here there)
      ∙ put_same S name here place (homely S seen) at there
