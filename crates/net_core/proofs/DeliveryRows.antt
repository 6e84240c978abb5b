-- What is printed where a frame is delivered, by what is answered to it.
use Rattle.std.proofs.Common.{◌≡◌, ℕ, zero, suc, false, List, [], ◌∷◌, ◌++◌, map, drop, length, refl, ap, ◌∙◌, append-nil}
use Rattle.std.specs.Int.{div_ceil}
use Rattle.std.specs.Prelude.{Err, Ok, OnOk, Result}
use Rattle.ew_model.specs.declared.event.Event.{Event}
use Rattle.ew_model.specs.Arrival.{Answer, arrive}
use Rattle.ew_model.specs.Cuts.{latest_cut}
use Rattle.ew_model.specs.Kept.{ReplicaState}
use Rattle.history_definitions.specs.Missing.{missing}
use Rattle.peer_definitions.specs.Answering.{answer_to, frame_for, took_of}
use Rattle.peer_definitions.specs.Pieces.{frame_room, pieces_from}
use Rattle.peer_definitions.specs.declared.frame.Frame.{Frame}
use Rattle.peer_definitions.specs.declared.frame.Frame.TheVariants.{Have, Events, Done, Took, Clash, Bye}
use Rattle.peer_definitions.specs.declared.frame.Frame.TheVariants as frame
use Rattle.net_core.specs.Bytes.{reply_lines}
use Rattle.net_core.specs.Laws.{NoneClashes, is_clash}
use Rattle.peer_definitions.specs.Machine.{Peer, frame_line}
use Rattle.net_core.proofs.Deliveries.{all_before}
use Rattle.net_core.proofs.Told.{no_first_clash}

-- frames of events tell nothing
pieces_silent : (name : List ℕ) (cut n k : ℕ) (events : List Event) (rest : List Frame) → reply_lines name cut rest ≡ []
    → reply_lines name cut (map frame.Events (pieces_from n k events) ++ rest) ≡ []
pieces_silent name cut n zero events rest h = h
pieces_silent name cut n (suc k) events rest h = pieces_silent name cut n k (drop n events) rest h

-- what is told of the frame, where the cut is that of the events held then
pub told_lines : (p : Peer) (f : Frame) (cut : ℕ) → NoneClashes p.replica (f ∷ []) → cut ≡ latest_cut (answer_to p.replica f).state.held (length p.replica.held)
    → reply_lines p.name cut (answer_to p.replica f).frames ≡ frame_line p.name p.replica f
told_lines p (Have counts) cut apart is =
    let lacking = missing p.replica.held counts in
    let room = frame_room p.replica.limits in
    pieces_silent p.name cut room (div_ceil (length lacking) room) lacking (Done ∷ []) refl
told_lines p (Events events) cut apart is =
    let o = arrive p.replica.limits p.replica.held p.replica.waiting events in
    let none = no_first_clash o.answers (all_before (λ (a : Answer). is_clash a.ruling ≡ false) o.answers [] apart) in
    ap (λ clash. reply_lines p.name cut (frame_for (took_of o) clash ∷ [])) none ∙ ap (λ n. reply_lines p.name n (took_of o ∷ [])) is ∙ append-nil _
told_lines p Done cut apart is = refl
told_lines p (Took a b c d) cut apart is = refl
told_lines p (Clash x) cut apart is = refl
told_lines p Bye cut apart is = refl

-- a frame was answered, and the cut is that of the events held then
module _ (p : Peer) (new : ReplicaState) (f : Frame) (apart : NoneClashes p.replica (f ∷ [])) (name : List ℕ) (named : name ≡ p.name) (frames : List Frame) (cut : ℕ)
    (answered : frames ≡ (answer_to p.replica f).frames) (state : new ≡ (answer_to p.replica f).state) (cut_is : cut ≡ latest_cut new.held (length p.replica.held)) where
  pub frame_printed : (old printed : List ℕ) → printed ≡ old ++ reply_lines name cut frames → printed ≡ old ++ frame_line p.name p.replica f
  frame_printed old printed told =
      told ∙ ap (λ line. old ++ line)
      ((λ i. reply_lines (named i) cut (answered i)) ∙ told_lines p f cut apart (cut_is ∙ ap (λ (r : ReplicaState). latest_cut r.held (length p.replica.held)) state))

-- what a call leaves where it answers, by what another clause says
pub on_ok : {T E : Type 0} {P Q : Type 0} (r : Result T E) → (P → Q) → OnOk r P → OnOk r Q
on_ok (Ok x) f h = f h
on_ok (Err e) f h = h
