-- Frames are received one after another: what the first ones did comes before what the others do.
use Rattle.std.proofs.Common.{◌≡◌, ℕ, false, List, [], ◌∷◌, ◌++◌, length, inl, inr, refl, sym, ap, ◌∙◌, subst, append_assoc, append-nil, arith}
use Rattle.std.specs.List.{AllByRecursion}
use Rattle.ew_model.specs.Arrival.{Answer}
use Rattle.ew_model.specs.Kept.{ReplicaState}
use Rattle.peer_exchange.specs.Replies.{IsLeftBy}
use Rattle.peer_definitions.specs.Answering.{answer_to}
use Rattle.peer_definitions.specs.declared.frame.Frame.{Frame}
use Rattle.peer_definitions.specs.declared.frame.Frame.TheVariants.{Have, Events, Done, Took, Clash, Bye}
use Rattle.net_core.specs.Answers.{IsLeftIn}
use Rattle.net_core.specs.Bytes.{reply_line, reply_lines}
use Rattle.net_core.specs.Laws.{NoneClashes, answers_in, answers_to, is_clash}
use Rattle.peer_definitions.specs.Machine.{Peer, delivery_of, frame_line}
use Rattle.net_core.proofs.Deliveries.{all_before}

pub one_printed : (name : List ℕ) (cut : ℕ) (printed all : List ℕ) (rest more : List Frame) (f : Frame) → rest ≡ f ∷ more → printed ++ reply_lines name cut rest ≡ all
    → (printed ++ reply_line name f cut) ++ reply_lines name cut more ≡ all
one_printed name cut printed all rest more f is h = append_assoc printed (reply_line name f cut) (reply_lines name cut more) ∙ ap
    (λ fs. printed ++ reply_lines name cut fs) (sym is) ∙ h

-- frames are received up to a rest, and so much is answered and printed
pub record IsReceiving (name : List ℕ) (start : ReplicaState) (frames : List Frame) (r : ReplicaState) (rest : List Frame) (replies : List Frame)
    (printed : List ℕ) : Type 0 where
  pub limits : r.limits ≡ start.limits
  pub replies_are : replies ++ (delivery_of name r rest).replies ≡ (delivery_of name start frames).replies
  pub printed_is : printed ++ (delivery_of name r rest).printed ≡ (delivery_of name start frames).printed
  pub replica_is : (delivery_of name r rest).replica ≡ (delivery_of name start frames).replica
  pub left : (x : ReplicaState) → IsLeftIn r rest x → IsLeftIn start frames x
  pub apart : NoneClashes r rest

pub received_none : (name : List ℕ) (start : ReplicaState) (frames : List Frame) → NoneClashes start frames → IsReceiving name start frames start frames [] []
received_none name start frames apart = record { limits = refl; replies_are = refl; printed_is = refl; replica_is = refl; left = λ x h. h; apart = apart }

same_limits : (r : ReplicaState) (f : Frame) → (answer_to r f).state.limits ≡ r.limits
same_limits r (Have counts) = refl
same_limits r (Events events) = refl
same_limits r Done = refl
same_limits r (Took a b c d) = refl
same_limits r (Clash x) = refl
same_limits r Bye = refl

all_behind : {X : Type 0} (P : X → Type 0) (xs ys : List X) → AllByRecursion P (xs ++ ys) → AllByRecursion P ys
all_behind P [] ys h = h
all_behind P (x ∷ xs) ys h = all_behind P xs ys h.1

-- the first of the frames clashes with nothing where none of them does
pub first_apart : (r : ReplicaState) (f : Frame) (more : List Frame) → NoneClashes r (f ∷ more) → NoneClashes r (f ∷ [])
first_apart r f more h =
    subst (AllByRecursion (λ (a : Answer). is_clash a.ruling ≡ false)) (sym (append-nil (answers_to r f)))
    (all_before (λ (a : Answer). is_clash a.ruling ≡ false) (answers_to r f) (answers_in (answer_to r f).state more) h)

-- nothing of them was received
left_by : (f : Frame) (r : ReplicaState) → IsLeftBy f r r
left_by (Have counts) r = refl
left_by (Events events) r = inl refl
left_by Done r = refl
left_by (Took a b c d) r = refl
left_by (Clash x) r = refl
left_by Bye r = refl

pub left_before : (r : ReplicaState) (frames : List Frame) → IsLeftIn r frames r
left_before r [] = refl
left_before r (f ∷ frames) = inl (left_by f r)

module _ (name : List ℕ) (start : ReplicaState) (frames : List Frame) (r : ReplicaState) (replies : List Frame) (printed : List ℕ) where
  -- one frame more
  pub received_more : (f : Frame) (more : List Frame) (new : ReplicaState) → IsReceiving name start frames r (f ∷ more) replies printed → new ≡ (answer_to r f).state
      → IsReceiving name start frames new more (replies ++ (answer_to r f).frames) (printed ++ frame_line name r f)
  received_more f more new h is =
      let s = (answer_to r f).state in
      subst (λ x. IsReceiving name start frames x more (replies ++ (answer_to r f).frames)
      (printed ++ frame_line name r f)) (sym is) (record {
        limits = same_limits r f ∙ h.limits;
        replies_are = append_assoc replies (answer_to r f).frames (delivery_of name s more).replies ∙ h.replies_are;
        printed_is = append_assoc printed (frame_line name r f) (delivery_of name s more).printed ∙ h.printed_is;
        replica_is = h.replica_is;
        left = λ x k. h.left x (inr k);
        apart = all_behind (λ (a : Answer). is_clash a.ruling ≡ false) (answers_to r f) (answers_in s more) h.apart;
      })

  -- memory was wanting at the next
  pub left_at : (f : Frame) (more : List Frame) (x : ReplicaState) → IsReceiving name start frames r (f ∷ more) replies printed
      → IsLeftIn r (f ∷ []) x → IsLeftIn start frames x
  left_at f more x h (inl l) = h.left x (inl l)
  left_at f more x h (inr is) = h.left x (inr (subst (λ y. IsLeftIn (answer_to r f).state more y) (sym is) (left_before (answer_to r f).state more)))

  -- all were
  pub received_all : IsReceiving name start frames r [] replies printed
      → (replies ≡ (delivery_of name start frames).replies) × (printed ≡ (delivery_of name start frames).printed) × (r ≡ (delivery_of name start frames).replica)
  received_all h = (sym (append-nil replies) ∙ h.replies_are, sym (append-nil printed) ∙ h.printed_is, h.replica_is)

-- one frame more, where the call tells what it answered
pub next_received : (start peer new : Peer) (frames rest more : List Frame) (f : Frame) (replies answers : List Frame) (printed told : List ℕ)
    → IsReceiving start.name start.replica frames peer.replica rest replies printed → peer.name ≡ start.name → rest ≡ f ∷ more
    → answers ≡ replies ++ (answer_to peer.replica f).frames
    → told ≡ printed ++ frame_line peer.name peer.replica f → new.replica ≡ (answer_to peer.replica f).state → IsReceiving start.name start.replica frames new.replica more answers told
next_received start peer new frames rest more f replies answers printed told h named is answered line state =
    let at = subst (λ fs. IsReceiving start.name start.replica frames peer.replica fs replies printed) is h in
    let same : told ≡ printed ++ frame_line start.name peer.replica f = line ∙ ap (λ name. printed ++ frame_line name peer.replica f) named in
    subst (λ fs. IsReceiving start.name start.replica frames new.replica more fs told) (sym answered)
    (subst (λ out. IsReceiving start.name start.replica frames new.replica more (replies ++ (answer_to peer.replica f).frames) out) (sym same)
    (received_more start.name start.replica frames peer.replica replies printed f more new.replica at state))
