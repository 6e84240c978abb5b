-- What is answered to frames, and then to more of them.
use Rattle.std.proofs.Common.{◌≡◌, ℕ, List, [], ◌∷◌, ◌++◌, Option, None, Some, refl, sym, ap, subst, append_assoc, append-nil}
use Rattle.ew_model.specs.Kept.{ReplicaState}
use Rattle.peer_definitions.specs.declared.frame.Frame.{Frame}
use Rattle.peer_definitions.specs.Answering.{Answered, answer_to}
use Rattle.peer_definitions.specs.declared.end.End.{End}
use Rattle.peer_definitions.specs.declared.end.End.TheVariants as end
use Rattle.command_table.specs.Sessions.{Exchange, exchanged, then_exchanged}
use Rattle.command_table.proofs.Sessions.{behind, talked_on}
use Rattle.serve_plans.specs.Serving.{sent_by}

then_same : (a : Answered) (e : Option End) (t s : Exchange) (x : End) → (then_exchanged a e t).end ≡ Some x → (t.end ≡ Some x → s ≡ t)
    → then_exchanged a e s ≡ then_exchanged a e t
then_same a None t s x ended same = ap (then_exchanged a None) (same ended)
then_same a (Some e) t s x ended same = refl

-- behind the end of a session nothing is answered
pub talked_ended : (r : ReplicaState) (frames more : List Frame) (x : End) → (exchanged r frames).end ≡ Some x → exchanged r (frames ++ more) ≡ exchanged r frames
talked_ended r [] more x ended = absurd cc
talked_ended r (f ∷ frames) more x ended =
    let a = answer_to r f in
    then_same a a.end (exchanged a.state frames) (exchanged a.state (frames ++ more)) x ended (λ e. talked_ended a.state frames more x e)

-- ---- what was sent is the front of what is sent when more frames are answered

pub record IsFrontOf (front whole : List ℕ) : Type 0 where
  pub rest : List ℕ
  pub is : whole ≡ front ++ rest

sent_front : (t more : Exchange) (e : Option End) → IsFrontOf t.sent (sent_by (behind t more) e)
sent_front t more None = record { rest = more.sent; is = refl }
sent_front t more (Some end.Bye) = record { rest = more.sent; is = refl }
sent_front t more (Some (end.Clash x)) = record { rest = more.sent ++ more.last; is = append_assoc t.sent more.sent more.last }

sent_on : (r : ReplicaState) (frames more : List Frame) (e : Option End) → (exchanged r frames).end ≡ e
    → IsFrontOf (sent_by (exchanged r frames) e) (sent_by (exchanged r (frames ++ more)) (exchanged r (frames ++ more)).end)
sent_on r frames more None unended =
    let t = exchanged r frames in
    subst (λ s. IsFrontOf t.sent (sent_by s s.end)) (sym (talked_on r frames more unended)) (sent_front t (exchanged t.state more) (exchanged t.state more).end)
sent_on r frames more (Some x) ended =
    let t = exchanged r frames in
    subst (λ s. IsFrontOf (sent_by t (Some x)) (sent_by s s.end)) (sym (talked_ended r frames more x ended))
    (subst (λ e. IsFrontOf (sent_by t (Some x)) (sent_by t e)) (sym ended) (record { rest = []; is = sym (append-nil (sent_by t (Some x))) }))

pub sent_is_front : (r : ReplicaState) (frames more : List Frame)
    → IsFrontOf (sent_by (exchanged r frames) (exchanged r frames).end) (sent_by (exchanged r (frames ++ more)) (exchanged r (frames ++ more)).end)
sent_is_front r frames more = sent_on r frames more (exchanged r frames).end refl
