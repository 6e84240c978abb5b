-- What is exchanged for frames, and then for more of them.
use Rattle.std.proofs.Common.{◌≡◌, List, [], ◌∷◌, ◌++◌, Option, None, Some, refl, sym, ap, ◌∙◌, append_assoc}
use Rattle.ew_model.specs.Kept.{ReplicaState}
use Rattle.ew_model.proofs.ListPlaces.{none_is_some}
use Rattle.peer_definitions.specs.declared.frame.Frame.{Frame}
use Rattle.peer_definitions.specs.declared.end.End.{End}
use Rattle.peer_definitions.specs.Answering.{Answered, answer_to}
use Rattle.command_table.specs.Sessions.{Exchange, exchanged, then_exchanged, bytes_of}

-- what is exchanged behind frames that didn't end the session
abbrev pub behind : Exchange → Exchange → Exchange
behind t more = record { sent = t.sent ++ more.sent; last = more.last; end = more.end; state = more.state }

-- one answer that doesn't end the session, then what was exchanged, and then more
pub then_behind : (a : Answered) (e : Option End) (t more : Exchange) → (then_exchanged a e t).end ≡ None
    → then_exchanged a e (behind t more) ≡ behind (then_exchanged a e t) more
then_behind a None t more unended = ap (λ s. record { sent = s; last = more.last; end = more.end; state = more.state })
    (sym (append_assoc (bytes_of a.frames) t.sent more.sent))
then_behind a (Some e) t more unended = none_is_some e (sym unended)

-- where the session isn't ended with one answer in front, it isn't ended without it, and comes to the same state
pub then_open : (a : Answered) (e : Option End) (t : Exchange) → (then_exchanged a e t).end ≡ None → (t.end ≡ None) × ((then_exchanged a e t).state ≡ t.state)
then_open a None t unended = (unended, refl)
then_open a (Some e) t unended = none_is_some e (sym unended)

-- frames that didn't end the session, and then more of them
pub talked_on : (r : ReplicaState) (frames more : List Frame) → (exchanged r frames).end ≡ None
    → exchanged r (frames ++ more) ≡ behind (exchanged r frames) (exchanged (exchanged r frames).state more)
talked_on r [] more unended = refl
talked_on r (f ∷ frames) more unended =
    let a = answer_to r f in
    let t = exchanged a.state frames in
    let first = then_open a a.end t unended in
    ap (then_exchanged a a.end) (talked_on a.state frames more first.0) ∙ then_behind a a.end t (exchanged t.state more) unended
    ∙ ap (λ s. behind (then_exchanged a a.end t) (exchanged s more)) (sym first.1)
