-- The packet that answers a question brings all that its sender held.
use Rattle.std.proofs.Common.{◌≡◌, ℕ, ◌<◌, not, ◌⊎◌, inl, inr, ⊎_elim, List, [], ◌∷◌, ◌++◌, length, Some, refl, sym, ap, ◌∙◌, subst, arith}
use Rattle.std.specs.List.{AllByRecursion, list_any, slice_get}
use Rattle.std.proofs.lemmas.List.{length-append}
use Rattle.std.proofs.lemmas.Bool.{cases_Bool}
use Rattle.ew_model.specs.declared.event.Event.{Event}
use Rattle.ew_model.specs.ArrivalLaw.{OneEach}
use Rattle.ew_model.specs.Events.{event_eq}
use Rattle.ew_model.specs.Limits.{AreLimits}
use Rattle.ew_model.specs.Sets.{Among}
use Rattle.ew_model.proofs.ListParts.{element_there}
use Rattle.ew_model.proofs.SameEvents.{event_among}
use Rattle.ew_model.proofs.SetLaws.{among_filter, among_joined, filter_among}
use Rattle.ew_model.proofs.SortingLaws.{all_at, all_from}
use Rattle.history_definitions.specs.Missing.{missing}
use Rattle.history_definitions.specs.Summary.{summary_of}
use Rattle.peer_definitions.specs.declared.net_step.NetStep.TheVariants as step
use Rattle.peer_definitions.specs.Answering.{event_frames, question}
use Rattle.peer_exchange.specs.Laws.{unheld}
use Rattle.peer_exchange.proofs.MissingLaw.{missing_are_unheld}
use Rattle.peer_definitions.specs.declared.frame.Frame.TheVariants as frame
use Rattle.net_core.specs.Keeping.{IsHome}
use Rattle.net_core.specs.Laws.{AnswersArrive, network_left}
use Rattle.peer_definitions.specs.Machine.{Network, Packet, Peer, peer_of, with_packet, with_peer}
use Rattle.net_core.proofs.Editing.{replica_of}
use Rattle.net_core.proofs.Following.{Follows, IsGrown, peer_did, step_follows, steps_follow, then_follows}
use Rattle.net_core.proofs.Homes.{one_home}
use Rattle.net_core.proofs.Lawful.{all_arrive, home_later, made_by_answer, packet_at, packet_left}
use Rattle.ew_model.proofs.OperationLaws.{got}
use Rattle.net_core.proofs.Reaching.{IsHomely, IsSent, homely}
use Rattle.net_core.proofs.Sending.{unheld_ordered}
use Rattle.net_core.proofs.Steps.{ask_is}

-- of a history, what the other one holds and what it lacks are all
held_or_not : (history other : List Event) (e : Event) → Among e history → Among e other ⊎ Among e (unheld history other)
held_or_not history other e m =
    ⊎_elim (λ held. inl (event_among e other held)) (λ lacks. inr (filter_among (λ (x : Event). not (list_any (event_eq x) other)) history e m (ap not lacks)))
    (cases_Bool (list_any (event_eq e) other))

-- An answer brings all.
pub answers_arrive : AnswersArrive
answers_arrive network asked between made later new sender receiver steps p reached sound asked_is sound_steps between_is p_is made_is d e m =
    let h = homely network reached in
    let first = peer_did network sender (λ x. with_peer network receiver (λ y. with_packet network sender receiver (question x.replica ∷ []))) asked
    (sym (ap network_left (ask_is network sender receiver)) ∙ asked_is) in
    let a = first.0 in
    let counts = summary_of a.replica.held in
    let k0 : Packet = record { sender = sender; receiver = receiver; frames = question a.replica ∷ [] } in
    let asked_packets = packet_left network asked sender receiver (λ r. question r ∷ []) a (sym (ap network_left (ask_is network sender receiver)) ∙ asked_is) first.1 in
    let to_asked = step_follows network asked (step.Ask sender receiver) h asked_is in
    let to_between = steps_follow asked between steps to_asked.homely between_is in
    let whole_between = then_follows network asked between to_asked to_between in
    let g0 = element_there between.packets (length network.packets) (few network asked between sender receiver a asked_packets to_between) in
    let packet0 = packet_at asked between network.packets k0 g0.0 (ap (λ (n : Network). n.packets) asked_packets) to_between g0.1 in
    let at0 : slice_get between.packets (length network.packets) ≡ Some k0 = g0.1 ∙ ap Some packet0 in
    let sent0 = all_at (IsSent between.peers) between.packets k0 to_between.homely.packets (got between.packets (length network.packets) k0 at0) in
    let made_packets = made_by_answer between made k0 p counts (length network.packets) to_between.homely sent0 at0 refl p_is made_is in
    let k1 : Packet = record { sender = receiver; receiver = sender; frames = event_frames p.replica.limits (missing p.replica.held counts) ++ frame.Done ∷ [] } in
    let to_made = step_follows between made (step.Deliver (length network.packets)) to_between.homely made_is in
    let to_later = steps_follow made later d.steps to_made.homely d.later_is in
    let from_between = then_follows between made later to_made to_later in
    let all = then_follows network between later whole_between from_between in
    let packet1 = packet_at made later between.packets k1 d.packet made_packets to_later d.packet_is in
    let own = replica_of between receiver p to_between.homely p_is in
    let asker = replica_of network sender a h first.1 in
    let limits = own.same ∙ sym from_between.limits in
    let one : OneEach (p.replica.held ++ a.replica.held) = λ f g mf mg same.
    one_home between.limits between.peers to_between.homely.peers f g (home_of between receiver sender p a own.held
    (whole_between.grown sender a first.1) to_between.homely f mf) (home_of between receiver sender p a own.held
    (whole_between.grown sender a first.1) to_between.homely g mg) same in
    let lacks : missing p.replica.held counts ≡ unheld p.replica.held a.replica.held = missing_are_unheld p.replica.held a.replica.held asker.kept.orderly.good one in
    let sent1 = all_at (IsSent later.peers) later.packets d.packet to_later.homely.packets (got later.packets (length between.packets) d.packet d.packet_is) in
    let grown = all.grown sender a first.1 in
    let receiver_name : d.packet.receiver ≡ sender = ap (λ (x : Packet). x.receiver) packet1 in
    let same_peer : Some grown.now ≡ Some d.receiver = sym grown.there ∙ ap (peer_of later) (sym receiver_name) ∙ d.receiver_is in
    let is_peer : grown.now ≡ d.receiver = cc in
    let inside = λ (z : Event) (k : Among z a.replica.held). subst (λ (x : Peer). Among z x.replica.held) is_peer (grown.held z k) in
    let homes = all_from (IsHome later.peers) (unheld p.replica.held a.replica.held)
    (λ z k. home_later between later receiver p (from_between.grown receiver p p_is) to_later.homely z
    (among_filter (λ (x : Event). not (list_any (event_eq x) a.replica.held)) p.replica.held z k).0) in
    all_arrive later new (length between.packets) d.packet d.receiver d.holds (unheld p.replica.held a.replica.held) a.replica.held (frame.Done ∷ []) to_later.homely
    (subst AreLimits (sym all.limits) reached.limits)
    d.packet_is sent1 d.receiver_is d.new_is d.holds_is
    (ap (λ (x : Packet). x.frames) packet1 ∙ (λ i. event_frames (limits i) (lacks i) ++ frame.Done ∷ []))
    (tt, tt) homes (unheld_ordered p.replica.held a.replica.held own.kept.orderly.good) inside d.room e (held_or_not p.replica.held a.replica.held e m)
  where
    few : (network asked between : Network) (sender receiver : List ℕ) (a : Peer)
        → asked ≡ record { limits = network.limits; peers = network.peers; packets = network.packets ++ record { sender = sender; receiver = receiver; frames = question a.replica ∷ [] } ∷ [] }
        → Follows asked between → length network.packets < length between.packets
    few network asked between sender receiver a is f =
        let packets : between.packets ≡ (network.packets ++ record { sender = sender; receiver = receiver; frames = question a.replica ∷ [] } ∷ []) ++ f.packets.0 = f.packets.1 ∙ ap (λ (n : Network). n.packets ++ f.packets.0) is in
        let one = length-append network.packets (record { sender = sender; receiver = receiver; frames = question a.replica ∷ [] } ∷ []) in
        let two = length-append (network.packets ++ record { sender = sender; receiver = receiver; frames = question a.replica ∷ [] } ∷ []) f.packets.0 in
        let long : length between.packets ≡ length ((network.packets ++ record { sender = sender; receiver = receiver; frames = question a.replica ∷ [] } ∷ []) ++ f.packets.0) = ap length packets in
        omega (arith, one, two, long)

    home_of : (between : Network) (receiver sender : List ℕ) (p a : Peer) → AllByRecursion (IsHome between.peers) p.replica.held → IsGrown between sender a
        → IsHomely between → (f : Event) → Among f (p.replica.held ++ a.replica.held) → IsHome between.peers f
    home_of between receiver sender p a held grown h f k =
        ⊎_elim (λ i. all_at (IsHome between.peers) p.replica.held f held i) (λ i. home_later between between sender a grown h f i)
        (among_joined p.replica.held a.replica.held f k)
