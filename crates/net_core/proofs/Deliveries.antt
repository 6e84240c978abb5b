-- What delivered frames leave, whose events stand where they were made.
use Rattle.std.proofs.Common.{◌≡◌, ℕ, ◌≤◌, zero, suc, true, false, length, inl, inr, List, [], ◌∷◌, ◌++◌, map, drop, Option, Some, None, refl, sym, subst}
use Rattle.std.specs.List.{AllByRecursion}
use Rattle.std.specs.Prelude.{nat_le}
use Rattle.ew_model.specs.declared.event.Event.{Event}
use Rattle.ew_model.specs.declared.id.Id.{Id}
use Rattle.ew_model.specs.Arrival.{Answer, Outcome, arrive, desk_of, judgements}
use Rattle.ew_model.specs.Kept.{IsKept, ReplicaState}
use Rattle.ew_model.specs.Limits.{LimitNumbers}
use Rattle.ew_model.specs.Sets.{Among}
use Rattle.ew_model.specs.Verdicts.{IsGood, Ruling}
use Rattle.ew_model.specs.Verdicts as verdicts
use Rattle.ew_model.specs.Verdicts.Ruling.{Repeat, SelfParent, TooManyParents, ParentsUnsorted, Unknown, PoolFull, NotReduced, Skipped, GraphFull, OutOfRange, Good}
use Rattle.ew_model.proofs.EntryLaws.{all_joined}
use Rattle.ew_model.proofs.LimitsKept.{arrivals_keep, judgements_keep_limits}
use Rattle.ew_model.proofs.SortingLaws.{all_at, all_filter, all_from}
use Rattle.event_graph.proofs.Tails.{all_first}
use Rattle.history_definitions.specs.Missing.{count_in, missing}
use Rattle.history_definitions.specs.Tallies.{refused_in}
use Rattle.peer_exchange.specs.Replies.{IsLeftBy}
use Rattle.peer_definitions.specs.Answering.{answer_to, event_frames, first_clash, frame_for, took_of}
use Rattle.peer_definitions.specs.Pieces.{frame_room, pieces_from}
use Rattle.peer_exchange.proofs.Lengths.{all_drop, few_after}
use Rattle.peer_definitions.specs.declared.frame.Frame.{Frame}
use Rattle.peer_definitions.specs.declared.frame.Frame.TheVariants.{Have, Events, Done, Took, Clash, Bye}
use Rattle.peer_definitions.specs.declared.frame.Frame.TheVariants as frame
use Rattle.net_core.specs.Answers.{IsLeftIn}
use Rattle.net_core.specs.Keeping.{IsHome, IsReplica}
use Rattle.net_core.specs.Laws.{IsRoomRefusal, NoneClashes, answers_in, answers_to, is_clash}
use Rattle.peer_definitions.specs.Machine.{Peer, delivery_of}
use Rattle.net_core.proofs.Arrivals.{AreTurns, arrival, turns}
use Rattle.net_core.proofs.Arriving.{IsFrom}
use Rattle.net_core.proofs.Homes.{one_home, was_home}
use Rattle.net_core.proofs.Reaching.{HasHomes}

pub all_before : {X : Type 0} (P : X → Type 0) (xs ys : List X) → AllByRecursion P (xs ++ ys) → AllByRecursion P xs
all_before P [] ys h = tt
all_before P (x ∷ xs) ys h = (h.0, all_before P xs ys h.1)

-- no event of a good history has too many parents
pub few_parents : (history : List Event) → IsGood history → AllByRecursion (λ (e : Event). length e.parents ≤ 16) history
unfolding IsGood
few_parents history good = few_after [] history good

-- an answer that refuses for want of room alone is no clash
no_clash : (e : Event) (r : Ruling) → IsRoomRefusal (record { event = e; ruling = r }) → is_clash r ≡ false
no_clash e verdicts.Ruling.Clash (inl none) = absurd cc
no_clash e verdicts.Ruling.Clash (inr full) = absurd cc
no_clash e Repeat h = refl
no_clash e SelfParent h = refl
no_clash e TooManyParents h = refl
no_clash e ParentsUnsorted h = refl
no_clash e (Unknown p) h = refl
no_clash e PoolFull h = refl
no_clash e NotReduced h = refl
no_clash e Skipped h = refl
no_clash e GraphFull h = refl
no_clash e (OutOfRange len) h = refl
no_clash e Good h = refl

pub no_clashes : (answers : List Answer) → AllByRecursion IsRoomRefusal answers → AllByRecursion (λ (a : Answer). is_clash a.ruling ≡ false) answers
no_clashes [] h = tt
no_clashes (a ∷ answers) h = (no_clash a.event a.ruling h.0, no_clashes answers h.1)

-- the events of frames
pub homes_in_pieces : (peers : List Peer) (n k : ℕ) (events : List Event) → AllByRecursion (IsHome peers) events
    → AllByRecursion (HasHomes peers) (map frame.Events (pieces_from n k events))
homes_in_pieces peers n zero events h = tt
homes_in_pieces peers n (suc k) events h = (all_first (IsHome peers) n events h, homes_in_pieces peers n k (drop n events) (all_drop (IsHome peers) n events h))

pub homes_in_frames : (peers : List Peer) (limits : LimitNumbers) (events : List Event) → AllByRecursion (IsHome peers) events
    → AllByRecursion (HasHomes peers) (event_frames limits events)
homes_in_frames peers limits events h = homes_in_pieces peers (frame_room limits) _ events h

-- what a replica came to
pub record Went (limits : LimitNumbers) (peers : List Peer) (old new : ReplicaState) : Type 0 where
  pub replica : IsReplica limits peers new
  pub grown : (e : Event) → Among e old.held → Among e new.held

pub went_nowhere : (limits : LimitNumbers) (peers : List Peer) (r : ReplicaState) → IsReplica limits peers r → Went limits peers r r
went_nowhere limits peers r h = record { replica = h; grown = λ e m. m }

module _ (limits : LimitNumbers) (peers : List Peer) (all : AllByRecursion (λ (p : Peer). IsReplica limits peers p.replica) peers) where
  pub from_desk : (r : ReplicaState) (events : List Event) → IsReplica limits peers r → AllByRecursion (IsHome peers) events
      → IsFrom (IsHome peers) (desk_of r.held r.waiting events)
  from_desk r events h homes = record {
    kept = h.kept.orderly;
    of_held = λ e m. all_at (IsHome peers) r.held e h.held m;
    of_waiting = λ e m. all_at (IsHome peers) r.waiting e h.waiting m;
    of_coming = λ e m. all_at (IsHome peers) events e homes m;
  }

  went_to : (r : ReplicaState) (events : List Event) (o : Outcome) → IsReplica limits peers r → IsKept r.limits o.desk.held o.desk.waiting
      → AreTurns (IsHome peers) (one_home limits peers all) (was_home limits peers all) r.limits (desk_of r.held r.waiting events) o
      → Went limits peers r (record { limits = r.limits; held = o.desk.held; waiting = o.desk.waiting })
  went_to r events o h kept turned = record {
    replica = record {
      same = h.same;
      kept = kept;
      held = all_from (IsHome peers) o.desk.held (λ e m. turned.whence.of_held e m);
      waiting = all_from (IsHome peers) o.desk.waiting (λ e m. turned.whence.of_waiting e m);
    };
    grown = turned.grown;
  }

  -- a number of judgements
  went_some : (n : ℕ) (r : ReplicaState) (events : List Event) → IsReplica limits peers r → AllByRecursion (IsHome peers) events
      → Went limits peers r (record {
        limits = r.limits;
        held = (judgements r.limits true n
            (desk_of r.held r.waiting events)).desk.held;
        waiting = (judgements r.limits true n (desk_of r.held r.waiting events)).desk.waiting;
      })
  went_some n r events h homes =
      let d = desk_of r.held r.waiting events in
      went_to r events (judgements r.limits true n d) h (judgements_keep_limits r.limits n d h.kept)
      (turns (IsHome peers) (one_home limits peers all) (was_home limits peers all) r.limits n d (from_desk r events h homes))

  -- one frame
  pub room_in : (r : ReplicaState) (f : Frame) → IsReplica limits peers r → HasHomes peers f → AllByRecursion IsRoomRefusal (answers_to r f)
  room_in r (Events events) h homes = (arrival (IsHome peers) (one_home limits peers all) (was_home limits peers all) r.limits r.held r.waiting events
      (from_desk r events h homes)).room
  room_in r (Have counts) h homes = tt
  room_in r Done h homes = tt
  room_in r (Took a b c d) h homes = tt
  room_in r (Clash x) h homes = tt
  room_in r Bye h homes = tt

  pub went : (r : ReplicaState) (f : Frame) → IsReplica limits peers r → HasHomes peers f → Went limits peers r (answer_to r f).state
  went r (Events events) h homes =
      went_to r events (arrive r.limits r.held r.waiting events) h (arrivals_keep r.limits r.held r.waiting events h.kept)
      (arrival (IsHome peers) (one_home limits peers all) (was_home limits peers all) r.limits r.held r.waiting events (from_desk r events h homes))
  went r (Have counts) h homes = went_nowhere limits peers r h
  went r Done h homes = went_nowhere limits peers r h
  went r (Took a b c d) h homes = went_nowhere limits peers r h
  went r (Clash x) h homes = went_nowhere limits peers r h
  went r Bye h homes = went_nowhere limits peers r h

  -- what is left where memory is wanting
  left_went : (r new : ReplicaState) (f : Frame) → IsReplica limits peers r → HasHomes peers f → IsLeftBy f r new → Went limits peers r new
  left_went r new (Events events) h homes (inl same) = subst (Went limits peers r) (sym same) (went_nowhere limits peers r h)
  left_went r new (Events events) h homes (inr stopped) = subst (Went limits peers r) (sym stopped.1.comes.state) (went_some stopped.1.number r events h homes)
  left_went r new (Have counts) h homes same = subst (Went limits peers r) (sym same) (went_nowhere limits peers r h)
  left_went r new Done h homes same = subst (Went limits peers r) (sym same) (went_nowhere limits peers r h)
  left_went r new (Took a b c d) h homes same = subst (Went limits peers r) (sym same) (went_nowhere limits peers r h)
  left_went r new (Clash x) h homes same = subst (Went limits peers r) (sym same) (went_nowhere limits peers r h)
  left_went r new Bye h homes same = subst (Went limits peers r) (sym same) (went_nowhere limits peers r h)

  then_went : (a b c : ReplicaState) → Went limits peers a b → Went limits peers b c → Went limits peers a c
  then_went a b c x y = record { replica = y.replica; grown = λ e m. y.grown e (x.grown e m) }

  -- frames, one after another
  pub went_all : (name : List ℕ) (r : ReplicaState) (frames : List Frame) → IsReplica limits peers r → AllByRecursion (HasHomes peers) frames
      → Went limits peers r (delivery_of name r frames).replica
  went_all name r [] h homes = went_nowhere limits peers r h
  went_all name r (f ∷ frames) h homes =
      let first = went r f h homes.0 in
      then_went r (answer_to r f).state (delivery_of name r (f ∷ frames)).replica first (went_all name (answer_to r f).state frames first.replica homes.1)

  pub left_in_went : (r new : ReplicaState) (frames : List Frame) → IsReplica limits peers r → AllByRecursion (HasHomes peers) frames
      → IsLeftIn r frames new → Went limits peers r new
  left_in_went r new [] h homes same = subst (Went limits peers r) (sym same) (went_nowhere limits peers r h)
  left_in_went r new (f ∷ frames) h homes (inl left) = left_went r new f h homes.0 left
  left_in_went r new (f ∷ frames) h homes (inr left) =
      let first = went r f h homes.0 in
      then_went r (answer_to r f).state new first (left_in_went (answer_to r f).state new frames first.replica homes.1 left)

  pub room_in_all : (r : ReplicaState) (frames : List Frame) → IsReplica limits peers r → AllByRecursion (HasHomes peers) frames
      → AllByRecursion IsRoomRefusal (answers_in r frames)
  room_in_all r [] h homes = tt
  room_in_all r (f ∷ frames) h homes =
      all_joined IsRoomRefusal (answers_to r f) (answers_in (answer_to r f).state frames) (room_in r f h homes.0)
      (room_in_all (answer_to r f).state frames (went r f h homes.0).replica homes.1)

  -- nothing clashes
  pub none_clashes : (r : ReplicaState) (frames : List Frame) → IsReplica limits peers r → AllByRecursion (HasHomes peers) frames → NoneClashes r frames
  none_clashes r frames h homes = no_clashes (answers_in r frames) (room_in_all r frames h homes)

  -- the events of the answers are held
  pub homes_told : (r : ReplicaState) (f : Frame) → IsReplica limits peers r → AllByRecursion (HasHomes peers) (answer_to r f).frames
  homes_told r (Have counts) h =
      all_joined (HasHomes peers) (event_frames r.limits (missing r.held counts)) (Done ∷ [])
      (homes_in_frames peers r.limits (missing r.held counts) (all_filter (IsHome peers)
      (λ (e : Event). nat_le (count_in counts e.id.agent) e.id.seq) r.held h.held)) (tt, tt)
  homes_told r (Events events) h = (at (first_clash (refused_in (arrive r.limits r.held r.waiting events).answers)), tt)
    where
      at : (clash : Option Id) → HasHomes peers (frame_for (took_of (arrive r.limits r.held r.waiting events)) clash)
      at None = tt
      at (Some x) = tt
  homes_told r Done h = tt
  homes_told r (Took a b c d) h = tt
  homes_told r (Clash x) h = tt
  homes_told r Bye h = (tt, tt)

  pub homes_in_replies : (name : List ℕ) (r : ReplicaState) (frames : List Frame) → IsReplica limits peers r → AllByRecursion (HasHomes peers) frames
      → AllByRecursion (HasHomes peers) (delivery_of name r frames).replies
  homes_in_replies name r [] h homes = tt
  homes_in_replies name r (f ∷ frames) h homes =
      all_joined (HasHomes peers) (answer_to r f).frames (delivery_of name (answer_to r f).state frames).replies (homes_told r f h)
      (homes_in_replies name (answer_to r f).state frames (went r f h homes.0).replica homes.1)
