-- Made histories: three peers that edit at drawn places, and now and then give each other their events.
use Rattle.std.specs.Prelude.{ℕ, zero, suc, ◌+◌, ◌/◌, ◌%◌, Bool, true, ◌&&◌, List, [], ◌∷◌, ◌++◌, length, if◌then◌else◌, ◌==◌, Option, Some, None, get_or, set, codes, encode_utf8_all}
use Rattle.std.specs.List.{list_any, list_all}
use Rattle.hex.specs.Hex.{encode_lower}
use Rattle.sha2.specs.Sha256.{sha256}
use Rattle.ew_model.specs.declared.event.Event.{Event}
use Rattle.ew_model.specs.Ancestors.{heads}
use Rattle.ew_model.specs.Arrival.{Outcome, arrive}
use Rattle.ew_model.specs.Cuts.{cuts_of}
use Rattle.ew_model.specs.Edits.{Edit, EditRefusal, edit_refusal, events_of_edit}
use Rattle.ew_model.specs.Events.{event_eq}
use Rattle.ew_model.specs.Kept.{ReplicaState}
use Rattle.ew_model.specs.Limits.{LimitNumbers, program_limits}
use Rattle.ew_model.specs.Texts.{text_of}
use Rattle.history_definitions.specs.Listings.{number_line}
use Rattle.peer_definitions.specs.Draws.{Drawn, draw_of, drawn_edit, next_state}

-- the peers, and the state of the draws
pub record Making : Type 0 where
  pub state : ℕ
  pub peers : List ReplicaState

-- the peers, or why an edit was refused
pub data Made : Type 0 where
  Going : (making : Making) → Made
  Stopped : (why : EditRefusal) → Made

-- the agents of the three peers
abbrev pub agent_of : ℕ → List ℕ
agent_of zero = codes "p0"
agent_of (suc zero) = codes "p1"
agent_of n = codes "p2"

-- a peer that holds nothing
abbrev pub newcomer : LimitNumbers → ReplicaState
newcomer limits = record { limits = limits; held = []; waiting = [] }

-- the peer of a number
unfoldable pub peer_at : List ReplicaState → ℕ → ReplicaState
peer_at peers n = get_or peers n (newcomer program_limits)

-- the peer holds the events of its edit too
abbrev pub edited_peer : ReplicaState → List ℕ → Edit → ReplicaState
edited_peer p agent edit = record { limits = p.limits; held = p.held ++ events_of_edit p.held agent edit; waiting = p.waiting }

-- a peer edits, where nothing speaks against it
abbrev pub edited : Making → ℕ → ReplicaState → Drawn → Option EditRefusal → Made
edited m n p drawn (Some why) = Stopped why
edited m n p drawn None = Going (record { state = drawn.state; peers = set m.peers n (edited_peer p (agent_of n) drawn.edit) })

-- the edit of a drawn peer
unfoldable pub drawn_step : Making → Made
drawn_step m =
    let x = next_state m.state in
    let n = draw_of x % 3 in
    let p = peer_at m.peers n in
    let drawn = drawn_edit x (length (text_of p.held)) in
    edited m n p drawn (edit_refusal p.limits p.held (agent_of n) drawn.edit)

-- what a peer is when it has received events
abbrev pub received_by : ReplicaState → Outcome → ReplicaState
received_by p o = record { limits = p.limits; held = o.desk.held; waiting = o.desk.waiting }

-- one peer receives all the events of another
unfoldable pub gives : ℕ → ℕ → List ReplicaState → List ReplicaState
gives giver taker peers =
    let p = peer_at peers taker in
    set peers taker (received_by p (arrive p.limits p.held p.waiting (peer_at peers giver).held))

-- after each 64th step one peer gives to the next, each in turn
abbrev pub after_step : ℕ → Made → Made
after_step t (Stopped why) = Stopped why
after_step t (Going m) =
    if t % 64 == 63 then Going (record { state = m.state; peers = gives (t / 64 % 3) ((t / 64 % 3 + 1) % 3) m.peers }) else Going m

-- one more step: the edit that is drawn, and after each 64th a gift
abbrev pub next_step : ℕ → Made → Made
next_step t (Stopped why) = Stopped why
next_step t (Going m) = after_step t (drawn_step m)

-- what a seed makes by so many steps
abbrev pub made_steps : LimitNumbers → ℕ → ℕ → Made
made_steps limits seed zero = Going (record { state = seed; peers = newcomer limits ∷ newcomer limits ∷ newcomer limits ∷ [] })
made_steps limits seed (suc t) = next_step t (made_steps limits seed t)

-- each gives to the next, and the first once more
abbrev pub rounded_peers : List ReplicaState → List ReplicaState
rounded_peers peers = gives 0 1 (gives 2 0 (gives 1 2 (gives 0 1 peers)))

-- the gifts at the end of a making, unless it was stopped
abbrev pub rounded_off : Made → Made
rounded_off (Stopped why) = Stopped why
rounded_off (Going m) =
    Going (record { state = m.state; peers = rounded_peers m.peers })

-- what a seed and a number of steps make
unfoldable pub made : LimitNumbers → ℕ → ℕ → Made
made limits seed count = rounded_off (made_steps limits seed count)

-- each event of the one list is in the other, and each of the other in the one
unfoldable pub same_events : List Event → List Event → Bool
same_events xs ys = list_all (λ (x : Event). list_any (event_eq x) ys) xs && list_all (λ (y : Event). list_any (event_eq y) xs) ys

-- each peer has the same events as the next, and so all have
abbrev pub neighbours_agree : List ReplicaState → Bool
neighbours_agree [] = true
neighbours_agree (p ∷ []) = true
neighbours_agree (p ∷ q ∷ peers) = same_events p.held q.held && neighbours_agree (q ∷ peers)

-- whether all agree, as a line
abbrev pub agreement_line : Bool → List ℕ
agreement_line b = if b then codes "agree yes\n" else codes "agree no\n"

-- the digest of a text
abbrev pub digest_line : List ℕ → List ℕ
digest_line text = codes "sha256 " ++ encode_lower (sha256 (encode_utf8_all text)) ++ codes "\n"

-- the numbers of a history, and the digest of its text
unfoldable pub history_lines : List Event → List ℕ
history_lines history =
    number_line (codes "events") (length history)
    ++ number_line (codes "length") (length (text_of history))
    ++ number_line (codes "heads") (length (heads history))
    ++ number_line (codes "cuts") (length (cuts_of history))
    ++ digest_line (text_of history)

-- what is printed: of the first peer's history, and whether all agree
abbrev pub printed : List ReplicaState → List ℕ
printed peers = history_lines (peer_at peers 0).held ++ agreement_line (neighbours_agree peers)
