-- What holds of the peers at all times: each holds all events of its own agent that any of them knows of, and no event waits
-- whose parents are all held.
use Rattle.std.specs.Prelude.{◌≡◌, ℕ, ◌<◌, true, List, ◌∷◌, length}
use Rattle.std.specs.List.{AllByRecursion}
use Rattle.ew_model.specs.declared.id.Id.{Id}
use Rattle.ew_model.specs.declared.event.Event.{Event}
use Rattle.ew_model.specs.Ancestors.{is_held}
use Rattle.ew_model.specs.ArrivalLaw.{NoneReady}
use Rattle.ew_model.specs.Ids.{name_eq}
use Rattle.ew_model.specs.Kept.{ReplicaState}
use Rattle.peer_definitions.specs.Making.{agent_of, peer_at}

-- an id of a peer's agent is held by that peer
abbrev pub IsOwned : List ReplicaState → Id → Type 0
IsOwned peers x = (n : ℕ) → n < 3 → name_eq x.agent (agent_of n) ≡ true → is_held (peer_at peers n).held x ≡ true

-- and so are the ids that an event names
abbrev pub NamesOwned : List ReplicaState → Event → Type 0
NamesOwned peers e = AllByRecursion (IsOwned peers) (e.id ∷ e.parents)

-- all that a peer holds and that waits there names such ids, and nothing that waits there is ready
pub record HasOwned (peers : List ReplicaState) (p : ReplicaState) : Type 0 where
  pub held : AllByRecursion (NamesOwned peers) p.held
  pub waiting : AllByRecursion (NamesOwned peers) p.waiting
  pub settled : NoneReady p.held p.waiting

-- three peers of whom this holds
pub record ArePeers (peers : List ReplicaState) : Type 0 where
  pub three : length peers ≡ 3
  pub own : (n : ℕ) → n < 3 → HasOwned peers (peer_at peers n)
