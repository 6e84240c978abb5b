-- Ids in runs: neighbours of one agent.
use Rattle.std.specs.Prelude.{◌≡◌, ℕ, suc, ◌+◌, ◌<◌, ◌≤◌, ◌^◌, Bool, false, ◌-◌, nat_lt, List, [], ◌∷◌, ◌++◌, map, if◌then◌else◌, length, Option, Some, slice_get}
use Rattle.std.specs.List.{range_with_len}
use Rattle.ew_model.specs.declared.id.Id.{Id}
use Rattle.ew_model.specs.Ids.{id_eq}
use Rattle.agent_ids.specs.declared.runs.IdRun.{IdRun}

-- the agent's id with this number
abbrev pub id_with : List ℕ → ℕ → Id
id_with agent seq = record { agent = agent; seq = seq }

-- the last of the ids, if there is one
abbrev pub last_in : List Id → Option Id
last_in ids = slice_get ids (length ids - 1)

-- the second is the next id of the first one's agent
abbrev pub is_next : Id → Id → Bool
is_next x y = id_eq (id_with x.agent (suc x.seq)) y

-- how many runs the ids make: an id goes on with the run before it where it is the next one of the same agent
abbrev pub id_runs : List Id → ℕ
id_runs [] = 0
id_runs (x ∷ []) = 1
id_runs (x ∷ y ∷ ids) = if is_next x y then id_runs (y ∷ ids) else suc (id_runs (y ∷ ids))

-- so many ids of one agent, from this one on
abbrev pub ids_from : Id → ℕ → List Id
ids_from x n = map (id_with x.agent) (range_with_len x.seq n)

-- so many ids right behind the one at a place are the next ones of its agent
abbrev pub AreNextFrom : List Id → ℕ → ℕ → Type 0
AreNextFrom ids place n = (x : Id) → slice_get ids place ≡ Some x → (k : ℕ) → k ≤ n → slice_get ids (place + k) ≡ Some (id_with x.agent (x.seq + k))

-- the ids of the runs
abbrev pub ids_in : List IdRun → List Id
ids_in [] = []
ids_in (r ∷ runs) = map (id_with r.agent) (range_with_len r.seq (suc r.more)) ++ ids_in runs

-- the last id of a run
abbrev pub last_of : IdRun → Id
last_of r = id_with r.agent (r.seq + r.more)

-- the first of the runs doesn't go on with an id
abbrev pub IsApart : Id → List IdRun → Type 0
IsApart x [] = Unit {0}
IsApart x (r ∷ runs) = is_next x (id_with r.agent r.seq) ≡ false

-- The runs stand one behind the other, the first of them from a place on, up to a place. None goes on with the one
-- before it, and the numbers are small enough.
abbrev pub AreRuns : ℕ → List IdRun → ℕ → Type 0
AreRuns start [] end = start ≡ end
AreRuns start (r ∷ runs) end = (r.start ≡ start) × (r.seq + r.more < 2 ^ 32) × IsApart (last_of r) runs × AreRuns (start + suc r.more) runs end

-- the last of the runs goes on with an id
abbrev pub goes_on : List IdRun → Id → Bool
goes_on [] x = false
goes_on (r ∷ []) x = is_next (last_of r) x
goes_on (r ∷ s ∷ runs) x = goes_on (s ∷ runs) x

-- the last of the runs has one id more
abbrev pub with_more : List IdRun → List IdRun
with_more [] = []
with_more (r ∷ []) = record { start = r.start; agent = r.agent; seq = r.seq; more = r.more + 1 } ∷ []
with_more (r ∷ s ∷ runs) = r ∷ with_more (s ∷ runs)

-- the last of the runs has so many ids more
abbrev pub with_more_by : List IdRun → ℕ → List IdRun
with_more_by [] n = []
with_more_by (r ∷ []) n = record { start = r.start; agent = r.agent; seq = r.seq; more = r.more + n } ∷ []
with_more_by (r ∷ s ∷ runs) n = r ∷ with_more_by (s ∷ runs) n

-- the last of the runs has the ids before a place alone
abbrev pub shortened : List IdRun → ℕ → List IdRun
shortened [] place = []
shortened (r ∷ []) place = if nat_lt r.start place then record { start = r.start; agent = r.agent; seq = r.seq; more = place - 1 - r.start } ∷ [] else []
shortened (r ∷ s ∷ runs) place = r ∷ shortened (s ∷ runs) place

-- the run at one place has the id at another
pub record IsHeldAt (runs : List IdRun) (at : ℕ) (place : ℕ) : Type 0 where
  pub run : IdRun
  pub there : slice_get runs at ≡ Some run
  pub from : run.start ≤ place
  pub to : place ≤ run.start + run.more
