-- Net scripts as bytes: how each step is spelled, and which bytes mean which steps.
use Rattle.std.specs.Prelude.{◌≡◌, ℕ, ◌<◌, ◌^◌, true, List, [], ◌∷◌, ◌++◌, map, codes, decimal, Option, MatchOption}
use Rattle.std.specs.Str.{all_scalars}
use Rattle.ew_model.specs.Names.{is_name}
use Rattle.ew_model.specs.Scripts.{escaped_text, spaced, Numbered, LinesMean, IsFirstUnreadable, lines_of}
use Rattle.peer_definitions.specs.declared.net_step.NetStep.{NetStep}
use Rattle.peer_definitions.specs.declared.net_step.NetStep.TheVariants.{Peer, Ins, Del, Mark, Undo, Caret, Where, Push, Send, Ask, Deliver, Restart, Show, Agree}

-- the line of a step
abbrev pub net_line : NetStep → List ℕ
net_line (Peer name) = spaced (codes "peer" ∷ name ∷ [])
net_line (Ins who at text) = spaced (codes "ins" ∷ who ∷ decimal at ∷ escaped_text text ∷ [])
net_line (Del who at n) = spaced (codes "del" ∷ who ∷ decimal at ∷ decimal n ∷ [])
net_line (Mark who label) = spaced (codes "mark" ∷ who ∷ label ∷ [])
net_line (Undo who whose first count) = spaced (codes "undo" ∷ who ∷ whose ∷ decimal first ∷ decimal count ∷ [])
net_line (Caret who at) = spaced (codes "caret" ∷ who ∷ decimal at ∷ [])
net_line (Where name) = spaced (codes "where" ∷ name ∷ [])
net_line (Push sender receiver) = spaced (codes "push" ∷ sender ∷ receiver ∷ [])
net_line (Send sender receiver skip count) = spaced (codes "send" ∷ sender ∷ receiver ∷ decimal skip ∷ decimal count ∷ [])
net_line (Ask sender receiver) = spaced (codes "ask" ∷ sender ∷ receiver ∷ [])
net_line (Deliver packet) = spaced (codes "deliver" ∷ decimal packet ∷ [])
net_line (Restart name) = spaced (codes "restart" ∷ name ∷ [])
net_line (Show name) = spaced (codes "show" ∷ name ∷ [])
net_line Agree = codes "agree"

-- names of peers and agents, numbers of 32 bits, characters that are Unicode scalar values, and labels that are names
abbrev pub IsSoundStep : NetStep → Type 0
IsSoundStep (Peer name) = is_name name ≡ true
IsSoundStep (Ins who at text) = (is_name who ≡ true) × (at < 2 ^ 32) × (all_scalars text ≡ true)
IsSoundStep (Del who at n) = (is_name who ≡ true) × (at < 2 ^ 32) × (n < 2 ^ 32)
IsSoundStep (Mark who label) = (is_name who ≡ true) × (is_name label ≡ true)
IsSoundStep (Undo who whose first count) = (is_name who ≡ true) × (is_name whose ≡ true) × (first < 2 ^ 32) × (count < 2 ^ 32)
IsSoundStep (Caret who at) = (is_name who ≡ true) × (at < 2 ^ 32)
IsSoundStep (Where name) = is_name name ≡ true
IsSoundStep (Push sender receiver) = (is_name sender ≡ true) × (is_name receiver ≡ true)
IsSoundStep (Send sender receiver skip count) = (is_name sender ≡ true) × (is_name receiver ≡ true) × (skip < 2 ^ 32) × (count < 2 ^ 32)
IsSoundStep (Ask sender receiver) = (is_name sender ≡ true) × (is_name receiver ≡ true)
IsSoundStep (Deliver packet) = packet < 2 ^ 32
IsSoundStep (Restart name) = is_name name ≡ true
IsSoundStep (Show name) = is_name name ≡ true
IsSoundStep Agree = Unit {0}

-- the line means the step
pub record MeansStep (line : List ℕ) (step : NetStep) : Type 0 where
  pub sound : IsSoundStep step
  pub spelled : net_line step ≡ line

-- the steps, each with the number of its line
abbrev pub numbered_steps : List (ℕ × NetStep) → List (Numbered NetStep)
numbered_steps steps = map (λ x. record { line = x.0; item = x.1 }) steps

-- the bytes are the net script of these steps; lines count from 1
abbrev pub IsNetScript : List ℕ → List (Numbered NetStep) → Type 0
IsNetScript bytes steps = LinesMean MeansStep 1 (lines_of bytes) steps

-- the first line of the bytes that is neither empty nor means a step has this number
abbrev pub IsFirstBadNetLine : List ℕ → ℕ → Type 0
IsFirstBadNetLine bytes bad = IsFirstUnreadable MeansStep 1 (lines_of bytes) bad

-- the steps that the line of this number means come after the others
abbrev pub AddsNetLine : ℕ → List ℕ → List (ℕ × NetStep) → List (ℕ × NetStep) → Type 0
AddsNetLine number line old new =
    (added : List (ℕ × NetStep)) × (new ≡ old ++ added) × LinesMean MeansStep number (line ∷ []) (numbered_steps added)

-- what was read of the line: the step that it means, or nothing where it means none
abbrev pub IsStepReading : List ℕ → Option NetStep → Type 0
IsStepReading line found = MatchOption found ((s : NetStep) → ¬ MeansStep line s) (λ s. MeansStep line s)
