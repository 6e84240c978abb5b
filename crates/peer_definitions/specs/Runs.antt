-- What the steps of a net script leave and print one after another, up to the first refusal.
use Rattle.std.specs.Prelude.{ℕ, List, [], ◌∷◌, ◌++◌, Option, Some, None}
use Rattle.std.specs.Option.{option_and_then}
use Rattle.peer_definitions.specs.declared.net_step.NetStep.{NetStep}
use Rattle.peer_definitions.specs.Machine.{Network, Refusal, StepOutcome, net_step}
use Rattle.peer_definitions.specs.Machine.StepOutcome.{Stepped, Refused}

-- the network that a step leaves, if it isn't refused
abbrev pub network_left : StepOutcome → Option Network
network_left (Stepped network printed) = Some network
network_left (Refused why) = None

-- the network that steps leave of which none is refused
abbrev pub after_steps : Network → List NetStep → Option Network
after_steps network [] = Some network
after_steps network (s ∷ steps) = option_and_then (λ next. after_steps next steps) (network_left (net_step network s))

-- what all numbered steps print, or the first refusal with the number of its line
pub data RunOutcome : Type 0 where
  Ran : (printed : List ℕ) → RunOutcome
  Broke : (line : ℕ) (why : Refusal) → RunOutcome

-- more bytes in front of what a run prints
abbrev pub more_printed : List ℕ → RunOutcome → RunOutcome
more_printed printed (Ran more) = Ran (printed ++ more)
more_printed printed (Broke line why) = Broke line why

-- a run goes on from a step that isn't refused
abbrev pub go_on : ℕ → StepOutcome → (Network → RunOutcome) → RunOutcome
go_on line (Stepped network printed) run = more_printed printed (run network)
go_on line (Refused why) run = Broke line why

-- the steps one after another
abbrev pub net_run : Network → List (ℕ × NetStep) → RunOutcome
net_run network [] = Ran []
net_run network (x ∷ steps) = go_on x.0 (net_step network x.1) (λ next. net_run next steps)
