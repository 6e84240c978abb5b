-- What a script printed up to a line, and how it ends there.
use Rattle.std.proofs.Common.{◌≡◌, ℕ, ◌+◌, ◌≤◌, ◌<◌, List, [], ◌∷◌, ◌++◌, get_or, length, take, drop, Some, sym, ap, ◌∙◌, subst, arith}
use Rattle.std.specs.Prelude.{Err}
use Rattle.std.proofs.lemmas.List.{take-append-drop, take_more}
use Rattle.ew_model.specs.Limits.{LimitNumbers}
use Rattle.ew_model.proofs.ListParts.{drop_turn}
use Rattle.peer_definitions.specs.declared.net_step.NetStep.{NetStep}
use Rattle.net_core.specs.declared.fault.NetFault.{NetFault}
use Rattle.net_core.specs.declared.fault.NetFault.TheVariants as fault
use Rattle.net_core.specs.Answers.{RunsTo, StepsTo, refusal_told}
use Rattle.peer_definitions.specs.Runs.{net_run}
use Rattle.peer_definitions.specs.Runs.RunOutcome.{Broke}
use Rattle.net_core.specs.Laws.{network_left}
use Rattle.peer_definitions.specs.Machine.{Network, Refusal, empty_network, net_step}
use Rattle.peer_definitions.specs.Machine.StepOutcome.{Stepped, Refused}
use Rattle.net_core.proofs.Counting.{adds_one}
use Rattle.net_core.proofs.Running.{HasRun, breaks, goes_on, has_run}

-- at a line of a script whose earlier lines were run
module _ (limits : LimitNumbers) (script : List (ℕ × NetStep)) (i : ℕ) (x : ℕ × NetStep) (within : i < length script) (at : x ≡ get_or script i x)
    (network : Network) (out : List ℕ) (so_far : HasRun (empty_network limits) (take i script) out network) where
  parts : script ≡ take i script ++ x ∷ drop (i + 1) script
  parts = sym (take-append-drop i script) ∙ ap (λ xs. take i script ++ xs) (drop_turn script i x within at)

  one_more : take (i + 1) script ≡ take i script ++ x ∷ []
  one_more = take_more script i x within ∙ ap (λ y. take i script ++ y ∷ []) (sym at)

  -- the step is made
  pub ran_on : (next : Network) (printed : List ℕ) → net_step network x.1 ≡ Stepped next printed
      → HasRun (empty_network limits) (take (i + 1) script) (out ++ printed) next
  ran_on next printed e =
      subst (λ xs. HasRun (empty_network limits) xs (out ++ printed) next) (sym one_more)
      (goes_on (empty_network limits) network (take i script) out so_far x.0 x.1 next printed e)

  pub few_more : (next : Network) (printed : List ℕ) → net_step network x.1 ≡ Stepped next printed → length network.packets ≤ i → length next.packets ≤ i + 1
  few_more next printed e few = let one = adds_one network next x.1 (ap network_left e) in omega (arith, one, few)

  -- memory is wanting
  pub no_memory : RunsTo limits script (Err (x.0, fault.OutOfMemory))
  no_memory = (take i script, drop (i + 1) script, x.1, out, parts, has_run (empty_network limits) network (take i script) out so_far)

  -- the step is refused
  broke : (f : NetFault) → (why : Refusal) × (refusal_told f ≡ Some why) × (net_step network x.1 ≡ Refused why)
      → (why : Refusal) × (refusal_told f ≡ Some why) × (net_run (empty_network limits) script ≡ Broke x.0 why)
  broke f h = (
    h.0,
    h.1,
    ap (net_run (empty_network limits)) parts ∙ breaks (empty_network limits) network
        (take i script) out so_far x.0 x.1 h.0 (drop (i + 1) script) h.2,
  )

  pub told_run : (f : NetFault) (new : Network) → StepsTo network x.1 new (Err f) → RunsTo limits script (Err (x.0, f))
  told_run (fault.NoPeer name) new h = broke (fault.NoPeer name) h.0
  told_run (fault.PeerTwice name) new h = broke (fault.PeerTwice name) h.0
  told_run (fault.NoPacket n) new h = broke (fault.NoPacket n) h.0
  told_run (fault.NoEvent id) new h = broke (fault.NoEvent id) h.0
  told_run (fault.OutOfRange len) new h = broke (fault.OutOfRange len) h.0
  told_run (fault.TooManyHeads heads) new h = broke (fault.TooManyHeads heads) h.0
  told_run (fault.Full count) new h = broke (fault.Full count) h.0
  told_run fault.OutOfMemory new h = no_memory
