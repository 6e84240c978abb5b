-- From what became of a net script to what is told.
use Rattle.std.proofs.Common.{◌≡◌, ◌≤◌, ◌∙◌, inr, ℕ, List, length, IsSomeAnd, Some, Result, Ok, Err, IfOk, sym, ap, subst}
use Rattle.std.specs.declared.alloc.AllocError.{AllocError}
use Rattle.ew_model.specs.Bytes.{AreBytes}
use Rattle.ew_model.specs.Limits.{LimitNumbers}
use Rattle.peer_definitions.specs.declared.net_step.NetStep.{NetStep}
use Rattle.net_core.specs.declared.fault.NetFault.{NetFault}
use Rattle.net_core.specs.declared.fault.NetFault.TheVariants as fault
use Rattle.net_core.specs.Answers.{RunsTo, refusal_told}
use Rattle.peer_definitions.specs.Runs.{net_run}
use Rattle.peer_definitions.specs.Runs.RunOutcome.{Broke}
use Rattle.peer_definitions.specs.Machine.{Refusal, empty_network}
use Rattle.command_table.specs.Possible.{MayNet}
use Rattle.command_table.specs.Table.{net_refusal, net_run_reply}
use Rattle.opened_files.specs.declared.reply.Reply as code
use Rattle.opened_files.specs.Views.{reply_view}
use Rattle.line_plans.specs.Nets.{StepRefuses, MayNetScript}

module _ (limits : LimitNumbers) (script : List (ℕ × NetStep)) where
  -- the refusal that is told is the one at which the run broke off
  broke : (line : ℕ) (f : NetFault) (p : code.Reply) → (why : Refusal) × (refusal_told f ≡ Some why) × (net_run (empty_network limits) script ≡ Broke line why)
      → StepRefuses limits line f (Ok p) → reply_view p ≡ net_run_reply limits (net_run (empty_network limits) script)
  broke line f p h told =
      let here : reply_view p ≡ net_refusal limits line h.0 = subst (λ o. IsSomeAnd o (λ why. reply_view p ≡ net_refusal limits line why)) h.1 told in
      here ∙ ap (net_run_reply limits) (sym h.2)

  pub stopped : (line : ℕ) (f : NetFault) (result : Result code.Reply AllocError) → RunsTo limits script (Err (line, f)) → StepRefuses limits line f result
      → IfOk result (λ p. reply_view p ≡ net_run_reply limits (net_run (empty_network limits) script))
  stopped line f (Err e) runs told = tt
  stopped line (fault.NoPeer name) (Ok p) runs told = broke line (fault.NoPeer name) p runs told
  stopped line (fault.PeerTwice name) (Ok p) runs told = broke line (fault.PeerTwice name) p runs told
  stopped line (fault.NoPacket n) (Ok p) runs told = broke line (fault.NoPacket n) p runs told
  stopped line (fault.NoEvent id) (Ok p) runs told = broke line (fault.NoEvent id) p runs told
  stopped line (fault.OutOfRange len) (Ok p) runs told = broke line (fault.OutOfRange len) p runs told
  stopped line (fault.TooManyHeads heads) (Ok p) runs told = broke line (fault.TooManyHeads heads) p runs told
  stopped line (fault.Full count) (Ok p) runs told = broke line (fault.Full count) p runs told
  stopped line fault.OutOfMemory (Ok p) runs told = absurd told

-- an input that isn't too long
pub may_net : (limits : LimitNumbers) (input given : List ℕ) (p : code.Reply) → length input ≤ limits.input → AreBytes given → given ≡ input → MayNetScript limits given (Ok p) → MayNet limits (reply_view p)
may_net limits input given p short bytes is some =
    let most : length given ≤ limits.input = subst (λ xs. length xs ≤ limits.input) (sym is) short in
    inr (given, some.0, most, some.1, some.2, bytes)
