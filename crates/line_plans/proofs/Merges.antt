-- From how two files were opened to what a merge of them may answer.
use Rattle.std.proofs.Common.{◌≡◌, ◌∙◌, ℕ, List, Option, Some, None, IfSome, Result, Ok, Err, IfOk, ap, subst}
use Rattle.ew_outside.specs.Files.{Files}
use Rattle.ew_model.specs.declared.event.Event.{Event}
use Rattle.ew_model.specs.Limits.{LimitNumbers, most_file_bytes}
use Rattle.command_table.specs.Loads.{File, missing}
use Rattle.command_table.specs.Possible.{KeepsTo, MayOpen, MayReplyTo}
use Rattle.command_table.specs.Refusals.{Refusal}
use Rattle.command_table.specs.Table.{Text, merge, Reply, refuses, Opened, opened, refused, open_file, opened_as, merge_reply, over_events, over_both}
use Rattle.opened_files.specs.declared.reply.Reply as code
use Rattle.ew_outside.specs.declared.fault.Fault.{Fault}
use Rattle.opened_files.specs.Views.{FailedLoadsBy, MissesBy, ShelfCauses, reply_view}

-- a plan over the second of two files that were opened, of which the first left the map as it was
pub both_opened :
    (reply : List Event → List Event → Reply) (name other : List ℕ) (limits : LimitNumbers) (held : List Event) (files later : Option Files) (result : Result code.Reply Fault) →
    later ≡ files → IfSome files (λ m. opened held ≡ open_file name limits m) →
    IfSome later (λ m. IfOk result (λ p. reply_view p ≡ over_events (reply held) (open_file other limits m))) →
    IfSome files (λ m. IfOk result (λ p. reply_view p ≡ over_both reply (open_file name limits m) (open_file other limits m)))
both_opened reply name other limits held (Some m) later (Ok p) same view plans =
    let here : reply_view p ≡ over_events (reply held) (open_file other limits m) =
    subst (λ x. IfSome x (λ m. reply_view p ≡ over_events (reply held) (open_file other limits m))) same plans in
    here ∙ ap (λ (x : Opened). over_both reply x (open_file other limits m)) view
both_opened reply name other limits held (Some m) later (Err e) same view plans = tt
both_opened reply name other limits held None later result same view plans = tt

-- a fault or a miss of a later step is one of the whole
pub later_causes : (before mid now : ℕ) (result : Result code.Reply Fault) → mid ≡ before → ShelfCauses mid now result → ShelfCauses before now result
later_causes before mid now result same cause = subst (λ n. ShelfCauses n now result) same cause

pub later_misses : (before mid now : ℕ) (result : Result code.Reply Fault) → mid ≡ before → MissesBy mid now result → MissesBy before now result
later_misses before mid now result same missed = subst (λ n. MissesBy n now result) same missed

pub later_failed_loads : (before mid now : ℕ) (result : Result code.Reply Fault) → mid ≡ before → FailedLoadsBy mid now result → FailedLoadsBy before now result
later_failed_loads before mid now result same failed_loads = subst (λ n. FailedLoadsBy n now result) same failed_loads

module _ (name : Text) (limits : LimitNumbers) where
  -- a merge into a file that is refused, or open
  pub refused_merges : (other : Text) (why : Refusal) → MayOpen name limits (refused why) → MayReplyTo (merge name other) limits (refuses why)
  refused_merges other why may = (may.0, missing, ap (λ o. over_both (merge_reply name limits) o (opened_as other limits missing)) may.1, may.2, tt)

  pub opened_merges : (other : Text) (held : List Event) (result : Result code.Reply Fault) → MayOpen name limits (opened held)
      → IfOk result (λ p. (file : File) × (reply_view p ≡ over_events (merge_reply name limits held) (opened_as other limits file)) × KeepsTo (most_file_bytes limits.events) file)
      → IfOk result (λ p. MayReplyTo (merge name other) limits (reply_view p))
  opened_merges other held (Ok p) may some = (may.0, some.0, some.1 ∙ ap (λ o. over_both (merge_reply name limits) o (opened_as other limits some.0)) may.1, may.2, some.2)
  opened_merges other held (Err e) may some = tt
