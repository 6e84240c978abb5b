-- What is shown of a file that was opened or refused.
use Rattle.std.proofs.Common.{◌≡◌, ◌∙◌, ℕ, List, Option, Some, None, IfSome, ap}
use Rattle.ew_outside.specs.Files.{Files}
use Rattle.ew_model.specs.declared.event.Event.{Event}
use Rattle.ew_model.specs.Limits.{LimitNumbers, most_file_bytes}
use Rattle.command_table.specs.Loads.{File}
use Rattle.command_table.specs.Possible.{KeepsTo, MayOpen}
use Rattle.command_table.specs.Refusals.{Refusal}
use Rattle.command_table.specs.Table.{Text, Reply, refuses, opened, refused, open_file, opened_as, over_events}
use Rattle.opened_files.specs.declared.reply.Reply as code
use Rattle.opened_files.specs.Views.{reply_view}

-- where the files are told
pub shown_opened : (reply : List Event → Reply) (name : List ℕ) (limits : LimitNumbers) (held : List Event) (files : Option Files) (p : code.Reply) → IfSome files (λ m. opened held ≡ open_file name limits m) → reply_view p ≡ reply held
    → IfSome files (λ m. reply_view p ≡ over_events reply (open_file name limits m))
shown_opened reply name limits held (Some m) p view is = is ∙ ap (over_events reply) view
shown_opened reply name limits held None p view is = tt

module _ (name : Text) (limits : LimitNumbers) where
  -- what may be shown, whatever is told
  pub refused_shows : (reply : List Event → Reply) (why : Refusal) → MayOpen name limits (refused why)
      → (file : File) × (refuses why ≡ over_events reply (opened_as name limits file)) × KeepsTo (most_file_bytes limits.events) file
  refused_shows reply why may = (may.0, ap (over_events reply) may.1, may.2)

  pub opened_shows : (reply : List Event → Reply) (held : List Event) (p : Reply) → MayOpen name limits (opened held) → p ≡ reply held
      → (file : File) × (p ≡ over_events reply (opened_as name limits file)) × KeepsTo (most_file_bytes limits.events) file
  opened_shows reply held p may is = (may.0, is ∙ ap (over_events reply) may.1, may.2)
