-- What is told of a file that was opened to be upgraded, or refused.
use Rattle.std.proofs.Common.{◌≡◌, ◌∙◌, Option, Some, None, IfSome, ap}
use Rattle.std.specs.FinMap.{get}
use Rattle.ew_model.specs.Limits.{LimitNumbers, most_file_bytes}
use Rattle.ew_outside.specs.Files.{Files}
use Rattle.command_table.specs.Loads.{File, whole_of}
use Rattle.command_table.specs.Table.{Text, Reply, refuses, named_version, over_events, upgrade_reply, upgraded_reply}
use Rattle.opened_files.specs.Views.{IsVersioned}
use Rattle.opened_files.specs.declared.open.Found.{Found}
use Rattle.opened_files.specs.declared.open.Found.TheVariants as found
use Rattle.opened_files.specs.declared.open.Versioned.{Versioned}
use Rattle.command_texts.specs.Reasons.{refusal_view}

-- what is answered to a file as it was opened
abbrev pub answered : Text → Found Versioned → Reply
answered name (found.Open made) = upgraded_reply name made.replica.held made.version
answered name (found.Refused why) = refuses (refusal_view why)

-- it is the table's, over the file that was opened
pub answered_so : (name : Text) (limits : LimitNumbers) (file : File) (f : Found Versioned) → IsVersioned name limits file f → answered name f ≡ upgrade_reply name limits file
answered_so name limits file (found.Open made) is =
    ap (upgraded_reply name made.replica.held) is.1 ∙ ap (over_events (λ events. upgraded_reply name events (named_version file))) is.0
answered_so name limits file (found.Refused why) is = ap (over_events (λ events. upgraded_reply name events (named_version file))) is.0

-- where the files are told
pub answered_told : (name : Text) (limits : LimitNumbers) (files : Option Files) (f : Found Versioned) (reply : Reply)
    → IfSome files (λ m. IsVersioned name limits (whole_of (most_file_bytes limits.events) (get m name)) f) → reply ≡ answered name f
    → IfSome files (λ m. reply ≡ upgrade_reply name limits (whole_of (most_file_bytes limits.events) (get m name)))
answered_told name limits (Some m) f reply is told = told ∙ answered_so name limits (whole_of (most_file_bytes limits.events) (get m name)) f is
answered_told name limits None f reply is told = tt
