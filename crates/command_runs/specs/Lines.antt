-- What is planned for a line.
use Rattle.std.specs.Prelude.{◌≡◌, ◌≤◌, ⊤, ℕ, List, [], Option, None, Some, Result, Ok, Err, Bool, true, false}
use Rattle.ew_outside.specs.Counts.{Rose}
use Rattle.ew_outside.specs.Files.{Files}
use Rattle.ew_outside.specs.Seen.{ShelfSeen, SourceSeen, SinkSeen}
use Rattle.ew_model.specs.Limits.{LimitNumbers}
use Rattle.command_table.specs.Headline.{ReadsToEnd}
use Rattle.command_table.specs.Journals.{Journal}
use Rattle.command_table.specs.Lines.{Meaning, IsInput, IsJournalOf, session_of, UnlessSends}
use Rattle.command_table.specs.Possible.{MayComeTo, MayReplyTo}
use Rattle.command_table.specs.Refusals.{not_taken}
use Rattle.command_table.specs.Sessions.{Session}
use Rattle.command_table.specs.Table.{Command, Line, serves, Reply, refuses}
use Rattle.opened_files.specs.declared.reply.Reply as code
use Rattle.ew_outside.specs.declared.fault.Fault.{Fault}
use Rattle.ew_outside.specs.declared.fault.Fault.TheVariants as fault_is
use Rattle.opened_files.specs.Views.{IsTakenReply, MissesBy, reply_status, reply_view}
use Rattle.line_plans.specs.Sources as line
use Rattle.serve_plans.specs.Plans.{FollowsSession, ReadsOn, ReadsWithin, SendsReplies}

-- the reply of a command that has no use for the input
abbrev pub PlansAlone : {Reading : Type 0} → (Files → List ℕ → Reading → Reply) → Option Files → Result code.Reply Fault → Type 0
PlansAlone {Reading} reply (Some m) (Ok p) = (input : List ℕ) (reading : Reading) → reply_view p ≡ reply m input reading
PlansAlone reply _ _ = ⊤

-- the input was read, or left alone, as the command wants
abbrev pub ReadsFor : Bool → Option (List ℕ) → Option (List ℕ) → Result code.Reply Fault → Type 0
ReadsFor true old new planned = line.ReadsAll old new planned
ReadsFor false old new planned = new ≡ old

-- the misses, where the command needs its file
abbrev pub MissesFor : Bool → ℕ → ℕ → Result code.Reply Fault → Type 0
MissesFor true before now planned = MissesBy before now planned
MissesFor false before now planned = before ≤ now

-- where a file is to be made: none was missed where it is there, and one where it is made
abbrev pub MakesBy : Bool → ℕ → ℕ → Result code.Reply Fault → Type 0
MakesBy makes before now (Ok p) = makes ≡ true → (reply_status p ≡ 3 → now ≡ before) × (reply_status p ≡ 0 → Rose before now)
MakesBy makes before now (Err _) = ⊤

-- the reply is one of the command's
abbrev pub MayPlan : Command → LimitNumbers → Result code.Reply Fault → Type 0
MayPlan command limits (Ok p) = MayReplyTo command limits (reply_view p)
MayPlan command limits (Err _) = ⊤

-- ---- of a line

-- over files that are known, a journal that is known or isn't opened, and an input that is known or isn't read, what was sent and the reply
-- are the table's session
abbrev pub PlansKnown : Option Line → LimitNumbers → ShelfSeen → Option (List ℕ) → SourceSeen → SinkSeen → SinkSeen → Result code.Reply Fault → Type 0
PlansKnown l limits shelf told input out out' planned = (files : Files) (journal : Journal) (bytes : List ℕ) (meaning : Meaning l) → shelf.files ≡ Some files
    → IsJournalOf limits l told journal → IsInput limits l input.left bytes meaning → FollowsSession (session_of l limits files journal bytes meaning) out.taken out'.taken out'.flushed planned

-- they are a session that the line comes to over some files and some input
abbrev pub PlansSome : Option Line → LimitNumbers → SinkSeen → SinkSeen → Result code.Reply Fault → Type 0
PlansSome l limits out out' planned = (s : Session) × MayComeTo l limits s × FollowsSession s out.taken out'.taken out'.flushed planned

-- the output didn't fail
abbrev pub IsNotOfSink : Result code.Reply Fault → Type 0
IsNotOfSink (Err fault_is.Sink) = ⊥
IsNotOfSink planned = ⊤

-- a line that sends nothing leaves the output as it is, and isn't stopped by it
abbrev pub SendsNone : Option Line → SinkSeen → SinkSeen → Result code.Reply Fault → Type 0
SendsNone l out out' planned = UnlessSends l ((out'.taken ≡ out.taken) × IsNotOfSink planned)

-- a line that isn't taken is refused for its words, and one that is taken for another reason
abbrev pub IsReplyOf : Option Line → Result code.Reply Fault → Type 0
IsReplyOf None (Ok p) = reply_view p ≡ refuses not_taken
IsReplyOf None (Err fault) = fault ≡ fault_is.OutOfMemory
IsReplyOf (Some l) (Ok p) = IsTakenReply p
IsReplyOf (Some l) (Err _) = ⊤

-- at status 0 nothing is left of an input that was known, if nothing else ended the reading of it
abbrev pub ReadsAll : Option Line → LimitNumbers → SourceSeen → SourceSeen → Result code.Reply Fault → Type 0
ReadsAll l limits old new (Ok p) = reply_status p ≡ 0 → (input : List ℕ) → old.left ≡ Some input → ReadsToEnd l limits input → new.left ≡ Some []
ReadsAll l limits old new (Err _) = ⊤

-- what a session was sent, and what it answered by then
abbrev pub Heard : Option Line → LimitNumbers → ShelfSeen → SourceSeen → SourceSeen → SinkSeen → SinkSeen → Result code.Reply Fault → Type 0
Heard (Some (serves file)) limits shelf input input' out out' planned =
    SendsReplies file limits shelf.files input.left input'.left out.taken out'.taken out'.flushed planned
    × ReadsOn file limits shelf.files input.left input'.left out.taken out'.taken
    × ReadsWithin limits input.left input'.left planned
Heard l limits shelf input input' out out' planned = ⊤
