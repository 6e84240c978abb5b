-- Plans and endings as the table's replies.
use Rattle.std.proofs.Common.{◌≡◌, ◌∙◌, refl, sym, ap, subst, Option, Some, Result}
use Rattle.ew_outside.specs.Files.{Files}
use Rattle.command_table.specs.Table.{Answer, answer_of}
use Rattle.command_table.specs.Sessions.{printed_by}
use Rattle.opened_files.specs.Views.{reply_view, reply_status}
use Rattle.opened_files.specs.declared.reply.Reply as code
use Rattle.opened_files.specs.declared.reply.Reply.TheVariants as reply_is
use Rattle.command_table.specs.Seen.{Seen, TellsErr}
use Rattle.ew_outside.specs.declared.fault.Fault.{Fault}
use Rattle.command_runs.specs.declared.ending.Told.{Told}
use Rattle.command_runs.specs.Endings.{FilesAfter, end_text, files_after, out_of}

-- the plan that was made is the table's reply
pub same_answer : (p : code.Reply) (files : Files) → ((answer_of (reply_view p) files).status ≡ reply_status p) × ((answer_of (reply_view p) files).files ≡ files_after p files)
    × ((answer_of (reply_view p) files).out ≡ out_of p)
same_answer (reply_is.Prints out) files = (refl, refl, refl)
same_answer (reply_is.Stores out name bytes) files = (refl, refl, refl)
same_answer (reply_is.Refuses why) files = (refl, refl, refl)

-- the map after a plan, over the map before the run
pub after_plan : (p : code.Reply) (old mid new : Option Files) → mid ≡ old → FilesAfter p mid new → FilesAfter p old new
after_plan p old mid new same after = subst (λ x. FilesAfter p x new) same after

-- the plan's map is the table's
pub after_files : (p : code.Reply) (files : Files) (t : Answer) (old new : Option Files) → old ≡ Some files → t ≡ answer_of (reply_view p) files → FilesAfter p old new
    → new ≡ Some t.files
after_files p files t old new at same after =
    let told : FilesAfter p (Some files) new = subst (λ x. FilesAfter p x new) at after in
    told ∙ ap Some (sym ((ap (λ x. x.files) same) ∙ (same_answer p files).1))

pub out_same : (p : code.Reply) (files : Files) (t : Answer) → t ≡ answer_of (reply_view p) files → t.out ≡ out_of p
out_same p files t same = (ap (λ x. x.out) same) ∙ (same_answer p files).2

-- what a plan prints is what a session prints that it closes
pub printed : (p : code.Reply) → printed_by (reply_view p) ≡ out_of p
printed (reply_is.Prints out) = refl
printed (reply_is.Stores out name bytes) = refl
printed (reply_is.Refuses why) = refl

-- what an ending says
pub told_end : (ending other : Result (Option Told) Fault) (old new : Seen) → ending ≡ other → TellsErr old new (end_text ending) → TellsErr old new (end_text other)
told_end ending other old new same told = subst (λ x. TellsErr old new (end_text x)) same told
