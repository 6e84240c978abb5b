-- An export where the file is there.
use Rattle.std.proofs.Common.{◌≡◌, ℕ, List, inl, refl, ◌∙◌}
use Rattle.command_table.specs.Journals.{export_reply}
use Rattle.command_table.specs.Loads.{File, missing, too_long, whole}
use Rattle.command_table.specs.Possible.{KeepsTo, MayOpenJournal}
use Rattle.command_table.specs.Refusals.{file_there, journal_too_many}
use Rattle.ew_model.specs.Limits.{LimitNumbers}
use Rattle.opened_files.specs.Views.{reply_view}
use Rattle.opened_files.specs.declared.reply.Reply as code
use Rattle.command_table.specs.Table.{Opened, refused, refuses}
use Rattle.journal_plans.specs.Watching.{IsThere}

-- a file that is there isn't replaced
there_is : (name : List ℕ) (o : Opened) (file : File) → IsThere file → refuses (file_there name) ≡ export_reply name file o
there_is name o missing there = absurd there
there_is name o too_long there = refl
there_is name o (whole bytes) there = refl

-- where it was there
pub some_there : (name : List ℕ) (limits : LimitNumbers) (file : File) (p : code.Reply) → KeepsTo 0 file → IsThere file → reply_view p ≡ refuses (file_there name)
    → (file : File) × (o : Opened) × MayOpenJournal limits o × (reply_view p ≡ export_reply name file o) × KeepsTo 0 file
some_there name limits file p keeps there view =
    let o = refused (journal_too_many limits.events) in
    (file, o, inl refl, view ∙ there_is name o file there, keeps)
