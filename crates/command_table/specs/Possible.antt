-- What a line may come to, over some bytes of each file and some input.
use Rattle.std.specs.Prelude.{◌≡◌, ◌≤◌, ◌⊎◌, ⊤, ℕ, List, length, Option, None, Some}
use Rattle.ew_model.specs.declared.event.Event.{Event}
use Rattle.ew_model.specs.Bytes.{AreBytes}
use Rattle.ew_model.specs.Limits.{LimitNumbers, most_file_bytes}
use Rattle.peer_definitions.specs.Making.{made}
use Rattle.command_table.specs.Journals.{ended_journal, export_reply, watch_script}
use Rattle.command_table.specs.Loads.{File, whole}
use Rattle.command_table.specs.Scripts.{Reading, Means, NetReading, MeansNet}
use Rattle.command_table.specs.Refusals.{not_taken, input_too_long, journal_too_many}
use Rattle.command_table.specs.Framings.{Framing, IsFramingOf}
use Rattle.command_table.specs.Sessions.{Session, closed_by, served_as}
use Rattle.command_table.specs.Table.{Text, Line, does, serves, watches, exports, Command, create, edit, show, merge, upgrade, undo, make, net, Reply, refuses, Opened, opened, refused, opened_as, create_reply, show_reply, merge_reply, upgrade_reply, undo_reply, make_reply, over_events, over_both, script_reply, net_script_reply}

-- a file that was loaded whole is of bytes, at most so many; one that is missing or too long is any
abbrev pub KeepsTo : ℕ → File → Type 0
KeepsTo most (whole bytes) = AreBytes bytes × (length bytes ≤ most)
KeepsTo most file = ⊤

-- what a name is opened as, by some file within its bound
abbrev pub MayOpen : Text → LimitNumbers → Opened → Type 0
MayOpen name limits o = (file : File) × (o ≡ opened_as name limits file) × KeepsTo (most_file_bytes limits.events) file

-- an edit is refused as its file is, or for an input that is too long, or answers by the meaning of some bytes of an input
abbrev pub MayEdit : Text → Text → LimitNumbers → Opened → Reply → Type 0
MayEdit name agent limits (refused why) reply = reply ≡ refuses why
MayEdit name agent limits (opened events) reply =
    (reply ≡ refuses (input_too_long limits.input))
    ⊎ ((input : List ℕ) × (reading : Reading) × (length input ≤ limits.input) × Means input reading × (reply ≡ script_reply name agent limits events reading) × AreBytes input)

-- a net is refused for an input that is too long, or answers by the meaning of some bytes of an input
abbrev pub MayNet : LimitNumbers → Reply → Type 0
MayNet limits reply =
    (reply ≡ refuses (input_too_long limits.input))
    ⊎ ((input : List ℕ) × (reading : NetReading) × (length input ≤ limits.input) × MeansNet input reading × (reply ≡ net_script_reply limits reading) × AreBytes input)

-- the replies of a command, over some files within the bounds of their loads, and some input
abbrev pub MayReplyTo : Command → LimitNumbers → Reply → Type 0
MayReplyTo (create name) limits reply = (file : File) × (reply ≡ create_reply name file) × KeepsTo 0 file
MayReplyTo (edit name agent) limits reply = (file : File) × MayEdit name agent limits (opened_as name limits file) reply × KeepsTo (most_file_bytes limits.events) file
MayReplyTo (show listing name) limits reply = (file : File) × (reply ≡ over_events (show_reply listing) (opened_as name limits file)) × KeepsTo (most_file_bytes limits.events) file
MayReplyTo (merge name other) limits reply =
    (file : File) × (second : File) × (reply ≡ over_both (merge_reply name limits) (opened_as name limits file) (opened_as other limits second))
    × KeepsTo (most_file_bytes limits.events) file × KeepsTo (most_file_bytes limits.events) second
MayReplyTo (upgrade name) limits reply = (file : File) × (reply ≡ upgrade_reply name limits file) × KeepsTo (most_file_bytes limits.events) file
MayReplyTo (undo name agent first count) limits reply =
    (file : File) × (reply ≡ over_events (undo_reply name agent first count limits) (opened_as name limits file)) × KeepsTo (most_file_bytes limits.events) file
MayReplyTo (make seed count) limits reply = reply ≡ make_reply limits (made limits seed count)
MayReplyTo net limits reply = MayNet limits reply

-- what a session may come to, over some bytes of its file, some input, and its frames
abbrev pub MayServe : Text → LimitNumbers → Session → Type 0
MayServe name limits s =
    (file : File) × (input : List ℕ) × (f : Framing) × AreBytes input × IsFramingOf limits input f × (s ≡ served_as name limits input f (opened_as name limits file))
    × KeepsTo (most_file_bytes limits.events) file

-- what the journal is opened as: it has too many events, or so many events as it may have, and perhaps a bad place
abbrev pub MayOpenJournal : LimitNumbers → Opened → Type 0
MayOpenJournal limits o =
    (o ≡ refused (journal_too_many limits.events)) ⊎ ((events : List Event) × (bad : Option ℕ) × (length events ≤ limits.events) × (o ≡ ended_journal events bad))

-- a watch is refused as the journal is, or for an input that is too long, or comes to what some bytes of an input mean
abbrev pub MayWatchOver : Text → LimitNumbers → Opened → Session → Type 0
MayWatchOver agent limits (refused why) s = s ≡ closed_by (refuses why)
MayWatchOver agent limits (opened events) s =
    (s ≡ closed_by (refuses (input_too_long limits.input)))
    ⊎ ((input : List ℕ) × (reading : Reading) × (length input ≤ limits.input) × Means input reading × (s ≡ (watch_script agent limits events reading).session) × AreBytes input)

-- what a watch may come to, over some journal and some input
abbrev pub MayWatch : Text → LimitNumbers → Session → Type 0
MayWatch agent limits s = (o : Opened) × MayOpenJournal limits o × MayWatchOver agent limits o s

-- what an export may come to, over some file and some journal
abbrev pub MayExport : Text → LimitNumbers → Session → Type 0
MayExport name limits s = (file : File) × (o : Opened) × MayOpenJournal limits o × (s ≡ closed_by (export_reply name file o)) × KeepsTo 0 file

-- what a line may come to
abbrev pub MayComeTo : Option Line → LimitNumbers → Session → Type 0
MayComeTo None limits s = s ≡ closed_by (refuses not_taken)
MayComeTo (Some (does command)) limits s = (reply : Reply) × MayReplyTo command limits reply × (s ≡ closed_by reply)
MayComeTo (Some (serves file)) limits s = MayServe file limits s
MayComeTo (Some (watches agent)) limits s = MayWatch agent limits s
MayComeTo (Some (exports file)) limits s = MayExport file limits s
