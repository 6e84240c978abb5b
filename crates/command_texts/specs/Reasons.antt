-- The reason of the table that a refusal of the code stands for.
use Rattle.std.specs.Prelude.{string_bytes}
use Rattle.ew_model.specs.Answers.{ruling_of}
use Rattle.event_file.specs.Faults.{kind_of}
use Rattle.command_table.specs.Refusals as table
use Rattle.command_texts.specs.declared.refusal.Refusal.{Refusal}
use Rattle.command_texts.specs.declared.refusal.Refusal.TheVariants as why

abbrev pub refusal_view : Refusal → table.Refusal
refusal_view why.NotTaken = table.not_taken
refusal_view (why.NoFile name) = table.no_file (string_bytes name)
refusal_view (why.FileThere name) = table.file_there (string_bytes name)
refusal_view (why.ShortFile name len) = table.short_file (string_bytes name) len
refusal_view (why.NoEventFile name) = table.no_event_file (string_bytes name)
refusal_view (why.UnknownVersion name version) = table.unknown_version (string_bytes name) version
refusal_view (why.BadDigest name stored found) = table.bad_digest (string_bytes name) stored found
refusal_view (why.BadField name offset kind) = table.bad_field (string_bytes name) offset (kind_of kind)
refusal_view (why.BadEvent name position verdict) = table.bad_event (string_bytes name) position (ruling_of verdict)
refusal_view (why.BadBatch offset) = table.bad_batch offset
refusal_view (why.BadJournalEvent position verdict) = table.bad_journal_event position (ruling_of verdict)
refusal_view (why.Unreadable line) = table.unreadable line
refusal_view (why.LineOutOfRange line len) = table.line_out_of_range line len
refusal_view (why.OutOfRange len) = table.out_of_range len
refusal_view (why.IndexOutOfRange index len) = table.index_out_of_range index len
refusal_view (why.NoPeer line name) = table.no_peer line name
refusal_view (why.PeerThere line name) = table.peer_there line name
refusal_view (why.NoPacket line packet) = table.no_packet line packet
refusal_view (why.NoEvent line id) = table.no_event line id
refusal_view (why.Unknown id) = table.unknown id
refusal_view (why.Clash id) = table.clash id
refusal_view (why.FrameCut number) = table.frame_cut number
refusal_view (why.BadKind number kind) = table.bad_kind number kind
refusal_view (why.FrameTooLong number len) = table.frame_too_long number len
refusal_view (why.BadBody number) = table.bad_body number
refusal_view (why.FileTooLong name most) = table.file_too_long (string_bytes name) most
refusal_view (why.FileTooMany name most) = table.file_too_many (string_bytes name) most
refusal_view (why.JournalTooMany most) = table.journal_too_many most
refusal_view (why.InputTooLong most) = table.input_too_long most
refusal_view (why.TooManyEvents most) = table.too_many_events most
refusal_view (why.TooManyHeads heads) = table.too_many_heads heads
