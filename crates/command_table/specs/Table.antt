-- The command table: what a command line answers over a map of files and an input.
use Rattle.std.specs.Prelude.{ℕ, pos, ◌-◌, Bool, true, false, List, [], ◌∷◌, ◌++◌, length, find, Option, None, Some, option_and_then, if◌then◌else◌, nat_lt, ◌==◌, slice_index, codes, encode_utf8_all}
use Rattle.std.specs.List.{list_any}
use Rattle.std.specs.Option.{option_map}
use Rattle.std.specs.Str.{bytes_eq}
use Rattle.std.specs.Str.Parse.{digits_value, without_leading_plus, without_leading_sign}
use Rattle.std.specs.FinMap.{get, insert}
use Rattle.clap.specs.ValueTests.{is_signed_in, is_unsigned_in}
use Rattle.clap.specs.Words.{Row, Kinds, first_of, fault_of, subcommand_of}
use Rattle.ew_model.specs.declared.id.Id.{Id}
use Rattle.ew_model.specs.declared.event.Event.{Event}
use Rattle.ew_model.specs.declared.verdict as verdict
use Rattle.ew_model.specs.declared.verdict.Refusal.TheVariants as cause
use Rattle.ew_model.specs.Limits.{LimitNumbers, most_file_bytes}
use Rattle.ew_model.specs.Names.{is_name}
use Rattle.ew_model.specs.Texts.{text_at, text_of}
use Rattle.ew_model.specs.Edits.{EditRefusal}
use Rattle.ew_model.specs.Edits.EditRefusal.{OutOfRange, TooManyHeads, Full}
use Rattle.ew_model.specs.Verdicts.{BadEvent, first_bad, first_unknown}
use Rattle.ew_model.specs.Arrival.{Outcome, arrive}
use Rattle.ew_model.specs.Cuts.{latest_cut}
use Rattle.file_words.specs.FileFaults.{FileFinding}
use Rattle.file_words.specs.FileFaults.FileFinding.{IsFile, Short, BadMagic, BadVersion, BadDigest, BadRecord, TooMany}
use Rattle.file_words.specs.FileRuns.{file2_of}
use Rattle.file_words.specs.FileVersions.{file_found}
use Rattle.ew_outside.specs.Files.{Files}
use Rattle.history_definitions.specs.Summary.{summary_of}
use Rattle.peer_definitions.specs.declared.frame.Frame.TheVariants.{Have}
use Rattle.peer_definitions.specs.Spelling.{frame_bytes}
use Rattle.peer_definitions.specs.Answering.{is_clash}
use Rattle.history_definitions.specs.Listings.{check_text, heads_text, log_text, marks_text}
use Rattle.history_definitions.specs.Replays.{replay_text}
use Rattle.history_definitions.specs.Tallies.{accepted_in, repeats_in, refused_in}
use Rattle.undo_definitions.specs.Wanted.{ids_from}
use Rattle.undo_definitions.specs.Undoing.{UndoRefusal, events_of_undo, undo_refusal}
use Rattle.blame_definitions.specs.Blame.{blame_text, unknown_in as unknown_to_blame}
use Rattle.carets.specs.declared.caret.Caret.{Caret}
use Rattle.carets.specs.Sides.{caret_at, side}
use Rattle.peer_definitions.specs.Runs.{RunOutcome, net_run}
use Rattle.peer_definitions.specs.Runs.RunOutcome.{Ran, Broke}
use Rattle.peer_definitions.specs.Machine as machine
use Rattle.peer_definitions.specs.Machine.{empty_network}
use Rattle.peer_definitions.specs.Machine.Refusal.{NoPeer, PeerTwice, NoPacket, NoEvent, NoEdit}
use Rattle.peer_definitions.specs.Making.{Made, made, printed}
use Rattle.peer_definitions.specs.Making.Made.{Going, Stopped}
use Rattle.command_table.specs.Cli.{egw_app, most_columns, most_index, most_made, most_seed, most_undone}
use Rattle.command_table.specs.Loads.{File, missing, too_long, whole, whole_of}
use Rattle.command_table.specs.VersionWords.{version_in}
use Rattle.command_table.specs.Scripts.{Reading, Means, script, bad_line, NetReading, MeansNet, net_script, bad_net_line, Edited, ran, stopped_at, edited_by}
use Rattle.command_table.specs.Text.{index_text, made_text, received_text, upgraded_text}
use Rattle.command_table.specs.Refusals.{Refusal, refusal_status, refusal_text, no_file, file_there, short_file, no_event_file, unknown_version, bad_digest, bad_field, bad_event, unreadable, line_out_of_range, out_of_range, index_out_of_range, no_peer, peer_there, no_packet, no_event, unknown, clash, file_too_long, file_too_many, input_too_long, too_many_events, too_many_heads}

-- a word of a command line, in bytes
abbrev pub Text : Type 0
Text = List ℕ

-- what is shown of a file
pub data Listing : Type 0 where
  content : Listing
  past : (version : List Id) → Listing
  head_ids : Listing
  log : Listing
  replay : Listing
  numbers : Listing
  question : Listing
  marks : Listing
  caret : (version : List Id) (index : ℕ) → Listing
  blame : (version : Option (List Id)) (columns : ℕ) → Listing

-- a command line that is taken
pub data Command : Type 0 where
  create : (file : Text) → Command
  edit : (file agent : Text) → Command
  show : (listing : Listing) (file : Text) → Command
  merge : (file other : Text) → Command
  upgrade : (file : Text) → Command
  undo : (file agent : Text) (first : Id) (count : ℕ) → Command
  make : (seed count : ℕ) → Command
  net : Command

-- a line that is taken: a command, a session with a peer who is served with a file, a script whose events go into the journal line by line,
-- or the journal's events as a file
pub data Line : Type 0 where
  does : (command : Command) → Line
  serves : (file : Text) → Line
  watches : (agent : Text) → Line
  exports : (file : Text) → Line

-- a command that has a file and nothing else
abbrev pub file_line : (Text → Command) → List Row → Option Command
file_line command rows = option_map command (first_of (codes "file") rows)

-- the agent that is given, which has to be a name
abbrev pub agent_in : List Row → Option Text
agent_in rows = option_and_then (λ agent. if is_name agent then Some agent else None) (first_of (codes "agent") rows)

-- the file and the agent
abbrev pub edit_line : List Row → Option Command
edit_line rows = option_and_then (λ file. option_map (edit file) (agent_in rows)) (first_of (codes "file") rows)

-- the whole text, or that of a version, whose word has to be in the grammar
abbrev pub content_at : Option Text → Option Listing
content_at None = Some content
content_at (Some word) = option_map past (version_in word)

-- the file, and what is shown of it
abbrev pub cat_line : List Row → Option Command
cat_line rows =
    option_and_then (λ file. option_map (λ listing. show listing file) (content_at (first_of (codes "at") rows))) (first_of (codes "file") rows)

-- the file, and the one that it takes in
abbrev pub merge_line : List Row → Option Command
merge_line rows =
    option_and_then (λ file. option_map (merge file) (first_of (codes "other") rows)) (first_of (codes "file") rows)

-- the seed that a word spells
abbrev pub seed_in : Text → Option ℕ
seed_in word = if is_unsigned_in 0 most_seed word then Some (digits_value 10 (without_leading_plus word)) else None

-- the number between two others that a word spells; a minus sign may stand before zeros
abbrev pub number_between : ℕ → ℕ → Text → Option ℕ
number_between least most word = if is_signed_in (pos least) (pos most) word then Some (digits_value 10 (without_leading_sign word)) else None

-- the seed and the count, both numbers within their bounds
abbrev pub make_line : List Row → Option Command
make_line rows =
    option_and_then
    (λ seed. option_map (make seed) (option_and_then (number_between 0 most_made) (first_of (codes "count") rows)))
    (option_and_then seed_in (first_of (codes "seed") rows))

-- the version that is given, and the index, both of which have to be there
abbrev pub caret_listing : List Row → Option Listing
caret_listing rows =
    option_and_then
    (λ version. option_map (caret version) (option_and_then (number_between 0 most_index) (first_of (codes "index") rows)))
    (option_and_then version_in (first_of (codes "at") rows))

-- the file, and where a caret of a version is in it
abbrev pub caret_line : List Row → Option Command
caret_line rows = option_and_then (λ file. option_map (λ listing. show listing file) (caret_listing rows)) (first_of (codes "file") rows)

-- who wrote what, of the whole text or of a version, whose word has to be in the grammar
abbrev pub blame_at : ℕ → Option Text → Option Listing
blame_at columns None = Some (blame None columns)
blame_at columns (Some word) = option_map (λ version. blame (Some version) columns) (version_in word)

-- the number of columns, and perhaps a version
abbrev pub blame_listing : List Row → Option Listing
blame_listing rows =
    option_and_then
    (λ columns. blame_at columns (first_of (codes "at") rows))
    (option_and_then (number_between 1 most_columns) (first_of (codes "columns") rows))

-- the file, and who wrote what in it
abbrev pub blame_line : List Row → Option Command
blame_line rows = option_and_then (λ file. option_map (λ listing. show listing file) (blame_listing rows)) (first_of (codes "file") rows)

-- the one id of a version of one id
abbrev pub only_id : List Id → Option Id
only_id [] = None
only_id (x ∷ []) = Some x
only_id (x ∷ y ∷ ids) = None

-- the id that a word spells
abbrev pub id_in : Text → Option Id
id_in word = option_and_then only_id (version_in word)

-- the file, the agent who undoes, the first event that is undone, and how many are
abbrev pub undo_line : List Row → Option Command
undo_line rows =
    option_and_then
    (λ file. option_and_then
    (λ agent. option_and_then
    (λ first. option_map (undo file agent first) (option_and_then (number_between 1 most_undone) (first_of (codes "count") rows)))
    (option_and_then id_in (first_of (codes "of") rows)))
    (agent_in rows))
    (first_of (codes "file") rows)

-- the command of a subcommand and its values
abbrev pub command_in : Text → List Row → Option Command
command_in name rows =
    if bytes_eq name (codes "new") then file_line create rows
    else (if bytes_eq name (codes "edit") then edit_line rows
    else (if bytes_eq name (codes "cat") then cat_line rows
    else (if bytes_eq name (codes "heads") then file_line (show head_ids) rows
    else (if bytes_eq name (codes "log") then file_line (show log) rows
    else (if bytes_eq name (codes "replay") then file_line (show replay) rows
    else (if bytes_eq name (codes "check") then file_line (show numbers) rows
    else (if bytes_eq name (codes "merge") then merge_line rows
    else (if bytes_eq name (codes "ask") then file_line (show question) rows
    else (if bytes_eq name (codes "make") then make_line rows
    else (if bytes_eq name (codes "net") then Some net
    else (if bytes_eq name (codes "marks") then file_line (show marks) rows
    else (if bytes_eq name (codes "upgrade") then file_line upgrade rows
    else (if bytes_eq name (codes "undo") then undo_line rows
    else (if bytes_eq name (codes "caret") then caret_line rows
    else (if bytes_eq name (codes "blame") then blame_line rows else None)))))))))))))))

-- the agent
abbrev pub watch_line : List Row → Option Line
watch_line rows = option_map watches (agent_in rows)

-- the line of what `clap` finds in the words
abbrev pub line_in : Option (Text × List Row) → Option Line
line_in None = None
line_in (Some p) =
    if bytes_eq p.0 (codes "serve") then option_map serves (first_of (codes "file") p.1)
    else (if bytes_eq p.0 (codes "watch") then watch_line p.1
    else (if bytes_eq p.0 (codes "export") then option_map exports (first_of (codes "file") p.1)
    else option_map does (command_in p.0 p.1)))

-- a line, where clap has no fault
abbrev pub where_none : Kinds → Option Line → Option Line
where_none [] l = l
where_none (k ∷ ks) l = None

-- the words are taken exactly where `clap` has no fault of them, an agent is a name, and a version and an id are in their grammars
unfoldable pub line_of : List Text → Option Line
line_of words = where_none (fault_of egw_app words) (line_in (subcommand_of egw_app words))

-- what a command does at last
pub data Reply : Type 0 where
  prints : (out : List ℕ) → Reply
  stores : (out name bytes : List ℕ) → Reply
  refuses : (why : Refusal) → Reply

-- a file or the journal as it was opened: its events, which are good, or why it can't be
pub data Opened : Type 0 where
  opened : (events : List Event) → Opened
  refused : (why : Refusal) → Opened

-- open where no event is bad
abbrev pub judged : Text → List Event → Option BadEvent → Opened
judged name events None = opened events
judged name events (Some bad) = refused (bad_event name bad.position bad.verdict)

-- by what the bytes are found to be
abbrev pub read_as : Text → LimitNumbers → FileFinding → Opened
read_as name limits (IsFile events) = judged name events (first_bad events)
read_as name limits (Short len) = refused (short_file name len)
read_as name limits BadMagic = refused (no_event_file name)
read_as name limits (BadVersion version) = refused (unknown_version name version)
read_as name limits (BadDigest stored found) = refused (bad_digest name stored found)
read_as name limits (BadRecord offset kind) = refused (bad_field name offset kind)
read_as name limits (TooMany count) = refused (file_too_many name limits.events)

-- by the bytes that the shelf has for the name
abbrev pub opened_as : Text → LimitNumbers → File → Opened
opened_as name limits missing = refused (no_file name)
opened_as name limits too_long = refused (file_too_long name (most_file_bytes limits.events))
opened_as name limits (whole bytes) = read_as name limits (file_found limits.events bytes)

-- the file of a name, opened
abbrev pub open_file : Text → LimitNumbers → Files → Opened
open_file name limits files = opened_as name limits (whole_of (most_file_bytes limits.events) (get files name))

-- a command over the events of a file
abbrev pub over_events : (List Event → Reply) → Opened → Reply
over_events reply (opened events) = reply events
over_events reply (refused why) = refuses why

-- the index at which a caret is, unless it was taken at an index above the length of a version's text
abbrev pub caret_reply : (index len : ℕ) → List Event → Option Caret → Reply
caret_reply index len events (Some c) = prints (index_text (side events c))
caret_reply index len events None = refuses (index_out_of_range index len)

-- what is shown of events
abbrev pub shown_reply : Listing → List Event → Reply
shown_reply content events = prints (encode_utf8_all (text_of events))
shown_reply (past version) events = prints (encode_utf8_all (text_at events version))
shown_reply head_ids events = prints (heads_text events)
shown_reply log events = prints (log_text events)
shown_reply replay events = prints (replay_text events)
shown_reply numbers events = prints (check_text events)
shown_reply question events = prints (frame_bytes (Have (summary_of events)))
shown_reply marks events = prints (marks_text events)
shown_reply (caret version index) events = caret_reply index (length (text_at events version)) events (caret_at events version index)
shown_reply (blame version columns) events = prints (blame_text events version columns)

-- the first id of a version, in the order written, that isn't held
abbrev pub unknown_in : Listing → List Event → Option Id
unknown_in (past version) events = first_unknown events version
unknown_in (caret version index) events = first_unknown events version
unknown_in (blame version columns) events = unknown_to_blame events version
unknown_in listing events = None

-- a reply, unless an id is unknown
abbrev pub unless_unknown : Option Id → Reply → Reply
unless_unknown None reply = reply
unless_unknown (Some id) reply = refuses (unknown id)

-- a listing is shown, unless it is of a version with an id that isn't held
abbrev pub show_reply : Listing → List Event → Reply
show_reply listing events = unless_unknown (unknown_in listing events) (shown_reply listing events)

-- an empty history is stored, unless the file is there
abbrev pub create_reply : Text → File → Reply
create_reply name missing = stores [] name (file2_of [])
create_reply name found = refuses (file_there name)

-- a history with more events is stored, and their number printed
abbrev pub made_reply : Text → ℕ → List Event → Reply
made_reply name old events =
    if nat_lt old (length events) then stores (made_text (length events - old)) name (file2_of events) else prints (made_text 0)

-- why a line of a script is refused
abbrev pub line_refusal : LimitNumbers → ℕ → EditRefusal → Reply
line_refusal limits line (OutOfRange len) = refuses (line_out_of_range line len)
line_refusal limits line (TooManyHeads heads) = refuses (too_many_heads heads)
line_refusal limits line (Full count) = refuses (too_many_events limits.events)

-- what was made of a file's events
abbrev pub edited_reply : Text → LimitNumbers → ℕ → Edited → Reply
edited_reply name limits old (ran events) = made_reply name old events
edited_reply name limits old (stopped_at line why) = line_refusal limits line why

-- a script, over the events of a file
abbrev pub script_reply : Text → Text → LimitNumbers → List Event → Reading → Reply
script_reply name agent limits events (bad_line line) = refuses (unreadable line)
script_reply name agent limits events (script edits) = edited_reply name limits (length events) (edited_by limits agent events edits)

-- an input, which may be too long
abbrev pub input_reply : Text → Text → LimitNumbers → List ℕ → Reading → List Event → Reply
input_reply name agent limits input reading events =
    if nat_lt limits.input (length input) then refuses (input_too_long limits.input)
    else script_reply name agent limits events reading

-- the history holds as many events as it may
abbrev pub is_graph_full : verdict.Refusal.Refusal → Bool
is_graph_full cause.GraphFull = true
is_graph_full refusal = false

-- a reply, unless an event clashes
abbrev pub unless_clash : Option (Id × verdict.Refusal.Refusal) → Reply → Reply
unless_clash None reply = reply
unless_clash (Some p) reply = refuses (clash p.0)

-- a merge is refused for the first clash, and else where the history is full
abbrev pub unless_refused : LimitNumbers → List (Id × verdict.Refusal.Refusal) → Reply → Reply
unless_refused limits refusals reply =
    unless_clash (find (λ p. is_clash p.1) refusals)
    (if list_any (λ p. is_graph_full p.1) refusals then refuses (too_many_events limits.events) else reply)

-- a history to which events were appended is stored
abbrev pub received_reply : Text → List Event → ℕ → List ℕ → Reply
received_reply name events accepted text = if nat_lt 0 accepted then stores text name (file2_of events) else prints text

-- what receiving came to, told by the answers
abbrev pub outcome_text : ℕ → Outcome → List ℕ
outcome_text before o =
    received_text (accepted_in o.answers) (length o.desk.waiting) (repeats_in o.answers) (length (refused_in o.answers)) (latest_cut o.desk.held before)

-- what receiving came to, with so many events held before, is stored and told, or refused
abbrev pub outcome_reply : Text → LimitNumbers → ℕ → Outcome → Reply
outcome_reply name limits before o =
    unless_refused limits (refused_in o.answers) (received_reply name o.desk.held (accepted_in o.answers) (outcome_text before o))

-- other events are received by the events of a file, as one batch
abbrev pub merge_reply : Text → LimitNumbers → List Event → List Event → Reply
merge_reply name limits events others = outcome_reply name limits (length events) (arrive limits events [] others)

-- a command over the events of two files, of which the first is opened first
abbrev pub over_both : (List Event → List Event → Reply) → Opened → Opened → Reply
over_both reply file other = over_events (λ events. over_events (reply events) other) file

-- the version that the bytes of a file name, which is 0 where none is loaded
abbrev pub named_version : File → ℕ
named_version (whole bytes) = slice_index bytes 7
named_version file = 0

-- the version that events were read of is told with their number, and where it is 1, their file of version 2 is stored
abbrev pub upgraded_reply : Text → List Event → ℕ → Reply
upgraded_reply name events version =
    if version == 1 then stores (upgraded_text version (length events)) name (file2_of events) else prints (upgraded_text version (length events))

-- a file is upgraded from the version that its bytes name
abbrev pub upgrade_reply : Text → LimitNumbers → File → Reply
upgrade_reply name limits file = over_events (λ events. upgraded_reply name events (named_version file)) (opened_as name limits file)

-- what an undo made, or why it is refused
abbrev pub undone_reply : Text → Text → LimitNumbers → List Event → List Id → Option UndoRefusal → Reply
undone_reply name agent limits events undone None = made_reply name (length events) (events ++ events_of_undo events agent undone)
undone_reply name agent limits events undone (Some (UndoRefusal.NoEvent id)) = refuses (unknown id)
undone_reply name agent limits events undone (Some (UndoRefusal.TooManyHeads heads)) = refuses (too_many_heads heads)
undone_reply name agent limits events undone (Some (UndoRefusal.Full count)) = refuses (too_many_events limits.events)

-- so many events, from an id on, are undone by an agent
abbrev pub undo_reply : Text → Text → Id → ℕ → LimitNumbers → List Event → Reply
undo_reply name agent first count limits events =
    let undone = ids_from first.agent first.seq count in undone_reply name agent limits events undone (undo_refusal limits events undone)

-- why the making of a history stopped
abbrev pub stop_reply : LimitNumbers → EditRefusal → Reply
stop_reply limits (OutOfRange len) = refuses (out_of_range len)
stop_reply limits (TooManyHeads heads) = refuses (too_many_heads heads)
stop_reply limits (Full count) = refuses (too_many_events limits.events)

-- a history that was made is told of
abbrev pub make_reply : LimitNumbers → Made → Reply
make_reply limits (Going m) = prints (printed m.peers)
make_reply limits (Stopped why) = stop_reply limits why

-- why a line of a net script is refused
abbrev pub net_refusal : LimitNumbers → ℕ → machine.Refusal → Reply
net_refusal limits line (NoPeer name) = refuses (no_peer line name)
net_refusal limits line (PeerTwice name) = refuses (peer_there line name)
net_refusal limits line (NoPacket packet) = refuses (no_packet line packet)
net_refusal limits line (NoEvent id) = refuses (no_event line id)
net_refusal limits line (NoEdit why) = line_refusal limits line why

-- what the steps of a net script came to: all that they print, or the first refusal and nothing else
abbrev pub net_run_reply : LimitNumbers → RunOutcome → Reply
net_run_reply limits (Ran printed) = prints printed
net_run_reply limits (Broke line why) = net_refusal limits line why

-- a net script, whose run begins without peers; every line is read before the first is run
abbrev pub net_script_reply : LimitNumbers → NetReading → Reply
net_script_reply limits (bad_net_line line) = refuses (unreadable line)
net_script_reply limits (net_script steps) = net_run_reply limits (net_run (empty_network limits) steps)

-- an input, which may be too long
abbrev pub net_reply : LimitNumbers → List ℕ → NetReading → Reply
net_reply limits input reading = if nat_lt limits.input (length input) then refuses (input_too_long limits.input) else net_script_reply limits reading

-- what an input is read as: a net script by a net; as an edit script for every other command, of which `edit` alone reads it
abbrev pub ReadingOf : Command → Type 0
ReadingOf net = NetReading
ReadingOf command = Reading

-- the input means this to the command
abbrev pub MeansTo : (command : Command) → List ℕ → ReadingOf command → Type 0
MeansTo net input reading = MeansNet input reading
MeansTo (create name) input reading = Means input reading
MeansTo (edit name agent) input reading = Means input reading
MeansTo (show listing name) input reading = Means input reading
MeansTo (merge name other) input reading = Means input reading
MeansTo (upgrade name) input reading = Means input reading
MeansTo (undo name agent first count) input reading = Means input reading
MeansTo (make seed count) input reading = Means input reading

-- what a command does over files and an input, and what the input means
abbrev pub reply_to : (command : Command) → LimitNumbers → Files → List ℕ → ReadingOf command → Reply
reply_to (create name) limits files input reading = create_reply name (whole_of 0 (get files name))
reply_to (edit name agent) limits files input reading = over_events (input_reply name agent limits input reading) (open_file name limits files)
reply_to (show listing name) limits files input reading = over_events (show_reply listing) (open_file name limits files)
reply_to (merge name other) limits files input reading = over_both (merge_reply name limits) (open_file name limits files) (open_file other limits files)
reply_to (upgrade name) limits files input reading = upgrade_reply name limits (whole_of (most_file_bytes limits.events) (get files name))
reply_to (undo name agent first count) limits files input reading = over_events (undo_reply name agent first count limits) (open_file name limits files)
reply_to (make seed count) limits files input reading = make_reply limits (made limits seed count)
reply_to net limits files input reading = net_reply limits input reading

-- what a run answers: its status, what it prints, what it writes on the error output, and the files after it
pub record Answer : Type 0 where
  pub status : ℕ
  pub out : List ℕ
  pub err : List ℕ
  pub files : Files

-- what a run answers by a reply
abbrev pub answer_of : Reply → Files → Answer
answer_of (prints out) files = record { status = 0; out = out; err = []; files = files }
answer_of (stores out name bytes) files = record { status = 0; out = out; err = []; files = insert files name bytes }
answer_of (refuses why) files = record { status = refusal_status why; out = []; err = refusal_text why; files = files }
