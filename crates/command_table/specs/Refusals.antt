-- Why a line is refused: each reason, with its status and its text.
use Rattle.std.specs.Prelude.{ℕ, List, ◌++◌, codes}
use Rattle.std.specs.Fmt.{decimal}
use Rattle.hex.specs.Hex.{encode_lower}
use Rattle.ew_model.specs.declared.id.Id.{Id}
use Rattle.ew_model.specs.Scripts.{id_text}
use Rattle.ew_model.specs.Verdicts.{Ruling}
use Rattle.file_words.specs.FileFaults.{RecordFault}
use Rattle.command_table.specs.Text.{field_words, verdict_words}
use Rattle.command_table.specs.Cli.{usage}

-- A reason to refuse a command line. Lines of a script and frames are counted from 1.
pub data Refusal : Type 0 where
  -- the words aren't taken
  not_taken : Refusal
  -- a file that has to be there isn't, and a file that is to be made is there already
  no_file : (name : List ℕ) → Refusal
  file_there : (name : List ℕ) → Refusal
  -- what is wrong with a file as a whole: it is shorter than its fixed part, it isn't an event file, its version isn't known, or its digest isn't that of its bytes
  short_file : (name : List ℕ) (len : ℕ) → Refusal
  no_event_file : (name : List ℕ) → Refusal
  unknown_version : (name : List ℕ) (version : ℕ) → Refusal
  bad_digest : (name stored found : List ℕ) → Refusal
  -- a field that is bad, at which byte, and an event that isn't good, at which position
  bad_field : (name : List ℕ) (offset : ℕ) (fault : RecordFault) → Refusal
  bad_event : (name : List ℕ) (position : ℕ) (verdict : Ruling) → Refusal
  -- the journal: a place where no batch is, and an event that isn't good, at which position
  bad_batch : (offset : ℕ) → Refusal
  bad_journal_event : (position : ℕ) (verdict : Ruling) → Refusal
  -- a line of a script that isn't in its grammar
  unreadable : (line : ℕ) → Refusal
  -- an edit that reaches past the end of a text of this length, of a line or of none
  line_out_of_range : (line len : ℕ) → Refusal
  out_of_range : (len : ℕ) → Refusal
  -- an index above the length of a version's text
  index_out_of_range : (index len : ℕ) → Refusal
  -- a line of a net script: a peer that isn't there or is there already, a packet that was never made, or an event that the peer doesn't
  -- hold
  no_peer : (line : ℕ) (name : List ℕ) → Refusal
  peer_there : (line : ℕ) (name : List ℕ) → Refusal
  no_packet : (line packet : ℕ) → Refusal
  no_event : (line : ℕ) (id : Id) → Refusal
  -- an id of a version, or of an event to undo, that no event of the file has, and an id that two different events have
  unknown : (id : Id) → Refusal
  clash : (id : Id) → Refusal
  -- a frame that is cut, or no frame
  frame_cut : (number : ℕ) → Refusal
  bad_kind : (number kind : ℕ) → Refusal
  frame_too_long : (number len : ℕ) → Refusal
  bad_body : (number : ℕ) → Refusal
  -- what passes a limit
  file_too_long : (name : List ℕ) (most : ℕ) → Refusal
  file_too_many : (name : List ℕ) (most : ℕ) → Refusal
  journal_too_many : (most : ℕ) → Refusal
  input_too_long : (most : ℕ) → Refusal
  too_many_events : (most : ℕ) → Refusal
  too_many_heads : (heads : ℕ) → Refusal

-- the status of a refused line
abbrev pub refusal_status : Refusal → ℕ
refusal_status not_taken = 2
refusal_status (no_file name) = 3
refusal_status (file_there name) = 3
refusal_status (short_file name len) = 4
refusal_status (no_event_file name) = 4
refusal_status (unknown_version name version) = 4
refusal_status (bad_digest name stored found) = 4
refusal_status (bad_field name offset fault) = 4
refusal_status (bad_event name position verdict) = 4
refusal_status (bad_batch offset) = 4
refusal_status (bad_journal_event position verdict) = 4
refusal_status (unreadable line) = 5
refusal_status (line_out_of_range line len) = 5
refusal_status (out_of_range len) = 5
refusal_status (index_out_of_range index len) = 5
refusal_status (no_peer line name) = 5
refusal_status (peer_there line name) = 5
refusal_status (no_packet line packet) = 5
refusal_status (no_event line id) = 5
refusal_status (unknown id) = 5
refusal_status (clash id) = 5
refusal_status (frame_cut number) = 5
refusal_status (bad_kind number kind) = 5
refusal_status (frame_too_long number len) = 5
refusal_status (bad_body number) = 5
refusal_status (file_too_long name most) = 7
refusal_status (file_too_many name most) = 7
refusal_status (journal_too_many most) = 7
refusal_status (input_too_long most) = 7
refusal_status (too_many_events most) = 7
refusal_status (too_many_heads heads) = 7

-- what is told of it
abbrev pub refusal_text : Refusal → List ℕ
refusal_text not_taken = usage
refusal_text (no_file name) = codes "egw: no file " ++ (name ++ codes "\n")
refusal_text (file_there name) = codes "egw: file " ++ (name ++ codes " is there\n")
refusal_text (short_file name len) = codes "egw: " ++ (name ++ (codes ": short, " ++ (decimal len ++ codes " bytes\n")))
refusal_text (no_event_file name) = codes "egw: " ++ (name ++ codes ": not an event file\n")
refusal_text (unknown_version name version) = codes "egw: " ++ (name ++ (codes ": version " ++ (decimal version ++ codes "\n")))
refusal_text (bad_digest name stored found) =
    codes "egw: " ++ (name ++ (codes ": digest " ++ (encode_lower stored ++ (codes ", found " ++ (encode_lower found ++ codes "\n")))))
refusal_text (bad_field name offset fault) =
    codes "egw: " ++ (name ++ (codes ": byte " ++ (decimal offset ++ (codes ": " ++ (field_words fault ++ codes "\n")))))
refusal_text (bad_event name position verdict) =
    codes "egw: " ++ (name ++ (codes ": event " ++ (decimal position ++ (codes ": " ++ (verdict_words verdict ++ codes "\n")))))
refusal_text (bad_batch offset) = codes "egw: journal: byte " ++ (decimal offset ++ codes ": bad batch\n")
refusal_text (bad_journal_event position verdict) =
    codes "egw: journal: event " ++ (decimal position ++ (codes ": " ++ (verdict_words verdict ++ codes "\n")))
refusal_text (unreadable line) = codes "egw: line " ++ (decimal line ++ codes ": unreadable\n")
refusal_text (line_out_of_range line len) = codes "egw: line " ++ (decimal line ++ (codes ": out of range, length " ++ (decimal len ++ codes "\n")))
refusal_text (out_of_range len) = codes "egw: out of range, length " ++ (decimal len ++ codes "\n")
refusal_text (index_out_of_range index len) = codes "egw: index " ++ (decimal index ++ (codes ": out of range, length " ++ (decimal len ++ codes "\n")))
refusal_text (no_peer line name) = codes "egw: line " ++ (decimal line ++ (codes ": no peer " ++ (name ++ codes "\n")))
refusal_text (peer_there line name) = codes "egw: line " ++ (decimal line ++ (codes ": peer " ++ (name ++ codes " is there\n")))
refusal_text (no_packet line packet) = codes "egw: line " ++ (decimal line ++ (codes ": no packet " ++ (decimal packet ++ codes "\n")))
refusal_text (no_event line id) = codes "egw: line " ++ (decimal line ++ (codes ": unknown " ++ (id_text id ++ codes "\n")))
refusal_text (unknown id) = codes "egw: unknown " ++ (id_text id ++ codes "\n")
refusal_text (clash id) = codes "egw: clash " ++ (id_text id ++ codes "\n")
refusal_text (frame_cut number) = codes "egw: frame " ++ (decimal number ++ codes ": cut\n")
refusal_text (bad_kind number kind) = codes "egw: frame " ++ (decimal number ++ (codes ": bad kind " ++ (decimal kind ++ codes "\n")))
refusal_text (frame_too_long number len) = codes "egw: frame " ++ (decimal number ++ (codes ": too long, " ++ (decimal len ++ codes "\n")))
refusal_text (bad_body number) = codes "egw: frame " ++ (decimal number ++ codes ": bad body\n")
refusal_text (file_too_long name most) = codes "egw: " ++ (name ++ (codes ": more than " ++ (decimal most ++ codes " bytes\n")))
refusal_text (file_too_many name most) = codes "egw: " ++ (name ++ (codes ": more than " ++ (decimal most ++ codes " events\n")))
refusal_text (journal_too_many most) = codes "egw: journal: more than " ++ (decimal most ++ codes " events\n")
refusal_text (input_too_long most) = codes "egw: input: more than " ++ (decimal most ++ codes " bytes\n")
refusal_text (too_many_events most) = codes "egw: more than " ++ (decimal most ++ codes " events\n")
refusal_text (too_many_heads heads) = codes "egw: " ++ (decimal heads ++ codes " heads, more than 16\n")
