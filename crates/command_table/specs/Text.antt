-- Words in refusals, the five lines that tell of success, and what is told where an object failed or memory ran out.
use Rattle.std.specs.Prelude.{ℕ, List, ◌++◌, codes}
use Rattle.std.specs.Fmt.{decimal}
use Rattle.ew_model.specs.Scripts.{id_text}
use Rattle.ew_model.specs.Verdicts.{Ruling}
use Rattle.ew_model.specs.Verdicts.Ruling.{Repeat, Clash, SelfParent, TooManyParents, ParentsUnsorted, Unknown, PoolFull, NotReduced, Skipped, GraphFull, OutOfRange, Good}
use Rattle.file_words.specs.FileFaults.{RecordFault}
use Rattle.file_words.specs.FileFaults.RecordFault.{Cut, NameBad, NameTwice, AgentNumber, IdTwice, ParentCount, ParentPosition, ParentOrder, KindBad, RunJoin, RunLength, Scalar, Trailing, UnusedAgent}

-- what is wrong with a field, in words
abbrev pub field_words : RecordFault → List ℕ
field_words Cut = codes "cut"
field_words NameBad = codes "bad name"
field_words NameTwice = codes "name twice"
field_words AgentNumber = codes "agent number"
field_words IdTwice = codes "id twice"
field_words ParentCount = codes "parent count"
field_words ParentPosition = codes "parent position"
field_words ParentOrder = codes "parent order"
field_words KindBad = codes "kind"
field_words RunJoin = codes "run join"
field_words RunLength = codes "run length"
field_words Scalar = codes "scalar"
field_words Trailing = codes "trailing bytes"
field_words UnusedAgent = codes "unused agent"

-- Why an event isn't good, in words. (An event of a file is never refused for another reason than the last three: its
-- id is its own, and its parents stand before it, ascending. One of a journal may be refused for the first six too.)
abbrev pub verdict_words : Ruling → List ℕ
verdict_words Repeat = codes "repeat"
verdict_words Clash = codes "clash"
verdict_words SelfParent = codes "own parent"
verdict_words TooManyParents = codes "too many parents"
verdict_words ParentsUnsorted = codes "parents unsorted"
verdict_words (Unknown parent) = codes "unknown " ++ id_text parent
verdict_words PoolFull = codes "waiting list full"
verdict_words GraphFull = codes "history full"
verdict_words Good = codes "good"
verdict_words NotReduced = codes "not reduced"
verdict_words Skipped = codes "skipped"
verdict_words (OutOfRange len) = codes "out of range, length " ++ decimal len

-- how many events an edit made
abbrev pub made_text : ℕ → List ℕ
made_text made = codes "made " ++ (decimal made ++ codes "\n")

-- how many received events were appended, wait, were there before and were refused, and the critical cut after which the history changed
abbrev pub received_text : ℕ → ℕ → ℕ → ℕ → ℕ → List ℕ
received_text accepted waiting repeats refused cut =
    codes "accepted "
    ++ (decimal accepted ++ (codes " waiting " ++ (decimal waiting ++ (codes " repeats " ++ (decimal repeats ++ (codes " refused " ++ (decimal refused ++ (codes " cut " ++ (decimal cut ++ codes "\n")))))))))

-- how many events of a line of a script stand in the journal
abbrev pub kept_text : ℕ → List ℕ
kept_text made = codes "kept " ++ (decimal made ++ codes "\n")

-- at which index a caret is
abbrev pub index_text : ℕ → List ℕ
index_text index = decimal index ++ codes "\n"

-- which version of the event file was read, and of how many events
abbrev pub upgraded_text : ℕ → ℕ → List ℕ
upgraded_text version count = codes "version " ++ (decimal version ++ (codes " events " ++ (decimal count ++ codes "\n")))

-- told where the shelf failed
abbrev pub shelf_failed : List ℕ
shelf_failed = codes "egw: shelf failed\n"

-- told where the disk failed
abbrev pub disk_failed : List ℕ
disk_failed = codes "egw: disk failed\n"

-- told where the source failed
abbrev pub source_failed : List ℕ
source_failed = codes "egw: source failed\n"

-- told where the output failed
abbrev pub sink_failed : List ℕ
sink_failed = codes "egw: sink failed\n"

-- told where memory ran out
abbrev pub out_of_memory : List ℕ
out_of_memory = codes "egw: out of memory\n"
