-- What merging one file into another promises.
use Rattle.std.specs.Prelude.{◌≡◌, ⊤, ℕ, ◌+◌, ◌⊎◌, List, [], ◌∷◌, ◌++◌, length, IfSome}
use Rattle.std.specs.FinMap.{get}
use Rattle.ew_model.specs.declared.event.Event.{Event}
use Rattle.ew_model.specs.Bytes.{AreBytes}
use Rattle.ew_model.specs.Sets.{SameElements}
use Rattle.ew_model.specs.Limits.{LimitNumbers, AreLimits}
use Rattle.ew_outside.specs.Files.{Files}
use Rattle.command_table.specs.Scripts.{Reading}
use Rattle.command_table.specs.Table.{Text, content, Command, ReadingOf, merge, show, prints, Answer, answer_of, reply_to, open_file, opened}
use Rattle.command_table.specs.Text.{received_text}

-- what a command answers over files and an input
abbrev pub command_answer : (command : Command) → LimitNumbers → Files → List ℕ → ReadingOf command → Answer
command_answer command limits files input reading = answer_of (reply_to command limits files input reading) files

-- Where a merge is done, each event of the other file was appended or was there before; none waits, and none is refused.
abbrev pub MergesTakeAll : Type 0
MergesTakeAll = (limits : LimitNumbers) (files : Files) (input : List ℕ) (reading : Reading) (name other : Text)
    → (command_answer (merge name other) limits files input reading).status ≡ 0
    → (events : List Event) × (accepted : ℕ) × (repeats : ℕ) × (cut : ℕ) × (open_file other limits files ≡ opened events)
    × ((command_answer (merge name other) limits files input reading).out ≡ received_text accepted 0 repeats 0 cut) × (accepted + repeats ≡ length events)

-- the file of the name, if there is one, is bytes
abbrev pub HoldsBytes : Files → Text → Type 0
HoldsBytes files name = IfSome (get files name) AreBytes

-- Where two files are merged both ways, whatever each held, both show the same text.
abbrev pub MergesAgree : Type 0
MergesAgree = (limits : LimitNumbers) (files : Files) (input : List ℕ) (reading : Reading) (one other : Text)
    → AreLimits limits → HoldsBytes files one → HoldsBytes files other
    → let there = command_answer (merge one other) limits files input reading in
    let back = command_answer (merge other one) limits there.files input reading in
    there.status ≡ 0 → back.status ≡ 0
    → (text : List ℕ) × (reply_to (show content one) limits back.files input reading ≡ prints text) × (reply_to (show content other) limits back.files input reading ≡ prints text)

-- some of a list's events, in their order
abbrev pub IsPart : List Event → List Event → Type 0
IsPart [] ys = ⊤
IsPart (x ∷ xs) [] = ⊥
IsPart (x ∷ xs) (y ∷ ys) = ((x ≡ y) × IsPart xs ys) ⊎ IsPart (x ∷ xs) ys

-- The history of one file, and behind it events of another, in their order, so that all events of both are there.
pub record IsJoined (events others now : List Event) : Type 0 where
  pub more : List Event
  pub behind : now ≡ events ++ more
  pub part : IsPart more others
  pub whole : SameElements now (events ++ others)

-- Where a merge is done, its file opens as its own events, and behind them those of the other file that it didn't hold. (A history that a file opens as has no event twice.)
abbrev pub MergesStore : Type 0
MergesStore = (limits : LimitNumbers) (files : Files) (input : List ℕ) (reading : Reading) (name other : Text)
    → AreLimits limits → HoldsBytes files name → HoldsBytes files other
    → let there = command_answer (merge name other) limits files input reading in
    there.status ≡ 0
    → (events others now : List Event) × (open_file name limits files ≡ opened events) × (open_file other limits files ≡ opened others)
    × (open_file name limits there.files ≡ opened now) × IsJoined events others now

-- Where two files are merged both ways, whatever each held, both open and hold the same events.
abbrev pub MergesHoldSame : Type 0
MergesHoldSame = (limits : LimitNumbers) (files : Files) (input : List ℕ) (reading : Reading) (one other : Text)
    → AreLimits limits → HoldsBytes files one → HoldsBytes files other
    → let there = command_answer (merge one other) limits files input reading in
    let back = command_answer (merge other one) limits there.files input reading in
    there.status ≡ 0 → back.status ≡ 0
    → (events others : List Event) × (open_file one limits back.files ≡ opened events) × (open_file other limits back.files ≡ opened others) × SameElements events others
