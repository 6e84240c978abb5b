-- A conversation of two people, in which one gets what the other has.
use Rattle.std.specs.Prelude.{◌≡◌, ℕ, ◌+◌, ◌≤◌, List, ◌++◌, length}
use Rattle.ew_model.specs.declared.event.Event.{Event}
use Rattle.ew_model.specs.ArrivalLaw.{OneEach}
use Rattle.ew_model.specs.Limits.{LimitNumbers, AreLimits}
use Rattle.ew_model.specs.Sets.{SameElements}
use Rattle.ew_outside.specs.Files.{Files}
use Rattle.peer_definitions.specs.declared.frame.Frame.TheVariants.{Bye}
use Rattle.peer_definitions.specs.Spelling.{frame_bytes}
use Rattle.peer_exchange.specs.Laws.{unheld}
use Rattle.command_table.specs.Framings.{Framing, IsFramingOf}
use Rattle.table_laws.specs.MergeLaws.{HoldsBytes, command_answer}
use Rattle.command_table.specs.Scripts.{Reading}
use Rattle.command_table.specs.Sessions.{served, session_answer}
use Rattle.command_table.specs.Table.{Text, Answer, content, question, show, opened, open_file, prints, reply_to}

-- what serving a peer with a file answers to these bytes
pub record IsServing (limits : LimitNumbers) (files : Files) (name : Text) (input : List ℕ) (answer : Answer) : Type 0 where
  pub framing : Framing
  pub frames : IsFramingOf limits input framing
  pub is : answer ≡ session_answer (served name limits files input framing) files
  pub short : length input ≤ limits.input

-- One person asks for a file. Another, who has files too, is given that question and serves a file of theirs. The first is given
-- that answer, and a Bye behind it, and serves the file that was asked for.
pub record IsConversation (limits : LimitNumbers) (mine theirs : Files) (one other : Text) (input : List ℕ) (reading : Reading) (asked answered got : Answer) : Type 0 where
  pub asks : asked ≡ command_answer (show question one) limits mine input reading
  pub answers : IsServing limits theirs other asked.out answered
  pub gets : IsServing limits mine one (answered.out ++ frame_bytes Bye) got

-- two histories that can be one: each id names one event, and there are no more events than a history may have
pub record CanBeOne (limits : LimitNumbers) (events others : List Event) : Type 0 where
  pub one_each : OneEach (events ++ others)
  pub room : length events + length (unheld others events) ≤ limits.events

-- All goes well; the other person's files are as before, and the file that was asked for opens as its own events, with those behind
-- them that it didn't hold, in the other history's order.
pub record IsBrought (limits : LimitNumbers) (theirs : Files) (one : Text) (events others : List Event) (asked answered got : Answer) : Type 0 where
  pub asked_well : asked.status ≡ 0
  pub answered_well : answered.status ≡ 0
  pub got_well : got.status ≡ 0
  pub theirs_stay : answered.files ≡ theirs
  pub now : open_file one limits got.files ≡ opened (events ++ unheld others events)

-- A conversation brings all that the other file has, where both are good histories that can be one.
abbrev pub ConversationsBring : Type 0
ConversationsBring = (limits : LimitNumbers) (mine theirs : Files) (one other : Text) (events others : List Event) (input : List ℕ) (reading : Reading) (asked answered got : Answer)
    → AreLimits limits → HoldsBytes mine one → HoldsBytes theirs other
    → open_file one limits mine ≡ opened events → open_file other limits theirs ≡ opened others → CanBeOne limits events others
    → IsConversation limits mine theirs one other input reading asked answered got
    → IsBrought limits theirs one events others asked answered got

-- both files open, hold the same events, and show one text
pub record AreAlike (limits : LimitNumbers) (mine theirs : Files) (one other : Text) (input : List ℕ) (reading : Reading) : Type 0 where
  pub events : List Event
  pub others : List Event
  pub first : open_file one limits mine ≡ opened events
  pub second : open_file other limits theirs ≡ opened others
  pub same : SameElements events others
  pub text : List ℕ
  pub first_shows : reply_to (show content one) limits mine input reading ≡ prints text
  pub second_shows : reply_to (show content other) limits theirs input reading ≡ prints text

-- After a conversation each way both have the same.
abbrev pub ConversationsAgree : Type 0
ConversationsAgree = (limits : LimitNumbers) (mine theirs : Files) (one other : Text) (events others : List Event) (input : List ℕ) (reading : Reading)
    (asked answered got asked_back answered_back got_back : Answer)
    → AreLimits limits → HoldsBytes mine one → HoldsBytes theirs other
    → open_file one limits mine ≡ opened events → open_file other limits theirs ≡ opened others → CanBeOne limits events others
    → IsConversation limits mine theirs one other input reading asked answered got
    → IsConversation limits theirs got.files other one input reading asked_back answered_back got_back
    → AreAlike limits got.files got_back.files one other input reading
