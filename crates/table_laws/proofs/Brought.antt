-- A conversation brings what the other file has.
use Rattle.std.proofs.Common.{◌≡◌, ℕ, ◌+◌, ◌≤◌, ◌<◌, ◌^◌, Bool, true, false, if◌then◌else◌, nat_lt, ⊎_elim, List, [], ◌∷◌, ◌++◌, map, length, flat_map, Some, None, refl, sym, ap, ◌∙◌, subst, arith, append-nil, append_assoc}
use Rattle.std.specs.List.{AllByRecursion}
use Rattle.std.proofs.lemmas.Bool.{le-ltb}
use Rattle.std.proofs.lemmas.Bool.Decides.{nat_tests}
use Rattle.std.proofs.lemmas.List.{length-append}
use Rattle.std.proofs.lemmas.List.Concat.{flat_map-append}
use Rattle.ew_model.specs.declared.event.Event.{Event}
use Rattle.file_words.specs.FileRuns.{file2_of}
use Rattle.ew_model.specs.Limits.{LimitNumbers, AreLimits}
use Rattle.ew_model.specs.Sound.{IsSound, AreSound}
use Rattle.ew_model.specs.Verdicts.{IsGood, IsGoodAfter}
use Rattle.ew_model.proofs.EntryLaws.{all_joined}
use Rattle.ew_model.proofs.SetLaws.{among_joined, among_filter}
use Rattle.ew_model.proofs.SortingLaws.{all_at, all_filter, all_from}
use Rattle.ew_outside.specs.Files.{Files}
use Rattle.history_definitions.specs.Missing.{missing}
use Rattle.history_definitions.specs.Summary.{summary_of}
use Rattle.peer_definitions.specs.declared.frame.Frame.{Frame}
use Rattle.peer_definitions.specs.declared.frame.Frame.TheVariants.{Have, Events, Done, Bye}
use Rattle.peer_frames.specs.Laws.{IsTaken}
use Rattle.peer_definitions.specs.Spelling.{frame_bytes}
use Rattle.peer_exchange.proofs.Ascending.{summary_sound}
use Rattle.peer_definitions.specs.Answering.{event_frames}
use Rattle.peer_exchange.specs.Laws.{unheld}
use Rattle.peer_definitions.specs.Pieces.{frame_room, pieces}
use Rattle.peer_exchange.proofs.Lengths.{bye_taken, missing_few, question_taken, sent_taken}
use Rattle.peer_exchange.proofs.MissingLaw.{missing_are_unheld}
use Rattle.peer_exchange.proofs.PieceLaws.{pieces_whole, some_room}
use Rattle.command_table.specs.Framings.{Framing}
use Rattle.table_laws.specs.MergeLaws.{command_answer}
use Rattle.command_table.specs.Scripts.{Reading}
use Rattle.command_table.specs.Sessions.{Exchange, Session, bytes_of, closed_reply, exchanged, opened_state, or_closed, served, served_as, served_by, served_from, session_answer}
use Rattle.command_table.specs.Table.{Text, Answer, Reply, Opened, opened, open_file, over_events, prints, question, refuses, show, show_reply, stores, answer_of}
use Rattle.command_table.specs.Refusals.{input_too_long}
use Rattle.table_laws.proofs.MergedFiles.{IsStorable, Opens, opened_is, opens, status_in, storable, stored_opens}
use Rattle.history_laws.proofs.Answered.{each_swapped}
use Rattle.replica.proofs.Beginnings.{good_from_none_bad}
use Rattle.table_laws.specs.Conversations.{CanBeOne, ConversationsBring, IsBrought, IsConversation}
use Rattle.table_laws.proofs.GoodBehind.{good_behind, good_joined}
use Rattle.table_laws.proofs.Received.{IsTalked, talked}
use Rattle.table_laws.proofs.Spoken.{framed, just}
use Rattle.command_table.proofs.Openings.{same_events}

-- ---- files

-- how a file was read that opens as these events
pub opens_of : (name : Text) (limits : LimitNumbers) (files : Files) (events : List Event) → open_file name limits files ≡ opened events → Opens limits files name events
opens_of name limits files events e =
    let nothing : List Event → Reply = λ xs. prints [] in
    let o = opens nothing name limits files (ap (λ (x : Opened). status_in (over_events nothing x)) e) in
    subst (Opens limits files name) (same_events o.0 events (sym (opened_is name limits files o.0 o.1) ∙ e)) o.1

pub opened_good : (name : Text) (limits : LimitNumbers) (files : Files) (events : List Event) → open_file name limits files ≡ opened events → IsGood events
opened_good name limits files events e = good_from_none_bad events (opens_of name limits files events e).good

-- ---- what is said

asked_so : (limits : LimitNumbers) (files : Files) (name : Text) (events : List Event) (input : List ℕ) (reading : Reading) → open_file name limits files ≡ opened events
    → command_answer (show question name) limits files input reading ≡ answer_of (prints (bytes_of (Have (summary_of events) ∷ []))) files
asked_so limits files name events input reading e =
    ap (λ (o : Opened). answer_of (over_events (show_reply question) o) files) e ∙ ap (λ (out : List ℕ). answer_of (prints out) files) (sym (append-nil (frame_bytes (Have (summary_of events)))))

-- what is answered to a question
abbrev replies : LimitNumbers → List Event → List (List ℕ × ℕ) → List Frame
replies limits events counts = event_frames limits (missing events counts) ++ Done ∷ []

answered_so : (limits : LimitNumbers) (files : Files) (name : Text) (events : List Event) (input : List ℕ) (counts : List (List ℕ × ℕ)) (f : Framing) → open_file name limits files ≡ opened events → f ≡ just (Have counts ∷ [])
    → length input ≤ limits.input → session_answer (served name limits files input f) files ≡ answer_of (prints (bytes_of (replies limits events counts))) files
answered_so limits files name events input counts f e same short =
    let said : List ℕ = bytes_of (replies limits events counts) in
    let close = λ (b c : Bool). session_answer (record {
      sent = said ++ [];
      closing = or_closed (if b then Some (refuses (input_too_long limits.input)) else None) (if c then stores [] name (file2_of events) else prints []);
    }) files in
    ap (λ (o : Opened). session_answer (served_as name limits input f o) files) e
    ∙ ap (λ (g : Framing). session_answer (served_from name limits input g events) files) same
    ∙ ap (λ (b : Bool). close b (nat_lt (length events) (length events))) (le-ltb limits.input (length input) short)
    ∙ ap (λ (c : Bool). close false c) (le-ltb (length events) (length events) (omega arith))
    ∙ ap (λ (out : List ℕ). answer_of (prints out) files) (append-nil (said ++ []) ∙ append-nil said)

-- a session that ends with a Bye, after which the replica holds these events
closed_so : (limits : LimitNumbers) (name : Text) (input : List ℕ) (f : Framing) (before : ℕ) (t : Exchange) (now : List Event) → IsTalked limits now t
    → served_by name limits input f before t t.end ≡ record { sent = t.sent; closing = closed_reply name before (bytes_of (Bye ∷ [])) now }
closed_so limits name input f before t now talk =
    ap (served_by name limits input f before t) talk.end
    ∙ ap (λ (last : List ℕ). record { sent = t.sent; closing = closed_reply name before last t.state.held }) talk.last
    ∙ ap (λ r. record { sent = t.sent; closing = closed_reply name before (bytes_of (Bye ∷ [])) r.held }) talk.state

-- ---- what is left

abbrev left_by : Bool → List ℕ → Text → List ℕ → List Event → Files → Answer
left_by b sent name out now files = session_answer (record { sent = sent; closing = if b then stores out name (file2_of now) else prints out }) files

goes_well : (b : Bool) (sent : List ℕ) (name : Text) (out : List ℕ) (now : List Event) (files : Files) → (left_by b sent name out now files).status ≡ 0
goes_well true sent name out now files = refl
goes_well false sent name out now files = refl

nothing_more : (events more : List Event) → nat_lt (length events) (length (events ++ more)) ≡ false → more ≡ []
nothing_more events [] h = refl
nothing_more events (x ∷ more) h = let both = length-append events (x ∷ more) in absurd (longer (length events) (length (events ++ x ∷ more)) (omega (arith, both)) h)
  where
    longer : (n m : ℕ) → n < m → nat_lt n m ≡ false → ⊥
    longer n m l k = grind (arith, nat_tests)

left_opens : (limits : LimitNumbers) (files : Files) (name : Text) (events more : List Event) (sent out : List ℕ) (b : Bool) → nat_lt (length events) (length (events ++ more)) ≡ b
    → AreLimits limits → IsGood (events ++ more) → IsStorable limits (events ++ more) → open_file name limits files ≡ opened events
    → open_file name limits (left_by b sent name out (events ++ more) files).files ≡ opened (events ++ more)
left_opens limits files name events more sent out true h numbers good one e = stored_opens limits files name (events ++ more) numbers good one
left_opens limits files name events more sent out false h numbers good one e = e ∙ ap opened (sym (append-nil events)) ∙ ap (λ (l : List Event). opened (events ++ l)) (sym (nothing_more events more h))

-- ---- the law

-- the events of both can be held by a file
pub joined_storable : (limits : LimitNumbers) (events others : List Event) → IsStorable limits events → IsStorable limits others → length events + length (unheld others events) ≤ limits.events
    → IsStorable limits (events ++ unheld others events)
joined_storable limits events others one two room =
    let more = unheld others events in
    let both = length-append events more in
    record {
      sound = all_from IsSound (events ++ more) (λ z m. ⊎_elim (λ k. all_at IsSound events z one.sound k) (λ k. all_at IsSound others z two.sound (among_filter _ others z k).0) (among_joined events more z m));
      few = omega (arith, room, both);
    }

-- by what both files can hold
pub brought : (limits : LimitNumbers) (mine theirs : Files) (one other : Text) (events others : List Event) (input : List ℕ) (reading : Reading) (asked answered got : Answer)
    → AreLimits limits → IsStorable limits events → IsStorable limits others → open_file one limits mine ≡ opened events → open_file other limits theirs ≡ opened others → CanBeOne limits events others
    → IsConversation limits mine theirs one other input reading asked answered got → IsBrought limits theirs one events others asked answered got
unfolding IsGood
brought limits mine theirs one other events others input reading asked answered got numbers s t is_one is_other can c =
    let good = opened_good one limits mine events is_one in
    let also = opened_good other limits theirs others is_other in
    let counts = summary_of events in
    let more : List Event = unheld others events in
    let now : List Event = events ++ more in
    let few : length events < 2 ^ 32 = omega (arith, s.few, numbers.few_events) in
    -- the question
    let asked_is = c.asks ∙ asked_so limits mine one events input reading is_one in
    let question_is = question_taken (opened_state limits events) numbers (summary_sound events s.sound few) s.few in
    let heard = framed limits (Have counts ∷ []) asked.out c.answers.framing (question_is, tt) (ap (λ (a : Answer). a.out) asked_is) c.answers.short c.answers.frames in
    -- the answer
    let answered_is = c.answers.is ∙ answered_so limits theirs other others asked.out counts c.answers.framing is_other heard c.answers.short in
    let lacking : List Event = missing others counts in
    let lacking_is : lacking ≡ more = missing_are_unheld others events good (each_swapped events others can.one_each) in
    let sound : AreSound lacking = subst AreSound (sym lacking_is) (all_filter IsSound _ others t.sound) in
    let parts = pieces (frame_room limits) lacking in
    let frames : List Frame = map Events parts ++ Done ∷ Bye ∷ [] in
    let frames_are : replies limits others counts ++ Bye ∷ [] ≡ frames = append_assoc (map Events parts) (Done ∷ []) (Bye ∷ []) in
    let taken = all_joined (IsTaken limits) (replies limits others counts) (Bye ∷ []) (sent_taken limits lacking numbers sound (missing_few others counts also)) (bye_taken limits, tt) in
    let bytes_are : answered.out ++ frame_bytes Bye ≡ bytes_of frames =
    ap (λ (a : Answer). a.out ++ frame_bytes Bye) answered_is
    ∙ ap (λ (b : List ℕ). bytes_of (replies limits others counts) ++ b) (sym (append-nil (frame_bytes Bye)))
    ∙ sym (flat_map-append frame_bytes (replies limits others counts) (Bye ∷ []))
    ∙ ap bytes_of frames_are in
    let heard_back = framed limits frames (answered.out ++ frame_bytes Bye) c.gets.framing (subst (AllByRecursion (IsTaken limits)) frames_are taken) bytes_are c.gets.short c.gets.frames in
    -- what is received
    let whole : flat_map (λ (piece : List Event). piece) parts ≡ more = (pieces_whole (frame_room limits) lacking (some_room limits numbers)).whole ∙ lacking_is in
    let behind = good_behind events others good also can.one_each in
    let u = exchanged (opened_state limits events) frames in
    let talk : IsTalked limits now u =
    subst (λ (l : List Event). IsTalked limits (events ++ l) u) whole
    (talked limits events parts (subst (λ (l : List Event). IsGoodAfter events l) (sym whole) behind) (subst (λ (l : List Event). length events + length l ≤ limits.events) (sym whole) can.room)) in
    let got_is : got ≡ left_by (nat_lt (length events) (length now)) u.sent one (bytes_of (Bye ∷ [])) now mine =
    c.gets.is
    ∙ ap (λ (o : Opened). session_answer (served_as one limits (answered.out ++ frame_bytes Bye) c.gets.framing o) mine) is_one
    ∙ ap (λ (f : Framing). session_answer (served_from one limits (answered.out ++ frame_bytes Bye) f events) mine) heard_back
    ∙ ap (λ (x : Session). session_answer x mine) (closed_so limits one (answered.out ++ frame_bytes Bye) (just frames) (length events) u now talk) in
    record {
      asked_well = ap (λ (a : Answer). a.status) asked_is;
      answered_well = ap (λ (a : Answer). a.status) answered_is;
      got_well = ap (λ (a : Answer). a.status) got_is ∙ goes_well (nat_lt (length events) (length now)) u.sent one (bytes_of (Bye ∷ [])) now mine;
      theirs_stay = ap (λ (a : Answer). a.files) answered_is;
      now = ap (λ (a : Answer). open_file one limits a.files) got_is
          ∙ left_opens limits mine one events more u.sent (bytes_of (Bye ∷ [])) (nat_lt (length events) (length now)) refl numbers (good_joined [] events more good behind) (joined_storable limits events others s t can.room) is_one;
    }

pub conversations_bring : ConversationsBring
conversations_bring limits mine theirs one other events others input reading asked answered got numbers bytes_one bytes_other is_one is_other can c =
    brought limits mine theirs one other events others input reading asked answered got numbers
    (storable limits mine one events bytes_one (opens_of one limits mine events is_one))
    (storable limits theirs other others bytes_other (opens_of other limits theirs others is_other))
    is_one is_other can c
