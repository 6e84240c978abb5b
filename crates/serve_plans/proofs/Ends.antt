-- What is left of an input, once a session is closed well.
use Rattle.std.proofs.Common.{◌≡◌, ◌<◌, ◌≤◌, ◌-◌, ℕ, ◌⊎◌, inl, inr, true, false, Bool, nat_lt, if◌then◌else◌, ◌||◌, List, [], ◌∷◌, ◌++◌, length, take, Option, None, Some, Result, Ok, Err, refl, sym, ap, subst, ◌∙◌, arith}
use Rattle.std.specs.Global.{Vec}
use Rattle.std.specs.List.{list_any}
use Rattle.std.specs.Option.{option_map}
use Rattle.std.specs.Io.KnownBytes.{Consumes}
use Rattle.std.proofs.lemmas.Bool.{or_right}
use Rattle.ew_model.specs.declared.id.Id.{Id}
use Rattle.ew_model.specs.declared.event.Event.{Event}
use Rattle.file_words.specs.FileRuns.{file2_of}
use Rattle.ew_model.specs.Kept.{ReplicaState}
use Rattle.ew_model.specs.Limits.{LimitNumbers}
use Rattle.ew_model.proofs.ListTests.{any_from, found_by}
use Rattle.ew_model.proofs.SetLaws.{joined_left}
use Rattle.peer_definitions.specs.declared.frame.Frame.{Frame}
use Rattle.peer_definitions.specs.declared.frame.Frame.TheVariants as frame
use Rattle.peer_definitions.specs.Answering.{Answered, answer_to}
use Rattle.peer_definitions.specs.declared.end.End.{End}
use Rattle.peer_definitions.specs.declared.end.End.TheVariants as end
use Rattle.command_table.specs.Framings.{BeginWith, Framing, IsFramingOf}
use Rattle.command_table.specs.Reads.{TakesAtMost}
use Rattle.command_table.specs.Sessions.{Exchange, exchanged, then_exchanged, is_bye}
use Rattle.command_table.specs.Refusals.{Refusal, refusal_status}
use Rattle.command_table.specs.Table.{Text, prints, stores, refuses}
use Rattle.opened_files.proofs.Reading.{takes_few, takes_none}
use Rattle.opened_files.specs.declared.reply.Reply as code
use Rattle.opened_files.specs.declared.reply.Reply.TheVariants as reply_is
use Rattle.opened_files.specs.Views.{ReadsNone, reply_view, reply_status}
use Rattle.ew_outside.specs.Seen.{SourceSeen}
use Rattle.ew_outside.specs.declared.fault.Fault.{Fault}
use Rattle.serve_plans.specs.declared.closing.Closing.{Closing}
use Rattle.serve_plans.specs.declared.closing.Closing.TheVariants as closing
use Rattle.serve_plans.specs.Plans.{ClosesAs, ReadsAll, ReadsWithin}
use Rattle.serve_plans.specs.Serving.{Closed, IsSpent, MayBeRead, ReadsTo, PlansTalk}
use Rattle.serve_plans.proofs.Cutting.{begins_goes_on, begins_more}
use Rattle.serve_plans.proofs.Closings.{bad_frame, cut_of}

-- ---- a Bye

ended_by : (a : Answered) (e : Option End) (t : Exchange) → (then_exchanged a e t).end ≡ Some end.Bye → (e ≡ Some end.Bye) ⊎ (t.end ≡ Some end.Bye)
ended_by a None t h = inr h
ended_by a (Some x) t h = inl h

clash_is_not : (o : Option Id) → option_map end.Clash o ≡ Some end.Bye → ⊥
clash_is_not None h = absurd cc
clash_is_not (Some x) h = absurd cc

only_bye : (r : ReplicaState) (f : Frame) → (answer_to r f).end ≡ Some end.Bye → is_bye f ≡ true
only_bye r (frame.Have counts) h = absurd cc
only_bye r (frame.Events events) h = absurd (clash_is_not _ h)
only_bye r frame.Done h = absurd cc
only_bye r (frame.Took accepted waiting repeats refused) h = absurd cc
only_bye r (frame.Clash x) h = absurd cc
only_bye r frame.Bye h = refl

found_bye : (r : ReplicaState) (f : Frame) (frames : List Frame) → ((exchanged (answer_to r f).state frames).end ≡ Some end.Bye → list_any is_bye frames ≡ true)
    → ((answer_to r f).end ≡ Some end.Bye) ⊎ ((exchanged (answer_to r f).state frames).end ≡ Some end.Bye) → list_any is_bye (f ∷ frames) ≡ true
found_bye r f frames later (inl e) = ap (λ b. b || list_any is_bye frames) (only_bye r f e)
found_bye r f frames later (inr e) = or_right (is_bye f) (list_any is_bye frames) (later e)

-- a session that ended by a Bye was said one
said_bye : (r : ReplicaState) (frames : List Frame) → (exchanged r frames).end ≡ Some end.Bye → list_any is_bye frames ≡ true
said_bye r [] h = absurd cc
said_bye r (f ∷ frames) h =
    let a = answer_to r f in
    found_bye r f frames (λ e. said_bye a.state frames e) (ended_by a a.end (exchanged a.state frames) h)

any_front : (frames more : List Frame) → list_any is_bye frames ≡ true → list_any is_bye (frames ++ more) ≡ true
any_front frames more h = let f = found_by is_bye frames h in any_from is_bye (frames ++ more) f.0 (joined_left frames more f.0 f.1) f.2

-- ---- what is left

nothing_left : (input read : List ℕ) (left : Option (List ℕ)) → Consumes (Some input) left read → IsSpent (Some input) left → left ≡ Some []
nothing_left input read None taken none = absurd taken
nothing_left input read (Some rest) taken none = ap Some none

refused_status : (p : code.Reply) (why : Refusal) → reply_view p ≡ refuses why → reply_status p ≡ refusal_status why
refused_status (reply_is.Prints out) why h = absurd cc
refused_status (reply_is.Stores out name bytes) why h = absurd cc
refused_status (reply_is.Refuses x) why h = cc

not_well : (p : code.Reply) (why : Refusal) → reply_view p ≡ refuses why → 0 < refusal_status why → reply_status p ≡ 0 → ⊥
not_well p why told some well = absurd (omega (arith, refused_status p why told, some, well))

not_false : (b : Bool) → b ≡ true → b ≡ false → ⊥
not_false b h k = absurd cc

module _ (name : Text) (limits : LimitNumbers) (start : ReplicaState) (input : List ℕ) (left out out' : Option (List ℕ)) (flushed flushed' : Option ℕ) where
  -- a Bye that was answered is among the frames of the input
  bye_said : (now : ReplicaState) (read rest : List ℕ) (bs : Vec ℕ) (x : Framing) → length read ≤ limits.input → input ≡ read ++ rest
      → Closed limits start now read out out' flushed flushed' 0 (closing.Bye bs) → IsFramingOf limits input x
      → list_any is_bye x.frames ≡ true
  bye_said now read rest bs x short whole h is =
      let behind = take (limits.input - length read) rest in
      let front : take limits.input input ≡ read ++ behind = ap (take limits.input) whole ∙ cut_of limits.input read rest short in
      let begins = subst (λ b. BeginWith limits b h.frames (h.rest ++ behind)) (sym front) (begins_more limits read behind h.frames h.rest h.begins) in
      let goes = begins_goes_on limits (take limits.input input) h.frames x.frames (h.rest ++ behind) x.rest x.stop begins is.begins is.found is.none in
      subst (λ fs. list_any is_bye fs ≡ true) (sym goes.whole) (any_front h.frames goes.more (said_bye start h.frames h.closes.0))

  well_left : (now : ReplicaState) (c : Closing) (p : code.Reply) (read : List ℕ) → MayBeRead limits read → ReadsTo limits read (Some input) left c
      → Closed limits start now read out out' flushed flushed' 0 c
      → ClosesAs name limits (length start.held) now.held c (reply_view p) → reply_status p ≡ 0 → (x : Framing) → IsFramingOf limits input x
      → list_any is_bye x.frames ≡ false → left ≡ Some []
  well_left now closing.End p read may taken h told well x is none = nothing_left input read left taken.0 taken.1
  well_left now (closing.CutFrame n) p read may taken h told well x is none = nothing_left input read left taken.0 taken.1
  well_left now (closing.Clash y) p read may taken h told well x is none = absurd (not_well p _ told (omega arith) well)
  well_left now (closing.BadFrame n why) p read may taken h told well x is none = (let five = bad_frame n why told.0 told.1 in absurd (not_well p told.0 told.2 (omega (arith, five)) well))
  well_left now closing.TooLong p read may taken h told well x is none = absurd (not_well p _ told (omega arith) well)
  well_left now (closing.Bye bs) p read may taken h told well x is none = absurd (not_false (list_any is_bye x.frames) (said left taken) none)
    where
      said : (l : Option (List ℕ)) → Consumes (Some input) l read → list_any is_bye x.frames ≡ true
      said None t = absurd t
      said (Some rest) t = bye_said now read rest bs x may.short t h is

pub reads_all : (name : Text) (limits : LimitNumbers) (start : ReplicaState) (left left' out out' : Option (List ℕ)) (flushed flushed' : Option ℕ)
    (r : Result code.Reply Fault) → PlansTalk name limits start left left' out out' flushed flushed' r
    → ReadsAll limits left left' r
reads_all name limits start (Some input) left' out out' flushed flushed' (Ok p) t =
    λ well x is none. well_left name limits start input left' out out' flushed flushed' t.0 t.1 p t.2.0 t.2.1 t.2.2 t.2.3 t.3 well x is none
reads_all name limits start (Some input) left' out out' flushed flushed' (Err halt) t = tt
reads_all name limits start None left' out out' flushed flushed' r t = tt

-- ---- how much was read, by the status

well_status : (p : code.Reply) (b : Bool) (name : Text) (out bytes : List ℕ) → reply_view p ≡ (if b then stores out name bytes else prints out) → reply_status p ≡ 0
well_status (reply_is.Prints o) b name out bytes h = refl
well_status (reply_is.Stores o n bs) b name out bytes h = refl
well_status (reply_is.Refuses x) true name out bytes h = absurd cc
well_status (reply_is.Refuses x) false name out bytes h = absurd cc

module _ (name : Text) (limits : LimitNumbers) (before : ℕ) (held : List Event) where
  -- the statuses of a session whose file is open
  closing_status : (c : Closing) (p : code.Reply) → ClosesAs name limits before held c (reply_view p) → (reply_status p ≡ 0) ⊎ ((reply_status p ≡ 5) ⊎ (reply_status p ≡ 7))
  closing_status closing.End p told = inl (well_status p (nat_lt before (length held)) name [] (file2_of held) told)
  closing_status (closing.Bye bytes) p told = inl (well_status p (nat_lt before (length held)) name bytes.items (file2_of held) told)
  closing_status (closing.Clash x) p told = inr (inl (refused_status p _ told))
  closing_status (closing.BadFrame n why) p told = inr (inl (refused_status p told.0 told.2 ∙ bad_frame n why told.0 told.1))
  closing_status (closing.CutFrame n) p told = inr (inl (refused_status p _ told))
  closing_status closing.TooLong p told = inr (inr (refused_status p _ told))

  taken_within : (read : List ℕ) (left left' : Option (List ℕ)) (c : Closing) (p : code.Reply) → length read ≤ limits.input → ReadsTo limits read left left' c
      → ClosesAs name limits before held c (reply_view p) → (reply_status p ≡ 0) ⊎ (reply_status p ≡ 5) → TakesAtMost limits.input left left'
  taken_within read left left' closing.End p short h told well = takes_few limits.input left left' read h.0 short
  taken_within read left left' (closing.CutFrame n) p short h told well = takes_few limits.input left left' read h.0 short
  taken_within read left left' closing.TooLong p short h told well =
      let seven = refused_status p _ told in
      absurd (omega (arith, seven, well))
  taken_within read left left' (closing.Bye bytes) p short h told well = takes_few limits.input left left' read h short
  taken_within read left left' (closing.Clash x) p short h told well = takes_few limits.input left left' read h short
  taken_within read left left' (closing.BadFrame n why) p short h told well = takes_few limits.input left left' read h short

-- behind the limit a byte is read of an input that is too long alone
pub reads_within : (name : Text) (limits : LimitNumbers) (start : ReplicaState) (left left' out out' : Option (List ℕ)) (flushed flushed' : Option ℕ)
    (r : Result code.Reply Fault) → PlansTalk name limits start left left' out out' flushed flushed' r
    → ReadsWithin limits left left' r
reads_within name limits start left left' out out' flushed flushed' (Ok p) t =
    λ well. taken_within name limits (length start.held) t.0.held t.2.0 left left' t.1 p t.2.1.short t.2.2 t.3 well
reads_within name limits start left left' out out' flushed flushed' (Err halt) t = tt

-- a session whose file is open has none of the statuses of one that is missing or bad
pub reads_none : (name : Text) (limits : LimitNumbers) (start : ReplicaState) (left left' out out' : Option (List ℕ)) (flushed flushed' : Option ℕ)
    (input input' : SourceSeen) (r : Result code.Reply Fault) → PlansTalk name limits start left left' out out' flushed flushed' r
    → ReadsNone input input' r
reads_none name limits start left left' out out' flushed flushed' input input' (Ok p) t = λ bad.
    let is = closing_status name limits (length start.held) t.0.held t.1 p t.3 in
    absurd (omega (arith, is, bad))
reads_none name limits start left left' out out' flushed flushed' input input' (Err halt) t = tt

-- nothing was read
pub none_within : (limits : LimitNumbers) (left : Option (List ℕ)) (r : Result code.Reply Fault) → ReadsWithin limits left left r
none_within limits left (Ok p) = λ well. takes_none limits.input left left refl
none_within limits left (Err halt) = tt
