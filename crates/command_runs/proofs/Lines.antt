-- From the plan of a command, or of a session, to the plan of its line.
use Rattle.std.proofs.Common.{◌≡◌, inl, ℕ, true, false, List, [], ◌∷◌, Option, Some, None, Result, Ok, Err, IfErr, IfOk, IfSome, refl, sym, subst, arith}
use Rattle.std.proofs.lemmas.Bool.{false≢true}
use Rattle.std.proofs.KnownBytes.{Appends-nil}
use Rattle.ew_model.specs.Limits.{LimitNumbers}
use Rattle.ew_outside.specs.Counts.{Asks, AsksAtMost, Rose, next}
use Rattle.ew_outside.specs.Files.{Files}
use Rattle.ew_outside.specs.Seen.{ShelfSeen, SourceSeen, SinkSeen}
use Rattle.ew_outside.specs.declared.fault.Fault.{Fault}
use Rattle.ew_outside.specs.declared.fault.Fault.TheVariants as fault_is
use Rattle.command_table.specs.Lines.{IsInput}
use Rattle.command_table.specs.Loads.{missing}
use Rattle.command_table.specs.Possible.{MayReplyTo}
use Rattle.command_table.specs.Reads.{reads_input, IfFileRefused, IfFirstRefused, IfRefused, CountsLoads, LoadsFront, Shape}
use Rattle.command_table.specs.Refusals.{no_file, input_too_long}
use Rattle.command_table.specs.Scripts.{Reading, Means, MeansNet}
use Rattle.command_table.specs.Sessions.{closed_by}
use Rattle.command_table.specs.Table.{Text, Command, create, edit, show, merge, upgrade, undo, make, net, Line, does, serves, Reply, refuses, ReadingOf, MeansTo, reply_to, create_reply, make_reply, merge_reply, show_reply, undo_reply, upgrade_reply, over_both, over_events, opened_as, open_file}
use Rattle.peer_definitions.specs.Making.{made}
use Rattle.opened_files.specs.declared.reply.Reply as code
use Rattle.opened_files.specs.declared.reply.Reply.TheVariants as reply_is
use Rattle.opened_files.specs.Views.{IsTakenReply, LoadsAll, LoadsDone, FailedLoadsBy, ReadsNone, ShelfCauses, reply_status, reply_view}
use Rattle.opened_files.proofs.Reading.{if_refused}
use Rattle.line_plans.specs.Sources as line
use Rattle.line_plans.specs.Sources.{KeepsInput, PlansBy}
use Rattle.serve_plans.specs.Plans as session
use Rattle.serve_plans.specs.Plans.{FollowsSession, KeepsStreams, Serves}
use Rattle.serve_plans.proofs.Answers.{grows_none}
use Rattle.command_runs.specs.Lines.{IsNotOfSink, IsReplyOf, MakesBy, MayPlan, PlansAlone, PlansKnown, PlansSome, ReadsAll, ReadsFor}

-- ---- a command that reads no input

-- a plan in which the input has no part
pub plans_alone : (reply : Files → Reply) (files : Option Files) (result : Result code.Reply Fault) → IfSome files (λ m. IfOk result (λ p. reply_view p ≡ reply m)) → PlansAlone {Reading = Reading} (λ m _ _. reply m) files result
plans_alone reply (Some m) (Ok p) is = λ input reading. is
plans_alone reply (Some m) (Err e) is = tt
plans_alone reply None (Ok p) is = tt
plans_alone reply None (Err e) is = tt

-- a plan that is right over any input is right over this one
pub plans_by : {Reading : Type 0} (Means : List ℕ → Reading → Type 0) (reply : Files → List ℕ → Reading → Reply) (files : Option Files) (left : Option (List ℕ)) (result : Result code.Reply Fault) → PlansAlone reply files result → PlansBy Means reply files left result
plans_by Means reply (Some m) (Some input) (Ok p) is = λ reading means. is input reading
plans_by Means reply (Some m) (Some input) (Err e) is = tt
plans_by Means reply (Some m) None result is = tt
plans_by Means reply None left result is = tt

-- what moved a count of the shelf alone
pub causes_of_shelf : (before now source source' : ℕ) (result : Result code.Reply Fault) → source' ≡ source → ShelfCauses before now result → line.Causes before now source source' result
causes_of_shelf before now source source' (Ok p) same cause = (cause, same)
causes_of_shelf before now source source' (Err fault_is.Shelf) same cause = (cause, same)
causes_of_shelf before now source source' (Err fault_is.Source) same cause = absurd cause
causes_of_shelf before now source source' (Err fault_is.Sink) same cause = absurd cause
causes_of_shelf before now source source' (Err fault_is.OutOfMemory) same cause = (cause, same)

-- a reply that is one of a command's
pub may_plan : (command : Command) (limits : LimitNumbers) (result : Result code.Reply Fault) → IfOk result (λ p. MayReplyTo command limits (reply_view p)) → MayPlan command limits result
may_plan command limits (Ok p) some = some
may_plan command limits (Err e) some = tt

-- where the first of these files is refused, and anywhere
pub first_refused : (names : List Text) (limits : LimitNumbers) (m : Files) (holds : Type 0) → holds → IfFirstRefused names limits m holds
first_refused [] limits m holds h = tt
first_refused (name ∷ names) limits m holds h = if_refused (open_file name limits m) holds h

pub file_refused : (shape : Shape) (limits : LimitNumbers) (files : Option Files) (holds : Type 0) → holds → IfSome files (λ m. IfFileRefused shape limits m holds)
file_refused shape limits (Some m) holds h = λ needs. first_refused shape.files limits m holds h
file_refused shape limits None holds h = tt

-- nothing was read
pub reads_same : (input : SourceSeen) (result : Result code.Reply Fault) → ReadsNone input input result
reads_same input (Ok p) = λ bad. refl
reads_same input (Err e) = tt

-- ---- the one file of a line that loads one

pub one_all : (name : Text) (before now : ℕ) (result : Result code.Reply Fault) → now ≡ next before → LoadsAll (name ∷ []) before now result
one_all name before now (Ok (reply_is.Prints out)) one = one
one_all name before now (Ok (reply_is.Stores out to bytes)) one = one
one_all name before now (Ok (reply_is.Refuses why)) one = tt
one_all name before now (Err fault_is.Shelf) one = tt
one_all name before now (Err fault_is.Source) one = one
one_all name before now (Err fault_is.Sink) one = one
one_all name before now (Err fault_is.OutOfMemory) one = tt

-- of a command that reaches the shelf alone
pub all_of_shelf : (names : List Text) (before now faults faults' : ℕ) (result : Result code.Reply Fault) → ShelfCauses faults faults' result
    → IfOk result (LoadsDone names before now) → LoadsAll names before now result
all_of_shelf names before now faults faults' (Ok p) cause done = done
all_of_shelf names before now faults faults' (Err fault_is.Shelf) cause done = tt
all_of_shelf names before now faults faults' (Err fault_is.Source) cause done = absurd cause
all_of_shelf names before now faults faults' (Err fault_is.Sink) cause done = absurd cause
all_of_shelf names before now faults faults' (Err fault_is.OutOfMemory) cause done = tt

pub asks_most : (most before now : ℕ) → Asks most before now → AsksAtMost most before now
asks_most most before now asks = omega (arith, asks)

-- a file that is to be made, and a line that makes none
pub made_file : (before now : ℕ) (result : Result code.Reply Fault) → IfOk result (λ p. reply_status p ≡ 3 → now ≡ before) → IfOk result (λ p. reply_status p ≡ 0 → Rose before now)
    → MakesBy true before now result
made_file before now (Ok p) there absent = λ makes. (there, absent)
made_file before now (Err e) there absent = tt

pub none_made : (before now : ℕ) (result : Result code.Reply Fault) → MakesBy false before now result
none_made before now (Ok p) = λ makes. absurd (false≢true makes)
none_made before now (Err e) = tt

pub one_front : (name : Text) (before now : ℕ) → now ≡ next before → LoadsFront (name ∷ []) before now
one_front name before now one = (1, one)

pub loads_one : (name : Text) (limits : LimitNumbers) (files : Option Files) (before now : ℕ) (result : Result code.Reply Fault) → now ≡ next before
    → IfOk result (λ p. CountsLoads (name ∷ []) limits files before now)
loads_one name limits files before now (Ok p) one = one
loads_one name limits files before now (Err e) one = tt

-- where its file is refused
pub one_refused : (name : Text) (limits : LimitNumbers) (files : Option Files) (holds : Type 0) → IfSome files (λ m. IfRefused (open_file name limits m) holds)
    → IfSome files (λ m. true ≡ true → IfRefused (open_file name limits m) holds)
one_refused name limits (Some m) holds h = λ needs. h
one_refused name limits None holds h = tt

-- ---- a line that loads no file

pub plans_any : (reply : Reply) (files : Option Files) (result : Result code.Reply Fault) → IfOk result (λ p. reply_view p ≡ reply) → PlansAlone {Reading = Reading} (λ m _ _. reply) files result
plans_any reply (Some m) (Ok p) is = λ input reading. is
plans_any reply (Some m) (Err e) is = tt
plans_any reply None (Ok p) is = tt
plans_any reply None (Err e) is = tt

pub none_refused : (limits : LimitNumbers) (files : Option Files) (holds : Type 0) → IfSome files (λ m. false ≡ true → IfFirstRefused [] limits m holds)
none_refused limits (Some m) holds = λ needs. tt
none_refused limits None holds = tt

-- what stops because memory ran out alone moves no count of the shelf
pub no_causes : (n : ℕ) (result : Result code.Reply Fault) → IfErr result (λ fault. fault ≡ fault_is.OutOfMemory) → ShelfCauses n n result
no_causes n (Ok p) h = refl
no_causes n (Err e) h = subst (λ fault. ShelfCauses {T = code.Reply} n n (Err fault)) (sym h) refl

pub none_failed_loads : (n : ℕ) (result : Result code.Reply Fault) → IfErr result (λ fault. fault ≡ fault_is.OutOfMemory) → FailedLoadsBy n n result
none_failed_loads n (Ok p) h = refl
none_failed_loads n (Err e) h = subst (λ fault. FailedLoadsBy {T = code.Reply} n n (Err fault)) (sym h) refl

pub none_all : (n : ℕ) (result : Result code.Reply Fault) → LoadsAll [] n n result
none_all n (Ok (reply_is.Prints out)) = refl
none_all n (Ok (reply_is.Stores out to bytes)) = refl
none_all n (Ok (reply_is.Refuses why)) = tt
none_all n (Err fault_is.Shelf) = tt
none_all n (Err fault_is.Source) = refl
none_all n (Err fault_is.Sink) = refl
none_all n (Err fault_is.OutOfMemory) = tt

pub asks_none : (most n : ℕ) → AsksAtMost most n n
asks_none most n = omega arith

pub no_front : (n : ℕ) → LoadsFront [] n n
no_front n = (0, refl)

pub loads_none : (limits : LimitNumbers) (files : Option Files) (n : ℕ) (result : Result code.Reply Fault) → IfOk result (λ p. CountsLoads [] limits files n n)
loads_none limits files n (Ok p) = refl
loads_none limits files n (Err e) = tt

-- ---- a command that reads the input alone

pub plans_read : {Reading : Type 0} (Means : List ℕ → Reading → Type 0) (reply : List ℕ → Reading → Reply) (files : Option Files) (left : Option (List ℕ)) (result : Result code.Reply Fault)
    → IfSome left (λ xs. IfOk result (λ p. (reading : Reading) → Means xs reading → reply_view p ≡ reply xs reading)) → PlansBy Means (λ m xs reading. reply xs reading) files left result
plans_read Means reply (Some m) (Some input) (Ok p) plans = plans
plans_read Means reply (Some m) (Some input) (Err e) plans = tt
plans_read Means reply (Some m) None result plans = tt
plans_read Means reply None left result plans = tt

-- ---- a command as a session that is sent nothing

-- the reply closes it
pub closes_silent : (out : Option (List ℕ)) (flushed : Option ℕ) (reply : Reply) (result : Result code.Reply Fault) → IfOk result (λ p. reply_view p ≡ reply)
    → FollowsSession (closed_by reply) out out flushed result
closes_silent out flushed reply (Ok p) is = (is, (Appends-nil out, inl refl))
closes_silent out flushed reply (Err e) is = grows_none out []

by_alone : {Reading : Type 0} (reply : Files → List ℕ → Reading → Reply) (files : Option Files) (m : Files) (bytes : List ℕ) (reading : Reading) (result : Result code.Reply Fault)
    → files ≡ Some m → PlansAlone reply files result → IfOk result (λ p. reply_view p ≡ reply m bytes reading)
by_alone reply files m bytes reading result at plans = known result (subst (λ x. PlansAlone reply x result) at plans)
  where
    known : (r : Result code.Reply Fault) → PlansAlone reply (Some m) r → IfOk r (λ p. reply_view p ≡ reply m bytes reading)
    known (Ok p) h = h bytes reading
    known (Err e) h = tt

by_input : {Reading : Type 0} (Means : List ℕ → Reading → Type 0) (reply : Files → List ℕ → Reading → Reply) (files : Option Files) (left : Option (List ℕ)) (m : Files) (bytes : List ℕ) (reading : Reading)
    (result : Result code.Reply Fault) → files ≡ Some m → left ≡ Some bytes → Means bytes reading → PlansBy Means reply files left result
    → IfOk result (λ p. reply_view p ≡ reply m bytes reading)
by_input Means reply files left m bytes reading result at here means plans =
    known result (subst (λ x. PlansBy Means reply (Some m) x result) here (subst (λ x. PlansBy Means reply x left result) at plans))
  where
    known : (r : Result code.Reply Fault) → PlansBy Means reply (Some m) (Some bytes) r → IfOk r (λ p. reply_view p ≡ reply m bytes reading)
    known (Ok p) h = h reading means
    known (Err e) h = tt

command_replies : (command : Command) (limits : LimitNumbers) (files : Option Files) (left : Option (List ℕ)) (result : Result code.Reply Fault)
    → PlansBy (MeansTo command) (reply_to command limits) files left result
    → (reads_input (Some (does command)) ≡ false → PlansAlone (reply_to command limits) files result)
    → (m : Files) (bytes : List ℕ) (reading : ReadingOf command) → files ≡ Some m → IsInput limits (Some (does command)) left bytes reading
    → IfOk result (λ p. reply_view p ≡ reply_to command limits m bytes reading)
command_replies (create name) limits files left result told alone m bytes reading at input = by_alone (reply_to (create name) limits) files m bytes reading result at (alone refl)
command_replies (edit name agent) limits files left result told alone m bytes reading at input =
    by_input Means (reply_to (edit name agent) limits) files left m bytes reading result at (input refl).0 (input refl).1 told
command_replies (show listing name) limits files left result told alone m bytes reading at input = by_alone (reply_to (show listing name) limits) files m bytes reading result at (alone refl)
command_replies (merge name other) limits files left result told alone m bytes reading at input = by_alone (reply_to (merge name other) limits) files m bytes reading result at (alone refl)
command_replies (upgrade name) limits files left result told alone m bytes reading at input = by_alone (reply_to (upgrade name) limits) files m bytes reading result at (alone refl)
command_replies (undo name agent first count) limits files left result told alone m bytes reading at input =
    by_alone (reply_to (undo name agent first count) limits) files m bytes reading result at (alone refl)
command_replies (make seed count) limits files left result told alone m bytes reading at input = by_alone (reply_to (make seed count) limits) files m bytes reading result at (alone refl)
command_replies net limits files left result told alone m bytes reading at input =
    by_input MeansNet (reply_to net limits) files left m bytes reading result at (input refl).0 (input refl).1 told

pub command_known : (command : Command) (limits : LimitNumbers) (shelf : ShelfSeen) (journal : Option (List ℕ)) (input : SourceSeen) (out : SinkSeen) (result : Result code.Reply Fault)
    → PlansBy (MeansTo command) (reply_to command limits) shelf.files input.left result
    → (reads_input (Some (does command)) ≡ false → PlansAlone (reply_to command limits) shelf.files result)
    → PlansKnown (Some (does command)) limits shelf journal input out out result
command_known command limits shelf journal input out result told alone = λ m j bytes reading at known means.
    closes_silent out.taken out.flushed (reply_to command limits m bytes reading) result
    (command_replies command limits shelf.files input.left result told alone m bytes reading at means)

-- each command has a reply that it may answer
a_reply : (command : Command) (limits : LimitNumbers) → (reply : Reply) × MayReplyTo command limits reply
a_reply (create name) limits = (create_reply name missing, (missing, refl, tt))
a_reply (edit name agent) limits = (refuses (no_file name), (missing, refl, tt))
a_reply (show listing name) limits = (over_events (show_reply listing) (opened_as name limits missing), (missing, refl, tt))
a_reply (merge name other) limits = (over_both (merge_reply name limits) (opened_as name limits missing) (opened_as other limits missing), (missing, missing, refl, tt, tt))
a_reply (upgrade name) limits = (upgrade_reply name limits missing, (missing, refl, tt))
a_reply (undo name agent first count) limits = (over_events (undo_reply name agent first count limits) (opened_as name limits missing), (missing, refl, tt))
a_reply (make seed count) limits = (make_reply limits (made limits seed count), refl)
a_reply net limits = (refuses (input_too_long limits.input), inl refl)

pub command_some : (command : Command) (limits : LimitNumbers) (out : SinkSeen) (result : Result code.Reply Fault) → MayPlan command limits result
    → PlansSome (Some (does command)) limits out out result
command_some command limits out (Ok p) may = (closed_by (reply_view p), (reply_view p, may, refl), (refl, (Appends-nil out.taken, inl refl)))
command_some command limits out (Err e) may = let r = a_reply command limits in (closed_by r.0, (r.0, r.1, refl), grows_none out.taken [])

pub not_of_sink : (before now source source' : ℕ) (result : Result code.Reply Fault) → line.Causes before now source source' result → IsNotOfSink result
not_of_sink before now source source' (Ok p) cause = tt
not_of_sink before now source source' (Err fault_is.Shelf) cause = tt
not_of_sink before now source source' (Err fault_is.Source) cause = tt
not_of_sink before now source source' (Err fault_is.Sink) cause = cause
not_of_sink before now source source' (Err fault_is.OutOfMemory) cause = tt

pub taken_line : (l : Line) (result : Result code.Reply Fault) → IfOk result IsTakenReply → IsReplyOf (Some l) result
taken_line l (Ok p) h = h
taken_line l (Err e) h = tt

pub command_reads : (command : Command) (limits : LimitNumbers) (old new : SourceSeen) (result : Result code.Reply Fault)
    → ReadsFor (reads_input (Some (does command))) old.left new.left result → ReadsAll (Some (does command)) limits old new result
command_reads command limits old new (Err e) h = tt
command_reads command limits old new (Ok p) h = λ zero input left ends.
    let all : line.ReadsAll old.left new.left (Ok p) = subst (λ b. ReadsFor b old.left new.left (Ok p)) ends h in
    let told : line.ReadsAll (Some input) new.left (Ok p) = subst (λ x. line.ReadsAll x new.left (Ok p)) left all in
    told zero

pub command_causes : (before now source source' sink : ℕ) (result : Result code.Reply Fault) → line.Causes before now source source' result
    → session.Causes before now source source' sink sink result
command_causes before now source source' sink (Ok p) cause = (cause.0, cause.1, refl)
command_causes before now source source' sink (Err fault_is.Shelf) cause = (cause.0, cause.1, refl)
command_causes before now source source' sink (Err fault_is.Source) cause = (cause.0, cause.1, refl)
command_causes before now source source' sink (Err fault_is.Sink) cause = absurd cause
command_causes before now source source' sink (Err fault_is.OutOfMemory) cause = (cause.0, cause.1, refl)

pub command_keeps : (input input' : SourceSeen) (out : Option (List ℕ)) (result : Result code.Reply Fault) → KeepsInput input input' result → KeepsStreams input input' out out result
command_keeps input input' out (Ok p) kept = tt
command_keeps input input' out (Err fault_is.Shelf) kept = (kept, refl)
command_keeps input input' out (Err fault_is.Source) kept = tt
command_keeps input input' out (Err fault_is.Sink) kept = tt
command_keeps input input' out (Err fault_is.OutOfMemory) kept = tt

-- ---- a session

pub session_known : (file : Text) (limits : LimitNumbers) (shelf : ShelfSeen) (journal : Option (List ℕ)) (input : SourceSeen) (out out' : SinkSeen) (result : Result code.Reply Fault)
    → Serves file limits shelf.files input.left out.taken out'.taken out'.flushed result → PlansKnown (Some (serves file)) limits shelf journal input out out' result
session_known file limits shelf journal input out out' result told = λ m j bytes framing at known means.
    let first : Serves file limits (Some m) input.left out.taken out'.taken out'.flushed result =
    subst (λ x. Serves file limits x input.left out.taken out'.taken out'.flushed result) at told in
    let second : Serves file limits (Some m) (Some bytes) out.taken out'.taken out'.flushed result =
    subst (λ x. Serves file limits (Some m) x out.taken out'.taken out'.flushed result) (means refl).0 first in
    second framing (means refl).1

pub session_reads : (file : Text) (limits : LimitNumbers) (old new : SourceSeen) (result : Result code.Reply Fault) → session.ReadsAll limits old.left new.left result
    → ReadsAll (Some (serves file)) limits old new result
session_reads file limits old new (Err e) h = tt
session_reads file limits old new (Ok p) h = λ zero input left ends.
    let told : session.ReadsAll limits (Some input) new.left (Ok p) = subst (λ x. session.ReadsAll limits x new.left (Ok p)) left h in
    told zero ends.0 ends.1 ends.2
