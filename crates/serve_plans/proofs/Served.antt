-- From what a session came to, to what the table says of it.
use Rattle.std.proofs.Common.{◌≡◌, ℕ, suc, ◌+◌, ◌-◌, ◌≤◌, ◌⊎◌, zero, List, [], ◌∷◌, ◌++◌, length, take, Option, None, Some, IfSome, Result, Ok, Err, refl, sym, ap, subst, ◌∙◌, append_assoc, append-nil, length-append, zero-add, arith}
use Rattle.std.specs.Io.KnownBytes.{Consumes}
use Rattle.std.specs.Result.{IsErrAnd}
use Rattle.ew_model.specs.declared.event.Event.{Event}
use Rattle.ew_model.specs.Bytes.{AreBytes}
use Rattle.ew_model.specs.Kept.{ReplicaState}
use Rattle.ew_model.specs.Limits.{LimitNumbers}
use Rattle.ew_outside.specs.Bytes.{IsFlushed}
use Rattle.ew_outside.specs.Files.{Files}
use Rattle.peer_definitions.specs.declared.end.End.{End}
use Rattle.peer_definitions.specs.declared.end.End.TheVariants as end
use Rattle.ew_outside.specs.Outputs.{GrowsByFront}
use Rattle.command_table.specs.Framings.{BeginWith, Framing, IsFramingOf}
use Rattle.command_table.specs.Sessions.{Exchange, exchanged, opened_state, Session, served_as, served_by, served_from}
use Rattle.command_table.specs.Table.{Text, Reply, opened, open_file}
use Rattle.opened_files.specs.declared.reply.Reply as code
use Rattle.ew_outside.specs.declared.fault.Fault.TheVariants as fault_is
use Rattle.opened_files.specs.Views.{reply_view}
use Rattle.command_table.specs.Possible.{MayOpen, MayServe}
use Rattle.command_table.specs.Reads.{TakesAtMost}
use Rattle.opened_files.proofs.Reading.{takes_few}
use Rattle.ew_outside.specs.declared.fault.Fault.{Fault}
use Rattle.serve_plans.specs.declared.closing.Closing.{Closing}
use Rattle.serve_plans.specs.declared.closing.Closing.TheVariants as closing
use Rattle.serve_plans.specs.Plans.{ClosesAs, FollowsSession, Serves, MayPlan}
use Rattle.serve_plans.specs.Serving.{sent_by, Closes, Closed, Broken, ReadsTo, MayBeRead, TakesFew, Talks, PlansTalk}
use Rattle.serve_plans.proofs.Cutting.{begins_goes_on, begins_more, bytes_are_cut, bytes_join}
use Rattle.serve_plans.proofs.Talks.{IsFrontOf, sent_is_front}
use Rattle.serve_plans.proofs.Speaking.{any_flushed, broken_here, closed_broken, front_grows}
use Rattle.serve_plans.proofs.Closings.{IsBehind, IsServedAs, closes_served, cut_of, take_none}

-- a replica of these limits in which nothing waits
pub fresh_state : (limits : LimitNumbers) (r : ReplicaState) → r.limits ≡ limits → r.waiting ≡ [] → r ≡ opened_state limits r.held
fresh_state limits r same none = ap (λ l. record { limits = l; held = r.held; waiting = r.waiting }) same
    ∙ ap (λ w. record { limits = limits; held = r.held; waiting = w }) none

-- ---- what stands behind what was read

pub record AreBehind (limits : LimitNumbers) (read input : List ℕ) (c : Closing) : Type 0 where
  pub more : List ℕ
  pub whole : input ≡ read ++ more
  pub behind : IsBehind limits read more c

pub behind_read : (limits : LimitNumbers) (read input : List ℕ) (left : Option (List ℕ)) (c : Closing) → ReadsTo limits read (Some input) left c
    → AreBehind limits read input c
behind_read limits read input (Some rest) closing.End h = record { more = rest; whole = h.0; behind = h.1 }
behind_read limits read input None closing.End h = absurd h.0
behind_read limits read input (Some rest) (closing.CutFrame n) h = record { more = rest; whole = h.0; behind = h.1 }
behind_read limits read input None (closing.CutFrame n) h = absurd h.0
behind_read limits read input (Some rest) closing.TooLong h =
    record { more = h.1.0 ∷ rest; whole = h.1.1 ∙ append_assoc read (h.1.0 ∷ []) rest; behind = (h.0, omega arith) }
behind_read limits read input None closing.TooLong h = absurd h.1.1
behind_read limits read input (Some rest) (closing.Bye bs) h = record { more = rest; whole = h; behind = tt }
behind_read limits read input None (closing.Bye bs) h = absurd h
behind_read limits read input (Some rest) (closing.Clash x) h = record { more = rest; whole = h; behind = tt }
behind_read limits read input None (closing.Clash x) h = absurd h
behind_read limits read input (Some rest) (closing.BadFrame n why) h = record { more = rest; whole = h; behind = tt }
behind_read limits read input None (closing.BadFrame n why) h = absurd h

zero_byte : AreBytes (0 ∷ [])
zero_byte zero = omega arith
zero_byte (suc i) = omega arith

-- an input that would be answered so
pub record MayStand (limits : LimitNumbers) (read : List ℕ) (c : Closing) : Type 0 where
  pub more : List ℕ
  pub fits : AreBytes more
  pub behind : IsBehind limits read more c
  pub none : take (limits.input - length read) more ≡ []

pub may_stand : (limits : LimitNumbers) (read : List ℕ) (left left' : Option (List ℕ)) (c : Closing) → ReadsTo limits read left left' c → MayStand limits read c
may_stand limits read left left' closing.End h = record { more = []; fits = λ i. omega arith; behind = refl; none = take_none (limits.input - length read) [] refl }
may_stand limits read left left' (closing.CutFrame n) h =
    record { more = []; fits = λ i. omega arith; behind = refl; none = take_none (limits.input - length read) [] refl }
may_stand limits read left left' closing.TooLong h =
    let full : limits.input - length read ≡ 0 = omega (arith, h.0) in
    record { more = 0 ∷ []; fits = zero_byte; behind = (h.0, omega arith); none = ap (λ k. take k (0 ∷ [])) full }
may_stand limits read left left' (closing.Bye bs) h = record { more = []; fits = λ i. omega arith; behind = tt; none = take_none (limits.input - length read) [] refl }
may_stand limits read left left' (closing.Clash x) h = record { more = []; fits = λ i. omega arith; behind = tt; none = take_none (limits.input - length read) [] refl }
may_stand limits read left left' (closing.BadFrame n why) h =
    record { more = []; fits = λ i. omega arith; behind = tt; none = take_none (limits.input - length read) [] refl }

cut_here : (limits : LimitNumbers) (read more : List ℕ) → MayBeRead limits read → take (limits.input - length read) more ≡ []
    → (x : Framing) × IsFramingOf limits (read ++ more) x
cut_here limits read more may none =
    let a = bytes_are_cut limits read may.fits in
    let whole : take limits.input (read ++ more) ≡ read = cut_of limits.input read more may.short ∙ ap (λ l. read ++ l) none ∙ append-nil read in (
      record { frames = a.frames; rest = a.rest; stop = a.stop },
      record
          { begins = subst (λ bs. BeginWith limits bs a.frames a.rest) (sym whole) a.begins; found = a.found; none = a.none },
    )

-- ---- what was sent

sent_served : (name : Text) (limits : LimitNumbers) (input : List ℕ) (x : Framing) (before : ℕ) (t : Exchange) (e : Option End)
    → (served_by name limits input x before t e).sent ≡ sent_by t e
sent_served name limits input x before t None = refl
sent_served name limits input x before t (Some end.Bye) = refl
sent_served name limits input x before t (Some (end.Clash y)) = refl

-- a session that was broken off sent a front of what the table sends
pub broken_served : (name : Text) (limits : LimitNumbers) (events : List Event) (read more : List ℕ) (out out' : Option (List ℕ)) (x : Framing)
    → length read ≤ limits.input → IsFramingOf limits (read ++ more) x
    → Broken limits (opened_state limits events) read out out' → GrowsByFront out out' (served_from name limits (read ++ more) x events).sent
broken_served name limits events read more out out' x short cut h =
    let start = opened_state limits events in
    let left = take (limits.input - length read) more in
    let begins = subst (λ bs. BeginWith limits bs h.frames (h.rest ++ left)) (sym (cut_of limits.input read more short))
    (begins_more limits read left h.frames h.rest h.begins) in
    let goes = begins_goes_on limits (take limits.input (read ++ more)) h.frames x.frames (h.rest ++ left) x.rest x.stop begins cut.begins cut.found cut.none in
    let whole = exchanged start x.frames in
    let front = subst (λ fs. IsFrontOf (sent_by (exchanged start h.frames) (exchanged start h.frames).end)
    (sent_by (exchanged start fs) (exchanged start fs).end)) (sym goes.whole) (sent_is_front start h.frames goes.more) in
    subst (GrowsByFront out out') (sym (sent_served name limits (read ++ more) x (length events) whole whole.end)) (front_grows out out' _ _ h.breaks front)

-- ---- what the table says

-- some input may have been answered so
pub record MayHave (name : Text) (limits : LimitNumbers) (events : List Event) (out out' : Option (List ℕ)) (flushed : Option ℕ) (reply : Reply) : Type 0 where
  pub input : List ℕ
  pub fits : AreBytes input
  pub cut : Framing
  pub is_cut : IsFramingOf limits input cut
  pub served : IsServedAs (served_from name limits input cut events) out out' flushed reply

module _ (name : Text) (limits : LimitNumbers) (start : ReplicaState) (fresh : start ≡ opened_state limits start.held) (left left' out out' : Option (List ℕ))
    (flushed flushed' : Option ℕ) where
  -- a session that is closed, over an input that begins with what was read
  closed_served : (now : ReplicaState) (read more : List ℕ) (c : Closing) (reply : Reply) (x : Framing) → MayBeRead limits read → IsBehind limits read more c
      → Closed limits start now read out out' flushed flushed' 0 c
      → ClosesAs name limits (length start.held) now.held c reply → IsFramingOf limits (read ++ more) x
      → IsServedAs (served_from name limits (read ++ more) x start.held) out out' flushed' reply
  closed_served now read more c reply x may behind h told cut =
      let flush = subst (λ r. (sent_by (exchanged r h.frames) (exchanged r h.frames).end ≡ []) ⊎ IsFlushed out' flushed') fresh
      (any_flushed _ out out' flushed flushed' h.flush) in
      closes_served name limits start.held now read more x h.frames h.rest out out' flushed' reply cut may.short h.begins flush c behind
      (subst (λ r. Closes limits (exchanged r h.frames) (length h.frames) now h.rest out out' c) fresh
      (subst (λ n. Closes limits (exchanged start h.frames) n now h.rest out out' c) (zero-add (length h.frames)) h.closes)) told

  -- the same of an input that is told
  closed_told : (now : ReplicaState) (input : List ℕ) (c : Closing) (reply : Reply) (x : Framing)
      → Talks limits start now (Some input) left' out out' flushed flushed' (Ok c)
      → ClosesAs name limits (length start.held) now.held c reply → IsFramingOf limits input x
      → IsServedAs (served_from name limits input x start.held) out out' flushed' reply
  closed_told now input c reply x h told cut =
      let b = behind_read limits h.0 input left' c h.2 in
      subst (λ xs. IsServedAs (served_from name limits xs x start.held) out out' flushed' reply) (sym b.whole)
      (closed_served now h.0 b.more c reply x h.1 b.behind h.3 told (subst (λ xs. IsFramingOf limits xs x) b.whole cut))

  pub closed_some : (now : ReplicaState) (c : Closing) (reply : Reply) → Talks limits start now left left' out out' flushed flushed' (Ok c)
      → ClosesAs name limits (length start.held) now.held c reply → MayHave name limits start.held out out' flushed' reply
  closed_some now c reply h told =
      let s = may_stand limits h.0 left left' c h.2 in
      let x = cut_here limits h.0 s.more h.1 s.none in
      record {
        input = h.0 ++ s.more;
        fits = bytes_join h.0 s.more h.1.fits s.fits;
        cut = x.0;
        is_cut = x.1;
        served =
            closed_served now h.0 s.more c reply x.0 h.1 s.behind h.3 told x.1;
      }

  -- what was read of an input that is told, and more
  few_whole : (read input : List ℕ) (rest : Option (List ℕ)) → TakesFew limits read (Some input) rest → (more : List ℕ) × (input ≡ read ++ more)
  few_whole read input (Some rest) h =
      let more = h.3.0 in
      (more ++ rest, h.2 ∙ ap (λ l. l ++ rest) h.3.1 ∙ append_assoc read more rest)
  few_whole read input None h = absurd h.2

  read_whole : (read input : List ℕ) (rest : Option (List ℕ)) → Consumes (Some input) rest read → (more : List ℕ) × (input ≡ read ++ more)
  read_whole read input (Some rest) h = (rest, h)
  read_whole read input None h = absurd h

  broken_told : (read input : List ℕ) (x : Framing) → (more : List ℕ) × (input ≡ read ++ more) → MayBeRead limits read → Broken limits start read out out'
      → IsFramingOf limits input x
      → GrowsByFront out out' (served_from name limits input x start.held).sent
  broken_told read input x whole may h cut =
      subst (λ xs. GrowsByFront out out' (served_from name limits xs x start.held).sent) (sym whole.1)
      (broken_served name limits start.held read whole.0 out out' x may.short (subst (λ xs. IsFramingOf limits xs x) whole.1 cut)
      (subst (λ r. Broken limits r read out out') fresh h))

  -- the same of one that was broken off
  halted_told : (now : ReplicaState) (input : List ℕ) (halt : Fault) (x : Framing)
      → Talks limits start now (Some input) left' out out' flushed flushed' (Err halt) → IsFramingOf limits input x
      → GrowsByFront out out' (served_from name limits input x start.held).sent
  halted_told now input fault_is.Source x h cut =
      let s = h.3.2 in
      broken_told h.0 input x (read_whole h.0 input left' h.2) h.1 (broken_here limits start now h.0 h.3.0 out out' flushed flushed' 0 h.3.1 s) cut
  halted_told now input fault_is.Shelf x h cut = broken_told h.0 input x (few_whole h.0 input left' h.2) h.1 h.3 cut
  halted_told now input fault_is.OutOfMemory x h cut = broken_told h.0 input x (few_whole h.0 input left' h.2) h.1 h.3 cut
  halted_told now input fault_is.Sink x h cut = broken_told h.0 input x (few_whole h.0 input left' h.2) h.1 h.3 cut

  -- what `serve` promises where files and input are told
  pub serves_told : (files : Option Files) (r : Result code.Reply Fault) → IfSome files (λ m. opened start.held ≡ open_file name limits m)
      → PlansTalk name limits start left left' out out' flushed flushed' r
      → Serves name limits files left out out' flushed' r
  serves_told files r file h = serves files left r file h
    where
      serves : (fs : Option Files) (l : Option (List ℕ)) (res : Result code.Reply Fault) → IfSome fs (λ m. opened start.held ≡ open_file name limits m)
          → PlansTalk name limits start l left' out out' flushed flushed' res → Serves name limits fs l out out' flushed' res
      serves (Some m) (Some input) (Ok p) is t = λ x cut.
          let s = closed_told t.0 input t.1 (reply_view p) x t.2 t.3 cut in
          subst (λ o. FollowsSession (served_as name limits input x o) out out' flushed' (Ok p)) is (s.closing, s.sends)
      serves (Some m) (Some input) (Err halt) is t =
          λ x cut. subst (λ o. GrowsByFront out out' (served_as name limits input x o).sent) is (halted_told t.0 input halt x t.1 cut)
      serves (Some m) None res is t = tt
      serves None l res is t = tt

  -- ---- over some file and input

  may_serve : (input : List ℕ) (x : Framing) → AreBytes input → IsFramingOf limits input x → MayOpen name limits (opened start.held)
      → MayServe name limits (served_from name limits input x start.held)
  may_serve input x fits cut file = (file.0, input, x, fits, cut, ap (served_as name limits input x) file.1, file.2)

  halted_some : (read : List ℕ) → MayBeRead limits read → Broken limits start read out out' → MayOpen name limits (opened start.held)
      → (s : Session) × MayServe name limits s × GrowsByFront out out' s.sent
  halted_some read may h file =
      let x = cut_here limits read [] may (take_none (limits.input - length read) [] refl) in (
        served_from name limits (read ++ []) x.0 start.held,
        may_serve (read ++ []) x.0 (bytes_join read [] may.fits (λ i. omega arith)) x.1 file,
        broken_served name limits start.held read [] out out' x.0 may.short x.1 (subst (λ r. Broken limits r read out out') fresh h),
      )

  pub plans_some : (r : Result code.Reply Fault) → MayOpen name limits (opened start.held) → PlansTalk name limits start left left' out out' flushed flushed' r
      → MayPlan name limits out out' flushed' r
  plans_some (Ok p) file t =
      let m = closed_some t.0 t.1 (reply_view p) t.2 t.3 in
      (served_from name limits m.input m.cut start.held, may_serve m.input m.cut m.fits m.is_cut file, (m.served.closing, m.served.sends))
  plans_some (Err fault_is.Source) file t =
      let h = t.1 in
      halted_some h.0 h.1 (broken_here limits start t.0 h.0 h.3.0 out out' flushed flushed' 0 h.3.1 h.3.2) file
  plans_some (Err fault_is.Shelf) file t = halted_some t.1.0 t.1.1 t.1.3 file
  plans_some (Err fault_is.OutOfMemory) file t = halted_some t.1.0 t.1.1 t.1.3 file
  plans_some (Err fault_is.Sink) file t = halted_some t.1.0 t.1.1 t.1.3 file

-- ---- how much was read

taken_few : (limits : LimitNumbers) (read : List ℕ) (left left' : Option (List ℕ)) (c : Closing) → length read ≤ limits.input
    → ReadsTo limits read left left' c → TakesAtMost (limits.input + 1) left left'
taken_few limits read left left' closing.End short h = takes_few (limits.input + 1) left left' read h.0 (omega (arith, short))
taken_few limits read left left' (closing.CutFrame n) short h = takes_few (limits.input + 1) left left' read h.0 (omega (arith, short))
taken_few limits read left left' closing.TooLong short h =
    takes_few (limits.input + 1) left left' (read ++ h.1.0 ∷ []) h.1.1 (omega (arith, short, length-append read (h.1.0 ∷ [])))
taken_few limits read left left' (closing.Bye bs) short h = takes_few (limits.input + 1) left left' read h (omega (arith, short))
taken_few limits read left left' (closing.Clash x) short h = takes_few (limits.input + 1) left left' read h (omega (arith, short))
taken_few limits read left left' (closing.BadFrame n why) short h = takes_few (limits.input + 1) left left' read h (omega (arith, short))

-- no more than one byte behind the limit was taken
pub talk_takes : (name : Text) (limits : LimitNumbers) (start : ReplicaState) (left left' out out' : Option (List ℕ)) (flushed flushed' : Option ℕ)
    (r : Result code.Reply Fault) → PlansTalk name limits start left left' out out' flushed flushed' r
    → TakesAtMost (limits.input + 1) left left'
talk_takes name limits start left left' out out' flushed flushed' (Ok p) h = taken_few limits h.2.0 left left' h.1 h.2.1.short h.2.2
talk_takes name limits start left left' out out' flushed flushed' (Err fault_is.Source) h =
    takes_few (limits.input + 1) left left' h.1.0 h.1.2 (omega (arith, h.1.1.short))
talk_takes name limits start left left' out out' flushed flushed' (Err fault_is.Shelf) h = takes_few (limits.input + 1) left left' h.1.2.0 h.1.2.2 h.1.2.1
talk_takes name limits start left left' out out' flushed flushed' (Err fault_is.OutOfMemory) h = takes_few (limits.input + 1) left left' h.1.2.0 h.1.2.2 h.1.2.1
talk_takes name limits start left left' out out' flushed flushed' (Err fault_is.Sink) h = takes_few (limits.input + 1) left left' h.1.2.0 h.1.2.2 h.1.2.1

few_of : (limits : LimitNumbers) (read : List ℕ) (left left' : Option (List ℕ)) (c : Closing) → length read ≤ limits.input → ReadsTo limits read left left' c
    → TakesFew limits read left left'
few_of limits read left left' closing.End short h = (read, omega (arith, short), h.0, ([], sym (append-nil read)))
few_of limits read left left' (closing.CutFrame n) short h = (read, omega (arith, short), h.0, ([], sym (append-nil read)))
few_of limits read left left' closing.TooLong short h = (read ++ h.1.0 ∷ [], omega (arith, short, length-append read (h.1.0 ∷ [])), h.1.1, (h.1.0 ∷ [], refl))
few_of limits read left left' (closing.Bye bs) short h = (read, omega (arith, short), h, ([], sym (append-nil read)))
few_of limits read left left' (closing.Clash x) short h = (read, omega (arith, short), h, ([], sym (append-nil read)))
few_of limits read left left' (closing.BadFrame n why) short h = (read, omega (arith, short), h, ([], sym (append-nil read)))

-- a session that was closed, for which there was no memory at last
closed_stopped : (name : Text) (limits : LimitNumbers) (start now : ReplicaState) (left left' out out' : Option (List ℕ)) (flushed flushed' : Option ℕ)
    (c : Closing) → Talks limits start now left left' out out' flushed flushed' (Ok c)
    → PlansTalk name limits start left left' out out' flushed flushed' (Err fault_is.OutOfMemory)
closed_stopped name limits start now left left' out out' flushed flushed' c h =
    (now, (h.0, h.1, few_of limits h.0 left left' c h.1.short h.2, closed_broken limits start now h.0 out out' flushed flushed' 0 c h.3))

pub closed_halted : (name : Text) (limits : LimitNumbers) (start now : ReplicaState) (left left' out out' : Option (List ℕ)) (flushed flushed' : Option ℕ)
    (c : Closing) (r : Result code.Reply Fault) → IsErrAnd r (λ y. y ≡ fault_is.OutOfMemory)
    → Talks limits start now left left' out out' flushed flushed' (Ok c) → PlansTalk name limits start left left' out out' flushed flushed' r
closed_halted name limits start now left left' out out' flushed flushed' c (Ok p) err h = absurd err
closed_halted name limits start now left left' out out' flushed flushed' c (Err y) err h =
    subst (λ z. PlansTalk name limits start left left' out out' flushed flushed' (Err z)) (sym err)
    (closed_stopped name limits start now left left' out out' flushed flushed' c h)
