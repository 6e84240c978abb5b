-- What is known of lines that are kept: of none, of one, and of some before others.
use Rattle.std.proofs.Common.{◌≡◌, ◌≤◌, inl, inr, ℕ, min, List, [], ◌∷◌, ◌++◌, length, drop, Option, Result, Ok, Err, refl, sym, ap, subst, ◌∙◌, append_assoc, append-nil, arith}
use Rattle.std.specs.Io.KnownBytes.{Appends}
use Rattle.std.proofs.KnownBytes.{Appends-nil}
use Rattle.std.proofs.lemmas.List.{drop_all, take_min, take_all, take-append-le}
use Rattle.ew_model.specs.declared.event.Event.{Event}
use Rattle.ew_model.specs.Limits.{LimitNumbers}
use Rattle.ew_outside.specs.Outputs.{GrowsByFront}
use Rattle.ew_outside.specs.Seen.{SinkSeen}
use Rattle.ew_outside.specs.declared.fault.Fault.TheVariants as fault_is
use Rattle.ew_outside.proofs.Outputs.{front_of_all, then_front}
use Rattle.event_journal.specs.Disk.{StaysWithin}
use Rattle.event_journal.specs.Journal.{JournalSeen, Holds, IsKept}
use Rattle.event_journal.proofs.Moments.{joined, wider}
use Rattle.peer_definitions.specs.Pieces.{frame_room, pieces}
use Rattle.command_table.specs.Scripts.{batches_of, told_of}
use Rattle.command_table.specs.Text.{kept_text}
use Rattle.journal_plans.specs.Adding.{Adds, HoldsSome, IsKeptAs, StandsBy, TellsSome}
use Rattle.journal_plans.specs.Keeping.{made_lines, KeepsBy, KeepsLines, Prints, PrintsLines, SendsOn, StopsAt, HoldsLines}
use Rattle.journal_plans.specs.Stops.{KeepCauses}
use Rattle.journal_plans.specs.declared.stop.Stop.{Stop}
use Rattle.journal_plans.specs.declared.stop.Stop.TheVariants as stop
use Rattle.journal_plans.proofs.Adding.{kept_holds, no_moments}
use Rattle.journal_plans.proofs.Joining.{front_behind, front_wider}
use Rattle.journal_plans.proofs.Lines.{batches_joined, holds_behind, holds_wider, sends_then, stops_behind, stops_wider, told_joined}

-- ---- the output

-- nothing was taken
pub same_taken : (old new : Option (List ℕ)) → new ≡ old → Appends old new []
same_taken old new same = subst (λ o. Appends old o []) (sym same) (Appends-nil old)

pub grows_none : (old new : Option (List ℕ)) (bytes : List ℕ) → new ≡ old → GrowsByFront old new bytes
grows_none old new bytes same = (0, same_taken old new same)

pub sends_none : (out out' : SinkSeen) → out'.taken ≡ out.taken → out'.flushed ≡ out.flushed → SendsOn out out' []
sends_none out out' taken flushed = (same_taken out.taken out'.taken taken, inl (refl, taken, flushed))

-- a front of some bytes is one of more
pub grows_wider : (old new : Option (List ℕ)) (xs ys : List ℕ) → GrowsByFront old new xs → GrowsByFront old new (xs ++ ys)
grows_wider old new xs ys (n, h) =
    let within : min n (length xs) ≤ length xs = omega arith in
    (min n (length xs), subst (Appends old new) (sym (take-append-le (min n (length xs)) xs ys within ∙ take_min n xs)) h)

-- ---- none

-- nothing was done
holds_before : (limits : LimitNumbers) (lines before : List (List Event)) (bytes : List ℕ) (out out' : SinkSeen) → Holds limits.body before bytes → out'.taken ≡ out.taken → HoldsLines limits lines before out out' bytes
holds_before limits lines before bytes out out' holds taken = record {
  count = 0;
  few = omega arith;
  holds = subst (λ (bs : List (List Event)). Holds limits.body bs bytes) (sym (append-nil before)) holds;
  whole_lines = 0;
  within = omega arith;
  stand = omega arith;
  printed = grows_none out.taken out'.taken [] taken;
}

kept_front : (limits : LimitNumbers) (journal : JournalSeen) (bytes : List ℕ) (may : List ℕ → Type 0) (batches : List (List Event)) → journal.limits ≡ limits → IsKept journal bytes may batches → Holds limits.body batches bytes
kept_front limits journal bytes may batches same k = subst (λ (l : LimitNumbers). Holds l.body batches bytes) same (kept_holds journal bytes may batches k)

module _ {D : Type 0} (may_leave : D → List ℕ → Type 0) (moment : D → ℕ) (left_since : D → ℕ → List ℕ → Type 0) where
  pub keeps_none : {T : Type 0} (limits : LimitNumbers) (lines : List (List Event)) (journal : JournalSeen) (disk : D) (told : Option (List ℕ)) (out : SinkSeen) (why : Stop) → journal.limits ≡ limits
      → ((c : List ℕ) → left_since disk (moment disk) c → may_leave disk c) → KeepsLines {T = T} may_leave moment left_since limits lines journal journal disk disk told told out out (Err why)
  unfolding holds_before
  keeps_none limits lines journal disk told out why same only = record {
    by = λ before k. record {
      bytes = k.0;
      told_is = k.1;
      front = holds_before limits lines before k.0 out out (kept_front limits journal k.0 (may_leave disk) before same k.2) refl;
      disk = λ is. (sends_none out out refl refl, omega arith);
    };
    moments = λ before k. subst (λ (l : LimitNumbers). StaysWithin moment left_since disk disk (HoldsSome l.body before (batches_of limits lines))) same
        (no_moments moment left_since journal disk told (may_leave disk) (batches_of limits lines) only before k);
    leaves = λ before k c left. holds_before limits lines before c out out
        (subst (Holds limits.body before) (sym (k.2.durable c left)) (kept_front limits journal k.0 (may_leave disk) before same k.2)) refl;
    prints = grows_none out.taken out.taken (told_of lines) refl;
  }

  -- no lines are kept, and all is as before
  pub keeps_empty : {T : Type 0} (limits : LimitNumbers) (lines : List (List Event)) (journal : JournalSeen) (disk : D) (told : Option (List ℕ)) (out : SinkSeen) (x : T) → lines ≡ [] → journal.limits ≡ limits
      → ((c : List ℕ) → left_since disk (moment disk) c → may_leave disk c) → KeepsLines may_leave moment left_since limits lines journal journal disk disk told told out out (Ok x)
  keeps_empty limits lines journal disk told out x are same only = subst (λ ls. KeepsLines may_leave moment left_since limits ls journal journal disk disk told told out out (Ok x)) (sym are) (record {
    by = λ before k. subst (IsKeptAs journal told (may_leave disk)) (sym (append-nil before)) k;
    moments = λ before k. subst (λ (l : LimitNumbers). StaysWithin moment left_since disk disk (HoldsSome l.body before [])) same
        (no_moments moment left_since journal disk told (may_leave disk) [] only before k);
    leaves = λ before k c left. holds_before limits [] before c out out
        (subst (Holds limits.body before) (sym (k.2.durable c left)) (kept_front limits journal k.0 (may_leave disk) before same k.2)) refl;
    prints = sends_none out out refl refl;
  })

-- ---- one

one_line : (limits : LimitNumbers) (events : List Event) → pieces (frame_room limits) events ≡ batches_of limits (events ∷ [])
one_line limits events = sym (append-nil (pieces (frame_room limits) events))

one_text : (events : List Event) → kept_text (length events) ≡ told_of (events ∷ [])
one_text events = sym (append-nil (kept_text (length events)))

-- its batches were being added
holds_in_one : (limits : LimitNumbers) (events : List Event) (before : List (List Event)) (bytes : List ℕ) (out out' : SinkSeen) → HoldsSome limits.body before (pieces (frame_room limits) events) bytes
    → out'.taken ≡ out.taken → HoldsLines limits (events ∷ []) before out out' bytes
holds_in_one limits events before bytes out out' some taken =
    let h : HoldsSome limits.body before (batches_of limits (events ∷ [])) bytes = subst (λ (bs : List (List Event)). HoldsSome limits.body before bs bytes) (one_line limits events) some in
    record {
      count = h.0;
      few = h.1;
      holds = h.2;
      whole_lines = 0;
      within = omega arith;
      stand = omega arith;
      printed = grows_none out.taken out'.taken [] taken;
    }

stops_in_one : (limits : LimitNumbers) (events : List Event) (before : List (List Event)) (told : Option (List ℕ)) (out out' : SinkSeen) (why : Stop) → TellsSome limits.body told before (pieces (frame_room limits) events)
    → out'.taken ≡ out.taken → out'.flushed ≡ out.flushed → StopsAt limits (events ∷ []) before told out out' why
unfolding holds_in_one
stops_in_one limits events before told out out' why some taken flushed =
    let front = holds_in_one limits events before some.0 out out' some.2 taken in
    record { bytes = some.0; told_is = some.1; front = front; disk = λ is. (sends_none out out' taken flushed, front.few) }

-- all of it stands
holds_one : (limits : LimitNumbers) (events : List Event) (before : List (List Event)) (bytes : List ℕ) (out out' : SinkSeen)
    → Holds limits.body (before ++ pieces (frame_room limits) events) bytes → GrowsByFront out.taken out'.taken (kept_text (length events)) → HoldsLines limits (events ∷ []) before out out' bytes
holds_one limits events before bytes out out' holds grows = record {
  count = length (batches_of limits (events ∷ []));
  few = omega arith;
  holds = subst (λ (bs : List (List Event)). Holds limits.body (before ++ bs) bytes) (one_line limits events ∙ sym (take_all (length (batches_of limits (events ∷ []))) (batches_of limits (events ∷ [])) (omega arith))) holds;
  whole_lines = 1;
  within = omega arith;
  stand = omega arith;
  printed = subst (GrowsByFront out.taken out'.taken) (one_text events) grows;
}

stops_at_one : (T : Type 0) (limits : LimitNumbers) (events : List Event) (journal : JournalSeen) (may : List ℕ → Type 0) (before : List (List Event)) (told : Option (List ℕ)) (out out' : SinkSeen) (disk disk' sink sink' : ℕ) (why : Stop)
    → journal.limits ≡ limits → StandsBy {T = T} journal told may before (pieces (frame_room limits) events) (Err why) → Prints {T = T} out out' (kept_text (length events)) (Err why)
    → KeepCauses {T = T} disk disk' sink sink' (Err why) → StopsAt limits (events ∷ []) before told out out' why
stops_at_one T limits events journal may before told out out' disk disk' sink sink' stop.Disk same h p cause =
    stops_in_one limits events before told out out' stop.Disk (subst (λ (l : LimitNumbers). TellsSome l.body told before (pieces (frame_room limits) events)) same h) p.0 p.1
stops_at_one T limits events journal may before told out out' disk disk' sink sink' (stop.Fault fault_is.OutOfMemory) same h p cause =
    stops_in_one limits events before told out out' (stop.Fault fault_is.OutOfMemory) (subst (λ (l : LimitNumbers). TellsSome l.body told before (pieces (frame_room limits) events)) same h) p.0 p.1
stops_at_one T limits events journal may before told out out' disk disk' sink sink' (stop.Fault fault_is.Sink) same h p cause = record {
  bytes = h.0;
  told_is = h.1;
  front = holds_one limits events before h.0 out out' (kept_front limits journal h.0 may (before ++ pieces (frame_room limits) events) same h.2) p.0;
  disk = λ is. absurd cc;
}
stops_at_one T limits events journal may before told out out' disk disk' sink sink' (stop.Fault fault_is.Shelf) same h p cause = absurd cause
stops_at_one T limits events journal may before told out out' disk disk' sink sink' (stop.Fault fault_is.Source) same h p cause = absurd cause

-- what a crash leaves then
leaves_one : {T : Type 0} (limits : LimitNumbers) (events : List Event) (journal : JournalSeen) (may : List ℕ → Type 0) (before : List (List Event)) (told : Option (List ℕ)) (out out' : SinkSeen) (disk disk' sink sink' : ℕ) (result : Result T Stop)
    → journal.limits ≡ limits → StandsBy journal told may before (pieces (frame_room limits) events) result → Prints out out' (kept_text (length events)) result → KeepCauses disk disk' sink sink' result
    → ((c : List ℕ) → may c → HoldsSome limits.body before (pieces (frame_room limits) events) c) → (c : List ℕ) → may c → HoldsLines limits (events ∷ []) before out out' c
leaves_one limits events journal may before told out out' disk disk' sink sink' (Ok x) same h p cause some c left =
    holds_one limits events before c out out'
    (subst (Holds limits.body (before ++ pieces (frame_room limits) events)) (sym (h.2.durable c left)) (kept_front limits journal h.0 may (before ++ pieces (frame_room limits) events) same h.2))
    (front_of_all out.taken out'.taken (kept_text (length events)) p.0)
leaves_one limits events journal may before told out out' disk disk' sink sink' (Err stop.Disk) same h p cause some c left = holds_in_one limits events before c out out' (some c left) p.0
leaves_one limits events journal may before told out out' disk disk' sink sink' (Err (stop.Fault fault_is.OutOfMemory)) same h p cause some c left = holds_in_one limits events before c out out' (some c left) p.0
leaves_one limits events journal may before told out out' disk disk' sink sink' (Err (stop.Fault fault_is.Sink)) same h p cause some c left =
    holds_one limits events before c out out'
    (subst (Holds limits.body (before ++ pieces (frame_room limits) events)) (sym (h.2.durable c left)) (kept_front limits journal h.0 may (before ++ pieces (frame_room limits) events) same h.2)) p.0
leaves_one limits events journal may before told out out' disk disk' sink sink' (Err (stop.Fault fault_is.Shelf)) same h p cause some c left = absurd cause
leaves_one limits events journal may before told out out' disk disk' sink sink' (Err (stop.Fault fault_is.Source)) same h p cause some c left = absurd cause

keeps_one_by : {T : Type 0} (limits : LimitNumbers) (events : List Event) (journal : JournalSeen) (may : List ℕ → Type 0) (before : List (List Event)) (told : Option (List ℕ)) (out out' : SinkSeen) (disk disk' sink sink' : ℕ) (result : Result T Stop)
    → journal.limits ≡ limits → StandsBy journal told may before (pieces (frame_room limits) events) result → Prints out out' (kept_text (length events)) result
    → KeepCauses disk disk' sink sink' result → KeepsBy limits (events ∷ []) journal may before told out out' result
keeps_one_by limits events journal may before told out out' disk disk' sink sink' (Ok x) same h p cause = subst (λ (bs : List (List Event)). IsKeptAs journal told may (before ++ bs)) (one_line limits events) h
keeps_one_by {T = T} limits events journal may before told out out' disk disk' sink sink' (Err why) same h p cause = stops_at_one T limits events journal may before told out out' disk disk' sink sink' why same h p cause

prints_one : {T : Type 0} (events : List Event) (out out' : SinkSeen) (disk disk' sink sink' : ℕ) (result : Result T Stop) → Prints out out' (kept_text (length events)) result → KeepCauses disk disk' sink sink' result
    → PrintsLines (events ∷ []) out out' result
prints_one events out out' disk disk' sink sink' (Ok x) p cause = subst (SendsOn out out') (one_text events) (p.0, inr p.1)
prints_one events out out' disk disk' sink sink' (Err stop.Disk) p cause = grows_none out.taken out'.taken (told_of (events ∷ [])) p.0
prints_one events out out' disk disk' sink sink' (Err (stop.Fault fault_is.OutOfMemory)) p cause = grows_none out.taken out'.taken (told_of (events ∷ [])) p.0
prints_one events out out' disk disk' sink sink' (Err (stop.Fault fault_is.Sink)) p cause = subst (GrowsByFront out.taken out'.taken) (one_text events) p.0
prints_one events out out' disk disk' sink sink' (Err (stop.Fault fault_is.Shelf)) p cause = absurd cause
prints_one events out out' disk disk' sink sink' (Err (stop.Fault fault_is.Source)) p cause = absurd cause

module _ {D : Type 0} (may_leave : D → List ℕ → Type 0) (moment : D → ℕ) (left_since : D → ℕ → List ℕ → Type 0) where
  pub keeps_one : {T : Type 0} (limits : LimitNumbers) (events : List Event) (lines : List (List Event)) (journal journal' : JournalSeen) (disk disk' : D) (told told' : Option (List ℕ)) (out out' : SinkSeen) (faults faults' sink sink' : ℕ) (result : Result T Stop)
      → lines ≡ events ∷ [] → journal.limits ≡ limits → journal'.limits ≡ limits → Adds may_leave moment left_since journal journal' disk disk' told told' (pieces (frame_room limits) events) result → Prints out out' (kept_text (length events)) result
      → KeepCauses faults faults' sink sink' result → ((t : ℕ) (c : List ℕ) → t ≤ moment disk' → may_leave disk' c → left_since disk' t c)
      → KeepsLines may_leave moment left_since limits lines journal journal' disk disk' told told' out out' result
  keeps_one limits events lines journal journal' disk disk' told told' out out' faults faults' sink sink' result are same same' h p cause now = subst (λ ls. KeepsLines may_leave moment left_since limits ls journal journal' disk disk' told told' out out' result) (sym are) (record {
    by = λ before k. keeps_one_by limits events journal' (may_leave disk') before told' out out' faults faults' sink sink' result same' (h.stands before k) p cause;
    moments = λ before k. subst (λ (bs : List (List Event)). StaysWithin moment left_since disk disk' (HoldsSome limits.body before bs)) (one_line limits events)
        (subst (λ (l : LimitNumbers). StaysWithin moment left_since disk disk' (HoldsSome l.body before (pieces (frame_room limits) events))) same (h.moments before k));
    leaves = λ before k.
        let within = subst (λ (l : LimitNumbers). StaysWithin moment left_since disk disk' (HoldsSome l.body before (pieces (frame_room limits) events))) same (h.moments before k) in
        leaves_one limits events journal' (may_leave disk') before told' out out' faults faults' sink sink' result same' (h.stands before k) p cause
        (λ c left. within.each c (now (moment disk) c within.later left));
    prints = prints_one events out out' faults faults' sink sink' result p cause;
  })

-- ---- some before others

then_by : {T : Type 0} (limits : LimitNumbers) (before xs ys : List (List Event)) (journal : JournalSeen) (may : List ℕ → Type 0) (told : Option (List ℕ)) (out mid out' : SinkSeen) (result : Result T Stop) → SendsOn out mid (told_of xs)
    → KeepsBy limits ys journal may (before ++ batches_of limits xs) told mid out' result → KeepsBy limits (xs ++ ys) journal may before told out out' result
then_by limits before xs ys journal may told out mid out' (Ok x) first h =
    subst (IsKeptAs journal told may) (append_assoc before (batches_of limits xs) (batches_of limits ys) ∙ ap (λ (bs : List (List Event)). before ++ bs) (sym (batches_joined limits xs ys))) h
then_by limits before xs ys journal may told out mid out' (Err why) first h = stops_behind limits before xs ys told out mid out' why first h

then_prints : {T : Type 0} (xs ys : List (List Event)) (out mid out' : SinkSeen) (result : Result T Stop) → SendsOn out mid (told_of xs) → PrintsLines ys mid out' result → PrintsLines (xs ++ ys) out out' result
then_prints xs ys out mid out' (Ok x) first h = subst (SendsOn out out') (sym (told_joined xs ys)) (sends_then out mid out' (told_of xs) (told_of ys) first h)
then_prints xs ys out mid out' (Err why) first h = subst (GrowsByFront out.taken out'.taken) (sym (told_joined xs ys)) (then_front out.taken mid.taken out'.taken (told_of xs) (told_of ys) first.0 h)

module _ {D : Type 0} (may_leave : D → List ℕ → Type 0) (moment : D → ℕ) (left_since : D → ℕ → List ℕ → Type 0) (limits : LimitNumbers) (xs ys : List (List Event)) where
  -- some lines were kept, and then others
  pub keeps_then : {T U : Type 0} (journal mid journal' : JournalSeen) (disk between disk' : D) (told at told' : Option (List ℕ)) (out then out' : SinkSeen) (x : U) (result : Result T Stop)
      → KeepsLines {T = U} may_leave moment left_since limits xs journal mid disk between told at out then (Ok x)
      → KeepsLines may_leave moment left_since limits ys mid journal' between disk' at told' then out' result
      → KeepsLines may_leave moment left_since limits (xs ++ ys) journal journal' disk disk' told told' out out' result
  keeps_then journal mid journal' disk between disk' told at told' out then out' x result first second = record {
    by = λ before k. then_by limits before xs ys journal' (may_leave disk') told' out then out' result first.prints (second.by (before ++ batches_of limits xs) (first.by before k));
    moments = λ before k.
        subst (λ (bs : List (List Event)). StaysWithin moment left_since disk disk' (HoldsSome limits.body before bs)) (sym (batches_joined limits xs ys))
        (joined moment left_since disk between disk' (HoldsSome limits.body before (batches_of limits xs)) (HoldsSome limits.body (before ++ batches_of limits xs) (batches_of limits ys))
        (HoldsSome limits.body before (batches_of limits xs ++ batches_of limits ys)) (first.moments before k) (second.moments (before ++ batches_of limits xs) (first.by before k))
        (λ c h. front_wider limits.body before (batches_of limits xs) (batches_of limits ys) c h) (λ c h. front_behind limits.body before (batches_of limits xs) (batches_of limits ys) c h));
    leaves = λ before k c left. holds_behind limits before xs ys out then out' c first.prints (second.leaves (before ++ batches_of limits xs) (first.by before k) c left);
    prints = then_prints xs ys out then out' result first.prints second.prints;
  }

  -- keeping lines was stopped, and others were to be kept then
  pub keeps_wider : {T : Type 0} (journal journal' : JournalSeen) (disk disk' : D) (told told' : Option (List ℕ)) (out out' : SinkSeen) (why : Stop)
      → KeepsLines {T = T} may_leave moment left_since limits xs journal journal' disk disk' told told' out out' (Err why)
      → KeepsLines {T = T} may_leave moment left_since limits (xs ++ ys) journal journal' disk disk' told told' out out' (Err why)
  keeps_wider journal journal' disk disk' told told' out out' why h = record {
    by = λ before k. stops_wider limits before xs ys told' out out' why (h.by before k);
    moments = λ before k.
        subst (λ (bs : List (List Event)). StaysWithin moment left_since disk disk' (HoldsSome limits.body before bs)) (sym (batches_joined limits xs ys))
        (wider moment left_since disk disk' (HoldsSome limits.body before (batches_of limits xs)) (HoldsSome limits.body before (batches_of limits xs ++ batches_of limits ys)) (h.moments before k)
        (λ c some. front_wider limits.body before (batches_of limits xs) (batches_of limits ys) c some));
    leaves = λ before k c left. holds_wider limits before xs ys out out' c (h.leaves before k c left);
    prints = subst (GrowsByFront out.taken out'.taken) (sym (told_joined xs ys)) (grows_wider out.taken out'.taken (told_of xs) (told_of ys) h.prints);
  }

module _ {D : Type 0} (may_leave : D → List ℕ → Type 0) (moment : D → ℕ) (left_since : D → ℕ → List ℕ → Type 0) (limits : LimitNumbers) (lines : List (List Event)) where
  -- the same of another answer
  pub keeps_at_ok : {T U : Type 0} (journal journal' : JournalSeen) (disk disk' : D) (told told' : Option (List ℕ)) (out out' : SinkSeen) (x : T) (y : U)
      → KeepsLines {T = T} may_leave moment left_since limits lines journal journal' disk disk' told told' out out' (Ok x)
      → KeepsLines {T = U} may_leave moment left_since limits lines journal journal' disk disk' told told' out out' (Ok y)
  keeps_at_ok journal journal' disk disk' told told' out out' x y h = record { by = h.by; moments = h.moments; leaves = h.leaves; prints = h.prints }

  pub keeps_at_err : {T U : Type 0} (journal journal' : JournalSeen) (disk disk' : D) (told told' : Option (List ℕ)) (out out' : SinkSeen) (why : Stop)
      → KeepsLines {T = T} may_leave moment left_since limits lines journal journal' disk disk' told told' out out' (Err why)
      → KeepsLines {T = U} may_leave moment left_since limits lines journal journal' disk disk' told told' out out' (Err why)
  keeps_at_err journal journal' disk disk' told told' out out' why h = record { by = h.by; moments = h.moments; leaves = h.leaves; prints = h.prints }

-- ---- what a line makes

pub none_made : (n : ℕ) (xs : List Event) → length xs ≤ n → made_lines (drop n xs) ≡ []
none_made n xs all = ap made_lines (drop_all n xs all)

pub some_made : (events : List Event) → 1 ≤ length events → made_lines events ≡ events ∷ []
some_made [] some = absurd (omega (arith, some))
some_made (e ∷ events) some = refl
