-- What a watch and an export leave of a journal that is told.
use Rattle.std.proofs.Common.{◌≡◌, ◌≤◌, ◌⊎◌, inl, inr, ℕ, List, [], ◌++◌, length, take, Option, None, Some, Result, Ok, Err, refl, sym, ap, subst, append-nil, arith}
use Rattle.std.specs.Prelude.{IfSome}
use Rattle.std.proofs.KnownBytes.{Appends-nil}
use Rattle.std.proofs.lemmas.List.{length-append, length-take}
use Rattle.ew_model.specs.declared.event.Event.{Event}
use Rattle.ew_model.specs.Limits.{LimitNumbers}
use Rattle.ew_outside.specs.Outputs.{Sends}
use Rattle.ew_outside.specs.Seen.{SinkSeen}
use Rattle.ew_outside.specs.declared.fault.Fault.TheVariants as fault_is
use Rattle.event_journal.specs.Disk.{StaysWithin, TellsAlike}
use Rattle.event_journal.specs.Journal.{Holds, HoldSame, JournalSeen}
use Rattle.event_journal.proofs.Moments.{at_first, joined, wider}
use Rattle.event_journal.proofs.Torn.{same_itself}
use Rattle.peer_definitions.specs.Batches.{AreBatches}
use Rattle.peer_frames.proofs.Journals.{one_journal}
use Rattle.command_table.specs.Crashes.{HoldsSameAsOne, HoldsSomeFront}
use Rattle.command_table.specs.Journals.{Journal, IsJournal, TellsJournal, with_batches, with_lines}
use Rattle.command_table.specs.Scripts.{batches_of, told_of}
use Rattle.opened_files.specs.declared.reply.Reply as code
use Rattle.opened_files.specs.Views.{reply_status}
use Rattle.journal_plans.specs.Adding.{HoldsSome, IsKeptAs}
use Rattle.journal_plans.specs.Keeping.{HoldsLines, KeepsBy, KeepsLines, SendsOn}
use Rattle.journal_plans.specs.Watching.{HoldsTold, KeepsJournal, StandsIn}
use Rattle.journal_plans.specs.declared.stop.Stop.{Stop}
use Rattle.journal_plans.specs.declared.stop.Stop.TheVariants as stop
use Rattle.journal_plans.proofs.Adding.{kept_holds}
use Rattle.journal_plans.proofs.Keeping.{grows_none}

-- ---- the output

pub sends_on : (out out' : SinkSeen) (bytes : List ℕ) → SendsOn out out' bytes → Sends out.taken out'.taken out'.flushed bytes
sends_on out out' bytes (grows, inl none) = (grows, inl none.0)
sends_on out out' bytes (grows, inr flushed) = (grows, inr flushed)

pub sends_nothing : (out : SinkSeen) → Sends out.taken out.taken out.flushed []
sends_nothing out = (Appends-nil out.taken, inl refl)

-- ---- where the journal alone was opened

module _ {D : Type 0} (may_leave : D → List ℕ → Type 0) (moment : D → ℕ) (left_since : D → ℕ → List ℕ → Type 0) (limits : LimitNumbers) (j : Journal) (disk disk' : D) (told told' : Option (List ℕ))
    (tells : TellsAlike told told') (alike : IfSome told (λ bytes. IfSome told' (HoldSame limits.body bytes))) (is : TellsJournal limits told j)
    (each_moment : IfSome told (λ _. StaysWithin moment left_since disk disk' (HoldsSameAsOne limits (may_leave disk))))
    (now : (t : ℕ) (c : List ℕ) → t ≤ moment disk' → may_leave disk' c → left_since disk' t c) where
  told_still : (told told' : Option (List ℕ)) → TellsAlike told told' → IfSome told (λ bytes. IfSome told' (HoldSame limits.body bytes)) → TellsJournal limits told j → TellsJournal limits told' j
  told_still None told' tells alike (bytes, is, h) = absurd cc
  told_still (Some b) None (c, tells) alike (bytes, is, h) = absurd cc
  told_still (Some b) (Some c) tells alike (bytes, is, h) =
      let at : bytes ≡ b = cc in
      (c, refl, (alike j.batches j.bad).0 (subst (λ x. IsJournal limits x j) at h))

  pub still : TellsJournal limits told' j
  still = told_still told told' tells alike is

  pub within : StaysWithin moment left_since disk disk' (HoldsSameAsOne limits (may_leave disk))
  within = subst (λ o. IfSome o (λ _. StaysWithin moment left_since disk disk' (HoldsSameAsOne limits (may_leave disk)))) is.1 each_moment

  -- with no batch more
  with_none : (bytes : List ℕ) → IsJournal limits bytes j → IsJournal limits bytes (with_batches j [])
  with_none bytes h = subst (λ bs. AreBatches limits.body bytes bs j.bad) (sym (append-nil j.batches)) h

  pub unlined : TellsJournal limits told' (with_lines limits j [])
  unlined = (still.0, still.1, with_none still.0 still.2)

  left_same : (c : List ℕ) → may_leave disk' c → HoldsSameAsOne limits (may_leave disk) c
  left_same c left = within.each c (now (moment disk) c within.later left)

  -- it was stopped there, whatever was to be kept
  pub opening_stops : (lines : List (List Event)) (out : SinkSeen) (why : Stop) → KeepsJournal may_leave moment left_since limits j lines disk disk' told told' out out (Err why)
  opening_stops lines out why = record {
    stands = record {
      bytes = still.0;
      told_is = still.1;
      count = 0;
      few = omega arith;
      holds = with_none still.0 still.2;
      whole_lines = 0;
      stand = omega arith;
      printed = grows_none out.taken out.taken [] refl;
      disk = λ is. (sends_nothing out, omega arith);
      source = λ is. refl;
    };
    crashes = λ c left. inr (refl, left_same c left);
    done = tt;
    inside = wider moment left_since disk disk' (HoldsSameAsOne limits (may_leave disk)) (λ bytes. HoldsSameAsOne limits (may_leave disk) bytes ⊎ HoldsSomeFront limits j lines bytes) within (λ c h. inl h);
  }

  -- nothing is to be kept
  pub opening_answers : (lines : List (List Event)) (out : SinkSeen) (p : code.Reply) → lines ≡ [] → (reply_status p ≡ 0 → (c : List ℕ) → may_leave disk' c → IsJournal limits c j)
      → KeepsJournal may_leave moment left_since limits j lines disk disk' told told' out out (Ok p)
  opening_answers lines out p none done = subst (λ ls. KeepsJournal may_leave moment left_since limits j ls disk disk' told told' out out (Ok p)) (sym none) (record {
    stands = unlined;
    crashes = λ c left. inr (refl, left_same c left);
    done = λ well c left. with_none c (done well c left);
    inside = wider moment left_since disk disk' (HoldsSameAsOne limits (may_leave disk)) (λ bytes. HoldsSameAsOne limits (may_leave disk) bytes ⊎ HoldsSomeFront limits j [] bytes) within (λ c h. inl h);
  })

-- where not even that was done
pub alike_itself : (limits : LimitNumbers) (told : Option (List ℕ)) → IfSome told (λ bytes. IfSome told (HoldSame limits.body bytes))
alike_itself limits None = tt
alike_itself limits (Some bytes) = same_itself limits.body bytes

pub moments_itself : {D : Type 0} (may_leave : D → List ℕ → Type 0) (moment : D → ℕ) (left_since : D → ℕ → List ℕ → Type 0) (limits : LimitNumbers) (disk : D) (told : Option (List ℕ))
    → ((c : List ℕ) → left_since disk (moment disk) c → may_leave disk c) → IfSome told (λ _. StaysWithin moment left_since disk disk (HoldsSameAsOne limits (may_leave disk)))
moments_itself may_leave moment left_since limits disk None only = tt
moments_itself may_leave moment left_since limits disk (Some bytes) only = at_first moment left_since disk (HoldsSameAsOne limits (may_leave disk)) (λ c left. (c, only c left, same_itself limits.body c))

-- ---- where the journal is open

-- a journal that is open and told has no bad place
pub sound_journal : (limits : LimitNumbers) (j : Journal) (journal : JournalSeen) (told' : Option (List ℕ)) (may : List ℕ → Type 0) → journal.limits ≡ limits → TellsJournal limits told' j → IsKeptAs journal told' may j.batches
    → j.bad ≡ None
sound_journal limits j journal told' may same (bytes, is, h) (others, at, k) =
    let one : others ≡ bytes = cc in
    let there = subst (λ (l : LimitNumbers). AreBatches l.body others j.batches None) same (kept_holds journal others may j.batches k) in
    sym (one_journal limits.body bytes j.batches j.batches None j.bad (subst (λ x. AreBatches limits.body x j.batches None) one there) h).1

-- with batches behind it
is_journal : (limits : LimitNumbers) (j : Journal) (batches : List (List Event)) (bytes : List ℕ) → j.bad ≡ None → Holds limits.body (j.batches ++ batches) bytes → IsJournal limits bytes (with_batches j batches)
is_journal limits j batches bytes sound h = subst (AreBatches limits.body bytes (j.batches ++ batches)) (sym sound) h

-- what a crash leaves of it
pub durable_journal : (limits : LimitNumbers) (j : Journal) (journal : JournalSeen) (told : Option (List ℕ)) (may : List ℕ → Type 0) → journal.limits ≡ limits → j.bad ≡ None → IsKeptAs journal told may j.batches
    → (c : List ℕ) → may c → IsJournal limits c j
durable_journal limits j journal told may same sound k c left =
    subst (AreBatches limits.body c j.batches) (sym sound)
    (subst (λ x. AreBatches limits.body x j.batches None) (sym (k.2.durable c left)) (subst (λ (l : LimitNumbers). AreBatches l.body k.0 j.batches None) same (kept_holds journal k.0 may j.batches k.2)))

taken_none : (n : ℕ) (xs : List (List Event)) → n ≤ length xs → length (take n xs) ≡ 0 → n ≡ 0
taken_none n xs few none = omega (arith, few, none, length-take n xs)

module _ (limits : LimitNumbers) (j : Journal) (lines : List (List Event)) (sound : j.bad ≡ None) where
  holds_told : (out out' : SinkSeen) (bytes : List ℕ) → HoldsLines limits lines j.batches out out' bytes → HoldsTold limits j lines out out' bytes
  holds_told out out' bytes h = record {
    count = h.count;
    holds = is_journal limits j (take h.count (batches_of limits lines)) bytes sound h.holds;
    whole_lines = h.whole_lines;
    stand = h.stand;
    printed = h.printed;
  }

  -- nothing is kept on a disk that wasn't reached
  none_kept : (at told' : Option (List ℕ)) (journal : JournalSeen) (may : List ℕ → Type 0) (bytes : List ℕ) (count : ℕ) → journal.limits ≡ limits → IsKeptAs journal at may j.batches → told' ≡ at → told' ≡ Some bytes
      → count ≤ length (batches_of limits lines) → Holds limits.body (j.batches ++ take count (batches_of limits lines)) bytes → count ≡ 0
  none_kept at told' journal may bytes count same (others, is, k) unread told few h =
      let one : others ≡ bytes = cc in
      let there = subst (λ (l : LimitNumbers). Holds l.body j.batches others) same (kept_holds journal others may j.batches k) in
      let all = (one_journal limits.body bytes j.batches (j.batches ++ take count (batches_of limits lines)) None None (subst (Holds limits.body j.batches) one there) h).0 in
      taken_none count (batches_of limits lines) few (omega (arith, ap length all, length-append j.batches (take count (batches_of limits lines))))

  stands_by : (journal journal' : JournalSeen) (may may' : List ℕ → Type 0) (at told' : Option (List ℕ)) (out out' : SinkSeen) (result : Result code.Reply Stop) → journal.limits ≡ limits → journal'.limits ≡ limits
      → IsKeptAs journal at may j.batches → (result ≡ Err (stop.Fault fault_is.Source) → told' ≡ at) → KeepsBy limits lines journal' may' j.batches told' out out' result → StandsIn limits j lines told' out out' result
  stands_by journal journal' may may' at told' out out' (Ok p) same same' kept unread h =
      (h.0, h.1, is_journal limits j (batches_of limits lines) h.0 sound (subst (λ (l : LimitNumbers). Holds l.body (j.batches ++ batches_of limits lines) h.0) same' (kept_holds journal' h.0 may' (j.batches ++ batches_of limits lines) h.2)))
  stands_by journal journal' may may' at told' out out' (Err why) same same' kept unread h = record {
    bytes = h.bytes;
    told_is = h.told_is;
    count = h.front.count;
    few = h.front.few;
    holds = is_journal limits j (take h.front.count (batches_of limits lines)) h.bytes sound h.front.holds;
    whole_lines = h.front.whole_lines;
    stand = h.front.stand;
    printed = h.front.printed;
    disk = λ is.
        let d = h.disk is in
        (sends_on out out' (told_of (take h.front.whole_lines lines)) d.0, d.1);
    source = λ is. none_kept at told' journal may h.bytes h.front.count same kept (unread (ap Err is)) h.told_is h.front.few h.front.holds;
  }

  done_by : (journal' : JournalSeen) (may' : List ℕ → Type 0) (told' : Option (List ℕ)) (out out' : SinkSeen) (p : code.Reply) → journal'.limits ≡ limits → KeepsBy limits lines journal' may' j.batches told' out out' (Ok p)
      → (c : List ℕ) → may' c → IsJournal limits c (with_lines limits j lines)
  done_by journal' may' told' out out' p same' h c left =
      is_journal limits j (batches_of limits lines) c sound
      (subst (Holds limits.body (j.batches ++ batches_of limits lines)) (sym (h.2.durable c left))
      (subst (λ (l : LimitNumbers). Holds l.body (j.batches ++ batches_of limits lines) h.0) same' (kept_holds journal' h.0 may' (j.batches ++ batches_of limits lines) h.2)))

  module _ {D : Type 0} (may_leave : D → List ℕ → Type 0) (moment : D → ℕ) (left_since : D → ℕ → List ℕ → Type 0) where
    -- it was opened, and then lines were kept
    pub keeps_journal : (journal journal' : JournalSeen) (disk between disk' : D) (told at told' : Option (List ℕ)) (out out' : SinkSeen) (result : Result code.Reply Stop) → journal.limits ≡ limits → journal'.limits ≡ limits
        → StaysWithin moment left_since disk between (HoldsSameAsOne limits (may_leave disk)) → IsKeptAs journal at (may_leave between) j.batches → (result ≡ Err (stop.Fault fault_is.Source) → told' ≡ at)
        → KeepsLines may_leave moment left_since limits lines journal journal' between disk' at told' out out' result
        → KeepsJournal may_leave moment left_since limits j lines disk disk' told told' out out' result
    keeps_journal journal journal' disk between disk' told at told' out out' (Ok p) same same' first kept unread keeps = record {
      stands = stands_by journal journal' (may_leave between) (may_leave disk') at told' out out' (Ok p) same same' kept unread (keeps.by j.batches kept);
      crashes = λ c left. inl (holds_told out out' c (keeps.leaves j.batches kept c left));
      done = λ well. done_by journal' (may_leave disk') told' out out' p same' (keeps.by j.batches kept);
      inside = joined moment left_since disk between disk' (HoldsSameAsOne limits (may_leave disk)) (HoldsSome limits.body j.batches (batches_of limits lines))
          (λ bytes. HoldsSameAsOne limits (may_leave disk) bytes ⊎ HoldsSomeFront limits j lines bytes) first (keeps.moments j.batches kept) (λ c h. inl h)
          (λ c h. inr (h.0, is_journal limits j (take h.0 (batches_of limits lines)) c sound h.2));
    }
    keeps_journal journal journal' disk between disk' told at told' out out' (Err why) same same' first kept unread keeps = record {
      stands = stands_by journal journal' (may_leave between) (may_leave disk') at told' out out' (Err why) same same' kept unread (keeps.by j.batches kept);
      crashes = λ c left. inl (holds_told out out' c (keeps.leaves j.batches kept c left));
      done = tt;
      inside = joined moment left_since disk between disk' (HoldsSameAsOne limits (may_leave disk)) (HoldsSome limits.body j.batches (batches_of limits lines))
          (λ bytes. HoldsSameAsOne limits (may_leave disk) bytes ⊎ HoldsSomeFront limits j lines bytes) first (keeps.moments j.batches kept) (λ c h. inl h)
          (λ c h. inr (h.0, is_journal limits j (take h.0 (batches_of limits lines)) c sound h.2));
    }
