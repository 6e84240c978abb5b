-- A journal that was read is opened as the table says.
use Rattle.std.proofs.Common.{◌≡◌, ◌≤◌, ◌∙◌, ℕ, Bool, if◌then◌else◌, List, [], length, Option, None, Some, Ok, inl, inr, refl, sym, ap, subst, arith}
use Rattle.std.specs.Prelude.{IfSome}
use Rattle.std.proofs.lemmas.Bool.{le-ltb, lt-ltb}
use Rattle.ew_model.specs.declared.event.Event.{Event}
use Rattle.ew_model.specs.Limits.{LimitNumbers}
use Rattle.ew_model.specs.Verdicts.{first_bad}
use Rattle.peer_definitions.specs.Batches.{AreBatches, journal_events}
use Rattle.peer_frames.proofs.Journals.{one_journal}
use Rattle.event_journal.specs.Disk.{TellsAlike}
use Rattle.event_journal.specs.Journal.{HoldSame, HoldsEvents, HoldsTooMany, IsBadAt, IsKept, IsKeptOn, JournalSeen}
use Rattle.event_journal.specs.declared.fault.OpenFault.{OpenFault}
use Rattle.event_journal.specs.declared.fault.OpenFault.TheVariants as fault
use Rattle.command_texts.specs.Reasons.{refusal_view}
use Rattle.command_texts.specs.declared.refusal.Refusal.{Refusal}
use Rattle.command_table.specs.Journals.{Journal, IsJournal, TellsJournal, ended_journal, judged_journal, open_journal}
use Rattle.command_table.specs.Possible.{MayOpenJournal}
use Rattle.command_table.specs.Refusals.{bad_batch, journal_too_many}
use Rattle.command_table.specs.Table.{refused}
use Rattle.journal_plans.specs.Adding.{IsKeptAs}
use Rattle.journal_plans.specs.Opening.{RefusesOpening}
use Rattle.journal_plans.proofs.Adding.{kept_holds}
use Rattle.journal_plans.proofs.Fronts.{too_many_so}

-- where it has no more events than it may
ended_so : (limits : LimitNumbers) (j : Journal) → length (journal_events j.batches) ≤ limits.events → open_journal limits j ≡ ended_journal (journal_events j.batches) j.bad
ended_so limits j few =
    ap (λ (b : Bool). if b then refused (journal_too_many limits.events) else ended_journal (journal_events j.batches) j.bad)
    (le-ltb limits.events (length (journal_events j.batches)) few)

pub opened_so : (limits : LimitNumbers) (bytes : List ℕ) (j : Journal) (events : List Event) → IsJournal limits bytes j → HoldsEvents limits.body events bytes → length events ≤ limits.events
    → judged_journal events (first_bad events) ≡ open_journal limits j
opened_so limits bytes j events is (batches, holds, are) few =
    let one = one_journal limits.body bytes j.batches batches j.bad None is holds in
    let same : journal_events j.batches ≡ events = ap journal_events one.0 ∙ sym are in
    sym (ended_so limits j (omega (arith, ap length same, few)) ∙ ap (ended_journal (journal_events j.batches)) one.1 ∙ ap (λ (xs : List Event). judged_journal xs (first_bad xs)) same)

pub bad_so : (limits : LimitNumbers) (offset : ℕ) (bytes : List ℕ) (j : Journal) → IsJournal limits bytes j → IsBadAt limits offset bytes → open_journal limits j ≡ refused (bad_batch offset)
bad_so limits offset bytes j is (batches, holds, few) =
    let one = one_journal limits.body bytes j.batches batches j.bad (Some offset) is holds in
    ended_so limits j (omega (arith, ap (λ bs. length (journal_events bs)) one.0, few)) ∙ ap (ended_journal (journal_events j.batches)) one.1

pub many_so : (limits : LimitNumbers) (count : ℕ) (bytes : List ℕ) (j : Journal) → IsJournal limits bytes j → HoldsTooMany limits count bytes → open_journal limits j ≡ refused (journal_too_many limits.events)
many_so limits count bytes j is many =
    ap (λ (b : Bool). if b then refused (journal_too_many limits.events) else ended_journal (journal_events j.batches) j.bad)
    (lt-ltb limits.events (length (journal_events j.batches)) (too_many_so limits count bytes j.batches j.bad many is))

-- ---- where the disk tells the journal

-- what is said of told bytes is said of these
if_told : (told : Option (List ℕ)) (bytes : List ℕ) (P : List ℕ → Type 0) → told ≡ Some bytes → IfSome told P → P bytes
if_told told bytes P is h = subst (λ o. IfSome o P) is h

pub judged_told : (limits : LimitNumbers) (told : Option (List ℕ)) (j : Journal) (events : List Event) → TellsJournal limits told j → IfSome told (HoldsEvents limits.body events) → length events ≤ limits.events
    → judged_journal events (first_bad events) ≡ open_journal limits j
judged_told limits told j events (bytes, is, journal) holds few = opened_so limits bytes j events journal (if_told told bytes (HoldsEvents limits.body events) is holds) few

pub events_told : (limits : LimitNumbers) (told : Option (List ℕ)) (j : Journal) (events : List Event) → TellsJournal limits told j → IfSome told (HoldsEvents limits.body events) → events ≡ journal_events j.batches
events_told limits told j events (bytes, is, journal) holds =
    let h = if_told told bytes (HoldsEvents limits.body events) is holds in
    h.2 ∙ ap journal_events (one_journal limits.body bytes h.0 j.batches None j.bad h.1 journal).0

-- a journal that isn't opened is refused as the table says
pub refused_told : (limits : LimitNumbers) (told : Option (List ℕ)) (j : Journal) (f : OpenFault) (why : Refusal) → TellsJournal limits told j → RefusesOpening limits f (Ok why)
    → ((offset : ℕ) → f ≡ fault.BadBatch offset → IfSome told (IsBadAt limits offset)) → ((count : ℕ) → f ≡ fault.TooMany count → IfSome told (HoldsTooMany limits count))
    → refused (refusal_view why) ≡ open_journal limits j
refused_told limits told j (fault.BadBatch offset) why (bytes, is, journal) view bad many =
    ap refused view ∙ sym (bad_so limits offset bytes j journal (if_told told bytes (IsBadAt limits offset) is (bad offset refl)))
refused_told limits told j (fault.TooMany count) why (bytes, is, journal) view bad many =
    ap refused view ∙ sym (many_so limits count bytes j journal (if_told told bytes (HoldsTooMany limits count) is (many count refl)))
refused_told limits told j fault.Failed why t view bad many = absurd cc
refused_told limits told j fault.OutOfMemory why t view bad many = absurd cc

-- and may be refused so
pub refused_may : (limits : LimitNumbers) (f : OpenFault) (why : Refusal) → RefusesOpening limits f (Ok why) → MayOpenJournal limits (refused (refusal_view why))
refused_may limits (fault.BadBatch offset) why view = inr ([], Some offset, omega arith, ap refused view)
refused_may limits (fault.TooMany count) why view = inl (ap refused view)
refused_may limits fault.Failed why view = absurd cc
refused_may limits fault.OutOfMemory why view = absurd cc

-- the disk is as the journal left it, with the batches that were told
pub kept_told : (limits : LimitNumbers) (journal : JournalSeen) (told told' : Option (List ℕ)) (may : List ℕ → Type 0) (j : Journal) → journal.limits ≡ limits → TellsAlike told told'
    → IfSome told (λ bytes. IfSome told' (HoldSame limits.body bytes)) → IsKeptOn journal told' may → TellsJournal limits told j → IsKeptAs journal told' may j.batches
kept_told limits journal None told' may j same tells alike kept (bytes, is, h) = absurd cc
kept_told limits journal (Some b) None may j same (c, tells) alike kept (bytes, is, h) = absurd cc
kept_told limits journal (Some b) (Some c) may j same tells alike kept (bytes, is, h) =
    let at : bytes ≡ b = cc in
    let now = (alike j.batches j.bad).0 (subst (λ x. IsJournal limits x j) at h) in
    let there = subst (λ (l : LimitNumbers). AreBatches l.body c kept.0 None) same (kept_holds journal c may kept.0 kept.1) in
    (c, refl, subst (IsKept journal c may) (one_journal limits.body c kept.0 j.batches None j.bad there now).0 kept.1)
