-- Batches that are added one after another.
use Rattle.std.proofs.Common.{◌+◌, ℕ, ◌≡◌, List, ◌++◌, length, take, Option, Result, Ok, Err, sym, ap, subst, ◌∙◌, append_assoc, arith}
use Rattle.std.proofs.lemmas.List.{length-append, take-append-le}
use Rattle.std.proofs.Math.Seq.{take-append-add}
use Rattle.ew_model.specs.declared.event.Event.{Event}
use Rattle.ew_outside.specs.declared.fault.Fault.TheVariants as fault_is
use Rattle.event_journal.specs.Disk.{StaysWithin}
use Rattle.event_journal.specs.Journal.{JournalSeen, Holds}
use Rattle.event_journal.proofs.Moments.{joined}
use Rattle.journal_plans.specs.Adding.{IsKeptAs, HoldsSome, TellsSome, StandsBy, Adds}
use Rattle.journal_plans.specs.declared.stop.Stop.{Stop}
use Rattle.journal_plans.specs.declared.stop.Stop.TheVariants as stop

pub front_wider : (most : ℕ) (before added more : List (List Event)) (bytes : List ℕ) → HoldsSome most before added bytes → HoldsSome most before (added ++ more) bytes
front_wider most before added more bytes (count, few, holds) = (
  count,
  omega (arith, few, length-append added more),
  subst (λ (bs : List (List Event)). Holds most (before ++ bs) bytes) (sym (take-append-le count added more few)) holds,
)

pub front_behind : (most : ℕ) (before added more : List (List Event)) (bytes : List ℕ) → HoldsSome most (before ++ added) more bytes → HoldsSome most before (added ++ more) bytes
front_behind most before added more bytes (count, few, holds) = (
  length added + count,
  omega (arith, few, length-append added more),
  subst (λ (bs : List (List Event)). Holds most bs bytes) (append_assoc before added (take count more) ∙ ap (λ (bs : List (List Event)). before ++ bs) (sym (take-append-add added more count))) holds,
)

pub kept_behind : (journal : JournalSeen) (told : Option (List ℕ)) (may : List ℕ → Type 0) (before added more : List (List Event)) → IsKeptAs journal told may ((before ++ added) ++ more)
    → IsKeptAs journal told may (before ++ (added ++ more))
kept_behind journal told may before added more h = subst (IsKeptAs journal told may) (append_assoc before added more) h

tells_behind : (most : ℕ) (told : Option (List ℕ)) (before added more : List (List Event)) → TellsSome most told (before ++ added) more → TellsSome most told before (added ++ more)
tells_behind most told before added more (bytes, is, some) = (bytes, is, front_behind most before added more bytes some)

pub stands_behind : {T : Type 0} (journal : JournalSeen) (told : Option (List ℕ)) (may : List ℕ → Type 0) (before added more : List (List Event)) (result : Result T Stop)
    → StandsBy journal told may (before ++ added) more result → StandsBy journal told may before (added ++ more) result
stands_behind journal told may before added more (Ok x) h = kept_behind journal told may before added more h
stands_behind journal told may before added more (Err stop.Disk) h = tells_behind journal.limits.body told before added more h
stands_behind journal told may before added more (Err (stop.Fault fault_is.Sink)) h = kept_behind journal told may before added more h
stands_behind journal told may before added more (Err (stop.Fault fault_is.Shelf)) h = tells_behind journal.limits.body told before added more h
stands_behind journal told may before added more (Err (stop.Fault fault_is.Source)) h = tells_behind journal.limits.body told before added more h
stands_behind journal told may before added more (Err (stop.Fault fault_is.OutOfMemory)) h = tells_behind journal.limits.body told before added more h

module _ {D T U : Type 0} (may_leave : D → List ℕ → Type 0) (moment : D → ℕ) (left_since : D → ℕ → List ℕ → Type 0) where
  -- some were added, and then more
  pub adds_more : (journal mid journal' : JournalSeen) (disk between disk' : D) (told at told' : Option (List ℕ)) (added more : List (List Event)) (x : T) (result : Result U Stop)
      → mid.limits ≡ journal.limits → Adds may_leave moment left_since journal mid disk between told at added (Ok x) → Adds may_leave moment left_since mid journal' between disk' at told' more result
      → Adds may_leave moment left_since journal journal' disk disk' told told' (added ++ more) result
  adds_more journal mid journal' disk between disk' told at told' added more x result same first second = record {
    stands = λ before k. stands_behind journal' told' (may_leave disk') before added more result (second.stands (before ++ added) (first.stands before k));
    moments = λ before k.
        let later = subst (λ l. StaysWithin moment left_since between disk' (HoldsSome l.body (before ++ added) more)) same (second.moments (before ++ added) (first.stands before k)) in
        joined moment left_since disk between disk' (HoldsSome journal.limits.body before added) (HoldsSome journal.limits.body (before ++ added) more) (HoldsSome journal.limits.body before (added ++ more))
        (first.moments before k) later (λ c h. front_wider journal.limits.body before added more c h) (λ c h. front_behind journal.limits.body before added more c h);
  }
