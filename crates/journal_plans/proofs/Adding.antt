-- What one batch more leaves.
use Rattle.std.proofs.Common.{◌≡◌, ◌≤◌, ⊎_elim, ℕ, List, [], ◌∷◌, ◌++◌, Option, None, Some, Ok, Err, refl, sym, ap, subst, ◌∙◌, append-nil, arith}
use Rattle.std.specs.Prelude.{IfSome}
use Rattle.ew_model.specs.declared.event.Event.{Event}
use Rattle.ew_outside.specs.declared.fault.Fault.TheVariants as fault_is
use Rattle.event_journal.specs.Disk.{DiskSeen, StaysWithin, TellsAlike}
use Rattle.event_journal.specs.Journal.{JournalSeen, IsKept, IsKeptOn, Holds, HoldsOneMoreAtMost}
use Rattle.event_journal.specs.LastingLaw.{Leads}
use Rattle.event_journal.specs.LastingLaw.Step.{Acknowledged, Unacknowledged}
use Rattle.event_journal.proofs.Moments.{at_first, wider}
use Rattle.event_journal.proofs.Torn.{rest_holds}
use Rattle.peer_frames.proofs.Journals.{one_journal}
use Rattle.journal_plans.specs.Adding.{Adds, IsKeptAs, HoldsSome}
use Rattle.journal_plans.specs.declared.stop.Stop.TheVariants as stop

-- what a journal left holds its batches
pub kept_holds : (journal : JournalSeen) (bytes : List ℕ) (may : List ℕ → Type 0) (batches : List (List Event)) → IsKept journal bytes may batches → Holds journal.limits.body batches bytes
kept_holds journal bytes may batches k = rest_holds journal.limits.body bytes batches journal.gate k.at_rest

-- a front of none, and a front of one
pub none_more : (most : ℕ) (before added : List (List Event)) (bytes : List ℕ) → Holds most before bytes → HoldsSome most before added bytes
none_more most before added bytes h = (0, omega arith, subst (λ (bs : List (List Event)). Holds most bs bytes) (sym (append-nil before)) h)

pub one_more : (most : ℕ) (before : List (List Event)) (batch : List Event) (bytes : List ℕ) → HoldsOneMoreAtMost most before batch bytes → HoldsSome most before (batch ∷ []) bytes
one_more most before batch bytes h = ⊎_elim (λ without. none_more most before (batch ∷ []) bytes without) (λ with. (1, omega arith, with)) h

-- a batch that is acknowledged stands behind the others
pub batch_stands : (journal journal' : JournalSeen) (told told' : Option (List ℕ)) (may may' : List ℕ → Type 0) (batch : List Event) → IfSome told' may' → IsKeptOn journal' told' may'
    → IfSome told (λ bytes. (c : List ℕ) → may' c → Leads journal.limits.body (Acknowledged batch) bytes c) → TellsAlike told told' → journal'.limits ≡ journal.limits
    → (before : List (List Event)) → IsKeptAs journal told may before → IsKeptAs journal' told' may' (before ++ batch ∷ [])
batch_stands journal journal' None told' may may' batch now kept leads tells same before (bytes, is, k) = absurd cc
batch_stands journal journal' (Some b) None may may' batch now kept leads (c, tells) same before (bytes, is, k) = absurd cc
batch_stands journal journal' (Some b) (Some c) may may' batch now kept leads tells same before (bytes, is, k) =
    let at : bytes ≡ b = cc in
    let held : Holds journal.limits.body before b = subst (Holds journal.limits.body before) at (kept_holds journal bytes may before k) in
    let more : Holds journal.limits.body (before ++ batch ∷ []) c = leads c now before held in
    let there : Holds journal.limits.body kept.0 c = subst (λ l. Holds l.body kept.0 c) same (kept_holds journal' c may' kept.0 kept.1) in
    let are : kept.0 ≡ before ++ batch ∷ [] = (one_journal journal.limits.body c kept.0 (before ++ batch ∷ []) None None there more).0 in
    (c, refl, subst (IsKept journal' c may') are kept.1)

module _ {D : Type 0} (moment : D → ℕ) (left_since : D → ℕ → List ℕ → Type 0) where
  -- a crash while a batch is added
  pub batch_moments : (journal : JournalSeen) (disk disk' : D) (told : Option (List ℕ)) (may : List ℕ → Type 0) (batch : List Event)
      → IfSome told (λ bytes. StaysWithin moment left_since disk disk' (Leads journal.limits.body (Unacknowledged batch) bytes))
      → (before : List (List Event)) → IsKeptAs journal told may before → StaysWithin moment left_since disk disk' (HoldsSome journal.limits.body before (batch ∷ []))
  batch_moments journal disk disk' None may batch within before (bytes, is, k) = absurd cc
  batch_moments journal disk disk' (Some b) may batch within before (bytes, is, k) =
      let at : bytes ≡ b = cc in
      let held : Holds journal.limits.body before b = subst (Holds journal.limits.body before) at (kept_holds journal bytes may before k) in
      wider moment left_since disk disk' (Leads journal.limits.body (Unacknowledged batch) b) (HoldsSome journal.limits.body before (batch ∷ [])) within
      (λ c leads. one_more journal.limits.body before batch c (leads before held))

  -- and where nothing is done
  pub no_moments : (journal : JournalSeen) (disk : D) (told : Option (List ℕ)) (may : List ℕ → Type 0) (added : List (List Event)) → ((c : List ℕ) → left_since disk (moment disk) c → may c)
      → (before : List (List Event)) → IsKeptAs journal told may before → StaysWithin moment left_since disk disk (HoldsSome journal.limits.body before added)
  no_moments journal disk told may added only before (bytes, is, k) =
      at_first moment left_since disk (HoldsSome journal.limits.body before added)
      (λ c left. none_more journal.limits.body before added c
      (subst (Holds journal.limits.body before) (sym (k.durable c (only c left))) (kept_holds journal bytes may before k)))

-- what stands now is among what a crash leaves
pub stands_among : (P : List ℕ → Type 0) (told told' : Option (List ℕ)) (Q : List ℕ → Type 0) → TellsAlike told told' → IfSome told' Q → ((c : List ℕ) → Q c → P c)
    → (bytes : List ℕ) → told ≡ Some bytes → (c : List ℕ) × (told' ≡ Some c) × P c
stands_among P None told' Q tells now so bytes is = absurd cc
stands_among P (Some b) None Q (c, tells) now so bytes is = absurd cc
stands_among P (Some b) (Some c) Q tells now so bytes is = (c, refl, so c now)

module _ {D : Type 0} (may_leave : D → List ℕ → Type 0) (moment : D → ℕ) (left_since : D → ℕ → List ℕ → Type 0) (seen : D → DiskSeen) (only_now : (disk : D) (c : List ℕ) → left_since disk (moment disk) c → may_leave disk c) where
  -- a batch was added
  pub batch_adds : (journal journal' : JournalSeen) (disk disk' : D) (batch : List Event) → IfSome (seen disk').bytes (may_leave disk') → IsKeptOn journal' (seen disk').bytes (may_leave disk')
      → IfSome (seen disk).bytes (λ bytes. (c : List ℕ) → may_leave disk' c → Leads journal.limits.body (Acknowledged batch) bytes c) → TellsAlike (seen disk).bytes (seen disk').bytes
      → journal'.limits ≡ journal.limits → IfSome (seen disk).bytes (λ bytes. StaysWithin moment left_since disk disk' (Leads journal.limits.body (Unacknowledged batch) bytes))
      → Adds {T = Unit {0}} may_leave moment left_since journal journal' disk disk' (seen disk).bytes (seen disk').bytes (batch ∷ []) (Ok tt)
  batch_adds journal journal' disk disk' batch now kept leads tells same within = record {
    stands = λ before k. batch_stands journal journal' (seen disk).bytes (seen disk').bytes (may_leave disk) (may_leave disk') batch now kept leads tells same before k;
    moments = λ before k. batch_moments moment left_since journal disk disk' (seen disk).bytes (may_leave disk) batch within before k;
  }

  -- nothing was done
  pub nothing_adds : {T : Type 0} (journal journal' : JournalSeen) (disk disk' : D) (added : List (List Event)) → journal' ≡ journal → disk' ≡ disk
      → Adds {T = T} may_leave moment left_since journal journal' disk disk' (seen disk).bytes (seen disk').bytes added (Err (stop.Fault fault_is.OutOfMemory))
  nothing_adds journal journal' disk disk' added same_journal same_disk = record {
    stands = λ before k. (
      k.0,
      ap (λ d. (seen d).bytes) same_disk ∙ k.1,
      none_more journal'.limits.body before added k.0
          (subst (λ (j : JournalSeen). Holds j.limits.body before k.0) (sym same_journal) (kept_holds journal k.0 (may_leave disk) before k.2)),
    );
    moments = λ before k. subst (λ d. StaysWithin moment left_since disk d (HoldsSome journal.limits.body before added)) (sym same_disk)
        (no_moments moment left_since journal disk (seen disk).bytes (may_leave disk) added (only_now disk) before k);
  }

  -- the disk failed
  pub failed_adds : {T : Type 0} (journal journal' : JournalSeen) (disk disk' : D) (batch : List Event) → (moment disk ≤ moment disk' → IfSome (seen disk').bytes (left_since disk' (moment disk)))
      → TellsAlike (seen disk).bytes (seen disk').bytes → journal'.limits ≡ journal.limits
      → IfSome (seen disk).bytes (λ bytes. StaysWithin moment left_since disk disk' (Leads journal.limits.body (Unacknowledged batch) bytes))
      → Adds {T = T} may_leave moment left_since journal journal' disk disk' (seen disk).bytes (seen disk').bytes (batch ∷ []) (Err stop.Disk)
  failed_adds journal journal' disk disk' batch reads tells same within = record {
    stands = λ before k.
        let m = batch_moments moment left_since journal disk disk' (seen disk).bytes (may_leave disk) batch within before k in
        let there = stands_among (HoldsSome journal.limits.body before (batch ∷ [])) (seen disk).bytes (seen disk').bytes (left_since disk' (moment disk)) tells (reads m.later) (λ c left. m.each c left) k.0 k.1 in
        (there.0, there.1, subst (λ l. HoldsSome l.body before (batch ∷ []) there.0) (sym same) there.2);
    moments = λ before k. batch_moments moment left_since journal disk disk' (seen disk).bytes (may_leave disk) batch within before k;
  }
