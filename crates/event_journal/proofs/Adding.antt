-- What a journal is after a batch was added, and what a crash leaves of it.
use Rattle.std.proofs.Common.{◌≡◌, ℕ, ◌+◌, List, [], ◌∷◌, ◌++◌, length, Option, Some, None, refl, sym, ap, subst, arith}
use Rattle.std.specs.Prelude.{IfSome}
use Rattle.std.proofs.lemmas.List.{length-append}
use Rattle.ew_model.specs.declared.event.Event.{Event}
use Rattle.ew_model.specs.Bytes.{four_bytes}
use Rattle.peer_definitions.specs.Spelling.{events_body}
use Rattle.peer_definitions.specs.Batches.{IsBatch, journal_events}
use Rattle.peer_frames.proofs.Journals.{one_journal}
use Rattle.event_journal.specs.Disk.{written, LeavesJust, StaysWithin}
use Rattle.event_journal.specs.Journal.{JournalSeen, IsKept, IsKeptOn, Holds, HoldsOneMoreAtMost}
use Rattle.event_journal.specs.LastingLaw.{Leads}
use Rattle.event_journal.specs.LastingLaw.Step.{Acknowledged, Unacknowledged}
use Rattle.event_journal.specs.Writing.{staged, IsTornTwice}
use Rattle.event_journal.proofs.Moments.{wider}
use Rattle.event_journal.proofs.Torn.{rest_holds, torn_twice, rests_after, events_pushed}

-- what comes behind a batch's gate
abbrev pub IsPiece : List ℕ → List Event → Type 0
IsPiece piece batch = piece ≡ four_bytes (length (events_body batch)) ++ events_body batch ++ 0 ∷ []

module _ (journal : JournalSeen) (batch : List Event) (piece : List ℕ) (is_batch : IsBatch journal.limits.body batch) (is_piece : IsPiece piece batch) where
  -- the batches are those that the journal knows
  known : (bytes : List ℕ) (may : List ℕ → Type 0) (batches others : List (List Event)) → IsKept journal bytes may batches → Holds journal.limits.body others bytes → others ≡ batches
  known bytes may batches others kept holds = (one_journal journal.limits.body bytes others batches None None holds (rest_holds journal.limits.body bytes batches journal.gate kept.at_rest)).0

  pub at_each_moment : {D : Type 0} (moment : D → ℕ) (left_since : D → ℕ → List ℕ → Type 0) (old new : D) (told : Option (List ℕ)) (may : List ℕ → Type 0) → IsKeptOn journal told may
      → IfSome told (λ bytes. LeavesJust bytes may → StaysWithin moment left_since old new (IsTornTwice journal.gate piece bytes))
      → IfSome told (λ bytes. StaysWithin moment left_since old new (Leads journal.limits.body (Unacknowledged batch) bytes))
  at_each_moment moment left_since old new None may kept within = tt
  at_each_moment moment left_since old new (Some bytes) may (batches, kept) within =
      wider moment left_since old new (IsTornTwice journal.gate piece bytes) (Leads journal.limits.body (Unacknowledged batch) bytes) (within kept.durable)
      (λ c torn others holds. subst (λ bs. HoldsOneMoreAtMost journal.limits.body bs batch c) (sym (known bytes may batches others kept holds)) (torn_twice journal.limits.body bytes batches journal.gate kept.at_rest batch piece is_batch is_piece c torn))

  -- what a crash leaves after it
  pub acknowledged : (told then : Option (List ℕ)) (may now : List ℕ → Type 0) → IsKeptOn journal told may
      → IfSome told (λ bytes. then ≡ Some (written (staged bytes journal.gate piece) journal.gate (1 ∷ []))) → IfSome then (λ bytes. LeavesJust bytes now)
      → IfSome told (λ bytes. (c : List ℕ) → now c → Leads journal.limits.body (Acknowledged batch) bytes c)
  acknowledged None then may now kept is durable = tt
  acknowledged (Some bytes) then may now (batches, kept) is durable = λ c left others holds.
      let done = written (staged bytes journal.gate piece) journal.gate (1 ∷ []) in
      let just : LeavesJust done now = subst (λ o. IfSome o (λ b. LeavesJust b now)) is durable in
      let rests = rests_after journal.limits.body bytes batches journal.gate kept.at_rest batch piece is_batch is_piece in
      subst (λ bs. Holds journal.limits.body (bs ++ batch ∷ []) c) (sym (known bytes may batches others kept holds))
      (subst (Holds journal.limits.body (batches ++ batch ∷ [])) (sym (just c left)) (rest_holds journal.limits.body done (batches ++ batch ∷ []) (journal.gate + length piece) rests))

  -- the disk is as the journal has it
  pub kept_after : (told then : Option (List ℕ)) (may now : List ℕ → Type 0) → IsKeptOn journal told may → (told ≡ None → then ≡ None)
      → IfSome told (λ bytes. then ≡ Some (written (staged bytes journal.gate piece) journal.gate (1 ∷ []))) → IfSome then (λ bytes. LeavesJust bytes now)
      → IsKeptOn (record { limits = journal.limits; gate = journal.gate + length piece; count = journal.count + length batch; failed = journal.failed }) then now
  kept_after None then may now kept none is durable = subst (λ o. IsKeptOn (record { limits = journal.limits; gate = journal.gate + length piece; count = journal.count + length batch; failed = journal.failed }) o now) (sym (none refl)) tt
  kept_after (Some bytes) then may now (batches, kept) none is durable =
      let done = written (staged bytes journal.gate piece) journal.gate (1 ∷ []) in
      let just : LeavesJust done now = subst (λ o. IfSome o (λ b. LeavesJust b now)) is durable in
      subst (λ o. IsKeptOn (record { limits = journal.limits; gate = journal.gate + length piece; count = journal.count + length batch; failed = journal.failed }) o now) (sym is) (
        batches ++ batch ∷ [],
        record {
          at_rest = rests_after journal.limits.body bytes batches journal.gate kept.at_rest batch piece is_batch is_piece;
          counted = omega (arith, kept.counted, ap length (events_pushed batches batch), length-append (journal_events batches) batch);
          durable = just;
        },
      )
