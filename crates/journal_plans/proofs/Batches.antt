-- Events that are added in batches, each full but the last.
use Rattle.std.proofs.Common.{◌≡◌, ◌≤◌, ◌<◌, ◌+◌, ◌-◌, ℕ, suc, List, [], ◌∷◌, ◌++◌, take, drop, Option, Some, None, Ok, Err, refl, sym, ap, subst, ◌∙◌, append_assoc, append-nil, arith}
use Rattle.ew_model.specs.declared.event.Event.{Event}
use Rattle.ew_outside.specs.declared.fault.Fault.TheVariants as fault_is
use Rattle.event_journal.specs.Disk.{TellsAlike}
use Rattle.event_journal.specs.Journal.{JournalSeen}
use Rattle.event_journal.proofs.Moments.{wider}
use Rattle.peer_definitions.specs.Pieces.{pieces_from}
use Rattle.journal_plans.specs.Adding.{Adds, HoldsSome, IsKeptAs, StandsBy}
use Rattle.journal_plans.specs.Stops.{DiskCauses}
use Rattle.journal_plans.specs.declared.stop.Stop.{Stop}
use Rattle.journal_plans.specs.declared.stop.Stop.TheVariants as stop
use Rattle.journal_plans.proofs.Adding.{no_moments}
use Rattle.journal_plans.proofs.Joining.{adds_more, front_wider}

-- a piece more
pub next_batch : {X : Type 0} (n count counter : ℕ) (done : List (List X)) (xs batch behind : List X) (all : List (List X)) → counter < count → batch ≡ take n xs → behind ≡ drop n xs
    → done ++ pieces_from n (count - counter) xs ≡ all → (done ++ batch ∷ []) ++ pieces_from n (count - (counter + 1)) behind ≡ all
next_batch n count counter done xs batch behind all less first rest so_far =
    let left : suc (count - (counter + 1)) ≡ count - counter = omega (arith, less) in
    append_assoc done (batch ∷ []) (pieces_from n (count - (counter + 1)) behind)
    ∙ ap (λ b. done ++ (b ∷ pieces_from n (count - (counter + 1)) behind)) first
    ∙ ap (λ r. done ++ (take n xs ∷ pieces_from n (count - (counter + 1)) r)) rest
    ∙ ap (λ k. done ++ pieces_from n k xs) left
    ∙ so_far

-- the last piece
pub last_batch : {X : Type 0} (n count counter : ℕ) (done : List (List X)) (xs : List X) (all : List (List X)) → count ≤ counter → done ++ pieces_from n (count - counter) xs ≡ all → done ≡ all
last_batch n count counter done xs all end so_far =
    let none : count - counter ≡ 0 = omega (arith, end) in
    sym (append-nil done) ∙ ap (λ k. done ++ pieces_from n k xs) (sym none) ∙ so_far

-- a disk that tells its bytes after two steps told them before
pub tells_then : (old mid new : Option (List ℕ)) → TellsAlike old mid → TellsAlike mid new → TellsAlike old new
tells_then None mid new first second = subst (λ o. TellsAlike o new) first second
tells_then (Some bytes) mid new first second = subst (λ o. TellsAlike o new) first.1 second

pub tells_itself : (told : Option (List ℕ)) → TellsAlike told told
tells_itself None = refl
tells_itself (Some bytes) = (bytes, refl)

module _ {D : Type 0} (may_leave : D → List ℕ → Type 0) (moment : D → ℕ) (left_since : D → ℕ → List ℕ → Type 0) where
  -- nothing is added
  pub none_adds : (journal : JournalSeen) (disk : D) (told : Option (List ℕ)) → ((c : List ℕ) → left_since disk (moment disk) c → may_leave disk c)
      → Adds {T = Unit {0}} may_leave moment left_since journal journal disk disk told told [] (Ok tt)
  none_adds journal disk told only = record {
    stands = λ before k. subst (IsKeptAs journal told (may_leave disk)) (sym (append-nil before)) k;
    moments = λ before k. no_moments moment left_since journal disk told (may_leave disk) [] only before k;
  }

  stands_wider : (T : Type 0) (journal : JournalSeen) (told : Option (List ℕ)) (may : List ℕ → Type 0) (before added more : List (List Event)) (faults faults' : ℕ) (why : Stop) → DiskCauses {T = T} faults faults' (Err why)
      → StandsBy {T = T} journal told may before added (Err why) → StandsBy {T = T} journal told may before (added ++ more) (Err why)
  stands_wider T journal told may before added more faults faults' stop.Disk cause h = (h.0, h.1, front_wider journal.limits.body before added more h.0 h.2)
  stands_wider T journal told may before added more faults faults' (stop.Fault fault_is.OutOfMemory) cause h = (h.0, h.1, front_wider journal.limits.body before added more h.0 h.2)
  stands_wider T journal told may before added more faults faults' (stop.Fault fault_is.Sink) cause h = absurd cause
  stands_wider T journal told may before added more faults faults' (stop.Fault fault_is.Shelf) cause h = absurd cause
  stands_wider T journal told may before added more faults faults' (stop.Fault fault_is.Source) cause h = absurd cause

  -- where adding was stopped, more was to be added
  pub adds_wider : {T : Type 0} (journal journal' : JournalSeen) (disk disk' : D) (told told' : Option (List ℕ)) (added more : List (List Event)) (faults faults' : ℕ) (why : Stop) → DiskCauses {T = T} faults faults' (Err why)
      → Adds {T = T} may_leave moment left_since journal journal' disk disk' told told' added (Err why) → Adds {T = T} may_leave moment left_since journal journal' disk disk' told told' (added ++ more) (Err why)
  adds_wider {T = T} journal journal' disk disk' told told' added more faults faults' why cause h = record {
    stands = λ before k. stands_wider T journal' told' (may_leave disk') before added more faults faults' why cause (h.stands before k);
    moments = λ before k. wider moment left_since disk disk' (HoldsSome journal.limits.body before added) (HoldsSome journal.limits.body before (added ++ more)) (h.moments before k)
        (λ c some. front_wider journal.limits.body before added more c some);
  }

  -- a batch is stopped behind those that stand
  pub batch_stops : (journal mid journal' : JournalSeen) (disk between disk' : D) (told at told' : Option (List ℕ)) (done more all : List (List Event)) (batch : List Event) (faults faults' : ℕ) (why : Stop)
      → mid.limits ≡ journal.limits → Adds {T = Unit {0}} may_leave moment left_since journal mid disk between told at done (Ok tt)
      → Adds {T = Unit {0}} may_leave moment left_since mid journal' between disk' at told' (batch ∷ []) (Err why) → DiskCauses {T = Unit {0}} faults faults' (Err why) → (done ++ batch ∷ []) ++ more ≡ all
      → Adds {T = Unit {0}} may_leave moment left_since journal journal' disk disk' told told' all (Err why)
  batch_stops journal mid journal' disk between disk' told at told' done more all batch faults faults' why same first second cause whole =
      subst (λ xs. Adds {T = Unit {0}} may_leave moment left_since journal journal' disk disk' told told' xs (Err why)) whole
      (adds_wider journal journal' disk disk' told told' (done ++ batch ∷ []) more faults faults' why cause
      (adds_more may_leave moment left_since journal mid journal' disk between disk' told at told' done (batch ∷ []) tt (Err why) same first second))
