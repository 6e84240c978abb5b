-- Which calls a disk in memory keeps.
use Rattle.std.proofs.Common.{◌≡◌, ◌≤◌, ◌⊎◌, inl, inr, ⊎_elim, ℕ, Bool, true, false, List, [], ◌∷◌, ◌++◌, length, refl, sym, subst, ◌∙◌, Result, Ok, Err, Vec}
use Rattle.std.specs.Prelude.{is_err}
use Rattle.std.specs.Global.{Global}
use Rattle.ew_outside.specs.Counts.{next}
use Rattle.ew_outside.specs.Memory.{Schedule, after_call}
use Rattle.ew_outside.specs.declared.fault.Failed.{Failed}
use Rattle.event_journal.specs.MemDisk.{MemDiskSeen, HasKept, HasStarved, KeepsCall, KeepsWrite}
use Rattle.event_journal.specs.declared.mem_disk.DiskCall.{DiskCall}
use Rattle.event_journal.specs.declared.mem_disk.DiskCall.TheVariants.{Write, FailedWrite}

-- the disk before a call is seen as its fields stand
module _ (old inside : MemDiskSeen) (is : inside ≡ old) where
  -- the disk after it
  abbrev pub seen_after : List DiskCall → ℕ → Schedule → MemDiskSeen
  seen_after made starved calls = record { first = inside.first; made = made; starved = starved; calls = calls; tear = inside.tear }

  -- a call that is no write
  pub noted_kept : {T : Type 0} (r : Result T Failed) (failed : Bool) (call : Bool → DiskCall) (fails : Bool) (made : List DiskCall) (starved : ℕ) (calls : Schedule)
      → is_err r ≡ failed → calls ≡ after_call inside.calls failed
      → ((failed ≡ fails) × (made ≡ inside.made ++ call fails ∷ []) × (starved ≡ inside.starved)) ⊎ ((failed ≡ true) × (made ≡ inside.made) × (starved ≡ next inside.starved))
      → KeepsCall old (seen_after made starved calls) (call (is_err r)) r
  noted_kept r failed call fails made starved calls is_failed counted noted =
      subst (λ (x : MemDiskSeen). KeepsCall x (seen_after made starved calls) (call (is_err r)) r) is (
        record { first = refl; tear = refl; calls = subst (λ (b : Bool). calls ≡ after_call inside.calls b) (sym is_failed) counted },
        ⊎_elim
            (λ (same, kept, quiet). inl (subst (λ (b : Bool). made ≡ inside.made ++ call b ∷ []) (sym (is_failed ∙ same)) kept, quiet))
            (λ (err, same, more). inr (is_failed ∙ err, (same, more)))
            noted,
      )

  -- a write
  pub write_kept : {T : Type 0} (x : T) (made : List DiskCall) (calls : Schedule) (at : ℕ) (piece : List ℕ) (v : Vec ℕ Global)
      → calls ≡ after_call inside.calls false → v.items ≡ piece → made ≡ inside.made ++ Write at v ∷ []
      → KeepsWrite old (seen_after made inside.starved calls) at piece (Ok x)
  write_kept x made calls at piece v counted items kept =
      subst (λ (s : MemDiskSeen). KeepsWrite s (seen_after made inside.starved calls) at piece (Ok x)) is
      (record { first = refl; tear = refl; calls = counted }, (v, items, (kept, refl)))

  -- a write that fails
  pub failed_write_kept : {T : Type 0} (made : List DiskCall) (starved : ℕ) (calls : Schedule) (at : ℕ) (piece : List ℕ) {e : Failed}
      → calls ≡ after_call inside.calls true
      → ((v : Vec ℕ Global) × (left : Vec ℕ Global) × (v.items ≡ piece) × (length left.items ≤ length piece) × HasKept inside (seen_after made starved calls) (FailedWrite at v left)) ⊎ HasStarved inside (seen_after made starved calls)
      → KeepsWrite {T = T} old (seen_after made starved calls) at piece (Err e)
  failed_write_kept {T} made starved calls at piece {e} counted kept =
      subst (λ (s : MemDiskSeen). KeepsWrite {T = T} s (seen_after made starved calls) at piece (Err e)) is (record { first = refl; tear = refl; calls = counted }, kept)
