-- That what a disk in memory says of moments is as every disk's: proofs that the code cites.
use Rattle.std.proofs.Common.{◌≡◌, ◌≤◌, inl, ℕ, true, false, List, [], ◌∷◌, length, take, refl, sym, ap, subst, ◌∙◌, arith}
use Rattle.event_journal.specs.MemDisk.{after, content, leaves, MayLeave, LeftSince}
use Rattle.event_journal.specs.declared.mem_disk.DiskCall.{DiskCall}
use Rattle.event_journal.specs.declared.mem_disk.DiskCall.TheVariants.{Len, Read, Write, FailedWrite, Sync}

-- the bytes after a call are among those that a crash may leave then
pub reads_after : (bytes : List ℕ) (before : List ℕ → Type 0) (call : DiskCall) → before bytes → leaves bytes before call (after bytes call)
reads_after bytes before (Len failed) now = now
reads_after bytes before (Read at room failed) now = now
reads_after bytes before (Write at piece) now = inl refl
reads_after bytes before (FailedWrite at piece left) now = inl refl
reads_after bytes before (Sync true) now = now
reads_after bytes before (Sync false) now = refl

pub reads_one : (bytes : List ℕ) (before : List ℕ → Type 0) (made : List DiskCall) → before bytes → MayLeave bytes before made (content bytes made)
reads_one bytes before [] now = now
reads_one bytes before (call ∷ made) now = reads_one (after bytes call) (leaves bytes before call) made (reads_after bytes before call now)

take_whole : (made : List DiskCall) → take (length made) made ≡ made
take_whole [] = refl
take_whole (x ∷ made) = ap (λ (l : List DiskCall). x ∷ l) (take_whole made)

pub counts_now : (first : List ℕ) (made : List DiskCall) (t : ℕ) (c : List ℕ) → t ≤ length made → MayLeave first (λ b. b ≡ first) made c → LeftSince first made t c
counts_now first made t c le now = (length made, le, omega arith, subst (λ (l : List DiskCall). MayLeave first (λ b. b ≡ first) l c) (sym (take_whole made)) now)

pub only_now : (first : List ℕ) (made : List DiskCall) (c : List ℕ) → LeftSince first made (length made) c → MayLeave first (λ b. b ≡ first) made c
only_now first made c (n, from, to, left) =
    subst (λ (l : List DiskCall). MayLeave first (λ b. b ≡ first) l c) (ap (λ (k : ℕ). take k made) (omega (arith, from, to)) ∙ take_whole made) left
