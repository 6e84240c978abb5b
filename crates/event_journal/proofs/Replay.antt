-- A disk in memory after one more call.
use Rattle.std.proofs.Common.{◌≡◌, ◌≤◌, ◌<◌, ◌+◌, ◌-◌, ◌⊎◌, inl, inr, ⊎_elim, ℕ, Bool, true, false, List, [], ◌∷◌, ◌++◌, length, take, drop, Vec, refl, sym, ap, subst, ◌∙◌, arith, append_assoc}
use Rattle.std.proofs.lemmas.List.{take_at, drop_at, drop-drop, length-append, length-take, length-drop, take-append-le}
use Rattle.std.proofs.lemmas.Bool.{cases_lt}
use Rattle.std.specs.declared.alloc.Global.{Global}
use Rattle.event_journal.specs.Disk.{written, IsTorn, Passes, LeavesJust, LeavesNoMore, LeavesTorn}
use Rattle.event_journal.specs.MemDisk.{MemDiskSeen, after, content, leaves, IsTornFrom, MayLeave, LeftSince}
use Rattle.event_journal.specs.Replay.{reads_one, only_now}
use Rattle.event_journal.proofs.Torn.{torn_itself}
use Rattle.event_journal.specs.declared.mem_disk.DiskCall.{DiskCall}
use Rattle.event_journal.specs.declared.mem_disk.DiskCall.TheVariants.{Len, Read, Write, FailedWrite, Sync}

pub content_pushed : (bytes : List ℕ) (made : List DiskCall) (call : DiskCall) → content bytes (made ++ call ∷ []) ≡ after (content bytes made) call
content_pushed bytes [] call = refl
content_pushed bytes (first ∷ made) call = content_pushed (after bytes first) made call

pub leaves_pushed : (bytes : List ℕ) (before : List ℕ → Type 0) (made : List DiskCall) (call : DiskCall) (c : List ℕ)
    → MayLeave bytes before (made ++ call ∷ []) c → leaves (content bytes made) (MayLeave bytes before made) call c
leaves_pushed bytes before [] call c left = left
leaves_pushed bytes before (first ∷ made) call c left = leaves_pushed (after bytes first) (leaves bytes before first) made call c left

pub passes_same : (first : List ℕ) (made : List DiskCall) → Passes (length made) (length made) (LeftSince first made) (LeftSince first made) (λ c. MayLeave first (λ b. b ≡ first) made c)
passes_same first made = record { later = omega arith; no_more = λ t c le left. inl left; kept = λ t c le left. left }

pub passes_pushed : (first : List ℕ) (made : List DiskCall) (call : DiskCall)
    → Passes (length made) (length (made ++ call ∷ [])) (LeftSince first made) (LeftSince first (made ++ call ∷ [])) (λ c. MayLeave first (λ b. b ≡ first) (made ++ call ∷ []) c)
passes_pushed first made call = record {
  later = omega (arith, length-append made (call ∷ []));
  no_more = λ t c le left. past_or_now t c left;
  kept = λ t c le (n, from, to, left).
      (n, from, omega (arith, to, length-append made (call ∷ [])), subst (λ (l : List DiskCall). MayLeave first (λ b. b ≡ first) l c) (sym (take-append-le n made (call ∷ []) to)) left);
}
  where
    past_or_now : (t : ℕ) (c : List ℕ) → LeftSince first (made ++ call ∷ []) t c → LeftSince first made t c ⊎ MayLeave first (λ b. b ≡ first) (made ++ call ∷ []) c
    past_or_now t c (n, from, to, left) =
        ⊎_elim
        (λ (more : length made < n). inr (only_now first (made ++ call ∷ []) c (n, omega (arith, more, length-append made (call ∷ [])), to, left)))
        (λ (le : n ≤ length made). inl (n, from, le, subst (λ (l : List DiskCall). MayLeave first (λ b. b ≡ first) l c) (take-append-le n made (call ∷ []) le) left))
        (cases_lt (length made) n)

torn_written : (at : ℕ) (bytes piece : List ℕ) → at ≤ length bytes → IsTorn at (length piece) bytes (written bytes at piece)
torn_written at bytes piece inside = record {
  before = ap (λ (l : List ℕ). take at l) (append_assoc (take at bytes) piece (drop (at + length piece) bytes)) ∙ take_at (take at bytes) (piece ++ drop (at + length piece) bytes) at front;
  after = drop_at (take at bytes ++ piece) (drop (at + length piece) bytes) (at + length piece) (omega (arith, front, length-append (take at bytes) piece));
  no_shorter = omega (arith, front, whole, length-append (take at bytes) piece, length-drop (at + length piece) bytes);
  no_longer = omega (arith, front, whole, inside, length-append (take at bytes) piece, length-drop (at + length piece) bytes);
}
  where
    front : length (take at bytes) ≡ at
    front = omega (arith, length-take at bytes, inside)

    whole : length (written bytes at piece) ≡ length (take at bytes ++ piece) + length (drop (at + length piece) bytes)
    whole = length-append (take at bytes ++ piece) (drop (at + length piece) bytes)

-- a piece that is no longer is written in place of another
pub torn_by : (at : ℕ) (bytes piece other : List ℕ) → at ≤ length bytes → length other ≤ length piece → IsTorn at (length piece) bytes (written bytes at other)
torn_by at bytes piece other inside short =
    let torn = torn_written at bytes other inside in
    record {
      before = torn.before;
      after =
          ap (λ (n : ℕ). drop n (written bytes at other)) (omega (arith, short)) ∙ sym (drop-drop (length piece - length other) (at + length other) (written bytes at other)) ∙ ap (λ (l : List ℕ). drop (length piece - length other) l) torn.after
          ∙ drop-drop (length piece - length other) (at + length other) bytes ∙ ap (λ (n : ℕ). drop n bytes) (omega (arith, short));
      no_shorter = torn.no_shorter;
      no_longer = omega (arith, torn.no_longer, short);
    }

-- the call is kept behind the others, or it isn't, for want of memory
abbrev pub IsNoted : List DiskCall → List DiskCall → DiskCall → Type 0
IsNoted made later call = (later ≡ made) ⊎ (later ≡ made ++ call ∷ [])

-- a call that changes nothing
abbrev pub IsIdle : DiskCall → Type 0
IsIdle call = (bytes : List ℕ) → after bytes call ≡ bytes

pub noted_same : (first : List ℕ) (made later : List DiskCall) (call : DiskCall) → IsIdle call → IsNoted made later call → content first later ≡ content first made
noted_same first made later call idle (inl same) = ap (λ (l : List DiskCall). content first l) same
noted_same first made later call idle (inr pushed) = ap (λ (l : List DiskCall). content first l) pushed ∙ content_pushed first made call ∙ idle (content first made)

-- the disk before a call is seen as its fields stand
module _ (old inside : MemDiskSeen) (is : inside ≡ old) where
  pub time_same : Passes (length old.made) (length inside.made) (LeftSince old.first old.made) (LeftSince inside.first inside.made) (λ c. MayLeave inside.first (λ b. b ≡ inside.first) inside.made c)
  time_same =
      subst (λ (x : MemDiskSeen). Passes (length x.made) (length inside.made) (LeftSince x.first x.made) (LeftSince inside.first inside.made) (λ c. MayLeave inside.first (λ b. b ≡ inside.first) inside.made c)) is (passes_same inside.first inside.made)

  pub time_after : (later : List DiskCall) → later ≡ inside.made → Passes (length old.made) (length later) (LeftSince old.first old.made) (LeftSince inside.first later) (λ c. MayLeave inside.first (λ b. b ≡ inside.first) later c)
  time_after later same =
      subst (λ (l : List DiskCall). Passes (length old.made) (length l) (LeftSince old.first old.made) (LeftSince inside.first l) (λ c. MayLeave inside.first (λ b. b ≡ inside.first) l c)) (sym same) time_same

  pub content_same : (later : List DiskCall) → later ≡ inside.made → content inside.first later ≡ content old.first old.made
  content_same later same = ap (λ (l : List DiskCall). content inside.first l) same ∙ ap (λ (x : MemDiskSeen). content x.first x.made) is

  pub less_same : (later : List DiskCall) → later ≡ inside.made → LeavesNoMore (MayLeave old.first (λ b. b ≡ old.first) old.made) (MayLeave inside.first (λ b. b ≡ inside.first) later)
  less_same later same = λ c left.
      subst (λ (x : MemDiskSeen). MayLeave x.first (λ b. b ≡ x.first) x.made c) is (subst (λ (l : List DiskCall). MayLeave inside.first (λ b. b ≡ inside.first) l c) same left)

  pub torn_same : (at count : ℕ) (later : List DiskCall) → later ≡ inside.made → LeavesTorn at count (MayLeave old.first (λ b. b ≡ old.first) old.made) (MayLeave inside.first (λ b. b ≡ inside.first) later)
  torn_same at count later same = λ c left. (c, less_same later same c left, torn_itself at count c)

  module _ (later : List DiskCall) (call : DiskCall) (pushed : later ≡ inside.made ++ call ∷ []) where
    pub time_pushed : Passes (length old.made) (length later) (LeftSince old.first old.made) (LeftSince inside.first later) (λ c. MayLeave inside.first (λ b. b ≡ inside.first) later c)
    time_pushed =
        subst (λ (x : MemDiskSeen). Passes (length x.made) (length later) (LeftSince x.first x.made) (LeftSince inside.first later) (λ c. MayLeave inside.first (λ b. b ≡ inside.first) later c)) is
        (subst (λ (l : List DiskCall). Passes (length inside.made) (length l) (LeftSince inside.first inside.made) (LeftSince inside.first l) (λ c. MayLeave inside.first (λ b. b ≡ inside.first) l c)) (sym pushed) (passes_pushed inside.first inside.made call))

    pub content_then : content inside.first later ≡ after (content old.first old.made) call
    content_then = ap (λ (l : List DiskCall). content inside.first l) pushed ∙ content_pushed inside.first inside.made call ∙ ap (λ (x : MemDiskSeen). after (content x.first x.made) call) is

    pub leaves_then : (c : List ℕ) → MayLeave inside.first (λ b. b ≡ inside.first) later c → leaves (content old.first old.made) (MayLeave old.first (λ b. b ≡ old.first) old.made) call c
    leaves_then c left =
        subst (λ (x : MemDiskSeen). leaves (content x.first x.made) (MayLeave x.first (λ b. b ≡ x.first) x.made) call c) is
        (leaves_pushed inside.first (λ b. b ≡ inside.first) inside.made call c (subst (λ (l : List DiskCall). MayLeave inside.first (λ b. b ≡ inside.first) l c) pushed left))

  -- ---- calls that change nothing

  pub time_noted : (later : List DiskCall) (call : DiskCall) → IsNoted inside.made later call
      → Passes (length old.made) (length later) (LeftSince old.first old.made) (LeftSince inside.first later) (λ c. MayLeave inside.first (λ b. b ≡ inside.first) later c)
  time_noted later call (inl same) = time_after later same
  time_noted later call (inr pushed) = time_pushed later call pushed

  pub content_noted : (later : List DiskCall) (call : DiskCall) → IsIdle call → IsNoted inside.made later call → content inside.first later ≡ content old.first old.made
  content_noted later call idle noted = noted_same inside.first inside.made later call idle noted ∙ ap (λ (x : MemDiskSeen). content x.first x.made) is

  pub less_noted : (later : List DiskCall) (call : DiskCall)
      → ((c : List ℕ) → leaves (content old.first old.made) (MayLeave old.first (λ b. b ≡ old.first) old.made) call c → MayLeave old.first (λ b. b ≡ old.first) old.made c)
      → IsNoted inside.made later call → LeavesNoMore (MayLeave old.first (λ b. b ≡ old.first) old.made) (MayLeave inside.first (λ b. b ≡ inside.first) later)
  less_noted later call idle (inl same) = less_same later same
  less_noted later call idle (inr pushed) = λ c left. idle c (leaves_then later call pushed c left)

  -- ---- syncs

  pub synced_just : (later : List DiskCall) → later ≡ inside.made ++ Sync false ∷ [] → LeavesJust (content old.first old.made) (MayLeave inside.first (λ b. b ≡ inside.first) later)
  synced_just later pushed = λ c left. leaves_then later (Sync false) pushed c left

  pub synced_false : (later : List DiskCall) (failed : Bool) → failed ≡ false → later ≡ inside.made ++ Sync failed ∷ [] → later ≡ inside.made ++ Sync false ∷ []
  synced_false later failed succeeds pushed = pushed ∙ ap (λ (b : Bool). inside.made ++ Sync b ∷ []) succeeds

  pub synced_less : (failed : Bool) (c : List ℕ) → leaves (content old.first old.made) (MayLeave old.first (λ b. b ≡ old.first) old.made) (Sync failed) c → MayLeave old.first (λ b. b ≡ old.first) old.made c
  synced_less true c left = left
  synced_less false c left = subst (MayLeave old.first (λ b. b ≡ old.first) old.made) (sym left) (reads_one old.first (λ b. b ≡ old.first) old.made refl)

  -- ---- writes

  -- what stands there is torn, and what is torn may be so from longer on
  torn_from : (at : ℕ) (piece kept stands : List ℕ) → kept ≡ piece → length stands ≤ length piece → at ≤ length (content old.first old.made) → (c : List ℕ)
      → (c ≡ written (content old.first old.made) at stands) ⊎ IsTornFrom (MayLeave old.first (λ b. b ≡ old.first) old.made) at (length kept) c
      → IsTornFrom (MayLeave old.first (λ b. b ≡ old.first) old.made) at (length piece) c
  torn_from at piece kept stands same short room c (inl whole) =
      (content old.first old.made, reads_one old.first (λ b. b ≡ old.first) old.made refl, subst (IsTorn at (length piece) (content old.first old.made)) (sym whole) (torn_by at (content old.first old.made) piece stands room short))
  torn_from at piece kept stands same short room c (inr torn) = subst (λ (p : List ℕ). IsTornFrom (MayLeave old.first (λ b. b ≡ old.first) old.made) at (length p) c) same torn

  pub torn_pushed : (later : List DiskCall) (at : ℕ) (piece : List ℕ) (v : Vec ℕ Global) → v.items ≡ piece → later ≡ inside.made ++ Write at v ∷ [] → at ≤ length (content old.first old.made)
      → LeavesTorn at (length piece) (MayLeave old.first (λ b. b ≡ old.first) old.made) (MayLeave inside.first (λ b. b ≡ inside.first) later)
  torn_pushed later at piece v items pushed room = λ c left. torn_from at piece v.items v.items items (omega (arith, ap length items)) room c (leaves_then later (Write at v) pushed c left)

  pub torn_failed : (later : List DiskCall) (at : ℕ) (piece : List ℕ) (v stands : Vec ℕ Global) → v.items ≡ piece → length stands.items ≤ length piece → later ≡ inside.made ++ FailedWrite at v stands ∷ []
      → at ≤ length (content old.first old.made) → LeavesTorn at (length piece) (MayLeave old.first (λ b. b ≡ old.first) old.made) (MayLeave inside.first (λ b. b ≡ inside.first) later)
  torn_failed later at piece v stands items short pushed room = λ c left. torn_from at piece v.items stands.items items short room c (leaves_then later (FailedWrite at v stands) pushed c left)

  -- what is read after a write that failed
  pub failed_torn : (later : List DiskCall) (at : ℕ) (piece : List ℕ) (v stands : Vec ℕ Global) → length stands.items ≤ length piece → later ≡ inside.made ++ FailedWrite at v stands ∷ []
      → at ≤ length (content old.first old.made) → IsTorn at (length piece) (content old.first old.made) (content inside.first later)
  failed_torn later at piece v stands short pushed room =
      subst (IsTorn at (length piece) (content old.first old.made)) (sym (content_then later (FailedWrite at v stands) pushed)) (torn_by at (content old.first old.made) piece stands.items room short)

  pub failed_same : (later : List DiskCall) (at count : ℕ) → later ≡ inside.made → IsTorn at count (content old.first old.made) (content inside.first later)
  failed_same later at count same = subst (IsTorn at count (content old.first old.made)) (sym (content_same later same)) (torn_itself at count (content old.first old.made))

-- ---- images

image_then : (bytes : List ℕ) (before : List ℕ → Type 0) (call : DiskCall) (image c : List ℕ) → before image → leaves bytes (λ b. b ≡ image) call c → leaves bytes before call c
image_then bytes before (Len failed) image c was left = subst before (sym left) was
image_then bytes before (Read at room failed) image c was left = subst before (sym left) was
image_then bytes before (Write at piece) image c was left = ⊎_elim (λ whole. inl whole) (λ (d, is, torn). inr (image, was, subst (λ (l : List ℕ). IsTorn at (length piece.items) l c) is torn)) left
image_then bytes before (FailedWrite at piece stands) image c was left = ⊎_elim (λ whole. inl whole) (λ (d, is, torn). inr (image, was, subst (λ (l : List ℕ). IsTorn at (length piece.items) l c) is torn)) left
image_then bytes before (Sync true) image c was left = subst before (sym left) was
image_then bytes before (Sync false) image c was left = left

pub image_pushed : (bytes : List ℕ) (before : List ℕ → Type 0) (made : List DiskCall) (call : DiskCall) (image c : List ℕ)
    → MayLeave bytes before made image → leaves (content bytes made) (λ b. b ≡ image) call c → MayLeave bytes before (made ++ call ∷ []) c
image_pushed bytes before [] call image c was left = image_then bytes before call image c was left
image_pushed bytes before (first ∷ made) call image c was left = image_pushed (after bytes first) (leaves bytes before first) made call image c was left
