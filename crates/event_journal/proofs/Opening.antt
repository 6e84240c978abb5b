-- What a crash leaves while a journal is opened, and that its batches stay.
use Rattle.std.proofs.Common.{◌≡◌, ◌≤◌, ℕ, ◌<◌, List, length, Option, None, Some, ap, subst, sym, arith}
use Rattle.std.specs.Prelude.{IfSome}
use Rattle.event_journal.specs.Disk.{LeavesJust, LeavesNoMore, Passes, StaysWithin, IsTorn}
use Rattle.event_journal.specs.Journal.{HoldSame}
use Rattle.event_journal.specs.Reading.{IsWhole}
use Rattle.event_journal.proofs.Moments.{one_call, joined}
use Rattle.event_journal.proofs.Torn.{same_itself, short_same}

-- bytes that stay hold the same batches
pub same_told : (most : ℕ) (told after : Option (List ℕ)) → after ≡ told → IfSome told (λ bytes. IfSome after (HoldSame most bytes))
same_told most None after same = tt
same_told most (Some bytes) after same = subst (λ o. IfSome o (HoldSame most bytes)) (sym same) (same_itself most bytes)

-- what is said of one option's bytes follows of what they have
pub some_then : (told : Option (List ℕ)) (P Q : List ℕ → Type 0) → ((c : List ℕ) → P c → Q c) → IfSome told P → IfSome told Q
some_then None P Q f h = tt
some_then (Some c) P Q f h = f c h

short_pair : (most : ℕ) (bytes : List ℕ) (after : Option (List ℕ)) → length bytes < 2 → IfSome after (λ c. length c < 2) → IfSome after (HoldSame most bytes)
short_pair most bytes after less h = some_then after (λ c. length c < 2) (HoldSame most bytes) (λ c fewer. short_same most bytes c less fewer) h

module _ {D : Type 0} (moment : D → ℕ) (left_since : D → ℕ → List ℕ → Type 0) (most : ℕ) (old synced read : D) (may then now : List ℕ → Type 0)
    (only_now : (c : List ℕ) → left_since old (moment old) c → may c) (less : LeavesNoMore may then) (time : Passes (moment old) (moment synced) (left_since old) (left_since synced) then)
    (reading : StaysWithin moment left_since synced read then) where
  pub opened_read : StaysWithin moment left_since old read (λ c. (d : List ℕ) × may d × HoldSame most d c)
  opened_read =
      joined moment left_since old synced read may then (λ c. (d : List ℕ) × may d × HoldSame most d c) (one_call moment left_since old synced may then only_now time less) reading
      (λ c m. (c, m, same_itself most c)) (λ c m. (c, less c m, same_itself most c))

  pub told_read : (told : Option (List ℕ)) → IfSome told (λ _. StaysWithin moment left_since old read (λ c. (d : List ℕ) × may d × HoldSame most d c))
  told_read None = tt
  told_read (Some bytes) = opened_read

  -- a closed gate is written over fewer than 2 bytes
  pub told_written : (new : D) (told after : Option (List ℕ)) (items : List ℕ) → after ≡ told → IfSome told may → IfSome told (λ bytes. LeavesJust bytes then) → LeavesNoMore then now → IsWhole told items → length items < 2
      → IfSome after (λ bytes. LeavesJust bytes now → StaysWithin moment left_since read new (IsTorn 0 1 bytes))
      → IfSome told (λ _. StaysWithin moment left_since old new (λ c. (d : List ℕ) × may d × HoldSame most d c))
  told_written new None after items same reads durable fewer whole short writing = tt
  told_written new (Some bytes) after items same reads durable fewer whole short writing =
      let size : length bytes < 2 = omega (arith, ap length whole, short) in
      let within = subst (λ o. IfSome o (λ b. LeavesJust b now → StaysWithin moment left_since read new (IsTorn 0 1 b))) same writing in
      joined moment left_since old read new (λ c. (d : List ℕ) × may d × HoldSame most d c) (IsTorn 0 1 bytes) (λ c. (d : List ℕ) × may d × HoldSame most d c) opened_read (within (λ c m. durable c (fewer c m)))
      (λ c k. k) (λ c torn. (bytes, reads, short_same most bytes c size (omega (arith, torn.no_longer, size))))

  -- and what stands there then holds none, as before
  pub same_written : (new : D) (told after written : Option (List ℕ)) (items : List ℕ) → after ≡ told → IfSome told (λ bytes. LeavesJust bytes then) → LeavesNoMore then now → IsWhole told items
      → length items < 2 → IfSome after (λ bytes. LeavesJust bytes now → StaysWithin moment left_since read new (IsTorn 0 1 bytes))
      → (moment read ≤ moment new → IfSome written (left_since new (moment read))) → IfSome told (λ bytes. IfSome written (HoldSame most bytes))
  same_written new None after written items same durable fewer whole short writing reads = tt
  same_written new (Some bytes) after written items same durable fewer whole short writing reads =
      let size : length bytes < 2 = omega (arith, ap length whole, short) in
      let within = subst (λ o. IfSome o (λ b. LeavesJust b now → StaysWithin moment left_since read new (IsTorn 0 1 b))) same writing in
      let stays = within (λ c m. durable c (fewer c m)) in
      short_pair most bytes written size
      (some_then written (left_since new (moment read)) (λ c. length c < 2) (λ c left. let torn = stays.each c left in omega (arith, torn.no_longer, size)) (reads stays.later))
