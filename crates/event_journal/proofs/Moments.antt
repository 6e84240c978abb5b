-- How calls of a disk follow each other.
use Rattle.std.proofs.Common.{◌≡◌, ◌≤◌, ◌<◌, ◌+◌, inl, inr, ⊎_elim, ℕ, List, [], ◌∷◌, ◌++◌, length, take, drop, Option, None, Some, refl, sym, subst, arith}
use Rattle.std.specs.Prelude.{IfSome}
use Rattle.std.proofs.lemmas.List.{length-append, length-take}
use Rattle.event_journal.specs.Disk.{written, Passes, StaysWithin, LeavesJust, LeavesNoMore, LeavesTorn, IsTorn}
use Rattle.event_journal.specs.Writing.{staged, IsTornTwice}
use Rattle.event_journal.proofs.Torn.{torn_itself}

module _ {D : Type 0} (moment : D → ℕ) (left_since : D → ℕ → List ℕ → Type 0) where
  -- before the first call
  pub at_first : (disk : D) (P : List ℕ → Type 0) → ((c : List ℕ) → left_since disk (moment disk) c → P c) → StaysWithin moment left_since disk disk P
  at_first disk P here = record { later = omega arith; each = here; earlier = λ t c le left. inl left }

  -- one call more
  pub next_call : (old mid new : D) (P may_leave : List ℕ → Type 0) → StaysWithin moment left_since old mid P
      → Passes (moment mid) (moment new) (left_since mid) (left_since new) may_leave → ((c : List ℕ) → may_leave c → P c) → StaysWithin moment left_since old new P
  next_call old mid new P may_leave so_far time here = record {
    later = omega (arith, so_far.later, time.later);
    each = λ c left. ⊎_elim (so_far.each c) (here c) (time.no_more (moment old) c so_far.later left);
    earlier = λ t c le left. ⊎_elim (so_far.earlier t c le) (λ now. inr (here c now)) (time.no_more t c (omega (arith, le, so_far.later)) left);
  }

  -- one call alone
  pub one_call : (old new : D) (P may_leave : List ℕ → Type 0) → ((c : List ℕ) → left_since old (moment old) c → P c)
      → Passes (moment old) (moment new) (left_since old) (left_since new) may_leave → ((c : List ℕ) → may_leave c → P c) → StaysWithin moment left_since old new P
  one_call old new P may_leave first time here = next_call old old new P may_leave (at_first old P first) time here

  -- what was said of two stretches is said of both together
  pub joined : (old mid new : D) (P Q R : List ℕ → Type 0) → StaysWithin moment left_since old mid P → StaysWithin moment left_since mid new Q
      → ((c : List ℕ) → P c → R c) → ((c : List ℕ) → Q c → R c) → StaysWithin moment left_since old new R
  joined old mid new P Q R first second p q = record {
    later = omega (arith, first.later, second.later);
    each = λ c left. ⊎_elim (λ was. p c (first.each c was)) (λ now. q c now) (second.earlier (moment old) c first.later left);
    earlier = λ t c le left. ⊎_elim (λ was. ⊎_elim (λ past. inl past) (λ then. inr (p c then)) (first.earlier t c le was)) (λ now. inr (q c now)) (second.earlier t c (omega (arith, le, first.later)) left);
  }

  pub wider : (old new : D) (P R : List ℕ → Type 0) → StaysWithin moment left_since old new P → ((c : List ℕ) → P c → R c) → StaysWithin moment left_since old new R
  wider old new P R within p = record {
    later = within.later;
    each = λ c left. p c (within.each c left);
    earlier = λ t c le left. ⊎_elim (λ past. inl past) (λ now. inr (p c now)) (within.earlier t c le left);
  }

  -- a write alone
  pub one_write : (told : Option (List ℕ)) (old new : D) (at count : ℕ) (may now : List ℕ → Type 0) → ((c : List ℕ) → left_since old (moment old) c → may c)
      → LeavesTorn at count may now → Passes (moment old) (moment new) (left_since old) (left_since new) now
      → IfSome told (λ bytes. LeavesJust bytes may → StaysWithin moment left_since old new (IsTorn at count bytes))
  one_write None old new at count may now first torn time = tt
  one_write (Some bytes) old new at count may now first torn time = λ just.
      one_call old new (IsTorn at count bytes) now (λ c left. subst (IsTorn at count bytes) (sym (just c (first c left))) (torn_itself at count bytes)) time
      (λ c left. let was = torn c left in subst (λ (d : List ℕ). IsTorn at count d c) (just was.0 was.1) was.2)

  -- a write, and a sync
  pub write_and_sync : (told : Option (List ℕ)) (old mid new : D) (at count : ℕ) (may now then : List ℕ → Type 0) → ((c : List ℕ) → left_since old (moment old) c → may c)
      → LeavesTorn at count may now → Passes (moment old) (moment mid) (left_since old) (left_since mid) now
      → LeavesNoMore now then → Passes (moment mid) (moment new) (left_since mid) (left_since new) then
      → IfSome told (λ bytes. LeavesJust bytes may → StaysWithin moment left_since old new (IsTorn at count bytes))
  write_and_sync None old mid new at count may now then first torn time less later = tt
  write_and_sync (Some bytes) old mid new at count may now then first torn time less later = λ just.
      next_call old mid new (IsTorn at count bytes) then (one_write (Some bytes) old mid at count may now first torn time just) later
      (λ c left. let was = torn c (less c left) in subst (λ (d : List ℕ). IsTorn at count d c) (just was.0 was.1) was.2)

  -- the first of the two writes of a batch
  pub first_half : (told : Option (List ℕ)) (old new : D) (gate : ℕ) (piece : List ℕ) (may : List ℕ → Type 0)
      → IfSome told (λ bytes. LeavesJust bytes may → StaysWithin moment left_since old new (IsTorn (gate + 1) (length piece) bytes))
      → IfSome told (λ bytes. LeavesJust bytes may → StaysWithin moment left_since old new (IsTornTwice gate piece bytes))
  first_half None old new gate piece may h = tt
  first_half (Some bytes) old new gate piece may h = λ just. wider old new (IsTorn (gate + 1) (length piece) bytes) (IsTornTwice gate piece bytes) (h just) (λ c t. inl t)

  -- both of them
  pub both_halves : (told then : Option (List ℕ)) (old mid new : D) (gate : ℕ) (piece : List ℕ) (may now : List ℕ → Type 0)
      → IfSome told (λ bytes. LeavesJust bytes may → StaysWithin moment left_since old mid (IsTorn (gate + 1) (length piece) bytes))
      → IfSome told (λ bytes. then ≡ Some (staged bytes gate piece)) → IfSome then (λ bytes. LeavesJust bytes now)
      → IfSome then (λ bytes. LeavesJust bytes now → StaysWithin moment left_since mid new (IsTorn gate 1 bytes))
      → IfSome told (λ bytes. LeavesJust bytes may → StaysWithin moment left_since old new (IsTornTwice gate piece bytes))
  both_halves None then old mid new gate piece may now first is durable second = tt
  both_halves (Some bytes) then old mid new gate piece may now first is durable second = λ just.
      let kept : LeavesJust (staged bytes gate piece) now = subst (λ o. IfSome o (λ b. LeavesJust b now)) is durable in
      let torn = subst (λ o. IfSome o (λ b. LeavesJust b now → StaysWithin moment left_since mid new (IsTorn gate 1 b))) is second in
      joined old mid new (IsTorn (gate + 1) (length piece) bytes) (IsTorn gate 1 (staged bytes gate piece)) (IsTornTwice gate piece bytes) (first just) (torn kept) (λ c t. inl t) (λ c t. inr t)

staged_room : (bytes : List ℕ) (gate : ℕ) (piece : List ℕ) → gate < length bytes → gate ≤ length (staged bytes gate piece)
staged_room bytes gate piece inside =
    omega (
      arith,
      inside,
      length-append (take (gate + 1) bytes ++ piece) (drop (gate + 1 + length piece) bytes),
      length-append (take (gate + 1) bytes) piece,
      length-take (gate + 1) bytes,
    )

-- there is room for the gate once the piece stands there
pub gate_room : (told then : Option (List ℕ)) (gate : ℕ) (piece : List ℕ) → IfSome told (λ bytes. gate < length bytes) → (told ≡ None → then ≡ None)
    → IfSome told (λ bytes. then ≡ Some (staged bytes gate piece)) → IfSome then (λ bytes. gate ≤ length bytes)
gate_room None then gate piece inside none is = subst (λ o. IfSome o (λ bytes. gate ≤ length bytes)) (sym (none refl)) tt
gate_room (Some bytes) then gate piece inside none is = subst (λ o. IfSome o (λ b. gate ≤ length b)) (sym is) (staged_room bytes gate piece inside)

pub both_written : (told then now : Option (List ℕ)) (gate : ℕ) (piece : List ℕ) → IfSome told (λ bytes. then ≡ Some (staged bytes gate piece))
    → IfSome then (λ bytes. now ≡ Some (written bytes gate (1 ∷ []))) → IfSome told (λ bytes. now ≡ Some (written (staged bytes gate piece) gate (1 ∷ [])))
both_written None then now gate piece is h = tt
both_written (Some bytes) then now gate piece is h = subst (λ o. IfSome o (λ b. now ≡ Some (written b gate (1 ∷ [])))) is h
