-- What a crash leaves of a journal while a batch is added, and while it is opened.
use Rattle.std.proofs.Common.{◌≡◌, inl, inr, ℕ, zero, suc, ◌+◌, ◌<◌, ◌≤◌, List, [], ◌∷◌, ◌++◌, length, get_or, take, drop, refl, sym, ◌∙◌, ap, subst, arith, append_assoc, append-nil, take-append-drop}
use Rattle.std.specs.List.{AllByRecursion}
use Rattle.std.proofs.lemmas.List.{take_at, drop_at, drop_more, length-append}
use Rattle.ew_model.specs.declared.event.Event.{Event}
use Rattle.ew_model.specs.Bytes.{four_bytes}
use Rattle.ew_model.proofs.BaseLaws.{joined_all}
use Rattle.peer_definitions.specs.Spelling.{events_body}
use Rattle.peer_definitions.specs.Batches.{IsBatch, batch_bytes, journal_bytes, journal_events}
use Rattle.event_journal.specs.Disk.{written, IsTorn}
use Rattle.event_journal.specs.Journal.{RestsAt, Holds, HoldsOneMoreAtMost, HoldSame}
use Rattle.event_journal.specs.Writing.{staged, IsTornTwice}

-- ---- lists of batches

bytes_both : (xs ys : List (List Event)) → journal_bytes (xs ++ ys) ≡ journal_bytes xs ++ journal_bytes ys
bytes_both [] ys = refl
bytes_both (x ∷ xs) ys = ap (λ (l : List ℕ). batch_bytes x ++ l) (bytes_both xs ys) ∙ sym (append_assoc (batch_bytes x) (journal_bytes xs) (journal_bytes ys))

pub bytes_pushed : (batches : List (List Event)) (batch : List Event) → journal_bytes (batches ++ batch ∷ []) ≡ journal_bytes batches ++ batch_bytes batch
bytes_pushed batches batch = bytes_both batches (batch ∷ []) ∙ ap (λ (l : List ℕ). journal_bytes batches ++ l) (append-nil (batch_bytes batch))

events_both : (xs ys : List (List Event)) → journal_events (xs ++ ys) ≡ journal_events xs ++ journal_events ys
events_both [] ys = refl
events_both (x ∷ xs) ys = ap (λ (l : List Event). x ++ l) (events_both xs ys) ∙ sym (append_assoc x (journal_events xs) (journal_events ys))

pub events_pushed : (batches : List (List Event)) (batch : List Event) → journal_events (batches ++ batch ∷ []) ≡ journal_events batches ++ batch
events_pushed batches batch = events_both batches (batch ∷ []) ∙ ap (λ (l : List Event). journal_events batches ++ l) (append-nil batch)

pub batch_long : (batch : List Event) → length (batch_bytes batch) ≡ 5 + length (events_body batch)
batch_long batch = omega (arith, length-append (four_bytes (length (events_body batch))) (events_body batch))

none_short : (batches : List (List Event)) → length (journal_bytes batches) < 2 → batches ≡ []
none_short [] short = refl
none_short (b ∷ batches) short = absurd (omega (arith, short, length-append (batch_bytes b) (journal_bytes batches), batch_long b))

-- ---- a closed gate behind batches

pub closed_holds : (most : ℕ) (batches : List (List Event)) (gate : ℕ) (rest : List ℕ) → AllByRecursion (IsBatch most) batches → (gate ≡ 1 → ⊥) → Holds most batches (journal_bytes batches ++ gate ∷ rest)
closed_holds most batches gate rest each closed = record {
  short = λ short. (none_short batches (omega (arith, short, length-append (journal_bytes batches) (gate ∷ rest))), refl);
  long = λ long. (gate ∷ rest, record { each = each; parts = refl; more = omega arith }, (gate, rest, refl, closed));
}

module _ (most : ℕ) (bytes : List ℕ) (batches : List (List Event)) (gate : ℕ) (rests : RestsAt most bytes batches gate) where
  before : List ℕ
  before = journal_bytes batches

  shut : ℕ
  shut = rests.closed.0

  parts : bytes ≡ journal_bytes batches ++ rests.closed.0 ∷ rests.closed.1
  parts = rests.begins.parts ∙ ap (λ (l : List ℕ). journal_bytes batches ++ l) rests.closed.2

  pub gate_inside : gate < length bytes
  gate_inside = omega (arith, ap length parts, length-append (journal_bytes batches) (rests.closed.0 ∷ rests.closed.1), rests.place)

  pub rest_holds : Holds most batches bytes
  rest_holds = subst (Holds most batches) (sym parts) (closed_holds most batches rests.closed.0 rests.closed.1 rests.begins.each rests.closed.3)

  gate_end : length (journal_bytes batches ++ rests.closed.0 ∷ []) ≡ gate + 1
  gate_end = omega (arith, length-append (journal_bytes batches) (rests.closed.0 ∷ []), rests.place)

  front : take (gate + 1) bytes ≡ journal_bytes batches ++ rests.closed.0 ∷ []
  front = ap (λ (l : List ℕ). take (gate + 1) l) (parts ∙ sym (append_assoc (journal_bytes batches) (rests.closed.0 ∷ []) rests.closed.1)) ∙ take_at (journal_bytes batches ++ rests.closed.0 ∷ []) rests.closed.1 (gate + 1) gate_end

  -- while the piece is torn the gate stands closed
  pub torn_behind : (count : ℕ) (c : List ℕ) → IsTorn (gate + 1) count bytes c → Holds most batches c
  torn_behind count c torn =
      let whole : c ≡ journal_bytes batches ++ rests.closed.0 ∷ drop (gate + 1) c =
      sym (take-append-drop (gate + 1) c) ∙ ap (λ (l : List ℕ). l ++ drop (gate + 1) c) (torn.before ∙ front) ∙ append_assoc (journal_bytes batches) (rests.closed.0 ∷ []) (drop (gate + 1) c) in
      subst (Holds most batches) (sym whole) (closed_holds most batches rests.closed.0 (drop (gate + 1) c) rests.begins.each rests.closed.3)

  -- the piece stands behind the closed gate
  staged_is : (piece : List ℕ) → staged bytes gate piece ≡ journal_bytes batches ++ rests.closed.0 ∷ (piece ++ drop (gate + 1 + length piece) bytes)
  staged_is piece =
      ap (λ (l : List ℕ). (l ++ piece) ++ drop (gate + 1 + length piece) bytes) front
      ∙ append_assoc (journal_bytes batches ++ rests.closed.0 ∷ []) piece (drop (gate + 1 + length piece) bytes)
      ∙ append_assoc (journal_bytes batches) (rests.closed.0 ∷ []) (piece ++ drop (gate + 1 + length piece) bytes)

  staged_front : (piece : List ℕ) → take gate (staged bytes gate piece) ≡ journal_bytes batches
  staged_front piece =
      ap (λ (l : List ℕ). take gate l) (staged_is piece) ∙ take_at (journal_bytes batches) (rests.closed.0 ∷ (piece ++ drop (gate + 1 + length piece) bytes)) gate (sym rests.place)

  staged_back : (piece : List ℕ) → drop (gate + 1) (staged bytes gate piece) ≡ piece ++ drop (gate + 1 + length piece) bytes
  staged_back piece =
      ap (λ (l : List ℕ). drop (gate + 1) l) (staged_is piece ∙ sym (append_assoc (journal_bytes batches) (rests.closed.0 ∷ []) (piece ++ drop (gate + 1 + length piece) bytes)))
      ∙ drop_at (journal_bytes batches ++ rests.closed.0 ∷ []) (piece ++ drop (gate + 1 + length piece) bytes) (gate + 1) gate_end

  staged_long : (piece : List ℕ) → gate + 1 ≤ length (staged bytes gate piece)
  staged_long piece =
      omega (arith, ap length (staged_is piece), length-append (journal_bytes batches) (rests.closed.0 ∷ (piece ++ drop (gate + 1 + length piece) bytes)), rests.place)

  module _ (batch : List Event) (piece : List ℕ) (is_batch : IsBatch most batch) (piece_is : piece ≡ four_bytes (length (events_body batch)) ++ events_body batch ++ 0 ∷ []) where
    more : List ℕ
    more = drop (gate + 1 + length piece) bytes

    pub each_one : AllByRecursion (IsBatch most) (batches ++ batch ∷ [])
    each_one = joined_all (IsBatch most) batches batch rests.begins.each is_batch

    -- with the gate open the batch stands there whole, and a closed gate behind it
    opened_is : (rest : List ℕ) → journal_bytes batches ++ 1 ∷ (piece ++ rest) ≡ journal_bytes (batches ++ batch ∷ []) ++ 0 ∷ rest
    opened_is rest =
        let four = four_bytes (length (events_body batch)) in
        let body = events_body batch in
        let inner : piece ++ rest ≡ (four ++ body) ++ 0 ∷ rest =
        ap (λ (l : List ℕ). l ++ rest) piece_is ∙ append_assoc (four ++ body) (0 ∷ []) rest in
        ap (λ (l : List ℕ). journal_bytes batches ++ 1 ∷ l) inner
        ∙ sym (append_assoc (journal_bytes batches) (batch_bytes batch) (0 ∷ rest))
        ∙ ap (λ (l : List ℕ). l ++ 0 ∷ rest) (sym (bytes_pushed batches batch))

    -- while the gate is torn there are the batches from before, or the new one too
    pub torn_gate : (c : List ℕ) → IsTorn gate 1 (staged bytes gate piece) c → HoldsOneMoreAtMost most batches batch c
    torn_gate c torn =
        let h = get_or c gate 0 in
        let long = staged_long piece in
        let back : drop gate c ≡ h ∷ (piece ++ drop (gate + 1 + length piece) bytes) =
        drop_more c gate 0 (omega (arith, torn.no_shorter, long)) ∙ ap (λ (l : List ℕ). h ∷ l) (torn.after ∙ staged_back piece) in
        let whole : c ≡ journal_bytes batches ++ h ∷ (piece ++ drop (gate + 1 + length piece) bytes) =
        sym (take-append-drop gate c) ∙ ap (λ (l : List ℕ). l ++ drop gate c) (torn.before ∙ staged_front piece) ∙ ap (λ (l : List ℕ). journal_bytes batches ++ l) back in
        subst (HoldsOneMoreAtMost most batches batch) (sym whole) (by_gate h)
      where
        by_gate : (h : ℕ) → HoldsOneMoreAtMost most batches batch (journal_bytes batches ++ h ∷ (piece ++ drop (gate + 1 + length piece) bytes))
        by_gate (suc zero) =
            inr (subst (Holds most (batches ++ batch ∷ [])) (sym (opened_is (drop (gate + 1 + length piece) bytes))) (closed_holds most (batches ++ batch ∷ []) 0 (drop (gate + 1 + length piece) bytes) each_one (λ e. omega (arith, e))))
        by_gate zero = inl (closed_holds most batches 0 (piece ++ drop (gate + 1 + length piece) bytes) rests.begins.each (λ e. omega (arith, e)))
        by_gate (suc (suc n)) = inl (closed_holds most batches (suc (suc n)) (piece ++ drop (gate + 1 + length piece) bytes) rests.begins.each (λ e. omega (arith, e)))

    pub torn_twice : (c : List ℕ) → IsTornTwice gate piece bytes c → HoldsOneMoreAtMost most batches batch c
    torn_twice c (inl torn) = inl (torn_behind (length piece) c torn)
    torn_twice c (inr torn) = torn_gate c torn

    done_is : written (staged bytes gate piece) gate (1 ∷ []) ≡ journal_bytes (batches ++ batch ∷ []) ++ 0 ∷ drop (gate + 1 + length piece) bytes
    done_is =
        ap (λ (l : List ℕ). (l ++ 1 ∷ []) ++ drop (gate + 1) (staged bytes gate piece)) (staged_front piece)
        ∙ append_assoc (journal_bytes batches) (1 ∷ []) (drop (gate + 1) (staged bytes gate piece))
        ∙ ap (λ (l : List ℕ). journal_bytes batches ++ 1 ∷ l) (staged_back piece)
        ∙ opened_is (drop (gate + 1 + length piece) bytes)

    -- with both on the disk the journal rests behind the new batch
    pub rests_after : RestsAt most (written (staged bytes gate piece) gate (1 ∷ [])) (batches ++ batch ∷ []) (gate + length piece)
    rests_after = record {
      rest = 0 ∷ drop (gate + 1 + length piece) bytes;
      begins = record { each = each_one; parts = done_is; more = omega arith };
      closed = (0, drop (gate + 1 + length piece) bytes, refl, λ e. omega (arith, e));
      place = omega (
        arith,
        rests.place,
        ap length (bytes_pushed batches batch),
        length-append (journal_bytes batches) (batch_bytes batch),
        batch_long batch,
        ap length piece_is,
        length-append (four_bytes (length (events_body batch))) (events_body batch ++ 0 ∷ []),
        length-append (events_body batch) (0 ∷ []),
      );
    }

-- ---- disks of fewer than 2 bytes

pub short_same : (most : ℕ) (bytes others : List ℕ) → length bytes < 2 → length others < 2 → HoldSame most bytes others
short_same most bytes others less fewer batches bad = (
  λ h. record { short = λ _. h.short less; long = λ long. absurd (omega (arith, fewer, long)) },
  λ h. record { short = λ _. h.short fewer; long = λ long. absurd (omega (arith, less, long)) },
)

pub same_itself : (most : ℕ) (bytes : List ℕ) → HoldSame most bytes bytes
same_itself most bytes batches bad = (λ h. h, λ h. h)

pub short_holds : (most : ℕ) (bytes : List ℕ) → length bytes < 2 → Holds most [] bytes
short_holds most bytes less = record { short = λ _. (refl, refl); long = λ long. absurd (omega (arith, less, long)) }

pub empty_rests : (most : ℕ) → RestsAt most (0 ∷ []) [] 0
empty_rests most = record {
  rest = 0 ∷ [];
  begins = record { each = tt; parts = refl; more = omega arith };
  closed = (0, [], refl, λ e. omega (arith, e));
  place = refl;
}

-- ---- a write

pub torn_itself : (at count : ℕ) (bytes : List ℕ) → IsTorn at count bytes bytes
torn_itself at count bytes = record { before = refl; after = refl; no_shorter = omega arith; no_longer = omega arith }
