-- Any bytes hold batches, and then there is a bad place or none.
use Rattle.std.proofs.Common.{◌≡◌, ◌⊎◌, inl, inr, ℕ, zero, suc, ◌+◌, ◌<◌, ◌≤◌, ◌^◌, List, [], ◌∷◌, ◌++◌, length, get_or, take, drop, Option, None, Some, refl, sym, ap, subst, ◌∙◌, append_assoc, append-nil, arith}
use Rattle.std.specs.Int.{w32, from_le_bytes}
use Rattle.std.proofs.lemmas.Bool.{cases_lt}
use Rattle.std.proofs.lemmas.List.{drop_at, length-append}
use Rattle.ew_model.specs.declared.event.Event.{Event}
use Rattle.ew_model.specs.Bytes.{AreBytes}
use Rattle.ew_model.proofs.ByteLaws.{AreBytes-take, AreBytes-drop}
use Rattle.peer_definitions.specs.Batches.{batch_bytes, journal_bytes, BeginWith, IsClosed, IsBroken, AreBatches}
use Rattle.peer_frames.specs.Reading.{all_of, all_events}
use Rattle.peer_frames.proofs.SpelledEvents.{body_some, body_none}
use Rattle.event_journal.proofs.FirstBatches.{IsHead, is_first, none_long, none_cut, none_spelled, none_empty}
use Rattle.event_journal.proofs.Torn.{batch_long}

-- the bytes begin with a batch, and a byte comes after it
abbrev Begins : ℕ → List ℕ → Type 0
Begins most bytes = (batch : List Event) × (rest : List ℕ) × BeginWith most bytes (batch ∷ []) rest

abbrev BeginsNot : ℕ → List ℕ → Type 0
BeginsNot most bytes = (batch : List Event) (rest : List ℕ) → BeginWith most bytes (batch ∷ []) rest → ⊥

none_few : (most : ℕ) (bytes : List ℕ) → length bytes < 5 → BeginsNot most bytes
none_few most bytes few batch rest begins =
    omega (arith, few, ap length begins.parts, length-append (journal_bytes (batch ∷ [])) rest, length-append (batch_bytes batch) [], batch_long batch)

module _ (most : ℕ) (bytes behind head : List ℕ) (len : ℕ) (h : IsHead bytes behind len head) (fits : AreBytes behind) (small : len < 2 ^ 32) where
  by_body : (inside : len < length behind) → len ≤ most → (read : Option (List Event)) → all_of (all_events (take len behind)) ≡ read → Begins most bytes ⊎ BeginsNot most bytes
  by_body inside short None e = inr (none_spelled most bytes behind head len h (body_none (take len behind) e))
  by_body inside short (Some []) e = inr (none_empty most bytes behind head len h [] refl (body_some (take len behind) [] (AreBytes-take len behind fits) e))
  by_body inside short (Some (x ∷ events)) e =
      let first = is_first most bytes behind head len h (x ∷ events) inside short small (omega arith) (body_some (take len behind) (x ∷ events) (AreBytes-take len behind fits) e) in
      inl (x ∷ events, drop (5 + len) bytes, first.begins)

  by_length : Begins most bytes ⊎ BeginsNot most bytes
  by_length =
      elim (cases_lt most len) [
        | inl long ↦ inr (λ batch rest begins. none_long most bytes behind head len h batch rest long begins)
        | inr short ↦ (
            elim (cases_lt len (length behind)) [
              | inl inside ↦ by_body inside short (all_of (all_events (take len behind))) refl
              | inr cut ↦ inr (λ batch rest begins. none_cut most bytes behind head len h batch rest cut begins)
            ]
            )
      ]

first_or_none : (most : ℕ) (tail : List ℕ) → AreBytes (1 ∷ tail) → Begins most (1 ∷ tail) ⊎ BeginsNot most (1 ∷ tail)
first_or_none most [] fits = inr (none_few most (1 ∷ []) (omega arith))
first_or_none most (a ∷ []) fits = inr (none_few most (1 ∷ a ∷ []) (omega arith))
first_or_none most (a ∷ b ∷ []) fits = inr (none_few most (1 ∷ a ∷ b ∷ []) (omega arith))
first_or_none most (a ∷ b ∷ c ∷ []) fits = inr (none_few most (1 ∷ a ∷ b ∷ c ∷ []) (omega arith))
first_or_none most (a ∷ b ∷ c ∷ d ∷ behind) fits =
    let head = a ∷ b ∷ c ∷ d ∷ [] in
    let len = from_le_bytes w32 (a ∷ b ∷ c ∷ d ∷ []) in
    let h : IsHead (1 ∷ a ∷ b ∷ c ∷ d ∷ behind) behind len (a ∷ b ∷ c ∷ d ∷ []) = record { parts = refl; four = refl; fits = each; len_is = refl } in
    by_length most (1 ∷ a ∷ b ∷ c ∷ d ∷ behind) behind head len h (λ i. fits (suc (suc (suc (suc (suc i)))))) (omega (arith, fits 1, fits 2, fits 3, fits 4))
  where
    each : (i : ℕ) → get_or (a ∷ b ∷ c ∷ d ∷ []) i 0 < 256
    each zero = fits 1
    each (suc zero) = fits 2
    each (suc (suc zero)) = fits 3
    each (suc (suc (suc zero))) = fits 4
    each (suc (suc (suc (suc i)))) = omega arith

-- batches, and what ends them
record Parted (most : ℕ) (bytes : List ℕ) : Type 0 where
  batches : List (List Event)
  rest : List ℕ
  begins : BeginWith most bytes batches rest
  ends : IsClosed rest ⊎ IsBroken most rest

closed_now : (most gate : ℕ) (tail : List ℕ) → (gate ≡ 1 → ⊥) → Parted most (gate ∷ tail)
closed_now most gate tail closed = record { batches = []; rest = gate ∷ tail; begins = record { each = tt; parts = refl; more = omega arith }; ends = inl (gate, tail, refl, closed) }

broken_now : (most : ℕ) (tail : List ℕ) → BeginsNot most (1 ∷ tail) → Parted most (1 ∷ tail)
broken_now most tail none = record { batches = []; rest = 1 ∷ tail; begins = record { each = tt; parts = refl; more = omega arith }; ends = inr (record { opened = (tail, refl); none = none }) }

one_more : (most : ℕ) (bytes : List ℕ) (batch : List Event) (rest : List ℕ) → BeginWith most bytes (batch ∷ []) rest → Parted most rest → Parted most bytes
one_more most bytes batch rest first others = record {
  batches = batch ∷ others.batches;
  rest = others.rest;
  begins = record {
    each = (first.each.0, others.begins.each);
    parts = first.parts
        ∙ ap (λ (l : List ℕ). l ++ rest) (append-nil (batch_bytes batch))
        ∙ ap (λ (l : List ℕ). batch_bytes batch ++ l) others.begins.parts
        ∙ sym (append_assoc (batch_bytes batch) (journal_bytes others.batches) others.rest);
    more = others.begins.more;
  };
  ends = others.ends;
}

shorter : (most n : ℕ) (bytes : List ℕ) (batch : List Event) (rest : List ℕ) → BeginWith most bytes (batch ∷ []) rest → length bytes ≤ suc n → length rest ≤ n
shorter most n bytes batch rest first le =
    omega (arith, le, ap length first.parts, length-append (journal_bytes (batch ∷ [])) rest, length-append (batch_bytes batch) [], batch_long batch)

fits_behind : (most : ℕ) (bytes : List ℕ) (batch : List Event) (rest : List ℕ) → BeginWith most bytes (batch ∷ []) rest → AreBytes bytes → AreBytes rest
fits_behind most bytes batch rest first fits =
    let front = journal_bytes (batch ∷ []) in
    let is : drop (length front) bytes ≡ rest = ap (λ (l : List ℕ). drop (length front) l) first.parts ∙ drop_at front rest (length front) refl in
    subst AreBytes is (AreBytes-drop (length front) bytes fits)

by_first : (n most : ℕ) (tail : List ℕ) → length (1 ∷ tail) ≤ suc n → AreBytes (1 ∷ tail)
    → ((rest : List ℕ) → length rest ≤ n → 1 ≤ length rest → AreBytes rest → Parted most rest) → Begins most (1 ∷ tail) ⊎ BeginsNot most (1 ∷ tail) → Parted most (1 ∷ tail)
by_first n most tail le fits behind (inl (batch, rest, first)) =
    one_more most (1 ∷ tail) batch rest first (behind rest (shorter most n (1 ∷ tail) batch rest first le) first.more (fits_behind most (1 ∷ tail) batch rest first fits))
by_first n most tail le fits behind (inr none) = broken_now most tail none

parted : (n most : ℕ) (bytes : List ℕ) → length bytes ≤ n → 1 ≤ length bytes → AreBytes bytes → Parted most bytes
parted n most [] le some fits = absurd (omega (arith, some))
parted zero most (b ∷ tail) le some fits = absurd (omega (arith, le))
parted (suc n) most (zero ∷ tail) le some fits = closed_now most 0 tail (λ e. omega (arith, e))
parted (suc n) most (suc zero ∷ tail) le some fits = by_first n most tail le fits (λ rest less more inner. parted n most rest less more inner) (first_or_none most tail fits)
parted (suc n) most (suc (suc b) ∷ tail) le some fits = closed_now most (suc (suc b)) tail (λ e. omega (arith, e))

whole : (most : ℕ) (bytes : List ℕ) → 2 ≤ length bytes → Parted most bytes → (batches : List (List Event)) × (bad : Option ℕ) × AreBatches most bytes batches bad
whole most bytes long p =
    elim p.ends [
      | inl closed ↦ (p.batches, None, record { short = λ less. absurd (omega (arith, less, long)); long = λ _. (p.rest, p.begins, closed) })
      | inr broken ↦ (p.batches, Some (length (journal_bytes p.batches)), record { short = λ less. absurd (omega (arith, less, long)); long = λ _. (p.rest, p.begins, (refl, broken)) })
    ]

pub batches_found : (most : ℕ) (bytes : List ℕ) → AreBytes bytes → (batches : List (List Event)) × (bad : Option ℕ) × AreBatches most bytes batches bad
batches_found most bytes fits =
    elim (cases_lt (length bytes) 2) [
      | inl less ↦ ([], None, record { short = λ _. (refl, refl); long = λ long. absurd (omega (arith, less, long)) })
      | inr long ↦ whole most bytes long (parted (length bytes) most bytes (omega arith) (omega (arith, long)) fits)
    ]
