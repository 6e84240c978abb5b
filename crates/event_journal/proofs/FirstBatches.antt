-- The batch that bytes begin with.
use Rattle.std.proofs.Common.{◌≡◌, ℕ, zero, suc, ◌+◌, ◌-◌, ◌<◌, ◌≤◌, ◌^◌, List, [], ◌∷◌, ◌++◌, length, get_or, take, drop, refl, sym, ap, subst, ◌∙◌, append_assoc, append-nil, take-append-drop, arith}
use Rattle.std.specs.Int.{w32, from_le_bytes}
use Rattle.std.proofs.lemmas.List.{take_at, drop_at, length-append, length-take, length-drop, drop-drop, take_all}
use Rattle.std.proofs.lemmas.Nat.{le_bytes_4, from_le_bytes-to_le_bytes_4}
use Rattle.ew_model.specs.declared.event.Event.{Event}
use Rattle.ew_model.specs.Bytes.{four_bytes}
use Rattle.ew_model.proofs.ListPlaces.{some_is}
use Rattle.peer_definitions.specs.Spelling.{events_body}
use Rattle.peer_definitions.specs.Batches.{IsEventsBody, batch_bytes, journal_bytes, BeginWith}
use Rattle.peer_frames.proofs.SpelledEvents.{body_back}
use Rattle.event_journal.specs.Reading.{IsFirst}

-- the head of bytes that begin with a batch
pub record IsHead (bytes behind : List ℕ) (len : ℕ) (head : List ℕ) : Type 0 where
  pub parts : bytes ≡ 1 ∷ head ++ behind
  pub four : length head ≡ 4
  pub fits : (i : ℕ) → get_or head i 0 < 256
  pub len_is : len ≡ from_le_bytes w32 head

module _ (most : ℕ) (bytes behind head : List ℕ) (len : ℕ) (h : IsHead bytes behind len head) where
  head_is : four_bytes len ≡ head
  head_is = le_bytes_4 head len h.four h.fits h.len_is

  pub is_first : (events : List Event) → len < length behind → len ≤ most → len < 2 ^ 32 → 1 ≤ length events → IsEventsBody (take len behind) events → IsFirst most bytes events (5 + len)
  is_first events inside short small some body =
      let B = events_body events in
      let size : length B ≡ len = ap length body.spelled ∙ omega (arith, length-take len behind, inside) in
      let named : IsEventsBody B events = subst (λ (l : List ℕ). IsEventsBody l events) (sym body.spelled) body in
      let cut : drop (5 + len) bytes ≡ drop len behind =
      ap (λ (l : List ℕ). drop (5 + len) l) (h.parts ∙ ap (λ (l : List ℕ). 1 ∷ l ++ behind) (sym head_is)) ∙ sym (drop-drop len 5 (1 ∷ four_bytes len ++ behind)) in
      let whole : bytes ≡ journal_bytes (events ∷ []) ++ drop len behind =
      h.parts
      ∙ ap (λ (l : List ℕ). 1 ∷ l ++ behind) (sym head_is)
      ∙ ap (λ (l : List ℕ). 1 ∷ four_bytes len ++ l) (sym (take-append-drop len behind))
      ∙ ap (λ (l : List ℕ). 1 ∷ four_bytes len ++ (l ++ drop len behind)) (sym body.spelled)
      ∙ ap (λ (n : ℕ). 1 ∷ four_bytes n ++ (B ++ drop len behind)) (sym size)
      ∙ sym (append_assoc (1 ∷ four_bytes (length B)) B (drop len behind))
      ∙ ap (λ (l : List ℕ). l ++ drop len behind) (sym (append-nil (batch_bytes events))) in
      record {
        begins = record {
          each = (record { some = some; body = named; short = omega (arith, size, short); told = omega (arith, size, small) }, tt);
          parts = whole ∙ ap (λ (l : List ℕ). journal_bytes (events ∷ []) ++ l) (sym cut);
          more = omega (arith, ap length cut, length-drop len behind, inside);
        };
        size = omega (arith, size, length-append (four_bytes (length B)) B);
      }

  -- what a batch in front says of the bytes
  module _ (batch : List Event) (rest : List ℕ) (begins : BeginWith most bytes (batch ∷ []) rest) where
    inner : head ++ behind ≡ four_bytes (length (events_body batch)) ++ (events_body batch ++ rest)
    inner =
        ap (λ (l : List ℕ). drop 1 l) (sym h.parts ∙ begins.parts ∙ ap (λ (l : List ℕ). l ++ rest) (append-nil (batch_bytes batch)))
        ∙ append_assoc (four_bytes (length (events_body batch))) (events_body batch) rest

    pub told_is : len ≡ length (events_body batch)
    told_is =
        h.len_is
        ∙ ap (from_le_bytes w32) (sym (take_at head behind 4 h.four) ∙ ap (λ (l : List ℕ). take 4 l) inner)
        ∙ from_le_bytes-to_le_bytes_4 (length (events_body batch)) begins.each.0.told

    pub behind_is : behind ≡ events_body batch ++ rest
    behind_is = sym (drop_at head behind 4 h.four) ∙ ap (λ (l : List ℕ). drop 4 l) inner

    pub body_is : take len behind ≡ events_body batch
    body_is = ap (λ (l : List ℕ). take len l) behind_is ∙ take_at (events_body batch) rest len (sym told_is)

  pub none_long : (batch : List Event) (rest : List ℕ) → most < len → BeginWith most bytes (batch ∷ []) rest → ⊥
  none_long batch rest long begins = omega (arith, long, told_is batch rest begins, begins.each.0.short)

  pub none_cut : (batch : List Event) (rest : List ℕ) → length behind ≤ len → BeginWith most bytes (batch ∷ []) rest → ⊥
  none_cut batch rest cut begins = omega (arith, cut, told_is batch rest begins, ap length (behind_is batch rest begins), length-append (events_body batch) rest, begins.more)

  pub none_spelled : ((events : List Event) → IsEventsBody (take len behind) events → ⊥) → (batch : List Event) (rest : List ℕ) → BeginWith most bytes (batch ∷ []) rest → ⊥
  none_spelled none batch rest begins = none batch (subst (λ (l : List ℕ). IsEventsBody l batch) (sym (body_is batch rest begins)) begins.each.0.body)

  pub none_empty : (events : List Event) → length events ≡ 0 → IsEventsBody (take len behind) events → (batch : List Event) (rest : List ℕ) → BeginWith most bytes (batch ∷ []) rest → ⊥
  none_empty events empty body batch rest begins =
      let other = subst (λ (l : List ℕ). IsEventsBody l batch) (sym (body_is batch rest begins)) begins.each.0.body in
      let same : events ≡ batch = some_is events batch (sym (body_back (take len behind) events body) ∙ body_back (take len behind) batch other) in
      omega (arith, empty, ap length same, begins.each.0.some)

-- the head of bytes of which there are at least 5
pub head_of_five : (bytes : List ℕ) → (rest : List ℕ) × (bytes ≡ 1 ∷ rest) → 5 ≤ length bytes → ((i : ℕ) → get_or bytes i 0 < 256) → (len : ℕ)
    → len ≡ from_le_bytes w32 (get_or bytes 1 0 ∷ get_or bytes 2 0 ∷ get_or bytes 3 0 ∷ get_or bytes 4 0 ∷ [])
    → IsHead bytes (take (length bytes - 5) (drop 5 bytes)) len (get_or bytes 1 0 ∷ get_or bytes 2 0 ∷ get_or bytes 3 0 ∷ get_or bytes 4 0 ∷ [])
head_of_five [] opened long fits len is = absurd (omega (arith, long))
head_of_five (g ∷ []) opened long fits len is = absurd (omega (arith, long))
head_of_five (g ∷ a ∷ []) opened long fits len is = absurd (omega (arith, long))
head_of_five (g ∷ a ∷ b ∷ []) opened long fits len is = absurd (omega (arith, long))
head_of_five (g ∷ a ∷ b ∷ c ∷ []) opened long fits len is = absurd (omega (arith, long))
head_of_five (g ∷ a ∷ b ∷ c ∷ d ∷ behind) (rest, e) long fits len is =
    let first : g ≡ 1 = cc in
    let all : take (length (g ∷ a ∷ b ∷ c ∷ d ∷ behind) - 5) behind ≡ behind = take_all _ behind (omega arith) in
    record { parts = ap (λ (n : ℕ). n ∷ a ∷ b ∷ c ∷ d ∷ behind) first ∙ ap (λ (l : List ℕ). 1 ∷ a ∷ b ∷ c ∷ d ∷ l) (sym all); four = refl; fits = each; len_is = is }
  where
    each : (i : ℕ) → get_or (a ∷ b ∷ c ∷ d ∷ []) i 0 < 256
    each zero = fits 1
    each (suc zero) = fits 2
    each (suc (suc zero)) = fits 3
    each (suc (suc (suc zero))) = fits 4
    each (suc (suc (suc (suc i)))) = omega arith
