-- One more batch is read.
use Rattle.std.proofs.Common.{◌≡◌, ℕ, ◌+◌, ◌-◌, ◌<◌, ◌≤◌, List, [], ◌∷◌, ◌++◌, length, take, drop, flat_map, sym, ap, subst, ◌∙◌, append_assoc, append-nil, arith}
use Rattle.std.proofs.lemmas.List.{length-append, length-drop, drop-drop, take_all}
use Rattle.ew_model.specs.declared.event.Event.{Event}
use Rattle.ew_model.specs.Limits.{LimitNumbers}
use Rattle.ew_model.specs.Bytes.{four_bytes}
use Rattle.ew_model.proofs.BaseLaws.{joined_all}
use Rattle.peer_definitions.specs.Spelling.{event_bytes, events_body}
use Rattle.peer_definitions.specs.Batches.{batch_bytes, journal_bytes, journal_events, BeginWith}
use Rattle.peer_definitions.specs.Batches as words
use Rattle.peer_frames.proofs.ShortNames.{events_long}
use Rattle.event_journal.specs.Journal.{HoldsTooMany}
use Rattle.event_journal.specs.Reading.{IsFirst, IsRead}
use Rattle.event_journal.proofs.Torn.{bytes_pushed, events_pushed, batch_long}

many_events : (events : List Event) → length events ≤ length (events_body events)
many_events events = omega (arith, events_long events, length-append (four_bytes (length events)) (flat_map event_bytes events))

module _ (limits : LimitNumbers) (bytes : List ℕ) (events : List Event) (place : ℕ) (read : IsRead limits bytes events place) (batch : List Event) (len : ℕ) (first : IsFirst limits.body (drop place bytes) batch len) where
  onward : drop len (drop place bytes) ≡ drop (place + len) bytes
  onward = drop-drop len place bytes

  pub begins_both : BeginWith limits.body bytes (read.batches ++ batch ∷ []) (drop (place + len) bytes)
  begins_both = record {
    each = joined_all (words.IsBatch limits.body) read.batches batch read.begins.each first.begins.each.0;
    parts = read.begins.parts
        ∙ ap (λ (l : List ℕ). journal_bytes read.batches ++ l) (first.begins.parts ∙ ap (λ (l : List ℕ). l ++ drop len (drop place bytes)) (append-nil (batch_bytes batch)))
        ∙ sym (append_assoc (journal_bytes read.batches) (batch_bytes batch) (drop len (drop place bytes)))
        ∙ ap (λ (l : List ℕ). l ++ drop len (drop place bytes)) (sym (bytes_pushed read.batches batch))
        ∙ ap (λ (l : List ℕ). journal_bytes (read.batches ++ batch ∷ []) ++ l) onward;
    more = omega (arith, first.begins.more, ap length onward);
  }

  size_both : length (journal_events (read.batches ++ batch ∷ [])) ≡ length events + length batch
  size_both = omega (arith, ap length (events_pushed read.batches batch), length-append (journal_events read.batches) batch, ap length read.events_are)

  -- the events are too many with it
  pub too_many : (count : ℕ) → count ≡ length events + length batch → limits.events < count → HoldsTooMany limits count bytes
  too_many count is above = record {
    batches = read.batches;
    last = batch;
    rest = drop (place + len) bytes;
    begins = begins_both;
    within = omega (arith, read.within, ap length read.events_are);
    above = above;
    counted = omega (arith, is, size_both);
  }

  -- they aren't
  pub read_both : (now : List Event) (next : ℕ) → now ≡ events ++ batch → next ≡ place + len → length events + length batch ≤ limits.events → IsRead limits bytes now next
  read_both now next is at fits = record {
    batches = read.batches ++ batch ∷ [];
    begins = subst (λ n. BeginWith limits.body bytes (read.batches ++ batch ∷ []) (drop n bytes)) (sym at) begins_both;
    place_is = omega (arith, at, read.place_is, first.size, ap length (bytes_pushed read.batches batch), length-append (journal_bytes read.batches) (batch_bytes batch));
    events_are = is ∙ ap (λ (l : List Event). l ++ batch) read.events_are ∙ sym (events_pushed read.batches batch);
    within = omega (arith, ap length is, length-append events batch, fits);
  }

  -- no more events than bytes
  pub few_in : length batch ≤ len
  few_in = omega (arith, first.size, batch_long batch, many_events batch)

-- as the code sees it: the slice from a place on, and the limit in a variable of its own
pub sliced_first : (most limit : ℕ) (bytes : List ℕ) (place : ℕ) (batch : List Event) (len : ℕ) → limit ≡ most
    → IsFirst limit (take (length bytes - place) (drop place bytes)) batch len → IsFirst most (drop place bytes) batch len
sliced_first most limit bytes place batch len same first =
    subst (λ (l : List ℕ). IsFirst most l batch len) (take_all (length bytes - place) (drop place bytes) (omega (arith, length-drop place bytes)))
    (subst (λ n. IsFirst n (take (length bytes - place) (drop place bytes)) batch len) same first)
