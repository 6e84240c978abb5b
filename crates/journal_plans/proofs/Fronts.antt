-- Batches in front of a journal's bytes are among those that the journal has.
use Rattle.std.proofs.Common.{◌≡◌, ℕ, ◌≤◌, ◌<◌, List, [], ◌∷◌, ◌++◌, length, Option, refl, sym, ap, ◌∙◌, append_assoc, arith}
use Rattle.std.specs.List.{AllByRecursion}
use Rattle.std.proofs.lemmas.List.{length-append}
use Rattle.std.proofs.lemmas.Grind.{flat_map-append}
use Rattle.ew_model.specs.declared.event.Event.{Event}
use Rattle.ew_model.specs.Bytes.{four_bytes}
use Rattle.ew_model.specs.Limits.{LimitNumbers}
use Rattle.peer_definitions.specs.Spelling.{events_body}
use Rattle.peer_definitions.specs.Batches.{IsBatch, batch_bytes, journal_bytes, journal_events, EndsAt, AreBatches}
use Rattle.peer_frames.proofs.Journals.{longer, no_end, one_batch}
use Rattle.event_journal.specs.Journal.{HoldsTooMany}

pub front_of : (most place : ℕ) (xs ys : List (List Event)) (left other : List ℕ) (bad : Option ℕ) → AllByRecursion (IsBatch most) xs → AllByRecursion (IsBatch most) ys → 1 ≤ length left
    → journal_bytes xs ++ left ≡ journal_bytes ys ++ other → EndsAt most place other bad → (more : List (List Event)) × (ys ≡ xs ++ more)
front_of most place [] ys left other bad ha hb more e ends = (ys, refl)
front_of most place (a ∷ xs) [] left other bad ha hb more e ends =
    absurd (no_end most place a other (journal_bytes xs ++ left) bad ha.0 (sym e ∙ append_assoc (batch_bytes a) (journal_bytes xs) left) (longer (journal_bytes xs) left more) ends)
front_of most place (a ∷ xs) (b ∷ ys) left other bad ha hb more e ends =
    let first = one_batch most a b (journal_bytes xs ++ left) (journal_bytes ys ++ other) ha.0 hb.0 (sym (append_assoc (batch_bytes a) (journal_bytes xs) left) ∙ e ∙ append_assoc (batch_bytes b) (journal_bytes ys) other) in
    let next = front_of most place xs ys left other bad ha.1 hb.1 more first.1 ends in
    (next.0, ap (λ c. c ∷ ys) (sym first.0) ∙ ap (λ cs. a ∷ cs) next.1)

-- so a journal of which some batches in front have too many events has too many
pub too_many_so : (limits : LimitNumbers) (count : ℕ) (bytes : List ℕ) (batches : List (List Event)) (bad : Option ℕ) → HoldsTooMany limits count bytes → AreBatches limits.body bytes batches bad
    → limits.events < length (journal_events batches)
too_many_so limits count bytes batches bad h are =
    let xs = h.batches ++ h.last ∷ [] in
    let one : List ℕ = four_bytes (length (events_body h.last)) ++ events_body h.last in
    let some : journal_bytes xs ≡ journal_bytes h.batches ++ ((1 ∷ one) ++ []) = flat_map-append batch_bytes h.batches (h.last ∷ []) in
    let sizes = length-append (journal_bytes xs) h.rest in
    let parts = length-append (journal_bytes h.batches) ((1 ∷ one) ++ []) in
    let tail = length-append (1 ∷ one) [] in
    let long : 2 ≤ length bytes = omega (arith, ap length h.begins.parts, sizes, ap length some, parts, tail, h.begins.more) in
    let l = are.long long in
    let f = front_of limits.body (length (journal_bytes batches)) xs batches h.rest l.0 bad h.begins.each l.1.each h.begins.more (sym h.begins.parts ∙ l.1.parts) l.2 in
    let all : journal_events batches ≡ journal_events xs ++ journal_events f.0 = ap journal_events f.1 ∙ flat_map-append (λ (b : List Event). b) xs f.0 in
    omega (arith, h.above, h.counted, ap length all, length-append (journal_events xs) (journal_events f.0))
