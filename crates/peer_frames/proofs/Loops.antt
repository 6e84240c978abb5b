-- Reading things of one kind one after the other, as a loop does.
use Rattle.std.proofs.Common.{◌≡◌, ℕ, zero, suc, ◌+◌, ◌-◌, ◌<◌, ◌≤◌, List, [], ◌∷◌, ◌++◌, Option, Some, refl, sym, ap, ◌∙◌, arith}
use Rattle.ew_model.specs.declared.id.Id.{Id}
use Rattle.ew_model.specs.declared.event.Event.{Event}
use Rattle.peer_frames.specs.declared.fault.FrameFault.{FrameFault}
use Rattle.peer_frames.specs.declared.fault.FrameFault.TheVariants.{TooLong, BadKind, BadBody, OutOfMemory}
use Rattle.peer_definitions.specs.Spelling.{AgentCount}
use Rattle.peer_frames.specs.Reading.{Reader, go_on, Stops, one_id, one_event, one_count, read_ids, read_events, read_counts}

-- Things are read behind others, so many; each by one reader that knows those before it.
module _ {A : Type 0} (read : List A → ℕ → Reader (List A)) (first : List A → Reader A) (step : (xs : List A) (n : ℕ) (bytes : List ℕ) → read xs (suc n) bytes ≡ go_on (first xs bytes) (λ x. read (xs ++ x ∷ []) n)) (last : (xs : List A) (bytes : List ℕ) → read xs zero bytes ≡ Some (xs, bytes)) where
  one_step : (xs : List A) (count i : ℕ) (bytes : List ℕ) → i < count → read xs (count - i) bytes ≡ go_on (first xs bytes) (λ x. read (xs ++ x ∷ []) (count - (i + 1)))
  one_step xs count i bytes lt =
      let k : count - i ≡ suc (count - (i + 1)) = omega arith in
      ap (λ n. read xs n bytes) k ∙ step xs (count - (i + 1)) bytes

  pub goes_on : (xs : List A) (count i : ℕ) (bytes left : List ℕ) (x : A) (whole : Option (List A × List ℕ)) → i < count → first xs bytes ≡ Some (x, left) → read xs (count - i) bytes ≡ whole → read (xs ++ x ∷ []) (count - (i + 1)) left ≡ whole
  goes_on xs count i bytes left x whole lt one so_far =
      sym (one_step xs count i bytes lt ∙ ap (λ r. go_on r (λ y. read (xs ++ y ∷ []) (count - (i + 1)))) one) ∙ so_far

  pub ends : (fault : FrameFault) (xs : List A) (count i : ℕ) (bytes : List ℕ) (whole : Option (List A × List ℕ)) → i < count → Stops fault (first xs bytes) → read xs (count - i) bytes ≡ whole → Stops fault whole
  ends OutOfMemory xs count i bytes whole lt one so_far = tt
  ends BadBody xs count i bytes whole lt one so_far =
      sym so_far ∙ one_step xs count i bytes lt ∙ ap (λ r. go_on r (λ y. read (xs ++ y ∷ []) (count - (i + 1)))) one
  ends (TooLong n) xs count i bytes whole lt one so_far = one
  ends (BadKind n) xs count i bytes whole lt one so_far = one

  pub is_done : (xs : List A) (count i : ℕ) (bytes : List ℕ) (whole : Option (List A × List ℕ)) → count ≤ i → read xs (count - i) bytes ≡ whole → whole ≡ Some (xs, bytes)
  is_done xs count i bytes whole le so_far =
      let k : count - i ≡ 0 = omega arith in
      sym so_far ∙ ap (λ n. read xs n bytes) k ∙ last xs bytes

-- ---- ids

pub ids_step : (xs : List Id) (n : ℕ) (bytes : List ℕ) → read_ids xs (suc n) bytes ≡ go_on (one_id bytes) (λ x. read_ids (xs ++ x ∷ []) n)
unfolding read_ids
ids_step xs n bytes = refl

pub ids_last : (xs : List Id) (bytes : List ℕ) → read_ids xs zero bytes ≡ Some (xs, bytes)
unfolding read_ids
ids_last xs bytes = refl

abbrev pub next_id : List Id → Reader Id
next_id before = one_id

-- ---- events

pub events_step : (xs : List Event) (n : ℕ) (bytes : List ℕ) → read_events xs (suc n) bytes ≡ go_on (one_event bytes) (λ x. read_events (xs ++ x ∷ []) n)
unfolding read_events
events_step xs n bytes = refl

pub events_last : (xs : List Event) (bytes : List ℕ) → read_events xs zero bytes ≡ Some (xs, bytes)
unfolding read_events
events_last xs bytes = refl

abbrev pub next_event : List Event → Reader Event
next_event before = one_event

-- ---- counts

pub counts_step : (xs : List AgentCount) (n : ℕ) (bytes : List ℕ) → read_counts xs (suc n) bytes ≡ go_on (one_count xs bytes) (λ x. read_counts (xs ++ x ∷ []) n)
unfolding read_counts
counts_step xs n bytes = refl

pub counts_last : (xs : List AgentCount) (bytes : List ℕ) → read_counts xs zero bytes ≡ Some (xs, bytes)
unfolding read_counts
counts_last xs bytes = refl
