-- What a document and a peer come to once one more frame is answered.
use Rattle.std.proofs.Common.{◌≡◌, ℕ, ◌+◌, ◌<◌, List, [], ◌∷◌, ◌++◌, length, None, Result, Ok, Err, refl, sym, ap, subst, ◌∙◌, append-nil, append_assoc, arith}
use Rattle.std.proofs.lemmas.List.{length-drop}
use Rattle.ew_model.specs.Kept.{ReplicaState}
use Rattle.ew_model.specs.Limits.{LimitNumbers}
use Rattle.peer_definitions.specs.declared.end.End.{End}
use Rattle.peer_definitions.specs.declared.frame.Frame.{Frame}
use Rattle.peer_definitions.specs.Answering.{answer_to}
use Rattle.peer_definitions.specs.Cutting.{Head, head_of, told_length, Tells, Finds}
use Rattle.peer_definitions.specs.Cutting.Head.{Incomplete, NoKind, OverLimit, Complete}
use Rattle.peer_definitions.specs.Cutting.Front.{Whole}
use Rattle.peer_frames.proofs.Heads.{HeadSays, head_says}
use Rattle.document.specs.Talks.{AreAnswered, Spoken, Ended, Answers, IsAnswered, spelled}
use Rattle.document.specs.declared.fault.TalkingFault.{TalkingFault}
use Rattle.document.specs.declared.fault.TalkingFault.TheVariants as talking

-- FRAMES IN FRONT OF BYTES
-- what a frame leaves is shorter
rest_is_less : (limits : LimitNumbers) (bytes : List ℕ) (f : Frame) (rest : List ℕ) (h : Head) → HeadSays limits bytes h → Tells h (Whole f rest) → length rest < length bytes
rest_is_less limits bytes f rest Incomplete s t = absurd t
rest_is_less limits bytes f rest (NoKind k) s t = absurd t
rest_is_less limits bytes f rest (OverLimit n) s t = absurd t
rest_is_less limits bytes f rest (Complete kind body behind) s t =
    omega (arith, ap (λ (bs : List ℕ). length bs) s.parts, ap (λ (bs : List ℕ). length bs) (t.1 ∙ s.rest_is), length-drop (4 + told_length s.behind) s.behind)

pub frame_takes : (limits : LimitNumbers) (bytes : List ℕ) (f : Frame) (rest : List ℕ) → Finds limits bytes (Whole f rest) → length rest < length bytes
frame_takes limits bytes f rest t = rest_is_less limits bytes f rest (head_of limits bytes) (head_says limits bytes) t

-- FRAMES THAT WERE ANSWERED
-- one was answered
answered_one : (limits : LimitNumbers) (f : Frame) (start now : ReplicaState) (bytes tail more : List ℕ) → Finds limits bytes (Whole f tail) → (answer_to start f).end ≡ None → now ≡ (answer_to start f).state
    → more ≡ spelled (answer_to start f).frames → AreAnswered limits (f ∷ []) start now bytes tail more
answered_one limits f start now bytes tail more found none state told = (tail, found, none, [], (state, refl, refl), told ∙ sym (append-nil (spelled (answer_to start f).frames)))

-- frames were answered, and then one more
answered_next : (limits : LimitNumbers) (frames : List Frame) (start mid now : ReplicaState) (bytes rest tail sent more : List ℕ) (f : Frame) → AreAnswered limits frames start mid bytes rest sent
    → Finds limits rest (Whole f tail) → (answer_to mid f).end ≡ None → now ≡ (answer_to mid f).state → more ≡ sent ++ spelled (answer_to mid f).frames → AreAnswered limits (frames ++ f ∷ []) start now bytes tail more
answered_next limits [] start mid now bytes rest tail sent more f h found none state told =
    answered_one limits f start now bytes tail more
    (subst (λ (bs : List ℕ). Finds limits bs (Whole f tail)) h.1 found)
    (subst (λ (r : ReplicaState). (answer_to r f).end ≡ None) h.0 none)
    (subst (λ (r : ReplicaState). now ≡ (answer_to r f).state) h.0 state)
    (subst (λ (r : ReplicaState). more ≡ spelled (answer_to r f).frames) h.0 (told ∙ ap (λ (bs : List ℕ). bs ++ spelled (answer_to mid f).frames) h.2))
answered_next limits (g ∷ frames) start mid now bytes rest tail sent more f h found none state told =
    let later = h.3 in
    let new = spelled (answer_to mid f).frames in (
      h.0,
      h.1,
      h.2,
      later ++ new,
      answered_next limits frames (answer_to start g).state mid now h.0 rest tail later (later ++ new) f h.4 found none state refl,
      told ∙ ap (λ (bs : List ℕ). bs ++ new) h.5 ∙ append_assoc (spelled (answer_to start g).frames) later new,
    )

-- no frame was answered
pub spoken_none : (limits : LimitNumbers) (r : ReplicaState) (bytes sent : List ℕ) → sent ≡ [] → Spoken limits r r bytes bytes sent
spoken_none limits r bytes sent none = record { frames = []; answered = (refl, refl, none) }

-- Frames were answered, and then the next.
module _ (limits kept : LimitNumbers) (start mid now : ReplicaState) (bytes rest tail sent more : List ℕ) (f : Frame) (s : Spoken limits start mid bytes rest sent) (same : kept ≡ limits) (found : Finds kept rest (Whole f tail)) where
  here : Finds limits rest (Whole f tail)
  here = subst (λ l. Finds l rest (Whole f tail)) same found

  pub next_shorter : length tail < length rest
  next_shorter = frame_takes limits rest f tail here

  pub spoken_next : (r : Result (Unit {0}) TalkingFault) → r ≡ Ok tt → IsAnswered f mid now sent more r → Spoken limits start now bytes tail more
  spoken_next r is h =
      let k = subst (λ x. IsAnswered f mid now sent more x) is h in
      record { frames = s.frames ++ f ∷ []; answered = answered_next limits s.frames start mid now bytes rest tail sent more f s.answered here k.1 k.0 k.2 }

  ended_next : (e : End) → IsAnswered f mid now sent more (Err (talking.Ended e)) → Ended limits start now bytes tail more e
  ended_next e k =
      record { before = mid; between = rest; said = sent; spoken = s; frame = f; found = here; ends = k.1; state = k.0; told = k.2 }

  -- why no more are answered
  pub stops_next : (r : Result (Unit {0}) TalkingFault) (why : TalkingFault) → r ≡ Err why → IsAnswered f mid now sent more r → Answers limits start now bytes tail more (Err why)
  stops_next r why is h = by_why why (subst (λ x. IsAnswered f mid now sent more x) is h)
    where
      by_why : (w : TalkingFault) → IsAnswered f mid now sent more (Err w) → Answers limits start now bytes tail more (Err w)
      by_why (talking.Frame fault) k = absurd k
      by_why (talking.Ended e) k = ended_next e k
      by_why talking.OutOfMemory k = record { before = mid; between = rest; said = sent; spoken = s; frame = f; found = here; left = k }
