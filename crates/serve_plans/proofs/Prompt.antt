-- What was read and sent, where the session was broken off or goes on.
use Rattle.std.proofs.Common.{◌≡◌, ◌≤◌, ℕ, List, [], ◌++◌, length, take, drop, Option, None, Some, IfSome, Result, Ok, Err, refl, sym, ap, subst, ◌∙◌, append_assoc, length-append, length-drop, arith}
use Rattle.std.specs.Io.KnownBytes.{Appends, Consumes}
use Rattle.std.proofs.KnownBytes.{Appends-nil, Consumes-nil}
use Rattle.std.proofs.Math.Seq.{take-append_seam, drop-append_seam}
use Rattle.ew_model.specs.declared.event.Event.{Event}
use Rattle.ew_model.specs.Kept.{ReplicaState}
use Rattle.ew_model.specs.Limits.{LimitNumbers}
use Rattle.ew_outside.specs.Files.{Files}
use Rattle.peer_definitions.specs.declared.frame.Frame.{Frame}
use Rattle.peer_definitions.specs.Cutting.{Front, AreFrames}
use Rattle.peer_definitions.specs.Cutting.Front.{Partial}
use Rattle.peer_frames.proofs.Cuts.{cuts_are_one, finds_nothing}
use Rattle.command_table.specs.Sessions.{Exchange, exchanged, opened_state, IsReplied, IsPrompt}
use Rattle.command_table.specs.Table.{Text, opened, open_file}
use Rattle.command_table.proofs.Framings.{are_cut}
use Rattle.opened_files.specs.declared.reply.Reply as code
use Rattle.ew_outside.specs.declared.fault.Fault.TheVariants as fault_is
use Rattle.ew_outside.specs.declared.fault.Fault.{Fault}
use Rattle.serve_plans.specs.Plans.{SendsReplies, ReadsOn}
use Rattle.serve_plans.specs.Serving.{Spoken, IsPieceBehind, PlansTalk}
use Rattle.serve_plans.proofs.Speaking.{any_flushed}
use Rattle.ew_model.proofs.ListPlaces.{some_is}
use Rattle.command_table.proofs.Openings.{same_events}

-- ---- the front of an input

-- so many bytes are gone as were read
read_is : (read input : List ℕ) (left : Option (List ℕ)) (n : ℕ) → Consumes (Some input) left read → left ≡ Some (drop n input) → n ≤ length input → take n input ≡ read
read_is read input None n taken gone short = absurd taken
read_is read input (Some rest) n taken gone short =
    let sizes = ap (λ (l : List ℕ). length l) (some_is rest (drop n input) gone) in
    let size : n ≡ length read = omega (arith, short, sizes, ap (λ (l : List ℕ). length l) taken, length-drop n input, length-append read rest) in
    ap (λ k. take k input) size ∙ ap (take (length read)) taken ∙ take-append_seam read rest

front_is : (read piece input : List ℕ) (left : Option (List ℕ)) → Consumes (Some input) left (read ++ piece) → take (length read) input ≡ read
front_is read piece input None taken = absurd taken
front_is read piece input (Some rest) taken = ap (take (length read)) (taken ∙ append_assoc read piece rest) ∙ take-append_seam read (piece ++ rest)

left_is : (bytes input : List ℕ) (left : Option (List ℕ)) → Consumes (Some input) left bytes → left ≡ Some (drop (length bytes) input)
left_is bytes input None taken = absurd taken
left_is bytes input (Some rest) taken = ap Some (sym (ap (drop (length bytes)) taken ∙ drop-append_seam bytes rest))

-- ---- no more than a piece was read behind what was answered

pub piece_prompt : (limits : LimitNumbers) (start : ReplicaState) (input : List ℕ) (left out out' : Option (List ℕ)) → start ≡ opened_state limits start.held
    → IsPieceBehind limits start (Some input) left out out'
    → IsPrompt limits start.held input left out out'
piece_prompt limits start input left out out' fresh h = record {
  taken = length (h.read ++ h.piece);
  answered = length h.read;
  leaves = left_is (h.read ++ h.piece) input left h.taken;
  piece = omega (arith, h.short, length-append h.read h.piece);
  goes_on = λ frames end cut.
      let here = subst (λ bs. AreFrames limits bs frames end) (front_is h.read h.piece input left h.taken) cut in
      let same = cuts_are_one limits h.read h.frames frames Partial end (are_cut limits h.read h.frames h.rest Partial h.begins h.found refl) here in
      let moved : exchanged start h.frames ≡ exchanged (opened_state limits start.held) frames = ap (λ r. exchanged r h.frames) fresh
      ∙ ap (exchanged (opened_state limits start.held)) same.0 in (
        subst (λ (t : Exchange). t.end ≡ None) moved h.unended,
        sym same.1,
        (h.more, subst (λ (t : Exchange). Appends out out' (t.sent ++ h.more)) moved h.sent),
      );
}

pub piece_none : (limits : LimitNumbers) (r : ReplicaState) (left out : Option (List ℕ)) → IsPieceBehind limits r left left out out
piece_none limits r left out = record {
  read = [];
  piece = [];
  short = omega arith;
  taken = Consumes-nil left;
  frames = [];
  rest = [];
  begins = refl;
  found = finds_nothing limits;
  unended = refl;
  more = [];
  sent = Appends-nil out;
}

-- nothing was read or sent
pub prompt_none : (name : Text) (limits : LimitNumbers) (files : Option Files) (left out : Option (List ℕ)) → ReadsOn name limits files left left out out
prompt_none name limits (Some m) (Some input) out =
    λ events is. piece_prompt limits (opened_state limits events) input (Some input) out out refl
    (piece_none limits (opened_state limits events) (Some input) out)
prompt_none name limits (Some m) None out = tt
prompt_none name limits None left out = tt

module _ (name : Text) (limits : LimitNumbers) (start : ReplicaState) (fresh : start ≡ opened_state limits start.held) (left' out out' : Option (List ℕ)) where
  pub reads_on : (files : Option Files) (left : Option (List ℕ)) → IfSome files (λ m. opened start.held ≡ open_file name limits m)
      → IsPieceBehind limits start left left' out out' → ReadsOn name limits files left left' out out'
  reads_on (Some m) (Some input) is h = λ events same. subst (λ es. IsPrompt limits es input left' out out') (same_events start.held events (is ∙ same))
      (piece_prompt limits start input left' out out' fresh h)
  reads_on (Some m) None is h = tt
  reads_on None left is h = tt

  replies_of : (input read rest : List ℕ) (flushed flushed' : Option ℕ) (now : ReplicaState) (number : ℕ)
      (s : Spoken limits start now read rest out out' flushed flushed' 0 number) (whole : AreFrames limits read s.frames Partial) (events : List Event)
      → start.held ≡ events → (frames : List Frame) (end : Front) → AreFrames limits read frames end
      → IsReplied (exchanged (opened_state limits events) frames) end out out' flushed'
  replies_of input read rest flushed flushed' now number s whole events held frames end cut =
      let same = cuts_are_one limits read s.frames frames Partial end whole cut in
      subst (λ fs. IsReplied (exchanged (opened_state limits events) fs) end out out' flushed') same.0
      (subst (λ r. IsReplied (exchanged r s.frames) end out out' flushed') (fresh ∙ ap (opened_state limits) held)
      (record {
        unended = s.unended;
        partial = sym same.1;
        sends = (s.sent, any_flushed (exchanged start s.frames).sent out out' flushed flushed' s.flush);
      }))

  -- where the source failed, exactly the frames that were read were answered, and none of them ends the session
  pub sends_replies : (files : Option Files) (left : Option (List ℕ)) (flushed flushed' : Option ℕ) (r : Result code.Reply Fault)
      → IfSome files (λ m. opened start.held ≡ open_file name limits m)
      → PlansTalk name limits start left left' out out' flushed flushed' r → SendsReplies name limits files left left' out out' flushed' r
  sends_replies (Some m) (Some input) flushed flushed' (Err fault_is.Source) is t = λ events n same gone short frames end cut.
      let h = t.1 in
      let here = subst (λ bs. AreFrames limits bs frames end) (read_is h.0 input left' n h.2 gone short) cut in
      let s = h.3.2 in
      replies_of input h.0 h.3.0 flushed flushed' t.0 h.3.1 s (are_cut limits h.0 s.frames h.3.0 Partial s.begins h.3.3 refl) events
      (same_events start.held events (is ∙ same)) frames end here
  sends_replies (Some m) (Some input) flushed flushed' (Err fault_is.Shelf) is t = tt
  sends_replies (Some m) (Some input) flushed flushed' (Err fault_is.OutOfMemory) is t = tt
  sends_replies (Some m) (Some input) flushed flushed' (Err fault_is.Sink) is t = tt
  sends_replies (Some m) (Some input) flushed flushed' (Ok p) is t = tt
  sends_replies (Some m) None flushed flushed' r is t = tt
  sends_replies None left flushed flushed' r is t = tt
