-- At most how many touches are taken, and how many are left for the frames to come.
use Rattle.std.proofs.Common.{◌≡◌, ℕ, ◌+◌, ◌≤◌, true, false, List, [], ◌∷◌, ◌++◌, length, take, Option, None, Some, IfSome, Result, Ok, Err, sym, ap, subst, ◌∙◌, append_assoc, arith}
use Rattle.std.specs.Io.KnownBytes.{Consumes}
use Rattle.std.specs.Result.{IsErr}
use Rattle.std.proofs.Math.Seq.{take-append-add}
use Rattle.ew_model.specs.Kept.{ReplicaState}
use Rattle.ew_model.specs.Limits.{LimitNumbers}
use Rattle.ew_outside.specs.Files.{Files}
use Rattle.peer_definitions.specs.declared.frame.Frame.{Frame}
use Rattle.peer_definitions.specs.Cutting.{head_of, Front, Finds, AreFrames}
use Rattle.peer_definitions.specs.Cutting.Front.{Whole}
use Rattle.peer_frames.proofs.Heads.{grows}
use Rattle.peer_frames.proofs.Cuts.{fronts_are_one, end_is_not, whole_parts}
use Rattle.peer_definitions.specs.Answering.{answer_to}
use Rattle.peer_exchange.specs.AnswerTouches.{answer_touches}
use Rattle.command_table.specs.Sessions.{opened_state}
use Rattle.command_table.specs.Table.{Text, opened, open_file}
use Rattle.command_table.proofs.Framings.{are_cut}
use Rattle.opened_files.specs.Touches.{TouchesAtMost, file_touches, touches_over}
use Rattle.serve_plans.specs.Serving.{Replies}
use Rattle.serve_plans.specs.SessionTouches.{frames_touches, unless_ended, SessionTakes, TalkTakes, TakesWithin, LeavesTouches, AnswersTake, TouchesAhead}
use Rattle.ew_outside.specs.declared.fault.Fault.{Fault}
use Rattle.serve_plans.specs.declared.closing.Closing.{Closing}
use Rattle.serve_plans.proofs.Cutting.{whole_more}

-- ---- frames

-- the frame that is found is the first
pub first_is : (limits : LimitNumbers) (bytes : List ℕ) (f : Frame) (rest : List ℕ) (frames : List Frame) (stop : Front) → Finds limits bytes (Whole f rest)
    → AreFrames limits bytes frames stop
    → (more : List Frame) × (frames ≡ f ∷ more) × AreFrames limits rest more stop
first_is limits bytes f rest [] stop found are = absurd (end_is_not f rest stop (fronts_are_one limits bytes (Whole f rest) stop found are.0) are.1)
first_is limits bytes f rest (g ∷ frames) stop found are =
    let same = whole_parts f g rest are.0 (fronts_are_one limits bytes (Whole f rest) (Whole g are.0) found are.1) in
    (frames, ap (λ x. x ∷ frames) (sym same.0), subst (λ bs. AreFrames limits bs frames stop) (sym same.1) are.2)

-- a frame that doesn't end the session, and those behind it
first_touches : (r now : ReplicaState) (f : Frame) (more : List Frame) → (answer_to r f).end ≡ None → (answer_to r f).state ≡ now
    → frames_touches r (f ∷ more) ≡ answer_touches r f + frames_touches now more
first_touches r now f more on state =
    ap (λ e. answer_touches r f + unless_ended e (frames_touches (answer_to r f).state more)) on ∙ ap (λ s. answer_touches r f + frames_touches s more) state

-- ---- bytes

pub leaves_none : (limits : LimitNumbers) (r : ReplicaState) (bytes : List ℕ) (n : ℕ) → LeavesTouches limits r r bytes bytes n n
leaves_none limits r bytes n = λ behind frames stop are. (frames, are, omega arith)

pub leaves_within : (limits : LimitNumbers) (start now : ReplicaState) (bytes rest : List ℕ) (before after : ℕ)
    → LeavesTouches limits start now bytes rest before after → TakesWithin limits start bytes before after
leaves_within limits start now bytes rest before after h = λ behind frames stop are. omega (arith, (h behind frames stop are).2)

answers_within : (limits : LimitNumbers) (start now : ReplicaState) (bytes rest : List ℕ) (before after : ℕ) (r : Result (Option Closing) Fault)
    → AnswersTake limits start now bytes rest before after r → TakesWithin limits start bytes before after
answers_within limits start now bytes rest before after (Ok None) h = leaves_within limits start now bytes rest before after h
answers_within limits start now bytes rest before after (Ok (Some c)) h = h
answers_within limits start now bytes rest before after (Err halt) h = h

pub within_takes : (limits : LimitNumbers) (start now : ReplicaState) (bytes rest : List ℕ) (before after : ℕ) (r : Result (Option Closing) Fault) → IsErr r
    → TakesWithin limits start bytes before after
    → AnswersTake limits start now bytes rest before after r
within_takes limits start now bytes rest before after (Ok None) err h = absurd (let t : false ≡ true = err in cc)
within_takes limits start now bytes rest before after (Ok (Some c)) err h = h
within_takes limits start now bytes rest before after (Err halt) err h = h

-- nothing was answered
pub takes_none : (limits : LimitNumbers) (start now : ReplicaState) (bytes rest : List ℕ) (n : ℕ) (r : Result (Option Closing) Fault) → IsErr r
    → AnswersTake limits start now bytes rest n n r
takes_none limits start now bytes rest n r err = within_takes limits start now bytes rest n n r err
    (leaves_within limits start start bytes bytes n n (leaves_none limits start bytes n))

-- the next frame is answered
module _ (limits kept : LimitNumbers) (start mid now : ReplicaState) (bytes rest tail : List ℕ) (f : Frame) (before here after : ℕ) (same : kept ≡ limits)
    (found : Finds kept rest (Whole f tail))
    (h : LeavesTouches limits start mid bytes rest before here) (took : after ≤ here + answer_touches mid f) where
  next_is : (behind : List ℕ) (more : List Frame) (stop : Front) → AreFrames limits (rest ++ behind) more stop
      → (others : List Frame) × (more ≡ f ∷ others) × AreFrames limits (tail ++ behind) others stop
  next_is behind more stop are =
      let here = subst (λ l. Finds l rest (Whole f tail)) same found in
      first_is limits (rest ++ behind) f (tail ++ behind) more stop
      (whole_more (head_of limits rest) (head_of limits (rest ++ behind)) f tail behind (grows limits rest behind) here) are

  -- and the session goes on
  pub leaves_next : (out out' : Option (List ℕ)) (flushed flushed' : Option ℕ) (o : Option Closing) → o ≡ None
      → Replies (answer_to mid f) now out out' flushed flushed' (Ok o) → LeavesTouches limits start now bytes tail before after
  leaves_next out out' flushed flushed' o is told = λ behind frames stop are.
      let m = h behind frames stop are in
      let n = next_is behind m.0 stop m.1 in
      let t = subst (λ x. Replies (answer_to mid f) now out out' flushed flushed' (Ok x)) is told in
      (n.0, n.2, omega (arith, took, m.2, ap (frames_touches mid) n.1, first_touches mid now f n.0 t.0 t.1))

  -- or ends, or is broken off
  pub within_next : TakesWithin limits start bytes before after
  within_next = λ behind frames stop are.
      let m = h behind frames stop are in
      omega (arith, took, m.2, ap (frames_touches mid) (next_is behind m.0 stop m.1).1)

-- ---- an input

pub ahead_none : (limits : LimitNumbers) (r : ReplicaState) (left : Option (List ℕ)) (bytes : List ℕ) (room n : ℕ) → bytes ≡ [] → room ≡ limits.input
    → TouchesAhead limits r r left left bytes room n n
ahead_none limits r None bytes room n none most = tt
ahead_none limits r (Some input) bytes room n none most = λ frames stop are.
    (frames, subst (λ bs. AreFrames limits bs frames stop) (sym (ap (λ bs. bs ++ take room input) none ∙ ap (λ k. take k input) most)) are, omega arith)

pub ahead_takes : (limits : LimitNumbers) (start now : ReplicaState) (left left' : Option (List ℕ)) (kept : List ℕ) (room before after : ℕ)
    → TouchesAhead limits start now left left' kept room before after → TalkTakes limits start left before after
ahead_takes limits start now None left' kept room before after h = tt
ahead_takes limits start now (Some input) None kept room before after h = absurd h
ahead_takes limits start now (Some input) (Some ahead) kept room before after h = λ f is.
    omega (arith, (h f.frames f.stop (are_cut limits (take limits.input input) f.frames f.rest f.stop is.begins is.found is.none)).2)

-- a piece was read, and the frames that are whole by then are answered
module _ (limits kept : LimitNumbers) (start mid now : ReplicaState) (rest tail piece : List ℕ) (room space before here after : ℕ) (same : kept ≡ limits)
    (size : space + length piece ≡ room) where
  ahead_is : (ahead left : List ℕ) → ahead ≡ piece ++ left → rest ++ take room ahead ≡ (rest ++ piece) ++ take space left
  ahead_is ahead left taken =
      let whole : room ≡ length piece + space = omega (arith, size) in
      ap (λ xs. rest ++ xs) (ap (take room) taken ∙ ap (λ k. take k (piece ++ left)) whole ∙ take-append-add piece left space)
      ∙ sym (append_assoc rest piece (take space left))

  pub ahead_piece : (left left' left'' : Option (List ℕ)) (o : Option Closing) → Consumes left' left'' piece → o ≡ None
      → AnswersTake kept mid now (rest ++ piece) tail here after (Ok o)
      → TouchesAhead limits start mid left left' rest room before here → TouchesAhead limits start now left left'' tail space before after
  ahead_piece None left' left'' o taken is told h = tt
  ahead_piece (Some input) None left'' o taken is told h = absurd h
  ahead_piece (Some input) (Some ahead) None o taken is told h = absurd taken
  ahead_piece (Some input) (Some ahead) (Some behind) o taken is told h = λ frames stop are.
      let m = h frames stop are in
      let t = subst (λ l. LeavesTouches l mid now (rest ++ piece) tail here after) same
      (subst (λ x. AnswersTake kept mid now (rest ++ piece) tail here after (Ok x)) is told) in
      let n = t (take space behind) m.0 stop (subst (λ bs. AreFrames limits bs m.0 stop) (ahead_is ahead behind taken) m.1) in
      (n.0, n.1, omega (arith, m.2, n.2))

  -- the session ends there, or is broken off
  pub piece_takes : (left left' left'' : Option (List ℕ)) (r : Result (Option Closing) Fault) → Consumes left' left'' piece
      → AnswersTake kept mid now (rest ++ piece) tail here after r
      → TouchesAhead limits start mid left left' rest room before here → TalkTakes limits start left before after
  piece_takes None left' left'' r taken told h = tt
  piece_takes (Some input) None left'' r taken told h = absurd h
  piece_takes (Some input) (Some ahead) None r taken told h = absurd taken
  piece_takes (Some input) (Some ahead) (Some behind) r taken told h = λ f is.
      let m = h f.frames f.stop (are_cut limits (take limits.input input) f.frames f.rest f.stop is.begins is.found is.none) in
      let t = subst (λ l. TakesWithin l mid (rest ++ piece) here after) same (answers_within kept mid now (rest ++ piece) tail here after r told) in
      omega (arith, m.2, t (take space behind) m.0 f.stop (subst (λ bs. AreFrames limits bs m.0 f.stop) (ahead_is ahead behind taken) m.1))

-- ---- a file

-- the file alone was loaded
pub load_takes : (name : Text) (limits : LimitNumbers) (files : Option Files) (left : Option (List ℕ)) (before now : ℕ)
    → TouchesAtMost (file_touches name limits) files before now → SessionTakes name limits files left before now
load_takes name limits files None before now load = tt
load_takes name limits None (Some input) before now load = λ f is. tt
load_takes name limits (Some m) (Some input) before now load = λ f is. omega (arith, load)

-- the file was loaded, and then frames were answered
pub session_takes : (name : Text) (limits : LimitNumbers) (start : ReplicaState) (files : Option Files) (left : Option (List ℕ)) (before mid now : ℕ)
    → start ≡ opened_state limits start.held
    → IfSome files (λ m. opened start.held ≡ open_file name limits m) → TouchesAtMost (file_touches name limits) files before mid
    → TalkTakes limits start left mid now → SessionTakes name limits files left before now
session_takes name limits start files None before mid now fresh file load talk = tt
session_takes name limits start None (Some input) before mid now fresh file load talk = λ f is. tt
session_takes name limits start (Some m) (Some input) before mid now fresh file load talk = λ f is.
    let count = ap (λ r. frames_touches r f.frames) fresh ∙ ap (touches_over (λ events. frames_touches (opened_state limits events) f.frames)) file in
    omega (arith, load, talk f is, count)
