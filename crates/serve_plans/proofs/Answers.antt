-- From the answer to one frame to what was spoken.
use Rattle.std.proofs.Common.{◌≡◌, ℕ, ◌+◌, List, [], ◌∷◌, ◌++◌, length, Option, None, Some, Result, Ok, Err, true, false, ◌<◌, refl, sym, ap, subst, ◌∙◌, inl, inr, take, append-nil}
use Rattle.std.specs.Io.KnownBytes.{Appends}
use Rattle.std.specs.Result.{IsErr}
use Rattle.std.proofs.KnownBytes.{Appends-nil}
use Rattle.ew_model.specs.Kept.{ReplicaState}
use Rattle.ew_model.specs.Limits.{LimitNumbers}
use Rattle.peer_definitions.specs.declared.frame.Frame.{Frame}
use Rattle.peer_definitions.specs.Cutting.{Finds}
use Rattle.peer_definitions.specs.Cutting.Front.{Whole}
use Rattle.peer_definitions.specs.Answering.{Answered, answer_to}
use Rattle.peer_definitions.specs.declared.end.End.{End}
use Rattle.peer_definitions.specs.declared.end.End.TheVariants as end
use Rattle.ew_outside.specs.Outputs.{GrowsByFront}
use Rattle.command_table.specs.Sessions.{Exchange, exchanged, then_exchanged, bytes_of}
use Rattle.serve_plans.specs.Serving.{sent_by, sent_of, Replies, StaysOrFlushed, Spoken, Closes, Closed, Broken, AnswersAll, IsByFrame}
use Rattle.ew_outside.specs.declared.fault.Fault.{Fault}
use Rattle.serve_plans.specs.declared.closing.Closing.{Closing}
use Rattle.serve_plans.specs.declared.closing.Closing.TheVariants as closing
use Rattle.serve_plans.proofs.Cutting.{begins_one, frame_takes}
use Rattle.serve_plans.proofs.Speaking.{spoken_one, spoken_on, closed_on, broken_on, sent_closed}

-- nothing was sent
pub grows_none : (out : Option (List ℕ)) (bytes : List ℕ) → GrowsByFront out out bytes
grows_none out bytes = (0, Appends-nil out)

abbrev none_of : ReplicaState → Exchange
none_of r = exchanged r []

sent_one : (a : Answered) (e : Option End) → sent_by (then_exchanged a e (none_of a.state)) (then_exchanged a e (none_of a.state)).end ≡ sent_of a e
sent_one a None = append-nil (bytes_of a.frames)
sent_one a (Some end.Bye) = refl
sent_one a (Some (end.Clash x)) = refl

module _ (limits : LimitNumbers) (r now : ReplicaState) (bytes : List ℕ) (f : Frame) (rest : List ℕ) (out out' : Option (List ℕ)) (flushed flushed' : Option ℕ)
    (found : Finds limits bytes (Whole f rest)) where
  abbrev a : Answered
  a = answer_to r f

  abbrev by : Option End → Exchange
  by e = then_exchanged a e (none_of a.state)

  closes_one : (n : ℕ) (c : Closing) → Replies a now out out' flushed flushed' (Ok (Some c)) → Closes limits (by a.end) n now rest out out' c
  closes_one n (closing.Bye bs) h = (
    ap (λ e. (by e).end) h.0,
    ap (λ e. (by e).state) h.0 ∙ h.1,
    h.2 ∙ sym (ap (λ e. (by e).last) h.0),
    subst (Appends out out') (sym (ap (λ e. (by e).sent) h.0)) (subst (λ o. Appends out o []) (sym h.3) (Appends-nil out)),
  )
  closes_one n (closing.Clash x) h = (ap (λ e. (by e).end) h.0, subst (Appends out out') (sym (ap (λ e. (by e).sent ++ (by e).last) h.0)) h.1)
  closes_one n (closing.BadFrame k why) h = absurd h
  closes_one n (closing.CutFrame k) h = absurd h
  closes_one n closing.End h = absurd h
  closes_one n closing.TooLong h = absurd h

  flush_one : (c : Closing) → Replies a now out out' flushed flushed' (Ok (Some c)) → StaysOrFlushed (sent_by (by a.end) (by a.end).end) out out' flushed flushed'
  flush_one (closing.Bye bs) h = inl (sent_one a a.end ∙ ap (sent_of a) h.0, h.3, h.4)
  flush_one (closing.Clash x) h = inr h.2
  flush_one (closing.BadFrame k why) h = absurd h
  flush_one (closing.CutFrame k) h = absurd h
  flush_one closing.End h = absurd h
  flush_one closing.TooLong h = absurd h

  -- the frame ends the session
  pub closed_one : (n : ℕ) (c : Closing) → Replies a now out out' flushed flushed' (Ok (Some c)) → Closed limits r now bytes out out' flushed flushed' n c
  closed_one n c h = record { frames = f ∷ []; rest = rest; begins = begins_one limits bytes f rest found; closes = closes_one (n + 1) c h; flush = flush_one c h }

  -- the answer to the frame couldn't be sent
  pub broken_one : GrowsByFront out out' (sent_of a a.end) → Broken limits r bytes out out'
  broken_one h = record { frames = f ∷ []; rest = rest; begins = begins_one limits bytes f rest found; breaks = subst (GrowsByFront out out') (sym (sent_one a a.end)) h }

ok_is_not : (o : Option Closing) → IsErr {T = Option Closing} {E = Fault} (Ok o) → ⊥
ok_is_not o h = absurd (let t : false ≡ true = h in cc)

-- no frame was answered
pub replies_none : (a : Answered) (now : ReplicaState) (out : Option (List ℕ)) (flushed : Option ℕ) (r : Result (Option Closing) Fault) → IsErr r
    → Replies a now out out flushed flushed r
replies_none a now out flushed (Ok o) h = absurd (ok_is_not o h)
replies_none a now out flushed (Err halt) h = grows_none out (sent_of a a.end)

by_frame : (a : Answered) (now : ReplicaState) (out out' : Option (List ℕ)) (flushed flushed' : Option ℕ) (c : Closing)
    → Replies a now out out' flushed flushed' (Ok (Some c)) → IsByFrame c
by_frame a now out out' flushed flushed' (closing.Bye bs) h = tt
by_frame a now out out' flushed flushed' (closing.Clash x) h = tt
by_frame a now out out' flushed flushed' (closing.BadFrame k why) h = absurd h
by_frame a now out out' flushed flushed' (closing.CutFrame k) h = absurd h
by_frame a now out out' flushed flushed' closing.End h = absurd h
by_frame a now out out' flushed flushed' closing.TooLong h = absurd h

-- frames were answered, and then the next
module _ (limits kept : LimitNumbers) (start mid now : ReplicaState) (bytes rest tail : List ℕ) (f : Frame) (out out' out'' : Option (List ℕ))
    (flushed flushed' flushed'' : Option ℕ) (before after : ℕ)
    (s : Spoken limits start mid bytes rest out out' flushed flushed' before after) (same : kept ≡ limits) (found : Finds kept rest (Whole f tail)) where
  here : Finds limits rest (Whole f tail)
  here = subst (λ l. Finds l rest (Whole f tail)) same found

  pub next_shorter : length tail < length rest
  next_shorter = (frame_takes limits rest f tail here).0

  pub spoken_next : (o : Option Closing) → o ≡ None → Replies (answer_to mid f) now out' out'' flushed' flushed'' (Ok o)
      → Spoken limits start now bytes tail out out'' flushed flushed'' before (after + 1)
  spoken_next o is told =
      let h = subst (λ x. Replies (answer_to mid f) now out' out'' flushed' flushed'' (Ok x)) is told in
      spoken_on limits start mid bytes rest out out' flushed flushed' before after s now tail out'' flushed'' (after + 1)
      (spoken_one limits mid now rest f tail out' out'' flushed' flushed'' after here h.0 h.1 h.2 h.3)

  pub closed_next : (c : Closing) (o : Option Closing) → o ≡ Some c → Replies (answer_to mid f) now out' out'' flushed' flushed'' (Ok o)
      → Closed limits start now bytes out out'' flushed flushed'' before c × IsByFrame c
  closed_next c o is h =
      let told = subst (λ x. Replies (answer_to mid f) now out' out'' flushed' flushed'' (Ok x)) is h in (
        closed_on limits start mid bytes rest out out' flushed flushed' before after s now out'' flushed'' c
            (closed_one limits mid now rest f tail out' out'' flushed' flushed'' here after c told),
        by_frame (answer_to mid f) now out' out'' flushed' flushed'' c told,
      )

  pub broken_next : (number : ℕ) (r : Result (Option Closing) Fault) → IsErr r → GrowsByFront out' out'' (sent_of (answer_to mid f) (answer_to mid f).end)
      → AnswersAll limits start now bytes tail out out'' flushed flushed'' before number r
  broken_next number (Ok o) err h = absurd (ok_is_not o err)
  broken_next number (Err halt) err h = broken_on limits start mid bytes rest out out' flushed flushed' before after s out''
      (broken_one limits mid now rest f tail out' out'' flushed' flushed'' here h)

-- what was taken is behind what was
pub answers_grow : (limits : LimitNumbers) (start now : ReplicaState) (bytes rest : List ℕ) (out out' : Option (List ℕ)) (flushed flushed' : Option ℕ)
    (before number : ℕ) (r : Result (Option Closing) Fault)
    → AnswersAll limits start now bytes rest out out' flushed flushed' before number r → (more : List ℕ) × Appends out out' more
answers_grow limits start now bytes rest out out' flushed flushed' before number (Ok None) h = ((exchanged start h.0.frames).sent, h.0.sent)
answers_grow limits start now bytes rest out out' flushed flushed' before number (Ok (Some c)) h =
    let t = exchanged start h.0.frames in
    (sent_by t t.end, sent_closed limits t (before + length h.0.frames) now h.0.rest out out' c h.0.closes)
answers_grow limits start now bytes rest out out' flushed flushed' before number (Err halt) h =
    let t = exchanged start h.frames in
    (take h.breaks.0 (sent_by t t.end), h.breaks.1)
