-- What a closed session comes to, whatever stands behind what was read.
use Rattle.std.proofs.Common.{◌≡◌, ℕ, zero, suc, ◌+◌, ◌-◌, ◌<◌, ◌≤◌, ◌⊎◌, Bool, true, false, nat_lt, if◌then◌else◌, List, [], ◌∷◌, ◌++◌, length, take, Option, None, Some, refl, sym, ap, subst, ◌∙◌, append-nil, length-append, arith}
use Rattle.std.specs.Io.KnownBytes.{Appends}
use Rattle.std.proofs.Math.Seq.{take-append-add}
use Rattle.std.proofs.lemmas.Bool.{lt-ltb, le-ltb}
use Rattle.ew_model.specs.declared.event.Event.{Event}
use Rattle.ew_model.specs.Kept.{ReplicaState}
use Rattle.ew_model.specs.Limits.{LimitNumbers}
use Rattle.peer_frames.specs.declared.fault.FrameFault.{FrameFault}
use Rattle.peer_frames.specs.declared.fault.FrameFault.TheVariants as fault
use Rattle.peer_definitions.specs.declared.frame.Frame.{Frame}
use Rattle.peer_definitions.specs.Cutting.{Front, Finds, is_whole}
use Rattle.peer_definitions.specs.Cutting.Front.{Partial, BadKind, TooLong, BadBody}
use Rattle.peer_frames.proofs.Cuts.{faults_stay}
use Rattle.peer_definitions.specs.declared.end.End.{End}
use Rattle.peer_definitions.specs.declared.end.End.TheVariants as end
use Rattle.ew_outside.specs.Bytes.{IsFlushed}
use Rattle.ew_outside.specs.Outputs.{Sends}
use Rattle.command_table.specs.Framings.{BeginWith, Framing, IsFramingOf}
use Rattle.command_table.specs.Sessions.{Exchange, exchanged, opened_state, Session, served_by, served_from, closed_reply, stop_refusal, refusal_at_end, or_closed}
use Rattle.command_table.specs.Table.{Text, Reply, refuses}
use Rattle.command_table.specs.Refusals.{Refusal, refusal_status, bad_body, bad_kind, frame_too_long, input_too_long, frame_cut}
use Rattle.serve_plans.specs.Plans.{ClosesAs, frame_refusal}
use Rattle.serve_plans.specs.Serving.{FaultFound, Closes, sent_by}
use Rattle.serve_plans.specs.declared.closing.Closing.{Closing}
use Rattle.serve_plans.specs.declared.closing.Closing.TheVariants as closing
use Rattle.serve_plans.proofs.Cutting.{GoesOn, begins_more, begins_goes_on, begins_are_one}
use Rattle.serve_plans.proofs.Talks.{talked_ended}
use Rattle.ew_model.proofs.ListPlaces.{some_is}

-- what is known of the bytes behind those that were read
abbrev pub IsBehind : LimitNumbers → List ℕ → List ℕ → Closing → Type 0
IsBehind limits read more closing.End = more ≡ []
IsBehind limits read more (closing.CutFrame number) = more ≡ []
IsBehind limits read more closing.TooLong = (length read ≡ limits.input) × (0 < length more)
IsBehind limits read more (closing.Bye bytes) = Unit {0}
IsBehind limits read more (closing.Clash x) = Unit {0}
IsBehind limits read more (closing.BadFrame number why) = Unit {0}

-- the bytes that are cut
pub cut_of : (most : ℕ) (read more : List ℕ) → length read ≤ most → take most (read ++ more) ≡ read ++ take (most - length read) more
cut_of most read more short =
    let n = most - length read in
    let whole : most ≡ length read + n = omega (arith, short) in
    ap (λ k. take k (read ++ more)) whole ∙ take-append-add read more n

-- what the table answers is what was sent and is planned
pub record IsServedAs (s : Session) (out out' : Option (List ℕ)) (flushed : Option ℕ) (planned : Reply) : Type 0 where
  pub closing : planned ≡ s.closing
  pub sends : Sends out out' flushed s.sent

served_as_is : (s t : Session) (out out' : Option (List ℕ)) (flushed : Option ℕ) (r : Reply) → s ≡ t → r ≡ t.closing → Sends out out' flushed t.sent
    → IsServedAs s out out' flushed r
served_as_is s t out out' flushed r same reply sends = subst (λ x. IsServedAs x out out' flushed r) (sym same) (record { closing = reply; sends = sends })

module _ (name : Text) (limits : LimitNumbers) (events : List Event) (input : List ℕ) (x : Framing) (frames : List Frame) where
  abbrev before : ℕ
  before = length events

  abbrev t : Exchange
  t = exchanged (opened_state limits events) frames

  -- no frame behind these is answered
  same_cut : (rest : List ℕ) (front : Front) → x.frames ≡ frames → x.rest ≡ rest → x.stop ≡ front → t.end ≡ None
      → served_from name limits input x events ≡ record
      { sent = t.sent; closing = or_closed (stop_refusal limits input (suc (length frames)) rest front) (closed_reply name before [] t.state.held) }
  same_cut rest front e f g ended =
      let c : Framing = record { frames = frames; rest = rest; stop = front } in
      let is : x ≡ c = ap (λ fs. record { frames = fs; rest = x.rest; stop = x.stop }) e ∙ ap (λ r. record { frames = frames; rest = r; stop = x.stop }) f
      ∙ ap (λ h. record { frames = frames; rest = rest; stop = h }) g in
      ap (λ y. served_from name limits input y events) is ∙ ap (λ o. served_by name limits input c before t o) ended

  -- these end the session
  ended_cut : (more : List Frame) (e : End) → x.frames ≡ frames ++ more → t.end ≡ Some e
      → served_from name limits input x events ≡ served_by name limits input x before t (Some e)
  ended_cut more e whole ended =
      let same : exchanged (opened_state limits events) x.frames ≡ t = ap (exchanged (opened_state limits events)) whole
      ∙ talked_ended (opened_state limits events) frames more e ended in
      ap (λ (s : Exchange). served_by name limits input x before s s.end) same ∙ ap (λ o. served_by name limits input x before t o) ended

-- no frame is refused with another status than 5
pub bad_frame : (number : ℕ) (why : FrameFault) (told_as : Refusal) → frame_refusal number why ≡ Some told_as → refusal_status told_as ≡ 5
bad_frame number (fault.BadKind kind) told_as is = sym (ap refusal_status (some_is (bad_kind number kind) told_as is))
bad_frame number (fault.TooLong len) told_as is = sym (ap refusal_status (some_is (frame_too_long number len) told_as is))
bad_frame number fault.BadBody told_as is = sym (ap refusal_status (some_is (bad_body number) told_as is))
bad_frame number fault.OutOfMemory told_as is = absurd cc

pub take_none : (k : ℕ) (xs : List ℕ) → xs ≡ [] → take k xs ≡ []
take_none zero xs e = refl
take_none (suc k) [] e = refl
take_none (suc k) (x ∷ xs) e = absurd cc

module _ (name : Text) (limits : LimitNumbers) (events : List Event) (now : ReplicaState) (read more : List ℕ) (x : Framing) (frames : List Frame)
    (rest : List ℕ) (out out' : Option (List ℕ)) (flushed : Option ℕ) (reply : Reply)
    (cut : IsFramingOf limits (read ++ more) x) (short : length read ≤ limits.input) (begins : BeginWith limits read frames rest)
    (flush : (sent_by (exchanged (opened_state limits events) frames) (exchanged (opened_state limits events) frames).end ≡ []) ⊎ IsFlushed out' flushed) where
  abbrev start : ReplicaState
  start = opened_state limits events

  abbrev said : Exchange
  said = exchanged start frames

  sends : (xs : List ℕ) → Appends out out' xs → sent_by said said.end ≡ xs → Sends out out' flushed xs
  sends xs taken is = (taken, subst (λ l. (l ≡ []) ⊎ IsFlushed out' flushed) is flush)

  abbrev all : Session
  all = served_from name limits (read ++ more) x events

  abbrev left : List ℕ
  left = take (limits.input - length read) more

  begins_all : BeginWith limits (take limits.input (read ++ more)) frames (rest ++ left)
  begins_all = subst (λ bs. BeginWith limits bs frames (rest ++ left)) (sym (cut_of limits.input read more short)) (begins_more limits read left frames rest begins)

  goes : GoesOn limits frames x.frames (rest ++ left) x.rest
  goes = begins_goes_on limits (take limits.input (read ++ more)) frames x.frames (rest ++ left) x.rest x.stop begins_all cut.begins cut.found cut.none

  one : (front : Front) → Finds limits (rest ++ left) front → is_whole front ≡ false → (x.frames ≡ frames) × (x.rest ≡ rest ++ left) × (x.stop ≡ front)
  one front found none = begins_are_one limits (take limits.input (read ++ more)) frames x.frames (rest ++ left) x.rest front x.stop begins_all cut.begins
      found none cut.found cut.none

  -- where nothing stands behind, and the rest begins a frame
  one_partial : left ≡ [] → Finds limits rest Partial → (x.frames ≡ frames) × (x.rest ≡ rest) × (x.stop ≡ Partial)
  one_partial none found =
      let whole : rest ++ left ≡ rest = ap (λ l. rest ++ l) none ∙ append-nil rest in
      let is = one Partial (subst (λ bs. Finds limits bs Partial) (sym whole) found) refl in
      (is.0, is.1 ∙ whole, is.2)

  bad_kind_served : (kind number : ℕ) (told_as : Refusal) → said.end ≡ None → Sends out out' flushed said.sent → number ≡ suc (length frames)
      → Finds limits rest (BadKind kind) → frame_refusal number (fault.BadKind kind) ≡ Some told_as → reply ≡ refuses told_as → IsServedAs all out out' flushed reply
  bad_kind_served kind number told_as ended sent count found told planned =
      let is = one (BadKind kind) (faults_stay limits rest left (BadKind kind) refl found) refl in
      served_as_is all _ out out' flushed reply (same_cut name limits events (read ++ more) x frames (rest ++ left) (BadKind kind) is.0 is.1 is.2 ended)
      (planned ∙ ap refuses (sym (some_is (bad_kind number kind) told_as told) ∙ ap (λ n. bad_kind n kind) count)) sent

  too_long_served : (len number : ℕ) (told_as : Refusal) → said.end ≡ None → Sends out out' flushed said.sent → number ≡ suc (length frames)
      → Finds limits rest (TooLong len) → frame_refusal number (fault.TooLong len) ≡ Some told_as → reply ≡ refuses told_as → IsServedAs all out out' flushed reply
  too_long_served len number told_as ended sent count found told planned =
      let is = one (TooLong len) (faults_stay limits rest left (TooLong len) refl found) refl in
      served_as_is all _ out out' flushed reply (same_cut name limits events (read ++ more) x frames (rest ++ left) (TooLong len) is.0 is.1 is.2 ended)
      (planned ∙ ap refuses (sym (some_is (frame_too_long number len) told_as told) ∙ ap (λ n. frame_too_long n len) count)) sent

  bad_body_served : (number : ℕ) (told_as : Refusal) → said.end ≡ None → Sends out out' flushed said.sent → number ≡ suc (length frames) → Finds limits rest BadBody
      → frame_refusal number fault.BadBody ≡ Some told_as → reply ≡ refuses told_as → IsServedAs all out out' flushed reply
  bad_body_served number told_as ended sent count found told planned =
      let is = one BadBody (faults_stay limits rest left BadBody refl found) refl in
      served_as_is all _ out out' flushed reply (same_cut name limits events (read ++ more) x frames (rest ++ left) BadBody is.0 is.1 is.2 ended)
      (planned ∙ ap refuses (sym (some_is (bad_body number) told_as told) ∙ ap bad_body count)) sent

  fault_served : (why : FrameFault) (number : ℕ) (told_as : Refusal) → said.end ≡ None → Sends out out' flushed said.sent → number ≡ suc (length frames)
      → FaultFound limits rest why → frame_refusal number why ≡ Some told_as → reply ≡ refuses told_as → IsServedAs all out out' flushed reply
  fault_served (fault.BadKind kind) number told_as ended sent count found told planned = bad_kind_served kind number told_as ended sent count found told planned
  fault_served (fault.TooLong len) number told_as ended sent count found told planned = too_long_served len number told_as ended sent count found told planned
  fault_served fault.BadBody number told_as ended sent count found told planned = bad_body_served number told_as ended sent count found told planned
  fault_served fault.OutOfMemory number told_as ended sent count found told planned = absurd cc

  -- the input isn't too long, and ends within a frame
  cut_refusal : (bs : List ℕ) (b : Bool) (count : ℕ) → (bs ≡ [] → ⊥) → b ≡ false
      → or_closed (if b then Some (refuses (input_too_long limits.input)) else refusal_at_end bs count)
      (closed_reply name (length events) [] said.state.held) ≡ refuses (frame_cut count)
  cut_refusal [] b count some few = absurd (some refl)
  cut_refusal (y ∷ bs) b count some few = ap (λ c. or_closed (if c then Some (refuses (input_too_long limits.input)) else refusal_at_end (y ∷ bs) count)
      (closed_reply name (length events) [] said.state.held)) few

  not_long : more ≡ [] → nat_lt limits.input (length (read ++ more)) ≡ false
  not_long none = le-ltb limits.input (length (read ++ more)) (omega (arith, short, length-append read more, ap (λ (l : List ℕ). length l) none))

  pub closes_served : (c : Closing) → IsBehind limits read more c → Closes limits said (length frames) now rest out out' c
      → ClosesAs name limits (length events) now.held c reply → IsServedAs all out out' flushed reply
  closes_served (closing.Bye bs) behind h planned =
      served_as_is all _ out out' flushed reply (ended_cut name limits events (read ++ more) x frames goes.more end.Bye goes.whole h.0)
      (planned ∙ ap (λ b. closed_reply name (length events) b now.held) h.2 ∙ ap (λ (r : ReplicaState). closed_reply name (length events) said.last r.held)
      (sym h.1)) (sends said.sent h.3 (ap (sent_by said) h.0))
  closes_served (closing.Clash y) behind h planned =
      served_as_is all _ out out' flushed reply (ended_cut name limits events (read ++ more) x frames goes.more (end.Clash y) goes.whole h.0) planned
      (sends (said.sent ++ said.last) h.1 (ap (sent_by said) h.0))
  closes_served (closing.BadFrame number why) behind h planned =
      fault_served why number planned.0 h.0 (sends said.sent h.1 (ap (sent_by said) h.0)) h.2 h.3 planned.1 planned.2
  closes_served (closing.CutFrame number) behind h planned =
      let is = one_partial (take_none (limits.input - length read) more behind) h.3 in
      served_as_is all _ out out' flushed reply (same_cut name limits events (read ++ more) x frames rest Partial is.0 is.1 is.2 h.0)
      (planned ∙ ap (λ n. refuses (frame_cut n)) h.2 ∙ sym
      (cut_refusal rest (nat_lt limits.input (length (read ++ more))) (suc (length frames)) h.4 (not_long behind)))
      (sends said.sent h.1 (ap (sent_by said) h.0))
  closes_served closing.End behind h planned =
      let is = one_partial (take_none (limits.input - length read) more behind) h.3 in
      served_as_is all _ out out' flushed reply (same_cut name limits events (read ++ more) x frames [] Partial is.0 (is.1 ∙ h.4) is.2 h.0)
      (planned ∙ ap (λ (r : ReplicaState). closed_reply name (length events) [] r.held) (sym h.2)
      ∙ sym (ap (λ b. or_closed (if b then Some (refuses (input_too_long limits.input)) else refusal_at_end [] (suc (length frames)))
      (closed_reply name (length events) [] said.state.held)) (not_long behind))) (sends said.sent h.1 (ap (sent_by said) h.0))
  closes_served closing.TooLong behind h planned =
      let full : limits.input - length read ≡ 0 = omega (arith, behind.0) in
      let is = one_partial (ap (λ k. take k more) full) h.2 in
      let long : nat_lt limits.input (length (read ++ more)) ≡ true =
      lt-ltb limits.input (length (read ++ more)) (omega (arith, behind.0, behind.1, length-append read more)) in
      served_as_is all _ out out' flushed reply (same_cut name limits events (read ++ more) x frames rest Partial is.0 is.1 is.2 h.0)
      (planned ∙ sym (ap (λ b. or_closed (if b then Some (refuses (input_too_long limits.input)) else refusal_at_end rest (suc (length frames)))
      (closed_reply name (length events) [] said.state.held)) long)) (sends said.sent h.1 (ap (sent_by said) h.0))
