-- From what was read and answered, to what a session comes to.
use Rattle.std.proofs.Common.{◌≡◌, ℕ, suc, ◌+◌, ◌-◌, ◌<◌, ◌≤◌, List, [], ◌∷◌, ◌++◌, length, take, Option, None, Some, Result, Ok, Err, refl, sym, subst, ◌∙◌, inl, zero, append-nil, length-append, length-take, arith}
use Rattle.std.specs.Io.KnownBytes.{Appends, Consumes, Keeps}
use Rattle.std.specs.Result.{IsErrAnd}
use Rattle.std.proofs.KnownBytes.{Appends-nil, Appends-trans, Consumes-nil, Consumes-trans, Consumes-kept}
use Rattle.ew_model.specs.Bytes.{AreBytes}
use Rattle.ew_model.specs.Kept.{ReplicaState}
use Rattle.ew_model.specs.Limits.{LimitNumbers}
use Rattle.ew_outside.specs.Bytes.{IsEnd}
use Rattle.peer_definitions.specs.Cutting.{Finds}
use Rattle.peer_definitions.specs.Cutting.Front.{Partial}
use Rattle.command_table.specs.Sessions.{exchanged}
use Rattle.ew_outside.specs.declared.fault.Fault.TheVariants as fault_is
use Rattle.serve_plans.specs.Plans.{SinkCauses}
use Rattle.serve_plans.specs.Serving.{Spoken, AnswersAll, IsPieceBehind, Closed, Broken, IsByFrame, IsSpent, MayBeRead, TakesFew, Reads, ReadsTo, Talks, EndsWith, Receives}
use Rattle.ew_outside.specs.declared.fault.Fault.{Fault}
use Rattle.serve_plans.specs.declared.closing.Closing.{Closing}
use Rattle.serve_plans.specs.declared.closing.Closing.TheVariants as closing
use Rattle.serve_plans.proofs.Cutting.{begins_short, bytes_join}
use Rattle.serve_plans.proofs.Speaking.{spoken_none, spoken_fed, spoken_on, closed_on, broken_on}
use Rattle.peer_frames.proofs.Cuts.{finds_nothing}

-- nothing was read yet
pub reads_none : (limits : LimitNumbers) (r : ReplicaState) (left out : Option (List ℕ)) (flushed : Option ℕ) (bytes : List ℕ) (room : ℕ) → bytes ≡ []
    → room ≡ limits.input
    → Reads limits r r left left out out flushed flushed bytes 0 room
reads_none limits r left out flushed bytes room none most =
    subst (λ bs. Reads limits r r left left out out flushed flushed bs 0 room) (sym none)
    (record {
      read = [];
      fits = λ i. omega arith;
      taken = Consumes-nil left;
      within = omega (arith, most);
      spoken = spoken_none limits r [] out flushed 0;
      found = finds_nothing limits;
    })

-- so many frames and bytes are no more than the limit
pub count_fits : (limits : LimitNumbers) (start mid : ReplicaState) (left left' out out' : Option (List ℕ)) (flushed flushed' : Option ℕ) (rest : List ℕ) (after room : ℕ)
    → Reads limits start mid left left' out out' flushed flushed' rest after room → after + length rest + room ≤ limits.input
count_fits limits start mid left left' out out' flushed flushed' rest after room s =
    omega (arith, s.within, s.spoken.number, begins_short limits s.read s.spoken.frames rest s.spoken.begins)

-- nothing was read
pub nothing_read : (left left' : Option (List ℕ)) (n most : ℕ) (buffer : List ℕ) → n ≡ 0 → Consumes left left' (take n buffer) → (0 < most → IsEnd n left)
    → 0 < most → Consumes left left' [] × IsEnd 0 left
nothing_read left left' n most buffer none taken end some = (subst (λ k. Consumes left left' (take k buffer)) none taken, subst (λ k. IsEnd k left) none (end some))

-- where the source failed, nothing was read
keeps_of : (left left' : Option (List ℕ)) (before now most : ℕ) (buffer : List ℕ) (halt : Fault) → Receives left left' before now most buffer (Err halt) → Keeps left left'
keeps_of left left' before now most buffer fault_is.Source h = h.0
keeps_of left left' before now most buffer fault_is.Shelf h = absurd h
keeps_of left left' before now most buffer fault_is.OutOfMemory h = absurd h
keeps_of left left' before now most buffer fault_is.Sink h = absurd h

pub kept_none : (left left' : Option (List ℕ)) (before now most : ℕ) (buffer : List ℕ) (halt : Fault) → Receives left left' before now most buffer (Err halt)
    → Consumes left left' []
kept_none left left' before now most buffer halt h = Consumes-kept left left left' [] (Consumes-nil left) (keeps_of left left' before now most buffer halt h)

-- how long a piece is
pub piece_fits : (n most bound : ℕ) (buffer : List ℕ) → n ≤ most → most ≤ bound → length (take n buffer) ≤ bound
piece_fits n most bound buffer few within = omega (arith, length-take n buffer, few, within)

pub piece_leaves : (n most room : ℕ) (buffer : List ℕ) → n ≤ most → most ≤ room → most ≤ length buffer → room - n + length (take n buffer) ≡ room
piece_leaves n most room buffer few within long = omega (arith, length-take n buffer, few, within, long)

-- one byte was read
pub one_read : (left left' : Option (List ℕ)) (n : ℕ) (buffer : List ℕ) → n ≤ 1 → (n ≡ 0 → ⊥) → 1 ≤ length buffer → Consumes left left' (take n buffer)
    → (x : ℕ) × Consumes left left' (x ∷ [])
one_read left left' n [] few some long taken = absurd (omega (arith, long))
one_read left left' zero (x ∷ xs) few some long taken = absurd (some refl)
one_read left left' (suc n) (x ∷ xs) few some long taken =
    let none : n ≡ 0 = omega (arith, few) in
    (x, subst (λ k. Consumes left left' (x ∷ take k xs)) none taken)

spent : (left left' left'' : Option (List ℕ)) (read : List ℕ) → Consumes left left' read → Consumes left' left'' [] → IsEnd 0 left' → IsSpent left left''
spent None left' left'' read h k e = tt
spent (Some input) None left'' read h k e = absurd h
spent (Some input) (Some xs) None read h k e = absurd k
spent (Some input) (Some xs) (Some ys) read h k e = sym k ∙ e.0 refl

-- the input ends between two frames, or within the next
end_closes : (limits : LimitNumbers) (r : ReplicaState) (rest : List ℕ) (out : Option (List ℕ)) (flushed : Option ℕ) (after : ℕ) (c : Closing)
    → Finds limits rest Partial → EndsWith rest after c → Closed limits r r rest out out flushed flushed after c
end_closes limits r rest out flushed after closing.End found h =
    record { frames = []; rest = rest; begins = refl; closes = (refl, Appends-nil out, refl, found, h); flush = inl (refl, refl, refl) }
end_closes limits r rest out flushed after (closing.CutFrame n) found h =
    record { frames = []; rest = rest; begins = refl; closes = (refl, Appends-nil out, omega (arith, h.1), found, h.0); flush = inl (refl, refl, refl) }
end_closes limits r rest out flushed after (closing.Bye bs) found h = absurd h
end_closes limits r rest out flushed after (closing.Clash x) found h = absurd h
end_closes limits r rest out flushed after (closing.BadFrame n why) found h = absurd h
end_closes limits r rest out flushed after closing.TooLong found h = absurd h

end_reads : (limits : LimitNumbers) (read rest : List ℕ) (left left' : Option (List ℕ)) (after : ℕ) (c : Closing) → Consumes left left' read
    → IsSpent left left' → EndsWith rest after c → ReadsTo limits read left left' c
end_reads limits read rest left left' after closing.End taken none h = (taken, none)
end_reads limits read rest left left' after (closing.CutFrame n) taken none h = (taken, none)
end_reads limits read rest left left' after (closing.Bye bs) taken none h = absurd h
end_reads limits read rest left left' after (closing.Clash x) taken none h = absurd h
end_reads limits read rest left left' after (closing.BadFrame n why) taken none h = absurd h
end_reads limits read rest left left' after closing.TooLong taken none h = absurd h

frame_reads : (limits : LimitNumbers) (read : List ℕ) (left left' : Option (List ℕ)) (c : Closing) → IsByFrame c → Consumes left left' read
    → ReadsTo limits read left left' c
frame_reads limits read left left' (closing.Bye bs) by taken = taken
frame_reads limits read left left' (closing.Clash x) by taken = taken
frame_reads limits read left left' (closing.BadFrame n why) by taken = taken
frame_reads limits read left left' (closing.CutFrame n) by taken = absurd by
frame_reads limits read left left' closing.End by taken = absurd by
frame_reads limits read left left' closing.TooLong by taken = absurd by

module _ (limits : LimitNumbers) (start mid : ReplicaState) (left left' left'' out out' out'' : Option (List ℕ)) (flushed flushed' flushed'' : Option ℕ)
    (rest : List ℕ) (after room : ℕ) (s : Reads limits start mid left left' out out' flushed flushed' rest after room) where
  may_read : MayBeRead limits s.read
  may_read = record { fits = s.fits; short = omega (arith, s.within) }

  -- the number of the next frame is told in 32 bits
  pub number_fits : (piece : List ℕ) → length piece ≤ room → after + length (rest ++ piece) ≤ limits.input
  number_fits piece few = omega (arith, s.within, few, s.spoken.number, begins_short limits s.read s.spoken.frames rest s.spoken.begins, length-append rest piece)

  -- the input is at its end
  pub talks_end : (c : Closing) → Consumes left' left'' [] → IsEnd 0 left' → EndsWith rest after c → Talks limits start mid left left'' out out' flushed flushed' (Ok c)
  talks_end c none end h =
      let taken = subst (Consumes left left'') (append-nil s.read) (Consumes-trans left left' left'' s.read [] s.taken none) in (
        s.read,
        may_read,
        end_reads limits s.read rest left left'' after c taken (spent left left' left'' s.read s.taken none end) h,
        closed_on limits start mid s.read rest out out' flushed flushed' 0 after s.spoken mid out' flushed' c
            (end_closes limits mid rest out' flushed' after c s.found h),
      )

  -- one byte more than may be read is there
  pub talks_long : (x : ℕ) → room ≡ 0 → Consumes left' left'' (x ∷ []) → Talks limits start mid left left'' out out' flushed flushed' (Ok closing.TooLong)
  talks_long x none more = (
    s.read,
    may_read,
    (omega (arith, s.within, none), (x, Consumes-trans left left' left'' s.read (x ∷ []) s.taken more)),
    closed_on limits start mid s.read rest out out' flushed flushed' 0 after s.spoken mid out' flushed' closing.TooLong
        (record { frames = []; rest = rest; begins = refl; closes = (refl, Appends-nil out', s.found); flush = inl (refl, refl, refl) }),
  )

  -- the source failed
  pub talks_failed : Keeps left' left'' → Talks limits start mid left left'' out out' flushed flushed' (Err fault_is.Source)
  talks_failed kept = (s.read, may_read, Consumes-kept left left' left'' s.read s.taken kept, (rest, after, s.spoken, s.found))

  -- at most a piece was read behind what was answered
  pub piece_behind : (piece : List ℕ) → length piece ≤ 4096 → Consumes left' left'' piece → (more : List ℕ) × Appends out' out'' more
      → IsPieceBehind limits start left left'' out out''
  piece_behind piece short taken more = record {
    read = s.read;
    piece = piece;
    short = short;
    taken = Consumes-trans left left' left'' s.read piece s.taken taken;
    frames = s.spoken.frames;
    rest = rest;
    begins = s.spoken.begins;
    found = s.found;
    unended = s.spoken.unended;
    more = more.0;
    sent = Appends-trans out out' out'' (exchanged start s.spoken.frames).sent more.0 s.spoken.sent more.1;
  }

  -- a piece was read
  module _ (piece : List ℕ) (more : Consumes left' left'' piece) (few : length piece ≤ room) (bytes : AreBytes piece) where
    fits : AreBytes (s.read ++ piece)
    fits = bytes_join s.read piece s.fits bytes

    taken_piece : Consumes left left'' (s.read ++ piece)
    taken_piece = Consumes-trans left left' left'' s.read piece s.taken more

    may_piece : MayBeRead limits (s.read ++ piece)
    may_piece = record { fits = fits; short = omega (arith, s.within, few, length-append s.read piece) }

    fed : Spoken limits start mid (s.read ++ piece) (rest ++ piece) out out' flushed flushed' 0 after
    fed = spoken_fed limits start mid s.read rest out out' flushed flushed' 0 after s.spoken piece

    reads_piece : (now : ReplicaState) (tail : List ℕ) (last space : ℕ) → space + length piece ≡ room
        → Spoken limits mid now (rest ++ piece) tail out' out'' flushed' flushed'' after last → Finds limits tail Partial
        → Reads limits start now left left'' out out'' flushed flushed'' tail last space
    reads_piece now tail last space size t found = record {
      read = s.read ++ piece;
      fits = fits;
      taken = taken_piece;
      within = omega (arith, s.within, size, length-append s.read piece);
      spoken = spoken_on limits start mid (s.read ++ piece) (rest ++ piece) out out' flushed flushed' 0 after fed now tail out'' flushed'' last t;
      found = found;
    }

    -- a frame closes the session
    talks_closed : (now : ReplicaState) (c : Closing) → Closed limits mid now (rest ++ piece) out' out'' flushed' flushed'' after c → IsByFrame c
        → Talks limits start now left left'' out out'' flushed flushed'' (Ok c)
    talks_closed now c h by = (
      s.read ++ piece,
      may_piece,
      frame_reads limits (s.read ++ piece) left left'' c by taken_piece,
      closed_on limits start mid
          (s.read ++ piece) (rest ++ piece) out out' flushed flushed' 0 after fed now out'' flushed'' c h,
    )

    few_taken : TakesFew limits (s.read ++ piece) left left''
    few_taken = (s.read ++ piece, omega (arith, may_piece.short), taken_piece, ([], sym (append-nil (s.read ++ piece))))

    -- the session was broken off
    talks_broken : Broken limits mid (rest ++ piece) out' out'' → (x : List ℕ) × MayBeRead limits x × TakesFew limits x left left'' × Broken limits start x out out''
    talks_broken h = (s.read ++ piece, may_piece, few_taken, broken_on limits start mid (s.read ++ piece) (rest ++ piece) out out' flushed flushed' 0 after fed out'' h)

    module _ (kept : LimitNumbers) (same : kept ≡ limits) (now : ReplicaState) (tail : List ℕ) (last : ℕ) where
      -- all whole frames are answered
      pub piece_reads : (space : ℕ) (o : Option Closing) → space + length piece ≡ room → o ≡ None
          → AnswersAll kept mid now (rest ++ piece) tail out' out'' flushed' flushed'' after last (Ok o)
          → Reads limits start now left left'' out out'' flushed flushed'' tail last space
      piece_reads space o size is told =
          let h = subst (λ x. AnswersAll kept mid now (rest ++ piece) tail out' out'' flushed' flushed'' after last (Ok x)) is told in
          let spoken = subst (λ l. Spoken l mid now (rest ++ piece) tail out' out'' flushed' flushed'' after last) same h.0 in
          reads_piece now tail last space size spoken (subst (λ l. Finds l tail Partial) same h.1)

      -- a frame closes the session
      pub piece_closes : (o : Option Closing) (c : Closing) → o ≡ Some c
          → AnswersAll kept mid now (rest ++ piece) tail out' out'' flushed' flushed'' after last (Ok o)
          → Talks limits start now left left'' out out'' flushed flushed'' (Ok c)
      piece_closes o c is told =
          let h = subst (λ x. AnswersAll kept mid now (rest ++ piece) tail out' out'' flushed' flushed'' after last (Ok x)) is told in
          talks_closed now c (subst (λ l. Closed l mid now (rest ++ piece) out' out'' flushed' flushed'' after c) same h.0) h.1

      -- the session is broken off: the source is out of reach here
      pub piece_halts : (halt : Fault) (sink sink' : ℕ) → SinkCauses {T = Option Closing} sink sink' (Err halt)
          → AnswersAll kept mid now (rest ++ piece) tail out' out'' flushed' flushed'' after last (Err halt)
          → Talks limits start now left left'' out out'' flushed flushed'' (Err halt)
      piece_halts fault_is.Source sink sink' cause h = absurd cause
      piece_halts fault_is.Shelf sink sink' cause h = absurd cause
      piece_halts fault_is.OutOfMemory sink sink' cause h = talks_broken (subst (λ l. Broken l mid (rest ++ piece) out' out'') same h)
      piece_halts fault_is.Sink sink sink' cause h = talks_broken (subst (λ l. Broken l mid (rest ++ piece) out' out'') same h)

      -- the same of what a step answers that stops there
      pub piece_broken : (r : Result Closing Fault) (halt : Fault) (sink sink' : ℕ) → IsErrAnd r (λ y. y ≡ halt) → SinkCauses {T = Option Closing} sink sink' (Err halt)
          → AnswersAll kept mid now (rest ++ piece) tail out' out'' flushed' flushed'' after last (Err halt)
          → Talks limits start now left left'' out out'' flushed flushed'' r
      piece_broken (Ok c) halt sink sink' err cause h = absurd err
      piece_broken (Err y) halt sink sink' err cause h =
          subst (λ z. Talks limits start now left left'' out out'' flushed flushed'' (Err z)) (sym err) (piece_halts halt sink sink' cause h)
