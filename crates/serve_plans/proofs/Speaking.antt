-- What is known of a session, and what is known once more frames are answered.
use Rattle.std.proofs.Common.{◌≡◌, ℕ, ◌+◌, ◌⊎◌, inl, inr, List, [], ◌∷◌, ◌++◌, length, take, drop, Option, None, Some, refl, sym, ap, subst, ◌∙◌, append_assoc, append-nil, take-append-drop, length-append, arith}
use Rattle.std.specs.Io.KnownBytes.{Appends}
use Rattle.std.proofs.KnownBytes.{Appends-nil, Appends-trans}
use Rattle.std.proofs.Math.Seq.{take-append_seam}
use Rattle.ew_model.specs.Kept.{ReplicaState}
use Rattle.ew_model.specs.Limits.{LimitNumbers}
use Rattle.ew_outside.specs.Bytes.{IsFlushed}
use Rattle.peer_definitions.specs.declared.frame.Frame.{Frame}
use Rattle.peer_definitions.specs.Cutting.{Finds}
use Rattle.peer_definitions.specs.Cutting.Front.{Whole}
use Rattle.peer_definitions.specs.Answering.{answer_to}
use Rattle.peer_definitions.specs.declared.end.End.{End}
use Rattle.peer_definitions.specs.declared.end.End.TheVariants as end
use Rattle.ew_outside.specs.Outputs.{GrowsByFront}
use Rattle.ew_outside.proofs.Outputs.{then_front}
use Rattle.command_table.specs.Sessions.{Exchange, exchanged, then_exchanged, bytes_of}
use Rattle.command_table.proofs.Sessions.{behind, talked_on}
use Rattle.serve_plans.specs.Serving.{sent_by, StaysOrFlushed, Spoken, Closes, Closed, Broken}
use Rattle.serve_plans.specs.declared.closing.Closing.{Closing}
use Rattle.serve_plans.specs.declared.closing.Closing.TheVariants as closing
use Rattle.serve_plans.proofs.Cutting.{begins_more, begins_append, begins_one}
use Rattle.serve_plans.proofs.Talks.{IsFrontOf}

-- ---- fronts

pub appended_front : (a b : Option (List ℕ)) (front whole : List ℕ) → Appends a b front → IsFrontOf front whole → GrowsByFront a b whole
appended_front a b front whole all f = (length front, subst (Appends a b) (sym (ap (take (length front)) f.is ∙ take-append_seam front f.rest)) all)

pub front_trans : (a b c : List ℕ) → IsFrontOf a b → IsFrontOf b c → IsFrontOf a c
front_trans a b c f g = record { rest = f.rest ++ g.rest; is = g.is ∙ ap (λ l. l ++ g.rest) f.is ∙ append_assoc a f.rest g.rest }

pub taken_front : (n : ℕ) (xs : List ℕ) → IsFrontOf (take n xs) xs
taken_front n xs = record { rest = drop n xs; is = sym (take-append-drop n xs) }

-- a front of a front
pub front_grows : (a b : Option (List ℕ)) (front whole : List ℕ) → GrowsByFront a b front → IsFrontOf front whole → GrowsByFront a b whole
front_grows a b front whole g f = appended_front a b (take g.0 front) whole g.1 (front_trans (take g.0 front) front whole (taken_front g.0 front) f)

-- ---- what was spoken

pub spoken_none : (limits : LimitNumbers) (r : ReplicaState) (bytes : List ℕ) (out : Option (List ℕ)) (flushed : Option ℕ) (n : ℕ)
    → Spoken limits r r bytes bytes out out flushed flushed n n
spoken_none limits r bytes out flushed n = record {
  frames = [];
  begins = refl;
  unended = refl;
  state = refl;
  sent = Appends-nil out;
  flush = inl (refl, refl, refl);
  number = omega arith;
}

-- the answer to one frame
pub spoken_one : (limits : LimitNumbers) (r now : ReplicaState) (bytes : List ℕ) (f : Frame) (rest : List ℕ) (out out' : Option (List ℕ))
    (flushed flushed' : Option ℕ) (n : ℕ) → Finds limits bytes (Whole f rest) → (answer_to r f).end ≡ None
    → (answer_to r f).state ≡ now → Appends out out' (bytes_of (answer_to r f).frames) → IsFlushed out' flushed'
    → Spoken limits r now bytes rest out out' flushed flushed' n (n + 1)
spoken_one limits r now bytes f rest out out' flushed flushed' n found on state sent flush =
    let a = answer_to r f in
    let t = exchanged a.state [] in record {
      frames = f ∷ [];
      begins = begins_one limits bytes f rest found;
      unended = ap (λ e. (then_exchanged a e t).end) on;
      state = ap (λ e. (then_exchanged a e t).state) on ∙ state;
      sent = subst (Appends out out') (sym (ap (λ e. (then_exchanged a e t).sent) on ∙ append-nil (bytes_of a.frames))) sent;
      flush = inr flush;
      number = omega arith;
    }

flush_on : (xs ys all : List ℕ) (a b c : Option (List ℕ)) (m n o : Option ℕ) → all ≡ xs ++ ys → StaysOrFlushed xs a b m n → StaysOrFlushed ys b c n o
    → StaysOrFlushed all a c m o
flush_on xs ys all a b c m n o is first (inr flushed) = inr flushed
flush_on xs ys all a b c m n o is (inl first) (inl second) =
    inl (is ∙ ap (λ l. l ++ ys) first.0 ∙ second.0, second.1 ∙ first.1, second.2 ∙ first.2)
flush_on xs ys all a b c m n o is (inr flushed) (inl second) = inr (subst (λ k. IsFlushed c k) (sym second.2) (subst (λ x. IsFlushed x n) (sym second.1) flushed))

module _ (limits : LimitNumbers) (start mid : ReplicaState) (bytes rest : List ℕ) (out out' : Option (List ℕ)) (flushed flushed' : Option ℕ) (before after : ℕ)
    (s : Spoken limits start mid bytes rest out out' flushed flushed' before after) where
  -- frames behind, from the state that these left
  on_from : (more : List Frame) → exchanged start (s.frames ++ more) ≡ behind (exchanged start s.frames) (exchanged mid more)
  on_from more = talked_on start s.frames more s.unended ∙ ap (λ r. behind (exchanged start s.frames) (exchanged r more)) s.state

  count_on : (more : List Frame) → before + length (s.frames ++ more) ≡ after + length more
  count_on more = omega (arith, s.number, length-append s.frames more)

  -- and then more was
  pub spoken_on : (now : ReplicaState) (tail : List ℕ) (out'' : Option (List ℕ)) (flushed'' : Option ℕ) (last : ℕ)
      → Spoken limits mid now rest tail out' out'' flushed' flushed'' after last
      → Spoken limits start now bytes tail out out'' flushed flushed'' before last
  spoken_on now tail out'' flushed'' last t = record {
    frames = s.frames ++ t.frames;
    begins = begins_append limits bytes s.frames t.frames rest tail s.begins t.begins;
    unended = ap (λ (x : Exchange). x.end) (on_from t.frames) ∙ t.unended;
    state = ap (λ (x : Exchange). x.state) (on_from t.frames) ∙ t.state;
    sent = subst (Appends out out'') (sym (ap (λ (x : Exchange). x.sent) (on_from t.frames)))
        (Appends-trans out out' out'' (exchanged start s.frames).sent (exchanged mid t.frames).sent s.sent t.sent);
    flush = flush_on (exchanged start s.frames).sent (exchanged mid t.frames).sent _ out out' out'' flushed flushed' flushed''
        (ap (λ (x : Exchange). x.sent) (on_from t.frames)) s.flush t.flush;
    number = t.number ∙ sym (count_on t.frames);
  }

  closes_behind : (t : Exchange) (count : ℕ) (now : ReplicaState) (tail : List ℕ) (out'' : Option (List ℕ)) (c : Closing)
      → Closes limits t count now tail out' out'' c → Closes limits (behind (exchanged start s.frames) t) count now tail out out'' c
  closes_behind t count now tail out'' (closing.Bye bs) h = (h.0, h.1, h.2, Appends-trans out out' out'' _ t.sent s.sent h.3)
  closes_behind t count now tail out'' (closing.Clash x) h =
      (h.0, subst (Appends out out'') (sym (append_assoc (exchanged start s.frames).sent t.sent t.last)) (Appends-trans out out' out'' _ (t.sent ++ t.last) s.sent h.1))
  closes_behind t count now tail out'' (closing.BadFrame n why) h = (h.0, Appends-trans out out' out'' _ t.sent s.sent h.1, h.2, h.3)
  closes_behind t count now tail out'' (closing.CutFrame n) h = (h.0, Appends-trans out out' out'' _ t.sent s.sent h.1, h.2, h.3, h.4)
  closes_behind t count now tail out'' closing.End h = (h.0, Appends-trans out out' out'' _ t.sent s.sent h.1, h.2, h.3, h.4)
  closes_behind t count now tail out'' closing.TooLong h = (h.0, Appends-trans out out' out'' _ t.sent s.sent h.1, h.2)

  sent_behind : (t : Exchange) (e : Option End) → sent_by (behind (exchanged start s.frames) t) e ≡ (exchanged start s.frames).sent ++ sent_by t e
  sent_behind t None = refl
  sent_behind t (Some end.Bye) = refl
  sent_behind t (Some (end.Clash x)) = append_assoc (exchanged start s.frames).sent t.sent t.last

  -- and then the session was closed
  pub closed_on : (now : ReplicaState) (out'' : Option (List ℕ)) (flushed'' : Option ℕ) (c : Closing)
      → Closed limits mid now rest out' out'' flushed' flushed'' after c → Closed limits start now bytes out out'' flushed flushed'' before c
  closed_on now out'' flushed'' c h =
      let t = exchanged mid h.frames in
      let closes = closes_behind t (after + length h.frames) now h.rest out'' c h.closes in
      let sent = ap (λ (x : Exchange). sent_by x x.end) (on_from h.frames) ∙ sent_behind t t.end in record {
        frames = s.frames ++ h.frames;
        rest = h.rest;
        begins = begins_append limits bytes s.frames h.frames rest h.rest s.begins h.begins;
        closes = subst (λ x. Closes limits x (before + length (s.frames ++ h.frames)) now h.rest out out'' c) (sym (on_from h.frames))
            (subst (λ n. Closes limits (behind (exchanged start s.frames) t) n now h.rest out out'' c) (sym (count_on h.frames)) closes);
        flush = flush_on (exchanged start s.frames).sent (sent_by t t.end) _ out out' out'' flushed flushed' flushed'' sent s.flush h.flush;
      }

  -- and then the session was broken off
  pub broken_on : (out'' : Option (List ℕ)) → Broken limits mid rest out' out'' → Broken limits start bytes out out''
  broken_on out'' h =
      let t = exchanged mid h.frames in record {
        frames = s.frames ++ h.frames;
        rest = h.rest;
        begins = begins_append limits bytes s.frames h.frames rest h.rest s.begins h.begins;
        breaks = subst (λ (x : Exchange). GrowsByFront out out'' (sent_by x x.end)) (sym (on_from h.frames))
            (subst (GrowsByFront out out'') (sym (sent_behind t t.end)) (then_front out out' out'' _ (sent_by t t.end) s.sent h.breaks));
      }

  -- where nothing more was sent
  pub broken_here : Broken limits start bytes out out'
  broken_here = record {
    frames = s.frames;
    rest = rest;
    begins = s.begins;
    breaks = subst (λ e. GrowsByFront out out' (sent_by (exchanged start s.frames) e)) (sym s.unended)
        (appended_front out out' _ _ s.sent (record { rest = []; is = sym (append-nil (exchanged start s.frames).sent) }));
  }

  -- a piece of bytes comes behind
  pub spoken_fed : (piece : List ℕ) → Spoken limits start mid (bytes ++ piece) (rest ++ piece) out out' flushed flushed' before after
  spoken_fed piece = record {
    frames = s.frames;
    begins = begins_more limits bytes piece s.frames rest s.begins;
    unended = s.unended;
    state = s.state;
    sent = s.sent;
    flush = s.flush;
    number = s.number;
  }

-- ---- what a session that is closed sent

pub sent_closed : (limits : LimitNumbers) (t : Exchange) (count : ℕ) (now : ReplicaState) (rest : List ℕ) (out out' : Option (List ℕ)) (c : Closing)
    → Closes limits t count now rest out out' c → Appends out out' (sent_by t t.end)
sent_closed limits t count now rest out out' (closing.Bye bs) h = subst (λ e. Appends out out' (sent_by t e)) (sym h.0) h.3
sent_closed limits t count now rest out out' (closing.Clash x) h = subst (λ e. Appends out out' (sent_by t e)) (sym h.0) h.1
sent_closed limits t count now rest out out' (closing.BadFrame n why) h = subst (λ e. Appends out out' (sent_by t e)) (sym h.0) h.1
sent_closed limits t count now rest out out' (closing.CutFrame n) h = subst (λ e. Appends out out' (sent_by t e)) (sym h.0) h.1
sent_closed limits t count now rest out out' closing.End h = subst (λ e. Appends out out' (sent_by t e)) (sym h.0) h.1
sent_closed limits t count now rest out out' closing.TooLong h = subst (λ e. Appends out out' (sent_by t e)) (sym h.0) h.1

pub closed_broken : (limits : LimitNumbers) (start now : ReplicaState) (bytes : List ℕ) (out out' : Option (List ℕ)) (flushed flushed' : Option ℕ) (before : ℕ)
    (c : Closing) → Closed limits start now bytes out out' flushed flushed' before c → Broken limits start bytes out out'
closed_broken limits start now bytes out out' flushed flushed' before c h =
    let t = exchanged start h.frames in record {
      frames = h.frames;
      rest = h.rest;
      begins = h.begins;
      breaks = appended_front out out' _ _ (sent_closed limits t (before + length h.frames) now h.rest out out' c h.closes)
          (record { rest = []; is = sym (append-nil (sent_by t t.end)) });
    }

-- all that was sent is flushed, if there is any
pub any_flushed : (bytes : List ℕ) (out out' : Option (List ℕ)) (flushed flushed' : Option ℕ) → StaysOrFlushed bytes out out' flushed flushed'
    → (bytes ≡ []) ⊎ IsFlushed out' flushed'
any_flushed bytes out out' flushed flushed' (inl h) = inl h.0
any_flushed bytes out out' flushed flushed' (inr h) = inr h
