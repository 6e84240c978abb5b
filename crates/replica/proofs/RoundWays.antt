-- What a round comes to.
use Rattle.std.proofs.Common.{◌≡◌, ℕ, zero, suc, ◌<◌, ◌≤◌, ◌==◌, ◌&&◌, Bool, true, false, cond, List, [], ◌∷◌, ◌++◌, take, drop, length, Option, Some, None, option_map, is_some, refl, sym, ap, ◌∙◌, subst, arith, append-nil}
use Rattle.std.proofs.Math.Seq.{take-append_seam}
use Rattle.std.proofs.lemmas.Bool.{false≢true, eqb-true}
use Rattle.ew_model.specs.declared.event.Event.{Event}
use Rattle.ew_model.specs.declared.text_op.TextOp.{TextOp}
use Rattle.ew_model.specs.Arrival.{Desk, Answer, Judgement, Outcome, next_judgement, judgements, judged, most_judgements}
use Rattle.ew_model.specs.Cuts.{latest_cut}
use Rattle.ew_model.specs.Kept.{IsOrderly}
use Rattle.ew_model.specs.Limits.{LimitNumbers}
use Rattle.ew_model.specs.Operations.{operations}
use Rattle.ew_model.specs.Rounds.{is_out_of_range, after_out_of_range, round_touches}
use Rattle.ew_model.specs.Touches.{touches}
use Rattle.ew_model.specs.Verdicts.{is_verdict_good, first_bad}
use Rattle.ew_model.specs.Verdicts.Ruling.{OutOfRange}
use Rattle.ew_model.proofs.ArrivalLaws.{next_less}
use Rattle.ew_model.proofs.FirstBadLaws.{good_has_no_bad}
use Rattle.ew_model.proofs.JoinedJudgements.{plus, plus_above, behind, none_made, judgements_joined}
use Rattle.ew_model.proofs.KeptLaws.{kept_next}
use Rattle.ew_model.proofs.RoundLaws.{then}
use Rattle.ew_model.proofs.RoundSteps.{enough, grown_all}
use Rattle.transform.specs.Walking.{bad_at, walked_of}
use Rattle.replica.specs.Counting.{Counted}
use Rattle.replica.specs.Desks.{Leads, LeadsTo, LeadsToEnd, LeadsToStop, next_known, with_known}
use Rattle.replica.specs.Desks.Leads.{Here, Further}
use Rattle.replica.specs.Reaching.{Reaches, IsRound}
use Rattle.replica.proofs.Knowing.{knows, next_leads}
use Rattle.replica.proofs.NotOut.{blind_in_range}
use Rattle.replica.proofs.RoundCounts.{looked_at, looked_past}
use Rattle.replica.proofs.Ways.{known_from}

-- one judgement more
pub one_more : (limits : LimitNumbers) (b : Bool) (n : ℕ) (from to : Desk) (answers : List Answer) (j : Judgement) → judgements limits b n from ≡ record { desk = to; answers = answers } → next_judgement limits b to ≡ Some j
    → judgements limits b (plus n (suc zero)) from ≡ record { desk = j.desk; answers = answers ++ j.answer ∷ [] }
one_more limits b n from to answers j h e =
    judgements_joined limits b n (suc zero) from
    ∙ ap (λ (o : Outcome). behind o.answers (judgements limits b (suc zero) o.desk)) h
    ∙ ap (λ (p : Option Judgement). behind answers (then limits b zero to p)) e

-- where none is left to make, all were made
pub all_made : (limits : LimitNumbers) (b : Bool) (n : ℕ) (from to : Desk) (answers : List Answer) → judgements limits b n from ≡ record { desk = to; answers = answers } → next_judgement limits b to ≡ None
    → judged limits b from ≡ record { desk = to; answers = answers }
all_made limits b n from to answers h none =
    enough limits b (most_judgements from) (plus n (most_judgements from)) from (omega arith) (plus_above n (most_judgements from))
    ∙ judgements_joined limits b n (most_judgements from) from
    ∙ ap (λ (o : Outcome). behind o.answers (judgements limits b (most_judgements from) o.desk)) h
    ∙ ap (behind answers) (none_made limits b (most_judgements from) to none)
    ∙ ap (λ (given : List Answer). record { desk = to; answers = given }) (append-nil answers)

-- A step that doesn't answer OutOfRange is one without a look at the index.
still_at : (b : Bool) (i : Judgement) (d : Desk) (len : ℕ) (j : Judgement)
    → cond b (record { desk = record { held = d.held; waiting = i.desk.waiting; coming = i.desk.coming; is_settling = true }; answer = record { event = i.answer.event; ruling = OutOfRange len } }) i ≡ j
    → is_out_of_range j.answer.ruling ≡ false → i ≡ j
still_at true i d len j e still = absurd (false≢true (sym still ∙ ap (λ (k : Judgement). is_out_of_range k.answer.ruling) (sym e)))
still_at false i d len j e still = e

still_same : (out : Option (ℕ × ℕ)) (d : Desk) (i j : Judgement) → with_known out d i ≡ j → is_out_of_range j.answer.ruling ≡ false → i ≡ j
still_same None d i j e still = e
still_same (Some o) d i j e still = still_at (is_verdict_good i.answer.ruling && (length d.held == o.0)) i d o.1 j e still

pub blind_step : (limits : LimitNumbers) (out : Option (ℕ × ℕ)) (d : Desk) (j : Judgement) → next_known limits out d ≡ Some j → is_out_of_range j.answer.ruling ≡ false → next_judgement limits false d ≡ Some j
blind_step limits out d j e still =
    let k = known_from out d (next_judgement limits false d) j e in
    k.1 ∙ ap Some (still_same out d k.0 j k.2 still)

none_known : (out : Option (ℕ × ℕ)) (d : Desk) (o : Option Judgement) → option_map (with_known out d) o ≡ None → o ≡ None
none_known out d None e = refl
none_known out d (Some j) e = let no : ⊥ = cc in absurd no

-- so the judgements without it lead there too
pub record IsWay (limits : LimitNumbers) (b : Bool) (from to : Desk) (answers : List Answer) : Type 0 where
  pub number : ℕ
  pub made : judgements limits b number from ≡ record { desk = to; answers = answers }

pub blind_way : (limits : LimitNumbers) (out : Option (ℕ × ℕ)) (from to : Desk) (answers : List Answer) → Leads limits out from answers to → IsWay limits false from to answers
blind_way limits out from to answers (Here) = record { number = 0; made = refl }
blind_way limits out from to answers (Further before d j way next still) =
    let w = blind_way limits out from d before way in
    record { number = plus w.number (suc zero); made = one_more limits false w.number from d before j w.made (blind_step limits out d j next still) }

-- and what they lead to at last is the same from each desk on the way
pub same_end : (limits : LimitNumbers) (d : Desk) (j : Judgement) → next_judgement limits false d ≡ Some j → (judged limits false d).desk ≡ (judged limits false j.desk).desk
same_end limits d j e =
    ap (λ (o : Outcome). o.desk) (next_leads limits false d j e)
    ∙ ap (λ (o : Outcome). o.desk) (enough limits false (most_judgements d) (most_judgements j.desk) j.desk (let less = next_less limits false d j e in omega (arith, less)) (omega arith))

-- Where the first event that is out of range is known, these are the judgements with a look at the index.
pub record IsSeen (limits : LimitNumbers) (out : Option (ℕ × ℕ)) (from to : Desk) (answers : List Answer) : Type 0 where
  pub way : IsWay limits true from to answers
  pub kept : IsOrderly to.held to.waiting
  pub told : option_map bad_at out ≡ first_bad (judged limits false to).desk.held
  pub end : (judged limits false from).desk ≡ (judged limits false to).desk
  pub fewer : most_judgements to ≤ most_judgements from
  pub next : after_out_of_range limits (most_judgements from) from ≡ after_out_of_range limits (most_judgements to) to

pub seen_way : (limits : LimitNumbers) (out : Option (ℕ × ℕ)) (from to : Desk) (answers : List Answer) → IsOrderly from.held from.waiting → option_map bad_at out ≡ first_bad (judged limits false from).desk.held → Leads limits out from answers to
    → IsSeen limits out from to answers
seen_way limits out from to answers kept told (Here) = record { way = record { number = 0; made = refl }; kept = kept; told = told; end = refl; fewer = omega arith; next = refl }
seen_way limits out from to answers kept told (Further before d j way next still) =
    let s = seen_way limits out from d before kept told way in
    let seeing : next_judgement limits true d ≡ Some j = sym (knows limits out d s.kept s.told) ∙ next in
    let blind = blind_step limits out d j next still in
    let less = next_less limits true d j seeing in
    let most = s.fewer in
    record {
      way = record { number = plus s.way.number (suc zero); made = one_more limits true s.way.number from d before j s.way.made seeing };
      kept = kept_next limits d j s.kept seeing;
      told = s.told ∙ ap (λ (x : Desk). first_bad x.held) (same_end limits d j blind);
      end = s.end ∙ same_end limits d j blind;
      fewer = omega (arith, less, most);
      next = s.next ∙ looked_past limits d j seeing still;
    }

-- What is known when none is left to make.
pub record IsEnded (limits : LimitNumbers) (out : Option (ℕ × ℕ)) (from to : Desk) (before after : Counted) : Type 0 where
  pub reached : Reaches limits from to before after
  pub last : next_judgement limits true to ≡ None
  pub kept : IsOrderly to.held to.waiting
  pub none : first_bad to.held ≡ None

-- the history that the judgements without the index lead to
pub blind_end : (limits : LimitNumbers) (out : Option (ℕ × ℕ)) (from to : Desk) (before after : Counted) → LeadsToEnd limits out from to before after → (judged limits false from).desk ≡ to
blind_end limits out from to before after e =
    let w = blind_way limits out from to e.answers e.way in
    ap (λ (o : Outcome). o.desk) (all_made limits false w.number from to e.answers w.made (none_known out to (next_judgement limits false to) e.last))

-- so a walk over it, from its latest cut that isn't above the number held before, takes the touches of the round
pub round_is : (limits : LimitNumbers) (from to : Desk) (before after : Counted) → LeadsToEnd limits None from to before after → round_touches limits from ≡ touches to.held (latest_cut to.held (length from.held))
unfolding round_touches
round_is limits from to before after e = ap (λ (x : Desk). touches x.held (latest_cut x.held (length from.held))) (blind_end limits None from to before after e)

pub ended : (limits : LimitNumbers) (out : Option (ℕ × ℕ)) (from to : Desk) (before after : Counted) → IsOrderly from.held from.waiting → option_map bad_at out ≡ first_bad (judged limits false from).desk.held → LeadsToEnd limits out from to before after
    → IsEnded limits out from to before after
ended limits out from to before after kept told e =
    let s = seen_way limits out from to e.answers kept told e.way in
    record {
      reached = record { number = s.way.number; answers = e.answers; judged = s.way.made; counted = e.counted };
      last = sym (knows limits out to s.kept s.told) ∙ e.last;
      kept = s.kept;
      none = (good_has_no_bad to.held).0 s.kept.good;
    }

-- the first pass, where the walk doesn't stop
pub ended_first : (limits : LimitNumbers) (from to : Desk) (before after : Counted) → IsOrderly from.held from.waiting → first_bad to.held ≡ None → LeadsToEnd limits None from to before after → IsEnded limits None from to before after
ended_first limits from to before after kept none e =
    let end = blind_end limits None from to before after e in
    ended limits None from to before after kept (sym (ap (λ (x : Desk). first_bad x.held) end ∙ none)) e

-- What is known when the next answer was OutOfRange: the events held are those before the bad one.
pub record IsCut (limits : LimitNumbers) (from to : Desk) (before after : Counted) (whole : List Event) (place : ℕ) : Type 0 where
  pub reached : Reaches limits from to before after
  pub kept : IsOrderly to.held to.waiting
  pub held : to.held ≡ take place whole
  pub fewer : most_judgements to < most_judgements from
  pub next : after_out_of_range limits (most_judgements from) from ≡ Some to

-- where the answer OutOfRange is given
record IsStop (there : Desk) (o : ℕ × ℕ) (stop : Judgement) : Type 0 where
  held : stop.desk.held ≡ there.held
  place : length there.held ≡ o.0

stop_at : (good here : Bool) (i : Judgement) (there : Desk) (o : ℕ × ℕ) (stop : Judgement) → (length there.held == o.0) ≡ here
    → cond (good && here) (record { desk = record { held = there.held; waiting = i.desk.waiting; coming = i.desk.coming; is_settling = true }; answer = record { event = i.answer.event; ruling = OutOfRange o.1 } }) i ≡ stop
    → is_out_of_range stop.answer.ruling ≡ true → is_out_of_range i.answer.ruling ≡ false → IsStop there o stop
stop_at true true i there o stop here e tells still = record { held = ap (λ (k : Judgement). k.desk.held) (sym e); place = eqb-true (length there.held) o.0 here }
stop_at true false i there o stop here e tells still = absurd (false≢true (sym still ∙ (ap (λ (k : Judgement). is_out_of_range k.answer.ruling) e ∙ tells)))
stop_at false here' i there o stop here e tells still = absurd (false≢true (sym still ∙ (ap (λ (k : Judgement). is_out_of_range k.answer.ruling) e ∙ tells)))

pub cut : (limits : LimitNumbers) (o : ℕ × ℕ) (from to : Desk) (before after : Counted) → IsOrderly from.held from.waiting → option_map bad_at (Some o) ≡ first_bad (judged limits false from).desk.held → LeadsToStop limits (Some o) from to before after
    → IsCut limits from to before after (judged limits false from).desk.held o.0
cut limits o from to before after kept told e =
    let there = e.there in
    let s = seen_way limits (Some o) from there e.answers kept told e.way in
    let seeing : next_judgement limits true there ≡ Some e.stop = sym (knows limits (Some o) there s.kept s.told) ∙ e.next in
    let k = known_from (Some o) there (next_judgement limits false there) e.stop e.next in
    let stop = stop_at (is_verdict_good k.0.answer.ruling) (length there.held == o.0) k.0 there o e.stop refl k.2 e.tells (blind_in_range limits there k.0 k.1) in
    let more = grown_all limits false (most_judgements there) there in
    let whole : (judged limits false from).desk.held ≡ there.held ++ more.0 = ap (λ (x : Desk). x.held) s.end ∙ more.1 in
    let taken : take o.0 (judged limits false from).desk.held ≡ there.held =
    ap (λ n. take n (judged limits false from).desk.held) (sym stop.place) ∙ ap (take (length there.held)) whole ∙ take-append_seam there.held more.0 in
    let here : e.stop.desk.held ≡ take o.0 (judged limits false from).desk.held = stop.held ∙ sym taken in
    let less = next_less limits true there e.stop seeing in
    let most = s.fewer in
    subst (λ (x : Desk). IsCut limits from x before after (judged limits false from).desk.held o.0) (sym e.left) (record {
      reached = record { number = plus s.way.number (suc zero); answers = e.answers ++ e.stop.answer ∷ []; judged = one_more limits true s.way.number from there e.answers e.stop s.way.made seeing; counted = e.counted };
      kept = kept_next limits there e.stop s.kept seeing;
      held = here;
      fewer = omega (arith, less, most);
      next = s.next ∙ looked_at limits there e.stop seeing e.tells;
    })

-- the first pass doesn't stop
pub blind_leads : (limits : LimitNumbers) (from to : Desk) (before after : Counted) (b : Bool) → LeadsTo limits None from to before after b → LeadsToEnd limits None from to before after
blind_leads limits from to before after false e = e
blind_leads limits from to before after true e =
    let k = known_from None e.there (next_judgement limits false e.there) e.stop e.next in
    absurd (false≢true (sym (blind_in_range limits e.there k.0 k.1) ∙ (ap (λ (j : Judgement). is_out_of_range j.answer.ruling) k.2 ∙ e.tells)))

-- the second pass does stop
pub must_stop : (limits : LimitNumbers) (o : ℕ × ℕ) (from to : Desk) (before after : Counted) (b : Bool) → IsOrderly from.held from.waiting → option_map bad_at (Some o) ≡ first_bad (judged limits false from).desk.held
    → LeadsTo limits (Some o) from to before after b → IsCut limits from to before after (judged limits false from).desk.held o.0
must_stop limits o from to before after true kept told e = cut limits o from to before after kept told e
must_stop limits o from to before after false kept told e =
    let end = ended limits (Some o) from to before after kept told e in
    let whole = blind_end limits (Some o) from to before after e in
    let none : first_bad to.held ≡ None = end.none in
    let bad : first_bad to.held ≡ Some (bad_at o) = ap (λ (x : Desk). first_bad x.held) (sym whole) ∙ sym told in
    let no : ⊥ = cc in
    absurd no

-- a round that is the last
pub last_round : (limits : LimitNumbers) (from to : Desk) (before after : Counted) (ops : List TextOp) (stopped : Option (ℕ × ℕ)) → IsOrderly from.held from.waiting → option_map bad_at stopped ≡ first_bad to.held → stopped ≡ None
    → ops ≡ drop (length from.held) (operations (walked_of to.held stopped)) → LeadsToEnd limits None from to before after → IsRound limits from to before after ops (is_some stopped)
last_round limits from to before after ops stopped kept told none are e =
    let bad : first_bad to.held ≡ None = sym told ∙ ap (option_map bad_at) none in
    let end = ended_first limits from to before after kept bad e in
    record {
      reached = end.reached;
      ops_are = are ∙ ap (λ (o : Option (ℕ × ℕ)). drop (length from.held) (operations (walked_of to.held o))) none;
      fewer = λ h. absurd (false≢true (sym (ap is_some none) ∙ h));
      next = λ h. absurd (false≢true (sym (ap is_some none) ∙ h));
      last = λ h. end.last;
    }

pub last_kept : (limits : LimitNumbers) (from to : Desk) (before after : Counted) (stopped : Option (ℕ × ℕ)) → IsOrderly from.held from.waiting → option_map bad_at stopped ≡ first_bad to.held → stopped ≡ None
    → LeadsToEnd limits None from to before after → IsOrderly to.held to.waiting
last_kept limits from to before after stopped kept told none e = (ended_first limits from to before after kept (sym told ∙ ap (option_map bad_at) none) e).kept

-- a round that stops: `first` is the desk of the first pass
pub cut_round : (limits : LimitNumbers) (from first to : Desk) (before mid after : Counted) (ops : List TextOp) (stopped : Option (ℕ × ℕ)) (b : Bool) → IsOrderly from.held from.waiting → LeadsToEnd limits None from first before mid
    → option_map bad_at stopped ≡ first_bad first.held → is_some stopped ≡ true → ops ≡ drop (length from.held) (operations (walked_of first.held stopped)) → LeadsTo limits stopped from to before after b
    → IsRound limits from to before after ops (is_some stopped)
cut_round limits from first to before mid after ops None b kept e told there are h = absurd (false≢true there)
cut_round limits from first to before mid after ops (Some o) b kept e told there are h =
    let end : (judged limits false from).desk ≡ first = blind_end limits None from first before mid e in
    let c = must_stop limits o from to before after b kept (told ∙ ap (λ (x : Desk). first_bad x.held) (sym end)) h in
    record {
      reached = c.reached;
      ops_are = are ∙ ap (λ (es : List Event). drop (length from.held) (operations es)) (ap (λ (x : Desk). take o.0 x.held) (sym end) ∙ sym c.held);
      fewer = λ _. c.fewer;
      next = λ _. c.next;
      last = λ n. absurd (false≢true (sym n));
    }

pub cut_kept : (limits : LimitNumbers) (from first to : Desk) (before mid after : Counted) (stopped : Option (ℕ × ℕ)) (b : Bool) → IsOrderly from.held from.waiting → LeadsToEnd limits None from first before mid → option_map bad_at stopped ≡ first_bad first.held
    → is_some stopped ≡ true → LeadsTo limits stopped from to before after b → IsOrderly to.held to.waiting
cut_kept limits from first to before mid after None b kept e told there h = absurd (false≢true there)
cut_kept limits from first to before mid after (Some o) b kept e told there h =
    (must_stop limits o from to before after b kept (told ∙ ap (λ (x : Desk). first_bad x.held) (sym (blind_end limits None from first before mid e))) h).kept
