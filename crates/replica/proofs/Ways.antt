-- Judgements one after another.
use Rattle.std.proofs.Common.{◌≡◌, ℕ, ◌+◌, ◌≤◌, ◌<◌, ◌==◌, ◌&&◌, Bool, true, false, cond, List, [], ◌∷◌, ◌++◌, length, Option, Some, None, option_map, refl, sym, ap, ◌∙◌, subst, arith, append-nil, append_assoc}
use Rattle.std.proofs.lemmas.Grind.{flat_map-append}
use Rattle.std.proofs.lemmas.List.Sums.{sum_by-append}
use Rattle.ew_model.specs.declared.event.Event.{Event}
use Rattle.ew_model.specs.Arrival.{Desk, Answer, Judgement, next_judgement, most_judgements}
use Rattle.ew_model.specs.Limits.{LimitNumbers}
use Rattle.ew_model.specs.Rounds.{is_out_of_range}
use Rattle.ew_model.specs.Verdicts.{Ruling, is_verdict_good}
use Rattle.ew_model.specs.Verdicts.Ruling.{Repeat, Clash, SelfParent, TooManyParents, ParentsUnsorted, Unknown, PoolFull, NotReduced, Skipped, GraphFull, OutOfRange, Good}
use Rattle.ew_model.proofs.ArrivalLaws.{next_less}
use Rattle.ew_model.proofs.RoundSteps.{grown_next}
use Rattle.replica.specs.declared.answer.Answer as program
use Rattle.replica.specs.Counting.{Counted}
use Rattle.replica.specs.Desks.{Counts, Judges, Leads, LeadsOn, LeadsToEnd, LeadsToStop, answer_by, is_stop, next_known, with_known}
use Rattle.replica.specs.Desks.Leads.{Here, Further}
use Rattle.replica.specs.Fronts.{IsFront}
use Rattle.history_definitions.specs.Tallies.{is_repeat, refused_by, refused_in, repeats_in}

-- answers that are counted one after another
repeats_joined : (xs ys : List Answer) → repeats_in (xs ++ ys) ≡ repeats_in xs + repeats_in ys
repeats_joined xs ys = sum_by-append (λ (a : Answer). cond (is_repeat a.ruling) 1 0) xs ys

pub counts_none : (c : Counted) → Counts [] c c
counts_none c = record { repeats = omega arith; refused = sym (append-nil c.refused) }

pub counts_joined : (xs ys : List Answer) (a b c : Counted) → Counts xs a b → Counts ys b c → Counts (xs ++ ys) a c
counts_joined xs ys a b c h k = record {
  repeats = let p = h.repeats in let q = k.repeats in let r = repeats_joined xs ys in omega (arith, p, q, r);
  refused =
      k.refused ∙ ap (λ l. l ++ refused_in ys) h.refused ∙ append_assoc a.refused (refused_in xs) (refused_in ys)
      ∙ ap (λ l. a.refused ++ l) (sym (flat_map-append refused_by xs ys));
}

-- no judgement leads on from a desk to itself
pub begun : (limits : LimitNumbers) (out : Option (ℕ × ℕ)) (d : Desk) (c : Counted) → LeadsOn limits out d d c c
begun limits out d c = record { answers = []; way = Here; counted = counts_none c }

-- judgements one after another, and others behind them
way_joined : (limits : LimitNumbers) (out : Option (ℕ × ℕ)) (from mid to : Desk) (xs ys : List Answer) → Leads limits out from xs mid → Leads limits out mid ys to → Leads limits out from (xs ++ ys) to
way_joined limits out from mid to xs ys first (Here) = subst (λ (zs : List Answer). Leads limits out from zs mid) (sym (append-nil xs)) first
way_joined limits out from mid to xs ys first (Further before d j way next still) =
    subst (λ (zs : List Answer). Leads limits out from zs j.desk) (append_assoc xs before (j.answer ∷ []))
    (Further (xs ++ before) d j (way_joined limits out from mid d xs before first way) next still)

pub leads_joined : (limits : LimitNumbers) (out : Option (ℕ × ℕ)) (from mid to : Desk) (a b c : Counted) → LeadsOn limits out from mid a b → LeadsOn limits out mid to b c → LeadsOn limits out from to a c
leads_joined limits out from mid to a b c h k = record {
  answers = h.answers ++ k.answers;
  way = way_joined limits out from mid to h.answers k.answers h.way k.way;
  counted = counts_joined h.answers k.answers a b c h.counted k.counted;
}

stop_is : (r : Ruling) → is_stop (answer_by r) ≡ is_out_of_range r
stop_is Good = refl
stop_is Repeat = refl
stop_is Clash = refl
stop_is SelfParent = refl
stop_is TooManyParents = refl
stop_is ParentsUnsorted = refl
stop_is (Unknown p) = refl
stop_is PoolFull = refl
stop_is NotReduced = refl
stop_is Skipped = refl
stop_is GraphFull = refl
stop_is (OutOfRange len) = refl

pub goes_on : (limits : LimitNumbers) (out : Option (ℕ × ℕ)) (from d new : Desk) (before mid after : Counted) (a : program.Answer) → LeadsOn limits out from d before mid → Judges limits out d new mid after (Some a) → is_stop a ≡ false
    → LeadsOn limits out from new before after
goes_on limits out from d new before mid after a h j still =
    let told : is_out_of_range j.0.answer.ruling ≡ false = sym (stop_is j.0.answer.ruling) ∙ (ap is_stop (sym j.3) ∙ still) in
    let way : Leads limits out from (h.answers ++ j.0.answer ∷ []) j.0.desk = Further h.answers d j.0 h.way j.1 told in
    record {
      answers = h.answers ++ j.0.answer ∷ [];
      way = subst (Leads limits out from (h.answers ++ j.0.answer ∷ [])) (sym j.2) way;
      counted = counts_joined h.answers (j.0.answer ∷ []) before mid after h.counted j.4;
    }

pub stops : (limits : LimitNumbers) (out : Option (ℕ × ℕ)) (from d new : Desk) (before mid after : Counted) (a : program.Answer) → LeadsOn limits out from d before mid → Judges limits out d new mid after (Some a) → is_stop a ≡ true
    → LeadsToStop limits out from new before after
stops limits out from d new before mid after a h j stop = record {
  answers = h.answers;
  there = d;
  stop = j.0;
  way = h.way;
  next = j.1;
  tells = sym (stop_is j.0.answer.ruling) ∙ (ap is_stop (sym j.3) ∙ stop);
  left = j.2;
  counted = counts_joined h.answers (j.0.answer ∷ []) before mid after h.counted j.4;
}

pub ends : (limits : LimitNumbers) (out : Option (ℕ × ℕ)) (from d new : Desk) (before mid after : Counted) → LeadsOn limits out from d before mid → Judges limits out d new mid after None → LeadsToEnd limits out from new before after
ends limits out from d new before mid after h j = record {
  answers = h.answers;
  way = subst (Leads limits out from h.answers) (sym j.1) h.way;
  last = ap (next_known limits out) j.1 ∙ j.0;
  counted = subst (Counts h.answers before) (sym j.2) h.counted;
}

-- the judgement of which this is made
pub known_from : (out : Option (ℕ × ℕ)) (d : Desk) (o : Option Judgement) (j : Judgement) → option_map (with_known out d) o ≡ Some j → (i : Judgement) × (o ≡ Some i) × (with_known out d i ≡ j)
known_from out d None j e = let no : ⊥ = cc in absurd no
known_from out d (Some i) j e = let same : with_known out d i ≡ j = cc in (i, refl, same)

most_same : (out : Option (ℕ × ℕ)) (d : Desk) (i : Judgement) → most_judgements (with_known out d i).desk ≡ most_judgements i.desk
most_same None d i = refl
most_same (Some out) d i = at (is_verdict_good i.answer.ruling && (length d.held == out.0))
  where
    at : (b : Bool)
        → most_judgements (cond b (record { desk = record { held = d.held; waiting = i.desk.waiting; coming = i.desk.coming; is_settling = true }; answer = record { event = i.answer.event; ruling = OutOfRange out.1 } }) i).desk ≡ most_judgements i.desk
    at true = refl
    at false = refl

-- each leaves fewer to be made
known_less : (limits : LimitNumbers) (out : Option (ℕ × ℕ)) (d : Desk) (j : Judgement) → next_known limits out d ≡ Some j → most_judgements j.desk < most_judgements d
known_less limits out d j next =
    let k = known_from out d (next_judgement limits false d) j next in
    let less = next_less limits false d k.0 k.1 in
    let same : most_judgements j.desk ≡ most_judgements k.0.desk = ap (λ (i : Judgement). most_judgements i.desk) (sym k.2) ∙ most_same out d k.0 in
    omega (arith, less, same)

none_more : (limits : LimitNumbers) (out : Option (ℕ × ℕ)) (from to : Desk) (answers : List Answer) → Leads limits out from answers to → most_judgements to ≤ most_judgements from
none_more limits out from to answers (Here) = omega arith
none_more limits out from to answers (Further before d j way next still) =
    let fewer = known_less limits out d j next in
    let few = none_more limits out from d before way in
    omega (arith, fewer, few)

pub fewer_left : (limits : LimitNumbers) (out : Option (ℕ × ℕ)) (d new then : Desk) (before mid after : Counted) (a : program.Answer) → Judges limits out d new before mid (Some a) → LeadsOn limits out new then mid after → most_judgements then < most_judgements d
fewer_left limits out d new then before mid after a j on =
    let less : most_judgements new < most_judgements d = subst (λ (x : Desk). most_judgements x < most_judgements d) (sym j.2) (known_less limits out d j.0 j.1) in
    let few = none_more limits out new then on.answers on.way in
    omega (arith, less, few)

-- what is held only grows
front_same : (out : Option (ℕ × ℕ)) (d : Desk) (i : Judgement) → IsFront d.held i.desk.held → IsFront d.held (with_known out d i).desk.held
front_same None d i f = f
front_same (Some out) d i f = at (is_verdict_good i.answer.ruling && (length d.held == out.0))
  where
    at : (b : Bool)
        → IsFront d.held (cond b (record { desk = record { held = d.held; waiting = i.desk.waiting; coming = i.desk.coming; is_settling = true }; answer = record { event = i.answer.event; ruling = OutOfRange out.1 } }) i).desk.held
    at true = ([], sym (append-nil d.held))
    at false = f

pub known_front : (limits : LimitNumbers) (out : Option (ℕ × ℕ)) (d : Desk) (j : Judgement) → next_known limits out d ≡ Some j → IsFront d.held j.desk.held
known_front limits out d j e =
    let k = known_from out d (next_judgement limits false d) j e in
    subst (λ (i : Judgement). IsFront d.held i.desk.held) k.2 (front_same out d k.0 (grown_next limits false d k.0 k.1))

pub judged_front : (limits : LimitNumbers) (out : Option (ℕ × ℕ)) (d new : Desk) (before after : Counted) (o : Option program.Answer) → Judges limits out d new before after o → IsFront d.held new.held
judged_front limits out d new before after None j = ([], ap (λ (x : Desk). x.held) j.1 ∙ sym (append-nil d.held))
judged_front limits out d new before after (Some a) j = subst (λ (x : Desk). IsFront d.held x.held) (sym j.2) (known_front limits out d j.0 j.1)

pub front_on : (xs ys zs : List Event) → IsFront xs ys → IsFront ys zs → IsFront xs zs
front_on xs ys zs g h = (g.0 ++ h.0, h.1 ∙ (ap (λ w. w ++ h.0) g.1 ∙ append_assoc xs g.0 h.0))

pub front_self : (xs : List Event) → IsFront xs xs
front_self xs = ([], sym (append-nil xs))

way_front : (limits : LimitNumbers) (out : Option (ℕ × ℕ)) (from to : Desk) (answers : List Answer) → Leads limits out from answers to → IsFront from.held to.held
way_front limits out from to answers (Here) = front_self from.held
way_front limits out from to answers (Further before d j way next still) = front_on from.held d.held j.desk.held (way_front limits out from d before way) (known_front limits out d j next)

pub leads_front : (limits : LimitNumbers) (out : Option (ℕ × ℕ)) (from to : Desk) (before after : Counted) → LeadsOn limits out from to before after → IsFront from.held to.held
leads_front limits out from to before after on = way_front limits out from to on.answers on.way
