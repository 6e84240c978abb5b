-- The events at the positions of spans, taken into a part one span after another.
use Rattle.std.proofs.Common.{◌≡◌, ℕ, suc, ◌+◌, ◌-◌, ◌<◌, ◌≤◌, ◌^◌, List, [], ◌∷◌, ◌++◌, length, take, get_or, Option, Some, sym, ap, ◌∙◌, subst, arith, append-nil, append_assoc, length-append, All}
use Rattle.std.specs.Prelude.{slice_get}
use Rattle.std.specs.Option.{option_to_list}
use Rattle.std.proofs.Math.Seq.{take-length}
use Rattle.std.proofs.lemmas.Grind.{flat_map-append}
use Rattle.std.proofs.lemmas.List.{take_more}
use Rattle.std.proofs.lemmas.List.Elements.{All-from_recursion, recursion_from_All}
use Rattle.ew_model.specs.declared.event.Event.{Event}
use Rattle.ew_model.specs.Verdicts.{graph_verdict}
use Rattle.ew_model.specs.Verdicts.Ruling.{Good}
use Rattle.ancestors.specs.declared.spans.Span.{Span}
use Rattle.ancestors.specs.Spans.{positions_in, positions_of}
use Rattle.ancestors.proofs.SpanLists.{positions_push}
use Rattle.event_graph.specs.Keeping.{AreAdmittedAfter}
use Rattle.event_graph.specs.Subgraphs.{events_at}
use Rattle.std.specs.List.{AllByRecursion}

-- these positions are next: they are within, their events may come behind the part, and are not too many
pub record AreNext (history part : List Event) (positions : List ℕ) : Type 0 where
  pub within : All (λ p. p < length history) positions
  pub admitted : AreAdmittedAfter part (events_at history positions)
  pub few : length part + length (events_at history positions) < 2 ^ 32

-- the first of the next positions
pub record Step (history part : List Event) (first : ℕ) (e : Event) (later whole : List ℕ) : Type 0 where
  pub good : graph_verdict part e ≡ Good
  pub room : length part + 1 < 2 ^ 32
  pub next : AreNext history (part ++ e ∷ []) later
  pub same : (part ++ e ∷ []) ++ events_at history later ≡ part ++ events_at history whole

pub step : (history part : List Event) (first : ℕ) (e : Event) (later whole : List ℕ) → whole ≡ first ∷ later → slice_get history first ≡ Some e → AreNext history part whole → Step history part first e later whole
step history part first e later whole is here next =
    let events : events_at history whole ≡ e ∷ events_at history later = ap (events_at history) is ∙ ap (λ (o : Option Event). option_to_list o ++ events_at history later) here in
    let admitted : AreAdmittedAfter part (e ∷ events_at history later) = subst (AreAdmittedAfter part) events next.admitted in
    let within = recursion_from_All (λ p. p < length history) (first ∷ later) (subst (All (λ p. p < length history)) is next.within) in
    let long : length (events_at history whole) ≡ suc (length (events_at history later)) = ap (length {A = Event}) events in
    let grown : length (part ++ e ∷ []) ≡ length part + 1 = length-append part (e ∷ []) in
    let few = next.few in
    record {
      good = admitted.0;
      room = omega (arith, few, long);
      next = record { within = All-from_recursion (λ p. p < length history) later within.1; admitted = admitted.1; few = omega (arith, few, long, grown) };
      same = append_assoc part (e ∷ []) (events_at history later) ∙ ap (λ (es : List Event). part ++ es) (sym events);
    }

all_parts : (P : ℕ → Type 0) (xs ys : List ℕ) → AllByRecursion P (xs ++ ys) → AllByRecursion P xs × AllByRecursion P ys
all_parts P [] ys h = (tt, h)
all_parts P (x ∷ xs) ys h = let more = all_parts P xs ys h.1 in ((h.0, more.0), more.1)

admitted_parts : (part front later : List Event) → AreAdmittedAfter part (front ++ later) → AreAdmittedAfter part front × AreAdmittedAfter (part ++ front) later
admitted_parts part [] later h = (tt, subst (λ (es : List Event). AreAdmittedAfter es later) (sym (append-nil part)) h)
admitted_parts part (e ∷ front) later h =
    let more = admitted_parts (part ++ e ∷ []) front later h.1 in
    ((h.0, more.0), subst (λ (es : List Event). AreAdmittedAfter es later) (append_assoc part (e ∷ []) front) more.1)

-- a span of the next positions, and what is left
pub record Turn (history part : List Event) (span : Span) (left whole : List ℕ) : Type 0 where
  pub now : AreNext history part (positions_in span)
  pub next : AreNext history (part ++ events_at history (positions_in span)) left
  pub same : (part ++ events_at history (positions_in span)) ++ events_at history left ≡ part ++ events_at history whole

turn_of : (history part : List Event) (span : Span) (left whole : List ℕ) → whole ≡ positions_in span ++ left → AreNext history part whole → Turn history part span left whole
turn_of history part span left whole is next =
    let here = events_at history (positions_in span) in
    let later = events_at history left in
    let events : events_at history whole ≡ here ++ later = ap (events_at history) is ∙ flat_map-append (λ p. option_to_list (slice_get history p)) (positions_in span) left in
    let admitted = admitted_parts part here later (subst (AreAdmittedAfter part) events next.admitted) in
    let within = all_parts (λ p. p < length history) (positions_in span) left (recursion_from_All (λ p. p < length history) (positions_in span ++ left) (subst (All (λ p. p < length history)) is next.within)) in
    let long : length (events_at history whole) ≡ length here + length later = ap (length {A = Event}) events ∙ length-append here later in
    let grown : length (part ++ here) ≡ length part + length here = length-append part here in
    let few = next.few in
    record {
      now = record { within = All-from_recursion (λ p. p < length history) (positions_in span) within.0; admitted = admitted.0; few = omega (arith, few, long) };
      next = record { within = All-from_recursion (λ p. p < length history) left within.1; admitted = admitted.1; few = omega (arith, few, long, grown) };
      same = append_assoc part here later ∙ ap (λ (es : List Event). part ++ es) (sym events);
    }

-- the lowest of so many spans is next
pub span_turn : (history part : List Event) (spans : List Span) (left : ℕ) (d : Span) → 0 < left → left ≤ length spans → AreNext history part (positions_of (take left spans))
    → Turn history part (get_or spans (left - 1) d) (positions_of (take (left - 1) spans)) (positions_of (take left spans))
span_turn history part spans left d some within next =
    let last : left - 1 + 1 ≡ left = omega (arith, some) in
    let cut : positions_of (take left spans) ≡ positions_in (get_or spans (left - 1) d) ++ positions_of (take (left - 1) spans) =
    ap (λ n. positions_of (take n spans)) (sym last) ∙ ap positions_of (take_more spans (left - 1) d (omega (arith, some, within))) ∙ positions_push (take (left - 1) spans) (get_or spans (left - 1) d) in
    turn_of history part (get_or spans (left - 1) d) (positions_of (take (left - 1) spans)) (positions_of (take left spans)) cut next

-- before the first span all are next
pub all_next : (history : List Event) (spans : List Span) (part : List Event) → part ≡ [] → AreNext history [] (positions_of spans) → AreNext history part (positions_of (take (length spans) spans))
all_next history spans part none next =
    subst (λ (es : List Event). AreNext history es (positions_of (take (length spans) spans))) (sym none)
    (subst (λ (ss : List Span). AreNext history [] (positions_of ss)) (sym (take-length spans)) next)
