-- Insertions of a run that are applied in one go are events of the walk.
use Rattle.std.proofs.Common.{◌≡◌, ◌↔◌, ℕ, zero, suc, ◌+◌, ◌-◌, ◌<◌, ◌≤◌, nat_eq, ◌||◌, true, false, ⊎_elim, List, [], ◌∷◌, ◌++◌, length, map, take, drop, get_or, Some, Result, Ok, Err, option_map, refl, sym, ap, ◌∙◌, subst, arith, append_assoc, append-nil}
use Rattle.std.specs.Prelude.{slice_get}
use Rattle.std.proofs.Math.Seq.{take-suc}
use Rattle.std.proofs.lemmas.Bool.{false≢true, eq-eqb, or_parts}
use Rattle.std.proofs.lemmas.List.{get_or-drop, get_or-take, length-drop, length-take-le, take-append-drop, take_all}
use Rattle.std.proofs.lemmas.Option.{slice_get-map, slice_get_within}
use Rattle.ew_model.specs.declared.id.Id.{Id}
use Rattle.ew_model.specs.declared.event.Op.TheVariants.{Ins}
use Rattle.ew_model.specs.declared.event.Event.{Event}
use Rattle.ew_model.specs.declared.text_op.TextOp.{TextOp}
use Rattle.ew_model.specs.declared.text_op.TextOp.TheVariants as change
use Rattle.ew_model.specs.Sets.{Among}
use Rattle.ew_model.specs.Ancestors.{ids_of, is_held}
use Rattle.ew_model.specs.Operations.{operations}
use Rattle.ew_model.specs.Records.{inserts_as}
use Rattle.ew_model.specs.Sound.{AreSound}
use Rattle.ew_model.specs.TextLaws.{own_change}
use Rattle.ew_model.specs.Tree.{Applied, act_by}
use Rattle.ew_model.specs.Walks.{base_at, walked_from}
use Rattle.ew_model.proofs.ListParts.{element_there}
use Rattle.ew_model.proofs.ListTests.{any_from}
use Rattle.ew_model.proofs.KeptLaws.{held_joined}
use Rattle.ew_model.proofs.RunLaws.{id_same}
use Rattle.ew_model.proofs.SetLaws.{among_joined}
use Rattle.agent_ids.specs.IdRuns.{AreNextFrom}
use Rattle.fugue_place.specs.Heirs.{id_on}
use Rattle.advance_retreat.specs.Conditions.{MayInsert}
use Rattle.advance_retreat.specs.Kept.{Kept}
use Rattle.advance_retreat.specs.Standing.{StandsFor}
use Rattle.advance_retreat.specs.declared.fault.ApplyFault.{ApplyFault}
use Rattle.advance_retreat.specs.declared.fault.ApplyFault.TheVariants.{OutOfRange}
use Rattle.advance_retreat.specs.Typing.{MayType, Inserts, TypedEach}
use Rattle.event_graph.specs.Keeping.{IsAdmitted}
use Rattle.operation_runs.specs.Runs.{insertions}
use Rattle.operation_runs.proofs.RunLaws.{insertion_there, insertions_append, insertions_to, length-insertions}
use Rattle.transform.specs.Reaching.{IsReady, IsReadyAt, Reached, Turned, over_since, prepared_since}
use Rattle.transform.specs.declared.apply.Turn.TheVariants as turns
use Rattle.transform.specs.Running.{IsRunAt}
use Rattle.transform.proofs.Applies.{change_is, id_is, insertion_answers, may_insert, prepared_length, ready, turned}
use Rattle.transform.proofs.AtPlaces.{new_there}
use Rattle.transform.proofs.CutFronts.{take_front}
use Rattle.transform.proofs.Loops.{turned_at}
use Rattle.transform.proofs.RunTurns.{ready_next}
use Rattle.transform.proofs.OwnChanges.{asks_insertion}
use Rattle.transform.proofs.Sides.{length_front, take_next}
use Rattle.transform.proofs.WalkedEvents.{uninserted, unnamed, unnamed_later, walked, walked_more}

-- Each of so many events behind the one at a position inserts a character under the next id, right behind that of the one before:
-- the first at an index.
record AreTyped (history : List Event) (x : Id) (newest n at : ℕ) (chars : List ℕ) : Type 0 where
  pub there : (k : ℕ) → k < n → (e : Event) × (slice_get history (newest + k + 1) ≡ Some e) × (e.id ≡ id_on x (k + 1)) × (e.op ≡ Ins (at + k) (get_or chars k 0))

-- WHAT MAY BE APPLIED SO
may_type : (history : List Event) (cut newest n at : ℕ) (x : Id) (chars : List ℕ) (e : Event) (to ch : ℕ) → IsAdmitted history → cut ≤ newest → slice_get history newest ≡ Some e → e.id ≡ x → e.op ≡ Ins to ch
    → AreTyped history x newest n at chars → MayType (walked_from (take (newest + 1) history) cut) x newest n
may_type history cut newest n at x chars e to ch admitted low at_e id op typed = record {
  under = λ c m named y inserts. ⊎_elim (λ before. absurd (earlier c named before)) (λ own. ⊎_elim (λ same. itself c same y inserts) (λ no. absurd no) own) (among_joined (walked_from front cut) (walked front cut e ∷ []) c (subst (Among c) parts m));
  new = λ k few. record { position = unnamed_later (take (newest + 1) history) cut (newest + k + 1) (omega (arith, low, long_more)) (omega (arith, long_more)); id = uninserted (take (newest + 1) history) cut (id_on x (k + 1)) (unheld k few) };
}
  where
    front : List Event
    front = take newest history

    long_front : length front ≡ newest
    long_front = length_front history newest e at_e

    long_more : length (take (newest + 1) history) ≡ newest + 1
    long_more = let within = slice_get_within history newest e at_e in length-take-le (newest + 1) history (omega (arith, within))

    parts : walked_from (take (newest + 1) history) cut ≡ walked_from front cut ++ walked front cut e ∷ []
    parts = ap (λ (es : List Event). walked_from es cut) (take_next history newest e at_e) ∙ walked_more front cut e (omega (arith, low, long_front))

    earlier : (c : Applied ℕ) → c.name ≡ newest → Among c (walked_from front cut) → ⊥
    earlier c named m =
        false≢true (sym (unnamed front cut (omega (arith, low, long_front))) ∙ any_from (λ (d : Applied ℕ). nat_eq d.name (length front)) (walked_from front cut) c m (eq-eqb c.name (length front) (named ∙ sym long_front)))

    itself : (c : Applied ℕ) → c ≡ walked front cut e → (y : Id) → inserts_as y c.act ≡ true → y ≡ x
    itself c same y h = sym (id_same x y (sym (ap (λ (d : Applied ℕ). inserts_as y d.act) same ∙ (λ i. inserts_as y (act_by (id i) (op i)))) ∙ h))

    unheld : (k : ℕ) → k < n → is_held (take (newest + 1) history) (id_on x (k + 1)) ≡ false
    unheld k few =
        let there = typed.there k few in
        let whole = take (newest + k + 1) history in
        let first : take (newest + 1) whole ≡ take (newest + 1) history = take_front (newest + 1) (newest + k + 1) history (omega arith) in
        let new : is_held whole (id_on x (k + 1)) ≡ false = ap (is_held whole) (sym there.2) ∙ new_there history admitted (newest + k + 1) there.0 there.1 in
        let split : is_held whole (id_on x (k + 1)) ≡ (is_held (take (newest + 1) whole) (id_on x (k + 1)) || is_held (drop (newest + 1) whole) (id_on x (k + 1))) =
        ap (λ (es : List Event). is_held es (id_on x (k + 1))) (sym (take-append-drop (newest + 1) whole)) ∙ held_joined (take (newest + 1) whole) (drop (newest + 1) whole) (id_on x (k + 1)) in
        ap (λ (es : List Event). is_held es (id_on x (k + 1))) (sym first) ∙ (or_parts (is_held (take (newest + 1) whole) (id_on x (k + 1))) (is_held (drop (newest + 1) whole) (id_on x (k + 1))) (sym split ∙ new)).0

-- THOSE OF A RUN, behind its first
run_typed : (history : List Event) (position count place newest n most at : ℕ) (x : Id) (chars : List ℕ) → IsRunAt history position count (insertions at chars) → newest + 1 ≡ position + place → 0 < place → place + n ≤ count
    → slice_get (ids_of history) newest ≡ Some x → AreNextFrom (ids_of history) newest most → n ≤ most → AreTyped history x newest n (at + place) (take n (drop place chars))
run_typed history position count place newest n most at x chars run here some within id next few = record {
  there = λ k low.
      let told = run.told in
      let all = run.within in
      let long = length-insertions at chars in
      let far : newest + k + 1 ≡ position + (place + k) = omega (arith, here) in
      let on : newest + (k + 1) ≡ newest + k + 1 = omega arith in
      let found = element_there history (newest + k + 1) (omega (arith, far, low, within, all)) in
      let insertion : own_change found.0.op ≡ change.Ins (at + (place + k)) (get_or chars (place + k) 0) =
      change_is history (newest + k + 1) found.0 (change.Ins (at + (place + k)) (get_or chars (place + k) 0)) found.1
      (ap (slice_get (map (λ (e : Event). own_change e.op) history)) far ∙ run.changes_are (place + k) (omega (arith, low, within, told)) ∙ insertion_there at chars (place + k) (omega (arith, low, within, told, long))) in
      let index : at + (place + k) ≡ at + place + k = omega arith in
      let char : get_or chars (place + k) 0 ≡ get_or (take n (drop place chars)) k 0 = sym (get_or-take n (drop place chars) k 0 low ∙ get_or-drop place chars k 0) in (
        found.0,
        found.1,
        id_is history (newest + k + 1) found.0 (id_on x (k + 1)) found.1 (ap (slice_get (ids_of history)) (sym on) ∙ next x id (k + 1) (omega (arith, low, few))),
        asks_insertion found.0.op (at + (place + k)) (get_or chars (place + k) 0) insertion ∙ (λ i. Ins (index i) (char i)),
      );
}

-- part of the characters of a run, and their insertions
pub slice_long : (place n : ℕ) (chars : List ℕ) → place + n ≤ length chars → length (take (place + n - place) (drop place chars)) ≡ n
slice_long place n chars few =
    let same : place + n - place ≡ n = omega arith in
    ap (λ m. length (take m (drop place chars))) same ∙ length-take-le n (drop place chars) (omega (arith, few, length-drop place chars))

pub slice_ops : (first place n : ℕ) (chars : List ℕ) → take n (insertions first (take (place + n - place) (drop place chars))) ≡ insertions first (take n (drop place chars))
slice_ops first place n chars =
    let same : place + n - place ≡ n = omega arith in
    ap (λ m. take n (insertions first (take m (drop place chars)))) same
    ∙ insertions_to first (take n (drop place chars)) n
    ∙ ap (insertions first) (take_front n n (drop place chars) (omega arith))

-- Where a walk stands behind an insertion of a run, so many further ones may be applied in one go, and are walked then.
module _ (history : List Event) (admitted : IsAdmitted history) (sound : AreSound history) (cut position count place newest n most at : ℕ) (chars : List ℕ) (old : Kept) (run : IsRunAt history position count (insertions at chars)) (some : 0 < place) (here : newest + 1 ≡ position + place) (walked : Reached history cut (position + place) old) (within : place + n ≤ count) (few : n ≤ most) (next : AreNextFrom (ids_of history) newest most) where
  abbrev pub slice : List ℕ
  slice = take n (drop place chars)

  start : newest + 0 + 1 ≡ newest + 1
  start = omega arith

  reached : Reached history cut (newest + 0 + 1) old
  reached = let same : position + place ≡ newest + 0 + 1 = omega (arith, here) in subst (λ m. Reached history cut m old) same walked

  low : cut ≤ newest
  low = let less = reached.some in omega (arith, less)

  abbrev found : (e : Event) × (slice_get history newest ≡ Some e)
  found = let all = run.within in element_there history newest (omega (arith, here, within, all, some))

  abbrev x : Id
  x = found.0.id

  id_there : slice_get (ids_of history) newest ≡ Some x
  id_there = slice_get-map (λ (e : Event). e.id) history newest ∙ ap (option_map (λ (e : Event). e.id)) found.1

  typed : AreTyped history x newest n (at + place) slice
  typed = run_typed history position count place newest n most at x chars run here some within id_there next few

  long_slice : length slice ≡ n
  long_slice =
      let told = run.told in
      let long = length-insertions at chars in
      length-take-le n (drop place chars) (omega (arith, within, told, long, length-drop place chars))

  own : own_change found.0.op ≡ change.Ins (at + (place - 1)) (get_or chars (place - 1) 0)
  own =
      let told = run.told in
      let long = length-insertions at chars in
      let there : newest ≡ position + (place - 1) = omega (arith, here, some) in
      change_is history newest found.0 (change.Ins (at + (place - 1)) (get_or chars (place - 1) 0)) found.1
      (ap (slice_get (map (λ (e : Event). own_change e.op) history)) there
      ∙ run.changes_are (place - 1) (omega (arith, some, within, told))
      ∙ insertion_there at chars (place - 1) (omega (arith, some, within, told, long)))

  may : MayType (walked_from (take (newest + 0 + 1) history) cut) x newest n
  may =
      subst (λ m. MayType (walked_from (take m history) cut) x newest n) (sym start)
      (may_type history cut newest n (at + place) x slice found.0 (at + (place - 1)) (get_or chars (place - 1) 0) admitted low found.1 refl (asks_insertion found.0.op (at + (place - 1)) (get_or chars (place - 1) 0) own) typed)

  pub run_may_type : (b : ℕ) × (events : List (Applied ℕ)) × (prepared : List ℕ) × (x : Id) × StandsFor old b events prepared × MayType events x newest n
  run_may_type = (base_at history cut, walked_from (take (newest + 0 + 1) history) cut, prepared_since (take (newest + 0 + 1) history) cut, x, reached.stands, may)

  module _ (first : ℕ) where
    -- so many of the events were walked, and did this
    record Walks (k : ℕ) (now : Kept) : Type 0 where
      pub goes : Reached history cut (newest + k + 1) now
      pub ops : operations (take (newest + k + 1) history) ≡ operations (take (newest + 0 + 1) history) ++ insertions first (take k slice)

    module _ (k : ℕ) (less : k < n) (now new : Kept)
        (each : (b : ℕ) (events : List (Applied ℕ)) (prepared : List ℕ) (ch : ℕ) → StandsFor now b events prepared → MayInsert events (newest + k + 1) (id_on x (k + 1)) → Inserts new (newest + k + 1) (id_on x (k + 1)) (at + place + k) (first + k) b events prepared ch)
        (walks : Walks k now) where
      abbrev m : ℕ
      m = newest + k + 1

      abbrev front : List Event
      front = take m history

      abbrev e : Event
      e = (typed.there k less).0

      abbrev ch : ℕ
      ch = get_or slice k 0

      at_e : slice_get history m ≡ Some e
      at_e = (typed.there k less).1

      ready_at : IsReadyAt history cut m now
      ready_at = ready_next history cut position count m (insertions at chars) now admitted sound run (omega (arith, here, some)) (omega (arith, here, less, within)) walks.goes

      is_ready : IsReady front cut e now
      is_ready = ready history cut m e now admitted sound at_e ready_at

      long_front : length front ≡ m
      long_front = length_front history m e at_e

      inserts : Inserts new m (id_on x (k + 1)) (at + place + k) (first + k) (base_at front cut) (walked_from front cut) (over_since front cut e) ch
      inserts = each (base_at front cut) (walked_from front cut) (over_since front cut e) ch is_ready.stands (may_insert front cut e m (id_on x (k + 1)) is_ready.low is_ready.admitted (typed.there k less).2 long_front)

      in_text : (len : ℕ) → (◌≡◌ {A = Result TextOp ApplyFault} (Ok (change.Ins (first + k) ch)) (Err (OutOfRange len))) ↔ ((len ≡ prepared_length front cut e) × (len < at + place + k))
      in_text len = (λ refused. absurd cc, λ past. let low = inserts.within in let same = past.0 in let far = past.1 in absurd (omega (arith, low, same, far)))

      turn : Turned front cut e new (turns.Applied (change.Ins (first + k) ch))
      turn =
          turned front cut e now new (Ok (change.Ins (first + k) ch)) is_ready
          (insertion_answers front cut e now new (Ok (change.Ins (first + k) ch)) m (id_on x (k + 1)) (at + place + k) ch long_front (typed.there k less).2 (typed.there k less).3 (sym inserts.does) inserts.stands in_text tt)

      one_op : insertions first (take k slice) ++ change.Ins (first + k) ch ∷ [] ≡ insertions first (take (suc k) slice)
      one_op =
          let many : length (take k slice) ≡ k = length-take-le k slice (omega (arith, less, long_slice)) in
          ap (λ j. insertions first (take k slice) ++ change.Ins (first + j) ch ∷ []) (sym many)
          ∙ sym (insertions_append first (take k slice) (ch ∷ []))
          ∙ ap (insertions first) (sym (take-suc slice k 0 (omega (arith, less, long_slice))))

      walks_next : Walks (suc k) new
      walks_next =
          let to = turned_at history cut m e new (turns.Applied (change.Ins (first + k) ch)) ready_at.behind at_e turn in
          let one : m + 1 ≡ newest + suc k + 1 = omega arith in
          record {
            goes = subst (λ j. Reached history cut j new) one to.0;
            ops =
                ap (λ j. operations (take j history)) (sym one)
                ∙ to.1
                ∙ ap (λ ops. ops ++ change.Ins (first + k) ch ∷ []) walks.ops
                ∙ append_assoc (operations (take (newest + 0 + 1) history)) (insertions first (take k slice)) (change.Ins (first + k) ch ∷ [])
                ∙ ap (λ ops. operations (take (newest + 0 + 1) history) ++ ops) one_op;
          }

    first_there : position + place ≡ newest + 0 + 1
    first_there = omega (arith, here)

    walks_to : (k : ℕ) → k ≤ n → (now : Kept) → TypedEach old now x newest (at + place) k first → Walks k now
    walks_to zero less now each = record {
      goes = subst (λ (s : Kept). Reached history cut (newest + 0 + 1) s) (sym each) reached;
      ops = sym (append-nil (operations (take (newest + 0 + 1) history)));
    }
    walks_to (suc k) less now each = walks_next k (omega (arith, less)) each.0 now each.2 (walks_to k (omega (arith, less)) each.0 each.1)

    module _ (new : Kept) (told : (b : ℕ) (events : List (Applied ℕ)) (prepared : List ℕ) (x : Id) → StandsFor old b events prepared → MayType events x newest n → TypedEach old new x newest (at + place) n first) where
      all : Walks n new
      all = walks_to n (omega arith) new (told (base_at history cut) (walked_from (take (newest + 0 + 1) history) cut) (prepared_since (take (newest + 0 + 1) history) cut) x reached.stands may)

      end : newest + n + 1 ≡ position + place + n
      end = omega (arith, here)

      pub run_walked : Reached history cut (position + place + n) new
      run_walked = subst (λ j. Reached history cut j new) end all.goes

      pub run_ops_typed : operations (take (position + place + n) history) ≡ operations (take (position + place) history) ++ insertions first slice
      run_ops_typed =
          ap (λ j. operations (take j history)) (sym end)
          ∙ all.ops
          ∙ (λ i. operations (take (sym first_there i) history) ++ insertions first (take_all n slice (omega (arith, long_slice)) i))
