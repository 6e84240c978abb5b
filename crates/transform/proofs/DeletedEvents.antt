-- Deletions of a run that are applied in one go are events of the walk.
use Rattle.std.proofs.Common.{◌≡◌, ◌↔◌, ℕ, zero, suc, ◌+◌, ◌-◌, ◌<◌, ◌≤◌, List, [], ◌∷◌, ◌++◌, length, map, take, replicate, Some, Result, Ok, Err, refl, sym, ap, ◌∙◌, subst, arith, append_assoc, append-nil}
use Rattle.std.specs.Prelude.{slice_get}
use Rattle.std.proofs.lemmas.List.{replicate_more}
use Rattle.ew_model.specs.declared.event.Op.TheVariants.{Del as Deletes_at}
use Rattle.ew_model.specs.declared.event.Event.{Event}
use Rattle.ew_model.specs.declared.text_op.TextOp.{TextOp}
use Rattle.ew_model.specs.declared.text_op.TextOp.TheVariants as change
use Rattle.ew_model.specs.Operations.{operations}
use Rattle.ew_model.specs.Sound.{AreSound}
use Rattle.ew_model.specs.TextLaws.{own_change}
use Rattle.ew_model.specs.Tree.{Applied}
use Rattle.ew_model.specs.Walks.{base_at, walked_from}
use Rattle.ew_model.proofs.ListParts.{element_there}
use Rattle.advance_retreat.specs.Conditions.{MayDelete}
use Rattle.advance_retreat.specs.Deleting.{MayDeleteEach, Deletes, DeletedEach}
use Rattle.advance_retreat.specs.Kept.{Kept}
use Rattle.advance_retreat.specs.Standing.{StandsFor}
use Rattle.advance_retreat.specs.declared.fault.ApplyFault.{ApplyFault}
use Rattle.advance_retreat.specs.declared.fault.ApplyFault.TheVariants.{OutOfRange}
use Rattle.event_graph.specs.Keeping.{IsAdmitted}
use Rattle.operation_runs.specs.Runs.{deletions, nothings}
use Rattle.operation_runs.proofs.RunLaws.{deletion_there, length-deletions}
use Rattle.transform.specs.Reaching.{IsReady, IsReadyAt, Reached, Turned, TurnedAt, over_since}
use Rattle.transform.specs.declared.apply.Turn.TheVariants as turns
use Rattle.transform.specs.Running.{IsRunAt}
use Rattle.transform.proofs.Applies.{change_is, deletion_answers, may_delete, prepared_length, ready, turned}
use Rattle.transform.proofs.Loops.{turned_at}
use Rattle.transform.proofs.OwnChanges.{asks_deletion}
use Rattle.transform.proofs.RunTurns.{ready_next}
use Rattle.transform.proofs.Sides.{length_front}
use Rattle.transform.proofs.WalkedEvents.{unnamed_later}

-- deletions at one index, and operations that change nothing, are all alike
pub deletions_alike : (at n : ℕ) → deletions at n ≡ replicate n (change.Del at)
deletions_alike at zero = refl
deletions_alike at (suc n) = ap (λ ops. change.Del at ∷ ops) (deletions_alike at n)

pub nothings_alike : (n : ℕ) → nothings n ≡ replicate n change.Nothing
nothings_alike zero = refl
nothings_alike (suc n) = ap (λ ops. change.Nothing ∷ ops) (nothings_alike n)

module _ (history : List Event) (admitted : IsAdmitted history) (sound : AreSound history) (cut position count place at many : ℕ) (old : Kept) (run : IsRunAt history position count (deletions at many)) (within : place < count) (first : IsReadyAt history cut (position + place) old) where
  abbrev n : ℕ
  n = position + place

  there : (k : ℕ) → place + k < count → (e : Event) × (slice_get history (n + k) ≡ Some e) × (e.op ≡ Deletes_at at)
  there k low =
      let told = run.told in
      let all = run.within in
      let long = length-deletions at many in
      let far : n + k ≡ position + (place + k) = omega arith in
      let found = element_there history (n + k) (omega (arith, low, all)) in
      let deletion : own_change found.0.op ≡ change.Del at =
      change_is history (n + k) found.0 (change.Del at) found.1
      (ap (slice_get (map (λ (e : Event). own_change e.op) history)) far ∙ run.changes_are (place + k) (omega (arith, low, told)) ∙ deletion_there at many (place + k) (omega (arith, low, told, long))) in
      (found.0, found.1, asks_deletion found.0.op at deletion)

  -- they may be applied
  pub run_may_delete : (b : ℕ) × (events : List (Applied ℕ)) × (prepared : List ℕ) × StandsFor old b events prepared × MayDeleteEach events n (count - place)
  run_may_delete =
      let here : place + 0 < count = omega (arith, within) in
      let none : n + 0 ≡ n = omega arith in
      let e = (there 0 here).0 in
      let at_e : slice_get history n ≡ Some e = ap (slice_get history) (sym none) ∙ (there 0 here).1 in
      let is_ready = ready history cut n e old admitted sound at_e first in
      let long = length_front history n e at_e in
      let low = is_ready.low in (
        base_at (take n history) cut,
        walked_from (take n history) cut,
        over_since (take n history) cut e,
        is_ready.stands,
        λ k lt. unnamed_later (take n history) cut (n + k) low (omega (arith, long)),
      )

  module _ (op : TextOp) where
    module _ (k : ℕ) (less : place + k < count) (now new : Kept)
        (each : (b : ℕ) (events : List (Applied ℕ)) (prepared : List ℕ) → StandsFor now b events prepared → MayDelete events (n + k) → Deletes new (n + k) at op b events prepared)
        (ready_at : IsReadyAt history cut (n + k) now) where
      abbrev m : ℕ
      m = n + k

      abbrev front : List Event
      front = take m history

      abbrev e : Event
      e = (there k less).0

      at_e : slice_get history m ≡ Some e
      at_e = (there k less).1

      is_ready : IsReady front cut e now
      is_ready = ready history cut m e now admitted sound at_e ready_at

      long_front : length front ≡ m
      long_front = length_front history m e at_e

      does : Deletes new m at op (base_at front cut) (walked_from front cut) (over_since front cut e)
      does = each (base_at front cut) (walked_from front cut) (over_since front cut e) is_ready.stands (may_delete front cut m is_ready.low long_front)

      in_text : (len : ℕ) → (◌≡◌ {A = Result TextOp ApplyFault} (Ok op) (Err (OutOfRange len))) ↔ ((len ≡ prepared_length front cut e) × (len ≤ at))
      in_text len = (λ refused. absurd cc, λ past. let low = does.within in let same = past.0 in let far = past.1 in absurd (omega (arith, low, same, far)))

      turn : Turned front cut e new (turns.Applied op)
      turn =
          turned front cut e now new (Ok op) is_ready
          (deletion_answers front cut e now new (Ok op) m at long_front (there k less).2 (sym does.does) does.stands in_text tt)

      deletion_turned : TurnedAt history cut m new (turns.Applied op)
      deletion_turned = turned_at history cut m e new (turns.Applied op) ready_at.behind at_e turn

    -- so many of the events and one more were walked, and did this
    record Walks (k : ℕ) (now : Kept) : Type 0 where
      pub goes : Reached history cut (n + suc k) now
      pub ops : operations (take (n + suc k) history) ≡ operations (take n history) ++ replicate (suc k) op

    walks_next : (k : ℕ) → place + k < count → (now new : Kept)
        → ((b : ℕ) (events : List (Applied ℕ)) (prepared : List ℕ) → StandsFor now b events prepared → MayDelete events (n + k) → Deletes new (n + k) at op b events prepared)
        → IsReadyAt history cut (n + k) now → operations (take (n + k) history) ≡ operations (take n history) ++ replicate k op → Walks k new
    walks_next k less now new each ready_at ops =
        let to = deletion_turned k less now new each ready_at in
        let one : n + k + 1 ≡ n + suc k = omega arith in
        let more : k + 1 ≡ suc k = omega arith in
        record {
          goes = subst (λ j. Reached history cut j new) one to.0;
          ops =
              ap (λ j. operations (take j history)) (sym one)
              ∙ to.1
              ∙ ap (λ os. os ++ op ∷ []) ops
              ∙ append_assoc (operations (take n history)) (replicate k op) (op ∷ [])
              ∙ ap (λ os. operations (take n history) ++ os) (replicate_more k op ∙ ap (λ j. replicate j op) more);
        }

    walks_to : (k : ℕ) → place + k < count → (new : Kept) → DeletedEach old new n at op (suc k) → Walks k new
    walks_to zero less new each =
        let none : n ≡ n + 0 = omega arith in
        walks_next 0 less each.0 new each.2
        (subst (λ (s : Kept). IsReadyAt history cut (n + 0) s) (sym each.1) (subst (λ j. IsReadyAt history cut j old) none first))
        (ap (λ j. operations (take j history)) (sym none) ∙ sym (append-nil (operations (take n history))))
    walks_to (suc k) less new each =
        let before = walks_to k (omega (arith, less)) each.0 each.1 in
        walks_next (suc k) less each.0 new each.2
        (ready_next history cut position count (n + suc k) (deletions at many) each.0 admitted sound run (omega arith) (omega (arith, less)) before.goes)
        before.ops

    module _ (done : ℕ) (some : 0 < done) (most : done ≤ count - place) (new : Kept) (each : DeletedEach old new n at op done) where
      all : Walks (done - 1) new
      all =
          let last : done ≡ suc (done - 1) = omega (arith, some) in
          walks_to (done - 1) (omega (arith, some, most)) new (subst (DeletedEach old new n at op) last each)

      end : n + suc (done - 1) ≡ n + done
      end = omega (arith, some)

      pub run_deleted : Reached history cut (n + done) new
      run_deleted = subst (λ j. Reached history cut j new) end all.goes

      pub run_ops_deleted : operations (take (n + done) history) ≡ operations (take n history) ++ replicate done op
      run_ops_deleted =
          let last : suc (done - 1) ≡ done = omega (arith, some) in
          ap (λ j. operations (take j history)) (sym end) ∙ all.ops ∙ ap (λ j. operations (take n history) ++ replicate j op) last
