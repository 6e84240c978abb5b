-- The events of a run from one on.
use Rattle.std.proofs.Common.{◌≡◌, ℕ, zero, suc, ◌+◌, ◌-◌, ◌<◌, ◌≤◌, List, [], map, length, take, drop, get_or, slice_get, slice_index_or, option_map, ◌∷◌, append-nil, Some, refl, sym, ap, ◌∙◌, subst, arith}
use Rattle.std.specs.List.{range_with_len}
use Rattle.std.proofs.lemmas.List.{drop_more}
use Rattle.std.proofs.lemmas.List.FromFn.{length-map-range_with_len}
use Rattle.std.proofs.lemmas.Option.{slice_get-map, get_or_from_slice_get}
use Rattle.ew_model.specs.declared.text_op.TextOp.{TextOp}
use Rattle.ew_model.specs.declared.text_op.TextOp.TheVariants.{Ins, Del, Nothing}
use Rattle.ew_model.specs.TextLaws.{own_change}
use Rattle.frontier.specs.Chains.{IsChain}
use Rattle.operation_runs.specs.Runs.{insertions, deletions, back_deletions, nothings}
use Rattle.event_runs.specs.declared.runs.Run.{Run}
use Rattle.event_runs.specs.declared.runs.RunKind.{RunKind}
use Rattle.event_runs.specs.declared.runs.RunKind.TheVariants.{Insertions, Deletions, BackDeletions, Marks}
use Rattle.event_runs.specs.BareEvents.{BareEvent, ops_in, parents_in}
use Rattle.event_runs.specs.KeptRuns.{Told, op_in, chars_of, events_in, AreKept}
use Rattle.event_runs.specs.Rests.{change_in, changes_from, IsRest}
use Rattle.event_runs.specs.Runs.{AreRunsOf, IsRunEnd}
use Rattle.event_runs.proofs.Found.{HasFound, found, found_parents, later_parents}
use Rattle.event_runs.proofs.Maximal.{parted, are_runs_of}
use Rattle.event_runs.proofs.RunEvents.{length-events_in, read_part}

pub length-changes_from : (r : Run) (chars : List ℕ) (before : ℕ) → length (changes_from r chars before) ≡ suc r.more - before
length-changes_from r chars before = length-map-range_with_len (change_in r chars) before (suc r.more - before)

-- WHAT THE REST OF A RUN IS, by its kind
module _ (at place : ℕ) (chars : List ℕ) where
  abbrev changes_by : RunKind → ℕ → ℕ → List TextOp
  changes_by kind before n = map (λ k. own_change (op_in kind at place (record { chars = chars; labels = [] }) k)) (range_with_len before n)

  insertions_by : (before n : ℕ) → place + before + n ≤ length chars → insertions (at + before) (take n (drop (place + before) chars)) ≡ changes_by Insertions before n
  insertions_by before zero h = refl
  insertions_by before (suc n) h =
      let low : place + before < length chars = omega (arith, h) in
      let next : at + before + 1 ≡ at + (before + 1) = omega arith in
      let there : place + before + 1 ≡ place + (before + 1) = omega arith in
      ap (λ (cs : List ℕ). insertions (at + before) (take (suc n) cs)) (drop_more chars (place + before) 0 low)
      ∙ ap (λ ops. Ins (at + before) (get_or chars (place + before) 0) ∷ ops)
      ((λ i. insertions (next i) (take n (drop (there i) chars))) ∙ insertions_by (before + 1) n (omega (arith, h)))

  deletions_by : (before n : ℕ) → deletions at n ≡ changes_by Deletions before n
  deletions_by before zero = refl
  deletions_by before (suc n) = ap (λ ops. Del at ∷ ops) (deletions_by (before + 1) n)

  back_by : (before n : ℕ) → back_deletions (at - before) n ≡ changes_by BackDeletions before n
  back_by before zero = refl
  back_by before (suc n) =
      let next : at - before - 1 ≡ at - (before + 1) = omega arith in
      ap (λ ops. Del (at - before) ∷ ops) (ap (λ i. back_deletions i n) next ∙ back_by (before + 1) n)

  nothings_by : (before n : ℕ) → nothings n ≡ changes_by Marks before n
  nothings_by before zero = refl
  nothings_by before (suc n) = ap (λ ops. Nothing ∷ ops) (nothings_by (before + 1) n)

module _ (r : Run) (chars : List ℕ) (before : ℕ) where
  of_kind : (kind : RunKind) → r.kind ≡ kind → changes_by r.at r.chars_before chars kind before (suc r.more - before) ≡ changes_from r chars before
  of_kind kind is = ap (λ k. changes_by r.at r.chars_before chars k before (suc r.more - before)) (sym is)

  pub rest_insertions : (n : ℕ) → r.kind ≡ Insertions → n ≡ suc r.more - before → IsRest r chars before → insertions (r.at + before) (take n (drop (r.chars_before + before) chars)) ≡ changes_from r chars before
  rest_insertions n is long rest =
      let some = rest.some in
      let all = subst (λ (k : RunKind). r.chars_before + chars_of k (suc r.more) ≤ length chars) is rest.within in
      ap (λ m. insertions (r.at + before) (take m (drop (r.chars_before + before) chars))) long ∙ insertions_by r.at r.chars_before chars before (suc r.more - before) (omega (arith, some, all)) ∙ of_kind Insertions is

  pub rest_deletions : (n : ℕ) → r.kind ≡ Deletions → n ≡ suc r.more - before → deletions r.at n ≡ changes_from r chars before
  rest_deletions n is long = ap (deletions r.at) long ∙ deletions_by r.at r.chars_before chars before (suc r.more - before) ∙ of_kind Deletions is

  pub rest_back : (n : ℕ) → r.kind ≡ BackDeletions → n ≡ suc r.more - before → back_deletions (r.at - before) n ≡ changes_from r chars before
  rest_back n is long = ap (back_deletions (r.at - before)) long ∙ back_by r.at r.chars_before chars before (suc r.more - before) ∙ of_kind BackDeletions is

  pub rest_nothings : (n : ℕ) → r.kind ≡ Marks → n ≡ suc r.more - before → nothings n ≡ changes_from r chars before
  rest_nothings n is long = ap nothings long ∙ nothings_by r.at r.chars_before chars before (suc r.more - before) ∙ of_kind Marks is

pub read_changes : (r : Run) (chars : List ℕ) (before place : ℕ) → place < suc r.more - before → slice_get (changes_from r chars before) place ≡ Some (change_in r chars (before + place))
read_changes r chars before place l =
    ap (λ (changes : List TextOp). slice_get changes place) (sym (append-nil (changes_from r chars before))) ∙ read_part (change_in r chars) before (suc r.more - before) [] place l

-- of a mark the label doesn't matter
pub own_change_told : (kind : RunKind) (at place : ℕ) (told : Told) (labels : List (List ℕ)) (k : ℕ) → own_change (op_in kind at place told k) ≡ own_change (op_in kind at place (record { chars = told.chars; labels = labels }) k)
own_change_told Insertions at place told labels k = refl
own_change_told Deletions at place told labels k = refl
own_change_told BackDeletions at place told labels k = refl
own_change_told Marks at place told labels k = refl

module _ (cs : Told) (runs : List Run) (lists : List (List ℕ)) (count place lv : ℕ) (run : Run) (k : AreKept runs lists cs count) (f : HasFound cs runs lists count place lv run) where
  -- another event of the run
  further : (p : ℕ) → lv ≤ p → p ≤ run.start + run.more → HasFound cs runs lists count place p run
  further p low high =
      let from = f.from in
      found cs runs runs lists count place p run k refl (record { run = run; there = f.there; from = omega (arith, from, low); to = high }) (sym (get_or_from_slice_get runs place run run f.there))

  pub rest_chained : (last : ℕ) → last ≡ run.start + run.more → IsChain (parents_in (events_in cs runs lists)) lv last
  rest_chained last is = record {
    order = let to = f.to in omega (arith, to, is);
    links = λ p low high.
        let from = f.from in
        let next = further (suc p) (omega (arith, low)) (omega (arith, high, is)) in
        let here : suc p - 1 ≡ p = omega arith in
        found_parents cs runs lists count place (suc p) run next ∙ later_parents (slice_index_or lists place []) run.start (suc p) (omega (arith, from, low)) ∙ ap (λ n. n ∷ []) here;
  }

  pub rest_ends : (end : ℕ) → end ≡ run.start + suc run.more → IsRunEnd (events_in cs runs lists) lv end
  rest_ends end is =
      let parts = parted cs runs lists 0 0 count (length cs.chars) place run k.in_line f.there in
      let at = parts.starts in let long = parts.long in let from = f.from in let to = f.to in
      record {
        before = parts.before;
        run = parts.run;
        after = parts.after;
        runs = subst (AreRunsOf (events_in cs runs lists)) (sym parts.parts) (are_runs_of cs runs lists count (length cs.chars) k.in_line);
        from = omega (arith, at, from);
        to = omega (arith, is, to);
        ends = omega (arith, at, long, is);
      }

  pub rest_within : run.start + suc run.more ≤ length (events_in cs runs lists)
  rest_within =
      let all = length-events_in cs runs lists 0 0 count (length cs.chars) k.in_line in
      let high = f.within.high in omega (arith, all, high)

  pub rest_change : (n : ℕ) → lv + n ≤ run.start + run.more → slice_get (map own_change (ops_in (events_in cs runs lists))) (lv + n) ≡ Some (change_in run cs.chars (lv - run.start + n))
  rest_change n high =
      let events = events_in cs runs lists in
      let next = further (lv + n) (omega arith) high in
      let from = f.from in
      let there : lv + n - run.start ≡ lv - run.start + n = omega (arith, from) in
      slice_get-map own_change (ops_in events) (lv + n)
      ∙ ap (option_map own_change) (slice_get-map (λ (e : BareEvent). e.op) events (lv + n) ∙ ap (option_map (λ (e : BareEvent). e.op)) next.event)
      ∙ ap Some (own_change_told run.kind run.at run.chars_before cs [] (lv + n - run.start))
      ∙ ap (λ j. Some (change_in run cs.chars j)) there
