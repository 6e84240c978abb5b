-- The event that was looked for.
use Rattle.std.proofs.Common.{◌≡◌, ℕ, suc, zero, ◌+◌, ◌-◌, ◌<◌, ◌≤◌, List, [], ◌∷◌, length, get_or, take, slice_get, option_map, slice_index_or, Some, refl, sym, ap, ◌∙◌, subst, arith}
use Rattle.std.proofs.lemmas.List.{length-take-le, length-map}
use Rattle.std.proofs.lemmas.Option.{slice_get_within, get_or_from_slice_get, slice_get-map}
use Rattle.ew_model.specs.Positions.{AreParents, IsHistoryOfParents, parents_at}
use Rattle.frontier.specs.Chains.{IsChain}
use Rattle.event_runs.specs.declared.runs.Run.{Run}
use Rattle.event_runs.specs.BareEvents.{BareEvent, parents_in}
use Rattle.event_runs.specs.KeptRuns.{Told, HasLabel, parents_behind, event_in, events_in, AreKept, IsHeldAt}
use Rattle.event_runs.specs.Runs.{AreRunsOf, IsRunStart}
use Rattle.event_runs.proofs.Maximal.{parted, are_runs_of}
use Rattle.event_runs.proofs.RunEvents.{IsWithin, length-events_in, run_within, label_within, read_events}

-- the characters and the labels together
abbrev pub told_by : List ℕ → List (List ℕ) → Told
told_by chars labels = record { chars = chars; labels = labels }

-- the run that has the event at a position
pub record HasFound (cs : Told) (runs : List Run) (lists : List (List ℕ)) (count place lv : ℕ) (run : Run) : Type 0 where
  pub there : slice_get runs place ≡ Some run
  pub from : run.start ≤ lv
  pub to : lv ≤ run.start + run.more
  pub within : IsWithin run 0 count (length cs.chars)
  pub label : HasLabel run.kind run.at (length cs.labels)
  pub event : slice_get (events_in cs runs lists) lv ≡ Some (event_in cs run (slice_index_or lists place []) (lv - run.start))

pub held_within : (runs seen : List Run) (place lv : ℕ) → seen ≡ runs → IsHeldAt seen place lv → place < length runs
held_within runs seen place lv same h = slice_get_within runs place h.run (ap (λ (rs : List Run). slice_get rs place) (sym same) ∙ h.there)

pub found : (cs : Told) (runs seen : List Run) (lists : List (List ℕ)) (count place lv : ℕ) (run : Run) → AreKept runs lists cs count → seen ≡ runs → IsHeldAt seen place lv → run ≡ get_or runs place run → HasFound cs runs lists count place lv run
found cs runs seen lists count place lv run k same h read =
    let there : slice_get runs place ≡ Some h.run = ap (λ (rs : List Run). slice_get rs place) (sym same) ∙ h.there in
    let held : h.run ≡ run = sym (read ∙ get_or_from_slice_get runs place h.run run there) in
    subst (HasFound cs runs lists count place lv) held (record {
      there = there;
      from = h.from;
      to = h.to;
      within = run_within runs lists 0 0 count (length cs.chars) place h.run k.in_line there;
      label = label_within runs 0 (length cs.labels) place h.run k.labelled there;
      event = read_events cs runs lists 0 0 count (length cs.chars) lv place lv h.run k.in_line there h.from h.to (omega arith);
    })

-- it has its own first event too
pub found_first : (cs : Told) (runs : List Run) (lists : List (List ℕ)) (count place lv : ℕ) (run : Run) → AreKept runs lists cs count → HasFound cs runs lists count place lv run → HasFound cs runs lists count place run.start run
found_first cs runs lists count place lv run k f = found cs runs runs lists count place run.start run k refl (record { run = run; there = f.there; from = omega arith; to = omega arith }) (sym (get_or_from_slice_get runs place run run f.there))

pub within_count : (cs : Told) (runs : List Run) (lists : List (List ℕ)) (count lv : ℕ) (events : List BareEvent) → AreKept runs lists cs count → events_in cs runs lists ≡ events → lv < length events → lv < count
within_count cs runs lists count lv events k e l =
    let all = length-events_in cs runs lists 0 0 count (length cs.chars) k.in_line in
    let same = ap (length {A = BareEvent}) e in omega (arith, all, same, l)

pub found_parents : (cs : Told) (runs : List Run) (lists : List (List ℕ)) (count place lv : ℕ) (run : Run) → HasFound cs runs lists count place lv run
    → parents_at (parents_in (events_in cs runs lists)) lv ≡ parents_behind (slice_index_or lists place []) run.start (lv - run.start)
found_parents cs runs lists count place lv run f =
    get_or_from_slice_get (parents_in (events_in cs runs lists)) lv (parents_behind (slice_index_or lists place []) run.start (lv - run.start)) [] (slice_get-map (λ (e : BareEvent). e.parents) (events_in cs runs lists) lv ∙ ap (option_map (λ (e : BareEvent). e.parents)) f.event)

pub first_parents : (first : List ℕ) (start lv : ℕ) → start ≡ lv → parents_behind first start (lv - start) ≡ first
first_parents first start lv e = let none : lv - start ≡ 0 = omega (arith, e) in ap (parents_behind first start) none

pub later_parents : (first : List ℕ) (start lv : ℕ) → start < lv → parents_behind first start (lv - start) ≡ (lv - 1) ∷ []
later_parents first start lv l =
    let some : lv - start ≡ suc (lv - start - 1) = omega (arith, l) in
    let last : start + (lv - start - 1) ≡ lv - 1 = omega (arith, l) in
    ap (parents_behind first start) some ∙ ap (λ n. n ∷ []) last

-- the run's events up to this one are each on the one before
pub chained : (cs : Told) (runs : List Run) (lists : List (List ℕ)) (count place lv : ℕ) (run : Run) → AreKept runs lists cs count → HasFound cs runs lists count place lv run → IsChain (parents_in (events_in cs runs lists)) run.start lv
chained cs runs lists count place lv run k f = record {
  order = f.from;
  links = λ p from to.
      let below = f.to in
      let next = found cs runs runs lists count place (suc p) run k refl (record { run = run; there = f.there; from = omega (arith, from); to = omega (arith, to, below) }) (sym (get_or_from_slice_get runs place run run f.there)) in
      let here : suc p - 1 ≡ p = omega arith in
      found_parents cs runs lists count place (suc p) run next ∙ later_parents (slice_index_or lists place []) run.start (suc p) (omega (arith, from)) ∙ ap (λ n. n ∷ []) here;
}

-- the run is one of the history's, and begins there
pub begun : (cs : Told) (runs : List Run) (lists : List (List ℕ)) (count place lv : ℕ) (run : Run) → AreKept runs lists cs count → HasFound cs runs lists count place lv run → IsRunStart (events_in cs runs lists) lv run.start
begun cs runs lists count place lv run k f =
    let parts = parted cs runs lists 0 0 count (length cs.chars) place run k.in_line f.there in
    record {
      before = parts.before;
      run = parts.run;
      after = parts.after;
      runs = subst (AreRunsOf (events_in cs runs lists)) (sym parts.parts) (are_runs_of cs runs lists count (length cs.chars) k.in_line);
      starts = let at = parts.starts in omega (arith, at);
      from = f.from;
      to = let long = parts.long in let to = f.to in omega (arith, long, to);
    }

pub lower_parents : (cs : Told) (runs : List Run) (lists : List (List ℕ)) (count lv : ℕ) → AreKept runs lists cs count → lv < count → AreParents lv (parents_at (parents_in (events_in cs runs lists)) lv)
lower_parents cs runs lists count lv k l =
    let all = length-events_in cs runs lists 0 0 count (length cs.chars) k.in_line in
    let same = length-map (events_in cs runs lists) (λ (e : BareEvent). e.parents) in
    k.history lv (omega (arith, all, same, l))

-- THE FIRST EVENTS ALONE are a history
read_take : (lists : List (List ℕ)) (n j : ℕ) → j < n → slice_index_or (take n lists) j [] ≡ slice_index_or lists j []
read_take lists zero j l = absurd (omega (arith, l))
read_take [] (suc n) j l = refl
read_take (x ∷ lists) (suc n) zero l = refl
read_take (x ∷ lists) (suc n) (suc j) l = read_take lists n j (omega (arith, l))

pub history_front : (lists : List (List ℕ)) (n : ℕ) → n ≤ length lists → IsHistoryOfParents lists → IsHistoryOfParents (take n lists)
history_front lists n l h = λ j m.
    let long = length-take-le n lists l in
    let low : j < n = omega (arith, long, m) in
    subst (AreParents j) (sym (read_take lists n j low)) (h j (omega (arith, low, l)))

-- THE PARENTS of the event that was looked for: of a run's first event, and of any other
pub parents_first : (cs : Told) (runs : List Run) (lists : List (List ℕ)) (count place lv : ℕ) (run : Run) (events : List BareEvent) → HasFound cs runs lists count place lv run → events_in cs runs lists ≡ events → run.start ≡ lv
    → slice_index_or lists place [] ≡ parents_at (parents_in events) lv
parents_first cs runs lists count place lv run events f e at =
    sym (found_parents cs runs lists count place lv run f ∙ first_parents (slice_index_or lists place []) run.start lv at) ∙ ap (λ (es : List BareEvent). parents_at (parents_in es) lv) e

pub parents_later : (cs : Told) (runs : List Run) (lists : List (List ℕ)) (count place lv : ℕ) (run : Run) (events : List BareEvent) → HasFound cs runs lists count place lv run → events_in cs runs lists ≡ events → (run.start ≡ lv → ⊥)
    → (lv - 1) ∷ [] ≡ parents_at (parents_in events) lv
parents_later cs runs lists count place lv run events f e apart =
    let from = f.from in
    sym (found_parents cs runs lists count place lv run f ∙ later_parents (slice_index_or lists place []) run.start lv (omega (arith, from, apart))) ∙ ap (λ (es : List BareEvent). parents_at (parents_in es) lv) e

pub lower_in : (cs : Told) (runs : List Run) (lists : List (List ℕ)) (count lv : ℕ) (events : List BareEvent) → AreKept runs lists cs count → events_in cs runs lists ≡ events → lv < length events → AreParents lv (parents_at (parents_in events) lv)
lower_in cs runs lists count lv events k e l =
    subst (λ (es : List BareEvent). AreParents lv (parents_at (parents_in es) lv)) e (lower_parents cs runs lists count lv k (within_count cs runs lists count lv events k e l))
