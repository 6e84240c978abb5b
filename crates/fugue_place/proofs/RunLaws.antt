-- What children are that are kept in runs, with the names of their agents apart.
use Rattle.std.proofs.Common.{◌≡◌, ℕ, zero, suc, ◌+◌, ◌-◌, ◌<◌, ◌≤◌, ◌^◌, true, ⊎_elim, List, [], ◌∷◌, ◌++◌, map, length, get_or, set, slice_get, slice_index_or, Some, refl, sym, ap, ◌∙◌, subst, arith, append-nil, append_assoc, length-append}
use Rattle.std.specs.List.{AllWithin, range_with_len}
use Rattle.std.proofs.Math.ListN.{get_or-append}
use Rattle.std.proofs.lemmas.Bool.{cases_lt, and_parts}
use Rattle.std.proofs.lemmas.List.{length-map, map-append}
use Rattle.std.proofs.lemmas.List.FromFn.{length-range_with_len}
use Rattle.std.proofs.lemmas.Option.{same_Some, slice_get-get_or, get_or_from_slice_get, slice_get_within, slice_get_cases}
use Rattle.ew_model.proofs.Ranges.{range_joined}
use Rattle.ew_model.specs.declared.node.Node.TheVariants.{Event}
use Rattle.fugue_place.specs.declared.child.Side.TheVariants.{Right}
use Rattle.fugue_place.specs.declared.child.Attached.{Attached}
use Rattle.fugue_place.specs.declared.children.Run.{Run}
use Rattle.fugue_place.specs.Attachments.{is_newest}
use Rattle.fugue_place.specs.Heirs.{is_heir}
use Rattle.fugue_place.specs.Neighbours.{side_eq}
use Rattle.fugue_place.specs.Members.{child_by, child_of, children_of, IsRun, AreRuns, IsLastRun, GoesOn, with_heirs}
use Rattle.fugue_place.proofs.NodeLaws.{side_same}
use Rattle.fugue_place.proofs.PlaceLaws.{newest_last}

-- the first child of a run, and a later one
pub first_child : (agent : List ℕ) (r : Run) (i : ℕ) → i ≡ 0 → child_by agent r i ≡ record { parent = r.parent; side = r.side; id = record { agent = agent; seq = r.seq + i }; node = Event (r.event + i) }
first_child agent r zero e = refl
first_child agent r (suc i) e = absurd (omega (arith, e))

pub later_child : (agent : List ℕ) (r : Run) (i : ℕ) → (i ≡ 0 → ⊥) → child_by agent r i ≡ record { parent = Event (r.event + i - 1); side = Right; id = record { agent = agent; seq = r.seq + i }; node = Event (r.event + i) }
later_child agent r zero e = absurd (e refl)
later_child agent r (suc i) e =
    let same : r.event + i ≡ r.event + suc i - 1 = omega arith in
    ap (λ (k : ℕ). record { parent = Event k; side = Right; id = record { agent = agent; seq = r.seq + suc i }; node = Event (r.event + suc i) }) same

-- so many children of a run, from a place in it on
abbrev pub block : List (List ℕ) → Run → ℕ → ℕ → List Attached
block names r from n = map (child_of names r) (range_with_len from n)

block_joined : (names : List (List ℕ)) (r : Run) (m n : ℕ) → block names r 0 (m + n) ≡ block names r 0 m ++ block names r m n
block_joined names r m n =
    let same : 0 + m ≡ m = omega arith in
    ap (map (child_of names r)) (range_joined 0 m n) ∙ map-append (child_of names r) (range_with_len 0 m) (range_with_len (0 + m) n) ∙ ap (λ (k : ℕ). block names r 0 m ++ block names r k n) same

read_block : (names : List (List ℕ)) (r : Run) (from n : ℕ) (rest : List Attached) (p : ℕ) → p < n → slice_get (block names r from n ++ rest) p ≡ Some (child_of names r (from + p))
read_block names r from zero rest p l = absurd (omega (arith, l))
read_block names r from (suc n) rest zero l = let e : from ≡ from + 0 = omega arith in ap (λ k. Some (child_of names r k)) e
read_block names r from (suc n) rest (suc p) l = let e : from + 1 + p ≡ from + suc p = omega arith in read_block names r (from + 1) n rest p (omega (arith, l)) ∙ ap (λ k. Some (child_of names r k)) e

skip_block : (names : List (List ℕ)) (r : Run) (from n : ℕ) (rest : List Attached) (p q : ℕ) → q ≡ n + p → slice_get (block names r from n ++ rest) q ≡ slice_get rest p
skip_block names r from zero rest p q e = let same : q ≡ p = omega (arith, e) in ap (slice_get rest) same
skip_block names r from (suc n) rest p zero e = absurd (omega (arith, e))
skip_block names r from (suc n) rest p (suc q) e = skip_block names r (from + 1) n rest p q (omega (arith, e))

first_in : (names : List (List ℕ)) (r : Run) (rest : List Attached) (p : ℕ) → p ≤ r.heirs → slice_get (block names r 0 (suc r.heirs) ++ rest) p ≡ Some (child_of names r p)
first_in names r rest p l = let same : 0 + p ≡ p = omega arith in read_block names r 0 (suc r.heirs) rest p (omega (arith, l)) ∙ ap (λ k. Some (child_of names r k)) same

-- HOW MANY there are
pub length_in : (names : List (List ℕ)) (runs : List Run) (start end : ℕ) → AreRuns names start runs end → start + length (children_of names runs) ≡ end
length_in names [] start end are = omega (arith, are)
length_in names (x ∷ runs) start end are =
    let ih = length_in names runs (start + suc x.heirs) end are.1 in
    let one = length-append (block names x 0 (suc x.heirs)) (children_of names runs) in
    let two = length-map (range_with_len 0 (suc x.heirs)) (child_of names x) in
    let three = length-range_with_len 0 (suc x.heirs) in
    omega (arith, ih, one, two, three)

-- WHERE a run stands
pub record IsWithin (names : List (List ℕ)) (start end : ℕ) (x : Run) : Type 0 where
  pub low : start ≤ x.place
  pub high : x.place + suc x.heirs ≤ end
  pub kept : IsRun names x.place x

pub run_within : (names : List (List ℕ)) (runs : List Run) (start end at : ℕ) (x : Run) → AreRuns names start runs end → slice_get runs at ≡ Some x → IsWithin names start end x
run_within names [] start end at x are e = let no : ⊥ = cc in absurd no
run_within names (y ∷ runs) start end zero x are e =
    let count = length_in names runs (start + suc y.heirs) end are.1 in
    let first : y.place ≡ start = are.0.place in
    subst (IsWithin names start end) (same_Some y x e) (record {
      low = omega (arith, first);
      high = omega (arith, first, count);
      kept = record { place = refl; agent = are.0.agent; seqs = are.0.seqs; events = are.0.events };
    })
run_within names (y ∷ runs) start end (suc at) x are e =
    let ih = run_within names runs (start + suc y.heirs) end at x are.1 e in
    record { low = let low = ih.low in omega (arith, low); high = ih.high; kept = ih.kept }

pub places_rise : (names : List (List ℕ)) (runs : List Run) (start end i j : ℕ) (d : Run) → AreRuns names start runs end → i ≤ j → j < length runs → (slice_index_or runs i d).place ≤ (slice_index_or runs j d).place
places_rise names [] start end i j d are l m = absurd (omega (arith, m))
places_rise names (y ∷ runs) start end zero zero d are l m = omega arith
places_rise names (y ∷ runs) start end (suc i) zero d are l m = absurd (omega (arith, l))
places_rise names (y ∷ runs) start end zero (suc j) d are l m =
    let high = (run_within names runs (start + suc y.heirs) end j (slice_index_or runs j d) are.1 (slice_get-get_or runs j d (omega (arith, m)))).low in
    let first = are.0.place in omega (arith, high, first)
places_rise names (y ∷ runs) start end (suc i) (suc j) d are l m = places_rise names runs (start + suc y.heirs) end i j d are.1 (omega (arith, l)) (omega (arith, m))

-- a run begins where the one before it ends
pub next_place : (names : List (List ℕ)) (runs : List Run) (start end at : ℕ) (x y : Run) → AreRuns names start runs end → slice_get runs at ≡ Some x → slice_get runs (suc at) ≡ Some y → y.place ≡ x.place + suc x.heirs
next_place names [] start end at x y are e f = let no : ⊥ = cc in absurd no
next_place names (z ∷ []) start end zero x y are e f = let no : ⊥ = cc in absurd no
next_place names (z ∷ t ∷ runs) start end zero x y are e f =
    let here : x.place ≡ start = subst (λ (r : Run). r.place ≡ start) (same_Some z x e) are.0.place in
    let there : y.place ≡ start + suc z.heirs = subst (λ (r : Run). r.place ≡ start + suc z.heirs) (same_Some t y f) are.1.0.place in
    let many : z.heirs ≡ x.heirs = ap (λ (r : Run). r.heirs) (same_Some z x e) in
    omega (arith, here, there, many)
next_place names (z ∷ runs) start end (suc at) x y are e f = next_place names runs (start + suc z.heirs) end at x y are.1 e f

-- THE CHILD at a place
pub read_run : (names : List (List ℕ)) (runs : List Run) (start end at i p : ℕ) (x : Run) → AreRuns names start runs end → slice_get runs at ≡ Some x → i ≤ x.heirs → start + p ≡ x.place + i
    → slice_get (children_of names runs) p ≡ Some (child_of names x i)
read_run names [] start end at i p x are e l q = let no : ⊥ = cc in absurd no
read_run names (y ∷ runs) start end zero i p x are e l q =
    let same = same_Some y x e in
    let first : x.place ≡ start = subst (λ (r : Run). r.place ≡ start) same are.0.place in
    let many : y.heirs ≡ x.heirs = ap (λ (r : Run). r.heirs) same in
    let here : p ≡ i = omega (arith, first, q) in
    first_in names y (children_of names runs) p (omega (arith, here, many, l)) ∙ ap (λ (r : Run). Some (child_of names r p)) same ∙ ap (λ (k : ℕ). Some (child_of names x k)) here
read_run names (y ∷ runs) start end (suc at) i p x are e l q =
    let low = (run_within names runs (start + suc y.heirs) end at x are.1 e).low in
    let back : start + suc y.heirs + (p - suc y.heirs) ≡ x.place + i = omega (arith, low, q) in
    skip_block names y 0 (suc y.heirs) (children_of names runs) (p - suc y.heirs) p (omega (arith, low, q)) ∙ read_run names runs (start + suc y.heirs) end at i (p - suc y.heirs) x are.1 e l back

-- the child at a place p is the one at i in the run at `at`
pub record IsHeld (names : List (List ℕ)) (runs : List Run) (start p : ℕ) (a : Attached) : Type 0 where
  pub at : ℕ
  pub run : Run
  pub i : ℕ
  pub there : slice_get runs at ≡ Some run
  pub within : i ≤ run.heirs
  pub place : start + p ≡ run.place + i
  pub child : child_of names run i ≡ a

pub held : (names : List (List ℕ)) (runs : List Run) (start end p : ℕ) (a : Attached) → AreRuns names start runs end → slice_get (children_of names runs) p ≡ Some a → IsHeld names runs start p a
held names [] start end p a are e = let no : ⊥ = cc in absurd no
held names (y ∷ runs) start end p a are e =
    ⊎_elim
    (λ (low : p < suc y.heirs). record {
      at = 0;
      run = y;
      i = p;
      there = refl;
      within = omega (arith, low);
      place = let first = are.0.place in omega (arith, first);
      child = same_Some (child_of names y p) a (sym (first_in names y (children_of names runs) p (omega (arith, low))) ∙ e);
    })
    (λ (high : suc y.heirs ≤ p).
    let rest = p - suc y.heirs in
    let later = held names runs (start + suc y.heirs) end rest a are.1 (sym (skip_block names y 0 (suc y.heirs) (children_of names runs) rest p (omega (arith, high))) ∙ e) in
    record {
      at = suc later.at;
      run = later.run;
      i = later.i;
      there = later.there;
      within = later.within;
      place = let same = later.place in omega (arith, same, high);
      child = later.child;
    })
    (cases_lt p (suc y.heirs))

-- the run that has a place, among runs of which so many begin at it or before it
pub record IsLastTo (names : List (List ℕ)) (runs : List Run) (place below : ℕ) : Type 0 where
  pub at : ℕ
  pub run : Run
  pub there : slice_get runs at ≡ Some run
  pub next : below ≡ suc at
  pub low : run.place ≤ place
  pub high : place ≤ run.place + run.heirs
  pub kept : IsRun names run.place run

pub last_to : (names : List (List ℕ)) (runs seen : List Run) (count place below : ℕ) → AreRuns names 0 runs count → seen ≡ runs → place < count → below ≤ length seen
    → AllWithin (λ (r : Run). r.place ≤ place) seen 0 below → AllWithin (λ (r : Run). place < r.place) seen below (length seen) → IsLastTo names runs place below
last_to names runs seen count place below are same lt bound to behind =
    ⊎_elim
    (λ found.
    let h = held names runs 0 count place found.0 are found.2 in
    let is = h.place in
    let within = h.within in
    let there : slice_get seen h.at ≡ Some h.run = ap (λ (rs : List Run). slice_get rs h.at) same ∙ h.there in
    let most : h.at < length seen = slice_get_within seen h.at h.run there in
    let read : (slice_index_or seen h.at h.run).place ≡ h.run.place = ap (λ (r : Run). r.place) (get_or_from_slice_get seen h.at h.run h.run there) in
    record {
      at = h.at;
      run = h.run;
      there = h.there;
      next =
          ⊎_elim
          (λ (low : h.at < below).
          ⊎_elim
          (λ (more : suc h.at < below).
          let y = slice_index_or seen (suc h.at) h.run in
          let later : slice_get runs (suc h.at) ≡ Some y = ap (λ (rs : List Run). slice_get rs (suc h.at)) (sym same) ∙ slice_get-get_or seen (suc h.at) h.run (omega (arith, more, bound)) in
          let begins : y.place ≤ place = to (suc h.at) h.run (omega arith) more in
          let ends = next_place names runs 0 count h.at h.run y are h.there later in
          absurd (omega (arith, begins, ends, is, within)))
          (λ (last : below ≤ suc h.at). omega (arith, low, last))
          (cases_lt (suc h.at) below))
          (λ (high : below ≤ h.at). let late : place < (slice_index_or seen h.at h.run).place = behind h.at h.run high most in absurd (omega (arith, late, read, is)))
          (cases_lt h.at below);
      low = omega (arith, is);
      high = omega (arith, is, within);
      kept = (run_within names runs 0 count h.at h.run are h.there).kept;
    })
    (λ past. let high = past.0 in let all = length_in names runs 0 count are in absurd (omega (arith, high, all, lt)))
    (slice_get_cases (children_of names runs) place).1

-- what is read there is that run
pub run_read : (names : List (List ℕ)) (runs : List Run) (place below : ℕ) (l : IsLastTo names runs place below) (x : Run) → x ≡ slice_index_or runs (below - 1) x → l.run ≡ x
run_read names runs place below l x is =
    let next = l.next in
    let same : below - 1 ≡ l.at = omega (arith, next) in
    sym (get_or_from_slice_get runs l.at l.run x l.there) ∙ ap (λ (k : ℕ). slice_index_or runs k x) (sym same) ∙ sym is

-- and the child at the place stands in it
pub child_read : (names : List (List ℕ)) (runs : List Run) (count place below : ℕ) → AreRuns names 0 runs count → (l : IsLastTo names runs place below) → slice_get (children_of names runs) place ≡ Some (child_of names l.run (place - l.run.place))
child_read names runs count place below are l =
    let low = l.low in let high = l.high in
    read_run names runs 0 count l.at (place - l.run.place) place l.run are l.there (omega (arith, low, high)) (omega (arith, low))

-- THE LAST RUN
pub last_ends : (names : List (List ℕ)) (runs : List Run) (start end at : ℕ) (x : Run) → AreRuns names start runs end → length runs ≡ suc at → slice_get runs at ≡ Some x → x.place + suc x.heirs ≡ end
last_ends names [] start end at x are long e = absurd (omega (arith, long))
last_ends names (y ∷ []) start end zero x are long e =
    let first = are.0.place in let stop = are.1 in
    let all : y.place + suc y.heirs ≡ end = omega (arith, first, stop) in
    subst (λ (z : Run). z.place + suc z.heirs ≡ end) (same_Some y x e) all
last_ends names (y ∷ []) start end (suc at) x are long e = absurd (omega (arith, long))
last_ends names (y ∷ z ∷ runs) start end zero x are long e = absurd (omega (arith, long))
last_ends names (y ∷ z ∷ runs) start end (suc at) x are long e = last_ends names (z ∷ runs) (start + suc y.heirs) end at x are.1 (omega (arith, long)) e

pub some_runs : (runs : List Run) (x : Run) → IsLastRun runs x → length runs ≡ suc (length runs - 1)
some_runs runs x e = let some = slice_get_within runs (length runs - 1) x e in omega (arith, some)

-- the child that was attached last is its last one
pub newest_in : (names : List (List ℕ)) (runs : List Run) (end : ℕ) (x : Run) → AreRuns names 0 runs end → IsLastRun runs x → slice_get (children_of names runs) (length (children_of names runs) - 1) ≡ Some (child_of names x x.heirs)
newest_in names runs end x are e =
    let all = length_in names runs 0 end are in
    let stop = last_ends names runs 0 end (length runs - 1) x are (some_runs runs x e) e in
    read_run names runs 0 end (length runs - 1) x.heirs (length (children_of names runs) - 1) x are e (omega arith) (omega (arith, all, stop))

-- MORE CHILDREN, in the last run
pub heirs_in : (names : List (List ℕ)) (runs : List Run) (start end at n : ℕ) (x : Run) → AreRuns names start runs end → length runs ≡ suc at → slice_get runs at ≡ Some x → x.seq + x.heirs + n < 2 ^ 32 → x.event + x.heirs + n < 2 ^ 32
    → (children_of names (with_heirs runs n) ≡ children_of names runs ++ block names x (suc x.heirs) n) × AreRuns names start (with_heirs runs n) (end + n)
heirs_in names [] start end at n x are long e s v = absurd (omega (arith, long))
heirs_in names (y ∷ []) start end (suc at) n x are long e s v = absurd (omega (arith, long))
heirs_in names (y ∷ z ∷ runs) start end zero n x are long e s v = absurd (omega (arith, long))
heirs_in names (y ∷ []) start end zero n x are long e s v =
    let same = same_Some y x e in
    let more : suc (y.heirs + n) ≡ suc y.heirs + n = omega arith in
    let seqs : y.seq + y.heirs + n < 2 ^ 32 = subst (λ (z : Run). z.seq + z.heirs + n < 2 ^ 32) (sym same) s in
    let events : y.event + y.heirs + n < 2 ^ 32 = subst (λ (z : Run). z.event + z.heirs + n < 2 ^ 32) (sym same) v in (
      append-nil (block names y 0 (suc (y.heirs + n))) ∙ ap (block names y 0) more ∙ block_joined names y (suc y.heirs) n
          ∙ (λ i. sym (append-nil (block names y 0 (suc y.heirs))) i ++ block names (same i) (suc (same i).heirs) n),
      (record { place = are.0.place; agent = are.0.agent; seqs = omega (arith, seqs); events = omega (arith, events) }, (let last = are.1 in omega (arith, last))),
    )
heirs_in names (y ∷ z ∷ runs) start end (suc at) n x are long e s v =
    let ih = heirs_in names (z ∷ runs) (start + suc y.heirs) end at n x are.1 (omega (arith, long)) e s v in (
      ap (λ xs. block names y 0 (suc y.heirs) ++ xs) ih.0 ∙ sym (append_assoc (block names y 0 (suc y.heirs)) (children_of names (z ∷ runs)) (block names x (suc x.heirs) n)),
      (are.0, ih.1),
    )

pub heir_in : (names : List (List ℕ)) (runs : List Run) (start end at : ℕ) (x : Run) → AreRuns names start runs end → length runs ≡ suc at → slice_get runs at ≡ Some x → x.seq + suc x.heirs < 2 ^ 32 → x.event + suc x.heirs < 2 ^ 32
    → (children_of names (with_heirs runs 1) ≡ children_of names runs ++ child_of names x (suc x.heirs) ∷ []) × AreRuns names start (with_heirs runs 1) (end + 1)
heir_in names runs start end at x are long e s v = heirs_in names runs start end at 1 x are long e (omega (arith, s)) (omega (arith, v))

-- in a run of its own
pub run_in : (names : List (List ℕ)) (runs : List Run) (start end : ℕ) (x : Run) → AreRuns names start runs end → IsRun names end x → x.heirs ≡ 0
    → (children_of names (runs ++ x ∷ []) ≡ children_of names runs ++ child_of names x 0 ∷ []) × AreRuns names start (runs ++ x ∷ []) (end + 1)
run_in names [] start end x are new alone =
    (ap (λ (n : ℕ). block names x 0 (suc n) ++ []) alone, (subst (λ (k : ℕ). IsRun names k x) (sym are) new, (omega (arith, are, alone))))
run_in names (y ∷ runs) start end x are new alone =
    let ih = run_in names runs (start + suc y.heirs) end x are.1 new alone in (
      ap (λ xs. block names y 0 (suc y.heirs) ++ xs) ih.0 ∙ sym (append_assoc (block names y 0 (suc y.heirs)) (children_of names runs) (child_of names x 0 ∷ [])),
      (are.0, ih.1),
    )

-- the first child of a run, by its parts
pub child_first : (names : List (List ℕ)) (x : Run) (a : Attached) → get_or names x.agent [] ≡ a.id.agent → x.parent ≡ a.parent → x.side ≡ a.side → x.seq ≡ a.id.seq → Event x.event ≡ a.node → child_of names x 0 ≡ a
child_first names x a name parent side seq node =
    let same : x.seq + 0 ≡ x.seq = omega arith in
    let one : x.event + 0 ≡ x.event = omega arith in
    λ i. record { parent = parent i; side = side i; id = record { agent = name i; seq = (same ∙ seq) i }; node = (ap Event one ∙ node) i }

-- an heir that the last run goes on with is its next child
pub child_next : (names : List (List ℕ)) (runs : List Run) (end : ℕ) (x : Run) (a : Attached) (number event : ℕ) → AreRuns names 0 runs end → IsLastRun runs x → GoesOn x number a.id.seq event → get_or names number [] ≡ a.id.agent → a.node ≡ Event event
    → is_heir (children_of names runs) a ≡ true → child_of names x (suc x.heirs) ≡ a
child_next names runs end x a number event are last on name node heir =
    let parts = and_parts (is_newest (children_of names runs) a.parent) (side_eq a.side Right) heir in
    let newest = newest_last (children_of names runs) a.parent parts.0 in
    let parent : Event (x.event + x.heirs) ≡ a.parent = ap (λ (b : Attached). b.node) (same_Some (child_of names x x.heirs) newest.0 (sym (newest_in names runs end x are last) ∙ newest.1)) ∙ newest.2 in
    let side : Right ≡ a.side = sym (side_same a.side Right parts.1) in
    let agent : get_or names x.agent [] ≡ a.id.agent = ap (λ (k : ℕ). get_or names k []) on.agent ∙ name in
    λ i. record { parent = parent i; side = side i; id = record { agent = agent i; seq = sym on.seq i }; node = (ap Event (sym on.event) ∙ sym node) i }

-- MORE NAMES
module _ (names more : List (List ℕ)) where
  pub children_stay : (runs : List Run) (start end : ℕ) → AreRuns names start runs end → children_of (names ++ more) runs ≡ children_of names runs
  children_stay [] start end are = refl
  children_stay (y ∷ runs) start end are =
      ap (λ (agent : List ℕ). map (child_by agent y) (range_with_len 0 (suc y.heirs)) ++ children_of (names ++ more) runs) (get_or-append names more [] y.agent are.0.agent)
      ∙ ap (λ (xs : List Attached). block names y 0 (suc y.heirs) ++ xs) (children_stay runs (start + suc y.heirs) end are.1)

  pub runs_stay : (runs : List Run) (start end : ℕ) → AreRuns names start runs end → AreRuns (names ++ more) start runs end
  runs_stay [] start end are = are
  runs_stay (y ∷ runs) start end are =
      let long = length-append names more in
      let low = are.0.agent in
      (record { place = are.0.place; agent = omega (arith, long, low); seqs = are.0.seqs; events = are.0.events }, runs_stay runs (start + suc y.heirs) end are.1)

-- a run that is given more heirs, in place
pub last_more : (runs : List Run) (at n : ℕ) (x : Run) → length runs ≡ suc at → x ≡ slice_index_or runs at x
    → set runs at (record { place = x.place; parent = x.parent; side = x.side; agent = x.agent; seq = x.seq; event = x.event; heirs = x.heirs + n }) ≡ with_heirs runs n
last_more [] at n x long e = absurd (omega (arith, long))
last_more (y ∷ []) zero n x long e = ap (λ (z : Run). record { place = z.place; parent = z.parent; side = z.side; agent = z.agent; seq = z.seq; event = z.event; heirs = z.heirs + n } ∷ []) e
last_more (y ∷ []) (suc at) n x long e = absurd (omega (arith, long))
last_more (y ∷ z ∷ runs) zero n x long e = absurd (omega (arith, long))
last_more (y ∷ z ∷ runs) (suc at) n x long e = ap (λ rs. y ∷ rs) (last_more (z ∷ runs) at n x (omega (arith, long)) e)
