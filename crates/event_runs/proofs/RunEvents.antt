-- The events of runs: how many there are, where each one stands, and that they need no more than their own characters.
use Rattle.std.proofs.Common.{◌≡◌, ℕ, zero, suc, ◌+◌, ◌-◌, ◌<◌, ◌≤◌, List, [], ◌∷◌, ◌++◌, length, map, get_or, slice_get, slice_index_or, Some, refl, sym, ap, ◌∙◌, subst, arith, length-append}
use Rattle.std.specs.List.{AllWithin, range_with_len}
use Rattle.std.proofs.lemmas.List.FromFn.{length-map-range_with_len}
use Rattle.std.proofs.lemmas.Option.{same_Some, slice_get-get_or, get_or_from_slice_get}
use Rattle.ew_model.specs.declared.event.Op.{Op}
use Rattle.ew_model.specs.declared.event.Op.TheVariants.{Ins, Mark}
use Rattle.event_runs.specs.declared.runs.Run.{Run}
use Rattle.event_runs.specs.declared.runs.RunKind.{RunKind}
use Rattle.event_runs.specs.declared.runs.RunKind.TheVariants.{Insertions, Deletions, BackDeletions, Marks}
use Rattle.event_runs.specs.BareEvents.{BareEvent, bare}
use Rattle.event_runs.specs.KeptRuns.{Told, op_in, parents_behind, event_in, run_events, events_in, chars_of, chars_to_end, Fits, AreRuns, labels_of, IsLabel, AreLabelled, HasLabel}

-- HOW MANY there are
pub length-run_events : (chars : Told) (r : Run) (first : List ℕ) → length (run_events chars r first) ≡ suc r.more
length-run_events chars r first = length-map-range_with_len (event_in chars r first) 0 (suc r.more)

pub length-events_in : (cs : Told) (runs : List Run) (lists : List (List ℕ)) (start place end long : ℕ) → AreRuns start place runs lists end long → start + length (events_in cs runs lists) ≡ end
length-events_in cs [] [] start place end long r = let stop = r.0 in omega (arith, stop)
length-events_in cs [] (f ∷ lists) start place end long r = absurd r
length-events_in cs (x ∷ runs) [] start place end long r = absurd r
length-events_in cs (x ∷ runs) (f ∷ lists) start place end long r =
    let ih = length-events_in cs runs lists (start + suc x.more) (place + chars_of x.kind (suc x.more)) end long r.4 in
    let one = length-append (run_events cs x f) (events_in cs runs lists) in
    let two = length-run_events cs x f in
    omega (arith, ih, one, two)

pub runs_end : (runs : List Run) (lists : List (List ℕ)) (start place end long : ℕ) → AreRuns start place runs lists end long → start + length runs ≤ end
runs_end [] [] start place end long r = let stop = r.0 in omega (arith, stop)
runs_end [] (f ∷ lists) start place end long r = absurd r
runs_end (x ∷ runs) [] start place end long r = absurd r
runs_end (x ∷ runs) (f ∷ lists) start place end long r =
    let ih = runs_end runs lists (start + suc x.more) (place + chars_of x.kind (suc x.more)) end long r.4 in omega (arith, ih)

pub lists_alike : (runs : List Run) (lists : List (List ℕ)) (start place end long : ℕ) → AreRuns start place runs lists end long → length lists ≡ length runs
lists_alike [] [] start place end long r = refl
lists_alike [] (f ∷ lists) start place end long r = absurd r
lists_alike (x ∷ runs) [] start place end long r = absurd r
lists_alike (x ∷ runs) (f ∷ lists) start place end long r = ap suc (lists_alike runs lists (start + suc x.more) (place + chars_of x.kind (suc x.more)) end long r.4)

few_chars : (kind : RunKind) (n : ℕ) → chars_of kind n ≤ n
few_chars Insertions n = omega arith
few_chars Deletions n = omega arith
few_chars BackDeletions n = omega arith
few_chars Marks n = omega arith

pub chars_within : (runs : List Run) (lists : List (List ℕ)) (start place end long : ℕ) → AreRuns start place runs lists end long → place ≤ start → long ≤ end
chars_within [] [] start place end long r l = let stop = r.0 in let all = r.1 in omega (arith, stop, all, l)
chars_within [] (f ∷ lists) start place end long r l = absurd r
chars_within (x ∷ runs) [] start place end long r l = absurd r
chars_within (x ∷ runs) (f ∷ lists) start place end long r l =
    let few = few_chars x.kind (suc x.more) in
    chars_within runs lists (start + suc x.more) (place + chars_of x.kind (suc x.more)) end long r.4 (omega (arith, few, l))

pub chars_end : (runs : List Run) (lists : List (List ℕ)) (start place end long : ℕ) → AreRuns start place runs lists end long → place ≤ long
chars_end [] [] start place end long r = let all = r.1 in omega (arith, all)
chars_end [] (f ∷ lists) start place end long r = absurd r
chars_end (x ∷ runs) [] start place end long r = absurd r
chars_end (x ∷ runs) (f ∷ lists) start place end long r =
    let ih = chars_end runs lists (start + suc x.more) (place + chars_of x.kind (suc x.more)) end long r.4 in omega (arith, ih)

-- WHERE a run stands
pub record IsWithin (x : Run) (start end long : ℕ) : Type 0 where
  pub low : start ≤ x.start
  pub high : x.start + suc x.more ≤ end
  pub fits : Fits x.kind x.at x.more
  pub chars : chars_to_end x ≤ long

pub run_within : (runs : List Run) (lists : List (List ℕ)) (start place end long i : ℕ) (x : Run) → AreRuns start place runs lists end long → slice_get runs i ≡ Some x → IsWithin x start end long
run_within [] lists start place end long i x r e = let no : ⊥ = cc in absurd no
run_within (y ∷ runs) [] start place end long i x r e = absurd r
run_within (y ∷ runs) (f ∷ lists) start place end long zero x r e =
    let at = r.0 in let before = r.1 in
    let top = runs_end runs lists (start + suc y.more) (place + chars_of y.kind (suc y.more)) end long r.4 in
    let all = chars_end runs lists (start + suc y.more) (place + chars_of y.kind (suc y.more)) end long r.4 in
    subst (λ (z : Run). IsWithin z start end long) (same_Some y x e) (record { low = omega (arith, at); high = omega (arith, at, top); fits = r.2; chars = omega (arith, before, all) })
run_within (y ∷ runs) (f ∷ lists) start place end long (suc i) x r e =
    let ih = run_within runs lists (start + suc y.more) (place + chars_of y.kind (suc y.more)) end long i x r.4 e in
    record { low = (let l = ih.low in omega (arith, l)); high = ih.high; fits = ih.fits; chars = ih.chars }

pub starts_rise : (runs : List Run) (lists : List (List ℕ)) (start place end long i j : ℕ) (d : Run) → AreRuns start place runs lists end long → i ≤ j → j < length runs → (slice_index_or runs i d).start ≤ (slice_index_or runs j d).start
starts_rise [] lists start place end long i j d r l m = absurd (omega (arith, m))
starts_rise (y ∷ runs) [] start place end long i j d r l m = absurd r
starts_rise (y ∷ runs) (f ∷ lists) start place end long zero zero d r l m = omega arith
starts_rise (y ∷ runs) (f ∷ lists) start place end long (suc i) zero d r l m = absurd (omega (arith, l))
starts_rise (y ∷ runs) (f ∷ lists) start place end long zero (suc j) d r l m =
    let high = (run_within runs lists (start + suc y.more) (place + chars_of y.kind (suc y.more)) end long j (slice_index_or runs j d) r.4 (slice_get-get_or runs j d (omega (arith, m)))).low in
    let at = r.0 in omega (arith, high, at)
starts_rise (y ∷ runs) (f ∷ lists) start place end long (suc i) (suc j) d r l m =
    starts_rise runs lists (start + suc y.more) (place + chars_of y.kind (suc y.more)) end long i j d r.4 (omega (arith, l)) (omega (arith, m))

-- where the last run begins below a position, all do
pub all_begin : (runs : List Run) (lists : List (List ℕ)) (count chars end : ℕ) (x : Run) → AreRuns 0 0 runs lists count chars → slice_get runs (length runs - 1) ≡ Some x → x.start < end → AllWithin (λ (r : Run). r.start < end) runs 0 (length runs)
all_begin runs lists count chars end x r e l = λ k d low m.
    let rise = starts_rise runs lists 0 0 count chars k (length runs - 1) d r (omega (arith, m)) (omega (arith, m)) in
    let read = ap (λ (y : Run). y.start) (get_or_from_slice_get runs (length runs - 1) x d e) in
    omega (arith, rise, read, l)

-- a position below the next run's first one, or below the end, is in the run
pub in_run : (runs : List Run) (lists : List (List ℕ)) (start place end long position i : ℕ) (x : Run) → AreRuns start place runs lists end long → slice_get runs i ≡ Some x → position < end
    → ((t : Run) → slice_get runs (suc i) ≡ Some t → position < t.start) → position ≤ x.start + x.more
in_run [] lists start place end long position i x r e l h = let no : ⊥ = cc in absurd no
in_run (y ∷ runs) [] start place end long position i x r e l h = absurd r
in_run (y ∷ []) (f ∷ []) start place end long position zero x r e l h =
    let same = same_Some y x e in
    let at = ap (λ (z : Run). z.start) same in let more = ap (λ (z : Run). z.more) same in
    let first = r.0 in let last = r.4.0 in omega (arith, at, more, first, last, l)
in_run (y ∷ []) (f ∷ g ∷ lists) start place end long position zero x r e l h = absurd r.4
in_run (y ∷ t ∷ runs) (f ∷ []) start place end long position zero x r e l h = absurd r.4
in_run (y ∷ t ∷ runs) (f ∷ g ∷ lists) start place end long position zero x r e l h =
    let same = same_Some y x e in
    let at = ap (λ (z : Run). z.start) same in let more = ap (λ (z : Run). z.more) same in
    let first = r.0 in let next = r.4.0 in let low = h t refl in omega (arith, at, more, first, next, low)
in_run (y ∷ runs) (f ∷ lists) start place end long position (suc i) x r e l h = in_run runs lists (start + suc y.more) (place + chars_of y.kind (suc y.more)) end long position i x r.4 e l h

pub some_below : (runs : List Run) (lists : List (List ℕ)) (end long position below : ℕ) → AreRuns 0 0 runs lists end long → position < end → ((d : Run) → below ≤ 0 → 0 < length runs → position < (slice_index_or runs 0 d).start) → 1 ≤ below
some_below [] [] end long position below r l h = let stop = r.0 in absurd (omega (arith, stop, l))
some_below [] (f ∷ lists) end long position below r l h = absurd r
some_below (y ∷ runs) [] end long position below r l h = absurd r
some_below (y ∷ runs) (f ∷ lists) end long position zero r l h = let high = h y (omega arith) (omega arith) in let first = r.0 in absurd (omega (arith, high, first))
some_below (y ∷ runs) (f ∷ lists) end long position (suc below) r l h = omega arith

pub first_run : (runs : List Run) (lists : List (List ℕ)) (end long position : ℕ) → AreRuns 0 0 runs lists end long → position < end → Run
first_run [] [] end long position r l = let stop = r.0 in absurd (omega (arith, stop, l))
first_run [] (f ∷ lists) end long position r l = absurd r
first_run (y ∷ runs) lists end long position r l = y

-- THE EVENT at a place
pub read_part : {X : Type 0} (f : ℕ → X) (a n : ℕ) (rest : List X) (p : ℕ) → p < n → slice_get (map f (range_with_len a n) ++ rest) p ≡ Some (f (a + p))
read_part f a zero rest p l = absurd (omega (arith, l))
read_part f a (suc n) rest zero l = let e : a ≡ a + 0 = omega arith in ap (λ k. Some (f k)) e
read_part f a (suc n) rest (suc p) l = let e : a + 1 + p ≡ a + suc p = omega arith in read_part f (a + 1) n rest p (omega (arith, l)) ∙ ap (λ k. Some (f k)) e

pub skip_part : {X : Type 0} (f : ℕ → X) (a n : ℕ) (rest : List X) (p q : ℕ) → q ≡ n + p → slice_get (map f (range_with_len a n) ++ rest) q ≡ slice_get rest p
skip_part f a zero rest p q e = let same : q ≡ p = omega (arith, e) in ap (slice_get rest) same
skip_part f a (suc n) rest p zero e = absurd (omega (arith, e))
skip_part f a (suc n) rest p (suc q) e = skip_part f (a + 1) n rest p q (omega (arith, e))

pub read_run : (cs : Told) (r : Run) (first : List ℕ) (rest : List BareEvent) (k : ℕ) → k ≤ r.more → slice_get (run_events cs r first ++ rest) k ≡ Some (event_in cs r first k)
read_run cs r first rest k l = let e : 0 + k ≡ k = omega arith in read_part (event_in cs r first) 0 (suc r.more) rest k (omega (arith, l)) ∙ ap (λ j. Some (event_in cs r first j)) e

pub read_events : (cs : Told) (runs : List Run) (lists : List (List ℕ)) (start place end long position i p : ℕ) (x : Run) → AreRuns start place runs lists end long → slice_get runs i ≡ Some x
    → x.start ≤ position → position ≤ x.start + x.more → start + p ≡ position → slice_get (events_in cs runs lists) p ≡ Some (event_in cs x (slice_index_or lists i []) (position - x.start))
read_events cs [] lists start place end long position i p x r e l h q = let no : ⊥ = cc in absurd no
read_events cs (y ∷ runs) [] start place end long position i p x r e l h q = absurd r
read_events cs (y ∷ runs) (f ∷ lists) start place end long position zero p x r e l h q =
    let same = same_Some y x e in
    let first = r.0 in
    let at : x.start ≡ start = ap (λ (z : Run). z.start) (sym same) ∙ first in
    let more = ap (λ (z : Run). z.more) same in
    let there : p ≡ position - x.start = omega (arith, at, q) in
    read_run cs y f (events_in cs runs lists) p (omega (arith, at, more, q, h)) ∙ ap (λ (z : Run). Some (event_in cs z f p)) same ∙ ap (λ k. Some (event_in cs x f k)) there
read_events cs (y ∷ runs) (f ∷ lists) start place end long position (suc i) p x r e l h q =
    let high = (run_within runs lists (start + suc y.more) (place + chars_of y.kind (suc y.more)) end long i x r.4 e).low in
    let back : start + suc y.more + (p - suc y.more) ≡ position = omega (arith, high, l, q) in
    skip_part (event_in cs y f) 0 (suc y.more) (events_in cs runs lists) (p - suc y.more) p (omega (arith, high, l, q))
    ∙ read_events cs runs lists (start + suc y.more) (place + chars_of y.kind (suc y.more)) end long position i (p - suc y.more) x r.4 e l h back

-- THE LABELS of the marks
pub labels_end : (runs : List Run) (n end : ℕ) → AreLabelled n runs end → (n ≤ end) × (end ≤ n + length runs)
labels_end [] n end a = (omega (arith, a), omega (arith, a))
labels_end (r ∷ runs) n end a =
    let more = labels_end runs (n + labels_of r.kind) end a.1 in
    let one = few_labels r.kind in
    (omega (arith, more.0), omega (arith, more.1, one))
  where
    few_labels : (kind : RunKind) → labels_of kind ≤ 1
    few_labels Insertions = omega arith
    few_labels Deletions = omega arith
    few_labels BackDeletions = omega arith
    few_labels Marks = omega arith

label_here : (kind : RunKind) (at n end : ℕ) → IsLabel kind at n → n + labels_of kind ≤ end → HasLabel kind at end
label_here Insertions at n end is low = tt
label_here Deletions at n end is low = tt
label_here BackDeletions at n end is low = tt
label_here Marks at n end is low = omega (arith, is, low)

pub label_within : (runs : List Run) (n end i : ℕ) (x : Run) → AreLabelled n runs end → slice_get runs i ≡ Some x → HasLabel x.kind x.at end
label_within [] n end i x a e = let no : ⊥ = cc in absurd no
label_within (y ∷ runs) n end zero x a e =
    subst (λ (z : Run). HasLabel z.kind z.at end) (same_Some y x e) (label_here y.kind y.at n end a.0 (labels_end runs (n + labels_of y.kind) end a.1).0)
label_within (y ∷ runs) n end (suc i) x a e = label_within runs (n + labels_of y.kind) end i x a.1 e

-- THEIR OWN CHARACTERS and labels are enough
pub map_same : {X : Type 0} (f g : ℕ → X) (a n : ℕ) → ((k : ℕ) → k < n → f (a + k) ≡ g (a + k)) → map f (range_with_len a n) ≡ map g (range_with_len a n)
map_same f g a zero h = refl
map_same f g a (suc n) h =
    let e : a + 0 ≡ a = omega arith in
    λ i. subst (λ k. f k ≡ g k) e (h 0 (omega arith)) i ∷ map_same f g (a + 1) n (λ k l. let s : a + suc k ≡ a + 1 + k = omega arith in subst (λ j. f j ≡ g j) s (h (suc k) (omega (arith, l)))) i

-- characters up to a number, and labels up to one, are the same in both
pub record AgreeTo (cs ds : Told) (long most : ℕ) : Type 0 where
  pub chars : (j : ℕ) → j < long → get_or cs.chars j 0 ≡ get_or ds.chars j 0
  pub labels : (j : ℕ) → j < most → get_or cs.labels j [] ≡ get_or ds.labels j []

pub op_same : (kind : RunKind) (at place : ℕ) (cs ds : Told) (k n long labels : ℕ) → k < n → place + chars_of kind n ≤ long → HasLabel kind at labels → AgreeTo cs ds long labels → op_in kind at place cs k ≡ op_in kind at place ds k
op_same Insertions at place cs ds k n long labels l m has h = ap (λ c. Ins (at + k) c) (h.chars (place + k) (omega (arith, l, m)))
op_same Deletions at place cs ds k n long labels l m has h = refl
op_same BackDeletions at place cs ds k n long labels l m has h = refl
op_same Marks at place cs ds k n long labels l m has h = ap Mark (h.labels at has)

pub run_same : (cs ds : Told) (r : Run) (first : List ℕ) (long labels : ℕ) → chars_to_end r ≤ long → HasLabel r.kind r.at labels → AgreeTo cs ds long labels → run_events cs r first ≡ run_events ds r first
run_same cs ds r first long labels m has h =
    map_same (event_in cs r first) (event_in ds r first) 0 (suc r.more) (λ k l.
    ap (λ (op : Op). bare op (parents_behind first r.start (0 + k))) (op_same r.kind r.at r.chars_before cs ds (0 + k) (suc r.more) long labels (omega (arith, l)) m has h))

pub events_same : (cs ds : Told) (runs : List Run) (lists : List (List ℕ)) (start place n end long labels : ℕ) → AreRuns start place runs lists end long → AreLabelled n runs labels → AgreeTo cs ds long labels
    → events_in cs runs lists ≡ events_in ds runs lists
events_same cs ds [] lists start place n end long labels r b h = refl
events_same cs ds (x ∷ runs) [] start place n end long labels r b h = refl
events_same cs ds (x ∷ runs) (f ∷ lists) start place n end long labels r b h =
    let within = run_within (x ∷ runs) (f ∷ lists) start place end long 0 x r refl in
    let has = label_within (x ∷ runs) n labels 0 x b refl in
    λ i. run_same cs ds x f long labels within.chars has h i ++ events_same cs ds runs lists (start + suc x.more) (place + chars_of x.kind (suc x.more)) (n + labels_of x.kind) end long labels r.4 b.1 h i
