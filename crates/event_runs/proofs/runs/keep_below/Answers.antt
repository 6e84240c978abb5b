use Rattle.std.proofs.Common.{◌≡◌, ◌∙◌, ℕ, zero, suc, ◌-◌, ◌<◌, ◌≤◌, List, [], ◌∷◌, length, take, drop, set, Some, slice_get, slice_index_or, refl, sym, ap, subst, arith}
use Rattle.std.proofs.lemmas.List.{length-take-le, length-set, length-drop, take_all}
use Rattle.std.proofs.lemmas.Option.{slice_get-get_or, slice_get_within, get_or_from_slice_get}
use Rattle.event_runs.specs.declared.runs.Run.{Run}
use Rattle.event_runs.specs.KeptRuns.{events_in, shorter, chars_to_end, AreRuns, AreCutAt, AreLabelled, first_label}
use Rattle.event_runs.proofs.RunEvents.{in_run, labels_end}
use Rattle.event_runs.proofs.RunLines.{fewer_in, labelled_front, labelled_rest, labelled_shorter}
use Rattle.event_runs.proofs.runs.keep_below.Goals as goal

read_take : (xs : List Run) (i : ℕ) → slice_get (take (suc i) xs) i ≡ slice_get xs i
read_take [] i = refl
read_take (x ∷ xs) zero = refl
read_take (x ∷ xs) (suc i) = read_take xs i

cut_first : (runs : List Run) (lists : List (List ℕ)) (count chars end : ℕ) → AreRuns 0 0 runs lists count chars → end ≤ count → ((d : Run) → 0 < length runs → end ≤ (slice_index_or runs 0 d).start) → end ≡ 0
cut_first [] [] count chars end a l above = let stop = a.0 in omega (arith, stop, l)
cut_first [] (f ∷ lists) count chars end a l above = absurd a
cut_first (y ∷ runs) [] count chars end a l above = absurd a
cut_first (y ∷ runs) (f ∷ lists) count chars end a l above = let first = a.0 in let high = above y (omega arith) in omega (arith, first, high)

cut : (runs : List Run) (lists : List (List ℕ)) (count chars end kept : ℕ) → AreRuns 0 0 runs lists count chars → end ≤ count → kept ≤ length runs
    → ((k : ℕ) (d : Run) → k < kept → (slice_index_or runs k d).start < end) → ((k : ℕ) (d : Run) → kept ≤ k → k < length runs → end ≤ (slice_index_or runs k d).start)
    → (new : List Run) (left : ℕ) → ((place : ℕ) (r : Run) → length (take kept runs) ≡ suc place → slice_get (take kept runs) place ≡ Some r → (new ≡ set (take kept runs) place (shorter r end)) × (left ≡ chars_to_end (shorter r end)))
    → (take kept runs ≡ [] → (new ≡ []) × (left ≡ 0)) → AreCutAt runs new lists chars end left
cut runs lists count chars end zero a l m below above new left last none =
    let e = none refl in
    let stop : end ≡ 0 = cut_first runs lists count chars end a l (λ d h. above 0 d (omega arith) h) in
    subst (λ (rs : List Run). AreCutAt runs rs lists chars end left) (sym e.0) (subst (λ n. AreCutAt runs [] lists chars end n) (sym e.1) (record {
      events = λ told. sym (ap (λ n. take n (events_in told runs lists)) stop);
      in_line = (sym stop, refl);
      within = omega arith;
    }))
cut [] lists count chars end (suc i) a l m below above new left last none = absurd (omega (arith, m))
cut (y ∷ runs) lists count chars end (suc i) a l m below above new left last none =
    let r = slice_index_or (y ∷ runs) i y in
    let there : slice_get (y ∷ runs) i ≡ Some r = slice_get-get_or (y ∷ runs) i y (omega (arith, m)) in
    let long : length (take (suc i) (y ∷ runs)) ≡ suc i = length-take-le (suc i) (y ∷ runs) m in
    let low = below i y (omega arith) in
    let some : 0 < end = omega (arith, low) in
    let high = in_run (y ∷ runs) lists 0 0 count chars (end - 1) i r a there (omega (arith, some, l)) (λ t e.
    let top = above (suc i) t (omega arith) (slice_get_within (y ∷ runs) (suc i) t e) in
    let read = ap (λ (z : Run). z.start) (get_or_from_slice_get (y ∷ runs) (suc i) t t e) in
    omega (arith, top, read, some)) in
    let e = last i r long (read_take (y ∷ runs) i ∙ there) in
    let kept = set (take (suc i) (y ∷ runs)) i (shorter r end) in
    let fewer = fewer_in (y ∷ runs) lists 0 0 count chars i end r a there low (omega (arith, high, some)) in
    let size : suc i ≡ length kept = sym (length-set (take (suc i) (y ∷ runs)) i (shorter r end) ∙ long) in
    let all : end - 0 ≡ end = omega arith in
    subst (λ (rs : List Run). AreCutAt (y ∷ runs) rs lists chars end left) (sym e.0) (subst (λ n. AreCutAt (y ∷ runs) kept lists chars end n) (sym e.1) (record {
      events = λ cs. ap (λ n. events_in cs kept (take n lists)) (sym size) ∙ fewer.events cs ∙ ap (λ n. take n (events_in cs (y ∷ runs) lists)) all;
      in_line = subst (λ n. AreRuns 0 0 kept (take n lists) end (chars_to_end (shorter r end))) size fewer.in_line;
      within = fewer.within;
    }))

pub returns-clause-events : goal.returns-clause-events
returns-clause-events c = λ lists count chars a l.
    let runs = c.args.runs.now.items in
    let kept = c.count_below-kept.result in
    let same : c.deref.result.now ≡ runs = c.deref.ensures.value in
    let first : c.truncate-2.new.self.items ≡ take kept runs = c.truncate-2.ensures.items in
    cut runs lists count chars c.args.end kept a l (subst (λ (rs : List Run). kept ≤ length rs) same c.count_below-kept.ensures.bound)
    (λ k d m. subst (λ (rs : List Run). (slice_index_or rs k d).start < c.args.end) same (c.count_below-kept.ensures.below k d (omega arith) m))
    (λ k d m h. subst (λ (rs : List Run). k < length rs → c.args.end ≤ (slice_index_or rs k d).start) same (c.count_below-kept.ensures.above k d m) h)
    c.shorten_last.new.runs.items c.shorten_last.result
    (subst (λ (rs : List Run). (place : ℕ) (r : Run) → length rs ≡ suc place → slice_get rs place ≡ Some r → (c.shorten_last.new.runs.items ≡ set rs place (shorter r c.args.end)) × (c.shorten_last.result ≡ chars_to_end (shorter r c.args.end))) first c.shorten_last.ensures.last)
    (subst (λ (rs : List Run). rs ≡ [] → (c.shorten_last.new.runs.items ≡ []) × (c.shorten_last.result ≡ 0)) first c.shorten_last.ensures.none)

-- the labels of the runs that are left are those that are left
labelled_cut : (front new : List Run) (m end : ℕ) → AreLabelled 0 front m → ((place : ℕ) (r : Run) → length front ≡ suc place → slice_get front place ≡ Some r → new ≡ set front place (shorter r end)) → (front ≡ [] → new ≡ []) → AreLabelled 0 new m
labelled_cut [] new m end a last none = subst (λ (rs : List Run). AreLabelled 0 rs m) (sym (none refl)) a
labelled_cut (y ∷ front) new m end a last none =
    let r = slice_index_or (y ∷ front) (length front) y in
    let there : slice_get (y ∷ front) (length front) ≡ Some r = slice_get-get_or (y ∷ front) (length front) y (omega arith) in
    subst (λ (rs : List Run). AreLabelled 0 rs m) (sym (last (length front) r refl there)) (labelled_shorter (y ∷ front) 0 m (length front) end r a there)

pub returns-clause-labels : goal.returns-clause-labels
returns-clause-labels c = λ labelled.
    let runs = c.args.runs.now.items in
    let labels = c.args.labels.now.items in
    let kept = c.count_below-kept.result in
    let left = first_label (drop kept runs) (length labels) in
    let slice : take (length c.deref-2.result.now - kept) (drop kept c.deref-2.result.now) ≡ drop kept runs =
    ap (λ (rs : List Run). take (length rs - kept) (drop kept rs)) c.deref-2.ensures.value ∙ take_all (length runs - kept) (drop kept runs) (let long = length-drop kept runs in omega (arith, long)) in
    let all : c.len.result ≡ length labels = omega (arith, c.len.ensures, c.args.labels.now.ok.0) in
    let found : c.first_label.result ≡ left = c.first_label.ensures ∙ (λ i. first_label (slice i) (all i)) in
    let few : left ≤ length labels = (labels_end (drop kept runs) left (length labels) (labelled_rest runs 0 (length labels) kept labelled)).0 in
    let long : left ≡ length c.truncate.new.self.items = sym (ap length (c.truncate.ensures.items ∙ ap (λ n. take n labels) found) ∙ length-take-le left labels few) in
    let first : c.truncate-2.new.self.items ≡ take kept runs = c.truncate-2.ensures.items in
    subst (AreLabelled 0 c.shorten_last.new.runs.items) long
    (labelled_cut (take kept runs) c.shorten_last.new.runs.items left c.args.end (labelled_front runs 0 (length labels) kept labelled)
    (λ place r many there. (c.shorten_last.ensures.last place r (ap (λ (rs : List Run). length rs) first ∙ many) (ap (λ (rs : List Run). slice_get rs place) first ∙ there)).0 ∙ ap (λ (rs : List Run). set rs place (shorter r c.args.end)) first)
    (λ none. (c.shorten_last.ensures.none (first ∙ none)).0))
