-- Runs with an event more, or with fewer.
use Rattle.std.proofs.Common.{◌≡◌, ℕ, zero, suc, ◌+◌, ◌-◌, ◌<◌, ◌≤◌, ◌^◌, ⊎_elim, List, [], ◌∷◌, ◌++◌, length, map, get_or, slice_get, take, drop, set, cond, Option, Some, refl, sym, ap, ◌∙◌, subst, arith, append-nil, append_assoc}
use Rattle.std.specs.List.{range_with_len, find}
use Rattle.std.specs.Option.{option_map_or}
use Rattle.event_runs.specs.declared.runs.Sort.{Sort}
use Rattle.event_runs.specs.declared.runs.Sort.TheVariants.{Inserting, Deleting, Marking}
use Rattle.std.proofs.lemmas.List.{take-append-le}
use Rattle.std.proofs.lemmas.List.FromFn.{map-range_with_len_more, take-map-range_with_len}
use Rattle.std.proofs.lemmas.Option.{same_Some}
use Rattle.std.proofs.Math.Seq.{take-append-add}
use Rattle.ew_model.specs.declared.event.Op.{Op}
use Rattle.ew_model.specs.declared.event.Op.TheVariants.{Ins, Del}
use Rattle.event_runs.specs.declared.runs.Run.{Run}
use Rattle.event_runs.specs.declared.runs.RunKind.{RunKind}
use Rattle.event_runs.specs.declared.runs.RunKind.TheVariants.{Insertions, Deletions, BackDeletions, Marks}
use Rattle.event_runs.specs.BareEvents.{BareEvent, bare}
use Rattle.event_runs.specs.KeptRuns.{Told, op_in, parents_behind, event_in, run_events, events_in, sort_of, chars_of, other_kind, IsNext, JoinsAs, behind, LastJoinsAs, longer, shorter, chars_to_end, IsApart, Fits, AreRuns, labels_of, IsLabel, AreLabelled, is_mark, first_label}
use Rattle.event_runs.proofs.RunEvents.{length-run_events, map_same, run_within, chars_end}

-- ONE MORE, in the last run: what its kind tells
kinds_alike : (r s : Run) (kind : RunKind) → JoinsAs r s kind → sort_of kind ≡ sort_of r.kind
kinds_alike r s kind j = ⊎_elim (λ e. ap sort_of e) (λ e. ap sort_of e.1 ∙ other r.kind) j.one_way
  where
    other : (k : RunKind) → sort_of (other_kind k) ≡ sort_of k
    other Insertions = refl
    other Deletions = refl
    other BackDeletions = refl
    other Marks = refl

chars_alike : (k m : RunKind) (n : ℕ) → sort_of k ≡ sort_of m → chars_of k n ≡ chars_of m n
chars_alike Insertions Insertions n e = refl
chars_alike Insertions Deletions n e = let no : ⊥ = cc in absurd no
chars_alike Insertions BackDeletions n e = let no : ⊥ = cc in absurd no
chars_alike Insertions Marks n e = let no : ⊥ = cc in absurd no
chars_alike Deletions Insertions n e = let no : ⊥ = cc in absurd no
chars_alike Deletions Deletions n e = refl
chars_alike Deletions BackDeletions n e = refl
chars_alike Deletions Marks n e = let no : ⊥ = cc in absurd no
chars_alike BackDeletions Insertions n e = let no : ⊥ = cc in absurd no
chars_alike BackDeletions Deletions n e = refl
chars_alike BackDeletions BackDeletions n e = refl
chars_alike BackDeletions Marks n e = let no : ⊥ = cc in absurd no
chars_alike Marks Insertions n e = let no : ⊥ = cc in absurd no
chars_alike Marks Deletions n e = let no : ⊥ = cc in absurd no
chars_alike Marks BackDeletions n e = let no : ⊥ = cc in absurd no
chars_alike Marks Marks n e = refl

chars_more : (k m : RunKind) (n : ℕ) → sort_of k ≡ sort_of m → chars_of k (suc n) ≡ chars_of k n + chars_of m 1
chars_more Insertions Insertions n e = omega arith
chars_more Insertions Deletions n e = let no : ⊥ = cc in absurd no
chars_more Insertions BackDeletions n e = let no : ⊥ = cc in absurd no
chars_more Insertions Marks n e = let no : ⊥ = cc in absurd no
chars_more Deletions Insertions n e = let no : ⊥ = cc in absurd no
chars_more Deletions Deletions n e = omega arith
chars_more Deletions BackDeletions n e = omega arith
chars_more Deletions Marks n e = let no : ⊥ = cc in absurd no
chars_more BackDeletions Insertions n e = let no : ⊥ = cc in absurd no
chars_more BackDeletions Deletions n e = omega arith
chars_more BackDeletions BackDeletions n e = omega arith
chars_more BackDeletions Marks n e = let no : ⊥ = cc in absurd no
chars_more Marks Insertions n e = let no : ⊥ = cc in absurd no
chars_more Marks Deletions n e = let no : ⊥ = cc in absurd no
chars_more Marks BackDeletions n e = let no : ⊥ = cc in absurd no
chars_more Marks Marks n e = omega arith

fits_more : (kind : RunKind) (at more next : ℕ) → IsNext kind at more next → next < 2 ^ 32 → Fits kind at (more + 1)
fits_more Insertions at more next e l = omega (arith, e, l)
fits_more Deletions at more next e l = tt
fits_more BackDeletions at more next e l = omega (arith, e)
fits_more Marks at more next e l = absurd e

-- the operation behind the last one is the first of the other run
op_next : (k m : RunKind) (at more next place own : ℕ) (cs : Told) → sort_of k ≡ sort_of m → IsNext k at more next → place + chars_of k (suc more) ≡ own → op_in k at place cs (suc more) ≡ op_in m next own cs 0
op_next Insertions Insertions at more next place own cs e n q =
    let index : at + suc more ≡ next + 0 = omega (arith, n) in let char : place + suc more ≡ own + 0 = omega (arith, q) in
    λ i. Ins (index i) (get_or cs.chars (char i) 0)
op_next Deletions Deletions at more next place own cs e n q = ap Del (sym n)
op_next Deletions BackDeletions at more next place own cs e n q = let index : at ≡ next - 0 = omega (arith, n) in ap Del index
op_next BackDeletions Deletions at more next place own cs e n q = let index : at - suc more ≡ next = omega (arith, n) in ap Del index
op_next BackDeletions BackDeletions at more next place own cs e n q = let index : at - suc more ≡ next - 0 = omega (arith, n) in ap Del index
op_next Insertions Deletions at more next place own cs e n q = let no : ⊥ = cc in absurd no
op_next Insertions BackDeletions at more next place own cs e n q = let no : ⊥ = cc in absurd no
op_next Insertions Marks at more next place own cs e n q = let no : ⊥ = cc in absurd no
op_next Deletions Insertions at more next place own cs e n q = let no : ⊥ = cc in absurd no
op_next Deletions Marks at more next place own cs e n q = let no : ⊥ = cc in absurd no
op_next BackDeletions Insertions at more next place own cs e n q = let no : ⊥ = cc in absurd no
op_next BackDeletions Marks at more next place own cs e n q = let no : ⊥ = cc in absurd no
op_next Marks m at more next place own cs e n q = absurd n

-- and those before it stay
op_kept : (r s : Run) (kind : RunKind) (cs : Told) (k : ℕ) → JoinsAs r s kind → k < suc r.more → op_in kind r.at r.chars_before cs k ≡ op_in r.kind r.at r.chars_before cs k
op_kept r s kind cs k j l = ⊎_elim (λ e. ap (λ m. op_in m r.at r.chars_before cs k) e) (λ e. ap (λ m. op_in m r.at r.chars_before cs k) e.1 ∙ first r.kind (let none = e.0 in omega (arith, none, l))) j.one_way
  where
    first : (m : RunKind) → k ≡ 0 → op_in (other_kind m) r.at r.chars_before cs k ≡ op_in m r.at r.chars_before cs k
    first Insertions z = refl
    first Deletions z = let e : r.at - k ≡ r.at = omega (arith, z) in ap Del e
    first BackDeletions z = let e : r.at ≡ r.at - k = omega (arith, z) in ap Del e
    first Marks z = refl

joined : (cs : Told) (r s : Run) (first parents : List ℕ) (kind : RunKind) → JoinsAs r s kind → parents ≡ behind r → chars_to_end r ≡ s.chars_before
    → run_events cs (longer r kind) first ≡ run_events cs r first ++ event_in cs s parents 0 ∷ []
joined cs r s first parents kind j p q =
    let long : suc (r.more + 1) ≡ suc r.more + 1 = omega arith in
    let own : r.chars_before + chars_of kind (suc r.more) ≡ s.chars_before = ap (λ n. r.chars_before + n) (chars_alike kind r.kind (suc r.more) (kinds_alike r s kind j)) ∙ q in
    ap (λ n. map (event_in cs (longer r kind) first) (range_with_len 0 n)) long
    ∙ map-range_with_len_more (event_in cs (longer r kind) first) 0 (suc r.more) (suc r.more) (omega arith)
    ∙ (λ i. map_same (event_in cs (longer r kind) first) (event_in cs r first) 0 (suc r.more) (λ k l.
    ap (λ (op : Op). bare op (parents_behind first r.start (0 + k))) (op_kept r s kind cs (0 + k) j (omega (arith, l)))) i
    ++ bare (op_next kind s.kind r.at r.more s.at r.chars_before s.chars_before cs (kinds_alike r s kind j ∙ j.alike) j.next own i) (sym p i) ∷ [])

-- a run before it is apart from it as before
joins_before : (y r s : Run) (kind k : RunKind) → JoinsAs r s kind → JoinsAs y (longer r kind) k → JoinsAs y r k
joins_before y r s kind k j e = record { alike = e.alike ∙ kinds_alike r s kind j; one_way = e.one_way; next = e.next }

apart_longer : (y r s : Run) (kind : RunKind) (runs : List Run) (lists : List (List ℕ)) (i : ℕ) → JoinsAs r s kind → slice_get runs i ≡ Some r → IsApart y runs lists → IsApart y (set runs i (longer r kind)) lists
apart_longer y r s kind [] lists i j e a = let no : ⊥ = cc in absurd no
apart_longer y r s kind (z ∷ runs) [] zero j e a = tt
apart_longer y r s kind (z ∷ runs) [] (suc i) j e a = tt
apart_longer y r s kind (z ∷ runs) (f ∷ lists) zero j e a = λ p k h. subst (λ (w : Run). f ≡ behind y → (m : RunKind) → JoinsAs y w m → ⊥) (same_Some z r e) a p k (joins_before y r s kind k j h)
apart_longer y r s kind (z ∷ runs) (f ∷ lists) (suc i) j e a = a

-- runs with one event more
pub record HasMore (runs new : List Run) (lists more : List (List ℕ)) (s : Run) (parents : List ℕ) (start place end long : ℕ) : Type 0 where
  pub events : (cs : Told) → events_in cs new more ≡ events_in cs runs lists ++ event_in cs s parents 0 ∷ []
  pub in_line : AreRuns start place new more (end + 1) (long + chars_of s.kind 1)

pub more_in : (runs : List Run) (lists : List (List ℕ)) (start place end long i : ℕ) (r s : Run) (parents : List ℕ) (kind : RunKind) → AreRuns start place runs lists end long → length runs ≡ suc i → slice_get runs i ≡ Some r
    → JoinsAs r s kind → parents ≡ behind r → s.chars_before ≡ long → s.at < 2 ^ 32 → HasMore runs (set runs i (longer r kind)) lists lists s parents start place end long
more_in [] lists start place end long i r s parents kind a n e j p q l = absurd (omega (arith, n))
more_in (y ∷ runs) [] start place end long i r s parents kind a n e j p q l = absurd a
more_in (y ∷ []) (f ∷ []) start place end long zero r s parents kind a n e j p q l =
    let same : y ≡ r = same_Some y r e in
    subst (λ (z : Run). AreRuns start place (z ∷ []) (f ∷ []) end long → HasMore (z ∷ []) (longer r kind ∷ []) (f ∷ []) (f ∷ []) s parents start place end long) (sym same) (λ b.
    let all : chars_to_end r ≡ s.chars_before = let before = b.1 in let stop = b.4.1 in omega (arith, before, stop, q) in
    record {
      events = λ cs. append-nil (run_events cs (longer r kind) f) ∙ joined cs r s f parents kind j p all ∙ (λ i. sym (append-nil (run_events cs r f)) i ++ event_in cs s parents 0 ∷ []);
      in_line = (
        b.0,
        b.1,
        fits_more kind r.at r.more s.at j.next l,
        tt,
        (
          (let stop = b.4.0 in omega (arith, stop)),
          (let stop = b.4.1 in let grown = chars_more kind s.kind (suc r.more) (kinds_alike r s kind j ∙ j.alike) in
              let same_chars = chars_alike kind r.kind (suc r.more) (kinds_alike r s kind j) in
              let count : chars_of kind (suc (r.more + 1)) ≡ chars_of kind (suc (suc r.more)) = ap (chars_of kind) (let e : suc (r.more + 1) ≡ suc (suc r.more) = omega arith in e) in
              omega (arith, stop, grown, same_chars, count)),
        ),
      );
    }) a
more_in (y ∷ []) (f ∷ g ∷ lists) start place end long zero r s parents kind a n e j p q l = absurd a.4
more_in (y ∷ z ∷ runs) (f ∷ lists) start place end long zero r s parents kind a n e j p q l = absurd (omega (arith, n))
more_in (y ∷ runs) (f ∷ lists) start place end long (suc i) r s parents kind a n e j p q l =
    let ih = more_in runs lists (start + suc y.more) (place + chars_of y.kind (suc y.more)) end long i r s parents kind a.4 (omega (arith, n)) e j p q l in
    record {
      events = λ cs. ap (λ es. run_events cs y f ++ es) (ih.events cs) ∙ sym (append_assoc (run_events cs y f) (events_in cs runs lists) (event_in cs s parents 0 ∷ []));
      in_line = (a.0, a.1, a.2, apart_longer y r s kind runs lists i j e a.3, ih.in_line);
    }

-- in a run of its own
alone : (cs : Told) (s : Run) (parents : List ℕ) → s.more ≡ 0 → run_events cs s parents ≡ event_in cs s parents 0 ∷ []
alone cs s parents e = ap (λ n. map (event_in cs s parents) (range_with_len 0 (suc n))) e

fits_alone : (s : Run) → s.more ≡ 0 → s.at < 2 ^ 32 → Fits s.kind s.at s.more
fits_alone s e l = by_kind s.kind
  where
    by_kind : (kind : RunKind) → Fits kind s.at s.more
    by_kind Insertions = omega (arith, e, l)
    by_kind Deletions = tt
    by_kind BackDeletions = omega (arith, e)
    by_kind Marks = e

pub started_in : (runs : List Run) (lists : List (List ℕ)) (start place end long : ℕ) (s : Run) (parents : List ℕ) → AreRuns start place runs lists end long → ((kind : RunKind) → LastJoinsAs runs s parents kind → ⊥)
    → s.more ≡ 0 → s.start ≡ end → s.chars_before ≡ long → s.at < 2 ^ 32 → HasMore runs (runs ++ s ∷ []) lists (lists ++ parents ∷ []) s parents start place end long
started_in [] [] start place end long s parents a never none at q l = record {
  events = λ cs. append-nil (run_events cs s parents) ∙ alone cs s parents none;
  in_line = (
    (let stop = a.0 in omega (arith, stop, at)),
    (let stop = a.1 in omega (arith, stop, q)),
    fits_alone s none l,
    tt,
    (
      (let stop = a.0 in omega (arith, stop, none)),
      (let stop = a.1 in let one : chars_of s.kind (suc s.more) ≡ chars_of s.kind 1 = ap (λ n. chars_of s.kind (suc n)) none in omega (arith, stop, one)),
    ),
  );
}
started_in [] (f ∷ lists) start place end long s parents a never none at q l = absurd a
started_in (y ∷ runs) [] start place end long s parents a never none at q l = absurd a
started_in (y ∷ runs) (f ∷ lists) start place end long s parents a never none at q l =
    let ih = started_in runs lists (start + suc y.more) (place + chars_of y.kind (suc y.more)) end long s parents a.4
    (λ kind h. never kind (record { place = suc h.place; run = h.run; last = (let n = h.last in omega (arith, n)); there = h.there; only = h.only; joins = h.joins })) none at q l in
    record {
      events = λ cs. ap (λ es. run_events cs y f ++ es) (ih.events cs) ∙ sym (append_assoc (run_events cs y f) (events_in cs runs lists) (event_in cs s parents 0 ∷ []));
      in_line = (a.0, a.1, a.2, apart runs lists a.3 a.4 (λ n kind p h. never kind (record { place = 0; run = y; last = ap suc n; there = refl; only = p; joins = h })), ih.in_line);
    }
  where
    apart : (later : List Run) (firsts : List (List ℕ)) → IsApart y later firsts → AreRuns (start + suc y.more) (place + chars_of y.kind (suc y.more)) later firsts end long
        → (length later ≡ 0 → (kind : RunKind) → parents ≡ behind y → JoinsAs y s kind → ⊥) → IsApart y (later ++ s ∷ []) (firsts ++ parents ∷ [])
    apart [] [] b c h = λ p kind k. h refl kind p k
    apart [] (g ∷ firsts) b c h = absurd c
    apart (z ∷ later) [] b c h = absurd c
    apart (z ∷ later) (g ∷ firsts) b c h = b

-- THE EVENTS BELOW A POSITION, which the run at a place has the last one of
pub record HasFewer (runs new : List Run) (lists fewer : List (List ℕ)) (start place end long left : ℕ) : Type 0 where
  pub events : (cs : Told) → events_in cs new fewer ≡ take (end - start) (events_in cs runs lists)
  pub in_line : AreRuns start place new fewer end left
  pub within : left ≤ long

fits_less : (kind : RunKind) (at more less : ℕ) → less ≤ more → Fits kind at more → Fits kind at less
fits_less Insertions at more less l f = omega (arith, l, f)
fits_less Deletions at more less l f = tt
fits_less BackDeletions at more less l f = omega (arith, l, f)
fits_less Marks at more less l f = omega (arith, l, f)

chars_less : (kind : RunKind) (m n : ℕ) → m ≤ n → chars_of kind m ≤ chars_of kind n
chars_less Insertions m n l = l
chars_less Deletions m n l = omega arith
chars_less BackDeletions m n l = omega arith
chars_less Marks m n l = omega arith

cut_run : (cs : Told) (y : Run) (first : List ℕ) (n m : ℕ) (rest : List BareEvent) → m ≡ suc (n - y.start - 1) → m ≤ suc y.more → run_events cs (shorter y n) first ++ [] ≡ take m (run_events cs y first ++ rest)
cut_run cs y first n m rest e l =
    append-nil (run_events cs (shorter y n) first) ∙ ap (λ k. map (event_in cs y first) (range_with_len 0 k)) (sym e)
    ∙ sym (take-append-le m (run_events cs y first) rest (let long = length-run_events cs y first in omega (arith, long, l)) ∙ take-map-range_with_len (event_in cs y first) 0 (suc y.more) m l)

apart_shorter : (y r : Run) (n : ℕ) (runs : List Run) (lists : List (List ℕ)) (i : ℕ) → slice_get runs i ≡ Some r → IsApart y runs lists → IsApart y (set (take (suc i) runs) i (shorter r n)) (take (suc i) lists)
apart_shorter y r n [] lists i e a = let no : ⊥ = cc in absurd no
apart_shorter y r n (z ∷ runs) [] zero e a = tt
apart_shorter y r n (z ∷ runs) [] (suc i) e a = tt
apart_shorter y r n (z ∷ runs) (f ∷ lists) zero e a =
    λ p k h. subst (λ (w : Run). f ≡ behind y → (m : RunKind) → JoinsAs y w m → ⊥) (same_Some z r e) a p k (record { alike = h.alike; one_way = h.one_way; next = h.next })
apart_shorter y r n (z ∷ runs) (f ∷ lists) (suc i) e a = a

pub fewer_in : (runs : List Run) (lists : List (List ℕ)) (start place count long i n : ℕ) (r : Run) → AreRuns start place runs lists count long → slice_get runs i ≡ Some r → r.start < n → n ≤ r.start + suc r.more
    → HasFewer runs (set (take (suc i) runs) i (shorter r n)) lists (take (suc i) lists) start place n long (chars_to_end (shorter r n))
fewer_in [] lists start place count long i n r a e l h = let no : ⊥ = cc in absurd no
fewer_in (y ∷ runs) [] start place count long i n r a e l h = absurd a
fewer_in (y ∷ runs) (f ∷ lists) start place count long zero n r a e l h =
    let all = chars_end runs lists (start + suc y.more) (place + chars_of y.kind (suc y.more)) count long a.4 in
    subst (λ (z : Run). z.start < n → n ≤ z.start + suc z.more → HasFewer (y ∷ runs) (shorter z n ∷ []) (f ∷ lists) (f ∷ []) start place n long (chars_to_end (shorter z n))) (same_Some y r e) (λ l h.
    let at = a.0 in let before = a.1 in
    let fewer : n - y.start - 1 ≤ y.more = omega (arith, h, l) in
    let few = chars_less y.kind (suc (n - y.start - 1)) (suc y.more) (omega (arith, fewer)) in
    record {
      events = λ cs. cut_run cs y f n (n - start) (events_in cs runs lists) (omega (arith, at, l)) (omega (arith, at, h));
      in_line = (at, before, fits_less y.kind y.at y.more (n - y.start - 1) fewer a.2, tt, (omega (arith, at, l), ap (λ p. p + chars_of y.kind (suc (n - y.start - 1))) (sym before)));
      within = omega (arith, few, before, all);
    }) l h
fewer_in (y ∷ runs) (f ∷ lists) start place count long (suc i) n r a e l h =
    let ih = fewer_in runs lists (start + suc y.more) (place + chars_of y.kind (suc y.more)) count long i n r a.4 e l h in
    let low = (run_within runs lists (start + suc y.more) (place + chars_of y.kind (suc y.more)) count long i r a.4 e).low in
    let part : suc y.more + (n - (start + suc y.more)) ≡ n - start = omega (arith, low, l) in
    record {
      events = λ cs.
          let size : length (run_events cs y f) + (n - (start + suc y.more)) ≡ n - start = ap (λ m. m + (n - (start + suc y.more))) (length-run_events cs y f) ∙ part in
          ap (λ es. run_events cs y f ++ es) (ih.events cs)
          ∙ sym (ap (λ m. take m (run_events cs y f ++ events_in cs runs lists)) (sym size) ∙ take-append-add (run_events cs y f) (events_in cs runs lists) (n - (start + suc y.more)));
      in_line = (a.0, a.1, a.2, apart_shorter y r n runs lists i e a.3, ih.in_line);
      within = ih.within;
    }

-- THE LABELS of runs with one event more, or with fewer
-- neither of two runs that go together is a mark
unlabelled : (k m : RunKind) (at more next : ℕ) → sort_of k ≡ sort_of m → IsNext k at more next → (labels_of k ≡ 0) × (labels_of m ≡ 0)
unlabelled Insertions Insertions at more next e n = (refl, refl)
unlabelled Deletions Deletions at more next e n = (refl, refl)
unlabelled Deletions BackDeletions at more next e n = (refl, refl)
unlabelled BackDeletions Deletions at more next e n = (refl, refl)
unlabelled BackDeletions BackDeletions at more next e n = (refl, refl)
unlabelled Insertions Deletions at more next e n = let no : ⊥ = cc in absurd no
unlabelled Insertions BackDeletions at more next e n = let no : ⊥ = cc in absurd no
unlabelled Insertions Marks at more next e n = let no : ⊥ = cc in absurd no
unlabelled Deletions Insertions at more next e n = let no : ⊥ = cc in absurd no
unlabelled Deletions Marks at more next e n = let no : ⊥ = cc in absurd no
unlabelled BackDeletions Insertions at more next e n = let no : ⊥ = cc in absurd no
unlabelled BackDeletions Marks at more next e n = let no : ⊥ = cc in absurd no
unlabelled Marks m at more next e n = absurd n

-- a run that has none is labelled in any way
no_label : (kind : RunKind) (at n : ℕ) → labels_of kind ≡ 0 → IsLabel kind at n
no_label Insertions at n e = tt
no_label Deletions at n e = tt
no_label BackDeletions at n e = tt
no_label Marks at n e = let no : ⊥ = cc in absurd no

labels_alike : (k m : RunKind) → sort_of k ≡ sort_of m → labels_of k ≡ labels_of m
labels_alike k m e = by_sort k ∙ (ap labels_by e ∙ sym (by_sort m))
  where
    labels_by : Sort → ℕ
    labels_by Inserting = 0
    labels_by Deleting = 0
    labels_by Marking = 1

    by_sort : (k : RunKind) → labels_of k ≡ labels_by (sort_of k)
    by_sort Insertions = refl
    by_sort Deletions = refl
    by_sort BackDeletions = refl
    by_sort Marks = refl

labelled_last : (runs : List Run) (n end i : ℕ) (r s : Run) (kind : RunKind) → AreLabelled n runs end → slice_get runs i ≡ Some r → JoinsAs r s kind → AreLabelled n (set runs i (longer r kind)) end
labelled_last [] n end i r s kind a e j = let no : ⊥ = cc in absurd no
labelled_last (y ∷ runs) n end zero r s kind a e j =
    let none = unlabelled kind s.kind r.at r.more s.at (kinds_alike r s kind j ∙ j.alike) j.next in
    let same : labels_of y.kind ≡ labels_of kind = ap (λ (z : Run). labels_of z.kind) (same_Some y r e) ∙ sym (labels_alike kind r.kind (kinds_alike r s kind j)) in
    (no_label kind r.at n none.0, subst (λ k. AreLabelled (n + k) runs end) same a.1)
labelled_last (y ∷ runs) n end (suc i) r s kind a e j = (a.0, labelled_last runs (n + labels_of y.kind) end i r s kind a.1 e j)

pub labelled_more : (runs : List Run) (n end i : ℕ) (r s : Run) (kind : RunKind) → AreLabelled n runs end → slice_get runs i ≡ Some r → JoinsAs r s kind → AreLabelled n (set runs i (longer r kind)) (end + labels_of s.kind)
labelled_more runs n end i r s kind a e j =
    let none = (unlabelled kind s.kind r.at r.more s.at (kinds_alike r s kind j ∙ j.alike) j.next).1 in
    subst (AreLabelled n (set runs i (longer r kind))) (omega (arith, none)) (labelled_last runs n end i r s kind a e j)

pub labelled_own : (runs : List Run) (n end : ℕ) (s : Run) → AreLabelled n runs end → IsLabel s.kind s.at end → AreLabelled n (runs ++ s ∷ []) (end + labels_of s.kind)
labelled_own [] n end s a is = (subst (IsLabel s.kind s.at) (sym a) is, ap (λ k. k + labels_of s.kind) a)
labelled_own (y ∷ runs) n end s a is = (a.0, labelled_own runs (n + labels_of y.kind) end s a.1 is)

pub labelled_shorter : (runs : List Run) (n end i m : ℕ) (r : Run) → AreLabelled n runs end → slice_get runs i ≡ Some r → AreLabelled n (set runs i (shorter r m)) end
labelled_shorter [] n end i m r a e = let no : ⊥ = cc in absurd no
labelled_shorter (y ∷ runs) n end zero m r a e = subst (λ (z : Run). AreLabelled n (shorter z m ∷ runs) end) (same_Some y r e) a
labelled_shorter (y ∷ runs) n end (suc i) m r a e = (a.0, labelled_shorter runs (n + labels_of y.kind) end i m r a.1 e)

-- the first of some labelled runs' labels is the number that they begin with
first_here : (kind : RunKind) (at n end : ℕ) (found : Option Run) → IsLabel kind at n → (labels_of kind ≡ 0 → option_map_or (λ (r : Run). r.at) found end ≡ n + 0)
    → (r : Run) → r.at ≡ at → option_map_or (λ (z : Run). z.at) (cond (is_mark kind) (Some r) found) end ≡ n
first_here Insertions at n end found is rest r e = rest refl ∙ omega arith
first_here Deletions at n end found is rest r e = rest refl ∙ omega arith
first_here BackDeletions at n end found is rest r e = rest refl ∙ omega arith
first_here Marks at n end found is rest r e = e ∙ is

first_of : (runs : List Run) (n end : ℕ) → AreLabelled n runs end → first_label runs end ≡ n
first_of [] n end a = sym a
first_of (r ∷ runs) n end a =
    first_here r.kind r.at n end (find (λ (z : Run). is_mark z.kind) runs) a.0 (λ none. first_of runs (n + labels_of r.kind) end a.1 ∙ ap (λ k. n + k) none) r refl

pub labelled_front : (runs : List Run) (n end k : ℕ) → AreLabelled n runs end → AreLabelled n (take k runs) (first_label (drop k runs) end)
labelled_front runs n end zero a = sym (first_of runs n end a)
labelled_front [] n end (suc k) a = a
labelled_front (r ∷ runs) n end (suc k) a = (a.0, labelled_front runs (n + labels_of r.kind) end k a.1)

pub labelled_rest : (runs : List Run) (n end k : ℕ) → AreLabelled n runs end → AreLabelled (first_label (drop k runs) end) (drop k runs) end
labelled_rest runs n end zero a = subst (λ m. AreLabelled m runs end) (sym (first_of runs n end a)) a
labelled_rest [] n end (suc k) a = refl
labelled_rest (r ∷ runs) n end (suc k) a = labelled_rest runs (n + labels_of r.kind) end k a.1
