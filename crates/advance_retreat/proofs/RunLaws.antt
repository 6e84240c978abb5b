-- Applied events in runs: which run has one, and how one comes behind or is taken back.
use Rattle.std.proofs.Common.{◌≡◌, ℕ, zero, suc, ◌+◌, ◌-◌, ◌<◌, ◌≤◌, ◌^◌, Bool, true, false, cond, Option, Some, None, List, [], ◌∷◌, ◌++◌, length, find, option_map, slice_get, slice_index_or, ⊎_elim, nat_eq, nat_lt, nat_le, refl, sym, ap, ◌∙◌, subst, arith, append_assoc, append-nil, length-append, ◌&&◌, IfSome, IfNone}
use Rattle.std.proofs.lemmas.Bool.{false≢true, false_from_ne_true, and_parts, leb-true, ltb-true, le-leb, lt-ltb, eqb-true, eq-eqb, cases_lt}
use Rattle.std.specs.Option.{option_to_list}
use Rattle.std.proofs.lemmas.Option.{same_Some, slice_get-get_or, slice_get_within, get_or_from_slice_get, IfSome_then}
use Rattle.ew_model.specs.declared.node.Node.{Node}
use Rattle.character_runs.specs.declared.change.Positions.{Positions}
use Rattle.advance_retreat.specs.declared.line.Way.{Way}
use Rattle.advance_retreat.specs.declared.run.Run.{Run}
use Rattle.advance_retreat.specs.declared.target.Target.{Target}
use Rattle.advance_retreat.specs.Kept.{target_at, AreWithin}
use Rattle.advance_retreat.specs.Runs.{node_from, events_from, events_in, HasNodes, HasEvent, AreRuns, HasAt, IsPlaceOf, Tells, TellNone, AreBelow}

-- THEIR ORDER
run_within : (rs : List Run) (low k : ℕ) (r : Run) → AreRuns low rs → slice_get rs k ≡ Some r → (low ≤ r.first) × (r.first + r.more < 2 ^ 32) × HasNodes r.way r.node r.more
run_within [] low k r are e = absurd cc
run_within (x ∷ rs) low zero r are e = subst (λ (y : Run). (low ≤ y.first) × (y.first + y.more < 2 ^ 32) × HasNodes y.way y.node y.more) (same_Some x r e) (are.0, are.1, are.2)
run_within (x ∷ rs) low (suc k) r are e =
    let ih = run_within rs (suc (x.first + x.more)) k r are.3 e in
    let from = ih.0 in
    let first = are.0 in
    (omega (arith, from, first), ih.1, ih.2)

rises : (rs : List Run) (low i j : ℕ) (r t : Run) → AreRuns low rs → i < j → slice_get rs i ≡ Some r → slice_get rs j ≡ Some t → r.first + r.more < t.first
rises [] low i j r t are l e f = absurd cc
rises (x ∷ rs) low zero zero r t are l e f = absurd (omega (arith, l))
rises (x ∷ rs) low zero (suc j) r t are l e f =
    let from = (run_within rs (suc (x.first + x.more)) j t are.3 f).0 in
    let same = ap (λ (y : Run). y.first + y.more) (same_Some x r e) in
    omega (arith, from, same)
rises (x ∷ rs) low (suc i) zero r t are l e f = absurd (omega (arith, l))
rises (x ∷ rs) low (suc i) (suc j) r t are l e f = rises rs (suc (x.first + x.more)) i j r t are.3 (omega (arith, l)) e f

pub starts_rise : (rs : List Run) (low i j : ℕ) (d : Run) → AreRuns low rs → i ≤ j → j < length rs → (slice_index_or rs i d).first ≤ (slice_index_or rs j d).first
starts_rise [] low i j d are l m = absurd (omega (arith, m))
starts_rise (x ∷ rs) low zero zero d are l m = omega arith
starts_rise (x ∷ rs) low (suc i) zero d are l m = absurd (omega (arith, l))
starts_rise (x ∷ rs) low zero (suc j) d are l m =
    let from = (run_within rs (suc (x.first + x.more)) j (slice_index_or rs j d) are.3 (slice_get-get_or rs j d (omega (arith, m)))).0 in
    omega (arith, from)
starts_rise (x ∷ rs) low (suc i) (suc j) d are l m = starts_rise rs (suc (x.first + x.more)) i j d are.3 (omega (arith, l)) (omega (arith, m))

pub runs_front : (rs ts : List Run) (low : ℕ) → AreRuns low (rs ++ ts) → AreRuns low rs
runs_front [] ts low are = tt
runs_front (x ∷ rs) ts low are = (are.0, are.1, are.2, runs_front rs ts (suc (x.first + x.more)) are.3)

pub at_last : (rs : List Run) (r : Run) → slice_get (rs ++ r ∷ []) (length rs) ≡ Some r
at_last [] r = refl
at_last (x ∷ rs) r = at_last rs r

pub fits : (rs : List Run) (r : Run) → AreRuns 0 (rs ++ r ∷ []) → r.first + r.more < 2 ^ 32
fits rs r are = (run_within (rs ++ r ∷ []) 0 (length rs) r are (at_last rs r)).1

pub below_last : (rs : List Run) (n : ℕ) (r : Run) → AreRuns 0 (rs ++ r ∷ []) → r.first + r.more < n → AreBelow n (rs ++ r ∷ [])
below_last rs n r are lt k t f =
    let high = slice_get_within (rs ++ r ∷ []) k t f in
    let long = length-append rs (r ∷ []) in
    ⊎_elim
    (λ ahead. let rise = rises (rs ++ r ∷ []) 0 k (length rs) t r are ahead f (at_last rs r) in omega (arith, rise, lt))
    (λ behind.
    let at : length rs ≡ k = omega (arith, behind, high, long) in
    let same = ap (λ (y : Run). y.first + y.more) (same_Some r t (sym (at_last rs r) ∙ ap (slice_get (rs ++ r ∷ [])) at ∙ f)) in
    omega (arith, same, lt))
    (cases_lt k (length rs))

-- THE EVENTS OF A RUN
head_other : (t : Target) (ts : List Target) (n : ℕ) → (t.lv ≡ n → ⊥) → target_at (t ∷ ts) n ≡ target_at ts n
head_other t ts n other = ap (λ (b : Bool). option_map (λ (u : Target). u.node) (cond b (Some t) (find (λ (u : Target). nat_eq u.lv n) ts))) (false_from_ne_true (nat_eq t.lv n) (λ e. other (eqb-true t.lv n e)))

head_own : (t : Target) (ts : List Target) (n : ℕ) → t.lv ≡ n → target_at (t ∷ ts) n ≡ Some t.node
head_own t ts n own = ap (λ (b : Bool). option_map (λ (u : Target). u.node) (cond b (Some t) (find (λ (u : Target). nat_eq u.lv n) ts))) (eq-eqb t.lv n own)

run_past : (way : Way) (v : Node) (lv steps count : ℕ) (ts : List Target) (n : ℕ) → (lv + steps ≤ n → n < lv + steps + count → ⊥) → target_at (events_from way v lv steps count ++ ts) n ≡ target_at ts n
run_past way v lv steps zero ts n none = refl
run_past way v lv steps (suc count) ts n none =
    head_other (record { lv = lv + steps; node = node_from way v steps }) (events_from way v lv (steps + 1) count ++ ts) n (λ e. none (omega (arith, e)) (omega (arith, e)))
    ∙ run_past way v lv (steps + 1) count ts n (λ low high. none (omega (arith, low)) (omega (arith, high)))

run_has : (way : Way) (v : Node) (lv steps count : ℕ) (ts : List Target) (n : ℕ) → lv + steps ≤ n → n < lv + steps + count → target_at (events_from way v lv steps count ++ ts) n ≡ Some (node_from way v (n - lv))
run_has way v lv steps zero ts n low high = absurd (omega (arith, low, high))
run_has way v lv steps (suc count) ts n low high = at (λ from to. run_has way v lv (steps + 1) count ts n from to) (nat_eq (lv + steps) n) refl
  where
    at : (lv + (steps + 1) ≤ n → n < lv + (steps + 1) + count → target_at (events_from way v lv (steps + 1) count ++ ts) n ≡ Some (node_from way v (n - lv)))
        → (b : Bool) → nat_eq (lv + steps) n ≡ b → target_at (events_from way v lv steps (suc count) ++ ts) n ≡ Some (node_from way v (n - lv))
    at rest true e =
        let own = eqb-true (lv + steps) n e in
        let same : steps ≡ n - lv = omega (arith, own) in
        head_own (record { lv = lv + steps; node = node_from way v steps }) (events_from way v lv (steps + 1) count ++ ts) n own ∙ ap (λ (k : ℕ). Some (node_from way v k)) same
    at rest false e =
        let other : lv + steps ≡ n → ⊥ = λ own. false≢true (sym e ∙ eq-eqb (lv + steps) n own) in
        head_other (record { lv = lv + steps; node = node_from way v steps }) (events_from way v lv (steps + 1) count ++ ts) n other
        ∙ rest (omega (arith, other, low)) (omega (arith, high))

-- WHICH ONE HAS A POSITION
found_at : (rs : List Run) (low k n : ℕ) (r : Run) (ts : List Target) → AreRuns low rs → slice_get rs k ≡ Some r → r.first ≤ n → n - r.first ≤ r.more → target_at (events_in rs ++ ts) n ≡ Some (node_from r.way r.node (n - r.first))
found_at [] low k n r ts are e l h = absurd cc
found_at (x ∷ rs) low zero n r ts are e l h =
    let same = same_Some x r e in
    let first = ap (λ (y : Run). y.first) same in
    let more = ap (λ (y : Run). y.more) same in
    ap (λ (us : List Target). target_at us n) (append_assoc (events_from x.way x.node x.first 0 (suc x.more)) (events_in rs) ts)
    ∙ run_has x.way x.node x.first 0 (suc x.more) (events_in rs ++ ts) n (omega (arith, first, l)) (omega (arith, first, more, l, h))
    ∙ ap (λ (y : Run). Some (node_from y.way y.node (n - y.first))) same
found_at (x ∷ rs) low (suc k) n r ts are e l h =
    let from = (run_within rs (suc (x.first + x.more)) k r are.3 e).0 in
    ap (λ (us : List Target). target_at us n) (append_assoc (events_from x.way x.node x.first 0 (suc x.more)) (events_in rs) ts)
    ∙ run_past x.way x.node x.first 0 (suc x.more) (events_in rs ++ ts) n (λ low high. absurd (omega (arith, from, l, high)))
    ∙ found_at rs (suc (x.first + x.more)) k n r ts are.3 e l h

none_held : (rs : List Run) (n : ℕ) (ts : List Target) → ((k : ℕ) (r : Run) → slice_get rs k ≡ Some r → r.first ≤ n → n ≤ r.first + r.more → ⊥) → target_at (events_in rs ++ ts) n ≡ target_at ts n
none_held [] n ts none = refl
none_held (x ∷ rs) n ts none =
    ap (λ (us : List Target). target_at us n) (append_assoc (events_from x.way x.node x.first 0 (suc x.more)) (events_in rs) ts)
    ∙ run_past x.way x.node x.first 0 (suc x.more) (events_in rs ++ ts) n (λ low high. none 0 x refl (omega (arith, low)) (omega (arith, high)))
    ∙ none_held rs n ts (λ k r e. none (suc k) r e)

below_none : (rs : List Run) (n : ℕ) → AreBelow n rs → TellNone rs n
below_none rs n below ts = none_held rs n ts (λ k r e low high. let lt = below k r e in absurd (omega (arith, lt, high)))

pub tells : (rs : List Run) (n k : ℕ) (r : Run) → AreRuns 0 rs → slice_get rs k ≡ Some r → HasEvent r n → Tells rs n r
tells rs n k r are there held = record {
  held = held;
  nodes = (run_within rs 0 k r are there).2;
  has = λ later m own. found_at rs 0 k m r later are there own.0 own.1;
}

-- WHERE THAT ONE STANDS
-- none behind one that has it has it too
none_behind : (rs : List Run) (n i j : ℕ) → AreRuns 0 rs → HasAt rs i n → HasAt rs j n → i < j → ⊥
none_behind rs n i j are (r, e, held) (t, f, own) less =
    let rise = rises rs 0 i j r t are less e f in
    let high = held.1 in
    let low = own.0 in
    omega (arith, rise, high, low)

pub place_of : (rs : List Run) (n place : ℕ) → AreRuns 0 rs → HasAt rs place n → IsPlaceOf rs place n
place_of rs n place are has k other =
    let not_before = none_behind rs n k place are other has in
    let not_behind = none_behind rs n place k are has other in
    omega (arith, not_before, not_behind)

-- the last of the runs that begin up to the position
pub place_behind : (rs : List Run) (n b : ℕ) → AreRuns 0 rs → b ≤ length rs → ((k : ℕ) (d : Run) → 0 ≤ k → k < b → (slice_index_or rs k d).first ≤ n) → ((k : ℕ) (d : Run) → b ≤ k → k < length rs → n < (slice_index_or rs k d).first)
    → IsPlaceOf rs (b - 1) n
place_behind rs n b are bound to behind k (r, e, held) =
    let low = held.0 in
    let high = held.1 in
    let read = ap (λ (x : Run). x.first) (get_or_from_slice_get rs k r r e) in
    let not_behind : b ≤ k → ⊥ = λ le. let far = behind k r le (slice_get_within rs k r e) in omega (arith, far, read, low) in
    let not_before : k < b - 1 → ⊥ = λ before.
    let rise = rises rs 0 k (b - 1) r (slice_index_or rs (b - 1) r) are before e (slice_get-get_or rs (b - 1) r (omega (arith, before, bound))) in
    let begun = to (b - 1) r (omega arith) (omega (arith, before)) in
    omega (arith, rise, begun, low, high)
    in
    omega (arith, not_behind, not_before)

-- no run at that place has it
pub none_at : (rs : List Run) (n place : ℕ) → IsPlaceOf rs place n → (HasAt rs place n → ⊥) → TellNone rs n
none_at rs n place of none ts = none_held rs n ts (λ k r e low high.
    let held : HasEvent r n = (low, omega (arith, low, high)) in
    none (r, sym (ap (slice_get rs) (of k (r, e, held))) ∙ e, held))

-- the one that stands there doesn't have it
pub not_at : (rs : List Run) (n place : ℕ) (r : Run) → slice_get rs place ≡ Some r → (HasEvent r n → ⊥) → HasAt rs place n → ⊥
not_at rs n place r there none (t, e, held) = none (subst (λ (x : Run). HasEvent x n) (same_Some t r (sym e ∙ there)) held)

pub none_of : (rs : List Run) (n place : ℕ) (r : Run) (o : Option Run) → IsPlaceOf rs place n → slice_get rs place ≡ Some r → IfNone o (HasEvent r n → ⊥) → IfNone o (TellNone rs n)
none_of rs n place r None of there none = none_at rs n place of (not_at rs n place r there none)
none_of rs n place r (Some t) of there none = tt

pub some_of : (rs : List Run) (n place : ℕ) (r : Run) (o : Option Run) → AreRuns 0 rs → slice_get rs place ≡ Some r → IfSome o (λ t. (t ≡ r) × HasEvent r n) → IfSome o (Tells rs n)
some_of rs n place r o are there held = IfSome_then o held (λ t h. subst (Tells rs n) (sym h.0) (tells rs n place r are there h.1))

-- THE LAST ONE APART
pub events_join : (rs us : List Run) → events_in (rs ++ us) ≡ events_in rs ++ events_in us
events_join [] us = refl
events_join (x ∷ rs) us =
    ap (λ (ts : List Target). events_from x.way x.node x.first 0 (suc x.more) ++ ts) (events_join rs us)
    ∙ sym (append_assoc (events_from x.way x.node x.first 0 (suc x.more)) (events_in rs) (events_in us))

joined : (rs us : List Run) (ts : List Target) → events_in (rs ++ us) ++ ts ≡ events_in rs ++ (events_in us ++ ts)
joined rs us ts = ap (λ (es : List Target). es ++ ts) (events_join rs us) ∙ append_assoc (events_in rs) (events_in us) ts

-- all of them, where the last one is known
ending : (rs : List Run) (last : Option Run) (r : Run) → last ≡ Some r → rs ++ r ∷ [] ≡ rs ++ option_to_list last
ending rs last r is = ap (λ (o : Option Run). rs ++ option_to_list o) (sym is)

pub last_some : (rs all : List Run) (n : ℕ) (last : Option Run) (r : Run) (o : Option Run) → last ≡ Some r → rs ++ option_to_list last ≡ all → AreRuns 0 (rs ++ option_to_list last) → IfSome o (λ t. (t ≡ r) × HasEvent r n) → IfSome o (Tells all n)
last_some rs all n last r o is join are held =
    let own = ending rs last r is in
    subst (λ (us : List Run). IfSome o (Tells us n)) (own ∙ join) (some_of (rs ++ r ∷ []) n (length rs) r o (subst (AreRuns 0) (sym own) are) (at_last rs r) held)

none_last : (rs : List Run) (n : ℕ) (r : Run) (o : Option Run) → AreRuns 0 (rs ++ r ∷ []) → r.first ≤ n → IfNone o (HasEvent r n → ⊥) → IfNone o (TellNone (rs ++ r ∷ []) n)
none_last rs n r None are low none =
    let past : n - r.first ≤ r.more → ⊥ = λ high. none (low, high) in
    below_none (rs ++ r ∷ []) n (below_last rs n r are (omega (arith, low, past)))
none_last rs n r (Some t) are low none = tt

pub last_none : (rs all : List Run) (n : ℕ) (last : Option Run) (r : Run) (o : Option Run) → last ≡ Some r → rs ++ option_to_list last ≡ all → AreRuns 0 (rs ++ option_to_list last) → r.first ≤ n → IfNone o (HasEvent r n → ⊥) → IfNone o (TellNone all n)
last_none rs all n last r o is join are low none =
    let own = ending rs last r is in
    subst (λ (us : List Run). IfNone o (TellNone us n)) (own ∙ join) (none_last rs n r o (subst (AreRuns 0) (sym own) are) low none)

before_tells : (rs us : List Run) (n : ℕ) (t : Run) → Tells rs n t → Tells (rs ++ us) n t
before_tells rs us n t told = record {
  held = told.held;
  nodes = told.nodes;
  has = λ later m own. ap (λ (ts : List Target). target_at ts m) (joined rs us later) ∙ told.has (events_in us ++ later) m own;
}

pub front_some : (rs us all : List Run) (n : ℕ) (o : Option Run) → rs ++ us ≡ all → IfSome o (Tells rs n) → IfSome o (Tells all n)
front_some rs us all n o join told = IfSome_then o told (λ t h. subst (λ (ws : List Run). Tells ws n t) join (before_tells rs us n t h))

first_of_one : (r t : Run) (k : ℕ) → slice_get (r ∷ []) k ≡ Some t → r.first ≡ t.first
first_of_one r t zero e = ap (λ (y : Run). y.first) (same_Some r t e)
first_of_one r t (suc k) e = absurd cc

before_none : (rs : List Run) (n : ℕ) (r : Run) → n < r.first → TellNone rs n → TellNone (rs ++ r ∷ []) n
before_none rs n r lt none later =
    ap (λ (ts : List Target). target_at ts n) (joined rs (r ∷ []) later) ∙ none (events_in (r ∷ []) ++ later)
    ∙ none_held (r ∷ []) n later (λ k t e low high. let same = first_of_one r t k e in absurd (omega (arith, same, low, lt)))

pub front_none : (rs all : List Run) (n : ℕ) (last : Option Run) (r : Run) (o : Option Run) → last ≡ Some r → rs ++ option_to_list last ≡ all → n < r.first → IfNone o (TellNone rs n) → IfNone o (TellNone all n)
front_none rs all n last r None is join lt none = subst (λ (us : List Run). TellNone us n) (ending rs last r is ∙ join) (before_none rs n r lt none)
front_none rs all n last r (Some t) is join lt none = tt

-- HOW MANY
length_run : (way : Way) (v : Node) (lv steps count : ℕ) → length (events_from way v lv steps count) ≡ count
length_run way v lv steps zero = refl
length_run way v lv steps (suc count) = ap suc (length_run way v lv (steps + 1) count)

few_events : (rs : List Run) (low : ℕ) → AreRuns low rs → low ≤ 2 ^ 32 → low + length (events_in rs) ≤ 2 ^ 32
few_events [] low are le = omega (arith, le)
few_events (r ∷ rs) low are le =
    let first = are.0 in
    let fits = are.1 in
    let rest = few_events rs (suc (r.first + r.more)) are.3 (omega (arith, fits)) in
    let all = length-append (events_from r.way r.node r.first 0 (suc r.more)) (events_in rs) in
    let own = length_run r.way r.node r.first 0 (suc r.more) in
    omega (arith, first, rest, all, own)

pub few : (rs : List Run) → AreRuns 0 rs → length (events_in rs) ≤ 2 ^ 32
few rs are = let all = few_events rs 0 are (omega arith) in omega (arith, all)

-- WITHIN SOME POSITIONS
some_none : (v : Node) → None ≡ Some v → ⊥
some_none v e = cc

pub runs_within : (rs : List Run) (at : Positions) → AreRuns at.from rs → AreBelow at.to rs → AreWithin at (target_at (events_in rs))
runs_within rs at are below n v e = by (nat_le at.from n && nat_lt n at.to) refl
  where
    told : ((k : ℕ) (r : Run) → slice_get rs k ≡ Some r → r.first ≤ n → n ≤ r.first + r.more → ⊥) → ⊥
    told none = some_none v (sym (none_held rs n [] none) ∙ ap (λ (ts : List Target). target_at ts n) (append-nil (events_in rs)) ∙ e)

    by : (b : Bool) → (nat_le at.from n && nat_lt n at.to) ≡ b → (at.from ≤ n) × (n < at.to)
    by true t = let parts = and_parts (nat_le at.from n) (nat_lt n at.to) t in (leb-true at.from n parts.0, ltb-true n at.to parts.1)
    by false t = absurd (told (λ k r f low high.
        let from = (run_within rs at.from k r are f).0 in
        let to = below k r f in
        false≢true (sym t ∙ (λ i. le-leb at.from n (omega (arith, from, low)) i && lt-ltb n at.to (omega (arith, to, high)) i))))

-- THE LIST OF ALL
pub untold_later : (ts us : List Target) (n : ℕ) → target_at (ts ++ us) n ≡ None → target_at us n ≡ None
untold_later [] us n e = e
untold_later (t ∷ ts) us n e = by (λ later. untold_later ts us n later) (nat_eq t.lv n) refl
  where
    by : (target_at (ts ++ us) n ≡ None → target_at us n ≡ None) → (b : Bool) → nat_eq t.lv n ≡ b → target_at us n ≡ None
    by rest true own = absurd (some_none t.node (sym (sym (head_own t (ts ++ us) n (eqb-true t.lv n own)) ∙ e)))
    by rest false other = rest (sym (head_other t (ts ++ us) n (λ own. false≢true (sym other ∙ eq-eqb t.lv n own))) ∙ e)
