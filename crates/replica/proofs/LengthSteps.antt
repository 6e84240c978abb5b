-- The lengths that operations lead through, one operation after another.
use Rattle.std.proofs.Common.{◌≡◌, ℕ, zero, suc, ◌+◌, ◌-◌, ◌<◌, ◌≤◌, ◌^◌, List, [], ◌∷◌, ◌++◌, map, length, take, drop, get_or, refl, sym, ap, subst, ◌∙◌, append_assoc, append-nil, arith}
use Rattle.std.specs.List.{range_with_len}
use Rattle.std.proofs.Math.Seq.{take-append_seam}
use Rattle.std.proofs.lemmas.List.{drop_more, drop_all}
use Rattle.std.proofs.lemmas.List.Edits.{length-insert, length-remove}
use Rattle.ew_model.specs.declared.text_op.TextOp.{TextOp}
use Rattle.ew_model.specs.declared.text_op.TextOp.TheVariants.{Ins, Del, Nothing}
use Rattle.ew_model.specs.Operations.{changed_by, changed_by_all}
use Rattle.ew_model.specs.TextLaws.{Fits, AllFit}
use Rattle.operation_runs.specs.Runs.{insertions, deletions, back_deletions, nothings}
use Rattle.rope.specs.Lengths.{AllStayShort}
use Rattle.rope.proofs.RunChanges.{fit_front, short_front, change_both}
use Rattle.replica.specs.declared.length_runs.Course.{Course}
use Rattle.replica.specs.declared.length_runs.Course.TheVariants.{Rises, Falls, Stays}
use Rattle.replica.specs.LengthRuns.{course_of, course_length, course_lengths, CourseFits, AllTake}
use Rattle.replica.specs.Lengths.{lengths_through}
use Rattle.replica.proofs.LengthRunLaws.{fits_both, length_further}
use Rattle.replica.proofs.RoundTexts.{through_joined}

-- With the lengths so far, and those that the operations left lead through from a text of this length on, all are there; and the
-- operations end at this text.
pub record IsOnTheWay (len : ℕ) (lengths : List ℕ) (left : List TextOp) (all : List ℕ) (end : List ℕ) : Type 0 where
  pub now : List ℕ
  pub long : length now ≡ len
  pub fit : AllFit now left
  pub short : AllStayShort now left
  pub rest : lengths ++ lengths_through now left ≡ all
  pub ends : changed_by_all left now ≡ end

-- the next operation
pub at_next : (len : ℕ) (lengths all end : List ℕ) (ops : List TextOp) (i : ℕ) (d : TextOp) → i < length ops → IsOnTheWay len lengths (drop i ops) all end → IsOnTheWay len lengths (get_or ops i d ∷ drop (i + 1) ops) all end
at_next len lengths all end ops i d within h = subst (λ (left : List TextOp). IsOnTheWay len lengths left all end) (drop_more ops i d within) h

-- it fits, and the text isn't too long for it
next_fits : (len : ℕ) (lengths all end : List ℕ) (op : TextOp) (left : List TextOp) → IsOnTheWay len lengths (op ∷ left) all end → Fits len op × (len + 1 < 2 ^ 32)
next_fits len lengths all end op left h = (subst (λ n. Fits n op) h.long h.fit.0, omega (arith, h.short.0, h.long))

one_further : (len next : ℕ) (lengths all end : List ℕ) (op : TextOp) (left : List TextOp) → IsOnTheWay len lengths (op ∷ left) all end → ((text : List ℕ) → length text ≡ len → next ≡ length (changed_by op text))
    → IsOnTheWay next (lengths ++ next ∷ []) left all end
one_further len next lengths all end op left h is =
    let long : next ≡ length (changed_by op h.now) = is h.now h.long in
    record {
      now = changed_by op h.now;
      long = sym long;
      fit = h.fit.1;
      short = h.short.1;
      rest = append_assoc lengths (next ∷ []) (lengths_through (changed_by op h.now) left) ∙ (ap (λ n. lengths ++ n ∷ lengths_through (changed_by op h.now) left) long ∙ h.rest);
      ends = h.ends;
    }

-- no operation is left
pub at_end : (len : ℕ) (lengths all end : List ℕ) (ops : List TextOp) (i : ℕ) → length ops ≤ i → IsOnTheWay len lengths (drop i ops) all end → (lengths ≡ all) × (len ≡ length end)
at_end len lengths all end ops i over h =
    let none : IsOnTheWay len lengths [] all end = subst (λ (left : List TextOp). IsOnTheWay len lengths left all end) (drop_all i ops over) h in
    (sym (append-nil lengths) ∙ none.rest, sym none.long ∙ ap length none.ends)

-- the lengths go on as they began
pub same_front : (begun lengths more : List ℕ) → lengths ≡ begun ++ more → take (length begun) lengths ≡ begun
same_front begun lengths more e = ap (take (length begun)) e ∙ take-append_seam begun more

-- how long a text is after one operation
length_inserted : (text : List ℕ) (len at ch : ℕ) → at ≤ len → length text ≡ len → len + 1 ≡ length (changed_by (Ins at ch) text)
length_inserted text len at ch fits long = let more = length-insert text at ch (omega (arith, fits, long)) in omega (arith, more, long)

length_removed : (text : List ℕ) (len at : ℕ) → at < len → length text ≡ len → len - 1 ≡ length (changed_by (Del at) text)
length_removed text len at fits long = let less = length-remove text at (omega (arith, fits, long)) in omega (arith, less, long)

-- so it is by the course that it takes
course_step : (op : TextOp) (course : Course) (text : List ℕ) (len : ℕ) → course_of op ≡ course → length text ≡ len → Fits len op → course_length course len 1 ≡ length (changed_by op text)
course_step (Ins at ch) course text len takes long fits = ap (λ (c : Course). course_length c len 1) (sym takes) ∙ length_inserted text len at ch fits long
course_step (Del at) course text len takes long fits = ap (λ (c : Course). course_length c len 1) (sym takes) ∙ length_removed text len at fits long
course_step Nothing course text len takes long fits = ap (λ (c : Course). course_length c len 1) (sym takes) ∙ sym long

course_fits : (op : TextOp) (course : Course) (len : ℕ) → course_of op ≡ course → Fits len op → len + 1 < 2 ^ 32 → CourseFits course len 1
course_fits (Ins at ch) course len takes fits room = subst (λ (c : Course). CourseFits c len 1) takes room
course_fits (Del at) course len takes fits room = subst (λ (c : Course). CourseFits c len 1) takes (omega (arith, fits))
course_fits Nothing course len takes fits room = subst (λ (c : Course). CourseFits c len 1) takes tt

-- the next operation, by its course
pub next_fits_course : (len : ℕ) (lengths all end : List ℕ) (op : TextOp) (left : List TextOp) (course : Course) → course_of op ≡ course → IsOnTheWay len lengths (op ∷ left) all end → CourseFits course len 1
next_fits_course len lengths all end op left course takes h = let fits = next_fits len lengths all end op left h in course_fits op course len takes fits.0 fits.1

pub course_further : (len : ℕ) (lengths all end : List ℕ) (op : TextOp) (left : List TextOp) (course : Course) → course_of op ≡ course → IsOnTheWay len lengths (op ∷ left) all end
    → IsOnTheWay (course_length course len 1) (lengths ++ course_lengths course len 1) left all end
course_further len lengths all end op left course takes h =
    let fits = next_fits len lengths all end op left h in
    one_further len (course_length course len 1) lengths all end op left h (λ text long. course_step op course text len takes long fits.0)

-- operations of one course
pub record IsThrough (text : List ℕ) (ops : List TextOp) (course : Course) (before from n : ℕ) : Type 0 where
  pub lengths : lengths_through text ops ≡ map (course_length course before) (range_with_len (from + 1) n)
  pub long : length (changed_by_all ops text) ≡ course_length course before (from + n)
  pub fits : CourseFits course before (from + n)

through_from : (ops : List TextOp) (text : List ℕ) (course : Course) (before from : ℕ) → AllTake course ops → length text ≡ course_length course before from → CourseFits course before from → AllFit text ops → AllStayShort text ops → IsThrough text ops course before from (length ops)
through_from [] text course before from take long fits fit short =
    let e : from ≡ from + 0 = omega arith in
    record { lengths = refl; long = long ∙ ap (course_length course before) e; fits = subst (CourseFits course before) e fits }
through_from (op ∷ ops) text course before from take long fits fit short =
    let len = length text in
    let low = short.0 in
    let step = course_step op course text len take.0 refl fit.0 in
    let one = course_fits op course len take.0 fit.0 (omega (arith, low)) in
    let more : length (changed_by op text) ≡ course_length course before (from + 1) = sym step ∙ ap (λ n. course_length course n 1) long ∙ sym (length_further course before from 1) in
    let ih = through_from ops (changed_by op text) course before (from + 1) take.1 more (fits_both course before from 1 fits (subst (λ n. CourseFits course n 1) long one)) fit.1 short.1 in
    let e : from + 1 + length ops ≡ from + suc (length ops) = omega arith in
    record {
      lengths = λ i. more i ∷ ih.lengths i;
      long = ih.long ∙ ap (course_length course before) e;
      fits = subst (CourseFits course before) e ih.fits;
    }

pub record AreOfCourse (text : List ℕ) (ops : List TextOp) (course : Course) (len n : ℕ) : Type 0 where
  pub lengths : lengths_through text ops ≡ course_lengths course len n
  pub long : length (changed_by_all ops text) ≡ course_length course len n
  pub fits : CourseFits course len n

no_operation : (course : Course) (len : ℕ) → len < 2 ^ 32 → (course_length course len 0 ≡ len) × CourseFits course len 0
no_operation Rises len low = (omega arith, omega (arith, low))
no_operation Falls len low = (omega arith, omega arith)
no_operation Stays len low = (refl, tt)

-- the text before them is short
first_short : (ops : List TextOp) (text : List ℕ) → AllStayShort text ops → length text < 2 ^ 32
first_short [] text short = omega (arith, short)
first_short (op ∷ ops) text short = let low = short.0 in omega (arith, low)

pub through : (ops : List TextOp) (text : List ℕ) (course : Course) (len n : ℕ) → AllTake course ops → length text ≡ len → n ≡ length ops → AllFit text ops → AllStayShort text ops → AreOfCourse text ops course len n
through ops text course len n take long many fit short =
    let short_first = first_short ops text short in
    let none = no_operation course len (omega (arith, short_first, long)) in
    let t = through_from ops text course len 0 take (long ∙ sym none.0) none.1 fit short in
    let e : 0 + length ops ≡ n = omega (arith, many) in
    record {
      lengths = t.lengths ∙ ap (course_lengths course len) (sym many);
      long = t.long ∙ ap (course_length course len) e;
      fits = subst (CourseFits course len) e t.fits;
    }

-- the operations of a run
pub insertions_take : (at : ℕ) (chars : List ℕ) → AllTake Rises (insertions at chars)
insertions_take at [] = tt
insertions_take at (ch ∷ chars) = (refl, insertions_take (at + 1) chars)

pub deletions_take : (at n : ℕ) → AllTake Falls (deletions at n)
deletions_take at zero = tt
deletions_take at (suc n) = (refl, deletions_take at n)

pub back_take : (at n : ℕ) → AllTake Falls (back_deletions at n)
back_take at zero = tt
back_take at (suc n) = (refl, back_take (at - 1) n)

pub nothings_take : (n : ℕ) → AllTake Stays (nothings n)
nothings_take zero = tt
nothings_take (suc n) = (refl, nothings_take n)

-- a run of operations, of which nothing was done yet
pub run_begins : (len : ℕ) (lengths : List ℕ) (ops : List TextOp) (text : List ℕ) → length text ≡ len → AllFit text ops → AllStayShort text ops → IsOnTheWay len lengths ops (lengths ++ lengths_through text ops) (changed_by_all ops text)
run_begins len lengths ops text long fit short = record { now = text; long = long; fit = fit; short = short; rest = refl; ends = refl }

-- a whole run further
pub run_further : (len next : ℕ) (lengths more all end : List ℕ) (ops left : List TextOp) (h : IsOnTheWay len lengths (ops ++ left) all end) → next ≡ length (changed_by_all ops h.now) → more ≡ lengths ++ lengths_through h.now ops → IsOnTheWay next more left all end
run_further len next lengths more all end ops left h long are = record {
  now = changed_by_all ops h.now;
  long = sym long;
  fit = (fit_front ops left h.now h.fit).1;
  short = (short_front ops left h.now h.short).1;
  rest = ap (λ ls. ls ++ lengths_through (changed_by_all ops h.now) left) are ∙ append_assoc lengths (lengths_through h.now ops) (lengths_through (changed_by_all ops h.now) left) ∙ ap (λ ls. lengths ++ ls) (sym (through_joined ops left h.now)) ∙ h.rest;
  ends = sym (change_both ops left h.now) ∙ h.ends;
}

-- nothing is left of them
pub none_left : (len : ℕ) (lengths all end : List ℕ) (left : List TextOp) → left ≡ [] → IsOnTheWay len lengths left all end → (lengths ≡ all) × (len ≡ length end)
none_left len lengths all end left none h =
    let last : IsOnTheWay len lengths [] all end = subst (λ (ops : List TextOp). IsOnTheWay len lengths ops all end) none h in
    (sym (append-nil lengths) ∙ last.rest, sym last.long ∙ ap length last.ends)
