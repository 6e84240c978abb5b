use Rattle.std.proofs.Common.{◌≡◌, ◌∙◌, ◌+◌, ◌++◌, ◌∷◌, [], ℕ, List, length, sym, ap, subst, arith}
use Rattle.ew_model.specs.Positions.{AreParents}
use Rattle.event_runs.specs.declared.runs.Run.{Run}
use Rattle.event_runs.specs.BareEvents.{BareEvent, bare}
use Rattle.event_runs.specs.KeptRuns.{op_chars, op_labels, run_of_one, events_in, GrowBy}
use Rattle.event_runs.proofs.Found.{told_by}
use Rattle.event_runs.proofs.RunEvents.{length-events_in, runs_end, chars_within, labels_end}
use Rattle.event_runs.proofs.Kept.{StaysKept, one_start, one_of, kept_grown}
use Rattle.event_runs.proofs.storage.EventRuns.append_ref.Goals.{After-self-1}
use Rattle.event_runs.proofs.storage.EventRuns.append_ref.Goals as goal

pub overflow_add-self-inside : goal.overflow_add-self-inside
overflow_add-self-inside c =
    let all = length-events_in (told_by c.self.inside.chars.items c.self.inside.labels.items) c.self.inside.runs.items c.self.inside.parents 0 0 c.self.inside.count (length c.self.inside.chars.items) c.self.invariant.in_line in
    let long = ap (length {A = BareEvent}) c.self.view_is in
    omega (arith, all, long, c.requires.room)

pub set_count-requires : goal.set_count-requires
set_count-requires c =
    let few = runs_end c.self.inside.runs.items c.self.inside.parents 0 0 c.self.inside.count (length c.self.inside.chars.items) c.self.invariant.in_line in
    omega (arith, few, c.len.ensures, c.self.inside.runs.ok.0, c.self.ranges)

pub overflow_cast-len : goal.overflow_cast-len
overflow_cast-len c =
    let few = chars_within c.self.inside.runs.items c.self.inside.parents 0 0 c.self.inside.count (length c.self.inside.chars.items) c.self.invariant.in_line (omega arith) in
    let same = ap (length {A = ℕ}) c.reserve_for.ensures.chars in
    omega (arith, few, same, c.len-2.ensures, c.reserve_for.new.chars.ok.0, c.self.ranges)

pub overflow_cast-len-2 : goal.overflow_cast-len-2
overflow_cast-len-2 c =
    let few = runs_end c.self.inside.runs.items c.self.inside.parents 0 0 c.self.inside.count (length c.self.inside.chars.items) c.self.invariant.in_line in
    let labels = (labels_end c.self.inside.runs.items 0 (length c.self.inside.labels.items) c.self.invariant.labelled).1 in
    let same = ap (length {A = List ℕ}) c.reserve_for.ensures.labels in
    omega (arith, few, labels, same, c.len-3.ensures, c.reserve_for.new.labels.ok.0, c.self.ranges)

pub put-requires-clause-room : goal.put-requires-clause-room
put-requires-clause-room c =
    let all = length-events_in (told_by c.self.inside.chars.items c.self.inside.labels.items) c.self.inside.runs.items c.self.inside.parents 0 0 c.self.inside.count (length c.self.inside.chars.items) c.self.invariant.in_line in
    let long = ap (length {A = BareEvent}) c.self.view_is in
    let at = ap (λ (r : Run). r.start) c.of_one-one.ensures ∙ one_start c.self.inside.count c.args.op.now c.len-2.result c.len-3.result in
    omega (arith, all, long, at, c.requires.room)

pub overflow_add-self : goal.overflow_add-self
overflow_add-self c =
    let all = length-events_in (told_by c.self.inside.chars.items c.self.inside.labels.items) c.self.inside.runs.items c.self.inside.parents 0 0 c.self.inside.count (length c.self.inside.chars.items) c.self.invariant.in_line in
    let long = ap (length {A = BareEvent}) c.self.view_is in
    omega (arith, all, long, c.requires.room)

made : (c : After-self-1) → StaysKept (told_by c.put_reserved.new.chars.items c.put_reserved.new.labels.items) c.put.new.runs.items c.put.new.lists (c.self.inside.count + 1) (c.args.self.now ++ bare c.args.op.now c.args.parents.now ∷ [])
made c =
    let told = told_by c.self.inside.chars.items c.self.inside.labels.items in
    let runs = c.self.inside.runs.items in
    let lists = c.self.inside.parents in
    let count = c.self.inside.count in
    let all = length-events_in told runs lists 0 0 count (length told.chars) c.self.invariant.in_line in
    let long = ap (length {A = BareEvent}) c.self.view_is in
    let many : length c.args.self.now ≡ count = omega (arith, all, long) in
    let same = ap (length {A = ℕ}) c.reserve_for.ensures.chars in
    let same_labels = ap (length {A = List ℕ}) c.reserve_for.ensures.labels in
    let here : c.len-2.result ≡ length told.chars = omega (arith, same, c.len-2.ensures, c.reserve_for.new.chars.ok.0) in
    let there : c.len-3.result ≡ length told.labels = omega (arith, same_labels, c.len-3.ensures, c.reserve_for.new.labels.ok.0) in
    let one : c.of_one-one.result ≡ one_of count c.args.op.now told = c.of_one-one.ensures ∙ (λ i. run_of_one count c.args.op.now (here i) (there i)) in
    let grown = subst (λ (r : Run). GrowBy runs c.put.new.runs.items lists c.put.new.lists r c.args.parents.now) one c.in_ok-put.ensures.ok in
    let more : told.chars ++ op_chars c.args.op.now ≡ c.put_reserved.new.chars.items = ap (λ (xs : List ℕ). xs ++ op_chars c.args.op.now) (sym c.reserve_for.ensures.chars) ∙ sym c.put_reserved.ensures.chars in
    let labels : told.labels ++ op_labels c.args.op.now ≡ c.put_reserved.new.labels.items = ap (λ (xs : List (List ℕ)). xs ++ op_labels c.args.op.now) (sym c.reserve_for.ensures.labels) ∙ sym c.put_reserved.ensures.labels in
    let kept = kept_grown told runs c.put.new.runs.items lists c.put.new.lists count c.args.op.now c.args.parents.now c.self.invariant (subst (λ n. AreParents n c.args.parents.now) many c.requires.parents) grown in
    subst (λ (es : List BareEvent). StaysKept (told_by c.put_reserved.new.chars.items c.put_reserved.new.labels.items) c.put.new.runs.items c.put.new.lists (count + 1) (es ++ bare c.args.op.now c.args.parents.now ∷ [])) c.self.view_is
    (subst (λ (xs : List ℕ). StaysKept (told_by xs c.put_reserved.new.labels.items) c.put.new.runs.items c.put.new.lists (count + 1) (events_in told runs lists ++ bare c.args.op.now c.args.parents.now ∷ [])) more
    (subst (λ (ls : List (List ℕ)). StaysKept (told_by (told.chars ++ op_chars c.args.op.now) ls) c.put.new.runs.items c.put.new.lists (count + 1) (events_in told runs lists ++ bare c.args.op.now c.args.parents.now ∷ [])) labels kept))

pub invariant_of-self-2 : goal.invariant_of-self-2
invariant_of-self-2 c = (made c).kept

pub returns-clause-ok : goal.returns-clause-ok
returns-clause-ok c = (made c).events_are
