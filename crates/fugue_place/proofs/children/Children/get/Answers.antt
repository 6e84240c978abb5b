use Rattle.std.proofs.Common.{◌≡◌, ℕ, ◌<◌, ◌≤◌, ◌+◌, ◌-◌, [], List, length, get_or, slice_get, Some, sym, ap, ◌∙◌, subst, arith}
use Rattle.std.specs.List.{AllWithin}
use Rattle.std.proofs.lemmas.Option.{slice_get-get_or, get_or_from_slice_get}
use Rattle.fugue_place.specs.declared.child.Attached.{Attached}
use Rattle.fugue_place.specs.declared.children.Run.{Run}
use Rattle.fugue_place.specs.Members.{Listed, child_by, child_of, children_of, IsRun, AreRuns}
use Rattle.fugue_place.proofs.RunLaws.{length_in, IsLastTo, last_to, run_read, child_read}
use Rattle.fugue_place.proofs.children.Children.get.Goals as goal

within : (names : List (List ℕ)) (runs : List Run) (count place : ℕ) (now : Listed) → AreRuns names 0 runs count → children_of names runs ≡ now.items → place < length now.items → place < count
within names runs count place now are same lt =
    let all = length_in names runs 0 count are in
    let long = ap (length {A = Attached}) same in
    omega (arith, all, long, lt)

-- the run that was read
record IsRead (names : List (List ℕ)) (runs : List Run) (place : ℕ) (x : Run) : Type 0 where
  low : x.place ≤ place
  high : place ≤ x.place + x.heirs
  kept : IsRun names x.place x
  child : slice_get (children_of names runs) place ≡ Some (child_of names x (place - x.place))

read : (names : List (List ℕ)) (runs : List Run) (count place below : ℕ) → AreRuns names 0 runs count → IsLastTo names runs place below → (x : Run) → x ≡ get_or runs (below - 1) x → IsRead names runs place x
read names runs count place below are l x is =
    subst (IsRead names runs place) (run_read names runs place below l x is) (record { low = l.low; high = l.high; kept = l.kept; child = child_read names runs count place below are l })

read_of : (names : List (List ℕ)) (runs seen : List Run) (count place below : ℕ) (now : Listed) → AreRuns names 0 runs count → children_of names runs ≡ now.items → place < length now.items → seen ≡ runs → below ≤ length seen
    → AllWithin (λ (r : Run). r.place ≤ place) seen 0 below → AllWithin (λ (r : Run). place < r.place) seen below (length seen) → (x : Run) → x ≡ get_or runs (below - 1) x → IsRead names runs place x
read_of names runs seen count place below now are view lt same bound to behind x is =
    let low = within names runs count place now are view lt in
    read names runs count place below are (last_to names runs seen count place below are same low bound to behind) x is

pub overflow_cast-place : goal.overflow_cast-place
overflow_cast-place c =
    let lt = within c.self.inside.names.keys c.self.inside.runs.items c.self.inside.count c.args.place c.args.self.now c.self.invariant (ap (λ (l : Listed). l.items) c.self.view_is) c.requires in omega (arith, lt)

pub overflow_sub-at : goal.overflow_sub-at
overflow_sub-at c =
    let lt = within c.self.inside.names.keys c.self.inside.runs.items c.self.inside.count c.args.place c.args.self.now c.self.invariant (ap (λ (l : Listed). l.items) c.self.view_is) c.requires in
    let next = (last_to c.self.inside.names.keys c.self.inside.runs.items c.deref.result.now c.self.inside.count c.args.place c.count_to-at.result c.self.invariant c.deref.ensures.value lt c.count_to-at.ensures.bound c.count_to-at.ensures.to c.count_to-at.ensures.behind).next in
    omega (arith, next)

pub unreachable-requires : goal.unreachable-requires
unreachable-requires c =
    let r = read_of c.self.inside.names.keys c.self.inside.runs.items c.deref.result.now c.self.inside.count c.args.place c.count_to-at.result c.args.self.now c.self.invariant (ap (λ (l : Listed). l.items) c.self.view_is) c.requires c.deref.ensures.value c.count_to-at.ensures.bound c.count_to-at.ensures.to c.count_to-at.ensures.behind c.index.result.now c.index.ensures in
    let names = c.self.inside.names.keys in
    let number = c.index.result.now.agent in
    c.in_default.not-Some (get_or names number []) (c.name_of.ensures ∙ slice_get-get_or names number [] r.kept.agent)

pub overflow_sub-place : goal.overflow_sub-place
overflow_sub-place c =
    let low = (read_of c.self.inside.names.keys c.self.inside.runs.items c.deref.result.now c.self.inside.count c.args.place c.count_to-at.result c.args.self.now c.self.invariant (ap (λ (l : Listed). l.items) c.self.view_is) c.requires c.deref.ensures.value c.count_to-at.ensures.bound c.count_to-at.ensures.to c.count_to-at.ensures.behind c.index.result.now c.index.ensures).low in
    low

pub child_at-requires-clause-seqs : goal.child_at-requires-clause-seqs
child_at-requires-clause-seqs c =
    let r = read_of c.self.inside.names.keys c.self.inside.runs.items c.deref.result.now c.self.inside.count c.args.place c.count_to-at.result c.args.self.now c.self.invariant (ap (λ (l : Listed). l.items) c.self.view_is) c.requires c.deref.ensures.value c.count_to-at.ensures.bound c.count_to-at.ensures.to c.count_to-at.ensures.behind c.index.result.now c.index.ensures in
    let high = r.high in
    let fits = r.kept.seqs in
    omega (arith, high, fits)

pub child_at-requires-clause-events : goal.child_at-requires-clause-events
child_at-requires-clause-events c =
    let r = read_of c.self.inside.names.keys c.self.inside.runs.items c.deref.result.now c.self.inside.count c.args.place c.count_to-at.result c.args.self.now c.self.invariant (ap (λ (l : Listed). l.items) c.self.view_is) c.requires c.deref.ensures.value c.count_to-at.ensures.bound c.count_to-at.ensures.to c.count_to-at.ensures.behind c.index.result.now c.index.ensures in
    let high = r.high in
    let fits = r.kept.events in
    omega (arith, high, fits)

pub returns : goal.returns
returns c =
    let names = c.self.inside.names.keys in
    let run = c.index.result.now in
    let r = read_of c.self.inside.names.keys c.self.inside.runs.items c.deref.result.now c.self.inside.count c.args.place c.count_to-at.result c.args.self.now c.self.invariant (ap (λ (l : Listed). l.items) c.self.view_is) c.requires c.deref.ensures.value c.count_to-at.ensures.bound c.count_to-at.ensures.to c.count_to-at.ensures.behind c.index.result.now c.index.ensures in
    let agent : get_or names run.agent [] ≡ c.in-Some.agent = get_or_from_slice_get names run.agent c.in-Some.agent [] (sym c.name_of.ensures ∙ c.in-Some.is) in
    ap (λ (l : Listed). slice_get l.items c.args.place) (sym c.self.view_is) ∙ r.child ∙ ap (λ (name : List _). Some (child_by name run (c.args.place - run.place))) agent ∙ ap Some (sym c.child_at.ensures)
