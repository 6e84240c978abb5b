use Rattle.std.proofs.Common.{◌≡◌, ◌∙◌, ◌+◌, ◌-◌, ◌<◌, ◌^◌, ◌++◌, ◌∷◌, [], List, ℕ, true, length, slice_get, Some, sym, ap, subst, arith}
use Rattle.std.proofs.lemmas.Option.{get_or_from_slice_get}
use Rattle.ew_model.specs.declared.node.Node.TheVariants.{Event}
use Rattle.fugue_place.specs.declared.child.Attached.{Attached}
use Rattle.fugue_place.specs.declared.children.Run.{Run}
use Rattle.fugue_place.specs.Heirs.{is_heir}
use Rattle.fugue_place.specs.Members.{Listed, children_of, AreRuns, IsLastRun, GoesOn, with_heirs}
use Rattle.fugue_place.proofs.RunLaws.{length_in, heir_in, some_runs, child_next}
use Rattle.fugue_place.proofs.children.Children.push_heir.Goals as goal

more : (names : List (List ℕ)) (runs : List Run) (count number event : ℕ) (a : Attached) → AreRuns names 0 runs count → slice_get names number ≡ Some a.id.agent → a.node ≡ Event event → a.id.seq < 2 ^ 32 → event < 2 ^ 32
    → is_heir (children_of names runs) a ≡ true → (r : Run) × IsLastRun runs r × GoesOn r number a.id.seq event
    → (children_of names (with_heirs runs 1) ≡ children_of names runs ++ a ∷ []) × AreRuns names 0 (with_heirs runs 1) (count + 1)
more names runs count number event a are known node seqs events heir last =
    let r = last.0 in
    let on = last.2 in
    let seq = on.seq in let position = on.event in
    let made = heir_in names runs 0 count (length runs - 1) r are (some_runs runs r last.1) last.1 (omega (arith, seq, seqs)) (omega (arith, position, events)) in
    (made.0 ∙ ap (λ (b : Attached). children_of names runs ++ b ∷ []) (child_next names runs count r a number event are last.1 on (get_or_from_slice_get names number a.id.agent [] known) node heir), made.1)

pub goes_on-requires : goal.goes_on-requires
goes_on-requires c = (c.self.inside.names.keys, c.self.inside.count, subst (λ (rs : List Run). AreRuns c.self.inside.names.keys 0 rs c.self.inside.count) (sym c.deref.ensures.value) c.self.invariant)

pub lengthen_last-requires : goal.lengthen_last-requires
lengthen_last-requires c = (c.self.inside.names.keys, c.self.inside.count, c.self.invariant, omega arith)

pub overflow_add-self : goal.overflow_add-self
overflow_add-self c =
    let all = length_in c.self.inside.names.keys c.self.inside.runs.items 0 c.self.inside.count c.self.invariant in
    let long = ap (λ (l : Listed). length l.items) c.self.view_is in
    omega (arith, all, long, c.requires.few)

module _ (names : List (List ℕ)) (runs seen longer : List Run) (count number event : ℕ) (a : Attached) (now : Listed) (are : AreRuns names 0 runs count) (items : children_of names runs ≡ now.items) (known : slice_get names number ≡ Some a.id.agent) (node : a.node ≡ Event event) (seqs : a.id.seq < 2 ^ 32)
    (events : event < 2 ^ 32) (heir : is_heir now.items a ≡ true) (same : seen ≡ runs) (last : (r : Run) × IsLastRun seen r × GoesOn r number a.id.seq event) (is : longer ≡ with_heirs runs 1) where
  made : (children_of names (with_heirs runs 1) ≡ children_of names runs ++ a ∷ []) × AreRuns names 0 (with_heirs runs 1) (count + 1)
  made =
      more names runs count number event a are known node seqs events (ap (λ (xs : List Attached). is_heir xs a) items ∙ heir)
      (subst (λ (rs : List Run). (r : Run) × IsLastRun rs r × GoesOn r number a.id.seq event) same last)

  longer_runs : AreRuns names 0 longer (count + 1)
  longer_runs = subst (λ (rs : List Run). AreRuns names 0 rs (count + 1)) (sym is) made.1

  longer_items : children_of names longer ≡ now.items ++ a ∷ []
  longer_items = ap (children_of names) is ∙ made.0 ∙ ap (λ (xs : List Attached). xs ++ a ∷ []) items

pub invariant_of-self : goal.invariant_of-self
invariant_of-self c =
    longer_runs c.self.inside.names.keys c.self.inside.runs.items c.deref.result.now c.lengthen_last.new.runs.items c.self.inside.count c.args.agent c.event_of-event.result c.args.child c.args.self.now c.self.invariant (ap (λ (l : Listed). l.items) c.self.view_is)
    (ap (λ (l : Listed). slice_get l.names c.args.agent) c.self.view_is ∙ c.requires.number) c.event_of-event.ensures (omega arith) c.event_of-event.type_inv c.requires.heir c.deref.ensures.value (c.goes_on.ensures c.if-goes_on.true) c.lengthen_last.ensures

pub returns-then-goes_on : goal.returns-then-goes_on
returns-then-goes_on c =
    longer_items c.self.inside.names.keys c.self.inside.runs.items c.deref.result.now c.lengthen_last.new.runs.items c.self.inside.count c.args.agent c.event_of-event.result c.args.child c.args.self.now c.self.invariant (ap (λ (l : Listed). l.items) c.self.view_is)
    (ap (λ (l : Listed). slice_get l.names c.args.agent) c.self.view_is ∙ c.requires.number) c.event_of-event.ensures (omega arith) c.event_of-event.type_inv c.requires.heir c.deref.ensures.value (c.goes_on.ensures c.if-goes_on.true) c.lengthen_last.ensures
