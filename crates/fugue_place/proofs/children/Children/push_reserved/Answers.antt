use Rattle.std.proofs.Common.{◌≡◌, ◌∙◌, ◌+◌, ◌<◌, ◌^◌, ◌++◌, ◌∷◌, [], List, ℕ, length, slice_get, Some, refl, sym, ap, subst, arith}
use Rattle.std.proofs.lemmas.Option.{slice_get_within, get_or_from_slice_get}
use Rattle.ew_model.specs.declared.node.Node.TheVariants.{Event}
use Rattle.fugue_place.specs.declared.child.Attached.{Attached}
use Rattle.fugue_place.specs.declared.children.Run.{Run}
use Rattle.fugue_place.specs.Members.{Listed, children_of, AreRuns}
use Rattle.fugue_place.proofs.RunLaws.{length_in, run_in, child_first}
use Rattle.fugue_place.proofs.children.Children.push_reserved.Goals as goal

more : (names : List (List ℕ)) (runs : List Run) (count number event : ℕ) (a : Attached) → AreRuns names 0 runs count → slice_get names number ≡ Some a.id.agent → a.node ≡ Event event → a.id.seq < 2 ^ 32 → event < 2 ^ 32
    → let x : Run = record { place = count; parent = a.parent; side = a.side; agent = number; seq = a.id.seq; event = event; heirs = 0 } in (children_of names (runs ++ x ∷ []) ≡ children_of names runs ++ a ∷ []) × AreRuns names 0 (runs ++ x ∷ []) (count + 1)
more names runs count number event a are known node seqs events =
    let x : Run = record { place = count; parent = a.parent; side = a.side; agent = number; seq = a.id.seq; event = event; heirs = 0 } in
    let made = run_in names runs 0 count x are (record { place = refl; agent = slice_get_within names number a.id.agent known; seqs = omega (arith, seqs); events = omega (arith, events) }) refl in
    (made.0 ∙ ap (λ (b : Attached). children_of names runs ++ b ∷ []) (child_first names x a (get_or_from_slice_get names number a.id.agent [] known) refl refl refl (sym node)), made.1)

pub overflow_add-self : goal.overflow_add-self
overflow_add-self c =
    let all = length_in c.self.inside.names.keys c.self.inside.runs.items 0 c.self.inside.count c.self.invariant in
    let long = ap (λ (l : Listed). length l.items) c.self.view_is in
    omega (arith, all, long, c.requires.few)

pub invariant_of-self : goal.invariant_of-self
invariant_of-self c =
    let names = c.self.inside.names.keys in
    let known = ap (λ (l : Listed). slice_get l.names c.args.agent) c.self.view_is ∙ c.requires.number in
    subst (λ (rs : List Run). AreRuns names 0 rs (c.self.inside.count + 1)) (sym c.push_reserved.ensures.items)
    (more names c.self.inside.runs.items c.self.inside.count c.args.agent c.event_of-event.result c.args.child c.self.invariant known c.event_of-event.ensures (omega arith) c.event_of-event.type_inv).1

pub returns : goal.returns
returns c =
    let names = c.self.inside.names.keys in
    let known = ap (λ (l : Listed). slice_get l.names c.args.agent) c.self.view_is ∙ c.requires.number in
    ap (children_of names) c.push_reserved.ensures.items
    ∙ (more names c.self.inside.runs.items c.self.inside.count c.args.agent c.event_of-event.result c.args.child c.self.invariant known c.event_of-event.ensures (omega arith) c.event_of-event.type_inv).0
    ∙ ap (λ (l : Listed). l.items ++ c.args.child ∷ []) c.self.view_is
