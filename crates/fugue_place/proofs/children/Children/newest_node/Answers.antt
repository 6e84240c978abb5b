use Rattle.std.proofs.Common.{◌≡◌, ◌∙◌, ◌-◌, List, Some, length, slice_get, sym, ap, arith}
use Rattle.std.specs.Option.{option_map}
use Rattle.fugue_place.specs.declared.child.Attached.{Attached}
use Rattle.fugue_place.specs.declared.children.Run.{Run}
use Rattle.fugue_place.specs.Attachments.{newest_node}
use Rattle.fugue_place.specs.Members.{Listed, IsLastRun}
use Rattle.fugue_place.proofs.RunLaws.{run_within, newest_in}
use Rattle.fugue_place.proofs.children.Children.newest_node.Goals as goal

there : (runs seen : List Run) (r : Run) → seen ≡ runs → Some r ≡ slice_get seen (length seen - 1) → IsLastRun runs r
there runs seen r same is = ap (λ (rs : List Run). slice_get rs (length rs - 1)) (sym same) ∙ sym is

pub overflow_add-result : goal.overflow_add-result
overflow_add-result c =
    let runs = c.self.inside.runs.items in
    let last = there runs c.deref.result.now c.in_ok-run.run'.now c.deref.ensures.value c.in_ok-run.ensures.value in
    let low = (run_within c.self.inside.names.keys runs 0 c.self.inside.count (length runs - 1) c.in_ok-run.run'.now c.self.invariant last).kept.events in
    omega (arith, low)

pub returns : goal.returns
returns c =
    let runs = c.self.inside.runs.items in
    let last = there runs c.deref.result.now c.in_ok-run.run'.now c.deref.ensures.value c.in_ok-run.ensures.value in
    sym (ap (λ (l : Listed). newest_node l.items) (sym c.self.view_is) ∙ ap (option_map (λ (a : Attached). a.node)) (newest_in c.self.inside.names.keys runs c.self.inside.count c.in_ok-run.run'.now c.self.invariant last))
