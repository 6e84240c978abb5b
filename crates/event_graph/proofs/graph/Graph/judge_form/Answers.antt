use Rattle.std.proofs.Common.{◌≡◌, [], Option, IfOk, option_map, sym, ap, ◌∙◌, subst}
use Rattle.ew_model.specs.Answers.{ruling_of}
use Rattle.ew_model.specs.Verdicts.{Ruling, id_rows, parent_rows}
use Rattle.event_graph.proofs.GoingOn.{none_holds}
use Rattle.event_graph.proofs.RowLaws.{row_in-none, row_in-some}
use Rattle.event_graph.proofs.graph.Graph.judge_form.Goals as goal

pub returns-then-goes_on : goal.returns-then-goes_on
returns-then-goes_on c = sym (none_holds c.args.self.now c.args.e.now c.count-count.ensures.admitted (c.goes_on.ensures.0 c.if-goes_on.true))

pub returns-in-Some : goal.returns-in-Some
returns-in-Some c =
    let held = c.args.self.now in
    let e = c.args.e.now in
    sym (row_in-some (id_rows held [] e) (parent_rows held e) (ruling_of c.in-Some.verdict) (ap (option_map ruling_of) (sym c.in-Some.is) ∙ c.in_ok-verdict.ensures))

pub returns-in-None : goal.returns-in-None
returns-in-None c =
    let held = c.args.self.now in
    let e = c.args.e.now in
    let same = row_in-none (id_rows held [] e) (parent_rows held e) (ap (option_map ruling_of) (sym c.in-None.is) ∙ c.in_ok-verdict.ensures) in
    subst (λ (row : Option Ruling). IfOk c.judge_parents.result (λ v. option_map ruling_of v ≡ row)) (sym same) c.judge_parents.ensures
