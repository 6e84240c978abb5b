use Rattle.std.proofs.Common.{[], ◌++◌, Option, option_map, sym, ap, ◌∙◌}
use Rattle.std.specs.Option.{unwrap_or}
use Rattle.ew_model.specs.Answers.{ruling_of}
use Rattle.ew_model.specs.Verdicts.{Ruling, id_rows, parent_rows}
use Rattle.ew_model.specs.Verdicts.Ruling.{Good}
use Rattle.event_graph.proofs.RowLaws.{first_row-alone}
use Rattle.event_graph.proofs.graph.Graph.judge.Goals as goal

pub returns-in-Some : goal.returns-in-Some
returns-in-Some c =
    let rows = id_rows c.args.self.now [] c.args.e.now ++ parent_rows c.args.self.now c.args.e.now in
    ap (λ (o : Option Ruling). unwrap_or o Good) (ap (option_map ruling_of) (sym c.in-Some.is) ∙ c.in_ok-verdict.ensures) ∙ sym (first_row-alone rows)

pub returns-in-None : goal.returns-in-None
returns-in-None c =
    let rows = id_rows c.args.self.now [] c.args.e.now ++ parent_rows c.args.self.now c.args.e.now in
    ap (λ (o : Option Ruling). unwrap_or o Good) (ap (option_map ruling_of) (sym c.in-None.is) ∙ c.in_ok-verdict.ensures) ∙ sym (first_row-alone rows)
