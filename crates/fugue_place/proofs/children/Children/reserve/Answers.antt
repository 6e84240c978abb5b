use Rattle.std.proofs.Common.{◌≡◌, ◌+◌, ◌<◌, ◌^◌, ◌++◌, List, ℕ, length, sym, ap, ◌∙◌, subst, arith}
use Rattle.ew_model.proofs.Outcomes.{on_ok}
use Rattle.fugue_place.specs.declared.child.Attached.{Attached}
use Rattle.fugue_place.specs.declared.children.Run.{Run}
use Rattle.fugue_place.specs.Members.{Listed, children_of, AreRuns}
use Rattle.fugue_place.proofs.RunLaws.{length_in, children_stay, runs_stay}
use Rattle.fugue_place.proofs.children.Children.reserve.Goals.{After-number_of}
use Rattle.fugue_place.proofs.children.Children.reserve.Goals as goal

same : (c : After-number_of) → children_of c.number_of.new.names.keys c.reserve.new.self.items ≡ c.args.self.now.items
same c =
    let names = c.self.inside.names.keys in
    let runs = c.self.inside.runs.items in
    let more = c.number_of.ensures.kept in
    ap (children_of c.number_of.new.names.keys) c.in_ok-reserve.ensures.items
    ∙ ap (λ (ns : List _). children_of ns runs) more.1
    ∙ children_stay names more.0 runs 0 c.self.inside.count c.self.invariant
    ∙ ap (λ (l : Listed). l.items) c.self.view_is

pub returns-clause-same : goal.returns-clause-same
returns-clause-same c = same c

pub returns-clause-few : goal.returns-clause-few
returns-clause-few c =
    let all = length_in c.self.inside.names.keys c.self.inside.runs.items 0 c.self.inside.count c.self.invariant in
    let long = ap (length {A = Attached}) (same c) in
    let view = ap (λ (l : Listed). length l.items) c.self.view_is in
    on_ok c.number_of.result (length (children_of c.number_of.new.names.keys c.reserve.new.self.items) + 1 < 2 ^ 32) (omega (arith, all, long, view, c.if-self.false))

pub invariant_of-self-2 : goal.invariant_of-self-2
invariant_of-self-2 c =
    let names = c.self.inside.names.keys in
    let count = c.self.inside.count in
    let more = c.number_of.ensures.kept in
    subst (λ (ns : List (List ℕ)). AreRuns ns 0 c.reserve.new.self.items count) (sym more.1)
    (subst (λ (rs : List Run). AreRuns (names ++ more.0) 0 rs count) (sym c.in_ok-reserve.ensures.items) (runs_stay names more.0 c.self.inside.runs.items 0 count c.self.invariant))
