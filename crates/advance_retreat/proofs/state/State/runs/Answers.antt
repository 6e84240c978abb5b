use Rattle.std.proofs.Common.{◌≡◌, length, ap, ◌∙◌, subst, arith}
use Rattle.advance_retreat.specs.Kept.{Kept}
use Rattle.character_runs.specs.Laid.{records_in}
use Rattle.advance_retreat.proofs.LooseEvents.{all_few, long_targets}
use Rattle.advance_retreat.proofs.state.State.runs.Goals as goal

pub returns-clause-kept : goal.returns-clause-kept
returns-clause-kept c =
    let rs = c.self.inside.tree.runs in
    (rs, c.runs.ensures.value, subst (λ (s : Kept). s.records ≡ records_in rs) c.self.view_is c.runs.ensures.kept)

pub returns-clause-few : goal.returns-clause-few
returns-clause-few c = λ b events prepared st.
    let inside = c.self.inside in
    let all = all_few inside.targets inside.tree.runs inside.lost c.runs.result c.self.invariant (c.runs.ensures.few inside.targets) (omega arith) in
    let read = ap (λ (s : Kept). length s.targets) c.self.view_is ∙ long_targets c.args.self.now b events prepared st in
    let lost = ap (λ (s : Kept). s.lost) c.self.view_is in
    omega (arith, all, read, lost)
