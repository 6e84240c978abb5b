use Rattle.std.proofs.Common.{◌++◌, length, sym, ap, ◌∙◌, subst, arith, length-append}
use Rattle.std.specs.Option.{option_to_list}
use Rattle.advance_retreat.specs.Kept.{typed_targets}
use Rattle.advance_retreat.specs.Runs.{AreRuns, events_in}
use Rattle.advance_retreat.proofs.RunLaws.{few, fits}
use Rattle.advance_retreat.proofs.TypedRuns.{typed_many, typed_runs, typed_events}
use Rattle.advance_retreat.proofs.runs.Runs.lengthen_by.Goals as goal

pub overflow_add-run : goal.overflow_add-run
overflow_add-run c =
    let rs = c.self.inside.before.items in
    let run = c.in-Some.run' in
    let low = fits rs run (subst (λ o. AreRuns 0 (rs ++ option_to_list o)) c.in-Some.is c.self.invariant.0) in
    let last = (c.is_typed_to.ensures c.if-not-is_typed_to.false).last in
    omega (arith, low, last, c.requires.few)

pub overflow_add-self : goal.overflow_add-self
overflow_add-self c =
    let all = few (c.self.inside.before.items ++ option_to_list c.self.inside.last) c.self.invariant.0 in
    let is = c.self.invariant.2 in
    omega (arith, all, is)

pub invariant_of-self-2 : goal.invariant_of-self-2
invariant_of-self-2 c =
    let rs = c.self.inside.before.items in
    let run = c.in-Some.run' in
    let are = subst (λ o. AreRuns 0 (rs ++ option_to_list o)) c.in-Some.is c.self.invariant.0 in
    let typed = c.is_typed_to.ensures c.if-not-is_typed_to.false in
    let now = typed_events rs run c.args.newest c.args.count are typed c.requires.few in
    let old = ap (λ o. events_in (rs ++ option_to_list o)) (sym c.in-Some.is) in
    let long = ap length (now ∙ ap (λ ts. ts ++ typed_targets c.args.newest c.args.count) old) ∙ length-append (events_in (rs ++ option_to_list c.self.inside.last)) (typed_targets c.args.newest c.args.count) in
    let many = typed_many c.args.newest c.args.count in
    let is = c.self.invariant.2 in
    (typed_runs rs run c.args.newest c.args.count are typed c.requires.few, λ none. absurd cc, omega (arith, long, many, is))

pub returns-clause-yes : goal.returns-clause-yes
returns-clause-yes c = λ _.
    let rs = c.self.inside.before.items in
    let run = c.in-Some.run' in
    let are = subst (λ o. AreRuns 0 (rs ++ option_to_list o)) c.in-Some.is c.self.invariant.0 in
    typed_events rs run c.args.newest c.args.count are (c.is_typed_to.ensures c.if-not-is_typed_to.false) c.requires.few
    ∙ ap (λ us. events_in us ++ typed_targets c.args.newest c.args.count) (ap (λ o. rs ++ option_to_list o) (sym c.in-Some.is) ∙ c.self.view_is)
