use Rattle.std.proofs.Common.{◌≡◌, ◌<◌, ◌^◌, ◌++◌, [], ◌∷◌, sym, ap, ◌∙◌, subst, arith}
use Rattle.std.specs.Option.{option_to_list}
use Rattle.advance_retreat.specs.declared.run.Run.{Run}
use Rattle.advance_retreat.specs.Runs.{AreRuns, AreBelow, HaveMore, alone}
use Rattle.advance_retreat.proofs.RunChanges.{lengthened, same_turned, pushed, with_more}
use Rattle.advance_retreat.proofs.runs.next_run.Goals as goal

pub returns-then-goes_on-clause-ok : goal.returns-then-goes_on-clause-ok
returns-then-goes_on-clause-ok c =
    let rs = c.args.before.now.items in
    let run = c.in-Some.run' in
    let turned = c.turned-turned.result in
    let now = c.turned-turned.ensures in
    let none : run.more ≡ 0 = c.if-run-eq0.true in
    let fits : c.args.lv < 2 ^ 32 = omega (arith, c.ranges.lv.fits) in
    let same = now.more in
    subst (λ o. HaveMore (rs ++ with_more turned 1 ∷ []) (rs ++ option_to_list o) c.args.lv c.args.node) (sym c.in-Some.is)
    (lengthened rs run turned c.args.lv 1 c.args.node (subst (λ o. AreRuns 0 (rs ++ option_to_list o)) c.in-Some.is c.requires.runs) now.first (same_turned run turned none now.first now.more now.node) fits
    (c.goes_on.ensures c.if-goes_on.true) (omega (arith, same, none)))

pub returns-clause-ok : goal.returns-clause-ok
returns-clause-ok c =
    let rs = c.args.before.now.items in
    let run = c.in-Some.run' in
    let is : c.push.new.self.items ≡ rs ++ option_to_list c.args.last = c.in_ok-push.ensures.items ∙ ap (λ o. rs ++ option_to_list o) (sym c.in-Some.is) in
    let fits : c.args.lv < 2 ^ 32 = omega (arith, c.ranges.lv.fits) in
    subst (λ (r : Run). HaveMore (c.push.new.self.items ++ r ∷ []) (rs ++ option_to_list c.args.last) c.args.lv c.args.node) (sym c.alone-2.ensures.is)
    (subst (λ us. HaveMore (c.push.new.self.items ++ alone c.args.lv c.args.node ∷ []) us c.args.lv c.args.node) is
    (pushed c.push.new.self.items c.args.lv c.args.node (subst (AreRuns 0) (sym is) c.requires.runs) fits c.alone-2.ensures.nodes (subst (AreBelow c.args.lv) (sym is) c.requires.below)))
