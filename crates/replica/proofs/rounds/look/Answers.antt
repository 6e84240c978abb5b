use Rattle.std.proofs.Common.{◌≡◌, ◌+◌, false, None, option_map, sym, ◌∙◌, arith}
use Rattle.std.proofs.lemmas.Bool.{false≢true}
use Rattle.std.proofs.lemmas.Result.{IfOk-weaker}
use Rattle.ew_model.specs.Rounds.{round_touches}
use Rattle.ew_model.specs.Touches.{touches}
use Rattle.ew_model.specs.Verdicts.{first_bad}
use Rattle.ew_model.proofs.CutLaws.{latest_at_most}
use Rattle.transform.specs.Walking.{bad_at, judged_of}
use Rattle.replica.specs.Desks.{LeadsToEnd, desk_as}
use Rattle.replica.specs.Walks.{AreKept, held_after}
use Rattle.replica.proofs.KeptWalks.{kept_after}
use Rattle.replica.proofs.RoundCuts.{begins_at, walked_round, whole_round}
use Rattle.replica.proofs.RoundParts.{on_err, on_ok}
use Rattle.replica.proofs.RoundWays.{blind_leads}
use Rattle.replica.proofs.rounds.look.Goals as goal

-- a kept walk goes on, or one begins that is kept
pub walk-requires : goal.walk-requires
walk-requires g c =
    let held = c.args.graph.now in
    let graph = c.judge_all.new.graph in
    let begins = begins_at held graph c.count-count.result c.latest_cut-cut.result c.requires.good c.in_ok-judge_all.ensures.front c.count-count.ensures.count c.latest_cut-cut.ensures in
    record { begins = (held, begins, c.in_ok-judge_all.ensures.front, c.count-count.ensures.count, c.requires.lengths, c.requires.walks) }

pub returns-then-intake-clause-leads : goal.returns-then-intake-clause-leads
returns-then-intake-clause-leads g c =
    let a = c.args in
    let new = c.judge_all.new in
    on_ok c.walk.result
    (blind_leads a.intake.limits.now (desk_as a.graph.now a.intake.events.now a.desk.now) (desk_as new.graph a.intake.events.now new.desk) a.desk.now.progress new.desk.progress c.in_ok-judge_all.field-0 c.in_ok-judge_all.ensures.leads)

pub returns-then-intake-clause-touches : goal.returns-then-intake-clause-touches
returns-then-intake-clause-touches g c =
    let a = c.args in
    let from = desk_as a.graph.now a.intake.events.now a.desk.now in
    IfOk-weaker c.walk.result (λ w. option_map bad_at w.stopped ≡ first_bad c.judge_all.new.graph) (λ w. a.intake.keeping ≡ false → w.stopped ≡ None → c.walk.new.steps ≡ a.steps.now + round_touches a.intake.limits.now from)
    (λ w is anew none. absurd (false≢true (sym anew ∙ c.if-intake.true))) c.walk.ensures.stopped

pub returns-then-intake-clause-most : goal.returns-then-intake-clause-most
returns-then-intake-clause-most g c =
    let a = c.args in
    let new = c.judge_all.new in
    let from = desk_as a.graph.now a.intake.events.now a.desk.now in
    let to = desk_as new.graph a.intake.events.now new.desk in
    let leads : LeadsToEnd a.intake.limits.now None from to a.desk.now.progress new.desk.progress =
    blind_leads a.intake.limits.now from to a.desk.now.progress new.desk.progress c.in_ok-judge_all.field-0 c.in_ok-judge_all.ensures.leads in
    let same = walked_round a.intake.limits.now from to a.desk.now.progress new.desk.progress c.count-count.result c.latest_cut-cut.result leads c.count-count.ensures.count c.latest_cut-cut.ensures in
    omega (arith, same, c.walk.ensures.most)

pub returns-then-intake-clause-walks : goal.returns-then-intake-clause-walks
returns-then-intake-clause-walks g c = c.walk.ensures.kept c.args.graph.now c.in_ok-judge_all.ensures.front c.requires.walks

pub returns-then-intake-clause-same_walks : goal.returns-then-intake-clause-same_walks
returns-then-intake-clause-same_walks g c = c.walk.ensures.err c.args.graph.now c.requires.walks

-- a walk begins, and the kept ones stay as they are
pub walk_anew-requires-clause-low : goal.walk_anew-requires-clause-low
walk_anew-requires-clause-low g c = omega (arith, c.latest_cut-cut.ensures, latest_at_most c.judge_all.new.graph c.count-count.result)

pub walk_anew-requires-clause-begins : goal.walk_anew-requires-clause-begins
walk_anew-requires-clause-begins g c =
    let held = c.args.graph.now in
    let graph = c.judge_all.new.graph in
    (held, begins_at held graph c.count-count.result c.latest_cut-cut.result c.requires.good c.in_ok-judge_all.ensures.front c.count-count.ensures.count c.latest_cut-cut.ensures, c.requires.lengths)

pub returns-else-intake-clause-leads : goal.returns-else-intake-clause-leads
returns-else-intake-clause-leads g c =
    let a = c.args in
    let new = c.judge_all.new in
    on_ok c.walk_anew.result
    (blind_leads a.intake.limits.now (desk_as a.graph.now a.intake.events.now a.desk.now) (desk_as new.graph a.intake.events.now new.desk) a.desk.now.progress new.desk.progress c.in_ok-judge_all.field-0 c.in_ok-judge_all.ensures.leads)

pub returns-else-intake-clause-touches : goal.returns-else-intake-clause-touches
returns-else-intake-clause-touches g c =
    let a = c.args in
    let new = c.judge_all.new in
    let from = desk_as a.graph.now a.intake.events.now a.desk.now in
    let to = desk_as new.graph a.intake.events.now new.desk in
    let leads : LeadsToEnd a.intake.limits.now None from to a.desk.now.progress new.desk.progress =
    blind_leads a.intake.limits.now from to a.desk.now.progress new.desk.progress c.in_ok-judge_all.field-0 c.in_ok-judge_all.ensures.leads in
    IfOk-weaker c.walk_anew.result (λ w. c.walk_anew.new.steps ≡ a.steps.now + touches (judged_of new.graph w.stopped) c.latest_cut-cut.result) (λ w. a.intake.keeping ≡ false → w.stopped ≡ None → c.walk_anew.new.steps ≡ a.steps.now + round_touches a.intake.limits.now from)
    (λ w took anew none. whole_round a.intake.limits.now from to a.desk.now.progress new.desk.progress c.count-count.result c.latest_cut-cut.result a.steps.now c.walk_anew.new.steps w.stopped leads c.count-count.ensures.count c.latest_cut-cut.ensures took none)
    c.walk_anew.ensures.touches

pub returns-else-intake-clause-most : goal.returns-else-intake-clause-most
returns-else-intake-clause-most g c =
    let a = c.args in
    let new = c.judge_all.new in
    let from = desk_as a.graph.now a.intake.events.now a.desk.now in
    let to = desk_as new.graph a.intake.events.now new.desk in
    let leads : LeadsToEnd a.intake.limits.now None from to a.desk.now.progress new.desk.progress =
    blind_leads a.intake.limits.now from to a.desk.now.progress new.desk.progress c.in_ok-judge_all.field-0 c.in_ok-judge_all.ensures.leads in
    let same = walked_round a.intake.limits.now from to a.desk.now.progress new.desk.progress c.count-count.result c.latest_cut-cut.result leads c.count-count.ensures.count c.latest_cut-cut.ensures in
    omega (arith, same, c.walk_anew.ensures.most)

pub returns-else-intake-clause-walks : goal.returns-else-intake-clause-walks
returns-else-intake-clause-walks g c =
    let held = c.args.graph.now in
    let graph = c.judge_all.new.graph in
    IfOk-weaker c.walk_anew.result (λ w. option_map bad_at w.stopped ≡ first_bad graph) (λ w. AreKept (held_after held graph w.stopped) c.args.walks.now)
    (λ w is. kept_after held graph w.stopped c.in_ok-judge_all.ensures.front c.args.walks.now c.requires.walks) c.walk_anew.ensures.stopped

pub returns-else-intake-clause-same_walks : goal.returns-else-intake-clause-same_walks
returns-else-intake-clause-same_walks g c = on_err c.walk_anew.result c.requires.walks
