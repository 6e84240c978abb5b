use Rattle.std.proofs.Common.{◌≡◌, ◌∙◌, ◌≤◌, ℕ, List, length, take, sym, ap, subst, arith}
use Rattle.std.proofs.lemmas.List.{take_all}
use Rattle.event_runs.specs.BareEvents.{BareEvent}
use Rattle.event_runs.specs.KeptRuns.{events_in, AreLabelled}
use Rattle.event_runs.proofs.Found.{told_by}
use Rattle.event_runs.proofs.RunEvents.{length-events_in}
use Rattle.event_runs.proofs.Kept.{StaysKept, kept_cut}
use Rattle.event_runs.proofs.storage.EventRuns.truncate.Goals.{After-self-1}
use Rattle.event_runs.proofs.storage.EventRuns.truncate.Goals as goal

made : (c : After-self-1) → StaysKept (told_by c.truncate-then-n-self.new.self.items c.keep_below-chars.new.labels.items) c.keep_below-chars.new.runs.items c.truncate.new.self c.args.n (take c.args.n c.args.self.now)
made c =
    let told = told_by c.self.inside.chars.items c.self.inside.labels.items in
    let runs = c.self.inside.runs.items in
    let lists = c.self.inside.parents in
    let new = c.keep_below-chars.new.runs.items in
    let left = c.keep_below-chars.result in
    let few : c.args.n ≤ c.self.inside.count = omega (arith, c.if-n-self.true) in
    let long : c.len.result ≡ length new = omega (arith, c.len.ensures, c.keep_below-chars.new.runs.ok.0) in
    let front = c.keep_below-chars.ensures.front in
    let labelled : AreLabelled 0 new (length (take front.0 told.labels)) = subst (λ (ls : List (List ℕ)). AreLabelled 0 new (length ls)) front.1 (c.keep_below-chars.ensures.labels c.self.invariant.labelled) in
    let kept = kept_cut told runs new lists c.self.inside.count c.args.n left front.0 c.self.invariant few (c.keep_below-chars.ensures.events lists c.self.inside.count (length told.chars) c.self.invariant.in_line few) labelled in
    subst (λ (ls : List (List ℕ)). StaysKept (told_by c.truncate-then-n-self.new.self.items c.keep_below-chars.new.labels.items) new ls c.args.n (take c.args.n c.args.self.now)) (sym (c.truncate.ensures ∙ ap (λ m. take m lists) long))
    (subst (λ (es : List BareEvent). StaysKept (told_by c.truncate-then-n-self.new.self.items c.keep_below-chars.new.labels.items) new (take (length new) lists) c.args.n (take c.args.n es)) c.self.view_is
    (subst (λ (ls : List (List ℕ)). StaysKept (told_by c.truncate-then-n-self.new.self.items ls) new (take (length new) lists) c.args.n (take c.args.n (events_in told runs lists))) (sym front.1)
    (subst (λ (xs : List ℕ). StaysKept (told_by xs (take front.0 told.labels)) new (take (length new) lists) c.args.n (take c.args.n (events_in told runs lists))) (sym c.truncate-then-n-self.ensures.items) kept)))

pub invariant_of-self : goal.invariant_of-self
invariant_of-self c = (made c).kept

pub returns-then-n-self : goal.returns-then-n-self
returns-then-n-self c = (made c).events_are

pub returns-else-n-self : goal.returns-else-n-self
returns-else-n-self c =
    let all = length-events_in (told_by c.self.inside.chars.items c.self.inside.labels.items) c.self.inside.runs.items c.self.inside.parents 0 0 c.self.inside.count (length c.self.inside.chars.items) c.self.invariant.in_line in
    let long = ap (length {A = BareEvent}) c.self.view_is in
    sym (take_all c.args.n c.args.self.now (omega (arith, all, long, c.if-n-self.false)))
