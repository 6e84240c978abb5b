use Rattle.std.proofs.Common.{◌≡◌, ◌+◌, ℕ, List, length, ap, ◌∙◌, subst, sym, arith, ◌≤◌}
use Rattle.walker_record.specs.Stretches.{Stretch, effect_of, is_continued, joined_of}
use Rattle.order_tree.specs.Pairs.{changed, lower, up_to, total, runs}
use Rattle.character_runs.specs.Entering.{EntersAt}
use Rattle.character_runs.specs.Laid.{AreLabelled, chars_in}
use Rattle.character_runs.proofs.KnownRuns.{held_label}
use Rattle.character_runs.proofs.AlteredChars.{sums_fit}
use Rattle.character_runs.proofs.Entered.{joined_enters, joined_long, joined_short, joined_labelled}
use Rattle.character_runs.specs.Loose.{loose_in, loose_parted}
use Rattle.character_runs.proofs.LooseEntries.{joined_told}
use Rattle.character_runs.proofs.runs.Runs.lengthen.Goals as goal

pub join-joined-requires-clause-joinable : goal.join-joined-requires-clause-joinable
join-joined-requires-clause-joinable g c = ap (λ (r : Stretch). is_continued c.args.front.now r) c.run.ensures ∙ c.requires.goes_on

pub join-joined-requires-clause-short : goal.join-joined-requires-clause-short
join-joined-requires-clause-short g c =
    let long = ap (λ (r : Stretch). r.len) c.run.ensures in
    let short = joined_short c.args.self.now.tree.pairs c.facts.ensures.rising c.args.label c.args.front.now c.requires.held c.args.child.now c.requires.goes_on in
    omega (arith, long, short, c.requires.new.room)

pub change-requires-clause-held : goal.change-requires-clause-held
change-requires-clause-held g c = held_label c.args.self.now.tree.pairs c.args.label c.args.front.now c.requires.held

pub change-requires-clause-fit : goal.change-requires-clause-fit
change-requires-clause-fit g c =
    let ps = c.args.self.now.tree.pairs in
    let is = c.join-joined.ensures ∙ ap (λ (r : Stretch). joined_of c.args.front.now r) c.run.ensures in
    let long = joined_long ps c.facts.ensures.rising c.args.label c.args.front.now c.requires.held c.args.child.now c.requires.goes_on in
    let same = ap (λ (r : Stretch). length (chars_in (changed ps c.args.label r))) is in
    let fit = sums_fit (changed ps c.args.label c.join-joined.result) (omega (arith, long, same, c.requires.new.room)) in
    record { known = fit.0; prepared = fit.1; effect = fit.2 }

pub overflow_add-at : goal.overflow_add-at
overflow_add-at g c =
    let ps = c.args.self.now.tree.pairs in
    let count = c.requires.before in
    let short = joined_short ps c.facts.ensures.rising c.args.label c.args.front.now c.requires.held c.args.child.now c.requires.goes_on in
    let own = ap (λ (r : Stretch). r.len) c.front.view_is in
    omega (arith, count, short, own, c.requires.new.room)

pub returns-clause-laid : goal.returns-clause-laid
returns-clause-laid g c =
    let ps = c.args.self.now.tree.pairs in
    let is = c.change.ensures.pairs ∙ ap (λ (r : Stretch). changed ps c.args.label r) (c.join-joined.ensures ∙ ap (λ (r : Stretch). joined_of c.args.front.now r) c.run.ensures) in
    subst (λ (xs : List (ℕ × Stretch)). AreLabelled xs c.args.self.now.labels) (sym is)
    (joined_labelled ps c.facts.ensures.rising c.args.label c.args.front.now c.requires.held c.args.child.now c.requires.goes_on c.args.self.now.labels c.requires.laid c.requires.some c.requires.new.unrecorded)

pub returns-clause-enters : goal.returns-clause-enters
returns-clause-enters g c =
    let ps = c.args.self.now.tree.pairs in
    let is = c.change.ensures.pairs ∙ ap (λ (r : Stretch). changed ps c.args.label r) (c.join-joined.ensures ∙ ap (λ (r : Stretch). joined_of c.args.front.now r) c.run.ensures) in
    let count = c.requires.before in
    let own = ap (λ (r : Stretch). r.len) c.front.view_is in
    let n : ℕ = c.args.before + c.front.inside.len in
    let sum : n ≡ total effect_of (lower ps c.args.label) + c.args.front.now.len = omega (arith, count, own) in
    subst (λ (xs : List (ℕ × Stretch)). EntersAt (chars_in ps) (chars_in xs) c.args.child.now (length (chars_in (up_to ps c.args.label))) n) (sym is)
    (joined_enters ps c.facts.ensures.rising c.args.label c.args.front.now c.requires.held c.args.child.now c.requires.goes_on n sum)

pub returns-clause-told : goal.returns-clause-told
returns-clause-told g c among e =
    let ps = c.args.self.now.tree.pairs in
    let is = c.change.ensures.pairs ∙ ap (λ (r : Stretch). changed ps c.args.label r) (c.join-joined.ensures ∙ ap (λ (r : Stretch). joined_of c.args.front.now r) c.run.ensures) in
    subst (λ (xs : List (ℕ × Stretch)). loose_in among (runs xs) ≤ loose_parted among (runs ps) (length (up_to ps c.args.label))) (sym is)
    (joined_told among ps c.args.label c.facts.ensures.rising c.args.front.now c.requires.held c.args.child.now c.requires.goes_on c.requires.some e)
