use Rattle.std.proofs.Common.{◌≡◌, ℕ, ◌-◌, take, true, false, Option, arith, sym, ◌∙◌, subst}
use Rattle.std.specs.Option.{is_some}
use Rattle.std.proofs.lemmas.Bool.{false≢true}
use Rattle.ew_model.specs.Cuts.{latest_cut}
use Rattle.ew_model.specs.Walks.{base_at, walked_from}
use Rattle.ew_model.proofs.ListParts.{element_there, none_from_is_some}
use Rattle.transform.specs.Reaching.{over_since}
use Rattle.transform.proofs.Loops.{not_in_line, ready_at_cut, ready_between, ready_in_line, steps_in_line}
use Rattle.transform.proofs.turn.reach.Goals as goal

pub prepare-requires-clause-reached : goal.prepare-requires-clause-reached
prepare-requires-clause-reached g c =
    (latest_cut c.args.graph.now (c.args.position - 1), (not_in_line c.args.graph.now c.requires.walked.0 c.args.position c.args.line c.args.state.now (sym c.is_some.ensures ∙ c.if-is_some.false) c.requires.walked.2).1)

pub returns-then-is_some-clause-ready : goal.returns-then-is_some-clause-ready
returns-then-is_some-clause-ready g c = λ from walked. ready_in_line c.args.graph.now from c.args.position c.args.line c.args.state.now (sym c.is_some.ensures ∙ c.if-is_some.true) walked

pub returns-then-is_some-clause-steps : goal.returns-then-is_some-clause-steps
returns-then-is_some-clause-steps g c = λ from low walked.
    let found = element_there c.args.graph.now c.args.position c.requires.within in
    omega (arith, steps_in_line c.args.graph.now from c.args.position c.args.line found.0 c.args.state.now c.count-count.ensures.admitted found.1 (sym c.is_some.ensures ∙ c.if-is_some.true) low walked)

pub returns-then-is_some-clause-most : goal.returns-then-is_some-clause-most
returns-then-is_some-clause-most g c = λ from low walked.
    let found = element_there c.args.graph.now c.args.position c.requires.within in
    omega (arith, steps_in_line c.args.graph.now from c.args.position c.args.line found.0 c.args.state.now c.count-count.ensures.admitted found.1 (sym c.is_some.ensures ∙ c.if-is_some.true) low walked)

pub returns-in_err-prepare-clause-most : goal.returns-in_err-prepare-clause-most
returns-in_err-prepare-clause-most g c = λ from low walked. c.prepare.ensures.most from (not_in_line c.args.graph.now from c.args.position c.args.line c.args.state.now (sym c.is_some.ensures ∙ c.if-is_some.false) walked).0

pub returns-then-is_cut_near-clause-steps : goal.returns-then-is_cut_near-clause-steps
returns-then-is_cut_near-clause-steps g c = λ from low walked. c.in_ok-prepare.ensures.steps from (not_in_line c.args.graph.now from c.args.position c.args.line c.args.state.now (sym c.is_some.ensures ∙ c.if-is_some.false) walked).0

pub returns-then-is_cut_near-clause-most : goal.returns-then-is_cut_near-clause-most
returns-then-is_cut_near-clause-most g c = λ from low walked. c.prepare.ensures.most from (not_in_line c.args.graph.now from c.args.position c.args.line c.args.state.now (sym c.is_some.ensures ∙ c.if-is_some.false) walked).0

pub returns-else-is_cut_near-clause-steps : goal.returns-else-is_cut_near-clause-steps
returns-else-is_cut_near-clause-steps g c = λ from low walked. c.in_ok-prepare.ensures.steps from (not_in_line c.args.graph.now from c.args.position c.args.line c.args.state.now (sym c.is_some.ensures ∙ c.if-is_some.false) walked).0

pub returns-else-is_cut_near-clause-most : goal.returns-else-is_cut_near-clause-most
returns-else-is_cut_near-clause-most g c = λ from low walked. c.prepare.ensures.most from (not_in_line c.args.graph.now from c.args.position c.args.line c.args.state.now (sym c.is_some.ensures ∙ c.if-is_some.false) walked).0

pub returns-then-is_cut_near-clause-ready : goal.returns-then-is_cut_near-clause-ready
returns-then-is_cut_near-clause-ready g c = λ from walked.
    let now = c.args.graph.now in
    let position = c.args.position in
    let front = take position now in
    let cut = latest_cut now (position - 1) in
    let found = element_there now position c.requires.within in
    let e = found.0 in
    let reached = (not_in_line now from position c.args.line c.args.state.now (sym c.is_some.ensures ∙ c.if-is_some.false) walked).1 in
    let moved = c.in_ok-prepare.ensures.moved cut e reached found.1 in
    ready_at_cut now cut position c.prepared_len.result e c.args.state.now c.prepare.new.state c.count-count.ensures.admitted c.count-count.ensures.sound found.1 (subst (λ b. b ≡ true) c.is_cut_near.ensures c.if-is_cut_near.true) reached moved
    (c.prepared_len.ensures (base_at now cut) (walked_from front cut) (over_since front cut e) moved)

pub returns-else-is_cut_near-clause-ready : goal.returns-else-is_cut_near-clause-ready
returns-else-is_cut_near-clause-ready g c = λ from walked.
    let now = c.args.graph.now in
    let position = c.args.position in
    let cut = latest_cut now (position - 1) in
    let found = element_there now position c.requires.within in
    let reached = (not_in_line now from position c.args.line c.args.state.now (sym c.is_some.ensures ∙ c.if-is_some.false) walked).1 in
    ready_between now position found.0 c.args.state.now c.prepare.new.state found.1 (subst (λ b. b ≡ false) c.is_cut_near.ensures c.if-is_cut_near.false) reached (c.in_ok-prepare.ensures.moved cut found.0 reached found.1)

pub returns-else-is_cut_near-clause-line : goal.returns-else-is_cut_near-clause-line
returns-else-is_cut_near-clause-line g c = λ none. none_from_is_some c.args.line (sym c.is_some.ensures ∙ c.if-is_some.false)

pub returns-else-is_cut_near-clause-apart : goal.returns-else-is_cut_near-clause-apart
returns-else-is_cut_near-clause-apart g c = λ none. subst (λ b. b ≡ false) c.is_cut_near.ensures c.if-is_cut_near.false

pub returns-then-is_some-clause-apart : goal.returns-then-is_some-clause-apart
returns-then-is_some-clause-apart g c = λ none. absurd (false≢true (subst (λ (line : Option ℕ). is_some line ≡ true) none (sym c.is_some.ensures ∙ c.if-is_some.true)))
