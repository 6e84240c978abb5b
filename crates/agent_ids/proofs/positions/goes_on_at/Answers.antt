use Rattle.std.proofs.Common.{◌≡◌, ◌∙◌, ℕ, ◌-◌, ◌+◌, ◌<◌, ◌≤◌, length, nat_eq, leb, sym, arith, eq-eqb, eqb-true}
use Rattle.std.proofs.lemmas.Bool.{leb-true}
use Rattle.ew_model.proofs.ListTests.{same_truth}
use Rattle.agent_ids.proofs.PositionLists.{last_at}
use Rattle.agent_ids.proofs.positions.goes_on_at.Goals as goal

behind : (start position more : ℕ) → start ≤ position → nat_eq (position - start) more ≡ nat_eq (start + more) position
behind start position more l =
    same_truth (nat_eq (position - start) more) (nat_eq (start + more) position)
    (λ e. let same = eqb-true (position - start) more e in eq-eqb (start + more) position (omega (arith, l, same)))
    (λ e. let same = eqb-true (start + more) position e in eq-eqb (position - start) more (omega (arith, same)))

before : (start position more : ℕ) → position < start → leb start position ≡ nat_eq (start + more) position
before start position more l =
    same_truth (leb start position) (nat_eq (start + more) position)
    (λ e. let low = leb-true start position e in absurd (omega (arith, l, low)))
    (λ e. let same = eqb-true (start + more) position e in absurd (omega (arith, l, same)))

pub overflow_sub-result-then-run-position : goal.overflow_sub-result-then-run-position
overflow_sub-result-then-run-position c =
    let some = c.in-Some.ensures.item.3.0 in
    let last = last_at c.args.runs.now 0 c.args.count (length c.args.runs.now - 1) c.args.position c.in-Some.run'.now c.requires (omega (arith, some)) (sym c.in-Some.ensures.value) in
    let low = last.1 in
    omega (arith, low)

pub returns-then-run-position : goal.returns-then-run-position
returns-then-run-position c =
    let some = c.in-Some.ensures.item.3.0 in
    let last = last_at c.args.runs.now 0 c.args.count (length c.args.runs.now - 1) c.args.position c.in-Some.run'.now c.requires (omega (arith, some)) (sym c.in-Some.ensures.value) in
    behind c.in-Some.run'.now.start c.args.position (c.args.count - c.in-Some.run'.now.seq) c.if-run-position.true ∙ sym last.0

pub returns-else-run-position : goal.returns-else-run-position
returns-else-run-position c =
    let some = c.in-Some.ensures.item.3.0 in
    let last = last_at c.args.runs.now 0 c.args.count (length c.args.runs.now - 1) c.args.position c.in-Some.run'.now c.requires (omega (arith, some)) (sym c.in-Some.ensures.value) in
    before c.in-Some.run'.now.start c.args.position (c.args.count - c.in-Some.run'.now.seq) c.if-run-position.false ∙ sym last.0
