use Rattle.std.proofs.Common.{◌≡◌, length, sym, ◌∙◌}
use Rattle.std.proofs.lemmas.Bool.{eqb-true}
use Rattle.agreement.proofs.Shared.{same_sets, same_count}
use Rattle.agreement.proofs.sharing.agrees.Goals as goal

pub returns-then-count : goal.returns-then-count
returns-then-count c =
    let a = c.args.a.now in
    let b = c.args.b.now in
    let many : length a ≡ length b = sym c.count.ensures.count ∙ (c.if-count.true ∙ c.count-2.ensures.count) in (
      (λ t. same_sets a b c.count.ensures.admitted many (c.holds_all.ensures.0 t)),
      (λ same. c.holds_all.ensures.1 same.there),
    )

pub returns-else-count : goal.returns-else-count
returns-else-count c =
    let a = c.args.a.now in
    let b = c.args.b.now in (
      (λ t. absurd (c.if-count.false (eqb-true c.count.result c.count-2.result t))),
      (λ same. absurd (c.if-count.false (c.count.ensures.count ∙ (same_count a b c.count.ensures.admitted c.count-2.ensures.admitted same ∙ sym c.count-2.ensures.count)))),
    )
