use Rattle.std.proofs.Common.{sym, ◌∙◌}
use Rattle.std.proofs.lemmas.Bool.{false≢true}
use Rattle.agreement.proofs.Shared.{shared_by_parts, shared_op, shared_parents, told}
use Rattle.agreement.proofs.sharing.is_same.Goals as goal

pub returns-then-same : goal.returns-then-same
returns-then-same c =
    let a = c.args.a.now in
    let b = c.args.b.now in
    let id = told a c.args.one c.requires.within_a in
    let found = c.requires.found id.0 id.1 in (
      (λ t. shared_by_parts a b c.args.one c.args.other id.0 c.requires.within_a c.requires.admitted_b id.1 found c.op_near-ours.result c.op_near-theirs.result c.op_near-ours.ensures c.op_near-theirs.ensures (c.same.ensures.0 c.if-same.true) (c.have_same_parents.ensures.0 t)),
      (λ shared. c.have_same_parents.ensures.1 (shared_parents a b c.args.one c.args.other id.0 c.requires.within_a c.requires.admitted_b id.1 found shared)),
    )

pub returns-else-same : goal.returns-else-same
returns-else-same c =
    let a = c.args.a.now in
    let b = c.args.b.now in
    let id = told a c.args.one c.requires.within_a in
    let found = c.requires.found id.0 id.1 in (
      (λ t. absurd (false≢true (sym c.if-same.false ∙ t))),
      (λ shared. c.same.ensures.1 (shared_op a b c.args.one c.args.other id.0 c.requires.within_a c.requires.admitted_b id.1 found c.op_near-ours.result c.op_near-theirs.result c.op_near-ours.ensures c.op_near-theirs.ensures shared)),
    )
