use Rattle.std.proofs.Common.{[], ◌∷◌, sym, ap, ◌∙◌}
use Rattle.ew_model.specs.declared.id.Id.{Id}
use Rattle.agreement.proofs.OnlyParents.{before_it, ids_of_only, same_only}
use Rattle.agreement.proofs.sharing.have_same_parents.Goals as goal

pub returns-then-chain_start_near-other : goal.returns-then-chain_start_near-other
returns-then-chain_start_near-other c =
    let a = c.args.a.now in
    let b = c.args.b.now in
    let ours = before_it a c.args.one c.chain_start_near.result c.chain_start_near.ensures.chain c.if-chain_start_near-one.true in
    let theirs = before_it b c.args.other c.chain_start_near-then-chain_start_near-one.result c.chain_start_near-then-chain_start_near-one.ensures.chain c.if-chain_start_near-other.true in (
      (λ t e f here there.
          ids_of_only a c.args.one e c.id_near-ours.result c.requires.admitted_a here ours c.id_near-ours.ensures
          ∙ (ap (λ (x : Id). x ∷ []) (c.is.ensures.same.0 t)
          ∙ sym (ids_of_only b c.args.other f c.id_near.result c.requires.admitted_b there theirs c.id_near.ensures))),
      (λ same. c.is.ensures.same.1 (same_only a b c.args.one c.args.other c.id_near-ours.result c.id_near.result c.requires.within_a c.requires.within_b c.requires.admitted_a c.requires.admitted_b ours theirs c.id_near-ours.ensures c.id_near.ensures same)),
    )
