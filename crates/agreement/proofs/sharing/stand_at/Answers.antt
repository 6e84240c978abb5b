use Rattle.std.proofs.Common.{◌≡◌, ℕ, Bool, true, false, sym, ◌∙◌, rules}
use Rattle.std.proofs.lemmas.Iterator.{cases_from_all, YieldsList-from_slice}
use Rattle.ew_model.specs.Ancestors.{ids_of}
use Rattle.ew_model.specs.Ids.{is_among}
use Rattle.ew_model.proofs.ListTests.{all_mapped}
use Rattle.event_graph.specs.Keeping.{id_of}
use Rattle.agreement.specs.Sharing.{ids_at}
use Rattle.agreement.proofs.Found.{told_all}
use Rattle.agreement.proofs.sharing.stand_at.Goals as goal

pub returns : goal.returns
returns c =
    let ids = ids_of c.args.a.now in
    let others = ids_at c.args.b.now c.args.theirs.now in
    let test : ℕ → Bool = λ p. is_among others (id_of ids p) in
    told_all test c.all.result c.args.ours.now
    (cases_from_all _ _ _ (λ p. test p ≡ true) (λ p. test p ≡ false) c.all.ensures.ran (YieldsList-from_slice c.args.ours.now cc) (λ x q k. search rules) (λ x q k. search rules))
    ∙ sym (all_mapped (id_of ids) (is_among others) c.args.ours.now)
