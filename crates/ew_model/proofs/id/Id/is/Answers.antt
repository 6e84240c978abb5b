use Rattle.std.proofs.Common.{◌≡◌, Bool, IsTrue, ◌↔◌, sym, subst, rules}
use Rattle.ew_model.specs.Ids.{id_eq}
use Rattle.ew_model.proofs.IdLaws.{is_same_id}
use Rattle.ew_model.proofs.id.Id.is.Goals as goal

pub returns-clause-same : goal.returns-clause-same
returns-clause-same c =
    let value : c.is_eq.result ≡ id_eq c.args.self.now c.args.other.now = search rules in
    subst (λ (b : Bool). IsTrue b ↔ (c.args.self.now ≡ c.args.other.now)) (sym value) (is_same_id c.args.self.now c.args.other.now)
