use Rattle.std.proofs.Common.{◌≡◌, refl, None, option_map, rules, ◌∙◌, sym, subst}
use Rattle.ew_model.specs.Answers.{ruling_of}
use Rattle.ew_model.proofs.FirstBadLaws.{good_of}
use Rattle.replica.specs.Giving.{WereGiven}
use Rattle.replica.proofs.Giving.{one_admitted, one_refused}
use Rattle.replica.proofs.loading.Loading.push.Goals as goal

pub returns-in_ok-admit-clause-given : goal.returns-in_ok-admit-clause-given
returns-in_ok-admit-clause-given c events were =
    let none : option_map ruling_of c.self.inside.refused ≡ None = search rules in
    one_admitted events (record { limits = c.self.inside.limits; admitted = c.self.inside.graph; refused = option_map ruling_of c.self.inside.refused }) _ c.args.e.now none none
    (sym c.in_ok-verdict.ensures ∙ good_of _ (sym c.is_good.ensures ∙ c.if-is_good.true)) c.in_ok-admit.ensures.ok (subst (WereGiven events) (sym c.self.view_is) were)

pub returns-else-is_good-clause-given : goal.returns-else-is_good-clause-given
returns-else-is_good-clause-given c events were =
    let none : option_map ruling_of c.self.inside.refused ≡ None = search rules in
    one_refused events (record { limits = c.self.inside.limits; admitted = c.self.inside.graph; refused = option_map ruling_of c.self.inside.refused }) _ c.args.e.now (ruling_of c.in_ok-verdict.verdict) none refl
    (sym c.in_ok-verdict.ensures) (sym c.is_good.ensures ∙ c.if-is_good.false) refl (subst (WereGiven events) (sym c.self.view_is) were)
