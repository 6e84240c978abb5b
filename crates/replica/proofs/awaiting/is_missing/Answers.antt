use Rattle.std.proofs.Common.{◌≡◌, Bool, true, false, not, ◌&&◌, is_some, refl, sym, ap, ◌∙◌}
use Rattle.ew_model.specs.Ids.{id_eq, name_eq}
use Rattle.ew_model.specs.Ancestors.{ids_of, is_held}
use Rattle.replica.proofs.awaiting.is_missing.Goals as goal
use Rattle.ew_model.proofs.ListParts.{is_some-position}

twice_not : (b : Bool) → b ≡ not (not b)
twice_not true = refl
twice_not false = refl

pub returns-then-is_eq : goal.returns-then-is_eq
returns-then-is_eq c =
    let x = c.args.x.now in
    let history = c.args.graph.now in
    let same : name_eq x.agent c.args.agent.now ≡ true = cc in
    let found : is_some c.find.result ≡ is_held history x = ap is_some c.find.ensures.value ∙ is_some-position (id_eq x) (ids_of history) in
    let none : c.is_none.result ≡ not (is_held history x) = twice_not c.is_none.result ∙ ap not (sym c.is_none.ensures ∙ found) in
    none ∙ ap (λ b. b && not (is_held history x)) (sym same)
