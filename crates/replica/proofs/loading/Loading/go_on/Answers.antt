use Rattle.std.proofs.Common.{◌≡◌, ◌∷◌, ◌++◌, [], None, option_map, rules, ◌∙◌, sym, ap, subst}
use Rattle.std.proofs.lemmas.Option.{same_Some}
use Rattle.ew_model.specs.declared.id.Id.{Id}
use Rattle.ew_model.specs.Answers.{ruling_of}
use Rattle.history_definitions.specs.Chains.{event_behind, last_id}
use Rattle.event_graph.proofs.GoingOn.{good_behind}
use Rattle.replica.specs.Giving.{Given, WereGiven}
use Rattle.replica.proofs.Giving.{all_admitted, one_admitted}
use Rattle.replica.proofs.loading.Loading.go_on.Goals as goal
use Rattle.history_definitions.proofs.LastIds.{last_pushed}

pub returns-clause-given : goal.returns-clause-given
returns-clause-given c events e were =
    let graph = c.self.inside.graph in
    let old : Given = record { limits = c.self.inside.limits; admitted = graph; refused = option_map ruling_of c.self.inside.refused } in
    let new : Given = record { limits = c.self.inside.limits; admitted = c.go_on.new.self; refused = option_map ruling_of c.self.inside.refused } in
    let none : option_map ruling_of c.self.inside.refused ≡ None = search rules in
    let given : WereGiven (events ++ e ∷ []) old = subst (WereGiven (events ++ e ∷ [])) (sym c.self.view_is) were in
    let on = c.in_ok-go_on.ensures.ok in
    let same : on.0 ≡ e.id = same_Some on.0 e.id (sym on.1 ∙ ap last_id (sym (all_admitted (events ++ e ∷ []) old none given)) ∙ last_pushed events e) in
    subst (λ (x : Id). WereGiven ((events ++ e ∷ []) ++ event_behind x c.args.op ∷ []) new) same
    (one_admitted (events ++ e ∷ []) old new (event_behind on.0 c.args.op) none none (good_behind graph given.admitted on.0 on.1 c.args.op) on.2 given)
