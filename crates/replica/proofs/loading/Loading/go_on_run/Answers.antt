use Rattle.std.proofs.Common.{◌≡◌, ◌≤◌, ◌∷◌, ◌++◌, [], length, length-append, None, option_map, rules, arith, ◌∙◌, sym, ap, subst}
use Rattle.std.proofs.lemmas.Option.{same_Some}
use Rattle.ew_model.specs.declared.id.Id.{Id}
use Rattle.ew_model.specs.declared.event.Event.{Event}
use Rattle.ew_model.specs.Answers.{ruling_of}
use Rattle.history_definitions.specs.Chains.{last_id}
use Rattle.event_runs.specs.RunOps.{ops_of}
use Rattle.event_graph.specs.GoingOn.{chain_behind}
use Rattle.event_graph.proofs.Chains.{chain_admitted}
use Rattle.replica.specs.Giving.{Given, WereGiven}
use Rattle.replica.proofs.Giving.{all_admitted, chain_long, many_admitted}
use Rattle.replica.proofs.loading.Loading.go_on_run.Goals as goal
use Rattle.history_definitions.proofs.LastIds.{last_pushed}

pub invariant_of-self-2 : goal.invariant_of-self-2
invariant_of-self-2 c =
    let ops = ops_of c.args.ops in
    let on = c.in_ok-go_on_run.ensures.ok in
    let size = ap (length {A = Event}) on.2 in
    let both = length-append c.self.inside.graph (chain_behind on.0 ops) in
    let more = chain_long on.0 ops in
    let held = ap (λ (g : Given). length g.admitted) c.self.view_is in
    let most = ap (λ (g : Given). g.limits.events) c.self.view_is in
    let fits : length c.go_on_run.new.self ≤ c.self.inside.limits.events = omega (arith, size, both, more, held, most, c.requires.room) in
    fits

pub returns-clause-given : goal.returns-clause-given
returns-clause-given c events e were =
    let graph = c.self.inside.graph in
    let ops = ops_of c.args.ops in
    let old : Given = record { limits = c.self.inside.limits; admitted = graph; refused = option_map ruling_of c.self.inside.refused } in
    let new : Given = record { limits = c.self.inside.limits; admitted = c.go_on_run.new.self; refused = option_map ruling_of c.self.inside.refused } in
    let none : option_map ruling_of c.self.inside.refused ≡ None = search rules in
    let given : WereGiven (events ++ e ∷ []) old = subst (WereGiven (events ++ e ∷ [])) (sym c.self.view_is) were in
    let on = c.in_ok-go_on_run.ensures.ok in
    let same : on.0 ≡ e.id = same_Some on.0 e.id (sym on.1 ∙ ap last_id (sym (all_admitted (events ++ e ∷ []) old none given)) ∙ last_pushed events e) in
    subst (λ (x : Id). WereGiven ((events ++ e ∷ []) ++ chain_behind x ops) new) same
    (many_admitted (events ++ e ∷ []) (chain_behind on.0 ops) old new none none on.2 (chain_admitted ops graph on.0 given.admitted on.1) given)
