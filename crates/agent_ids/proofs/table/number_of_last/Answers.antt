use Rattle.std.proofs.Common.{◌≡◌, ◌∙◌, slice_get, position, nat_eq, sym, ap}
use Rattle.std.specs.Cmp.Lexicographic.{pointwise}
use Rattle.std.proofs.lemmas.Option.{same_Some}
use Rattle.ew_model.specs.declared.id.Id.{Id}
use Rattle.agent_ids.proofs.LastIds.{last_found}
use Rattle.agent_ids.proofs.table.number_of_last.Goals as goal

pub returns-in-Some : goal.returns-in-Some
returns-in-Some c x last =
    let one : c.in-Some.last ≡ x = same_Some c.in-Some.last x (sym c.in-Some.is ∙ c.last.ensures ∙ last) in
    ap (slice_get c.args.names.now.keys) c.unwrap_or.ensures
    ∙ last_found c.args.ids.now x c.args.names.now.keys c.get_index_of.result c.requires last (c.get_index_of.ensures.index ∙ ap (λ (z : Id). position (pointwise nat_eq z.agent) c.args.names.now.keys) one)
