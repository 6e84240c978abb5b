use Rattle.std.proofs.Common.{ℕ, List, [], ◌∷◌, ◌++◌, cond, Some, ap, ◌∙◌, sym}
use Rattle.std.specs.BTreeMap.{get}
use Rattle.std.specs.Cmp.Lexicographic.{slice_cmp}
use Rattle.std.specs.List.{list_any}
use Rattle.std.specs.Option.{option_copied}
use Rattle.std.specs.Ordering.{nat_cmp}
use Rattle.std.proofs.lemmas.Bool.{cond-true}
use Rattle.ew_model.specs.Ids.{name_eq}
use Rattle.ew_model.proofs.ListPlaces.{one_more_new}
use Rattle.ew_model.proofs.IdLaws.{names_equal, name_exact}
use Rattle.event_file.proofs.Tables.{one_more_place, no_place}
use Rattle.event_file.proofs.agents.Agents.add.Goals as goal

pub returns-then-is_at-clause-ok : goal.returns-then-is_at-clause-ok
returns-then-is_at-clause-ok c =
    let agents = c.args.self.now in
    let name = c.args.name.now in
    sym (cond-true (list_any (name_eq name) agents) agents (agents ++ name ∷ []) (c.is_at.ensures.there c.if-is_at.true))

pub invariant_of-self-2 : goal.invariant_of-self-2
invariant_of-self-2 c =
    let i = c.self.inside in
    let name = c.args.name.now in
    let table = get (slice_cmp nat_cmp) i.numbers in
    let items = c.push_reserved.ensures.items ∙ ap (λ (xs : List (List ℕ)). xs ++ name ∷ []) c.in_ok-reserve.ensures.items in
    let new = no_place name_eq names_equal name_exact i.names.items name table c.self.invariant.0 (sym c.get.ensures.value ∙ ap option_copied c.in_default.is) in
    let up = c.in_ok-insert.ensures.updates.0 in
    rw items (
      one_more_place name_eq names_equal name_exact i.names.items name table (get (slice_cmp nat_cmp) c.insert.new.self) c.self.invariant.0 new (λ x. up x ∙ ap (λ n. cond (name_eq name x) (Some n) (table x)) (c.len-number.ensures ∙ i.names.ok.0)),
      one_more_new name_eq names_equal name_exact [] i.names.items name c.self.invariant.1 new,
    )
