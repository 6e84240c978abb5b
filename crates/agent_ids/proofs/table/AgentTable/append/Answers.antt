use Rattle.std.proofs.Common.{◌≡◌, ◌∙◌, ◌∷◌, ◌++◌, [], suc, List, Some, sym, ap}
use Rattle.std.proofs.lemmas.Option.{same_Some}
use Rattle.std.proofs.lemmas.Result.{on_ok_weaker}
use Rattle.ew_model.specs.declared.id.Id.{Id}
use Rattle.history_definitions.specs.Agents.{count_of, AreNumbered}
use Rattle.agent_ids.specs.IdRuns.{id_with, last_in}
use Rattle.agent_ids.proofs.LastIds.{next_number}
use Rattle.agent_ids.proofs.table.AgentTable.append.Goals as goal

next_of_last : (ids : List Id) (x y id : Id) → AreNumbered ids → last_in ids ≡ Some x → x.agent ≡ id.agent → last_in ids ≡ Some y → id.seq ≡ count_of ids id.agent → id_with y.agent (suc y.seq) ≡ id
next_of_last ids x y id numbered last own there next =
    let agent : y.agent ≡ id.agent = ap (λ (z : Id). z.agent) (same_Some y x (sym there ∙ last)) ∙ own in
    let seq : suc y.seq ≡ id.seq = next_number ids y numbered there ∙ ap (count_of ids) agent ∙ sym next in
    λ i. id_with (agent i) (seq i)

pub returns-then-has_last_of-clause-ok : goal.returns-then-has_last_of-clause-ok
returns-then-has_last_of-clause-ok c =
    let ids : List Id = c.args.self.now in
    let last = c.has_last_of.ensures.last c.if-has_last_of.true in
    on_ok_weaker c.append_next.result
    (λ made. made.2 ∙ ap (λ (y : Id). ids ++ y ∷ []) (next_of_last ids last.0 made.0 c.args.id c.has_last_of.ensures.numbered last.1 last.2 made.1 c.requires.next))
    c.append_next.ensures.ok
