use Rattle.std.proofs.Common.{◌≡◌, ◌∙◌, ◌+◌, ◌<◌, ◌^◌, ◌++◌, ℕ, suc, List, take, length, sym, ap, subst, arith, length-append}
use Rattle.std.proofs.Math.Seq.{take-append_seam}
use Rattle.ew_model.specs.declared.id.Id.{Id}
use Rattle.agent_ids.specs.IdRuns.{id_with, ids_from}
use Rattle.history_definitions.specs.Agents.{count_of, AreNumbered}
use Rattle.agent_ids.specs.Table.{AreAgents, IsTable}
use Rattle.agent_ids.proofs.OwnPositions.{kept_alike}
use Rattle.agent_ids.proofs.Numbers.{numbered_front, numbered_next}
use Rattle.agent_ids.proofs.table.AgentTable.cut_run.Goals as goal

pub remove_positions-requires : goal.remove_positions-requires
remove_positions-requires c = let alike = kept_alike _ _ _ c.self.invariant.agents in omega (arith, alike, c.self.inside.positions.ok.0)

cut : (all left : List Id) (first : Id) (more : ℕ) (names lists names' lists' : List (List ℕ)) (last : ℕ) → IsTable all names lists last → all ≡ left ++ ids_from first (suc more)
    → ((ids : List Id) (more : ℕ) → AreAgents (ids ++ ids_from first (suc more)) names lists → first.seq ≡ count_of ids first.agent → AreAgents ids names' lists')
    → AreAgents left names' lists' × AreNumbered left × (length left < 2 ^ 32)
cut all left first more names lists names' lists' last table whole removed =
    let was : IsTable (left ++ ids_from first (suc more)) names lists last = subst (λ (xs : List Id). IsTable xs names lists last) whole table in (
      removed left more was.agents (numbered_next left first (ids_from (id_with first.agent (first.seq + 1)) more) was.numbered),
      numbered_front left (ids_from first (suc more)) was.numbered,
      omega (arith, was.few, length-append left (ids_from first (suc more))),
    )

pub number_of_last-self-inside-requires : goal.number_of_last-self-inside-requires
number_of_last-self-inside-requires c =
    (cut c.self.inside.ids c.cut_run.new.self c.in-Some.first c.in-Some.ensures.some.0 c.self.inside.names.keys c.self.inside.positions.items c.remove_positions.new.names.keys c.remove_positions.new.positions.items
    c.self.inside.last_agent c.self.invariant c.in-Some.ensures.some.1 c.remove_positions.ensures).0.named

pub invariant_of-self : goal.invariant_of-self
invariant_of-self c =
    let left =
    cut c.self.inside.ids c.cut_run.new.self c.in-Some.first c.in-Some.ensures.some.0 c.self.inside.names.keys c.self.inside.positions.items c.remove_positions.new.names.keys c.remove_positions.new.positions.items
    c.self.inside.last_agent c.self.invariant c.in-Some.ensures.some.1 c.remove_positions.ensures in
    record { agents = left.0; numbered = left.1; few = left.2; last_is = c.number_of_last-self-inside.ensures }

pub returns-in-Some : goal.returns-in-Some
returns-in-Some c =
    let first = c.in-Some.first in
    let left : List Id = c.cut_run.new.self in
    let more = c.in-Some.ensures.some.0 in
    let whole : c.args.self.now ≡ left ++ ids_from first (suc more) = sym c.self.view_is ∙ c.in-Some.ensures.some.1 in
    let long = ap (length {A = Id}) whole in
    record {
      front = (
        length left,
        c.in-Some.ensures.front,
        omega (arith, long, length-append left (ids_from first (suc more))),
        sym (ap (take (length left)) whole ∙ take-append_seam left (ids_from first (suc more))),
      );
    }
