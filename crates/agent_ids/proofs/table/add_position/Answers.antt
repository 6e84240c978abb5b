use Rattle.std.proofs.Common.{◌≡◌, ◌∙◌, ◌∷◌, ◌++◌, [], ℕ, List, length, slice_get, sym, ap, subst, nat_eq, position}
use Rattle.std.specs.Cmp.Lexicographic.{pointwise}
use Rattle.agent_ids.specs.Table.{AreAgents}
use Rattle.agent_ids.proofs.OwnPositions.{place_within, found_name, searched, more_of_agent, more_of_new}
use Rattle.ew_model.proofs.PositionCuts.{last_at}
use Rattle.agent_ids.proofs.table.add_position.Goals as goal

pub start_agent-requires : goal.start_agent-requires
start_agent-requires c = record { new = c.in-None.ensures.absent }

pub returns-in_ok-push-in-Some-clause-ok : goal.returns-in_ok-push-in-Some-clause-ok
returns-in_ok-push-in-Some-clause-ok c ids id t long agent =
    more_of_agent ids id c.args.names.now.keys c.args.positions.now.items c.in-Some.number c.index_mut.result.now c.push.new.self t
    (ap (λ a. position (pointwise nat_eq a) c.args.names.now.keys) agent ∙ sym c.in-Some.ensures.index) c.index_mut.ensures.value
    (place_within ids c.args.names.now.keys c.args.positions.now.items c.in-Some.number t c.in-Some.ensures.within)
    (c.in_ok-push-in-Some.ensures.ok ∙ ap (λ p. c.index_mut.result.now ++ p ∷ []) (sym long))

pub returns-in_ok-start_agent-in-None-clause-ok : goal.returns-in_ok-start_agent-in-None-clause-ok
returns-in_ok-start_agent-in-None-clause-ok c ids id t long agent =
    let names : c.args.names.now.keys ++ id.agent ∷ [] ≡ c.start_agent.new.names.keys = ap (λ a. c.args.names.now.keys ++ a ∷ []) agent ∙ sym c.in_ok-start_agent-in-None.ensures.names in
    let lists : List (List ℕ) = c.args.positions.now.items in
    let places : lists ++ (length ids ∷ []) ∷ [] ≡ c.start_agent.new.positions.items = ap (λ p. lists ++ (p ∷ []) ∷ []) long ∙ sym c.in_ok-start_agent-in-None.ensures.positions in
    let there : AreAgents (ids ++ id ∷ []) (c.args.names.now.keys ++ id.agent ∷ []) (lists ++ (length ids ∷ []) ∷ []) =
    more_of_new ids id c.args.names.now.keys lists t (ap (λ a. position (pointwise nat_eq a) c.args.names.now.keys) agent ∙ sym c.in-None.ensures.index) in
    subst (λ (ls : List (List ℕ)). AreAgents (ids ++ id ∷ []) c.start_agent.new.names.keys ls) places (subst (λ (ns : List (List ℕ)). AreAgents (ids ++ id ∷ []) ns (lists ++ (length ids ∷ []) ∷ [])) names there)

pub returns-in_ok-push-in-Some-clause-number : goal.returns-in_ok-push-in-Some-clause-number
returns-in_ok-push-in-Some-clause-number c = found_name c.args.names.now.keys c.args.name.now c.in-Some.number (sym (searched c.args.names.now.keys c.args.name.now) ∙ sym c.in-Some.ensures.index)

pub returns-in_ok-start_agent-in-None-clause-number : goal.returns-in_ok-start_agent-in-None-clause-number
returns-in_ok-start_agent-in-None-clause-number c =
    ap (slice_get c.start_agent.new.names.keys) c.len-count.ensures.len ∙ ap (λ (ns : List (List ℕ)). slice_get ns (length c.args.names.now.keys)) c.in_ok-start_agent-in-None.ensures.names ∙ last_at c.args.names.now.keys c.args.name.now
