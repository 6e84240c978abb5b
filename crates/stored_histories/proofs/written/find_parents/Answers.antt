use Rattle.std.proofs.Common.{◌≡◌, ◌∙◌, ◌++◌, ◌∷◌, [], ◌-◌, ◌<◌, ◌≤◌, suc, true, All, ap, sym, subst, length, arith}
use Rattle.std.proofs.lemmas.List.Elements.{All-cons, All-nil}
use Rattle.ew_model.specs.Positions.{parent_positions, parents_at}
use Rattle.ew_model.specs.declared.id.Id.{Id}
use Rattle.ew_model.specs.Ancestors.{is_held}
use Rattle.event_file.specs.Places.{places_of}
use Rattle.event_file.proofs.Asked.{asked}
use Rattle.stored_histories.proofs.GraphRecords.{one_place}
use Rattle.stored_histories.proofs.written.find_parents.Goals as goal

pub find_all-requires : goal.find_all-requires
find_all-requires c =
    subst (All (λ (x : Id). is_held c.args.graph.now x ≡ true)) (sym c.as_slice.ensures) (asked c.args.graph.now c.args.position c.in_ok-event.event c.requires.writable c.in_ok-event.ensures).held

pub returns : goal.returns
returns c e at =
    let history = c.args.graph.now in
    let positions = c.parents_of-positions.result.items in
    let few : length positions ≤ 1 = omega (arith, c.if-len-gt1.false, c.len.ensures.value) in
    let same : positions ≡ places_of history e.parents =
    one_place history c.args.position e positions c.requires.writable c.count-count.ensures.admitted at c.parents_of-positions.ensures.value c.parents_of-positions.ensures.lower.lower few in
    c.in_ok-extend_from_slice.ensures.items ∙ (ap (λ xs. xs ++ c.as_slice-2.result.now) c.clear-2.ensures.items ∙ c.as_slice-2.ensures ∙ same)

pub returns-then-chain_start_near-position : goal.returns-then-chain_start_near-position
returns-then-chain_start_near-position c e at =
    let history = c.args.graph.now in
    let position = c.args.position in
    let low = c.if-chain_start_near-position.true in
    let next : suc (position - 1) ≡ position = omega (arith, low) in
    let told : (position - 1) ∷ [] ≡ parents_at (parent_positions history) position =
    sym (c.chain_start_near.ensures.chain.links (position - 1) (omega (arith, low)) (omega (arith, low))) ∙ ap (parents_at (parent_positions history)) next in
    let lower : All (λ p. p < position) ((position - 1) ∷ []) = All-cons (λ p. p < position) (position - 1) [] (omega (arith, low)) (All-nil (λ p. p < position)) in
    let same = one_place history position e ((position - 1) ∷ []) c.requires.writable c.count-count.ensures.admitted at told lower (omega arith) in
    c.in_ok-push.ensures.items ∙ (ap (λ xs. xs ++ (position - 1) ∷ []) c.clear.ensures.items ∙ same)
