use Rattle.std.proofs.Common.{◌≡◌, ◌∙◌, ◌∷◌, [], ◌++◌, ◌≤◌, ◌<◌, ◌+◌, ℕ, List, sym, ap, subst, arith, length, filter, not, nat_eq, lit<}
use Rattle.std.specs.List.{All}
use Rattle.std.specs.List.Sorted.{IsStrictlyIncreasing}
use Rattle.std.proofs.lemmas.List.Kept.{IsStrictlyIncreasing-filter}
use Rattle.std.proofs.lemmas.List.Elements.{recursion_from_All, All-from_recursion}
use Rattle.ew_model.specs.Graph.{is_named}
use Rattle.ew_model.specs.Positions.{AreParents}
use Rattle.ew_model.proofs.PositionFrontier.{frontier_push}
use Rattle.frontier.specs.Heads.{heads_after}
use Rattle.frontier.proofs.Removals.{fewer, some_below, increasing_behind, all_behind}
use Rattle.frontier.proofs.heads.Frontier.insert_event.Goals as goal

pub push_reserved-requires : goal.push_reserved-requires
push_reserved-requires c =
    let kept = λ (h : ℕ). not (is_named nat_eq c.args.parents.now h) in
    let less : length (filter kept c.reserve.new.self.items) ≤ length c.reserve.new.self.items = fewer kept c.reserve.new.self.items in
    let long = ap length c.take_out_all.ensures.items in
    (lit< tt, omega (arith, less, long, c.take_out_all.ensures.capacity, c.in_ok-reserve.ensures.ok))

pub invariant_of-self-2 : goal.invariant_of-self-2
invariant_of-self-2 c =
    let kept = λ (h : ℕ). not (is_named nat_eq c.args.parents.now h) in
    let heads = c.self.inside.heads.items in
    let made : filter kept heads ++ c.args.lv ∷ [] ≡ c.push_reserved.new.self.items =
    ap (λ (xs : List ℕ). filter kept xs ++ c.args.lv ∷ []) (sym c.in_ok-reserve.ensures.items) ∙ ap (λ (xs : List ℕ). xs ++ c.args.lv ∷ []) (sym c.take_out_all.ensures.items) ∙ sym c.push_reserved.ensures.items in
    subst IsStrictlyIncreasing made
    (increasing_behind (filter kept heads) c.args.lv (IsStrictlyIncreasing-filter kept heads c.self.invariant)
    (some_below kept heads c.args.lv (recursion_from_All (λ h. h < c.args.lv) heads (subst (All (λ h. h < c.args.lv)) (sym c.self.view_is) c.requires.next))))

pub returns-clause-frontier : goal.returns-clause-frontier
returns-clause-frontier c history good next parents same =
    let kept = λ (h : ℕ). not (is_named nat_eq c.args.parents.now h) in
    let made : c.push_reserved.new.self.items ≡ heads_after c.args.self.now c.args.lv c.args.parents.now =
    c.push_reserved.ensures.items ∙ ap (λ (xs : List ℕ). xs ++ c.args.lv ∷ []) c.take_out_all.ensures.items
    ∙ ap (λ (xs : List ℕ). filter kept xs ++ c.args.lv ∷ []) (c.in_ok-reserve.ensures.items ∙ c.self.view_is) in
    let there : AreParents (length history) c.args.parents.now = subst (λ n. AreParents n c.args.parents.now) next parents in
    made ∙ (λ i. heads_after (same i) (next i) c.args.parents.now) ∙ sym (frontier_push history c.args.parents.now good there)

pub returns-clause-below : goal.returns-clause-below
returns-clause-below c =
    let kept = λ (h : ℕ). not (is_named nat_eq c.args.parents.now h) in
    let made : heads_after c.args.self.now c.args.lv c.args.parents.now ≡ c.push_reserved.new.self.items =
    sym (c.push_reserved.ensures.items ∙ ap (λ (xs : List ℕ). xs ++ c.args.lv ∷ []) c.take_out_all.ensures.items
    ∙ ap (λ (xs : List ℕ). filter kept xs ++ c.args.lv ∷ []) (c.in_ok-reserve.ensures.items ∙ c.self.view_is)) in
    subst (All (λ h. h < c.args.lv + 1)) made
    (All-from_recursion (λ h. h < c.args.lv + 1) (filter kept c.args.self.now ++ c.args.lv ∷ [])
    (all_behind (filter kept c.args.self.now) c.args.lv (some_below kept c.args.self.now c.args.lv (recursion_from_All (λ h. h < c.args.lv) c.args.self.now c.requires.next))))
