use Rattle.std.proofs.Common.{◌≡◌, ℕ, Bool, List, not, filter, get_or, true, sym, ◌∙◌, subst}
use Rattle.std.proofs.lemmas.Result.{IfOk-weaker}
use Rattle.ew_model.specs.declared.event.Event.{Event}
use Rattle.transform.specs.Placing.{order_ids, AreAt}
use Rattle.transform.specs.Places.{are_deleted, shown_ids}
use Rattle.transform.proofs.ShownCharacters.{order_within, shown_few, shown_there}
use Rattle.transform.proofs.text_order.shown.Goals as goal

-- what is left of the order is where the text's characters are
text_there : (history : List Event) (order placed left : List ℕ) (marks deleted : List Bool) → AreAt history placed (order_ids history) → deleted ≡ are_deleted history → order ≡ placed → marks ≡ deleted
    → left ≡ filter (λ p. not (get_or marks p true)) order → AreAt history left (shown_ids history)
text_there history order placed left marks deleted are is same_order same_marks kept =
    let there : AreAt history order (order_ids history) = subst (λ (ps : List ℕ). AreAt history ps (order_ids history)) (sym same_order) are in
    subst (λ (ps : List ℕ). AreAt history ps (shown_ids history)) (sym kept) (shown_there history order marks there (same_marks ∙ is))

pub not_deleted-requires : goal.not_deleted-requires
not_deleted-requires g c k d lt =
    let history = c.args.graph.now in
    let there : AreAt history c.as_slice-2.result.now (order_ids history) = subst (λ (ps : List ℕ). AreAt history ps (order_ids history)) (sym c.as_slice-2.ensures.value) c.in_ok-placed.ensures.order in
    order_within history c.as_slice-2.result.now c.as_slice-3.result.now there (c.as_slice-3.ensures.value ∙ c.in_ok-deleted.ensures) k d lt

pub returns-clause-shown : goal.returns-clause-shown
returns-clause-shown g c =
    IfOk-weaker c.not_deleted.result _ _ (λ v kept.
    text_there c.args.graph.now c.as_slice-2.result.now c.in_ok-placed.placed.order.items v.items c.as_slice-3.result.now c.in_ok-deleted.deleted.items c.in_ok-placed.ensures.order c.in_ok-deleted.ensures
    c.as_slice-2.ensures.value c.as_slice-3.ensures.value kept)
    c.not_deleted.ensures

pub returns-clause-few : goal.returns-clause-few
returns-clause-few g c =
    IfOk-weaker c.not_deleted.result _ _ (λ v kept.
    shown_few c.args.graph.now v.items c.requires
    (text_there c.args.graph.now c.as_slice-2.result.now c.in_ok-placed.placed.order.items v.items c.as_slice-3.result.now c.in_ok-deleted.deleted.items c.in_ok-placed.ensures.order c.in_ok-deleted.ensures
    c.as_slice-2.ensures.value c.as_slice-3.ensures.value kept))
    c.not_deleted.ensures
