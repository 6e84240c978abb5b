use Rattle.std.proofs.Common.{◌≡◌, ◌∙◌, ◌∷◌, ◌<◌, List, length, find, slice_get, Option, None, sym, ap, subst}
use Rattle.ew_model.specs.declared.id.Id.{Id}
use Rattle.ew_model.specs.Ids.{ids_ascend, id_cmp}
use Rattle.ew_model.specs.Edits.{knows_agent, with_front}
use Rattle.ew_model.proofs.EditHeads.{heads_ascend}
use Rattle.ew_model.proofs.GoodLaws.{good_laid_out}
use Rattle.ew_model.proofs.MarkGroups.{sorted_heads}
use Rattle.ew_model.proofs.SortingLaws.{NoTies}
use Rattle.replica.proofs.MarkOrder.{own_in_front, order_is}
use Rattle.replica.proofs.marking.joining_order.Goals as goal
use Rattle.replica.proofs.marking.joining_order.Goals.{in-Some+in_ok-insert, in_default}

pub place_of_own-requires-clause-ascending : goal.place_of_own-requires-clause-ascending
place_of_own-requires-clause-ascending c = ap ids_ascend (c.deref.ensures.value ∙ c.in_ok-heads.ensures) ∙ heads_ascend c.args.graph.now (good_laid_out c.args.graph.now c.requires)

pub returns : goal.returns
returns c =
    let now = c.args.graph.now in
    let agent = c.args.agent.now in
    let ids = c.in_ok-heads.heads.items in
    let test = knows_agent now agent in
    let apart : NoTies id_cmp ids = subst (NoTies id_cmp) (sym c.in_ok-heads.ensures) (sorted_heads now (good_laid_out now c.requires)) in
    order_is now agent c.match-branch-3.heads.items ids c.in_ok-heads.ensures (elim c.match-branch-3.branch [
      | in-Some+in_ok-insert w ↦
          let place = w.in-Some.place in
          let found : slice_get ids place ≡ find test ids = subst (λ (xs : List Id). slice_get xs place ≡ find test xs) c.deref.ensures.value (rw w.in-Some.is at c.in_ok-place.ensures.value) in
          let within : place < length ids = subst (λ (xs : List Id). place < length xs) c.deref.ensures.value (rw w.in-Some.is at c.in_ok-place.ensures.within) in
          rw w.heads-is (
          w.in_ok-insert.ensures.items ∙ ap (λ (xs : List Id). w.remove-own.result ∷ xs) w.remove-own.ensures.items
          ∙ own_in_front test ids place w.remove-own.result apart found within w.remove-own.ensures.value)
      | in_default w ↦
          let none : None ≡ find test ids = subst (λ (xs : List Id). None ≡ find test xs) c.deref.ensures.value (rw w.in_default.is at c.in_ok-place.ensures.value) in
          rw w.heads-is (ap (λ (o : Option Id). with_front o ids) none)
    ])
