use Rattle.std.proofs.Common.{◌≡◌, ◌∙◌, ◌++◌, ◌∷◌, [], List, ap, subst}
use Rattle.std.specs.List.Sorted.{IsPermutation}
use Rattle.ew_model.specs.declared.id.Id.{Id}
use Rattle.ew_model.specs.declared.event.Op.TheVariants as op
use Rattle.ew_model.specs.Ids.{id_cmp}
use Rattle.ew_model.specs.Sorting.{sort_by}
use Rattle.replica.specs.Marking.{ids_of_one}
use Rattle.replica.proofs.MarkParents.{sorted_ids}
use Rattle.replica.proofs.marking.join.Goals as goal
use Rattle.replica.proofs.marking.join.Goals.{in-Some+in_ok-push, in_default}

pub returns : goal.returns
returns c =
    let begun : c.match-before.parents.items ≡ ids_of_one c.args.before = elim c.match-before.branch [
      | in-Some+in_ok-push w ↦ rw w.parents-is (rw w.in-Some.is (w.in_ok-push.ensures.items ∙ ap (λ (ids : List Id). ids ++ w.in-Some.mark ∷ []) c.in_ok-parents.ensures.items))
      | in_default w ↦ rw w.parents-is (rw w.in_default.is c.in_ok-parents.ensures.items)
    ] in
    let named : c.extend_from_slice.new.self.items ≡ ids_of_one c.args.before ++ c.args.group.now = c.in_ok-extend_from_slice.ensures.items ∙ ap (λ (ids : List Id). ids ++ c.args.group.now) begun in
    let after = c.sort_unstable.new.self.items in
    let sorted : after ≡ sort_by id_cmp (ids_of_one c.args.before ++ c.args.group.now) =
    sorted_ids (ids_of_one c.args.before ++ c.args.group.now) after (subst (λ (ids : List Id). IsPermutation ids after) named c.sort_unstable.ensures.permutation) c.sort_unstable.ensures.sorted in
    let parents : c.from_vec.result ≡ sort_by id_cmp (ids_of_one c.args.before ++ c.args.group.now) = c.from_vec.ensures ∙ sorted in
    λ i. record { id = c.args.id; parents = parents i; op = op.Mark c.args.label }
