-- Right children, by their paths.
use Rattle.std.proofs.Common.{◌≡◌, true, List, [], ◌∷◌, sym, ap, ◌∙◌, append-nil}
use Rattle.std.specs.Ordering.{is_lt}
use Rattle.ew_model.specs.Paths.{Step, path_cmp, path_lt, is_right_child}
use Rattle.ew_model.proofs.SiblingLaws.{common_front}
use Rattle.ew_model.proofs.NewNodes.{child_form}

-- it stands behind the node
pub child_behind : (v z : List Step) → is_right_child v z ≡ true → path_lt v z ≡ true
child_behind v z h =
    let form = child_form v z h in
    (λ i. path_lt (sym (append-nil v) i) (form.1 i)) ∙ ap is_lt (common_front v [] (form.0 ∷ [])) ∙ ap (λ side. is_lt (path_cmp [] (record { side = side; child = form.0.child } ∷ []))) form.2
