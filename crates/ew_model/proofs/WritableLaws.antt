-- A good history may be written as a file.
use Rattle.std.proofs.Common.{◌≡◌, ◌<◌, ◌^◌, true, not, List, [], ◌∷◌, ◌++◌, length, refl, ap}
use Rattle.std.specs.List.{list_all, AllByRecursion}
use Rattle.std.proofs.lemmas.Bool.{and_from, le-leb}
use Rattle.ew_model.specs.declared.id.Id.{Id}
use Rattle.ew_model.specs.declared.event.Event.{Event}
use Rattle.ew_model.specs.Ancestors.{is_held}
use Rattle.ew_model.specs.Verdicts.{IsGoodAfter, IsGood}
use Rattle.ew_model.specs.Writable.{are_writable_after, IsWritable}
use Rattle.ew_model.proofs.GoodLaws.{next_from_good}

all_held : (held : List Event) (ps : List Id) → AllByRecursion (λ p. is_held held p ≡ true) ps → list_all (is_held held) ps ≡ true
all_held held [] h = refl
all_held held (p ∷ ps) h = and_from (is_held held p) (list_all (is_held held) ps) h.0 (all_held held ps h.1)

writable_after : (before events : List Event) → IsGoodAfter before events → are_writable_after before events ≡ true
writable_after before [] h = refl
writable_after before (e ∷ events) h =
    let next = next_from_good before e h.0 in
    and_from _ _
    (and_from _ _ (and_from _ _ (and_from _ _ (ap not next.new) (all_held before e.parents next.parents)) next.ascend) (le-leb (length e.parents) 16 next.few))
    (writable_after (before ++ e ∷ []) events h.1)

pub good_is_writable : (history : List Event) → IsGood history → length history < 2 ^ 32 → IsWritable history
unfolding IsGood
good_is_writable history good few = record { few = few; each = writable_after [] history good }
