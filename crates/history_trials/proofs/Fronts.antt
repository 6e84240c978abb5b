-- A history that only grew has the one that it was as its front.
use Rattle.std.proofs.Common.{◌≡◌, List, [], ◌∷◌, ◌++◌, sym, ◌∙◌, append-nil}
use Rattle.ew_model.specs.declared.event.Event.{Event}
use Rattle.replica.specs.Fronts.{IsFront}

pub same_front : (first second : List Event) → second ≡ first → IsFront first second
same_front first second h = ([], h ∙ sym (append-nil first))

pub next_front : (first second : List Event) (e : Event) → second ≡ first ++ e ∷ [] → IsFront first second
next_front first second e h = (e ∷ [], h)
