-- What is known of the characters of a history by the positions of their events.
use Rattle.std.specs.Prelude.{◌≡◌, ℕ, List, map}
use Rattle.ew_model.specs.declared.event.Event.{Event}
use Rattle.ew_model.specs.Texts.{text_chars}
use Rattle.transform.specs.Placing.{AreAt}

-- the events at these positions inserted the visible characters, in their order
abbrev pub AreShownAt : List Event → List ℕ → Type 0
AreShownAt history positions = AreAt history positions (map (λ z. z.id) (text_chars history))

-- these are the visible characters
abbrev pub AreShown : List Event → List ℕ → Type 0
AreShown history chars = chars ≡ map (λ z. z.ch) (text_chars history)
