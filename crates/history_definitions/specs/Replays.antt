-- The replay of a history, as it is printed.
use Rattle.std.specs.Prelude.{ℕ, List, [], ◌∷◌, ◌++◌, flat_map, codes, decimal}
use Rattle.ew_model.specs.declared.event.Event.{Event}
use Rattle.ew_model.specs.declared.text_op.TextOp.{TextOp}
use Rattle.ew_model.specs.declared.text_op.TextOp.TheVariants.{Ins, Del, Nothing}
use Rattle.ew_model.specs.Operations.{operations}
use Rattle.ew_model.specs.Scripts.{escaped_char, spaced}

-- the words of what an event does to the text: an insertion, a deletion, or nothing
abbrev pub change_words : TextOp → List (List ℕ)
change_words (Ins at ch) = codes "ins" ∷ decimal at ∷ escaped_char ch ∷ []
change_words (Del at) = codes "del" ∷ decimal at ∷ []
change_words Nothing = codes "nothing" ∷ []

-- these on a line
abbrev pub change_line : TextOp → List ℕ
change_line op = spaced (change_words op) ++ codes "\n"

-- operations, each on a line
abbrev pub change_lines : List TextOp → List ℕ
change_lines ops = flat_map change_line ops

-- the replay: what each event does to the text of the events before it, in the history's order
abbrev pub replay_text : List Event → List ℕ
replay_text history = change_lines (operations history)
