-- The listings of a history, as they are printed.
use Rattle.std.specs.Prelude.{ℕ, List, [], ◌∷◌, ◌++◌, length, flat_map, codes, decimal}
use Rattle.ew_model.specs.declared.id.Id.{Id}
use Rattle.ew_model.specs.declared.event.Op.{Op}
use Rattle.ew_model.specs.declared.event.Op.TheVariants.{Ins, Del, Mark}
use Rattle.ew_model.specs.declared.event.Event.{Event}
use Rattle.ew_model.specs.Ancestors.{heads}
use Rattle.ew_model.specs.Cuts.{cuts_of}
use Rattle.ew_model.specs.Writable.{agents_of}
use Rattle.ew_model.specs.Ids.{id_cmp}
use Rattle.ew_model.specs.Scripts.{escaped_char, id_text, spaced, version_text}
use Rattle.ew_model.specs.Sorting.{sort_by}
use Rattle.ew_model.specs.Texts.{text_of}

-- the words of an operation: what it does, at which index, and the character of an insertion; or a mark's label
abbrev pub op_words : Op → List (List ℕ)
op_words (Ins at ch) = codes "ins" ∷ decimal at ∷ escaped_char ch ∷ []
op_words (Del at) = codes "del" ∷ decimal at ∷ []
op_words (Mark label) = codes "mark" ∷ label ∷ []

-- the line of an event: its id, its parents, its operation
unfoldable pub event_line : Event → List ℕ
event_line e = spaced (id_text e.id ∷ version_text e.parents ∷ op_words e.op) ++ codes "\n"

-- the log: each event of the history on a line
abbrev pub log_text : List Event → List ℕ
log_text history = flat_map event_line history

-- the line of an event in the list of marks: the id and the label of a mark; any other event has none
abbrev pub mark_line : Id → Op → List ℕ
mark_line x (Ins at ch) = []
mark_line x (Del at) = []
mark_line x (Mark label) = spaced (id_text x ∷ label ∷ []) ++ codes "\n"

-- the marks, in the history's order, each on a line
abbrev pub marks_text : List Event → List ℕ
marks_text history = flat_map (λ e. mark_line e.id e.op) history

-- an id on a line
abbrev pub id_line : Id → List ℕ
id_line x = id_text x ++ codes "\n"

-- ids, each on a line
abbrev pub id_lines : List Id → List ℕ
id_lines ids = flat_map id_line ids

-- the heads, ascending
abbrev pub heads_text : List Event → List ℕ
heads_text history = id_lines (sort_by id_cmp (heads history))

-- a word and a number on a line
abbrev pub number_line : List ℕ → ℕ → List ℕ
number_line word n = word ++ codes " " ++ decimal n ++ codes "\n"

-- how many events, agents, heads and critical cuts there are, and how long the text is
abbrev pub check_text : List Event → List ℕ
check_text history =
    number_line (codes "events") (length history)
    ++ number_line (codes "agents") (length (agents_of history))
    ++ number_line (codes "heads") (length (heads history))
    ++ number_line (codes "cuts") (length (cuts_of history))
    ++ number_line (codes "length") (length (text_of history))
