-- The pieces that a line is written in.
use Rattle.std.proofs.Common.{◌≡◌, ℕ, List, ◌∷◌, ◌++◌, codes, sym, ap, ◌∙◌, append_assoc}
use Rattle.ew_model.specs.declared.event.Op.{Op}
use Rattle.ew_model.specs.declared.event.Op.TheVariants.{Ins, Del, Mark}
use Rattle.ew_model.specs.declared.event.Event.{Event}
use Rattle.ew_model.specs.Scripts.{id_text, spaced, version_text}
use Rattle.history_definitions.specs.Listings.{event_line, op_words}

-- three words, joined word by word
three_words : (i v o : List ℕ) → i ++ 32 ∷ (v ++ 32 ∷ o) ≡ i ++ codes " " ++ v ++ codes " " ++ o
three_words i v o =
    sym (append_assoc (i ++ codes " " ++ v) (codes " ") o ∙ append_assoc (i ++ codes " ") v (32 ∷ o) ∙ append_assoc i (codes " ") (v ++ 32 ∷ o))

-- an event's line, piece by piece
event_pieces : (e : Event) → event_line e ≡ (id_text e.id ++ codes " " ++ version_text e.parents) ++ codes " " ++ spaced (op_words e.op) ++ codes "\n"
unfolding event_line
event_pieces e = at e.op
  where
    at : (op : Op) → spaced (id_text e.id ∷ version_text e.parents ∷ op_words op) ++ codes "\n" ≡ (id_text e.id ++ codes " " ++ version_text e.parents) ++ codes " " ++ spaced (op_words op) ++ codes "\n"
    at (Ins place ch) = ap (λ x. x ++ codes "\n") (three_words (id_text e.id) (version_text e.parents) (spaced (op_words (Ins place ch))))
    at (Del place) = ap (λ x. x ++ codes "\n") (three_words (id_text e.id) (version_text e.parents) (spaced (op_words (Del place))))
    at (Mark label) = ap (λ x. x ++ codes "\n") (three_words (id_text e.id) (version_text e.parents) (spaced (op_words (Mark label))))

-- four pieces behind a list
four_behind : (o a b c d : List ℕ) → o ++ a ++ b ++ c ++ d ≡ o ++ (a ++ b ++ c ++ d)
four_behind o a b c d =
    append_assoc (o ++ a ++ b) c d ∙ append_assoc (o ++ a) b (c ++ d) ∙ append_assoc o a (b ++ (c ++ d))
    ∙ ap (λ x. o ++ x) (sym (append_assoc (a ++ b) c d ∙ append_assoc a b (c ++ d)))

-- an event's line behind a list, piece by piece
pub event_behind : (o : List ℕ) (e : Event)
    → o ++ (id_text e.id ++ codes " " ++ version_text e.parents) ++ codes " " ++ spaced (op_words e.op) ++ codes "\n" ≡ o ++ event_line e
event_behind o e =
    four_behind o (id_text e.id ++ codes " " ++ version_text e.parents) (codes " ") (spaced (op_words e.op)) (codes "\n") ∙ ap (λ x. o ++ x) (sym (event_pieces e))
