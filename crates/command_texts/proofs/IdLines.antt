-- A line that tells an id.
use Rattle.std.proofs.Common.{◌≡◌, ◌∙◌, ◌++◌, ℕ, List, sym, ap, append_assoc, codes}
use Rattle.std.specs.Fmt.{decimal}
use Rattle.ew_model.specs.declared.id.Id.{Id}
use Rattle.ew_model.specs.Scripts.{id_text}

-- the id's parts one after another, or the id and then what follows it
pub id_then : (front : List ℕ) (id : Id) (rest : List ℕ) → front ++ (id.agent ++ (codes ":" ++ (decimal id.seq ++ rest))) ≡ front ++ (id_text id ++ rest)
id_then front id rest = ap (λ xs. front ++ xs) (sym (append_assoc (id.agent ++ codes ":") (decimal id.seq) rest ∙ append_assoc id.agent (codes ":") (decimal id.seq ++ rest)))

-- the same where nothing follows
pub id_last : (front : List ℕ) (id : Id) → front ++ (id.agent ++ (codes ":" ++ decimal id.seq)) ≡ front ++ id_text id
id_last front id = ap (λ xs. front ++ xs) (sym (append_assoc id.agent (codes ":") (decimal id.seq)))
