-- What is short on the way is short at the end; and insertions are counted.
use Rattle.std.proofs.Common.{◌≡◌, ◌+◌, ◌≤◌, ℕ, Bool, true, false, cond, refl, zero-add, List, [], ◌∷◌, length, count_by}
use Rattle.std.proofs.lemmas.List.Recursion.{is_count_by}
use Rattle.ew_model.specs.declared.text_op.TextOp.{TextOp}
use Rattle.ew_model.specs.Operations.{changed_by, changed_by_all}
use Rattle.rope.specs.Changes.{is_insertion, room_for_all}
use Rattle.rope.specs.Lengths.{most_chars, AllStayShort}

-- the last of the texts is short
pub short_at_last : (text : List ℕ) (ops : List TextOp) → AllStayShort text ops → length (changed_by_all ops text) ≤ most_chars
short_at_last text [] h = h
short_at_last text (op ∷ ops) h = short_at_last (changed_by op text) ops h.1

-- so is the first
pub short_first : (text : List ℕ) (ops : List TextOp) → AllStayShort text ops → length text ≤ most_chars
short_first text [] h = h
short_first text (op ∷ ops) h = h.0

room_at : (b : Bool) (n : ℕ) → cond b 1 0 + n ≡ cond b (1 + n) n
room_at true n = refl
room_at false n = zero-add n

-- the room for operations is as many places as they have insertions
pub room_for_all-counted : (ops : List TextOp) → room_for_all ops ≡ count_by is_insertion ops
room_for_all-counted ops = is_count_by room_for_all is_insertion refl (λ op more. room_at (is_insertion op) (room_for_all more)) ops
