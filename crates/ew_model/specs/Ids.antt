-- Names of agents and ids of events: when two are one, and which is lower.
use Rattle.std.specs.Prelude.{ℕ, Bool, true, ◌&&◌, List, [], ◌∷◌}
use Rattle.std.specs.Ordering.{nat_cmp, ordering_then, is_eq, is_lt}
use Rattle.std.specs.declared.cmp.Ordering.{Ordering}
use Rattle.std.specs.Cmp.Lexicographic.{slice_cmp}
use Rattle.std.specs.List.{list_any}
use Rattle.ew_model.specs.declared.id.Id.{Id}

-- the two are one name
abbrev pub name_eq : List ℕ → List ℕ → Bool
name_eq a b = is_eq (slice_cmp nat_cmp a b)

-- ids go by the agent's bytes, a proper prefix being lower, and then by the number
abbrev pub id_cmp : Id → Id → Ordering
id_cmp a b = ordering_then (slice_cmp nat_cmp a.agent b.agent) (nat_cmp a.seq b.seq)

-- the two are one id
abbrev pub id_eq : Id → Id → Bool
id_eq a b = is_eq (id_cmp a b)

-- the first id is the lower one
abbrev pub id_lt : Id → Id → Bool
id_lt a b = is_lt (id_cmp a b)

-- the id is among these
abbrev pub is_among : List Id → Id → Bool
is_among ids x = list_any (id_eq x) ids

-- each id is lower than the next
abbrev pub ids_ascend : List Id → Bool
ids_ascend [] = true
ids_ascend (x ∷ []) = true
ids_ascend (x ∷ y ∷ ids) = id_lt x y && ids_ascend (y ∷ ids)
