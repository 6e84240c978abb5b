-- The events of the rows.
use Rattle.std.proofs.Common.{ℕ, ◌+◌, List, [], ◌∷◌, ◌++◌}
use Rattle.ew_model.specs.declared.id.Id.{Id}
use Rattle.ew_model.specs.declared.event.Op.{Op}
use Rattle.ew_model.specs.declared.event.Op.TheVariants.{Ins, Del}
use Rattle.ew_model.specs.declared.event.Event.{Event}

-- agents of one letter, by its code
abbrev pub id : ℕ → ℕ → Id
id agent n = record { agent = agent ∷ []; seq = n }

abbrev pub event : Id → Op → List Id → Event
event x op parents = record { id = x; parents = parents; op = op }

abbrev pub ins : ℕ → ℕ → ℕ → ℕ → List Id → Event
ins agent n at ch parents = event (id agent n) (Ins at ch) parents

abbrev pub del : ℕ → ℕ → ℕ → List Id → Event
del agent n at parents = event (id agent n) (Del at) parents

-- characters typed one after another, from a number and a place on
abbrev pub typed : ℕ → ℕ → ℕ → List ℕ → List Id → List Event
typed agent n at [] parents = []
typed agent n at (c ∷ cs) parents = ins agent n at c parents ∷ typed agent (n + 1) (at + 1) cs (id agent n ∷ [])

-- characters typed at 0, each before the one before
abbrev pub typed_back : ℕ → ℕ → List ℕ → List Id → List Event
typed_back agent n [] parents = []
typed_back agent n (c ∷ cs) parents = ins agent n 0 c parents ∷ typed_back agent (n + 1) cs (id agent n ∷ [])

abbrev pub abc : List Event
abc = typed 97 0 0 (97 ∷ 98 ∷ 99 ∷ []) []

abbrev pub xyz : List Event
xyz = typed 98 0 0 (120 ∷ 121 ∷ 122 ∷ []) []

-- abc, then b deletes at 1 and c inserts Q at 2, each knowing abc
abbrev pub delete_beside_insert : List Event
delete_beside_insert = abc ++ del 98 0 1 (id 97 2 ∷ []) ∷ ins 99 0 2 81 (id 97 2 ∷ []) ∷ []

-- abc, then b and c both delete at 1
abbrev pub twice_deleted : List Event
twice_deleted = abc ++ del 98 0 1 (id 97 2 ∷ []) ∷ del 99 0 1 (id 97 2 ∷ []) ∷ []

-- ab, of which a is deleted
abbrev pub first_deleted : List Event
first_deleted = typed 97 0 0 (97 ∷ 98 ∷ []) [] ++ del 97 2 0 (id 97 1 ∷ []) ∷ []

abbrev pub two_at_start : List Event
two_at_start = ins 98 0 0 88 (id 97 2 ∷ []) ∷ ins 99 0 0 89 (id 97 2 ∷ []) ∷ []

abbrev pub abcdef : List Event
abcdef = typed 97 0 0 (97 ∷ 98 ∷ 99 ∷ 100 ∷ 101 ∷ 102 ∷ []) []

-- a, then b and c beside each other
abbrev pub fork : List Event
fork = ins 97 0 0 97 [] ∷ ins 98 0 1 98 (id 97 0 ∷ []) ∷ ins 99 0 1 99 (id 97 0 ∷ []) ∷ []

-- a fork and a join
abbrev pub diamond : List Event
diamond = ins 97 0 0 97 [] ∷ ins 98 0 1 98 (id 97 0 ∷ []) ∷ ins 99 0 1 99 (id 97 0 ∷ []) ∷ ins 100 0 3 100 (id 98 0 ∷ id 99 0 ∷ []) ∷ []
