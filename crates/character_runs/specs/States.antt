-- Records of characters: what they tell of a node, and how they change.
use Rattle.std.specs.Prelude.{ℕ, zero, suc, ◌+◌, ◌<◌, ◌^◌, nat_eq, nat_lt, Bool, true, false, ◌&&◌, if◌then◌else◌, List, [], ◌∷◌, ◌++◌, filter, length}
use Rattle.std.specs.List.{list_any}
use Rattle.ew_model.specs.declared.node.Node.{Node}
use Rattle.ew_model.specs.declared.node.Node.TheVariants.{Base}
use Rattle.ew_model.specs.declared.text_op.TextOp.{TextOp}
use Rattle.ew_model.specs.declared.text_op.TextOp.TheVariants.{Del, Nothing}
use Rattle.ew_model.specs.Records.{one_less}
use Rattle.walker_record.specs.Stretches.{Stretch}
use Rattle.fugue_place.specs.Attachments.{node_eq}
use Rattle.character_runs.specs.declared.change.Change.{Change}
use Rattle.character_runs.specs.declared.change.Change.TheVariants.{Raise, Lower, Strike}

-- the character is visible in what is prepared, and it is inserted there
abbrev pub is_visible : Stretch → Bool
is_visible r = nat_eq r.prepared 1

abbrev pub is_inserted : Stretch → Bool
is_inserted r = nat_lt 0 r.prepared

-- how many are visible there, and how many are in the text
abbrev pub visible_in : List Stretch → ℕ
visible_in rs = length (filter is_visible rs)

abbrev pub shown_in : List Stretch → ℕ
shown_in rs = length (filter (λ (r : Stretch). r.effect) rs)

-- the record of a node
abbrev pub is_of : Node → Stretch → Bool
is_of v r = node_eq r.from v

-- the node is inserted in what is prepared
abbrev pub knows : List Stretch → Node → Bool
knows rs v = list_any (λ (r : Stretch). is_of v r && is_inserted r) rs

-- the node's character is visible there
abbrev pub sees : List Stretch → Node → Bool
sees rs v = list_any (λ (r : Stretch). is_of v r && is_visible r) rs

-- a deletion does nothing to the text where the character isn't there
abbrev pub deletion_by : Bool → ℕ → TextOp
deletion_by true n = Del n
deletion_by false n = Nothing

-- the record of one character
abbrev pub single : Node → ℕ → Bool → Stretch
single v prepared effect = record { from = v; len = 1; prepared = prepared; effect = effect }

-- the records of so many base characters
abbrev pub base_records : ℕ → List Stretch
base_records zero = []
base_records (suc n) = base_records n ++ single (Base n) 1 true ∷ []

-- a record after a change
abbrev pub changed : Change → Stretch → Stretch
changed Raise r = record { from = r.from; len = r.len; prepared = suc r.prepared; effect = r.effect }
changed Lower r = record { from = r.from; len = r.len; prepared = one_less r.prepared; effect = r.effect }
changed Strike r = record { from = r.from; len = r.len; prepared = suc r.prepared; effect = false }

abbrev pub changed_at : Node → Change → Stretch → Stretch
changed_at v change r = if is_of v r then changed change r else r

-- the number of deletions has room for one more
abbrev pub HasRoom : Stretch → Type 0
HasRoom r = r.prepared + 1 < 2 ^ 32
