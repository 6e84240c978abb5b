-- What the calls of a state require.
use Rattle.std.specs.Prelude.{◌≡◌, ℕ, nat_eq, true, false, List, [], ◌∷◌, ◌++◌}
use Rattle.std.specs.List.{list_any}
use Rattle.ew_model.specs.declared.id.Id.{Id}
use Rattle.ew_model.specs.Sets.{Among}
use Rattle.ew_model.specs.Tree.{Applied}
use Rattle.ew_model.specs.Records.{holds, without, inserts_as, MayAdvance, MayRetreat}
use Rattle.ew_model.specs.Moves.{after_advances, after_retreats}
use Rattle.advance_retreat.specs.Kept.{Kept}
use Rattle.advance_retreat.specs.Standing.{is_applied, StandsFor}

-- no event has this position
abbrev pub IsNewPosition : List (Applied ℕ) → ℕ → Type 0
IsNewPosition events lv = list_any (λ (c : Applied ℕ). nat_eq c.name lv) events ≡ false

-- a deletion may be applied where its position is new
abbrev pub MayDelete : List (Applied ℕ) → ℕ → Type 0
MayDelete events lv = IsNewPosition events lv

-- a mark may be applied where its position is new
abbrev pub MayMark : List (Applied ℕ) → ℕ → Type 0
MayMark events lv = IsNewPosition events lv

-- an insertion may be applied where its position and id are new
pub record MayInsert (events : List (Applied ℕ)) (lv : ℕ) (x : Id) : Type 0 where
  pub position : IsNewPosition events lv
  pub id : list_any (λ (c : Applied ℕ). inserts_as x c.act) events ≡ false

-- an applied event may come into what is prepared, or be taken out
abbrev pub MayAdvanceTo : List (Applied ℕ) → List ℕ → ℕ → Type 0
MayAdvanceTo events prepared lv = is_applied events lv × MayAdvance events prepared lv

abbrev pub MayRetreatFrom : List (Applied ℕ) → List ℕ → ℕ → Type 0
MayRetreatFrom events prepared lv = is_applied events lv × MayRetreat events prepared lv

-- each of the events may come in where those before it did, and each may be taken out where those before it were
abbrev pub MayAdvanceEach : List (Applied ℕ) → List ℕ → List ℕ → Type 0
MayAdvanceEach events prepared [] = Unit {0}
MayAdvanceEach events prepared (x ∷ xs) = MayAdvanceTo events prepared x × MayAdvanceEach events (x ∷ prepared) xs

abbrev pub MayRetreatEach : List (Applied ℕ) → List ℕ → List ℕ → Type 0
MayRetreatEach events prepared [] = Unit {0}
MayRetreatEach events prepared (x ∷ xs) = MayRetreatFrom events prepared x × MayRetreatEach events (without x prepared) xs

-- a front of all these advances was made, and the rest of them may be made now
pub record Advanced (s : Kept) (b : ℕ) (events : List (Applied ℕ)) (prepared all rest : List ℕ) : Type 0 where
  pub made : List ℕ
  pub parts : made ++ rest ≡ all
  pub now : List ℕ
  pub is : now ≡ after_advances prepared made
  pub stands : StandsFor s b events now
  pub may : MayAdvanceEach events now rest

-- the same of retreats
pub record Retreated (s : Kept) (b : ℕ) (events : List (Applied ℕ)) (prepared all rest : List ℕ) : Type 0 where
  pub made : List ℕ
  pub parts : made ++ rest ≡ all
  pub now : List ℕ
  pub is : now ≡ after_retreats prepared made
  pub stands : StandsFor s b events now
  pub may : MayRetreatEach events now rest

-- a front of all these advances was made, and not all of them: the state stands for what is prepared then
pub record PartAdvanced (s : Kept) (b : ℕ) (events : List (Applied ℕ)) (prepared all : List ℕ) : Type 0 where
  pub made : List ℕ
  pub next : ℕ
  pub left : List ℕ
  pub parts : made ++ next ∷ left ≡ all
  pub stands : StandsFor s b events (after_advances prepared made)

-- the same of retreats
pub record PartRetreated (s : Kept) (b : ℕ) (events : List (Applied ℕ)) (prepared all : List ℕ) : Type 0 where
  pub made : List ℕ
  pub next : ℕ
  pub left : List ℕ
  pub parts : made ++ next ∷ left ≡ all
  pub stands : StandsFor s b events (after_retreats prepared made)

-- all events are prepared
abbrev pub AllPrepared : List (Applied ℕ) → List ℕ → Type 0
AllPrepared events prepared = (c : Applied ℕ) → Among c events → holds prepared c.name ≡ true
