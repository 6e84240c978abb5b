-- The order in which a walk takes events out of what is prepared, and puts events in (Eg-walker, EuroSys 2025, section 3.2:
-- retreat and advance).
use Rattle.std.specs.Prelude.{◌≡◌, ℕ, ◌<◌, true, not, ◌&&◌, List, [], ◌∷◌, drop, nat_eq, ◌++◌}
use Rattle.std.specs.List.{AllByRecursion}
use Rattle.ew_model.specs.declared.id.Id.{Id}
use Rattle.ew_model.specs.declared.event.Event.{Event}
use Rattle.ew_model.specs.Sets.{Among}
use Rattle.ew_model.specs.Ancestors.{ancestors}
use Rattle.ew_model.specs.Verdicts.{IsGood}
use Rattle.ew_model.specs.Sound.{AreSound}
use Rattle.ew_model.specs.Operations.{operations_of, next_operation}
use Rattle.ew_model.specs.Walks.{walked_from}
use Rattle.ew_model.specs.Tree.{Applied, tree_of}
use Rattle.ew_model.specs.Walks.{positions_among}
use Rattle.ew_model.specs.Records.{holds, without, IsClosed, MayAdvance, MayRetreat, IsRun, walker_records, MayApply, next_of}

-- each event was applied over lower names than its own
abbrev pub LookBack : List (Applied ℕ) → Type 0
LookBack events = (c : Applied ℕ) → Among c events → (n : ℕ) → holds c.over n ≡ true → n < c.name

-- each name is higher than all that follow, or lower
abbrev pub Falling : List ℕ → Type 0
Falling [] = Unit {0}
Falling (x ∷ xs) = AllByRecursion (λ y. y < x) xs × Falling xs

abbrev pub Rising : List ℕ → Type 0
Rising [] = Unit {0}
Rising (x ∷ xs) = AllByRecursion (λ y. x < y) xs × Rising xs

-- these are the names that the first list holds and the second doesn't
abbrev pub AreAlone : List ℕ → List ℕ → List ℕ → Type 0
AreAlone names a b = (n : ℕ) → holds names n ≡ holds a n && not (holds b n)

-- what is prepared after retreats, and after advances
abbrev pub after_retreats : List ℕ → List ℕ → List ℕ
after_retreats prepared [] = prepared
after_retreats prepared (x ∷ xs) = after_retreats (without x prepared) xs

abbrev pub after_advances : List ℕ → List ℕ → List ℕ
after_advances prepared [] = prepared
after_advances prepared (x ∷ xs) = after_advances (x ∷ prepared) xs

-- each of the retreats may be made where those before it were, and each of the advances
abbrev pub MayRetreatAll : List (Applied ℕ) → List ℕ → List ℕ → Type 0
MayRetreatAll events prepared [] = Unit {0}
MayRetreatAll events prepared (x ∷ xs) = MayRetreat events prepared x × MayRetreatAll events (without x prepared) xs

abbrev pub MayAdvanceAll : List (Applied ℕ) → List ℕ → List ℕ → Type 0
MayAdvanceAll events prepared [] = Unit {0}
MayAdvanceAll events prepared (x ∷ xs) = MayAdvance events prepared x × MayAdvanceAll events (x ∷ prepared) xs

-- From a to b: what is in a alone may be taken out from the highest name down, then what is in b alone may be put in
-- from the lowest up, and then b is prepared.
pub record Moves (events : List (Applied ℕ)) (a b downs ups : List ℕ) : Type 0 where
  pub down : MayRetreatAll events a downs
  pub up : MayAdvanceAll events (after_retreats a downs) ups
  pub arrived : (n : ℕ) → holds (after_advances (after_retreats a downs) ups) n ≡ holds b n

abbrev pub MovesArrive : Type 0
MovesArrive =
    (events : List (Applied ℕ)) (a b downs ups : List ℕ) → LookBack events → IsClosed events a → IsClosed events b
    → Falling downs → AreAlone downs a b → Rising ups → AreAlone ups b a → Moves events a b downs ups

-- The events of a good history, from any cut on, may be applied one after another, each over the positions of its
-- ancestors behind the cut; and what any version has behind the cut is closed.
pub record Walkable (history : List Event) (k : ℕ) : Type 0 where
  pub run : IsRun [] (walked_from history k)
  pub back : LookBack (walked_from history k)
  pub versions : (version : List Id) → IsClosed (walked_from history k) (positions_among (ancestors history version) k (drop k history))

abbrev pub WalksAreRuns : Type 0
WalksAreRuns = (history : List Event) (k : ℕ) → IsGood history → AreSound history → Walkable history k

-- Events that differ only in how the lists of what they were applied over are written.
abbrev pub AlikeEvents : List (Applied ℕ) → List (Applied ℕ) → Type 0
AlikeEvents [] [] = Unit {0}
AlikeEvents [] (c ∷ others) = ⊥
AlikeEvents (a ∷ events) [] = ⊥
AlikeEvents (a ∷ events) (c ∷ others) = (a.name ≡ c.name) × (a.act ≡ c.act) × ((n : ℕ) → holds a.over n ≡ holds c.over n) × AlikeEvents events others

pub record SameWalk (b : ℕ) (events others : List (Applied ℕ)) : Type 0 where
  pub tree : tree_of nat_eq b events ≡ tree_of nat_eq b others
  pub operations : operations_of nat_eq b events ≡ operations_of nat_eq b others
  pub records : (prepared also : List ℕ) → ((n : ℕ) → holds prepared n ≡ holds also n) → walker_records b events prepared ≡ walker_records b others also

-- such events leave the same, do the same, and have the same records
abbrev pub AlikeWalkAlike : Type 0
AlikeWalkAlike = (b : ℕ) (events others : List (Applied ℕ)) → AlikeEvents events others → SameWalk b events others

-- One turn of a walk, whose next event is a: from what is prepared the moves may be made, a may be applied then, and does what
-- it does in the walk; and the walk stands as before, with one more event.
pub record Turn (b : ℕ) (done events : List (Applied ℕ)) (a : Applied ℕ) (prepared downs ups : List ℕ) : Type 0 where
  pub moves : Moves done prepared a.over downs ups
  pub may : MayApply done (next_of a.name a.act (after_advances (after_retreats prepared downs) ups))
  pub operation : next_operation nat_eq b (tree_of nat_eq b done) (next_of a.name a.act (after_advances (after_retreats prepared downs) ups)) ≡ next_operation nat_eq b (tree_of nat_eq b events) a
  pub alike : AlikeEvents (done ++ next_of a.name a.act (after_advances (after_retreats prepared downs) ups) ∷ []) (events ++ a ∷ [])
  pub run : IsRun [] (done ++ next_of a.name a.act (after_advances (after_retreats prepared downs) ups) ∷ [])
  pub closed : IsClosed (done ++ next_of a.name a.act (after_advances (after_retreats prepared downs) ups) ∷ []) (a.name ∷ after_advances (after_retreats prepared downs) ups)

abbrev pub WalksTurn : Type 0
WalksTurn =
    (b : ℕ) (done events later : List (Applied ℕ)) (a : Applied ℕ) (prepared downs ups : List ℕ)
    → IsRun [] (events ++ a ∷ later) → LookBack (events ++ a ∷ later) → AlikeEvents done events → IsRun [] done → IsClosed done prepared
    → Falling downs → AreAlone downs prepared a.over → Rising ups → AreAlone ups a.over prepared → Turn b done events a prepared downs ups
