-- What a line of a state's calls leaves open, where only the last prepared event is taken out, and only the last one taken out comes back.
use Rattle.std.specs.Prelude.{◌≡◌, ◌<◌, ℕ, true, false, List, [], ◌∷◌, if◌then◌else◌}
use Rattle.std.specs.List.{list_any}
use Rattle.std.specs.BTreeMap.{is_at}
use Rattle.std.specs.BTreeSet.{BTreeSet, contains}
use Rattle.ew_model.specs.declared.id.Id.{Id}
use Rattle.ew_model.specs.Ids.{id_cmp}
use Rattle.ew_model.specs.Sets.{Among}
use Rattle.ew_model.specs.Tree.{Applied}
use Rattle.ew_model.specs.Records.{holds, inserts_as}
use Rattle.advance_retreat.specs.Kept.{Kept}
use Rattle.advance_retreat.specs.Standing.{StandsFor}
use Rattle.advance_retreat.specs.Conditions.{MayAdvanceTo}

-- the next position, the ids in use, what is prepared, and what was taken out since, the last one first in both
pub record Calls : Type 0 where
  pub next : ℕ
  pub ids : BTreeSet Id
  pub prepared : List ℕ
  pub out : List ℕ

-- the id was not in use, and is
pub record UsesId (old new : Calls) (id : Id) : Type 0 where
  pub was : contains id_cmp old.ids id ≡ false
  pub is : (x : Id) → contains id_cmp new.ids x ≡ (if is_at (id_cmp id) x then true else contains id_cmp old.ids x)
  pub next : new.next ≡ old.next
  pub prepared : new.prepared ≡ old.prepared
  pub out : new.out ≡ old.out

-- all of these positions are lower
abbrev pub AreBelow : ℕ → List ℕ → Type 0
AreBelow n ns = (m : ℕ) → holds ns m ≡ true → m < n

-- each position is above those behind it
abbrev pub IsFalling : List ℕ → Type 0
IsFalling [] = Unit {0}
IsFalling (n ∷ ns) = AreBelow n ns × IsFalling ns

-- the event may come back, above all that is prepared
pub record ComesBack (events : List (Applied ℕ)) (prepared : List ℕ) (n : ℕ) : Type 0 where
  pub may : MayAdvanceTo events prepared n
  pub above : AreBelow n prepared

-- each of the events comes back, where those before it did
abbrev pub ComeBack : List (Applied ℕ) → List ℕ → List ℕ → Type 0
ComeBack events prepared [] = Unit {0}
ComeBack events prepared (n ∷ ns) = ComesBack events prepared n × ComeBack events (n ∷ prepared) ns

-- the events were applied in order, each over earlier ones, under ids in use
pub record AreCalled (events : List (Applied ℕ)) (c : Calls) : Type 0 where
  pub earlier : (a : Applied ℕ) → Among a events → a.name < c.next
  pub over : (a : Applied ℕ) → Among a events → AreBelow a.name a.over
  pub ids : (x : Id) → contains id_cmp c.ids x ≡ false → list_any (λ (a : Applied ℕ). inserts_as x a.act) events ≡ false
  pub prepared : IsFalling c.prepared
  pub out : ComeBack events c.prepared c.out

-- the state stands for events that were called so
abbrev pub IsInLine : Kept → Calls → Type 0
IsInLine s c = (b : ℕ) × (events : List (Applied ℕ)) × StandsFor s b events c.prepared × AreCalled events c
