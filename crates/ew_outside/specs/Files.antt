-- A shelf of files as a finite map, and what a load and a store do to it, where the shelf tells it.
use Rattle.std.specs.Prelude.{◌≡◌, ℕ, ◌+◌, List, take, ⊤, ◌⊎◌, Vec, Result, Ok, Err, Option, None, Some}
use Rattle.std.specs.Global.{Global}
use Rattle.std.specs.Option.{option_map}
use Rattle.std.specs.Ordering.{nat_cmp}
use Rattle.std.specs.Cmp.Lexicographic.{slice_cmp}
use Rattle.std.specs.FinMap.{FinMap, get, insert}
use Rattle.ew_outside.specs.declared.fault.ShelfFault.{ShelfFault}
use Rattle.ew_outside.specs.declared.fault.ShelfFault.TheVariants.{Failed, OutOfMemory}

-- from the bytes of a name to the bytes of its file
abbrev pub Files : Type 0
Files = FinMap (slice_cmp nat_cmp) (List ℕ)

-- the first bytes of a file, up to one more than max
abbrev pub first_of : Files → List ℕ → ℕ → Option (List ℕ)
first_of m name max = option_map (take (max + 1)) (get m name)

-- what a load gives, where the map is told: the first bytes of the file, and nothing exactly where there is no such file
abbrev pub LoadGives : Option Files → List ℕ → ℕ → Result (Option (Vec ℕ Global)) ShelfFault → Type 0
LoadGives (Some m) name max (Ok found) = option_map (λ v. v.items) found ≡ first_of m name max
LoadGives _ name max _ = ⊤

-- the name has these bytes now, and no other name changed
abbrev pub Sets : Option Files → Option Files → List ℕ → List ℕ → Type 0
Sets None new name bytes = ⊤
Sets (Some m) new name bytes = new ≡ Some (insert m name bytes)

-- what a store leaves: the file with its new bytes, or all as before; want of memory leaves all as before
abbrev pub StoreLeaves : {T : Type 0} → Option Files → Option Files → List ℕ → List ℕ → Result T ShelfFault → Type 0
StoreLeaves old new name bytes (Ok _) = Sets old new name bytes
StoreLeaves old new name bytes (Err Failed) = (new ≡ old) ⊎ Sets old new name bytes
StoreLeaves old new name bytes (Err OutOfMemory) = new ≡ old
