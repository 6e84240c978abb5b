-- What a past text shows.
use Rattle.std.proofs.Common.{◌≡◌, ◌↔◌, ℕ, List, Option, Some, None, Result, Ok, Err, IfOk, refl, sym, ap, ◌∙◌}
use Rattle.std.specs.Global.{Vec}
use Rattle.ew_model.specs.declared.id.Id.{Id}
use Rattle.replica.specs.declared.fault.VersionFault.{VersionFault}
use Rattle.replica.specs.declared.fault.VersionFault.TheVariants.{Unknown, OutOfMemory}
use Rattle.command_table.specs.Table.{prints, unless_unknown}
use Rattle.command_runs.specs.Listings.{Shows}

-- the fault tells exactly the id that isn't held
abbrev pub TellsUnknown : Option Id → Result (Vec ℕ) VersionFault → Type 0
TellsUnknown found result = (x : Id) → (result ≡ Err (Unknown x)) ↔ (found ≡ Some x)

other_end : (result : Result (Vec ℕ) VersionFault) (text : Vec ℕ) (x : Id) → result ≡ Ok text → result ≡ Err (Unknown x) → ⊥
other_end result text x e f = cc

all_held : (found : Option Id) (text : Vec ℕ) → TellsUnknown found (Ok text) → found ≡ None
all_held None text tells = refl
all_held (Some x) text tells = absurd (other_end (Ok text) text x refl ((tells x).1 refl))

-- a text that was found is shown, and so is the id that isn't held
pub found_shows : (found : Option Id) (text : List ℕ) (result : Result (Vec ℕ) VersionFault) → IfOk result (λ bytes. bytes.items ≡ text) → TellsUnknown found result → Shows (unless_unknown found (prints text)) result
found_shows found text (Ok bytes) is tells = ap (λ o. unless_unknown o (prints text)) (all_held found bytes tells) ∙ ap prints (sym is)
found_shows found text (Err (Unknown x)) is tells = ap (λ o. unless_unknown o (prints text)) ((tells x).0 refl)
found_shows found text (Err OutOfMemory) is tells = tt
