-- The line of a subcommand that was entered.
use Rattle.std.proofs.Common.{◌≡◌, List, Option, None, Some, sym, ap}
use Rattle.std.specs.Option.{option_map}
use Rattle.clap.specs.Words.{Row}
use Rattle.ew_model.proofs.ListPlaces.{some_is}
use Rattle.command_table.specs.Table.{Text, line_in}

none_is_some : {A : Type 0} (x : A) → Some x ≡ None → ⊥
none_is_some x same = cc

-- what has this name and these rows is the two of them
both : {S : Type 0} (name_of : S → Text) (rows_of : S → List Row) (found : Option S) (name : Text) (rows : List Row) → Some name ≡ option_map name_of found
    → Some rows ≡ option_map (λ (p : Text × List Row). p.1) (option_map {U = Text × List Row} (λ (s : S). (name_of s, rows_of s)) found) → option_map {U = Text × List Row} (λ (s : S). (name_of s, rows_of s)) found ≡ Some (name, rows)
both name_of rows_of None name rows named filled = absurd (none_is_some name named)
both name_of rows_of (Some s) name rows named filled =
    let same_name = some_is name (name_of s) named in
    let same_rows = some_is rows (rows_of s) filled in
    sym (λ i. Some (same_name i, same_rows i))

-- the line is that of this name and these rows
pub line_entered : {S : Type 0} (name_of : S → Text) (rows_of : S → List Row) (found : Option S) (name : Text) (rows : List Row) → Some name ≡ option_map name_of found
    → Some rows ≡ option_map (λ (p : Text × List Row). p.1) (option_map {U = Text × List Row} (λ (s : S). (name_of s, rows_of s)) found)
    → line_in (Some (name, rows)) ≡ line_in (option_map {U = Text × List Row} (λ (s : S). (name_of s, rows_of s)) found)
line_entered name_of rows_of found name rows named filled = sym (ap line_in (both name_of rows_of found name rows named filled))
