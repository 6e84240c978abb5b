-- Names of agents, as lists of bytes.
use Rattle.std.specs.Prelude.{ℕ, Bool, false, not, ◌&&◌, ◌||◌, List, [], ◌∷◌, length, nat_le, nat_lt, ◌==◌, Option, Some, None, position, if◌then◌else◌}
use Rattle.std.specs.Char.{is_ascii_alphanumeric}
use Rattle.std.specs.List.{list_all}
use Rattle.ew_model.specs.declared.name.NameFault.{NameFault}
use Rattle.ew_model.specs.declared.name.NameFault.TheVariants.{Empty, TooLong, BadByte}

-- a letter, a digit, `_` or `-`
abbrev pub is_name_byte : ℕ → Bool
is_name_byte b = is_ascii_alphanumeric b || b == 95 || b == 45

-- the first byte is `-`
abbrev pub begins_with_dash : List ℕ → Bool
begins_with_dash [] = false
begins_with_dash (b ∷ bytes) = b == 45

-- 1 to 32 bytes that a name may have, and no dash in front
abbrev pub is_name : List ℕ → Bool
is_name bytes = nat_lt 0 (length bytes) && nat_le (length bytes) 32 && list_all is_name_byte bytes && not (begins_with_dash bytes)

-- the place of the first byte that may not stand where it does
abbrev pub bad_place : List ℕ → Option ℕ
bad_place bytes = if begins_with_dash bytes then Some 0 else position (λ b. not (is_name_byte b)) bytes

-- why bytes are no name: the first of three reasons
abbrev pub name_fault : List ℕ → Option NameFault
name_fault bytes =
    if length bytes == 0 then Some Empty
    else if nat_lt 32 (length bytes) then Some TooLong
    else bad_byte_of (bad_place bytes)
  where
    bad_byte_of : Option ℕ → Option NameFault
    bad_byte_of None = None
    bad_byte_of (Some place) = Some (BadByte place)
