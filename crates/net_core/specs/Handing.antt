-- Why no packet is handed over.
use Rattle.std.specs.Prelude.{◌≡◌, ℕ, Option, Some, None}
use Rattle.net_core.specs.declared.fault.NetFault.{NetFault}
use Rattle.net_core.specs.declared.fault.NetFault.TheVariants as fault
use Rattle.peer_definitions.specs.Machine.{Packet}

-- there is none of the number, or memory is wanting for it
abbrev pub IsNotHanded : Option Packet → ℕ → NetFault → Type 0
IsNotHanded None n f = f ≡ fault.NoPacket n
IsNotHanded (Some k) n f = f ≡ fault.OutOfMemory
