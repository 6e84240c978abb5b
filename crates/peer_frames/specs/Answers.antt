-- What the answers of this crate say, in the words of its definitions.
use Rattle.std.specs.Prelude.{ℕ, Bool, true, false, List, Option, Some, None, Result, Ok, Err}
use Rattle.peer_definitions.specs.declared.frame.Frame.{Frame}
use Rattle.peer_frames.specs.declared.fault.FrameFault.{FrameFault}
use Rattle.peer_frames.specs.declared.fault.FrameFault.TheVariants.{TooLong, BadKind, BadBody, OutOfMemory}
use Rattle.peer_definitions.specs.Spelling.{IsBody}
use Rattle.peer_definitions.specs.Cutting as cut
use Rattle.peer_definitions.specs.Cutting.{Front}
use Rattle.peer_frames.specs.Calls.{Kept}

-- what an answer of a reader says of the bytes that it had, and of those that it keeps; want of memory says nothing
abbrev pub said : Result (Option Frame) FrameFault → List ℕ → Option Front
said (Ok (Some f)) kept = Some (cut.Whole f kept)
said (Ok None) kept = Some cut.Partial
said (Err (TooLong length)) kept = Some (cut.TooLong length)
said (Err (BadKind kind)) kept = Some (cut.BadKind kind)
said (Err BadBody) kept = Some cut.BadBody
said (Err OutOfMemory) kept = None

-- the frame of this kind with this body, or that there is none; want of memory says nothing
abbrev pub IsRead : ℕ → List ℕ → Result Frame FrameFault → Type 0
IsRead kind body (Ok f) = IsBody kind body f
IsRead kind body (Err BadBody) = (f : Frame) → IsBody kind body f → ⊥
IsRead kind body (Err OutOfMemory) = Unit {0}
IsRead kind body (Err (TooLong length)) = ⊥
IsRead kind body (Err (BadKind k)) = ⊥

-- the answers that read a body, and for which memory may run out
abbrev pub needs_memory : Front → Bool
needs_memory (cut.Whole f rest) = true
needs_memory cut.Partial = false
needs_memory (cut.BadKind kind) = false
needs_memory (cut.TooLong length) = false
needs_memory cut.BadBody = true

-- what a reader keeps behind a fault: all, and a body that is none isn't read again
abbrev pub after_fault : FrameFault → Kept → Kept
after_fault BadBody kept = record { limits = kept.limits; bytes = kept.bytes; refused = true }
after_fault (TooLong length) kept = kept
after_fault (BadKind kind) kept = kept
after_fault OutOfMemory kept = kept
