-- Printed bytes: text in UTF-8 byte by byte, and what is told of received events.
use Rattle.std.specs.Prelude.{ℕ, List, [], ◌∷◌, if◌then◌else◌, ◌==◌, codes, decimal, flat_map}
use Rattle.peer_definitions.specs.declared.frame.Frame.{Frame}
use Rattle.peer_definitions.specs.declared.frame.Frame.TheVariants.{Took}
use Rattle.peer_definitions.specs.Machine.{printed_line}

-- a newline and a backslash are escaped, and any other byte stands for itself
abbrev pub escaped_byte : ℕ → List ℕ
escaped_byte b = if b == 10 then codes "\\n" else if b == 92 then codes "\\\\" else b ∷ []

-- what an answer tells of received events, and the latest critical cut then; other answers tell nothing
abbrev pub reply_line : List ℕ → Frame → ℕ → List ℕ
reply_line name (Took accepted waiting repeats refused) cut =
    printed_line
    (name ∷ codes "accepted" ∷ decimal accepted ∷ codes "waiting" ∷ decimal waiting ∷ codes "repeats" ∷ decimal repeats
    ∷ codes "refused" ∷ decimal refused ∷ codes "cut" ∷ decimal cut ∷ [])
reply_line name f cut = []

-- what the frames of an answer tell
abbrev pub reply_lines : List ℕ → ℕ → List Frame → List ℕ
reply_lines name cut frames = flat_map (λ f. reply_line name f cut) frames
