-- Drawn numbers, and the edit that they make.
use Rattle.std.specs.Prelude.{ℕ, ◌+◌, ◌*◌, ◌/◌, ◌%◌, ◌^◌, not, ◌&&◌, [], ◌∷◌, if◌then◌else◌, ◌==◌}
use Rattle.ew_model.specs.Edits.{Edit}
use Rattle.ew_model.specs.Edits.Edit.{Insert, Delete}

-- the generator's state, a number of 64 bits, after one more draw
unfoldable pub next_state : ℕ → ℕ
next_state x = (x * 6364136223846793005 + 1442695040888963407) % 2 ^ 64

-- what is drawn where this is the state after the draw
abbrev pub draw_of : ℕ → ℕ
draw_of x = x / 2 ^ 33

-- a letter of `a` to `z`, counted from 0
abbrev pub letter : ℕ → ℕ
letter n = 97 + n % 26

-- a drawn edit, and the state after its draws
pub record Drawn : Type 0 where
  pub edit : Edit
  pub state : ℕ

-- The edit of a text of this length that is drawn next. One of four deletes a character, where there is one; any other inserts a
-- letter, by one draw more.
unfoldable pub drawn_edit : ℕ → ℕ → Drawn
drawn_edit x len =
    let d = next_state x in
    let e = next_state d in
    let c = next_state e in
    if (draw_of d % 4 == 0) && not (len == 0)
    then record { edit = Delete (draw_of e % len) 1; state = e }
    else record { edit = Insert (draw_of e % (len + 1)) (letter (draw_of c) ∷ []); state = c }
