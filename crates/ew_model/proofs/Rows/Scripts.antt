-- Rows on scripts, ids and versions.
use Rattle.std.proofs.Common.{◌≡◌, [], ◌∷◌, refl, codes, arith, lit<}
use Rattle.std.specs.Char.{encode_utf8}
use Rattle.std.specs.Fmt.{digits}
use Rattle.std.specs.Str.{chars}
use Rattle.ew_model.specs.Edits.{Edit}
use Rattle.ew_model.specs.Edits.Edit.{Insert, Delete}
use Rattle.ew_model.specs.Scripts.{lines_of, escaped_char, id_text, version_text, edit_line, MeansEdit, IsScript}
use Rattle.ew_model.proofs.Rows.Events.{id}
use Rattle.ew_model.proofs.ScriptReading.{means_no_edit, means_no_sound_edit}

lines : lines_of (codes "ab\n\nc\n") ≡ codes "ab" ∷ [] ∷ codes "c" ∷ []
lines = refl

last_line : lines_of (codes "ab\nc") ≡ codes "ab" ∷ codes "c" ∷ []
last_line = refl

no_lines : lines_of [] ≡ []
no_lines = refl

line_of_insert : edit_line (Insert 0 (97 ∷ 10 ∷ 98 ∷ [])) ≡ codes "ins 0 a\\nb"
unfolding encode_utf8 digits
line_of_insert = refl

line_of_nothing : edit_line (Insert 0 []) ≡ codes "ins 0 "
unfolding digits
line_of_nothing = refl

line_of_delete : edit_line (Delete 0 2) ≡ codes "del 0 2"
unfolding digits
line_of_delete = refl

-- an empty line is counted and means nothing
script : IsScript (codes "ins 0 a\\nb\n\ndel 0 2") (record { line = 1; item = Insert 0 (97 ∷ 10 ∷ 98 ∷ []) } ∷ record { line = 3; item = Delete 0 2 } ∷ [])
unfolding encode_utf8 digits
script = (
  refl,
  record { sound = (lit< tt, refl); spelled = refl },
  (refl, record { sound = (lit< tt, lit< tt); spelled = refl }, tt),
)

leading_zero : (e : Edit) → ¬ MeansEdit (codes "ins 00 a") e
unfolding encode_utf8 digits chars
leading_zero = means_no_edit (codes "ins 00 a") refl

sign : (e : Edit) → ¬ MeansEdit (codes "del +5 1") e
unfolding digits
sign = means_no_edit (codes "del +5 1") refl

two_spaces : (e : Edit) → ¬ MeansEdit (codes "del 0  1") e
unfolding digits
two_spaces = means_no_edit (codes "del 0  1") refl

no_second_space : (e : Edit) → ¬ MeansEdit (codes "ins 0") e
unfolding encode_utf8 digits chars
no_second_space = means_no_edit (codes "ins 0") refl

last_backslash : (e : Edit) → ¬ MeansEdit (codes "ins 0 a\\") e
unfolding encode_utf8 digits chars
last_backslash = means_no_edit (codes "ins 0 a\\") refl

other_escape : (e : Edit) → ¬ MeansEdit (codes "ins 0 \\t") e
unfolding encode_utf8 digits chars
other_escape = means_no_edit (codes "ins 0 \\t") refl

too_large : (e : Edit) → ¬ MeansEdit (codes "del 0 4294967296") e
too_large = means_no_sound_edit (codes "del 0 4294967296") (λ h. omega (arith, h.1))

id_of_name : id_text (id 97 2) ≡ codes "a:2"
unfolding digits
id_of_name = refl

version : version_text (id 97 2 ∷ id 97 0 ∷ []) ≡ codes "a:2,a:0"
unfolding digits
version = refl

no_ids : version_text [] ≡ codes "root"
no_ids = refl

newline : escaped_char 10 ≡ 92 ∷ 110 ∷ []
newline = refl

backslash : escaped_char 92 ≡ 92 ∷ 92 ∷ []
backslash = refl

last_character : escaped_char 1114111 ≡ 0xf4 ∷ 0x8f ∷ 0xbf ∷ 0xbf ∷ []
unfolding encode_utf8
last_character = refl
