use Rattle.std.proofs.Common.{encode_utf8_all, sym, ap, ◌∙◌}
use Rattle.std.specs.Str.{all_scalars}
use Rattle.std.proofs.lemmas.Str.{IsUtf8-string_bytes, encodes-chars, scalars-chars}
use Rattle.peer_definitions.proofs.text.Text.as_str.Goals as goal

pub returns-clause-utf8 : goal.returns-clause-utf8
returns-clause-utf8 c =
    c.as_str.ensures.value ∙ sym (encodes-chars _ (IsUtf8-string_bytes c.self.inside.utf8)) ∙ ap encode_utf8_all c.self.view_is

pub returns-clause-scalars : goal.returns-clause-scalars
returns-clause-scalars c = ap all_scalars (sym c.self.view_is) ∙ scalars-chars _ (IsUtf8-string_bytes c.self.inside.utf8)
