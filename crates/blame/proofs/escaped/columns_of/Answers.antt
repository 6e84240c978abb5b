use Rattle.std.proofs.Common.{◌∙◌, ap, false}
use Rattle.std.specs.Str.{chars}
use Rattle.std.specs.String.{string_bytes}
use Rattle.std.proofs.lemmas.Str.{IsUtf8-string_bytes}
use Rattle.unicode_width.specs.Width.{str_width}
use Rattle.blame_definitions.proofs.Joins.{escaped_chars}
use Rattle.blame.proofs.escaped.columns_of.Goals as goal

pub returns : goal.returns
returns c =
    let form = c.in_ok-form.form in
    c.width.ensures.value
    ∙ ap (λ bytes. str_width false (chars bytes)) c.as_str.ensures.value
    ∙ ap (str_width false) (escaped_chars c.args.text.now (string_bytes form) c.in_ok-form.ensures (IsUtf8-string_bytes form))
