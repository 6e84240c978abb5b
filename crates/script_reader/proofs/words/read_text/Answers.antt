use Rattle.std.proofs.Common.{subst}
use Rattle.std.specs.Str.{IsUtf8}
use Rattle.ew_model.proofs.EscapedText.{escaped_text-IsUtf8}
use Rattle.script_reader.proofs.words.read_text.Goals as goal

pub returns-in-Err-clause-none : goal.returns-in-Err-clause-none
returns-in-Err-clause-none c = λ text scalars e. c.in-Err.ensures.cases.0 (subst IsUtf8 e (escaped_text-IsUtf8 text scalars))
