use Rattle.std.proofs.Common.{◌≢◌, ◌++◌, ℕ, List, arith}
use Rattle.std.specs.Char.{encode_utf8}
use Rattle.std.specs.Str.Iter.{chars_rest}
use Rattle.ew_model.specs.Scripts.{escaped_text}
use Rattle.script_reader.proofs.Escapes.{newline_stands_for_none, last_backslash_stands_for_none, other_escape_stands_for_none}
use Rattle.script_reader.proofs.words.unescaped.Goals as goal
use Rattle.ew_model.proofs.Outcomes.{if_none}

pub returns-in_err-next-in-92-clause-none : goal.returns-in_err-next-in-92-clause-none
returns-in_err-next-in-92-clause-none c =
    let none : (text : List ℕ) → escaped_text text ≢ encode_utf8 c.args.first ++ chars_rest c.args.rest.now = λ text. last_backslash_stands_for_none c.args.first _ text c.in-92.is c.in_err-next-in-92.ensures.steps.0.0 in
    if_none _ _ none

pub returns-in_default-2-clause-none : goal.returns-in_default-2-clause-none
returns-in_default-2-clause-none c =
    λ text. other_escape_stands_for_none c.args.first c.in_ok-next-in-92.field-0 _ _ text c.in-92.is c.in_ok-next-in-92.ensures.steps.0 (λ e. omega arith) (λ e. omega arith)

pub returns-in-10-clause-none : goal.returns-in-10-clause-none
returns-in-10-clause-none c = λ text. newline_stands_for_none c.args.first _ text c.in-10.is
