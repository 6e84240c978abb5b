use Rattle.std.proofs.Common.{◌≡◌, ◌++◌, true, length}
use Rattle.std.specs.Str.{all_scalars}
use Rattle.std.specs.Str.Iter.{chars_rest}
use Rattle.ew_model.specs.Scripts.{escaped_text}
use Rattle.script_reader.proofs.words.unescape.Given as goal

-- what was read so far, as it is written, and what is left make the whole
abbrev pub invariant-loop-first : goal.invariant-loop-first
invariant-loop-first l = record {
  scalars : all_scalars l.text ≡ true;
  whole : escaped_text l.text ++ chars_rest l.rest ≡ l.fn.escaped;
}

abbrev pub decreases-loop-first : goal.decreases-loop-first
decreases-loop-first l = length (chars_rest l.rest)
