use Rattle.std.proofs.Common.{◌≢◌, ℕ, List, sym, ap, subst, ◌∙◌}
use Rattle.std.specs.Str.{all_scalars}
use Rattle.std.specs.Str.Iter.{chars_rest}
use Rattle.std.proofs.lemmas.Str.{IsUtf8-string_bytes, scalars-chars}
use Rattle.ew_model.specs.Scripts.{escaped_text}
use Rattle.script_reader.proofs.Escapes.{whole_stands_for_none, whole-push}
use Rattle.script_reader.proofs.words.unescape.Goals as goal

pub returns-in_default-unescaped-clause-none : goal.returns-in_default-unescaped-clause-none
returns-in_default-unescaped-clause-none c =
    let none = subst (λ (x : List ℕ). (more : List ℕ) → escaped_text more ≢ x) (sym c.in-Some.ensures.steps.0) c.in_default-unescaped.ensures.none in
    whole_stands_for_none c.loop-first.text (chars_rest c.loop-first.rest) c.args.escaped.now c.loop-first.invariant.whole none

pub loop-first-preserved : goal.loop-first-preserved
loop-first-preserved c = record {
  scalars = ap all_scalars (sym c.text-in-Some.view_is) ∙ scalars-chars _ (IsUtf8-string_bytes c.text-in-Some.inside.utf8);
  whole = whole-push c.loop-first.text (chars_rest c.loop-first.rest) c.args.escaped.now c.loop-first.invariant.whole c.in-Some-unescaped.ch _ _ (c.in-Some-unescaped.ensures.some ∙ sym c.in-Some.ensures.steps.0) c.in_ok-push.ensures.ok;
}
