use Rattle.std.proofs.Common.{◌≡◌, ◌+◌, ◌-◌, ap, ◌∙◌, arith}
use Rattle.carets.specs.Sides.{caret_in, text_chars}
use Rattle.caret_places.proofs.taking.caret_in.Goals as goal

pub returns-then-at-eq0 : goal.returns-then-at-eq0
returns-then-at-eq0 c =
    let start : 0 ≡ c.args.at = omega arith in
    ap (caret_in (text_chars c.args.graph.now)) start

pub returns-else-at-eq0 : goal.returns-else-at-eq0
returns-else-at-eq0 c =
    let back : c.args.at - 1 + 1 ≡ c.args.at = omega arith in
    c.caret_behind.ensures ∙ ap (caret_in (text_chars c.args.graph.now)) back
