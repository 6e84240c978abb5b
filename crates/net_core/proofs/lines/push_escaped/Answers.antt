use Rattle.std.proofs.Common.{◌++◌, ap, ◌∙◌}
use Rattle.std.specs.List.{flat_map}
use Rattle.std.proofs.lemmas.List.{take_all}
use Rattle.net_core.specs.Bytes.{escaped_byte}
use Rattle.net_core.proofs.EscapedBytes.{escaped_all}
use Rattle.net_core.proofs.lines.push_escaped.Goals as goal

pub returns : goal.returns
returns c chars is =
    let whole = take_all c.loop-byte.byte-index c.args.text.now c.loop-byte-test.false in
    c.loop-byte.invariant ∙ ap (λ bytes. c.args.out.now.items ++ flat_map escaped_byte bytes) (whole ∙ is) ∙ ap
    (λ bytes. c.args.out.now.items ++ bytes) (escaped_all chars)
