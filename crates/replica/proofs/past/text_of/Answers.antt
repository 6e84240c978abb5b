use Rattle.std.proofs.Common.{◌++◌, ◌∙◌, ap, encode_utf8_all, [], refl}
use Rattle.replica.proofs.PastTexts.{may_do, text_done}
use Rattle.replica.proofs.past.text_of.Goals as goal

pub written-requires-clause-fit : goal.written-requires-clause-fit
written-requires-clause-fit g c = (may_do c.args.graph.now c.in_ok-ops.ops [] c.requires.good c.requires.few c.in_ok-ops.ensures.ops refl).0

pub written-requires-clause-short : goal.written-requires-clause-short
written-requires-clause-short g c = (may_do c.args.graph.now c.in_ok-ops.ops [] c.requires.good c.requires.few c.in_ok-ops.ensures.ops refl).1

pub returns-clause-text : goal.returns-clause-text
returns-clause-text g c =
    c.in_ok-write_to.ensures.ok ∙ ap (λ bytes. bytes ++ encode_utf8_all c.in_ok-text.text.chars) c.new-bytes.ensures.items
    ∙ ap encode_utf8_all (c.in_ok-text.ensures ∙ text_done c.args.graph.now c.in_ok-ops.ops [] c.requires.good c.in_ok-ops.ensures.ops refl)
