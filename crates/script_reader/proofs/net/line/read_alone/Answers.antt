use Rattle.std.proofs.Common.{◌≢◌, ◌∙◌, codes, nat_eq}
use Rattle.std.specs.Cmp.Lexicographic.{pointwise}
use Rattle.std.proofs.lemmas.Bool.{false≢true}
use Rattle.script_reader.proofs.Verbs.{wordless}
use Rattle.script_reader.proofs.net.line.read_alone.Goals as goal

pub returns-else-eq : goal.returns-else-eq
returns-else-eq c =
    let other : c.args.line.now ≢ codes "agree" = λ e. false≢true (c.if-eq.ensures ∙ (λ i. pointwise nat_eq (e i) (c.as_slice.ensures i))) in
    wordless c.args.line.now other c.requires
