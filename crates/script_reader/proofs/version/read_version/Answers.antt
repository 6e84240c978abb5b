use Rattle.std.proofs.Common.{◌≢◌, ◌∙◌, codes, nat_eq}
use Rattle.std.specs.Cmp.Lexicographic.{pointwise}
use Rattle.std.proofs.lemmas.Bool.{false≢true}
use Rattle.script_reader.proofs.IdReading.{ids_of_version}
use Rattle.script_reader.proofs.version.read_version.Goals as goal

pub returns-clause-read : goal.returns-clause-read
returns-clause-read c =
    let other : c.args.b.now ≢ codes "root" = λ e. false≢true (c.if-eq.ensures ∙ (λ i. pointwise nat_eq (e i) (c.as_slice.ensures i))) in
    λ ids v. c.read_ids.ensures.read ids (ids_of_version c.args.b.now ids other v)
