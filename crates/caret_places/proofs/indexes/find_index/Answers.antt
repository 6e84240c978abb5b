use Rattle.std.proofs.Common.{◌≡◌, Err, sym, ap, ◌∙◌}
use Rattle.caret_places.specs.declared.fault.IndexFault.{IndexFault}
use Rattle.caret_places.specs.declared.fault.IndexFault.TheVariants.{Unknown, NoCharacter}
use Rattle.caret_places.proofs.Standing.{one_fault}
use Rattle.caret_places.proofs.indexes.find_index.Goals as goal

pub returns-in-Ok-clause-unknown : goal.returns-in-Ok-clause-unknown
returns-in-Ok-clause-unknown g c x =
    let one = one_fault c.args.graph.now c.args.caret.now in (
      (λ e. let no : ⊥ = cc in absurd no),
      (λ e. let bad = (c.in-Ok.ensures.unknown x).1 (one ∙ e) in let no : ⊥ = cc in absurd no),
    )

pub returns-in-Ok-clause-no_character : goal.returns-in-Ok-clause-no_character
returns-in-Ok-clause-no_character g c x =
    let one = one_fault c.args.graph.now c.args.caret.now in (
      (λ e. let no : ⊥ = cc in absurd no),
      (λ e. let bad = (c.in-Ok.ensures.no_character x).1 (one ∙ e) in let no : ⊥ = cc in absurd no),
    )

pub returns-in-Err-clause-unknown : goal.returns-in-Err-clause-unknown
returns-in-Err-clause-unknown g c x =
    let one = one_fault c.args.graph.now c.args.caret.now in (
      (λ e. let same : c.in-Err.fault ≡ Unknown x = cc in sym one ∙ (c.in-Err.ensures.unknown x).0 (ap (λ (f : IndexFault). Err f) same)),
      (λ e. let told = (c.in-Err.ensures.unknown x).1 (one ∙ e) in let same : c.in-Err.fault ≡ Unknown x = cc in ap (λ (f : IndexFault). Err f) same),
    )

pub returns-in-Err-clause-no_character : goal.returns-in-Err-clause-no_character
returns-in-Err-clause-no_character g c x =
    let one = one_fault c.args.graph.now c.args.caret.now in (
      (λ e. let same : c.in-Err.fault ≡ NoCharacter x = cc in sym one ∙ (c.in-Err.ensures.no_character x).0 (ap (λ (f : IndexFault). Err f) same)),
      (λ e. let told = (c.in-Err.ensures.no_character x).1 (one ∙ e) in let same : c.in-Err.fault ≡ NoCharacter x = cc in ap (λ (f : IndexFault). Err f) same),
    )
