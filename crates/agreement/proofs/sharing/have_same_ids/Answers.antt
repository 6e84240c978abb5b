use Rattle.std.proofs.Common.{◌≡◌, length, sym, ap, ◌∙◌}
use Rattle.std.proofs.lemmas.Bool.{eqb-true}
use Rattle.agreement.proofs.ParentIds.{same_parents, as_many, all_among}
use Rattle.agreement.proofs.sharing.have_same_ids.Goals.{then-len, else-len}
use Rattle.agreement.proofs.sharing.have_same_ids.Goals as goal

pub returns : goal.returns
returns c =
    let a = c.args.a.now in
    let b = c.args.b.now in
    let p = c.args.one in
    let q = c.args.other in
    let many = c.len.ensures.value in
    let others = c.len-2.ensures.value in
    elim c.if-len.branch [
      | then-len w ↦
          let these = w.as_slice-then-len.ensures ∙ c.parents_of-ours.ensures.value in
          let those = w.as_slice.ensures ∙ c.parents_of-theirs.ensures.value in
          let ours = w.as_slice-then-len.result.now in
          let theirs = w.as_slice.result.now in
          let alike : length ours ≡ length theirs = ap length w.as_slice-then-len.ensures ∙ (sym many ∙ (w.if-len.true ∙ (others ∙ sym (ap length w.as_slice.ensures)))) in (
            (λ t. same_parents a b p q ours theirs c.requires.admitted_a c.requires.admitted_b these those alike (sym w.stand_at.ensures ∙ (sym w.result-is ∙ t))),
            (λ same. w.result-is ∙ (w.stand_at.ensures ∙ all_among a b p q ours theirs c.requires.admitted_a c.requires.admitted_b these those c.requires.within_a c.requires.within_b same)),
          )
      | else-len w ↦ (
        (λ t. absurd (w.if-len.false (eqb-true c.len.result c.len-2.result (sym w.result-is ∙ t)))),
        (λ same. absurd (w.if-len.false (many ∙ (as_many a b p q c.parents_of-ours.result.items c.parents_of-theirs.result.items c.requires.admitted_a c.requires.admitted_b c.parents_of-ours.ensures.value c.parents_of-theirs.ensures.value c.requires.within_a c.requires.within_b same ∙ sym others)))),
      )
    ]
