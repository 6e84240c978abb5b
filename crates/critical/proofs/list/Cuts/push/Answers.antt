use Rattle.std.proofs.Common.{◌≡◌, ◌∙◌, sym, ap, subst, length, true≢false}
use Rattle.std.proofs.lemmas.Result.{on_ok_weaker}
use Rattle.ew_model.specs.Positions.{AreParents, frontier_of}
use Rattle.ew_model.specs.PositionCuts.{past_parents}
use Rattle.ew_model.specs.Sets.{Among}
use Rattle.critical.specs.KeptCuts.{KeptCuts, with_whole}
use Rattle.critical.proofs.CutsKept.{whole_kept}
use Rattle.critical.proofs.InnerCuts.{inner_of}
use Rattle.critical.proofs.LastHeads.{last_is_head}
use Rattle.critical.proofs.list.Cuts.push.Goals as goal
use Rattle.critical.proofs.list.Cuts.push.Goals.{else-past-self-via-then-past-self+else-equals, else-past-self-via-else-past-self}

pub returns-then-equals-clause-ok : goal.returns-then-equals-clause-ok
returns-then-equals-clause-ok c =
    on_ok_weaker c.keep_whole.result
    (λ made history good stands front reduced.
    let count : c.args.self.now.count ≡ length history = ap (λ (v : KeptCuts). v.count) stands in
    let lower : AreParents (length history) c.args.parents.now = subst (λ n. AreParents n c.args.parents.now) count c.requires.parents in
    let at : past_parents c.args.parents.now ≡ length history = sym c.past_last-past.ensures.value ∙ c.if-past-self.true ∙ ap (λ (v : KeptCuts). v.count) c.self.view_is ∙ count in
    let heads : c.args.parents.now ≡ frontier_of history = sym (c.equals.ensures.0 c.if-equals.true) ∙ front in
    made (λ k long m. heads ∙ last_is_head history k good (long ∙ count) (inner_of history k (subst (λ (v : KeptCuts). Among k v.cuts) stands m)).0)
    ∙ ap (λ (v : KeptCuts). with_whole v c.args.parents.now) stands ∙ sym (whole_kept history c.args.parents.now good lower reduced at heads))
    c.keep_whole.ensures.ok

pub returns-else-past-self-clause-ok : goal.returns-else-past-self-clause-ok
returns-else-past-self-clause-ok c history good stands front reduced =
    let parents = c.args.parents.now in
    let at : past_parents parents ≡ length history → c.past_last-past.result ≡ c.self.inside.count =
    λ e. c.past_last-past.ensures.value ∙ e ∙ sym (ap (λ (v : KeptCuts). v.count) (c.self.view_is ∙ stands)) in
    c.stop_cuts.ensures.cuts history good stands
    (λ e f. elim c.else-past-self.branch [
      | else-past-self-via-then-past-self+else-equals w ↦ true≢false (sym (w.equals.ensures.1 (front ∙ sym f)) ∙ w.if-equals.false)
      | else-past-self-via-else-past-self w ↦ w.if-past-self.false (at e)
    ])
    reduced
