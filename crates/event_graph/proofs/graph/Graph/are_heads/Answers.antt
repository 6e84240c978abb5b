use Rattle.std.proofs.Common.{List, ◌∙◌, ◌≡◌, ◌<◌, ℕ, ◌++◌, ◌∷◌, [], take, length, refl, sym, ap, subst, arith, slice_index_or, ⊎_elim}
use Rattle.std.proofs.lemmas.List.{take_all, take_more}
use Rattle.ew_model.specs.declared.event.Event.{Event}
use Rattle.ew_model.specs.Ancestors.{heads}
use Rattle.ew_model.specs.Positions.{positions_in}
use Rattle.ew_model.specs.Sets.{Among}
use Rattle.ew_model.proofs.SetLaws.{among_joined}
use Rattle.event_graph.specs.Keeping.{IsKeptOf}
use Rattle.event_graph.proofs.Kept.{agreement}
use Rattle.event_graph.proofs.graph.Graph.are_heads.Goals as goal

pub loop-position-preserved : goal.loop-position-preserved
loop-position-preserved c = λ p m.
    let n = c.loop-position.position-index in
    let q = slice_index_or c.args.positions.now n 0 in
    let within : n < length c.args.positions.now = omega arith in
    ⊎_elim
    (λ before. c.loop-position.invariant p before)
    (λ last. ⊎_elim (λ same. subst (λ x. Among x c.as_slice-heads.result.now) (sym same) (c.if-not-stands_in.ensures refl)) (λ none. absurd none) last)
    (among_joined (take n c.args.positions.now) (q ∷ []) p (subst (Among p) (take_more c.args.positions.now n 0 within) m))

pub returns : goal.returns
returns c = λ _ p m.
    let now = c.args.self.now in
    let inside = c.self.inside in
    let kept : IsKeptOf now inside.ids inside.events inside.heads inside.cuts = subst (λ (h : List Event). IsKeptOf h inside.ids inside.events inside.heads inside.cuts) c.self.view_is c.self.invariant in
    let here : c.as_slice-heads.result.now ≡ positions_in now (heads now) = c.as_slice-heads.ensures.heads ∙ kept.heads_are ∙ (agreement now inside.ids inside.events inside.heads inside.cuts kept).heads in
    let all = take_all c.loop-position.position-index c.args.positions.now c.loop-position-test.false in
    subst (Among p) here (c.loop-position.invariant p (subst (Among p) (sym all) m))
