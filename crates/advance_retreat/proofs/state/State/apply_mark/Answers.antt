use Rattle.std.proofs.Common.{[], ◌∷◌, ◌++◌, sym, subst}
use Rattle.ew_model.specs.Places.Act.{MarkAs}
use Rattle.ew_model.specs.Records.{next_of}
use Rattle.advance_retreat.specs.Kept.{Kept}
use Rattle.advance_retreat.specs.Standing.{StandsFor}
use Rattle.advance_retreat.proofs.Marking.{mark_does, marked}
use Rattle.advance_retreat.proofs.state.State.apply_mark.Goals as goal

pub returns-clause-op : goal.returns-clause-op
returns-clause-op g c = λ b events prepared st may. sym (mark_does c.args.self.now b events prepared st c.args.lv)

pub returns-clause-ok : goal.returns-clause-ok
returns-clause-ok g c = λ b events prepared st may.
    subst (λ (s : Kept). StandsFor s b (events ++ next_of c.args.lv MarkAs prepared ∷ []) (c.args.lv ∷ prepared)) (sym c.in_ok-note_mark.ensures.ok)
    (marked c.args.self.now b events prepared st c.args.lv (record { position = may; room = c.in_ok-note_mark.ensures.room b events prepared st }))
