use Rattle.std.proofs.Common.{◌≡◌, ◌+◌, ◌%◌, false, not, ◌&&◌, ◌==◌, [], ◌∷◌, length, arith, sym, ap, subst}
use Rattle.ew_model.specs.Edits.Edit.{Insert, Delete}
use Rattle.ew_model.specs.Limits.{LimitNumbers}
use Rattle.ew_model.specs.Texts.{text_of}
use Rattle.ew_model.proofs.TextLengths.{text_is_short}
use Rattle.replica.specs.Answers.{EditsBy}
use Rattle.peer_definitions.specs.Draws.{Drawn, drawn_edit, letter}
use Rattle.generator.proofs.Drawing.{added, empty, no_quarter, removed}
use Rattle.generator.proofs.peers.edit_by.Goals.{After-delete, After-insert_letter, else-deletes-via-then-deletes+else-len-ne0, else-deletes-via-else-deletes}
use Rattle.generator.proofs.peers.edit_by.Goals as goal

pub overflow_add-len : goal.overflow_add-len
overflow_add-len g c =
    let kept = c.limits.ensures.kept in
    let short = text_is_short c.args.replica.now.held kept.orderly.good in
    let same = ap (λ (n : LimitNumbers). n.events) c.limits.ensures.limits in
    omega (arith, short, kept.few, same, c.len-len.ensures, c.events-most.ensures.range.few_events, c.events-most.ensures.value)

taken : (g : _) (c : After-delete g) → drawn_edit c.args.draws.now.state (length (text_of c.args.replica.now.held)) ≡ record { edit = Delete (c.draw-place.result % c.len-len.result) 1; state = c.draw-place.new.self.state }
taken g c =
    removed c.args.draws.now.state c.draw.result c.draw-place.result (length (text_of c.args.replica.now.held)) c.len-len.result c.draw.new.self.state c.draw-place.new.self.state
    c.len-len.ensures c.draw.ensures.state c.draw.ensures.drawn c.draw-place.ensures.state c.draw-place.ensures.drawn c.if-deletes.true c.if-len-ne0.true

pub returns-then-len-ne0-clause-edits : goal.returns-then-len-ne0-clause-edits
returns-then-len-ne0-clause-edits g c = subst (λ (d : Drawn). EditsBy c.args.agent d.edit c.args.replica.now c.delete.new.self c.delete.result) (sym (taken g c)) c.delete.ensures.edits

pub returns-then-len-ne0-clause-drawn : goal.returns-then-len-ne0-clause-drawn
returns-then-len-ne0-clause-drawn g c = ap (λ (d : Drawn). d.state) (sym (taken g c))

put : (g : _) (c : After-insert_letter g)
    → drawn_edit c.args.draws.now.state (length (text_of c.args.replica.now.held)) ≡ record { edit = Insert (c.draw-place.result % (c.len-len.result + 1)) (letter c.draw-number.result ∷ []); state = c.draw-number.new.self.state }
put g c =
    let test : ((c.draw.result % 4 == 0) && not (c.len-len.result == 0)) ≡ false =
    elim c.else-deletes.branch [ else-deletes-via-then-deletes+else-len-ne0 w ↦ empty c.draw.result c.len-len.result w.if-len-ne0.false | else-deletes-via-else-deletes w ↦ no_quarter c.draw.result c.len-len.result w.if-deletes.false ] in
    added c.args.draws.now.state c.draw.result c.draw-place.result c.draw-number.result (length (text_of c.args.replica.now.held)) c.len-len.result c.draw.new.self.state c.draw-place.new.self.state c.draw-number.new.self.state
    c.len-len.ensures c.draw.ensures.state c.draw.ensures.drawn c.draw-place.ensures.state c.draw-place.ensures.drawn c.draw-number.ensures.state c.draw-number.ensures.drawn test

pub returns-else-deletes-clause-edits : goal.returns-else-deletes-clause-edits
returns-else-deletes-clause-edits g c = subst (λ (d : Drawn). EditsBy c.args.agent d.edit c.args.replica.now c.insert_letter.new.replica c.insert_letter.result) (sym (put g c)) c.insert_letter.ensures.edits

pub returns-else-deletes-clause-drawn : goal.returns-else-deletes-clause-drawn
returns-else-deletes-clause-drawn g c = ap (λ (d : Drawn). d.state) (sym (put g c))
