use Rattle.std.proofs.lemmas.Result.{err_from_is_err_and}
use Rattle.event_file.proofs.Texts.{text_begins, text_goes_on, text_ends, text_done}
use Rattle.event_file.proofs.input.Input.text.Goals as goal

pub loop-init : goal.loop-init
loop-init c = text_begins c.args.self.now.left.now c.args.count

pub loop-preserved : goal.loop-preserved
loop-preserved c =
    let bytes = c.args.self.now.left.now in
    text_goes_on bytes c.args.count c.loop.counter c.loop.self.left.now bytes c.in_ok-character.field-0 c.character.new.self.left.now c.loop-test.true c.loop.invariant c.in_ok-character.ensures

pub returns-in_err-character : goal.returns-in_err-character
returns-in_err-character c =
    let bytes = c.args.self.now.left.now in
    let p = err_from_is_err_and c.from_residual.result c.from_residual.ensures.1 in
    rw (p.1, p.2) (text_ends c.in_err-character.field-0.0 bytes c.args.count c.loop.counter c.loop.self.left.now bytes c.loop-test.true c.loop.invariant c.in_err-character.ensures)

pub returns : goal.returns
returns c =
    let bytes = c.args.self.now.left.now in
    text_done bytes c.args.count c.loop.counter c.loop.self.left.now bytes c.loop-test.false c.loop.invariant
