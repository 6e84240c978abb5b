use Rattle.std.proofs.Common.{◌∙◌}
use Rattle.command_reader.proofs.Numbers.{number_taken, number_unread}
use Rattle.command_reader.proofs.words.number_between.Goals as goal

pub returns-in_err-number : goal.returns-in_err-number
returns-in_err-number c =
    record { number = c.from_residual.ensures ∙ number_unread c.args.least c.args.most c.args.word.now c.parse.result c.parse.ensures.value.0 c.in_err-number.ensures.value }

pub returns-then-number-from : goal.returns-then-number-from
returns-then-number-from c =
    record { number = number_taken c.args.least c.args.most c.in_ok-number.number c.from.result c.from-then-from-number.result c.args.word.now c.parse.result c.parse.ensures.value.0 c.in_ok-number.ensures.value c.ranges.least.fits c.ranges.most.fits c.from.ensures c.from-then-from-number.ensures c.if-from-number.true c.if-number-from.true }
