use Rattle.std.proofs.Common.{◌-◌, length, sym, ap, arith}
use Rattle.blame_definitions.specs.Widths.{columns_of}
use Rattle.blame.proofs.Columns.{end_wide, slice_end}
use Rattle.blame.proofs.fitting.fits.Goals as goal

pub returns-then-branch-most : goal.returns-then-branch-most
returns-then-branch-most c =
    let text = c.args.text.now in
    let n = length text - c.loop-size.size in
    sym (end_wide c.args.columns n text (omega (arith, c.in_ok-columns_of.ensures, ap columns_of (slice_end text n), c.if-branch-most.true)))
