use Rattle.std.proofs.Common.{◌≡◌, ◌∙◌, ◌+◌, ◌<◌, ◌≤◌, ℕ, inl, inr, sym, ap, arith}
use Rattle.ew_model.specs.Edits.{count_of}
use Rattle.undo.proofs.Missing.{none_missing, one_missing}
use Rattle.undo.proofs.undone.Undone.first_missing.Goals as goal

pub returns-then-self-eq0 : goal.returns-then-self-eq0
returns-then-self-eq0 c =
    let u = c.args.self.now in
    sym (none_missing c.args.graph.now u.agent c.requires u.first u.count (inr (omega arith)))

pub returns-then-end-from : goal.returns-then-end-from
returns-then-end-from c =
    let u = c.args.self.now in
    let all : u.first + u.count ≤ count_of c.args.graph.now u.agent = omega (arith, c.if-end-from.true, c.end.ensures, c.from.ensures, c.count_of-held.ensures.count) in
    sym (none_missing c.args.graph.now u.agent c.requires u.first u.count (inl all))

pub returns-else-end-from : goal.returns-else-end-from
returns-else-end-from c =
    let u = c.args.self.now in
    let more : count_of c.args.graph.now u.agent < u.first + u.count = omega (arith, c.if-end-from.false, c.end.ensures, c.from.ensures, c.count_of-held.ensures.count) in
    let some : 0 < u.count = omega arith in
    sym (one_missing c.args.graph.now u.agent c.requires u.first u.count c.later-seq.result more some (omega (arith, c.later-seq.ensures, c.count_of-held.ensures.count)))
