use Rattle.std.proofs.Common.{◌≡◌, ℕ, length, ◌+◌, subst, arith}
use Rattle.character_runs.proofs.Renamed.{AreRenamed, renamed_front, step_some, step_next, last_laid}
use Rattle.character_runs.proofs.runs.relabelling.note_each.Goals as goal

pub loop-k-init : goal.loop-k-init
loop-k-init c ps qs laid rising same among =
    let none : length among.front ≡ length among.front + 0 = omega arith in
    subst (λ (n : ℕ). AreRenamed ps qs c.args.held.now c.args.held.now n) none (renamed_front ps qs c.args.held.now laid rising same c.args.given.now.items among)

pub note-requires : goal.note-requires
note-requires c =
    let some = c.requires in
    let ps = some.0 in
    let qs = some.1 in
    step_some ps qs c.args.held.now some.2 some.3 some.4 c.args.given.now.items some.5 c.loop-k.held c.loop-k.k (c.loop-k.invariant ps qs some.2 some.3 some.4 some.5)
    c.index.result.now (omega (arith, c.loop-k-test.true, c.len-k-end.ensures)) c.index.ensures

pub loop-k-preserved : goal.loop-k-preserved
loop-k-preserved c ps qs laid rising same among =
    step_next ps qs c.args.held.now laid rising same c.args.given.now.items among c.loop-k.held c.loop-k.k (c.loop-k.invariant ps qs laid rising same among)
    c.index.result.now (omega (arith, c.loop-k-test.true, c.len-k-end.ensures)) c.index.ensures c.note.new.held c.note.ensures.set c.note.ensures.none

pub returns : goal.returns
returns c ps qs laid rising same among =
    last_laid ps qs c.args.held.now laid rising same c.args.given.now.items among c.loop-k.held c.loop-k.k (c.loop-k.invariant ps qs laid rising same among)
    (omega (arith, c.loop-k-test.false, c.len-k-end.ensures))
