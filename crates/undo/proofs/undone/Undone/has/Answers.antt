use Rattle.std.proofs.Common.{◌≡◌, ◌∙◌, true, sym}
use Rattle.std.proofs.lemmas.Bool.{true≢false, false_from_ne_true}
use Rattle.ew_model.specs.Ids.{is_among}
use Rattle.ew_model.proofs.ListTests.{same_truth}
use Rattle.undo.specs.Undone.{undone_ids}
use Rattle.undo.proofs.Ranges.{IsFrom, from_told, told_from}
use Rattle.undo.proofs.undone.Undone.has.Goals as goal

pub returns-then-has_number : goal.returns-then-has_number
returns-then-has_number c =
    let u = c.args.self.now in
    let x = c.args.id.now in
    let number = c.has_number.ensures.0 c.if-has_number.true in
    same_truth c.is.result (is_among (undone_ids u) x)
    (λ e. told_from u.agent u.first u.count x (record { own = c.is.ensures.0 e; low = number.0; high = number.1 }))
    (λ e. c.is.ensures.1 (from_told u.agent u.first u.count x e).own)

pub returns-else-has_number : goal.returns-else-has_number
returns-else-has_number c =
    let u = c.args.self.now in
    let x = c.args.id.now in
    sym (
    false_from_ne_true (is_among (undone_ids u) x) (λ e.
    let from : IsFrom u.agent u.first u.count x = from_told u.agent u.first u.count x e in
    true≢false (sym (c.has_number.ensures.1 (from.low, from.high)) ∙ c.if-has_number.false)))
