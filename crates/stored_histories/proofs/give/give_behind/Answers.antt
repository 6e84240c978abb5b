use Rattle.std.proofs.Common.{sym, subst}
use Rattle.std.proofs.lemmas.Result.{on_ok_weaker}
use Rattle.ew_model.specs.Limits.{LimitNumbers}
use Rattle.stored_histories.specs.Giving.{HasGivenLast}
use Rattle.stored_histories.proofs.give.give_behind.Goals as goal

pub give_singly-requires : goal.give_singly-requires
give_singly-requires c =
    let found = c.requires.given.0 in
    record {
      given = (
        found,
        subst (λ (l : LimitNumbers). HasGivenLast found c.give_run.new.given c.give_run.new.reader l.events) (sym c.in_ok-give_run.ensures.limits)
            (c.in_ok-give_run.ensures.given found c.requires.given.1),
      );
    }

pub returns-clause-given : goal.returns-clause-given
returns-clause-given c =
    let same = c.in_ok-give_run.ensures.limits in
    on_ok_weaker c.give_singly.result
    (λ then found has.
    subst (λ (l : LimitNumbers). HasGivenLast found c.give_singly.new.given c.give_singly.new.reader l.events) same
    (then found (subst (λ (l : LimitNumbers). HasGivenLast found c.give_run.new.given c.give_run.new.reader l.events) (sym same) (c.in_ok-give_run.ensures.given found has))))
    c.give_singly.ensures.given
