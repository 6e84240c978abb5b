use Rattle.std.proofs.Common.{[], ℕ, List, ◌∙◌, sym, ap, subst}
use Rattle.ew_model.specs.Operations.{changed_by_all}
use Rattle.ew_model.specs.TextLaws.{AllFit}
use Rattle.rope.specs.Lengths.{AllStayShort}
use Rattle.rope.proofs.RunChanges.{fit_front, short_front, change_both}
use Rattle.replica.proofs.lazy_text.made.Goals as goal

pub written-requires-clause-fit : goal.written-requires-clause-fit
written-requires-clause-fit c = (fit_front c.args.ops.now c.args.more.now [] c.requires.fit).0

pub written-requires-clause-short : goal.written-requires-clause-short
written-requires-clause-short c = (short_front c.args.ops.now c.args.more.now [] c.requires.short).0

pub apply-requires-clause-fit : goal.apply-requires-clause-fit
apply-requires-clause-fit c = subst (λ (t : List ℕ). AllFit t c.args.more.now) (sym c.in_ok-text.ensures) (fit_front c.args.ops.now c.args.more.now [] c.requires.fit).1

pub apply-requires-clause-short : goal.apply-requires-clause-short
apply-requires-clause-short c = subst (λ (t : List ℕ). AllStayShort t c.args.more.now) (sym c.in_ok-text.ensures) (short_front c.args.ops.now c.args.more.now [] c.requires.short).1

pub returns : goal.returns
returns c = c.in_ok-apply.ensures.ok ∙ ap (changed_by_all c.args.more.now) c.in_ok-text.ensures ∙ sym (change_both c.args.ops.now c.args.more.now [])
