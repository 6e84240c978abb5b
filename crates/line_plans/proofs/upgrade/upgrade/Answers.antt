use Rattle.std.proofs.Common.{◌∙◌, refl, subst}
use Rattle.ew_model.specs.Limits.{most_file_bytes}
use Rattle.command_table.specs.Loads.{File}
use Rattle.command_table.specs.Possible.{KeepsTo}
use Rattle.opened_files.specs.Views.{IsVersioned, reply_view}
use Rattle.opened_files.specs.declared.open.Found.{Found}
use Rattle.opened_files.specs.declared.open.Found.TheVariants as found
use Rattle.opened_files.specs.declared.open.Versioned.{Versioned}
use Rattle.command_texts.specs.Reasons.{refusal_view}
use Rattle.command_table.specs.Table.{refuses}
use Rattle.line_plans.proofs.Upgrades.{answered_so, answered_told}
use Rattle.line_plans.proofs.upgrade.upgrade.Goals as goal

pub returns-in-Refused-clause-told : goal.returns-in-Refused-clause-told
returns-in-Refused-clause-told g c =
    answered_told c.args.name.now c.args.limits.now (g.H.Shelf.seen c.args.shelf.now).files (found.Refused c.in-Refused.why) (refuses (refusal_view c.in-Refused.why)) (rw c.in-Refused.is at c.in_ok-why.ensures.told) refl

pub returns-in-Refused-clause-some : goal.returns-in-Refused-clause-some
returns-in-Refused-clause-some g c =
    let name = c.args.name.now in
    let limits = c.args.limits.now in
    let some = subst (λ (f : Found Versioned). (file : File) × IsVersioned name limits file f × KeepsTo (most_file_bytes limits.events) file) c.in-Refused.is c.in_ok-why.ensures.some in
    (some.0, answered_so name limits some.0 (found.Refused c.in-Refused.why) some.1, some.2)

pub returns-in_ok-plan-in-Open-clause-told : goal.returns-in_ok-plan-in-Open-clause-told
returns-in_ok-plan-in-Open-clause-told g c =
    answered_told c.args.name.now c.args.limits.now (g.H.Shelf.seen c.args.shelf.now).files (found.Open c.in-Open.file) (reply_view c.in_ok-plan-in-Open.plan) (rw c.in-Open.is at c.in_ok-why.ensures.told) c.in_ok-plan-in-Open.ensures.told

pub returns-in_ok-plan-in-Open-clause-some : goal.returns-in_ok-plan-in-Open-clause-some
returns-in_ok-plan-in-Open-clause-some g c =
    let name = c.args.name.now in
    let limits = c.args.limits.now in
    let some = subst (λ (f : Found Versioned). (file : File) × IsVersioned name limits file f × KeepsTo (most_file_bytes limits.events) file) c.in-Open.is c.in_ok-why.ensures.some in
    (some.0, c.in_ok-plan-in-Open.ensures.told ∙ answered_so name limits some.0 (found.Open c.in-Open.file) some.1, some.2)
