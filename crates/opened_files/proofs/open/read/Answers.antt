use Rattle.std.proofs.Common.{◌∙◌, ap}
use Rattle.std.specs.Prelude.{unwrap_or}
use Rattle.opened_files.proofs.Opening.{number_or}
use Rattle.opened_files.proofs.open.read.Goals as goal

pub returns-in-Ok : goal.returns-in-Ok
returns-in-Ok c = (
  c.in-Ok.ensures.given,
  c.in-Ok.ensures.limits,
  c.unwrap_or.ensures ∙ ap (λ version. unwrap_or version 0) c.version_of.ensures ∙ number_or c.args.bytes.now 7,
)
