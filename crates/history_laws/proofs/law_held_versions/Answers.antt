use Rattle.history_laws.proofs.HeldVersions.{held_versions_keep_text}
use Rattle.history_laws.proofs.law_held_versions.Goals as goal

pub returns : goal.returns
returns c = held_versions_keep_text
