use Rattle.history_laws.proofs.VersionHistories.{versions_are_histories}
use Rattle.history_laws.proofs.law_version_histories.Goals as goal

pub returns : goal.returns
returns c = versions_are_histories
