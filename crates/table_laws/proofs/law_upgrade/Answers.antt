use Rattle.table_laws.proofs.Upgrades.{upgrades_keep}
use Rattle.table_laws.proofs.law_upgrade.Goals as goal

pub returns : goal.returns
returns c = upgrades_keep
