use Rattle.history_laws.proofs.Accounts.{judgements_account_for_all}
use Rattle.history_laws.proofs.law_accounts.Goals as goal

pub returns : goal.returns
returns c = judgements_account_for_all
