use Rattle.history_laws.proofs.VersionTexts.{versions_keep_text}
use Rattle.history_laws.proofs.law_version_texts.Goals as goal

pub returns : goal.returns
returns c = versions_keep_text
