use Rattle.file_words.proofs.VersionReading.{version_one_stays}
use Rattle.file_words.proofs.law_version_one_stays.Goals as goal

pub returns : goal.returns
returns c = version_one_stays
